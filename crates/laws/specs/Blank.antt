-- Rules: room for the runs of 256 rows, in which nothing is written yet.
use Rattle.std.specs.Prelude.{◌≡◌, List, ℕ, replicate}

unfoldable pub blank : List ℕ
blank = replicate 512 0

abbrev pub Blank : List ℕ → Type 0
Blank out = out ≡ blank
