-- Rules: what the prover takes for an element past the end of an array: the first variant at 0, and a NaN for each float.
use Rattle.std.specs.Prelude.{pos}
use Rattle.std.specs.Float.{nan}
use Rattle.cover.specs.declared.Kind.TheVariants.{Circle}
use Rattle.shapes.specs.declared.Shape.{Shape}

abbrev pub blank : Shape
blank = record { kind = Circle (pos 0) (pos 0) (pos 0); opacity = nan; red = nan; green = nan; blue = nan }
