-- Rules: document 01's number of each refusal, and a call's answer in these terms: its value, or the number.
use Rattle.std.specs.Prelude.{◌≡◌, ℕ, Result, Ok, Err, ⊤}
use Rattle.refusal.specs.declared.Refusal.{Refusal}
use Rattle.refusal.specs.declared.Refusal.TheVariants.{Size, Length, Count, Place, Opacity, Colour, Pixel, Malformed}

abbrev pub number : Refusal → ℕ
number Size = 1
number Length = 2
number Count = 3
number Place = 4
number Opacity = 5
number Colour = 6
number Pixel = 7
number Malformed = 8

abbrev pub NumberSays : Refusal → ℕ → Type 0
NumberSays e r = r ≡ number e

-- a call's value, or the number of its refusal
pub data Outcome (A : Type 0) : Type 0 where
  Done : A → Outcome A
  Refused : ℕ → Outcome A

abbrev pub outcome : {A : Type 0} → Result A Refusal → Outcome A
outcome (Ok a) = Done a
outcome (Err e) = Refused (number e)

-- of a call that has no value: 0 where it is done
abbrev pub number_of : Result ⊤ Refusal → ℕ
number_of (Ok u) = 0
number_of (Err e) = number e

abbrev pub NumberOfSays : Result ⊤ Refusal → ℕ → Type 0
NumberOfSays r n = n ≡ number_of r
