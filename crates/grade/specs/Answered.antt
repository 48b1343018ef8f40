-- Rules: the answer of a call that works something out: document 01's number if it is refused, else the value.
use Rattle.std.specs.Prelude.{cond, ℕ, eqb}
use Rattle.refusal.specs.Outcomes.{Outcome, Done, Refused}

abbrev pub answered : {A : Type 0} → ℕ → A → Outcome A
answered number a = cond (eqb number 0) (Done a) (Refused number)
