-- Rules: a query's answer in document 01's terms: its number, 0 where it is done, and its value, which is zero where it is refused.
use Rattle.std.specs.Prelude.{Bool, cond, ℕ, eqb}

pub record Answer (A : Type 0) : Type 0 where
  pub number : ℕ
  pub value : A
  pub done : Bool

-- the right answer, from the refusal's number, the value of a call that is done, and zero
abbrev pub answer : {A : Type 0} → ℕ → A → A → Answer A
answer refusal right nought =
    record { number = refusal; value = cond (eqb refusal 0) right nought; done = eqb refusal 0 }
