-- Laws: no refusal has the number 0, no two have the same, and so an answer is known from its number and value.
use Rattle.std.specs.Prelude.{◌≡◌, true, false, ℕ, cond, eqb, Result, Ok, Err, ⊤}
use Rattle.std.proofs.Common.{refl, sym, ap, ◌∙◌, arith}
use Rattle.std.specs.Result.{is_ok, is_err}
use Rattle.laws.specs.Fit.{no_both}
use Rattle.refusal.specs.declared.Refusal.{Refusal}
use Rattle.refusal.specs.declared.Refusal.TheVariants.{Size, Length, Count, Place, Opacity, Colour, Pixel, Malformed}
use Rattle.refusal.specs.Outcomes.{number, NumberSays, Outcome, Done, Refused, outcome, number_of, NumberOfSays}

pub NumberSays-unique : (e : Refusal) (r s : ℕ) → NumberSays e r → NumberSays e s → r ≡ s
NumberSays-unique e r s p q = p ∙ sym q

pub NumberOfSays-unique : (d : Result ⊤ Refusal) (r s : ℕ) → NumberOfSays d r → NumberOfSays d s → r ≡ s
NumberOfSays-unique d r s p q = p ∙ sym q

pub number-positive : (e : Refusal) → number e ≡ 0 → ⊥
number-positive Size h = omega (arith, h)
number-positive Length h = omega (arith, h)
number-positive Count h = omega (arith, h)
number-positive Place h = omega (arith, h)
number-positive Opacity h = omega (arith, h)
number-positive Colour h = omega (arith, h)
number-positive Pixel h = omega (arith, h)
number-positive Malformed h = omega (arith, h)

-- the refusal of a number
abbrev of_number : ℕ → Refusal
of_number n = cond (eqb n 1) Size (cond (eqb n 2) Length (cond (eqb n 3) Count (cond (eqb n 4) Place (cond (eqb n 5) Opacity (cond (eqb n 6) Colour (cond (eqb n 7) Pixel Malformed))))))

back : (e : Refusal) → of_number (number e) ≡ e
back Size = refl
back Length = refl
back Count = refl
back Place = refl
back Opacity = refl
back Colour = refl
back Pixel = refl
back Malformed = refl

pub number_injective : (e f : Refusal) → number e ≡ number f → e ≡ f
number_injective e f h = sym (back e) ∙ ap of_number h ∙ back f

-- the number of an answer that was looked at
pub number-of-ok : (r : Result ⊤ Refusal) → is_ok r ≡ true → number_of r ≡ 0
number-of-ok (Ok u) e = refl
number-of-ok (Err f) e = no_both e refl

pub number-of-no-err : (r : Result ⊤ Refusal) → is_err r ≡ false → number_of r ≡ 0
number-of-no-err (Ok u) e = refl
number-of-no-err (Err f) e = no_both refl e

-- two answers of the same number are equal
pub number_of-injective : (r s : Result ⊤ Refusal) → number_of r ≡ number_of s → r ≡ s
number_of-injective (Ok u) (Ok v) h = refl
number_of-injective (Ok u) (Err f) h = absurd (number-positive f (sym h))
number_of-injective (Err e) (Ok v) h = absurd (number-positive e h)
number_of-injective (Err e) (Err f) h = ap Err (number_injective e f h)

-- and so are two with the same outcome
taken : {A : Type 0} → A → Outcome A → A
taken a (Done b) = b
taken a (Refused n) = a

told : {A : Type 0} → Outcome A → ℕ
told (Done b) = 0
told (Refused n) = n

pub outcome-injective : {A : Type 0} (r s : Result A Refusal) → outcome r ≡ outcome s → r ≡ s
unfolding taken told
outcome-injective {A = A} (Ok a) (Ok b) h = ap (λ (o : Outcome A). Ok (taken a o)) h
outcome-injective (Ok a) (Err f) h = absurd (number-positive f (sym (ap told h)))
outcome-injective (Err e) (Ok b) h = absurd (number-positive e (ap told h))
outcome-injective (Err e) (Err f) h = ap Err (number_injective e f (ap told h))
