-- Laws: the clamp of a number is within 0..1, and what is within stays as it is. A NaN and -0.0 stay.
use Rattle.std.specs.Prelude.{◌≡◌, Bool, true, false, cond, not, T, pos, refl, Float}
use Rattle.std.proofs.Common.{sym, ap, ◌∙◌, subst}
use Rattle.std.specs.Float.{nan, inf, fin, binary32}
use Rattle.std.specs.Float.Ieee.{lt, eq, le, is_nan}
use Rattle.std.specs.Float.Ieee.Bits.{is_false}
use Rattle.std.specs.Float.Ieee.Fits.{and_i, and_l, and_r}
use Rattle.laws.specs.Bools.{true_is}
use Rattle.laws.specs.Fit.{no_both}
use Rattle.float.specs.Within.{nought, one, within, number}
use Rattle.float.specs.Clamped.{clamped, Clamp01Says, Narrow01Says}
use Rattle.float.specs.Narrowed.{narrowed}
use Rattle.float.specs.OrderLaws.{le_is, le_numbers, lt_asym, lt_trans}
use Rattle.float.specs.WithinLaws.{within-number, one-is, narrowed-within}

pub Clamp01Says-unique : (x r s : Float) → Clamp01Says x r → Clamp01Says x s → r ≡ s
Clamp01Says-unique x r s p q = p ∙ sym q

pub Narrow01Says-unique : (x r s : Float) → Narrow01Says x r → Narrow01Says x s → r ≡ s
Narrow01Says-unique x r s p q = p ∙ sym q

nought-number : T (number nought)
unfolding is_nan
nought-number = tt

one_number : T (number one)
unfolding is_nan
one_number = tt

nought-one : T (lt nought one)
unfolding lt
nought-one = tt

nought-within : T (within nought)
unfolding within le lt eq
nought-within = tt

one-within : T (within one)
unfolding within le lt eq
one-within = tt

-- not below 0 and not above 1
between : (x : Float) → T (number x) → lt x nought ≡ false → lt one x ≡ false → T (within x)
unfolding within
between x n h k =
    and_i (le nought x) (le x one)
    (subst T (sym (le_is nought x nought-number n)) (subst (λ (b : Bool). T (not b)) (sym h) tt))
    (subst T (sym (le_is x one n one_number)) (subst (λ (b : Bool). T (not b)) (sym k) tt))

pub clamped-within : (x : Float) → T (number x) → T (within (clamped x))
unfolding clamped
clamped-within x n = go (lt x nought) (lt one x) refl refl
  where
    go : (b c : Bool) → lt x nought ≡ b → lt one x ≡ c → T (within (cond b nought (cond c one x)))
    go true c h k = nought-within
    go false true h k = one-within
    go false false h k = between x n h k

pub clamped_same : (x : Float) → T (within x) → clamped x ≡ x
unfolding clamped within
clamped_same x h =
    let n = within-number x h in
    ap (λ (b : Bool). cond b nought (cond (lt one x) one x)) (is_false (lt x nought) (subst T (le_is nought x nought-number n) (and_l (le nought x) (le x one) h)))
    ∙ ap (λ (b : Bool). cond b one x) (is_false (lt one x) (subst T (le_is x one n one_number) (and_r (le nought x) (le x one) h)))

-- at most 1 and not below 0
pub clamped_upto : (x : Float) → le x one ≡ true → lt x nought ≡ false → clamped x ≡ x
unfolding clamped
clamped_upto x h k =
    let t = true_is (le x one) h in
    ap (λ (b : Bool). cond b nought (cond (lt one x) one x)) k
    ∙ ap (λ (b : Bool). cond b one x) (is_false (lt one x) (subst T (le_is x one (le_numbers x one t).0 one_number) t))

pub clamped-above : (x : Float) → lt one x ≡ true → clamped x ≡ one
unfolding clamped
clamped-above x h =
    let t = true_is (lt one x) h in
    ap (λ (b : Bool). cond b nought (cond (lt one x) one x)) (is_false (lt x nought) (lt_asym nought x (lt_trans nought one x nought-one t)))
    ∙ ap (λ (b : Bool). cond b one x) h

-- neither at most 1 nor above it
pub beside-one : (x : Float) → le x one ≡ false → lt one x ≡ false → x ≡ nan
unfolding is_nan
beside-one nan h k = refl
beside-one (inf s) h k = no_both (le_is (inf s) one tt one_number ∙ ap not k) h
beside-one (fin s m e) h k = no_both (le_is (fin s m e) one tt one_number ∙ ap not k) h

pub narrowed-one : narrowed one ≡ one
unfolding narrowed
narrowed-one = one-is binary32

-- a channel of a score's colour
pub clamped-narrowed-within : (x : Float) → T (number x) → T (within (narrowed (clamped x)))
clamped-narrowed-within x n = narrowed-within (clamped x) (clamped-within x n)

pub clamped_nan : clamped nan ≡ nan
unfolding clamped lt
clamped_nan = refl

pub clamped-minus-nought : clamped (fin true 0 (pos 0)) ≡ fin true 0 (pos 0)
unfolding clamped lt
clamped-minus-nought = refl
