-- Laws: numbers copied from one list into another, some of them; and how many a row has.
use Rattle.std.specs.Prelude.{◌≡◌, refl, List, ℕ, suc, ◌+◌, ◌*◌, ◌≤◌, ◌<◌, T, Float, length, get_or, set}
use Rattle.std.proofs.Common.{sym, ap, ◌∙◌, subst, ⊎_elim, suc-mul, arith, length-set, get_or-set_same, get_or-set_other}
use Rattle.std.specs.Float.{nan}
use Rattle.laws.specs.EveryLaws.{every-each, every_of}
use Rattle.laws.specs.StrokeLaws.{le-or-lt}
use Rattle.float.specs.Within.{within, all_within}

-- a row of numbers
pub row_ends : (w y : ℕ) → (y + 1) * w * 3 ≡ y * w * 3 + w * 3
row_ends w y = ap (λ (n : ℕ). n * w * 3) {x = y + 1} {y = suc y} (omega arith) ∙ suc_ends
  where
    suc_ends : suc y * w * 3 ≡ y * w * 3 + w * 3
    suc_ends = omega (arith, suc-mul y w)

-- elements copied from `start` up to i
module _ {A : Type 0} (d : A) (from old : List A) (start : ℕ) where
  pub record Copied (i : ℕ) (new : List A) : Type 0 where
    pub long : length new ≡ length old
    pub done : (k : ℕ) → start ≤ k → k < i → get_or new k d ≡ get_or from k d
    pub before : (k : ℕ) → k < start → get_or new k d ≡ get_or old k d
    pub after : (k : ℕ) → i ≤ k → get_or new k d ≡ get_or old k d

  pub copied_none : Copied start old
  copied_none = record { long = refl; done = λ k a b. absurd (omega arith); before = λ k a. refl; after = λ k a. refl }

  pub copied_more : (i : ℕ) (new : List A) → start ≤ i → i < length old → Copied i new → Copied (i + 1) (set new i (get_or from i d))
  copied_more i new low inside s = record {
    long = length-set new i (get_or from i d) ∙ s.long;
    done = λ k a b.
        ⊎_elim
        (λ (here : i ≤ k).
        let e : k ≡ i = omega arith in
        ap (λ (n : ℕ). get_or (set new i (get_or from i d)) n d) e ∙ get_or-set_same new i (get_or from i d) d (omega (arith, s.long)) ∙ ap (λ (n : ℕ). get_or from n d) (sym e))
        (λ (passed : k < i). get_or-set_other new i k (get_or from i d) d (λ e. omega arith) ∙ s.done k a passed)
        (le-or-lt i k);
    before = λ k a. get_or-set_other new i k (get_or from i d) d (λ e. omega arith) ∙ s.before k a;
    after = λ k a. get_or-set_other new i k (get_or from i d) d (λ e. omega arith) ∙ s.after k (omega arith);
  }

-- numbers of two pictures within 0..1
pub copied_within : (from old new : List Float) (start end : ℕ) → length new ≡ length old → length new ≡ length from → T (all_within from) → T (all_within old)
    → ((i : ℕ) → start ≤ i → i < end → get_or new i nan ≡ get_or from i nan) → ((i : ℕ) → i < start → get_or new i nan ≡ get_or old i nan) → ((i : ℕ) → end ≤ i → get_or new i nan ≡ get_or old i nan) → T (all_within new)
copied_within from old new start end e f p q done before after =
    every_of within new nan
    (λ k l.
    ⊎_elim
    (λ (past : end ≤ k). subst (λ (v : Float). T (within v)) (sym (after k past)) (every-each within old k nan q (omega (arith, e))))
    (λ (short : k < end).
    ⊎_elim
    (λ (here : start ≤ k). subst (λ (v : Float). T (within v)) (sym (done k here short)) (every-each within from k nan p (omega (arith, f))))
    (λ (early : k < start). subst (λ (v : Float). T (within v)) (sym (before k early)) (every-each within old k nan q (omega (arith, e))))
    (le-or-lt start k))
    (le-or-lt end k))
