-- Laws: a total that goes on from a sum: one number more, two parts, pictures that agree where it reads them, and the whole total.
use Rattle.std.specs.Prelude.{◌≡◌, List, length, get_or, Float}
use Rattle.std.proofs.Math.Path.{sym, ap}
use Rattle.std.proofs.Common.{◌∙◌, arith}
use Prim.Native.Nat.{ℕ, zero, suc, ◌+◌, ◌<◌}
use Rattle.std.specs.Float.{nan}
use Rattle.laws.specs.BeforeLaws.{before-none, before_more, before_same}
use Rattle.laws.specs.Before.{before}
use Rattle.laws.specs.F64.{◌⊕◌}
use Rattle.float.specs.Within.{nought}
use Rattle.tally.specs.Tally.{squared_difference, total_of}
use Rattle.tally.specs.Rows.{total_on, TotalOnSays}

pub TotalOnSays-unique : (target canvas : List Float) (from count : ℕ) (sum r s : Float) → TotalOnSays target canvas from count sum r → TotalOnSays target canvas from count sum s → r ≡ s
TotalOnSays-unique target canvas from count sum r s p q = p ∙ sym q

module _ (target canvas : List Float) where
  -- what number i adds
  abbrev term : ℕ → Float
  term i = squared_difference (get_or target i nan) (get_or canvas i nan)

  module _ (sum : Float) (from : ℕ) where
    pub on_none : sum ≡ total_on target canvas sum from 0
    unfolding total_on
    on_none = sym (before-none sum ◌⊕◌ (λ i. term (from + i)))

    pub on_more : (n : ℕ) (s v : Float) → s ≡ total_on target canvas sum from n → v ≡ term (from + n) → s ⊕ v ≡ total_on target canvas sum from (n + 1)
    unfolding total_on
    on_more n s v p q =
        ap (λ (t : Float). t ⊕ v) p
        ∙ ap (λ (t : Float). before sum ◌⊕◌ (λ i. term (from + i)) n ⊕ t) q
        ∙ before_more sum ◌⊕◌ (λ i. term (from + i)) n

    -- two parts
    pub on_both : (m n : ℕ) → total_on target canvas (total_on target canvas sum from m) (from + m) n ≡ total_on target canvas sum from (m + n)
    unfolding total_on before
    on_both m zero = ap (total_on target canvas sum from) {x = m} {y = m + 0} (omega arith)
    on_both m (suc n) =
        ap (λ (t : Float). t ⊕ term (from + m + n)) (on_both m n)
        ∙ ap (λ (k : ℕ). total_on target canvas sum from (m + n) ⊕ term k) {x = from + m + n} {y = from + (m + n)} (omega arith)
        ∙ ap (total_on target canvas sum from) {x = suc (m + n)} {y = m + suc n} (omega arith)

-- from 0 on over all numbers
pub on_all : (target canvas : List Float) (n : ℕ) → n ≡ length target → total_on target canvas nought 0 n ≡ total_of target canvas
unfolding total_on total_of
on_all target canvas n e =
    ap (λ (k : ℕ). before nought ◌⊕◌ (λ i. term target canvas (0 + i)) k) e
    ∙ before_same nought ◌⊕◌ (λ i. term target canvas (0 + i)) (term target canvas) (length target) (λ i l. ap (term target canvas) {x = 0 + i} {y = i} (omega arith))

-- only the numbers that are read count
pub on_same : (target p q : List Float) (sum : Float) (from n : ℕ) → ((i : ℕ) → i < n → get_or p (from + i) nan ≡ get_or q (from + i) nan) → total_on target p sum from n ≡ total_on target q sum from n
unfolding total_on
on_same target p q sum from n e =
    before_same sum ◌⊕◌ (λ i. term target p (from + i)) (λ i. term target q (from + i)) n
    (λ i l. ap (squared_difference (get_or target (from + i) nan)) (e i l))
