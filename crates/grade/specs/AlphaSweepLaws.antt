-- Laws: one answer meets each promise of the sweep's call and its tests; its refusals, test by test, and what a sweep that is not refused knows.
use Rattle.std.specs.Prelude.{◌≡◌, Bool, true, false, List, [], ◌∷◌, ℕ, ◌≤◌, eqb, ltb, length, Float}
use Rattle.std.proofs.Math.Path.{sym}
use Rattle.std.proofs.Common.{◌∙◌, ap, arith, eq-eqb, ne_eqb, eqb-true, ltb-false}
use Rattle.std.proofs.Math.Bool.{not}
use Rattle.std.proofs.lemmas.Bool.{not-false}
use Rattle.laws.specs.Bools.{or_left, or_right}
use Rattle.refusal.specs.Refusals.{lowest, length_if, count_if, opacity_if}
use Rattle.refusal.specs.RefusalLaws.{lowest_skip, lowest-take, lowest-none, lowest-empty}
use Rattle.sums.specs.declared.ShapeSums.{ShapeSums}
use Rattle.refusal.specs.Outcomes.{Outcome}
use Rattle.grade.specs.declared.Score.{Score}
use Rattle.grade.specs.AlphaSweep.{bad_levels, bad_level_count, bad_first_levels, sweep_refusal, BadLevelCountSays, BadFirstLevelsSays, AlphaSweepSays}

pub AlphaSweepSays-unique : (s : ShapeSums) (levels : List Float) (n : ℕ) (r q : Outcome Score) → AlphaSweepSays s levels n r → AlphaSweepSays s levels n q → r ≡ q
AlphaSweepSays-unique s levels n r q f g = f ∙ sym g

pub BadLevelCountSays-unique : (n : ℕ) (r q : Bool) → BadLevelCountSays n r → BadLevelCountSays n q → r ≡ q
BadLevelCountSays-unique n r q f g = f ∙ sym g

pub BadFirstLevelsSays-unique : (levels : List Float) (n : ℕ) (r q : Bool) → BadFirstLevelsSays levels n r → BadFirstLevelsSays levels n q → r ≡ q
BadFirstLevelsSays-unique levels n r q f g = f ∙ sym g

pub levels-length : (levels : List Float) → bad_levels levels ≡ false → length levels ≡ 64
levels-length levels h = eqb-true (length levels) 64 (not-false (eqb (length levels) 64) h)

-- a level count that is not refused
pub count_range : (n : ℕ) → bad_level_count n ≡ false → (1 ≤ n) × (n ≤ 64)
count_range n h = (ltb-false n 1 (or_left (ltb n 1) (ltb 64 n) h), ltb-false 64 n (or_right (ltb n 1) (ltb 64 n) h))

-- ---- a sweep's tests: the length, the count, the levels
module _ (levels : List Float) (n : ℕ) where
  pub sweep_length : (length levels ≡ 64 → ⊥) → 2 ≡ sweep_refusal levels n
  unfolding sweep_refusal
  sweep_length h =
      sym (lowest-take (length_if (bad_levels levels)) (count_if (bad_level_count n) ∷ opacity_if (bad_first_levels levels n) ∷ []) (ap not (ne_eqb (length levels) 64 h)) tt)

  module _ (h : length levels ≡ 64) where
    long : sweep_refusal levels n ≡ lowest (count_if (bad_level_count n) ∷ opacity_if (bad_first_levels levels n) ∷ [])
    unfolding sweep_refusal
    long = lowest_skip (length_if (bad_levels levels)) (count_if (bad_level_count n) ∷ opacity_if (bad_first_levels levels n) ∷ []) (ap not (eq-eqb (length levels) 64 h))

    pub sweep_count : bad_level_count n ≡ true → 3 ≡ sweep_refusal levels n
    sweep_count g = sym (long ∙ lowest-take (count_if (bad_level_count n)) (opacity_if (bad_first_levels levels n) ∷ []) g tt)

    pub sweep_opacity : bad_level_count n ≡ false → bad_first_levels levels n ≡ true → 5 ≡ sweep_refusal levels n
    sweep_opacity g k =
        sym (long ∙ lowest_skip (count_if (bad_level_count n)) (opacity_if (bad_first_levels levels n) ∷ []) g ∙ lowest-take (opacity_if (bad_first_levels levels n)) [] k tt)

    pub sweep_none : bad_level_count n ≡ false → bad_first_levels levels n ≡ false → 0 ≡ sweep_refusal levels n
    sweep_none g k =
        sym (long ∙ lowest_skip (count_if (bad_level_count n)) (opacity_if (bad_first_levels levels n) ∷ []) g ∙ lowest_skip (opacity_if (bad_first_levels levels n)) [] k ∙ lowest-empty)

  pub sweep_passed : sweep_refusal levels n ≡ 0 → (1 ≤ n) × (n ≤ length levels)
  unfolding sweep_refusal
  sweep_passed e =
      let p = lowest-none (length_if (bad_levels levels)) (count_if (bad_level_count n) ∷ opacity_if (bad_first_levels levels n) ∷ []) tt e in
      let q = lowest-none (count_if (bad_level_count n)) (opacity_if (bad_first_levels levels n) ∷ []) tt p.1 in
      let r = count_range n q.0 in
      (r.0, omega (arith, r.1, levels-length levels p.0))
