-- Laws: what passed tests give, and the refusal's number from the two parts of the table.
use Rattle.std.specs.Prelude.{◌≡◌, refl, Bool, true, false, cond, eqb, not, ◌||◌, List, [], ◌++◌, ℕ, ◌*◌, ◌≤◌, T, ltb, Float, length}
use Rattle.std.proofs.Math.Path.{sym, ap}
use Rattle.std.proofs.Common.{subst, ◌∙◌, ltb-false, eqb-true}
use Rattle.std.proofs.lemmas.Bool.{eqb-false}
use Rattle.laws.specs.Bools.{true_is, or_left, or_right}
use Rattle.laws.specs.Fit.{no_both}
use Rattle.laws.specs.Every.{every}
use Rattle.float.specs.Within.{all_within}
use Rattle.refusal.specs.Refusals.{Test, Sized, lowest, size_if, length_if, count_if, place_if, opacity_if, colour_if, pixel_if}
use Rattle.refusal.specs.RefusalLaws.{lowest-none, sized}
use Rattle.refusal.specs.ChainLaws.{chain, chain-append, lowest-chain, chain_stop, chain_on}
use Rattle.refusal.specs.Lengths.{bad_picture}
use Rattle.refusal.specs.LengthLaws.{picture_length}
use Rattle.picture.specs.Pixels.{bad_colour}
use Rattle.shapes.specs.declared.Shape.{Shape}
use Rattle.shapes.specs.declared.Shapes.{Shapes}
use Rattle.shapes.specs.declared.Ranges.{Ranges}
use Rattle.shapes.specs.declared.Candidates.{Candidates}
use Rattle.shapes.specs.Ranges.{ranges_of, fits}
use Rattle.shapes.specs.RangeLaws.{every-fits}
use Rattle.refine.specs.Tests.{looked_at, size_tests, range_tests, refusal_of}

not-false : (b : Bool) → not b ≡ false → b ≡ true
not-false true e = refl
not-false false e = no_both refl e

-- sizes, lengths and counts
pub record SizesPassed (w h target first second shapes candidates passes : ℕ) : Type 0 where
  pub sized : Sized w h
  pub target_long : target ≡ h * w * 3
  pub first_long : first ≡ h * w * 3
  pub second_long : second ≡ h * w * 3
  pub few_shapes : shapes ≤ 64
  pub few_candidates : candidates ≤ 1024
  pub few_passes : passes ≤ 16

module _ (w h target first second shapes candidates passes : ℕ) where
  pub sizes_passed : 0 ≡ lowest (size_tests w h target first second shapes candidates passes) → SizesPassed w h target first second shapes candidates passes
  sizes_passed e =
      let a = lowest-none (size_if _) _ tt (sym e) in
      let b = lowest-none (length_if _) _ tt a.1 in
      let c = lowest-none (count_if _) [] tt b.1 in
      let l = or_left (bad_picture w h target || bad_picture w h first) (bad_picture w h second) b.0 in
      let n = or_left (ltb 64 shapes || ltb 1024 candidates) (ltb 16 passes) c.0 in
      record {
        sized = sized w h a.0;
        target_long = picture_length w h target (or_left (bad_picture w h target) (bad_picture w h first) l);
        first_long = picture_length w h first (or_right (bad_picture w h target) (bad_picture w h first) l);
        second_long = picture_length w h second (or_right (bad_picture w h target || bad_picture w h first) (bad_picture w h second) b.0);
        few_shapes = ltb-false 64 shapes (or_left (ltb 64 shapes) (ltb 1024 candidates) n);
        few_candidates = ltb-false 1024 candidates (or_right (ltb 64 shapes) (ltb 1024 candidates) n);
        few_passes = ltb-false 16 passes (or_right (ltb 64 shapes || ltb 1024 candidates) (ltb 16 passes) c.0);
      }

-- ranges
pub record RangesPassed (looked : List Shape) (red green blue : Float) (target : List Float) : Type 0 where
  pub fitting : T (every fits looked)
  pub background : bad_colour red green blue ≡ false
  pub target_within : T (all_within target)

pub ranges_passed : (looked : List Shape) (r : Ranges) (red green blue : Float) (target : List Float) → r ≡ ranges_of looked → 0 ≡ lowest (range_tests r red green blue target)
    → RangesPassed looked red green blue target
ranges_passed looked r red green blue target q e =
    let a = lowest-none (place_if _) _ tt (sym e) in
    let b = lowest-none (opacity_if _) _ tt a.1 in
    let c = lowest-none (colour_if _) _ tt b.1 in
    let d = lowest-none (pixel_if _) [] tt c.1 in
    record {
      fitting =
          every-fits looked
          (subst (λ (x : Ranges). T x.places) q (true_is r.places (not-false r.places a.0)))
          (subst (λ (x : Ranges). T x.opacities) q (true_is r.opacities (not-false r.opacities b.0)))
          (subst (λ (x : Ranges). T x.colours) q (true_is r.colours (not-false r.colours (or_left (not r.colours) (bad_colour red green blue) c.0))));
      background = or_right (not r.colours) (bad_colour red green blue) c.0;
      target_within = true_is (all_within target) (not-false (all_within target) d.0);
    }

-- ---- the number, from the two parts of the table
module _ (w h : ℕ) (red green blue : Float) (target : List Float) (list : Shapes) (candidates : Candidates) (passes first second : ℕ) where
  sizes : List Test
  sizes = size_tests w h (length target) first second list.count candidates.count passes

  pub refusal-sizes : (n : ℕ) → n ≡ lowest (size_tests w h (length target) first second list.count candidates.count passes) → (n ≡ 0 → ⊥)
      → refusal_of w h red green blue target list candidates passes first second ≡ n
  unfolding refusal_of sizes
  refusal-sizes n e k =
      let r = range_tests (ranges_of (looked_at list candidates)) red green blue target in
      lowest-chain (sizes ++ r) tt ∙ chain_stop sizes r tt (λ z. k (e ∙ lowest-chain sizes tt ∙ z)) ∙ sym (lowest-chain sizes tt) ∙ sym e

  pub refusal_ranges : (r : Ranges) → 0 ≡ lowest (size_tests w h (length target) first second list.count candidates.count passes) → r ≡ ranges_of (looked_at list candidates)
      → refusal_of w h red green blue target list candidates passes first second ≡ lowest (range_tests r red green blue target)
  unfolding refusal_of sizes
  refusal_ranges r e q =
      let t = range_tests (ranges_of (looked_at list candidates)) red green blue target in
      lowest-chain (sizes ++ t) tt
      ∙ chain_on sizes t tt (sym (lowest-chain sizes tt) ∙ sym e)
      ∙ sym (lowest-chain t tt)
      ∙ ap (λ (x : Ranges). lowest (range_tests x red green blue target)) (sym q)

  -- no refusal: neither part has one
  pub none_refused : refusal_of w h red green blue target list candidates passes first second ≡ 0
      → (0 ≡ lowest (size_tests w h (length target) first second list.count candidates.count passes)) × (0 ≡ lowest (range_tests (ranges_of (looked_at list candidates)) red green blue target))
  unfolding refusal_of sizes
  none_refused e =
      let t = range_tests (ranges_of (looked_at list candidates)) red green blue target in
      by (eqb (chain sizes) 0) refl (sym (chain-append sizes t tt) ∙ sym (lowest-chain (sizes ++ t) tt) ∙ e)
    where
      by : (b : Bool) → eqb (chain sizes) 0 ≡ b → cond b (chain (range_tests (ranges_of (looked_at list candidates)) red green blue target)) (chain sizes) ≡ 0
          → (0 ≡ lowest (size_tests w h (length target) first second list.count candidates.count passes)) × (0 ≡ lowest (range_tests (ranges_of (looked_at list candidates)) red green blue target))
      by true p z = (sym (lowest-chain sizes tt ∙ eqb-true (chain sizes) 0 p), sym (lowest-chain (range_tests (ranges_of (looked_at list candidates)) red green blue target) tt ∙ z))
      by false p z = absurd (eqb-false (chain sizes) 0 p z)
