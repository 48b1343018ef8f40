-- Rules: the export of refinement. Lists cross as three slices each; slices that are no list, and a number of coordinates that no kind has, are refusal 2.
use Rattle.std.specs.Prelude.{◌≡◌, true, false, cond, ◌||◌, List, [], ◌∷◌, ◌++◌, ℕ, eqb, ℤ, Float, length, get_or, Option, None}
use Rattle.refusal.specs.Refusals.{lowest, size_if, length_if, count_if, bad_size}
use Rattle.refusal.specs.Lengths.{bad_picture}
use Rattle.picture.specs.Pixels.{filled}
use Rattle.shapes.specs.declared.Shape.{Shape}
use Rattle.shapes.specs.Ranges.{ranges_of, shapes_in}
use Rattle.traces.specs.Refinement.{Scene, Progress, drawn, refined}
use Rattle.traces.specs.Scenes.{scene_with}
use Rattle.refine.specs.Tests.{size_tests, range_tests}
use Rattle.crossing.specs.Crossed.{bad_list, shapes_of, offers_of, sizes_of, places_of, paints_of}
use Rattle.capi.specs.declared.SillbadgerAnswer.{SillbadgerAnswer}
use Rattle.capi.specs.Answers.{refused_by, shapeless, with_counts, answered}

-- refinement's refusals, of a list and candidates of any length
unfoldable pub refine_refusal : ℕ → ℕ → Float → Float → Float → List Shape → List (Option Shape) → ℕ → List Float → ℕ → ℕ → ℕ
refine_refusal w h red green blue shapes offers passes target first second =
    lowest
    (size_tests w h (length target) first second (length shapes) (length offers) passes
    ++ range_tests (ranges_of (shapes ++ shapes_in offers)) red green blue target)

-- what is refined: trial k takes candidate k; past the end, nothing
abbrev pub scene_of : ℕ → ℕ → Float → Float → Float → List (Option Shape) → List Float → Scene Shape (List Float)
scene_of w h red green blue offers target = scene_with w h target (filled w h red green blue) (λ k. get_or offers k None)

abbrev pub outcome : ℕ → ℕ → Float → Float → Float → List Shape → List (Option Shape) → ℕ → List Float → Progress Shape
outcome w h red green blue shapes offers passes target = refined (scene_of w h red green blue offers target) passes shapes

abbrev pub refined_told : Progress Shape → SillbadgerAnswer
refined_told a = with_counts (refused_by 0) a.passes a.trials a.acceptances

-- too many shapes or candidates: 3 holds, so only 1 and 2 can be lower
unfoldable pub too_many : ℕ → ℕ → ℕ → ℕ → ℕ → ℕ
too_many w h target first second =
    lowest (size_if (bad_size w h) ∷ length_if (bad_picture w h target || bad_picture w h first || bad_picture w h second) ∷ count_if true ∷ [])

-- with that number: the answer r, the list's slices and the two work pictures, as they were and as they are left
pub record Refines (w h : ℕ) (red green blue : Float) (shapes : List Shape) (offers : List (Option Shape)) (passes : ℕ) (target : List Float) (number : ℕ) (sizes : List ℕ) (zs : List ℤ) (paints first second : List Float)
    (r : SillbadgerAnswer) (sizes' : List ℕ) (zs' : List ℤ) (paints' first' second' : List Float) : Type 0 where
  pub answer : r ≡ answered number (refined_told (outcome w h red green blue shapes offers passes target))
  pub list-sizes : sizes' ≡ cond (eqb number 0) (sizes_of (outcome w h red green blue shapes offers passes target).list) sizes
  pub list-places : zs' ≡ cond (eqb number 0) (places_of (outcome w h red green blue shapes offers passes target).list) zs
  pub list-paints : paints' ≡ cond (eqb number 0) (paints_of (outcome w h red green blue shapes offers passes target).list) paints
  pub left-first : first' ≡ cond (eqb number 0) (drawn (scene_of w h red green blue offers target) (outcome w h red green blue shapes offers passes target).list) first
  pub left-second : second' ≡ cond (eqb number 0) (drawn (scene_of w h red green blue offers target) (outcome w h red green blue shapes offers passes target).list) second

-- slices that are no list: 2 holds, so only 1 can be lower
unfoldable pub number_of : ℕ → ℕ → Float → Float → Float → List ℕ → List ℤ → List Float → List ℕ → List ℤ → List Float → ℕ → List Float → ℕ → ℕ → ℕ
number_of w h red green blue sizes zs paints offeredSizes offeredZs offeredPaints passes target first second =
    cond (bad_list sizes zs paints false || bad_list offeredSizes offeredZs offeredPaints true) (shapeless w h)
    (refine_refusal w h red green blue (shapes_of sizes zs paints) (offers_of offeredSizes offeredZs offeredPaints) passes target first second)

abbrev pub SillbadgerRefineSays : ℕ → ℕ → Float → Float → Float → List ℕ → List ℤ → List Float → List ℕ → List ℤ → List Float → ℕ → List Float → List Float → List Float → SillbadgerAnswer → List ℕ → List ℤ → List Float → List Float → List Float → Type 0
SillbadgerRefineSays w h red green blue sizes zs paints offeredSizes offeredZs offeredPaints passes target first second r sizes' zs' paints' first' second' =
    Refines w h red green blue (shapes_of sizes zs paints) (offers_of offeredSizes offeredZs offeredPaints) passes target
    (number_of w h red green blue sizes zs paints offeredSizes offeredZs offeredPaints passes target (length first) (length second))
    sizes zs paints first second r sizes' zs' paints' first' second'
