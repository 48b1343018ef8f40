-- Laws: two answers of a score's export are equal; an answer that is an enum is told; at one opacity levels do not matter.
use Rattle.std.specs.Prelude.{◌≡◌, refl, Bool, true, not, cond, ◌||◌, List, [], ◌∷◌, ℕ, eqb, ℤ, length, Float, Option, None, Some}
use Rattle.std.proofs.Common.{sym, ◌∙◌, eq-eqb}
use Rattle.std.proofs.Math.Path.{ap}
use Rattle.std.proofs.Math.Bool.{false}
use Rattle.refusal.specs.Refusals.{lowest, size_if, length_if, count_if, place_if, opacity_if, bad_size}
use Rattle.refusal.specs.RefusalLaws.{lowest_skip, lowest-take}
use Rattle.refusal.specs.Lengths.{bad_picture, bad_table}
use Rattle.float.specs.Within.{within}
use Rattle.cover.specs.declared.Kind.{Kind}
use Rattle.cover.specs.Cover.{bad_places}
use Rattle.grade.specs.declared.Score.{Score}
use Rattle.refusal.specs.Outcomes.{Outcome, Done, Refused}
use Rattle.score.specs.declared.Request.TheVariants.{Opacity}
use Rattle.grade.specs.AlphaSweep.{bad_levels}
use Rattle.gather.specs.Gathered.{span_sums, point_sums}
use Rattle.score.specs.Scoring.{span_refusal, point_refusal, score_at}
use Rattle.grade.specs.Finalize.{finalized}
use Rattle.grade.specs.Answered as scoring
use Rattle.capi.specs.declared.SillbadgerAnswer.{SillbadgerAnswer}
use Rattle.capi.specs.Answers.{refused_by, shapeless, answered}
use Rattle.capi.specs.Scores.{
  score_told,
  scored_told,
  score_answer,
  span_answer,
  point_answer,
  opacity_refusal,
  SillbadgerSpanScoreSays,
  SillbadgerSpanSweepSays,
  SillbadgerPointScoreSays,
  SillbadgerPointSweepSays,
}

module _ (w h : ℕ) (shape : List ℤ) (table : List Float) (r s : SillbadgerAnswer) where
  pub SillbadgerSpanScoreSays-unique : (opacity : Float) → SillbadgerSpanScoreSays w h shape opacity table r → SillbadgerSpanScoreSays w h shape opacity table s → r ≡ s
  SillbadgerSpanScoreSays-unique opacity p q = p ∙ sym q

  pub SillbadgerSpanSweepSays-unique : (levels : List Float) (count : ℕ) → SillbadgerSpanSweepSays w h shape levels count table r → SillbadgerSpanSweepSays w h shape levels count table s → r ≡ s
  SillbadgerSpanSweepSays-unique levels count p q = p ∙ sym q

module _ (w h : ℕ) (shape : List ℤ) (target canvas : List Float) (r s : SillbadgerAnswer) where
  pub SillbadgerPointScoreSays-unique : (opacity : Float) → SillbadgerPointScoreSays w h shape opacity target canvas r → SillbadgerPointScoreSays w h shape opacity target canvas s → r ≡ s
  SillbadgerPointScoreSays-unique opacity p q = p ∙ sym q

  pub SillbadgerPointSweepSays-unique : (levels : List Float) (count : ℕ) → SillbadgerPointSweepSays w h shape levels count target canvas r
      → SillbadgerPointSweepSays w h shape levels count target canvas s → r ≡ s
  SillbadgerPointSweepSays-unique levels count p q = p ∙ sym q

-- ---- a score or a number
told-by : (b : Bool) (number : ℕ) (s : Score) → scored_told (cond b (Done s) (Refused number)) ≡ cond b (score_told s) (refused_by number)
told-by true number s = refl
told-by false number s = refl

pub tells_score : (number : ℕ) (s : Score) (r : Outcome Score) (a : SillbadgerAnswer) → a ≡ scored_told r → r ≡ scoring.answered number s → a ≡ answered number (score_told s)
tells_score number s r a e f = e ∙ ap scored_told f ∙ told-by (eqb number 0) number s

-- ---- no shape
pub no_size : (w h : ℕ) → bad_size w h ≡ true → 1 ≡ shapeless w h
no_size w h e = sym (lowest-take (size_if (bad_size w h)) (length_if true ∷ []) e tt)

pub no_length : (w h : ℕ) → bad_size w h ≡ false → 2 ≡ shapeless w h
no_length w h e = sym (lowest_skip (size_if (bad_size w h)) (length_if true ∷ []) e ∙ lowest-take (length_if true) [] refl tt)

-- ---- one opacity: 64 levels, which are not looked at
module _ (kind : Kind) (opacity : Float) (levels : List Float) (w h : ℕ) (e : length levels ≡ 64) where
  alone : (bad : Bool)
      → lowest (size_if (bad_size w h) ∷ length_if (bad_levels levels || bad) ∷ count_if false ∷ place_if (bad_places kind) ∷ opacity_if (not (within opacity)) ∷ [])
      ≡ opacity_refusal kind opacity w h bad
  unfolding opacity_refusal lowest
  alone bad =
      ap (λ (b : Bool). lowest (size_if (bad_size w h) ∷ length_if (not b || bad) ∷ count_if false ∷ place_if (bad_places kind) ∷ opacity_if (not (within opacity)) ∷ []))
      (eq-eqb (length levels) 64 e)

  pub span_alone : (table : List Float) → span_refusal kind (Opacity opacity) levels w h table ≡ opacity_refusal kind opacity w h (bad_table w h (length table))
  unfolding span_refusal
  span_alone table = alone (bad_table w h (length table))

  pub point_alone : (target canvas : List Float)
      → point_refusal kind (Opacity opacity) levels w h target canvas ≡ opacity_refusal kind opacity w h (bad_picture w h (length target) || bad_picture w h (length canvas))
  unfolding point_refusal
  point_alone target canvas = alone (bad_picture w h (length target) || bad_picture w h (length canvas))

same_answer : (w h : ℕ) (kind : Option Kind) (m n : Kind → ℕ) (s : Kind → Score) → ((k : Kind) → m k ≡ n k) → score_answer w h kind m s ≡ score_answer w h kind n s
same_answer w h None m n s e = refl
same_answer w h (Some kind) m n s e = ap (λ (k : ℕ). answered k (score_told (s kind))) (e kind)

module _ (w h : ℕ) (kind : Option Kind) (opacity : Float) (levels : List Float) (e : length levels ≡ 64) where
  pub span_told : (table : List Float) → span_answer w h kind (Opacity opacity) levels table
      ≡ score_answer w h kind (λ k. opacity_refusal k opacity w h (bad_table w h (length table))) (λ k. finalized (span_sums k w h table) opacity)
  unfolding score_at
  span_told table =
      same_answer w h kind (λ k. span_refusal k (Opacity opacity) levels w h table) (λ k. opacity_refusal k opacity w h (bad_table w h (length table)))
      (λ k. finalized (span_sums k w h table) opacity)
      (λ k. span_alone k opacity levels w h e table)

  pub point_told : (target canvas : List Float) → point_answer w h kind (Opacity opacity) levels target canvas
      ≡ score_answer w h kind (λ k. opacity_refusal k opacity w h (bad_picture w h (length target) || bad_picture w h (length canvas)))
      (λ k. finalized (point_sums k w h target canvas) opacity)
  unfolding score_at
  point_told target canvas =
      same_answer w h kind (λ k. point_refusal k (Opacity opacity) levels w h target canvas)
      (λ k. opacity_refusal k opacity w h (bad_picture w h (length target) || bad_picture w h (length canvas)))
      (λ k. finalized (point_sums k w h target canvas) opacity)
      (λ k. point_alone k opacity levels w h e target canvas)
