-- Laws: two answers of the refinement export are equal, and so is what they leave; the list keeps its length; what the call behind it promises is what the export promises.
use Rattle.std.specs.Prelude.{◌≡◌, Bool, not, ◌||◌, List, ◌∷◌, ◌++◌, eqb, ℤ, Float, length, Option}
use Rattle.std.proofs.Math.Path.{refl, sym, ap}
use Rattle.std.proofs.Common.{subst, ◌∙◌, arith, eq-eqb, ne_eqb, eqb-true, lt-ltb}
use Rattle.std.proofs.Math.Logic.{⊎_elim}
use Rattle.std.proofs.Math.Bool.{true, false, cond}
use Prim.Native.Nat.{ℕ, zero, suc, ◌*◌, ◌<◌}
use Rattle.std.proofs.lemmas.Bool.{not-false}
use Rattle.std.proofs.Math.Dec.{ltb}
use Rattle.refusal.specs.Refusals.{lowest, size_if, length_if, count_if, bad_size}
use Rattle.refusal.specs.RefusalLaws.{lowest_skip, lowest-take}
use Rattle.refusal.specs.ThreeTests.{at_size, at_length, at-third}
use Rattle.refusal.specs.Lengths.{bad_picture}
use Rattle.laws.specs.Bools.{true_or_false}
use Rattle.laws.specs.Fit.{no_both}
use Rattle.laws.specs.Every.{every}
use Rattle.score.specs.CallLaws.{or-first, or-second, or_neither}
use Rattle.laws.specs.Tab.{tab}
use Rattle.laws.specs.TabLaws.{length-tab}
use Rattle.shapes.specs.declared.Shape.{Shape}
use Rattle.shapes.specs.declared.Shapes.{Shapes}
use Rattle.shapes.specs.declared.Candidates.{Candidates}
use Rattle.shapes.specs.declared.Ranges.{Ranges}
use Rattle.shapes.specs.Lists.{listed, offered}
use Rattle.shapes.specs.Ranges.{ranges_of, shapes_in}
use Rattle.refine.specs.declared.Refined.{Refined}
use Rattle.traces.specs.Refinement.{Scene, Progress, nothing_yet, pass, passes, refined, drawn}
use Rattle.traces.specs.RefinementLaws.{pass-length}
use Rattle.refine.specs.Tests.{refusal_of, size_tests, range_tests}
use Rattle.refine.specs.Answers.{number_in, Told, told, done_with, refused_with, RefineShapesSays}
use Rattle.capi.specs.declared.SillbadgerAnswer.{SillbadgerAnswer}
use Rattle.crossing.specs.Crossed.{sized_or, bad_list, Fits, shapes_of, offers_of, sizes_of, places_of, paints_of, WriteListSays}
use Rattle.capi.specs.Answers.{refused_by, shapeless, with_counts}
use Rattle.capi.specs.ScoreLaws.{no_size, no_length}
use Rattle.capi.specs.Refining.{refine_refusal, scene_of, outcome, refined_told, too_many, Refines, number_of, SillbadgerRefineSays}

module _ (w h : ℕ) (red green blue : Float) (sizes : List ℕ) (zs : List ℤ) (paints : List Float) (offeredSizes : List ℕ) (offeredZs : List ℤ) (offeredPaints : List Float) (count : ℕ) (target first second : List Float) where
  pub SillbadgerRefineSays-unique : (r s : SillbadgerAnswer) (a b : List ℕ) (c d : List ℤ) (e f i j k l : List Float)
      → SillbadgerRefineSays w h red green blue sizes zs paints offeredSizes offeredZs offeredPaints count target first second r a c e i k
      → SillbadgerRefineSays w h red green blue sizes zs paints offeredSizes offeredZs offeredPaints count target first second s b d f j l
      → (r ≡ s) × (a ≡ b) × (c ≡ d) × (e ≡ f) × (i ≡ j) × (k ≡ l)
  SillbadgerRefineSays-unique r s a b c d e f i j k l p q = (
    p.answer ∙ sym q.answer,
    p.list-sizes ∙ sym q.list-sizes,
    p.list-places ∙ sym q.list-places,
    p.list-paints ∙ sym q.list-paints,
    p.left-first ∙ sym q.left-first,
    p.left-second ∙ sym q.left-second,
  )

-- ---- the list keeps its length
module _ {S P : Type 0} (g : Scene S P) where
  either : (b : Bool) (x y : Progress S) (n : ℕ) → length x.list ≡ n → length y.list ≡ n → length (cond b x y).list ≡ n
  either true x y n p q = p
  either false x y n p q = q

  passes-length : (p : ℕ) (a : Progress S) → length (passes g p a).list ≡ length a.list
  unfolding passes
  passes-length zero a = refl
  passes-length (suc p) a =
      either (eqb (pass g a).acceptances a.acceptances) (pass g a) (passes g p (pass g a)) (length a.list) (pass-length g a) (passes-length p (pass g a) ∙ pass-length g a)

  pub refined-length : (p : ℕ) (l : List S) → length (refined g p l).list ≡ length l
  unfolding refined
  refined-length p l = either (eqb p 0 || ltb (length l) 2) (nothing_yet l) (passes g p (nothing_yet l)) (length l) refl (passes-length p (nothing_yet l))

-- ---- a call that is refused touches nothing
not_zero : {A : Type 0} (k : ℕ) (x y : A) → (k ≡ 0 → ⊥) → y ≡ cond (eqb k 0) x y
not_zero k x y d = sym (ap (λ (b : Bool). cond b x y) (ne_eqb k 0 d))

zero_is : {A : Type 0} (k : ℕ) (x y : A) → k ≡ 0 → cond (eqb k 0) x y ≡ x
zero_is k x y e = ap (λ (b : Bool). cond b x y) (eq-eqb k 0 e)

module _ {w h : ℕ} {red green blue : Float} {shapes : List Shape} {offers : List (Option Shape)} {count : ℕ} {target : List Float} {sizes : List ℕ} {zs : List ℤ} {paints first second : List Float} where
  pub untouched : (number k : ℕ) (a : SillbadgerAnswer) → k ≡ number → (k ≡ 0 → ⊥) → a ≡ refused_by k
      → Refines w h red green blue shapes offers count target number sizes zs paints first second a sizes zs paints first second
  untouched number k a e d f =
      let z : number ≡ 0 → ⊥ = λ o. d (e ∙ o) in
      record {
        answer = f ∙ ap refused_by e ∙ not_zero number (refined_told (outcome w h red green blue shapes offers count target)) (refused_by number) z;
        list-sizes = not_zero number _ sizes z;
        list-places = not_zero number _ zs z;
        list-paints = not_zero number _ paints z;
        left-first = not_zero number _ first z;
        left-second = not_zero number _ second z;
      }

  module _ {a : SillbadgerAnswer} {sizes' : List ℕ} {zs' : List ℤ} {paints' first' second' : List Float} where
    pub renumbered : (m n : ℕ) → m ≡ n → Refines w h red green blue shapes offers count target m sizes zs paints first second a sizes' zs' paints' first' second'
        → Refines w h red green blue shapes offers count target n sizes zs paints first second a sizes' zs' paints' first' second'
    renumbered m n e p = subst (λ (k : ℕ). Refines w h red green blue shapes offers count target k sizes zs paints first second a sizes' zs' paints' first' second') e p

    -- the same lists
    pub relisted : (l : List Shape) (o : List (Option Shape)) → l ≡ shapes → o ≡ offers
        → Refines w h red green blue l o count target (refine_refusal w h red green blue l o count target (length first) (length second)) sizes zs paints first second a sizes' zs' paints' first' second'
        → Refines w h red green blue shapes offers count target (refine_refusal w h red green blue shapes offers count target (length first) (length second)) sizes zs paints first second a sizes' zs' paints' first' second'
    relisted l o e f p =
        subst (λ (x : List (Option Shape)). Refines w h red green blue shapes x count target (refine_refusal w h red green blue shapes x count target (length first) (length second)) sizes zs paints first second a sizes' zs' paints' first' second') f
        (subst (λ (x : List Shape). Refines w h red green blue x o count target (refine_refusal w h red green blue x o count target (length first) (length second)) sizes zs paints first second a sizes' zs' paints' first' second') e p)

-- ---- the numbers
pub shapeless-some : (w h : ℕ) → shapeless w h ≡ 0 → ⊥
shapeless-some w h e =
    ⊎_elim (λ t. let z = no_size w h t in omega (arith, z, e)) (λ f. let z = no_length w h f in omega (arith, z, e)) (true_or_false (bad_size w h))

pub no_list : (w h : ℕ) (b : Bool) (n : ℕ) → b ≡ true → shapeless w h ≡ cond b (shapeless w h) n
no_list w h b n e = sym (ap (λ (c : Bool). cond c (shapeless w h) n) e)

module _ (w h target first second : ℕ) where
  abbrev lengths : Bool
  lengths = bad_picture w h target || bad_picture w h first || bad_picture w h second

  pub many-size : bad_size w h ≡ true → 1 ≡ too_many w h target first second
  unfolding too_many
  many-size p = at_size (bad_size w h) lengths true 3 (omega arith) p

  pub many-length : bad_size w h ≡ false → lengths ≡ true → 2 ≡ too_many w h target first second
  unfolding too_many
  many-length p q = at_length (bad_size w h) lengths true 3 (omega arith) p q

  pub many-count : bad_size w h ≡ false → lengths ≡ false → 3 ≡ too_many w h target first second
  unfolding too_many
  many-count p q = at-third (bad_size w h) lengths true 3 (omega arith) p q refl

  pub many-some : too_many w h target first second ≡ 0 → ⊥
  many-some e =
      ⊎_elim
      (λ t. let z = many-size t in omega (arith, z, e))
      (λ f. ⊎_elim (λ t. let z = many-length f t in omega (arith, z, e)) (λ g. let z = many-count f g in omega (arith, z, e)) (true_or_false lengths))
      (true_or_false (bad_size w h))

  -- whatever else is wrong with lists that are too long
  pub many_is : (count : Bool) (r : Ranges) (red green blue : Float) (pixels : List Float) → count ≡ true
      → too_many w h target first second ≡ lowest (size_if (bad_size w h) ∷ length_if lengths ∷ count_if count ∷ range_tests r red green blue pixels)
  unfolding too_many
  many_is count r red green blue pixels e =
      ⊎_elim
      (λ t. sym (many-size t) ∙ sym (lowest-take (size_if (bad_size w h)) (length_if lengths ∷ count_if count ∷ range_tests r red green blue pixels) t tt))
      (λ f.
      ⊎_elim
      (λ t. sym (many-length f t) ∙ sym (lowest_skip (size_if (bad_size w h)) (length_if lengths ∷ count_if count ∷ range_tests r red green blue pixels) f ∙ lowest-take (length_if lengths) (count_if count ∷ range_tests r red green blue pixels) t tt))
      (λ g. sym (many-count f g) ∙ sym (lowest_skip (size_if (bad_size w h)) (length_if lengths ∷ count_if count ∷ range_tests r red green blue pixels) f ∙ lowest_skip (length_if lengths) (count_if count ∷ range_tests r red green blue pixels) g ∙ lowest-take (count_if count) (range_tests r red green blue pixels) e tt))
      (true_or_false lengths))
      (true_or_false (bad_size w h))

pub any_first : (a b c : Bool) → a ≡ true → (a || b || c) ≡ true
any_first true b c e = refl
any_first false b c e = no_both e refl

pub any_second : (a b c : Bool) → b ≡ true → (a || b || c) ≡ true
any_second true b c e = refl
any_second false true c e = refl
any_second false false c e = no_both e refl

pub any_third : (a b c : Bool) → c ≡ true → (a || b || c) ≡ true
any_third true b c e = refl
any_third false true c e = refl
any_third false false c e = e

pub none_of : (a b c : Bool) → a ≡ false → b ≡ false → c ≡ false → (a || b || c) ≡ false
none_of true b c p q r = p
none_of false true c p q r = q
none_of false false c p q r = r

module _ (w h : ℕ) (red green blue : Float) (shapes : List Shape) (offers : List (Option Shape)) (count : ℕ) (target : List Float) (first second : ℕ) where
  too_long : ltb 64 (length shapes) || ltb 1024 (length offers) || ltb 16 count ≡ true
      → too_many w h (length target) first second ≡ refine_refusal w h red green blue shapes offers count target first second
  unfolding refine_refusal
  too_long e = many_is w h (length target) first second (ltb 64 (length shapes) || ltb 1024 (length offers) || ltb 16 count) (ranges_of (shapes ++ shapes_in offers)) red green blue target e

  pub many-shapes : 64 < length shapes → too_many w h (length target) first second ≡ refine_refusal w h red green blue shapes offers count target first second
  many-shapes l = too_long (any_first (ltb 64 (length shapes)) (ltb 1024 (length offers)) (ltb 16 count) (lt-ltb 64 (length shapes) l))

  pub many_offers : 1024 < length offers → too_many w h (length target) first second ≡ refine_refusal w h red green blue shapes offers count target first second
  many_offers l = too_long (any_second (ltb 64 (length shapes)) (ltb 1024 (length offers)) (ltb 16 count) (lt-ltb 1024 (length offers) l))

-- ---- what the call promises
module _ (w h : ℕ) (red green blue : Float) (target : List Float) (list : Shapes) (candidates : Candidates) (count : ℕ) (first second : List Float)
    (c : list.count ≡ length (listed list)) (d : candidates.count ≡ length (offered candidates)) where
  abbrev number : ℕ
  number = refine_refusal w h red green blue (listed list) (offered candidates) count target (length first) (length second)

  abbrev out : Progress Shape
  out = outcome w h red green blue (listed list) (offered candidates) count target

  same_number : refusal_of w h red green blue target list candidates count (length first) (length second) ≡ number
  unfolding refusal_of refine_refusal
  same_number =
      ap (λ (n : ℕ). lowest (size_tests w h (length target) (length first) (length second) n candidates.count count ++ range_tests (ranges_of (listed list ++ shapes_in (offered candidates))) red green blue target)) c
      ∙ ap (λ (n : ℕ). lowest (size_tests w h (length target) (length first) (length second) (length (listed list)) n count ++ range_tests (ranges_of (listed list ++ shapes_in (offered candidates))) red green blue target)) d

  module _ (r : Refined) (first' second' : List Float) (says : RefineShapesSays w h red green blue target list candidates count first second r first' second') where
    told_as : told r ≡ cond (eqb number 0) (done_with out) (refused_with number list)
    told_as = says.answer ∙ ap (λ (n : ℕ). cond (eqb n 0) (done_with out) (refused_with n list)) same_number

    pub number_is : number_in r.refusal ≡ number
    number_is = ap (λ (t : Told). t.refusal) told_as ∙ by (eqb number 0) refl
      where
        by : (b : Bool) → eqb number 0 ≡ b → (cond b (done_with out) (refused_with number list)).refusal ≡ number
        by true e = sym (eqb-true number 0 e)
        by false e = refl

    first-is : first' ≡ cond (eqb number 0) (drawn (scene_of w h red green blue (offered candidates) target) out.list) first
    first-is = says.left-first ∙ ap (λ (n : ℕ). cond (eqb n 0) (drawn (scene_of w h red green blue (offered candidates) target) out.list) first) same_number

    second_is : second' ≡ cond (eqb number 0) (drawn (scene_of w h red green blue (offered candidates) target) out.list) second
    second_is = says.left-second ∙ ap (λ (n : ℕ). cond (eqb n 0) (drawn (scene_of w h red green blue (offered candidates) target) out.list) second) same_number

    pub refused_refines : (sizes : List ℕ) (zs : List ℤ) (paints : List Float) (a : SillbadgerAnswer) → (number_in r.refusal ≡ 0 → ⊥) → a ≡ refused_by (number_in r.refusal)
        → Refines w h red green blue (listed list) (offered candidates) count target number sizes zs paints first second a sizes zs paints first' second'
    refused_refines sizes zs paints a o e =
        let z : number ≡ 0 → ⊥ = λ q. o (number_is ∙ q) in
        record {
          answer = e ∙ ap refused_by number_is ∙ not_zero number (refined_told out) (refused_by number) z;
          list-sizes = not_zero number (sizes_of out.list) sizes z;
          list-places = not_zero number (places_of out.list) zs z;
          list-paints = not_zero number (paints_of out.list) paints z;
          left-first = first-is;
          left-second = second_is;
        }

    module _ (o : number_in r.refusal ≡ 0) where
      done_as : told r ≡ done_with out
      done_as = told_as ∙ zero_is number (done_with out) (refused_with number list) (sym number_is ∙ o)

      -- the list that comes back is as long as the one that was lent
      pub same_count : r.shapes.count ≡ list.count
      same_count = ap (λ (t : Told). t.count) done_as ∙ refined-length (scene_of w h red green blue (offered candidates) target) count (listed list) ∙ sym c

      pub done_refines : (sizes sizes' : List ℕ) (zs zs' : List ℤ) (paints paints' : List Float) (a b : SillbadgerAnswer) → b ≡ refused_by 0 → a ≡ with_counts b r.passes r.trials r.acceptances
          → WriteListSays r.shapes sizes' zs' paints'
          → Refines w h red green blue (listed list) (offered candidates) count target number sizes zs paints first second a sizes' zs' paints' first' second'
      done_refines sizes sizes' zs zs' paints paints' a b f e s =
          let n : number ≡ 0 = sym number_is ∙ o in
          let l : listed r.shapes ≡ out.list = ap (λ (t : Told). t.list) done_as in
          record {
            answer = e ∙ ap (λ (x : SillbadgerAnswer). with_counts x r.passes r.trials r.acceptances) f
                ∙ ap (λ (t : Told). with_counts (refused_by 0) t.passes t.trials t.acceptances) done_as
                ∙ sym (zero_is number (refined_told out) (refused_by number) n);
            list-sizes = s.0 ∙ ap sizes_of l ∙ sym (zero_is number (sizes_of out.list) sizes n);
            list-places = s.1 ∙ ap places_of l ∙ sym (zero_is number (places_of out.list) zs n);
            list-paints = s.2 ∙ ap paints_of l ∙ sym (zero_is number (paints_of out.list) paints n);
            left-first = first-is;
            left-second = second_is;
          }

-- a list that was read has as many as its count says
pub counted : {A : Type 0} (n k : ℕ) (l : List A) (f : ℕ → A) → n ≡ k → l ≡ tab f k → n ≡ length l
counted n k l f e g = e ∙ sym (length-tab f k) ∙ sym (ap length g)

-- ---- slices that are lists, or are none
module _ (w h : ℕ) (red green blue : Float) (sizes : List ℕ) (zs : List ℤ) (paints : List Float) (offeredSizes : List ℕ) (offeredZs : List ℤ) (offeredPaints : List Float) (count : ℕ) (target : List Float) (first second : ℕ) where
  abbrev rest : ℕ
  rest = refine_refusal w h red green blue (shapes_of sizes zs paints) (offers_of offeredSizes offeredZs offeredPaints) count target first second

  pub number-list : bad_list sizes zs paints false ≡ true
      → shapeless w h ≡ number_of w h red green blue sizes zs paints offeredSizes offeredZs offeredPaints count target first second
  unfolding number_of
  number-list e = no_list w h (bad_list sizes zs paints false || bad_list offeredSizes offeredZs offeredPaints true) rest (or-first (bad_list sizes zs paints false) (bad_list offeredSizes offeredZs offeredPaints true) e)

  pub number_offers : bad_list offeredSizes offeredZs offeredPaints true ≡ true
      → shapeless w h ≡ number_of w h red green blue sizes zs paints offeredSizes offeredZs offeredPaints count target first second
  unfolding number_of
  number_offers e = no_list w h (bad_list sizes zs paints false || bad_list offeredSizes offeredZs offeredPaints true) rest (or-second (bad_list sizes zs paints false) (bad_list offeredSizes offeredZs offeredPaints true) e)

  pub number_good : bad_list sizes zs paints false ≡ false → bad_list offeredSizes offeredZs offeredPaints true ≡ false
      → refine_refusal w h red green blue (shapes_of sizes zs paints) (offers_of offeredSizes offeredZs offeredPaints) count target first second
      ≡ number_of w h red green blue sizes zs paints offeredSizes offeredZs offeredPaints count target first second
  unfolding number_of
  number_good e f = sym (ap (λ (b : Bool). cond b (shapeless w h) rest) (or_neither (bad_list sizes zs paints false) (bad_list offeredSizes offeredZs offeredPaints true) e f))

pub fits_of : (sizes : List ℕ) (zs : List ℤ) (paints : List Float) (gaps : Bool) → bad_list sizes zs paints gaps ≡ false → Fits sizes zs paints
fits_of sizes zs paints gaps e =
    let p = two_of (not (eqb (length zs) (length sizes * 8))) (not (eqb (length paints) (length sizes * 4))) (not (every (sized_or gaps) sizes)) e in
    (eqb-true (length zs) (length sizes * 8) (not-false (eqb (length zs) (length sizes * 8)) p.0), eqb-true (length paints) (length sizes * 4) (not-false (eqb (length paints) (length sizes * 4)) p.1))
  where
    two_of : (a b c : Bool) → (a || b || c) ≡ false → (a ≡ false) × (b ≡ false)
    two_of true b c q = no_both refl q
    two_of false true c q = no_both refl q
    two_of false false c q = (refl, refl)
