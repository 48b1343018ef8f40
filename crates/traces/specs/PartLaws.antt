-- Laws: parts of a list painted on a picture of the part before. Over any shapes, pictures and drawing.
use Rattle.std.specs.Prelude.{◌≡◌, List, [], ◌∷◌, ◌++◌, ℕ, ◌+◌, ◌≤◌, ◌<◌, length, take, drop, get_or}
use Rattle.std.proofs.Math.Path.{sym, ap}
use Rattle.std.proofs.Common.{◌∙◌, add-one, arith, take-append-drop, take-suc, take-take, length-take-le}
use Rattle.std.proofs.Math.Seq.{slice, slice_empty}
use Rattle.std.proofs.lemmas.List.{drop-append-le}
use Rattle.laws.specs.Without.{without}
use Rattle.traces.specs.Refinement.{Scene, painted_on, drawn}
use Rattle.traces.specs.RefinementLaws.{painted-append, drawn_without}

module _ {S : Type 0} where
  slice-last : (from i : ℕ) (l : List S) (d : S) → from ≤ i → i < length l → slice from (i + 1) l ≡ slice from i l ++ (get_or l i d ∷ [])
  slice-last from i l d h k =
      ap (λ (n : ℕ). drop from (take n l)) (add-one i)
      ∙ ap (drop from) (take-suc l i d k)
      ∙ drop-append-le from (take i l) (get_or l i d ∷ []) (omega (arith, length-take-le i l (omega arith)))

  take-slice : (from to : ℕ) (l : List S) → from ≤ to → take from l ++ slice from to l ≡ take to l
  take-slice from to l h = ap (λ (r : List S). r ++ slice from to l) (sym (take-take from to l h)) ∙ take-append-drop from (take to l)

module _ {S P : Type 0} (paint : S → P → P) where
  -- a loop that paints a part: before it, and one shape more
  pub part_none : (p : P) (from : ℕ) (l : List S) → p ≡ painted_on paint p (slice from from l)
  unfolding painted_on
  part_none p from l = ap (painted_on paint p) (sym (slice_empty from l))

  pub part-more : (p q : P) (from i : ℕ) (l : List S) (d : S) → from ≤ i → i < length l → q ≡ painted_on paint p (slice from i l)
      → paint (get_or l i d) q ≡ painted_on paint p (slice from (i + 1) l)
  unfolding painted_on
  part-more p q from i l d h k e =
      ap (paint (get_or l i d)) e
      ∙ sym (painted-append paint p (slice from i l) (get_or l i d ∷ []))
      ∙ ap (painted_on paint p) (sym (slice-last from i l d h k))

-- the first n of the items are the list
module _ {S P : Type 0} (g : Scene S P) (items : List S) (n : ℕ) where
  -- more of its shapes on a picture of the first `made` ones
  pub part_on : (p : P) (made to : ℕ) → made ≤ to → to ≤ n → p ≡ drawn g (take made (take n items)) → painted_on g.paint p (slice made to items) ≡ drawn g (take to (take n items))
  part_on p made to h k e =
      ap (λ (q : P). painted_on g.paint q (slice made to items)) (e ∙ ap (drawn g) (take-take made n items (omega arith)))
      ∙ sym (painted-append g.paint g.background (take made items) (slice made to items))
      ∙ ap (drawn g) (take-slice made to items h ∙ sym (take-take to n items k))

  -- all of them
  pub all_on : (p : P) (made : ℕ) → made ≤ n → p ≡ drawn g (take made (take n items)) → painted_on g.paint p (slice made n items) ≡ drawn g (take n items)
  all_on p made h e = part_on p made n h (omega arith) e ∙ ap (drawn g) (take-take n n items (omega arith))

  -- a trial's picture, from one of the shapes before j
  pub trial_on : (p : P) (j : ℕ) (x : S) → p ≡ drawn g (take j (take n items)) → g.paint x (painted_on g.paint p (slice (j + 1) n items)) ≡ g.paint x (drawn g (without j (take n items)))
  trial_on p j x e =
      ap (g.paint x)
      (ap (λ (q : P). painted_on g.paint q (slice (j + 1) n items)) e
      ∙ ap (λ (k : ℕ). painted_on g.paint (drawn g (take j (take n items))) (slice k n items)) (add-one j)
      ∙ sym (drawn_without g (take n items) j))
