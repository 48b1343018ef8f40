-- Laws: shapes that can be painted; pictures that agree in some rows, and still do after more shapes.
use Rattle.std.specs.Prelude.{◌≡◌, refl, Bool, true, false, not, ℕ, suc, ◌+◌, ◌*◌, ◌≤◌, ◌<◌, T, Float, length, take}
use Rattle.std.proofs.Common.{sym, ◌∙◌, subst, zero-mul, mul-le-mul_right, add-one, arith, drop-cons, get_or-take, length-take-le, ext_get_or}
use Rattle.std.proofs.Math.Path.{ap}
use mathlib.Core.List.{List, [], ◌∷◌}
use Rattle.std.specs.Float.{nan}
use Rattle.std.proofs.Math.ListN.{get_or}
use Rattle.std.proofs.Math.Seq.{slice}
use Rattle.laws.specs.Every.{every}
use Rattle.laws.specs.EveryLaws.{every-each}
use Rattle.cover.specs.Cover.{bad_places}
use Rattle.picture.specs.PaintingLaws.{length-painted}
use Rattle.picture.specs.Places.{painted_agrees}
use Rattle.shapes.specs.declared.Shape.{Shape}
use Rattle.shapes.specs.declared.Shapes.{Shapes}
use Rattle.shapes.specs.Blank.{blank}
use Rattle.shapes.specs.Lists.{listed}
use Rattle.shapes.specs.Ranges.{fits}
use Rattle.shapes.specs.RangeLaws.{fits-places}
use Rattle.traces.specs.Refinement.{painted_on}
use Rattle.traces.specs.Scenes.{shape_painted}
use Rattle.traces.specs.Traces.{SameRows}

pub holds_not : (b : Bool) → T (not b) → b ≡ false
holds_not true h = absurd h
holds_not false h = refl

-- the places of a shape that fits
pub well_placed : (s : Shape) → T (fits s) → bad_places s.kind ≡ false
well_placed s h = holds_not (bad_places s.kind) (fits-places s h)

-- a shape of a list that fits
pub shape-fits : (list : Shapes) (i : ℕ) → i < list.count → list.count ≤ length list.items → T (every fits (listed list)) → T (fits (get_or list.items i blank))
shape-fits list i h room all =
    subst (λ (x : Shape). T (fits x)) (get_or-take list.count list.items i blank h)
    (every-each fits (listed list) i blank all (omega (arith, length-take-le list.count list.items room)))

-- shape j, and those after it
pub slice_first : (l : List Shape) (j n : ℕ) (d : Shape) → j < n → n ≤ length l → slice j n l ≡ get_or l j d ∷ slice (j + 1) n l
slice_first l j n d h k =
    drop-cons (take n l) j d (omega (arith, length-take-le n l k))
    ∙ ap (λ (s : Shape). s ∷ slice (suc j) n l) (get_or-take n l j d h)
    ∙ ap (λ (m : ℕ). get_or l j d ∷ slice m n l) (sym (add-one j))

-- ---- pictures that are the same in some rows
pub same_whole : (w h : ℕ) (p q : List Float) → length p ≡ h * w * 3 → length q ≡ h * w * 3 → SameRows w 0 h p q → p ≡ q
same_whole w h p q e f same = ext_get_or nan p q (e ∙ sym f) (λ i l. same i (omega (arith, zero-mul w)) (omega (arith, e)))

-- a picture with shapes painted on it has its length
pub painted_on-length : (w h : ℕ) (l : List Shape) (p : List Float) → length p ≡ h * w * 3 → length (painted_on (shape_painted w h) p l) ≡ h * w * 3
unfolding painted_on
painted_on-length w h [] p e = e
painted_on-length w h (s ∷ l) p e = painted_on-length w h l (shape_painted w h s p) (length-painted s.kind s.opacity s.red s.green s.blue w h p)

module _ (w h : ℕ) (columns : 0 < w) where
  -- pictures that agree at a number still do after more shapes
  pub painted_on_agrees : (i : ℕ) → i < h * w * 3 → (l : List Shape) (p q : List Float) → get_or p i nan ≡ get_or q i nan
      → get_or (painted_on (shape_painted w h) p l) i nan ≡ get_or (painted_on (shape_painted w h) q l) i nan
  unfolding painted_on
  painted_on_agrees i k [] p q e = e
  painted_on_agrees i k (s ∷ l) p q e =
      painted_on_agrees i k l (shape_painted w h s p) (shape_painted w h s q) (painted_agrees s.kind s.opacity s.red s.green s.blue w h i columns k p q e)

  module _ (top bottom : ℕ) (inside : bottom ≤ h) where
    -- and so do their rows
    pub painted_on_same : (l : List Shape) (p q : List Float) → SameRows w top bottom p q → SameRows w top bottom (painted_on (shape_painted w h) p l) (painted_on (shape_painted w h) q l)
    painted_on_same l p q same i a k = painted_on_agrees i (omega (arith, mul-le-mul_right w inside)) l p q (same i a k)

    -- one shape more, of which only these rows count
    pub part_same : (p old new q : List Float) (s : Shape) → SameRows w top bottom old p → SameRows w top bottom new (painted_on (shape_painted w h) old (s ∷ [])) → shape_painted w h s p ≡ q → SameRows w top bottom new q
    unfolding painted_on
    part_same p old new q s same one all i a k = one i a k ∙ painted_on_same (s ∷ []) old p same i a k ∙ ap (λ (r : List Float). get_or r i nan) all
