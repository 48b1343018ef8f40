-- Laws: two tables that meet a promise are the same where they are read, in the rows of the picture; and two pictures are equal.
use Rattle.std.specs.Prelude.{◌≡◌, List, ℕ, ◌+◌, ◌*◌, ◌≤◌, ◌<◌, Float, length, get_or}
use Rattle.std.proofs.Common.{sym, subst, ◌∙◌, ⊎_elim, zero-mul, arith, ext_get_or}
use Rattle.std.specs.Float.{nan}
use Rattle.laws.specs.StrokeLaws.{le-or-lt}
use Rattle.shapes.specs.declared.Shape.{Shape}
use Rattle.shapes.specs.declared.Shapes.{Shapes}
use Rattle.shapes.specs.Blank.{blank}
use Rattle.shapes.specs.Lists.{listed}
use Rattle.traces.specs.Traces.{left_at, right_at, brush_at, Column, Tabled, TraceSays, TraceListSays, DropColumnSays, PaintRowSays, PaintAllSays}

-- what stands at k is the same in two tables
abbrev pub Alike : ℕ → List ℕ → List Float → List ℕ → List Float → ℕ → Type 0
Alike h r p q o k = ((y : ℕ) → y < h → (left_at r k y ≡ left_at q k y) × (right_at r k y ≡ right_at q k y)) × (brush_at p k ≡ brush_at o k)

one-column : (w h : ℕ) (s : Shape) (k : ℕ) (r q : List ℕ) (p o : List Float) → Column w h s r p k → Column w h s q o k → Alike h r p q o k
one-column w h s k r q p o c d = (λ y l. (c.left y l ∙ sym (d.left y l), c.right y l ∙ sym (d.right y l)), c.brush ∙ sym d.brush)

pub TraceSays-unique : (w h : ℕ) (s : Shape) (i : ℕ) (runs : List ℕ) (paints : List Float) (r q : List ℕ) (p o : List Float) → TraceSays w h s i runs paints r p → TraceSays w h s i runs paints q o
    → (length r ≡ length q) × (length p ≡ length o) × ((k : ℕ) → k < 65 → Alike h r p q o k)
TraceSays-unique w h s i runs paints r q p o a b = (a.0 ∙ sym b.0, a.1 ∙ sym b.1, at)
  where
    away : (k : ℕ) → k < 65 → (k ≡ i → ⊥) → Alike h r p q o k
    away k few off =
        let c = a.3 k few off in
        let d = b.3 k few off in
        (λ y l. ((c.0 y).0 ∙ sym (d.0 y).0, (c.0 y).1 ∙ sym (d.0 y).1), c.1 ∙ sym d.1)

    at : (k : ℕ) → k < 65 → Alike h r p q o k
    at k few =
        ⊎_elim
        (λ (low : i ≤ k).
        ⊎_elim
        (λ (high : k ≤ i). subst (Alike h r p q o) {x = i} {y = k} (omega arith) (one-column w h s i r q p o a.2 b.2))
        (λ (late : i < k). away k few (λ e. omega arith))
        (le-or-lt k i))
        (λ (early : k < i). away k few (λ e. omega arith))
        (le-or-lt i k)

-- of a list, what stands below its count
pub TraceListSays-unique : (w h : ℕ) (list : Shapes) (r q : List ℕ) (p o : List Float) → TraceListSays w h list r p → TraceListSays w h list q o
    → (length r ≡ length q) × (length p ≡ length o) × ((k : ℕ) → k < length (listed list) → Alike h r p q o k)
TraceListSays-unique w h list r q p o a b = (
  a.runs_long ∙ sym b.runs_long,
  a.paints_long ∙ sym b.paints_long,
  λ k l. one-column w h (get_or (listed list) k blank) k r q p o (a.column k l) (b.column k l),
)

pub DropColumnSays-unique : (h j n : ℕ) (runs : List ℕ) (paints : List Float) (r q : List ℕ) (p o : List Float) → DropColumnSays h j n runs paints r p → DropColumnSays h j n runs paints q o
    → (length r ≡ length q) × (length p ≡ length o) × ((k : ℕ) → k < n → Alike h r p q o k)
DropColumnSays-unique h j n runs paints r q p o a b = (a.0 ∙ sym b.0, a.1 ∙ sym b.1, at)
  where
    at : (k : ℕ) → k < n → Alike h r p q o k
    at k few =
        ⊎_elim
        (λ (late : j ≤ k). (
          λ y l. ((a.2 y l).left_after k late few ∙ sym ((b.2 y l).left_after k late few), (a.2 y l).right-after k late few ∙ sym ((b.2 y l).right-after k late few)),
          a.3.after k late few ∙ sym (b.3.after k late few),
        ))
        (λ (early : k < j). (
          λ y l. ((a.2 y l).left-before k early ∙ sym ((b.2 y l).left-before k early), (a.2 y l).right-before k early ∙ sym ((b.2 y l).right-before k early)),
          a.3.before k early ∙ sym (b.3.before k early),
        ))
        (le-or-lt j k)

-- the shapes stand in the table, and a picture keeps its length
pub PaintRowSays-unique : (w h y from to : ℕ) (runs : List ℕ) (paints canvas p q : List Float) → Tabled w h to runs paints → length p ≡ h * w * 3 → length q ≡ h * w * 3
    → PaintRowSays w h y from to runs paints canvas p → PaintRowSays w h y from to runs paints canvas q → p ≡ q
PaintRowSays-unique w h y from to runs paints canvas p q t e f a b =
    let c = a.1 t.shapes t.traced t.many in
    let d = b.1 t.shapes t.traced t.many in
    ext_get_or nan p q (e ∙ sym f)
    (λ i l.
    ⊎_elim
    (λ (under : (y + 1) * w * 3 ≤ i). c.below i under (omega (arith, e)) ∙ sym (d.below i under (omega (arith, e))))
    (λ (upper : i < (y + 1) * w * 3).
    ⊎_elim
    (λ (here : y * w * 3 ≤ i). c.row i here upper ∙ sym (d.row i here upper))
    (λ (over : i < y * w * 3). c.above i (omega (arith, zero-mul w)) over ∙ sym (d.above i (omega (arith, zero-mul w)) over))
    (le-or-lt (y * w * 3) i))
    (le-or-lt ((y + 1) * w * 3) i))

pub PaintAllSays-unique : (w h from to : ℕ) (runs : List ℕ) (paints canvas p q : List Float) → Tabled w h to runs paints
    → PaintAllSays w h from to runs paints canvas p → PaintAllSays w h from to runs paints canvas q → p ≡ q
PaintAllSays-unique w h from to runs paints canvas p q t a b = a.1 t.shapes t.traced t.many ∙ sym (b.1 t.shapes t.traced t.many)
