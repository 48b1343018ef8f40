-- Laws: a call that passed its tests in one go and reaches some row meets what the functions on its way to the sums ask.
use Rattle.std.specs.Prelude.{◌≡◌, true, false, ◌&&◌, ◌||◌, List, ℕ, ◌+◌, ◌-◌, ◌*◌, ◌≤◌, ◌<◌, leb, ltb, length, Float}
use Rattle.std.proofs.Common.{sym, ◌∙◌, arith}
use Rattle.refusal.specs.Refusals.{Sized}
use Rattle.refusal.specs.Lengths.{bad_picture, bad_table}
use Rattle.cover.specs.declared.Kind.{Kind}
use Rattle.cover.specs.declared.reached.Rows.{Rows}
use Rattle.cover.specs.Cover.{bad_places}
use Rattle.cover.specs.ReachRows.{ReachRowsSays}
use Rattle.cover.specs.Stamps.{Stamped}
use Rattle.score.specs.Usual.{Usual}
use Rattle.gather.specs.RunSums.{Reached}
use Rattle.gather.specs.RunSumLaws.{some_reached}
use Rattle.gather.specs.StampSums.{StampIn, RowsIn}
use Rattle.gather.specs.StampSumLaws.{near, stamp_in, rows_in}
use Rattle.score.specs.CallLaws.{usual_rows, table-length, picture_lengths}

-- a stamp is tried
abbrev pub Tried : Rows → ℕ → ℕ → Type 0
Tried r w left = leb (r.bottom - r.top) 8 && ltb left w ≡ true

-- what is asked, from the first column on; Lent is said of the lists that are read, Laid of a stamp in them
pub record Asked (kind : Kind) (w h : ℕ) (r : Rows) (Lent : Type 0) (Laid : ℕ → ℕ → Type 0) : Type 0 where
  pub column : (w ≤ 256) × (bad_places kind ≡ false)
  pub stamp : (left : ℕ) → Tried r w left → Sized w h × ((bad_places kind ≡ false) × ((left ≤ 255) × (r.top ≤ 255)))
  pub added : (left bits : ℕ) → Tried r w left → Stamped kind left r.top w h bits → ((left < 256) × (r.top < 256) × (w ≤ 256)) × Laid left bits
  pub reached : Sized w h × ((bad_places kind ≡ false) × (Lent × Reached kind w h r.top r.bottom))

module _ (kind : Kind) (w h : ℕ) where
  abbrev pub PointsAsked : List Float → List Float → Rows → Type 0
  PointsAsked target canvas r =
      Asked kind w h r ((length target ≡ h * w * 3) × (length canvas ≡ h * w * 3)) (λ left bits. (length canvas ≡ length target) × StampIn w left r.top (length target) bits)

  abbrev pub SpansAsked : List Float → Rows → Type 0
  SpansAsked table r = Asked kind w h r (length table ≡ h * (w + 1) * 15) (λ left bits. RowsIn w left r.top (length table) 8 bits)

module _ (kind : Kind) {opacity : Float} {n : ℕ} (w h : ℕ) where
  asked : (Lent : Type 0) (Laid : ℕ → ℕ → Type 0) → Usual kind opacity n w h → (r : Rows) → ReachRowsSays kind w h r → r.top < r.bottom → Lent
      → ((left bits : ℕ) → Stamped kind left r.top w h bits → Laid left bits) → Asked kind w h r Lent Laid
  asked Lent Laid u r e l lent laid =
      let p = usual_rows kind opacity n w h u in record {
        column = (p.0.w_high, p.1);
        stamp = λ left t. (p.0, (p.1, near kind w h p.0 r e l left t));
        added = λ left bits t g. let k = near kind w h p.0 r e l left t in ((omega (arith, k.0), omega (arith, k.1), p.0.w_high), laid left bits g);
        reached = (p.0, (p.1, (lent, some_reached kind w h r e l)));
      }

  pub points_asked : (target canvas : List Float) → Usual kind opacity n w h × (bad_picture w h (length target) || bad_picture w h (length canvas) ≡ false)
      → (r : Rows) → ReachRowsSays kind w h r → r.top < r.bottom → PointsAsked kind w h target canvas r
  points_asked target canvas f r e l =
      let p = picture_lengths w h (length target) (length canvas) f.1 in
      asked _ _ f.0 r e l p (λ left bits g. (p.1 ∙ sym p.0, stamp_in kind left r.top w h bits g (length target) p.0))

  pub spans_asked : (table : List Float) → Usual kind opacity n w h × (bad_table w h (length table) ≡ false)
      → (r : Rows) → ReachRowsSays kind w h r → r.top < r.bottom → SpansAsked kind w h table r
  spans_asked table f r e l =
      let p = table-length w h (length table) f.1 in
      asked _ _ f.0 r e l p (λ left bits g. rows_in kind left r.top w h bits g (length table) p)
