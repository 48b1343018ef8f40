-- Rules: the rows of a picture that a shape can cover, as a run of rows, top <= y < bottom: those of the row reach, and none where
-- all columns of the shape lie beside the picture.
use Rattle.std.specs.Prelude.{◌≡◌, Bool, cond, ℕ, ◌+◌, nat_abs}
use Rattle.std.specs.Int.Signed.{le_z, lt_z}
use Rattle.cover.specs.declared.Kind.{Kind}
use Rattle.cover.specs.declared.Kind.TheVariants.{Circle, Triangle, Quad}
use Rattle.cover.specs.declared.reached.Rows.{Rows}
use Rattle.cover.specs.Cover.{reach}

-- the reach begins at row 0 or below it; an empty reach has no row
unfoldable pub rows_of : Kind → ℕ → Rows
rows_of kind h =
    let top = nat_abs (reach kind h).first in
    record { top = top; bottom = cond (le_z (reach kind h).first (reach kind h).last) (nat_abs (reach kind h).last + 1) top }

-- the shape with rows and columns changed for each other: its rows are the columns of the shape
abbrev pub turned : Kind → Kind
turned (Circle cx cy r) = Circle cy cx r
turned (Triangle x0 y0 x1 y1 x2 y2) = Triangle y0 x0 y1 x1 y2 x2
turned (Quad x0 y0 x1 y1 x2 y2 x3 y3) = Quad y0 x0 y1 x1 y2 x2 y3 x3

-- of w columns the shape reaches none: the last one lies left of the picture, or the first one right of it
unfoldable pub beside : Kind → ℕ → Bool
beside kind w = lt_z (reach (turned kind) w).last (reach (turned kind) w).first

abbrev pub no_rows : Rows
no_rows = record { top = 0; bottom = 0 }

unfoldable pub reach_rows : Kind → ℕ → ℕ → Rows
reach_rows kind w h = cond (beside kind w) no_rows (rows_of kind h)

abbrev pub ReachRowsSays : Kind → ℕ → ℕ → Rows → Type 0
ReachRowsSays kind w h r = r ≡ reach_rows kind w h
