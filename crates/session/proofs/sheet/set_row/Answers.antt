use mathlib.Core.Path.{◌≡◌, ap, ◌∙◌}
use mathlib.Core.List.{List}
use Prim.Native.Nat.{ℕ, ◌+◌, ◌*◌, ◌<◌, ◌≤◌}
use native.Mathlib.Omega.{arith}
use lib.ListN.{length}
use lib.Ieee.{Float}
use Rattle.laws.specs.Rows.{put_row}
use Rattle.laws.specs.RowLaws.{put_row_lem, row-le}
use Rattle.session.specs.SheetLaws.{row-set}
use Rattle.session.proofs.sheet.set_row.Goals as goal

-- `session::sheet::set_row` meets its contract: the row's part is lent on, then the table is built.

room : (w h y : ℕ) (l : List Float) → y < h → length l ≡ h * w * 3 → y * (w * 3) + w * 3 ≤ length l
room w h y l k e = omega (arith, row-le (w * 3) k, e)

pub overflow_mul-a : goal.overflow_mul-a
overflow_mul-a c = omega (arith, room _ _ _ _ c.requires.row.0 c.requires.sheet.target_size)

pub overflow_add-a : goal.overflow_add-a
overflow_add-a c = omega (arith, room _ _ _ _ c.requires.row.0 c.requires.sheet.target_size)

pub offset_bounds-target-a : goal.offset_bounds-target-a
offset_bounds-target-a c = omega (arith, room _ _ _ _ c.requires.row.0 c.requires.sheet.target_size)

pub returns : goal.returns
returns c =
    let a = c.args in
    let p = c.put_channels in
    row-set a.w a.h a.y a.pixels.now a.target.now _ a.canvas.now a.table.now _ _ c.requires.sheet c.requires.canvas c.requires.row.0 c.requires.row.1
    (λ k. (c.type_inv.pixels k).fits)
    (put_row_lem (a.w * 3) a.y p.new.out a.target.now ∙ ap (λ (r : List Float). put_row (a.w * 3) a.y r a.target.now) p.ensures)
    c.build.ensures
