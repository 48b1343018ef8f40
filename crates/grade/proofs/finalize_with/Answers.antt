use mathlib.Core.Path.{refl}
use Rattle.grade.specs.PartLaws.{parted}
use Rattle.grade.proofs.finalize_with.Goals as goal

-- `grade::finalize_with` meets its contract: the numbers that it hands on are those of the sums.

pub finalize_from-requires : goal.finalize_from-requires
finalize_from-requires c =
    let x = c.args in
    let d = parted x.s x.opacity c.rest_of-m.result _ _ _ c.rest_of-m.ensures c.left_at.ensures c.left_at-2.ensures c.left_at-3.ensures in
    record { count = refl {a = x.s.count}; before = c.requires; parts = d }
