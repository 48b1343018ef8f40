use Rattle.stamp.specs.EdgeLaws.{cornered_read, in_eights}
use Rattle.run_stamp.proofs.quad.Goals as goal

-- `run_stamp::quad` calls polygon_stamp with corners that it was given among the 64 pixels.

pub polygon_stamp-bits-requires : goal.polygon_stamp-bits-requires
polygon_stamp-bits-requires g c =
    let p = c.requires in
    in_eights (cornered_read p.first) (cornered_read p.second) (cornered_read p.third) (cornered_read p.fourth)
