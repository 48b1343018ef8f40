use mathlib.Core.Path.{refl}
use lib.Dec.{lit≤}
use mir.Syntax.{w32}
use Rattle.laws.specs.Blank.{blank}
use Rattle.laws.specs.Bounds.{arg, ldw}
use Rattle.polygon.specs.PolygonLaws.{in_range}
use Rattle.run_polygon.proofs.triangle.Goals as goal

-- `run_polygon::triangle` calls fill_quad with corners and sizes that it was given in range, and zeros.

pub fill_quad-requires : goal.fill_quad-requires
unfolding blank
fill_quad-requires g c =
    let p0 = c.requires.first in
    let p1 = c.requires.second in
    let p2 = c.requires.third in record {
      corners = in_range _ _ refl (lit≤ tt)
          (arg tt (ldw w32 tt p0.x), (arg tt (ldw w32 tt p1.x), (arg tt (ldw w32 tt p2.x), (arg tt (ldw w32 tt p2.x), tt))))
          (arg tt (ldw w32 tt p0.y), (arg tt (ldw w32 tt p1.y), (arg tt (ldw w32 tt p2.y), (arg tt (ldw w32 tt p2.y), tt))));
      size = c.requires.size;
      blank = refl;
    }
