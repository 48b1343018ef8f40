use mir.Syntax.{w32}
use Rattle.laws.specs.Bounds.{ldw, arg, rd}
use Rattle.cover.specs.declared.Kind.TheVariants.{Triangle}
use Rattle.cover.specs.Cover.{places}
use Rattle.cover.specs.CoverLaws.{AllBounded, places_bounded}
use Rattle.cover.specs.StampLaws.{triangle_stamped}
use Rattle.cover.proofs.stamps.triangle_stamp.Goals as goal
use Rattle.cover.proofs.stamps.triangle_stamp.Goals.{Start}

-- `cover::stamps::triangle_stamp` meets its contract: the stamp of its corners, the last of them twice.

bounded : (s : Start) → let a = s.args in AllBounded (places (Triangle a.x0 a.y0 a.x1 a.y1 a.x2 a.y2))
bounded s = let a = s.args in places_bounded (Triangle a.x0 a.y0 a.x1 a.y1 a.x2 a.y2) s.requires.places

pub framed-requires : goal.framed-requires
framed-requires s =
    let b = bounded (goal.at.framed-requires s).Start in
    record { corners = (arg tt (ldw w32 tt b.0), arg tt (ldw w32 tt b.1.0), arg tt (ldw w32 tt b.1.1.0), arg tt (ldw w32 tt b.1.1.1.0), arg tt (ldw w32 tt b.1.1.1.1.0), arg tt (ldw w32 tt b.1.1.1.1.1.0), arg tt (ldw w32 tt b.1.1.1.1.0), arg tt (ldw w32 tt b.1.1.1.1.1.0)); window = (s.requires.window.0, s.requires.window.1, s.requires.sizes.w_high, s.requires.sizes.h_high) }

pub framed_stamp-requires : goal.framed_stamp-requires
framed_stamp-requires c =
    let b = bounded (goal.at.framed_stamp-requires c).Start in
    record { corners = (arg tt (ldw w32 tt b.0), arg tt (ldw w32 tt b.1.0), arg tt (ldw w32 tt b.1.1.0), arg tt (ldw w32 tt b.1.1.1.0), arg tt (ldw w32 tt b.1.1.1.1.0), arg tt (ldw w32 tt b.1.1.1.1.1.0), arg tt (ldw w32 tt b.1.1.1.1.0), arg tt (ldw w32 tt b.1.1.1.1.1.0)); window = c.requires.window; places = c.framed.ensures c.if-framed.true }

pub returns-then-framed : goal.returns-then-framed
returns-then-framed c =
    let b = bounded (goal.at.returns-then-framed c).Start in
    triangle_stamped _ _ _ _ _ _ _ _ _ _ _ (rw (rd w32 tt b.0, rd w32 tt b.1.0, rd w32 tt b.1.1.0, rd w32 tt b.1.1.1.0, rd w32 tt b.1.1.1.1.0, rd w32 tt b.1.1.1.1.1.0) at c.framed_stamp.ensures)
