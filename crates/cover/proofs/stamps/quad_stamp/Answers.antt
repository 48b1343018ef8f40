use mir.Syntax.{w32}
use Rattle.laws.specs.Bounds.{ldw, arg, rd}
use Rattle.cover.specs.declared.Kind.TheVariants.{Quad}
use Rattle.cover.specs.Cover.{places}
use Rattle.cover.specs.CoverLaws.{AllBounded, places_bounded}
use Rattle.cover.proofs.stamps.quad_stamp.Goals as goal
use Rattle.cover.proofs.stamps.quad_stamp.Goals.{Start}

-- `cover::stamps::quad_stamp` meets its contract: the stamp of its corners.

bounded : (s : Start) → let a = s.args in AllBounded (places (Quad a.x0 a.y0 a.x1 a.y1 a.x2 a.y2 a.x3 a.y3))
bounded s = let a = s.args in places_bounded (Quad a.x0 a.y0 a.x1 a.y1 a.x2 a.y2 a.x3 a.y3) s.requires.places

pub framed-requires : goal.framed-requires
framed-requires s =
    let b = bounded (goal.at.framed-requires s).Start in
    record { corners = (arg tt (ldw w32 tt b.0), arg tt (ldw w32 tt b.1.0), arg tt (ldw w32 tt b.1.1.0), arg tt (ldw w32 tt b.1.1.1.0), arg tt (ldw w32 tt b.1.1.1.1.0), arg tt (ldw w32 tt b.1.1.1.1.1.0), arg tt (ldw w32 tt b.1.1.1.1.1.1.0), arg tt (ldw w32 tt b.1.1.1.1.1.1.1.0)); window = (s.requires.window.0, s.requires.window.1, s.requires.sizes.w_high, s.requires.sizes.h_high) }

pub framed_stamp-requires : goal.framed_stamp-requires
framed_stamp-requires c =
    let b = bounded (goal.at.framed_stamp-requires c).Start in
    record { corners = (arg tt (ldw w32 tt b.0), arg tt (ldw w32 tt b.1.0), arg tt (ldw w32 tt b.1.1.0), arg tt (ldw w32 tt b.1.1.1.0), arg tt (ldw w32 tt b.1.1.1.1.0), arg tt (ldw w32 tt b.1.1.1.1.1.0), arg tt (ldw w32 tt b.1.1.1.1.1.1.0), arg tt (ldw w32 tt b.1.1.1.1.1.1.1.0)); window = c.requires.window; places = c.framed.ensures c.if-framed.true }

pub returns-then-framed : goal.returns-then-framed
returns-then-framed c =
    let b = bounded (goal.at.returns-then-framed c).Start in
    rw (rd w32 tt b.0, rd w32 tt b.1.0, rd w32 tt b.1.1.0, rd w32 tt b.1.1.1.0, rd w32 tt b.1.1.1.1.0, rd w32 tt b.1.1.1.1.1.0, rd w32 tt b.1.1.1.1.1.1.0, rd w32 tt b.1.1.1.1.1.1.1.0) at c.framed_stamp.ensures
