use mathlib.Core.Bool.{false}
use mathlib.Core.Path.{◌≡◌, sym, subst}
use mir.Syntax.{w32}
use Rattle.laws.specs.Bounds.{rd}
use Rattle.cover.specs.declared.Kind.{Kind}
use Rattle.cover.specs.Cover.{bad_places, places}
use Rattle.cover.specs.CoverLaws.{AllBounded, places_bounded}
use Rattle.cover.specs.Stamps.{StampSays}
use Rattle.cover.proofs.stamps.stamp_of.Goals as goal
use Rattle.cover.proofs.stamps.stamp_of.Goals.{Start}

-- `cover::stamps::stamp_of` meets its contract: each kind's stamp is that of the shape.

-- the places of a kind that is known
bounded : (s : Start) (k : Kind) → s.args.kind ≡ k → AllBounded (places k)
bounded s k e = subst (λ (t : Kind). AllBounded (places t)) e (places_bounded s.args.kind s.requires.places)

good : (s : Start) (k : Kind) → s.args.kind ≡ k → bad_places k ≡ false
good s k e = subst (λ (t : Kind). bad_places t ≡ false) e s.requires.places

stamped : (s : Start) (k : Kind) (r : _) → s.args.kind ≡ k → StampSays k s.args.left s.args.top s.args.w s.args.h r → StampSays s.args.kind s.args.left s.args.top s.args.w s.args.h r
stamped s k r e g = subst (λ (t : Kind). StampSays t s.args.left s.args.top s.args.w s.args.h r) (sym e) g

pub circle_stamp-requires : goal.circle_stamp-requires
circle_stamp-requires c =
    let e = c.in-Circle.is in
    let b = bounded (goal.at.circle_stamp-requires c).Start _ e in
    record { sizes = c.requires.sizes; places = rw (rd w32 tt b.0, rd w32 tt b.1.0, rd w32 tt b.1.1.0) (good (goal.at.circle_stamp-requires c).Start _ e); window = c.requires.window }

pub triangle_stamp-requires : goal.triangle_stamp-requires
triangle_stamp-requires c =
    let e = c.in-Triangle.is in
    let b = bounded (goal.at.triangle_stamp-requires c).Start _ e in
    record { sizes = c.requires.sizes; places = rw (rd w32 tt b.0, rd w32 tt b.1.0, rd w32 tt b.1.1.0, rd w32 tt b.1.1.1.0, rd w32 tt b.1.1.1.1.0, rd w32 tt b.1.1.1.1.1.0) (good (goal.at.triangle_stamp-requires c).Start _ e); window = c.requires.window }

pub quad_stamp-requires : goal.quad_stamp-requires
quad_stamp-requires c =
    let e = c.in-Quad.is in
    let b = bounded (goal.at.quad_stamp-requires c).Start _ e in
    record { sizes = c.requires.sizes; places = rw (rd w32 tt b.0, rd w32 tt b.1.0, rd w32 tt b.1.1.0, rd w32 tt b.1.1.1.0, rd w32 tt b.1.1.1.1.0, rd w32 tt b.1.1.1.1.1.0, rd w32 tt b.1.1.1.1.1.1.0, rd w32 tt b.1.1.1.1.1.1.1.0) (good (goal.at.quad_stamp-requires c).Start _ e); window = c.requires.window }

pub returns-in-Circle : goal.returns-in-Circle
returns-in-Circle c =
    let e = c.in-Circle.is in
    let b = bounded (goal.at.returns-in-Circle c).Start _ e in
    stamped (goal.at.returns-in-Circle c).Start _ _ e (rw (rd w32 tt b.0, rd w32 tt b.1.0, rd w32 tt b.1.1.0) at c.circle_stamp.ensures)

pub returns-in-Triangle : goal.returns-in-Triangle
returns-in-Triangle c =
    let e = c.in-Triangle.is in
    let b = bounded (goal.at.returns-in-Triangle c).Start _ e in
    stamped (goal.at.returns-in-Triangle c).Start _ _ e (rw (rd w32 tt b.0, rd w32 tt b.1.0, rd w32 tt b.1.1.0, rd w32 tt b.1.1.1.0, rd w32 tt b.1.1.1.1.0, rd w32 tt b.1.1.1.1.1.0) at c.triangle_stamp.ensures)

pub returns-in-Quad : goal.returns-in-Quad
returns-in-Quad c =
    let e = c.in-Quad.is in
    let b = bounded (goal.at.returns-in-Quad c).Start _ e in
    stamped (goal.at.returns-in-Quad c).Start _ _ e (rw (rd w32 tt b.0, rd w32 tt b.1.0, rd w32 tt b.1.1.0, rd w32 tt b.1.1.1.0, rd w32 tt b.1.1.1.1.0, rd w32 tt b.1.1.1.1.1.0, rd w32 tt b.1.1.1.1.1.1.0, rd w32 tt b.1.1.1.1.1.1.1.0) at c.quad_stamp.ensures)
