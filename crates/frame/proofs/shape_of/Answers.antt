use mathlib.Core.Path.{refl}
use mir.Syntax.{w32}
use Rattle.cover.specs.declared.Kind.TheVariants.{Circle, Triangle, Quad}
use Rattle.laws.specs.Fit.{read}
use Rattle.frame.specs.FrameLaws.{shape_found}
use Rattle.frame.specs.Inside.{ShapeFound}
use Rattle.frame.proofs.shape_of.Goals as goal

-- `frame::shape_of` meets its contract: each coordinate as it was read.

pub returns-in-1-eq12 : goal.returns-in-1-eq12
returns-in-1-eq12 c =
    let o = c.opacity_of-opacity in
    simp (read w32 c.coordinate.result c.coordinate.type_inv, read w32 c.coordinate-in-1-eq12.result c.coordinate-in-1-eq12.type_inv, read w32 c.coordinate-in-1-eq12-2.result c.coordinate-in-1-eq12-2.type_inv)
    (ShapeFound.found _ _ (shape_found c.args.bytes.now (Circle c.coordinate.result c.coordinate-in-1-eq12.result c.coordinate-in-1-eq12-2.result) o.result 1 (record { named = refl; held = (c.coordinate.ensures, (c.coordinate-in-1-eq12.ensures, (c.coordinate-in-1-eq12-2.ensures, tt))); size = c.in-1-eq12.is-1 }) c.in-1-eq12.is-0 o.ensures o.type_inv) refl)

pub returns-in-2-eq18 : goal.returns-in-2-eq18
returns-in-2-eq18 c =
    let o = c.opacity_of-opacity in
    simp (read w32 c.coordinate-in-2-eq18.result c.coordinate-in-2-eq18.type_inv, read w32 c.coordinate-in-2-eq18-2.result c.coordinate-in-2-eq18-2.type_inv, read w32 c.coordinate-in-2-eq18-3.result c.coordinate-in-2-eq18-3.type_inv, read w32 c.coordinate-in-2-eq18-4.result c.coordinate-in-2-eq18-4.type_inv, read w32 c.coordinate-in-2-eq18-5.result c.coordinate-in-2-eq18-5.type_inv, read w32 c.coordinate-in-2-eq18-6.result c.coordinate-in-2-eq18-6.type_inv)
    (ShapeFound.found _ _ (shape_found c.args.bytes.now (Triangle c.coordinate-in-2-eq18.result c.coordinate-in-2-eq18-2.result c.coordinate-in-2-eq18-3.result c.coordinate-in-2-eq18-4.result c.coordinate-in-2-eq18-5.result c.coordinate-in-2-eq18-6.result) o.result 2 (record { named = refl; held = (c.coordinate-in-2-eq18.ensures, (c.coordinate-in-2-eq18-2.ensures, (c.coordinate-in-2-eq18-3.ensures, (c.coordinate-in-2-eq18-4.ensures, (c.coordinate-in-2-eq18-5.ensures, (c.coordinate-in-2-eq18-6.ensures, tt)))))); size = c.in-2-eq18.is-1 }) c.in-2-eq18.is-0 o.ensures o.type_inv) refl)

pub returns-in-3-eq22 : goal.returns-in-3-eq22
returns-in-3-eq22 c =
    let o = c.opacity_of-opacity in
    simp (read w32 c.coordinate-in-3-eq22.result c.coordinate-in-3-eq22.type_inv, read w32 c.coordinate-in-3-eq22-2.result c.coordinate-in-3-eq22-2.type_inv, read w32 c.coordinate-in-3-eq22-3.result c.coordinate-in-3-eq22-3.type_inv, read w32 c.coordinate-in-3-eq22-4.result c.coordinate-in-3-eq22-4.type_inv, read w32 c.coordinate-in-3-eq22-5.result c.coordinate-in-3-eq22-5.type_inv, read w32 c.coordinate-in-3-eq22-6.result c.coordinate-in-3-eq22-6.type_inv, read w32 c.coordinate-in-3-eq22-7.result c.coordinate-in-3-eq22-7.type_inv, read w32 c.coordinate-in-3-eq22-8.result c.coordinate-in-3-eq22-8.type_inv)
    (ShapeFound.found _ _ (shape_found c.args.bytes.now (Quad c.coordinate-in-3-eq22.result c.coordinate-in-3-eq22-2.result c.coordinate-in-3-eq22-3.result c.coordinate-in-3-eq22-4.result c.coordinate-in-3-eq22-5.result c.coordinate-in-3-eq22-6.result c.coordinate-in-3-eq22-7.result c.coordinate-in-3-eq22-8.result) o.result 3 (record { named = refl; held = (c.coordinate-in-3-eq22.ensures, (c.coordinate-in-3-eq22-2.ensures, (c.coordinate-in-3-eq22-3.ensures, (c.coordinate-in-3-eq22-4.ensures, (c.coordinate-in-3-eq22-5.ensures, (c.coordinate-in-3-eq22-6.ensures, (c.coordinate-in-3-eq22-7.ensures, (c.coordinate-in-3-eq22-8.ensures, tt)))))))); size = c.in-3-eq22.is-1 }) c.in-3-eq22.is-0 o.ensures o.type_inv) refl)
