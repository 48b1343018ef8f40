use native.Mathlib.Omega.{arith}
use mathlib.Core.Path.{◌≡◌, ◌∙◌, ap, subst}
use Prim.Native.Nat.{ℕ, ◌*◌, ◌/◌, ◌^◌, ◌≤◌}
use native.Mathlib.Nat.{mul-le-mul}
use lib.IntN.{ℤ, pos, ◌+ℤ◌, ◌*ℤ◌}
use mir.Syntax.{w32}
use Rattle.laws.specs.Bounds.{Some, some, ldw, unsigned, is+, is*, fits+, fits*}
use Rattle.whole.specs.Whole.{ClampI64Says}
use Rattle.whole.specs.WholeLaws.{clamp_is}
use Rattle.polygon.specs.Polygon.{at}
use Rattle.polygon.specs.Steps.{Cuts, InnerOf}
use Rattle.polygon.specs.EdgeLaws.{reciprocal, quotient_few, keeps_from, keeps_to}
use Rattle.polygon.proofs.edges.cut_row.Goals as goal
use Rattle.polygon.proofs.edges.cut_row.Goals.{After-brought-number, Start}

-- `polygon::cut_row` meets its contract: the product without its last digits is the quotient, and that is the edge's column.

-- the edge's number in the row
abbrev row : Start → Some
row s = some (unsigned w32 s.args.y 255 (omega (arith, s.requires.row)) tt)

abbrev fall : Start → Some
fall s = some (is* w32 tt (ldw w32 tt s.requires.edge.step) (row s).is)

abbrev reached : Start → Some
reached s = some (is+ w32 tt (ldw w32 tt s.requires.edge.start) (fall s).is)

pub overflow_mul-reached : goal.overflow_mul-reached
overflow_mul-reached c = fits* tt (ldw w32 tt c.requires.edge.step) (row (goal.at.overflow_mul-reached c).Start).is

pub overflow_add-reached : goal.overflow_add-reached
overflow_add-reached c = fits+ tt (ldw w32 tt c.requires.edge.start) (fall (goal.at.overflow_add-reached c).Start).is

-- what the number that was brought into its range, and the product, are
module _ (d : After-brought-number) where
  abbrev start : Start
  start = d.before.before.before.before.before.before

  abbrev cuts : Cuts (InnerOf start.args.sign (at start.args.xi start.args.yi) (at start.args.xj start.args.yj)) start.args.e
  cuts = start.requires.edge

  abbrev number : ℤ
  number = start.args.e.start +ℤ start.args.e.step *ℤ pos start.args.y

  held : ClampI64Says number (cuts.height * 257) d.brought-number.result
  held =
      subst (λ (m : ℕ). ClampI64Says number m d.brought-number.result) cuts.most
      (subst (λ (z : ℤ). ClampI64Says z start.args.e.most d.brought-number.result) (reached start).is.is d.brought-number.ensures)

  most : d.brought-number.result ≤ cuts.height * 257
  most = (clamp_is number (cuts.height * 257) d.brought-number.result held).0

  column-is : (d.brought-number.result * start.args.e.times) / 2 ^ start.args.e.digits ≡ d.brought-number.result / cuts.height
  column-is =
      ap (λ (t : ℕ). (d.brought-number.result * t) / 2 ^ start.args.e.digits) cuts.times
      ∙ reciprocal d.brought-number.result cuts.height (2 ^ start.args.e.digits) cuts.some cuts.exact most

  few : (d.brought-number.result * start.args.e.times) / 2 ^ start.args.e.digits ≤ 257
  few = omega (arith, column-is, quotient_few d.brought-number.result cuts.height cuts.some most)

  small : d.brought-number.result * start.args.e.times ≤ 4210174 * 4294967296
  small = mul-le-mul {n₂ = 4210174} {m₂ = 4294967296} (omega (arith, most, cuts.few)) (omega (arith, cuts.slim))

pub overflow_mul-column : goal.overflow_mul-column
overflow_mul-column c = record { fits = omega (arith, small (goal.at.overflow_mul-column c).After-brought-number) }

pub overflow_cast-column-3 : goal.overflow_cast-column-3
overflow_cast-column-3 c = record { fits = omega (arith, (cuts (goal.at.overflow_cast-column-3 c).After-brought-number).digits) }

pub overflow_shr-column : goal.overflow_shr-column
overflow_shr-column c = omega (arith, (cuts (goal.at.overflow_shr-column c).After-brought-number).digits)

pub overflow_cast-column-4 : goal.overflow_cast-column-4
overflow_cast-column-4 c = record { fits = omega (arith, few (goal.at.overflow_cast-column-4 c).After-brought-number) }

pub returns-then-e : goal.returns-then-e
returns-then-e c =
    let s = start (goal.at.returns-then-e c).After-brought-number in
    rw (c.max.ensures, column-is (goal.at.returns-then-e c).After-brought-number)
    (keeps_from _ (number (goal.at.returns-then-e c).After-brought-number) (cuts (goal.at.returns-then-e c).After-brought-number).height c.brought-number.result s.args.lo s.args.hi (cuts (goal.at.returns-then-e c).After-brought-number).some (held (goal.at.returns-then-e c).After-brought-number) s.requires.columns ((cuts (goal.at.returns-then-e c).After-brought-number).first c.if-e.true s.args.y))

pub returns : goal.returns
returns c =
    let s = start (goal.at.returns c).After-brought-number in
    rw (c.min.ensures, column-is (goal.at.returns c).After-brought-number)
    (keeps_to _ (number (goal.at.returns c).After-brought-number) (cuts (goal.at.returns c).After-brought-number).height c.brought-number.result s.args.lo s.args.hi (cuts (goal.at.returns c).After-brought-number).some (held (goal.at.returns c).After-brought-number) s.requires.columns ((cuts (goal.at.returns c).After-brought-number).last c.if-e.false s.args.y))
