use Rattle.std.proofs.Common.{Some, None, arith, ⊎_elim}
use Rattle.words.specs.WordLaws.{found_lem, not_found}
use Rattle.words.proofs.scan.find.Goals as goal

-- `scan::find`: what is searched is the text from there on.

pub returns-in_err-get-clause-first : goal.returns-in_err-get-clause-first
returns-in_err-get-clause-first c =
    let g = c.in_err-get.ensures.lookup in
    rw c.from_residual.ensures (not_found c.args.text.now c.args.from c.args.byte (⊎_elim (λ h. h) (λ h. absurd (omega arith)) g.0))

pub returns-in_err-first-clause-first : goal.returns-in_err-first-clause-first
returns-in_err-first-clause-first c =
    let g = c.in_ok-get.ensures.lookup in
    rw c.from_residual-in_err-first.ensures (found_lem c.args.text.now c.args.from c.args.byte g.0.0 None (rw g.0.2 at c.in_err-first.ensures))

pub returns-clause-first : goal.returns-clause-first
returns-clause-first c =
    let g = c.in_ok-get.ensures.lookup in
    found_lem c.args.text.now c.args.from c.args.byte g.0.0 (Some c.in_ok-first.field-0) (rw g.0.2 at c.in_ok-first.ensures)
