use Rattle.std.proofs.Common.{◌≡◌, ◌+◌, arith}
use Rattle.lines.specs.WriteLaws.{line_step, line-end, no_line}
use Rattle.lines.proofs.write_line.Goals as goal

-- `lines::write_line` meets its contract. The loop's invariant: the digits of the bytes passed stand before what the buffer held.

pub returns-then-out-bytes : goal.returns-then-out-bytes
returns-then-out-bytes c = no_line c.args.bytes.now c.args.out.now c.if-out-bytes.true

pub loop-i-preserved : goal.loop-i-preserved
loop-i-preserved c =
    let k = c.loop-i in
    let a = c.args in
    let e : k.i + 1 + (k.i + 1) ≡ k.i + k.i + 2 = omega arith in
    rw (c.character.ensures, c.character-in-loop-i.ensures, e) (line_step a.bytes.now a.out.now k.out k.i (omega arith) (omega arith) k.invariant)

pub returns : goal.returns
returns c =
    let k = c.loop-i in
    line-end c.args.bytes.now c.args.out.now k.out k.i (omega arith) (omega arith) k.invariant
