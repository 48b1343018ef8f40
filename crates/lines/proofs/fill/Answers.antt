use Rattle.std.proofs.Common.{◌≡◌, ◌+◌, arith, length}
use lib.Seq.{take-length}
use Rattle.lines.specs.HexLaws.{fill_step, digit_some}
use Rattle.lines.proofs.fill.Goals as goal

-- `lines::fill` meets its contract. The loop's invariant: the bytes written spell the characters passed.

pub unwrap-high-requires : goal.unwrap-high-requires
unwrap-high-requires c = digit_some c.digit_of.ensures (c.requires.1 (c.loop-i.i + c.loop-i.i) (omega arith))

pub unwrap-low-requires : goal.unwrap-low-requires
unwrap-low-requires c = digit_some c.digit_of-in-loop-i.ensures (c.requires.1 (c.loop-i.i + c.loop-i.i + 1) (omega arith))

pub overflow_mul-out : goal.overflow_mul-out
overflow_mul-out c =
    let h = c.digit_of.ensures.value c.unwrap-high.result c.unwrap-high.ensures in
    omega arith

pub overflow_add-out : goal.overflow_add-out
overflow_add-out c =
    let h = c.digit_of.ensures.value c.unwrap-high.result c.unwrap-high.ensures in
    let l = c.digit_of-in-loop-i.ensures.value c.unwrap-low.result c.unwrap-low.ensures in
    omega arith

pub loop-i-preserved : goal.loop-i-preserved
loop-i-preserved c =
    let k = c.loop-i in
    let h = c.digit_of.ensures.value c.unwrap-high.result c.unwrap-high.ensures in
    let l = c.digit_of-in-loop-i.ensures.value c.unwrap-low.result c.unwrap-low.ensures in
    let e : k.i + 1 + (k.i + 1) ≡ k.i + k.i + 2 = omega arith in
    rw e (fill_step c.args.line.now k.out k.i (k.i + k.i) c.unwrap-high.result c.unwrap-low.result (omega arith) (omega arith) h.0 l.0 h.1 l.1 k.invariant)

pub returns : goal.returns
returns c =
    let k = c.loop-i in
    let e : k.i + k.i ≡ length c.args.line.now = omega arith in
    let f : k.i ≡ length k.out = omega arith in
    rw (e, take-length, f, take-length) at k.invariant
