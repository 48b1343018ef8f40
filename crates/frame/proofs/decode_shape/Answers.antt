use mathlib.Core.Path.{refl}
use native.Mathlib.Omega.{arith}
use Rattle.frame.specs.FrameLaws.{asks_score, asks_paint, no_shape, shape_some, shape-none}
use Rattle.frame.specs.Frames.{DecodeSays, score, paint}
use Rattle.frame.proofs.decode_shape.Goals as goal

-- `frame::decode_shape` meets its contract by what was found of a shape.

pub returns-in_default : goal.returns-in_default
returns-in_default c =
    DecodeSays.refused (no_shape c.args.bytes.now c.requires.1 (shape-none c.shape_of.ensures c.in_default.is)) refl

pub returns-then-bytes-eq3 : goal.returns-then-bytes-eq3
returns-then-bytes-eq3 c =
    let k = c.in-Some in
    DecodeSays.asked (score k.kind k.opacity) (asks_score c.args.bytes.now k.kind k.opacity c.requires.0 c.if-bytes-eq3.true (shape_some k.kind k.opacity c.shape_of.ensures k.is)) refl

pub returns : goal.returns
returns c =
    let k = c.in-Some in
    DecodeSays.asked (paint k.kind k.opacity) (asks_paint c.args.bytes.now k.kind k.opacity c.requires.0 (omega arith) (shape_some k.kind k.opacity c.shape_of.ensures k.is)) refl
