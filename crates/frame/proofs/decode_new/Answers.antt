use mathlib.Core.Path.{refl}
use Rattle.frame.specs.FrameLaws.{asks_new, no_new}
use Rattle.frame.specs.Frames.{DecodeSays}
use Rattle.frame.proofs.decode_new.Goals as goal

-- `frame::decode_new` meets its contract: six bytes are the frame of what stands in them.

pub returns : goal.returns
returns c =
    DecodeSays.asked _ (asks_new c.args.bytes.now c.if-bytes-ne6.false c.requires.1 (λ k. (c.type_inv.bytes k).fits)) refl

pub returns-then-bytes-ne6 : goal.returns-then-bytes-ne6
returns-then-bytes-ne6 c = DecodeSays.refused (no_new c.args.bytes.now c.requires.1 c.if-bytes-ne6.true) refl
