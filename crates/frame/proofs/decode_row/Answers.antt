use mathlib.Core.Path.{refl, sym, ap}
use native.Mathlib.Omega.{arith}
use lib.ListN.{get_or, drop, length-drop}
use Rattle.frame.specs.FrameLaws.{asks_row, no_row}
use Rattle.refusal.specs.Outcomes.{Done}
use Rattle.frame.specs.Frames.{DecodeSays, row}
use Rattle.frame.specs.declared.Request.TheVariants.{Row}
use Rattle.frame.proofs.decode_row.Goals as goal

-- `frame::decode_row` meets its contract: 2 to 50 bytes are the frame of what stands in them.

pub returns-then-n-lt2 : goal.returns-then-n-lt2
returns-then-n-lt2 c = DecodeSays.refused (no_row c.args.bytes.now c.requires.1 (λ h. omega arith)) refl

pub returns-then-n-gt50 : goal.returns-then-n-gt50
returns-then-n-gt50 c = DecodeSays.refused (no_row c.args.bytes.now c.requires.1 (λ h. omega arith)) refl

pub returns : goal.returns
returns c =
    let bytes = c.args.bytes.now in
    DecodeSays.asked (row (get_or bytes 1 0) (drop 2 bytes)) (asks_row bytes (omega arith) (omega arith) c.requires.1 (λ k. (c.type_inv.bytes k).fits))
    (ap (λ n. Done (Row (get_or bytes 1 0) n)) (sym (length-drop 2 bytes)))
