use mathlib.Core.Path.{refl, sym, subst}
use Rattle.frame.specs.ReadLaws.{spelled, not-spelled, read-not-spelled, read_asked, read-refused}
use Rattle.frame.specs.Frames.{ReadFrameSays}
use Rattle.frame.proofs.read_frame.Goals as goal

-- `frame::read_frame` meets its contract: what the digits spell, then what the bytes ask for.

pub returns-in_default : goal.returns-in_default
returns-in_default c =
    let n = not-spelled _ c.in_default.ensures refl in
    subst (ReadFrameSays _) (sym c.unread.ensures) (read-not-spelled c.args.line.now n)

pub returns-in_default-decode : goal.returns-in_default-decode
returns-in_default-decode c =
    let s = spelled _ c.in-Ok.ensures refl in
    subst (ReadFrameSays _) (sym c.unread-in_default-decode.ensures) (read-refused s _ c.in_default-decode.ensures)

pub returns : goal.returns
returns c =
    let s = spelled _ c.in-Ok.ensures refl in
    read_asked s _ c.in-Ok-decode.ensures
