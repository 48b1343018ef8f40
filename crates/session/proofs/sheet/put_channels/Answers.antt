use mathlib.Core.Path.{sym, ◌∙◌}
use mathlib.Core.List.{map}
use lib.ListN.{length-map, get_or-map}
use Rattle.laws.specs.Fill.{agree-more, agree-all}
use Rattle.session.specs.Session.{channel}
use native.Mathlib.Omega.{arith}
use Rattle.session.proofs.sheet.put_channels.Goals as goal

-- `session::sheet::put_channels` meets its contract: the channels written so far are those of the bytes passed.

pub loop-i-preserved : goal.loop-i-preserved
loop-i-preserved c =
    let l = c.loop-i in
    let a = c.args in
    agree-more l.out (map channel a.bytes.now) l.i (channel 0) _ (l.auto.out ∙ sym c.requires ∙ sym (length-map a.bytes.now channel)) (omega arith) l.invariant
    (c.channel.ensures ∙ sym (get_or-map channel a.bytes.now l.i 0))

pub returns : goal.returns
returns c =
    let l = c.loop-i in
    let a = c.args in
    agree-all l.out (map channel a.bytes.now) l.i (l.auto.out ∙ sym c.requires ∙ sym (length-map a.bytes.now channel)) (omega (arith, length-map a.bytes.now channel)) l.invariant
