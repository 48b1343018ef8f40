use Rattle.std.proofs.Common.{sym}
use Rattle.refusal.specs.OutcomeLaws.{number-of-ok}
use Rattle.demands.specs.KeepLaws.{answered_kept}
use Rattle.run_paint.proofs.pairs.both.Goals as goal

-- `two_calls` asks for the table that the build left.

pub two_calls-n-requires : goal.two_calls-n-requires
two_calls-n-requires g c =
    let k = answered_kept 4 3 _ _ _ _ _ (number-of-ok c.build.result (sym (c.if-is_ok.ensures).value)) c.build.ensures in
    record { built = k; room = sym k.built.size }
