use Rattle.std.proofs.Common.{sym, ◌∙◌, rules, tests}
use Rattle.std.proofs.lemmas.Iterator.{YieldsList-from_slice}
use Rattle.std.proofs.lemmas.Iterator.Search.{all_from_yields_List}
use Rattle.laws.specs.EveryLaws.{every_is_all}
use Rattle.float.specs.Within.{within}
use Rattle.float.proofs.each_within.Goals as goal

pub returns : goal.returns
returns c =
    let xs = c.args.xs.now in
    all_from_yields_List within _ _ _ c.all.ensures.ran (YieldsList-from_slice xs cc) (λ x b q k. search (rules, tests)) ∙ sym (every_is_all within xs)
