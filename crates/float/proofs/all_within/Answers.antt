use Rattle.std.proofs.Common.{sym, ◌∙◌}
use Rattle.float.specs.MarksLaws.{none_within}
use Rattle.float.proofs.all_within.Goals as goal

pub returns-else-all_numbers : goal.returns-else-all_numbers
returns-else-all_numbers c = c.if-all_numbers.false ∙ sym (none_within c.args.xs.now (sym c.all_numbers.ensures ∙ c.if-all_numbers.false))
