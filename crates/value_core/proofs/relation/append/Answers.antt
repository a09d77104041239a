use Rattle.std.proofs.Common.{◌∙◌}
use Rattle.value_core.proofs.AppendingLemmas.{union_appended}
use Rattle.value_core.proofs.relation.append.Goals as goal

pub returns-clause-ok : goal.returns-clause-ok
returns-clause-ok c = c.in_ok-append.ensures.items ∙ union_appended c.args.rows.now.items c.args.more.items c.requires
