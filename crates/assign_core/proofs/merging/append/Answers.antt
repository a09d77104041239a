use Rattle.std.proofs.Common.{◌∙◌}
use Rattle.value_core.proofs.AppendingLemmas.{union_appended}
use Rattle.assign_core.proofs.merging.append.Goals as goal

pub returns : goal.returns
returns c = c.in-Ok.ensures.items ∙ union_appended c.args.rows.now.items c.args.come.items c.requires.ascending
