use Rattle.std.proofs.Common.{◌∙◌}
use Rattle.assign_core.proofs.NameLemmas.{insert_new}
use Rattle.assign_core.proofs.appending.append_rule.Goals as goal

pub returns-clause-ok : goal.returns-clause-ok
returns-clause-ok c = c.in_ok-insert.ensures.entries ∙ insert_new c.args.relvars.now.rules.entries c.args.name c.args.test c.requires
