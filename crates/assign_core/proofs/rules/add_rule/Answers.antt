use Rattle.tree_core.specs.Relvars.{read_relvars}
use Rattle.tree_core.specs.Trees.{read_test}
use Rattle.meaning_core.specs.Declarations.{with_rule}
use Rattle.assign_core.proofs.NameLemmas.{new_rule, rules_differ}
use Rattle.assign_core.proofs.RuleLemmas.{typed_last}
use Rattle.assign_core.proofs.rules.add_rule.Goals as goal

pub holds-kept-requires-clause-typed : goal.holds-kept-requires-clause-typed
holds-kept-requires-clause-typed g c = typed_last (read_relvars c.args.relvars.now) c.args.name (read_test c.args.test) c.requires.more

pub append_if-requires-clause-new : goal.append_if-requires-clause-new
append_if-requires-clause-new g c =
    let s = read_relvars c.args.relvars.now in
    new_rule c.args.relvars.now.rules.entries c.args.name (read_test c.args.test) (rules_differ (with_rule c.args.name (read_test c.args.test) s) c.requires.more)
