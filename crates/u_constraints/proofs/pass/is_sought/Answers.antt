use Rattle.std.proofs.Common.{◌∙◌}
use Rattle.std.specs.Cmp.{nat_cmp_total}
use Rattle.std.specs.Ordering.{nat_cmp}
use Rattle.value_core.proofs.RelationLemmas.{searched_has}
use Rattle.u_constraints.proofs.pass.is_sought.Goals as goal

pub returns-then-may_be_sought : goal.returns-then-may_be_sought
returns-then-may_be_sought c =
    c.is_ok.ensures.value ∙ searched_has nat_cmp nat_cmp_total c.args.sought.now c.args.hash c.binary_search.result c.requires.order c.binary_search.ensures.bound c.binary_search.ensures.position
