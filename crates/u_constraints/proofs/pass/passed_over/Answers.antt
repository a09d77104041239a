use Rattle.std.proofs.Common.{◌∙◌}
use Rattle.base_core.specs.Sets.{has}
use Rattle.value_core.specs.Values.{row_cmp}
use Rattle.relation_core.specs.Agreement.{part_of}
use Rattle.u_constraints.proofs.pass.passed_over.Goals as goal

pub selection-requires : goal.selection-requires
selection-requires c = (λ x. has row_cmp c.args.keys.now (part_of c.args.hashes.now.positions x), c.in_ok-rows.ensures.rows)

pub returns : goal.returns
returns c = (c.in_ok-relation.ensures.0, c.in_ok-relation.ensures.1 ∙ c.in_ok-rows.ensures.rows)
