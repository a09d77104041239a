use Rattle.base_core.specs.Sets.{has}
use Rattle.value_core.specs.Values.{Row, row_cmp}
use Rattle.relation_core.specs.Agreement.{part_of}
use Rattle.relation_core.proofs.growth.touched.Goals as goal

pub selection-requires : goal.selection-requires
selection-requires c = (λ (x : Row). has row_cmp c.as_slice.result.now (part_of c.args.positions.now x), c.in_ok-rows.ensures.rows)
