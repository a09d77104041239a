use Rattle.std.proofs.Common.{not}
use Rattle.base_core.specs.Sets.{has}
use Rattle.value_core.specs.Values.{Row, row_cmp}
use Rattle.relation_core.proofs.growth.absent.Goals as goal

pub selection-requires : goal.selection-requires
selection-requires c = (λ (x : Row). not (has row_cmp c.args.many.now.rows x), c.in_ok-rows.ensures)
