use Rattle.std.proofs.Common.{ap₂, ◌∙◌}
use Rattle.value_core.specs.Plain.{plain}
use Rattle.value_core.specs.Values.{row_cmp, value_cmp}
use Rattle.value_core.proofs.OrderLemmas.{slice_cmp-map}
use Rattle.log_times.proofs.fronts.compare_fronts.Goals as goal

pub returns : goal.returns
returns c = c.cmp.ensures ∙ (slice_cmp-map plain value_cmp c.front.result.now c.front-2.result.now ∙ ap₂ row_cmp c.front.ensures c.front-2.ensures)
