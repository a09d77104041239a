use Rattle.std.proofs.Common.{ap, ap₂, ◌∙◌}
use Rattle.std.specs.Ordering.{is_lt}
use Rattle.value_core.specs.Plain.{plain}
use Rattle.value_core.specs.Values.{row_cmp, value_cmp}
use Rattle.value_core.proofs.OrderLemmas.{slice_cmp-map}
use Rattle.u_constraints.proofs.prefixes.begins_less.Goals as goal

pub returns : goal.returns
returns c = c.is_lt.ensures ∙ ap is_lt (c.cmp.ensures ∙ (slice_cmp-map plain value_cmp c.prefix.result.now c.prefix-2.result.now ∙ ap₂ row_cmp c.prefix.ensures c.prefix-2.ensures))
