use Rattle.std.proofs.Common.{sym, ap, ap₂, ◌∙◌}
use Rattle.std.specs.Ordering.{is_eq}
use Rattle.base_core.proofs.OrderingLemmas.{is_eq-Equal}
use Rattle.value_core.specs.Order.{value_separates}
use Rattle.value_core.specs.Values.{value_cmp}
use Rattle.u_constraints.proofs.runs.are_equal.Goals as goal

pub returns : goal.returns
returns c = λ t. value_separates _ _ (is_eq-Equal _ (sym (ap is_eq (c.cmp.ensures ∙ ap₂ value_cmp c.value_or.ensures c.value_or-2.ensures)) ∙ (sym c.is_eq.ensures ∙ t)))
