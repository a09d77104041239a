use Rattle.std.proofs.Common.{is_eq, ap, sym, ◌∙◌}
use Rattle.std.specs.Cmp.Lexicographic.{slice_cmp}
use Rattle.std.proofs.lemmas.Cmp.{lists_total, tied_itself}
use Rattle.base_core.proofs.OrderingLemmas.{is_eq-Equal}
use Rattle.cell_core.proofs.OrderLemmas.{list_separates}
use Rattle.value_core.specs.Order.{row_total, row_separates}
use Rattle.value_core.specs.Values.{row_cmp}
use Rattle.u_set.proofs.row_comparison.are_one.Goals as goal

pub returns : goal.returns
returns c = (
  λ t. list_separates row_separates c.args.x.now c.args.y.now (sym c.cmp.ensures ∙ is_eq-Equal c.cmp.result (sym c.is_eq.ensures ∙ t)),
  λ q. c.is_eq.ensures ∙ ap is_eq (c.cmp.ensures ∙ ap (slice_cmp row_cmp c.args.x.now) (sym q) ∙ tied_itself (lists_total row_total) c.args.x.now),
)
