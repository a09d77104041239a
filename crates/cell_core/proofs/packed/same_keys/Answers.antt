use Rattle.std.proofs.Common.{is_eq, ap, sym, ◌∙◌}
use Rattle.std.specs.Cmp.Lexicographic.{slice_cmp}
use Rattle.std.proofs.lemmas.Cmp.{lists_total, tied_itself}
use Rattle.base_core.proofs.OrderingLemmas.{is_eq-Equal}
use Rattle.cell_sweep.specs.Rows.{key_cmp, key_total}
use Rattle.cell_core.proofs.OrderLemmas.{list_separates, key_separates}
use Rattle.cell_core.proofs.packed.same_keys.Goals as goal

pub returns : goal.returns
returns g c =
    let order = key_cmp g.P.Label.order in
    let total = lists_total (key_total g.met.P.Label.total) in (
      λ t. list_separates (key_separates g.met.P.Label.separates) c.args.a.now c.args.b.now (sym c.cmp.ensures ∙ is_eq-Equal c.cmp.result (sym c.is_eq.ensures ∙ t)),
      λ q. c.is_eq.ensures ∙ ap is_eq (c.cmp.ensures ∙ ap (slice_cmp order c.args.a.now) (sym q) ∙ tied_itself total c.args.a.now),
    )
