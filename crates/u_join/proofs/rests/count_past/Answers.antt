use Rattle.std.proofs.Common.{sym, subst, ◌∙◌}
use Rattle.std.proofs.lemmas.Bool.{true≢false}
use Rattle.cell_boxes.proofs.RowLemmas.{one_row}
use Rattle.u_join.specs.RowPairs.{seen}
use Rattle.u_join.specs.Rests.{IsPast}
use Rattle.u_join.proofs.rests.count_past.Goals as goal

pub returns-else-is_past-clause-next : goal.returns-else-is_past-clause-next
returns-else-is_past-clause-next c = λ y a h.
    let x = c.index-rows-count.result in
    let same = one_row c.args.rows.now c.loop-count.count y x a (a.0, sym c.index-rows-count.is) in
    true≢false (sym (c.is_past.ensures.1 (subst (λ z. IsPast (seen c.args.other.now) (seen z)) same h)) ∙ c.if-is_past.false)
