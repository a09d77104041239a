use Rattle.std.proofs.Common.{◌≡◌, List, map, Ok, sym, ap, ◌∙◌}
use Rattle.base_core.specs.Outcomes.{then_give}
use Rattle.point_core.specs.Faults.{OrFault}
use Rattle.value_core.specs.Plain.{plain}
use Rattle.value_core.specs.Values.{Value as PlainValue}
use Rattle.value_core.specs.declared.value.Value.{Value}
use Rattle.u_summary.specs.Summaries.{is_before}
use Rattle.u_summary.proofs.ExtremeLemmas.{after_ranks}
use Rattle.meaning_core.specs.Rows.{extreme, picked}
use Rattle.row_making.proofs.SummaryLemmas.{picked_best}
use Rattle.row_making.proofs.aggregates.greatest_of.Goals as goal

pub returns : goal.returns
returns c =
    let best = c.greatest-best.result in
    let one = c.as_slice.ensures.value in
    let two = c.as_slice-2.ensures.value in
    let picks = picked_best (λ v w. is_before w v) after_ranks c.as_slice.result.now best c.greatest-best.ensures.first c.greatest-best.ensures.none in
    let value : plain c.in_ok-value.value ≡ extreme (λ v w. is_before w v) (map plain c.in_ok-values.values.items) =
    c.in_ok-value.ensures ∙ (ap (λ (l : List Value). picked best (map plain l)) (two ∙ sym one) ∙ (picks ∙ ap (λ (l : List Value). extreme (λ v w. is_before w v) (map plain l)) one)) in
    ap (λ (m : OrFault (List PlainValue)). then_give m (λ vs. Ok (extreme (λ v w. is_before w v) vs))) c.in_ok-values.ensures ∙ ap (λ (v : PlainValue). Ok v) (sym value)
