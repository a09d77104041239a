use Rattle.std.proofs.Common.{◌≡◌, ◌<◌, ℕ, List, [], ◌∷◌, ◌++◌, length, map, get_or, take, Ok, sym, ap, ap₂, ◌∙◌, subst, arith, Option}
use Rattle.base_core.specs.Outcomes.{least_of_all}
use Rattle.point_core.specs.Faults.{OrFault}
use Rattle.point_core.specs.declared.fault.Fault.{Fault}
use Rattle.value_core.specs.Values.{Row, Value as PlainValue}
use Rattle.scalar_core.specs.Expressions.{read}
use Rattle.scalar_core.specs.Kinds.{IsTypedOver}
use Rattle.scalar_core.specs.ScalarValues.{value}
use Rattle.point_core.specs.LeastFault.{lesser_of}
use Rattle.relation_core.specs.Faults.{fault_of, values_of}
use Rattle.point_core.specs.Orders.{fault_order}
use Rattle.relation_core.proofs.FaultLemmas.{least_more, values_more, with_fault, all_values}
use Rattle.relation_core.proofs.FilterLemmas.{take_all}
use Rattle.row_making.proofs.SummaryLemmas.{values_by_numbers, row_at}
use Rattle.row_making.proofs.aggregates.values_over.Goals as goal

pub value_on-answer-requires : goal.value_on-answer-requires
value_on-answer-requires c =
    let l : c.loop-number.number-index < length c.args.numbers.now = omega arith in
    let below = c.requires.within c.loop-number.number-index 0 l in
    subst (λ (z : Row). IsTypedOver z (read c.args.e.now)) (sym c.index-rows-number.is) (c.requires.typed (get_or c.args.numbers.now c.loop-number.number-index 0) c.index-rows-number.result below)

pub loop-number-preserved : goal.loop-number-preserved
loop-number-preserved c =
    let l : c.loop-number.number-index < length c.args.numbers.now = omega arith in
    let below = c.requires.within c.loop-number.number-index 0 l in
    let f : ℕ → OrFault PlainValue = λ i. value (read c.args.e.now) (get_or c.args.rows.now i []) in
    let m = value (read c.args.e.now) c.index-rows-number.result in
    let same : value (read c.args.e.now) (get_or c.args.rows.now (get_or c.args.numbers.now c.loop-number.number-index 0) []) ≡ value (read c.args.e.now) c.index-rows-number.result =
    ap (value (read c.args.e.now)) (sym (row_at c.args.rows.now (get_or c.args.numbers.now c.loop-number.number-index 0) c.index-rows-number.result below c.index-rows-number.is)) in
    let fault = c.in_ok-take_value.ensures.fault m c.value_on-answer.ensures in
    let values = c.in_ok-take_value.ensures.rows m c.value_on-answer.ensures in
    let e0 = least_more f c.args.numbers.now c.loop-number.number-index 0 l in
    let e1 = values_more f c.args.numbers.now c.loop-number.number-index 0 l in
    record {
      least = fault ∙ (ap₂ (λ (a b : Option Fault). lesser_of a b) c.loop-number.invariant.least (ap (λ (z : OrFault PlainValue). fault_of z) (sym same)) ∙ sym e0);
      values = values ∙ (ap₂ (λ (a b : List PlainValue). a ++ b) c.loop-number.invariant.values (ap (λ (z : OrFault PlainValue). values_of (z ∷ [])) (sym same)) ∙ sym e1);
    }

pub returns-in-Some : goal.returns-in-Some
returns-in-Some c =
    let f : ℕ → OrFault PlainValue = λ i. value (read c.args.e.now) (get_or c.args.rows.now i []) in
    let whole : take c.loop-number.number-index c.args.numbers.now ≡ c.args.numbers.now = take_all c.loop-number.number-index c.args.numbers.now (omega arith) in
    let least = sym (c.loop-number.invariant.least ∙ ap (λ (ns : List ℕ). fault_of (least_of_all fault_order (map f ns))) whole) ∙ c.in-Some.is in
    sym (values_by_numbers (read c.args.e.now) c.args.rows.now c.args.numbers.now) ∙ with_fault (least_of_all fault_order (map f c.args.numbers.now)) c.in-Some.fault least

pub returns-in-None : goal.returns-in-None
returns-in-None c =
    let f : ℕ → OrFault PlainValue = λ i. value (read c.args.e.now) (get_or c.args.rows.now i []) in
    let whole : take c.loop-number.number-index c.args.numbers.now ≡ c.args.numbers.now = take_all c.loop-number.number-index c.args.numbers.now (omega arith) in
    let least = sym (c.loop-number.invariant.least ∙ ap (λ (ns : List ℕ). fault_of (least_of_all fault_order (map f ns))) whole) ∙ c.in-None.is in
    sym (values_by_numbers (read c.args.e.now) c.args.rows.now c.args.numbers.now) ∙ (all_values (map f c.args.numbers.now) least
    ∙ ap (λ (vs : List PlainValue). Ok vs) (sym (c.loop-number.invariant.values ∙ ap (λ (ns : List ℕ). values_of (map f ns)) whole)))
