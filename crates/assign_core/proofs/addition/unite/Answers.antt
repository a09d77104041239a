use Rattle.std.proofs.Common.{◌≡◌, ◌≤◌, ◌+◌, ℕ, List, length, Option, Some, option_map, sym, ap, subst, ◌∙◌}
use Rattle.point_core.specs.Faults.{OrFault}
use Rattle.value_core.specs.RowPacking.{packed, unpacked}
use Rattle.value_core.specs.Values.{Relation}
use Rattle.relation_core.specs.Answers.{Answers, under}
use Rattle.relation_core.specs.Operators.{united}
use Rattle.meaning_core.specs.Meanings.{limited}
use Rattle.meaning_core.specs.Typing.{IsListIf}
use Rattle.meaning_core.proofs.IntervalLemmas.{intervals_of_list}
use Rattle.assign_core.specs.Insertions.{list_under, united_in, united_cost}
use Rattle.assign_core.proofs.addition.unite.Goals as goal

pub united-requires-clause-intervals : goal.united-requires-clause-intervals
united-requires-clause-intervals g c =
    let a = c.args.addition in
    let is : list_under a ≡ Some c.as_slice.result.now = (λ t. option_map (λ l. l.now) (c.in-Some.is t)) ∙ ap Some (sym (c.as_slice.ensures.value ∙ c.commalist.view_is)) in
    intervals_of_list a.target.value.now.heading c.as_slice.result.now (subst (λ (l : Option (List ℕ)). IsListIf a.target.value.now.heading l) is c.requires.listed)

pub returns-in-Some-clause-value : goal.returns-in-Some-clause-value
returns-in-Some-clause-value g c =
    let a = c.args.addition in
    let commalist = c.as_slice.result.now in
    let is : list_under a ≡ Some commalist = (λ t. option_map (λ l. l.now) (c.in-Some.is t)) ∙ ap Some (sym (c.as_slice.ensures.value ∙ c.commalist.view_is)) in
    let meant = ap (λ (l : Option (List ℕ)). under a.target.value.now.heading (limited a.target.place (united_in l a.target.value.now.rows a.operand.now.rows))) is in
    subst (λ (m : OrFault Relation). Answers c.or_fault_at.result m) (sym meant)
    (c.or_fault_at.ensures a.target.value.now.heading (packed commalist (united (unpacked commalist a.target.value.now.rows) (unpacked commalist a.operand.now.rows))) c.united.ensures.rows)

pub returns-in-Some-clause-cost : goal.returns-in-Some-clause-cost
returns-in-Some-clause-cost g c =
    let a = c.args.addition in
    let is : list_under a ≡ Some c.as_slice.result.now = (λ t. option_map (λ l. l.now) (c.in-Some.is t)) ∙ ap Some (sym (c.as_slice.ensures.value ∙ c.commalist.view_is)) in
    subst (λ (l : Option (List ℕ)). c.united.new.steps ≤ c.args.steps.now + united_cost l (length a.target.value.now.rows + length a.operand.now.rows)) (sym is) c.united.ensures.cost

pub returns-in-None-clause-value : goal.returns-in-None-clause-value
returns-in-None-clause-value g c =
    let a = c.args.addition in
    let meant : under a.target.value.now.heading (limited a.target.place (united_in (list_under a) a.target.value.now.rows a.operand.now.rows))
    ≡ under a.target.value.now.heading (limited a.target.place (united a.target.value.now.rows a.operand.now.rows)) =
    (λ t. under a.target.value.now.heading (limited a.target.place (united_in (option_map (λ l. l.now) (c.in-None.is t)) a.target.value.now.rows a.operand.now.rows))) in
    subst (λ (m : OrFault Relation). Answers c.or_fault_at-in-None.result m) (sym meant)
    (c.or_fault_at-in-None.ensures a.target.value.now.heading (united a.target.value.now.rows a.operand.now.rows) c.union.ensures)
