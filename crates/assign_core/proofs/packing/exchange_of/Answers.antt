use Rattle.std.proofs.Common.{◌≡◌, ◌≤◌, ◌+◌, ℕ, List, length, Option, Some, sym, ap, subst, ◌∙◌}
use Rattle.value_core.specs.RowPacking.{packed, unpacked}
use Rattle.value_core.specs.Values.{Row}
use Rattle.relation_core.specs.Answers.{under, IsRefusal}
use Rattle.relation_core.specs.Operators.{united}
use Rattle.meaning_core.specs.Meanings.{limited}
use Rattle.meaning_core.specs.Typing.{IsListIf}
use Rattle.meaning_core.proofs.IntervalLemmas.{intervals_of_list}
use Rattle.u_constraints.specs.Growth.{exchanged}
use Rattle.assign_core.specs.Insertions.{list_under, united_in, united_cost}
use Rattle.assign_core.proofs.AdditionLemmas.{limited_over}
use Rattle.assign_core.proofs.ToldLemmas.{are_packed}
use Rattle.assign_core.proofs.packing.exchange_of.Goals as goal

pub inserted-requires-clause-intervals : goal.inserted-requires-clause-intervals
inserted-requires-clause-intervals g c =
    let a = c.args.addition in
    let is : list_under a ≡ Some c.as_slice-list.result.now = c.requires.packed.listed ∙ ap Some (sym (c.as_slice-list.ensures.value ∙ c.commalist.view_is)) in
    intervals_of_list a.target.value.now.heading c.as_slice-list.result.now (subst (λ (l : Option (List ℕ)). IsListIf a.target.value.now.heading l) is c.requires.addition.listed)

pub inserted-requires-clause-packed : goal.inserted-requires-clause-packed
inserted-requires-clause-packed g c =
    let rows = c.args.addition.target.value.now.rows in
    subst (λ (l : List ℕ). packed l rows ≡ rows) (sym (c.as_slice-list.ensures.value ∙ c.commalist.view_is)) c.requires.packed.same

pub returns-in-Ok-clause-rows : goal.returns-in-Ok-clause-rows
returns-in-Ok-clause-rows g c =
    let a = c.args.addition in
    let is : list_under a ≡ Some c.as_slice-list.result.now = c.requires.packed.listed ∙ ap Some (sym (c.as_slice-list.ensures.value ∙ c.commalist.view_is)) in
    c.in-Ok.ensures.rows ∙ ap (λ (l : Option (List ℕ)). united_in l a.target.value.now.rows a.operand.now.rows) (sym is)

pub returns-in-Err-TooMany-clause-refused : goal.returns-in-Err-TooMany-clause-refused
returns-in-Err-TooMany-clause-refused g c =
    let a = c.args.addition in
    let commalist = c.as_slice-list.result.now in
    let is : list_under a ≡ Some commalist = c.requires.packed.listed ∙ ap Some (sym (c.as_slice-list.ensures.value ∙ c.commalist.view_is)) in
    let place = a.target.place in
    let rows = packed commalist (united (unpacked commalist a.target.value.now.rows) (unpacked commalist a.operand.now.rows)) in
    ap (λ (l : Option (List ℕ)). under a.target.value.now.heading (limited place (united_in l a.target.value.now.rows a.operand.now.rows))) is
    ∙ ap (under a.target.value.now.heading) (limited_over place rows (subst (IsRefusal rows) c.in-Err-TooMany.field-0-is c.in-Err-TooMany.ensures.rows))

pub returns-in-Ok-clause-cost : goal.returns-in-Ok-clause-cost
returns-in-Ok-clause-cost g c =
    let a = c.args.addition in
    let is : list_under a ≡ Some c.as_slice-list.result.now = c.requires.packed.listed ∙ ap Some (sym (c.as_slice-list.ensures.value ∙ c.commalist.view_is)) in
    subst (λ (l : Option (List ℕ)). c.inserted.new.steps ≤ c.args.steps.now + united_cost l (length a.target.value.now.rows + length a.operand.now.rows)) (sym is) c.inserted.ensures.cost

pub returns-in-Ok-clause-packed : goal.returns-in-Ok-clause-packed
returns-in-Ok-clause-packed g c =
    let a = c.args.addition in
    let value = a.target.value.now in
    let operand = a.operand.now in
    let k = c.requires.addition in
    let x = c.in-Ok.rows in
    let rows : List Row = exchanged value.rows x.gone.rows x.come.rows in
    let is : list_under a ≡ Some c.as_slice-list.result.now = c.requires.packed.listed ∙ ap Some (sym (c.as_slice-list.ensures.value ∙ c.commalist.view_is)) in
    let e : rows ≡ united_in (list_under a) value.rows operand.rows = c.in-Ok.ensures.rows ∙ ap (λ (l : Option (List ℕ)). united_in l value.rows operand.rows) (sym is) in
    are_packed value operand c.rows-rows.ensures.relation c.rows-more.ensures.relation (sym k.headed) (list_under a) k.listed rows e
