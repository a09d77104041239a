use Rattle.std.proofs.Common.{◌≡◌, ◌≤◌, ◌+◌, List, ap, ◌∙◌, subst}
use Rattle.std.specs.Prelude.{IfOk}
use Rattle.std.specs.Result.{result_err}
use Rattle.value_core.specs.Values.{Row}
use Rattle.relation_core.specs.Operators.{united}
use Rattle.u_constraints.specs.Constraints.{broken}
use Rattle.u_constraints.specs.Costs.{constraint_cost}
use Rattle.u_constraints.specs.Growth.{exchanged}
use Rattle.u_constraints.proofs.AcrossLemmas.{across_break, answered, form_at, held_at}
use Rattle.u_constraints.proofs.GrowthLemmas.{none_gone}
use Rattle.u_constraints.proofs.across.holds_across.Goals as goal

pub returns-then-is_empty-clause-answer : goal.returns-then-is_empty-clause-answer
returns-then-is_empty-clause-answer g c =
    let of = c.args.change.of.now.rows in
    let gone = c.args.change.gone.now.rows in
    let come = c.args.change.come.now.rows in
    let same : united of come ≡ exchanged of gone come = none_gone (united of come) gone c.rows.result.now c.is_empty.result c.rows.ensures.rows c.is_empty.ensures c.if-is_empty.true in
    subst (λ (rows : List Row). IfOk c.holds_beside.result (λ answer. result_err answer ≡ broken c.args.c.now c.args.of.now.rows rows)) same c.holds_beside.ensures.answer

pub returns-then-is_empty-clause-cost : goal.returns-then-is_empty-clause-cost
returns-then-is_empty-clause-cost g c =
    let of = c.args.change.of.now.rows in
    let gone = c.args.change.gone.now.rows in
    let come = c.args.change.come.now.rows in
    let same : united of come ≡ exchanged of gone come = none_gone (united of come) gone c.rows.result.now c.is_empty.result c.rows.ensures.rows c.is_empty.ensures c.if-is_empty.true in
    subst (λ (rows : List Row). c.holds_beside.new.steps ≤ c.args.steps.now + constraint_cost c.args.c.now c.args.of.now.rows rows) same c.holds_beside.ensures.cost

pub refers_across-requires-clause-held : goal.refers_across-requires-clause-held
refers_across-requires-clause-held g c =
    let form = form_at c.args.c.now _ _ _ _ _ _ _ c.in-Foreign.is (c.as_slice.ensures.value ∙ c.commalist.view_is) (c.as_slice-in-Foreign.ensures.value ∙ c.here.view_is) (c.as_slice-in-Foreign-2.ensures.value ∙ c.there.view_is) in
    held_at c.args.c.now c.as_slice.result.now c.as_slice-in-Foreign.result.now c.as_slice-in-Foreign-2.result.now _ c.args.of.now.rows c.args.change.of.now.rows form c.requires.held

pub returns-in_ok-kept-in-Foreign-clause-answer : goal.returns-in_ok-kept-in-Foreign-clause-answer
returns-in_ok-kept-in-Foreign-clause-answer g c =
    let all = exchanged c.args.change.of.now.rows c.args.change.gone.now.rows c.args.change.come.now.rows in
    let form = form_at c.args.c.now _ _ _ _ _ _ _ c.in-Foreign.is (c.as_slice.ensures.value ∙ c.commalist.view_is) (c.as_slice-in-Foreign.ensures.value ∙ c.here.view_is) (c.as_slice-in-Foreign-2.ensures.value ∙ c.there.view_is) in
    answered c.args.c.now c.as_slice.result.now c.as_slice-in-Foreign.result.now c.as_slice-in-Foreign-2.result.now _ c.args.of.now.rows all c.in_ok-kept-in-Foreign.kept _ form c.in_ok-kept-in-Foreign.ensures.answer c.unless.ensures

pub returns-in_ok-left-in-History-clause-answer : goal.returns-in_ok-left-in-History-clause-answer
returns-in_ok-left-in-History-clause-answer g c =
    let k = c.args.c.now in
    let of = c.args.of.now.rows in
    let told = across_break k _ of c.args.change.of.now.rows c.args.change.gone.now.rows c.args.change.come.now.rows c.in-History.is c.requires.held in
    let left = ap (λ (rows : List Row). broken k of rows) c.in_ok-left-in-History.ensures.1 in
    subst (λ o. IfOk c.holds.result (λ answer. result_err answer ≡ o)) (left ∙ told) c.holds.ensures.answer
