use Rattle.std.proofs.Common.{◌≤◌, ◌+◌, length, None, refl, sym, subst, arith}
use Rattle.std.proofs.lemmas.List.{length-map}
use Rattle.relation_core.specs.Answers.{Answers}
use Rattle.tree_core.specs.Relvars.{read_relvars, read_entry}
use Rattle.tree_core.specs.Trees.{read_tree, read_test_form, relate, is_empty, is_not_empty}
use Rattle.tree_core.specs.declared.test.TestForm.{TestForm}
use Rattle.meaning_core.specs.Meanings.{Known}
use Rattle.meaning_core.specs.Truths.{truth_in, truth_of}
use Rattle.algebra_core.specs.Costs.{Prices, cost_of_test, test_cost}
use Rattle.algebra_core.specs.Scopes.{all_of}
use Rattle.algebra_core.specs.declared.scope.Scope.{Scope}
use Rattle.algebra_core.proofs.TruthLemmas.{known_whole, prices_whole}
use Rattle.algebra_core.proofs.calls.test.Goals as goal

pub returns-in-Relate-clause-value : goal.returns-in-Relate-clause-value
returns-in-Relate-clause-value g c =
    let s : Scope = record { relvars = c.args.relvars; stored = c.args.stored; with = None; value = None; before = c.len.result } in
    let entries = (read_relvars c.args.relvars.now).relvars in
    let whole : length (all_of s) ≤ c.len.result = omega (arith, length-map c.args.relvars.now.list.entries read_entry, c.len.ensures.len) in
    let told = subst (λ (k : Known). Answers c.related.result (truth_of k (relate c.args.test.now.place c.in-Relate.word c.in-Relate.commalist (read_tree c.in-Relate.l) (read_tree c.in-Relate.r)))) (known_whole s refl whole) (c.related.ensures.value c.args.test.now.place) in
    subst (λ (f : TestForm). Answers c.related.result (truth_in entries (read_test_form c.args.test.now.place f))) (sym c.in-Relate.is) told

pub returns-in-Relate-clause-cost : goal.returns-in-Relate-clause-cost
returns-in-Relate-clause-cost g c =
    let s : Scope = record { relvars = c.args.relvars; stored = c.args.stored; with = None; value = None; before = c.len.result } in
    let entries = (read_relvars c.args.relvars.now).relvars in
    let whole : length (all_of s) ≤ c.len.result = omega (arith, length-map c.args.relvars.now.list.entries read_entry, c.len.ensures.len) in
    let told = subst (λ (p : Prices). c.related.new.steps ≤ c.args.steps.now + cost_of_test p (relate c.args.test.now.place c.in-Relate.word c.in-Relate.commalist (read_tree c.in-Relate.l) (read_tree c.in-Relate.r))) (prices_whole s refl whole) (c.related.ensures.cost c.args.test.now.place) in
    subst (λ (f : TestForm). c.related.new.steps ≤ c.args.steps.now + test_cost entries (read_test_form c.args.test.now.place f)) (sym c.in-Relate.is) told

pub returns-in-IsEmpty-clause-value : goal.returns-in-IsEmpty-clause-value
returns-in-IsEmpty-clause-value g c =
    let s : Scope = record { relvars = c.args.relvars; stored = c.args.stored; with = None; value = None; before = c.len.result } in
    let entries = (read_relvars c.args.relvars.now).relvars in
    let whole : length (all_of s) ≤ c.len.result = omega (arith, length-map c.args.relvars.now.list.entries read_entry, c.len.ensures.len) in
    let told = subst (λ (k : Known). Answers c.is_empty.result (truth_of k (is_empty c.args.test.now.place (read_tree c.in-IsEmpty.t)))) (known_whole s refl whole) c.is_empty.ensures.value in
    subst (λ (f : TestForm). Answers c.is_empty.result (truth_in entries (read_test_form c.args.test.now.place f))) (sym c.in-IsEmpty.is) told

pub returns-in-IsEmpty-clause-cost : goal.returns-in-IsEmpty-clause-cost
returns-in-IsEmpty-clause-cost g c =
    let s : Scope = record { relvars = c.args.relvars; stored = c.args.stored; with = None; value = None; before = c.len.result } in
    let entries = (read_relvars c.args.relvars.now).relvars in
    let whole : length (all_of s) ≤ c.len.result = omega (arith, length-map c.args.relvars.now.list.entries read_entry, c.len.ensures.len) in
    let told = subst (λ (p : Prices). c.is_empty.new.steps ≤ c.args.steps.now + cost_of_test p (is_empty c.args.test.now.place (read_tree c.in-IsEmpty.t))) (prices_whole s refl whole) c.is_empty.ensures.cost in
    subst (λ (f : TestForm). c.is_empty.new.steps ≤ c.args.steps.now + test_cost entries (read_test_form c.args.test.now.place f)) (sym c.in-IsEmpty.is) told

pub returns-in-IsNotEmpty-clause-value : goal.returns-in-IsNotEmpty-clause-value
returns-in-IsNotEmpty-clause-value g c =
    let s : Scope = record { relvars = c.args.relvars; stored = c.args.stored; with = None; value = None; before = c.len.result } in
    let entries = (read_relvars c.args.relvars.now).relvars in
    let whole : length (all_of s) ≤ c.len.result = omega (arith, length-map c.args.relvars.now.list.entries read_entry, c.len.ensures.len) in
    let told = subst (λ (k : Known). Answers c.is_not_empty.result (truth_of k (is_not_empty c.args.test.now.place (read_tree c.in-IsNotEmpty.t)))) (known_whole s refl whole) c.is_not_empty.ensures.value in
    subst (λ (f : TestForm). Answers c.is_not_empty.result (truth_in entries (read_test_form c.args.test.now.place f))) (sym c.in-IsNotEmpty.is) told

pub returns-in-IsNotEmpty-clause-cost : goal.returns-in-IsNotEmpty-clause-cost
returns-in-IsNotEmpty-clause-cost g c =
    let s : Scope = record { relvars = c.args.relvars; stored = c.args.stored; with = None; value = None; before = c.len.result } in
    let entries = (read_relvars c.args.relvars.now).relvars in
    let whole : length (all_of s) ≤ c.len.result = omega (arith, length-map c.args.relvars.now.list.entries read_entry, c.len.ensures.len) in
    let told = subst (λ (p : Prices). c.is_not_empty.new.steps ≤ c.args.steps.now + cost_of_test p (is_not_empty c.args.test.now.place (read_tree c.in-IsNotEmpty.t))) (prices_whole s refl whole) c.is_not_empty.ensures.cost in
    subst (λ (f : TestForm). c.is_not_empty.new.steps ≤ c.args.steps.now + test_cost entries (read_test_form c.args.test.now.place f)) (sym c.in-IsNotEmpty.is) told
