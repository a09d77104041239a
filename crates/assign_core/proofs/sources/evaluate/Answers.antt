use Rattle.std.proofs.Common.{◌≡◌, ℕ, suc, ◌<◌, ◌≤◌, ◌+◌, List, [], ◌∷◌, length, map, take, drop, sym, ap, ◌∙◌, subst, arith, Option, Ok, Err}
use Rattle.std.specs.Prelude.{slice_index_or}
use Rattle.std.proofs.lemmas.Result.{err_from_is_err_and}
use Rattle.value_core.specs.Values.{Name}
use Rattle.scalar_core.specs.Answers.{Gives}
use Rattle.tree_core.specs.declared.declaration.Assignment.{Assignment}
use Rattle.tree_core.specs.Items.{read_assignment}
use Rattle.tree_core.specs.Relvars.{read_entry}
use Rattle.tree_core.specs.Trees.{read_tree}
use Rattle.algebra_core.specs.Costs.{cost_with}
use Rattle.assign_core.specs.Assignments.{evaluated, seen_by}
use Rattle.relvar_logs.specs.Changes.{changed}
use Rattle.assign_core.specs.Costs.{later_cost, later_costs}
use Rattle.assign_core.specs.Renewed.{renewing, targets_of, AreRenewed}
use Rattle.assign_core.proofs.CostLemmas.{source_first, sources_left}
use Rattle.assign_core.proofs.RenewedNames.{same_renewed, targets_more}
use Rattle.assign_core.proofs.SourceLemmas.{take_more, turn_given, turn_failed}
use Rattle.assign_core.proofs.sources.evaluate.Goals as goal

pub returns-in_err-evaluate_one-clause-value : goal.returns-in_err-evaluate_one-clause-value
returns-in_err-evaluate_one-clause-value g c =
    let es = map read_entry c.args.relvars.now.list.entries in
    let within : c.loop-assignment.assignment-index < length c.args.list.now = omega arith in
    let mid = changed c.loop-assignment.changes.items es in
    let after = changed c.evaluate_one.new.changes.items es in
    let stop = c.in_err-evaluate_one.field-0.0 in
    let told = subst (λ (a : Assignment). Gives (λ (done : Unit {0}). after) (Err stop) (evaluated es mid (read_assignment a ∷ []))) c.assignment-item.is c.in_err-evaluate_one.ensures.value in
    let p = err_from_is_err_and c.from_residual.result c.from_residual.ensures.1 in
    rw (p.1, p.2) (turn_failed es (changed c.args.changes.now.items es) mid after after c.args.list.now c.loop-assignment.assignment-index c.assignment-item.result stop within
    c.loop-assignment.invariant.value told)

pub returns-in_err-evaluate_one-clause-cost : goal.returns-in_err-evaluate_one-clause-cost
returns-in_err-evaluate_one-clause-cost g c =
    let es = map read_entry c.args.relvars.now.list.entries in
    let i = c.loop-assignment.assignment-index in
    let xs = c.args.list.now in
    let within : i < length xs = omega arith in
    let mid = changed c.loop-assignment.changes.items es in
    let done = targets_of [] (map read_assignment (take i xs)) in
    let x = slice_index_or xs i c.assignment-item.result in
    let price = subst (λ (a : Assignment). c.evaluate_one.new.steps ≤ c.loop-assignment.steps + cost_with (renewing c.loop-assignment.changes.items es a.target) (seen_by es mid a.target) (read_tree a.tree))
    c.assignment-item.is c.evaluate_one.ensures.cost in
    let same : cost_with (renewing c.loop-assignment.changes.items es x.target) (seen_by es mid x.target) (read_tree x.tree) ≡ later_cost done es mid (read_assignment x) =
    ap (λ (o : Option Name). cost_with o (seen_by es mid x.target) (read_tree x.tree)) (same_renewed done c.loop-assignment.changes.items es x.target c.loop-assignment.invariant.renewed) in
    let first = source_first es done mid i xs c.assignment-item.result within in
    let so_far = c.loop-assignment.invariant.cost in
    omega (arith, price, same, first, so_far)

pub loop-assignment-preserved : goal.loop-assignment-preserved
loop-assignment-preserved g c =
    let es = map read_entry c.args.relvars.now.list.entries in
    let i = c.loop-assignment.assignment-index in
    let xs = c.args.list.now in
    let within : i < length xs = omega arith in
    let mid = changed c.loop-assignment.changes.items es in
    let after = changed c.evaluate_one.new.changes.items es in
    let told = subst (λ (a : Assignment). evaluated es mid (read_assignment a ∷ []) ≡ Ok after) c.assignment-item.is c.in_ok-evaluate_one.ensures.value in
    let done = targets_of [] (map read_assignment (take i xs)) in
    let x = slice_index_or xs i c.assignment-item.result in
    let one : i + 1 ≡ suc i = omega arith in
    let targets : targets_of [] (map read_assignment (take (i + 1) xs)) ≡ x.target ∷ done =
    ap (λ (n : ℕ). targets_of [] (map read_assignment (take n xs))) one
    ∙ (ap (targets_of []) (take_more xs i c.assignment-item.result within) ∙ targets_more [] (map read_assignment (take i xs)) (read_assignment x)) in
    let renewed = subst (λ (a : Assignment). AreRenewed (a.target ∷ done) c.evaluate_one.new.changes.items es) c.assignment-item.is
    (c.in_ok-evaluate_one.ensures.renewed done c.loop-assignment.invariant.renewed) in
    record {
      changes = c.evaluate_one.ensures.changes;
      renewed = subst (λ (names : List Name). AreRenewed names c.evaluate_one.new.changes.items es) (sym targets) renewed;
      value =
          turn_given es (changed c.args.changes.now.items es) mid after xs i c.assignment-item.result within c.loop-assignment.invariant.value
          told;
      cost =
          let price = subst (λ (a : Assignment). c.evaluate_one.new.steps ≤ c.loop-assignment.steps + cost_with (renewing c.loop-assignment.changes.items es a.target) (seen_by es mid a.target) (read_tree a.tree))
          c.assignment-item.is c.evaluate_one.ensures.cost in
          let same : cost_with (renewing c.loop-assignment.changes.items es x.target) (seen_by es mid x.target) (read_tree x.tree) ≡ later_cost done es mid (read_assignment x) =
          ap (λ (o : Option Name). cost_with o (seen_by es mid x.target) (read_tree x.tree)) (same_renewed done c.loop-assignment.changes.items es x.target c.loop-assignment.invariant.renewed) in
          let left = sources_left es done mid after i xs c.assignment-item.result within told in
          let next : later_costs (targets_of [] (map read_assignment (take (i + 1) xs))) es after (map read_assignment (drop (i + 1) xs)) ≡ later_costs (x.target ∷ done) es after (map read_assignment (drop (i + 1) xs)) =
          ap (λ (names : List Name). later_costs names es after (map read_assignment (drop (i + 1) xs))) targets in
          let so_far = c.loop-assignment.invariant.cost in
          omega (arith, price, same, left, next, so_far);
    }
