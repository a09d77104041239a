use Rattle.std.proofs.Common.{◌≤◌, ◌+◌, length, subst, arith}
use Rattle.std.proofs.lemmas.List.{length-map}
use Rattle.relation_core.specs.Answers.{Answers, under}
use Rattle.tree_core.specs.Relvars.{read_entry}
use Rattle.tree_core.specs.Trees.{read_tree}
use Rattle.meaning_core.specs.Meanings.{Known, meaning, plainly}
use Rattle.algebra_core.specs.Costs.{Prices, tree_cost}
use Rattle.algebra_core.specs.Scopes.{all_of}
use Rattle.algebra_core.specs.declared.scope.Scope.{Scope}
use Rattle.algebra_core.proofs.EvalLemmas.{whole_can, whole_known, whole_prices}
use Rattle.algebra_core.proofs.calls.eval.Goals as goal

pub answer-requires-clause-can : goal.answer-requires-clause-can
answer-requires-clause-can g c =
    let s : Scope = record { relvars = c.args.relvars; stored = c.args.stored; with = c.args.with; value = c.args.value; before = c.len.result } in
    let whole : length (all_of s) ≤ c.len.result = omega (arith, length-map c.args.relvars.now.list.entries read_entry, c.len.ensures.len) in
    whole_can s whole (read_tree c.args.tree.now) c.requires.well_made c.requires.typed c.requires.given c.requires.stored

pub returns-clause-value : goal.returns-clause-value
returns-clause-value g c =
    let s : Scope = record { relvars = c.args.relvars; stored = c.args.stored; with = c.args.with; value = c.args.value; before = c.len.result } in
    let whole : length (all_of s) ≤ c.len.result = omega (arith, length-map c.args.relvars.now.list.entries read_entry, c.len.ensures.len) in
    subst (λ (k : Known). Answers c.answer.result (under c.args.tree.now.heading (meaning k plainly (read_tree c.args.tree.now)))) (whole_known s whole) c.answer.ensures.value

pub returns-clause-cost : goal.returns-clause-cost
returns-clause-cost g c =
    let s : Scope = record { relvars = c.args.relvars; stored = c.args.stored; with = c.args.with; value = c.args.value; before = c.len.result } in
    let whole : length (all_of s) ≤ c.len.result = omega (arith, length-map c.args.relvars.now.list.entries read_entry, c.len.ensures.len) in
    subst (λ (p : Prices). c.answer.new.steps ≤ c.args.steps.now + tree_cost p plainly (read_tree c.args.tree.now)) (whole_prices s whole) c.answer.ensures.cost
