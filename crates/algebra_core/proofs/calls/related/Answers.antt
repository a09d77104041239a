use Rattle.std.proofs.Common.{◌+◌, length, refl, sym, ◌∙◌, subst, Ok}
use Rattle.base_core.specs.Outcomes.{then_give}
use Rattle.value_core.specs.Values.{Heading}
use Rattle.tree_core.specs.Trees.{read_tree}
use Rattle.meaning_core.specs.Meanings.{meaning, plainly}
use Rattle.meaning_core.specs.Truths.{compared_rows, related_rows}
use Rattle.meaning_core.specs.Typing.{IsListIf}
use Rattle.algebra_core.specs.Costs.{comparison_cost, known_of, paid, tree_cost}
use Rattle.algebra_core.specs.Operands.{held}
use Rattle.algebra_core.specs.Scopes.{known_at, prices_at}
use Rattle.algebra_core.proofs.NodeLemmas.{cost_at, failed_cost, headed_at, told_at}
use Rattle.algebra_core.proofs.calls.related.Goals as goal

pub compared_on-requires-clause-alike : goal.compared_on-requires-clause-alike
compared_on-requires-clause-alike g c =
    headed_at c.args.scope.now c.args.l.now c.in_ok-left.left c.relation.result.now c.in_ok-left.ensures.value c.relation.ensures
    ∙ (c.requires.alike ∙ sym (headed_at c.args.scope.now c.args.r.now c.in_ok-right.right c.relation-2.result.now c.in_ok-right.ensures.value c.relation-2.ensures))

pub compared_on-requires-clause-list : goal.compared_on-requires-clause-list
compared_on-requires-clause-list g c =
    subst (λ (h : Heading). IsListIf h c.args.commalist.now)
    (sym (headed_at c.args.scope.now c.args.l.now c.in_ok-left.left c.relation.result.now c.in_ok-left.ensures.value c.relation.ensures)) c.requires.list

pub returns-clause-value : goal.returns-clause-value
returns-clause-value g c = λ place.
    told_at c.args.scope.now c.args.l.now c.in_ok-left.left c.relation.result.now c.in_ok-left.ensures.value c.relation.ensures c.compared_on.result
    (λ a. then_give (meaning (known_at c.args.scope.now) plainly (read_tree c.args.r.now)) (λ b. Ok (related_rows c.args.word (compared_rows c.args.commalist.now a) (compared_rows c.args.commalist.now b))))
    (told_at c.args.scope.now c.args.r.now c.in_ok-right.right c.relation-2.result.now c.in_ok-right.ensures.value c.relation-2.ensures c.compared_on.result
    (λ b. Ok (related_rows c.args.word (compared_rows c.args.commalist.now c.relation.result.now.rows) (compared_rows c.args.commalist.now b)))
    c.compared_on.ensures.value)

pub returns-clause-cost : goal.returns-clause-cost
returns-clause-cost g c = λ place.
    let there = read_tree c.args.r.now in
    let prices = prices_at c.args.scope.now in
    cost_at c.args.scope.now c.args.l.now c.in_ok-left.left c.relation.result.now c.in_ok-left.ensures.value c.relation.ensures c.args.steps.now c.operand.new.steps c.compared_on.new.steps
    (λ h a. tree_cost prices plainly there + paid (meaning (known_of prices) plainly there) (λ b. comparison_cost c.args.commalist.now (length a + length b)))
    c.operand.ensures.cost
    (cost_at c.args.scope.now c.args.r.now c.in_ok-right.right c.relation-2.result.now c.in_ok-right.ensures.value c.relation-2.ensures c.operand.new.steps c.operand-2.new.steps c.compared_on.new.steps
    (λ h b. comparison_cost c.args.commalist.now (length c.relation.result.now.rows + length b)) c.operand-2.ensures.cost c.compared_on.ensures.cost)

pub returns-in_err-right-clause-cost : goal.returns-in_err-right-clause-cost
returns-in_err-right-clause-cost g c = λ place.
    let there = read_tree c.args.r.now in
    let prices = prices_at c.args.scope.now in
    cost_at c.args.scope.now c.args.l.now c.in_ok-left.left (held c.in_ok-left.left) c.in_ok-left.ensures.value refl c.args.steps.now c.operand.new.steps c.operand-2.new.steps
    (λ h a. tree_cost prices plainly there + paid (meaning (known_of prices) plainly there) (λ b. comparison_cost c.args.commalist.now (length a + length b)))
    c.operand.ensures.cost
    (failed_cost c.operand.new.steps c.operand-2.new.steps (tree_cost prices plainly there)
    (paid (meaning (known_of prices) plainly there) (λ b. comparison_cost c.args.commalist.now (length (held c.in_ok-left.left).rows + length b))) c.operand-2.ensures.cost)
