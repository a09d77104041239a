-- What a node means and takes, where its operand's relation is there.
--     given_at, headed_at      the relation is what the operand's expression means, and has its heading
--     value_at, cost_at      the node's rows and its steps, by what is done with that relation
--     told_at      what is told of its rows
use Rattle.std.proofs.Common.{◌≡◌, ◌≤◌, ◌+◌, ℕ, List, sym, subst, arith, Result, Ok}
use Rattle.base_core.specs.Outcomes.{then_give}
use Rattle.point_core.specs.Faults.{OrFault}
use Rattle.point_core.specs.declared.fault.Stop.{Stop}
use Rattle.value_core.specs.Values.{Row, Heading, Relation}
use Rattle.relation_core.specs.Answers.{Answers, under}
use Rattle.tree_core.specs.Trees.{read_tree, heading_of}
use Rattle.tree_core.specs.declared.tree.RelTree.{RelTree}
use Rattle.meaning_core.specs.Meanings.{RowsMeant, meaning, plainly}
use Rattle.meaning_core.proofs.LookupLemmas.{operand_heading, unary_meant, under_ok}
use Rattle.algebra_core.specs.Costs.{known_of, paid, tree_cost}
use Rattle.algebra_core.specs.Operands.{held}
use Rattle.algebra_core.specs.Scopes.{known_at, prices_at}
use Rattle.algebra_core.specs.declared.operand.Operand.{Operand}
use Rattle.algebra_core.specs.declared.scope.Scope.{Scope}
use Rattle.algebra_core.proofs.CostLemmas.{paid_at}
use Rattle.algebra_core.proofs.OperandLemmas.{held_given}

add_cost : (old mid new c f p : ℕ) → mid ≤ old + c → new ≤ mid + f → p ≡ f → new ≤ old + (c + p)
add_cost old mid new c f p h k e = omega (arith, h, k, e)

pub failed_cost : (old new c p : ℕ) → new ≤ old + c → new ≤ old + (c + p)
failed_cost old new c p h = omega (arith, h)

module _ (s : Scope) (t : RelTree) (operand : Operand) (a : Relation)
    (meant : under t.heading (meaning (known_at s) plainly (read_tree t)) ≡ Ok (held operand)) (same : a ≡ held operand) where
  pub given_at : under t.heading (meaning (known_at s) plainly (read_tree t)) ≡ Ok a
  given_at = held_given (under t.heading (meaning (known_at s) plainly (read_tree t))) operand a meant same

  pub headed_at : a.heading ≡ heading_of (read_tree t)
  headed_at = operand_heading t (meaning (known_at s) plainly (read_tree t)) a given_at

  pub value_at : (result : Result Relation Stop) (h : Heading) (f : Heading → List Row → RowsMeant) → Answers result (under h (f a.heading a.rows))
      → Answers result (under h (then_give (meaning (known_at s) plainly (read_tree t)) (f (heading_of (read_tree t)))))
  value_at result h f told =
      unary_meant result h t.heading (meaning (known_at s) plainly (read_tree t)) a (f (heading_of (read_tree t))) given_at
      (subst (λ (g : Heading). Answers result (under h (f g a.rows))) headed_at told)

  pub cost_at : (old mid new : ℕ) (f : Heading → List Row → ℕ) → mid ≤ old + tree_cost (prices_at s) plainly (read_tree t) → new ≤ mid + f a.heading a.rows
      → new ≤ old + (tree_cost (prices_at s) plainly (read_tree t) + paid (meaning (known_of (prices_at s)) plainly (read_tree t)) (f (heading_of (read_tree t))))
  cost_at old mid new f first more =
      add_cost old mid new (tree_cost (prices_at s) plainly (read_tree t)) (f (heading_of (read_tree t)) a.rows)
      (paid (meaning (known_of (prices_at s)) plainly (read_tree t)) (f (heading_of (read_tree t)))) first
      (subst (λ (g : Heading). new ≤ mid + f g a.rows) headed_at more) (paid_at s t a (f (heading_of (read_tree t))) given_at)

  pub told_at : {A : Type 0} (result : Result A Stop) (f : List Row → OrFault A) → Answers result (f a.rows)
      → Answers result (then_give (meaning (known_at s) plainly (read_tree t)) f)
  told_at {A} result f told =
      subst (λ (m : RowsMeant). Answers result (then_give m f)) (sym (under_ok t.heading (meaning (known_at s) plainly (read_tree t)) a given_at).0) told
