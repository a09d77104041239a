-- What statements cost, one after the other.
use Rattle.std.proofs.Common.{◌≡◌, inl, inr, ℕ, ◌+◌, ◌≤◌, List, [], ◌∷◌, ◌++◌, length, take, sym, ap, ◌∙◌, subst, arith, add_assoc}
use Rattle.tree_core.specs.Relvars.{State}
use Rattle.assign_core.specs.Databases.{no_relvars}
use Rattle.utd_statement.specs.Readings.{Reading}
use Rattle.utd_statement.specs.Answers.{answer, state_after}
use Rattle.utd_statement.specs.Costs.{statement_cost}
use Rattle.utd_session.specs.Statements.{Statement}
use Rattle.utd_session.specs.Readings.{IsReading, AreReadings}
use Rattle.utd_session.specs.Machine.{Step, all_steps, performed}
use Rattle.utd_session.specs.Costs.{cost_from, cost_of, cost_after, TakesAtMost}
use Rattle.utd_session.proofs.Laws.{reading_one}
use Rattle.utd_session.proofs.MachineLemmas.{performed-more}

pub cost_from-append : (state : State) (n : ℕ) (rs more : List Reading) → cost_from state (rs ++ more) ≡ cost_from state rs + cost_from (all_steps state n rs).state more
cost_from-append state n [] more = omega arith
cost_from-append state n (r ∷ rs) more =
    let after : State = state_after state (answer state r) in
    ap (λ m. statement_cost state r + m) (cost_from-append after (n + 1) rs more)
    ∙ sym (add_assoc (statement_cost state r) (cost_from after rs) (cost_from (all_steps after (n + 1) rs).state more))

pub cost_of-append : (rs more : List Reading) → cost_of (rs ++ more) ≡ cost_of rs + cost_after rs more
cost_of-append rs more = cost_from-append no_relvars 1 rs more

-- one more of them
pub cost_after-push : (rs more : List Reading) (r : Reading) → cost_after rs (more ++ r ∷ []) ≡ cost_after rs more + statement_cost (performed (rs ++ more)).state r
cost_after-push rs more r =
    let state : State = (performed rs).state in
    let n : ℕ = length rs + 1 in
    let same : (all_steps state n more).state ≡ (performed (rs ++ more)).state = ap (λ (x : Step). x.state) (sym (performed-more rs more)) in
    let one : cost_from (all_steps state n more).state (r ∷ []) ≡ statement_cost (all_steps state n more).state r = omega arith in
    cost_from-append state n more (r ∷ []) ∙ ap (λ m. cost_after rs more + m) (one ∙ ap (λ s. statement_cost s r) same)

-- the first of them cost no more than all
pub cost-first : (state : State) (ss : List Statement) (rs us : List Reading) → AreReadings (take (length rs) ss) rs → AreReadings ss us → cost_from state rs ≤ cost_from state us
cost-first state ss [] us h k = omega arith
cost-first state [] (r ∷ rs) us h k = absurd h
cost-first state (s ∷ ss) (r ∷ rs) [] h k = absurd k
cost-first state (s ∷ ss) (r ∷ rs) (u ∷ us) h k =
    let after : State = state_after state (answer state r) in
    let rest : cost_from after rs ≤ cost_from after us = cost-first after ss rs us h.1 k.1 in
    let same : statement_cost state r + cost_from after rs ≤ statement_cost state r + cost_from after us = omega (arith, rest) in
    subst (λ x. cost_from state (r ∷ rs) ≤ statement_cost state x + cost_from (state_after state (answer state x)) us) (reading_one s r u h.0 k.0) same

-- what a statement takes whose reading is known
pub takes-of : (s : Statement) (state : State) (before now : ℕ) (r : Reading) → TakesAtMost s state before now → IsReading s r → now ≤ before + statement_cost state r
takes-of s state before now r h is = elim h [
  | inl e ↦ omega (arith, e)
  | inr k ↦ subst (λ x. now ≤ before + statement_cost state x) (reading_one s k.0 r k.1 is) k.2
]
