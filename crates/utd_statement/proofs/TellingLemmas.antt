-- What is told of the relation that an expression means.
use Rattle.std.proofs.Common.{◌≡◌, refl, sym, ap, subst, None, ℕ, Vec, Global, Result, Ok, Err}
use Rattle.point_core.specs.Faults.{OrFault}
use Rattle.point_core.specs.declared.fault.Stop.{Stop}
use Rattle.point_core.specs.declared.fault.Stop.TheVariants as stops
use Rattle.value_core.specs.Refusals.{refusal_of}
use Rattle.value_core.specs.Values.{Relation, Heading}
use Rattle.relation_core.specs.Answers.{Answers, under}
use Rattle.tree_core.specs.Relvars.{State, Entries}
use Rattle.tree_core.specs.Trees.{read_tree}
use Rattle.tree_core.specs.declared.tree.RelTree.{RelTree}
use Rattle.meaning_core.specs.Meanings.{meaning_in}
use Rattle.meaning_core.specs.Names.{given}
use Rattle.meaning_core.proofs.LookupLemmas.{given_none, heading_read}
use Rattle.type_check.specs.Checks.{print}
use Rattle.utd_print.specs.Tables.{table}
use Rattle.utd_statement.specs.Answers.{Answer, Table, unless_fault, relation_in, of_checked, made_by}
use Rattle.utd_statement.specs.Replies.{IsTextOf, IsMade}

-- ---- expressions

-- an expression is evaluated in the state as it is, with the heading of its tree
relation_is : (state : State) (t : RelTree) (r : Result Relation Stop) → Answers r (under t.heading (meaning_in (given None None state.relvars) (read_tree t))) → Answers r (relation_in state (read_tree t))
relation_is state t r h =
    let same = subst (λ (es : Entries). Answers r (under t.heading (meaning_in es (read_tree t)))) (given_none None state.relvars) h in
    subst (λ (heading : Heading). Answers r (under heading (meaning_in state.relvars (read_tree t)))) (heading_read t) same

module _ {A : Type 0} (f : A → Answer) (state : State) (stays : (v : A) → made_by state (f v) ≡ state) where
  -- the fault of an evaluation
  stop_performed : (stop : Stop) (meant : OrFault A) → Answers {A = A} (Err stop) meant → IsMade (Err (refusal_of stop)) state state (unless_fault f meant)
  stop_performed (stops.Fault e) meant h = (ap (unless_fault f) h, refl)
  stop_performed stops.Memory meant h = (tt, refl)

  value_performed : (v : A) (meant : OrFault A) (text : Vec ℕ Global) → meant ≡ Ok v → IsTextOf (f v) text → IsMade (Ok text) state state (unless_fault f meant)
  value_performed v meant text e h = subst (λ m. IsMade (Ok text) state state (unless_fault f m)) (sym e) (h, sym (stays v))

pub printed_text : (state : State) (t : RelTree) (r : Relation) (text : Vec ℕ Global) → Answers (Ok r) (under t.heading (meaning_in (given None None state.relvars) (read_tree t)))
    → text.items ≡ table state.ordinals r → IsMade (Ok text) state state (of_checked state (print (read_tree t)))
printed_text state t r text h e = value_performed (Table state.ordinals) state (λ v. refl) r _ text (relation_is state t (Ok r) h) ((λ n. e), refl)

pub printed_stop : (state : State) (t : RelTree) (stop : Stop) → Answers {A = Relation} (Err stop) (under t.heading (meaning_in (given None None state.relvars) (read_tree t)))
    → IsMade (Err (refusal_of stop)) state state (of_checked state (print (read_tree t)))
printed_stop state t stop h = stop_performed (Table state.ordinals) state (λ v. refl) stop _ (relation_is state t (Err stop) h)
