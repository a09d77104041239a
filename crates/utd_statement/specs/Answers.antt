-- What is answered to a statement, and the state after it.
--     Answer      what is answered
--     of_tree, answer      to a tree in a state, and to what a statement is read as
--     text_of, is_accepted      what an answer writes, and whether it accepts
--     made_by, state_after      what it makes of the state, and the state that it leaves, in which an accepted statement is counted
use Rattle.std.specs.Prelude.{ℕ, Bool, true, false, List, [], Result, Ok, Err}
use Rattle.point_core.specs.Faults.{OrFault}
use Rattle.value_core.specs.declared.list.OrdinalNames.{OrdinalNames}
use Rattle.value_core.specs.declared.refuse.Refuse.{Refuse}
use Rattle.value_core.specs.declared.refuse.Refuse.TheVariants.{At}
use Rattle.value_core.specs.Values.{Relation}
use Rattle.relation_core.specs.Answers.{under}
use Rattle.tree_core.specs.Relvars.{Entries, State}
use Rattle.tree_core.specs.Trees.{Tree, heading_of}
use Rattle.meaning_core.specs.Declarations.{counted, with_declaration, without_group, without_rule}
use Rattle.meaning_core.specs.Meanings.{meaning_in}
use Rattle.meaning_core.specs.Truths.{truth_in}
use Rattle.assign_core.specs.Assignments.{assigned_in, constrained}
use Rattle.assign_core.specs.Items.{assignments_of}
use Rattle.assign_core.specs.Room.{opened, stored_in}
use Rattle.since_during.specs.Histories.{declared_history, declared_in}
use Rattle.utd_syntax.specs.Plain.{StatementP}
use Rattle.type_check.specs.Checks.{Plain, nothing, declare_ordinal, declare_base, declare_view, declare_kept, declare_history, declare_log, remove, declare_rule, remove_rule, assign, print, ask, checked}
use Rattle.utd_print.specs.Lines.{refusal_line, truth_line}
use Rattle.utd_print.specs.Tables.{table}
use Rattle.utd_statement.specs.Readings.{Reading, Tree as TreeOf, Refused}

-- what is answered to a statement: nothing; a new state; a relation's table with the ordinal types whose values it names; a truth
-- value; or a refusal
pub data Answer : Type 0 where
  Done : Answer
  Changed : State → Answer
  Table : List OrdinalNames → Relation → Answer
  Truth : Bool → Answer
  Refusal : Refuse → Answer

-- the answer to a value, or a fault that comes in its place
abbrev pub unless_fault : {A : Type 0} → (A → Answer) → OrFault A → Answer
unless_fault f (Ok v) = f v
unless_fault f (Err e) = Refusal (At e)

-- the relation of an expression
abbrev pub relation_in : State → Tree → OrFault Relation
relation_in state t = under (heading_of t) (meaning_in state.relvars t)

-- the state with new values of its relvars, or the refusal of the assignments
abbrev pub unless_refused : State → Result Entries Refuse → Answer
unless_refused state (Ok relvars) = Changed (record state { relvars = relvars })
unless_refused state (Err refuse) = Refusal refuse

-- the new state, or why it is refused
abbrev pub if_allowed : Result State Refuse → Answer
if_allowed (Ok state) = Changed state
if_allowed (Err refuse) = Refusal refuse

-- the answer to a typed statement
abbrev pub of_checked : State → Plain → Answer
of_checked state nothing = Done
of_checked state (declare_ordinal d) = Changed (with_declaration state d)
of_checked state (declare_base d) = Changed (with_declaration state d)
of_checked state (declare_view d) = Changed (with_declaration state d)
of_checked state (declare_kept name t) = if_allowed (stored_in state name t)
of_checked state (declare_history h) = Changed (declared_in state (declared_history h))
of_checked state (declare_log d) = if_allowed (opened state d)
of_checked state (remove name) = Changed (without_group name state)
of_checked state (declare_rule name t) = if_allowed (constrained state name t)
of_checked state (remove_rule name) = Changed (without_rule name state)
of_checked state (assign items) = unless_refused state (assigned_in state (assignments_of state.relvars items))
of_checked state (print t) = unless_fault (Table state.ordinals) (relation_in state t)
of_checked state (ask t) = unless_fault Truth (truth_in state.relvars t)

-- the answer to a tree in a state: the statement is typed, and performed
abbrev pub of_tree : State → StatementP → Answer
of_tree state tree = unless_fault (of_checked state) (checked state tree)

-- the answer to what a statement is read as, in a state
abbrev pub answer : State → Reading → Answer
answer state (TreeOf tree) = of_tree state tree
answer state (Refused refuse) = Refusal refuse

-- the n-th statement's output
abbrev pub text_of : ℕ → Answer → List ℕ
text_of n Done = []
text_of n (Changed state) = []
text_of n (Table types relation) = table types relation
text_of n (Truth b) = truth_line b
text_of n (Refusal refuse) = refusal_line n refuse

abbrev pub is_accepted : Answer → Bool
is_accepted Done = true
is_accepted (Changed state) = true
is_accepted (Table types relation) = true
is_accepted (Truth b) = true
is_accepted (Refusal refuse) = false

-- what a statement makes of a state: a refused one, and one that writes, leaves it as it is
abbrev pub made_by : State → Answer → State
made_by state (Changed new) = new
made_by state Done = state
made_by state (Table types relation) = state
made_by state (Truth b) = state
made_by state (Refusal refuse) = state

-- the state after a statement in a state: one that is accepted is counted
abbrev pub state_after : State → Answer → State
state_after state (Changed new) = counted new
state_after state Done = counted state
state_after state (Table types relation) = counted state
state_after state (Truth b) = counted state
state_after state (Refusal refuse) = state
