-- The states that a script's machine came to, and what its logs say of them.
--     state_at      the state after so many accepted statements
--     values_of      the rows that a relvar had after each of some statements
--     IsTelling      a log has just the rows of the sentence: each tells a longest stretch of statements after which a row stood
--     IsLogSince      a log has told that since the statement that declared it
--     states_from, states_of      the states that accepted statements leave: from a state on, and of a script
--     LogsTell      each log that stands has told so
use Rattle.std.specs.Prelude.{◌≡◌, ◌↔◌, ℕ, suc, ◌<◌, ◌≤◌, ℤ, pos, Bool, true, false, List, [], ◌∷◌, ◌++◌, map, take, drop, length, slice_index_or, Some, None}
use Rattle.base_core.specs.Sets.{has, is_set}
use Rattle.value_core.specs.Values.{Name, Row, Relation, row_cmp}
use Rattle.log_times.specs.Logs.{IsInLog}
use Rattle.tree_core.specs.Relvars.{State, log, relvar_named}
use Rattle.meaning_core.specs.Logs.{base_rows}
use Rattle.meaning_core.specs.WellMade.{IsBase}
use Rattle.assign_core.specs.Databases.{no_relvars}
use Rattle.utd_statement.specs.Answers.{answer, is_accepted, state_after}
use Rattle.utd_statement.specs.Readings.{Reading}
use Rattle.utd_session.specs.Machine.{performed}

-- the state after n accepted statements: the first of the states is the one before all
abbrev pub state_at : List State → ℕ → State
state_at states n = slice_index_or states n no_relvars

-- the rows of the base relvar of a name
abbrev pub rows_in : Name → State → List Row
rows_in name s = base_rows (relvar_named s.relvars name)

-- the rows that it had after each accepted statement from the m-th to the n-th
abbrev pub values_of : List State → Name → ℕ → ℕ → List (List Row)
values_of states name m n = map (rows_in name) (drop m (take (suc n) states))

-- After the n-th accepted statement the name stands for the log of a base relvar. A row stands in the log exactly where it is one of the
-- sentence, which speaks of the relvar's rows after the statements from the m-th to the n-th.
pub record IsTelling (states : List State) (name of : Name) (side m n : ℕ) : Type 0 where
  pub value : Relation
  pub there : relvar_named (state_at states n).relvars name ≡ Some (log of side (pos n) value)
  pub relvar : IsBase (relvar_named (state_at states n).relvars of)
  pub set : is_set row_cmp value.rows ≡ true
  pub told : (y : Row) → (has row_cmp value.rows y ≡ true) ↔ IsInLog side (pos m) (values_of states of m n) y

-- The log has told that after each accepted statement since the one that declared it, before which the name stood for nothing.
pub record IsLogSince (states : List State) (name of : Name) (side : ℕ) : Type 0 where
  pub first : ℕ
  pub some : 1 ≤ first
  pub within : first < length states
  pub free : (k : ℕ) → suc k ≡ first → relvar_named (state_at states k).relvars name ≡ None
  pub tells : (n : ℕ) → first ≤ n → n < length states → IsTelling states name of side first n

-- ---- a script

-- what an accepted statement leaves
abbrev pub left_by : Bool → State → List State
left_by true state = state ∷ []
left_by false state = []

-- the states that the accepted ones of these statements leave, in order
abbrev pub states_from : State → List Reading → List State
states_from state [] = []
states_from state (r ∷ rs) =
    left_by (is_accepted (answer state r)) (state_after state (answer state r)) ++ states_from (state_after state (answer state r)) rs

-- the state before all statements of a script, and that after each accepted one
abbrev pub states_of : List Reading → List State
states_of rs = no_relvars ∷ states_from no_relvars rs

-- The last of them is the state in which the machine is. Each log that stands in it has told since its own statement, after each accepted
-- statement, in which of the states which row stood.
pub record LogsTell (rs : List Reading) : Type 0 where
  pub last : (front : List State) × (states_of rs ≡ front ++ (performed rs).state ∷ [])
  pub told : (name of : Name) (side : ℕ) (last : ℤ) (value : Relation) → relvar_named (performed rs).state.relvars name ≡ Some (log of side last value)
      → IsLogSince (states_of rs) name of side
