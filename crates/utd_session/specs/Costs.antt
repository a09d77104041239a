-- How many steps the statements of a script may take, each in the state before it.
--     cost_from, cost_of, cost_after      of statements in order: from a state on, from no relvars on, after others
--     TakesAtMost      what one statement takes
--     IsWithinCost, IsPaid      what statements of a session take, and those of a run
use Rattle.std.specs.Prelude.{◌≡◌, ◌⊎◌, ℕ, ◌+◌, ◌≤◌, List, [], ◌∷◌, ◌++◌, length, take, Option}
use Rattle.tree_core.specs.Relvars.{State}
use Rattle.assign_core.specs.Databases.{no_relvars}
use Rattle.utd_statement.specs.Readings.{Reading}
use Rattle.utd_statement.specs.Answers.{answer, state_after}
use Rattle.utd_statement.specs.Costs.{statement_cost}
use Rattle.utd_session.specs.Statements.{Statement, complete_statements, statements_within}
use Rattle.utd_session.specs.Readings.{IsReading, AreReadings}
use Rattle.utd_session.specs.Machine.{performed}
use Rattle.utd_session.specs.Run.{WasRead}

-- statements in order, from a state on
abbrev pub cost_from : State → List Reading → ℕ
cost_from state [] = 0
cost_from state (r ∷ rs) = statement_cost state r + cost_from (state_after state (answer state r)) rs

-- the first statements of a script, from no relvars on
abbrev pub cost_of : List Reading → ℕ
cost_of rs = cost_from no_relvars rs

-- others after them
abbrev pub cost_after : List Reading → List Reading → ℕ
cost_after rs more = cost_from (performed rs).state more

-- ---- what is taken, by the steps before and now

-- the statement is not even read, for which no step is taken, or takes at most what it costs
abbrev pub TakesAtMost : Statement → State → ℕ → ℕ → Type 0
TakesAtMost s state before now = (now ≡ before) ⊎ ((r : Reading) × IsReading s r × (now ≤ before + statement_cost state r))

-- Of these statements some were performed after the first ones, which left this state, and at most one more was begun: that took
-- at most what they cost.
pub record IsWithinCost (ss : List Statement) (rs : List Reading) (state : State) (before now : ℕ) : Type 0 where
  pub more : List Reading
  pub begun : List Reading
  pub one : length begun ≤ 1
  pub read : AreReadings (take (length (rs ++ (more ++ begun))) ss) (rs ++ (more ++ begun))
  pub left : state ≡ (performed (rs ++ more)).state
  pub cost : now ≤ before + cost_after rs (more ++ begun)

-- So many bytes were taken of a script, and the steps are at most what the first of its statements cost, which all end in these bytes.
pub record IsPaid (bytes : List ℕ) (left : Option (List ℕ)) (before now : ℕ) : Type 0 where
  pub taken : ℕ
  pub were_read : WasRead taken bytes left
  pub readings : List Reading
  pub first : AreReadings (take (length readings) (statements_within bytes)) readings
  pub ended : length readings ≤ length (complete_statements (take taken bytes))
  pub cost : now ≤ before + cost_of readings
