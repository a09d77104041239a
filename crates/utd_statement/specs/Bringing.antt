-- What comes of a statement that brings rows, which is performed straight from its bytes.
--     IsDoneBy      the bytes are read as a tree, and what is told of it and left is what the tree makes
--     IsTried      so it is, or the statement is left to be performed by its tree
--     IsToldBy      what is told of rows that a database was given
use Rattle.std.specs.Prelude.{◌≡◌, ◌≤◌, ◌+◌, ℕ, Bool, true, false, List, [], Option, Some, None, Result, Ok, Err, Vec}
use Rattle.std.specs.Global.{Global}
use Rattle.point_core.specs.declared.fault.Place.{Place}
use Rattle.value_core.specs.declared.refuse.Refuse.{Refuse}
use Rattle.tree_core.specs.Relvars.{State}
use Rattle.utd_syntax.specs.Plain.{StatementP}
use Rattle.utd_statement.specs.Answers.{of_tree}
use Rattle.utd_statement.specs.Costs.{cost_of_tree}
use Rattle.utd_statement.specs.Keeping.{Leaves, keeping_of}
use Rattle.utd_statement.specs.Readings.{Tree, IsText}
use Rattle.utd_statement.specs.Replies.{IsPerformed}

-- the bytes are read as a tree, which keeps no text; it is performed, within its steps
pub record IsDoneBy (start : Place) (bytes : List ℕ) (written : Result (Vec ℕ Global) Refuse) (old new : State) (before now : ℕ) : Type 0 where
  pub tree : StatementP
  pub text : IsText start bytes (Tree tree)
  pub leaves : keeping_of tree ≡ Leaves
  pub performed : IsPerformed written old new (of_tree old tree)
  pub cost : now ≤ before + cost_of_tree old tree

-- a statement is performed, or left with nothing changed and no step taken
abbrev pub IsTried : Place → List ℕ → Option (Result (Vec ℕ Global) Refuse) → State → State → ℕ → ℕ → Type 0
IsTried start bytes None old new before now = (new ≡ old) × (now ≡ before)
IsTried start bytes (Some written) old new before now = IsDoneBy start bytes written old new before now

-- what is written of rows that the database took: nothing; or why it refused them; none where it left them
abbrev pub IsToldBy : Result Bool Refuse → Option (Result (Vec ℕ Global) Refuse) → Type 0
IsToldBy (Ok true) (Some (Ok text)) = text.items ≡ []
IsToldBy (Ok true) (Some (Err refuse)) = ⊥
IsToldBy (Ok true) None = ⊥
IsToldBy (Ok false) (Some written) = ⊥
IsToldBy (Ok false) None = Unit {0}
IsToldBy (Err refuse) (Some (Ok text)) = ⊥
IsToldBy (Err refuse) (Some (Err told)) = told ≡ refuse
IsToldBy (Err refuse) None = ⊥
