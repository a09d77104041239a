-- The insertions of a dumped script: what is asked of the database before one, and what then comes of it.
--     IsLoadFor      the next rows of a base relvar can be inserted
--     Loads      bytes are read as a statement that leaves the database with so many rows
use Rattle.std.specs.Prelude.{◌≡◌, ℕ, ◌+◌, ◌<◌, ◌≤◌, false, List, [], length}
use Rattle.point_core.specs.declared.fault.Place.{Place}
use Rattle.value_core.specs.declared.constraint.Constraint.{Constraint}
use Rattle.value_core.specs.Values.{Name, Relation}
use Rattle.tree_core.specs.Relvars.{base, Entries, State}
use Rattle.meaning_core.specs.Logs.{has_log}
use Rattle.stored_views.specs.Stored.{has_stored}
use Rattle.utd_syntax.specs.Plain.{StatementP}
use Rattle.utd_statement.specs.Answers.{Changed, of_tree}
use Rattle.utd_statement.specs.Keeping.{Leaves, keeping_of}
use Rattle.utd_statement.specs.Readings.{Tree as TreeOf, IsText}
use Rattle.text_laws.specs.Statements.{IsOneStatement}
use Rattle.constant_texts.specs.Sayable.{AreSayable}
use Rattle.part_laws.specs.Parts.{loaded, IsAt, IsWholeIfOwn, IsLoadable}

-- The state has the relvars before the i-th with all rows, and the first n rows of the i-th, which has more. So many rows more may come.
-- The names can be written, there is no log and no stored view, and no database constraint is declared yet.
pub record IsLoadFor (es : Entries) (i n size : ℕ) (name : Name) (v : Relation) (c : List Constraint) (r : State) : Type 0 where
  pub loadable : IsLoadable es
  pub stands : IsAt es i (name, base v c)
  pub less : n < length v.rows
  pub some : 1 ≤ size
  pub may : IsWholeIfOwn es i (n + size)
  pub now : r.relvars ≡ loaded i n es
  pub none : r.rules ≡ []
  pub logless : has_log es ≡ false
  pub unstored : has_stored es ≡ false
  pub sayable : AreSayable r.ordinals name v.heading

-- From this place on the bytes are read as a statement that keeps no text. It is accepted, and the state has the first n rows of the i-th.
pub record Loads (place : Place) (bytes : List ℕ) (es : Entries) (i n : ℕ) (r : State) : Type 0 where
  pub tree : StatementP
  pub text : IsText place bytes (TreeOf tree)
  pub keeping : keeping_of tree ≡ Leaves
  pub answered : of_tree r tree ≡ Changed (record r { relvars = loaded i n es })
  pub one : IsOneStatement bytes
