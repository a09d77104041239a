-- The statement of a dumped script that inserts rows.
--     Brings      bytes are read as a statement that keeps no text and gives the relvars these values
--     CanBring      so are the statements that insert the rows of relvars, one after the other
use Rattle.std.specs.Prelude.{◌≡◌, ℕ, ◌+◌, ◌<◌, List, [], length, take, drop}
use Rattle.point_core.specs.declared.fault.Place.{Place}
use Rattle.value_core.specs.declared.constraint.Constraint.{Constraint}
use Rattle.value_core.specs.declared.list.OrdinalNames.{OrdinalNames}
use Rattle.value_core.specs.Values.{Name, Relation}
use Rattle.tree_core.specs.Relvars.{base, Entries, State}
use Rattle.dump_core.specs.Inserts.{rows_a_statement, insert_script}
use Rattle.utd_syntax.specs.Plain.{StatementP}
use Rattle.utd_statement.specs.Answers.{Changed, of_tree}
use Rattle.utd_statement.specs.Keeping.{Leaves, keeping_of}
use Rattle.utd_statement.specs.Readings.{Tree as TreeOf, IsText}
use Rattle.text_laws.specs.Statements.{IsOneStatement}
use Rattle.part_laws.specs.Parts.{loaded, IsAt, IsWholeIfOwn}
use Rattle.dump_laws.specs.Accepting.{IsForm}

-- from this place on the bytes are read as one statement that keeps no text, and the state gets these relvars
pub record Brings (place : Place) (bytes : List ℕ) (s : State) (now : Entries) : Type 0 where
  pub tree : StatementP
  pub text : IsText place bytes (TreeOf tree)
  pub keeping : keeping_of tree ≡ Leaves
  pub answered : of_tree s tree ≡ Changed (record s { relvars = now })
  pub one : IsOneStatement bytes

-- in a database that has some of its rows, the next rows can be inserted
abbrev pub CanBring : List OrdinalNames → Entries → Type 0
CanBring types es =
    (i n : ℕ) (name : Name) (v : Relation) (c : List Constraint) (s : State) → IsAt es i (name, base v c) → n < length v.rows → IsWholeIfOwn es i (n + rows_a_statement name c)
    → s.relvars ≡ loaded i n es → s.rules ≡ [] → s.ordinals ≡ types
    → (place : Place) (bytes : List ℕ) → IsForm (insert_script types name v.heading (take (rows_a_statement name c) (drop n v.rows))) bytes
    → Brings place bytes s (loaded i (n + rows_a_statement name c) es)
