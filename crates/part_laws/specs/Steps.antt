-- The statements that insert the rows of a database, one after another.
--     HoldsBefore      what holds behind such a statement holds before it
use Rattle.std.specs.Prelude.{ℕ, ◌+◌, ◌<◌, List, ◌∷◌, take, drop, length}
use Rattle.value_core.specs.declared.constraint.Constraint.{Constraint}
use Rattle.value_core.specs.declared.list.OrdinalNames.{OrdinalNames}
use Rattle.value_core.specs.Values.{Name, Relation}
use Rattle.tree_core.specs.Relvars.{base, Entries}
use Rattle.dump_core.specs.Inserts.{rows_a_statement, insert_script}
use Rattle.part_laws.specs.Parts.{loaded, IsAt, IsWholeIfOwn}

-- Let it hold of the database with the next rows, and of the statements to come. Then it holds of the database without these rows, and of
-- those statements with the one that inserts the rows in front.
abbrev pub HoldsBefore : List OrdinalNames → Entries → (Entries → List (List ℕ) → Type 0) → Type 0
HoldsBefore types es Q =
    (i n : ℕ) (name : Name) (v : Relation) (c : List Constraint) (later : List (List ℕ)) → IsAt es i (name, base v c) → n < length v.rows → IsWholeIfOwn es i (n + rows_a_statement name c)
    → Q (loaded i (n + rows_a_statement name c) es) later → Q (loaded i n es) (insert_script types name v.heading (take (rows_a_statement name c) (drop n v.rows)) ∷ later)
