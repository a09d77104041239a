-- What type checking gives of a statement that inserts constants, or sets a relvar to them: the item with the literal's tuples, which
-- mean the rows that are written.
--     insertion-checked, insertion-under-checked, setting-checked      of the statements
use Rattle.std.proofs.Common.{◌≡◌, ℕ, List, [], ◌∷◌, Some, None, Ok, ap}
use Rattle.base_core.specs.Outcomes.{then_give}
use Rattle.point_core.specs.declared.fault.Place.{Place}
use Rattle.point_core.specs.Faults.{OrFault}
use Rattle.utd_syntax.specs.Plain.{Word, NameListP, LiteralP, StatementP}
use Rattle.value_core.specs.declared.constraint.Constraint.{Constraint}
use Rattle.value_core.specs.Values.{Row, Relation, rows_of}
use Rattle.tree_core.specs.Items.{PlainItem, PlainItemForm, set_to, insert}
use Rattle.tree_core.specs.Relvars.{State}
use Rattle.tree_core.specs.Trees.{PlainSets, Tree}
use Rattle.meaning_core.specs.Meanings.{literal_rows}
use Rattle.item_typing.specs.Targets.{item_of}
use Rattle.type_check.specs.Checks.{assign, checked}
use Rattle.constant_laws.specs.Insertions.{WritesLiteral, IsListed, insertion, insertion_under, setting}
use Rattle.constant_laws.proofs.TypedTuples.{literal-typed}
use Rattle.constant_laws.proofs.TypedInsertions.{IsBaseNamed, literal_tree, insertion-typed, insertion-under-typed, setting-typed}

-- a statement is an item at this place, of this relvar, with a literal of tuples that mean these rows
pub record IsChecked (state : State) (tree : StatementP) (place : Place) (w : Word) (l : LiteralP) (old : Relation) (rows : List Row) (form : Tree → PlainItemForm) : Type 0 where
  pub tuples : List PlainSets
  pub is : checked state tree ≡ Ok (assign (item_of place (w.bytes, old.heading) (form (literal_tree old.heading l tuples)) ∷ []))
  pub means : literal_rows old.heading tuples ≡ Ok (rows_of rows)

as-plain : (typed : OrFault (List PlainItem)) (items : List PlainItem) → typed ≡ Ok items → then_give typed (λ x. Ok (assign x)) ≡ Ok (assign items)
as-plain typed items h = ap (λ (m : OrFault (List PlainItem)). then_give m (λ x. Ok (assign x))) h

pub insertion-checked : (state : State) (at : Place) (w : Word) (l : LiteralP) (old : Relation) (constraints : List Constraint) (rows : List Row) → IsBaseNamed state w old constraints
    → WritesLiteral state.ordinals old.heading rows l → IsChecked state (insertion at w l) at w l old rows (insert None)
insertion-checked state at w l old constraints rows found writes =
    let h = literal-typed state.ordinals old.heading rows l writes in
    record {
      tuples = h.tuples;
      is = as-plain _ _ (insertion-typed state at w l old constraints rows found h);
      means = h.means;
    }

-- the item of an insertion under USING stands at the USING
pub insertion-under-checked : (state : State) (at : Place) (list : NameListP) (there : Place) (w : Word) (l : LiteralP) (old : Relation) (constraints : List Constraint) (commalist : List ℕ) (rows : List Row) → IsBaseNamed state w old constraints
    → IsListed old.heading commalist list → WritesLiteral state.ordinals old.heading rows l → IsChecked state (insertion_under at list there w l) at w l old rows (insert (Some commalist))
insertion-under-checked state at list there w l old constraints commalist rows found listed writes =
    let h = literal-typed state.ordinals old.heading rows l writes in
    record {
      tuples = h.tuples;
      is = as-plain _ _ (insertion-under-typed state at list there w l old constraints commalist rows found listed h);
      means = h.means;
    }

pub setting-checked : (state : State) (w : Word) (l : LiteralP) (old : Relation) (constraints : List Constraint) (rows : List Row) → IsBaseNamed state w old constraints
    → WritesLiteral state.ordinals old.heading rows l → IsChecked state (setting w l) w.place w l old rows set_to
setting-checked state w l old constraints rows found writes =
    let h = literal-typed state.ordinals old.heading rows l writes in
    record {
      tuples = h.tuples;
      is = as-plain _ _ (setting-typed state w l old constraints rows found h);
      means = h.means;
    }
