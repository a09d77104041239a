-- Rows that stand ready for stored views, once base relvars have new values: one place for each entry.
--     newer, renewed      the rows of a place with those that stand ready for it, and of all places
--     older      what is at the place of those that stood ready, once both are exchanged
--     IsNextTo, AreNextTo      rows stand ready only where rows are stored
--     IsNextOf      a stored view has its rows with those that stand ready for it
--     IsMoveOf      what a stored view gains and loses, once its expression means other rows
--     AreTooMany      why none stand ready
use Rattle.std.specs.Prelude.{◌≡◌, ◌≤◌, false, List, [], ◌∷◌, length, Option, Some, None, Ok}
use Rattle.value_core.specs.Values.{Relation, most_rows}
use Rattle.value_core.specs.declared.refuse.RowsRefuse.{RowsRefuse}
use Rattle.value_core.specs.declared.refuse.RowsRefuse.TheVariants.{TooMany, Memory}
use Rattle.relation_core.specs.Operators.{united, subtracted}
use Rattle.tree_core.specs.Relvars.{PlainRelvar, Entries}
use Rattle.tree_core.specs.Trees.{Tree}
use Rattle.meaning_core.specs.Meanings.{meaning_in}
use Rattle.meaning_core.specs.StoredRows.{HasItsRows}
use Rattle.kept_views.specs.declared.group_moves.Moved.{Moved}
use Rattle.stored_views.specs.Stored.{are_stored_few}

-- the rows that stand ready, or the stored ones where none do
abbrev pub newer : Option Relation → Option Relation → Option Relation
newer None old = old
newer (Some rows) old = Some rows

-- the stored rows at each place, with those that stand ready there
abbrev pub renewed : List (Option Relation) → List (Option Relation) → List (Option Relation)
renewed [] stored = stored
renewed (n ∷ next) [] = []
renewed (n ∷ next) (o ∷ stored) = newer n o ∷ renewed next stored

-- what is left where rows stood ready, once they are exchanged with the stored ones
abbrev pub older : Option Relation → Option Relation → Option Relation
older None old = None
older (Some rows) old = old

-- rows stand ready only where rows are stored
abbrev pub IsNextTo : Option Relation → Option Relation → Type 0
IsNextTo None old = Unit {0}
IsNextTo (Some rows) None = ⊥
IsNextTo (Some rows) (Some old) = Unit {0}

abbrev pub AreNextTo : List (Option Relation) → List (Option Relation) → Type 0
AreNextTo [] stored = Unit {0}
AreNextTo (n ∷ next) [] = IsNextTo n None × AreNextTo next []
AreNextTo (n ∷ next) (o ∷ stored) = IsNextTo n o × AreNextTo next stored

-- the entry has its rows among all entries with those that stand ready for it, if it is a stored view
pub record IsNextOf (all : Entries) (old next : Option Relation) (r : PlainRelvar) : Type 0 where
  pub rows : HasItsRows all r (newer next old)
  pub place : IsNextTo next old

-- without the rows that go, and with those that come, the view has the rows that the expression means among all entries
pub record IsMoveOf (all : Entries) (t : Tree) (view : Relation) (moved : Moved) : Type 0 where
  pub means : meaning_in all t ≡ Ok (united (subtracted view.rows moved.gone.rows) moved.come.rows)
  pub few : length (united (subtracted view.rows moved.gone.rows) moved.come.rows) ≤ most_rows
  pub heading : moved.come.heading ≡ view.heading

-- one of the stored views means too many rows; or memory is wanting
abbrev pub AreTooMany : Entries → RowsRefuse → Type 0
AreTooMany all TooMany = are_stored_few all ≡ false
AreTooMany all Memory = Unit {0}
