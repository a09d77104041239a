-- The rows of stored views beside the entries of a state, one place for each entry.
--     IsValueOf      a relation has the rows that an expression means
--     HasItsRows, HaveTheirRows      an entry, and each, has its rows at its place, if it is a stored view
--     AreStored      so it is of all entries of a state
use Rattle.std.specs.Prelude.{◌≡◌, List, [], ◌∷◌, Option, Some, None, Ok}
use Rattle.value_core.specs.Values.{Relation}
use Rattle.tree_core.specs.Relvars.{PlainKind, derived, of_history, stored, PlainRelvar, base, view, log, Entries}
use Rattle.tree_core.specs.Trees.{Tree, heading_of}
use Rattle.meaning_core.specs.Meanings.{meaning_in}

-- the relation has the rows that the expression means among all entries, and its heading
pub record IsValueOf (all : Entries) (t : Tree) (rows : Relation) : Type 0 where
  pub means : meaning_in all t ≡ Ok rows.rows
  pub headed : rows.heading ≡ heading_of t

abbrev pub IsValueThere : Entries → Tree → Option Relation → Type 0
IsValueThere all t None = ⊥
IsValueThere all t (Some rows) = IsValueOf all t rows

-- of a stored view its rows are there; of other views nothing is asked
abbrev pub IsValueByKind : Entries → Tree → PlainKind → Option Relation → Type 0
IsValueByKind all t derived rows = Unit {0}
IsValueByKind all t (of_history names) rows = Unit {0}
IsValueByKind all t stored rows = IsValueThere all t rows

abbrev pub HasItsRows : Entries → PlainRelvar → Option Relation → Type 0
HasItsRows all (base value constraints) rows = Unit {0}
HasItsRows all (view t kind) rows = IsValueByKind all t kind rows
HasItsRows all (log of side last value) rows = Unit {0}

-- each of some entries has its rows at its place; behind the list there are none
abbrev pub HaveTheirRows : Entries → Entries → List (Option Relation) → Type 0
HaveTheirRows all [] rows = Unit {0}
HaveTheirRows all (r ∷ rest) [] = HasItsRows all r.1 None × HaveTheirRows all rest []
HaveTheirRows all (r ∷ rest) (o ∷ more) = HasItsRows all r.1 o × HaveTheirRows all rest more

abbrev pub AreStored : Entries → List (Option Relation) → Type 0
AreStored all rows = HaveTheirRows all all rows
