-- What stored views gain and lose, where base relvars gain and lose rows.
--     IsDifferenceOf, AreDifferences      what base relvars gain and lose that get new values
--     difference_named, left_difference, right_difference      what the relvar of a name gains and loses, and the operands of an expression
--     AreTold      what the operands gain and lose between two lists of entries
--     placed, all_placed      the stored rows less those that go, and with those that come
--     IsMoveAt, AreMovesAt      rows come and go only where rows are stored, as many as are told
--     IsMoveTo      what a stored view gains and loses, once its expression means other rows
--     IsMoveFor      the same of an entry at its place
use Rattle.std.specs.Prelude.{◌≡◌, ◌+◌, ◌≤◌, List, [], ◌∷◌, length, Option, Some, None, if◌then◌else◌}
use Rattle.std.specs.Str.{bytes_eq}
use Rattle.value_core.specs.Values.{Name, Relation, IsRelation, most_rows}
use Rattle.tree_core.specs.Relvars.{PlainRelvar, base, view, log, Entries}
use Rattle.tree_core.specs.Trees.{Tree, named, infix_of, project, pack, using}
use Rattle.meaning_core.specs.StoredRows.{IsValueThere, HasItsRows}
use Rattle.relvar_logs.specs.Changes.{Changes}
use Rattle.u_constraints.specs.Growth.{exchanged}
use Rattle.kept_views.specs.Differing.{IsDifference, IsDifferenceIf}
use Rattle.kept_views.specs.Touched.{AreRelations}
use Rattle.kept_views.specs.declared.group_moves.Moved.{Moved}
use Rattle.stored_views.specs.Operands.{AreValues}

-- ---- what base relvars gain and lose

-- where a base relvar gets a new value, a relation, it is told what it gains and loses
abbrev pub IsDifferenceOf : Option Relation → Option Moved → PlainRelvar → Type 0
IsDifferenceOf None None r = Unit {0}
IsDifferenceOf None (Some m) r = ⊥
IsDifferenceOf (Some value) None r = ⊥
IsDifferenceOf (Some value) (Some m) (base old constraints) = IsDifference old value (Some m) × IsRelation value
IsDifferenceOf (Some value) (Some m) (view t kind) = ⊥
IsDifferenceOf (Some value) (Some m) (log of side last w) = ⊥

abbrev pub AreDifferences : Changes → List (Option Moved) → Entries → Type 0
AreDifferences [] [] [] = Unit {0}
AreDifferences [] [] (r ∷ rest) = ⊥
AreDifferences [] (d ∷ ds) entries = ⊥
AreDifferences (c ∷ cs) [] entries = ⊥
AreDifferences (c ∷ cs) (d ∷ ds) [] = ⊥
AreDifferences (c ∷ cs) (d ∷ ds) (r ∷ rest) = IsDifferenceOf c d r.1 × AreDifferences cs ds rest

-- what the relvar of a name gains and loses
abbrev pub difference_named : List (Option Moved) → Entries → Name → Option Moved
difference_named [] entries name = None
difference_named (d ∷ ds) [] name = None
difference_named (d ∷ ds) (r ∷ rest) name = if bytes_eq r.0 name then d else difference_named ds rest name

-- what the base relvar gains and loses that an operand names
abbrev pub operand_difference : List (Option Moved) → Entries → Tree → Option Moved
operand_difference ds entries (named place h name) = difference_named ds entries name
operand_difference ds entries _ = None

abbrev pub left_of_part : List (Option Moved) → Entries → Tree → Option Moved
left_of_part ds entries (infix_of place h word l r) = operand_difference ds entries l
left_of_part ds entries (project place h kept t) = operand_difference ds entries t
left_of_part ds entries _ = None

abbrev pub right_of_part : List (Option Moved) → Entries → Tree → Option Moved
right_of_part ds entries (infix_of place h word l r) = operand_difference ds entries r
right_of_part ds entries _ = None

-- what the left operand of a stored view's expression gains and loses, and the right one, if it has two
abbrev pub left_difference : List (Option Moved) → Entries → Tree → Option Moved
left_difference ds entries (using place h commalist t) = left_of_part ds entries t
left_difference ds entries (pack place h commalist t) = operand_difference ds entries t
left_difference ds entries _ = None

abbrev pub right_difference : List (Option Moved) → Entries → Tree → Option Moved
right_difference ds entries (using place h commalist t) = right_of_part ds entries t
right_difference ds entries _ = None

-- what operands gain and lose
pub record AreOperandMoves (old new : Relation) (old_right new_right : Option Relation) (d e : Option Moved) : Type 0 where
  pub left : IsDifference old new d
  pub right : IsDifferenceIf old_right new_right e
  pub relations : AreRelations new new_right

-- the operands of the expression gain and lose this between the entries before and after
pub record AreTold (before after : Entries) (t : Tree) (left right : Option Moved) : Type 0 where
  pub told : (old new : Relation) (old_right new_right : Option Relation) → AreRelations old old_right → AreValues before t old old_right → AreValues after t new new_right
      → AreOperandMoves old new old_right new_right left right

-- ---- what stored views gain and lose

-- the stored rows, with those that come, and less those that go
abbrev pub placed : Option Moved → Option Relation → Option Relation
placed None old = old
placed (Some m) None = None
placed (Some m) (Some r) = Some (record { heading = r.heading; rows = exchanged r.rows m.gone.rows m.come.rows })

abbrev pub all_placed : List (Option Moved) → List (Option Relation) → List (Option Relation)
all_placed [] stored = stored
all_placed (m ∷ moves) [] = []
all_placed (m ∷ moves) (o ∷ stored) = placed m o ∷ all_placed moves stored

-- the rows that come are new and those that go were there, of the same heading, and there are not too many then
pub record IsPlaced (r : Relation) (m : Moved) : Type 0 where
  pub come_heading : m.come.heading ≡ r.heading
  pub gone_heading : m.gone.heading ≡ r.heading
  pub few : length (exchanged r.rows m.gone.rows m.come.rows) ≤ most_rows
  pub counted : length (exchanged r.rows m.gone.rows m.come.rows) + length m.gone.rows ≡ length r.rows + length m.come.rows

abbrev pub IsMoveAt : Option Moved → Option Relation → Type 0
IsMoveAt None old = Unit {0}
IsMoveAt (Some m) None = ⊥
IsMoveAt (Some m) (Some r) = IsPlaced r m

abbrev pub AreMovesAt : List (Option Moved) → List (Option Relation) → Type 0
AreMovesAt [] stored = Unit {0}
AreMovesAt (m ∷ moves) [] = IsMoveAt m None × AreMovesAt moves []
AreMovesAt (m ∷ moves) (o ∷ stored) = IsMoveAt m o × AreMovesAt moves stored

-- with the rows that come, and less those that go, the view has the rows that its expression means among all entries
pub record IsMoveTo (all : Entries) (t : Tree) (view : Relation) (m : Option Moved) : Type 0 where
  pub rows : IsValueThere all t (placed m (Some view))
  pub place : IsMoveAt m (Some view)

-- so has the entry, if it is a stored view
pub record IsMoveFor (all : Entries) (old : Option Relation) (m : Option Moved) (r : PlainRelvar) : Type 0 where
  pub rows : HasItsRows all r (placed m old)
  pub place : IsMoveAt m old
