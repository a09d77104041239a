-- The operands of stored views: the values of base relvars that they name.
--     IsStoredFor      an expression that may be a stored view of a state
--     AreOperands      its operands name base relvars
--     AreValues      these relations are their values
use Rattle.std.specs.Prelude.{◌≡◌, Option, Some, None}
use Rattle.value_core.specs.Values.{Relation}
use Rattle.tree_core.specs.Relvars.{PlainRelvar, base, view, log, stored, Entries, State, relvar_named, heading_if}
use Rattle.tree_core.specs.Trees.{Tree, named, infix_of, project, pack, using}
use Rattle.meaning_core.specs.WellMade.{IsBase, IsOfKind, IsTypedFor}

-- the expression is typed, and is that of a stored view
abbrev pub IsStoredFor : State → Tree → Type 0
IsStoredFor s t = IsTypedFor s t × IsOfKind s.relvars t stored

-- ---- names of base relvars

-- an operand names a base relvar, and has its heading
abbrev pub IsOperand : Entries → Tree → Type 0
IsOperand all (named place h name) = IsBase (relvar_named all name) × (heading_if (relvar_named all name) ≡ h)
IsOperand all _ = ⊥

abbrev pub ArePartOperands : Entries → Tree → Type 0
ArePartOperands all (infix_of place h word l r) = IsOperand all l × IsOperand all r
ArePartOperands all (project place h kept t) = IsOperand all t
ArePartOperands all _ = ⊥

abbrev pub AreOperands : Entries → Tree → Type 0
AreOperands all (using place h commalist t) = ArePartOperands all t
AreOperands all (pack place h commalist t) = IsOperand all t
AreOperands all _ = ⊥

-- ---- values

-- the value of a base relvar
abbrev pub value_if : Option PlainRelvar → Option Relation
value_if None = None
value_if (Some (base value constraints)) = Some value
value_if (Some (view t kind)) = None
value_if (Some (log of side last value)) = None

-- the relation is the value of the base relvar that the operand names, and has the operand's heading
abbrev pub IsValue : Entries → Tree → Relation → Type 0
IsValue all (named place h name) value = (value_if (relvar_named all name) ≡ Some value) × (value.heading ≡ h)
IsValue all _ value = ⊥

abbrev pub ArePairValues : Entries → Tree → Tree → Relation → Option Relation → Type 0
ArePairValues all l r left None = ⊥
ArePairValues all l r left (Some right) = IsValue all l left × IsValue all r right

abbrev pub IsAloneValue : Entries → Tree → Relation → Option Relation → Type 0
IsAloneValue all t left None = IsValue all t left
IsAloneValue all t left (Some right) = ⊥

abbrev pub ArePartValues : Entries → Tree → Relation → Option Relation → Type 0
ArePartValues all (infix_of place h word l r) left right = ArePairValues all l r left right
ArePartValues all (project place h kept t) left right = IsAloneValue all t left right
ArePartValues all _ left right = ⊥

-- the relations are the values of the operands
abbrev pub AreValues : Entries → Tree → Relation → Option Relation → Type 0
AreValues all (using place h commalist t) left right = ArePartValues all t left right
AreValues all (pack place h commalist t) left right = IsAloneValue all t left right
AreValues all _ left right = ⊥
