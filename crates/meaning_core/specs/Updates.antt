-- Which items and assignments are typed for a state.
--     swept_list      the attributes on which a change works point by point
--     IsTypedItem      of items: the target is a base relvar of the item's heading, or the view of a history, and its parts are typed
--     IsTypedAssignment      of assignments: the target is a base relvar, and the expression has its heading
--     IsTypedLog      of what LOG declares
use Rattle.std.specs.Prelude.{◌≡◌, ◌<◌, ℕ, Bool, not, true, false, ◌&&◌, List, [], ◌∷◌, map, length, Option, Some, None, IsTrue}
use Rattle.std.specs.List.{list_all, list_any, All}
use Rattle.value_core.specs.declared.kind.Kind.TheVariants.{Truth}
use Rattle.value_core.specs.Attributes.{among}
use Rattle.value_core.specs.declared.constraint.HistoryRule.{HistoryRule}
use Rattle.value_core.specs.Headings.{has_name, most_attributes}
use Rattle.value_core.specs.Values.{Name, Heading}
use Rattle.scalar_core.specs.Expressions.{Expr}
use Rattle.relation_core.specs.Agreement.{position_of}
use Rattle.relation_core.specs.Parts.{kind_at}
use Rattle.tree_core.specs.declared.declaration.LogData.{LogData}
use Rattle.tree_core.specs.Relvars.{State, relvar_named, heading_if}
use Rattle.tree_core.specs.Trees.{PlainSets, heading_of}
use Rattle.tree_core.specs.Items.{PlainPortion, PlainChange, PlainItemForm, set_to, insert, delete, delete_rows, update, terminate, PlainItem, PlainAssignment}
use Rattle.meaning_core.specs.Typing.{IsScalar, IsExtension, IsList, IsListIf, is_span, is_swept}
use Rattle.meaning_core.specs.Endings.{history_of, rule_of}
use Rattle.meaning_core.specs.Declarations.{with_log}
use Rattle.meaning_core.specs.WellMade.{IsBase, IsTypedFor, IsWellMade, sizes_of}

-- ---- changes of rows

-- the attributes of a portion
abbrev pub attributes_of_portion : PlainPortion → List ℕ
attributes_of_portion portion = map (λ p. p.0) portion

-- the attributes on which a change works point by point: those of the portion, or those of USING
abbrev pub swept_list : Option (List ℕ) → Option PlainPortion → Option (List ℕ)
swept_list commalist None = commalist
swept_list commalist (Some portion) = Some (attributes_of_portion portion)

-- an interval of the attribute's type, which names no attribute
abbrev pub IsPart : List ℕ → Heading → ℕ × Expr → Type 0
IsPart sizes heading p = IsTrue (is_span (kind_at heading p.0)) × IsScalar sizes [] p.1 (kind_at heading p.0)

-- a portion stands beside no USING, and is not empty
abbrev pub IsPortionIf : List ℕ → Heading → Option (List ℕ) → Option PlainPortion → Type 0
IsPortionIf sizes heading commalist None = Unit {0}
IsPortionIf sizes heading None (Some []) = ⊥
IsPortionIf sizes heading None (Some (p ∷ portion)) = IsList heading (attributes_of_portion (p ∷ portion)) × All (IsPart sizes heading) (p ∷ portion)
IsPortionIf sizes heading (Some commalist) (Some portion) = ⊥

abbrev pub IsConditionIf : List ℕ → Heading → Option Expr → Type 0
IsConditionIf sizes heading None = Unit {0}
IsConditionIf sizes heading (Some c) = IsScalar sizes heading c Truth

-- the expression is sweepable for the attributes of the list, if there is one
abbrev pub is_swept_if : Option (List ℕ) → Expr → Bool
is_swept_if None e = true
is_swept_if (Some commalist) e = is_swept commalist e

abbrev pub condition_is_swept : Option (List ℕ) → Option Expr → Bool
condition_is_swept commalist None = true
condition_is_swept commalist (Some c) = is_swept_if commalist c

pub record IsChange (sizes : List ℕ) (heading : Heading) (c : PlainChange) : Type 0 where
  pub commalist : IsListIf heading c.commalist
  pub portion : IsPortionIf sizes heading c.commalist c.portion
  pub condition : IsConditionIf sizes heading c.condition
  pub swept : IsTrue (condition_is_swept (swept_list c.commalist c.portion) c.condition)

-- each item of a change is sweepable, and none assigns an attribute of the list
abbrev pub are_swept_sets : Heading → Option (List ℕ) → PlainSets → Bool
are_swept_sets heading None sets = true
are_swept_sets heading (Some commalist) sets =
    list_all (λ s. is_swept commalist s.1) sets && not (list_any (λ s. among commalist (position_of heading s.0)) sets)

-- ---- items

-- the base relvar or the view that an item is of
abbrev pub IsBaseOf : State → Name → Heading → Type 0
IsBaseOf s target heading = IsBase (relvar_named s.relvars target) × (heading ≡ heading_if (relvar_named s.relvars target))

-- an ending is of the view of a history: its point is one of the since relvar's, and its condition is over that relvar's rows
abbrev pub IsEnding : State → Option HistoryRule → Option (Name × Name) → Expr → Option Expr → Type 0
IsEnding s rule None e c = ⊥
IsEnding s None (Some names) e c = ⊥
IsEnding s (Some rule) (Some names) e c =
    let since = heading_if (relvar_named s.relvars names.0) in
    IsScalar (sizes_of s.ordinals) [] e (kind_at since rule.point_there) × IsConditionIf (sizes_of s.ordinals) since c

-- the parts of an item are typed for its target, which is a base relvar; that of an ending is the view of a history
abbrev pub IsTypedForm : State → Name → Heading → PlainItemForm → Type 0
IsTypedForm s target heading (set_to t) = IsBaseOf s target heading × IsTypedFor s t × (heading_of t ≡ heading)
IsTypedForm s target heading (insert commalist t) = IsBaseOf s target heading × IsTypedFor s t × (heading_of t ≡ heading) × IsListIf heading commalist
IsTypedForm s target heading (delete commalist t) = IsBaseOf s target heading × IsTypedFor s t × (heading_of t ≡ heading) × IsListIf heading commalist
IsTypedForm s target heading (delete_rows c) = IsBaseOf s target heading × IsChange (sizes_of s.ordinals) heading c
IsTypedForm s target heading (update c sets) =
    IsBaseOf s target heading × IsChange (sizes_of s.ordinals) heading c × IsExtension (sizes_of s.ordinals) heading heading sets
    × IsTrue (are_swept_sets heading (swept_list c.commalist c.portion) sets)
IsTypedForm s target heading (terminate e place c) = IsEnding s (rule_of s.relvars target) (history_of s.relvars target) e c

abbrev pub IsTypedItem : State → PlainItem → Type 0
IsTypedItem s i = IsTypedForm s i.target i.heading i.form

-- ---- assignments

pub record IsTypedAssignment (s : State) (a : PlainAssignment) : Type 0 where
  pub base : IsBase (relvar_named s.relvars a.target)
  pub headed : heading_of a.tree ≡ heading_if (relvar_named s.relvars a.target)
  pub typed : IsTypedFor s a.tree

-- ---- logs

-- a log can be opened: its relvar is a base relvar with room for one attribute more, which has none of that name
pub record IsTypedLog (s : State) (d : LogData) : Type 0 where
  pub base : IsBase (relvar_named s.relvars d.of)
  pub few : length (heading_if (relvar_named s.relvars d.of)) < most_attributes
  pub new : has_name (heading_if (relvar_named s.relvars d.of)) d.attribute ≡ false
  pub made : IsWellMade (with_log s d)
