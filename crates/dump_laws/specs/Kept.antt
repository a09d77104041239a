-- What the kept texts of a run say of the state that it leaves.
--     kind_said, key_said      the kind of the text that says something, and the name under which it is kept
--     IsTextOf, AreTextsFrom, AreTexts      a text is that of a statement that says this in a state, and texts in order
--     is_early, is_late      a base relvar or the view of a history, or another view; a log is neither
--     is_early_said, is_view_said      whether something is said by a text that stands before all rows, or by one of a view
--     IsListedAs      a state has just what is said, values of its base relvars, and logs
--     IsSmall, IsMadeOf      the same, and all stays below the limits
use Rattle.std.specs.Prelude.{◌≡◌, ◌≤◌, ℕ, Bool, true, false, List, [], ◌∷◌, ◌++◌, length, map}
use Rattle.std.specs.List.{All, filter, flat_map, IsDistinct}
use Rattle.std.specs.Str.{bytes_eq}
use Rattle.point_core.specs.declared.fault.Place.{Place}
use Rattle.value_core.specs.declared.list.OrdinalNames.{OrdinalNames}
use Rattle.value_core.specs.Limits.{most_statement_bytes, most_relvars, most_ordinal_types, most_rules, most_nodes}
use Rattle.value_core.specs.Values.{Name}
use Rattle.tree_core.specs.Relvars.{State, PlainRelvar, base, view, log, derived, stored, of_history}
use Rattle.declaration_typing.specs.Nodes.{nodes_of, test_nodes}
use Rattle.dump_core.specs.declared.texts.TextKind.{TextKind}
use Rattle.dump_core.specs.declared.texts.TextKind.TheVariants.{Early, View, Rule}
use Rattle.dump_core.specs.Texts.{SourceText, same_kind}
use Rattle.part_laws.specs.Parts.{emptied}
use Rattle.utd_lexer.specs.Gaps.{without_gaps}
use Rattle.utd_syntax.specs.Plain.{StatementP}
use Rattle.utd_statement.specs.Keeping.{Keeps, keeping_of}
use Rattle.utd_statement.specs.Readings.{Tree as TreeOf, IsText}
use Rattle.text_laws.specs.Statements.{IsOneStatement}
use Rattle.typing_laws.specs.Saying.{Said, said_ordinal, said_base, said_view, said_stored, said_history, said_rule, Says, names_said, entries_said, ordinals_said, rules_said}

-- ---- texts

-- types, base relvars and histories stand before all rows
abbrev pub kind_said : Said → TextKind
kind_said (said_ordinal name names) = Early
kind_said (said_base name heading typed) = Early
kind_said (said_view name t) = View
kind_said (said_stored name t) = View
kind_said (said_history made) = Early
kind_said (said_rule name t) = Rule

-- a history's text is kept under the name of its view
abbrev pub key_said : Said → Name
key_said (said_ordinal name names) = name
key_said (said_base name heading typed) = name
key_said (said_view name t) = name
key_said (said_stored name t) = name
key_said (said_history made) = made.view
key_said (said_rule name t) = name

-- The text is that of a statement, from its first token on. The statement ends with its last byte and not before, is not too long, and says
-- this in the state.
pub record IsTextOf (w : State) (t : SourceText) (d : Said) : Type 0 where
  pub place : Place
  pub bytes : List ℕ
  pub tree : StatementP
  pub text : IsText place bytes (TreeOf tree)
  pub begun : t.bytes ≡ without_gaps bytes
  pub one : IsOneStatement bytes
  pub short : length bytes ≤ most_statement_bytes
  pub keeping : keeping_of tree ≡ Keeps t.kind t.name
  pub says : Says w tree d

-- One for each, in order. Each says what it says where only these ordinal types and those of the texts before it are declared.
abbrev pub AreTextsFrom : State → List OrdinalNames → List SourceText → List Said → Type 0
AreTextsFrom w types [] [] = Unit {0}
AreTextsFrom w types [] (d ∷ ds) = ⊥
AreTextsFrom w types (t ∷ texts) [] = ⊥
AreTextsFrom w types (t ∷ texts) (d ∷ ds) = IsTextOf (record w { ordinals = types }) t d × AreTextsFrom w (types ++ ordinals_said d) texts ds

abbrev pub AreTexts : State → List SourceText → List Said → Type 0
AreTexts w texts ds = AreTextsFrom w [] texts ds

-- ---- the state

-- a base relvar, or the view of a history
abbrev pub is_early_relvar : PlainRelvar → Bool
is_early_relvar (base value constraints) = true
is_early_relvar (view t derived) = false
is_early_relvar (view t stored) = false
is_early_relvar (view t (of_history names)) = true
is_early_relvar (log of side last value) = false

-- a view that is no history's
abbrev pub is_late_relvar : PlainRelvar → Bool
is_late_relvar (base value constraints) = false
is_late_relvar (view t derived) = true
is_late_relvar (view t stored) = true
is_late_relvar (view t (of_history names)) = false
is_late_relvar (log of side last value) = false

abbrev pub is_early : Name × PlainRelvar → Bool
is_early e = is_early_relvar e.1

abbrev pub is_late : Name × PlainRelvar → Bool
is_late e = is_late_relvar e.1

-- said by a text that stands before all rows, or by the text of a view
abbrev pub is_early_said : Said → Bool
is_early_said d = same_kind (kind_said d) Early

abbrev pub is_view_said : Said → Bool
is_view_said d = same_kind (kind_said d) View

-- The state has just what is said, each kind in its order, and beside that values of its base relvars, and logs. No name is said twice.
pub record IsListedAs (w : State) (ds : List Said) : Type 0 where
  pub ordinals : w.ordinals ≡ flat_map ordinals_said ds
  pub early : map emptied (filter is_early w.relvars) ≡ flat_map entries_said (filter is_early_said ds)
  pub views : filter is_late w.relvars ≡ flat_map entries_said (filter is_view_said ds)
  pub rules : w.rules ≡ flat_map rules_said ds
  pub different : IsDistinct bytes_eq (flat_map names_said ds)

-- an expression has no more nodes than one may have
abbrev pub IsSmall : State → Said → Type 0
IsSmall w (said_ordinal name names) = Unit {0}
IsSmall w (said_base name heading typed) = Unit {0}
IsSmall w (said_view name t) = nodes_of w.relvars t ≤ most_nodes
IsSmall w (said_stored name t) = nodes_of w.relvars t ≤ most_nodes
IsSmall w (said_history made) = Unit {0}
IsSmall w (said_rule name t) = test_nodes w.relvars t ≤ most_nodes

-- the same, and all stays below the limits
pub record IsMadeOf (w : State) (ds : List Said) : Type 0 where
  pub ordinals : w.ordinals ≡ flat_map ordinals_said ds
  pub early : map emptied (filter is_early w.relvars) ≡ flat_map entries_said (filter is_early_said ds)
  pub views : filter is_late w.relvars ≡ flat_map entries_said (filter is_view_said ds)
  pub rules : w.rules ≡ flat_map rules_said ds
  pub different : IsDistinct bytes_eq (flat_map names_said ds)
  pub few : length w.relvars ≤ most_relvars
  pub few_ordinals : length w.ordinals ≤ most_ordinal_types
  pub few_rules : length w.rules ≤ most_rules
  pub small : All (IsSmall w) ds
