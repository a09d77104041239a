-- What the text of a declaration says in a state; whether its names are free, and whether there is room, is told apart.
--     Said, Says      what is said, and that a statement says it in a state
--     IsSaidHistory, IsSaidStored      the same of a HISTORY, and of a stored view
--     names_said, plain_of      the names that it declares, and what type checking gives of it
--     moved_said, said_names_any      what is said at other places, and whether it names one of some relvars and views
--     IsFree, HasRoom      what type checking asks of the state beside that
--     entries_said, ordinals_said, rules_said, with_said      what it adds to a state
--     IsDeclaration      the six forms of statements that declare something
use Rattle.std.specs.Prelude.{◌≡◌, ◌<◌, ◌≤◌, ◌-◌, Bool, false, not, ◌&&◌, List, [], ◌∷◌, ◌++◌, length, Ok}
use Rattle.std.specs.List.{list_any, AllByRecursion, IsDistinct}
use Rattle.std.specs.Str.{bytes_eq}
use Rattle.point_core.specs.declared.fault.Place.{Place}
use Rattle.utd_syntax.specs.Plain as syntax
use Rattle.utd_syntax.specs.Plain.{Word, PointP, SomeNamesP, HeadingP, KeyP, ConstraintP, RelP, KeptP, TestP, VarFormP, StatementP}
use Rattle.value_core.specs.declared.constraint.Constraint.{Constraint}
use Rattle.value_core.specs.declared.constraint.Constraint.TheVariants.{Key, Packed, WhenUnpacked, UKey, Foreign, History}
use Rattle.value_core.specs.declared.list.OrdinalNames.{OrdinalNames}
use Rattle.value_core.specs.Limits.{most_ordinal_types, most_relvars, most_nodes, most_rules}
use Rattle.value_core.specs.Values.{Name, Heading}
use Rattle.scalar_typing.specs.Names.{point_type}
use Rattle.relation_typing.specs.Attributes.{name_typed}
use Rattle.relation_typing.specs.Headings.{heading_typed}
use Rattle.tree_core.specs.declared.declaration.HistoryData.{HistoryData}
use Rattle.tree_core.specs.Relvars.{State, derived, stored, of_history, base, view, Entries, Rules}
use Rattle.tree_core.specs.Trees.{Tree, Test}
use Rattle.tree_core.specs.Uses.{names_any, test_names_any}
use Rattle.meaning_core.specs.Declarations.{ordinal_type, base_relvar, view_relvar}
use Rattle.meaning_laws.specs.Moved.{moved_tree, moved_test}
use Rattle.since_during.specs.Histories.{since_heading, during_heading, since_constraints, during_constraints, view_of}
use Rattle.tree_typing.specs.Kept.{kept_rel}
use Rattle.tree_typing.specs.Trees.{tree_typed, test_typed_in}
use Rattle.declaration_typing.specs.Constraints.{constraints_typed, few_constraints}
use Rattle.declaration_typing.specs.Histories.{facts_typed, attributes_named}
use Rattle.declaration_typing.specs.KeptViews.{bases_named}
use Rattle.declaration_typing.specs.Names.{is_taken}
use Rattle.declaration_typing.specs.Nodes.{nodes_of, test_nodes}
use Rattle.declaration_typing.specs.Ordinals.{few_values}
use Rattle.declaration_typing.specs.Rules.{rule_scope}
use Rattle.type_check.specs.Checks.{Plain, declare_ordinal, declare_base, declare_view, declare_kept, declare_history, declare_rule}

-- an ordinal type, a base relvar, a view, a stored view, a history, or a database constraint
pub data Said : Type 0 where
  said_ordinal : Name → List Name → Said
  said_base : Name → Heading → List Constraint → Said
  said_view : Name → Tree → Said
  said_stored : Name → Tree → Said
  said_history : HistoryData → Said
  said_rule : Name → Test → Said

-- ---- what a statement says

-- names, the facts with their key, the points, and the attributes beside the facts
pub record IsSaidHistory (s : State) (at : Place) (v : Word) (h : HeadingP) (key : KeyP) (b p d i : Word) (t : PointP) (made : HistoryData) : Type 0 where
  pub view : name_typed v ≡ Ok made.view
  pub since : name_typed b ≡ Ok made.since
  pub during : name_typed d ≡ Ok made.during
  pub facts : facts_typed s.ordinals h key ≡ Ok (made.heading, made.key)
  pub over : point_type s.ordinals t ≡ Ok made.over
  pub ends : attributes_named made.heading p i ≡ Ok (made.point, made.span)
  pub place : made.place ≡ at

-- the name, operands that are base relvars with the heading of the last, and the expression over them
pub record IsSaidStored (s : State) (w : Word) (kept : KeptP) (name : Name) (t : Tree) : Type 0 where
  pub view : name_typed w ≡ Ok name
  pub last : Heading
  pub bases : bases_named s kept ≡ Ok last
  pub tree : tree_typed s (kept_rel kept) ≡ Ok t

abbrev pub SaysOrdinal : Word → SomeNamesP → Said → Type 0
SaysOrdinal w values (said_ordinal name names) = (name_typed w ≡ Ok name) × (few_values values ≡ Ok names)
SaysOrdinal w values (said_base name heading typed) = ⊥
SaysOrdinal w values (said_view name t) = ⊥
SaysOrdinal w values (said_stored name t) = ⊥
SaysOrdinal w values (said_history made) = ⊥
SaysOrdinal w values (said_rule name t) = ⊥

abbrev pub SaysBase : State → Word → HeadingP → List ConstraintP → Said → Type 0
SaysBase s w h constraints (said_ordinal name names) = ⊥
SaysBase s w h constraints (said_base name heading typed) =
    (name_typed w ≡ Ok name) × (heading_typed s.ordinals h ≡ Ok heading)
    × (constraints_typed s name heading [] constraints ≡ Ok typed) × (few_constraints constraints ≡ Ok tt)
SaysBase s w h constraints (said_view name t) = ⊥
SaysBase s w h constraints (said_stored name t) = ⊥
SaysBase s w h constraints (said_history made) = ⊥
SaysBase s w h constraints (said_rule name t) = ⊥

abbrev pub SaysView : State → Word → RelP → Said → Type 0
SaysView s w rel (said_ordinal name names) = ⊥
SaysView s w rel (said_base name heading typed) = ⊥
SaysView s w rel (said_view name t) = (name_typed w ≡ Ok name) × (tree_typed s rel ≡ Ok t)
SaysView s w rel (said_stored name t) = ⊥
SaysView s w rel (said_history made) = ⊥
SaysView s w rel (said_rule name t) = ⊥

abbrev pub SaysStored : State → Word → KeptP → Said → Type 0
SaysStored s w kept (said_ordinal name names) = ⊥
SaysStored s w kept (said_base name heading typed) = ⊥
SaysStored s w kept (said_view name t) = ⊥
SaysStored s w kept (said_stored name t) = IsSaidStored s w kept name t
SaysStored s w kept (said_history made) = ⊥
SaysStored s w kept (said_rule name t) = ⊥

abbrev pub SaysHistory : State → Place → Word → HeadingP → KeyP → Word → Word → Word → Word → PointP → Said → Type 0
SaysHistory s at v h key b p d i t (said_ordinal name names) = ⊥
SaysHistory s at v h key b p d i t (said_base name heading typed) = ⊥
SaysHistory s at v h key b p d i t (said_view name tree) = ⊥
SaysHistory s at v h key b p d i t (said_stored name tree) = ⊥
SaysHistory s at v h key b p d i t (said_history made) = IsSaidHistory s at v h key b p d i t made
SaysHistory s at v h key b p d i t (said_rule name test) = ⊥

abbrev pub SaysRule : State → Word → TestP → Said → Type 0
SaysRule s w test (said_ordinal name names) = ⊥
SaysRule s w test (said_base name heading typed) = ⊥
SaysRule s w test (said_view name t) = ⊥
SaysRule s w test (said_stored name t) = ⊥
SaysRule s w test (said_history made) = ⊥
SaysRule s w test (said_rule name t) = (name_typed w ≡ Ok name) × (test_typed_in (rule_scope s) test ≡ Ok t)

abbrev pub SaysVar : State → Word → VarFormP → Said → Type 0
SaysVar s w (syntax.BaseRelvar there h constraints) d = SaysBase s w h constraints d
SaysVar s w (syntax.View there rel) d = SaysView s w rel d
SaysVar s w (syntax.Kept there kept) d = SaysStored s w kept d

-- the statement is a declaration that says this in the state
abbrev pub Says : State → StatementP → Said → Type 0
Says s syntax.Nothing d = ⊥
Says s (syntax.DeclareOrdinal at w values) d = SaysOrdinal w values d
Says s (syntax.DeclareRelvar at w form) d = SaysVar s w form d
Says s (syntax.DeclareHistory at v h key b p during i t) d = SaysHistory s at v h key b p during i t d
Says s (syntax.DeclareLog at log source attribute) d = ⊥
Says s (syntax.DeclareRule at w test) d = SaysRule s w test d
Says s (syntax.Drop at w) d = ⊥
Says s (syntax.DropRule at con w) d = ⊥
Says s (syntax.Print at rel) d = ⊥
Says s (syntax.Ask at test) d = ⊥
Says s (syntax.Assignment assignment) d = ⊥

abbrev pub IsDeclaration : StatementP → Type 0
IsDeclaration syntax.Nothing = ⊥
IsDeclaration (syntax.DeclareOrdinal at w values) = Unit {0}
IsDeclaration (syntax.DeclareRelvar at w form) = Unit {0}
IsDeclaration (syntax.DeclareHistory at v h key b p d i t) = Unit {0}
IsDeclaration (syntax.DeclareLog at log source attribute) = ⊥
IsDeclaration (syntax.DeclareRule at w test) = Unit {0}
IsDeclaration (syntax.Drop at w) = ⊥
IsDeclaration (syntax.DropRule at con w) = ⊥
IsDeclaration (syntax.Print at rel) = ⊥
IsDeclaration (syntax.Ask at test) = ⊥
IsDeclaration (syntax.Assignment assignment) = ⊥

-- ---- of what is said

abbrev pub names_said : Said → List Name
names_said (said_ordinal name names) = name ∷ []
names_said (said_base name heading typed) = name ∷ []
names_said (said_view name t) = name ∷ []
names_said (said_stored name t) = name ∷ []
names_said (said_history made) = made.since ∷ made.during ∷ made.view ∷ []
names_said (said_rule name t) = name ∷ []

-- a history at another place
abbrev pub moved_history : (Place → Place) → HistoryData → HistoryData
moved_history f made = record made { place = f made.place }

-- each place inside at another
abbrev pub moved_said : (Place → Place) → Said → Said
moved_said f (said_ordinal name names) = said_ordinal name names
moved_said f (said_base name heading typed) = said_base name heading typed
moved_said f (said_view name t) = said_view name (moved_tree f t)
moved_said f (said_stored name t) = said_stored name (moved_tree f t)
moved_said f (said_history made) = said_history (moved_history f made)
moved_said f (said_rule name t) = said_rule name (moved_test f t)

-- whether the constraint names one of some relvars, and this is not its own
abbrev pub names_other : (Name → Bool) → Name → Name → Bool
names_other some own name = not (bytes_eq own name) && some name

abbrev pub references_other : (Name → Bool) → Name → Constraint → Bool
references_other some own (Key k) = false
references_other some own (Packed commalist) = false
references_other some own (WhenUnpacked commalist k) = false
references_other some own (UKey commalist k) = false
references_other some own (Foreign commalist k other there) = names_other some own other
references_other some own (History rule) = names_other some own rule.since

-- whether what is said names one of some relvars and views, other than those that it declares itself
abbrev pub said_names_any : (Name → Bool) → Said → Bool
said_names_any some (said_ordinal name names) = false
said_names_any some (said_base name heading typed) = list_any (references_other some name) typed
said_names_any some (said_view name t) = names_any some t
said_names_any some (said_stored name t) = names_any some t
said_names_any some (said_history made) = false
said_names_any some (said_rule name t) = test_names_any some t

-- what type checking gives
abbrev pub plain_of : Said → Plain
plain_of (said_ordinal name names) = declare_ordinal (ordinal_type name names)
plain_of (said_base name heading typed) = declare_base (base_relvar name heading typed)
plain_of (said_view name t) = declare_view (view_relvar name t derived)
plain_of (said_stored name t) = declare_kept name t
plain_of (said_history made) = declare_history made
plain_of (said_rule name t) = declare_rule name t

-- ---- what type checking asks of the state

-- none of the names is taken, and they are distinct
abbrev pub IsFree : State → List Name → Type 0
IsFree s names = AllByRecursion (λ (n : Name). is_taken s n ≡ false) names × IsDistinct bytes_eq names

-- what is said stays below the limits
abbrev pub HasRoom : State → Said → Type 0
HasRoom s (said_ordinal name names) = length s.ordinals < most_ordinal_types
HasRoom s (said_base name heading typed) = length s.relvars < most_relvars
HasRoom s (said_view name t) = (length s.relvars < most_relvars) × (nodes_of s.relvars t ≤ most_nodes)
HasRoom s (said_stored name t) = (length s.relvars < most_relvars) × (nodes_of s.relvars t ≤ most_nodes)
HasRoom s (said_history made) = length s.relvars ≤ most_relvars - 3
HasRoom s (said_rule name t) = (test_nodes s.relvars t ≤ most_nodes) × (length s.rules < most_rules)

-- ---- what it adds to a state

-- a base relvar has no rows yet; a history has two base relvars and their view
abbrev pub entries_said : Said → Entries
entries_said (said_ordinal name names) = []
entries_said (said_base name heading typed) = (name, base (record { heading = heading; rows = [] }) typed) ∷ []
entries_said (said_view name t) = (name, view t derived) ∷ []
entries_said (said_stored name t) = (name, view t stored) ∷ []
entries_said (said_history made) =
    (made.since, base (record { heading = since_heading made; rows = [] }) (since_constraints made))
    ∷ (made.during, base (record { heading = during_heading made; rows = [] }) (during_constraints made))
    ∷ (made.view, view (view_of made) (of_history (made.since, made.during)))
    ∷ []
entries_said (said_rule name t) = []

abbrev pub ordinals_said : Said → List OrdinalNames
ordinals_said (said_ordinal name names) = record { name = name; values = names } ∷ []
ordinals_said (said_base name heading typed) = []
ordinals_said (said_view name t) = []
ordinals_said (said_stored name t) = []
ordinals_said (said_history made) = []
ordinals_said (said_rule name t) = []

abbrev pub rules_said : Said → Rules
rules_said (said_ordinal name names) = []
rules_said (said_base name heading typed) = []
rules_said (said_view name t) = []
rules_said (said_stored name t) = []
rules_said (said_history made) = []
rules_said (said_rule name t) = (name, t) ∷ []

-- the state with what is said
abbrev pub with_said : State → Said → State
with_said s d = record { ordinals = s.ordinals ++ ordinals_said d; relvars = s.relvars ++ entries_said d; rules = s.rules ++ rules_said d; accepted = s.accepted }
