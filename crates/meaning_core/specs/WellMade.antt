-- Well made states: what declarations keep. And what is typed for a state.
use Rattle.std.specs.Prelude.{◌≡◌, ℕ, ◌<◌, ◌≤◌, Bool, true, false, not, List, [], ◌∷◌, ◌++◌, map, length, nat_eq, Option, Some, None, IsTrue}
use Rattle.std.specs.List.{list_all, All, IsDistinct}
use Rattle.std.specs.Str.{bytes_eq}
use Rattle.point_core.specs.declared.fault.Place.{Place}
use Rattle.value_core.specs.declared.constraint.Constraint.{Constraint}
use Rattle.value_core.specs.declared.constraint.Constraint.TheVariants.{Key, Packed, WhenUnpacked, UKey, Foreign, History}
use Rattle.value_core.specs.declared.constraint.HistoryRule.{HistoryRule}
use Rattle.value_core.specs.declared.kind.Kind.{Kind}
use Rattle.value_core.specs.declared.kind.Kind.TheVariants.{Truth, Char, Point, Span}
use Rattle.value_core.specs.declared.list.OrdinalNames.{OrdinalNames}
use Rattle.value_core.specs.Attributes.{among}
use Rattle.value_core.specs.Limits.{most_ordinal_types, most_ordinal_values, most_rules}
use Rattle.value_core.specs.Values.{Name, Heading, Relation}
use Rattle.relation_core.specs.Parts.{kind_at}
use Rattle.log_times.specs.Turns.{IsLogHeading, without}
use Rattle.tree_core.specs.Relvars.{PlainKind, derived, of_history, stored, PlainRelvar, base, view, Entries, State, relvar_named, relvar_heading, heading_if, constraints_if, rule_among, log}
use Rattle.tree_core.specs.Trees.{Tree, Test, named}
use Rattle.tree_core.specs.Uses.{names_any, test_names_any}
use Rattle.meaning_core.specs.Histories.{joined_history, last_point, type_at, name_at}
use Rattle.meaning_core.specs.Logs.{over_log}
use Rattle.meaning_core.specs.StoredViews.{is_stored_form}
use Rattle.meaning_core.specs.Typing.{Headings, IsList, is_declared, IsTypedTree, IsTypedTest}

-- how many values each ordinal type has
abbrev pub sizes_of : List OrdinalNames → List ℕ
sizes_of ordinals = map (λ o. length o.values) ordinals

-- different names, one at least and few enough
pub record IsOrdinalType (o : OrdinalNames) : Type 0 where
  pub some : 1 ≤ length o.values
  pub few : length o.values ≤ most_ordinal_values
  pub different : IsDistinct bytes_eq o.values

-- the headings of the relvars and views
abbrev pub headings_of : Entries → Headings
headings_of entries = map (λ r. (r.0, relvar_heading r.1)) entries

-- the names of database constraints, ordinal types, relvars and views, which are one set
abbrev pub all_names : State → List Name
all_names s = map (λ r. r.0) s.rules ++ map (λ o. o.name) s.ordinals ++ map (λ r. r.0) s.relvars

-- ---- constraints

-- different positions in a heading
pub record AreDifferent (heading : Heading) (positions : List ℕ) : Type 0 where
  pub within : All (λ (i : ℕ). i < length heading) positions
  pub different : IsDistinct nat_eq positions

-- positions of the same kinds, here and there
abbrev pub AreAlike : Heading → List ℕ → Heading → List ℕ → Type 0
AreAlike h [] g [] = Unit {0}
AreAlike h [] g (j ∷ js) = ⊥
AreAlike h (i ∷ is) g [] = ⊥
AreAlike h (i ∷ is) g (j ∷ js) = (kind_at h i ≡ kind_at g j) × AreAlike h is g js

-- an interval here, and a point of its type there
abbrev pub IsOver : Kind → Kind → Type 0
IsOver Truth k = ⊥
IsOver Char k = ⊥
IsOver (Point t) k = ⊥
IsOver (Span t) k = k ≡ Point t

-- the attributes that are unpacked are among those of the key
abbrev pub AreAmong : List ℕ → List ℕ → Type 0
AreAmong key commalist = IsTrue (list_all (among key) commalist)

-- the constraint fits the heading of its relvar, and that of the relvar that it names
abbrev pub FitsHeadings : Heading → Heading → Constraint → Type 0
FitsHeadings h g (Key k) = AreDifferent h k
FitsHeadings h g (Packed commalist) = IsList h commalist
FitsHeadings h g (WhenUnpacked commalist k) = IsList h commalist × AreDifferent h k × AreAmong k commalist
FitsHeadings h g (UKey commalist k) = IsList h commalist × AreDifferent h k × AreAmong k commalist
FitsHeadings h g (Foreign commalist k name there) = IsList h commalist × AreDifferent h k × AreAmong k commalist × AreDifferent g there × AreAlike h k g there
FitsHeadings h g (History r) =
    AreDifferent h r.key_here × AreDifferent g r.key_there × AreAlike h r.key_here g r.key_there
    × AreDifferent h r.all_here × AreDifferent g r.all_there × AreAlike h r.all_here g r.all_there
    × (r.span_here < length h) × (r.point_there < length g) × IsOver (kind_at h r.span_here) (kind_at g r.point_there)

-- the name is that of a base relvar
abbrev pub IsBase : Option PlainRelvar → Type 0
IsBase None = ⊥
IsBase (Some (base value constraints)) = Unit {0}
IsBase (Some (view t kind)) = ⊥
IsBase (Some (log of side last value)) = ⊥

-- the named relvar is a base relvar, whose heading the constraint fits too
abbrev pub FitsNamed : Entries → Heading → Name → Constraint → Type 0
FitsNamed entries h name c = IsBase (relvar_named entries name) × FitsHeadings h (heading_if (relvar_named entries name)) c

-- a foreign key names its own relvar or a base relvar before it, and a history's constraint a base relvar before its own
abbrev pub IsConstraint : Entries → Name → PlainRelvar → Constraint → Type 0
IsConstraint before own r (Foreign commalist k name there) =
    FitsNamed (before ++ (own, r) ∷ []) (relvar_heading r) name (Foreign commalist k name there)
IsConstraint before own r (History rule) = FitsNamed before (relvar_heading r) rule.since (History rule)
IsConstraint before own r c = FitsHeadings (relvar_heading r) [] c

-- ---- what views keep

-- the view of a history is what its relvars and their rule make it
abbrev pub IsOfRule : Entries → Name → Name → Tree → Option HistoryRule → Type 0
IsOfRule before s d t None = ⊥
IsOfRule before s d t (Some rule) =
    let since = heading_if (relvar_named before s) in
    let during = heading_if (relvar_named before d) in
    let over = type_at during rule.span_here in
    (place : Place) × (rule.since ≡ s)
    × (t ≡ joined_history place place over (name_at since rule.point_there) (name_at during rule.span_here) d since during (last_point place over) (named place since s))

-- whether the name is that of a base relvar
abbrev pub is_base : Option PlainRelvar → Bool
is_base None = false
is_base (Some (base value constraints)) = true
is_base (Some (view t kind)) = false
is_base (Some (log of side last value)) = false

-- whether there is a base relvar of the name
abbrev pub is_base_in : Entries → Name → Bool
is_base_in entries name = is_base (relvar_named entries name)

-- what a view of the kind keeps: that of a history is what its rule makes of its two relvars; one whose rows are stored is an operator over
-- base relvars under USING, or PACK of one
abbrev pub IsOfKind : Entries → Tree → PlainKind → Type 0
IsOfKind before t derived = Unit {0}
IsOfKind before t stored = IsTrue (is_stored_form t) × (names_any (λ name. not (is_base_in before name)) t ≡ false)
IsOfKind before t (of_history names) =
    IsBase (relvar_named before names.0) × IsBase (relvar_named before names.1)
    × IsOfRule before names.0 names.1 t (rule_among (constraints_if (relvar_named before names.1)))

-- ---- logs

-- the log of a base relvar: its heading with the interval of statements at the place
abbrev pub IsLogOf : Entries → Name → ℕ → Heading → Type 0
IsLogOf before of side heading =
    IsBase (relvar_named before of) × IsLogHeading side heading × (without side heading ≡ heading_if (relvar_named before of))

-- ---- relvars

-- a relvar or view is well made behind those that were declared before it
abbrev pub IsRelvar : List ℕ → Entries → Name → PlainRelvar → Type 0
IsRelvar sizes before own (base value constraints) =
    IsTrue (is_declared sizes value.heading) × All (IsConstraint before own (base value constraints)) constraints
IsRelvar sizes before own (view t kind) = IsTypedTree sizes (headings_of before) t × IsOfKind before t kind
IsRelvar sizes before own (log of side last value) = IsTrue (is_declared sizes value.heading) × IsLogOf before of side value.heading

abbrev pub AreRelvars : List ℕ → Entries → Entries → Type 0
AreRelvars sizes before [] = Unit {0}
AreRelvars sizes before (r ∷ rest) = IsRelvar sizes before r.0 r.1 × AreRelvars sizes (before ++ r ∷ []) rest

-- ---- what is typed for a state

abbrev pub IsTypedFor : State → Tree → Type 0
IsTypedFor s t = IsTypedTree (sizes_of s.ordinals) (headings_of s.relvars) t

abbrev pub IsTypedTestFor : State → Test → Type 0
IsTypedTestFor s t = IsTypedTest (sizes_of s.ordinals) (headings_of s.relvars) t

-- ---- well made states

-- a well made state: each database constraint is typed for it, and names no log, itself or through views
pub record IsWellMade (s : State) : Type 0 where
  pub few : length s.ordinals ≤ most_ordinal_types
  pub ordinals : All IsOrdinalType s.ordinals
  pub different : IsDistinct bytes_eq (all_names s)
  pub relvars : AreRelvars (sizes_of s.ordinals) [] s.relvars
  pub few_rules : length s.rules ≤ most_rules
  pub rules : All (λ r. IsTypedTestFor s r.1) s.rules
  pub apart : All (λ r. test_names_any (over_log s.relvars) r.1 ≡ false) s.rules

-- a name of a base relvar and a relation of its heading, both or neither
abbrev pub IsGiven : Entries → Option Name → Option Relation → Type 0
IsGiven entries None None = Unit {0}
IsGiven entries None (Some value) = ⊥
IsGiven entries (Some name) None = ⊥
IsGiven entries (Some name) (Some value) =
    IsBase (relvar_named entries name) × (value.heading ≡ heading_if (relvar_named entries name))
