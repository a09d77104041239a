-- The same of declarations and removals.
use Rattle.std.proofs.Common.{ℕ, ◌-◌, List, [], ◌∷◌, ◌++◌, ◌||◌, not, nat_le, nat_lt, length, is_some, Option, Some, None, Ok}
use Rattle.std.specs.Str.{bytes_eq}
use Rattle.point_core.specs.declared.fault.Place.{Place}
use Rattle.point_core.specs.declared.fault.Code.TheVariants.{E10, E11, E12, E15, E17, E19, E21, E22}
use Rattle.utd_syntax.specs.Plain as syntax
use Rattle.utd_syntax.specs.Plain.{Word, PointP, HeadingP, NamesP, NameListP, SomeNamesP, RelP, KeyP, ForeignP, UsedConstraintP, ConstraintP, KeptP, TestP}
use Rattle.utd_ranges.specs.Ranges.{Each, NameIn, SomeNamesIn, HeadingIn, RelIn, ForeignIn, UsedConstraintIn, ConstraintIn, KeptIn, TestIn, has_no_value}
use Rattle.value_core.specs.declared.constraint.Constraint.{Constraint}
use Rattle.value_core.specs.declared.list.OrdinalNames.{OrdinalNames}
use Rattle.value_core.specs.Attributes.{among}
use Rattle.value_core.specs.Limits.{most_attributes, most_nodes, most_ordinal_types, most_ordinal_values, most_relvars, most_rules}
use Rattle.value_core.specs.Values.{Name, Heading}
use Rattle.relation_core.specs.Agreement.{position_of}
use Rattle.scalar_core.specs.KindOf.{same_kind}
use Rattle.tree_core.specs.Relvars.{State, PlainRelvar, base, view, relvar_named, log}
use Rattle.tree_core.specs.Trees.{Tree, Test}
use Rattle.tree_core.specs.Uses.{is_one_of}
use Rattle.meaning_core.specs.Declarations.{group}
use Rattle.scalar_typing.specs.Names.{point_type}
use Rattle.relation_typing.specs.Attributes.{name_typed, new_name as new_attribute}
use Rattle.relation_typing.specs.Headings.{heading_typed}
use Rattle.node_typing.specs.Positions.{position_typed}
use Rattle.node_typing.specs.Lists.{named_in, kind_named, list_checked, words_of}
use Rattle.tree_typing.specs.Kept.{kept_rel}
use Rattle.tree_typing.specs.Trees.{tree_typed, test_typed_in}
use Rattle.declaration_typing.specs.Names.{is_rule, is_taken, new_name, room_for}
use Rattle.declaration_typing.specs.Ordinals.{with_value, values_typed, few_values, ordinal_declared}
use Rattle.declaration_typing.specs.Constraints.{names_typed, key_words, base_heading, heading_there, position_there, positions_there, reference_typed, foreign_typed, key_typed, list_typed, kept_by, listed_key, packed_typed, unpacked_typed, used_typed, constraint_typed, constraints_typed, refused_at, few_constraints}
use Rattle.declaration_typing.specs.Relvars.{relvar_declared}
use Rattle.declaration_typing.specs.Nodes.{nodes_of, test_nodes}
use Rattle.declaration_typing.specs.Views.{room_for_view, view_declared}
use Rattle.declaration_typing.specs.KeptViews.{base_named, both_named, bases_named, kept_declared}
use Rattle.declaration_typing.specs.Histories.{relvars_named, brace_of, key_names, facts_typed, attributes_named, room_for_three, history_declared}
use Rattle.declaration_typing.specs.Logs.{room_for_log, log_declared}
use Rattle.declaration_typing.specs.Drops.{is_of_history, is_used, dropped}
use Rattle.declaration_typing.specs.Rules.{room_for_rule, rule_scope, rule_declared, rule_dropped}
use Rattle.type_check.specs.Refusals.{IsNotE06}
use Rattle.type_check.proofs.Refused.{then-fine, choice-fine}
use Rattle.type_check.proofs.ScalarLaws.{point-fine}
use Rattle.type_check.proofs.RelationLaws.{name-fine, new-name-fine, heading-fine}
use Rattle.type_check.proofs.NodeLaws.{check-fine, checked-fine, position-fine, positions-fine, list-fine}
use Rattle.type_check.proofs.TreeLaws.{tree-fine, test-fine-in}

-- ---- names of ordinal types, relvars, views and database constraints

free-name-fine : (s : State) (w : Word) → NameIn has_no_value w → IsNotE06 (new_name s w)
free-name-fine s w h = then-fine (name_typed w) _ (name-fine w h) (λ name. checked-fine w.place E11 (λ e. cc) (not (is_taken s name)) _ (λ free. tt))

room-fine : (s : State) (place : Place) → IsNotE06 (room_for s place)
room-fine s place = check-fine place E22 (λ e. cc) (nat_lt (length s.relvars) most_relvars)

-- ---- ordinal types

with-value-fine : (before : List Name) (w : Word) → NameIn has_no_value w → IsNotE06 (with_value before w)
with-value-fine before w h = then-fine (name_typed w) _ (name-fine w h) (λ name. checked-fine w.place E15 (λ e. cc) (not (named_in before name)) _ (λ new. tt))

values-fine : (before : List Name) (list : List Word) → Each (NameIn has_no_value) list → IsNotE06 (values_typed before list)
values-fine before [] h = tt
values-fine before (w ∷ rest) h = then-fine (with_value before w) _ (with-value-fine before w h.0) (λ next. values-fine next rest h.1)

few-values-fine : (list : SomeNamesP) → SomeNamesIn has_no_value list → IsNotE06 (few_values list)
few-values-fine (syntax.SomeNames at first more) h = then-fine (values_typed [] (first ∷ more)) _ (values-fine [] (first ∷ more) h) (λ values. checked-fine at E22 (λ e. cc) (nat_le (length values) most_ordinal_values) _ (λ few. tt))

pub ordinal-fine : (s : State) (w : Word) (list : SomeNamesP) → NameIn has_no_value w → SomeNamesIn has_no_value list → IsNotE06 (ordinal_declared s w list)
unfolding ordinal_declared
ordinal-fine s w list h g =
    then-fine (new_name s w) _ (free-name-fine s w h) (λ name.
    then-fine (few_values list) _ (few-values-fine list g) (λ values.
    checked-fine w.place E22 (λ e. cc) (nat_lt (length s.ordinals) most_ordinal_types) _ (λ room. tt)))

-- ---- constraints

names-fine : (heading : Heading) (names : NamesP) → IsNotE06 (names_typed heading names)
names-fine heading (syntax.Names at words) = positions-fine heading [] words

base-heading-fine : (at : Place) (o : Option PlainRelvar) → IsNotE06 (base_heading at o)
base-heading-fine at None = λ e. cc
base-heading-fine at (Some (base value constraints)) = tt
base-heading-fine at (Some (view t kind)) = λ e. cc
base-heading-fine at (Some (log o k last w)) = λ e. cc

heading-there-fine : (s : State) (own : Name) (heading : Heading) (at : Place) (name : Name) → IsNotE06 (heading_there s own heading at name)
heading-there-fine s own heading at name = choice-fine (bytes_eq own name) (Ok heading) (base_heading at (relvar_named s.relvars name)) tt (base-heading-fine at (relvar_named s.relvars name))

position-there-fine : (heading there : Heading) (w : Word) → IsNotE06 (position_there heading there w)
position-there-fine heading there w =
    then-fine (position_typed there w) _ (position-fine there w) (λ at.
    checked-fine w.place E12 (λ e. cc) (same_kind (kind_named heading w.bytes) (kind_named there w.bytes)) _ (λ alike. tt))

positions-there-fine : (heading there : Heading) (before : List ℕ) (words : List Word) → IsNotE06 (positions_there heading there before words)
positions-there-fine heading there before [] = tt
positions-there-fine heading there before (w ∷ rest) = then-fine (position_there heading there w) _ (position-there-fine heading there w) (λ at. positions-there-fine heading there (before ++ at ∷ []) rest)

reference-fine : (s : State) (own : Name) (heading : Heading) (commalist key : List ℕ) (names : NamesP) (w : Word) → NameIn has_no_value w → IsNotE06 (reference_typed s own heading commalist key names w)
reference-fine s own heading commalist key names w h =
    then-fine (name_typed w) _ (name-fine w h) (λ name.
    then-fine (heading_there s own heading w.place name) _ (heading-there-fine s own heading w.place name) (λ there.
    then-fine (positions_there heading there [] (key_words names)) _ (positions-there-fine heading there [] (key_words names)) (λ positions. tt)))

foreign-fine : (s : State) (own : Name) (heading : Heading) (key : ForeignP) → ForeignIn has_no_value key → IsNotE06 (foreign_typed s own heading key)
foreign-fine s own heading (syntax.Foreign at names w) h = then-fine (names_typed heading names) _ (names-fine heading names) (λ key. reference-fine s own heading [] key names w h.1)

key-fine : (heading : Heading) (key : KeyP) → IsNotE06 (key_typed heading key)
key-fine heading (syntax.Key at names) = then-fine (names_typed heading names) _ (names-fine heading names) (λ key. tt)

positions-of-list-fine : (heading : Heading) (list : NameListP) → IsNotE06 (list_typed heading list)
positions-of-list-fine heading list = then-fine (list_checked heading heading list) _ (list-fine heading heading list) (λ names. tt)

kept-by-fine : (heading : Heading) (key : List ℕ) (words : List Word) → IsNotE06 (kept_by heading key words)
kept-by-fine heading key [] = tt
kept-by-fine heading key (w ∷ rest) = checked-fine w.place E19 (λ e. cc) (among key (position_of heading w.bytes)) _ (λ kept. kept-by-fine heading key rest)

listed-key-fine : (heading : Heading) (list : NameListP) (names : NamesP) → IsNotE06 (listed_key heading list names)
listed-key-fine heading list names =
    then-fine (list_typed heading list) _ (positions-of-list-fine heading list) (λ commalist.
    then-fine (names_typed heading names) _ (names-fine heading names) (λ key.
    then-fine (kept_by heading key (words_of list)) _ (kept-by-fine heading key (words_of list)) (λ kept. tt)))

packed-fine : (heading : Heading) (list : NameListP) → IsNotE06 (packed_typed heading list)
packed-fine heading list = then-fine (list_typed heading list) _ (positions-of-list-fine heading list) (λ commalist. tt)

unpacked-fine : (heading : Heading) (list : NameListP) (key : KeyP) → IsNotE06 (unpacked_typed heading list key)
unpacked-fine heading list (syntax.Key at names) = then-fine (listed_key heading list names) _ (listed-key-fine heading list names) (λ both. tt)

used-fine : (s : State) (own : Name) (heading : Heading) (list : NameListP) (c : UsedConstraintP) → UsedConstraintIn has_no_value c → IsNotE06 (used_typed s own heading list c)
used-fine s own heading list (syntax.UsedKey (syntax.Key at names)) h = then-fine (listed_key heading list names) _ (listed-key-fine heading list names) (λ both. tt)
used-fine s own heading list (syntax.UsedForeign (syntax.Foreign at names w)) h = then-fine (listed_key heading list names) _ (listed-key-fine heading list names) (λ both. reference-fine s own heading both.0 both.1 names w h.1)

constraint-fine : (s : State) (own : Name) (heading : Heading) (c : ConstraintP) → ConstraintIn has_no_value c → IsNotE06 (constraint_typed s own heading c)
constraint-fine s own heading (syntax.KeyOf key) h = key-fine heading key
constraint-fine s own heading (syntax.ForeignOf key) h = foreign-fine s own heading key h
constraint-fine s own heading (syntax.PackedOn at list) h = packed-fine heading list
constraint-fine s own heading (syntax.WhenUnpacked at list key) h = unpacked-fine heading list key
constraint-fine s own heading (syntax.UsingConstraint at list c) h = used-fine s own heading list c h.1

constraints-fine : (s : State) (own : Name) (heading : Heading) (before : List Constraint) (list : List ConstraintP) → Each (ConstraintIn has_no_value) list → IsNotE06 (constraints_typed s own heading before list)
constraints-fine s own heading before [] h = tt
constraints-fine s own heading before (c ∷ rest) h = then-fine (constraint_typed s own heading c) _ (constraint-fine s own heading c h.0) (λ next. constraints-fine s own heading (before ++ next ∷ []) rest h.1)

refused-at-fine : (o : Option ConstraintP) → IsNotE06 (refused_at o)
refused-at-fine None = tt
refused-at-fine (Some c) = λ e. cc

-- ---- relvars, views and what goes

pub base-relvar-fine : (s : State) (w : Word) (heading : HeadingP) (constraints : List ConstraintP) → NameIn has_no_value w → HeadingIn has_no_value heading → Each (ConstraintIn has_no_value) constraints → IsNotE06 (relvar_declared s w heading constraints)
unfolding relvar_declared
base-relvar-fine s w heading constraints h g k =
    then-fine (new_name s w) _ (free-name-fine s w h) (λ name.
    then-fine (heading_typed s.ordinals heading) _ (heading-fine s.ordinals heading g) (λ made.
    then-fine (constraints_typed s name made [] constraints) _ (constraints-fine s name made [] constraints k) (λ typed.
    then-fine (few_constraints constraints) _ (refused-at-fine _) (λ few.
    then-fine (room_for s w.place) _ (room-fine s w.place) (λ room. tt)))))

room-for-view-fine : (s : State) (place : Place) (t : Tree) → IsNotE06 (room_for_view s place t)
room-for-view-fine s place t = checked-fine place E22 (λ e. cc) (nat_le (nodes_of s.relvars t) most_nodes) _ (λ few. room-fine s place)

pub view-fine : (s : State) (w : Word) (rel : RelP) → NameIn has_no_value w → RelIn has_no_value rel → IsNotE06 (view_declared s w rel)
unfolding view_declared
view-fine s w rel h g =
    then-fine (new_name s w) _ (free-name-fine s w h) (λ name.
    then-fine (tree_typed s rel) _ (tree-fine s rel g) (λ t.
    then-fine (room_for_view s w.place t) _ (room-for-view-fine s w.place t) (λ room. tt)))

-- ---- stored views

base-named-fine : (s : State) (w : Word) → NameIn has_no_value w → IsNotE06 (base_named s w)
base-named-fine s w h = then-fine (name_typed w) _ (name-fine w h) (λ name. base-heading-fine w.place (relvar_named s.relvars name))

both-named-fine : (s : State) (l r : Word) → NameIn has_no_value l → NameIn has_no_value r → IsNotE06 (both_named s l r)
both-named-fine s l r h g = then-fine (base_named s l) _ (base-named-fine s l h) (λ left. base-named-fine s r g)

bases-named-fine : (s : State) (kept : KeptP) → KeptIn has_no_value kept → IsNotE06 (bases_named s kept)
bases-named-fine s (syntax.KeptInfix place list l at word r) h = both-named-fine s l r h.1 h.2
bases-named-fine s (syntax.KeptNotMatching place list l at r) h = both-named-fine s l r h.1 h.2
bases-named-fine s (syntax.KeptProject place list w p) h = base-named-fine s w h.1
bases-named-fine s (syntax.KeptPack place w list) h = base-named-fine s w h.0

-- the expression has the names of the stored view
names-in : (kept : KeptP) → KeptIn has_no_value kept → RelIn has_no_value (kept_rel kept)
names-in (syntax.KeptInfix place list l at word r) h = (h.0, (h.1, h.2))
names-in (syntax.KeptNotMatching place list l at r) h = (h.0, (h.1, h.2))
names-in (syntax.KeptProject place list w p) h = (h.0, (h.1, h.2))
names-in (syntax.KeptPack place w list) h = h

pub kept-fine : (s : State) (w : Word) (kept : KeptP) → NameIn has_no_value w → KeptIn has_no_value kept → IsNotE06 (kept_declared s w kept)
unfolding kept_declared
kept-fine s w kept h g =
    then-fine (new_name s w) _ (free-name-fine s w h) (λ name.
    then-fine (bases_named s kept) _ (bases-named-fine s kept g) (λ bases.
    then-fine (tree_typed s (kept_rel kept)) _ (tree-fine s (kept_rel kept) (names-in kept g)) (λ t.
    then-fine (room_for_view s w.place t) _ (room-for-view-fine s w.place t) (λ room. tt))))

-- ---- histories

relvars-named-fine : (s : State) (v b d : Word) → NameIn has_no_value v → NameIn has_no_value b → NameIn has_no_value d → IsNotE06 (relvars_named s v b d)
relvars-named-fine s v b d h g k =
    then-fine (new_name s v) _ (free-name-fine s v h) (λ view.
    then-fine (new_name s b) _ (free-name-fine s b g) (λ since.
    checked-fine b.place E11 (λ e. cc) (not (bytes_eq view since)) _ (λ second.
    then-fine (new_name s d) _ (free-name-fine s d k) (λ during.
    checked-fine d.place E11 (λ e. cc) (not (bytes_eq view during || bytes_eq since during)) _ (λ third. tt)))))

facts-fine : (types : List OrdinalNames) (h : HeadingP) (key : KeyP) → HeadingIn has_no_value h → IsNotE06 (facts_typed types h key)
facts-fine types h key g =
    then-fine (heading_typed types h) _ (heading-fine types h g) (λ heading.
    checked-fine (brace_of h) E17 (λ e. cc) (nat_le (length heading) (most_attributes - 2)) _ (λ room.
    then-fine (names_typed heading (key_names key)) _ (names-fine heading (key_names key)) (λ positions. tt)))

attributes-named-fine : (heading : Heading) (p i : Word) → NameIn has_no_value p → NameIn has_no_value i → IsNotE06 (attributes_named heading p i)
attributes-named-fine heading p i h g =
    then-fine (new_attribute heading p) _ (new-name-fine heading p h) (λ point.
    then-fine (new_attribute heading i) _ (new-name-fine heading i g) (λ span.
    checked-fine i.place E15 (λ e. cc) (not (bytes_eq point span)) _ (λ apart. tt)))

pub history-fine : (s : State) (place : Place) (v : Word) (h : HeadingP) (key : KeyP) (b p d i : Word) (t : PointP) → NameIn has_no_value v → HeadingIn has_no_value h → NameIn has_no_value b
    → NameIn has_no_value p → NameIn has_no_value d → NameIn has_no_value i → IsNotE06 (history_declared s place v h key b p d i t)
unfolding history_declared
history-fine s place v h key b p d i t first facts second point third span =
    then-fine (relvars_named s v b d) _ (relvars-named-fine s v b d first second third) (λ names.
    then-fine (facts_typed s.ordinals h key) _ (facts-fine s.ordinals h key facts) (λ of.
    then-fine (point_type s.ordinals t) _ (point-fine s.ordinals t) (λ over.
    then-fine (attributes_named of.0 p i) _ (attributes-named-fine of.0 p i point span) (λ ends.
    then-fine (room_for_three s v.place) _ (check-fine v.place E22 (λ e. cc) (nat_le (length s.relvars) (most_relvars - 3))) (λ room. tt)))))

-- ---- logs

room-for-log-fine : (s : State) (heading : Heading) (place : Place) → IsNotE06 (room_for_log s heading place)
room-for-log-fine s heading place = checked-fine place E17 (λ e. cc) (nat_le (length heading) (most_attributes - 1)) _ (λ few. room-fine s place)

pub log-fine : (s : State) (l r t : Word) → NameIn has_no_value l → NameIn has_no_value r → NameIn has_no_value t → IsNotE06 (log_declared s l r t)
unfolding log_declared
log-fine s l r t first second third =
    then-fine (new_name s l) _ (free-name-fine s l first) (λ name.
    then-fine (name_typed r) _ (name-fine r second) (λ of.
    then-fine (base_heading r.place (relvar_named s.relvars of)) _ (base-heading-fine r.place (relvar_named s.relvars of)) (λ heading.
    then-fine (new_attribute heading t) _ (new-name-fine heading t third) (λ attribute.
    then-fine (room_for_log s heading l.place) _ (room-for-log-fine s heading l.place) (λ room. tt)))))

-- ---- drops

pub dropped-fine : (s : State) (w : Word) → NameIn has_no_value w → IsNotE06 (dropped s w)
unfolding dropped
dropped-fine s w h =
    then-fine (name_typed w) _ (name-fine w h) (λ name.
    checked-fine w.place E10 (λ e. cc) (is_some (relvar_named s.relvars name)) _ (λ known.
    checked-fine w.place E21 (λ e. cc) (not (is_of_history s.relvars name)) _ (λ alone.
    checked-fine w.place E21 (λ e. cc) (not (is_used s (is_one_of (group s.relvars name)))) _ (λ free. tt))))

-- ---- database constraints

room-for-rule-fine : (s : State) (place : Place) (t : Test) → IsNotE06 (room_for_rule s place t)
room-for-rule-fine s place t = checked-fine place E22 (λ e. cc) (nat_le (test_nodes s.relvars t) most_nodes) _ (λ few. check-fine place E22 (λ e. cc) (nat_lt (length s.rules) most_rules))

pub rule-fine : (s : State) (w : Word) (test : TestP) → NameIn has_no_value w → TestIn has_no_value test → IsNotE06 (rule_declared s w test)
unfolding rule_declared
rule-fine s w test h g =
    then-fine (new_name s w) _ (free-name-fine s w h) (λ name.
    then-fine (test_typed_in (rule_scope s) test) _ (test-fine-in (rule_scope s) test g) (λ t.
    then-fine (room_for_rule s w.place t) _ (room-for-rule-fine s w.place t) (λ room. tt)))

pub rule-dropped-fine : (s : State) (w : Word) → NameIn has_no_value w → IsNotE06 (rule_dropped s w)
unfolding rule_dropped
rule-dropped-fine s w h =
    then-fine (name_typed w) _ (name-fine w h) (λ name.
    checked-fine w.place E10 (λ e. cc) (is_rule s name) _ (λ known. tt))
