-- The same of the items of an assignment.
use Rattle.std.proofs.Common.{◌≡◌, ℕ, List, [], ◌∷◌, ◌++◌, not, nat_le, length, Option, Some, None, Ok}
use Rattle.point_core.specs.declared.fault.Place.{Place}
use Rattle.point_core.specs.declared.fault.Code.TheVariants.{E06, E10, E12, E13, E14, E15, E16, E17, E20}
use Rattle.utd_syntax.specs.Plain as syntax
use Rattle.utd_syntax.specs.Plain.{Word, ScalarP, NameListP, SetItemP, SetsP, ElementP, SomeElementsP, MaybePortionP, ConditionP, RelP, DeletionP, UsedDeletionP, UsedItemP, ItemP, AssignP}
use Rattle.utd_ranges.specs.Ranges.{Each, NameIn, ScalarIn, SetItemIn, SetsIn, ElementIn, SomeElementsIn, MaybePortionIn, ConditionIn, RelIn, DeletionIn, UsedDeletionIn, UsedItemIn, ItemIn, AssignIn, has_no_value}
use Rattle.value_core.specs.declared.kind.Kind.{Kind}
use Rattle.value_core.specs.declared.list.OrdinalNames.{OrdinalNames}
use Rattle.value_core.specs.Attributes.{among}
use Rattle.value_core.specs.Limits.{most_listed}
use Rattle.value_core.specs.Values.{Name, Heading}
use Rattle.scalar_core.specs.Expressions.{Expr}
use Rattle.scalar_core.specs.KindOf.{same_kind}
use Rattle.scalar_typing.specs.Names.{attribute_of}
use Rattle.scalar_typing.specs.Scalars.{typed_scalar}
use Rattle.scalar_typing.specs.Typings.{value_or}
use Rattle.tree_core.specs.Items.{PlainPortion, PlainItem}
use Rattle.tree_core.specs.Relvars.{State, PlainRelvar, base, view, relvar_named, history_if, log}
use Rattle.tree_core.specs.Trees.{PlainSets, heading_of}
use Rattle.meaning_core.specs.Endings.{rule_if}
use Rattle.meaning_core.specs.Meanings.{positions_of}
use Rattle.meaning_core.specs.Typing.{is_span}
use Rattle.meaning_core.specs.Updates.{attributes_of_portion}
use Rattle.relation_typing.specs.Attributes.{name_typed, new_name}
use Rattle.relation_typing.specs.Headings.{same_heading}
use Rattle.relation_typing.specs.Items.{Made, none_made}
use Rattle.node_typing.specs.Lists.{list_checked}
use Rattle.node_typing.specs.Rows.{item_list, condition_typed}
use Rattle.node_typing.specs.Sweeps.{none_assigned}
use Rattle.tree_typing.specs.Trees.{tree_typed}
use Rattle.item_typing.specs.Targets.{base_heading, target_typed, rows_typed}
use Rattle.item_typing.specs.Sets.{set_typed, sets_typed, sets_made}
use Rattle.item_typing.specs.Changes.{condition_if, part_typed, parts_typed, portion_typed, portion_if, portion_names, names_if, condition_swept, works_at_points}
use Rattle.item_typing.specs.Endings.{Facts, since_typed, facts_of, point_typed, end_typed, ending_typed}
use Rattle.item_typing.specs.Items.{deletion_typed, update_typed, used_deletion_typed, used_update_typed, used_item_typed, setting_typed, insertion_typed, deletion_item_typed, update_item_typed, item_typed, items_typed, listed_items, assignment_typed}
use Rattle.type_check.specs.Refusals.{IsNotE06}
use Rattle.type_check.proofs.Refused.{then-fine, value-fine}
use Rattle.type_check.proofs.ScalarLaws.{scalar-fine}
use Rattle.type_check.proofs.RelationLaws.{name-fine, new-name-fine}
use Rattle.type_check.proofs.NodeLaws.{checked-fine, list-fine, condition-fine, none-assigned-fine, swept-fine, sets-swept-fine}
use Rattle.type_check.proofs.TreeLaws.{tree-fine}

-- ---- targets

base-heading-fine : (place : Place) (r : PlainRelvar) → IsNotE06 (base_heading place r)
base-heading-fine place (base value constraints) = tt
base-heading-fine place (view t kind) = λ e. cc
base-heading-fine place (log of side last value) = λ e. cc

target-fine : (state : State) (w : Word) → NameIn has_no_value w → IsNotE06 (target_typed state w)
target-fine state w h =
    then-fine (name_typed w) _ (name-fine w h) (λ name.
    then-fine (value_or w.place E10 (relvar_named state.relvars name)) _ (value-fine w.place E10 (λ e. cc) (relvar_named state.relvars name)) (λ found.
    then-fine (base_heading w.place found) _ (base-heading-fine w.place found) (λ heading. tt)))

rows-fine : (state : State) (w : Word) (heading : Heading) (rel : RelP) → RelIn has_no_value rel → IsNotE06 (rows_typed state w heading rel)
rows-fine state w heading rel h = then-fine (tree_typed state rel) _ (tree-fine state rel h) (λ t. checked-fine w.place E13 (λ e. cc) (same_heading (heading_of t) heading) _ (λ same. tt))

-- ---- what is assigned

set-fine : (types : List OrdinalNames) (heading : Heading) (before : Made) (w : Word) (s : ScalarP) → NameIn has_no_value w → ScalarIn has_no_value s → IsNotE06 (set_typed types heading before w s)
set-fine types heading before w s h g =
    then-fine (value_or w.place E14 (attribute_of heading w.bytes)) _ (value-fine w.place E14 (λ e. cc) (attribute_of heading w.bytes)) (λ found.
    then-fine (new_name before.1 w) _ (new-name-fine before.1 w h) (λ name.
    then-fine (typed_scalar types heading s) _ (scalar-fine types heading s g) (λ e.
    checked-fine w.place E12 (λ q. cc) (same_kind e.1 found.1) _ (λ same. tt))))

sets-typed-fine : (types : List OrdinalNames) (heading : Heading) (before : Made) (list : List SetItemP) → Each (SetItemIn has_no_value) list → IsNotE06 (sets_typed types heading before list)
sets-typed-fine types heading before [] h = tt
sets-typed-fine types heading before (syntax.SetItem w s ∷ rest) h = then-fine (set_typed types heading before w s) _ (set-fine types heading before w s h.0.0 h.0.1) (λ next. sets-typed-fine types heading next rest h.1)

sets-fine : (types : List OrdinalNames) (heading : Heading) (sets : SetsP) → SetsIn has_no_value sets → IsNotE06 (sets_made types heading sets)
sets-fine types heading (syntax.Sets at first more) h = then-fine (sets_typed types heading none_made (first ∷ more)) _ (sets-typed-fine types heading none_made (first ∷ more) h) (λ made. tt)

-- ---- which rows change

condition-if-fine : (types : List OrdinalNames) (heading : Heading) (c : ConditionP) → ConditionIn has_no_value c → IsNotE06 (condition_if types heading c)
condition-if-fine types heading syntax.NoCondition h = tt
condition-if-fine types heading (syntax.Where at s) h = then-fine (condition_typed types at heading s) _ (condition-fine types at heading s h) (λ c. tt)

part-fine : (types : List OrdinalNames) (heading : Heading) (before : PlainPortion) (part : ElementP) → ElementIn has_no_value part → IsNotE06 (part_typed types heading before part)
part-fine types heading before (syntax.Element w s) h =
    then-fine (value_or w.place E14 (attribute_of heading w.bytes)) _ (value-fine w.place E14 (λ e. cc) (attribute_of heading w.bytes)) (λ found.
    checked-fine w.place E15 (λ e. cc) (not (among (attributes_of_portion before) found.0)) _ (λ new.
    checked-fine w.place E16 (λ e. cc) (is_span found.1) _ (λ span.
    then-fine (typed_scalar types [] s) _ (scalar-fine types [] s h.1) (λ e.
    checked-fine w.place E12 (λ q. cc) (same_kind e.1 found.1) _ (λ same. tt)))))

parts-fine : (types : List OrdinalNames) (heading : Heading) (before : PlainPortion) (list : List ElementP) → Each (ElementIn has_no_value) list → IsNotE06 (parts_typed types heading before list)
parts-fine types heading before [] h = tt
parts-fine types heading before (part ∷ rest) h = then-fine (part_typed types heading before part) _ (part-fine types heading before part h.0) (λ next. parts-fine types heading next rest h.1)

portion-fine : (types : List OrdinalNames) (heading : Heading) (elements : SomeElementsP) → SomeElementsIn has_no_value elements → IsNotE06 (portion_typed types heading elements)
portion-fine types heading (syntax.SomeElements at first more) h = then-fine (parts_typed types heading [] (first ∷ more)) _ (parts-fine types heading [] (first ∷ more) h) (λ parts. checked-fine at E17 (λ e. cc) (nat_le (length parts) most_listed) _ (λ few. tt))

portion-if-fine : (types : List OrdinalNames) (heading : Heading) (p : MaybePortionP) → MaybePortionIn has_no_value p → IsNotE06 (portion_if types heading p)
portion-if-fine types heading syntax.NoPortion h = tt
portion-if-fine types heading (syntax.OfPortion at elements) h = then-fine (portion_typed types heading elements) _ (portion-fine types heading elements h) (λ portion. tt)

condition-swept-fine : (commalist : List ℕ) (c : Option Expr) → IsNotE06 (condition_swept commalist c)
condition-swept-fine commalist None = tt
condition-swept-fine commalist (Some c) = swept-fine commalist c

points-fine : (heading : Heading) (names : Option (List Name)) (c : Option Expr) (items : List SetItemP) (sets : PlainSets) → IsNotE06 (works_at_points heading names c items sets)
points-fine heading None c items sets = tt
points-fine heading (Some names) c items sets =
    then-fine (none_assigned names items) _ (none-assigned-fine names items) (λ none.
    then-fine (condition_swept (positions_of heading names) c) _ (condition-swept-fine (positions_of heading names) c) (λ condition.
    sets-swept-fine (positions_of heading names) sets))

-- ---- forms of items

deletion-fine : (state : State) (w : Word) (heading : Heading) (d : DeletionP) → DeletionIn has_no_value d → IsNotE06 (deletion_typed state w heading d)
deletion-fine state w heading (syntax.DeleteWhere at s) h = then-fine (condition_typed state.ordinals at heading s) _ (condition-fine state.ordinals at heading s h) (λ c. tt)
deletion-fine state w heading (syntax.DeletePortion (syntax.Portion at elements) condition) h =
    then-fine (portion_typed state.ordinals heading elements) _ (portion-fine state.ordinals heading elements h.0) (λ portion.
    then-fine (condition_if state.ordinals heading condition) _ (condition-if-fine state.ordinals heading condition h.1) (λ c.
    then-fine (works_at_points heading (Some (portion_names elements)) c [] []) _ (points-fine heading (Some (portion_names elements)) c [] []) (λ sweepable. tt)))
deletion-fine state w heading (syntax.DeleteRows rel) h = then-fine (rows_typed state w heading rel) _ (rows-fine state w heading rel h) (λ t. tt)

update-fine : (state : State) (heading : Heading) (portion : MaybePortionP) (condition : ConditionP) (sets : SetsP) → MaybePortionIn has_no_value portion → ConditionIn has_no_value condition → SetsIn has_no_value sets → IsNotE06 (update_typed state heading portion condition sets)
update-fine state heading portion condition sets h g k =
    then-fine (portion_if state.ordinals heading portion) _ (portion-if-fine state.ordinals heading portion h) (λ p.
    then-fine (condition_if state.ordinals heading condition) _ (condition-if-fine state.ordinals heading condition g) (λ c.
    then-fine (sets_made state.ordinals heading sets) _ (sets-fine state.ordinals heading sets k) (λ made.
    then-fine (works_at_points heading (names_if portion) c (item_list sets) made) _ (points-fine heading (names_if portion) c (item_list sets) made) (λ sweepable. tt))))

used-deletion-fine : (state : State) (w : Word) (heading : Heading) (list : NameListP) (d : UsedDeletionP) → UsedDeletionIn has_no_value d → IsNotE06 (used_deletion_typed state w heading list d)
used-deletion-fine state w heading list (syntax.UsedDeleteWhere at s) h =
    then-fine (list_checked heading heading list) _ (list-fine heading heading list) (λ names.
    then-fine (condition_typed state.ordinals at heading s) _ (condition-fine state.ordinals at heading s h) (λ c.
    then-fine (works_at_points heading (Some names) (Some c) [] []) _ (points-fine heading (Some names) (Some c) [] []) (λ sweepable. tt)))
used-deletion-fine state w heading list (syntax.UsedDeleteRows rel) h =
    then-fine (rows_typed state w heading rel) _ (rows-fine state w heading rel h) (λ t.
    then-fine (list_checked heading (heading_of t) list) _ (list-fine heading (heading_of t) list) (λ names. tt))

used-update-fine : (state : State) (heading : Heading) (list : NameListP) (condition : ConditionP) (sets : SetsP) → ConditionIn has_no_value condition → SetsIn has_no_value sets → IsNotE06 (used_update_typed state heading list condition sets)
used-update-fine state heading list condition sets h g =
    then-fine (list_checked heading heading list) _ (list-fine heading heading list) (λ names.
    then-fine (condition_if state.ordinals heading condition) _ (condition-if-fine state.ordinals heading condition h) (λ c.
    then-fine (sets_made state.ordinals heading sets) _ (sets-fine state.ordinals heading sets g) (λ made.
    then-fine (works_at_points heading (Some names) c (item_list sets) made) _ (points-fine heading (Some names) c (item_list sets) made) (λ sweepable. tt))))

-- ---- items

used-item-fine : (state : State) (place : Place) (list : NameListP) (item : UsedItemP) → UsedItemIn has_no_value item → IsNotE06 (used_item_typed state place list item)
used-item-fine state place list (syntax.UsedInsert at w rel) h =
    then-fine (target_typed state w) _ (target-fine state w h.0) (λ target.
    then-fine (rows_typed state w target.1 rel) _ (rows-fine state w target.1 rel h.1) (λ t.
    then-fine (list_checked target.1 (heading_of t) list) _ (list-fine target.1 (heading_of t) list) (λ names. tt)))
used-item-fine state place list (syntax.UsedDelete at w deletion) h =
    then-fine (target_typed state w) _ (target-fine state w h.0) (λ target.
    then-fine (used_deletion_typed state w target.1 list deletion) _ (used-deletion-fine state w target.1 list deletion h.1) (λ form. tt))
used-item-fine state place list (syntax.UsedUpdate at w condition sets) h =
    then-fine (target_typed state w) _ (target-fine state w h.0) (λ target.
    then-fine (used_update_typed state target.1 list condition sets) _ (used-update-fine state target.1 list condition sets h.1 h.2) (λ form. tt))

setting-fine : (state : State) (w : Word) (rel : RelP) → NameIn has_no_value w → RelIn has_no_value rel → IsNotE06 (setting_typed state w rel)
setting-fine state w rel h g =
    then-fine (target_typed state w) _ (target-fine state w h) (λ target.
    then-fine (rows_typed state w target.1 rel) _ (rows-fine state w target.1 rel g) (λ t. tt))

insertion-fine : (state : State) (place : Place) (w : Word) (rel : RelP) → NameIn has_no_value w → RelIn has_no_value rel → IsNotE06 (insertion_typed state place w rel)
insertion-fine state place w rel h g =
    then-fine (target_typed state w) _ (target-fine state w h) (λ target.
    then-fine (rows_typed state w target.1 rel) _ (rows-fine state w target.1 rel g) (λ t. tt))

deletion-item-fine : (state : State) (place : Place) (w : Word) (d : DeletionP) → NameIn has_no_value w → DeletionIn has_no_value d → IsNotE06 (deletion_item_typed state place w d)
deletion-item-fine state place w d h g =
    then-fine (target_typed state w) _ (target-fine state w h) (λ target.
    then-fine (deletion_typed state w target.1 d) _ (deletion-fine state w target.1 d g) (λ form. tt))

update-item-fine : (state : State) (place : Place) (w : Word) (p : MaybePortionP) (c : ConditionP) (sets : SetsP) → NameIn has_no_value w → MaybePortionIn has_no_value p → ConditionIn has_no_value c → SetsIn has_no_value sets → IsNotE06 (update_item_typed state place w p c sets)
update-item-fine state place w p c sets h g k l =
    then-fine (target_typed state w) _ (target-fine state w h) (λ target.
    then-fine (update_typed state target.1 p c sets) _ (update-fine state target.1 p c sets g k l) (λ form. tt))

-- ---- what ends

since-fine : (state : State) (place : Place) (name : Name) → IsNotE06 (since_typed state place name)
since-fine state place name = then-fine (value_or place E20 (relvar_named state.relvars name)) _ (value-fine place E20 (λ e. cc) (relvar_named state.relvars name)) (λ since. tt)

facts-fine : (state : State) (place : Place) (found : PlainRelvar) → IsNotE06 (facts_of state place found)
facts-fine state place found =
    then-fine (value_or place E20 (history_if (Some found))) _ (value-fine place E20 (λ e. cc) (history_if (Some found))) (λ names.
    then-fine (value_or place E20 (rule_if state.relvars (Some names))) _ (value-fine place E20 (λ e. cc) (rule_if state.relvars (Some names))) (λ rule.
    then-fine (since_typed state place names.0) _ (since-fine state place names.0) (λ heading. tt)))

point-fine : (types : List OrdinalNames) (point : Kind) (at : Place) (s : ScalarP) → ScalarIn has_no_value s → IsNotE06 (point_typed types point at s)
point-fine types point at s h = then-fine (typed_scalar types [] s) _ (scalar-fine types [] s h) (λ e. checked-fine at E12 (λ q. cc) (same_kind e.1 point) _ (λ same. tt))

end-fine : (state : State) (facts : Facts) (at : Place) (s : ScalarP) (c : ConditionP) → ScalarIn has_no_value s → ConditionIn has_no_value c → IsNotE06 (end_typed state facts at s c)
end-fine state facts at s c h g =
    then-fine (point_typed state.ordinals facts.1 at s) _ (point-fine state.ordinals facts.1 at s h) (λ e.
    then-fine (condition_if state.ordinals facts.0 c) _ (condition-if-fine state.ordinals facts.0 c g) (λ condition. tt))

ending-fine : (state : State) (place : Place) (w : Word) (at : Place) (s : ScalarP) (c : ConditionP) → NameIn has_no_value w → ScalarIn has_no_value s → ConditionIn has_no_value c → IsNotE06 (ending_typed state place w at s c)
ending-fine state place w at s c h g k =
    then-fine (name_typed w) _ (name-fine w h) (λ name.
    then-fine (value_or w.place E10 (relvar_named state.relvars name)) _ (value-fine w.place E10 (λ e. cc) (relvar_named state.relvars name)) (λ found.
    then-fine (facts_of state w.place found) _ (facts-fine state w.place found) (λ facts.
    then-fine (end_typed state facts at s c) _ (end-fine state facts at s c g k) (λ form. tt))))

-- ---- all items

typed-item-fine : (state : State) (x : ItemP) → ItemIn has_no_value x → IsNotE06 (item_typed state x)
typed-item-fine state (syntax.SetRelvar w rel) h = setting-fine state w rel h.0 h.1
typed-item-fine state (syntax.Insert at w rel) h = insertion-fine state at w rel h.0 h.1
typed-item-fine state (syntax.Delete at w d) h = deletion-item-fine state at w d h.0 h.1
typed-item-fine state (syntax.Update at w p c sets) h = update-item-fine state at w p c sets h.0 h.1 h.2 h.3
typed-item-fine state (syntax.Terminate place w at s c) h = ending-fine state place w at s c h.0 h.1 h.2
typed-item-fine state (syntax.UsingItem at list item) h = used-item-fine state at list item h.1

items-fine : (state : State) (before : List PlainItem) (list : List ItemP) → Each (ItemIn has_no_value) list → IsNotE06 (items_typed state before list)
items-fine state before [] h = tt
items-fine state before (x ∷ rest) h = then-fine (item_typed state x) _ (typed-item-fine state x h.0) (λ item. items-fine state (before ++ item ∷ []) rest h.1)

pub assignment-fine : (state : State) (a : AssignP) → AssignIn has_no_value a → IsNotE06 (assignment_typed state a)
assignment-fine state (syntax.Assign first more) h = items-fine state [] (first ∷ more) h
