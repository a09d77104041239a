-- The same of the rules of relational nodes over typed operands.
use Rattle.std.proofs.Common.{◌≡◌, ℕ, List, [], ◌∷◌, ◌++◌, Bool, ◌&&◌, not, nat_le, length, Option, Some, None, Ok}
use Rattle.base_core.specs.Outcomes.{then_give}
use Rattle.point_core.specs.declared.fault.Place.{Place}
use Rattle.point_core.specs.declared.fault.Code.{Code}
use Rattle.point_core.specs.declared.fault.Code.TheVariants.{E06, E12, E13, E14, E15, E16, E17, E18, E19}
use Rattle.point_core.specs.Faults.{OrFault}
use Rattle.utd_syntax.specs.Plain as syntax
use Rattle.utd_syntax.specs.Plain.{Word, ScalarP, NamesP, NameListP, SetItemP, SetsP, AggregateFormP, AggregateP, AggregatesP, RenamingP, RenamingsP, ProjectionP}
use Rattle.utd_ranges.specs.Ranges.{Each, NameIn, ScalarIn, SetItemIn, SetsIn, AggregateFormIn, AggregateIn, AggregatesIn, RenamingIn, RenamingsIn, has_no_value}
use Rattle.value_core.specs.declared.kind.Kind.TheVariants.{Truth}
use Rattle.value_core.specs.declared.list.OrdinalNames.{OrdinalNames}
use Rattle.value_core.specs.Attributes.{among}
use Rattle.relation_core.specs.Parts.{attributes_at}
use Rattle.value_core.specs.Headings.{has_name}
use Rattle.value_core.specs.Limits.{most_listed}
use Rattle.value_core.specs.Values.{Name, Heading}
use Rattle.scalar_core.specs.Expressions.{Expr}
use Rattle.scalar_core.specs.KindOf.{same_kind}
use Rattle.scalar_core.specs.Sweeping.{first_place, named_places, sweep_fault}
use Rattle.scalar_typing.specs.Scalars.{typed_scalar}
use Rattle.tree_core.specs.declared.tree.InfixWord.TheVariants as infixes
use Rattle.tree_core.specs.declared.tree.InfixWord.{InfixWord}
use Rattle.tree_core.specs.Trees.{PlainSets, PlainAggregateForm, count_rows, sum_of, min_of, max_of, PlainAggregate, Tree, heading_of}
use Rattle.relation_core.specs.Joins.{joined_heading}
use Rattle.meaning_core.specs.Typing.{is_span}
use Rattle.relation_typing.specs.Attributes.{name_typed, new_name, few_attributes, with_attribute}
use Rattle.relation_typing.specs.Headings.{same_heading}
use Rattle.relation_typing.specs.Items.{Made, none_made, item_typed}
use Rattle.node_typing.specs.Positions.{check, position_if, position_typed, new_position, positions_typed}
use Rattle.node_typing.specs.Lists.{named_in, kind_named, name_checked, names_checked, list_checked, words_of}
use Rattle.node_typing.specs.Projections.{NewNames, projection_words, projection_kept, renamed_positions, renaming_typed, renamings_typed, new_names_once, stands_once, renaming_list, renaming_names, names_from}
use Rattle.node_typing.specs.Rows.{condition_typed, items_typed, item_list, extension_made}
use Rattle.node_typing.specs.Summaries.{Summed, takes, form_typed, aggregate_typed, aggregates_typed, aggregate_list, groups_typed, aggregates_made}
use Rattle.node_typing.specs.Headings.{made_beside}
use Rattle.node_typing.specs.Infixes.{infix_heading, kinds_agree}
use Rattle.node_typing.specs.Nodes.{infix_rule, projection_rule, renaming_rule, restriction_rule, extension_rule, summary_rule, packing_rule, comparison_rule, using_comparison_rule}
use Rattle.node_typing.specs.Sweeps.{all_kept, none_assigned, refused_if, swept, sets_swept, names_no, form_names_no, aggregates_name_no}
use Rattle.node_typing.specs.Usings.{using_infix_rule, using_projection_rule, using_restriction_rule, using_extension_rule, using_summary_rule}
use Rattle.type_check.specs.Refusals.{IsNotE06}
use Rattle.type_check.proofs.Refused.{then-fine, value-fine, if-fine}
use Rattle.type_check.proofs.ScalarLaws.{scalar-fine}
use Rattle.type_check.proofs.RelationLaws.{name-fine, new-name-fine, few-fine, item-fine}

pub check-fine : (place : Place) (code : Code) → (code ≡ E06 → ⊥) → (holds : Bool) → IsNotE06 (check place code holds)
check-fine place code other holds = if-fine place code other holds tt

-- a check, and then more
pub checked-fine : {X : Type 0} (place : Place) (code : Code) → (code ≡ E06 → ⊥) → (holds : Bool) (f : Unit {0} → OrFault X) → ((u : Unit {0}) → IsNotE06 (f u)) → IsNotE06 (then_give (check place code holds) f)
checked-fine place code other holds f h = then-fine (check place code holds) f (check-fine place code other holds) h

-- ---- attributes that are named

pub position-fine : (heading : Heading) (w : Word) → IsNotE06 (position_typed heading w)
position-fine heading w = value-fine w.place E14 (λ e. cc) (position_if heading w.bytes)

new-position-fine : (heading : Heading) (before : List ℕ) (w : Word) → IsNotE06 (new_position heading before w)
new-position-fine heading before w = then-fine (position_typed heading w) _ (position-fine heading w) (λ at. checked-fine w.place E15 (λ e. cc) (not (among before at)) _ (λ u. tt))

pub positions-fine : (heading : Heading) (before : List ℕ) (words : List Word) → IsNotE06 (positions_typed heading before words)
positions-fine heading before [] = tt
positions-fine heading before (w ∷ rest) = then-fine (new_position heading before w) _ (new-position-fine heading before w) (λ at. positions-fine heading (before ++ at ∷ []) rest)

name-checked-fine : (left right : Heading) (before : List Name) (w : Word) → IsNotE06 (name_checked left right before w)
name-checked-fine left right before w =
    checked-fine w.place E14 (λ e. cc) (has_name left w.bytes && has_name right w.bytes) _ (λ known.
    checked-fine w.place E15 (λ e. cc) (not (named_in before w.bytes)) _ (λ new.
    checked-fine w.place E16 (λ e. cc) (is_span (kind_named left w.bytes)) _ (λ span.
    check-fine w.place E12 (λ e. cc) (same_kind (kind_named left w.bytes) (kind_named right w.bytes)))))

names-checked-fine : (left right : Heading) (before : List Name) (words : List Word) → IsNotE06 (names_checked left right before words)
names-checked-fine left right before [] = tt
names-checked-fine left right before (w ∷ rest) = then-fine (name_checked left right before w) _ (name-checked-fine left right before w) (λ u. names-checked-fine left right (before ++ w.bytes ∷ []) rest)

pub list-fine : (left right : Heading) (list : NameListP) → IsNotE06 (list_checked left right list)
list-fine left right (syntax.NameList at words) =
    then-fine (names_checked left right [] words) _ (names-checked-fine left right [] words) (λ names.
    checked-fine at E17 (λ e. cc) (nat_le (length names) most_listed) _ (λ u. tt))

-- ---- plain operators

infix-heading-fine : (place : Place) (word : InfixWord) (left right : Heading) → IsNotE06 (infix_heading place word left right)
infix-heading-fine place infixes.Union left right = checked-fine place E13 (λ e. cc) (same_heading left right) _ (λ u. tt)
infix-heading-fine place infixes.Intersect left right = checked-fine place E13 (λ e. cc) (same_heading left right) _ (λ u. tt)
infix-heading-fine place infixes.Minus left right = checked-fine place E13 (λ e. cc) (same_heading left right) _ (λ u. tt)
infix-heading-fine place infixes.Join left right = checked-fine place E12 (λ e. cc) (kinds_agree left right) _ (λ u. few-fine place (joined_heading left right))
infix-heading-fine place infixes.Matching left right = checked-fine place E12 (λ e. cc) (kinds_agree left right) _ (λ u. tt)
infix-heading-fine place infixes.NotMatching left right = checked-fine place E12 (λ e. cc) (kinds_agree left right) _ (λ u. tt)

pub infix-fine : (place : Place) (word : InfixWord) (l r : Tree) → IsNotE06 (infix_rule place word l r)
infix-fine place word l r = then-fine (infix_heading place word (heading_of l) (heading_of r)) _ (infix-heading-fine place word (heading_of l) (heading_of r)) (λ heading. tt)

kept-fine : (p : ProjectionP) (heading : Heading) → IsNotE06 (projection_kept p heading)
kept-fine p heading = then-fine (positions_typed heading [] (projection_words p)) _ (positions-fine heading [] (projection_words p)) (λ named. tt)

pub projection-fine : (p : ProjectionP) (t : Tree) → IsNotE06 (projection_rule p t)
projection-fine p t = then-fine (projection_kept p (heading_of t)) _ (kept-fine p (heading_of t)) (λ kept. tt)

renaming-typed-fine : (heading : Heading) (before : NewNames) (r : RenamingP) → RenamingIn has_no_value r → IsNotE06 (renaming_typed heading before r)
renaming-typed-fine heading before (syntax.Renaming old new) h =
    then-fine (new_position heading (renamed_positions before) old) _ (new-position-fine heading (renamed_positions before) old) (λ at.
    then-fine (name_typed new) _ (name-fine new h.1) (λ name. tt))

renamings-typed-fine : (heading : Heading) (before : NewNames) (list : List RenamingP) → Each (RenamingIn has_no_value) list → IsNotE06 (renamings_typed heading before list)
renamings-typed-fine heading before [] h = tt
renamings-typed-fine heading before (r ∷ rest) h = then-fine (renaming_typed heading before r) _ (renaming-typed-fine heading before r h.0) (λ next. renamings-typed-fine heading next rest h.1)

once-fine : (names : List Name) (list : List RenamingP) → IsNotE06 (new_names_once names list)
once-fine names [] = tt
once-fine names (syntax.Renaming old new ∷ rest) = checked-fine new.place E15 (λ e. cc) (stands_once names new.bytes) _ (λ u. once-fine names rest)

pub renaming-fine : (place : Place) (r : RenamingsP) (t : Tree) → RenamingsIn has_no_value r → IsNotE06 (renaming_rule place r t)
renaming-fine place (syntax.Renamings at first more) t h =
    then-fine (renaming_names (syntax.Renamings at first more) (heading_of t)) _
    (then-fine (renamings_typed (heading_of t) [] (first ∷ more)) _ (renamings-typed-fine (heading_of t) [] (first ∷ more) h) (λ pairs. once-fine (names_from pairs 0 (heading_of t)) (first ∷ more)))
    (λ names. tt)

pub condition-fine : (types : List OrdinalNames) (place : Place) (from : Heading) (s : ScalarP) → ScalarIn has_no_value s → IsNotE06 (condition_typed types place from s)
condition-fine types place from s h = then-fine (typed_scalar types from s) _ (scalar-fine types from s h) (λ e. checked-fine place E12 (λ q. cc) (same_kind e.1 Truth) _ (λ u. tt))

pub restriction-fine : (types : List OrdinalNames) (place : Place) (s : ScalarP) (t : Tree) → ScalarIn has_no_value s → IsNotE06 (restriction_rule types place s t)
restriction-fine types place s t h = then-fine (condition_typed types place (heading_of t) s) _ (condition-fine types place (heading_of t) s h) (λ c. tt)

items-fine : (types : List OrdinalNames) (from : Heading) (before : Made) (list : List SetItemP) → Each (SetItemIn has_no_value) list → IsNotE06 (items_typed types from before list)
items-fine types from before [] h = tt
items-fine types from before (syntax.SetItem w s ∷ rest) h = then-fine (item_typed types from before w s) _ (item-fine types from before w s h.0.0 h.0.1) (λ next. items-fine types from next rest h.1)

extension-made-fine : (types : List OrdinalNames) (place : Place) (from : Heading) (sets : SetsP) → SetsIn has_no_value sets → IsNotE06 (extension_made types place from sets)
extension-made-fine types place from (syntax.Sets at first more) h =
    then-fine (items_typed types from none_made (first ∷ more)) _ (items-fine types from none_made (first ∷ more) h) (λ made.
    then-fine (few_attributes place (made_beside made.1 from)) _ (few-fine place (made_beside made.1 from)) (λ to. tt))

pub extension-fine : (types : List OrdinalNames) (place : Place) (sets : SetsP) (t : Tree) → SetsIn has_no_value sets → IsNotE06 (extension_rule types place sets t)
extension-fine types place sets t h = then-fine (extension_made types place (heading_of t) sets) _ (extension-made-fine types place (heading_of t) sets h) (λ made. tt)

form-fine : (types : List OrdinalNames) (from : Heading) (form : AggregateFormP) → AggregateFormIn has_no_value form → IsNotE06 (form_typed types from form)
form-fine types from (syntax.CountRows at) h = tt
form-fine types from (syntax.AggregateOf at word s) h = then-fine (typed_scalar types from s) _ (scalar-fine types from s h) (λ e. checked-fine at E12 (λ q. cc) (takes word e.1) _ (λ u. tt))

aggregate-fine : (types : List OrdinalNames) (from : Heading) (before : Summed) (g : AggregateP) → AggregateIn has_no_value g → IsNotE06 (aggregate_typed types from before g)
aggregate-fine types from before (syntax.Aggregate w form) h =
    then-fine (new_name before.1 w) _ (new-name-fine before.1 w h.0) (λ name.
    then-fine (form_typed types from form) _ (form-fine types from form h.1) (λ made. tt))

aggregates-fine : (types : List OrdinalNames) (from : Heading) (before : Summed) (list : List AggregateP) → Each (AggregateIn has_no_value) list → IsNotE06 (aggregates_typed types from before list)
aggregates-fine types from before [] h = tt
aggregates-fine types from before (g ∷ rest) h = then-fine (aggregate_typed types from before g) _ (aggregate-fine types from before g h.0) (λ next. aggregates-fine types from next rest h.1)

groups-fine : (from : Heading) (by : NamesP) → IsNotE06 (groups_typed from by)
groups-fine from (syntax.Names at words) = then-fine (positions_typed from [] words) _ (positions-fine from [] words) (λ named. tt)

aggregates-made-fine : (types : List OrdinalNames) (place : Place) (from : Heading) (by : List ℕ) (aggregates : AggregatesP) → AggregatesIn has_no_value aggregates → IsNotE06 (aggregates_made types place from by aggregates)
aggregates-made-fine types place from by (syntax.Aggregates at first more) h =
    then-fine (aggregates_typed types from ([], attributes_at by from) (first ∷ more)) _ (aggregates-fine types from ([], attributes_at by from) (first ∷ more) h) (λ made.
    then-fine (few_attributes place made.1) _ (few-fine place made.1) (λ to. tt))

pub summary-fine : (types : List OrdinalNames) (place : Place) (names : NamesP) (aggregates : AggregatesP) (t : Tree) → AggregatesIn has_no_value aggregates → IsNotE06 (summary_rule types place names aggregates t)
summary-fine types place names aggregates t h =
    then-fine (groups_typed (heading_of t) names) _ (groups-fine (heading_of t) names) (λ by.
    then-fine (aggregates_made types place (heading_of t) by aggregates) _ (aggregates-made-fine types place (heading_of t) by aggregates h) (λ made. tt))

pub packing-fine : (place : Place) (word : _) (list : NameListP) (t : Tree) → IsNotE06 (packing_rule place word list t)
packing-fine place word list t = then-fine (list_checked (heading_of t) (heading_of t) list) _ (list-fine (heading_of t) (heading_of t) list) (λ names. tt)

-- ---- comparisons

pub comparison-fine : (place : Place) (word : _) (l r : Tree) → IsNotE06 (comparison_rule place word l r)
comparison-fine place word l r = checked-fine place E13 (λ e. cc) (same_heading (heading_of l) (heading_of r)) _ (λ u. tt)

pub using-comparison-fine : (list : NameListP) (place : Place) (word : _) (l r : Tree) → IsNotE06 (using_comparison_rule list place word l r)
using-comparison-fine list place word l r = then-fine (list_checked (heading_of l) (heading_of r) list) _ (list-fine (heading_of l) (heading_of r) list) (λ names. checked-fine place E13 (λ e. cc) (same_heading (heading_of l) (heading_of r)) _ (λ u. tt))

-- ---- under USING

all-kept-fine : (heading : Heading) (words : List Word) → IsNotE06 (all_kept heading words)
all-kept-fine heading [] = tt
all-kept-fine heading (w ∷ rest) = checked-fine w.place E19 (λ e. cc) (has_name heading w.bytes) _ (λ u. all-kept-fine heading rest)

pub none-assigned-fine : (names : List Name) (list : List SetItemP) → IsNotE06 (none_assigned names list)
none-assigned-fine names [] = tt
none-assigned-fine names (syntax.SetItem w s ∷ rest) = checked-fine w.place E19 (λ e. cc) (not (named_in names w.bytes)) _ (λ u. none-assigned-fine names rest)

refused-if-fine : (code : Code) → (code ≡ E06 → ⊥) → (o : Option Place) → IsNotE06 (refused_if code o)
refused-if-fine code other None = tt
refused-if-fine code other (Some place) = other

pub swept-fine : (commalist : List ℕ) (e : Expr) → IsNotE06 (swept commalist e)
swept-fine commalist e = refused-if-fine E18 (λ q. cc) (sweep_fault commalist e)

pub sets-swept-fine : (commalist : List ℕ) (sets : PlainSets) → IsNotE06 (sets_swept commalist sets)
sets-swept-fine commalist [] = tt
sets-swept-fine commalist (s ∷ rest) = then-fine (swept commalist s.1) _ (swept-fine commalist s.1) (λ u. sets-swept-fine commalist rest)

names-no-fine : (commalist : List ℕ) (e : Expr) → IsNotE06 (names_no commalist e)
names-no-fine commalist e = refused-if-fine E18 (λ q. cc) (first_place (named_places commalist e))

form-names-fine : (commalist : List ℕ) (form : PlainAggregateForm) → IsNotE06 (form_names_no commalist form)
form-names-fine commalist count_rows = tt
form-names-fine commalist (sum_of e) = names-no-fine commalist e
form-names-fine commalist (min_of e) = names-no-fine commalist e
form-names-fine commalist (max_of e) = names-no-fine commalist e

aggregates-name-fine : (commalist : List ℕ) (list : List PlainAggregate) → IsNotE06 (aggregates_name_no commalist list)
aggregates-name-fine commalist [] = tt
aggregates-name-fine commalist (g ∷ rest) = then-fine (form_names_no commalist g.form) _ (form-names-fine commalist g.form) (λ u. aggregates-name-fine commalist rest)

pub using-infix-fine : (place : Place) (list : NameListP) (at : Place) (word : InfixWord) (l r : Tree) → IsNotE06 (using_infix_rule place list at word l r)
using-infix-fine place list at word l r =
    then-fine (list_checked (heading_of l) (heading_of r) list) _ (list-fine (heading_of l) (heading_of r) list) (λ names.
    then-fine (infix_rule at word l r) _ (infix-fine at word l r) (λ part. tt))

pub using-projection-fine : (place : Place) (list : NameListP) (p : ProjectionP) (t : Tree) → IsNotE06 (using_projection_rule place list p t)
using-projection-fine place list p t =
    then-fine (list_checked (heading_of t) (heading_of t) list) _ (list-fine (heading_of t) (heading_of t) list) (λ names.
    then-fine (projection_kept p (heading_of t)) _ (kept-fine p (heading_of t)) (λ kept.
    then-fine (all_kept _ (words_of list)) _ (all-kept-fine _ (words_of list)) (λ all. tt)))

pub using-restriction-fine : (types : List OrdinalNames) (place : Place) (list : NameListP) (at : Place) (s : ScalarP) (t : Tree) → ScalarIn has_no_value s → IsNotE06 (using_restriction_rule types place list at s t)
using-restriction-fine types place list at s t h =
    then-fine (list_checked (heading_of t) (heading_of t) list) _ (list-fine (heading_of t) (heading_of t) list) (λ names.
    then-fine (condition_typed types at (heading_of t) s) _ (condition-fine types at (heading_of t) s h) (λ c.
    then-fine (swept _ c) _ (swept-fine _ c) (λ u. tt)))

pub using-extension-fine : (types : List OrdinalNames) (place : Place) (list : NameListP) (at : Place) (sets : SetsP) (t : Tree) → SetsIn has_no_value sets → IsNotE06 (using_extension_rule types place list at sets t)
using-extension-fine types place list at sets t h =
    then-fine (list_checked (heading_of t) (heading_of t) list) _ (list-fine (heading_of t) (heading_of t) list) (λ names.
    then-fine (extension_made types at (heading_of t) sets) _ (extension-made-fine types at (heading_of t) sets h) (λ made.
    then-fine (none_assigned names (item_list sets)) _ (none-assigned-fine names (item_list sets)) (λ none.
    then-fine (sets_swept _ made.0) _ (sets-swept-fine _ made.0) (λ u. tt))))

pub using-summary-fine : (types : List OrdinalNames) (place : Place) (list : NameListP) (at : Place) (by_names : NamesP) (aggregates : AggregatesP) (t : Tree) → AggregatesIn has_no_value aggregates → IsNotE06 (using_summary_rule types place list at by_names aggregates t)
using-summary-fine types place list at by_names aggregates t h =
    then-fine (list_checked (heading_of t) (heading_of t) list) _ (list-fine (heading_of t) (heading_of t) list) (λ names.
    then-fine (groups_typed (heading_of t) by_names) _ (groups-fine (heading_of t) by_names) (λ by.
    then-fine (aggregates_made types at (heading_of t) by aggregates) _ (aggregates-made-fine types at (heading_of t) by aggregates h) (λ made.
    then-fine (all_kept _ (words_of list)) _ (all-kept-fine _ (words_of list)) (λ all.
    then-fine (aggregates_name_no _ made.0) _ (aggregates-name-fine _ made.0) (λ u. tt)))))
