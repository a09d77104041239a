-- The same of names that are made, headings, items and literals of relations.
use Rattle.std.proofs.Common.{◌≡◌, ℕ, List, [], ◌∷◌, ◌++◌, Bool, true, false, ◌&&◌, ◌||◌, not, nat_le, length, Ok}
use Rattle.std.proofs.lemmas.Bool.{and_from}
use Rattle.base_core.proofs.BoolLemmas.{left_false}
use Rattle.point_core.specs.declared.fault.Place.{Place}
use Rattle.point_core.specs.declared.fault.Code.TheVariants.{E06, E13, E15, E17}
use Rattle.utd_syntax.specs.declared.terminal.Terminal.TheVariants as t
use Rattle.utd_syntax.specs.Plain as syntax
use Rattle.utd_syntax.specs.Plain.{Word, ScalarP, KindP, AttributeP, HeadingP, ElementP, ElementsP, TupleP, LiteralP}
use Rattle.utd_ranges.specs.Ranges.{Each, NameIn, ScalarIn, AttributeIn, HeadingIn, ElementIn, ElementsIn, TupleIn, LiteralIn, is_unwritten, has_no_value}
use Rattle.value_core.specs.Lengths.{is_utf8}
use Rattle.value_core.specs.declared.list.OrdinalNames.{OrdinalNames}
use Rattle.value_core.specs.Headings.{has_name}
use Rattle.value_core.specs.Limits.{most_attributes, most_name_bytes}
use Rattle.value_core.specs.Values.{Heading}
use Rattle.scalar_typing.specs.Names.{point_type}
use Rattle.scalar_typing.specs.Scalars.{typed_scalar}
use Rattle.tree_core.specs.Trees.{PlainSets}
use Rattle.relation_typing.specs.Attributes.{is_name, name_typed, new_name, few_attributes, with_attribute}
use Rattle.relation_typing.specs.Headings.{kind_typed, attributes_typed, heading_typed, same_heading}
use Rattle.relation_typing.specs.Items.{Made, none_made, item_typed, elements_typed}
use Rattle.relation_typing.specs.Literals.{elements_made, tuple_typed, under_heading, next_tuple, tuples_typed, headed_typed, first_typed, literal_typed}
use Rattle.type_check.specs.Refusals.{IsNotE06}
use Rattle.type_check.proofs.Refused.{then-fine, if-fine, unless-fine, holds-fine, or-right, not-left, not-right}
use Rattle.type_check.proofs.ScalarLaws.{not-above, point-fine, scalar-fine}

pub name-fine : (w : Word) → NameIn has_no_value w → IsNotE06 (name_typed w)
name-fine w h =
    let short : nat_le (length w.bytes) most_name_bytes ≡ true = not-above most_name_bytes (length w.bytes) (left_false _ (is_unwritten t.Name w.bytes) h) in
    let written : not (is_utf8 w.bytes && nat_le 1 (length w.bytes)) ≡ false = or-right _ (is_unwritten t.Name w.bytes) h in
    holds-fine w.place E06 (is_name w.bytes) w.bytes
    (and_from (is_utf8 w.bytes) _ (not-left (is_utf8 w.bytes) (nat_le 1 (length w.bytes)) written)
    (and_from (nat_le 1 (length w.bytes)) _ (not-right (is_utf8 w.bytes) (nat_le 1 (length w.bytes)) written) short))

pub new-name-fine : (attributes : Heading) (w : Word) → NameIn has_no_value w → IsNotE06 (new_name attributes w)
new-name-fine attributes w h = then-fine (name_typed w) _ (name-fine w h) (λ name. unless-fine w.place E15 (λ e. cc) (has_name attributes name) name)

pub few-fine : (place : Place) (attributes : Heading) → IsNotE06 (few_attributes place attributes)
few-fine place attributes = if-fine place E17 (λ e. cc) (nat_le (length attributes) most_attributes) attributes

-- ---- headings

kind-fine : (types : List OrdinalNames) (k : KindP) → IsNotE06 (kind_typed types k)
kind-fine types (syntax.BooleanKind at) = tt
kind-fine types (syntax.CharKind at) = tt
kind-fine types (syntax.PointKind p) = then-fine (point_type types p) _ (point-fine types p) (λ kind. tt)
kind-fine types (syntax.IntervalKind at p) = then-fine (point_type types p) _ (point-fine types p) (λ kind. tt)

attributes-fine : (types : List OrdinalNames) (before : Heading) (list : List AttributeP) → Each (AttributeIn has_no_value) list → IsNotE06 (attributes_typed types before list)
attributes-fine types before [] h = tt
attributes-fine types before (syntax.Attribute w k ∷ rest) h =
    then-fine (kind_typed types k) _ (kind-fine types k) (λ kind.
    then-fine (new_name before w) _ (new-name-fine before w h.0.0) (λ name.
    attributes-fine types (with_attribute before name kind) rest h.1))

pub heading-fine : (types : List OrdinalNames) (heading : HeadingP) → HeadingIn has_no_value heading → IsNotE06 (heading_typed types heading)
heading-fine types (syntax.Heading at list) h = then-fine (attributes_typed types [] list) _ (attributes-fine types [] list h) (λ all. few-fine at all)

-- ---- items

pub item-fine : (types : List OrdinalNames) (from : Heading) (before : Made) (w : Word) (s : ScalarP) → NameIn has_no_value w → ScalarIn has_no_value s → IsNotE06 (item_typed types from before w s)
item-fine types from before w s h g =
    then-fine (new_name before.1 w) _ (new-name-fine before.1 w h) (λ name.
    then-fine (typed_scalar types from s) _ (scalar-fine types from s g) (λ e. tt))

elements-fine : (types : List OrdinalNames) (from : Heading) (before : Made) (list : List ElementP) → Each (ElementIn has_no_value) list → IsNotE06 (elements_typed types from before list)
elements-fine types from before [] h = tt
elements-fine types from before (syntax.Element w s ∷ rest) h =
    then-fine (item_typed types from before w s) _ (item-fine types from before w s h.0.0 h.0.1) (λ next. elements-fine types from next rest h.1)

-- ---- literals

made-fine : (types : List OrdinalNames) (elements : ElementsP) → ElementsIn has_no_value elements → IsNotE06 (elements_made types elements)
made-fine types (syntax.Elements at list) h =
    then-fine (elements_typed types [] none_made list) _ (elements-fine types [] none_made list h) (λ made.
    then-fine (few_attributes at made.1) _ (few-fine at made.1) (λ heading. tt))

tuple-fine : (types : List OrdinalNames) (tuple : TupleP) → TupleIn has_no_value tuple → IsNotE06 (tuple_typed types tuple)
tuple-fine types (syntax.Tuple at elements) h = made-fine types elements h

next-fine : (types : List OrdinalNames) (heading : Heading) (tuple : TupleP) → TupleIn has_no_value tuple → IsNotE06 (next_tuple types heading tuple)
next-fine types heading (syntax.Tuple at elements) h = then-fine (elements_made types elements) _ (made-fine types elements h) (λ made. if-fine at E13 (λ e. cc) (same_heading made.1 heading) made.0)

tuples-fine : (types : List OrdinalNames) (heading : Heading) (before : List PlainSets) (list : List TupleP) → Each (TupleIn has_no_value) list → IsNotE06 (tuples_typed types heading before list)
tuples-fine types heading before [] h = tt
tuples-fine types heading before (tuple ∷ rest) h = then-fine (next_tuple types heading tuple) _ (next-fine types heading tuple h.0) (λ sets. tuples-fine types heading (before ++ sets ∷ []) rest h.1)

pub literal-fine : (types : List OrdinalNames) (l : LiteralP) → LiteralIn has_no_value l → IsNotE06 (literal_typed types l)
literal-fine types (syntax.Headed at heading tuples) h =
    then-fine (heading_typed types heading) _ (heading-fine types heading h.0) (λ made.
    then-fine (tuples_typed types made [] tuples) _ (tuples-fine types made [] tuples h.1) (λ list. tt))
literal-fine types (syntax.Tuples at first more) h =
    then-fine (tuple_typed types first) _ (tuple-fine types first h.0) (λ made.
    then-fine (tuples_typed types made.1 (made.0 ∷ []) more) _ (tuples-fine types made.1 (made.0 ∷ []) more h.1) (λ list. tt))
