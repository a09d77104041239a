-- Typed summaries are typed for evaluation.
use Rattle.std.specs.Prelude.{◌≡◌, ◌≤◌, ℕ, true, false, List, [], ◌∷◌, ◌++◌, length, IfOk, IsTrue, refl}
use Rattle.std.proofs.Common.{sym, subst}
use Rattle.std.specs.List.{All}
use Rattle.std.proofs.lemmas.Bool.{true≢false}
use Rattle.point_core.specs.declared.any_type.AnyType.TheVariants.{Integer}
use Rattle.point_core.specs.declared.fault.Place.{Place}
use Rattle.utd_syntax.specs.declared.words.AggregateWord.{AggregateWord}
use Rattle.utd_syntax.specs.declared.words.AggregateWord.TheVariants.{Sum, Min, Max}
use Rattle.utd_syntax.specs.Plain as syntax
use Rattle.utd_syntax.specs.Plain.{NamesP, AggregateFormP, CountRows, AggregateOf, AggregateP, Aggregate, AggregatesP}
use Rattle.value_core.specs.declared.kind.Kind.{Kind}
use Rattle.value_core.specs.declared.kind.Kind.TheVariants.{Truth, Char, Point, Span}
use Rattle.value_core.specs.declared.list.OrdinalNames.{OrdinalNames}
use Rattle.value_core.specs.Headings.{has_name, IsHeadingOf}
use Rattle.value_core.specs.Limits.{most_attributes}
use Rattle.value_core.specs.Values.{Name, Heading, is_heading}
use Rattle.scalar_core.specs.Expressions.{Expr}
use Rattle.scalar_core.specs.KindOf.{is_ordered}
use Rattle.scalar_core.specs.Kinds.{IsOrdered}
use Rattle.relation_core.specs.Parts.{attributes_at}
use Rattle.relation_core.proofs.HeadingLemmas.{part_ascends}
use Rattle.relation_typing.specs.Attributes.{with_attribute, new_name, few_attributes}
use Rattle.scalar_typing.specs.Scalars.{typed_scalar}
use Rattle.scalar_typing.proofs.SoundLemmas.{then-sound, any-given}
use Rattle.scalar_core.proofs.KindOfLemmas.{same_kind-same}
use Rattle.tree_core.specs.Trees.{PlainAggregate, Tree, heading_of}
use Rattle.meaning_core.specs.Typing.{IsScalar, HasKind, Sums, ArePositions, IsSummary, Headings, IsTypedTree}
use Rattle.meaning_core.specs.WellMade.{sizes_of, IsOrdinalType}
use Rattle.node_typing.specs.Nodes.{summary_rule}
use Rattle.node_typing.specs.Positions.{check, positions_typed}
use Rattle.node_typing.specs.Summaries.{FormMade, takes, form_over, form_typed, Summed, aggregate_of, aggregate_typed, aggregates_typed, aggregate_list, groups_typed, aggregates_made, form_place}
use Rattle.type_check.proofs.ItemLemmas.{few-is_few, IsListed, listed-none, listed-more, listed-heading}
use Rattle.type_check.proofs.PositionLemmas.{kept-positions}
use Rattle.declaration_typing.proofs.PositionLemmas.{held}
use Rattle.declaration_typing.proofs.HistoryLaws.{new-attribute}
use Rattle.type_check.proofs.ScalarLemmas.{typed-is_scalar}

-- ---- what an aggregate counts

ordered : (kind : Kind) → IsTrue (is_ordered kind) → IsOrdered kind
ordered Truth h = absurd (true≢false (sym h))
ordered Char h = tt
ordered (Point t) h = tt
ordered (Span t) h = absurd (true≢false (sym h))

taken : (sizes : List ℕ) (from : Heading) (word : AggregateWord) (e : Expr) (kind : Kind) → IsTrue (takes word kind) → IsScalar sizes from e kind → HasKind sizes from (form_over word e) kind
taken sizes from Sum e kind h is = (is, same_kind-same kind (Point Integer) h)
taken sizes from Min e kind h is = (is, ordered kind h)
taken sizes from Max e kind h is = (is, ordered kind h)

-- ---- aggregates so far

sums-more : (sizes : List ℕ) (from : Heading) (aggregates : List PlainAggregate) (made : Heading) (g : PlainAggregate) (kind : Kind) → Sums sizes from aggregates made → HasKind sizes from g.form kind
    → Sums sizes from (aggregates ++ g ∷ []) (made ++ (g.name, kind) ∷ [])
sums-more sizes from [] [] g kind h is = (refl, is, tt)
sums-more sizes from [] (a ∷ made) g kind h is = absurd h
sums-more sizes from (f ∷ aggregates) [] g kind h is = absurd h
sums-more sizes from (f ∷ aggregates) (a ∷ made) g kind h is = (h.0, h.1, sums-more sizes from aggregates made g kind h.2 is)

-- the aggregates are of expressions over the heading, and make their attributes beside those of the groups
pub record IsSummed (sizes : List ℕ) (from groups : Heading) (aggregates : List PlainAggregate) (attributes : Heading) : Type 0 where
  pub made : Heading
  pub makes : Sums sizes from aggregates made
  pub listed : IsListed made groups attributes

summed-more : (sizes : List ℕ) (from groups : Heading) (aggregates : List PlainAggregate) (attributes : Heading) (g : PlainAggregate) (kind : Kind) → IsSummed sizes from groups aggregates attributes
    → has_name attributes g.name ≡ false → HasKind sizes from g.form kind → IsSummed sizes from groups (aggregates ++ g ∷ []) (with_attribute attributes g.name kind)
summed-more sizes from groups aggregates attributes g kind h new is = record {
  made = h.made ++ (g.name, kind) ∷ [];
  makes = sums-more sizes from aggregates h.made g kind h.makes is;
  listed = listed-more h.made groups attributes g.name kind h.listed new;
}

-- ---- groups

pub groups-sound : (from : Heading) (names : NamesP) → IfOk (groups_typed from names) (ArePositions from)
groups-sound from (syntax.Names at words) =
    then-sound (λ _. Unit {0}) (ArePositions from) (positions_typed from [] words) _ (any-given (positions_typed from [] words)) (λ named _. kept-positions true named from)

module _ (types : List OrdinalNames) (ordinals : All IsOrdinalType types) (from : Heading) where
  form-sound : (form : AggregateFormP) → IfOk (form_typed types from form) (λ (f : FormMade). HasKind (sizes_of types) from f.0 f.1)
  form-sound (CountRows at) = refl
  form-sound (AggregateOf at word s) =
      then-sound (λ (e : Expr × Kind). IsScalar (sizes_of types) from e.0 e.1) (λ (f : FormMade). HasKind (sizes_of types) from f.0 f.1) (typed_scalar types from s) _
      (typed-is_scalar types ordinals from s) (λ e is.
      then-sound (λ _. IsTrue (takes word e.1)) (λ (f : FormMade). HasKind (sizes_of types) from f.0 f.1) (check at _ (takes word e.1)) _ (held at _ (takes word e.1))
      (λ _ h. taken (sizes_of types) from word e.0 e.1 h is))

  aggregate-sound : (groups : Heading) (before : Summed) (g : AggregateP) → IsSummed (sizes_of types) from groups before.0 before.1
      → IfOk (aggregate_typed types from before g) (λ (m : Summed). IsSummed (sizes_of types) from groups m.0 m.1)
  aggregate-sound groups before (Aggregate w form) h =
      then-sound (λ (name : Name). has_name before.1 name ≡ false) (λ (m : Summed). IsSummed (sizes_of types) from groups m.0 m.1) (new_name before.1 w) _ (new-attribute before.1 w) (λ name new.
      then-sound (λ (f : FormMade). HasKind (sizes_of types) from f.0 f.1) (λ (m : Summed). IsSummed (sizes_of types) from groups m.0 m.1) (form_typed types from form) _ (form-sound form) (λ made is.
      summed-more (sizes_of types) from groups before.0 before.1 (aggregate_of name (form_place form) made.0) made.1 h new is))

  aggregates-sound : (groups : Heading) (before : Summed) (list : List AggregateP) → IsSummed (sizes_of types) from groups before.0 before.1
      → IfOk (aggregates_typed types from before list) (λ (m : Summed). IsSummed (sizes_of types) from groups m.0 m.1)
  aggregates-sound groups before [] h = h
  aggregates-sound groups before (g ∷ rest) h =
      then-sound (λ (m : Summed). IsSummed (sizes_of types) from groups m.0 m.1) (λ (m : Summed). IsSummed (sizes_of types) from groups m.0 m.1) (aggregate_typed types from before g) _
      (aggregate-sound groups before g h) (λ next is. aggregates-sound groups next rest is)

  summary-of : (to : Heading) (by : List ℕ) (aggregates : List PlainAggregate) (attributes : Heading) → ArePositions from by → IsSummed (sizes_of types) from (attributes_at by from) aggregates attributes
      → to ≡ attributes → length attributes ≤ most_attributes → IsSummary (sizes_of types) from to by aggregates
  summary-of to by aggregates attributes at h is few = record {
    positions = at;
    made = h.made;
    makes = h.makes;
    headed = subst (λ (z : Heading). IsHeadingOf (h.made ++ attributes_at by from) z) (sym is) (listed-heading h.made (attributes_at by from) attributes h.listed few);
  }

  pub aggregates-made : (place : Place) (by : List ℕ) (aggregates : AggregatesP) → IsTrue (is_heading from) → ArePositions from by
      → IfOk (aggregates_made types place from by aggregates) (λ (m : Summed). IsSummary (sizes_of types) from m.1 by m.0)
  aggregates-made place by aggregates headed at =
      then-sound (λ (m : Summed). IsSummed (sizes_of types) from (attributes_at by from) m.0 m.1) (λ (m : Summed). IsSummary (sizes_of types) from m.1 by m.0)
      (aggregates_typed types from ([], attributes_at by from) (aggregate_list aggregates)) _
      (aggregates-sound (attributes_at by from) ([], attributes_at by from) (aggregate_list aggregates)
      (record { made = []; makes = tt; listed = listed-none (attributes_at by from) (part_ascends from by headed at.ascending at.within) })) (λ made is.
      then-sound (λ (to : Heading). (to ≡ made.1) × (length made.1 ≤ most_attributes)) (λ (m : Summed). IsSummary (sizes_of types) from m.1 by m.0) (few_attributes place made.1) _ (few-is_few place made.1) (λ to few.
      summary-of to by made.0 made.1 at is few.0 few.1))

pub summary-sound : (types : List OrdinalNames) → All IsOrdinalType types → (headings : Headings) (place : Place) (names : NamesP) (aggregates : AggregatesP) (t : Tree)
    → IsTrue (is_heading (heading_of t)) → IsTypedTree (sizes_of types) headings t → IfOk (summary_rule types place names aggregates t) (IsTypedTree (sizes_of types) headings)
summary-sound types ordinals headings place names aggregates t headed typed =
    then-sound (ArePositions (heading_of t)) (IsTypedTree (sizes_of types) headings) (groups_typed (heading_of t) names) _ (groups-sound (heading_of t) names) (λ by at.
    then-sound (λ (m : Summed). IsSummary (sizes_of types) (heading_of t) m.1 by m.0) (IsTypedTree (sizes_of types) headings) (aggregates_made types place (heading_of t) by aggregates) _
    (aggregates-made types ordinals (heading_of t) place by aggregates headed at) (λ made is. (typed, is)))
