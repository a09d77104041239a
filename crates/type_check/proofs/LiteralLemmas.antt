-- Typed literals are typed for evaluation: their headings are of kinds there are, and each tuple makes the heading.
use Rattle.std.specs.Prelude.{◌≡◌, ◌≤◌, Bool, true, false, List, [], ◌∷◌, ◌++◌, length, Ok, Err, IfOk, IsTrue, refl, if◌then◌else◌}
use Rattle.std.proofs.Common.{sym, ap₂, subst}
use Rattle.std.specs.List.{list_all, All}
use Rattle.std.specs.Str.{bytes_eq}
use Rattle.std.proofs.lemmas.Bool.{true≢false, and_parts, and_from}
use Rattle.std.proofs.lemmas.List.Elements.{All-nil, All-cons, All-push}
use Rattle.std.proofs.lemmas.Slice.Eq.{bytes_eq-Decides}
use Rattle.base_core.proofs.SetLemmas.{Ascends}
use Rattle.point_core.specs.declared.fault.Place.{Place}
use Rattle.point_core.specs.declared.fault.Code.TheVariants.{E13}
use Rattle.point_core.specs.Faults.{OrFault}
use Rattle.utd_syntax.specs.Plain as syntax
use Rattle.utd_syntax.specs.Plain.{Word, KindP, AttributeP, HeadingP, ElementsP, TupleP, LiteralP}
use Rattle.value_core.specs.declared.kind.Kind.{Kind}
use Rattle.value_core.specs.declared.list.OrdinalNames.{OrdinalNames}
use Rattle.value_core.specs.Headings.{has_name}
use Rattle.value_core.specs.Limits.{most_attributes}
use Rattle.value_core.specs.Values.{Name, Heading, attribute_cmp, is_heading}
use Rattle.scalar_core.specs.KindOf.{same_kind}
use Rattle.scalar_typing.specs.Names.{point_type}
use Rattle.scalar_typing.specs.Typings.{refused}
use Rattle.scalar_typing.proofs.SoundLemmas.{then-sound}
use Rattle.scalar_core.proofs.KindOfLemmas.{same_kind-same}
use Rattle.relation_typing.specs.Attributes.{with_attribute, new_name, few_attributes}
use Rattle.relation_typing.specs.Headings.{kind_typed, attributes_typed, heading_typed, same_attribute, same_heading}
use Rattle.relation_typing.specs.Items.{Made, none_made, elements_typed}
use Rattle.relation_typing.specs.Literals.{elements_made, tuple_typed, under_heading, next_tuple, tuples_typed, literal_typed}
use Rattle.tree_core.specs.Trees.{PlainSets}
use Rattle.meaning_core.specs.Typing.{is_kind, is_declared, IsTuple, Headings, IsTypedTree}
use Rattle.meaning_core.specs.WellMade.{sizes_of, IsOrdinalType}
use Rattle.since_during.proofs.HistoryTypes.{is-heading}
use Rattle.declaration_typing.proofs.HistoryLaws.{new-attribute}
use Rattle.type_check.proofs.PutLemmas.{insert-permutes, insert-ascends, all-moved}
use Rattle.type_check.proofs.ScalarLemmas.{IsType, point-declared}
use Rattle.type_check.proofs.ItemLemmas.{few-is_few, IsMade, made-none, makes-kinds, made-heading, declared-of, elements-made}

-- ---- headings that are one

pub same_attribute-same : (a b : Name × Kind) → same_attribute a b ≡ true → a ≡ b
same_attribute-same a b h =
    let parts = and_parts (bytes_eq a.0 b.0) (same_kind a.1 b.1) h in
    let name : a.0 ≡ b.0 = (bytes_eq-Decides a.0 b.0).0 parts.0 in
    let kind : a.1 ≡ b.1 = same_kind-same a.1 b.1 parts.1 in
    ap₂ (λ (n : Name) (k : Kind). (n, k)) name kind

pub same_heading-same : (a b : Heading) → same_heading a b ≡ true → a ≡ b
same_heading-same [] [] h = refl
same_heading-same [] (b ∷ bs) h = absurd (true≢false (sym h))
same_heading-same (a ∷ rest) [] h = absurd (true≢false (sym h))
same_heading-same (a ∷ rest) (b ∷ bs) h =
    let parts = and_parts (same_attribute a b) (same_heading rest bs) h in
    ap₂ (λ (x : Name × Kind) (xs : Heading). x ∷ xs) (same_attribute-same a b parts.0) (same_heading-same rest bs parts.1)

-- ---- headings that are written

module _ (types : List OrdinalNames) (ordinals : All IsOrdinalType types) where
  kind-declared : (k : KindP) → IfOk (kind_typed types k) (λ (kind : Kind). IsTrue (is_kind (sizes_of types) kind))
  kind-declared (syntax.BooleanKind at) = refl
  kind-declared (syntax.CharKind at) = refl
  kind-declared (syntax.PointKind p) =
      then-sound (IsType types) (λ (kind : Kind). IsTrue (is_kind (sizes_of types) kind)) (point_type types p) _ (point-declared types p ordinals) (λ t h. h)
  kind-declared (syntax.IntervalKind at p) =
      then-sound (IsType types) (λ (kind : Kind). IsTrue (is_kind (sizes_of types) kind)) (point_type types p) _ (point-declared types p ordinals) (λ t h. h)

  typed-more : (before : Heading) (name : Name) (kind : Kind) → Ascends attribute_cmp before × IsTrue (list_all (λ a. is_kind (sizes_of types) a.1) before)
      → has_name before name ≡ false → IsTrue (is_kind (sizes_of types) kind)
      → Ascends attribute_cmp (with_attribute before name kind) × IsTrue (list_all (λ a. is_kind (sizes_of types) a.1) (with_attribute before name kind))
  typed-more before name kind h new is = (
    insert-ascends before name kind new h.0,
    all-moved (λ a. is_kind (sizes_of types) a.1) ((name, kind) ∷ before) (with_attribute before name kind) (insert-permutes before name kind new)
        (and_from (is_kind (sizes_of types) kind) (list_all (λ a. is_kind (sizes_of types) a.1) before) is h.1),
  )

  attributes-typed : (before : Heading) (list : List AttributeP) → Ascends attribute_cmp before × IsTrue (list_all (λ a. is_kind (sizes_of types) a.1) before)
      → IfOk (attributes_typed types before list) (λ (h : Heading). Ascends attribute_cmp h × IsTrue (list_all (λ a. is_kind (sizes_of types) a.1) h))
  attributes-typed before [] h = h
  attributes-typed before (syntax.Attribute w k ∷ rest) h =
      then-sound (λ (kind : Kind). IsTrue (is_kind (sizes_of types) kind)) _ (kind_typed types k) _ (kind-declared k) (λ kind is.
      then-sound (λ (name : Name). has_name before name ≡ false) _ (new_name before w) _ (new-attribute before w) (λ name new.
      attributes-typed (with_attribute before name kind) rest (typed-more before name kind h new is)))

  few-declared : (at : Place) (all : Heading) → Ascends attribute_cmp all × IsTrue (list_all (λ a. is_kind (sizes_of types) a.1) all)
      → IfOk (few_attributes at all) (λ (h : Heading). IsTrue (is_declared (sizes_of types) h))
  few-declared at all h = weaken (few_attributes at all) (few-is_few at all)
    where
      weaken : (r : OrFault Heading) → IfOk r (λ (to : Heading). (to ≡ all) × (length all ≤ most_attributes)) → IfOk r (λ (to : Heading). IsTrue (is_declared (sizes_of types) to))
      weaken (Ok to) k = subst (λ (z : Heading). IsTrue (is_declared (sizes_of types) z)) (sym k.0)
          (and_from (is_heading all) (list_all (λ a. is_kind (sizes_of types) a.1) all) (is-heading all h.0 k.1) h.1)
      weaken (Err e) k = tt

  pub heading-declared : (h : HeadingP) → IfOk (heading_typed types h) (λ (to : Heading). IsTrue (is_declared (sizes_of types) to))
  heading-declared (syntax.Heading at attributes) =
      then-sound _ (λ (to : Heading). IsTrue (is_declared (sizes_of types) to)) (attributes_typed types [] attributes) _ (attributes-typed [] attributes (tt, refl)) (few-declared at)

  -- ---- tuples

  tuple-of : (sets : PlainSets) (attributes to : Heading) → IsMade (sizes_of types) [] sets attributes → (to ≡ attributes) × (length attributes ≤ most_attributes)
      → IsTuple (sizes_of types) to sets × IsTrue (is_declared (sizes_of types) to)
  tuple-of sets attributes to h few =
      let headed = made-heading (sizes_of types) [] sets attributes h few.1 in
      subst (λ (z : Heading). IsTuple (sizes_of types) z sets × IsTrue (is_declared (sizes_of types) z)) (sym few.0) (
        record { made = h.made; makes = h.makes; headed = headed },
        declared-of (sizes_of types) h.made attributes headed (makes-kinds (sizes_of types) [] sets h.made refl h.makes),
      )

  elements-tuple : (e : ElementsP) → IfOk (elements_made types e) (λ (m : Made). IsTuple (sizes_of types) m.1 m.0 × IsTrue (is_declared (sizes_of types) m.1))
  elements-tuple (syntax.Elements at list) =
      then-sound (λ (m : Made). IsMade (sizes_of types) [] m.0 m.1) _ (elements_typed types [] none_made list) _
      (elements-made types ordinals [] none_made list (made-none (sizes_of types) [])) (λ made is.
      then-sound (λ (to : Heading). (to ≡ made.1) × (length made.1 ≤ most_attributes)) _ (few_attributes at made.1) _ (few-is_few at made.1) (λ to few. tuple-of made.0 made.1 to is few))

  tuple-typed : (t : TupleP) → IfOk (tuple_typed types t) (λ (m : Made). IsTuple (sizes_of types) m.1 m.0 × IsTrue (is_declared (sizes_of types) m.1))
  tuple-typed (syntax.Tuple at elements) = elements-tuple elements

  under-typed : (at : Place) (heading : Heading) (made : Made) → IsTuple (sizes_of types) made.1 made.0 → IfOk (under_heading at heading made) (IsTuple (sizes_of types) heading)
  under-typed at heading made h = by-test (same_heading made.1 heading) refl
    where
      by-test : (b : Bool) → same_heading made.1 heading ≡ b → IfOk (if b then Ok made.0 else refused at E13) (IsTuple (sizes_of types) heading)
      by-test true e = subst (λ (z : Heading). IsTuple (sizes_of types) z made.0) (same_heading-same made.1 heading e) h
      by-test false e = tt

  next-typed : (heading : Heading) (t : TupleP) → IfOk (next_tuple types heading t) (IsTuple (sizes_of types) heading)
  next-typed heading (syntax.Tuple at elements) =
      then-sound (λ (m : Made). IsTuple (sizes_of types) m.1 m.0 × IsTrue (is_declared (sizes_of types) m.1)) (IsTuple (sizes_of types) heading) (elements_made types elements) _
      (elements-tuple elements) (λ made h. under-typed at heading made h.0)

  tuples-typed : (heading : Heading) (before : List PlainSets) (list : List TupleP) → All (IsTuple (sizes_of types) heading) before
      → IfOk (tuples_typed types heading before list) (All (IsTuple (sizes_of types) heading))
  tuples-typed heading before [] h = h
  tuples-typed heading before (t ∷ rest) h =
      then-sound (IsTuple (sizes_of types) heading) (All (IsTuple (sizes_of types) heading)) (next_tuple types heading t) _ (next-typed heading t) (λ sets is.
      tuples-typed heading (before ++ sets ∷ []) rest (All-push (IsTuple (sizes_of types) heading) before sets h is))

  -- ---- literals

  pub literal-sound : (headings : Headings) (l : LiteralP) → IfOk (literal_typed types l) (IsTypedTree (sizes_of types) headings)
  literal-sound headings (syntax.Headed at h tuples) =
      then-sound (λ (heading : Heading). IsTrue (is_declared (sizes_of types) heading)) (IsTypedTree (sizes_of types) headings) (heading_typed types h) _ (heading-declared h) (λ heading declared.
      then-sound (All (IsTuple (sizes_of types) heading)) (IsTypedTree (sizes_of types) headings) (tuples_typed types heading [] tuples) _ (tuples-typed heading [] tuples (All-nil (IsTuple (sizes_of types) heading))) (λ list all.
      (declared, all)))
  literal-sound headings (syntax.Tuples at first more) =
      then-sound (λ (m : Made). IsTuple (sizes_of types) m.1 m.0 × IsTrue (is_declared (sizes_of types) m.1)) (IsTypedTree (sizes_of types) headings) (tuple_typed types first) _ (tuple-typed first) (λ made h.
      then-sound (All (IsTuple (sizes_of types) made.1)) (IsTypedTree (sizes_of types) headings) (tuples_typed types made.1 (made.0 ∷ []) more) _
      (tuples-typed made.1 (made.0 ∷ []) more (All-cons (IsTuple (sizes_of types) made.1) made.0 [] h.0 (All-nil (IsTuple (sizes_of types) made.1)))) (λ list all. (h.1, all)))
