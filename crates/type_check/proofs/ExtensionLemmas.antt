-- Typed extensions are typed for evaluation.
use Rattle.std.specs.Prelude.{◌≡◌, ◌≤◌, ℕ, true, not, List, [], ◌∷◌, ◌++◌, filter, length, IfOk, IsTrue, refl}
use Rattle.std.proofs.Common.{sym, ◌∙◌, ap, subst}
use Rattle.std.specs.List.{list_any, All}
use Rattle.std.specs.List.Sorted.{IsPermutation}
use Rattle.std.specs.Str.{bytes_eq}
use Rattle.std.proofs.lemmas.Bool.{true≢false, not-true}
use Rattle.std.proofs.lemmas.List.{append-nil}
use Rattle.std.proofs.lemmas.List.Sorted.{IsPermutation-refl, IsPermutation-sym, IsPermutation-trans, IsPermutation-cons, IsPermutation-append_left}
use Rattle.base_core.specs.Sets.{in_order}
use Rattle.base_core.proofs.SetLemmas.{In, Ascends}
use Rattle.base_core.proofs.MemberLemmas.{In-map, In-filter, list_any-In}
use Rattle.base_core.proofs.SetOperatorLemmas.{same_tests, In-permutation}
use Rattle.point_core.specs.declared.fault.Place.{Place}
use Rattle.utd_syntax.specs.Plain.{SetItemP, SetItem, SetsP}
use Rattle.value_core.specs.declared.kind.Kind.{Kind}
use Rattle.value_core.specs.declared.list.OrdinalNames.{OrdinalNames}
use Rattle.value_core.specs.Headings.{IsHeadingOf}
use Rattle.value_core.specs.Limits.{most_attributes}
use Rattle.value_core.specs.Values.{Name, Heading, attribute_cmp}
use Rattle.value_core.proofs.HeadingLemmas.{attribute_total}
use Rattle.relation_core.specs.Agreement.{names_of}
use Rattle.relation_core.proofs.ApartLemmas.{Apart, from_in_order, Apart-append, Apart-filter, apart_ascending, ascends_in_order}
use Rattle.relation_core.proofs.AttributeLemmas.{same_name, name_is}
use Rattle.relation_typing.specs.Attributes.{few_attributes}
use Rattle.relation_typing.specs.Items.{Made, none_made, item_typed}
use Rattle.scalar_typing.proofs.SoundLemmas.{then-sound}
use Rattle.tree_core.specs.Trees.{PlainSets, Tree, heading_of}
use Rattle.meaning_core.specs.Typing.{IsExtension, not_named, Headings, IsTypedTree}
use Rattle.meaning_core.specs.WellMade.{sizes_of, IsOrdinalType}
use Rattle.node_typing.specs.Headings.{made_beside}
use Rattle.node_typing.specs.Nodes.{extension_rule}
use Rattle.node_typing.specs.Rows.{item_list, items_typed, extension_made}
use Rattle.type_check.proofs.PutLemmas.{heading-of}
use Rattle.since_during.proofs.HistoryTypes.{put-permutes, is-heading}
use Rattle.type_check.proofs.ItemLemmas.{few-is_few, IsMade, made-none, item-made}
use Rattle.meaning_core.proofs.MadeLemmas.{own_name as own}

-- ---- attributes of different names, in order

pub order-permutes : (list : Heading) → Apart attribute_cmp list → IsPermutation list (in_order attribute_cmp list)
order-permutes [] apart = IsPermutation-refl []
order-permutes (a ∷ rest) apart =
    IsPermutation-trans (a ∷ rest) (a ∷ in_order attribute_cmp rest) (in_order attribute_cmp (a ∷ rest))
    (IsPermutation-cons a rest (in_order attribute_cmp rest) (order-permutes rest apart.1))
    (put-permutes attribute_cmp a (in_order attribute_cmp rest) (λ b i. apart.0 b (from_in_order attribute_cmp b rest i)))

pub order-heading : (list : Heading) → Apart attribute_cmp list → length (in_order attribute_cmp list) ≤ most_attributes → IsHeadingOf list (in_order attribute_cmp list)
order-heading list apart few =
    heading-of list (in_order attribute_cmp list) (order-permutes list apart) (is-heading (in_order attribute_cmp list) (ascends_in_order attribute_cmp attribute_total list) few)

-- ---- made attributes beside the old ones of other names

pub beside-apart : (made from : Heading) → Ascends attribute_cmp made → Ascends attribute_cmp from → Apart attribute_cmp (made ++ not_named (names_of made) from)
beside-apart made from up up' =
    Apart-append attribute_cmp made (not_named (names_of made) from) (apart_ascending attribute_cmp made up)
    (Apart-filter attribute_cmp (λ (b : Name × Kind). not (list_any (bytes_eq b.0) (names_of made))) from (apart_ascending attribute_cmp from up')) (λ a b i j e.
    let kept = ((In-filter (λ (c : Name × Kind). not (list_any (bytes_eq c.0) (names_of made))) b from).0 j).1 in
    let one : a.0 ≡ b.0 = name_is a.0 b.0 (same_name a b e) in
    let named : IsTrue (list_any (bytes_eq b.0) (names_of made)) =
    (list_any-In (bytes_eq b.0) (names_of made)).1 (a.0, (In-map (λ (c : Name × Kind). c.0) a.0 made).1 (a, i, refl), subst (λ (n : Name). bytes_eq n a.0 ≡ true) one (own a.0)) in
    true≢false (sym named ∙ not-true (list_any (bytes_eq b.0) (names_of made)) kept))

-- the same old ones stay beside attributes in another order
pub same-beside : (made attributes from : Heading) → IsPermutation made attributes → not_named (names_of made) from ≡ not_named (names_of attributes) from
same-beside made attributes from moved =
    let there : (name : Name) → list_any (bytes_eq name) (names_of made) ≡ list_any (bytes_eq name) (names_of attributes) =
    λ name. same_tests (list_any (bytes_eq name) (names_of made)) (list_any (bytes_eq name) (names_of attributes)) (
      over made attributes name (λ a i. In-permutation made attributes a moved i),
      over attributes made name (λ a i. In-permutation attributes made a (IsPermutation-sym made attributes moved) i),
    ) in
    λ i. filter (λ (a : Name × Kind). not (there a.0 i)) from
  where
    over : (xs ys : Heading) (name : Name) → ((a : Name × Kind) → In a xs → In a ys) → IsTrue (list_any (bytes_eq name) (names_of xs)) → IsTrue (list_any (bytes_eq name) (names_of ys))
    over xs ys name within h =
        let w = (list_any-In (bytes_eq name) (names_of xs)).0 h in
        let a = (In-map (λ (c : Name × Kind). c.0) w.0 xs).0 w.1 in
        (list_any-In (bytes_eq name) (names_of ys)).1 (w.0, (In-map (λ (c : Name × Kind). c.0) w.0 ys).1 (a.0, within a.0 a.1, a.2), w.2)

-- ---- extensions

pub made-permutes : (sizes : List ℕ) (from : Heading) (sets : PlainSets) (attributes : Heading) (h : IsMade sizes from sets attributes) → IsPermutation h.made attributes
made-permutes sizes from sets attributes h = subst (λ (l : Heading). IsPermutation l attributes) (append-nil h.made) h.listed.same

pub extension-of : (sizes : List ℕ) (from to : Heading) (sets : PlainSets) (attributes : Heading) → Ascends attribute_cmp from → IsMade sizes from sets attributes
    → to ≡ made_beside attributes from → length (made_beside attributes from) ≤ most_attributes → IsExtension sizes from to sets
extension-of sizes from to sets attributes up h is few =
    let headed : IsHeadingOf (attributes ++ not_named (names_of attributes) from) (made_beside attributes from) =
    order-heading (attributes ++ not_named (names_of attributes) from) (beside-apart attributes from h.listed.ascends up) few in
    let moved = made-permutes sizes from sets attributes h in
    let same : h.made ++ not_named (names_of h.made) from ≡ h.made ++ not_named (names_of attributes) from = ap (λ (r : Heading). h.made ++ r) (same-beside h.made attributes from moved) in
    let all : IsPermutation (h.made ++ not_named (names_of h.made) from) (made_beside attributes from) =
    subst (λ (l : Heading). IsPermutation l (made_beside attributes from)) (sym same)
    (IsPermutation-trans (h.made ++ not_named (names_of attributes) from) (attributes ++ not_named (names_of attributes) from) (made_beside attributes from)
    (IsPermutation-append_left (not_named (names_of attributes) from) h.made attributes moved) headed.same) in
    record {
      made = h.made;
      makes = h.makes;
      headed = subst (λ (z : Heading). IsHeadingOf (h.made ++ not_named (names_of h.made) from) z) (sym is)
          (heading-of (h.made ++ not_named (names_of h.made) from) (made_beside attributes from) all headed.ordered);
    }

module _ (types : List OrdinalNames) (ordinals : All IsOrdinalType types) where
  pub items-made : (from : Heading) (before : Made) (list : List SetItemP) → IsMade (sizes_of types) from before.0 before.1
      → IfOk (items_typed types from before list) (λ (m : Made). IsMade (sizes_of types) from m.0 m.1)
  items-made from before [] h = h
  items-made from before (SetItem w s ∷ rest) h =
      then-sound (λ (m : Made). IsMade (sizes_of types) from m.0 m.1) (λ (m : Made). IsMade (sizes_of types) from m.0 m.1) (item_typed types from before w s) _
      (item-made types ordinals from before w s h) (λ next is. items-made from next rest is)

  pub extension-made : (place : Place) (from : Heading) (sets : SetsP) → Ascends attribute_cmp from
      → IfOk (extension_made types place from sets) (λ (m : Made). IsExtension (sizes_of types) from m.1 m.0)
  extension-made place from sets up =
      then-sound (λ (m : Made). IsMade (sizes_of types) from m.0 m.1) (λ (m : Made). IsExtension (sizes_of types) from m.1 m.0) (items_typed types from none_made (item_list sets)) _
      (items-made from none_made (item_list sets) (made-none (sizes_of types) from)) (λ made is.
      then-sound (λ (to : Heading). (to ≡ made_beside made.1 from) × (length (made_beside made.1 from) ≤ most_attributes)) (λ (m : Made). IsExtension (sizes_of types) from m.1 m.0)
      (few_attributes place (made_beside made.1 from)) _ (few-is_few place (made_beside made.1 from)) (λ to few.
      extension-of (sizes_of types) from to made.0 made.1 up is few.0 few.1))

  pub extension-sound : (headings : Headings) (place : Place) (sets : SetsP) (t : Tree) → Ascends attribute_cmp (heading_of t) → IsTypedTree (sizes_of types) headings t
      → IfOk (extension_rule types place sets t) (IsTypedTree (sizes_of types) headings)
  extension-sound headings place sets t up typed =
      then-sound (λ (m : Made). IsExtension (sizes_of types) (heading_of t) m.1 m.0) (IsTypedTree (sizes_of types) headings) (extension_made types place (heading_of t) sets) _
      (extension-made place (heading_of t) sets up) (λ made is. (typed, is))
