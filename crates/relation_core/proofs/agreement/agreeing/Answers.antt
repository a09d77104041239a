use Rattle.std.proofs.Common.{◌≡◌, ℕ, Bool, ◌<◌, ◌≤◌, List, length, map, arith, sym, ap, ap₂, ◌∙◌, subst, IsTrue}
use Rattle.std.specs.List.{All, filter, list_any}
use Rattle.std.specs.List.Sorted.{IsStrictlySortedBy}
use Rattle.base_core.specs.Sets.{has}
use Rattle.value_core.specs.Values.{Row, Heading, Relation, fits_heading, row_cmp, rows_of, most_rows}
use Rattle.value_core.specs.Relations.{all_fit}
use Rattle.relation_core.specs.Agreement.{agree, as_wanted, common_positions, part_of, chosen}
use Rattle.relation_core.proofs.AgreementLemmas.{left_within, right_within, chosen_by_search}
use Rattle.relation_core.proofs.FilterLemmas.{list_all-filter, length-filter_at_most, rows_of-filter, rows_ascend}
use Rattle.relation_core.proofs.agreement.agreeing.Goals as goal

abbrev relation_with : Heading → List Row → Relation
relation_with heading rows = record { heading = heading; rows = rows }

pub sorted_parts-requires : goal.sorted_parts-requires
sorted_parts-requires c k d l =
    let ours : c.attributes-ours.result.now ≡ c.args.left.now.heading = c.attributes-ours.ensures.list ∙ c.heading.ensures.heading in
    let theirs : c.attributes-theirs.result.now ≡ c.args.right.now.heading = c.attributes-theirs.ensures.list ∙ c.heading-2.ensures.heading in
    let there : c.as_slice.result.now ≡ common_positions c.args.right.now.heading c.args.left.now.heading c.args.right.now.heading =
    c.as_slice.ensures.value ∙ (c.in_ok-there.ensures ∙ ap₂ (λ (o t : Heading). common_positions t o t) ours theirs) in
    (subst (λ (ps : List ℕ). All (λ (i : ℕ). i < length c.args.right.now.heading) ps) (sym there) (right_within c.args.left.now.heading c.args.right.now.heading)) k d l

pub rows_by_keys-requires : goal.rows_by_keys-requires
rows_by_keys-requires c =
    let ours : c.attributes-ours.result.now ≡ c.args.left.now.heading = c.attributes-ours.ensures.list ∙ c.heading.ensures.heading in
    let theirs : c.attributes-theirs.result.now ≡ c.args.right.now.heading = c.attributes-theirs.ensures.list ∙ c.heading-2.ensures.heading in
    let here : c.as_slice-2.result.now ≡ common_positions c.args.left.now.heading c.args.left.now.heading c.args.right.now.heading =
    c.as_slice-2.ensures.value ∙ (c.in_ok-here.ensures ∙ ap₂ (λ (o t : Heading). common_positions o o t) ours theirs) in
    record {
      within = λ k d l. (subst (λ (ps : List ℕ). All (λ (i : ℕ). i < length c.args.left.now.heading) ps) (sym here) (left_within c.args.left.now.heading c.args.right.now.heading)) k d l;
      sorted = subst (λ (ks : List Row). IsStrictlySortedBy row_cmp ks) (sym c.as_slice-3.ensures.value) c.in_ok-keys.ensures.sorted;
    }

all_chosen : (wanted : Bool) (left right o t : Heading) (r s : List Row) (here there here' there' : List ℕ) (keys keys' rows : List Row) → o ≡ left → t ≡ right
    → here ≡ common_positions o o t → there ≡ common_positions t o t → there' ≡ there → here' ≡ here → keys' ≡ keys
    → keys ≡ rows_of (map (part_of there') s) → rows ≡ filter (λ x. as_wanted wanted (has row_cmp keys' (part_of here' x))) r → rows ≡ chosen wanted left right r s
all_chosen wanted left right o t r s here there here' there' keys keys' rows ours theirs e f e' f' g h k =
    let ps : there' ≡ common_positions right left right = e' ∙ (f ∙ ap₂ (λ (u v : Heading). common_positions v u v) ours theirs) in
    let qs : here' ≡ common_positions left left right = f' ∙ (e ∙ ap₂ (λ (u v : Heading). common_positions u u v) ours theirs) in
    k ∙ chosen_by_search wanted left right r s keys' here' qs (g ∙ (h ∙ ap (λ (z : List ℕ). rows_of (map (part_of z) s)) ps))

few_chosen : (wanted : Bool) (left right : Heading) (r s : List Row) → length r ≤ most_rows → length (chosen wanted left right r s) ≤ most_rows
few_chosen wanted left right r s few =
    let less = length-filter_at_most (λ x. as_wanted wanted (list_any (agree left right x) s)) r in
    omega (arith, less)

pub of_few-requires-clause-fitting : goal.of_few-requires-clause-fitting
of_few-requires-clause-fitting c =
    let ours : c.attributes-ours.result.now ≡ c.args.left.now.heading = c.attributes-ours.ensures.list ∙ c.heading.ensures.heading in
    let theirs : c.attributes-theirs.result.now ≡ c.args.right.now.heading = c.attributes-theirs.ensures.list ∙ c.heading-2.ensures.heading in
    let all : c.in_ok-rows.rows.items ≡ chosen c.args.wanted c.args.left.now.heading c.args.right.now.heading c.args.left.now.rows c.args.right.now.rows =
    all_chosen c.args.wanted _ _ _ _ _ _ _ _ _ _ _ _ _ ours theirs c.in_ok-here.ensures c.in_ok-there.ensures c.as_slice.ensures.value c.as_slice-2.ensures.value c.as_slice-3.ensures.value c.in_ok-keys.ensures.parts c.in_ok-rows.ensures.rows in
    let head : c.in_ok-heading.heading ≡ c.args.left.now.heading = c.in_ok-heading.ensures ∙ c.heading-3.ensures.heading in
    subst (λ (h : Heading). IsTrue (all_fit h c.in_ok-rows.rows.items)) (sym head)
    (subst (λ (l : List Row). IsTrue (all_fit c.args.left.now.heading l)) (sym all)
    (list_all-filter (fits_heading c.args.left.now.heading) (λ x. as_wanted c.args.wanted (list_any (agree c.args.left.now.heading c.args.right.now.heading x) c.args.right.now.rows)) c.args.left.now.rows c.in_ok-rows.ensures.relation.fitting))

pub of_few-requires-clause-few : goal.of_few-requires-clause-few
of_few-requires-clause-few c =
    let ours : c.attributes-ours.result.now ≡ c.args.left.now.heading = c.attributes-ours.ensures.list ∙ c.heading.ensures.heading in
    let theirs : c.attributes-theirs.result.now ≡ c.args.right.now.heading = c.attributes-theirs.ensures.list ∙ c.heading-2.ensures.heading in
    let all : c.in_ok-rows.rows.items ≡ chosen c.args.wanted c.args.left.now.heading c.args.right.now.heading c.args.left.now.rows c.args.right.now.rows =
    all_chosen c.args.wanted _ _ _ _ _ _ _ _ _ _ _ _ _ ours theirs c.in_ok-here.ensures c.in_ok-there.ensures c.as_slice.ensures.value c.as_slice-2.ensures.value c.as_slice-3.ensures.value c.in_ok-keys.ensures.parts c.in_ok-rows.ensures.rows in
    subst (λ (l : List Row). length l ≤ most_rows) (sym all) (few_chosen c.args.wanted c.args.left.now.heading c.args.right.now.heading c.args.left.now.rows c.args.right.now.rows c.in_ok-rows.ensures.relation.few)

pub returns : goal.returns
returns c =
    let ours : c.attributes-ours.result.now ≡ c.args.left.now.heading = c.attributes-ours.ensures.list ∙ c.heading.ensures.heading in
    let theirs : c.attributes-theirs.result.now ≡ c.args.right.now.heading = c.attributes-theirs.ensures.list ∙ c.heading-2.ensures.heading in
    let all : c.in_ok-rows.rows.items ≡ chosen c.args.wanted c.args.left.now.heading c.args.right.now.heading c.args.left.now.rows c.args.right.now.rows =
    all_chosen c.args.wanted _ _ _ _ _ _ _ _ _ _ _ _ _ ours theirs c.in_ok-here.ensures c.in_ok-there.ensures c.as_slice.ensures.value c.as_slice-2.ensures.value c.as_slice-3.ensures.value c.in_ok-keys.ensures.parts c.in_ok-rows.ensures.rows in
    let head : c.in_ok-heading.heading ≡ c.args.left.now.heading = c.in_ok-heading.ensures ∙ c.heading-3.ensures.heading in
    let set : rows_of c.in_ok-rows.rows.items ≡ chosen c.args.wanted c.args.left.now.heading c.args.right.now.heading c.args.left.now.rows c.args.right.now.rows =
    ap (λ (l : List Row). rows_of l) all
    ∙ rows_of-filter (λ x. as_wanted c.args.wanted (list_any (agree c.args.left.now.heading c.args.right.now.heading x) c.args.right.now.rows)) c.args.left.now.rows (rows_ascend c.args.left.now c.in_ok-rows.ensures.relation) in
    record {
      few = few_chosen c.args.wanted c.args.left.now.heading c.args.right.now.heading c.args.left.now.rows c.args.right.now.rows c.in_ok-rows.ensures.relation.few;
      is = c.in_ok-relation.ensures ∙ ap₂ relation_with head set;
    }
