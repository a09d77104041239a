-- Rows beside a hull that have given first values.
--     pushed_more, front_more      one row more, and those with one more list of values
--     front_spans      rows with given first values have intervals
--     front_fit, front_few, front_beside      the relation that they are
use Rattle.std.proofs.Common.{◌≡◌, ℕ, ◌+◌, ◌<◌, ◌≤◌, Bool, true, List, [], ◌∷◌, ◌++◌, append_assoc, length, get_or, take, refl, sym, ap, ◌∙◌, subst, arith, if◌then◌else◌}
use Rattle.std.specs.Bool.{IsTrue}
use Rattle.std.specs.List.{All, filter, flat_map, list_all}
use Rattle.std.proofs.lemmas.List.Elements.{filter_more, filter-append}
use Rattle.base_core.specs.Sets.{has}
use Rattle.base_core.proofs.ListLemmas.{All-In}
use Rattle.base_core.proofs.MemberLemmas.{In-filter, list_all-In, has-In}
use Rattle.base_core.proofs.SetLemmas.{In, In-in_order, Ascends-in_order}
use Rattle.cell_packing.proofs.PackedBoxes.{among_in}
use Rattle.interval_core.specs.Members.{Span}
use Rattle.value_core.specs.Order.{row_total, row_separates}
use Rattle.value_core.specs.Values.{Row, Heading, Relation, IsRelation, fits_heading, row_cmp, rows_of, most_rows}
use Rattle.relation_core.specs.Agreement.{part_of}
use Rattle.relation_core.specs.Growth.{touched}
use Rattle.relation_core.specs.Parts.{projected}
use Rattle.relation_core.proofs.FilterLemmas.{rows_ascend}
use Rattle.u_row.proofs.BeneathLemmas.{in_all}
use Rattle.u_set.specs.Apart.{span_in, HasInterval}
use Rattle.u_constraints.specs.Beside.{are_beside, AreBeside, LiesWithin}
use Rattle.u_constraints.specs.Prefixes.{begins_with, counts_from}
use Rattle.u_constraints.proofs.GrowthLemmas.{In-projected}
use Rattle.u_constraints.proofs.HullLemmas.{within_hull}
use Rattle.u_constraints.proofs.SearchLemmas.{found, found_few, found_fit, front_touched, prefixes_more}
use Rattle.u_constraints.proofs.TouchedLemmas.{within_length}

-- ---- one more

pub pushed_more : (b : Row → Bool) (base more : List Row) (i : ℕ) (x : Row) (kept : Bool) (old now : List Row) → i < length more → x ≡ get_or more i x → kept ≡ b x → old ≡ base ++ filter b (take i more)
    → now ≡ old ++ (if kept then x ∷ [] else []) → now ≡ base ++ filter b (take (i + 1) more)
pushed_more b base more i x kept old now l at is so_far all =
    all ∙ ap (λ k. old ++ (if k then x ∷ [] else [])) is ∙ ap (λ (rs : List Row). rs ++ (if b x then x ∷ [] else [])) so_far
    ∙ append_assoc base (filter b (take i more)) (if b x then x ∷ [] else [])
    ∙ ap (λ (rs : List Row). base ++ rs) (ap (λ z. filter b (take i more) ++ (if b z then z ∷ [] else [])) at ∙ sym (filter_more b more i x l))

abbrev fronts : List Row → List Row → List Row
fronts many list = flat_map (λ values. filter (begins_with values) many) list

pub front_more : (b : Row → Bool) (many given list : List Row) (i : ℕ) (values : Row) (old more now : List Row) → i < length list → values ≡ get_or list i values → given ≡ many
    → old ≡ filter b (flat_map (λ v. filter (begins_with v) many) (take i list)) → more ≡ filter (begins_with values) given → now ≡ old ++ filter b more
    → now ≡ filter b (flat_map (λ v. filter (begins_with v) many) (take (i + 1) list))
front_more b many given list i values old more now l at same so_far these all =
    let before : List Row = fronts many (take i list) in
    all ∙ ap (λ (rs : List Row). rs ++ filter b more) so_far ∙ sym (filter-append b before more)
    ∙ ap (filter b) (prefixes_more many given list i values before more (before ++ more) l at same refl these refl)

pub front_spans : (at : ℕ) (values : Row) (given more : List Row) → All (HasInterval at) given → more ≡ filter (begins_with values) given → All (HasInterval at) more
front_spans at values given more spans is =
    subst (λ (rs : List Row). All (HasInterval at) rs) (sym is) (All-In (HasInterval at) (filter (begins_with values) given) (λ x m.
    in_all (HasInterval at) given spans x ((In-filter (begins_with values) x given).0 m).0))

-- ---- the relation

module _ (many : Relation) (is : IsRelation many) (positions : List ℕ) (at : ℕ) (hull : Span) (keys rows : List Row)
    (all : rows ≡ filter (λ x. are_beside (span_in at x) hull) (flat_map (λ values. filter (begins_with values) many.rows) keys)) where
  abbrev near : Row → Bool
  near x = are_beside (span_in at x) hull

  abbrev front : List Row
  front = flat_map (λ values. filter (begins_with values) many.rows) keys

  own : (x : Row) → In x rows → In x front
  own x i = ((In-filter near x front).0 (subst (λ (rs : List Row). In x rs) all i)).0

  pub front_fit : (heading : Heading) → heading ≡ many.heading → IsTrue (list_all (fits_heading heading) rows)
  front_fit heading same =
      (list_all-In (fits_heading heading) rows).1 (λ x i. (list_all-In (fits_heading heading) front).0 (found_fit heading many keys front is same refl) x (own x i))

  pub front_few : length (rows_of rows) ≤ most_rows
  front_few =
      let less = within_length row_cmp row_total row_separates (rows_of rows) (rows_of front) (Ascends-in_order row_cmp row_total row_separates rows) (Ascends-in_order row_cmp row_total row_separates front) (λ x i.
      (In-in_order row_cmp row_total row_separates x front).1 (own x ((In-in_order row_cmp row_total row_separates x rows).0 i))) in
      let few = found_few many keys front is refl in
      omega (arith, less, few)

  -- what is found in front is touched, and beside the hull
  module _ (few : List Row) (first : counts_from 0 positions ≡ true) (within : All (λ (i : ℕ). i < length many.heading) positions) (parts : keys ≡ projected positions few) where
    same : rows_of front ≡ touched positions few many.rows
    same = found many.rows keys front (rows_ascend many is) refl ∙ front_touched positions many few keys is first within parts

    in_touched : (x : Row) → In x front → In x (touched positions few many.rows)
    in_touched x i = subst (λ (rs : List Row). In x rs) same ((In-in_order row_cmp row_total row_separates x front).1 i)

    from_touched : (x : Row) → In x (touched positions few many.rows) → In x front
    from_touched x i = (In-in_order row_cmp row_total row_separates x front).0 (subst (λ (rs : List Row). In x rs) (sym same) i)

    abbrev comes : Row → Bool
    comes x = has row_cmp (projected positions few) (part_of positions x)

    pub front_beside : (found given : List Row) → found ≡ rows_of rows → given ≡ few → All (LiesWithin at hull) given → AreBeside positions at few many.rows found
    front_beside found given e came lies =
        let lie : All (LiesWithin at hull) few = subst (λ (rs : List Row). All (LiesWithin at hull) rs) came lies in
        subst (λ (rs : List Row). AreBeside positions at few many.rows rs) (sym e) (record {
          within = λ x m. (among_in x many.rows).1 ((In-filter comes x many.rows).0 (in_touched x (own x ((In-in_order row_cmp row_total row_separates x rows).0 ((among_in x (rows_of rows)).0 m))))).0;
          each = λ x y m n q beside.
              let w = in_all (LiesWithin at hull) few lie y ((among_in y few).0 n) in
              let part : In (part_of positions x) (projected positions few) = (In-projected positions few (part_of positions x)).1 (y, (among_in y few).0 n, q) in
              let known : In x (touched positions few many.rows) =
              (In-filter comes x many.rows).1 ((among_in x many.rows).0 m, (has-In row_cmp row_total row_separates (projected positions few) (part_of positions x)).1 part) in
              let here : In x rows =
              subst (λ (rs : List Row). In x rs) (sym all) ((In-filter near x front).1 (from_touched x known, within_hull (span_in at x) (span_in at y) hull beside w.0 w.1)) in
              (among_in x (rows_of rows)).1 ((In-in_order row_cmp row_total row_separates x rows).1 here);
        })
