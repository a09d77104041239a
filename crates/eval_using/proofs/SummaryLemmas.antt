-- What the groups of the unpacked rows give, packed, is what the groups at places give.
--     summary_fault      the least fault is the same
--     summary_given      and without one the rows are those of the packed form
use Rattle.std.proofs.Common.{◌≡◌, ◌≢◌, ◌↔◌, ◌⊎◌, inl, inr, ℕ, suc, ◌+◌, ◌<◌, ◌≤◌, ℤ, pos, List, [], ◌∷◌, ◌++◌, map, filter, length, get_or, Ok, Err, Option, Some, None, refl, sym, ap, ◌∙◌, subst, arith}
use Rattle.std.specs.declared.cmp.Ordering.TheVariants.{Less, Equal}
use Rattle.std.specs.Bool.{IsTrue}
use Rattle.std.specs.List.{list_all}
use Rattle.std.proofs.lemmas.Cmp.{tied_itself}
use Rattle.std.proofs.lemmas.Int.{ints}
use Rattle.std.proofs.lemmas.List.{length-map}
use Rattle.base_core.specs.Outcomes.{then_give, least_of_all}
use Rattle.base_core.proofs.MemberLemmas.{In-map, In-filter, list_all-In}
use Rattle.base_core.proofs.OutcomeLemmas.{length-first_of_all}
use Rattle.base_core.proofs.SetLemmas.{In, Ascends, In-in_order, Ascends-in_order, Ascends-from_sorted, in_after}
use Rattle.base_core.proofs.SetOperatorLemmas.{Ascends-filter}
use Rattle.point_core.specs.Faults.{OrFault}
use Rattle.point_core.specs.Orders.{fault_order}
use Rattle.point_core.specs.declared.fault.Fault.{Fault}
use Rattle.interval_core.specs.Members.{Span, at_point}
use Rattle.cell_packing.specs.Boxed.{Boxed, InBoxes}
use Rattle.cell_packing.specs.Packed.{Has}
use Rattle.cell_packing.proofs.PackedBoxes.{among_in}
use Rattle.point_core.specs.LeastFault.{IsLeast}
use Rattle.cell_sweep.specs.Rows.{AreRows}
use Rattle.value_core.specs.Attributes.{among}
use Rattle.value_core.specs.Order.{row_total, row_separates}
use Rattle.value_core.specs.RowPacking.{packed, unpacked}
use Rattle.value_core.specs.Values.{Value, Row, Heading, row_cmp, rows_of, most_rows, is_heading, fits_heading}
use Rattle.scalar_core.specs.AtPlaces.{at_place}
use Rattle.scalar_core.proofs.SweepLemmas.{at_place-other}
use Rattle.relation_core.specs.Agreement.{part_of}
use Rattle.relation_core.specs.Groups.{rows_at, has_part, groups, summarized}
use Rattle.relation_core.specs.Parts.{attributes_at, projected}
use Rattle.relation_core.proofs.GroupLemmas.{of_groups, rows_at-group}
use Rattle.tree_core.specs.Trees.{PlainAggregate}
use Rattle.meaning_core.specs.Meanings.{names_at, positions_of}
use Rattle.meaning_core.specs.Rows.{aggregate_value, aggregates_on, first_row, group_at, group_row}
use Rattle.meaning_core.specs.Typing.{IsSummary, names_none}
use Rattle.meaning_core.proofs.GroupFits.{grouped_fits}
use Rattle.u_set.specs.Boxes.{AreIntervals, IsShaped, others, spans_at, boxed}
use Rattle.u_set.proofs.BoxLemmas.{shaped_from_fit}
use Rattle.u_set.proofs.BridgeLemmas.{AreRowsOf, unpacked_ascends, closed_by_form, box_cmp}
use Rattle.u_row.specs.Kept.{inner}
use Rattle.u_row.proofs.BeneathLemmas.{in_all, among_in as listed_in}
use Rattle.u_summarize.specs.Groups.{AreFirsts, labels_in, HasPlace, InGroupRule, HasGroupFault, IsGroupForm}
use Rattle.eval_using.specs.PlaceRows.{unpacked_grid_points, point_has, within_has}
use Rattle.eval_using.proofs.FaultLemmas.{least_over}
use Rattle.scalar_core.proofs.AtPlaceLemmas.{at_place-fits}
use Rattle.cell_sweep.proofs.Turns.{least_iff}
use Rattle.eval_using.proofs.ExtensionLemmas.{all_made}
use Rattle.eval_using.specs.Labels.{group_label}
use Rattle.eval_using.proofs.OrderLemmas.{AreApart, HaveSame, counted, weights_same}
use Rattle.eval_using.proofs.AggregateLemmas.{aggregates_same, aggregates_placed}
use Rattle.eval_using.proofs.HeadingLemmas.{sum_count, at, many, made_or_by, own, listed_own, at_listed, at_other}
use Rattle.eval_using.proofs.RowLemmas.{same_by_part, spans_given, others_given}
use Rattle.eval_using.proofs.PlaceGroups.{group as group_at_place, group_opened, group_spans, group_part, group_same, group_apart, group_of}

-- ---- lists

ascending_apart : (xs : List Row) → Ascends row_cmp xs → AreApart xs
ascending_apart [] up = tt
ascending_apart (x ∷ xs) up = (
  λ m. let l = in_after row_cmp row_total row_separates x x xs up.0 m in let e : Less ≡ Equal = sym l ∙ tied_itself row_total x in cc,
  ascending_apart xs up.1,
)

first_in : (xs : List Row) (x : Row) → In x xs → In (first_row xs) xs
first_in [] x m = absurd m
first_in (y ∷ ys) x m = inl refl

some_there : {X : Type 0} (xs : List X) (x : X) → In x xs → 0 < length xs
some_there [] x m = absurd m
some_there (y ∷ ys) x m = omega arith

few_rows : (b z : ℕ) (xs : List ℕ) → b ≤ z → AreRows b z xs → b + length xs ≤ z
few_rows b z [] l h = omega (arith, l)
few_rows b z (x ∷ xs) l h = let k = h.0 in let m = h.1 in let r = few_rows (suc x) z xs (omega (arith, m)) h.2 in omega (arith, k, r)

same_length : (xs ys : List Row) → AreApart xs → AreApart ys → HaveSame xs ys → length xs ≡ length ys
same_length xs ys d c h =
    let e : pos (length xs) ≡ pos (length ys) = sym (counted xs) ∙ weights_same row_cmp row_total row_separates (λ x. pos 1) xs ys d c h ∙ counted ys in
    omega (arith, ints, e)

-- ---- results

-- both have one fault, or the one has a row and the other its label
abbrev AgreeOn : OrFault Row → OrFault Row → (Row → Row) → (Row → Type 0) → Type 0
AgreeOn r s label V = ((e : Fault) × (r ≡ Err e) × (s ≡ Err e)) ⊎ ((y : Row) × (r ≡ Ok y) × (s ≡ Ok (label y)) × V y)

one_fault : (d e : Fault) (r : OrFault Row) → r ≡ Err d → r ≡ Err e → d ≡ e
one_fault d e r p q = let h : Err d ≡ Err e = sym p ∙ q in cc

one_row : (x y : Row) (r : OrFault Row) → r ≡ Ok x → r ≡ Ok y → x ≡ y
one_row x y r p q = let h : Ok x ≡ Ok y = sym p ∙ q in cc

not_both : (x : Row) (e : Fault) (r : OrFault Row) → r ≡ Ok x → r ≡ Err e → ⊥
not_both x e r p q = let h : Ok x ≡ Err e = sym p ∙ q in cc

module _ (sizes : List ℕ) (from to : Heading) (by : List ℕ) (aggregates : List PlainAggregate) (headed : IsTrue (is_heading from)) (is : IsSummary sizes from to by aggregates)
    (commalist ls : List ℕ) (intervals_to : AreIntervals to commalist) (intervals : AreIntervals from ls) (listed_is : ls ≡ positions_of from (names_at to commalist))
    (same : attributes_at ls from ≡ attributes_at commalist to) (grouped : IsTrue (list_all (among by) ls)) (unnamed : IsTrue (list_all (λ a. names_none ls a.form) aggregates))
    (rows : List Row) (ascends : Ascends row_cmp rows) (fitting : (x : Row) → In x rows → IsTrue (fits_heading from x)) (few : length rows ≤ most_rows) where
  pub shaped : (x : Row) → In x rows → IsShaped from ls x
  shaped x m = shaped_from_fit from ls intervals x (fitting x m)

  pub all_by : (p : ℕ) → In p ls → In p by
  all_by p m = listed_in by p ((list_all-In (among by) ls).0 grouped p m)

  within : (i : ℕ) → In i commalist → i < length to
  within i m = in_all (λ (j : ℕ). j < length to) commalist intervals_to.within i m

  below : (p : ℕ) → In p ls → p < length from
  below p m = in_all (λ (j : ℕ). j < length from) ls intervals.within p m

  abbrev pub places : List ℕ
  places = at sizes from to by aggregates headed is

  abbrev pub all_rows : List Row
  all_rows = unpacked ls rows

  abbrev pub means : List ℕ → OrFault Row
  means = group_label commalist places aggregates rows

  abbrev pub row_boxes : List (Boxed Row)
  row_boxes = map (boxed ls) rows

  abbrev pub parts : List ℕ
  parts = inner ls by

  abbrev of_key : Row → List Row
  of_key k = filter (has_part by k) all_rows

  abbrev given_key : Row → OrFault Row
  given_key k = group_at places aggregates (of_key k)

  many_places : length places ≡ length to
  many_places = length-map to _

  all_ascend : Ascends row_cmp all_rows
  all_ascend = unpacked_ascends from ls intervals rows ascends shaped

  all_fit : (x : Row) → In x all_rows → IsTrue (fits_heading from x)
  all_fit x m =
      let v = (unpacked_grid_points ls intervals.different rows x).0 m in
      subst (λ z. IsTrue (fits_heading from z)) (sym v.4) (at_place-fits from v.0 v.0 ls v.1 (fitting v.0 v.2) (fitting v.0 v.2) (within_has ls v.0 v.1 v.3))

  -- ---- a group at a place

  module _ (place : List ℤ) (key : Row) (a : List ℕ) (f : AreFirsts parts (labels_in row_boxes) (HasPlace row_boxes place) key a) (x : Row)
      (m : In x (group_at_place from ls by intervals rows ascends shaped all_by place key a f)) where
    abbrev here : List Row
    here = group_at_place from ls by intervals rows ascends shaped all_by place key a f

    abbrev k : Row
    k = part_of by x

    members : HaveSame here (of_key k)
    members = group_same from ls by intervals rows ascends shaped all_by place key a f x m

    apart : AreApart (of_key k)
    apart = ascending_apart (of_key k) (Ascends-filter row_cmp (has_part by k) all_rows all_ascend)

    apart_here : AreApart here
    apart_here = group_apart from ls by intervals rows ascends shaped all_by place key a f

    same_aggregates : aggregates_on (of_key k) aggregates ≡ aggregates_on (rows_at rows a) aggregates
    same_aggregates =
        sym (aggregates_same aggregates here (of_key k) apart_here apart members)
        ∙ aggregates_placed ls place aggregates (rows_at rows a) unnamed

    few_there : length (of_key k) ≤ most_rows
    few_there =
        let e : length here ≡ length (of_key k) = same_length here (of_key k) apart_here apart members in
        let long : length here ≡ length a = length-map (rows_at rows a) (at_place ls place) ∙ length-map a (λ i. get_or rows i []) in
        let r = few_rows 0 (length (labels_in row_boxes)) a (omega arith) f.order in
        let count : length (labels_in row_boxes) ≡ length rows = length-map row_boxes (λ (z : Boxed Row). z.0) ∙ length-map rows (boxed ls) in
        omega (arith, e, long, r, count, few)

    fits_there : IsTrue (list_all (fits_heading from) (of_key k))
    fits_there = (list_all-In (fits_heading from) (of_key k)).1 (λ z i. all_fit z ((In-filter (has_part by k) z all_rows).0 i).0)

    -- its first row, and that of the unpacked rows
    own_first : In (first_row (rows_at rows a)) (rows_at rows a)
    own_first = let w = (In-map (at_place ls place) x (rows_at rows a)).0 m in first_in (rows_at rows a) w.0 w.1

    abbrev first : Row
    first = first_row (rows_at rows a)

    abbrev first_placed : Row
    first_placed = at_place ls place first

    first_here : In first_placed here
    first_here = (In-map (at_place ls place) first_placed (rows_at rows a)).1 (first, own_first, refl)

    other_here : In (first_row (of_key k)) here
    other_here = (members (first_row (of_key k))).1 (first_in (of_key k) x ((members x).0 m))

    module _ (made : List Value) (e : aggregates_on (rows_at rows a) aggregates ≡ Ok made) where
      count_made : length made ≡ many sizes from to by aggregates headed is
      count_made =
          length-first_of_all (map (λ g. aggregate_value g.place g.form (rows_at rows a)) aggregates) made e
          ∙ length-map aggregates (λ g. aggregate_value g.place g.form (rows_at rows a)) ∙ sum_count sizes from aggregates is.made is.makes

      abbrev given_row : Row
      given_row = part_of places (made ++ first_row (of_key k))

      gives : given_key k ≡ Ok given_row
      gives = ap (λ r. then_give r (λ vs. Ok (part_of places (vs ++ first_row (of_key k))))) (same_aggregates ∙ e)

      same_row : given_row ≡ part_of places (made ++ first_placed)
      same_row =
          same_by_part made (many sizes from to by aggregates headed is) count_made places by
          (λ j l. elim (made_or_by sizes from to by aggregates headed is j (subst (λ n. j < n) many_places l)) [ inl q ↦ inl q | inr w ↦ inr (w.0, w.1, w.2) ])
          (first_row (of_key k)) first_placed
          (group_part from ls by intervals rows ascends shaped all_by place key a f (first_row (of_key k)) first_placed other_here first_here)

      means_label : means a ≡ Ok (others commalist given_row)
      means_label =
          let label : others commalist (part_of places (made ++ first_placed)) ≡ others commalist (part_of places (made ++ first)) =
          others_given made (many sizes from to by aggregates headed is) count_made places by commalist ls
          (λ j l out. at_other sizes from to by aggregates headed is commalist ls listed_is same within below grouped (λ p t. listed_in by p t) j (subst (λ n. j < n) many_places l) out)
          first_placed first (at_place-other ls place first) in
          ap (λ r. then_give (then_give r (λ vs. Ok (part_of places (vs ++ first_row (rows_at rows a))))) (λ row. Ok (others commalist row))) e
          ∙ ap (λ (z : Row). Ok z) (sym (ap (others commalist) same_row ∙ label))

      given_spans : spans_at commalist given_row ≡ map at_point place
      given_spans =
          ap (spans_at commalist) same_row
          ∙ spans_given made (many sizes from to by aggregates headed is) count_made places by commalist
          (own sizes from to by aggregates headed is commalist ls listed_is same within below grouped (λ p t. listed_in by p t))
          (λ i n. (subst (λ q. i < q) (sym many_places) (within i n), at_listed sizes from to by aggregates headed is commalist ls listed_is same within below grouped (λ p t. listed_in by p t) i n)) first_placed
          ∙ ap (λ ps. spans_at ps first_placed) (sym (listed_own sizes from to by aggregates headed is commalist ls listed_is same within below grouped (λ p t. listed_in by p t)))
          ∙ group_spans from ls by intervals rows ascends shaped all_by place key a f first_placed first_here

      given_shaped : IsShaped to commalist given_row
      given_shaped =
          shaped_from_fit to commalist intervals_to given_row
          (grouped_fits sizes from to by aggregates places (of_key k) given_row headed is refl fits_there (some_there (of_key k) x ((members x).0 m)) few_there gives)

    abbrev IsGivenThere : Row → Type 0
    IsGivenThere y = (spans_at commalist y ≡ map at_point place) × IsShaped to commalist y

    agree : AgreeOn (given_key k) (means a) (others commalist) IsGivenThere
    agree = by_cases (aggregates_on (rows_at rows a) aggregates) refl
      where
        by_cases : (r : OrFault (List Value)) → aggregates_on (rows_at rows a) aggregates ≡ r → AgreeOn (given_key k) (means a) (others commalist) IsGivenThere
        by_cases (Ok made) e = inr (given_row made e, gives made e, means_label made e, (given_spans made e, given_shaped made e))
        by_cases (Err d) e =
            inl (
              d,
              ap (λ r. then_give r (λ vs. Ok (part_of places (vs ++ first_row (of_key k))))) (same_aggregates ∙ e),
              ap (λ r. then_give (then_give r (λ vs. Ok (part_of places (vs ++ first_row (rows_at rows a))))) (λ row. Ok (others commalist row))) e,
            )

  -- ---- all keys

  abbrev all_keys : List Row
  all_keys = projected by all_rows

  in_keys : (k : Row) → In k all_keys ↔ ((x : Row) × In x all_rows × (k ≡ part_of by x))
  in_keys k =
      let o = In-in_order row_cmp row_total row_separates k (map (part_of by) all_rows) in
      let n = In-map (part_of by) k all_rows in
      (λ m. n.0 (o.0 m), λ w. o.1 (n.1 w))

  abbrev IsGroupHere : List ℤ → Row → List ℕ → Type 0
  IsGroupHere place key a = AreFirsts parts (labels_in row_boxes) (HasPlace row_boxes place) key a

  some_row : (place : List ℤ) (a : List ℕ) → a ≢ [] → (x : Row) × In x (map (at_place ls place) (rows_at rows a))
  some_row place [] n = absurd (n refl)
  some_row place (i ∷ is) n = (at_place ls place (get_or rows i []), inl refl)

  not_empty : (place : List ℤ) (a : List ℕ) (x : Row) → In x (map (at_place ls place) (rows_at rows a)) → a ≢ []
  not_empty place a x m = λ e. subst (λ (b : List ℕ). In x (map (at_place ls place) (rows_at rows b))) e m

  key_in : (place : List ℤ) (key : Row) (a : List ℕ) → IsGroupHere place key a → (x : Row) → In x (map (at_place ls place) (rows_at rows a)) → In (part_of by x) all_keys
  key_in place key a f x m = (in_keys (part_of by x)).1 (x, group_opened from ls by intervals rows ascends shaped all_by place key a f x m, refl)

  -- the faults of the keys are those of the groups at places
  pub fault_there : (e : Fault) → HasGroupFault means parts row_boxes e ↔ ((k : Row) × In k all_keys × (given_key k ≡ Err e))
  fault_there e = (
    λ h.
        let place = h.0 in
        let o = h.1 in
        let x = some_row place o.1 o.3 in
        elim (agree place o.0 o.1 o.2 x.0 x.1) [
          | inl w ↦ (part_of by x.0, key_in place o.0 o.1 o.2 x.0 x.1, w.1 ∙ ap (λ (d : Fault). Err d) (one_fault w.0 e (means o.1) w.2 o.4))
          | inr w ↦ absurd (not_both (others commalist w.0) e (means o.1) w.2 o.4)
        ],
    λ w.
        let v = (in_keys w.0).0 w.1 in
        let g = group_of from ls by intervals rows ascends shaped all_by v.0 v.1 in
        let r : given_key (part_of by v.0) ≡ Err e = ap given_key (sym v.2) ∙ w.2 in
        elim (agree g.0 g.1 g.2 g.3 v.0 g.4) [
          | inl q ↦ (g.0, (g.1, g.2, g.3, not_empty g.0 g.2 v.0 g.4, q.2 ∙ ap (λ (d : Fault). Err d) (one_fault q.0 e (given_key (part_of by v.0)) q.1 r)))
          | inr q ↦ absurd (not_both q.0 e (given_key (part_of by v.0)) q.1 r)
        ],
  )

  -- ---- the given rows

  module _ (vs : List Row) (all : least_of_all fault_order (map given_key all_keys) ≡ Ok vs) where
    abbrev given : List Row
    given = rows_of vs

    in_given : (y : Row) → In y given ↔ ((k : Row) × In k all_keys × (given_key k ≡ Ok y))
    in_given y =
        let o = In-in_order row_cmp row_total row_separates y vs in
        let n = all_made given_key all_keys vs all y in
        (λ m. n.0 (o.0 m), λ w. o.1 (n.1 w))

    -- each is that of a group at a place
    from_group : (y : Row) → In y given
        → (place : List ℤ) × (key : Row) × (a : List ℕ) × IsGroupHere place key a × (a ≢ []) × (means a ≡ Ok (others commalist y)) × (spans_at commalist y ≡ map at_point place) × IsShaped to commalist y
    from_group y m =
        let w = (in_given y).0 m in
        let v = (in_keys w.0).0 w.1 in
        let g = group_of from ls by intervals rows ascends shaped all_by v.0 v.1 in
        let r : given_key (part_of by v.0) ≡ Ok y = ap given_key (sym v.2) ∙ w.2 in
        elim (agree g.0 g.1 g.2 g.3 v.0 g.4) [
          | inl q ↦ absurd (not_both y q.0 (given_key (part_of by v.0)) r q.1)
          | inr q ↦
              let e : q.0 ≡ y = one_row q.0 y (given_key (part_of by v.0)) q.1 r in (
                g.0,
                g.1,
                g.2,
                g.3,
                not_empty g.0 g.2 v.0 g.4,
                q.2 ∙ ap (λ z. Ok (others commalist z)) e,
                ap (spans_at commalist) (sym e) ∙ (q.3).0,
                subst (IsShaped to commalist) e (q.3).1,
              )
        ]

    -- and each group at a place gives one
    to_given : (place : List ℤ) (key : Row) (a : List ℕ) → IsGroupHere place key a → a ≢ [] → (l : Row) → means a ≡ Ok l
        → (y : Row) × In y given × (others commalist y ≡ l) × (spans_at commalist y ≡ map at_point place)
    to_given place key a f n l e =
        let x = some_row place a n in
        elim (agree place key a f x.0 x.1) [
          | inl q ↦ absurd (not_both l q.0 (means a) e q.2)
          | inr q ↦ (q.0, (in_given q.0).1 (part_of by x.0, key_in place key a f x.0 x.1, q.1), one_row (others commalist q.0) l (means a) q.2 e, (q.3).0)
        ]

    labels_there : (l : Row) (place : List ℤ) → InBoxes (map (boxed commalist) given) l place ↔ InGroupRule means parts row_boxes l place
    labels_there l place = (
      λ w.
          let b = (In-map (boxed commalist) (l, w.0) given).0 ((among_in (l, w.0) (map (boxed commalist) given)).0 w.1) in
          let label : l ≡ others commalist b.0 = ap (λ (z : Boxed Row). z.0) b.2 in
          let sides : w.0 ≡ spans_at commalist b.0 = ap (λ (z : Boxed Row). z.1) b.2 in
          let g = from_group b.0 b.1 in
          let e : g.0 ≡ place = (point_has g.0 place).0 (subst (λ (is : List Span). Has is place) (sides ∙ g.6) w.2) in
          subst (λ p. InGroupRule means parts row_boxes l p) e (g.1, g.2, g.3, g.4, g.5 ∙ ap (λ (z : Row). Ok z) (sym label)),
      λ h.
          let y = to_given place h.0 h.1 h.2 h.3 l h.4 in
          let labels = y.2 in
          let spans = y.3 in
          let b : boxed commalist y.0 ≡ (l, map at_point place) = λ t. (labels t, spans t) in
          (map at_point place, (among_in (l, map at_point place) (map (boxed commalist) given)).1 ((In-map (boxed commalist) (l, map at_point place) given).1 (y.0, y.1, sym b)), (point_has place place).1 refl),
    )

    given_rows : (form : List (Boxed Row)) → IsGroupForm row_cmp (length commalist) means parts row_boxes form → AreRowsOf to commalist (packed commalist given) form
    given_rows form h =
        closed_by_form to commalist intervals_to given (Ascends-in_order row_cmp row_total row_separates vs) (λ y m. (from_group y m).7) (InGroupRule means parts row_boxes) form
        (record { ascends = Ascends-from_sorted box_cmp form h.sorted; members = h.members }) labels_there

  -- ---- what is meant

  abbrev pub summary : OrFault (List Row)
  summary = summarized by (λ numbers. group_row from to aggregates (rows_at all_rows numbers)) all_rows

  all_given : map (λ numbers. group_row from to aggregates (rows_at all_rows numbers)) (groups by all_rows) ≡ map given_key all_keys
  all_given =
      of_groups (λ numbers. group_row from to aggregates (rows_at all_rows numbers)) by all_rows
      ∙ ap (λ (h : Row → OrFault Row). map h all_keys) (λ t k. group_at places aggregates (rows_at-group by all_rows k t))

  least_keys : (o : Option Fault) → IsLeast (HasGroupFault means parts row_boxes) o → IsLeast (λ e. (k : Row) × In k all_keys × (given_key k ≡ Err e)) o
  least_keys o h = least_iff (HasGroupFault means parts row_boxes) (λ e. (k : Row) × In k all_keys × (given_key k ≡ Err e)) o fault_there h

  pub summary_fault : (e : Fault) → IsLeast (HasGroupFault means parts row_boxes) (Some e) → summary ≡ Err e
  summary_fault e h =
      ap (λ (r : OrFault (List Row)). then_give r (λ vs. Ok (rows_of vs))) (ap (λ (rs : List (OrFault Row)). least_of_all fault_order rs) all_given ∙ (least_over given_key all_keys (Some e) (least_keys (Some e) h)).0 e refl)

  pub summary_given : IsLeast (HasGroupFault means parts row_boxes) None
      → (rows_given : List Row) × (summary ≡ Ok rows_given) × ((form : List (Boxed Row)) → IsGroupForm row_cmp (length commalist) means parts row_boxes form → AreRowsOf to commalist (packed commalist rows_given) form)
  summary_given h =
      let w = (least_over given_key all_keys None (least_keys None h)).1 refl in (
        rows_of w.0,
        ap (λ (r : OrFault (List Row)). then_give r (λ vs. Ok (rows_of vs))) (ap (λ (rs : List (OrFault Row)). least_of_all fault_order rs) all_given ∙ w.1),
        given_rows w.0 w.1,
      )
