-- Joined unpacked rows, packed, are the joined boxes: a joined row's box is that of its two parts.
use Rattle.std.proofs.Common.{◌≡◌, ◌↔◌, ◌⊎◌, inl, inr, ℕ, suc, ◌+◌, ◌<◌, true, false, ◌||◌, List, [], ◌∷◌, ◌++◌, map, length, get_or, refl, sym, ap, ap₂, ◌∙◌, subst, arith}
use Rattle.std.specs.Bool.{IsTrue}
use Rattle.std.specs.List.{filter}
use Rattle.std.specs.Str.{bytes_eq}
use Rattle.std.proofs.lemmas.List.{get_or-map, length-map, get_or_append_left}
use Rattle.std.proofs.lemmas.List.Folds.{list_any-append}
use Rattle.base_core.proofs.SetLemmas.{In, Ascends, In-in_order, Ascends-in_order}
use Rattle.base_core.proofs.MemberLemmas.{In-append, In-map, In-flat_map, In-filter}
use Rattle.base_core.proofs.SetOperatorLemmas.{same_tests}
use Rattle.base_core.proofs.ListLemmas.{In-get_or, map-In}
use Rattle.point_core.specs.Points.{line_of}
use Rattle.value_core.specs.Attributes.{value_at, span_of, among}
use Rattle.value_core.specs.Headings.{has_name}
use Rattle.value_core.specs.Order.{row_total, row_separates}
use Rattle.value_core.specs.RowPacking.{packed, unpacked}
use Rattle.value_core.specs.Values.{Name, Heading, Row, truth, interval, fits_heading, attribute_cmp, row_cmp}
use Rattle.value_core.specs.declared.kind.Kind.{Kind}
use Rattle.relation_core.specs.Agreement.{names_of, position_of, common_positions, part_of, agree}
use Rattle.relation_core.specs.Joins.{joined_heading, HaveEqualKinds, joined_row, joined_pairs, joined}
use Rattle.relation_core.specs.Parts.{no_attribute, kind_at, attributes_at, positions_in}
use Rattle.relation_core.proofs.AttributeLemmas.{ties_by_name, both_tell, In-joined, joined_ascends, to_name, of_name}
use Rattle.relation_core.proofs.HeadingLemmas.{part_fits}
use Rattle.relation_core.proofs.JoinLemmas.{value_of, value_of_part, fits_both}
use Rattle.relation_core.proofs.AgreementLemmas.{position_within}
use Rattle.cell_packing.specs.Boxed.{Boxed, packed_boxes, unpacked_boxes}
use Rattle.cell_packing.specs.Covering.{Among}
use Rattle.cell_core.proofs.PackedGridPoints.{AllHave}
use Rattle.u_set.specs.Boxes.{AreIntervals, IsShaped, type_of, unless, others_from, others, spans_at, boxed}
use Rattle.u_set.proofs.BoxLemmas.{value_at-get}
use Rattle.u_set.proofs.BridgeLemmas.{AreRowsOf, boxes_have, unpacked_image, same_places, closed_by_boxes}
use Rattle.u_row.specs.Kept.{inner}
use Rattle.u_row.proofs.BeneathLemmas.{among_in, in_among}
use Rattle.u_row.proofs.LabelLemmas.{label_of_kept, inner_within}
use Rattle.u_join.specs.Places.{positions_of_both}
use Rattle.u_join.specs.Pairs.{meet, joined_label, joined_box, joined_boxes}
use Rattle.u_join.proofs.AgreeingLemmas.{sides_by_names, agree_meet}
use Rattle.u_join.proofs.NameLemmas.{name_back, position_at, position_prefix, position_behind, listed_name}
use Rattle.u_join.proofs.PairPlaces.{joined_have}

-- ---- positions of two lists, one behind the other

others_same : {X : Type 0} (n k : ℕ) (a b : List ℕ) (xs : List X) → ((m : ℕ) → m < length xs → among a (n + m) ≡ among b (k + m)) → others_from n a xs ≡ others_from k b xs
others_same n k a b [] h = refl
others_same n k a b (x ∷ xs) h =
    let z : n ≡ n + 0 = omega arith in
    let y : k + 0 ≡ k = omega arith in
    let here : among a n ≡ among b k = ap (among a) z ∙ h 0 (omega arith) ∙ ap (among b) y in
    let more : others_from (suc n) a xs ≡ others_from (suc k) b xs =
    others_same (suc n) (suc k) a b xs (λ m l.
    let s : suc n + m ≡ n + suc m = omega arith in
    let t : k + suc m ≡ suc k + m = omega arith in
    ap (among a) s ∙ h (suc m) (omega arith) ∙ ap (among b) t) in
    λ t. unless (here t) x (more t)

others_append : {X : Type 0} (n : ℕ) (commalist : List ℕ) (xs ys : List X) → others_from n commalist (xs ++ ys) ≡ others_from n commalist xs ++ others_from (n + length xs) commalist ys
others_append n commalist [] ys =
    let z : n ≡ n + 0 = omega arith in
    ap (λ k. others_from k commalist ys) z
others_append n commalist (x ∷ xs) ys =
    let s : suc n + length xs ≡ n + suc (length xs) = omega arith in
    let more : others_from (suc n) commalist (xs ++ ys) ≡ others_from (suc n) commalist xs ++ others_from (n + suc (length xs)) commalist ys =
    others_append (suc n) commalist xs ys ∙ ap (λ k. others_from (suc n) commalist xs ++ others_from k commalist ys) s in
    elim (among commalist n) as (λ b. unless b x (others_from (suc n) commalist (xs ++ ys)) ≡ unless b x (others_from (suc n) commalist xs) ++ others_from (n + suc (length xs)) commalist ys) [
      | true ↦ more
      | false ↦ ap (λ zs. x ∷ zs) more
    ]

module _ (n : ℕ) (here there : List ℕ) (below : (i : ℕ) → In i here → i < n) where
  in_lists : (i : ℕ) → IsTrue (among (positions_of_both n here there) i) ↔ ((IsTrue (among here i)) ⊎ ((j : ℕ) × In j there × (i ≡ n + j)))
  in_lists i = (
    λ t. elim ((In-append i here (map (λ j. n + j) there)).0 (among_in (positions_of_both n here there) i t)) [
      | inl m ↦ inl (in_among here i m)
      | inr m ↦ inr ((In-map (λ j. n + j) i there).0 m)
    ],
    λ h. in_among (positions_of_both n here there) i ((In-append i here (map (λ j. n + j) there)).1 (elim h [ inl t ↦ inl (among_in here i t) | inr w ↦ inr ((In-map (λ j. n + j) i there).1 w) ])),
  )

  pub listed_first : (i : ℕ) → i < n → among (positions_of_both n here there) i ≡ among here i
  listed_first i l = same_tests (among (positions_of_both n here there) i) (among here i) (
    λ t. elim ((in_lists i).0 t) [
      | inl h ↦ h
      | inr w ↦ let e = w.2 in absurd (omega (arith, e, l))
    ],
    λ t. (in_lists i).1 (inl t),
  )

  pub listed_second : (j : ℕ) → among (positions_of_both n here there) (n + j) ≡ among there j
  listed_second j = same_tests (among (positions_of_both n here there) (n + j)) (among there j) (
    λ t. elim ((in_lists (n + j)).0 t) [
      | inl h ↦ let b = below (n + j) (among_in here (n + j) h) in absurd (omega (arith, b))
      | inr w ↦
          let e = w.2 in
          let same : w.0 ≡ j = omega (arith, e) in
          in_among there j (subst (λ k. In k there) same w.1)
    ],
    λ t. (in_lists (n + j)).1 (inr (j, among_in there j t, refl)),
  )

  -- what is not listed of two lists is that of the one, followed by that of the other
  pub others_both : {X : Type 0} (xs ys : List X) → length xs ≡ n → others (positions_of_both n here there) (xs ++ ys) ≡ others here xs ++ others there ys
  others_both xs ys e =
      let prefix : others_from 0 (positions_of_both n here there) xs ≡ others_from 0 here xs =
      others_same 0 0 (positions_of_both n here there) here xs (λ m l.
      let z : 0 + m ≡ m = omega arith in
      ap (among (positions_of_both n here there)) z ∙ listed_first m (omega (arith, l, e)) ∙ ap (among here) (sym z)) in
      let back : others_from (0 + length xs) (positions_of_both n here there) ys ≡ others_from 0 there ys =
      others_same (0 + length xs) 0 (positions_of_both n here there) there ys (λ m l.
      let z : 0 + length xs + m ≡ n + m = omega (arith, e) in
      let y : m ≡ 0 + m = omega arith in
      ap (among (positions_of_both n here there)) z ∙ listed_second m ∙ ap (among there) y) in
      others_append 0 (positions_of_both n here there) xs ys ∙ ap₂ (λ us vs. us ++ vs) prefix back

-- ---- headings

named_append : (left right : Heading) (n : Name) → has_name (left ++ right) n ≡ (has_name left n || has_name right n)
named_append left right n = list_any-append (λ a. bytes_eq a.0 n) left right

module _ (left right : Heading) (first : Ascends attribute_cmp left) (second : Ascends attribute_cmp right) (kinds : HaveEqualKinds left right)
    (names : List Name) (in_left : (n : Name) → In n names → IsTrue (has_name left n)) (in_right : (n : Name) → In n names → IsTrue (has_name right n)) where
  abbrev whole : Heading
  whole = joined_heading left right

  abbrev list : Heading
  list = left ++ right

  abbrev here : List ℕ
  here = map (position_of left) names

  abbrev there : List ℕ
  there = map (position_of right) names

  abbrev commalist : List ℕ
  commalist = map (position_of whole) names

  abbrev both : List ℕ
  both = positions_of_both (length left) here there

  abbrev places : List ℕ
  places = positions_in list whole

  below : (i : ℕ) → In i here → i < length left
  below i m =
      let w = (In-map (position_of left) i names).0 m in
      subst (λ k. k < length left) (sym w.2) (position_within left w.0 (in_left w.0 w.1))

  in_whole : (n : Name) → IsTrue (has_name whole n) ↔ IsTrue (has_name list n)
  in_whole n = (
    λ e.
        let w = (In-map (λ a. a.0) n whole).0 (to_name whole n e) in
        of_name list n ((In-map (λ a. a.0) n list).1 (w.0, (In-joined left right first second kinds w.0).0 w.1, w.2)),
    λ e.
        let w = (In-map (λ a. a.0) n list).0 (to_name list n e) in
        of_name whole n ((In-map (λ a. a.0) n whole).1 (w.0, (In-joined left right first second kinds w.0).1 w.1, w.2)),
  )

  left_in_list : (n : Name) → IsTrue (has_name left n) → IsTrue (has_name list n)
  left_in_list n e = named_append left right n ∙ ap (λ b. b || has_name right n) e

  named : (n : Name) → In n names → IsTrue (has_name whole n)
  named n i = (in_whole n).1 (left_in_list n (in_left n i))

  -- ---- a name is listed of the joined heading where it is listed of the two, one behind the other

  right_name : (n : Name) → IsTrue (has_name list n) → has_name left n ≡ false → IsTrue (has_name right n)
  right_name n e f = ap (λ b. b || has_name right n) (sym f) ∙ sym (named_append left right n) ∙ e

  listed_of_list : (n : Name) → IsTrue (has_name list n) → IsTrue (among both (position_of list n)) ↔ In n names
  listed_of_list n e =
      elim (has_name left n) as (λ b. has_name left n ≡ b → IsTrue (among both (position_of list n)) ↔ In n names) [
        | true ↦ λ f.
            let at : position_of list n ≡ position_of left n = position_prefix left right n f in
            let same : among both (position_of list n) ≡ among here (position_of left n) = ap (among both) at ∙ listed_first (length left) here there below (position_of left n) (position_within left n f) in
            let w = listed_name left names in_left n f in
            (λ t. w.0 (sym same ∙ t), λ i. same ∙ w.1 i)
        | false ↦ λ f.
            let at : position_of list n ≡ length left + position_of right n = position_behind left right n f in
            let same : among both (position_of list n) ≡ among there (position_of right n) = ap (among both) at ∙ listed_second (length left) here there below (position_of right n) in
            let w = listed_name right names in_right n (right_name n e f) in
            (λ t. w.0 (sym same ∙ t), λ i. same ∙ w.1 i)
      ] refl

  count_names : (h : Heading) → length (names_of h) ≡ length h
  count_names h = length-map h (λ a. a.0)

  listed_places : (m : ℕ) → m < length places → among commalist m ≡ among both (get_or places m 0)
  listed_places m l =
      let few : m < length (names_of whole) = subst (λ k. m < k) (length-map (names_of whole) (position_of list)) l in
      let fewer : m < length whole = subst (λ k. m < k) (count_names whole) few in
      let n : Name = (get_or whole m no_attribute).0 in
      let name : get_or (names_of whole) m [] ≡ (get_or whole m no_attribute).0 = get_or-map (λ a. a.0) whole m no_attribute [] fewer in
      let place : get_or places m 0 ≡ position_of list n = get_or-map (position_of list) (names_of whole) m [] 0 few ∙ ap (position_of list) name in
      let own : position_of whole n ≡ m = position_at whole m (joined_ascends left right first second kinds) fewer in
      let there_is : IsTrue (has_name whole n) = of_name whole n ((In-map (λ a. a.0) n whole).1 (get_or whole m no_attribute, In-get_or whole m no_attribute fewer, refl)) in
      let a = listed_name whole names named n there_is in
      let b = listed_of_list n ((in_whole n).0 there_is) in
      ap (among commalist) (sym own) ∙ same_tests (among commalist (position_of whole n)) (among both (position_of list n)) (λ t. b.1 (a.0 t), λ t. a.1 (b.0 t)) ∙ ap (among both) (sym place)

  -- ---- the attributes and the labels of joined rows

  attribute_there : (h : Heading) (n : Name) → IsTrue (has_name h n) → In (get_or h (position_of h n) no_attribute) h
  attribute_there h n e = In-get_or h (position_of h n) no_attribute (position_within h n e)

  one_attribute : (a b : Name × Kind) → In a list → In b list → a.0 ≡ b.0 → a ≡ b
  one_attribute a b i j e = both_tell left right first second kinds a b i j (ties_by_name a b e)

  attributes_back : (h : Heading) → ((a : Name × Kind) → In a h → In a list) → attributes_at (positions_in list h) list ≡ h
  attributes_back [] within = refl
  attributes_back (a ∷ h) within =
      let named_here : IsTrue (has_name list a.0) = of_name list a.0 ((In-map (λ b. b.0) a.0 list).1 (a, within a (inl refl), refl)) in
      let here : get_or list (position_of list a.0) no_attribute ≡ a =
      one_attribute (get_or list (position_of list a.0) no_attribute) a (attribute_there list a.0 named_here) (within a (inl refl)) (name_back list a.0 named_here) in
      ap₂ (λ b bs. b ∷ bs) here (attributes_back h (λ b i. within b (inr i)))

  whole_is : attributes_at places list ≡ whole
  whole_is = attributes_back whole (λ a i. (In-joined left right first second kinds a).0 i)

  kind_of_name : (n : Name) → In n names → kind_at whole (position_of whole n) ≡ kind_at left (position_of left n)
  kind_of_name n i =
      let a : Name × Kind = get_or whole (position_of whole n) no_attribute in
      let b : Name × Kind = get_or left (position_of left n) no_attribute in
      let p : In a list = (In-joined left right first second kinds a).0 (attribute_there whole n (named n i)) in
      let q : In b list = (In-append b left right).1 (inl (attribute_there left n (in_left n i))) in
      ap (λ (c : Name × Kind). c.1) (one_attribute a b p q (name_back whole n (named n i) ∙ sym (name_back left n (in_left n i))))

  label_of_both : {X : Type 0} (x y : List X) (d : X) → length x ≡ length left
      → others commalist (map (λ k. get_or (x ++ y) k d) places) ≡ map (λ k. get_or (others here x ++ others there y) k d) (inner both places)
  label_of_both x y d long =
      label_of_kept commalist both places (x ++ y) d listed_places
      ∙ ap (λ zs. map (λ k. get_or zs k d) (inner both places)) (others_both (length left) here there below x y long)

  heading_joined : others commalist whole ≡ attributes_at (inner both places) (others here left ++ others there right)
  heading_joined = ap (others commalist) (sym whole_is) ∙ label_of_both left right no_attribute refl

  -- ---- one joined row

  module _ (x y : Row) (shaped : IsShaped left here x) (shaped' : IsShaped right there y) where
    abbrev row : Row
    row = joined_row left right x y

    label_joined : others commalist row ≡ joined_label (inner both places) (others here x) (others there y)
    label_joined = label_of_both x y (truth false) shaped.long

    value_joined : (n : Name) → In n names → value_of whole row n ≡ value_of left x n
    value_joined n i =
        let l : position_of left n < length x = subst (λ k. position_of left n < k) (sym shaped.long) (position_within left n (in_left n i)) in
        value_of_part list whole (x ++ y) n (named n i)
        ∙ ap (λ k. get_or (x ++ y) k (truth false)) (position_prefix left right n (in_left n i))
        ∙ get_or_append_left x y (truth false) (position_of left n) l

    sides_joined : spans_at commalist row ≡ spans_at here x
    sides_joined =
        sides_by_names whole row names
        ∙ map-In (λ n. span_of (value_of whole row n)) (λ n. span_of (value_of left x n)) names (λ n i. ap span_of (value_joined n i))
        ∙ sym (sides_by_names left x names)

    pub boxed_joined : boxed commalist row ≡ joined_box (joined_label (inner both places)) (boxed here x) (boxed there y)
    boxed_joined =
        let a = label_joined in
        let b = sides_joined in
        λ t. (a t, b t)

    count_places : length row ≡ length whole
    count_places = length-map places (λ i. get_or (x ++ y) i (truth false)) ∙ length-map (names_of whole) (position_of list) ∙ count_names whole

    places_in_list : (i : ℕ) → In i places → i < length list
    places_in_list i m =
        let w = (In-map (position_of list) i (names_of whole)).0 m in
        subst (λ k. k < length list) (sym w.2) (position_within list w.0 ((in_whole w.0).0 (of_name whole w.0 w.1)))

    inner_in_label : (i : ℕ) → In i (inner both places) → i < length (others here left ++ others there right)
    inner_in_label i m =
        subst (λ (h : Heading). i < length h) (others_both (length left) here there below left right refl) (inner_within both places list places_in_list i m)

    pub shaped_joined : IsShaped whole commalist row
    shaped_joined = record {
      long = count_places;
      spans = λ i l.
          let w = (In-map (position_of whole) i names).0 (among_in commalist i l) in
          let n : Name = w.0 in
          let inside : IsTrue (among here (position_of left n)) = (listed_name left names in_left n (in_left n w.1)).1 w.1 in
          let value : value_at row i ≡ value_at x (position_of left n) =
          value_at-get row i ∙ ap (λ k. get_or row k (truth false)) w.2 ∙ value_joined n w.1 ∙ sym (value_at-get x (position_of left n)) in
          let kind : kind_at left (position_of left n) ≡ kind_at whole i = sym (kind_of_name n w.1) ∙ ap (kind_at whole) (sym w.2) in
          value ∙ shaped.spans (position_of left n) inside ∙ (λ t. interval (line_of (type_of (kind t))) (span_of (sym value t)));
      label =
          let fits : IsTrue (fits_heading (others here left ++ others there right) (others here x ++ others there y)) =
          fits_both (others here left) (others there right) (others here x) (others there y) shaped.label shaped'.label in
          let part : IsTrue (fits_heading (attributes_at (inner both places) (others here left ++ others there right)) (part_of (inner both places) (others here x ++ others there y))) =
          part_fits (others here left ++ others there right) (others here x ++ others there y) (inner both places) fits inner_in_label in
          let a = heading_joined in
          let b = label_joined in
          (λ t. fits_heading (a t) (b t)) ∙ part;
    }

  -- ---- all joined rows

  module _ (intervals : AreIntervals left here) (intervals' : AreIntervals right there) (whole_intervals : AreIntervals whole commalist)
      (same_kinds : (n : Name) → In n names → kind_at left (position_of left n) ≡ kind_at right (position_of right n))
      (r s : List Row) (up : Ascends row_cmp r) (up' : Ascends row_cmp s)
      (shaped : (x : Row) → In x r → IsShaped left here x) (shaped' : (x : Row) → In x s → IsShaped right there x) where
    abbrev here_key : List ℕ
    here_key = inner here (common_positions left left right)

    abbrev there_key : List ℕ
    there_key = inner there (common_positions right left right)

    abbrev lefts : List (Boxed Row)
    lefts = unpacked_boxes row_cmp (length here) (map (boxed here) r)

    abbrev rights : List (Boxed Row)
    rights = unpacked_boxes row_cmp (length there) (map (boxed there) s)

    abbrev rows : List Row
    rows = joined left right (unpacked here r) (unpacked there s)

    abbrev boxes : List (Boxed Row)
    boxes = joined_boxes here_key there_key (joined_label (inner both places)) lefts rights

    of_pair : (z : Row) → In z rows ↔ ((x : Row) × (y : Row) × In x (unpacked here r) × In y (unpacked there s) × IsTrue (agree left right x y) × (z ≡ joined_row left right x y))
    of_pair z =
        let each : Row → List Row = λ x. map (joined_row left right x) (filter (agree left right x) (unpacked there s)) in
        let set = In-in_order row_cmp row_total row_separates z (joined_pairs left right (unpacked here r) (unpacked there s)) in
        let all = In-flat_map each z (unpacked here r) in (
          λ i.
              let w = all.0 (set.0 i) in
              let v = (In-map (joined_row left right w.0) z (filter (agree left right w.0) (unpacked there s))).0 w.2 in
              let u = (In-filter (agree left right w.0) v.0 (unpacked there s)).0 v.1 in
              (w.0, v.0, w.1, u.0, u.1, v.2),
          λ h. set.1 (all.1 (h.0, h.2, (In-map (joined_row left right h.0) z (filter (agree left right h.0) (unpacked there s))).1 (h.1, (In-filter (agree left right h.0) h.1 (unpacked there s)).1 (h.3, h.4), h.5))),
        )

    of_boxes : (b : Boxed Row) → In b boxes ↔ ((x : Boxed Row) × (y : Boxed Row) × In x lefts × In y rights × IsTrue (meet here_key there_key x y) × (b ≡ joined_box (joined_label (inner both places)) x y))
    of_boxes b =
        let each : Boxed Row → List (Boxed Row) = λ x. map (joined_box (joined_label (inner both places)) x) (filter (meet here_key there_key x) rights) in
        let all = In-flat_map each b lefts in (
          λ i.
              let w = all.0 i in
              let v = (In-map (joined_box (joined_label (inner both places)) w.0) b (filter (meet here_key there_key w.0) rights)).0 w.2 in
              let u = (In-filter (meet here_key there_key w.0) v.0 rights).0 v.1 in
              (w.0, v.0, w.1, u.0, u.1, v.2),
          λ h. all.1 (h.0, h.2, (In-map (joined_box (joined_label (inner both places)) h.0) b (filter (meet here_key there_key h.0) rights)).1 (h.1, (In-filter (meet here_key there_key h.0) h.1 rights).1 (h.3, h.4), h.5)),
        )

    members : (b : Boxed Row) → In b (map (boxed commalist) rows) ↔ In b boxes
    members b =
        let image = unpacked_image left here intervals r up shaped in
        let image' = unpacked_image right there intervals' s up' shaped' in
        let all = In-map (boxed commalist) b rows in
        let made = of_boxes b in (
          λ i.
              let w = all.0 i in
              let h = (of_pair w.0).0 w.1 in
              let sx = image.shaped h.0 h.2 in
              let sy = image'.shaped h.1 h.3 in
              made.1 (
                boxed here h.0,
                boxed there h.1,
                image.to h.0 h.2,
                image'.to h.1 h.3,
                (agree_meet left right names in_left in_right same_kinds h.0 h.1 sx sy).0 h.4,
                w.2 ∙ ap (boxed commalist) h.5 ∙ boxed_joined h.0 h.1 sx sy,
              ),
          λ i.
              let h = made.0 i in
              let x = image.from h.0 h.2 in
              let y = image'.from h.1 h.3 in
              let sx = image.shaped x.0 x.1 in
              let sy = image'.shaped y.0 y.1 in
              let same_left = x.2 in
              let same_right = y.2 in
              let goes : IsTrue (meet here_key there_key (boxed here x.0) (boxed there y.0)) = (λ t. meet here_key there_key (sym same_left t) (sym same_right t)) ∙ h.4 in
              let m : In (joined_row left right x.0 y.0) rows =
              (of_pair (joined_row left right x.0 y.0)).1 (x.0, y.0, x.1, y.1, (agree_meet left right names in_left in_right same_kinds x.0 y.0 sx sy).1 goes, refl) in
              all.1 (joined_row left right x.0 y.0, m, h.5 ∙ (λ t. joined_box (joined_label (inner both places)) (same_left t) (same_right t)) ∙ sym (boxed_joined x.0 y.0 sx sy)),
        )

    rows_shaped : (z : Row) → In z rows → IsShaped whole commalist z
    rows_shaped z i =
        let image = unpacked_image left here intervals r up shaped in
        let image' = unpacked_image right there intervals' s up' shaped' in
        let h = (of_pair z).0 i in
        subst (IsShaped whole commalist) (sym h.5) (shaped_joined h.0 h.1 (image.shaped h.0 h.2) (image'.shaped h.1 h.3))

    count_here : length here ≡ length commalist
    count_here = length-map names (position_of left) ∙ sym (length-map names (position_of whole))

    count_there : length there ≡ length here
    count_there = length-map names (position_of right) ∙ sym (length-map names (position_of left))

    -- the joined rows, packed, are the joined boxes
    pub joined_rows : AreRowsOf whole commalist (packed commalist (joined left right (unpacked here r) (unpacked there s)))
        (packed_boxes row_cmp (length commalist) (joined_boxes here_key there_key (joined_label (inner both places)) lefts rights))
    joined_rows =
        let have = subst (λ k. (x : Boxed Row) → Among x (joined_boxes here_key there_key (joined_label (inner both places)) lefts (unpacked_boxes row_cmp k (map (boxed there) s))) → length x.1 ≡ length here) (sym count_there)
        (joined_have here_key there_key (length here) (map (boxed here) r) (map (boxed there) s) (boxes_have left here intervals r)
        (subst (λ k. AllHave k (map (boxed there) s)) count_there (boxes_have right there intervals' s)) (joined_label (inner both places))) in
        closed_by_boxes whole commalist whole_intervals rows (Ascends-in_order row_cmp row_total row_separates (joined_pairs left right (unpacked here r) (unpacked there s))) rows_shaped
        boxes (subst (λ k. AllHave k boxes) count_here have) (same_places (map (boxed commalist) rows) boxes members)
