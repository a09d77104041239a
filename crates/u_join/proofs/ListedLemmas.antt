-- Positions of the same attributes of two headings, and what matches and joins give by them.
use Rattle.std.proofs.Common.{◌≡◌, ℕ, ◌<◌, List, [], ◌∷◌, ◌++◌, map, length, get_or, refl, sym, ap, ◌∙◌, subst}
use Rattle.std.specs.Bool.{IsTrue}
use Rattle.std.specs.List.{All}
use Rattle.std.specs.Str.{bytes_eq}
use Rattle.std.specs.Cmp.Lexicographic.{nat_list_eq_equiv}
use Rattle.std.proofs.lemmas.List.{length-map}
use Rattle.base_core.proofs.SetLemmas.{In, Ascends}
use Rattle.base_core.proofs.MemberLemmas.{In-map}
use Rattle.base_core.proofs.ListLemmas.{In-get_or, map-In}
use Rattle.value_core.specs.Headings.{has_name}
use Rattle.value_core.specs.RowPacking.{packed, unpacked}
use Rattle.value_core.specs.Values.{Name, Heading, Row, attribute_cmp, row_cmp}
use Rattle.value_core.specs.declared.kind.Kind.{Kind}
use Rattle.relation_core.specs.Agreement.{names_of, position_of, common_positions, matched, unmatched}
use Rattle.relation_core.specs.Joins.{joined_heading, HaveEqualKinds, joined_row, joined}
use Rattle.relation_core.specs.Parts.{no_attribute, kind_at, attributes_at, positions_in}
use Rattle.relation_core.proofs.AttributeLemmas.{one_attribute, joined_ascends, of_name}
use Rattle.relation_core.proofs.AgreementLemmas.{position_within}
use Rattle.cell_packing.specs.Boxed.{Boxed, packed_boxes, unpacked_boxes}
use Rattle.u_set.specs.Boxes.{AreIntervals, IsShaped, type_of, types_at, boxed}
use Rattle.u_set.proofs.BridgeLemmas.{AreRowsOf}
use Rattle.u_row.specs.Kept.{inner}
use Rattle.u_row.proofs.BeneathLemmas.{in_all}
use Rattle.u_row.proofs.LabelLemmas.{map_twice}
use Rattle.u_join.specs.Pairs.{matched_boxes, unmatched_boxes, joined_label, joined_box, joined_boxes}
use Rattle.u_join.specs.Places.{positions_of_both}
use Rattle.u_join.proofs.AgreeingLemmas.{keys_alike}
use Rattle.u_join.proofs.JoinedLemmas.{boxed_joined, shaped_joined, joined_rows}
use Rattle.u_join.proofs.MatchedLemmas.{matched_rows, unmatched_rows}
use Rattle.u_join.proofs.NameLemmas.{name_back, position_at}

-- positions come back from the names at them
pub positions_back : (heading : Heading) (commalist : List ℕ) → Ascends attribute_cmp heading → All (λ (i : ℕ). i < length heading) commalist → commalist ≡ map (position_of heading) (names_of (attributes_at commalist heading))
positions_back heading commalist up within =
    sym (ap (map (position_of heading)) (map_twice (λ (a : Name × Kind). a.0) (λ i. get_or heading i no_attribute) commalist)
    ∙ map_twice (position_of heading) (λ i. (get_or heading i no_attribute).0) commalist
    ∙ map-In (λ i. position_of heading (get_or heading i no_attribute).0) (λ i. i) commalist (λ i m. position_at heading i up (in_all (λ (j : ℕ). j < length heading) commalist within i m))
    ∙ map_own commalist)
  where
    map_own : (is : List ℕ) → map (λ (i : ℕ). i) is ≡ is
    map_own [] = refl
    map_own (i ∷ is) = ap (λ js. i ∷ js) (map_own is)

named_at : (heading : Heading) (commalist : List ℕ) → All (λ (i : ℕ). i < length heading) commalist → (n : Name) → In n (names_of (attributes_at commalist heading)) → IsTrue (has_name heading n)
named_at heading commalist within n m =
    let a = (In-map (λ (b : Name × Kind). b.0) n (attributes_at commalist heading)).0 m in
    let i = (In-map (λ j. get_or heading j no_attribute) a.0 commalist).0 a.1 in
    let l = in_all (λ (j : ℕ). j < length heading) commalist within i.0 i.1 in
    of_name heading n ((In-map (λ (b : Name × Kind). b.0) n heading).1 (a.0, subst (λ b. In b heading) (sym i.2) (In-get_or heading i.0 no_attribute l), a.2))

-- the same attributes have the same types
pub same_types : (left right : Heading) (here there : List ℕ) → attributes_at here left ≡ attributes_at there right → types_at right there ≡ types_at left here
same_types left right here there same =
    sym (map_twice (λ (a : Name × Kind). type_of a.1) (λ i. get_or right i no_attribute) there)
    ∙ ap (map (λ (a : Name × Kind). type_of a.1)) (sym same)
    ∙ map_twice (λ (a : Name × Kind). type_of a.1) (λ i. get_or left i no_attribute) here

pub same_count : (left right : Heading) (here there : List ℕ) → attributes_at here left ≡ attributes_at there right → length there ≡ length here
same_count left right here there same =
    sym (length-map there (λ i. get_or right i no_attribute)) ∙ ap length (sym same) ∙ length-map here (λ i. get_or left i no_attribute)

-- and both keys have as many places in labels
pub same_keys : (left right : Heading) (here there : List ℕ) → attributes_at here left ≡ attributes_at there right → Ascends attribute_cmp left → Ascends attribute_cmp right
    → All (λ (i : ℕ). i < length left) here → All (λ (i : ℕ). i < length right) there
    → length (inner here (common_positions left left right)) ≡ length (inner there (common_positions right left right))
same_keys left right here there same first second within within' =
    let names = names_of (attributes_at here left) in
    let h : here ≡ map (position_of left) names = positions_back left here first within in
    let t : there ≡ map (position_of right) names = positions_back right there second within' ∙ ap (λ (h : Heading). map (position_of right) (names_of h)) (sym same) in
    let own = keys_alike left right names (λ n m. named_at left here within n m) (λ n m. named_at right there within' n (subst (λ (h : Heading). In n (names_of h)) same m)) in
    ap (λ commalist. length (inner commalist (common_positions left left right))) h ∙ own ∙ sym (ap (λ commalist. length (inner commalist (common_positions right left right))) t)

module _ (left right : Heading) (here there : List ℕ) (same : attributes_at here left ≡ attributes_at there right) (kinds : HaveEqualKinds left right)
    (first : Ascends attribute_cmp left) (second : Ascends attribute_cmp right) (intervals : AreIntervals left here) (intervals' : AreIntervals right there) where
  abbrev names : List Name
  names = names_of (attributes_at here left)

  abbrev own_here : List ℕ
  own_here = map (position_of left) names

  abbrev own_there : List ℕ
  own_there = map (position_of right) names

  here_is : here ≡ own_here
  here_is = positions_back left here first intervals.within

  there_is : there ≡ own_there
  there_is = positions_back right there second intervals'.within ∙ ap (λ (h : Heading). map (position_of right) (names_of h)) (sym same)

  in_left : (n : Name) → In n names → IsTrue (has_name left n)
  in_left n m = named_at left here intervals.within n m

  in_right : (n : Name) → In n names → IsTrue (has_name right n)
  in_right n m = named_at right there intervals'.within n (subst (λ (h : Heading). In n (names_of h)) same m)

  same_kinds : (n : Name) → In n names → kind_at left (position_of left n) ≡ kind_at right (position_of right n)
  same_kinds n m =
      let l = in_left n m in
      let r = in_right n m in
      let a : Name × Kind = get_or left (position_of left n) no_attribute in
      let b : Name × Kind = get_or right (position_of right n) no_attribute in
      let e : a.0 ≡ b.0 = name_back left n l ∙ sym (name_back right n r) in
      let t : IsTrue (bytes_eq a.0 b.0) = ap (bytes_eq a.0) (sym e) ∙ nat_list_eq_equiv.refl a.0 in
      ap (λ (c : Name × Kind). c.1) (one_attribute left right a b kinds (In-get_or left (position_of left n) no_attribute (position_within left n l)) (In-get_or right (position_of right n) no_attribute (position_within right n r)) t)

  module _ (r s : List Row) (up : Ascends row_cmp r) (up' : Ascends row_cmp s)
      (shaped : (x : Row) → In x r → IsShaped left here x) (shaped' : (x : Row) → In x s → IsShaped right there x) where
    own_shaped : (x : Row) → In x r → IsShaped left own_here x
    own_shaped x i = subst (λ commalist. IsShaped left commalist x) here_is (shaped x i)

    own_shaped' : (x : Row) → In x s → IsShaped right own_there x
    own_shaped' x i = subst (λ commalist. IsShaped right commalist x) there_is (shaped' x i)

    own_intervals : AreIntervals left own_here
    own_intervals = subst (AreIntervals left) here_is intervals

    own_intervals' : AreIntervals right own_there
    own_intervals' = subst (AreIntervals right) there_is intervals'

    count : length there ≡ length here
    count = same_count left right here there same

    abbrev lefts : List (Boxed Row)
    lefts = unpacked_boxes row_cmp (length here) (map (boxed here) r)

    abbrev rights : List (Boxed Row)
    rights = unpacked_boxes row_cmp (length here) (map (boxed there) s)

    abbrev AreMatched : List ℕ → List ℕ → ℕ → Type 0
    AreMatched h t k = AreRowsOf left h (packed h (matched left right (unpacked h r) (unpacked t s)))
        (packed_boxes row_cmp (length h) (matched_boxes (inner h (common_positions left left right)) (inner t (common_positions right left right))
        (unpacked_boxes row_cmp (length h) (map (boxed h) r)) (unpacked_boxes row_cmp k (map (boxed t) s))))

    pub matched_at : AreRowsOf left here (packed here (matched left right (unpacked here r) (unpacked there s)))
        (packed_boxes row_cmp (length here) (matched_boxes (inner here (common_positions left left right)) (inner there (common_positions right left right))
        (unpacked_boxes row_cmp (length here) (map (boxed here) r)) (unpacked_boxes row_cmp (length here) (map (boxed there) s))))
    matched_at =
        let own : AreMatched own_here own_there (length own_there) = matched_rows left right names in_left in_right same_kinds own_intervals own_intervals' r s up up' own_shaped own_shaped' in
        let h = sym here_is in
        let t = sym there_is in
        let back : AreMatched own_here own_there (length own_there) ≡ AreMatched here there (length there) = λ i. AreMatched (h i) (t i) (length (t i)) in
        subst (AreMatched here there) count (subst (λ T. T) back own)

    abbrev AreUnmatched : List ℕ → List ℕ → ℕ → Type 0
    AreUnmatched h t k = AreRowsOf left h (packed h (unmatched left right (unpacked h r) (unpacked t s)))
        (packed_boxes row_cmp (length h) (unmatched_boxes (inner h (common_positions left left right)) (inner t (common_positions right left right))
        (unpacked_boxes row_cmp (length h) (map (boxed h) r)) (unpacked_boxes row_cmp k (map (boxed t) s))))

    pub unmatched_at : AreRowsOf left here (packed here (unmatched left right (unpacked here r) (unpacked there s)))
        (packed_boxes row_cmp (length here) (unmatched_boxes (inner here (common_positions left left right)) (inner there (common_positions right left right))
        (unpacked_boxes row_cmp (length here) (map (boxed here) r)) (unpacked_boxes row_cmp (length here) (map (boxed there) s))))
    unmatched_at =
        let own : AreUnmatched own_here own_there (length own_there) = unmatched_rows left right names in_left in_right same_kinds own_intervals own_intervals' r s up up' own_shaped own_shaped' in
        let h = sym here_is in
        let t = sym there_is in
        let back : AreUnmatched own_here own_there (length own_there) ≡ AreUnmatched here there (length there) = λ i. AreUnmatched (h i) (t i) (length (t i)) in
        subst (AreUnmatched here there) count (subst (λ T. T) back own)

    -- ---- joined

    module _ (commalist : List ℕ) (whole_intervals : AreIntervals (joined_heading left right) commalist) (whole_up : Ascends attribute_cmp (joined_heading left right))
        (whole_same : attributes_at commalist (joined_heading left right) ≡ attributes_at here left) where
      abbrev whole : Heading
      whole = joined_heading left right

      abbrev own_commalist : List ℕ
      own_commalist = map (position_of (joined_heading left right)) names

      commalist_is : commalist ≡ own_commalist
      commalist_is = positions_back whole commalist whole_up whole_intervals.within ∙ ap (λ (h : Heading). map (position_of whole) (names_of h)) whole_same

      abbrev AreJoined : List ℕ → List ℕ → List ℕ → ℕ → ℕ → Type 0
      AreJoined a h t k m = AreRowsOf whole a (packed a (joined left right (unpacked h r) (unpacked t s)))
          (packed_boxes row_cmp (length a) (joined_boxes (inner h (common_positions left left right)) (inner t (common_positions right left right))
          (joined_label (inner (positions_of_both (length left) h t) (positions_in (left ++ right) whole)))
          (unpacked_boxes row_cmp k (map (boxed h) r)) (unpacked_boxes row_cmp m (map (boxed t) s))))

      count_commalist : length here ≡ length commalist
      count_commalist = sym (length-map here (λ i. get_or left i no_attribute)) ∙ ap length (sym whole_same) ∙ length-map commalist (λ i. get_or whole i no_attribute)

      pub joined_at : AreRowsOf (joined_heading left right) commalist (packed commalist (joined left right (unpacked here r) (unpacked there s)))
          (packed_boxes row_cmp (length commalist) (joined_boxes (inner here (common_positions left left right)) (inner there (common_positions right left right))
          (joined_label (inner (positions_of_both (length left) here there) (positions_in (left ++ right) (joined_heading left right))))
          (unpacked_boxes row_cmp (length commalist) (map (boxed here) r)) (unpacked_boxes row_cmp (length commalist) (map (boxed there) s))))
      joined_at =
          let own : AreJoined own_commalist own_here own_there (length own_here) (length own_there) =
          joined_rows left right first second kinds names in_left in_right own_intervals own_intervals' (subst (AreIntervals whole) commalist_is whole_intervals) same_kinds r s up up' own_shaped own_shaped' in
          let a = sym commalist_is in
          let h = sym here_is in
          let t = sym there_is in
          let back : AreJoined own_commalist own_here own_there (length own_here) (length own_there) ≡ AreJoined commalist here there (length here) (length there) =
          λ i. AreJoined (a i) (h i) (t i) (length (h i)) (length (t i)) in
          let one = count_commalist in
          let two = count ∙ count_commalist in
          subst (λ T. T) (λ i. AreJoined commalist here there (one i) (two i)) (subst (λ T. T) back own)

    -- the same under a heading that is the joined one, and for as many sides as are listed of the left heading
    pub joined_under : (heading : Heading) (commalist : List ℕ) → heading ≡ joined_heading left right → AreIntervals heading commalist → attributes_at commalist heading ≡ attributes_at here left
        → AreRowsOf heading commalist (packed commalist (joined left right (unpacked here r) (unpacked there s)))
        (packed_boxes row_cmp (length here) (joined_boxes (inner here (common_positions left left right)) (inner there (common_positions right left right))
        (joined_label (inner (positions_of_both (length left) here there) (positions_in (left ++ right) heading)))
        (unpacked_boxes row_cmp (length here) (map (boxed here) r)) (unpacked_boxes row_cmp (length here) (map (boxed there) s))))
    joined_under heading commalist is whole listed =
        let own = joined_at commalist (subst (λ (h : Heading). AreIntervals h commalist) is whole) (joined_ascends left right first second kinds) (ap (λ (h : Heading). attributes_at commalist h) (sym is) ∙ listed) in
        let e = sym is in
        let n : length commalist ≡ length here = sym (same_count heading left commalist here listed) in
        subst (λ T. T) (λ t. AreRowsOf (e t) commalist (packed commalist (joined left right (unpacked here r) (unpacked there s)))
        (packed_boxes row_cmp (n t) (joined_boxes (inner here (common_positions left left right)) (inner there (common_positions right left right))
        (joined_label (inner (positions_of_both (length left) here there) (positions_in (left ++ right) (e t))))
        (unpacked_boxes row_cmp (n t) (map (boxed here) r)) (unpacked_boxes row_cmp (n t) (map (boxed there) s))))) own

  -- ---- one joined row

  module _ (commalist : List ℕ) (whole_intervals : AreIntervals (joined_heading left right) commalist) (whole_up : Ascends attribute_cmp (joined_heading left right))
      (whole_same : attributes_at commalist (joined_heading left right) ≡ attributes_at here left)
      (x y : Row) (shaped : IsShaped left here x) (shaped' : IsShaped right there y) where
    abbrev own : List ℕ
    own = map (position_of (joined_heading left right)) names

    listed_is : commalist ≡ own
    listed_is = positions_back (joined_heading left right) commalist whole_up whole_intervals.within ∙ ap (λ (h : Heading). map (position_of (joined_heading left right)) (names_of h)) whole_same

    pub shaped_at : IsShaped (joined_heading left right) commalist (joined_row left right x y)
    shaped_at =
        subst (λ ps. IsShaped (joined_heading left right) ps (joined_row left right x y)) (sym listed_is)
        (shaped_joined left right first second kinds names in_left in_right x y (subst (λ ps. IsShaped left ps x) here_is shaped) (subst (λ ps. IsShaped right ps y) there_is shaped'))

    abbrev IsBoxOfBoth : List ℕ → List ℕ → List ℕ → Type 0
    IsBoxOfBoth a h t = boxed a (joined_row left right x y)
        ≡ joined_box (joined_label (inner (positions_of_both (length left) h t) (positions_in (left ++ right) (joined_heading left right)))) (boxed h x) (boxed t y)

    pub boxed_at : boxed commalist (joined_row left right x y)
        ≡ joined_box (joined_label (inner (positions_of_both (length left) here there) (positions_in (left ++ right) (joined_heading left right)))) (boxed here x) (boxed there y)
    boxed_at =
        let made : IsBoxOfBoth own own_here own_there =
        boxed_joined left right first second kinds names in_left in_right x y (subst (λ ps. IsShaped left ps x) here_is shaped) (subst (λ ps. IsShaped right ps y) there_is shaped') in
        let a = sym listed_is in
        let h = sym here_is in
        let t = sym there_is in
        subst (λ T. T) (λ i. IsBoxOfBoth (a i) (h i) (t i)) made
