-- The rows of a group of the view are those that the operator gives of the operands' rows of that group alone.
use Rattle.std.proofs.Common.{◌≡◌, ◌↔◌, ℕ, ◌<◌, false, not, List, [], ◌++◌, map, length, get_or, refl, sym, ap, ap₂, ◌∙◌, subst}
use Rattle.std.specs.Bool.{IsTrue}
use Rattle.std.specs.List.{All, filter, list_any}
use Rattle.std.proofs.lemmas.List.{get_or-map, length-map, get_or_append_left}
use Rattle.base_core.proofs.ListLemmas.{In-get_or}
use Rattle.base_core.proofs.MemberLemmas.{In-map, In-filter}
use Rattle.base_core.proofs.SetLemmas.{In, Ascends}
use Rattle.value_core.specs.Headings.{has_name, position_of}
use Rattle.value_core.specs.Order.{row_total, row_separates}
use Rattle.value_core.specs.RowPacking.{packed, unpacked}
use Rattle.value_core.specs.Values.{Name, Row, Heading, truth, attribute_cmp, row_cmp}
use Rattle.value_core.specs.declared.kind.Kind.{Kind}
use Rattle.relation_core.specs.Agreement.{names_of, common_names, part_of, agree, matched, unmatched}
use Rattle.relation_core.specs.Intervals.{AreIntervals}
use Rattle.relation_core.specs.Joins.{HaveEqualKinds, joined_heading, joined_row, joined}
use Rattle.relation_core.specs.Operators.{united, intersected, subtracted}
use Rattle.relation_core.specs.Parts.{no_attribute, attributes_at, projected}
use Rattle.relation_core.proofs.AgreementLemmas.{position_within}
use Rattle.relation_core.proofs.AttributeLemmas.{named_In, of_name, joined_ascends}
use Rattle.relation_core.proofs.JoinLemmas.{value_of, value_of_part}
use Rattle.u_row.proofs.BeneathLemmas.{in_all}
use Rattle.u_join.proofs.NameLemmas.{name_back, position_prefix}
use Rattle.kept_views.specs.Kept.{names_at, positions_beside, unlisted_names, has_key, of_key}
use Rattle.kept_views.proofs.FilterLemmas.{filters_parted, united_parted, common_parted, difference_parted, mapped_parted}
use Rattle.kept_views.proofs.HeadingLemmas.{beside_has, stands_joined, stands_in_part, place_in_part}
use Rattle.kept_views.proofs.KeyLemmas.{AreClear, unpacked_of_key, packed_of_key, unpacked_long}
use Rattle.kept_views.proofs.NameLemmas.{same_names, names_back, unlisted_clear, unlisted_in, same_key, agree_key, agrees_in_group}
use Rattle.kept_views.proofs.PartedLemmas.{parted}

-- ---- what is unpacked, then given to the operator, and packed

-- an operator over unpacked rows, whose answer is packed, by the groups of its operands
module _ (here there to here_key there_key to_key : List ℕ) (op : List Row → List Row → List Row)
    (clear : AreClear here_key here) (clear' : AreClear there_key there) (clear'' : AreClear to_key to) where
  whole : (key : Row) (r s : List Row)
      → of_key to_key key (op (unpacked here r) (unpacked there s)) ≡ op (of_key here_key key (unpacked here r)) (of_key there_key key (unpacked there s))
      → of_key to_key key (packed to (op (unpacked here r) (unpacked there s))) ≡ packed to (op (unpacked here (of_key here_key key r)) (unpacked there (of_key there_key key s)))
  whole key r s h =
      packed_of_key to_key key to clear'' (op (unpacked here r) (unpacked there s))
      ∙ ap (packed to) (h ∙ ap₂ op (unpacked_of_key here_key key here clear r) (unpacked_of_key there_key key there clear' s))

-- ---- operands of one heading

module _ (heading : Heading) (here : List ℕ) where
  abbrev own_key : List ℕ
  own_key = map (position_of heading) (unlisted_names (names_at heading here) (names_of heading))

  own_clear : AreClear own_key here
  own_clear = unlisted_clear heading here (names_at heading here) (names_of heading) refl (of_name heading)

  module _ (r s : List Row) (key : Row) where
    pub union_group : of_key own_key key (packed here (united (unpacked here r) (unpacked here s))) ≡ packed here (united (unpacked here (of_key own_key key r)) (unpacked here (of_key own_key key s)))
    union_group =
        whole here here here own_key own_key own_key united own_clear own_clear own_clear key r s
        (united_parted row_cmp row_total row_separates (has_key own_key key) (unpacked here r) (unpacked here s))

    pub common_group : of_key own_key key (packed here (intersected (unpacked here r) (unpacked here s))) ≡ packed here (intersected (unpacked here (of_key own_key key r)) (unpacked here (of_key own_key key s)))
    common_group =
        whole here here here own_key own_key own_key intersected own_clear own_clear own_clear key r s
        (common_parted row_cmp row_total row_separates (has_key own_key key) (unpacked here r) (unpacked here s))

    pub difference_group : of_key own_key key (packed here (subtracted (unpacked here r) (unpacked here s))) ≡ packed here (subtracted (unpacked here (of_key own_key key r)) (unpacked here (of_key own_key key s)))
    difference_group =
        whole here here here own_key own_key own_key subtracted own_clear own_clear own_clear key r s
        (difference_parted row_cmp row_total row_separates (has_key own_key key) (unpacked here r) (unpacked here s))

  pub packed_group : (r : List Row) (key : Row) → of_key own_key key (packed here r) ≡ packed here (of_key own_key key r)
  packed_group r key = packed_of_key own_key key here own_clear r

-- ---- operands that share attributes

module _ (left right : Heading) (here there : List ℕ) (same : attributes_at here left ≡ attributes_at there right) where
  abbrev names : List Name
  names = unlisted_names (names_at left here) (common_names left right)

  abbrev here_key : List ℕ
  here_key = map (position_of left) names

  abbrev there_key : List ℕ
  there_key = map (position_of right) names

  in_left : (n : Name) → In n (common_names left right) → IsTrue (has_name left n)
  in_left n m = of_name left n ((In-filter (has_name right) n (names_of left)).0 m).0

  in_right : (n : Name) → In n (common_names left right) → IsTrue (has_name right n)
  in_right n m = ((In-filter (has_name right) n (names_of left)).0 m).1

  clear_left : AreClear here_key here
  clear_left = unlisted_clear left here (names_at left here) (common_names left right) refl in_left

  clear_right : AreClear there_key there
  clear_right = unlisted_clear right there (names_at left here) (common_names left right) (same_names left right here there same) in_right

  module _ (r s : List Row) (key : Row) where
    pub matched_group : of_key here_key key (packed here (matched left right (unpacked here r) (unpacked there s)))
        ≡ packed here (matched left right (unpacked here (of_key here_key key r)) (unpacked there (of_key there_key key s)))
    matched_group =
        let own = unpacked there s in
        whole here there here here_key there_key here_key (matched left right) clear_left clear_right clear_left key r s
        (filters_parted (has_key here_key key) (λ x. list_any (agree left right x) own) (λ x. list_any (agree left right x) (of_key there_key key own)) (unpacked here r)
        (λ x t. agrees_in_group left right (names_at left here) key x t own))

    pub unmatched_group : of_key here_key key (packed here (unmatched left right (unpacked here r) (unpacked there s)))
        ≡ packed here (unmatched left right (unpacked here (of_key here_key key r)) (unpacked there (of_key there_key key s)))
    unmatched_group =
        let own = unpacked there s in
        whole here there here here_key there_key here_key (unmatched left right) clear_left clear_right clear_left key r s
        (filters_parted (has_key here_key key) (λ x. not (list_any (agree left right x) own)) (λ x. not (list_any (agree left right x) (of_key there_key key own))) (unpacked here r)
        (λ x t. ap not (agrees_in_group left right (names_at left here) key x t own)))

  -- ---- and are joined

  module _ (first : Ascends attribute_cmp left) (second : Ascends attribute_cmp right) (kinds : HaveEqualKinds left right) (intervals : AreIntervals left here) where
    abbrev both : Heading
    both = joined_heading left right

    abbrev to : List ℕ
    to = positions_beside left both here

    abbrev to_key : List ℕ
    to_key = map (position_of both) names

    stands : (a : Name × Kind) → In a left → In a both
    stands a i = stands_joined left right first second kinds a i

    pub in_both : (n : Name) → IsTrue (has_name left n) → IsTrue (has_name both n)
    in_both n h =
        let i = position_of left n in
        let a : Name × Kind = get_or left i no_attribute in
        let m : In a left = In-get_or left i no_attribute (position_within left n h) in
        subst (λ k. IsTrue (has_name both k)) (name_back left n h) (named_In both a (stands a m))

    listed_named : (n : Name) → In n (names_at left here) → IsTrue (has_name both n)
    listed_named n m =
        beside_has left both here first (joined_ascends left right first second kinds) intervals
        (λ i k. stands (get_or left i no_attribute) (In-get_or left i no_attribute (in_all (λ (j : ℕ). j < length left) here intervals.within i k))) n m

    clear_both : AreClear to_key to
    clear_both = unlisted_clear both to (names_at left here) (common_names left right) (names_back both (names_at left here) listed_named) (λ n m. in_both n (in_left n m))

    -- a joined row has the left row's values beside the left names
    joined_value : (x y : Row) → length x ≡ length left → (n : Name) → IsTrue (has_name left n) → value_of both (joined_row left right x y) n ≡ value_of left x n
    joined_value x y long n h =
        let at : position_of left n < length x = subst (λ k. position_of left n < k) (sym long) (position_within left n h) in
        value_of_part (left ++ right) both (x ++ y) n (in_both n h)
        ∙ ap (λ i. get_or (x ++ y) i (truth false)) (position_prefix left right n h)
        ∙ get_or_append_left x y (truth false) (position_of left n) at

    module _ (r s : List Row) (key : Row) (long : (x : Row) → In x r → length x ≡ length left) where
      abbrev agreeing : List Row → Row → List Row
      agreeing rows x = map (joined_row left right x) (filter (agree left right x) rows)

      of_agreeing : (rows : List Row) (x : Row) → In x (unpacked here r) → (z : Row) → In z (agreeing rows x) → has_key to_key key z ≡ has_key here_key key x
      of_agreeing rows x i z m =
          let w = (In-map (joined_row left right x) z (filter (agree left right x) rows)).0 m in
          let wide : length x ≡ length left = unpacked_long (length left) here r long x i in
          ap (has_key to_key key) w.2
          ∙ same_key both left (joined_row left right x w.0) x names (λ n k. joined_value x w.0 wide n (in_left n (unlisted_in (names_at left here) (common_names left right) n k))) key

      same_agreeing : (rows : List Row) (x : Row) → IsTrue (has_key here_key key x) → (z : Row) → In z (agreeing rows x) ↔ In z (agreeing (of_key there_key key rows) x)
      same_agreeing rows x t z =
          let f = joined_row left right x in
          let few = of_key there_key key rows in
          let a = In-map f z (filter (agree left right x) rows) in
          let b = In-map f z (filter (agree left right x) few) in (
            λ m.
                let w = a.0 m in
                let v = (In-filter (agree left right x) w.0 rows).0 w.1 in
                let own : IsTrue (has_key there_key key w.0) = sym (agree_key left right x w.0 (names_at left here) v.1 key) ∙ t in
                b.1 (w.0, (In-filter (agree left right x) w.0 few).1 ((In-filter (has_key there_key key) w.0 rows).1 (v.0, own), v.1), w.2),
            λ m.
                let w = b.0 m in
                let v = (In-filter (agree left right x) w.0 few).0 w.1 in
                a.1 (w.0, (In-filter (agree left right x) w.0 rows).1 (((In-filter (has_key there_key key) w.0 rows).0 v.0).0, v.1), w.2),
          )

      pub joined_group : of_key to_key key (packed to (joined left right (unpacked here r) (unpacked there s)))
          ≡ packed to (joined left right (unpacked here (of_key here_key key r)) (unpacked there (of_key there_key key s)))
      joined_group =
          let own = unpacked there s in
          whole here there to here_key there_key to_key (joined left right) clear_left clear_right clear_both key r s
          (parted row_cmp row_total row_separates (has_key to_key key) (agreeing own) (agreeing (of_key there_key key own)) (has_key here_key key) (unpacked here r)
          (of_agreeing own) (λ x i t z. same_agreeing own x t z))

-- ---- the parts of an operand

module _ (heading : Heading) (kept here : List ℕ) (up : Ascends attribute_cmp heading) (within : All (λ (i : ℕ). i < length heading) kept) (up' : Ascends attribute_cmp (attributes_at kept heading))
    (covered : (i : ℕ) → In i here → In i kept) where
  abbrev part : Heading
  part = attributes_at kept heading

  abbrev part_names : List Name
  part_names = unlisted_names (names_at heading here) (names_at heading kept)

  abbrev whole_key : List ℕ
  whole_key = map (position_of heading) part_names

  abbrev part_key : List ℕ
  part_key = map (position_of part) part_names

  abbrev in_part : List ℕ
  in_part = positions_beside heading part here

  pub part_named : (n : Name) → In n (names_at heading kept) → IsTrue (has_name part n)
  part_named n m =
      let w = (In-map (λ i. (get_or heading i no_attribute).0) n kept).0 m in
      subst (λ k. IsTrue (has_name part k)) (sym w.2) (named_In part (get_or heading w.0 no_attribute) (stands_in_part heading kept up within w.0 w.1))

  whole_named : (n : Name) → In n (names_at heading kept) → IsTrue (has_name heading n)
  whole_named n m =
      let w = (In-map (λ i. (get_or heading i no_attribute).0) n kept).0 m in
      let l = in_all (λ (i : ℕ). i < length heading) kept within w.0 w.1 in
      subst (λ k. IsTrue (has_name heading k)) (sym w.2) (named_In heading (get_or heading w.0 no_attribute) (In-get_or heading w.0 no_attribute l))

  listed_kept : (n : Name) → In n (names_at heading here) → In n (names_at heading kept)
  listed_kept n m =
      let w = (In-map (λ i. (get_or heading i no_attribute).0) n here).0 m in
      (In-map (λ i. (get_or heading i no_attribute).0) n kept).1 (w.0, covered w.0 w.1, w.2)

  clear_whole : AreClear whole_key here
  clear_whole = unlisted_clear heading here (names_at heading here) (names_at heading kept) refl whole_named

  clear_part : AreClear part_key in_part
  clear_part = unlisted_clear part in_part (names_at heading here) (names_at heading kept) (names_back part (names_at heading here) (λ n m. part_named n (listed_kept n m))) part_named

  -- a part has the row's values beside the kept names
  part_value : (x : Row) (n : Name) → In n (names_at heading kept) → value_of part (part_of kept x) n ≡ value_of heading x n
  part_value x n m =
      let h = part_named n m in
      let l : position_of part n < length kept = subst (λ k. position_of part n < k) (length-map kept (λ j. get_or heading j no_attribute)) (position_within part n h) in
      get_or-map (λ i. get_or x i (truth false)) kept (position_of part n) 0 (truth false) l
      ∙ ap (λ i. get_or x i (truth false)) (place_in_part heading kept up within n h (name_back part n h))

  pub part_group : (r : List Row) (key : Row) → of_key part_key key (packed in_part (projected kept (unpacked here r))) ≡ packed in_part (projected kept (unpacked here (of_key whole_key key r)))
  part_group r key =
      whole here here in_part whole_key whole_key part_key (λ a b. projected kept a) clear_whole clear_whole clear_part key r []
      (mapped_parted row_cmp row_total row_separates (has_key part_key key) (part_of kept) (has_key whole_key key) (unpacked here r)
      (λ x i. same_key part heading (part_of kept x) x part_names (λ n m. part_value x n (unlisted_in (names_at heading here) (names_at heading kept) n m)) key))
