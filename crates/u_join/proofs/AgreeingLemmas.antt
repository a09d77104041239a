-- Rows that agree, by their boxes: the common attributes that are listed are sides of the boxes, and the others stand in the labels.
use Rattle.std.proofs.Common.{◌≡◌, ◌↔◌, ℕ, true, false, not, List, map, length, refl, sym, ap, ◌∙◌}
use Rattle.std.specs.Bool.{IsTrue}
use Rattle.base_core.proofs.SetLemmas.{In}
use Rattle.base_core.proofs.MemberLemmas.{In-filter, eq_by_cmp-≡}
use Rattle.base_core.proofs.SetOperatorLemmas.{same_tests}
use Rattle.base_core.proofs.ListLemmas.{map-In}
use Rattle.point_core.specs.Points.{line_of}
use Rattle.value_core.specs.Attributes.{value_at, span_of, among}
use Rattle.value_core.specs.Headings.{has_name}
use Rattle.value_core.specs.Order.{row_total, row_separates}
use Rattle.value_core.specs.Values.{Name, Heading, Row, interval, row_cmp}
use Rattle.relation_core.specs.Agreement.{names_of, position_of, common_names, common_positions, part_of, agree}
use Rattle.relation_core.specs.Parts.{kind_at}
use Rattle.relation_core.proofs.FilterLemmas.{filter_same}
use Rattle.relation_core.proofs.JoinLemmas.{value_of}
use Rattle.relation_core.proofs.AttributeLemmas.{to_name, of_name}
use Rattle.u_set.specs.Boxes.{IsShaped, type_of, others, spans_at, boxed}
use Rattle.u_set.proofs.BoxLemmas.{value_at-get}
use Rattle.u_set.proofs.BridgeLemmas.{box_cmp, box_total, box_separates}
use Rattle.u_row.specs.Kept.{inner}
use Rattle.u_row.specs.Labels.{relabelled}
use Rattle.u_row.proofs.LabelLemmas.{map_twice}
use Rattle.u_join.specs.Pairs.{meet}
use Rattle.u_join.proofs.NameLemmas.{maps_agree, by_names, new_names, count_new, label_by_names, listed_name}

-- the sides of a row's box are its values beside the listed names
pub sides_by_names : (heading : Heading) (row : Row) (names : List Name) → spans_at (map (position_of heading) names) row ≡ map (λ n. span_of (value_of heading row n)) names
sides_by_names heading row names =
    map_twice (λ i. span_of (value_at row i)) (position_of heading) names
    ∙ map-In (λ n. span_of (value_at row (position_of heading n))) (λ n. span_of (value_of heading row n)) names (λ n i. ap span_of (value_at-get row (position_of heading n)))

module _ (left right : Heading) (names : List Name) (in_left : (n : Name) → In n names → IsTrue (has_name left n)) (in_right : (n : Name) → In n names → IsTrue (has_name right n)) where
  abbrev here : List ℕ
  here = map (position_of left) names

  abbrev there : List ℕ
  there = map (position_of right) names

  abbrev common : List Name
  common = common_names left right

  abbrev here_key : List ℕ
  here_key = inner here (common_positions left left right)

  abbrev there_key : List ℕ
  there_key = inner there (common_positions right left right)

  -- a name of both is listed in both or in none
  listed_alike : (n : Name) → IsTrue (has_name left n) → IsTrue (has_name right n) → among here (position_of left n) ≡ among there (position_of right n)
  listed_alike n a b =
      let l = listed_name left names in_left n a in
      let r = listed_name right names in_right n b in
      same_tests (among here (position_of left n)) (among there (position_of right n)) (λ t. r.1 (l.0 t), λ t. l.1 (r.0 t))

  in_both : (n : Name) → In n common → IsTrue (has_name left n) × IsTrue (has_name right n)
  in_both n i = let w = (In-filter (has_name right) n (names_of left)).0 i in (of_name left n w.0, w.1)

  to_common : (n : Name) → IsTrue (has_name left n) → IsTrue (has_name right n) → In n common
  to_common n a b = (In-filter (has_name right) n (names_of left)).1 (to_name left n a, b)

  new_alike : new_names here left common ≡ new_names there right common
  new_alike =
      filter_same (λ n. not (among here (position_of left n))) (λ n. not (among there (position_of right n))) common (λ n i.
      let w = in_both n i in
      ap not (listed_alike n w.0 w.1))

  -- both have as many common names that are not listed
  pub keys_alike : length here_key ≡ length there_key
  keys_alike = count_new here left common ∙ ap (λ (ns : List Name). length ns) new_alike ∙ sym (count_new there right common)

  module _ (kinds : (n : Name) → In n names → kind_at left (position_of left n) ≡ kind_at right (position_of right n))
      (x y : Row) (shaped : IsShaped left here x) (shaped' : IsShaped right there y) where
    value_left : (n : Name) → In n names → value_of left x n ≡ interval (line_of (type_of (kind_at left (position_of left n)))) (span_of (value_of left x n))
    value_left n i =
        let e = value_at-get x (position_of left n) in
        let v = shaped.spans (position_of left n) ((listed_name left names in_left n (in_left n i)).1 i) in
        sym e ∙ v ∙ (λ t. interval (line_of (type_of (kind_at left (position_of left n)))) (span_of (e t)))

    value_right : (n : Name) → In n names → value_of right y n ≡ interval (line_of (type_of (kind_at right (position_of right n)))) (span_of (value_of right y n))
    value_right n i =
        let e = value_at-get y (position_of right n) in
        let v = shaped'.spans (position_of right n) ((listed_name right names in_right n (in_right n i)).1 i) in
        sym e ∙ v ∙ (λ t. interval (line_of (type_of (kind_at right (position_of right n)))) (span_of (e t)))

    -- two rows agree where they have the same values beside all common names
    agree_by_names : IsTrue (agree left right x y) ↔ ((n : Name) → In n common → value_of left x n ≡ value_of right y n)
    agree_by_names =
        let w = eq_by_cmp-≡ row_cmp row_total row_separates (part_of (common_positions left left right) x) (part_of (common_positions right left right) y) in
        let a = by_names left x common in
        let b = by_names right y common in (
          λ t. maps_agree (value_of left x) (value_of right y) common (sym a ∙ w.0 t ∙ b),
          λ h. w.1 (a ∙ map-In (value_of left x) (value_of right y) common h ∙ sym b),
        )

    key_left : part_of here_key (others here x) ≡ map (value_of left x) (new_names here left common)
    key_left = label_by_names here left x common

    key_right : part_of there_key (others there y) ≡ map (value_of right y) (new_names here left common)
    key_right = label_by_names there right y common ∙ ap (map (value_of right y)) (sym new_alike)

    abbrev Both : Type 0
    Both = (part_of here_key (others here x) ≡ part_of there_key (others there y)) × (spans_at here x ≡ spans_at there y)

    to_both : ((n : Name) → In n common → value_of left x n ≡ value_of right y n) → Both
    to_both h = (
      key_left
          ∙ map-In (value_of left x) (value_of right y) (new_names here left common) (λ n i. h n ((In-filter (λ m. not (among here (position_of left m))) n common).0 i).0)
          ∙ sym key_right,
      sides_by_names left x names
          ∙ map-In (λ n. span_of (value_of left x n)) (λ n. span_of (value_of right y n)) names (λ n i. ap span_of (h n (to_common n (in_left n i) (in_right n i))))
          ∙ sym (sides_by_names right y names),
    )

    from_both : Both → (n : Name) → In n common → value_of left x n ≡ value_of right y n
    from_both h n i =
        let w = in_both n i in
        elim (among here (position_of left n)) as (λ b. among here (position_of left n) ≡ b → value_of left x n ≡ value_of right y n) [
          | true ↦ λ e.
              let m : In n names = (listed_name left names in_left n w.0).0 e in
              let span : span_of (value_of left x n) ≡ span_of (value_of right y n) =
              maps_agree (λ k. span_of (value_of left x k)) (λ k. span_of (value_of right y k)) names (sym (sides_by_names left x names) ∙ h.1 ∙ sides_by_names right y names) n m in
              let kind = kinds n m in
              value_left n m ∙ (λ t. interval (line_of (type_of (kind t))) (span t)) ∙ sym (value_right n m)
          | false ↦ λ e.
              let new : In n (new_names here left common) = (In-filter (λ m. not (among here (position_of left m))) n common).1 (i, ap not e) in
              maps_agree (value_of left x) (value_of right y) (new_names here left common) (sym key_left ∙ h.0 ∙ key_right) n new
        ] refl

    -- rows agree where their boxes go together
    pub agree_meet : IsTrue (agree left right x y) ↔ IsTrue (meet here_key there_key (boxed here x) (boxed there y))
    agree_meet =
        let w = eq_by_cmp-≡ box_cmp box_total box_separates (relabelled (part_of here_key) (boxed here x)) (relabelled (part_of there_key) (boxed there y)) in
        let a = agree_by_names in (
          λ t. let b = to_both (a.0 t) in w.1 (pair b.0 b.1),
          λ t. a.1 (from_both (ap (λ p. p.0) (w.0 t), ap (λ p. p.1) (w.0 t))),
        )
      where
        pair : part_of here_key (others here x) ≡ part_of there_key (others there y) → spans_at here x ≡ spans_at there y
            → relabelled (part_of here_key) (boxed here x) ≡ relabelled (part_of there_key) (boxed there y)
        pair e f = λ t. (e t, f t)
