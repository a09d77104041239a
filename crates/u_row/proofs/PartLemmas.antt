-- The projection of a relation under USING, as its call has it: the heading of the parts, the kept positions, and those listed beneath.
use Rattle.std.proofs.Common.{◌≡◌, ℕ, ◌<◌, List, [], ◌∷◌, map, length, get_or, refl, sym, ap, ◌∙◌, subst}
use Rattle.std.specs.Bool.{IsTrue}
use Rattle.std.specs.List.{All}
use Rattle.std.specs.Ordering.{nat_cmp}
use Rattle.std.proofs.lemmas.Cmp.{nat_cmp_total}
use Rattle.std.proofs.lemmas.List.{length-map}
use Rattle.base_core.specs.Sets.{is_set}
use Rattle.base_core.proofs.SetLemmas.{In, Ascends}
use Rattle.base_core.proofs.MemberLemmas.{In-map, list_all-In}
use Rattle.base_core.proofs.SetOperatorLemmas.{is_set-Ascends}
use Rattle.base_core.proofs.ListLemmas.{All-In}
use Rattle.point_core.specs.declared.any_type.AnyPoint.{AnyPoint}
use Rattle.point_core.specs.Points.{number}
use Rattle.value_core.specs.RowPacking.{packed, unpacked}
use Rattle.value_core.specs.Relations.{all_fit}
use Rattle.value_core.specs.Values.{Row, Heading, Relation, IsRelation, row_cmp, rows_of, fits_heading}
use Rattle.relation_core.specs.Agreement.{part_of}
use Rattle.relation_core.specs.Parts.{no_attribute, attributes_at, projected}
use Rattle.relation_core.proofs.FilterLemmas.{rows_ascend}
use Rattle.relation_core.proofs.HeadingLemmas.{part_fits}
use Rattle.cell_packing.specs.Boxed.{Boxed, packed_boxes, unpacked_boxes}
use Rattle.cell_core.specs.Cells.{row_numbers}
use Rattle.u_set.specs.Boxes.{AreIntervals, IsShaped, types_at, others, boxed, unboxed}
use Rattle.u_set.proofs.BridgeLemmas.{AreRowsOf}
use Rattle.u_set.proofs.CoalescingLemmas.{given}
use Rattle.u_set.proofs.KeptLemmas.{one_listed}
use Rattle.u_set.proofs.RelationLemmas.{relation_shaped}
use Rattle.u_row.specs.Kept.{inner, beneath}
use Rattle.u_row.specs.Labels.{relabelled}
use Rattle.u_row.proofs.BeneathLemmas.{in_all, beneath_intervals}
use Rattle.u_row.proofs.LabelLemmas.{inner_within}
use Rattle.u_row.proofs.ProjectionLemmas.{types_kept, projected_rows, own_rows}

-- the labels of a relation's boxes have the inner places
pub labels_long : (heading : Heading) (commalist kept : List ℕ) → All (λ (i : ℕ). i < length heading) kept → (rows : List Row) → ((x : Row) → In x rows → IsShaped heading commalist x)
    → (form : List (Row × List (AnyPoint × AnyPoint))) → map (row_numbers number) form ≡ map (boxed commalist) rows → All (λ b. All (λ (i : ℕ). i < length b.0) (inner commalist kept)) form
labels_long heading commalist kept within rows shaped form same =
    All-In (λ b. All (λ (i : ℕ). i < length b.0) (inner commalist kept)) form (λ b m.
    let i : In (row_numbers number b) (map (boxed commalist) rows) = subst (In (row_numbers number b)) same ((In-map (row_numbers number) (row_numbers number b) form).1 (b, m, refl)) in
    let w = (In-map (boxed commalist) (row_numbers number b) rows).0 i in
    let label : b.0 ≡ others commalist w.0 = ap (λ (x : Boxed Row). x.0) w.2 in
    let long = (shaped w.0 w.1).long in
    All-In (λ (j : ℕ). j < length b.0) (inner commalist kept) (λ j n.
    subst (λ (l : Row). j < length l) (sym label) (inner_within commalist kept w.0 (λ k o. subst (λ l. k < l) (sym long) (in_all (λ (p : ℕ). p < length heading) kept within k o)) j n)))

module _ (heading : Heading) (r : Relation) (kept commalist listed : List ℕ) (ascending : IsTrue (is_set nat_cmp kept)) (within : All (λ (i : ℕ). i < length r.heading) kept)
    (same : heading ≡ attributes_at kept r.heading) (intervals : AreIntervals heading commalist) (is : listed ≡ beneath kept commalist) where
  up : Ascends nat_cmp kept
  up = (is_set-Ascends nat_cmp nat_cmp_total kept).0 ascending

  part_intervals : AreIntervals (attributes_at kept r.heading) commalist
  part_intervals = subst (λ (h : Heading). AreIntervals h commalist) same intervals

  pub whole_intervals : AreIntervals r.heading listed
  whole_intervals = subst (AreIntervals r.heading) (sym is) (beneath_intervals r.heading kept commalist within up part_intervals)

  pub whole_types : types_at r.heading listed ≡ types_at heading commalist
  whole_types = ap (types_at r.heading) is ∙ types_kept r.heading kept commalist within up part_intervals ∙ ap (λ (h : Heading). types_at h commalist) (sym same)

  pub whole_count : length listed ≡ length commalist
  whole_count = ap length is ∙ length-map commalist (λ j. get_or kept j 0)

  pub whole_rows : IsRelation r → AreRowsOf heading commalist (packed commalist (projected kept (unpacked (beneath kept commalist) r.rows)))
      (packed_boxes row_cmp (length listed) (map (relabelled (part_of (inner listed kept))) (unpacked_boxes row_cmp (length listed) (map (boxed listed) r.rows))))
  whole_rows relation =
      let count = whole_count in
      let back = sym is in
      let heads = sym same in
      let own = projected_rows r.heading kept commalist within up part_intervals r.rows (rows_ascend r relation) (relation_shaped r relation (beneath kept commalist) (beneath_intervals r.heading kept commalist within up part_intervals)) in
      subst (λ T. T) (λ t. AreRowsOf (heads t) commalist (packed commalist (projected kept (unpacked (beneath kept commalist) r.rows)))
      (packed_boxes row_cmp (sym count t) (map (relabelled (part_of (inner (back t) kept))) (unpacked_boxes row_cmp (sym count t) (map (boxed (back t)) r.rows))))) own

-- positions of the parts' heading are positions of the kept list
pub positions_kept : (heading from : Heading) (kept commalist : List ℕ) → heading ≡ attributes_at kept from → AreIntervals heading commalist → All (λ (j : ℕ). j < length kept) commalist
positions_kept heading from kept commalist same intervals =
    let count : length heading ≡ length kept = ap length same ∙ length-map kept (λ i. get_or from i no_attribute) in
    λ j d l. subst (λ n. get_or commalist j d < n) count (intervals.within j d l)

-- ---- under USING of a single attribute

-- the rows that the parts of the relation's rows give are those of the projection
pub projected_given : (heading : Heading) (r : Relation) (kept commalist : List ℕ) (i : ℕ) → IsTrue (is_set nat_cmp kept) → All (λ (j : ℕ). j < length r.heading) kept
    → heading ≡ attributes_at kept r.heading → AreIntervals heading commalist → IsRelation r → length commalist ≡ 1 → i ≡ get_or commalist 0 0
    → given heading i (map (part_of kept) r.rows) ≡ packed commalist (projected kept (unpacked (beneath kept commalist) r.rows))
projected_given heading r kept commalist i ascending within same intervals relation one at =
    let alone : i ∷ [] ≡ commalist = one_listed commalist i one at in
    let up : Ascends nat_cmp kept = (is_set-Ascends nat_cmp nat_cmp_total kept).0 ascending in
    let spans : AreIntervals (attributes_at kept r.heading) commalist = subst (λ (h : Heading). AreIntervals h commalist) same intervals in
    let moved : given heading i (map (part_of kept) r.rows)
    ≡ rows_of (map (unboxed (attributes_at kept r.heading) commalist) (packed_boxes row_cmp (length commalist) (map (boxed commalist) (map (part_of kept) r.rows)))) =
    λ t. rows_of (map (unboxed (same t) (alone t)) (packed_boxes row_cmp (length (alone t)) (map (boxed (alone t)) (map (part_of kept) r.rows)))) in
    moved ∙ own_rows r.heading kept commalist within up spans r.rows (rows_ascend r relation) (relation_shaped r relation (beneath kept commalist) (beneath_intervals r.heading kept commalist within up spans))

-- these parts fit
pub parts_fit : (heading : Heading) (r : Relation) (kept : List ℕ) → All (λ (j : ℕ). j < length r.heading) kept → heading ≡ attributes_at kept r.heading → IsRelation r
    → IsTrue (all_fit heading (map (part_of kept) r.rows))
parts_fit heading r kept within same relation =
    (list_all-In (fits_heading heading) (map (part_of kept) r.rows)).1 (λ z m.
    let w = (In-map (part_of kept) z r.rows).0 m in
    let fits : IsTrue (fits_heading (attributes_at kept r.heading) (part_of kept w.0)) = part_fits r.heading w.0 kept ((list_all-In (fits_heading r.heading) r.rows).0 relation.fitting w.0 w.1) (in_all (λ (j : ℕ). j < length r.heading) kept within) in
    subst (λ (T : Type 0). T) (λ t. IsTrue (fits_heading (sym same t) (sym w.2 t))) fits)
