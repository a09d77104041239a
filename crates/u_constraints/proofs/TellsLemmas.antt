-- Rows that tell, with those that come, whether a constraint holds still.
--     interval_of_only      the attribute that alone is unpacked
--     beside_tells      those that are found beside the rows that come, where one attribute is unpacked
--     touched_tells      those with the values of the rows that come
--     tells_rows, tells_joined      they are no more than all
use Rattle.std.proofs.Common.{◌≡◌, inl, inr, ℕ, ◌≤ℤ◌, ◌≤◌, true, List, [], ◌∷◌, length, Option, None, Some, refl, sym, ap, subst}
use Rattle.base_core.proofs.MemberLemmas.{In-filter}
use Rattle.base_core.proofs.SetLemmas.{In, Ascends-from_sorted}
use Rattle.base_core.proofs.SetOperatorLemmas.{Ascends-union_of}
use Rattle.cell_packing.proofs.PackedBoxes.{among_in}
use Rattle.point_core.specs.declared.fault.Code.TheVariants.{E40, E41, E42}
use Rattle.value_core.specs.Order.{row_total, row_separates}
use Rattle.value_core.specs.RowPacking.{unpacked}
use Rattle.value_core.specs.Values.{Row, Heading, Relation, IsRelation, row_cmp}
use Rattle.value_core.specs.declared.constraint.Constraint.{Constraint}
use Rattle.value_core.specs.declared.constraint.Constraint.TheVariants.{Key, Packed, WhenUnpacked, UKey, Foreign, History}
use Rattle.relation_core.specs.Agreement.{part_of}
use Rattle.relation_core.specs.Growth.{touched}
use Rattle.relation_core.specs.Operators.{united}
use Rattle.meaning_core.specs.Typing.{IsList}
use Rattle.meaning_core.specs.WellMade.{AreAmong, FitsHeadings}
use Rattle.meaning_core.proofs.IntervalLemmas.{intervals_of_list}
use Rattle.u_set.specs.Apart.{span_in}
use Rattle.u_set.specs.Boxes.{AreIntervals}
use Rattle.u_set.proofs.ApartLemmas.{rows_have_spans, span_ordered}
use Rattle.u_set.proofs.RelationLemmas.{relation_shaped}
use Rattle.u_constraints.specs.Beside.{AreBeside}
use Rattle.u_constraints.specs.Constraints.{is_key, is_packed, first_failed, broken}
use Rattle.u_constraints.specs.Growth.{exchanged, only, only_unpacked, Tells}
use Rattle.u_constraints.proofs.BesideLemmas.{ArePaired, beside_paired, packed_beside, key_beside, opened_beside}
use Rattle.u_constraints.proofs.GrownKeyLemmas.{In-exchanged, comes}
use Rattle.u_constraints.proofs.GrownPackedLemmas.{IsSet}
use Rattle.u_constraints.proofs.GrowthLemmas.{lines_hold, one_line, shaped, same_break, exchanged_ascends, In-united}
use Rattle.u_constraints.proofs.TellingLemmas.{AreOutside, Relate}
use Rattle.u_constraints.proofs.TouchedLemmas.{within_length}

-- ---- the attribute that alone is unpacked

abbrev or_this : ℕ → Option ℕ → ℕ
or_this d None = d
or_this d (Some n) = n

only_one : (commalist : List ℕ) (k : ℕ) → only commalist ≡ Some k → commalist ≡ k ∷ []
only_one [] k e = let never : ⊥ = cc in absurd never
only_one (i ∷ []) k e = ap (λ n. n ∷ []) (ap (or_this k) e)
only_one (i ∷ j ∷ rest) k e = let never : ⊥ = cc in absurd never

-- it is an interval attribute
pub interval_of_only : (c : Constraint) (h g : Heading) (k : ℕ) → FitsHeadings h g c → only_unpacked c ≡ Some k → AreIntervals h (k ∷ [])
interval_of_only (Key key) h g k fits one = let never : ⊥ = cc in absurd never
interval_of_only (Packed commalist) h g k fits one = subst (AreIntervals h) (only_one commalist k one) (intervals_of_list h commalist fits)
interval_of_only (WhenUnpacked commalist key) h g k fits one = subst (AreIntervals h) (only_one commalist k one) (intervals_of_list h commalist fits.0)
interval_of_only (UKey commalist key) h g k fits one = subst (AreIntervals h) (only_one commalist k one) (intervals_of_list h commalist fits.0)
interval_of_only (Foreign commalist here name there) h g k fits one = let never : ⊥ = cc in absurd never
interval_of_only (History rule) h g k fits one = let never : ⊥ = cc in absurd never

-- ---- rows that are found beside those that come

module _ (of come : Relation) (is : IsRelation of) (is' : IsRelation come) (heading : come.heading ≡ of.heading) (positions : List ℕ) (k : ℕ) (some : List Row) (found : AreBeside positions k come.rows of.rows some) (gone : List Row) where
  abbrev all : List Row
  all = exchanged of.rows gone come.rows

  abbrev few : List Row
  few = exchanged some gone come.rows

  abbrev paired : ArePaired positions k of.rows all few
  paired = beside_paired positions k of.rows come.rows some found gone

  ordered : AreIntervals of.heading (k ∷ []) → (x : Row) → In x all → (span_in k x).0 ≤ℤ (span_in k x).1
  ordered intervals x i = elim ((In-exchanged of.rows gone come.rows x).0 i).0 [
    | inl w ↦ span_ordered k x (rows_have_spans of is of.heading refl k intervals x w)
    | inr w ↦ span_ordered k x (rows_have_spans come is' of.heading (sym heading) k intervals x w)
  ]

  set_of_all : (commalist : List ℕ) → AreIntervals of.heading commalist → IsSet of.heading commalist all
  set_of_all commalist intervals = (exchanged_ascends of.rows gone come.rows, shaped of come gone is is' heading positions commalist intervals)

  set_of_few : (commalist : List ℕ) → AreIntervals of.heading commalist → IsSet of.heading commalist few
  set_of_few commalist intervals = (exchanged_ascends some gone come.rows, λ x i. shaped of come gone is is' heading positions commalist intervals x (paired.among x i))

  packed_line : (commalist : List ℕ) → commalist ≡ k ∷ [] → IsList of.heading commalist → AreOutside commalist positions → is_packed commalist of.rows ≡ true → is_packed commalist few ≡ is_packed commalist all
  packed_line commalist one =
      subst (λ (cs : List ℕ). IsList of.heading cs → AreOutside cs positions → is_packed cs of.rows ≡ true → is_packed cs few ≡ is_packed cs all) (sym one) (λ list outside held.
      let intervals = intervals_of_list of.heading (k ∷ []) list in
      sym (packed_beside of.heading k intervals positions outside of.rows all few paired (set_of_all (k ∷ []) intervals) (ordered intervals)
      (Ascends-from_sorted row_cmp of.rows is.ascending, relation_shaped of is (k ∷ []) intervals) (set_of_few (k ∷ []) intervals) held))

  opened_line : (commalist key : List ℕ) → commalist ≡ k ∷ [] → IsList of.heading commalist → AreAmong key positions → AreOutside commalist positions → AreAmong key commalist → is_key key (unpacked commalist of.rows) ≡ true
      → is_key key (unpacked commalist few) ≡ is_key key (unpacked commalist all)
  opened_line commalist key one =
      subst (λ (cs : List ℕ). IsList of.heading cs → AreAmong key positions → AreOutside cs positions → AreAmong key cs → is_key key (unpacked cs of.rows) ≡ true → is_key key (unpacked cs few) ≡ is_key key (unpacked cs all)) (sym one)
      (λ list within outside lies held.
      let intervals = intervals_of_list of.heading (k ∷ []) list in
      sym (opened_beside of.heading k intervals positions outside of.rows all few paired (set_of_all (k ∷ []) intervals) (ordered intervals) key within lies held))

  key_line : (commalist key : List ℕ) → commalist ≡ k ∷ [] → IsList of.heading commalist → AreAmong key positions → AreOutside commalist positions → AreAmong key commalist → is_key key of.rows ≡ true → is_key key few ≡ is_key key all
  key_line commalist key one =
      subst (λ (cs : List ℕ). IsList of.heading cs → AreAmong key positions → AreOutside cs positions → AreAmong key cs → is_key key of.rows ≡ true → is_key key few ≡ is_key key all) (sym one)
      (λ list within outside lies held.
      let intervals = intervals_of_list of.heading (k ∷ []) list in
      sym (key_beside of.heading k intervals positions outside of.rows all few paired (set_of_all (k ∷ []) intervals) (ordered intervals) key within lies held))

  -- the few break what all break
  beside_break : (c : Constraint) (g : Heading) (others : List Row) → FitsHeadings of.heading g c → Relate c positions → only_unpacked c ≡ Some k → broken c of.rows others ≡ None → broken c few others ≡ broken c all others
  beside_break (Key key) g others fits relate one held = let never : ⊥ = cc in absurd never
  beside_break (Packed commalist) g others fits relate one held =
      ap (λ b. first_failed ((b, E41) ∷ [])) (packed_line commalist (only_one commalist k one) fits relate (one_line (is_packed commalist of.rows) E41 held))
  beside_break (WhenUnpacked commalist key) g others fits relate one held =
      ap (λ b. first_failed ((b, E42) ∷ [])) (opened_line commalist key (only_one commalist k one) fits.0 relate.0 relate.1 fits.2 (one_line (is_key key (unpacked commalist of.rows)) E42 held))
  beside_break (UKey commalist key) g others fits relate one held =
      let alone = only_one commalist k one in
      let first = lines_hold (is_packed commalist of.rows) E41 ((is_key key (unpacked commalist of.rows), E42) ∷ (is_key key of.rows, E40) ∷ []) held in
      let second = lines_hold (is_key key (unpacked commalist of.rows)) E42 ((is_key key of.rows, E40) ∷ []) first.1 in
      let packed = packed_line commalist alone fits.0 relate.1 first.0 in
      let opened = opened_line commalist key alone fits.0 relate.0 relate.1 fits.2 second.0 in
      let keyed = key_line commalist key alone fits.0 relate.0 relate.1 fits.2 (one_line (is_key key of.rows) E40 second.1) in
      λ t. first_failed ((packed t, E41) ∷ (opened t, E42) ∷ (keyed t, E40) ∷ [])
  beside_break (Foreign commalist here name there) g others fits relate one held = absurd relate
  beside_break (History h) g others fits relate one held = absurd relate

-- ---- what tells

module _ (of come : Relation) (is : IsRelation of) (is' : IsRelation come) (heading : come.heading ≡ of.heading) (positions : List ℕ) (c : Constraint) (g : Heading) (fits : FitsHeadings of.heading g c) (relate : Relate c positions) where
  pub beside_tells : (k : ℕ) (some : List Row) → only_unpacked c ≡ Some k → AreBeside positions k come.rows of.rows some → Tells c of.rows come.rows some
  beside_tells k some one found = record {
    within = found.within;
    same = λ gone others held. beside_break of come is is' heading positions k some found gone c g others fits relate one held;
  }

  pub touched_tells : (some : List Row) → some ≡ touched positions come.rows of.rows → Tells c of.rows come.rows some
  touched_tells some e = subst (λ (rs : List Row). Tells c of.rows come.rows rs) (sym e) (record {
    within = λ x i. (among_in x of.rows).1 ((In-filter (λ y. comes positions come.rows (part_of positions y)) x of.rows).0 ((among_in x (touched positions come.rows of.rows)).0 i)).0;
    same = λ gone others held. same_break of come gone is is' heading positions c g others fits relate held;
  })

-- ---- they are no more than all

module _ (c : Constraint) (rows come some : List Row) (tells : Tells c rows come some) where
  old : (x : Row) → In x some → In x rows
  old x i = (among_in x rows).0 (tells.within x ((among_in x some).1 i))

  pub tells_rows : (gone : List Row) → length (exchanged some gone come) ≤ length (exchanged rows gone come)
  tells_rows gone =
      within_length row_cmp row_total row_separates (exchanged some gone come) (exchanged rows gone come) (exchanged_ascends some gone come) (exchanged_ascends rows gone come) (λ x i.
      let w = (In-exchanged some gone come x).0 i in
      (In-exchanged rows gone come x).1 (elim w.0 [ inl l ↦ inl (old x l) | inr r ↦ inr r ], w.1))

  pub tells_joined : length (united some come) ≤ length (united rows come)
  tells_joined =
      within_length row_cmp row_total row_separates (united some come) (united rows come) (Ascends-union_of row_cmp row_total row_separates some come) (Ascends-union_of row_cmp row_total row_separates rows come) (λ x i.
      (In-united rows come x).1 (elim ((In-united some come x).0 i) [ inl l ↦ inl (old x l) | inr r ↦ inr r ]))
