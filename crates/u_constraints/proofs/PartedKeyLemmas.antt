-- A key under USING of one attribute: where the intervals of rows with the same values at the rest of the key have no point in common, no two
-- different unpacked rows have the same values at the key.
--     parted_key      this, of the attribute that alone is listed
use Rattle.std.proofs.Common.{◌≡◌, inl, inr, ℕ, ℤ, pos, ◌+ℤ◌, ◌<ℤ◌, true, not, List, [], ◌∷◌, length, get_or, refl, sym, ap, ◌∙◌, subst, arith}
use Rattle.std.proofs.lemmas.Bool.{not-true, both_ways}
use Rattle.std.proofs.lemmas.Int.{ints}
use Rattle.base_core.proofs.SetLemmas.{In}
use Rattle.base_core.proofs.MemberLemmas.{In-filter}
use Rattle.base_core.proofs.ListLemmas.{map-In}
use Rattle.interval_core.specs.Members.{Span, at_point, members}
use Rattle.interval_core.proofs.MembersLemmas.{In-members}
use Rattle.cell_packing.proofs.PackedBoxes.{among_in}
use Rattle.value_core.specs.Attributes.{value_at, span_of, with_span, put_span, among}
use Rattle.value_core.specs.Order.{row_total, row_separates}
use Rattle.value_core.specs.RowPacking.{attribute, unpacked}
use Rattle.value_core.specs.Values.{Row, Heading, row_cmp}
use Rattle.scalar_core.proofs.SweepLemmas.{span_there}
use Rattle.relation_core.specs.Agreement.{part_of}
use Rattle.meaning_core.specs.WellMade.{AreAmong}
use Rattle.u_set.specs.declared.apart.Gap.TheVariants.{Zero}
use Rattle.u_set.specs.Apart.{span_in, AreParted, AreApart}
use Rattle.u_set.specs.Boxes.{IsShaped}
use Rattle.u_set.proofs.BoxLemmas.{value_at-get}
use Rattle.u_set.proofs.ImageLemmas.{In-unpack1}
use Rattle.u_row.specs.Kept.{unlisted}
use Rattle.u_row.proofs.BeneathLemmas.{in_among}
use Rattle.u_constraints.specs.Constraints.{is_key}
use Rattle.u_constraints.proofs.AgreementLemmas.{at, no_value, same_of}
use Rattle.u_constraints.proofs.CounterpartLemmas.{in_key}
use Rattle.u_constraints.proofs.GrownKeyLemmas.{rows_keep}
use Rattle.u_constraints.proofs.KeyLemmas.{AgreeOnce, is_key-AgreeOnce}

-- parted intervals have no point in common
ends_before : (i j : Span) (p : ℤ) → (i.1 +ℤ pos 0) <ℤ j.0 → In p (members i) → In p (members j) → ⊥
ends_before i j p l a b =
    let u = ((In-members i p).0 a).1 in
    let v = ((In-members j p).0 b).0 in
    omega (arith, ints)

not_in_both : (i j : Span) (p : ℤ) → AreParted Zero i j → In p (members i) → In p (members j) → ⊥
not_in_both i j p h a b = elim h [ inl l ↦ ends_before i j p l a b | inr l ↦ ends_before j i p l b a ]

-- ---- one position

module _ (heading : Heading) (k : ℕ) where
  abbrev commalist : List ℕ
  commalist = k ∷ []

  -- the point that a row is unpacked to
  pub point_there : (x : Row) → IsShaped heading commalist x → (p : ℤ) → span_of (value_at (put_span x k (at_point p)) k) ≡ at_point p
  point_there x shaped p =
      ap span_of (span_there x k (at_point p)) ∙ ap (λ v. span_of (with_span v (at_point p))) (shaped.spans k (in_among commalist k (inl refl)))

  module _ (key : List ℕ) where
    abbrev label : List ℕ
    label = unlisted commalist key

    -- what is not unpacked stays
    pub label_there : (x : Row) (p : ℤ) → part_of label (put_span x k (at_point p)) ≡ part_of label x
    label_there x p = (rows_keep commalist label (λ i m w.
        both_ways (among commalist i) (not-true (among commalist i) ((In-filter (λ j. not (among commalist j)) i key).0 m).1) (in_among commalist i w))).0 x (at_point p)

    -- rows that agree on the key agree on the rest of it, and on the attribute
    labels_agree : (x y : Row) → part_of key x ≡ part_of key y → part_of label x ≡ part_of label y
    labels_agree x y e = map-In (at x) (at y) label (λ i m. same_of (at x) (at y) no_value key e i ((In-filter (λ j. not (among commalist j)) i key).0 m).0)

    pub spans_agree : AreAmong key commalist → (x y : Row) → part_of key x ≡ part_of key y → span_of (value_at x k) ≡ span_of (value_at y k)
    spans_agree lies x y e =
        ap span_of (value_at-get x k ∙ same_of (at x) (at y) no_value key e k (in_key key commalist lies k (inl refl)) ∙ sym (value_at-get y k))

    module _ (lies : AreAmong key commalist) (rows : List Row) (shaped : (x : Row) → In x rows → IsShaped heading commalist x) (apart : AreApart label k Zero rows) where
      agree_once : AgreeOnce key (unpacked commalist rows)
      agree_once x y i j e =
          let u = (In-unpack1 row_cmp row_total row_separates (attribute k) rows x).0 i in
          let v = (In-unpack1 row_cmp row_total row_separates (attribute k) rows y).0 j in
          let labels : part_of label u.0 ≡ part_of label v.0 =
          sym (label_there u.0 u.1) ∙ ap (part_of label) (sym u.4) ∙ labels_agree x y e ∙ ap (part_of label) v.4 ∙ label_there v.0 v.1 in
          let spans : at_point u.1 ≡ at_point v.1 =
          sym (point_there u.0 (shaped u.0 u.2) u.1) ∙ ap (λ (r : Row). span_of (value_at r k)) (sym u.4) ∙ spans_agree lies x y e
          ∙ ap (λ (r : Row). span_of (value_at r k)) v.4 ∙ point_there v.0 (shaped v.0 v.2) v.1 in
          let point : u.1 ≡ v.1 = ap (λ (s : Span). s.0) spans in
          elim (apart.parted u.0 v.0 ((among_in u.0 rows).1 u.2) ((among_in v.0 rows).1 v.2) labels) [
            | inl same ↦ u.4 ∙ (λ t. put_span (same t) k (at_point (point t))) ∙ sym v.4
            | inr w ↦ absurd (not_in_both (span_in k u.0) (span_in k v.0) u.1 w u.3 (subst (λ p. In p (members (span_in k v.0))) (sym point) v.3))
          ]

-- ---- the attribute that alone is listed

pub parted_key : (heading : Heading) (commalist : List ℕ) (rows : List Row) → ((x : Row) → In x rows → IsShaped heading commalist x) → (i : ℕ) → length commalist ≡ 1 → i ≡ get_or commalist 0 0
    → (key : List ℕ) → AreAmong key commalist → (label : List ℕ) → label ≡ unlisted commalist key → AreApart label i Zero rows → is_key key (unpacked commalist rows) ≡ true
parted_key heading [] rows shaped i one is key lies label e apart = absurd (omega arith)
parted_key heading (k ∷ j ∷ commalist) rows shaped i one is key lies label e apart = absurd (omega arith)
parted_key heading (k ∷ []) rows shaped i one is key lies label e apart =
    let here : AreApart (unlisted (k ∷ []) key) k Zero rows =
    subst (λ (ps : List ℕ). AreApart ps k Zero rows) e (subst (λ n. AreApart label n Zero rows) is apart) in
    (is_key-AgreeOnce key (unpacked (k ∷ []) rows)).1 (agree_once heading k key lies rows shaped here)
