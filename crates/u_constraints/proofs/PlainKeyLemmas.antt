-- A key of the unpacked rows, which has all attributes that are unpacked, is one of the rows themselves.
--     plain_key      this, of a relation's rows
--     no_line_fails      so where the first two lines of a key under USING hold, all do
use Rattle.std.proofs.Common.{◌≡◌, inl, inr, ℕ, ℤ, ◌<◌, ◌≤ℤ◌, Bool, true, false, List, [], ◌∷◌, length, None, refl, sym, ap, ◌∙◌, subst, arith}
use Rattle.std.proofs.lemmas.Bool.{cases_eq}
use Rattle.std.proofs.lemmas.Int.{ints}
use Rattle.std.proofs.lemmas.List.{length-set, same_lists, get_or_default}
use Rattle.base_core.proofs.SetLemmas.{In}
use Rattle.base_core.proofs.ListLemmas.{map-In}
use Rattle.base_core.proofs.MemberLemmas.{list_all-In}
use Rattle.interval_core.specs.Members.{Span, at_point, members}
use Rattle.interval_core.specs.Packing.{unpack1}
use Rattle.interval_core.proofs.MembersLemmas.{In-members}
use Rattle.point_core.specs.declared.fault.Code.TheVariants.{E40, E41, E42}
use Rattle.point_core.specs.Points.{Line, line_of}
use Rattle.value_core.specs.Attributes.{value_at, span_of, with_span, put_span}
use Rattle.value_core.specs.declared.kind.Kind.TheVariants.{Span as SpanOf}
use Rattle.value_core.specs.Order.{row_total, row_separates}
use Rattle.value_core.specs.RowPacking.{attribute, unpacked}
use Rattle.value_core.specs.Values.{Value, interval, truth, Row, Relation, IsRelation, fits_heading, row_cmp}
use Rattle.value_core.proofs.PlainLemmas.{set_elsewhere}
use Rattle.scalar_core.proofs.SweepLemmas.{span_there}
use Rattle.relation_core.specs.Agreement.{part_of}
use Rattle.relation_core.specs.Intervals.{type_of, AreIntervals}
use Rattle.relation_core.specs.Parts.{kind_at}
use Rattle.meaning_core.specs.Typing.{IsList}
use Rattle.meaning_core.specs.WellMade.{AreAmong}
use Rattle.meaning_core.proofs.IntervalLemmas.{intervals_of_list}
use Rattle.u_set.proofs.BoxLemmas.{value_at-get}
use Rattle.u_set.proofs.ImageLemmas.{In-unpack1}
use Rattle.u_set.proofs.RelationLemmas.{relation_shaped}
use Rattle.u_row.proofs.BeneathLemmas.{in_all, in_among}
use Rattle.u_constraints.specs.Constraints.{is_key, first_failed}
use Rattle.u_constraints.proofs.AgreementLemmas.{at, no_value, same_of}
use Rattle.u_constraints.proofs.CounterpartLemmas.{in_key}
use Rattle.u_constraints.proofs.FitLemmas.{value_fits, span_that_fits}
use Rattle.u_constraints.proofs.KeyLemmas.{AgreeOnce, is_key-AgreeOnce}

module _ (n : ℕ) (lines : ℕ → Line) where
  -- the row has an interval with members at each position of the list
  record IsOpen (commalist : List ℕ) (x : Row) : Type 0 where
    pub long : length x ≡ n
    pub spans : (i : ℕ) → In i commalist → value_at x i ≡ interval (lines i) (span_of (value_at x i))
    pub ordered : (i : ℕ) → In i commalist → (span_of (value_at x i)).0 ≤ℤ (span_of (value_at x i)).1

  -- the row with one point in place of its interval at a position
  abbrev pointed : ℕ → ℤ → Row → Row
  pointed k p x = put_span x k (at_point p)

  value_pointed : (k : ℕ) (rest : List ℕ) (p : ℤ) (x : Row) → IsOpen (k ∷ rest) x → value_at (pointed k p x) k ≡ interval (lines k) (at_point p)
  value_pointed k rest p x has = span_there x k (at_point p) ∙ ap (λ (v : Value). with_span v (at_point p)) (has.spans k (inl refl))

  pointed_open : (k : ℕ) (rest : List ℕ) (p : ℤ) (x : Row) → IsOpen (k ∷ rest) x → IsOpen rest (pointed k p x)
  pointed_open k rest p x has = record {
    long = length-set x k (with_span (value_at x k) (at_point p)) ∙ has.long;
    spans = λ i m. elim (cases_eq i k) [
      | inl e ↦
          let here : value_at (pointed k p x) k ≡ interval (lines k) (span_of (value_at (pointed k p x) k)) =
          value_pointed k rest p x has ∙ ap (λ (s : Span). interval (lines k) s) (sym (ap span_of (value_pointed k rest p x has))) in
          subst (λ j. value_at (pointed k p x) j ≡ interval (lines j) (span_of (value_at (pointed k p x) j))) (sym e) here
      | inr other ↦
          let stays : value_at (pointed k p x) i ≡ value_at x i = set_elsewhere x k i (with_span (value_at x k) (at_point p)) other in
          stays ∙ (has.spans i (inr m) ∙ ap (λ (v : Value). interval (lines i) (span_of v)) (sym stays))
    ];
    ordered = λ i m. elim (cases_eq i k) [
      | inl e ↦
          let here : (span_of (value_at (pointed k p x) k)).0 ≤ℤ (span_of (value_at (pointed k p x) k)).1 =
          subst (λ (s : Span). s.0 ≤ℤ s.1) (sym (ap span_of (value_pointed k rest p x has))) (same p) in
          subst (λ j. (span_of (value_at (pointed k p x) j)).0 ≤ℤ (span_of (value_at (pointed k p x) j)).1) (sym e) here
      | inr other ↦
          subst (λ (v : Value). (span_of v).0 ≤ℤ (span_of v).1) (sym (set_elsewhere x k i (with_span (value_at x k) (at_point p)) other)) (has.ordered i (inr m))
    ];
  }
    where
      same : (q : ℤ) → q ≤ℤ q
      same q = omega (arith, ints)

  module _ (key : List ℕ) where
    module _ (k : ℕ) (rest : List ℕ) (lies : In k key) (x y : Row) (x_open : IsOpen (k ∷ rest) x) (y_open : IsOpen (k ∷ rest) y) (agree : part_of key x ≡ part_of key y) where
      abbrev p : ℤ
      p = (span_of (value_at x k)).0

      values_agree : value_at x k ≡ value_at y k
      values_agree = value_at-get x k ∙ (same_of (at x) (at y) no_value key agree k lies ∙ sym (value_at-get y k))

      elsewhere : (z : Row) (i : ℕ) → (i ≡ k → ⊥) → value_at (pointed k p z) i ≡ value_at z i
      elsewhere z i other = set_elsewhere z k i (with_span (value_at z k) (at_point p)) other

      -- with one point each they agree still
      parts_agree : part_of key (pointed k p x) ≡ part_of key (pointed k p y)
      parts_agree = map-In (at (pointed k p x)) (at (pointed k p y)) key (λ i m.
          sym (value_at-get (pointed k p x) i)
          ∙ (elim (cases_eq i k) [
            | inl e ↦ subst (λ j. value_at (pointed k p x) j ≡ value_at (pointed k p y) j) (sym e) (value_pointed k rest p x x_open ∙ sym (value_pointed k rest p y y_open))
            | inr other ↦
                elsewhere x i other ∙ (value_at-get x i ∙ (same_of (at x) (at y) no_value key agree i m ∙ (sym (value_at-get y i) ∙ sym (elsewhere y i other))))
          ]
          ∙ value_at-get (pointed k p y) i))

      -- and where they are then one row, they are one
      one_row : pointed k p x ≡ pointed k p y → x ≡ y
      one_row same =
          same_lists x y (x_open.long ∙ sym y_open.long) (λ i d below.
          let values : value_at x i ≡ value_at y i = elim (cases_eq i k) [
            | inl e ↦ subst (λ j. value_at x j ≡ value_at y j) (sym e) values_agree
            | inr other ↦ sym (elsewhere x i other) ∙ (ap (λ (z : Row). value_at z i) same ∙ elsewhere y i other)
          ] in
          get_or_default x i d (truth false) below ∙ (sym (value_at-get x i) ∙ (values ∙ (value_at-get y i ∙ get_or_default y i (truth false) d (subst (λ m. i < m) (x_open.long ∙ sym y_open.long) below)))))

      begin_in : (z : Row) → IsOpen (k ∷ rest) z → span_of (value_at z k) ≡ span_of (value_at x k) → In p (members (span_of (value_at z k)))
      begin_in z has e =
          let all = x_open.ordered k (inl refl) in
          subst (λ (s : Span). In p (members s)) (sym e) ((In-members (span_of (value_at x k)) p).1 (begins (span_of (value_at x k)) all))
        where
          begins : (s : Span) → s.0 ≤ℤ s.1 → (s.0 ≤ℤ s.0) × (s.0 ≤ℤ s.1)
          begins s l = (omega (arith, ints), l)

    once : (commalist : List ℕ) → ((i : ℕ) → In i commalist → In i key) → (rows : List Row) → ((x : Row) → In x rows → IsOpen commalist x) → AgreeOnce key (unpacked commalist rows) → AgreeOnce key rows
    once [] lies rows has h = h
    once (k ∷ rest) lies rows has h =
        let opened : (z : Row) → In z (unpack1 row_cmp (attribute k) rows) → IsOpen rest z = λ z i.
        let w = (In-unpack1 row_cmp row_total row_separates (attribute k) rows z).0 i in
        subst (λ (r : Row). IsOpen rest r) (sym w.4) (pointed_open k rest w.1 w.0 (has w.0 w.2)) in
        let below : AgreeOnce key (unpack1 row_cmp (attribute k) rows) = once rest (λ i m. lies i (inr m)) (unpack1 row_cmp (attribute k) rows) opened h in
        λ x y i j agree.
        let a = has x i in
        let b = has y j in
        let here : In k key = lies k (inl refl) in
        let q : ℤ = (span_of (value_at x k)).0 in
        let in_x : In (pointed k q x) (unpack1 row_cmp (attribute k) rows) =
        (In-unpack1 row_cmp row_total row_separates (attribute k) rows (pointed k q x)).1 (x, q, i, begin_in k rest here x y a b agree x a refl, refl) in
        let in_y : In (pointed k q y) (unpack1 row_cmp (attribute k) rows) =
        (In-unpack1 row_cmp row_total row_separates (attribute k) rows (pointed k q y)).1 (y, q, j, begin_in k rest here x y a b agree y b (ap span_of (sym (values_agree k rest here x y a b agree))), refl) in
        one_row k rest here x y a b agree (below (pointed k q x) (pointed k q y) in_x in_y (parts_agree k rest here x y a b agree))

-- ---- a relation's rows

module _ (r : Relation) (is : IsRelation r) (commalist : List ℕ) (list : IsList r.heading commalist) where
  intervals : AreIntervals r.heading commalist
  intervals = intervals_of_list r.heading commalist list

  row_open : (x : Row) → In x r.rows → IsOpen (length r.heading) (λ i. line_of (type_of (kind_at r.heading i))) commalist x
  row_open x m =
      let shaped = relation_shaped r is commalist intervals x m in
      record {
        long = shaped.long;
        spans = λ i w. shaped.spans i (in_among commalist i w);
        ordered = λ i w.
            (span_that_fits (type_of (kind_at r.heading i)) (value_at x i)
            (value_fits r.heading x i _ ((list_all-In (fits_heading r.heading) r.rows).0 is.fitting x m) (in_all (λ (j : ℕ). j < length r.heading) commalist intervals.within i w)
            (in_all (λ (j : ℕ). kind_at r.heading j ≡ SpanOf (type_of (kind_at r.heading j))) commalist intervals.spans i w))).0;
      }

  pub plain_key : (key : List ℕ) → AreAmong key commalist → is_key key (unpacked commalist r.rows) ≡ true → is_key key r.rows ≡ true
  plain_key key lies kept =
      (is_key-AgreeOnce key r.rows).1
      (once (length r.heading) (λ i. line_of (type_of (kind_at r.heading i))) key commalist (in_key key commalist lies) r.rows row_open
      ((is_key-AgreeOnce key (unpacked commalist r.rows)).0 kept))

-- ---- the lines of a key under USING

-- no line fails where what is asked of the first two is so, and the third follows from the second
pub no_line_fails : (p k l : Bool) → p ≡ true → k ≡ true → (k ≡ true → l ≡ true) → None ≡ first_failed ((p, E41) ∷ (k, E42) ∷ (l, E40) ∷ [])
no_line_fails p k l e f h = λ t. first_failed ((sym e t, E41) ∷ (sym f t, E42) ∷ (sym (h f) t, E40) ∷ [])
