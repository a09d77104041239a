-- Points that rows of one key have.
--     own_run      one row's points
--     among_at, all_more      the row at a place, and one row more
--     run_goes_on      a run with another that goes on with it
--     covered_by_run      what lies in a run
--     covered_referred      a foreign key of which one attribute is unpacked: rows that are covered are referred to
--     interval_there, spans_held      the attribute there, and the intervals of a relation's rows
use Rattle.std.proofs.Common.{true, ◌≡◌, ◌⊎◌, inl, inr, ℕ, ℤ, pos, ◌+ℤ◌, ◌≤ℤ◌, ◌<ℤ◌, ◌<◌, List, [], ◌∷◌, map, length, get_or, take, ◌++◌, ◌+◌, refl, sym, ap, ◌∙◌, subst, arith, nat_eq}
use Rattle.std.specs.List.{All, IsDistinct}
use Rattle.std.specs.Int.{int_max}
use Rattle.std.proofs.lemmas.Int.{ints, clamps, by_lt_z}
use Rattle.std.proofs.lemmas.List.{take_more}
use Rattle.std.proofs.lemmas.List.Elements.{All-push}
use Rattle.base_core.proofs.ListLemmas.{All-In, In-get_or}
use Rattle.base_core.proofs.SetLemmas.{In, Ascends}
use Rattle.interval_core.specs.Members.{Span, at_point}
use Rattle.interval_core.proofs.MembersLemmas.{In-members}
use Rattle.cell_packing.specs.Covering.{Among}
use Rattle.cell_packing.proofs.PackedBoxes.{among_in}
use Rattle.value_core.specs.Attributes.{value_at, span_of, put_span}
use Rattle.value_core.specs.Order.{row_total, row_separates}
use Rattle.value_core.specs.RowPacking.{attribute, unpacked}
use Rattle.value_core.specs.Values.{Row, Heading, Relation, IsRelation, row_cmp}
use Rattle.relation_core.specs.Agreement.{part_of}
use Rattle.meaning_core.specs.WellMade.{AreAlike, AreAmong}
use Rattle.u_set.specs.Apart.{span_in, HasInterval}
use Rattle.u_set.proofs.ApartLemmas.{rows_have_spans}
use Rattle.u_set.specs.Boxes.{AreIntervals, IsShaped}
use Rattle.u_set.proofs.ImageLemmas.{In-unpack1}
use Rattle.u_set.proofs.PlaceLemmas.{opened_shaped}
use Rattle.u_row.specs.Kept.{unlisted}
use Rattle.u_row.proofs.BeneathLemmas.{in_all}
use Rattle.u_row.proofs.LabelLemmas.{inner_values}
use Rattle.u_constraints.specs.Constraints.{counterpart, is_referenced}
use Rattle.u_constraints.specs.Covers.{IsCovered, IsRun}
use Rattle.u_constraints.proofs.AgreementLemmas.{no_value, boxes_agree}
use Rattle.u_constraints.proofs.NearLemmas.{refers}
use Rattle.u_constraints.proofs.PartedKeyLemmas.{point_there, label_there}

-- ---- runs

pub own_run : (label : List ℕ) (at : ℕ) (rows : List Row) (row held : Row) (begin end : ℤ) → held ≡ row → (begin, end) ≡ span_in at row → Among row rows → IsRun label at rows held begin end
own_run label at rows row held begin end same is m = record {
  each = λ n a b. (row, m, ap (part_of label) (sym same), subst (λ (i : Span). i.0 ≤ℤ n) is a, subst (λ (i : Span). n ≤ℤ i.1) is b);
}

pub among_at : (rows : List Row) (i : ℕ) (x : Row) → x ≡ get_or rows i x → i < length rows → Among x rows
among_at rows i x is l = (among_in x rows).1 (subst (λ z. In z rows) (sym is) (In-get_or rows i x l))

pub all_more : {X : Type 0} (P : X → Type 0) (xs : List X) (i : ℕ) (x : X) → x ≡ get_or xs i x → i < length xs → All P (take i xs) → P x → All P (take (i + 1) xs)
all_more P xs i x is l all p =
    let more : take (i + 1) xs ≡ take i xs ++ x ∷ [] = take_more xs i x l ∙ ap (λ z. take i xs ++ z ∷ []) (sym is) in
    subst (λ zs. All P zs) (sym more) (All-push P (take i xs) x all p)

reached : (n e : ℤ) → (n ≤ℤ e) ⊎ (e <ℤ n)
reached n e = by_lt_z e n (λ h. inr h) (λ h. inl h)

pub run_goes_on : (label : List ℕ) (at : ℕ) (rows : List Row) (x y : Row) (b e c f last : ℤ) → IsRun label at rows x b e → IsRun label at rows y c f → part_of label x ≡ part_of label y
    → c ≤ℤ (e +ℤ pos 1) → last ≡ int_max e f → IsRun label at rows x b last
run_goes_on label at rows x y b e c f last one two same near is = record {
  each = λ n l m. elim (reached n e) [
    | inl h ↦ one.each n l h
    | inr h ↦
        let from : c ≤ℤ n = omega (arith, ints, near, h) in
        let most : n ≤ℤ int_max e f = subst (λ z. n ≤ℤ z) is m in
        let to : n ≤ℤ f = omega (arith, ints, clamps, most, h) in
        let w = two.each n from to in
        (w.0, w.1, w.2 ∙ sym same, w.3, w.4)
  ];
}

pub covered_by_run : (label : List ℕ) (at : ℕ) (rows : List Row) (x : Row) (b e : ℤ) (key : Row) (i : Span) → IsRun label at rows x b e → b ≤ℤ i.0 → i.1 ≤ℤ e → key ≡ part_of label x
    → IsCovered label at rows key i
covered_by_run label at rows x b e key i run from to same = record {
  each = λ n l m.
      let w = run.each n (omega (arith, ints, from, l)) (omega (arith, ints, to, m)) in
      (w.0, w.1, w.2 ∙ sym same, w.3, w.4);
}

-- ---- a foreign key

module _ (h g : Heading) (here there : List ℕ) (k : ℕ) (alike : AreAlike h here g there) (lies : AreAmong here (k ∷ [])) (d : IsDistinct nat_eq here) (d' : IsDistinct nat_eq there)
    (intervals : AreIntervals h (k ∷ [])) (intervals' : AreIntervals g (counterpart here there k ∷ [])) (rows others' : List Row) (up : Ascends row_cmp rows) (up' : Ascends row_cmp others')
    (shaped : (x : Row) → In x rows → IsShaped h (k ∷ []) x) (shaped' : (x : Row) → In x others' → IsShaped g (counterpart here there k ∷ []) x) where
  abbrev t : ℕ
  t = counterpart here there k

  abbrev own : List ℕ
  own = unlisted (k ∷ []) here

  abbrev theirs : List ℕ
  theirs = unlisted (t ∷ []) there

  -- two rows that agree at what is not unpacked agree where they are unpacked to one point
  opened_agree : (x y : Row) (p : ℤ) → IsShaped h (k ∷ []) x → IsShaped g (t ∷ []) y → IsShaped h (k ∷ []) (put_span x k (at_point p)) → IsShaped g (t ∷ []) (put_span y t (at_point p))
      → part_of theirs y ≡ part_of own x → part_of here (put_span x k (at_point p)) ≡ part_of there (put_span y t (at_point p))
  opened_agree x y p sx sy sx' sy' same =
      let x' : Row = put_span x k (at_point p) in
      let y' : Row = put_span y t (at_point p) in
      let spans : span_of (value_at x' k) ≡ span_of (value_at y' t) = point_there h k x sx p ∙ sym (point_there g t y sy p) in
      let labels : part_of own x' ≡ part_of theirs y' = label_there h k here x p ∙ sym same ∙ sym (label_there g t there y p) in
      boxes_agree h g here there (k ∷ []) alike lies d d' x' y' sx' sy' (ap (λ (s : Span). s ∷ []) spans)
      (inner_values (k ∷ []) here x' no_value ∙ labels ∙ sym (inner_values (t ∷ []) there y' no_value))

  covered_one : ((x : Row) → In x rows → IsCovered theirs t others' (part_of own x) (span_in k x)) → is_referenced (k ∷ []) here there rows others' ≡ true
  covered_one covered =
      (refers h g here there (k ∷ []) alike lies d d' rows others').1 (λ z i.
      let w = (In-unpack1 row_cmp row_total row_separates (attribute k) rows z).0 i in
      let p : ℤ = w.1 in
      let ends = (In-members (span_in k w.0) p).0 w.3 in
      let c = (covered w.0 w.2).each p ends.0 ends.1 in
      let m : In c.0 others' = (among_in c.0 others').0 c.1 in
      let y' : Row = put_span c.0 t (at_point p) in
      let j : In y' (unpacked (t ∷ []) others') =
      (In-unpack1 row_cmp row_total row_separates (attribute t) others' y').1 (c.0, p, m, (In-members (span_in t c.0) p).1 (c.3, c.4), refl) in
      let sx' : IsShaped h (k ∷ []) (put_span w.0 k (at_point p)) = subst (λ (r : Row). IsShaped h (k ∷ []) r) w.4 (opened_shaped h (k ∷ []) intervals rows up shaped z i) in
      let sy' : IsShaped g (t ∷ []) y' = opened_shaped g (t ∷ []) intervals' others' up' shaped' y' j in
      (y', j, ap (part_of here) w.4 ∙ opened_agree w.0 c.0 p (shaped w.0 w.2) (shaped' c.0 m) sx' sy' c.2))

-- the attribute that alone is unpacked, and the positions of the rest of the key
pub covered_referred : (h g : Heading) (here there commalist : List ℕ) → AreAlike h here g there → AreAmong here commalist → IsDistinct nat_eq here → IsDistinct nat_eq there
    → AreIntervals h commalist → AreIntervals g (map (counterpart here there) commalist) → (rows others' : List Row) → Ascends row_cmp rows → Ascends row_cmp others'
    → ((x : Row) → In x rows → IsShaped h commalist x) → ((x : Row) → In x others' → IsShaped g (map (counterpart here there) commalist) x)
    → (i t : ℕ) → length commalist ≡ 1 → i ≡ get_or commalist 0 0 → t ≡ counterpart here there i
    → (own theirs : List ℕ) → own ≡ unlisted commalist here → theirs ≡ unlisted (map (counterpart here there) commalist) there
    → All (λ x. IsCovered theirs t others' (part_of own x) (span_in i x)) rows → is_referenced commalist here there rows others' ≡ true
covered_referred h g here there [] alike lies d d' intervals intervals' rows others' up up' shaped shaped' i t one is be own theirs ours rest all = absurd (omega arith)
covered_referred h g here there (k ∷ j ∷ commalist) alike lies d d' intervals intervals' rows others' up up' shaped shaped' i t one is be own theirs ours rest all = absurd (omega arith)
covered_referred h g here there (k ∷ []) alike lies d d' intervals intervals' rows others' up up' shaped shaped' i t one is be own theirs ours rest all =
    covered_one h g here there k alike lies d d' intervals intervals' rows others' up up' shaped shaped' (λ x m.
    subst (λ (q : ℕ × ℕ × List ℕ × List ℕ). IsCovered q.3 q.1 others' (part_of q.2 x) (span_in q.0 x)) (λ s. (is s, (be ∙ ap (counterpart here there) is) s, ours s, rest s))
    (in_all (λ x. IsCovered theirs t others' (part_of own x) (span_in i x)) rows all x m))

pub interval_there : (g : Heading) (here there commalist : List ℕ) (i t : ℕ) → length commalist ≡ 1 → i ≡ get_or commalist 0 0 → t ≡ counterpart here there i
    → AreIntervals g (map (counterpart here there) commalist) → AreIntervals g (t ∷ [])
interval_there g here there [] i t one is be h = absurd (omega arith)
interval_there g here there (k ∷ j ∷ commalist) i t one is be h = absurd (omega arith)
interval_there g here there (k ∷ []) i t one is be h = subst (λ n. AreIntervals g (n ∷ [])) (sym (be ∙ ap (counterpart here there) is)) h

-- the rows of a relation have intervals there
pub spans_held : (r : Relation) → IsRelation r → (at : ℕ) → AreIntervals r.heading (at ∷ []) → (rows : List Row) → rows ≡ r.rows → All (HasInterval at) rows
spans_held r is at intervals rows same = subst (λ (zs : List Row). All (HasInterval at) zs) (sym same) (All-In (HasInterval at) r.rows (rows_have_spans r is r.heading refl at intervals))
