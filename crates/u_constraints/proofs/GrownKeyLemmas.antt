-- A key that holds, of other rows: those with the parts of the rows that come tell whether it holds still.
--     In-exchanged      the rows after some have come and others gone
--     rows_touched      those of them with the parts of the rows that come
--     opened_touched      and the unpacked rows
--     key_of_touched      a key of positions that are those parts' or more
use Rattle.std.proofs.Common.{◌≡◌, ◌↔◌, ◌⊎◌, inl, inr, ℕ, Bool, true, List, [], ◌∷◌, map, refl, sym, ◌∙◌}
use Rattle.std.specs.Bool.{IsTrue}
use Rattle.std.proofs.lemmas.Bool.{true≢false}
use Rattle.std.proofs.lemmas.List.{get_or-set_other}
use Rattle.base_core.specs.Sets.{has}
use Rattle.base_core.proofs.SetLemmas.{In, In-in_order}
use Rattle.base_core.proofs.MemberLemmas.{In-map, In-filter, has-In}
use Rattle.base_core.proofs.SetOperatorLemmas.{same_tests, In-union_of, In-difference_of}
use Rattle.base_core.proofs.ListLemmas.{map-In}
use Rattle.value_core.specs.Attributes.{value_at, with_span, put_span}
use Rattle.value_core.specs.Order.{row_total, row_separates}
use Rattle.value_core.specs.RowPacking.{attribute, unpacked}
use Rattle.value_core.specs.Values.{Row, row_cmp}
use Rattle.relation_core.specs.Agreement.{part_of}
use Rattle.relation_core.specs.Growth.{touched}
use Rattle.relation_core.specs.Operators.{united}
use Rattle.relation_core.specs.Parts.{projected}
use Rattle.u_constraints.specs.Constraints.{is_key}
use Rattle.u_constraints.specs.Growth.{exchanged}
use Rattle.u_constraints.proofs.AgreementLemmas.{at, no_value, same_of}
use Rattle.u_constraints.proofs.KeyLemmas.{is_key-AgreeOnce}
use Rattle.u_constraints.proofs.OpenedLemmas.{AllKeep, touched_unpack}
use Rattle.u_constraints.proofs.TouchedLemmas.{IsTouched, each_of_all}

-- whether a part is that of a row that comes
abbrev pub comes : List ℕ → List Row → Row → Bool
comes positions come part = has row_cmp (projected positions come) part

pub In-exchanged : (of gone come : List Row) (x : Row) → In x (exchanged of gone come) ↔ ((In x of ⊎ In x come) × (In x gone → ⊥))
In-exchanged of gone come x =
    let left = In-difference_of row_cmp row_total row_separates x (united of come) gone in
    let all = In-union_of row_cmp row_total row_separates x of come in
    (λ i. let w = left.0 i in (all.0 w.0, w.1), λ w. left.1 (all.1 w.0, w.1))

module _ (positions : List ℕ) (come of gone : List Row) where
  came : (x : Row) → In x come → IsTrue (comes positions come (part_of positions x))
  came x i =
      (has-In row_cmp row_total row_separates (projected positions come) (part_of positions x)).1
      ((In-in_order row_cmp row_total row_separates (part_of positions x) (map (part_of positions) come)).1
      ((In-map (part_of positions) (part_of positions x) come).1 (x, i, refl)))

  -- the rows with the parts of those that come, among all that are left
  pub rows_touched : IsTouched (part_of positions) (comes positions come) of (exchanged of gone come) (exchanged (touched positions come of) gone come)
  rows_touched = record {
    touched = λ x.
        let few = In-exchanged (touched positions come of) gone come x in
        let all = In-exchanged of gone come x in
        let kept = In-filter (λ y. comes positions come (part_of positions y)) x of in (
          λ i. let v = few.0 i in elim v.0 [
            | inl w ↦ (all.1 (inl (kept.0 w).0, v.1), (kept.0 w).1)
            | inr w ↦ (all.1 (inr w, v.1), came x w)
          ],
          λ t. let v = all.0 t.0 in elim v.0 [
            | inl w ↦ few.1 (inl (kept.1 (w, t.1)), v.1)
            | inr w ↦ few.1 (inr w, v.1)
          ],
        );
    rest = λ x i t. elim ((In-exchanged of gone come x).0 i).0 [
      | inl w ↦ w
      | inr w ↦ absurd (true≢false (sym (came x w) ∙ t))
    ];
  }

-- ---- unpacked

pub rows_keep : (commalist positions : List ℕ) → ((i : ℕ) → In i positions → In i commalist → ⊥) → AllKeep (part_of positions) (map attribute commalist)
rows_keep [] positions apart = tt
rows_keep (a ∷ commalist) positions apart = (
  λ x s. map-In (at (put_span x a s)) (at x) positions (λ i m. get_or-set_other x a i (with_span (value_at x a) s) no_value (λ e. apart i m (inl e))),
  rows_keep commalist positions (λ i m w. apart i m (inr w)),
)

module _ (positions : List ℕ) (test : Row → Bool) (old all few : List Row) (is : IsTouched (part_of positions) test old all few) where
  -- unpacked on other positions, rows keep their parts
  pub opened_touched : (commalist : List ℕ) → ((i : ℕ) → In i positions → In i commalist → ⊥) → IsTouched (part_of positions) test (unpacked commalist old) (unpacked commalist all) (unpacked commalist few)
  opened_touched commalist apart = touched_unpack row_cmp row_total row_separates (part_of positions) test (map attribute commalist) (rows_keep commalist positions apart) old all few is

  -- rows that agree on a key agree at positions of it
  parts_agree : (key : List ℕ) → ((i : ℕ) → In i positions → In i key) → (x y : Row) → part_of key x ≡ part_of key y → part_of positions x ≡ part_of positions y
  parts_agree key within x y e = map-In (at x) (at y) positions (λ i m. same_of (at x) (at y) no_value key e i (within i m))

  -- where the old rows have a key, all have it exactly where the touched ones have
  pub key_of_touched : (key : List ℕ) → ((i : ℕ) → In i positions → In i key) → is_key key old ≡ true → is_key key all ≡ is_key key few
  key_of_touched key within held =
      let olds = (is_key-AgreeOnce key old).0 held in
      let alls = is_key-AgreeOnce key all in
      let fews = is_key-AgreeOnce key few in
      same_tests _ _ (
        λ t. fews.1 (λ x y i j e. alls.0 t x y ((is.touched x).0 i).0 ((is.touched y).0 j).0 e),
        λ t. alls.1 (λ x y i j e.
            each_of_all (part_of positions) test old all few is (λ a b. part_of key a ≡ part_of key b → a ≡ b) (λ a b k l _. olds a b k l) (λ a b k l _. fews.0 t a b k l)
            x y i j (parts_agree key within x y e) e),
      )
