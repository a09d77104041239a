-- Rows in order, by their first values.
use Rattle.std.proofs.Common.{◌≡◌, ◌⊎◌, inl, inr, ℕ, zero, suc, ◌+◌, ◌<◌, ◌≤◌, List, [], ◌∷◌, length, get_or, take, drop, map, refl, sym, ap, ap₂, ◌∙◌, subst, arith, eqb-true, nat_eq, true, false, Ordering}
use Rattle.std.specs.declared.cmp.Ordering.TheVariants.{Less, Equal, Greater}
use Rattle.std.specs.Bool.{IsTrue}
use Rattle.std.specs.List.{All}
use Rattle.std.specs.Ordering.{is_lt, ordering_then}
use Rattle.std.proofs.Math.Seq.{drop-cons}
use Rattle.std.proofs.lemmas.Bool.{and_parts, and_from}
use Rattle.base_core.proofs.SetLemmas.{In, Ascends, Ascends-from_sorted}
use Rattle.base_core.proofs.MemberLemmas.{list_all-In}
use Rattle.base_core.proofs.SetOperatorLemmas.{same_tests, is_set-Ascends}
use Rattle.value_core.specs.Values.{Value, Row, Relation, IsRelation, fits_heading, row_cmp, value_cmp, truth}
use Rattle.value_core.specs.Order.{row_total, row_separates}
use Rattle.relation_core.specs.Agreement.{part_of}
use Rattle.relation_core.proofs.AgreementLemmas.{length_of_fit}
use Rattle.u_constraints.specs.Constraints.{is_key}
use Rattle.u_constraints.specs.Prefixes.{counts_from, prefixes_ascend}
use Rattle.u_constraints.proofs.KeyLemmas.{Differ, not_after, is_key-Differ}

-- ---- the part at the first positions

prefix_from : (n : ℕ) (positions : List ℕ) (row : Row) → counts_from n positions ≡ true → n + length positions ≤ length row → part_of positions row ≡ take (length positions) (drop n row)
prefix_from n [] row e l = refl
prefix_from n (i ∷ is) row e l =
    let w = and_parts (nat_eq i n) (counts_from (suc n) is) e in
    let here : i ≡ n = eqb-true i n w.0 in
    let within : n < length row = omega (arith, l) in
    ap₂ (λ (v : Value) (vs : Row). v ∷ vs) (ap (λ k. get_or row k (truth false)) here) (prefix_from (suc n) is row w.1 (omega (arith, l)))
    ∙ sym (ap (λ (vs : Row). take (suc (length is)) vs) (drop-cons row n (truth false) within))

pub part_is_prefix : (positions : List ℕ) (row : Row) → counts_from 0 positions ≡ true → length positions ≤ length row → part_of positions row ≡ take (length positions) row
part_is_prefix positions row e l = prefix_from 0 positions row e (omega (arith, l))

-- the parts of all rows, each long enough
parts_are_prefixes : (positions : List ℕ) (size : ℕ) (rows : List Row) → counts_from 0 positions ≡ true → length positions ≤ size → ((x : Row) → In x rows → length x ≡ size)
    → map (part_of positions) rows ≡ map (take (length positions)) rows
parts_are_prefixes positions size [] e l each = refl
parts_are_prefixes positions size (x ∷ rows) e l each =
    let long = each x (inl refl) in
    ap₂ (λ (z : Row) (zs : List Row). z ∷ zs) (part_is_prefix positions x e (omega (arith, l, long))) (parts_are_prefixes positions size rows e l (λ y i. each y (inr i)))

-- ---- first values keep the order, or tie

then_less : (r s t : Ordering) → ordering_then r s ≡ Less → (s ≡ Less → (t ≡ Less) ⊎ (t ≡ Equal)) → (ordering_then r t ≡ Less) ⊎ (ordering_then r t ≡ Equal)
then_less Less s t e h = inl refl
then_less Equal s t e h = h e
then_less Greater s t e h = cc

pub prefixes_of_less : (k : ℕ) (x y : Row) → row_cmp x y ≡ Less → (row_cmp (take k x) (take k y) ≡ Less) ⊎ (row_cmp (take k x) (take k y) ≡ Equal)
prefixes_of_less zero x y e = inr refl
prefixes_of_less (suc k) [] [] e = inr refl
prefixes_of_less (suc k) [] (w ∷ y) e = inl refl
prefixes_of_less (suc k) (v ∷ x) [] e = cc
prefixes_of_less (suc k) (v ∷ x) (w ∷ y) e =
    then_less (value_cmp v w) (row_cmp x y) (row_cmp (take k x) (take k y)) e (prefixes_of_less k x y)

-- ---- rows in order have different first values exactly where these ascend

ascends_where_differ : (k : ℕ) (rows : List Row) → Ascends row_cmp rows → Differ (map (take k) rows) → IsTrue (prefixes_ascend k rows)
ascends_where_differ k [] a d = refl
ascends_where_differ k (x ∷ []) a d = refl
ascends_where_differ k (x ∷ y ∷ rows) a d =
    let less : row_cmp (take k x) (take k y) ≡ Less = elim (prefixes_of_less k x y a.0.0) [
      | inl e ↦ e
      | inr e ↦ absurd (d.0 (inl (row_separates (take k x) (take k y) e)))
    ] in
    and_from (is_lt (row_cmp (take k x) (take k y))) _ (ap is_lt less) (ascends_where_differ k (y ∷ rows) a.1 d.1)

differ_where_ascends : (rows : List Row) → Ascends row_cmp rows → Differ rows
differ_where_ascends [] a = tt
differ_where_ascends (x ∷ rows) a = (not_after row_cmp row_total row_separates x rows a.0, differ_where_ascends rows a.1)

-- a key of the first attributes holds where the first values of the rows ascend
key_by_prefixes : (positions : List ℕ) (size : ℕ) (rows : List Row) → Ascends row_cmp rows → counts_from 0 positions ≡ true → length positions ≤ size → ((x : Row) → In x rows → length x ≡ size)
    → prefixes_ascend (length positions) rows ≡ is_key positions rows
key_by_prefixes positions size rows a e l each =
    let same = parts_are_prefixes positions size rows e l each in
    let key = is_key-Differ positions rows a in
    let up = is_set-Ascends row_cmp row_total (map (take (length positions)) rows) in
    same_tests _ _ (
      λ h. key.1 (subst (λ (zs : List Row). Differ zs) (sym same) (differ_where_ascends (map (take (length positions)) rows) (up.0 h))),
      λ h. ascends_where_differ (length positions) rows a (subst (λ (zs : List Row). Differ zs) same (key.0 h)),
    )

-- ---- the rows of a relation

-- so many first positions lie in the heading
pub few_first : (n size : ℕ) (positions : List ℕ) → counts_from n positions ≡ true → n ≤ size → All (λ (i : ℕ). i < size) positions → n + length positions ≤ size
few_first n size [] e l within = omega (arith, l)
few_first n size (i ∷ is) e l within =
    let w = and_parts (nat_eq i n) (counts_from (suc n) is) e in
    let here : i ≡ n = eqb-true i n w.0 in
    let below : i < size = within 0 0 (omega arith) in
    let rest = few_first (suc n) size is w.1 (omega (arith, here, below)) (λ k d lt. within (suc k) d (omega (arith, lt))) in
    omega (arith, rest)

pub key_of_relation : (positions : List ℕ) (r : Relation) (count : ℕ) (rows : List Row) → IsRelation r → All (λ (i : ℕ). i < length r.heading) positions → counts_from 0 positions ≡ true
    → count ≡ length positions → rows ≡ r.rows → prefixes_ascend count rows ≡ is_key positions r.rows
key_of_relation positions r count rows is within e size same =
    let fits = list_all-In (fits_heading r.heading) r.rows in
    let few = few_first 0 (length r.heading) positions e (omega arith) within in
    ap₂ prefixes_ascend size same
    ∙ key_by_prefixes positions (length r.heading) r.rows (Ascends-from_sorted row_cmp r.rows is.ascending) e (omega (arith, few)) (λ x i. length_of_fit r.heading x (fits.0 is.fitting x i))
