-- Rows that come and rows that go, and which of them tell two sets of rows apart.
--     exchanged_after      taken out first, and then put in
--     none_gone      where none go
--     fewer_come      the rows that come are all there afterwards
--     differ_exact, exchanged_to      what one set has and another lacks makes the one of the other
--     fewer_left      none are more where some are taken out
use Rattle.std.proofs.Common.{◌≡◌, ◌↔◌, ◌⊎◌, inl, inr, ℕ, ◌<◌, ◌≤◌, Bool, true, false, not, List, [], ◌∷◌, length, refl, sym, ap, ◌∙◌, arith}
use Rattle.std.specs.List.{filter}
use Rattle.std.proofs.lemmas.Bool.{false_from_ne_true, both_ways}
use Rattle.base_core.specs.Sets.{has}
use Rattle.base_core.proofs.MemberLemmas.{In-filter}
use Rattle.base_core.proofs.SetLemmas.{In, Ascends}
use Rattle.base_core.proofs.SetOperatorLemmas.{Ascends-filter, In-union_of, In-difference_of, Ascends-union_of, Ascends-difference_of}
use Rattle.value_core.specs.Order.{row_total, row_separates}
use Rattle.value_core.specs.Values.{Row, row_cmp}
use Rattle.relation_core.specs.Operators.{united, subtracted}
use Rattle.relation_core.proofs.FilterLemmas.{length-filter_at_most}
use Rattle.log_times.specs.Turns.{exchanged, IsExact}
use Rattle.log_times.proofs.TurnLemmas.{has_In, one_set}

-- ---- members

In_united : (xs ys : List Row) (x : Row) → In x (united xs ys) ↔ (In x xs ⊎ In x ys)
In_united xs ys x = In-union_of row_cmp row_total row_separates x xs ys

pub In_subtracted : (xs ys : List Row) (x : Row) → In x (subtracted xs ys) ↔ (In x xs × (In x ys → ⊥))
In_subtracted xs ys x = In-difference_of row_cmp row_total row_separates x xs ys

pub In_exchanged : (rows come gone : List Row) (x : Row) → In x (exchanged rows come gone) ↔ ((In x rows ⊎ In x come) × (In x gone → ⊥))
In_exchanged rows come gone x =
    let d = In_subtracted (united rows come) gone x in
    let u = In_united rows come x in
    (λ h. let k = d.0 h in (u.0 k.0, k.1), λ h. d.1 (u.1 h.0, h.1))

pub exchanged_ascends : (rows come gone : List Row) → Ascends row_cmp (exchanged rows come gone)
exchanged_ascends rows come gone = Ascends-difference_of row_cmp row_total row_separates (united rows come) gone (Ascends-union_of row_cmp row_total row_separates rows come)

pub has_not : (xs : List Row) (x : Row) → (In x xs → ⊥) → has row_cmp xs x ≡ false
has_not xs x n = false_from_ne_true (has row_cmp xs x) (λ e. n ((has_In xs x).0 e))

pub not_In : (xs : List Row) (x : Row) → has row_cmp xs x ≡ false → In x xs → ⊥
not_In xs x f i = both_ways (has row_cmp xs x) f ((has_In xs x).1 i)

pub there_or_not : (xs : List Row) (x : Row) → In x xs ⊎ (In x xs → ⊥)
there_or_not xs x = by (has row_cmp xs x) refl
  where
    by : (b : Bool) → has row_cmp xs x ≡ b → In x xs ⊎ (In x xs → ⊥)
    by true e = inl ((has_In xs x).0 e)
    by false e = inr (not_In xs x e)

-- a set within another has no more members
fewer_within : (xs ys : List Row) → Ascends row_cmp xs → Ascends row_cmp ys → ((x : Row) → In x xs → In x ys) → length xs ≤ length ys
fewer_within xs ys up over within =
    let part : filter (has row_cmp xs) ys ≡ xs = one_set (filter (has row_cmp xs) ys) xs (Ascends-filter row_cmp (has row_cmp xs) ys over) up (λ x.
    let f = In-filter (has row_cmp xs) x ys in
    (λ h. (has_In xs x).0 (f.0 h).1, λ i. f.1 (within x i, (has_In xs x).1 i))) in
    let size = ap (λ (l : List Row). length l) part in
    let less = length-filter_at_most (has row_cmp xs) ys in
    omega (arith, size, less)

pub fewer_left : (most : ℕ) (rows gone : List Row) → length rows ≤ most → most < length (subtracted rows gone) → ⊥
fewer_left most rows gone few many = let less = length-filter_at_most (λ (x : Row). not (has row_cmp gone x)) rows in absurd (omega (arith, few, many, less))

pub all_left : (rows : List Row) → rows ≡ subtracted rows []
all_left [] = refl
all_left (x ∷ rows) = ap (λ (l : List Row). x ∷ l) (all_left rows)

-- ---- rows that come and go

module _ (rows come gone : List Row) (exact : IsExact rows come gone) where
  come_stays : (x : Row) → In x come → In x gone → ⊥
  come_stays x c g = not_In rows x (exact.new x ((has_In come x).1 c)) ((has_In rows x).0 (exact.there x ((has_In gone x).1 g)))

  come_there : (x : Row) → In x come → In x (exchanged rows come gone)
  come_there x c = (In_exchanged rows come gone x).1 (inr c, come_stays x c)

  pub exchanged_after : united (subtracted rows gone) come ≡ exchanged rows come gone
  exchanged_after =
      one_set (united (subtracted rows gone) come) (exchanged rows come gone) (Ascends-union_of row_cmp row_total row_separates (subtracted rows gone) come) (exchanged_ascends rows come gone) (λ x.
      let u = In_united (subtracted rows gone) come x in
      let d = In_subtracted rows gone x in
      let e = In_exchanged rows come gone x in (
        λ h. elim (u.0 h) [ inl l ↦ let k = d.0 l in e.1 (inl k.0, k.1) | inr c ↦ come_there x c ],
        λ h. let k = e.0 h in u.1 (elim k.0 [ inl r ↦ inl (d.1 (r, k.1)) | inr c ↦ inr c ]),
      ))

  pub none_gone : gone ≡ [] → united rows come ≡ exchanged rows come gone
  none_gone none = ap (λ (l : List Row). united l come) (all_left rows ∙ ap (subtracted rows) (sym none)) ∙ exchanged_after

  pub fewer_come : Ascends row_cmp come → length come ≤ length (exchanged rows come gone)
  fewer_come up = fewer_within come (exchanged rows come gone) up (exchanged_ascends rows come gone) come_there

-- ---- from one set to another

pub differ_exact : (before now : List Row) → IsExact before (subtracted now before) (subtracted before now)
differ_exact before now = record {
  new = λ x h. has_not before x (((In_subtracted now before x).0 ((has_In (subtracted now before) x).0 h)).1);
  there = λ x h. (has_In before x).1 (((In_subtracted before now x).0 ((has_In (subtracted before now) x).0 h)).0);
}

pub exchanged_to : (before now : List Row) → Ascends row_cmp now → exchanged before (subtracted now before) (subtracted before now) ≡ now
exchanged_to before now up =
    one_set (exchanged before (subtracted now before) (subtracted before now)) now (exchanged_ascends before (subtracted now before) (subtracted before now)) up (λ x. (forward x, backward x))
  where
    stays : (x : Row) → In x before → (In x (subtracted before now) → ⊥) → In x now
    stays x b left = elim (there_or_not now x) [ inl i ↦ i | inr n ↦ absurd (left ((In_subtracted before now x).1 (b, n))) ]

    forward : (x : Row) → In x (exchanged before (subtracted now before) (subtracted before now)) → In x now
    forward x h =
        let k = (In_exchanged before (subtracted now before) (subtracted before now) x).0 h in
        elim k.0 [ inl b ↦ stays x b k.1 | inr c ↦ ((In_subtracted now before x).0 c).0 ]

    backward : (x : Row) → In x now → In x (exchanged before (subtracted now before) (subtracted before now))
    backward x i =
        (In_exchanged before (subtracted now before) (subtracted before now) x).1 (
          elim (there_or_not before x) [ inl b ↦ inl b | inr n ↦ inr ((In_subtracted now before x).1 (i, n)) ],
          λ g. ((In_subtracted before now x).0 g).1 i,
        )
