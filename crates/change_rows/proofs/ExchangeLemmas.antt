-- What a relation loses and gains where its rows with some labels are packed anew with others, and how many.
--     exchanged_is      then its rows are those that all are packed to
--     is_counted      rows that come are no old ones, and rows that go are
--     come_within, new_within, gone_within      and none are too many where all are not
use Rattle.std.proofs.Common.{◌≡◌, ◌↔◌, ◌⊎◌, inl, inr, ℕ, ◌+◌, ◌≤◌, Bool, true, false, not, List, [], ◌∷◌, length, refl, sym, ap, ◌∙◌, subst, arith, if◌then◌else◌}
use Rattle.std.specs.Bool.{IsTrue}
use Rattle.std.proofs.lemmas.Bool.{true≢false}
use Rattle.std.specs.List.{filter}
use Rattle.base_core.specs.Sets.{has}
use Rattle.base_core.proofs.SetLemmas.{In, Ascends, same_by_members}
use Rattle.base_core.proofs.MemberLemmas.{In-filter, has-In}
use Rattle.base_core.proofs.SetOperatorLemmas.{In-union_of, Ascends-union_of, Ascends-difference_of, Ascends-filter}
use Rattle.value_core.specs.Order.{row_total, row_separates}
use Rattle.value_core.specs.RowPacking.{packed}
use Rattle.value_core.specs.Values.{Row, Heading, row_cmp}
use Rattle.relation_core.specs.Operators.{subtracted, united}
use Rattle.u_set.specs.Boxes.{AreIntervals, others}
use Rattle.u_constraints.specs.Growth.{exchanged}
use Rattle.u_constraints.proofs.GrownKeyLemmas.{In-exchanged}
use Rattle.u_constraints.proofs.TouchedLemmas.{within_length}
use Rattle.u_constraints.proofs.GrowthLemmas.{In-subtracted}
use Rattle.change_rows.proofs.LabelLemmas.{IsSet, packed_set, both, both_set, knows, part, part_known, part_set, known_packed, unknown_packed, packed_known}

-- ---- how many

-- members that pass a test, and those that do not
parted : (p : Row → Bool) (xs : List Row) → length (filter p xs) + length (filter (λ x. not (p x)) xs) ≡ length xs
parted p [] = omega arith
parted p (x ∷ xs) =
    let more = parted p xs in
    elim (p x) as (λ b. length (if b then x ∷ filter p xs else filter p xs) + length (if not b then x ∷ filter (λ y. not (p y)) xs else filter (λ y. not (p y)) xs) ≡ length (x ∷ xs)) [
      | true ↦ omega (arith, more)
      | false ↦ omega (arith, more)
    ]

-- what is taken away of a set and what is left
left_over : (all gone : List Row) → Ascends row_cmp all → Ascends row_cmp gone → ((x : Row) → In x gone → In x all) → length (subtracted all gone) + length gone ≡ length all
left_over all gone up up' within =
    let p : Row → Bool = has row_cmp gone in
    let same : filter p all ≡ gone =
    same_by_members row_cmp row_total row_separates (filter p all) gone (Ascends-filter row_cmp p all up) up' (λ x.
    let f = In-filter p x all in
    let h = has-In row_cmp row_total row_separates gone x in
    (λ i. h.0 (f.0 i).1, λ i. f.1 (within x i, h.1 i))) in
    let both = parted p all in
    let long = ap (λ (zs : List Row). length zs) same in
    omega (arith, both, long)

-- a set and what comes to it
pub joined : (old come : List Row) → Ascends row_cmp old → Ascends row_cmp come → ((x : Row) → In x come → In x old → ⊥) → length (united old come) ≡ length old + length come
joined old come up up' apart =
    let all : List Row = united old come in
    let member = λ (x : Row). In-union_of row_cmp row_total row_separates x old come in
    let ascends : Ascends row_cmp all = Ascends-union_of row_cmp row_total row_separates old come in
    let rest : subtracted all old ≡ come =
    same_by_members row_cmp row_total row_separates (subtracted all old) come (Ascends-difference_of row_cmp row_total row_separates all old ascends) up' (λ x.
    let d = In-subtracted all old x in (
      λ i. let w = d.0 i in elim ((member x).0 w.0) [ inl j ↦ absurd (w.1 j) | inr j ↦ j ],
      λ i. d.1 ((member x).1 (inr i), apart x i),
    )) in
    let both = left_over all old ascends up (λ x i. (member x).1 (inl i)) in
    let long = ap (λ (zs : List Row). length zs) rest in
    omega (arith, both, long)

pub counted : (old gone come : List Row) → Ascends row_cmp old → Ascends row_cmp gone → Ascends row_cmp come → ((x : Row) → In x gone → In x old) → ((x : Row) → In x come → In x old → ⊥)
    → length (exchanged old gone come) + length gone ≡ length old + length come
counted old gone come up up' up'' within apart =
    let all : List Row = united old come in
    let more = joined old come up up'' apart in
    let less = left_over all gone (Ascends-union_of row_cmp row_total row_separates old come) up' (λ x i. (In-union_of row_cmp row_total row_separates x old come).1 (inl (within x i))) in
    omega (arith, more, less)

-- ---- rows with some labels, packed anew

pub either : (b : Bool) → IsTrue b ⊎ (b ≡ false)
either true = inl refl
either false = inr refl

module _ (heading : Heading) (commalist : List ℕ) (intervals : AreIntervals heading commalist) (value few : List Row) (sv : IsSet heading commalist intervals value) (sf : IsSet heading commalist intervals few) where
  abbrev old : List Row
  old = part heading commalist intervals value few sv sf

  abbrev new : List Row
  new = packed commalist (both heading commalist intervals old few)

  abbrev pub whole : List Row
  whole = packed commalist (both heading commalist intervals value few)

  abbrev come : List Row
  come = subtracted new old

  abbrev gone : List Row
  gone = subtracted old new

  abbrev known : Row → Bool
  known x = knows heading commalist intervals value few sv sf (others commalist x)

  old_known : (x : Row) → In x old ↔ (In x value × IsTrue (known x))
  old_known = part_known heading commalist intervals value few sv sf

  old_set : IsSet heading commalist intervals old
  old_set = part_set heading commalist intervals value few sv sf

  new_known : (x : Row) → In x new → IsTrue (known x)
  new_known = packed_known heading commalist intervals value few sv sf

  new_whole : (x : Row) → IsTrue (known x) → In x whole ↔ In x new
  new_whole = known_packed heading commalist intervals value few sv sf

  new_ascends : Ascends row_cmp new
  new_ascends = (packed_set heading commalist intervals (both heading commalist intervals old few) (both_set heading commalist intervals old few old_set sf)).0

  whole_ascends : Ascends row_cmp whole
  whole_ascends = (packed_set heading commalist intervals (both heading commalist intervals value few) (both_set heading commalist intervals value few sv sf)).0

  come_apart : (x : Row) → In x come → In x value → ⊥
  come_apart x i j = let w = (In-subtracted new old x).0 i in w.1 ((old_known x).1 (j, new_known x w.0))

  gone_old : (x : Row) → In x gone → In x value
  gone_old x i = ((old_known x).0 ((In-subtracted old new x).0 i).0).0

  pub is_counted : length (exchanged value gone come) + length gone ≡ length value + length come
  is_counted =
      counted value gone come sv.0 (Ascends-difference_of row_cmp row_total row_separates old new old_set.0) (Ascends-difference_of row_cmp row_total row_separates new old new_ascends)
      gone_old come_apart

  -- new rows are rows of all
  new_in : (x : Row) → In x new → In x whole
  new_in x i = (new_whole x (new_known x i)).1 i

  pub new_within : length new ≤ length whole
  new_within = within_length row_cmp row_total row_separates new whole new_ascends whole_ascends new_in

  pub come_within : length come ≤ length whole
  come_within =
      within_length row_cmp row_total row_separates come whole (Ascends-difference_of row_cmp row_total row_separates new old new_ascends) whole_ascends
      (λ x i. new_in x ((In-subtracted new old x).0 i).0)

  pub gone_within : length gone ≤ length value
  gone_within = within_length row_cmp row_total row_separates gone value (Ascends-difference_of row_cmp row_total row_separates old new old_set.0) sv.0 gone_old

  pub old_within : length old ≤ length value
  old_within = within_length row_cmp row_total row_separates old value old_set.0 sv.0 (λ x i. ((old_known x).0 i).0)

  -- where the relation is packed, its rows with other labels stay
  module _ (are : packed commalist value ≡ value) where
    unknown_whole : (x : Row) → known x ≡ false → In x whole ↔ In x value
    unknown_whole x e =
        let w = unknown_packed heading commalist intervals value few sv sf x e in
        (λ i. subst (λ (rows : List Row). In x rows) are (w.0 i), λ i. w.1 (subst (λ (rows : List Row). In x rows) (sym are) i))

    is_new : (x : Row) → In x new ⊎ (In x new → ⊥)
    is_new x =
        let h = has-In row_cmp row_total row_separates new x in
        elim (either (has row_cmp new x)) [ inl t ↦ inl (h.0 t) | inr e ↦ inr (λ i. true≢false (sym (h.1 i) ∙ e)) ]

    is_old : (x : Row) → In x old ⊎ (In x old → ⊥)
    is_old x =
        let h = has-In row_cmp row_total row_separates old x in
        elim (either (has row_cmp old x)) [ inl t ↦ inl (h.0 t) | inr e ↦ inr (λ i. true≢false (sym (h.1 i) ∙ e)) ]

    into_whole : (x : Row) → In x (exchanged value gone come) → In x whole
    into_whole x i =
        let w = (In-exchanged value gone come x).0 i in
        elim w.0 [
          | inl v ↦ elim (either (known x)) [
            | inl t ↦ elim (is_new x) [ inl n ↦ new_in x n | inr n ↦ absurd (w.1 ((In-subtracted old new x).1 ((old_known x).1 (v, t), n))) ]
            | inr e ↦ (unknown_whole x e).1 v
          ]
          | inr c ↦ new_in x ((In-subtracted new old x).0 c).0
        ]

    from_whole : (x : Row) → In x whole → In x (exchanged value gone come)
    from_whole x i =
        let all = In-exchanged value gone come x in
        elim (either (known x)) [
          | inl t ↦
              let n : In x new = (new_whole x t).0 i in
              let stays : In x gone → ⊥ = λ g. ((In-subtracted old new x).0 g).1 n in
              elim (is_old x) [
                | inl o ↦ all.1 (inl ((old_known x).0 o).0, stays)
                | inr o ↦ all.1 (inr ((In-subtracted new old x).1 (n, o)), stays)
              ]
          | inr e ↦ all.1 (
            inl ((unknown_whole x e).0 i),
            λ g. true≢false (sym ((old_known x).0 ((In-subtracted old new x).0 g).0).1 ∙ e),
          )
        ]

    pub exchanged_is : exchanged value gone come ≡ whole
    exchanged_is =
        same_by_members row_cmp row_total row_separates (exchanged value gone come) whole
        (Ascends-difference_of row_cmp row_total row_separates (united value come) gone (Ascends-union_of row_cmp row_total row_separates value come)) whole_ascends
        (λ x. (into_whole x, from_whole x))
