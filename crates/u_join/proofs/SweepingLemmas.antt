-- The rows that begin within others of their keys, found one row after the other.
use Rattle.std.proofs.Common.{◌≡◌, ◌↔◌, ◌⊎◌, inl, inr, ℕ, ◌+◌, ◌<◌, ◌≤◌, ℤ, ◌≤ℤ◌, Bool, true, false, List, ◌++◌, map, length, get_or, refl, sym, ap, ◌∙◌, subst, arith}
use Rattle.std.specs.declared.cmp.Ordering.TheVariants.{Less, Equal}
use Rattle.std.proofs.lemmas.Bool.{cases_lt}
use Rattle.std.proofs.lemmas.Cmp.{alike_right, tied_back}
use Rattle.std.proofs.lemmas.Int.{ints, by_lt_z}
use Rattle.cell_packing.specs.Covering.{Among}
use Rattle.cell_packing.proofs.AmongLemmas.{among_append, among_map}
use Rattle.cell_boxes.specs.Meetings.{turned}
use Rattle.cell_boxes.specs.Rows.{IsRow}
use Rattle.cell_boxes.proofs.RowLemmas.{one_row, some_row}
use Rattle.value_core.specs.Order.{row_total}
use Rattle.value_core.specs.Values.{Row, row_cmp}
use Rattle.u_join.specs.RowPairs.{Stood, IsUpTo, IsFrom, Ascend, HaveOrder, IsBehind, IsWithin, AreBehind, AreAhead, AreWithin, IsLater, IsMeeting}

-- ---- numbers

up_to_later : (too : Bool) (n p q : ℤ) → p ≤ℤ q → IsUpTo too n p → n ≤ℤ q
up_to_later true n p q l h = omega (arith, ints)
up_to_later false n p q l h = omega (arith, ints)

up_to_more : (too : Bool) (n p q : ℤ) → p ≤ℤ q → IsUpTo too n p → IsUpTo too n q
up_to_more true n p q l h = omega (arith, ints)
up_to_more false n p q l h = omega (arith, ints)

up_to_before : (too : Bool) (m n p : ℤ) → m ≤ℤ n → IsUpTo too n p → IsUpTo too m p
up_to_before true m n p l h = omega (arith, ints)
up_to_before false m n p l h = omega (arith, ints)

from_else : (strict : Bool) (n p : ℤ) → (IsUpTo strict n p → ⊥) → IsFrom strict p n
from_else true n p h = by_lt_z p n (λ l. l) (λ l. absurd (h l))
from_else false n p h = by_lt_z n p (λ l. absurd (h l)) (λ l. l)

from_not : (strict : Bool) (n p : ℤ) → IsFrom strict p n → IsUpTo strict n p → ⊥
from_not true n p h g = omega (arith, ints)
from_not false n p h g = omega (arith, ints)

not_less : (x y : Row) → row_cmp x y ≡ Equal → row_cmp x y ≡ Less → ⊥
not_less x y e l = cc

-- ---- rows that are behind

-- what is behind a point is behind a later one
pub behind_later : (too : Bool) (key : Row) (p q : ℤ) (y : Stood) → p ≤ℤ q → IsBehind too key p y → IsBehind true key q y
behind_later too key p q y l h = elim h [ inl w ↦ inl w | inr w ↦ inr (w.0, up_to_later too y.2.0 p q l w.1) ]

module _ {A : Type 0} (see : A → Stood) where
  -- and so is what stands before it
  pub behind_before : (rows : List A) → Ascend see rows → (too : Bool) (key : Row) (p : ℤ) (i j : ℕ) (x y : A) → i ≤ j → IsRow rows i x → IsRow rows j y → IsBehind too key p (see y) → IsBehind too key p (see x)
  behind_before rows up too key p i j x y l a b h =
      elim (up i j x y l a b) [
        | inl s ↦ inl (elim h [ inl w ↦ row_total.trans (see x).1 (see y).1 key s w | inr w ↦ sym (alike_right row_total (see y).1 key (see x).1 w.0) ∙ s ])
        | inr s ↦ elim h [
          | inl w ↦ inl (row_total.congr (see x).1 (see y).1 key s.0 ∙ w)
          | inr w ↦ inr (row_total.congr (see x).1 (see y).1 key s.0 ∙ w.0, up_to_before too (see x).2.0 (see y).2.0 p s.1 w.1)
        ]
      ]

  pub ahead_here : (rows : List A) → Ascend see rows → (too : Bool) (key : Row) (p : ℤ) (n : ℕ) (x : A) → IsRow rows n x → (IsBehind too key p (see x) → ⊥) → AreAhead see too key p rows n
  ahead_here rows up too key p n x a h j y b l g = h (behind_before rows up too key p n j x y l a b g)

  -- those that are behind the end and not behind the begin begin within
  pub within_range : (strict : Bool) (x : Stood) (rows : List A) (first end : ℕ)
      → AreBehind see strict x.1 x.2.0 rows first → AreAhead see strict x.1 x.2.0 rows first → AreBehind see true x.1 x.2.1 rows end → AreAhead see true x.1 x.2.1 rows end → AreWithin see strict x rows first end
  within_range strict x rows first end before after before' after' j y a = (
    λ h. elim (before' j y a h.1) [
      | inl w ↦ absurd (after j y a h.0 (inl w))
      | inr w ↦ (w.0, from_else strict (see y).2.0 x.2.0 (λ u. after j y a h.0 (inr (w.0, u))), w.1)
    ],
    λ h. (
      elim (cases_lt j first) [
        | inl l ↦ absurd (elim (before j y a l) [ inl w ↦ not_less (see y).1 x.1 h.0 w | inr w ↦ from_not strict (see y).2.0 x.2.0 h.1 w.1 ])
        | inr l ↦ l
      ],
      elim (cases_lt j end) [
        | inl l ↦ l
        | inr l ↦ absurd (after' j y a l (inr (h.0, h.2)))
      ],
    ),
  )

  -- what is behind a row is behind the next
  pub behind_more : (strict : Bool) (from rows : List A) → Ascend see from → (i n : ℕ) (x y : A) → IsRow from i x → IsRow from (i + 1) y
      → AreBehind see strict (see x).1 (see x).2.0 rows n → AreBehind see strict (see y).1 (see y).2.0 rows n
  behind_more strict from rows up i n x y a b old j z h l =
      elim (up i (i + 1) x y (omega arith) a b) [
        | inl s ↦ inl (elim (old j z h l) [ inl w ↦ row_total.trans (see z).1 (see x).1 (see y).1 w s | inr w ↦ row_total.congr (see z).1 (see x).1 (see y).1 w.0 ∙ s ])
        | inr s ↦ elim (old j z h l) [
          | inl w ↦ inl (sym (alike_right row_total (see x).1 (see y).1 (see z).1 s.0) ∙ w)
          | inr w ↦ inr (row_total.congr (see z).1 (see x).1 (see y).1 w.0 ∙ s.0, up_to_more strict (see z).2.0 (see x).2.0 (see y).2.0 s.1 w.1)
        ]
      ]

  -- one more row with those that begin within it
  pub later_turn : (strict : Bool) (from rows : List A) (i : ℕ) (x : A) → IsRow from i x → (first end : ℕ) → end ≤ length rows → AreWithin see strict (see x) rows first end
      → (old new : List (ℕ × ℕ)) → ((p : ℕ × ℕ) → Among p new ↔ Among p old ⊎ ((p.0 ≡ i) × (first ≤ p.1) × (p.1 < end)))
      → ((p : ℕ × ℕ) → Among p old ↔ (p.0 < i) × IsLater see strict from rows p)
      → (p : ℕ × ℕ) → Among p new ↔ (p.0 < i + 1) × IsLater see strict from rows p
  later_turn strict from rows i x at first end within range old new made before p =
      let m = made p in
      let b = before p in (
        λ h. elim (m.0 h) [
          | inl w ↦ let v = b.0 w in let l = v.0 in (omega arith, v.1)
          | inr w ↦
              let l = w.2 in
              let e = w.0 in
              let below : p.1 < length rows = omega arith in
              let y : A = get_or rows p.1 x in
              let r : IsRow rows p.1 y = some_row rows p.1 x below in
              (omega arith, (x, y, subst (λ n. IsRow from n x) (sym w.0) at, r, (range p.1 y r).0 (w.1, w.2)))
        ],
        λ h. elim (cases_lt p.0 i) [
          | inl l ↦ m.1 (inl (b.1 (l, h.1)))
          | inr l ↦
              let k = h.0 in
              let e : p.0 ≡ i = omega arith in
              let w = h.1 in
              let same : w.0 ≡ x = one_row from i w.0 x (subst (λ n. IsRow from n w.0) e w.2) at in
              let q = (range p.1 w.1 w.3).1 (subst (λ z. IsWithin strict (see z) (see w.1)) same w.4) in
              m.1 (inr (e, q.0, q.1))
        ],
      )

  -- ---- both ways

  module _ (left right : List A) (ls : HaveOrder see left) (rs : HaveOrder see right) where
    meeting_one : (p : ℕ × ℕ) → IsLater see false left right p → IsMeeting see left right p
    meeting_one p w =
        let b = w.4.1 in
        let e = w.4.2 in
        let o = rs p.1 w.1 w.3 in
        (w.0, w.1, w.2, w.3, tied_back row_total (see w.1).1 (see w.0).1 w.4.0, (omega (arith, ints), e))

    meeting_other : (p : ℕ × ℕ) → IsLater see true right left (turned p) → IsMeeting see left right p
    meeting_other p w =
        let b = w.4.1 in
        let e = w.4.2 in
        let o = ls p.0 w.1 w.3 in
        (w.1, w.0, w.3, w.2, w.4.0, (e, omega (arith, ints)))

    one_within : (p : ℕ × ℕ) → IsMeeting see left right p → IsLater see false left right p ⊎ IsLater see true right left (turned p)
    one_within p w =
        by_lt_z (see w.1).2.0 (see w.0).2.0
        (λ l. inr (w.1, w.0, w.3, w.2, (w.4, l, w.5.0)))
        (λ l. inl (w.0, w.1, w.2, w.3, (tied_back row_total (see w.0).1 (see w.1).1 w.4, l, w.5.1)))

    pub both_ways : (lefts rights all : List (ℕ × ℕ)) → all ≡ lefts ++ map turned rights
        → ((p : ℕ × ℕ) → Among p lefts ↔ IsLater see false left right p) → ((p : ℕ × ℕ) → Among p rights ↔ IsLater see true right left p)
        → (p : ℕ × ℕ) → Among p all ↔ IsMeeting see left right p
    both_ways lefts rights all made one other p =
        let a = among_append p lefts (map turned rights) in
        let m = among_map turned p rights in (
          λ h. elim (a.0 (subst (Among p) made h)) [
            | inl w ↦ meeting_one p ((one p).0 w)
            | inr w ↦ let v = m.0 w in meeting_other p (subst (IsLater see true right left) (ap turned v.2) ((other v.0).0 v.1))
          ],
          λ h. subst (Among p) (sym made) (a.1 (elim (one_within p h) [ inl w ↦ inl ((one p).1 w) | inr w ↦ inr (m.1 (turned p, (other (turned p)).1 w, refl)) ])),
        )
