-- Rows that come and others that go, in turn.
--     taken_more      rows that are taken out in two goes
--     exchanged_turn, exchanged_all      one comes as one goes, and then all have come and gone
--     exchanged_apart      rows that come and go too may stay away
use Rattle.std.proofs.Common.{◌≡◌, inl, inr, ℕ, ◌+◌, take, drop, ◌<◌, true, false, List, [], ◌∷◌, ◌++◌, length, get_or, sym, ap, subst, ◌∙◌, arith, true≢false}
use Rattle.std.proofs.Math.Seq.{take-add}
use Rattle.std.proofs.lemmas.Bool.{false_from_ne_true}
use Rattle.std.proofs.lemmas.List.{take-append-drop}
use Rattle.base_core.specs.Sets.{has, put}
use Rattle.base_core.proofs.SetLemmas.{In, Ascends, Ascends-put, In-put, same_by_members}
use Rattle.base_core.proofs.MemberLemmas.{In-append, has-In}
use Rattle.base_core.proofs.SetOperatorLemmas.{In-difference_of, Ascends-difference_of, In-union_of, Ascends-union_of}
use Rattle.value_core.specs.Values.{Row, row_cmp}
use Rattle.value_core.specs.Order.{row_total, row_separates}
use Rattle.relation_core.specs.Operators.{subtracted, united}
use Rattle.row_removal.proofs.LeavingLemmas.{at_in, from_front}
use Rattle.u_constraints.specs.Growth.{exchanged}
use Rattle.u_constraints.proofs.GrowthLemmas.{all_left}

pub taken_more : (rows first next : List Row) → Ascends row_cmp rows → subtracted (subtracted rows first) next ≡ subtracted rows (first ++ next)
taken_more rows first next up =
    same_by_members row_cmp row_total row_separates (subtracted (subtracted rows first) next) (subtracted rows (first ++ next))
    (Ascends-difference_of row_cmp row_total row_separates (subtracted rows first) next (Ascends-difference_of row_cmp row_total row_separates rows first up))
    (Ascends-difference_of row_cmp row_total row_separates rows (first ++ next) up)
    (λ z.
    let last = In-difference_of row_cmp row_total row_separates z (subtracted rows first) next in
    let one = In-difference_of row_cmp row_total row_separates z rows first in
    let both = In-difference_of row_cmp row_total row_separates z rows (first ++ next) in
    let either = In-append z first next in (
      λ i. both.1 ((one.0 (last.0 i).0).0, λ j. elim (either.0 j) [ inl k ↦ (one.0 (last.0 i).0).1 k | inr k ↦ (last.0 i).1 k ]),
      λ i. last.1 (one.1 ((both.0 i).0, λ j. (both.0 i).1 (either.1 (inl j))), λ j. (both.0 i).1 (either.1 (inr j))),
    ))

-- one more comes, which is none of those that go
come_more : (old come gone : List Row) (x : Row) → (In x gone → ⊥) → put row_cmp x (exchanged old gone come) ≡ exchanged old gone (come ++ x ∷ [])
come_more old come gone x out =
    same_by_members row_cmp row_total row_separates (put row_cmp x (exchanged old gone come)) (exchanged old gone (come ++ x ∷ []))
    (Ascends-put row_cmp row_total row_separates x (exchanged old gone come) (up come)) (up (come ++ x ∷ []))
    (λ z.
    let puts = In-put row_cmp row_total row_separates z x (exchanged old gone come) in
    let now = In-difference_of row_cmp row_total row_separates z (united old come) gone in
    let then = In-difference_of row_cmp row_total row_separates z (united old (come ++ x ∷ [])) gone in
    let before = In-union_of row_cmp row_total row_separates z old come in
    let after = In-union_of row_cmp row_total row_separates z old (come ++ x ∷ []) in
    let more = In-append z come (x ∷ []) in (
      λ i. elim (puts.0 i) [
        | inl e ↦ then.1 (after.1 (inr (more.1 (inr (inl e)))), λ j. out (subst (λ w. In w gone) e j))
        | inr j ↦ then.1 (after.1 (elim (before.0 (now.0 j).0) [ inl k ↦ inl k | inr k ↦ inr (more.1 (inl k)) ]), (now.0 j).1)
      ],
      λ i. let k = then.0 i in elim (after.0 k.0) [
        | inl j ↦ puts.1 (inr (now.1 (before.1 (inl j), k.1)))
        | inr j ↦ elim (more.0 j) [
          | inl m ↦ puts.1 (inr (now.1 (before.1 (inr m), k.1)))
          | inr m ↦ elim m [ inl e ↦ puts.1 (inl e) | inr n ↦ absurd n ]
        ]
      ],
    ))
  where
    up : (rows : List Row) → Ascends row_cmp (exchanged old gone rows)
    up rows = Ascends-difference_of row_cmp row_total row_separates (united old rows) gone (Ascends-union_of row_cmp row_total row_separates old rows)

pub exchanged_turn : (old come gone : List Row) (k more : ℕ) (x : Row) → has row_cmp gone x ≡ false → more ≡ k + 1
    → subtracted (put row_cmp x (exchanged old (take k gone) come)) (take 1 (drop k gone)) ≡ exchanged old (take more gone) (come ++ x ∷ [])
exchanged_turn old come gone k more x other is =
    let out : In x (take k gone) → ⊥ = λ i. true≢false (sym ((has-In row_cmp row_total row_separates gone x).1 (from_front gone k x i)) ∙ other) in
    ap (λ (rs : List Row). subtracted rs (take 1 (drop k gone))) (come_more old come (take k gone) x out)
    ∙ (taken_more (united old (come ++ x ∷ [])) (take k gone) (take 1 (drop k gone)) (Ascends-union_of row_cmp row_total row_separates old (come ++ x ∷ []))
    ∙ ap (λ (gs : List Row). exchanged old gs (come ++ x ∷ [])) (sym (take-add k 1 gone) ∙ ap (λ (n : ℕ). take n gone) (sym is)))

pub exchanged_all : (old come gone : List Row) (k : ℕ) → subtracted (exchanged old (take k gone) come) (drop k gone) ≡ exchanged old gone come
exchanged_all old come gone k =
    taken_more (united old come) (take k gone) (drop k gone) (Ascends-union_of row_cmp row_total row_separates old come) ∙ ap (λ (gs : List Row). exchanged old gs come) (take-append-drop k gone)

-- ---- rows that come and go too

pub exchanged_apart : (old come gone : List Row) → exchanged old gone (subtracted come gone) ≡ exchanged old gone come
exchanged_apart old come gone =
    same_by_members row_cmp row_total row_separates (exchanged old gone (subtracted come gone)) (exchanged old gone come) (up (subtracted come gone)) (up come)
    (λ z.
    let now = In-difference_of row_cmp row_total row_separates z (united old (subtracted come gone)) gone in
    let then = In-difference_of row_cmp row_total row_separates z (united old come) gone in
    let before = In-union_of row_cmp row_total row_separates z old (subtracted come gone) in
    let after = In-union_of row_cmp row_total row_separates z old come in
    let left = In-difference_of row_cmp row_total row_separates z come gone in (
      λ i. then.1 (after.1 (elim (before.0 (now.0 i).0) [ inl j ↦ inl j | inr j ↦ inr (left.0 j).0 ]), (now.0 i).1),
      λ i. now.1 (before.1 (elim (after.0 (then.0 i).0) [ inl j ↦ inl j | inr j ↦ inr (left.1 (j, (then.0 i).1)) ]), (then.0 i).1),
    ))
  where
    up : (rows : List Row) → Ascends row_cmp (exchanged old gone rows)
    up rows = Ascends-difference_of row_cmp row_total row_separates (united old rows) gone (Ascends-union_of row_cmp row_total row_separates old rows)

pub apart_left : (come gone : List Row) (z : Row) → has row_cmp (subtracted come gone) z ≡ true → has row_cmp gone z ≡ false
apart_left come gone z e =
    let out = ((In-difference_of row_cmp row_total row_separates z come gone).0 ((has-In row_cmp row_total row_separates (subtracted come gone) z).0 e)).1 in
    false_from_ne_true (has row_cmp gone z) (λ f. out ((has-In row_cmp row_total row_separates gone z).0 f))

-- a row at a place is one of the rows
pub has_at : (rows : List Row) (i : ℕ) (x : Row) → i < length rows → get_or rows i x ≡ x → has row_cmp rows x ≡ true
has_at rows i x l e = (has-In row_cmp row_total row_separates rows x).1 (subst (λ (w : Row). In w rows) e (at_in rows i x l))

-- where none is left, none goes
pub none_first : (rows gone : List Row) → length gone ≡ 0 → rows ≡ subtracted rows (take 1 gone)
none_first rows [] e = all_left rows
none_first rows (g ∷ gone) e = absurd (omega (arith, e))
