-- Two points with no cut between them stand alike to a point or an interval that a comparison is made with.
--     near_point, near_span      how they stand, where none of the value's cuts is between them
--     cmp-alike_left, cmp-alike_right      the order of numbers
--     member-alike_left, member-alike_right      membership
use Rattle.std.specs.Prelude.{◌≡◌, ◌↔◌, ℤ, pos, ◌+ℤ◌, ◌-ℤ◌, ◌≤ℤ◌, ◌<ℤ◌, Bool, IsTrue}
use Rattle.std.proofs.Common.{sym, ◌∙◌, ap, arith}
use Rattle.std.specs.Ordering.{int_cmp}
use Rattle.std.specs.declared.cmp.Ordering.TheVariants.{Less, Greater}
use Rattle.std.specs.Cmp.{int_cmp_is}
use Rattle.std.proofs.lemmas.Bool.Decides.{same_from_decides, Decides-like}
use Rattle.std.proofs.lemmas.Int.{ints, by_lt_z}
use Rattle.point_core.specs.Points.{Line}
use Rattle.interval_core.specs.Members.{Span, has_member}
use Rattle.interval_core.proofs.MembersLemmas.{has_member-between}
use Rattle.value_core.specs.Values.{point, interval}
use Rattle.scalar_core.specs.Cuts.{IsBeside, cuts_at}

-- ---- how two points stand

-- both are before the number, or behind it, or they are one
pub data NearPoint (n p q : ℤ) : Type 0 where
  same : p ≡ q → NearPoint n p q
  below : p <ℤ n → q <ℤ n → NearPoint n p q
  above : n <ℤ p → n <ℤ q → NearPoint n p q

-- both are before the interval and do not meet it, or are between its ends, or behind it and do not meet it, or they are one
pub data NearSpan (j : Span) (p q : ℤ) : Type 0 where
  one : p ≡ q → NearSpan j p q
  before_it : (p +ℤ pos 1) <ℤ j.0 → (q +ℤ pos 1) <ℤ j.0 → NearSpan j p q
  between : j.0 <ℤ p → j.0 <ℤ q → p <ℤ j.1 → q <ℤ j.1 → NearSpan j p q
  behind_it : (j.1 +ℤ pos 1) <ℤ p → (j.1 +ℤ pos 1) <ℤ q → NearSpan j p q

near_at : (n p q : ℤ) → (n ≤ℤ p) ↔ (n ≤ℤ q) → ((n +ℤ pos 1) ≤ℤ p) ↔ ((n +ℤ pos 1) ≤ℤ q) → NearPoint n p q
near_at n p q at next =
    by_lt_z p n
    (λ u. by_lt_z q n (λ v. below u v) (λ v. let w : n ≤ℤ p = at.1 v in absurd (omega (arith, ints))))
    (λ u. by_lt_z n p
    (λ v. let w : (n +ℤ pos 1) ≤ℤ q = next.0 (omega (arith, ints)) in above v (omega (arith, ints)))
    (λ v. let w : n ≤ℤ q = at.0 u in by_lt_z n q
    (λ x. let y : (n +ℤ pos 1) ≤ℤ p = next.1 (omega (arith, ints)) in absurd (omega (arith, ints)))
    (λ x. same (omega (arith, ints)))))

pub near_point : (l : Line) (n p q : ℤ) → IsBeside (cuts_at (point l n)) p q → NearPoint n p q
near_point l n p q h = near_at n p q h.0 h.1.0

-- of two points that are behind the same cut, or before it
before_cut : (c p q : ℤ) → (c ≤ℤ p) ↔ (c ≤ℤ q) → p <ℤ c → q <ℤ c
before_cut c p q h u = by_lt_z q c (λ v. v) (λ v. let w : c ≤ℤ p = h.1 v in absurd (omega (arith, ints)))

pub near_span : (l : Line) (j : Span) (p q : ℤ) → j.0 ≤ℤ j.1 → IsBeside (cuts_at (interval l j)) p q → NearSpan j p q
near_span l j p q ordered h =
    let pre = h.0 in
    let begin = h.1.0 in
    let after_begin = h.1.1.0 in
    let end = h.1.1.1.0 in
    let post = h.1.1.1.1.0 in
    let after_post = h.1.1.1.1.1.0 in
    by_lt_z p (j.0 -ℤ pos 1) (λ u. let v = before_cut (j.0 -ℤ pos 1) p q pre u in before_it (omega (arith, ints)) (omega (arith, ints)))
    (λ low. let low_q = pre.0 low in by_lt_z p j.0 (λ u. let v = before_cut j.0 p q begin u in one (omega (arith, ints)))
    (λ from. let from_q = begin.0 from in by_lt_z p (j.0 +ℤ pos 1) (λ u. let v = before_cut (j.0 +ℤ pos 1) p q after_begin u in one (omega (arith, ints)))
    (λ in_it. let in_q = after_begin.0 in_it in by_lt_z p j.1
    (λ u. let v = before_cut j.1 p q end u in between (omega (arith, ints)) (omega (arith, ints)) u v)
    (λ last. let last_q = end.0 last in by_lt_z p (j.1 +ℤ pos 1) (λ u. let v = before_cut (j.1 +ℤ pos 1) p q post u in one (omega (arith, ints)))
    (λ past. let past_q = post.0 past in by_lt_z p (j.1 +ℤ pos 2) (λ u. let v = before_cut (j.1 +ℤ pos 2) p q after_post u in one (omega (arith, ints)))
    (λ far. let far_q = after_post.0 far in behind_it (omega (arith, ints)) (omega (arith, ints))))))))

pub span_back : (j : Span) (p q : ℤ) → NearSpan j p q → NearSpan j q p
span_back j p q near = elim near [ one e ↦ one (sym e) | before_it a b ↦ before_it b a | between a b c d ↦ between b a d c | behind_it a b ↦ behind_it b a ]

-- as they stand to the ends alone
pub near_begin : (j : Span) (p q : ℤ) → j.0 ≤ℤ j.1 → NearSpan j p q → NearPoint j.0 p q
near_begin j p q ordered near =
    elim near [
      | one e ↦ same e
      | before_it a b ↦ below (omega (arith, ints)) (omega (arith, ints))
      | between a b c d ↦ above a b
      | behind_it a b ↦ above (omega (arith, ints)) (omega (arith, ints))
    ]

pub near_end : (j : Span) (p q : ℤ) → j.0 ≤ℤ j.1 → NearSpan j p q → NearPoint j.1 p q
near_end j p q ordered near =
    elim near [
      | one e ↦ same e
      | before_it a b ↦ below (omega (arith, ints)) (omega (arith, ints))
      | between a b c d ↦ below c d
      | behind_it a b ↦ above (omega (arith, ints)) (omega (arith, ints))
    ]

-- ---- the order of numbers

pub cmp-alike_left : (n p q : ℤ) → NearPoint n p q → int_cmp p n ≡ int_cmp q n
cmp-alike_left n p q near =
    elim near [
      | same e ↦ ap (λ x. int_cmp x n) e
      | below u v ↦ sym (int_cmp_is p n Less u) ∙ int_cmp_is q n Less v
      | above u v ↦ sym (int_cmp_is p n Greater u) ∙ int_cmp_is q n Greater v
    ]

pub cmp-alike_right : (n p q : ℤ) → NearPoint n p q → int_cmp n p ≡ int_cmp n q
cmp-alike_right n p q near =
    elim near [
      | same e ↦ ap (λ x. int_cmp n x) e
      | below u v ↦ sym (int_cmp_is n p Greater u) ∙ int_cmp_is n q Greater v
      | above u v ↦ sym (int_cmp_is n p Less u) ∙ int_cmp_is n q Less v
    ]

-- ---- membership

-- tests of facts that follow from one another
pub alike_tests : (r s : Bool) (P Q : Type 0) → IsTrue r ↔ P → IsTrue s ↔ Q → (P → Q) → (Q → P) → r ≡ s
alike_tests r s P Q h k f g = same_from_decides r s h (Decides-like s g f k)

-- a point is in the interval
in_span : (j : Span) (p q : ℤ) → NearSpan j p q → (j.0 ≤ℤ p) × (p ≤ℤ j.1) → (j.0 ≤ℤ q) × (q ≤ℤ j.1)
in_span j p q near h =
    let h0 = h.0 in let h1 = h.1 in
    elim near [
      | one e ↦ (omega (arith, ints), omega (arith, ints))
      | before_it a b ↦ absurd (omega (arith, ints))
      | between a b c d ↦ (omega (arith, ints), omega (arith, ints))
      | behind_it a b ↦ absurd (omega (arith, ints))
    ]

pub member-alike_left : (j : Span) (p q : ℤ) → NearSpan j p q → has_member j p ≡ has_member j q
member-alike_left j p q near =
    alike_tests (has_member j p) (has_member j q) _ _ (has_member-between j p) (has_member-between j q) (in_span j p q near) (in_span j q p (span_back j p q near))

-- a point is that of an interval of one point
at_span : (n p q : ℤ) → NearPoint n p q → (p ≤ℤ n) × (n ≤ℤ p) → (q ≤ℤ n) × (n ≤ℤ q)
at_span n p q near h =
    let h0 = h.0 in let h1 = h.1 in
    elim near [
      | same e ↦ (omega (arith, ints), omega (arith, ints))
      | below a b ↦ absurd (omega (arith, ints))
      | above a b ↦ absurd (omega (arith, ints))
    ]

point_back : (n p q : ℤ) → NearPoint n p q → NearPoint n q p
point_back n p q near = elim near [ same e ↦ same (sym e) | below a b ↦ below b a | above a b ↦ above b a ]

pub member-alike_right : (n p q : ℤ) → NearPoint n p q → has_member (p, p) n ≡ has_member (q, q) n
member-alike_right n p q near =
    alike_tests (has_member (p, p) n) (has_member (q, q) n) _ _ (has_member-between (p, p) n) (has_member-between (q, q) n)
    (at_span n p q near) (at_span n q p (point_back n p q near))
