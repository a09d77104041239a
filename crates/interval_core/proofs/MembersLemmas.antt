-- The members of an interval are the numbers from its first to its last.
use Rattle.std.proofs.Common.{◌≡◌, ◌↔◌, inl, inr, ℕ, zero, suc, ℤ, pos, negsuc, ◌+ℤ◌, ◌-ℤ◌, ◌≤ℤ◌, ◌<ℤ◌, Bool, refl, arith}
use Rattle.std.specs.Bool.{IsTrue}
use Rattle.std.specs.Ordering.{int_cmp}
use Rattle.std.specs.FinMap.{int_cmp-IsAntisymmetric}
use Rattle.std.proofs.lemmas.Cmp.{int_cmp_total}
use Rattle.std.proofs.lemmas.Bool.Decides.{same_from_decides}
use Rattle.std.proofs.lemmas.Int.{ints, by_lt_z}
use Rattle.base_core.proofs.SetLemmas.{In}
use Rattle.base_core.proofs.MemberLemmas.{has-In}
use Rattle.interval_core.specs.Members.{Span, numbers_from, count_of, members, has_member}

pub In-numbers_from : (n : ℕ) (b p : ℤ) → In p (numbers_from n b) ↔ ((b ≤ℤ p) × (p <ℤ (b +ℤ pos n)))
In-numbers_from zero b p = (λ h. absurd h, λ h. let k = h.0 in let l = h.1 in absurd (omega (arith, ints)))
In-numbers_from (suc n) b p =
    let rest = In-numbers_from n (b +ℤ pos 1) p in (
      λ h. elim h [ inl e ↦ (omega (arith, ints), omega (arith, ints)) | inr w ↦ let v = rest.0 w in let k = v.0 in let l = v.1 in (omega (arith, ints), omega (arith, ints)) ],
      λ h. let k = h.0 in let l = h.1 in by_lt_z b p (λ u. inr (rest.1 (omega (arith, ints), omega (arith, ints)))) (λ u. inl (omega (arith, ints))),
    )

pub In-members : (i : Span) (p : ℤ) → In p (members i) ↔ ((i.0 ≤ℤ p) × (p ≤ℤ i.1))
unfolding members
In-members i p = counted ((i.1 +ℤ pos 1) -ℤ i.0) refl
  where
    counted : (d : ℤ) → (i.1 +ℤ pos 1) -ℤ i.0 ≡ d → In p (numbers_from (count_of d) i.0) ↔ ((i.0 ≤ℤ p) × (p ≤ℤ i.1))
    counted (pos n) e = let w = In-numbers_from n i.0 p in (
      λ h. let v = w.0 h in let k = v.0 in let l = v.1 in (k, omega (arith, ints)),
      λ h. let k = h.0 in let l = h.1 in w.1 (k, omega (arith, ints)),
    )
    counted (negsuc n) e = (λ h. absurd h, λ h. let k = h.0 in let l = h.1 in absurd (omega (arith, ints)))

pub has_member-In : (i : Span) (p : ℤ) → IsTrue (has_member i p) ↔ In p (members i)
has_member-In i p = has-In int_cmp int_cmp_total int_cmp-IsAntisymmetric (members i) p

pub has_member-between : (i : Span) (p : ℤ) → IsTrue (has_member i p) ↔ ((i.0 ≤ℤ p) × (p ≤ℤ i.1))
has_member-between i p =
    let w = has_member-In i p in
    let v = In-members i p in
    (λ h. v.0 (w.0 h), λ h. w.1 (v.1 h))

-- a test of the ends is the test of the members
pub same_as_has_member : (i : Span) (p : ℤ) (r : Bool) → IsTrue r ↔ ((i.0 ≤ℤ p) × (p ≤ℤ i.1)) → r ≡ has_member i p
same_as_has_member i p r h = same_from_decides r (has_member i p) h (has_member-between i p)
