-- What two intervals' members tell of each other, their ends tell.
use Rattle.std.proofs.Common.{◌≡◌, ◌⊎◌, ◌↔◌, inl, inr, ℤ, pos, ◌+ℤ◌, ◌≤ℤ◌, ◌<ℤ◌, Bool, not, ◌||◌, sym, ap₂, subst, arith}
use Rattle.std.specs.Prelude.{int_lt}
use Rattle.std.specs.Bool.{IsTrue}
use Rattle.std.specs.List.{list_all}
use Rattle.std.specs.Ordering.{int_cmp, int_eq}
use Rattle.std.specs.FinMap.{int_cmp-IsAntisymmetric}
use Rattle.std.proofs.lemmas.Cmp.{int_cmp_total}
use Rattle.std.proofs.lemmas.Bool.{or_cases, or_left, or_right, and_parts, and_from, not_from_false, false_from_ne_true}
use Rattle.std.proofs.lemmas.Bool.Decides.{Decides-int_eq, same_from_decides}
use Rattle.std.proofs.lemmas.Int.{ints, by_lt_z}
use Rattle.base_core.proofs.SetLemmas.{In}
use Rattle.base_core.proofs.MemberLemmas.{list_all-In, list_any-In}
use Rattle.base_core.proofs.SetOperatorLemmas.{are_same-In}
use Rattle.base_core.proofs.IntLemmas.{lt-int_lt, int_lt-lt}
use Rattle.interval_core.specs.Members.{Span, members, has_member}
use Rattle.interval_core.specs.Comparisons.{equals, includes, included_in, before, after, overlaps, meets, merges, begins, ends}
use Rattle.interval_core.proofs.MembersLemmas.{In-members, has_member-between}

pub overlaps-ends : (i j : Span) → i.0 ≤ℤ i.1 → j.0 ≤ℤ j.1 → IsTrue (overlaps i j) ↔ ((i.0 ≤ℤ j.1) × (j.0 ≤ℤ i.1))
overlaps-ends i j l m =
    let w = list_any-In (has_member i) (members j) in (
      λ h. let v = w.0 h in
          let a = (has_member-between i v.0).0 v.2 in
          let b = (In-members j v.0).0 v.1 in
          (omega (arith, ints, a.0, a.1, b.0, b.1), omega (arith, ints, a.0, a.1, b.0, b.1)),
      λ h. let h0 = h.0 in let h1 = h.1 in by_lt_z i.0 j.0
          (λ u. w.1 (j.0, (In-members j j.0).1 (omega (arith, ints), m), (has_member-between i j.0).1 (omega (arith, ints), h1)))
          (λ u. w.1 (i.0, (In-members j i.0).1 (u, h0), (has_member-between i i.0).1 (omega (arith, ints), l))),
    )

-- the last of one is directly before the first of the other
adjoin : (i j : Span) → IsTrue (int_eq (i.1 +ℤ pos 1) j.0 || int_eq (j.1 +ℤ pos 1) i.0) ↔ ((i.1 +ℤ pos 1 ≡ j.0) ⊎ (j.1 +ℤ pos 1 ≡ i.0))
adjoin i j =
    let x = Decides-int_eq (i.1 +ℤ pos 1) j.0 in
    let y = Decides-int_eq (j.1 +ℤ pos 1) i.0 in (
      λ h. elim (or_cases (int_eq (i.1 +ℤ pos 1) j.0) (int_eq (j.1 +ℤ pos 1) i.0) h) [ inl e ↦ inl (x.0 e) | inr e ↦ inr (y.0 e) ],
      λ h. elim h [ inl e ↦ or_left (int_eq (i.1 +ℤ pos 1) j.0) _ (x.1 e) | inr e ↦ or_right (int_eq (i.1 +ℤ pos 1) j.0) _ (y.1 e) ],
    )

pub meets-ends : (i j : Span) → i.0 ≤ℤ i.1 → j.0 ≤ℤ j.1 → IsTrue (meets i j) ↔ ((i.1 +ℤ pos 1 ≡ j.0) ⊎ (j.1 +ℤ pos 1 ≡ i.0))
meets-ends i j l m =
    let o = overlaps-ends i j l m in
    let a = adjoin i j in (
      λ h. a.0 (and_parts (not (overlaps i j)) _ h).1,
      λ h. and_from (not (overlaps i j)) _
          (not_from_false (overlaps i j) (false_from_ne_true (overlaps i j) (λ e. let v = o.0 e in let v0 = v.0 in let v1 = v.1 in elim h [ inl e ↦ omega (arith, ints) | inr e ↦ omega (arith, ints) ])))
          (a.1 h),
    )

pub merges-ends : (i j : Span) → i.0 ≤ℤ i.1 → j.0 ≤ℤ j.1 → IsTrue (merges i j) ↔ ((i.0 ≤ℤ (j.1 +ℤ pos 1)) × (j.0 ≤ℤ (i.1 +ℤ pos 1)))
merges-ends i j l m =
    let o = overlaps-ends i j l m in
    let a = meets-ends i j l m in (
      λ h. elim (or_cases (overlaps i j) (meets i j) h) [
        | inl e ↦ let v = o.0 e in let v0 = v.0 in let v1 = v.1 in (omega (arith, ints), omega (arith, ints))
        | inr e ↦ elim (a.0 e) [ inl k ↦ (omega (arith, ints), omega (arith, ints)) | inr k ↦ (omega (arith, ints), omega (arith, ints)) ]
      ],
      λ h. let h0 = h.0 in let h1 = h.1 in by_lt_z j.1 i.0
          (λ u. or_right (overlaps i j) _ (a.1 (inr (omega (arith, ints)))))
          (λ u. by_lt_z i.1 j.0
          (λ v. or_right (overlaps i j) _ (a.1 (inl (omega (arith, ints)))))
          (λ v. or_left (overlaps i j) _ (o.1 (u, v)))),
    )

pub includes-ends : (i j : Span) → i.0 ≤ℤ i.1 → j.0 ≤ℤ j.1 → IsTrue (includes i j) ↔ ((i.0 ≤ℤ j.0) × (j.1 ≤ℤ i.1))
includes-ends i j l m =
    let w = list_all-In (has_member i) (members j) in (
      λ h.
          let a = (has_member-between i j.0).0 (w.0 h j.0 ((In-members j j.0).1 (omega (arith, ints), m))) in
          let b = (has_member-between i j.1).0 (w.0 h j.1 ((In-members j j.1).1 (m, omega (arith, ints)))) in
          (a.0, b.1),
      λ h. let h0 = h.0 in let h1 = h.1 in w.1 (λ p k.
          let b = (In-members j p).0 k in let b0 = b.0 in let b1 = b.1 in
          (has_member-between i p).1 (omega (arith, ints), omega (arith, ints))),
    )

pub included_in-ends : (i j : Span) → i.0 ≤ℤ i.1 → j.0 ≤ℤ j.1 → IsTrue (included_in i j) ↔ ((j.0 ≤ℤ i.0) × (i.1 ≤ℤ j.1))
included_in-ends i j l m = includes-ends j i m l

pub equals-ends : (i j : Span) → i.0 ≤ℤ i.1 → j.0 ≤ℤ j.1 → IsTrue (equals i j) ↔ ((i.0 ≡ j.0) × (i.1 ≡ j.1))
equals-ends i j l m =
    let w = are_same-In int_cmp int_cmp_total int_cmp-IsAntisymmetric (members i) (members j) in (
      λ h.
          let at = w.0 h in
          let a = (In-members j i.0).0 ((at i.0).0 ((In-members i i.0).1 (omega (arith, ints), l))) in
          let b = (In-members j i.1).0 ((at i.1).0 ((In-members i i.1).1 (l, omega (arith, ints)))) in
          let c = (In-members i j.0).0 ((at j.0).1 ((In-members j j.0).1 (omega (arith, ints), m))) in
          let d = (In-members i j.1).0 ((at j.1).1 ((In-members j j.1).1 (m, omega (arith, ints)))) in
          let a0 = a.0 in let b1 = b.1 in let c0 = c.0 in let d1 = d.1 in
          (omega (arith, ints), omega (arith, ints)),
      λ h. w.1 (λ p.
          let e : i ≡ j = ap₂ (λ (x y : ℤ). (x, y)) h.0 h.1 in
          (λ k. subst (λ s. In p (members s)) e k, λ k. subst (λ s. In p (members s)) (sym e) k)),
    )

pub before-ends : (i j : Span) → i.0 ≤ℤ i.1 → j.0 ≤ℤ j.1 → IsTrue (before i j) ↔ (i.1 <ℤ j.0)
before-ends i j l m =
    let outer = list_all-In (λ p. list_all (λ q. int_lt p q) (members j)) (members i) in
    let inner = λ (p : ℤ). list_all-In (λ q. int_lt p q) (members j) in (
      λ h. int_lt-lt i.1 j.0 ((inner i.1).0 (outer.0 h i.1 ((In-members i i.1).1 (l, omega (arith, ints)))) j.0 ((In-members j j.0).1 (omega (arith, ints), m))),
      λ h. outer.1 (λ p k. (inner p).1 (λ q n.
          let a = (In-members i p).0 k in let b = (In-members j q).0 n in let a1 = a.1 in let b0 = b.0 in
          lt-int_lt p q (omega (arith, ints)))),
    )

pub after-ends : (i j : Span) → i.0 ≤ℤ i.1 → j.0 ≤ℤ j.1 → IsTrue (after i j) ↔ (j.1 <ℤ i.0)
after-ends i j l m = before-ends j i m l

pub begins-ends : (i j : Span) → i.0 ≤ℤ i.1 → j.0 ≤ℤ j.1 → IsTrue (begins i j) ↔ ((i.0 ≡ j.0) × (i.1 ≤ℤ j.1))
begins-ends i j l m =
    let x = Decides-int_eq i.0 j.0 in
    let y = included_in-ends i j l m in (
      λ h. let w = and_parts (int_eq i.0 j.0) (included_in i j) h in (x.0 w.0, (y.0 w.1).1),
      λ h. let e = h.0 in let k = h.1 in and_from (int_eq i.0 j.0) (included_in i j) (x.1 e) (y.1 (omega (arith, ints), k)),
    )

pub ends-ends : (i j : Span) → i.0 ≤ℤ i.1 → j.0 ≤ℤ j.1 → IsTrue (ends i j) ↔ ((i.1 ≡ j.1) × (j.0 ≤ℤ i.0))
ends-ends i j l m =
    let x = Decides-int_eq i.1 j.1 in
    let y = included_in-ends i j l m in (
      λ h. let w = and_parts (int_eq i.1 j.1) (included_in i j) h in (x.0 w.0, (y.0 w.1).0),
      λ h. let e = h.0 in let k = h.1 in and_from (int_eq i.1 j.1) (included_in i j) (x.1 e) (y.1 (k, omega (arith, ints))),
    )

-- a test of the ends is the test of the members
pub same_as_equals : (i j : Span) (r : Bool) → i.0 ≤ℤ i.1 → j.0 ≤ℤ j.1 → IsTrue r ↔ ((i.0 ≡ j.0) × (i.1 ≡ j.1)) → r ≡ equals i j
same_as_equals i j r l m h = same_from_decides r (equals i j) h (equals-ends i j l m)

pub same_as_includes : (i j : Span) (r : Bool) → i.0 ≤ℤ i.1 → j.0 ≤ℤ j.1 → IsTrue r ↔ ((i.0 ≤ℤ j.0) × (j.1 ≤ℤ i.1)) → r ≡ includes i j
same_as_includes i j r l m h = same_from_decides r (includes i j) h (includes-ends i j l m)

pub same_as_before : (i j : Span) (r : Bool) → i.0 ≤ℤ i.1 → j.0 ≤ℤ j.1 → IsTrue r ↔ (i.1 <ℤ j.0) → r ≡ before i j
same_as_before i j r l m h = same_from_decides r (before i j) h (before-ends i j l m)

pub same_as_meets : (i j : Span) (r : Bool) → i.0 ≤ℤ i.1 → j.0 ≤ℤ j.1 → IsTrue r ↔ ((i.1 +ℤ pos 1 ≡ j.0) ⊎ (j.1 +ℤ pos 1 ≡ i.0)) → r ≡ meets i j
same_as_meets i j r l m h = same_from_decides r (meets i j) h (meets-ends i j l m)

pub same_as_overlaps : (i j : Span) (r : Bool) → i.0 ≤ℤ i.1 → j.0 ≤ℤ j.1 → IsTrue r ↔ ((i.0 ≤ℤ j.1) × (j.0 ≤ℤ i.1)) → r ≡ overlaps i j
same_as_overlaps i j r l m h = same_from_decides r (overlaps i j) h (overlaps-ends i j l m)

pub same_as_merges : (i j : Span) (r : Bool) → i.0 ≤ℤ i.1 → j.0 ≤ℤ j.1 → IsTrue r ↔ ((i.0 ≤ℤ (j.1 +ℤ pos 1)) × (j.0 ≤ℤ (i.1 +ℤ pos 1))) → r ≡ merges i j
same_as_merges i j r l m h = same_from_decides r (merges i j) h (merges-ends i j l m)

pub same_as_begins : (i j : Span) (r : Bool) → i.0 ≤ℤ i.1 → j.0 ≤ℤ j.1 → IsTrue r ↔ ((i.0 ≡ j.0) × (i.1 ≤ℤ j.1)) → r ≡ begins i j
same_as_begins i j r l m h = same_from_decides r (begins i j) h (begins-ends i j l m)

pub same_as_ends : (i j : Span) (r : Bool) → i.0 ≤ℤ i.1 → j.0 ≤ℤ j.1 → IsTrue r ↔ ((i.1 ≡ j.1) × (j.0 ≤ℤ i.0)) → r ≡ ends i j
same_as_ends i j r l m h = same_from_decides r (ends i j) h (ends-ends i j l m)
