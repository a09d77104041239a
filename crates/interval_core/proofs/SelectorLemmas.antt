-- A selector's members are the points from one to the other without the ends that its brackets leave out.
use Rattle.std.proofs.Common.{◌≡◌, ◌↔◌, ℤ, pos, ◌+ℤ◌, ◌-ℤ◌, ◌≤ℤ◌, ◌<ℤ◌, Bool, true, false, cond, Option, Some, None, Result, Ok, Err, refl, sym, subst, arith}
use Rattle.std.specs.Prelude.{int_le, int_lt}
use Rattle.std.specs.Bool.{IsTrue}
use Rattle.std.proofs.lemmas.Bool.{true≢false}
use Rattle.std.proofs.lemmas.Int.{ints, by_lt_z}
use Rattle.base_core.proofs.SetLemmas.{In}
use Rattle.interval_core.specs.declared.selector.Ends.{Ends}
use Rattle.interval_core.specs.declared.selector.SelectFault.{SelectFault}
use Rattle.interval_core.specs.declared.selector.SelectFault.TheVariants.{Empty}
use Rattle.interval_core.specs.Members.{Span, members}
use Rattle.interval_core.specs.Operators.{prior_number, next_number}
use Rattle.interval_core.specs.Selector.{opens_after, stops_before, first_member, last_member, between, selected}
use Rattle.interval_core.proofs.MembersLemmas.{In-members}

-- p is from b to e, and not an end that the brackets leave out
abbrev pub IsSelected : Ends → ℤ → ℤ → ℤ → Type 0
IsSelected ends b e p = ((b ≤ℤ p) × (IsTrue (opens_after ends) → p ≡ b → ⊥)) × ((p ≤ℤ e) × (IsTrue (stops_before ends) → p ≡ e → ⊥))

from_first : (o : Bool) (last b n p : ℤ) → cond o (next_number last b) (Some b) ≡ Some n → (n ≤ℤ p) ↔ ((b ≤ℤ p) × (IsTrue o → p ≡ b → ⊥))
from_first false last b n p is =
    let e : b ≡ n = cc in
    (λ h. (omega (arith, ints), λ t. absurd (true≢false (sym t))), λ h. let k = h.0 in omega (arith, ints))
from_first true last b n p is = tested (int_lt b last) is
  where
    tested : (r : Bool) → cond r (Some (b +ℤ pos 1)) None ≡ Some n → (n ≤ℤ p) ↔ ((b ≤ℤ p) × (IsTrue true → p ≡ b → ⊥))
    tested false k = absurd (cc)
    tested true k =
        let e : b +ℤ pos 1 ≡ n = cc in (
          λ h. (omega (arith, ints), λ t m. omega (arith, ints)),
          λ h. let u = h.0 in by_lt_z b p (λ v. omega (arith, ints)) (λ v. absurd (h.1 refl (omega (arith, ints)))),
        )

to_last : (s : Bool) (first e n p : ℤ) → cond s (prior_number first e) (Some e) ≡ Some n → (p ≤ℤ n) ↔ ((p ≤ℤ e) × (IsTrue s → p ≡ e → ⊥))
to_last false first e n p is =
    let k : e ≡ n = cc in
    (λ h. (omega (arith, ints), λ t. absurd (true≢false (sym t))), λ h. let l = h.0 in omega (arith, ints))
to_last true first e n p is = tested (int_lt first e) is
  where
    tested : (r : Bool) → cond r (Some (e -ℤ pos 1)) None ≡ Some n → (p ≤ℤ n) ↔ ((p ≤ℤ e) × (IsTrue true → p ≡ e → ⊥))
    tested false k = absurd (cc)
    tested true k =
        let l : e -ℤ pos 1 ≡ n = cc in (
          λ h. (omega (arith, ints), λ t m. omega (arith, ints)),
          λ h. let u = h.0 in by_lt_z p e (λ v. omega (arith, ints)) (λ v. absurd (h.1 refl (omega (arith, ints)))),
        )

-- where there is an interval, it begins at the first member and ends at the last
between-Ok : (x y : Option ℤ) (i : Span) → between x y ≡ Ok i → (x ≡ Some i.0) × (y ≡ Some i.1)
between-Ok None y i is = absurd (cc)
between-Ok (Some b) None i is = absurd (cc)
between-Ok (Some b) (Some e) i is = tested (int_le b e) is
  where
    tested : (r : Bool) → cond r (Ok (b, e)) (Err Empty) ≡ Ok i → (Some b ≡ Some i.0) × (Some e ≡ Some i.1)
    tested false k = absurd (cc)
    tested true k =
        let j : (b, e) ≡ i = cc in
        (subst (λ (s : Span). Some b ≡ Some s.0) j refl, subst (λ (s : Span). Some e ≡ Some s.1) j refl)

pub selected-members : (first last : ℤ) (ends : Ends) (b e : ℤ) (i : Span) → selected first last ends b e ≡ Ok i → (p : ℤ) → In p (members i) ↔ IsSelected ends b e p
selected-members first last ends b e i is p =
    let at = between-Ok (first_member last ends b) (last_member first ends e) i is in
    let x = from_first (opens_after ends) last b i.0 p at.0 in
    let y = to_last (stops_before ends) first e i.1 p at.1 in
    let m = In-members i p in (
      λ h. let k = m.0 h in (x.0 k.0, y.0 k.1),
      λ h. m.1 (x.1 h.0, y.1 h.1),
    )

between-Empty : (x y : Option ℤ) → between x y ≡ Err Empty → (b : ℤ) × (e : ℤ) × (x ≡ Some b) × (y ≡ Some e) × (e <ℤ b)
between-Empty None y is = absurd (cc)
between-Empty (Some b) None is = absurd (cc)
between-Empty (Some b) (Some e) is = (b, e, refl, refl, tested (int_le b e) refl is)
  where
    tested : (r : Bool) → int_le b e ≡ r → cond {A = Result Span SelectFault} r (Ok (b, e)) (Err Empty) ≡ Err Empty → e <ℤ b
    tested false k l = omega (arith, ints)
    tested true k l = absurd (cc)

-- a selector is empty only where no point is left
pub selected-Empty : (first last : ℤ) (ends : Ends) (b e : ℤ) → selected first last ends b e ≡ Err Empty → (p : ℤ) → IsSelected ends b e p → ⊥
selected-Empty first last ends b e is p h =
    let w = between-Empty (first_member last ends b) (last_member first ends e) is in
    let x = (from_first (opens_after ends) last b w.0 p w.2).1 h.0 in
    let y = (to_last (stops_before ends) first e w.1 p w.3).1 h.1 in
    let l = w.4 in
    omega (arith, ints)
