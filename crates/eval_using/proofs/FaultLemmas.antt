-- The least of the faults that a function gives of the members of a list.
use Rattle.std.proofs.Common.{◌≡◌, ◌≢◌, ◌⊎◌, inl, inr, List, [], ◌∷◌, map, get_or, Ok, Err, Option, Some, None, refl, sym, ap, ◌∙◌, subst}
use Rattle.std.specs.declared.cmp.Ordering.TheVariants.{Less, Equal, Greater}
use Rattle.std.specs.Ordering.{nat_cmp, ordering_reverse}
use Rattle.base_core.specs.Outcomes.{least_of_all, with_lesser, lesser}
use Rattle.base_core.proofs.SetLemmas.{In}
use Rattle.point_core.specs.Faults.{OrFault, code_number, place_cmp}
use Rattle.point_core.specs.FaultLaws.{fault_by_place}
use Rattle.point_core.specs.Orders.{fault_order}
use Rattle.point_core.specs.declared.fault.Fault.{Fault}
use Rattle.point_core.specs.declared.fault.Code.{Code}
use Rattle.point_core.specs.declared.fault.Code.TheVariants.{E01, E02, E03, E04, E05, E06, E10, E11, E12, E13, E14, E15, E16, E17, E18, E19, E20, E21, E22, E30, E31, E32, E33, E34, E35, E36, E40, E41, E42, E43, E44, E45, E46}
use Rattle.point_core.specs.LeastFault.{fault_total, IsLeast}
use Rattle.point_core.proofs.LeastFaultLemmas.{least_first, least_min, not_after_itself}
use Rattle.u_row.proofs.RuleLemmas.{least_chain}
use Rattle.point_core.proofs.OrderLemmas.{nat_same, then_same}
use Rattle.cell_sweep.proofs.Turns.{least_iff}

-- ---- faults that tie are one

abbrev codes : List Code
codes =
    E01 ∷ E01 ∷ E02 ∷ E03 ∷ E04 ∷ E05 ∷ E06 ∷ E01 ∷ E01 ∷ E01
    ∷ E10 ∷ E11 ∷ E12 ∷ E13 ∷ E14 ∷ E15 ∷ E16 ∷ E17 ∷ E18 ∷ E19
    ∷ E20 ∷ E21 ∷ E22 ∷ E01 ∷ E01 ∷ E01 ∷ E01 ∷ E01 ∷ E01 ∷ E01
    ∷ E30 ∷ E31 ∷ E32 ∷ E33 ∷ E34 ∷ E35 ∷ E36 ∷ E01 ∷ E01 ∷ E01
    ∷ E40 ∷ E41 ∷ E42 ∷ E43 ∷ E44 ∷ E45 ∷ E46 ∷ []

code_back : (c : Code) → get_or codes (code_number c) E01 ≡ c
code_back E01 = refl
code_back E02 = refl
code_back E03 = refl
code_back E04 = refl
code_back E05 = refl
code_back E06 = refl
code_back E10 = refl
code_back E11 = refl
code_back E12 = refl
code_back E13 = refl
code_back E14 = refl
code_back E15 = refl
code_back E16 = refl
code_back E17 = refl
code_back E18 = refl
code_back E19 = refl
code_back E20 = refl
code_back E21 = refl
code_back E22 = refl
code_back E30 = refl
code_back E31 = refl
code_back E32 = refl
code_back E33 = refl
code_back E34 = refl
code_back E35 = refl
code_back E36 = refl
code_back E40 = refl
code_back E41 = refl
code_back E42 = refl
code_back E43 = refl
code_back E44 = refl
code_back E45 = refl
code_back E46 = refl

code_same : (c d : Code) → code_number c ≡ code_number d → c ≡ d
code_same c d e = sym (code_back c) ∙ ap (λ n. get_or codes n E01) e ∙ code_back d

fault_same : (a b : Fault) → fault_order a b ≡ Equal → a ≡ b
fault_same a b e =
    let w = then_same (place_cmp a.place b.place) (nat_cmp (code_number a.code) (code_number b.code)) (sym (fault_by_place a b) ∙ e) in
    let v = then_same (nat_cmp a.place.line b.place.line) (nat_cmp a.place.column b.place.column) w.0 in
    let line = nat_same a.place.line b.place.line v.0 in
    let column = nat_same a.place.column b.place.column v.1 in
    let code = code_same a.code b.code (nat_same (code_number a.code) (code_number b.code) w.1) in
    λ t. record { place = record { line = line t; column = column t }; code = code t }

by_order : (x y : Fault) (A : Type 0) → (fault_order x y ≡ Less → A) → (fault_order x y ≡ Equal → A) → (fault_order x y ≡ Greater → A) → A
by_order x y A l e g = elim (fault_order x y) as (λ r. fault_order x y ≡ r → A) [ Less ↦ l | Equal ↦ e | Greater ↦ g ] refl

-- so there is one least fault
pub one_least : (Q : Fault → Type 0) (a b : Option Fault) → IsLeast Q a → IsLeast Q b → a ≡ b
one_least Q None None ha hb = refl
one_least Q None (Some e) ha hb = absurd (ha.below e (hb.comes e refl))
one_least Q (Some d) None ha hb = absurd (hb.below d (ha.comes d refl))
one_least Q (Some d) (Some e) ha hb =
    let up : fault_order d e ≢ Greater = ha.below e (hb.comes e refl) in
    let down : fault_order e d ≢ Greater = hb.below d (ha.comes d refl) in
    by_order d e (Some d ≡ Some e)
    (λ l. absurd (down (fault_total.antisymm e d ∙ ap ordering_reverse l)))
    (λ q. ap (λ x. Some x) (fault_same d e q))
    (λ g. absurd (up g))

-- ---- of a list

abbrev pub err_of : {X : Type 0} → OrFault X → Option Fault
err_of (Ok x) = None
err_of (Err e) = Some e

pub some_is : (d e : Fault) → Some d ≡ Some e → d ≡ e
some_is d e h = cc

-- one member more
pub one_more : {X : Type 0} (a : OrFault X) (r : OrFault (List X)) → IsLeast (λ e. (err_of r ≡ Some e) ⊎ (a ≡ Err e)) (err_of (with_lesser fault_order a r))
one_more (Ok v) (Ok vs) = record { comes = λ e q. absurd cc; below = λ d w. elim w [ inl p ↦ absurd cc | inr p ↦ absurd cc ] }
one_more (Ok v) (Err d) = record {
  comes = λ e q. inl q;
  below = λ e w. elim w [ inl p ↦ subst (λ z. fault_order d z ≢ Greater) (some_is d e p) (not_after_itself fault_order fault_total d) | inr p ↦ absurd cc ];
}
one_more (Err c) (Ok vs) =
    least_iff (λ z. (None ≡ Some z) ⊎ (c ≡ z)) (λ e. (None ≡ Some e) ⊎ (Err c ≡ Err e)) (Some c)
    (λ e. (λ w. elim w [ inl p ↦ inl p | inr p ↦ inr (ap (λ x. Err x) p) ], λ w. elim w [ inl p ↦ inl p | inr p ↦ inr cc ]))
    (least_first None c refl)
one_more (Err c) (Err d) =
    least_iff (λ z. (Some c ≡ Some z) ⊎ (d ≡ z)) (λ e. (Some d ≡ Some e) ⊎ (Err c ≡ Err e)) (Some (lesser fault_order c d))
    (λ e. (λ w. elim w [ inl p ↦ inr (ap (λ x. Err x) (some_is c e p)) | inr p ↦ inl (ap (λ x. Some x) p) ], λ w. elim w [ inl p ↦ inr (some_is d e p) | inr p ↦ inl cc ]))
    (least_min (Some c) c d refl)

pub least_given : {X Y : Type 0} (g : X → OrFault Y) (xs : List X) → IsLeast (λ e. (x : X) × In x xs × (g x ≡ Err e)) (err_of (least_of_all fault_order (map g xs)))
least_given g [] = record { comes = λ e q. absurd cc; below = λ d w. absurd w.1 }
least_given {X = X} g (x ∷ xs) =
    let r = least_of_all fault_order (map g xs) in
    let b = err_of (with_lesser fault_order (g x) r) in
    let Q : Fault → Type 0 = λ e. (z : X) × In z xs × (g z ≡ Err e) in
    let M : Fault → Type 0 = λ e. g x ≡ Err e in
    let all : IsLeast (λ e. Q e ⊎ M e) b = least_chain Q M (err_of r) b (least_given g xs) (one_more (g x) r) in
    least_iff (λ e. Q e ⊎ M e) (λ e. (z : X) × In z (x ∷ xs) × (g z ≡ Err e)) b (λ e. (
      λ w. elim w [ inl v ↦ (v.0, inr v.1, v.2) | inr p ↦ (x, inl refl, p) ],
      λ w. split w.0 e w.1 w.2,
    )) all
  where
    split : (z : X) (e : Fault) → In z (x ∷ xs) → g z ≡ Err e → ((y : X) × In y xs × (g y ≡ Err e)) ⊎ (g x ≡ Err e)
    split z e m h = elim m [ inl q ↦ inr (ap g (sym q) ∙ h) | inr n ↦ inl (z, n, h) ]

read_least : {Y : Type 0} (r : OrFault (List Y)) (o : Option Fault) → err_of r ≡ o → ((e : Fault) → o ≡ Some e → r ≡ Err e) × (o ≡ None → (vs : List Y) × (r ≡ Ok vs))
read_least (Ok vs) o h = (λ e q. absurd cc, λ q. (vs, refl))
read_least (Err d) o h = (λ e q. ap (λ x. Err x) (some_is d e (h ∙ q)), λ q. absurd cc)

-- what all give, or their least fault, by the least fault of the members
pub least_over : {X Y : Type 0} (g : X → OrFault Y) (xs : List X) (o : Option Fault) → IsLeast (λ e. (x : X) × In x xs × (g x ≡ Err e)) o
    → ((e : Fault) → o ≡ Some e → least_of_all fault_order (map g xs) ≡ Err e) × (o ≡ None → (vs : List Y) × (least_of_all fault_order (map g xs) ≡ Ok vs))
least_over {X = X} g xs o h =
    read_least (least_of_all fault_order (map g xs)) o
    (one_least (λ e. (x : X) × In x xs × (g x ≡ Err e)) (err_of (least_of_all fault_order (map g xs))) o (least_given g xs) h)
