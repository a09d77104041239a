-- The lesser of two faults is the least of them.
use Rattle.std.proofs.Common.{◌≡◌, ◌≢◌, ◌⊎◌, inl, inr, refl, ap, sym, subst, ◌∙◌, Ordering, Option, Some, None}
use Rattle.std.specs.declared.cmp.Ordering.TheVariants.{Less, Equal, Greater}
use Rattle.std.specs.Cmp.{IsTotalOrder}
use Rattle.std.proofs.lemmas.Cmp.{tied_itself, alike_right}
use Rattle.std.specs.Prelude.{if◌then◌else◌}
use Rattle.std.specs.Ordering.{ordering_reverse, is_lt, ord_min}
use Rattle.point_core.specs.declared.fault.Fault.{Fault}
use Rattle.point_core.specs.Orders.{fault_order}
use Rattle.point_core.specs.LeastFault.{fault_total, IsLeast}

module _ {X : Type 0} (R : X → X → Ordering) (o : IsTotalOrder R) where
  pub not_after_itself : (x : X) → R x x ≢ Greater
  not_after_itself x h = let t = tied_itself o x in cc

  by_order : (x y : X) (A : Type 0) → (R x y ≡ Less → A) → (R x y ≡ Equal → A) → (R x y ≡ Greater → A) → A
  by_order x y A l e g = elim (R x y) as (λ r. R x y ≡ r → A) [ Less ↦ l | Equal ↦ e | Greater ↦ g ] refl

  pub not_after_both : (x y z : X) → R x y ≢ Greater → R y z ≢ Greater → R x z ≢ Greater
  not_after_both x y z h g w =
      by_order x y ⊥
      (λ l. by_order y z ⊥
      (λ k. let t = o.trans x y z l k in cc)
      (λ k. let t : R x y ≡ R x z = alike_right o y z x k in cc)
      g)
      (λ e. g (sym (o.congr x y z e) ∙ w))
      h

  -- what comes before does not come after
  pub not_after_less : (x y : X) → R x y ≡ Less → R x y ≢ Greater
  not_after_less x y h g = cc

  pub back_not_after : (x y : X) → R x y ≢ Less → R y x ≢ Greater
  back_not_after x y h g = h (o.antisymm x y ∙ ap ordering_reverse g)

-- the least of one, and of two
pub least_first : (a : Option Fault) (e : Fault) → a ≡ None → IsLeast (λ x. (a ≡ Some x) ⊎ (e ≡ x)) (Some e)
least_first a e i = record {
  comes = λ x q. inr cc;
  below = λ x q. elim q [ inl p ↦ absurd (none_some x (sym i ∙ p)) | inr p ↦ subst (λ z. fault_order e z ≢ Greater) p (not_after_itself fault_order fault_total e) ];
}
  where
    none_some : (x : Fault) → None ≡ Some x → ⊥
    none_some x h = cc

pub least_min : (a : Option Fault) (d e : Fault) → a ≡ Some d → IsLeast (λ x. (a ≡ Some x) ⊎ (e ≡ x)) (Some (ord_min fault_order d e))
least_min a d e i = go (fault_order e d) refl
  where
    at : Ordering → Fault
    at r = if is_lt r then e else d

    some_same : (x y : Fault) → Some x ≡ Some y → x ≡ y
    some_same x y h = cc

    kept : fault_order e d ≢ Less → IsLeast (λ x. (a ≡ Some x) ⊎ (e ≡ x)) (Some d)
    kept n = record {
      comes = λ x q. inl (i ∙ q);
      below = λ x q. elim q [
        | inl p ↦ subst (λ z. fault_order d z ≢ Greater) (some_same d x (sym i ∙ p)) (not_after_itself fault_order fault_total d)
        | inr p ↦ subst (λ z. fault_order d z ≢ Greater) p (back_not_after fault_order fault_total e d n)
      ];
    }

    taken : fault_order e d ≡ Less → IsLeast (λ x. (a ≡ Some x) ⊎ (e ≡ x)) (Some e)
    taken l = record {
      comes = λ x q. inr (some_same e x q);
      below = λ x q. elim q [
        | inl p ↦ subst (λ z. fault_order e z ≢ Greater) (some_same d x (sym i ∙ p)) (not_after_less fault_order fault_total e d l)
        | inr p ↦ subst (λ z. fault_order e z ≢ Greater) p (not_after_itself fault_order fault_total e)
      ];
    }

    go : (r : Ordering) → r ≡ fault_order e d → IsLeast (λ x. (a ≡ Some x) ⊎ (e ≡ x)) (Some (at (fault_order e d)))
    go Less q = subst (λ r. IsLeast (λ x. (a ≡ Some x) ⊎ (e ≡ x)) (Some (at r))) q (taken (sym q))
    go Equal q = subst (λ r. IsLeast (λ x. (a ≡ Some x) ⊎ (e ≡ x)) (Some (at r))) q (kept (λ l. equal_less (q ∙ l)))
      where
        equal_less : Equal ≡ Less → ⊥
        equal_less h = cc
    go Greater q = subst (λ r. IsLeast (λ x. (a ≡ Some x) ⊎ (e ≡ x)) (Some (at r))) q (kept (λ l. greater_less (q ∙ l)))
      where
        greater_less : Greater ≡ Less → ⊥
        greater_less h = cc
