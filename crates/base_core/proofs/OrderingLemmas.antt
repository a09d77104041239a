-- What an answer of a comparison tells.
use Rattle.std.proofs.Common.{◌≡◌, ℕ, ◌<◌, true, refl, sym, ap, Bool, cond, Ordering}
use Rattle.std.specs.declared.cmp.Ordering.TheVariants.{Less, Equal, Greater}
use Rattle.std.specs.Cmp.{IsTotalOrder}
use Rattle.std.specs.Bool.{nat_eq}
use Rattle.std.specs.Ordering.{is_eq, nat_cmp, ordering_then}
use Rattle.std.proofs.lemmas.Bool.{lt-ltb, true≢false}
use Rattle.std.proofs.lemmas.Cmp.{ranked, tied_itself}

pub is_eq-Equal : (r : Ordering) → is_eq r ≡ true → r ≡ Equal
is_eq-Equal Less e = absurd (true≢false (sym e))
is_eq-Equal Equal e = refl
is_eq-Equal Greater e = absurd (true≢false (sym e))

-- two comparisons, the first counting first
pub then-Equal : (r : Ordering) → ordering_then r Equal ≡ r
then-Equal Less = refl
then-Equal Equal = refl
then-Equal Greater = refl

pub lt-nat_cmp : (m n : ℕ) → m < n → nat_cmp m n ≡ Less
lt-nat_cmp m n l = ap (λ (b : Bool). cond b Less (cond (nat_eq m n) Equal Greater)) (lt-ltb m n l)

pub nat_cmp-lt : (m n : ℕ) → nat_cmp m n ≡ Less → m < n
nat_cmp-lt m n e = ranked m n Less (sym e)

module _ {X : Type 0} (cmp : X → X → Ordering) where
  pub tied-not_Less : (x y : X) → cmp x y ≡ Equal → cmp x y ≡ Less → ⊥
  tied-not_Less x y h g = cc

module _ {X : Type 0} (cmp : X → X → Ordering) (o : IsTotalOrder cmp) where
  pub not_before_itself : (x : X) → cmp x x ≡ Less → ⊥
  not_before_itself x h = tied-not_Less cmp x x (tied_itself o x) h
