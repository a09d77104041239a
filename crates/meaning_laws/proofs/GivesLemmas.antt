-- What has no fault gives the same elsewhere: how this passes through calls that may find a fault.
--     then-gives, both-gives      one call after another
--     if-gives, chosen-gives      where a test decides
--     least-gives, restricted-gives, extended-gives, summarized-gives      of each member of a list, the least fault counting
use Rattle.std.proofs.Common.{◌≡◌, ℕ, Bool, true, false, cond, List, [], ◌∷◌, map, filter, refl, sym, ap, ◌∙◌, Ordering, Result, Ok, Err}
use Rattle.std.specs.Prelude.{if◌then◌else◌}
use Rattle.base_core.specs.Outcomes.{then_give, both, with_lesser, least_of_all}
use Rattle.point_core.specs.Faults.{OrFault}
use Rattle.point_core.specs.Orders.{fault_order}
use Rattle.value_core.specs.Values.{Row}
use Rattle.relation_core.specs.Operators.{is_true, restricted, extended}
use Rattle.relation_core.specs.Groups.{groups, summarized}
use Rattle.meaning_laws.specs.Gives.{Gives}

-- ---- calls one after another

module _ {F : Type 0} where
  pub then-gives : {X Y : Type 0} (m n : Result X F) (g h : X → Result Y F) → Gives m n → ((x : X) → Gives (g x) (h x)) → Gives (then_give m g) (then_give n h)
  then-gives (Ok x) n g h p q y e = ap (λ r. then_give r h) (p x refl) ∙ q x y e
  then-gives (Err d) n g h p q y e = absurd cc

  pub both-gives : {X Y Z : Type 0} (m n : Result X F) (p q : Result Y F) (g h : X → Y → Result Z F) → Gives m n → Gives p q → ((x : X) (y : Y) → Gives (g x y) (h x y))
      → Gives (both m p g) (both n q h)
  both-gives m n p q g h a b c = then-gives m n (λ x. then_give p (g x)) (λ x. then_give q (h x)) a (λ x. then-gives p q (g x) (h x) b (c x))

  -- a value or a fault by a test, whatever the fault
  pub if-gives : {X : Type 0} (b : Bool) (x : X) (d e : F) → Gives (if b then Ok x else Err d) (if b then Ok x else Err e)
  if-gives true x d e y p = p
  if-gives false x d e y p = absurd cc

  pub chosen-gives : {X : Type 0} (b : Bool) (m n p q : Result X F) → Gives m n → Gives p q → Gives (if b then m else p) (if b then n else q)
  chosen-gives true m n p q a c = a
  chosen-gives false m n p q a c = c

  -- ---- the least fault

  module _ (cmp : F → F → Ordering) where
    with_lesser-gives : {X : Type 0} (m n : Result X F) (r s : Result (List X) F) → Gives m n → Gives r s → Gives (with_lesser cmp m r) (with_lesser cmp n s)
    with_lesser-gives (Ok v) n (Ok vs) s a b y e = (λ i. with_lesser cmp (a v refl i) (b vs refl i)) ∙ e
    with_lesser-gives (Ok v) n (Err d) s a b y e = absurd cc
    with_lesser-gives (Err c) n (Ok vs) s a b y e = absurd cc
    with_lesser-gives (Err c) n (Err d) s a b y e = absurd cc

    pub least-gives : {X Y : Type 0} (g h : X → Result Y F) → ((x : X) → Gives (g x) (h x)) → (xs : List X) → Gives (least_of_all cmp (map g xs)) (least_of_all cmp (map h xs))
    least-gives g h same [] = λ y e. e
    least-gives g h same (x ∷ xs) = with_lesser-gives (g x) (h x) (least_of_all cmp (map g xs)) (least_of_all cmp (map h xs)) (same x) (least-gives g h same xs)

-- ---- rows

pub extended-gives : (g h : Row → OrFault Row) → ((row : Row) → Gives (g row) (h row)) → (rows : List Row) → Gives (extended g rows) (extended h rows)
extended-gives g h same rows = then-gives _ _ _ _ (least-gives fault_order g h same rows) (λ given y e. e)

pub summarized-gives : (by : List ℕ) (g h : List ℕ → OrFault Row) → ((numbers : List ℕ) → Gives (g numbers) (h numbers)) → (rows : List Row) → Gives (summarized by g rows) (summarized by h rows)
summarized-gives by g h same rows = then-gives _ _ _ _ (least-gives fault_order g h same (groups by rows)) (λ given y e. e)

module _ (test other : Row → OrFault Bool) (same : (row : Row) → Gives (test row) (other row)) where
  -- where no test has a fault, the same rows pass
  filter-same : (rows : List Row) (bs : List Bool) → least_of_all fault_order (map test rows) ≡ Ok bs → filter (λ x. is_true (test x)) rows ≡ filter (λ x. is_true (other x)) rows
  filter-same [] bs e = refl
  filter-same (x ∷ rows) bs e = by (test x) (least_of_all fault_order (map test rows)) (same x) (filter-same rows) e
    where
      by : (m : OrFault Bool) (r : OrFault (List Bool)) → Gives m (other x) → ((cs : List Bool) → r ≡ Ok cs → filter (λ x. is_true (test x)) rows ≡ filter (λ x. is_true (other x)) rows)
          → with_lesser fault_order m r ≡ Ok bs
          → cond (is_true m) (x ∷ filter (λ x. is_true (test x)) rows) (filter (λ x. is_true (test x)) rows)
          ≡ cond (is_true (other x)) (x ∷ filter (λ x. is_true (other x)) rows) (filter (λ x. is_true (other x)) rows)
      by (Ok b) (Ok cs) g more d = λ i. cond (is_true (sym (g b refl) i)) (x ∷ more cs refl i) (more cs refl i)
      by (Ok b) (Err c) g more d = absurd cc
      by (Err a) (Ok cs) g more d = absurd cc
      by (Err a) (Err c) g more d = absurd cc

  kept-gives : (m n : OrFault (List Bool)) (xs ys : List Row) → Gives m n → ((bs : List Bool) → m ≡ Ok bs → xs ≡ ys) → Gives (then_give m (λ _. Ok xs)) (then_give n (λ _. Ok ys))
  kept-gives (Ok bs) n xs ys g s z e = ap (λ r. then_give r (λ _. Ok ys)) (g bs refl) ∙ (ap (λ rows. Ok rows) (sym (s bs refl)) ∙ e)
  kept-gives (Err d) n xs ys g s z e = absurd cc

  pub restricted-gives : (rows : List Row) → Gives (restricted test rows) (restricted other rows)
  restricted-gives rows =
      kept-gives (least_of_all fault_order (map test rows)) (least_of_all fault_order (map other rows)) (filter (λ x. is_true (test x)) rows) (filter (λ x. is_true (other x)) rows)
      (least-gives fault_order test other same rows) (filter-same rows)
