-- What is asked at the points of a list, and as it is where the list has no attribute.
--     point_least, point_grows      its steps
--     plain_swept, plain_listed, plain_items      the list of no attribute fits any heading and any expression
use Rattle.std.proofs.Common.{◌≡◌, ◌≤◌, ℕ, suc, Bool, true, false, cond, ◌&&◌, List, [], ◌∷◌, ◌++◌, length, refl, ap, ap₂, arith, is_none}
use Rattle.std.specs.List.{list_all}
use Rattle.point_core.specs.declared.fault.Place.{Place}
use Rattle.value_core.specs.Values.{Heading}
use Rattle.scalar_core.specs.Expressions.{Expr, constant, attribute, one, pair, and_expr, or_expr}
use Rattle.scalar_core.specs.Sweeping.{first_place, is_atom, unswept}
use Rattle.cell_core.specs.Costs.{bound}
use Rattle.tree_core.specs.Trees.{PlainSets}
use Rattle.meaning_core.specs.Typing.{is_swept}
use Rattle.u_constraints.proofs.BoundLemmas.{bound_grows}
use Rattle.eval_using.specs.Using.{HasList, IsSweptBy, AreSweptBy}
use Rattle.assign_core.specs.Portions.{point_cost}

-- ---- steps

pub point_least : (commalist : List ℕ) (n : ℕ) → point_cost commalist n ≤ bound n (length commalist)
point_least [] n = omega arith
point_least (i ∷ commalist) n = omega arith

pub point_grows : (commalist : List ℕ) (n m : ℕ) → n ≤ m → point_cost commalist n ≤ point_cost commalist m
point_grows [] n m h = omega arith
point_grows (i ∷ commalist) n m h = bound_grows n m (suc (length commalist)) h

-- ---- the list of no attribute

none_unswept : (e : Expr) → unswept [] e ≡ []
none_unswept (constant place kind v) = refl
none_unswept (attribute place i) = refl
none_unswept (one op place e) = none_unswept e
none_unswept (pair op place l r) = by (is_atom [] op l r) (none_unswept l) (none_unswept r)
  where
    by : (b : Bool) → unswept [] l ≡ [] → unswept [] r ≡ [] → cond b [] (unswept [] l ++ unswept [] r) ≡ []
    by true p q = refl
    by false p q = ap₂ (λ (a b : List Place). a ++ b) p q
none_unswept (and_expr place l r) = ap₂ (λ (a b : List Place). a ++ b) (none_unswept l) (none_unswept r)
none_unswept (or_expr place l r) = ap₂ (λ (a b : List Place). a ++ b) (none_unswept l) (none_unswept r)

none_swept : (e : Expr) → is_swept [] e ≡ true
none_swept e = ap (λ (places : List Place). is_none (first_place places)) (none_unswept e)

all_swept : (sets : PlainSets) → list_all (λ s. is_swept [] s.1) sets ≡ true
all_swept [] = refl
all_swept (s ∷ sets) = ap₂ (λ (a b : Bool). a && b) (none_swept s.1) (all_swept sets)

pub plain_swept : (h from : Heading) (e : Expr) → IsSweptBy h [] from e
plain_swept h from e = none_swept e

pub plain_listed : (h from : Heading) → HasList h [] from
plain_listed h from = refl

pub plain_items : (h from : Heading) (sets : PlainSets) → AreSweptBy h [] from sets
plain_items h from sets = record { swept = all_swept sets; kept = refl }
