-- Lists of constraints, as they are read.
use denote.Ref.{Bor}
use Rattle.std.specs.Prelude.{◌<◌, ◌≤◌, MatchOption}
use Rattle.std.proofs.Common.{◌≡◌, ℕ, zero, suc, List, [], ◌∷◌, length, get_or, Option, Some, None, slice_get, arith, refl, sym, ap}
use Rattle.std.specs.Option.{option_map}
use Rattle.utd_syntax.specs.declared.statement.Constraint.{Constraint}
use Rattle.utd_syntax.specs.Read.{read_constraint, read_constraint_list}

pub read-at : (i : ℕ) (list : List Constraint) → slice_get (read_constraint_list list) i ≡ option_map read_constraint (slice_get list i)
read-at i [] = refl
read-at zero (c ∷ list) = refl
read-at (suc i) (c ∷ list) = read-at i list

-- what a slice has at an index
pub found-at : (i : ℕ) (list : List Constraint) (r : Option (Bor Constraint)) → MatchOption r (length list ≤ i) (λ x. (i < length list) × ((d : Constraint) → x.now ≡ get_or list i d))
    → slice_get list i ≡ option_map (λ (x : Bor Constraint). x.now) r
found-at i [] None h = refl
found-at i [] (Some x) h = absurd (omega (arith, h.0))
found-at zero (c ∷ list) None h = absurd (omega (arith, h))
found-at zero (c ∷ list) (Some x) h = ap Some (sym (h.1 c))
found-at (suc i) (c ∷ list) None h = found-at i list None (omega (arith, h))
found-at (suc i) (c ∷ list) (Some x) h = found-at i list (Some x) (omega (arith, h.0), h.1)
