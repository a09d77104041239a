-- The steps that are left at a place of a list.
use Rattle.std.proofs.Common.{◌≡◌, ℕ, zero, suc, ◌+◌, ◌<◌, ◌≤◌, List, [], ◌∷◌, map, drop, length, replicate, refl, sym, ap, ◌∙◌, arith, None, Ok, Err}
use Rattle.std.specs.Prelude.{slice_index_or}
use Rattle.base_core.specs.Outcomes.{then_give}
use Rattle.point_core.specs.Faults.{OrFault}
use Rattle.value_core.specs.declared.constraint.Constraint.{Constraint}
use Rattle.value_core.specs.Values.{Name, Row, Relation}
use Rattle.tree_core.specs.declared.declaration.Assignment.{Assignment}
use Rattle.tree_core.specs.Items.{PlainAssignment, read_assignment}
use Rattle.tree_core.specs.Relvars.{PlainRelvar, Entries}
use Rattle.u_constraints.specs.Constraints.{broken}
use Rattle.assign_core.specs.Assignments.{source_value, with_target, evaluated}
use Rattle.assign_core.specs.Breaches.{rows_named, first_in}
use Rattle.relvar_logs.specs.Changes.{Changes, changed}
use Rattle.assign_core.specs.Costs.{later_cost, behind, later_costs, sources_cost, where_kept, cost_over, looked_at, looked_at_in, looked_at_all, constraints_cost, constraints_cost_of, assignments_cost}
use Rattle.assign_core.proofs.ChangeLemmas.{none_changed}

-- ---- the constraints of a relvar

module _ (all : Entries) (rows : List Row) where
  here_of : (i : ℕ) (cs : List Constraint) (d : Constraint) → i < length cs
      → looked_at all rows (drop i cs) ≡ cost_over all rows (slice_index_or cs i d) + where_kept (broken (slice_index_or cs i d) rows (rows_named all (slice_index_or cs i d))) (looked_at all rows (drop (suc i) cs))
  here_of i [] d l = absurd (omega arith)
  here_of zero (c ∷ cs) d l = refl
  here_of (suc i) (c ∷ cs) d l = here_of i cs d (omega arith)

  pub left_kept : (i : ℕ) (cs : List Constraint) (d : Constraint) → i < length cs → None ≡ broken (slice_index_or cs i d) rows (rows_named all (slice_index_or cs i d))
      → looked_at all rows (drop i cs) ≡ cost_over all rows (slice_index_or cs i d) + looked_at all rows (drop (i + 1) cs)
  left_kept i cs d l e =
      let one : i + 1 ≡ suc i = omega arith in
      here_of i cs d l
      ∙ (ap (λ o. cost_over all rows (slice_index_or cs i d) + where_kept o (looked_at all rows (drop (suc i) cs))) (sym e)
      ∙ ap (λ m. cost_over all rows (slice_index_or cs i d) + looked_at all rows (drop m cs)) (sym one))

-- ---- the constraints of relvars

module _ (all : Entries) where
  relvar_here : (i : ℕ) (es : Entries) (d : Name × PlainRelvar) → i < length es
      → looked_at_all all (drop i es) ≡ looked_at_in all (slice_index_or es i d).1 + where_kept (first_in all (slice_index_or es i d).0 (slice_index_or es i d).1) (looked_at_all all (drop (suc i) es))
  relvar_here i [] d l = absurd (omega arith)
  relvar_here zero (r ∷ es) d l = refl
  relvar_here (suc i) (r ∷ es) d l = relvar_here i es d (omega arith)

  pub relvar_left : (i : ℕ) (es : Entries) (d : Name × PlainRelvar) → i < length es → looked_at_in all (slice_index_or es i d).1 ≤ looked_at_all all (drop i es)
  relvar_left i es d l = let here = relvar_here i es d l in omega (arith, here)

  pub relvars_left : (i : ℕ) (es : Entries) (d : Name × PlainRelvar) → i < length es → first_in all (slice_index_or es i d).0 (slice_index_or es i d).1 ≡ None
      → looked_at_all all (drop i es) ≡ looked_at_in all (slice_index_or es i d).1 + looked_at_all all (drop (i + 1) es)
  relvars_left i es d l e =
      let one : i + 1 ≡ suc i = omega arith in
      relvar_here i es d l
      ∙ (ap (λ o. looked_at_in all (slice_index_or es i d).1 + where_kept o (looked_at_all all (drop (suc i) es))) e
      ∙ ap (λ m. looked_at_in all (slice_index_or es i d).1 + looked_at_all all (drop m es)) (sym one))

-- ---- sources

module _ (old : Entries) where
  source_here : (done : List Name) (new : Entries) (i : ℕ) (xs : List Assignment) (d : Assignment) → i < length xs
      → later_costs done old new (map read_assignment (drop i xs))
      ≡ later_costs done old new (read_assignment (slice_index_or xs i d) ∷ map read_assignment (drop (suc i) xs))
  source_here done new i [] d l = absurd (omega arith)
  source_here done new zero (x ∷ xs) d l = refl
  source_here done new (suc i) (x ∷ xs) d l = source_here done new i xs d (omega arith)

  pub source_first : (done : List Name) (new : Entries) (i : ℕ) (xs : List Assignment) (d : Assignment) → i < length xs
      → later_cost done old new (read_assignment (slice_index_or xs i d)) ≤ later_costs done old new (map read_assignment (drop i xs))
  source_first done new i xs d l = let here = source_here done new i xs d l in omega (arith, here)

  behind_value : (done : List Name) (new after : Entries) (a : PlainAssignment) (rest : List PlainAssignment) → evaluated old new (a ∷ []) ≡ Ok after
      → behind (source_value old new a) (λ value. later_costs done old (with_target new a.target value) rest) ≡ later_costs done old after rest
  behind_value done new after a rest e = by (source_value old new a) e
    where
      by : (r : OrFault Relation) → then_give r (λ v. evaluated old (with_target new a.target v) []) ≡ Ok after
          → behind r (λ value. later_costs done old (with_target new a.target value) rest) ≡ later_costs done old after rest
      by (Ok v) f = let same : with_target new a.target v ≡ after = cc in ap (λ z. later_costs done old z rest) same
      by (Err g) f = absurd (cc)

  pub sources_left : (done : List Name) (new after : Entries) (i : ℕ) (xs : List Assignment) (d : Assignment) → i < length xs
      → evaluated old new (read_assignment (slice_index_or xs i d) ∷ []) ≡ Ok after
      → later_costs done old new (map read_assignment (drop i xs))
      ≡ later_cost done old new (read_assignment (slice_index_or xs i d))
      + later_costs ((read_assignment (slice_index_or xs i d)).target ∷ done) old after (map read_assignment (drop (i + 1) xs))
  sources_left done new after i xs d l e =
      let one : i + 1 ≡ suc i = omega arith in
      let a = read_assignment (slice_index_or xs i d) in
      let next = a.target ∷ done in
      source_here done new i xs d l
      ∙ (ap (λ m. later_cost done old new a + m) (behind_value next new after a (map read_assignment (drop (suc i) xs)) e)
      ∙ ap (λ m. later_cost done old new a + later_costs next old after (map read_assignment (drop m xs))) (sym one))

-- ---- assignments

pub cost_from_none : (es : Entries) (none : Changes) (n : ℕ) (list : List PlainAssignment) → none ≡ replicate n None → sources_cost es (changed none es) list ≡ sources_cost es es list
cost_from_none es none n list e = ap (λ (z : Entries). sources_cost es z list) (ap (λ (cs : Changes). changed cs es) e ∙ none_changed es n)

pub cost_of_both : (es new : Entries) (list : List PlainAssignment) → evaluated es es list ≡ Ok new → assignments_cost es list ≡ sources_cost es es list + constraints_cost new
cost_of_both es new list e = ap (λ (r : OrFault Entries). sources_cost es es list + constraints_cost_of r) e
