use Rattle.std.proofs.Common.{◌≡◌, ◌<◌, ℕ, List, length, sym, subst}
use Rattle.std.specs.List.{All}
use Rattle.std.specs.Prelude.{IfOk}
use Rattle.u_constraints.specs.Near.{with_keys}
use Rattle.u_constraints.proofs.near.rows_by_pass.Goals as goal

pub passed_over-requires-clause-within : goal.passed_over-requires-clause-within
passed_over-requires-clause-within c = subst (λ (ps : List ℕ). All (λ (i : ℕ). i < length c.args.many.now.heading) ps) (sym c.in_ok-hashes.ensures.positions) c.requires.within

pub returns : goal.returns
returns c =
    subst (λ (ps : List ℕ). IfOk c.passed_over.result (λ r. (r.heading ≡ c.args.many.now.heading) × (r.rows ≡ with_keys ps c.args.keys.now c.args.many.now.rows))) c.in_ok-hashes.ensures.positions c.passed_over.ensures
