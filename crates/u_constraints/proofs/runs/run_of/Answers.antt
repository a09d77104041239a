use Rattle.std.proofs.Common.{rules, ◌∙◌, ℤ}
use Rattle.std.specs.Int.{w64}
use Rattle.std.proofs.lemmas.Int.{to_z-of_z}
use mir.Val.{SFits}
use Rattle.u_constraints.proofs.runs.run_of.Goals as goal

pub returns-clause-ends : goal.returns-clause-ends
returns-clause-ends c =
    let begin : ℤ = c.ends_at-begin.result.0 in
    let end : ℤ = c.ends_at-begin.result.1 in
    let low : SFits w64 begin = search rules in
    let high : SFits w64 end = search rules in
    (λ t. (to_z-of_z w64 begin low t, to_z-of_z w64 end high t)) ∙ c.ends_at-begin.ensures
