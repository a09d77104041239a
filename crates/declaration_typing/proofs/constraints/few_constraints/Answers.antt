use denote.Ref.{Bor}
use Rattle.std.proofs.Common.{Err, sym, ap, ◌∙◌}
use Rattle.std.specs.Option.{option_map}
use Rattle.point_core.specs.declared.fault.Place.{Place}
use Rattle.point_core.specs.declared.fault.Code.TheVariants.{E22}
use Rattle.point_core.specs.Faults.{fault}
use Rattle.utd_syntax.specs.declared.statement.Constraint.{Constraint}
use Rattle.utd_syntax.specs.Read.{read_constraint}
use Rattle.value_core.specs.Limits.{most_constraints}
use Rattle.declaration_typing.specs.Constraints.{refused_at}
use Rattle.declaration_typing.proofs.ConstraintLemmas.{read-at, found-at}
use Rattle.declaration_typing.proofs.constraints.few_constraints.Goals as goal

pub returns-in-Some : goal.returns-in-Some
returns-in-Some c =
    let found = found-at most_constraints c.args.constraints.now c.get.result c.get.ensures.lookup.3 in
    let read = read-at most_constraints c.args.constraints.now ∙ ap (option_map read_constraint) (found ∙ ap (option_map (λ (x : Bor Constraint). x.now)) c.in-Some.is) in
    ap refused_at read ∙ ap (λ (at : Place). Err (fault at E22)) (sym c.place_of.ensures)

pub returns-in-None : goal.returns-in-None
returns-in-None c =
    let found = found-at most_constraints c.args.constraints.now c.get.result c.get.ensures.lookup.3 in
    let read = read-at most_constraints c.args.constraints.now ∙ ap (option_map read_constraint) (found ∙ ap (option_map (λ (x : Bor Constraint). x.now)) c.in-None.is) in
    ap refused_at read
