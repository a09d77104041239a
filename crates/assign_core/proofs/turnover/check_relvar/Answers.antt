use Rattle.std.proofs.Common.{◌≡◌, List, None, Some, sym, subst, ◌∙◌}
use Rattle.std.specs.List.{All}
use Rattle.value_core.specs.declared.constraint.Constraint.{Constraint}
use Rattle.tree_core.specs.declared.relvar.Relvar.{Relvar}
use Rattle.tree_core.specs.Relvars.{read_relvar}
use Rattle.u_constraints.specs.Constraints.{broken}
use Rattle.assign_core.specs.Breaches.{first_in, rows_named, value_of}
use Rattle.assign_core.specs.Turnovers.{before_turnover}
use Rattle.assign_core.proofs.TouchLemmas.{held_list}
use Rattle.assign_core.proofs.turnover.check_relvar.Goals as goal

pub check_list-requires-clause-own : goal.check_list-requires-clause-own
check_list-requires-clause-own g c own =
    let same = subst (λ (r : Relvar). value_of (read_relvar r) ≡ Some c.args.turnover.value.now) c.in-Base.is (c.requires.own own) in
    cc

pub check_list-requires-clause-held : goal.check_list-requires-clause-held
check_list-requires-clause-held g c =
    let es = before_turnover c.args.turnover in
    let held = subst (λ (r : Relvar). first_in es c.args.name.now (read_relvar r) ≡ None) c.in-Base.is c.requires.held in
    subst (λ (cs : List Constraint). All (λ k. broken k c.in-Base.value.rows (rows_named es k) ≡ None) cs) (sym (c.as_slice.ensures.value ∙ c.constraints.view_is))
    (held_list es c.args.name.now c.in-Base.value.rows 1 c.in-Base.constraints held)
