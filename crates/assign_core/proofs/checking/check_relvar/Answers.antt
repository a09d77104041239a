use Rattle.std.proofs.Common.{◌≡◌, List, None, sym, subst, ◌∙◌}
use Rattle.std.specs.List.{All}
use Rattle.value_core.specs.declared.constraint.Constraint.{Constraint}
use Rattle.value_core.specs.Values.{Relation}
use Rattle.tree_core.specs.declared.relvar.Relvar.{Relvar}
use Rattle.tree_core.specs.Relvars.{read_relvar}
use Rattle.assign_core.specs.Breaches.{first_in}
use Rattle.relvar_logs.specs.Changes.{newest}
use Rattle.assign_core.specs.Checks.{before, HeldBefore}
use Rattle.assign_core.proofs.TouchLemmas.{held_relvar}
use Rattle.assign_core.proofs.checking.check_relvar.Goals as goal

pub check_list-requires-clause-held : goal.check_list-requires-clause-held
check_list-requires-clause-held g c =
    let new = c.args.new in
    let own = c.is_some.result in
    let rows = (newest c.args.change.now c.in-Base.value).rows in
    let held = subst (λ (r : Relvar). first_in (before new) c.args.name.now (read_relvar r) ≡ None) c.in-Base.is c.requires.held in
    let all = held_relvar new c.args.name.now c.args.change.now c.in-Base.value c.in-Base.constraints own c.is_some.ensures held in
    subst (λ (v : Relation). All (HeldBefore new own v.rows) c.as_slice.result.now) (sym c.newer.ensures)
    (subst (λ (cs : List Constraint). All (HeldBefore new own rows) cs) (sym (c.as_slice.ensures.value ∙ c.constraints.view_is)) all)
