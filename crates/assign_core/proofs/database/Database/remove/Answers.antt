use Rattle.std.proofs.Common.{◌≡◌, sym, subst}
use Rattle.std.specs.List.{IsDistinct}
use Rattle.std.specs.Str.{bytes_eq}
use Rattle.tree_core.specs.declared.relvar.Relvars.{Relvars}
use Rattle.tree_core.specs.Relvars.{read_relvars}
use Rattle.meaning_core.specs.Declarations.{group, without_group}
use Rattle.meaning_core.specs.WellMade.{IsWellMade}
use Rattle.assign_core.proofs.NameLemmas.{relvars_differ, names_of_keys}
use Rattle.assign_core.proofs.RemovedLemmas.{removed_kept}
use Rattle.assign_core.proofs.StepLemmas.{removed_step}
use Rattle.assign_core.proofs.StoredLemmas.{removed_stored}
use Rattle.assign_core.proofs.database.Database.remove.Goals as goal

pub drop_group-requires : goal.drop_group-requires
drop_group-requires c =
    subst (IsDistinct bytes_eq) (names_of_keys c.self.inside.relvars.list.entries) (relvars_differ (read_relvars c.self.inside.relvars) c.self.invariant.0.well_made)

pub returns-clause-state : goal.returns-clause-state
returns-clause-state c =
    subst (λ (r : Relvars). read_relvars c.drop_group.new.relvars ≡ without_group c.args.name.now (read_relvars r)) c.self.view_is c.drop_group.ensures.state

pub invariant_of-self : goal.invariant_of-self
invariant_of-self c =
    let s = read_relvars c.self.inside.relvars in
    let made = subst (λ (r : Relvars). IsWellMade (without_group c.args.name.now (read_relvars r))) (sym c.self.view_is) c.requires.well_made in
    let names = group s.relvars c.args.name.now in (
      removed_kept s (read_relvars c.drop_group.new.relvars) names c.drop_group.ensures.state c.self.invariant.0 made,
      c.no_hashes.ensures.hashed _,
      removed_step s (read_relvars c.drop_group.new.relvars) names c.drop_group.ensures.state made c.self.invariant.2,
      removed_stored c.args.name.now s (read_relvars c.drop_group.new.relvars) c.self.inside.stored.items c.drop_group.new.stored.items made c.drop_group.ensures.state c.drop_group.ensures.stored c.self.invariant.3,
    )
