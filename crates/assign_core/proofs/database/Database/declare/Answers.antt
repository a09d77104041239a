use Rattle.std.proofs.Common.{map, sym, subst}
use Rattle.tree_core.specs.declared.relvar.Relvars.{Relvars}
use Rattle.tree_core.specs.Relvars.{read_relvars}
use Rattle.meaning_core.specs.Declarations.{read_declaration}
use Rattle.meaning_core.specs.WellMade.{IsWellMade}
use Rattle.assign_core.specs.Databases.{declared}
use Rattle.assign_core.proofs.DeclaredLemmas.{declared_kept}
use Rattle.assign_core.proofs.NameLemmas.{relvars_differ}
use Rattle.assign_core.proofs.StepLemmas.{declared_step}
use Rattle.assign_core.proofs.StoredLemmas.{declared_stored}
use Rattle.assign_core.proofs.database.Database.declare.Goals as goal

pub append_all-requires : goal.append_all-requires
append_all-requires c =
    let made = subst (λ (r : Relvars). IsWellMade (declared (read_relvars r) (map read_declaration c.args.list.items))) (sym c.self.view_is) c.requires in
    relvars_differ (declared (read_relvars c.self.inside.relvars) (map read_declaration c.args.list.items)) made

pub invariant_of-self : goal.invariant_of-self
invariant_of-self c =
    let s = read_relvars c.self.inside.relvars in
    let list = map read_declaration c.args.list.items in
    let made = subst (λ (r : Relvars). IsWellMade (declared (read_relvars r) list)) (sym c.self.view_is) c.requires in (
      declared_kept s (read_relvars c.append_all.new.relvars) list c.in-Ok.ensures.ok c.self.invariant.0 made,
      c.no_hashes.ensures.hashed _,
      declared_step s (read_relvars c.append_all.new.relvars) list c.in-Ok.ensures.ok c.self.invariant.0.well_made c.self.invariant.2,
      declared_stored s (read_relvars c.append_all.new.relvars) c.args.list.items c.self.inside.stored.items c.self.invariant.0.well_made c.in-Ok.ensures.ok c.self.invariant.3,
    )
