use Rattle.std.proofs.Common.{sym, subst}
use Rattle.tree_core.specs.Relvars.{State, read_relvars}
use Rattle.assign_core.specs.Databases.{IsKept}
use Rattle.assign_core.specs.Hashed.{AreHashed}
use Rattle.assign_core.specs.Keeping.{AreStoredIn}
use Rattle.assign_core.proofs.LogLemmas.{hashed_turned, turned_kept}
use Rattle.assign_core.proofs.StoredLemmas.{stored_counted}
use Rattle.assign_core.proofs.database.Database.accept.Goals as goal

pub invariant_of-self : goal.invariant_of-self
invariant_of-self c =
    let s = read_relvars c.self.inside.relvars in (
      subst IsKept (sym c.count_idle.ensures.counted) (turned_kept s c.self.invariant.0),
      subst (λ (t : State). AreHashed c.self.inside.hashed t.relvars) (sym c.count_idle.ensures.counted) (hashed_turned c.self.inside.hashed s.relvars c.self.invariant.1),
      c.count_idle.ensures.step,
      subst (λ (t : State). AreStoredIn t c.self.inside.stored.items) (sym c.count_idle.ensures.counted) (stored_counted s c.self.inside.stored.items c.self.invariant.0.well_made c.self.invariant.3),
    )
