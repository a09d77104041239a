-- New values of base relvars that are not checked yet.
--     IsPending      they are the relvars that are meant
use Rattle.std.specs.Prelude.{◌≡◌, Ok}
use Rattle.point_core.specs.Faults.{OrFault}
use Rattle.tree_core.specs.declared.relvar.Relvars.{Relvars}
use Rattle.tree_core.specs.Relvars.{Entries, read_relvars}
use Rattle.change_rows.specs.Exchanges.{IsExchange}
use Rattle.relvar_logs.specs.Changes.{AreChanges, changed}
use Rattle.assign_core.specs.declared.pending.Pending.{Pending}
use Rattle.assign_core.specs.declared.pending.Pending.TheVariants.{Rows, Values}
use Rattle.assign_core.specs.Targets.{entries_after, IsTarget}
use Rattle.assign_core.specs.Turnovers.{IsKnown}

-- they are new values of these relvars, which then are those that are meant; too many rows of one relvar are the fault that is meant
abbrev pub IsPending : Relvars → OrFault Entries → Pending → Type 0
IsPending r meant (Rows t x k) = (t.relvars.now ≡ r) × IsTarget t × IsExchange t.value.now x × IsKnown t.value.now x k × (meant ≡ entries_after t x)
IsPending r meant (Values cs) = AreChanges cs.items (read_relvars r).relvars × (meant ≡ Ok (changed cs.items (read_relvars r).relvars))
