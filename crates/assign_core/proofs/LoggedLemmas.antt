-- A base relvar that gains and loses rows, as its log does.
--     to_change, has_changed      the log is to tell that, before the base relvar has changed and after
--     fits_then      there is room for the rows of all logs then
use Rattle.std.proofs.Common.{◌≡◌, ℕ, ◌+◌, ◌≤◌, ℤ, Bool, true, nat_le, List, length, sym, ap, arith, Some}
use Rattle.std.specs.Prelude.{◌&&◌}
use Rattle.std.specs.List.{All}
use Rattle.std.proofs.lemmas.Bool.Decides.{nat_tests}
use Rattle.value_core.specs.declared.constraint.Constraint.{Constraint}
use Rattle.value_core.specs.Limits.{most_rows_in_all}
use Rattle.value_core.specs.Values.{Name, Row, Relation}
use Rattle.log_times.specs.Turns.{exchanged, IsExact}
use Rattle.tree_core.specs.Relvars.{base, Entries, State}
use Rattle.meaning_core.specs.Logs.{turned_logs, AreInStep}
use Rattle.meaning_core.specs.Names.{given, IsFirstAt}
use Rattle.meaning_core.specs.WellMade.{sizes_of}
use Rattle.relvar_logs.specs.LoggedChanges.{AreChanging}
use Rattle.relvar_logs.specs.Room.{are_each_few, rows_of_logs}
use Rattle.relvar_logs.specs.Turning.{IsOfBase}
use Rattle.relvar_logs.proofs.RoomLemmas.{turned_room}
use Rattle.relvar_logs.proofs.NextLemmas.{of_base_there}
use Rattle.relvar_logs.proofs.TurningLemmas.{all_there}
use Rattle.assign_core.specs.Beside.{FitsBeside}
use Rattle.assign_core.specs.Breaches.{rows_of_all}
use Rattle.assign_core.specs.Databases.{IsKept}
use Rattle.assign_core.specs.Logs.{have_log_room}
use Rattle.assign_core.proofs.GainLemmas.{are_changing, are_to_change, room_given, rows_given}
use Rattle.assign_core.proofs.LogLemmas.{rows_turned}
use Rattle.assign_core.proofs.NameLemmas.{relvars_differ}
use Rattle.assign_core.proofs.PackingLemmas.{few_left}
use Rattle.assign_core.proofs.TurnoverLemmas.{few_together}

sum_fits : (bases logs most : ℕ) (few : Bool) → bases + logs ≤ most → few ≡ true → (nat_le (bases + logs) most && few) ≡ true
sum_fits bases logs most few l e = let fits : nat_le (bases + logs) most ≡ true = grind (arith, nat_tests) in λ i. fits i && e i

module _ (s : State) (name : Name) (at : ℕ) (v : Relation) (cs : List Constraint) (w come gone : Relation) (more : ℕ) (kept : IsKept s) (step : AreInStep s.accepted s.relvars)
    (first : IsFirstAt s.relvars name at (base v cs)) (came : come.heading ≡ v.heading) (went : gone.heading ≡ v.heading) (less : length come.rows + length gone.rows ≤ more)
    (exact : IsExact v.rows come.rows gone.rows) (same : w.rows ≡ exchanged v.rows come.rows gone.rows) (fits : FitsBeside s name more) where
  abbrev after : Entries
  after = given (Some name) (Some w) s.relvars

  owners : All (λ r. IsOfBase s.relvars r.1) s.relvars
  owners = all_there (IsOfBase s.relvars) s.relvars (λ i l. of_base_there (sizes_of s.ordinals) s.relvars i kept.well_made.relvars l)

  pub to_change : AreChanging s.accepted after name come gone s.relvars
  to_change = are_to_change s.accepted s.relvars name at v cs w come gone more first came went less exact same step owners fits.logs.few

  pub has_changed : AreChanging s.accepted after name come gone after
  has_changed = are_changing s.accepted s.relvars name at v cs w come gone more first came went less exact same step owners fits.logs.few

  pub fits_then : have_log_room (turned_logs after) ≡ true
  fits_then =
      let beside = room_given name name w more most_rows_in_all fits.room s.relvars fits.logs in
      let logs = turned_room s.accepted after name come gone has_changed beside.once beside.ended beside.each in
      let grown = logs.0 in
      let within = beside.fits in
      let turn = rows_turned after in
      let bases = rows_given s.relvars name at v cs w first (relvars_differ s kept.well_made) in
      let both : length (exchanged v.rows come.rows gone.rows) ≤ length v.rows + length come.rows =
      few_left v.rows gone.rows come.rows (length v.rows + length come.rows) (few_together v.rows come.rows (length v.rows + length come.rows) (omega arith)) in
      let size : length w.rows ≡ length (exchanged v.rows come.rows gone.rows) = ap (λ (zs : List Row). length zs) same in
      let few = fits.few in
      sum_fits (rows_of_all (turned_logs after)) (rows_of_logs (turned_logs after)) most_rows_in_all (are_each_few (turned_logs after)) (omega (arith, grown, within, turn, bases, both, size, few, less)) logs.1
