-- What stands ready for assignments beside logs.
--     becomes, room_then      rows that may be exchanged in place: the relvars after them, and the room that there is then
--     prepared      they stand ready
--     refused_in_place, cost_in_place      or their relvar's constraints refuse them
--     values_prepared      new values that stand ready, and the logs after them
use Rattle.std.proofs.Common.{◌≡◌, ◌≤◌, ◌+◌, List, true, length, refl, sym, ap, subst, ◌∙◌, Ok, Result}
use Rattle.point_core.specs.Faults.{OrFault}
use Rattle.value_core.specs.declared.refuse.Refuse.{Refuse}
use Rattle.value_core.specs.Values.{Name, Relation, most_rows}
use Rattle.relation_core.specs.Operators.{subtracted}
use Rattle.log_turns.proofs.DifferingLemmas.{differing_exact, differing_fewer, differing_same}
use Rattle.tree_core.specs.Items.{PlainAssignment}
use Rattle.tree_core.specs.Relvars.{base, Entries, State, read_relvars}
use Rattle.meaning_core.specs.Logs.{turned_logs, AreInStep}
use Rattle.meaning_core.specs.Names.{IsFirstAt}
use Rattle.change_rows.specs.Exchanges.{IsExchange}
use Rattle.change_rows.specs.declared.exchange.Exchange.{Exchange}
use Rattle.assign_core.specs.declared.in_place.Prepared.TheVariants.{Rows}
use Rattle.assign_core.specs.declared.target.Target.{Target}
use Rattle.assign_core.specs.Assignments.{after_assignments, evaluated, kept_or_refused, of_values, IsRefusedFor}
use Rattle.assign_core.specs.Beside.{FitsBeside}
use Rattle.assign_core.specs.Costs.{constraints_cost, constraints_cost_of}
use Rattle.assign_core.specs.Databases.{IsKept}
use Rattle.assign_core.specs.InPlace.{IsDiffering, IsPrepared, MayGoInPlace}
use Rattle.assign_core.specs.Logs.{have_log_room, unless_logs_full}
use Rattle.assign_core.specs.Targets.{entries_after, entries_before, IsTarget}
use Rattle.assign_core.specs.Turnovers.{renewed, renewed_at}
use Rattle.assign_core.proofs.AdditionLemmas.{exchange_ready}
use Rattle.assign_core.proofs.LoggedLemmas.{fits_then}
use Rattle.assign_core.proofs.LogLemmas.{admitted_full, with_room}
use Rattle.assign_core.proofs.NameLemmas.{relvars_differ}
use Rattle.assign_core.proofs.PackingLemmas.{few_left}
use Rattle.assign_core.proofs.TurnoverLemmas.{renewed_given}

module _ (t : Target) (x : Exchange) (k : IsTarget t) (kept : IsKept (read_relvars t.relvars.now)) (ex : IsExchange t.value.now x) (may : MayGoInPlace t x) where
  abbrev s : State
  s = read_relvars t.relvars.now

  abbrev es : Entries
  es = entries_before t

  abbrev new : Entries
  new = renewed_at t.at x es

  pub becomes : entries_after t x ≡ Ok new
  becomes = exchange_ready t k (relvars_differ s kept.well_made) x (few_left t.value.now.rows x.gone.rows x.come.rows most_rows may.room)

  pub cost_in_place : constraints_cost new ≡ constraints_cost_of (entries_after t x)
  cost_in_place = sym (ap constraints_cost_of becomes)

  module _ (step : AreInStep s.accepted s.relvars) where
    pub room_then : have_log_room (turned_logs new) ≡ true
    room_then =
        let v = t.value.now in
        let come : Relation = record { heading = v.heading; rows = subtracted (subtracted x.come.rows v.rows) x.gone.rows } in
        let gone : Relation = record { heading = v.heading; rows = subtracted x.gone.rows (subtracted x.gone.rows v.rows) } in
        let fits =
        fits_then s t.name.now t.at v k.constraints (renewed v x) come gone (length x.come.rows + length x.gone.rows) kept step k.first refl refl (differing_fewer v.rows x.come.rows x.gone.rows)
        (differing_exact v.rows x.come.rows x.gone.rows) (sym (differing_same v.rows x.come.rows x.gone.rows)) may.fits in
        subst (λ (z : Entries). have_log_room (turned_logs z) ≡ true) (sym (renewed_given es t.name.now t.at v k.constraints x (relvars_differ s kept.well_made) k.first)) fits

    module _ (list : List PlainAssignment) (meant : evaluated es es list ≡ entries_after t x) where
      made : evaluated es es list ≡ Ok new
      made = meant ∙ becomes

      pub prepared : (name : Name) (d : Exchange) → name ≡ t.name.now → IsDiffering t.value.now x d → kept_or_refused new ≡ Ok new
          → IsPrepared s list (Rows (record { name = name; at = t.at; rows = x; differ = d }))
      prepared name d same differ admitted = (
        record {
          value = t.value.now;
          constraints = k.constraints;
          first = subst (λ (n : Name). IsFirstAt s.relvars n t.at (base t.value.now k.constraints)) (sym same) k.first;
          may = (ex.come, may.room);
          gone = ex.gone;
          differ = differ;
          fits = subst (λ (n : Name). FitsBeside s n (length x.come.rows + length x.gone.rows)) (sym same) may.fits;
        },
        ap of_values made ∙ admitted,
        (λ (m : Result Entries Refuse). with_room es new list m made room_then),
        may.rules,
      )

      pub refused_in_place : (refuse : Refuse) → IsRefusedFor refuse (kept_or_refused new) → IsRefusedFor refuse (unless_logs_full (evaluated es es list) (after_assignments es list))
      refused_in_place refuse h = admitted_full es new list refuse made room_then h
