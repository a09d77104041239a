-- Assignments where rows of views are stored.
--     fault_moving, admitted_moving, refused_moving      why they are refused before anything changes
--     moved_assigned, moved_kept, moved_stored      what comes of the changes that stand ready
--     cost_moving      what takes steps until then
use Rattle.std.proofs.Common.{◌≡◌, ℕ, ◌+◌, ◌≤◌, Bool, true, false, cond, List, length, ap, ◌∙◌, sym, subst, arith, Option, None, Result, Ok, Err}
use Rattle.point_core.specs.declared.fault.Code.TheVariants.{E46}
use Rattle.point_core.specs.declared.fault.Stop.{Stop}
use Rattle.point_core.specs.declared.fault.Stop.TheVariants.{Fault as Faulted, Memory as OfMemory}
use Rattle.point_core.specs.Faults.{OrFault}
use Rattle.value_core.specs.declared.refuse.Refuse.{Refuse}
use Rattle.value_core.specs.declared.refuse.Refuse.TheVariants.{Plain, At, Broken, Memory}
use Rattle.value_core.specs.Refusals.{refusal_of}
use Rattle.value_core.specs.Values.{Relation}
use Rattle.scalar_core.specs.Answers.{Gives}
use Rattle.tree_core.specs.Items.{PlainAssignment}
use Rattle.tree_core.specs.Relvars.{Entries, Rules, State}
use Rattle.meaning_core.specs.StoredRows.{AreStored}
use Rattle.stored_views.specs.Moves.{moves_cost}
use Rattle.assign_core.specs.declared.moving.Moving.{Moving}
use Rattle.assign_core.specs.Assignments.{after_assignments, assigned_in, evaluated, kept_or_refused, of_values, unless_broken, unless_rule_broken, IsAssigned, IsRefusedFor}
use Rattle.assign_core.specs.Breaches.{first_rule_broken}
use Rattle.assign_core.specs.Costs.{assignments_cost, constraints_cost, constraints_cost_of, moves_cost_of, rules_cost, rules_cost_of, sources_cost}
use Rattle.assign_core.specs.Databases.{IsKept, IsSettled}
use Rattle.assign_core.specs.Exchanges.{with_ready}
use Rattle.assign_core.specs.Keeping.{AreStoredIn}
use Rattle.assign_core.specs.Moving.{IsMoving}
use Rattle.assign_core.specs.Room.{have_room, unless_full}
use Rattle.assign_core.proofs.KindLemmas.{as_many}
use Rattle.assign_core.proofs.RenewedLemmas.{bare_exchanged, settled_keeps}
use Rattle.assign_core.proofs.RuleLemmas.{broken_told}
use Rattle.assign_core.proofs.StoredLemmas.{room_stored}

-- ---- what is refused

pub fault_moving : {V : Type 0} (read : V → Entries) (es : Entries) (list : List PlainAssignment) (stop : Stop) → Gives read (Err stop) (evaluated es es list)
    → IsRefusedFor (refusal_of stop) (unless_full (evaluated es es list) (after_assignments es list))
fault_moving read es list (Faulted f) told = ap (λ (r : OrFault Entries). unless_full r (of_values r)) told
fault_moving read es list OfMemory told = tt

pub admitted_moving : (es new : Entries) (list : List PlainAssignment) (refuse : Refuse) → evaluated es es list ≡ Ok new → have_room new ≡ true → IsRefusedFor refuse (kept_or_refused new)
    → IsRefusedFor refuse (unless_full (evaluated es es list) (after_assignments es list))
admitted_moving es new list refuse e room h =
    subst (λ (r : OrFault Entries). IsRefusedFor refuse (unless_full r (of_values r))) (sym e) (subst (λ (b : Bool). IsRefusedFor refuse (cond b (kept_or_refused new) (Err (Plain E46)))) (sym room) h)

refused-through : (refuse : Refuse) (rules : Rules) (r : Result Entries Refuse) → IsRefusedFor refuse r → IsRefusedFor refuse (unless_rule_broken rules r)
refused-through (Plain code) rules r e = ap (unless_rule_broken rules) e
refused-through (At fault) rules r e = ap (unless_rule_broken rules) e
refused-through (Broken code relvar number) rules r e = ap (unless_rule_broken rules) e
refused-through Memory rules r e = tt

-- before the database constraints are asked
pub refused_moving : (refuse : Refuse) (s : State) (list : List PlainAssignment)
    → IsRefusedFor refuse (unless_full (evaluated s.relvars s.relvars list) (after_assignments s.relvars list)) → IsRefusedFor refuse (assigned_in s list)
refused_moving refuse s list h = by (evaluated s.relvars s.relvars list) (after_assignments s.relvars list) h
  where
    by : (v : OrFault Entries) (r : Result Entries Refuse) → IsRefusedFor refuse (unless_full v r) → IsRefusedFor refuse (unless_full v (unless_rule_broken s.rules r))
    by (Err fault) r k = refused-through refuse s.rules r k
    by (Ok new) r k = room (have_room new) k
      where
        room : (b : Bool) → IsRefusedFor refuse (cond b r (Err (Plain E46))) → IsRefusedFor refuse (cond b (unless_rule_broken s.rules r) (Err (Plain E46)))
        room true l = refused-through refuse s.rules r l
        room false l = l

-- ---- steps

pub cost_moving : (es new : Entries) (list : List PlainAssignment) → evaluated es es list ≡ Ok new
    → assignments_cost es list + moves_cost_of es (evaluated es es list) ≡ (sources_cost es es list + constraints_cost new) + moves_cost es new
cost_moving es new list e = ap (λ (r : OrFault Entries). (sources_cost es es list + constraints_cost_of r) + moves_cost_of es r) e

-- ---- what comes of the changes

module _ (s : State) (stored : List (Option Relation)) (list : List PlainAssignment) (m : Moving) (is : IsMoving s stored list m) where
  abbrev new : Entries
  new = with_ready m.ready s.relvars

  pub moving_after : after_assignments s.relvars list ≡ Ok new
  moving_after = ap of_values is.values ∙ is.admitted

  meant : assigned_in s list ≡ unless_broken new (first_rule_broken new s.rules)
  meant =
      ap (λ (r : OrFault Entries). unless_full r (unless_rule_broken s.rules (of_values r))) is.values
      ∙ (ap (λ (b : Bool). cond b (unless_rule_broken s.rules (kept_or_refused new)) (Err (Plain E46))) is.room
      ∙ ap (unless_rule_broken s.rules) is.admitted)

  pub moved_assigned : (result : Result (Unit {0}) Refuse) (now : State) → IsSettled result s now new → IsAssigned result s now list
  moved_assigned (Ok done) now told = (
    meant ∙ (ap (unless_broken new) told.0 ∙ ap (λ (t : State). Ok t.relvars) (sym told.1)),
    told.1 ∙ ap (λ (t : State). record s { relvars = t.relvars }) (sym told.1),
  )
  moved_assigned (Err refuse) now told = (
    subst (λ (r : Result Entries Refuse). IsRefusedFor refuse r) (sym meant) (broken_told refuse new (first_rule_broken new s.rules) told.0),
    told.1,
  )

  pub moved_kept : (result : Result (Unit {0}) Refuse) (now : State) → IsKept s → IsSettled result s now new → IsKept now
  moved_kept result now kept told = settled_keeps result s now m.ready list kept is.ready moving_after told

  pub moved_stored : (now : State) (rows : List (Option Relation)) → now ≡ record s { relvars = new } → AreStored now.relvars rows → length rows ≡ length stored → length stored ≤ length s.relvars
      → AreStoredIn now rows
  moved_stored now rows e have same l = record {
    rows = have;
    room = room_stored now (ap (λ (t : State). have_room t.relvars) e ∙ is.room);
    places =
        let many : length now.relvars ≡ length s.relvars = ap (λ (t : State). length t.relvars) e ∙ as_many new s.relvars (bare_exchanged m.ready.changes.items s.relvars is.ready) in
        omega (arith, many, same, l);
  }

  pub moved_rules : rules_cost_of s.rules (after_assignments s.relvars list) ≡ rules_cost new s.rules
  moved_rules = ap (rules_cost_of s.rules) moving_after
