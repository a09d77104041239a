-- What stands ready for assignments where rows of views are stored.
--     IsMoving      new values that are accepted as far as their own relvars, and the logs and the stored rows after them
--     IsCrowded      there is no room for all rows, or memory is wanting
use Rattle.std.specs.Prelude.{◌≡◌, true, false, List, Option, Ok}
use Rattle.point_core.specs.declared.fault.Code.TheVariants.{E46}
use Rattle.value_core.specs.declared.refuse.Refuse.{Refuse}
use Rattle.value_core.specs.declared.refuse.Refuse.TheVariants.{Plain, At, Broken, Memory}
use Rattle.value_core.specs.Values.{Relation}
use Rattle.tree_core.specs.Items.{PlainAssignment}
use Rattle.tree_core.specs.Relvars.{Entries, State}
use Rattle.meaning_core.specs.StoredRows.{AreStored}
use Rattle.relvar_logs.specs.Turning.{AreNext}
use Rattle.stored_views.specs.NextRows.{renewed, AreNextTo}
use Rattle.assign_core.specs.declared.moving.Moving.{Moving}
use Rattle.assign_core.specs.Assignments.{evaluated, kept_or_refused}
use Rattle.assign_core.specs.Exchanges.{with_ready, IsReady}
use Rattle.assign_core.specs.Room.{have_room}

pub record IsMoving (s : State) (stored : List (Option Relation)) (list : List PlainAssignment) (m : Moving) : Type 0 where
  pub ready : IsReady m.ready s.relvars
  pub values : evaluated s.relvars s.relvars list ≡ Ok (with_ready m.ready s.relvars)
  pub room : have_room (with_ready m.ready s.relvars) ≡ true
  pub admitted : kept_or_refused (with_ready m.ready s.relvars) ≡ Ok (with_ready m.ready s.relvars)
  pub logs : AreNext s.accepted (with_ready m.ready s.relvars) m.logs.items (with_ready m.ready s.relvars)
  pub rows : AreStored (with_ready m.ready s.relvars) (renewed m.rows.items stored)
  pub places : AreNextTo m.rows.items stored

abbrev pub IsCrowded : Entries → Refuse → Type 0
IsCrowded new (Plain code) = (code ≡ E46) × (have_room new ≡ false)
IsCrowded new (At fault) = ⊥
IsCrowded new (Broken code relvar number) = ⊥
IsCrowded new Memory = Unit {0}
