-- A dumped script gives the database back.
--     IsSound      what is known of a database that is dumped
--     IsSameState      two states that are the same but for places inside views and database constraints
--     GivesBack      a script is accepted, leaves the same state, and would be dumped again
--     IsBack      the script that a run writes gives its database back
use Rattle.std.specs.Prelude.{◌≡◌, ℕ, false, true, List, [], length, Option, Some, IfSome}
use Rattle.std.specs.List.{filter}
use Rattle.utd_io.specs.Io.{Gains}
use Rattle.tree_core.specs.Relvars.{State}
use Rattle.tree_core.specs.declared.relvar.Relvars.{Relvars as Database}
use Rattle.meaning_core.specs.Logs.{has_log}
use Rattle.assign_core.specs.Databases.{IsKept}
use Rattle.assign_core.specs.Room.{HasStoredRoom}
use Rattle.meaning_laws.specs.Likeness.{Alike}
use Rattle.dump_core.specs.Texts.{SourceText}
use Rattle.dump_core.specs.Inserts.{HaveRelations}
use Rattle.part_laws.specs.Parts.{is_base}
use Rattle.utd_session.specs.Databases.{state_of}
use Rattle.utd_session.specs.Dumped.{dump_in}
use Rattle.utd_session.specs.Machine.{Step}
use Rattle.utd_session.specs.Run.{IsAfter}
use Rattle.utd_session.specs.Statements.{statements_within}
use Rattle.utd_session.specs.Texts.{AreTextsOf}
use Rattle.dump_laws.specs.Kept.{is_early, is_late}
use Rattle.dump_laws.specs.Standing.{AreLikeEntries, AreMovedRules}

-- all that a database keeps, each value of a base relvar is a relation, and stored views have room
abbrev pub IsSound : State → Type 0
IsSound w = IsKept w × HaveRelations w.relvars × HasStoredRoom w

-- The same ordinal types, and the same base relvars with the same values and constraints, each in the same order. Places aside, the same
-- views: those of histories in the same order among the base relvars, the others in the same order among themselves. Places aside, the
-- same database constraints in the same order. Places may be mapped in any way. Neither has a log.
pub record IsSameState (w r : State) : Type 0 where
  pub ordinals : r.ordinals ≡ w.ordinals
  pub bases : filter is_base r.relvars ≡ filter is_base w.relvars
  pub early : AreLikeEntries (filter is_early w.relvars) (filter is_early r.relvars)
  pub views : AreLikeEntries (filter is_late w.relvars) (filter is_late r.relvars)
  pub there : Alike (λ name. false) w.relvars r.relvars
  pub rules : AreMovedRules w.rules r.rules
  pub logless : has_log w.relvars ≡ false
  pub logless_there : has_log r.relvars ≡ false

-- The machine reads the script to its end, accepts each of its statements and writes nothing. It is left in the same state. The dump of
-- that state, and of the texts that the script leaves, is the script.
pub record GivesBack (script : List ℕ) (w : State) : Type 0 where
  pub again : Step
  pub texts : List SourceText
  pub read : IsAfter (statements_within script) (length (statements_within script)) again
  pub accepted : again.accepted ≡ true
  pub silent : again.output ≡ []
  pub same : IsSameState w again.state
  pub kept : AreTextsOf script texts
  pub back : dump_in texts again.state ≡ Some script

-- what is written gives back the database, where there is one
abbrev pub IsBack : Option (List ℕ) → Option (List ℕ) → Option Database → Type 0
IsBack before now database = (text : List ℕ) × Gains before text now × IfSome database (λ d. GivesBack text (state_of d))
