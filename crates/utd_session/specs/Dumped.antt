-- How a run ends that writes the dump of its database and no answers.
--     dump_in      what is dumped of a state, if it can be
--     HasDump      the script was read to its end, and something holds of the dump of its database
--     IsDumped      what such a run leaves
--     IsWholeDump      what it leaves where nothing fails
use Rattle.std.specs.Prelude.{◌≡◌, ◌⊎◌, ℕ, List, [], length, Option, Some, None, if◌then◌else◌}
use Rattle.utd_io.specs.Io.{Rose, Gains, GainsPrefix}
use Rattle.tree_core.specs.Relvars.{State}
use Rattle.tree_core.specs.declared.relvar.Relvars.{Relvars as Database}
use Rattle.meaning_core.specs.Logs.{has_log}
use Rattle.dump_core.specs.Texts.{SourceText}
use Rattle.dump_core.specs.Dumps.{script_of as dump_of}
use Rattle.utd_gen.specs.Script.{script_of}
use Rattle.utd_session.specs.declared.status.Status.{Status}
use Rattle.utd_session.specs.declared.status.Status.TheVariants.{ReadFailed, WriteFailed, NoMemory, CannotDump}
use Rattle.utd_session.specs.Status.{number_of, IsStatus}
use Rattle.utd_session.specs.Statements.{statements_within}
use Rattle.utd_session.specs.Machine.{Step}
use Rattle.utd_session.specs.Texts.{AreTextsOf}
use Rattle.utd_session.specs.Run.{Holds, IsAfter, IsRun, IsWhole}
use Rattle.utd_session.specs.Ends.{IsAtEnd}

-- a dump, where there is one, or that there is none
abbrev pub Dump : Type 0
Dump = Option (List ℕ)

-- the script of a state, which is not too long, where no log is declared: a log has no text
abbrev pub dump_in : List SourceText → State → Dump
dump_in texts state = if has_log state.relvars then None else dump_of texts state

-- The script was read to its end, the database is the one after all its statements, and this holds of the dump of that database
-- with the texts of the script's declarations.
abbrev pub HasDump : List ℕ → Option (List ℕ) → Option Database → (Dump → Type 0) → Type 0
HasDump bytes left database P =
    (step : Step) × (texts : List SourceText) × (left ≡ Some [])
    × IsAfter (statements_within bytes) (length (statements_within bytes)) step × Holds database step.state
    × AreTextsOf bytes texts × P (dump_in texts step.state)

-- there is a dump, and all of it is written
abbrev pub IsWritten : Option (List ℕ) → Option (List ℕ) → Dump → Type 0
IsWritten before now dump = (text : List ℕ) × (dump ≡ Some text) × Gains before text now

-- there is a dump, and a front of it is written
abbrev pub IsCut : Option (List ℕ) → Option (List ℕ) → Dump → Type 0
IsCut before now dump = (text : List ℕ) × (dump ≡ Some text) × GainsPrefix before text now

-- there is none: a log is declared, or the dump would be too long
abbrev pub IsMissing : Dump → Type 0
IsMissing dump = dump ≡ None

-- What a run leaves for a script whose dump is asked for. The state is the machine's, and so is the status, as if the answers went to a
-- sink that tells nothing. Only at the end of the script the dump is written, or cannot be.
pub record IsDumped (bytes : List ℕ) (left before now : Option (List ℕ)) (database : Option Database) (answered : ℕ) : Type 0 where
  pub known : IsStatus answered
  pub run : (answered ≡ number_of WriteFailed → ⊥) → (answered ≡ number_of CannotDump → ⊥) → IsRun bytes left None None database answered
  pub whole : IsAtEnd answered → HasDump bytes left database (IsWritten before now)
  pub written : answered ≡ number_of WriteFailed → HasDump bytes left database (IsCut before now)
  pub missing : answered ≡ number_of CannotDump → HasDump bytes left database IsMissing
  pub unwritten : (IsAtEnd answered → ⊥) → (answered ≡ number_of WriteFailed → ⊥) → now ≡ before

-- The same for the generated script of n, from a source that tells its bytes and does not fail.
abbrev pub IsGeneratedDump : ℕ → Option (List ℕ) → Option (List ℕ) → Option Database → ℕ → Type 0
IsGeneratedDump n before now database answered =
    ((left : Option (List ℕ)) × IsDumped (script_of n) left before now database answered) × (answered ≡ number_of ReadFailed → ⊥)

-- Where nothing fails: a log is declared or the dump would be too long; or the status and the state are the machine's, and the whole dump is written where the
-- script was read to its end.
abbrev pub IsWholeDump : List ℕ → Option (List ℕ) → Option (List ℕ) → Option (List ℕ) → Option Database → ℕ → Type 0
IsWholeDump bytes left before now database answered =
    ((answered ≡ number_of CannotDump) × HasDump bytes left database IsMissing)
    ⊎ (IsWhole bytes None None database answered × (IsAtEnd answered → HasDump bytes left database (IsWritten before now)))

-- How the writing of a dump ends for a script that ended with this status and left these texts and this state, by the faults of the sink and
-- what it tells. Without texts nothing is written.
abbrev pub EndsDump : Option (List SourceText) → State → Status → ℕ → ℕ → Option (List ℕ) → Option (List ℕ) → Status → Type 0
EndsDump None state status faults faults_now before now result = (result ≡ status) × (now ≡ before)
EndsDump (Some texts) state status faults faults_now before now result =
    ((result ≡ status) × IsWritten before now (dump_in texts state))
    ⊎ (((result ≡ WriteFailed) × Rose faults faults_now × IsCut before now (dump_in texts state))
    ⊎ (((result ≡ CannotDump) × (now ≡ before) × IsMissing (dump_in texts state))
    ⊎ ((result ≡ NoMemory) × (now ≡ before))))
