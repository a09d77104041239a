-- How far a script was read and fed to a session.
use Rattle.std.specs.Prelude.{◌≡◌, ℕ, ◌+◌, ◌≤◌, List, length, take, drop, Option, Some, None}
use Rattle.utd_io.specs.Io.{Gains}
use Rattle.utd_session.specs.declared.feeding.Session.{Session}
use Rattle.utd_statement.specs.Readings.{Reading}
use Rattle.utd_session.specs.Machine.{performed}
use Rattle.utd_session.specs.Costs.{cost_of}
use Rattle.utd_session.specs.Sessions.{StandsFor, fed_of}

-- the session stands for the bytes of the script that were read, the output gained what their statements give, and the steps are at
-- most what they cost
pub record HasFed (all : List ℕ) (left : Option (List ℕ)) (session : Session) (before now : Option (List ℕ)) (paid steps : ℕ) : Type 0 where
  pub within : fed_of session ≤ length all
  pub left_is : left ≡ Some (drop (fed_of session) all)
  pub readings : List Reading
  pub stands : StandsFor session (take (fed_of session) all) readings
  pub gained : Gains before (performed readings).output now
  pub cost : steps ≤ paid + cost_of readings

-- of a script of which nothing is told nothing is known
abbrev pub MayHaveFed : Option (List ℕ) → Option (List ℕ) → Session → Option (List ℕ) → Option (List ℕ) → ℕ → ℕ → Type 0
MayHaveFed None left session before now paid steps = Unit {0}
MayHaveFed (Some all) left session before now paid steps = HasFed all left session before now paid steps

-- the piece comes next in the script, behind n bytes
pub record ComesNext (all : List ℕ) (n : ℕ) (piece : List ℕ) (left : Option (List ℕ)) : Type 0 where
  pub is : piece ≡ take (length piece) (drop n all)
  pub within : n + length piece ≤ length all
  pub left_is : left ≡ Some (drop (n + length piece) all)
