-- What a session stands for, and how far it goes on.
use Rattle.std.specs.Prelude.{◌≡◌, ℕ, ◌+◌, Bool, List, [], ◌∷◌, ◌++◌, length, take, Option}
use Rattle.utd_io.specs.Io.{Gains}
use Rattle.utd_lexer.specs.Cutting.{Since}
use Rattle.tree_core.specs.Relvars.{State}
use Rattle.utd_session.specs.Unfinished.{IsUnfinished}
use Rattle.utd_session.specs.declared.feeding.Session.{Session}
use Rattle.utd_session.specs.Statements.{Statement, cut, complete_statements}
use Rattle.utd_statement.specs.Readings.{Reading}
use Rattle.utd_session.specs.Readings.{AreReadings}
use Rattle.utd_statement.specs.Answers.{text_of, answer}
use Rattle.utd_session.specs.Databases.{state_of}
use Rattle.utd_session.specs.Machine.{performed, performed_after}
use Rattle.utd_session.specs.Texts.{texts_of}
use Rattle.utd_session.specs.Run.{IsPrefixOf}

abbrev pub fed_of : Session → ℕ
fed_of s = s.fed

-- the state that it has come to
abbrev pub state_in : Session → State
state_in s = state_of s.database

-- A session stands for these bytes, whose statements are read as these. Of the statement that is not ended it keeps
-- where it begins, the place behind it, its length, and unless it is too long its bytes. It keeps the texts of declarations.
pub record StandsFor (s : Session) (bytes : List ℕ) (rs : List Reading) : Type 0 where
  pub read : AreReadings (complete_statements bytes) rs
  pub state_is : state_of s.database ≡ (performed rs).state
  pub texts : s.texts ≡ texts_of (complete_statements bytes) rs
  pub accepted : s.all_accepted ≡ (performed rs).accepted
  pub number : s.number ≡ length rs + 1
  pub unfinished : IsUnfinished s.unfinished (cut bytes).place (cut bytes).rest
  pub since : Since s.cutter (cut bytes).rest
  pub fed : s.fed ≡ length bytes

-- More of these statements were performed after the first, as many as there are readings: the output gained theirs,
-- and the state is the one after them.
pub record GoesOn (ss : List Statement) (rs more : List Reading) (before now : Option (List ℕ)) (state : State) : Type 0 where
  pub read : AreReadings (take (length (rs ++ more)) ss) (rs ++ more)
  pub gained : Gains before (performed_after rs more).output now
  pub left : state ≡ (performed (rs ++ more)).state

-- The same, and one statement more, of whose output a front alone was written.
pub record IsCutOff (ss : List Statement) (rs more : List Reading) (r : Reading) (text : List ℕ) (before now : Option (List ℕ)) (state : State) : Type 0 where
  pub read : AreReadings (take (length (rs ++ more) + 1) ss) ((rs ++ more) ++ r ∷ [])
  pub prefix : IsPrefixOf text (text_of (length (rs ++ more) + 1) (answer (performed (rs ++ more)).state r))
  pub gained : Gains before ((performed_after rs more).output ++ text) now
  pub left : state ≡ (performed ((rs ++ more) ++ r ∷ [])).state

-- All of these statements were performed, the first ones before.
pub record IsFinished (ss : List Statement) (rs more : List Reading) (before now : Option (List ℕ)) (state : State) (all_accepted : Bool) : Type 0 where
  pub read : AreReadings ss (rs ++ more)
  pub gained : Gains before (performed_after rs more).output now
  pub left : state ≡ (performed (rs ++ more)).state
  pub accepted : all_accepted ≡ (performed (rs ++ more)).accepted
