-- What is answered to a statement that ends, and the state and the texts after it.
use Rattle.std.specs.Prelude.{◌≡◌, ℕ, List, ◌++◌}
use Rattle.tree_core.specs.Relvars.{State}
use Rattle.dump_core.specs.Texts.{SourceText}
use Rattle.utd_statement.specs.declared.reply.Reply.{Reply}
use Rattle.utd_statement.specs.Readings.{Reading}
use Rattle.utd_statement.specs.Answers.{answer, state_after}
use Rattle.utd_statement.specs.Replies.{IsReply}
use Rattle.utd_session.specs.Statements.{Statement, Complete, cut}
use Rattle.utd_session.specs.Readings.{IsReading}
use Rattle.utd_session.specs.Texts.{kept_after}

-- something holds of what the statement that the piece ends is read as
abbrev pub HasReading : List ℕ → List ℕ → (Reading → Type 0) → Type 0
HasReading bytes piece P = (r : Reading) × IsReading (Complete (cut bytes).place ((cut bytes).rest ++ piece)) r × P r

-- the answer to what the n-th statement is read as, and the state and the texts that it leaves
abbrev pub IsReplyTo : Statement → State → State → List SourceText → List SourceText → ℕ → Reply → Type 0
IsReplyTo s old new texts now n reply =
    (r : Reading) × IsReading s r × IsReply n (answer old r) reply × (new ≡ state_after old (answer old r))
    × (now ≡ kept_after old texts s r)
