-- How an answer is told: by a text, whether the statement is accepted, and the state that is left.
use Rattle.std.specs.Prelude.{◌≡◌, ℕ, List, true, Vec, Result, Ok, Err}
use Rattle.std.specs.Global.{Global}
use Rattle.point_core.specs.declared.fault.Place.{Place}
use Rattle.point_core.specs.declared.memory.Memory.{Memory as NoMemory}
use Rattle.value_core.specs.declared.refuse.Refuse.{Refuse}
use Rattle.value_core.specs.declared.refuse.Refuse.TheVariants as refuses
use Rattle.tree_core.specs.Relvars.{State}
use Rattle.dump_core.specs.Texts.{SourceText}
use Rattle.utd_statement.specs.declared.reply.Reply.{Reply}
use Rattle.utd_statement.specs.Answers.{Answer, Refusal, answer, text_of, is_accepted, state_after, made_by}
use Rattle.utd_statement.specs.Keeping.{texts_after}
use Rattle.utd_statement.specs.Readings.{Reading, IsText}

-- the reply to the n-th statement
abbrev pub IsReply : ℕ → Answer → Reply → Type 0
IsReply n answer reply = (reply.text.items ≡ text_of n answer) × (reply.accepted ≡ is_accepted answer)

-- the statement is replied to and leaves the state after it; for want of memory the state stays
abbrev pub IsAnswered : Result Reply NoMemory → ℕ → State → State → Answer → Type 0
IsAnswered (Ok reply) n old new answer = IsReply n answer reply × (new ≡ state_after old answer)
IsAnswered (Err memory) n old new answer = new ≡ old

-- the text of an answer that accepts, whichever statement it is
abbrev pub IsTextOf : Answer → Vec ℕ Global → Type 0
IsTextOf answer text = ((n : ℕ) → text.items ≡ text_of n answer) × (is_accepted answer ≡ true)

-- the refusal is the answer, or want of memory
abbrev pub IsRefusedWith : Refuse → Answer → Type 0
IsRefusedWith refuses.Memory answer = Unit {0}
IsRefusedWith (refuses.At fault) answer = answer ≡ Refusal (refuses.At fault)
IsRefusedWith (refuses.Plain code) answer = answer ≡ Refusal (refuses.Plain code)
IsRefusedWith (refuses.Broken code relvar number) answer = answer ≡ Refusal (refuses.Broken code relvar number)

-- the text of the answer where that accepts, and what the answer makes of the state before the statement is counted; or its refusal, or want
-- of memory, and the state as it was
abbrev pub IsMade : Result (Vec ℕ Global) Refuse → State → State → Answer → Type 0
IsMade (Ok text) old new answer = IsTextOf answer text × (new ≡ made_by old answer)
IsMade (Err refuse) old new answer = IsRefusedWith refuse answer × (new ≡ old)

-- the same, where a statement that is accepted is counted
abbrev pub IsPerformed : Result (Vec ℕ Global) Refuse → State → State → Answer → Type 0
IsPerformed (Ok text) old new answer = IsTextOf answer text × (new ≡ state_after old answer)
IsPerformed (Err refuse) old new answer = IsRefusedWith refuse answer × (new ≡ old)

-- a statement of these bytes is replied to by what it is read as, which leaves its state and its texts
abbrev pub IsAnswerTo : Place → List ℕ → ℕ → State → State → List SourceText → List SourceText → Reply → Type 0
IsAnswerTo start bytes n old new texts texts_now reply =
    (r : Reading) × IsText start bytes r × IsReply n (answer old r) reply × (new ≡ state_after old (answer old r))
    × (texts_now ≡ texts_after bytes r (is_accepted (answer old r)) texts)
