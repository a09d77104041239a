-- The texts after statements, one after the other, and how one statement is answered.
use Rattle.std.proofs.Common.{◌≡◌, inl, inr, ℕ, ◌+◌, ◌<◌, ◌≤◌, true, nat_le, List, [], ◌∷◌, ◌++◌, length, Result, Ok, Err, IfOk, refl, sym, subst, le-leb}
use Rattle.point_core.specs.declared.fault.Place.{Place}
use Rattle.point_core.specs.declared.fault.Code.TheVariants.{E03}
use Rattle.point_core.specs.declared.memory.Memory.{Memory as NoMemory}
use Rattle.value_core.specs.declared.refuse.Refuse.TheVariants as refuses
use Rattle.tree_core.specs.Relvars.{State}
use Rattle.dump_core.specs.Texts.{SourceText}
use Rattle.assign_core.specs.Databases.{no_relvars}
use Rattle.utd_statement.specs.declared.reply.Reply.{Reply}
use Rattle.utd_statement.specs.Readings.{Reading, Refused}
use Rattle.utd_statement.specs.Answers.{Refusal, answer, state_after}
use Rattle.utd_statement.specs.Replies.{IsReply, IsAnswerTo}
use Rattle.utd_statement.specs.Costs as statements
use Rattle.utd_session.specs.Statements.{Statement, Complete}
use Rattle.utd_session.specs.Readings.{IsShort, AreReadings, most_in_statement}
use Rattle.utd_session.specs.Machine.{all_steps, performed}
use Rattle.utd_session.specs.Texts.{kept_after, all_kept, texts_of}
use Rattle.utd_session.specs.Feeding.{IsReplyTo}
use Rattle.utd_session.specs.Costs.{TakesAtMost}
use Rattle.utd_session.proofs.StatementLemmas.{not_le}

all_kept-push : (state : State) (texts : List SourceText) (n : ℕ) (ss : List Statement) (rs : List Reading) (s : Statement) (r : Reading) → AreReadings ss rs
    → all_kept state texts (ss ++ s ∷ []) (rs ++ r ∷ []) ≡ kept_after (all_steps state n rs).state (all_kept state texts ss rs) s r
all_kept-push state texts n [] [] s r h = refl
all_kept-push state texts n [] (q ∷ rs) s r h = absurd h
all_kept-push state texts n (x ∷ ss) [] s r h = absurd h
all_kept-push state texts n (x ∷ ss) (q ∷ rs) s r h = all_kept-push (state_after state (answer state q)) (kept_after state texts x q) (n + 1) ss rs s r h.1

-- one statement more
pub texts-push : (ss : List Statement) (rs : List Reading) (s : Statement) (r : Reading) → AreReadings ss rs
    → texts_of (ss ++ s ∷ []) (rs ++ r ∷ []) ≡ kept_after (performed rs).state (texts_of ss rs) s r
texts-push ss rs s r h = all_kept-push no_relvars [] 1 ss rs s r h

-- ---- the answer to one statement

short : (place : Place) (bytes : List ℕ) (r : Reading) → length bytes ≤ most_in_statement → IsShort true place bytes r → IsShort (nat_le (length bytes) most_in_statement) place bytes r
short place bytes r l h = subst (λ t. IsShort t place bytes r) (sym (le-leb (length bytes) most_in_statement l)) h

long : (place : Place) (bytes : List ℕ) → most_in_statement < length bytes → IsShort (nat_le (length bytes) most_in_statement) place bytes (Refused (refuses.Plain E03))
long place bytes l = subst (λ t. IsShort t place bytes (Refused (refuses.Plain E03))) (sym (not_le (length bytes) most_in_statement l)) refl

answered : (place : Place) (bytes : List ℕ) (n : ℕ) (old new : State) (texts now : List SourceText) (result : Result Reply NoMemory) → length bytes ≤ most_in_statement
    → IfOk result (λ reply. IsAnswerTo place bytes n old new texts now reply) → IfOk result (λ reply. IsReplyTo (Complete place bytes) old new texts now n reply)
answered place bytes n old new texts now (Err e) l h = tt
answered place bytes n old new texts now (Ok reply) l (r, is, told, left, kept) = (r, short place bytes r l is, told, left, kept)

-- a statement that is not too long is answered by its text
pub answered_text : (start place : Place) (text bytes : List ℕ) (n : ℕ) (old new : State) (texts now : List SourceText) (result : Result Reply NoMemory)
    → start ≡ place → text ≡ bytes → length bytes ≤ most_in_statement
    → IfOk result (λ reply. IsAnswerTo start text n old new texts now reply) → IfOk result (λ reply. IsReplyTo (Complete place bytes) old new texts now n reply)
answered_text start place text bytes n old new texts now result at is l h =
    answered place bytes n old new texts now result l
    (subst (λ p. IfOk result (λ reply. IsAnswerTo p bytes n old new texts now reply)) at (subst (λ t. IfOk result (λ reply. IsAnswerTo start t n old new texts now reply)) is h))

-- one that is too long is refused
pub refused_unread : (place : Place) (bytes : List ℕ) (n : ℕ) (state : State) (texts : List SourceText) (result : Result Reply NoMemory) → most_in_statement < length bytes
    → IfOk result (λ reply. IsReply n (Refusal (refuses.Plain E03)) reply) → IfOk result (λ reply. IsReplyTo (Complete place bytes) state state texts texts n reply)
refused_unread place bytes n state texts (Err e) l h = tt
refused_unread place bytes n state texts (Ok reply) l h = (Refused (refuses.Plain E03), long place bytes l, h, refl, refl)

-- what the answer takes
pub text_takes : (start place : Place) (text bytes : List ℕ) (state : State) (before now : ℕ) → start ≡ place → text ≡ bytes → length bytes ≤ most_in_statement
    → statements.TakesAtMost start text state before now → TakesAtMost (Complete place bytes) state before now
text_takes start place text bytes state before now at is l h =
    takes (subst (λ p. statements.TakesAtMost p bytes state before now) at (subst (λ t. statements.TakesAtMost start t state before now) is h))
  where
    takes : statements.TakesAtMost place bytes state before now → TakesAtMost (Complete place bytes) state before now
    takes h = elim h [
      | inl e ↦ inl e
      | inr k ↦ inr (k.0, short place bytes k.0 l k.1, k.2)
    ]
