-- What is answered to the bytes of a statement.
--     rows_answered, rows_paid      where they bring rows
--     tree_answered, refused_answered      where they are read as a tree, or refused
--     state_stays      for want of memory
use Rattle.std.proofs.Common.{◌≡◌, inr, ℕ, Bool, true, false, List, Result, Ok, Err, Vec, Global, IfOk, refl, sym, subst}
use Rattle.std.specs.Prelude.{OnErr}
use Rattle.point_core.specs.declared.fault.Place.{Place}
use Rattle.point_core.specs.declared.memory.Memory.{Memory as NoMemory}
use Rattle.value_core.specs.declared.refuse.Refuse.{Refuse}
use Rattle.tree_core.specs.Relvars.{State}
use Rattle.utd_lexer.specs.Gaps.{without_gaps}
use Rattle.utd_syntax.specs.Plain.{StatementP}
use Rattle.dump_core.specs.Texts.{SourceText}
use Rattle.utd_statement.specs.declared.reply.Reply.{Reply}
use Rattle.utd_statement.specs.Answers.{Answer, Refusal, of_tree}
use Rattle.utd_statement.specs.Bringing.{IsDoneBy}
use Rattle.utd_statement.specs.Costs.{TakesAtMost}
use Rattle.utd_statement.specs.Keeping.{Keeping, Leaves, keeping_of, settled}
use Rattle.utd_statement.specs.Readings.{Tree, Refused, IsText}
use Rattle.utd_statement.specs.Replies.{IsAnswered, IsAnswerTo, IsReply}

left_so : (bytes : List ℕ) (accepted : Bool) (texts : List SourceText) → texts ≡ settled Leaves bytes accepted texts
left_so bytes true texts = refl
left_so bytes false texts = refl

-- a statement that keeps no text leaves the texts as they are
texts_left : (keeping : Keeping) (bytes : List ℕ) (accepted : Bool) (texts : List SourceText) → keeping ≡ Leaves → texts ≡ settled keeping bytes accepted texts
texts_left keeping bytes accepted texts e = subst (λ (k : Keeping). texts ≡ settled k bytes accepted texts) (sym e) (left_so bytes accepted texts)

pub rows_answered : (start : Place) (bytes : List ℕ) (written : Result (Vec ℕ Global) Refuse) (old mid new : State) (before now n : ℕ) (texts : List SourceText) (result : Result Reply NoMemory)
    → (done : IsDoneBy start bytes written old mid before now) → IsAnswered result n old new (of_tree old done.tree) → IfOk result (λ reply. IsAnswerTo start bytes n old new texts texts reply)
rows_answered start bytes written old mid new before now n texts (Ok reply) done h = (Tree done.tree, done.text, h.0, h.1, texts_left (keeping_of done.tree) (without_gaps bytes) _ texts done.leaves)
rows_answered start bytes written old mid new before now n texts (Err memory) done h = tt

pub rows_paid : (start : Place) (bytes : List ℕ) (written : Result (Vec ℕ Global) Refuse) (old new : State) (before now : ℕ) → IsDoneBy start bytes written old new before now → TakesAtMost start bytes old before now
rows_paid start bytes written old new before now done = inr (Tree done.tree, done.text, done.cost)

pub tree_answered : (start : Place) (bytes : List ℕ) (old new : State) (n : ℕ) (texts texts_now : List SourceText) (tree : StatementP) (result : Result Reply NoMemory)
    → IsText start bytes (Tree tree) → IsAnswered result n old new (of_tree old tree) → IfOk result (λ reply. texts_now ≡ settled (keeping_of tree) (without_gaps bytes) reply.accepted texts)
    → IfOk result (λ reply. IsAnswerTo start bytes n old new texts texts_now reply)
tree_answered start bytes old new n texts texts_now tree (Ok reply) text h kept =
    (Tree tree, text, h.0, h.1, subst (λ (b : Bool). texts_now ≡ settled (keeping_of tree) (without_gaps bytes) b texts) h.0.1 kept)
tree_answered start bytes old new n texts texts_now tree (Err memory) text h kept = tt

pub refused_answered : (start : Place) (bytes : List ℕ) (old : State) (n : ℕ) (texts : List SourceText) (refuse : Refuse) (result : Result Reply NoMemory)
    → IsText start bytes (Refused refuse) → IfOk result (IsReply n (Refusal refuse)) → IfOk result (λ reply. IsAnswerTo start bytes n old old texts texts reply)
refused_answered start bytes old n texts refuse (Ok reply) text h = (Refused refuse, text, h, refl, refl)
refused_answered start bytes old n texts refuse (Err memory) text h = tt

pub state_stays : (result : Result Reply NoMemory) (n : ℕ) (old new : State) (a : Answer) → IsAnswered result n old new a → OnErr result (new ≡ old)
state_stays (Ok reply) n old new a h = tt
state_stays (Err memory) n old new a h = h
