use Rattle.std.proofs.Common.{◌≡◌, ◌<ℤ◌, ◌+ℤ◌, pos, ℕ, Option, Result, Vec, Global, IfOk, sym, subst}
use Rattle.std.specs.Prelude.{OnErr}
use Rattle.point_core.specs.Whole.{greatest_whole}
use Rattle.value_core.specs.declared.refuse.Refuse.{Refuse}
use Rattle.tree_core.specs.Relvars.{State, read_relvars}
use Rattle.utd_statement.specs.Answers.{of_tree}
use Rattle.utd_statement.specs.Bringing.{IsDoneBy, IsTried}
use Rattle.utd_statement.specs.Costs.{TakesAtMost}
use Rattle.utd_statement.specs.Replies.{IsAnswerTo}
use Rattle.utd_statement.proofs.AnswerLemmas.{rows_answered, rows_paid, state_stays}
use Rattle.utd_statement.proofs.CountedLemmas.{answered-count, replied-count}
use Rattle.utd_statement.proofs.reply.answer_to_text.Goals as goal

pub returns-in-Some : goal.returns-in-Some
returns-in-Some g c =
    let start = c.args.start in
    let bytes = c.args.text.now in
    let old = read_relvars c.args.database.now in
    let new = read_relvars c.bring.new.database in
    let before = c.args.steps.now in
    let now = c.bring.new.steps in
    let written = c.in-Some.written in
    let done : IsDoneBy start bytes written old new before now =
    subst (λ (o : Option (Result (Vec ℕ Global) Refuse)). IsTried start bytes o old new before now) c.in-Some.is (c.bring.ensures start) in
    let answered = c.reply_with.ensures old new (of_tree old done.tree) done.performed in
    record {
      answered = rows_answered start bytes written old new new before now c.args.number c.args.texts.now c.reply_with.result done answered;
      stays = state_stays c.reply_with.result c.args.number old new (of_tree old done.tree) answered;
      count = replied-count c.reply_with.result c.args.number old new done.tree answered;
      cost = rows_paid start bytes written old new before now done;
    }

pub answer_by_tree-requires-clause-room : goal.answer_by_tree-requires-clause-room
answer_by_tree-requires-clause-room g c =
    let left = subst (λ (o : Option (Result (Vec ℕ Global) Refuse)). IsTried c.args.start c.args.text.now o (read_relvars c.args.database.now) (read_relvars c.bring.new.database) c.args.steps.now c.bring.new.steps) c.in-None.is (c.bring.ensures c.args.start) in
    subst (λ (s : State). (s.accepted +ℤ pos 1) <ℤ greatest_whole) (sym left.0) c.requires.room

pub returns-in-None : goal.returns-in-None
returns-in-None g c =
    let start = c.args.start in
    let bytes = c.args.text.now in
    let old = read_relvars c.args.database.now in
    let new = read_relvars c.bring.new.database in
    let before = c.args.steps.now in
    let now = c.bring.new.steps in
    let left = subst (λ (o : Option (Result (Vec ℕ Global) Refuse)). IsTried start bytes o old new before now) c.in-None.is (c.bring.ensures start) in
    let by = c.answer_by_tree in
    let answered = subst (λ (s : State). IfOk by.result (λ reply. IsAnswerTo start bytes c.args.number s (read_relvars by.new.database) c.args.texts.now by.new.texts reply)) left.0 by.ensures.answered in
    let stays = subst (λ (s : State). OnErr by.result (read_relvars by.new.database ≡ s)) left.0 by.ensures.stays in
    record {
      answered = answered;
      stays = stays;
      count = answered-count by.result start bytes c.args.number old (read_relvars by.new.database) c.args.texts.now by.new.texts answered stays;
      cost = subst (λ (n : ℕ). TakesAtMost start bytes old n by.new.steps) left.1 (subst (λ (s : State). TakesAtMost start bytes s now by.new.steps) left.0 by.ensures.cost);
    }
