use Rattle.std.proofs.Common.{inr, subst}
use Rattle.tree_core.specs.Relvars.{read_relvars}
use Rattle.utd_syntax.specs.Read.{read_statement}
use Rattle.utd_statement.specs.declared.reading.Parsed.{Parsed}
use Rattle.utd_statement.specs.Answers.{of_tree}
use Rattle.utd_statement.specs.Parsed.{reading_of, HasAnswer}
use Rattle.utd_statement.specs.Readings.{Tree, IsText}
use Rattle.utd_statement.proofs.AnswerLemmas.{refused_answered, state_stays, tree_answered}
use Rattle.utd_statement.proofs.reply.answer_by_tree.Goals as goal

pub returns-in-Tree-clause-answered : goal.returns-in-Tree-clause-answered
returns-in-Tree-clause-answered g c =
    let tree = read_statement c.in-Tree.statement in
    let text = subst (λ (p : Parsed). IsText c.args.start c.args.text.now (reading_of p)) c.in-Tree.is c.in_ok-parsed.ensures.read in
    let done = c.answer_to_statement in
    tree_answered c.args.start c.args.text.now (read_relvars c.args.database.now) (read_relvars done.new.database) c.args.number c.args.texts.now done.new.texts tree done.result text done.ensures.answered done.ensures.kept

pub returns-in-Tree-clause-stays : goal.returns-in-Tree-clause-stays
returns-in-Tree-clause-stays g c =
    let old = read_relvars c.args.database.now in
    let done = c.answer_to_statement in
    state_stays done.result c.args.number old (read_relvars done.new.database) (of_tree old (read_statement c.in-Tree.statement)) done.ensures.answered

pub returns-in-Tree-clause-cost : goal.returns-in-Tree-clause-cost
returns-in-Tree-clause-cost g c =
    let text = subst (λ (p : Parsed). IsText c.args.start c.args.text.now (reading_of p)) c.in-Tree.is c.in_ok-parsed.ensures.read in
    inr (Tree (read_statement c.in-Tree.statement), text, c.answer_to_statement.ensures.cost)

pub refusal-requires : goal.refusal-requires
refusal-requires g c = subst (λ (p : Parsed). HasAnswer (reading_of p)) c.in-Refused.is c.in_ok-parsed.ensures.answered

pub returns-in-Refused-clause-answered : goal.returns-in-Refused-clause-answered
returns-in-Refused-clause-answered g c =
    let text = subst (λ (p : Parsed). IsText c.args.start c.args.text.now (reading_of p)) c.in-Refused.is c.in_ok-parsed.ensures.read in
    refused_answered c.args.start c.args.text.now (read_relvars c.args.database.now) c.args.number c.args.texts.now c.in-Refused.refuse c.refusal.result text c.refusal.ensures
