use Rattle.std.proofs.Common.{◌≡◌, ◌∙◌, sym, true, false, rules}
use Rattle.u_constraints.proofs.GrowthLemmas.{beside_break, beside_holds, beside_answer}
use Rattle.u_constraints.proofs.growth.holds_beside.Goals as goal

pub returns-then-not-is_history-clause-answer : goal.returns-then-not-is_history-clause-answer
returns-then-not-is_history-clause-answer g c =
    let found : c.is_history.result ≡ false = search rules in
    sym (beside_holds c.args.c.now c.args.of.now.rows c.args.other.now.rows c.args.come.now.rows (sym c.is_history.ensures ∙ found) c.requires.held)

pub returns-clause-answer : goal.returns-clause-answer
returns-clause-answer g c =
    let found : c.is_history.result ≡ true = search rules in
    let same = beside_break c.args.c.now c.args.of.now.rows c.args.other.now.rows c.args.come.now.rows (sym c.is_history.ensures ∙ found) c.requires.held in
    beside_answer c.args.c.now c.args.of.now.rows c.args.come.now.rows _ c.holds.result same c.holds.ensures.answer
