use Rattle.std.proofs.Common.{◌≡◌, true, false, rules}
use Rattle.u_constraints.proofs.HistoryLemmas.{broken_where_overrun, else_by_touch}
use Rattle.u_constraints.proofs.histories.keeps_history.Goals as goal

pub returns-then-branch : goal.returns-then-branch
returns-then-branch c =
    let found : c.in_ok-is_overrun.field-0 ≡ true = search rules in
    broken_where_overrun c.args.rule.now c.args.of.now c.args.other.now c.in_ok-is_overrun.ensures.relation c.requires.2 c.requires.6 c.requires.8 c.in_ok-is_overrun.field-0 c.in_ok-is_overrun.ensures.answer found

pub returns : goal.returns
returns c =
    let none : c.in_ok-is_overrun.field-0 ≡ false = search rules in
    else_by_touch c.args.rule.now c.args.of.now c.args.other.now c.in_ok-is_overrun.ensures.relation c.requires.2 c.requires.6 c.requires.8 c.in_ok-is_overrun.field-0 c.in_ok-touched.touched c.in_ok-is_overrun.ensures.answer none
    c.in_ok-touched.ensures
