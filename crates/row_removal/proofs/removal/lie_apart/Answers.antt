use Rattle.row_removal.proofs.LeavingLemmas.{apart_before, apart_behind}
use Rattle.row_removal.proofs.removal.lie_apart.Goals as goal

pub returns-then-are_behind : goal.returns-then-are_behind
returns-then-are_behind c = λ behind. apart_behind c.args.rows.now c.args.others.now (c.are_behind.ensures behind)

pub returns-else-are_behind : goal.returns-else-are_behind
returns-else-are_behind c = λ behind. apart_before c.args.rows.now c.args.others.now (c.are_behind-else-are_behind.ensures behind)
