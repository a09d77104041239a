use Rattle.std.proofs.Common.{sym, ◌∙◌}
use Rattle.utd_parser.proofs.Spellings.{same-pointwise, other-length}
use Rattle.utd_parser.proofs.terminals.is_same.Goals as goal

pub returns-then-left-right : goal.returns-then-left-right
returns-then-left-right c = sym (other-length c.args.left.now c.args.right.now c.if-left-right.true)

pub returns : goal.returns
returns c = c.eq.ensures ∙ same-pointwise c.args.left.now c.args.right.now
