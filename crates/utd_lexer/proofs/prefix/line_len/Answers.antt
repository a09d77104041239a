use Rattle.std.proofs.Common.{arith}
use Rattle.utd_lexer.proofs.GapLemmas.{line-step, line-found, line-open}
use Rattle.utd_lexer.proofs.prefix.line_len.Goals as goal

pub returns-then-body-n-eq10 : goal.returns-then-body-n-eq10
returns-then-body-n-eq10 c = line-found _ _ _ c.body-test.true c.index-body-n.is c.if-body-n-eq10.true c.body.invariant.on

pub body-preserved : goal.body-preserved
body-preserved c = record {
  within = omega (arith, c.body-test.true);
  on = line-step _ _ _ c.body-test.true c.index-body-n.is c.if-body-n-eq10.false c.body.invariant.on;
}

pub returns : goal.returns
returns c = line-open _ _ c.body.invariant.within c.body-test.false c.body.invariant.on
