use Rattle.std.proofs.Common.{arith}
use Rattle.utd_lexer.proofs.GapLemmas.{block-step, block-step-other, block-found, block-none}
use Rattle.utd_lexer.proofs.prefix.block_len.Goals.{else-body-n-eq42-via-then-body-n-eq42+else-body-n-eq47, else-body-n-eq42-via-else-body-n-eq42}
use Rattle.utd_lexer.proofs.prefix.block_len.Goals as goal

pub returns-then-body-n-eq47 : goal.returns-then-body-n-eq47
returns-then-body-n-eq47 c = block-found _ _ _ _ c.body-test.true c.index-body-n.is c.index-body-n-then-body-n-eq42.is c.if-body-n-eq42.true c.if-body-n-eq47.true c.body.invariant.on

pub body-preserved : goal.body-preserved
body-preserved c = record {
  within = omega (arith, c.body-test.true);
  on = elim c.else-body-n-eq42.branch [
    | else-body-n-eq42-via-then-body-n-eq42+else-body-n-eq47 w ↦ block-step _ _ _ _ c.body-test.true c.index-body-n.is w.index-body-n-then-body-n-eq42.is (λ e. w.if-body-n-eq47.false) c.body.invariant.on
    | else-body-n-eq42-via-else-body-n-eq42 w ↦ block-step-other _ _ _ c.body-test.true c.index-body-n.is w.if-body-n-eq42.false c.body.invariant.on
  ];
}

pub returns : goal.returns
returns c = block-none _ _ c.body-test.false c.body.invariant.on
