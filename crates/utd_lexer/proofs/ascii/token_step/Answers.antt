use Rattle.utd_lexer.proofs.AsciiLemmas.{plain-step}
use Rattle.utd_lexer.proofs.ascii.token_step.Goals as goal

pub returns : goal.returns
returns c = plain-step c.args.bytes.now c.args.kind c.args.n c.split_at.result.0.now c.requires.ascii c.requires.front c.split_at.ensures.front
