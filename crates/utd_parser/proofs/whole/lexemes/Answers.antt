use Rattle.std.proofs.Common.{refl}
use Rattle.utd_parser.proofs.Trees.{pieces-more}
use Rattle.utd_parser.proofs.whole.lexemes.Goals as goal

pub loop-token-preserved : goal.loop-token-preserved
loop-token-preserved c = pieces-more c.loop-token.list.items c.push.new.self.items _ c.args.tokens.now c.loop-token.token-index c.token-item.result c.loop-token-test.true c.token-item.is c.loop-token.invariant (rw (c.terminal_of.ensures, c.bytes_of.ensures) refl) c.in_ok-push.ensures.items
