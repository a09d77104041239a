use Rattle.std.proofs.Common.{◌+◌, arith}
use Rattle.utd_lexer.proofs.EncodingLemmas.{width-more, prefix-width}
use Rattle.utd_lexer.proofs.encoding.width.Goals as goal

pub overflow_add-n : goal.overflow_add-n
overflow_add-n c =
    let more = width-more c.args.chars.now c.loop-c.c-index c.c-item.result c.loop-c.n c.len_utf8-n.result c.loop-c-test.true c.c-item.is c.loop-c.invariant c.len_utf8-n.ensures.len in
    let within = prefix-width (c.loop-c.c-index + 1) c.args.chars.now in
    omega (arith, more, within, c.requires)

pub loop-c-preserved : goal.loop-c-preserved
loop-c-preserved c = width-more c.args.chars.now c.loop-c.c-index c.c-item.result c.loop-c.n c.len_utf8-n.result c.loop-c-test.true c.c-item.is c.loop-c.invariant c.len_utf8-n.ensures.len
