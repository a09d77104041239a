use Rattle.std.proofs.Common.{◌≡◌, ◌≤◌, ap, arith, length, take, encode_utf8_all}
use Rattle.utd_lexer.proofs.EncodingLemmas.{prefix-width, prefix-bytes, bytes-behind}
use Rattle.utd_lexer.proofs.encoding.split_behind.Goals as goal

pub split_at-requires : goal.split_at-requires
split_at-requires c =
    let w : length (encode_utf8_all (take c.args.n c.args.chars.now)) ≤ length (encode_utf8_all c.args.chars.now) = prefix-width c.args.n c.args.chars.now in
    let b : length c.args.bytes.now ≡ length (encode_utf8_all c.args.chars.now) = ap length c.requires.encoded in
    omega (arith, w, c.prefix_width.ensures, b)

pub returns-clause-prefix : goal.returns-clause-prefix
returns-clause-prefix c = prefix-bytes c.args.chars.now c.args.bytes.now c.split_at.result.0.now c.args.n c.prefix_width.result c.requires.encoded c.prefix_width.ensures c.split_at.ensures.front

pub returns-clause-back : goal.returns-clause-back
returns-clause-back c = bytes-behind c.args.chars.now c.args.bytes.now c.split_at.result.1.now c.args.n c.prefix_width.result c.requires.encoded c.prefix_width.ensures c.split_at.ensures.back
