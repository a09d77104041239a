use Rattle.std.proofs.Common.{◌≡◌, ◌≤◌, rules, ap, ◌∙◌, arith, length, take, encode_utf8_all}
use Rattle.utd_lexer.proofs.EncodingLemmas.{prefix-width, one-byte-each}
use Rattle.utd_lexer.proofs.encoding.prefix_width.Goals as goal

pub width-requires : goal.width-requires
width-requires c =
    let w : length (encode_utf8_all (take c.args.n c.args.chars.now)) ≤ length (encode_utf8_all c.args.chars.now) = prefix-width c.args.n c.args.chars.now in
    let e : length (encode_utf8_all c.split_at.result.0.now) ≡ length (encode_utf8_all (take c.args.n c.args.chars.now)) = ap (λ z. length (encode_utf8_all z)) c.split_at.ensures.front in
    let s : length (encode_utf8_all c.split_at.result.0.now) ≤ c.args.total = omega (arith, w, e, c.requires.total) in
    search (rules, s)

pub returns-then-chars-total : goal.returns-then-chars-total
returns-then-chars-total c = one-byte-each c.args.n c.args.chars.now c.requires.within (c.if-chars-total.true ∙ c.requires.total)
