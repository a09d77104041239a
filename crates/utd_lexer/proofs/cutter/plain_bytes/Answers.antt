use Rattle.std.proofs.Common.{sym, ◌∙◌, arith}
use Rattle.std.proofs.lemmas.List.Sums.{prefix_len_is}
use Rattle.utd_lexer.specs.Cutting.{is_plain}
use Rattle.utd_lexer.proofs.cutter.plain_bytes.Goals as goal

pub returns-else-is_plain : goal.returns-else-is_plain
returns-else-is_plain c = sym (prefix_len_is is_plain c.args.bytes.now c.plain.n 0 c.plain.invariant.0 (λ k l. c.plain.invariant.1 k 0 l) (λ l. sym c.is_plain.ensures ∙ c.if-is_plain.false))

pub returns-after-plain : goal.returns-after-plain
returns-after-plain c = sym (prefix_len_is is_plain c.args.bytes.now c.plain.n 0 c.plain.invariant.0 (λ k l. c.plain.invariant.1 k 0 l) (λ l. absurd (omega (arith, c.plain-test.false))))
