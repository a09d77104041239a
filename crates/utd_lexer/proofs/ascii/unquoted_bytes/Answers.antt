use Rattle.std.proofs.Common.{sym, ◌∙◌, arith}
use Rattle.std.proofs.lemmas.List.Sums.{prefix_len_is}
use Rattle.utd_lexer.specs.Tokens.{unquoted}
use Rattle.utd_lexer.proofs.ascii.unquoted_bytes.Goals as goal

pub returns-else-is_unquoted : goal.returns-else-is_unquoted
returns-else-is_unquoted c = sym (prefix_len_is unquoted c.args.bytes.now c.plain.n 0 c.plain.invariant.0 (λ k l. c.plain.invariant.1 k 0 l) (λ l. sym c.is_unquoted.ensures ∙ c.if-is_unquoted.false))

pub returns-after-plain : goal.returns-after-plain
returns-after-plain c = sym (prefix_len_is unquoted c.args.bytes.now c.plain.n 0 c.plain.invariant.0 (λ k l. c.plain.invariant.1 k 0 l) (λ l. absurd (omega (arith, c.plain-test.false))))
