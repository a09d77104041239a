use Rattle.std.proofs.Common.{sym, ◌∙◌, arith}
use Rattle.std.proofs.lemmas.List.Sums.{prefix_len_is}
use Rattle.plain_rows.specs.Lexemes.{is_text_byte}
use Rattle.plain_rows.proofs.quoted.before_quote.Goals as goal

pub returns-else-is_text_byte-clause-value : goal.returns-else-is_text_byte-clause-value
returns-else-is_text_byte-clause-value c = sym (prefix_len_is is_text_byte c.args.body.now c.plain.n 0 c.plain.invariant.0 (λ k l. c.plain.invariant.1 k 0 l) (λ l. sym c.is_text_byte.ensures ∙ c.if-is_text_byte.false))

pub returns-after-plain-clause-value : goal.returns-after-plain-clause-value
returns-after-plain-clause-value c = sym (prefix_len_is is_text_byte c.args.body.now c.plain.n 0 c.plain.invariant.0 (λ k l. c.plain.invariant.1 k 0 l) (λ l. absurd (omega (arith, c.plain-test.false))))
