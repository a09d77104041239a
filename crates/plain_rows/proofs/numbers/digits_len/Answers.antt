use Rattle.std.proofs.Common.{sym, ◌∙◌, arith}
use Rattle.std.proofs.lemmas.List.Sums.{prefix_len_is}
use Rattle.std.specs.Char.{is_ascii_digit}
use Rattle.plain_rows.proofs.numbers.digits_len.Goals as goal

pub returns-else-is_digit-clause-value : goal.returns-else-is_digit-clause-value
returns-else-is_digit-clause-value c = sym (prefix_len_is is_ascii_digit c.args.text.now c.digits.n 0 c.digits.invariant.0 (λ k l. c.digits.invariant.1 k 0 l) (λ l. sym c.is_digit.ensures.value ∙ c.if-is_digit.false))

pub returns-after-digits-clause-value : goal.returns-after-digits-clause-value
returns-after-digits-clause-value c = sym (prefix_len_is is_ascii_digit c.args.text.now c.digits.n 0 c.digits.invariant.0 (λ k l. c.digits.invariant.1 k 0 l) (λ l. absurd (omega (arith, c.digits-test.false))))
