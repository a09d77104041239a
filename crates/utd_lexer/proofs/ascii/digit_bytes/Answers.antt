use Rattle.std.proofs.Common.{sym, ◌∙◌, arith}
use Rattle.std.proofs.lemmas.List.Sums.{prefix_len_is}
use Rattle.std.specs.Char.{is_ascii_digit}
use Rattle.utd_lexer.proofs.ascii.digit_bytes.Goals as goal

pub returns-else-is_ascii_digit : goal.returns-else-is_ascii_digit
returns-else-is_ascii_digit c = sym (prefix_len_is is_ascii_digit c.args.bytes.now c.digits.n 0 c.digits.invariant.0 (λ k l. c.digits.invariant.1 k 0 l) (λ l. sym c.is_ascii_digit.ensures.value ∙ c.if-is_ascii_digit.false))

pub returns-after-digits : goal.returns-after-digits
returns-after-digits c = sym (prefix_len_is is_ascii_digit c.args.bytes.now c.digits.n 0 c.digits.invariant.0 (λ k l. c.digits.invariant.1 k 0 l) (λ l. absurd (omega (arith, c.digits-test.false))))
