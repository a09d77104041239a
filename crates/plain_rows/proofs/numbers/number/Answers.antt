use Rattle.std.proofs.Common.{sym, ◌∙◌, arith}
use Rattle.plain_rows.proofs.NumberLemmas.{has-number}
use Rattle.plain_rows.proofs.numbers.number.Goals as goal

pub returns-then-ends_digits : goal.returns-then-ends_digits
returns-then-ends_digits c = has-number _ _ _ _ _ (omega arith) c.digits_len-n.ensures.value c.split_at.ensures.front c.split_at.ensures.back (sym c.ends_digits.ensures ∙ c.if-ends_digits.true) c.in_ok-value.ensures
