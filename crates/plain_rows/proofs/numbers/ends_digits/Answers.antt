use Rattle.std.proofs.Common.{sym, ap, ◌∙◌}
use Rattle.plain_rows.specs.Lexemes.{ends_before}
use Rattle.std.specs.Char.{is_ascii_digit}
use Rattle.plain_rows.proofs.WordLemmas.{ends-nothing}
use Rattle.plain_rows.proofs.numbers.ends_digits.Goals as goal

pub returns-in-None : goal.returns-in-None
returns-in-None c = sym (ends-nothing is_ascii_digit c.args.rest.now c.in-None.ensures.cases)

pub returns-in-Some : goal.returns-in-Some
returns-in-Some c = c.is_stopping.ensures ∙ ap (ends_before is_ascii_digit) (sym c.in-Some.ensures.cases.0)
