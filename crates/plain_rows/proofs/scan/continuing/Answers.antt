use Rattle.std.proofs.Common.{sym, ◌∙◌, arith}
use Rattle.std.proofs.lemmas.List.Sums.{prefix_len_is}
use Rattle.plain_rows.specs.Lexemes.{continues_word}
use Rattle.plain_rows.proofs.scan.continuing.Goals as goal

pub returns-else-is_continuing-clause-value : goal.returns-else-is_continuing-clause-value
returns-else-is_continuing-clause-value c = sym (prefix_len_is continues_word c.args.text.now c.word.n 0 c.word.invariant.0 (λ k l. c.word.invariant.1 k 0 l) (λ l. sym c.is_continuing.ensures ∙ c.if-is_continuing.false))

pub returns-after-word-clause-value : goal.returns-after-word-clause-value
returns-after-word-clause-value c = sym (prefix_len_is continues_word c.args.text.now c.word.n 0 c.word.invariant.0 (λ k l. c.word.invariant.1 k 0 l) (λ l. absurd (omega (arith, c.word-test.false))))
