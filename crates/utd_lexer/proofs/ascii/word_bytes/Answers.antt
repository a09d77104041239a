use Rattle.std.proofs.Common.{sym, ◌∙◌, arith}
use Rattle.std.proofs.lemmas.List.Sums.{prefix_len_is}
use Rattle.utd_lexer.specs.Tokens.{continues}
use Rattle.utd_lexer.proofs.ascii.word_bytes.Goals as goal

pub returns-else-goes_on : goal.returns-else-goes_on
returns-else-goes_on c = sym (prefix_len_is continues c.args.bytes.now c.word.n 0 c.word.invariant.0 (λ k l. c.word.invariant.1 k 0 l) (λ l. sym c.goes_on.ensures ∙ c.if-goes_on.false))

pub returns-after-word : goal.returns-after-word
returns-after-word c = sym (prefix_len_is continues c.args.bytes.now c.word.n 0 c.word.invariant.0 (λ k l. c.word.invariant.1 k 0 l) (λ l. absurd (omega (arith, c.word-test.false))))
