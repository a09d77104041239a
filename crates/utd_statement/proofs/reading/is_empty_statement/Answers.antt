use Rattle.std.proofs.Common.{◌∷◌, ◌++◌, [], sym, ap, ◌∙◌}
use Rattle.utd_statement.proofs.EmptyLemmas.{empty-text}
use Rattle.utd_statement.proofs.reading.is_empty_statement.Goals as goal

pub returns-then-last-eq59 : goal.returns-then-last-eq59
returns-then-last-eq59 c = λ start spaces.
    let prefix = c.in-Some.prefix.now in
    empty-text start prefix c.args.text.now (sym c.are_spaces.ensures ∙ spaces) (c.in-Some.ensures.cases.0 ∙ ap (λ b. prefix ++ b ∷ []) c.if-last-eq59.true)
