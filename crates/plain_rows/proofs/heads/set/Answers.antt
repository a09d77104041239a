use Rattle.std.proofs.Common.{◌∷◌, [], sym, subst}
use Rattle.utd_lexer.specs.declared.token.TokenKind.TheVariants.{Word}
use Rattle.plain_rows.specs.Lexemes.{Begins}
use Rattle.plain_rows.specs.Tuples.{assign_symbol}
use Rattle.plain_rows.proofs.IntervalLemmas.{begins-both}
use Rattle.plain_rows.proofs.heads.set.Goals as goal

pub returns-clause-begins : goal.returns-clause-begins
returns-clause-begins c =
    let name = subst (λ z. Begins c.args.text.now ((Word, z) ∷ []) c.in_ok-bytes.behind.now) (sym c.in_ok-name.ensures.same) c.in_ok-bytes.ensures in
    begins-both _ _ _ _ ((Word, c.in_ok-name.name) ∷ []) (assign_symbol ∷ []) name c.past_space-here.ensures c.in_ok-rest.ensures
