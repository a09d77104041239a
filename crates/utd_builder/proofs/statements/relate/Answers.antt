use Rattle.std.proofs.Common.{◌∙◌, ap, arith}
use Rattle.utd_builder.specs.Building.{left}
use Rattle.utd_builder.specs.Choices.{relation_comparison_of}
use Rattle.utd_builder.proofs.Steps.{no-more}
use Rattle.utd_builder.proofs.StatementRows.{comparison-to-operand, after-left}
use Rattle.utd_builder.proofs.statements.relate.Goals as goal

pub returns : goal.returns
returns c = record { shorter = omega (arith, c.in_ok-left.ensures.shorter, no-more (left c.in_ok-left.next) (left c.skip.result) c.skip.ensures, c.in_ok-right.ensures.shorter); goes_on = λ stack k x h. let h1 = comparison-to-operand (left c.args.cursor) _ k x h in let h2 = c.in_ok-left.ensures.goes_on _ _ x h1 in let h3 = after-left c.comparison_of_relations-word.result _ (left c.in_ok-left.next) (left c.skip.result) _ _ x (c.comparison_of_relations-word.ensures ∙ ap relation_comparison_of c.terminal.ensures) c.place-place.ensures c.skip.ensures h2 in c.in_ok-right.ensures.goes_on _ _ x h3 }
