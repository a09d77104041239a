use Rattle.std.proofs.Common.{◌∷◌, refl, sym, ◌∙◌, ap, arith}
use Rattle.utd_syntax.specs.declared.terminal.Terminal.TheVariants as t
use Rattle.utd_syntax.specs.Table.{TheAggregateForm}
use Rattle.utd_builder.specs.Building.{left}
use Rattle.utd_builder.specs.Choices.{aggregate_word_at}
use Rattle.utd_builder.proofs.Steps.{at, no-more, just}
use Rattle.utd_builder.proofs.PartRows.{step-EmptyParens, aggregate-of}
use Rattle.utd_builder.proofs.ScalarRows.{step-InParens}
use Rattle.utd_builder.proofs.parts.aggregate_form.Goals as goal

pub returns-in-Count : goal.returns-in-Count
returns-in-Count c = record { shorter = omega (arith, no-more (left c.args.cursor) (left c.skip.result) c.skip.ensures, no-more (left c.skip.result) (left c.skip-inner.result) c.skip-inner.ensures, no-more (left c.skip-inner.result) (left c.skip-in-Count.result) c.skip-in-Count.ensures); goes_on = λ stack k x h. let h1 = at t.Count _ _ (left c.args.cursor) (left c.skip.result) (TheAggregateForm ∷ stack) k x (sym c.terminal-terminal.ensures ∙ c.in-Count.is) refl c.place-place.ensures refl c.skip.ensures h in let h2 = step-EmptyParens _ _ (left c.skip.result) (left c.skip-inner.result) _ _ x refl refl c.skip-inner.ensures h1 in just t.Close (left c.skip-inner.result) (left c.skip-in-Count.result) _ _ x c.skip-in-Count.ensures h2 }

pub returns-in_ok-scalar-in_default : goal.returns-in_ok-scalar-in_default
returns-in_ok-scalar-in_default c = record { shorter = omega (arith, no-more (left c.args.cursor) (left c.skip.result) c.skip.ensures, no-more (left c.skip.result) (left c.skip-inner.result) c.skip-inner.ensures, c.in_ok-scalar-in_default.ensures.shorter, no-more (left c.in_ok-scalar-in_default.next) (left c.skip-in_default.result) c.skip-in_default.ensures); goes_on = λ stack k x h. let h1 = aggregate-of c.aggregate_word-word.result _ (left c.args.cursor) (left c.skip.result) stack k x (c.aggregate_word-word.ensures ∙ ap aggregate_word_at c.terminal-terminal.ensures) (λ e. c.in_default.not-Count (c.terminal-terminal.ensures ∙ e)) c.place-place.ensures c.skip.ensures h in let h2 = step-InParens _ _ (left c.skip.result) (left c.skip-inner.result) _ _ x refl refl c.skip-inner.ensures h1 in let h3 = c.in_ok-scalar-in_default.ensures.goes_on _ _ x h2 in just t.Close (left c.in_ok-scalar-in_default.next) (left c.skip-in_default.result) _ _ x c.skip-in_default.ensures h3 }
