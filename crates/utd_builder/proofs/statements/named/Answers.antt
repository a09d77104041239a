use Rattle.std.proofs.Common.{◌∷◌, refl, sym, ◌∙◌, arith}
use Rattle.utd_syntax.specs.declared.terminal.Terminal.TheVariants as t
use Rattle.utd_syntax.specs.Table.{AfterLog}
use Rattle.utd_syntax.specs.Written.{of_word}
use Rattle.utd_builder.specs.Building.{left}
use Rattle.utd_builder.proofs.Steps.{at, no-more, just, second-behind, worded}
use Rattle.utd_builder.proofs.ScalarRows.{step-TheName}
use Rattle.utd_builder.proofs.StatementRows.{log-begins, name-to-assign}
use Rattle.utd_builder.proofs.statements.named.Goals as goal

pub returns-in_ok-attribute-in-Name : goal.returns-in_ok-attribute-in-Name
returns-in_ok-attribute-in-Name c = record { shorter = omega (arith, no-more (left c.args.cursor) (left c.skip-behind.result) c.skip-behind.ensures, no-more (left c.skip-behind.result) (left c.in_ok-log-in-Name.next) c.in_ok-log-in-Name.ensures.2, no-more (left c.in_ok-log-in-Name.next) (left c.skip.result) c.skip.ensures, no-more (left c.skip.result) (left c.in_ok-source-in-Name.rest) c.in_ok-source-in-Name.ensures.2, c.in_ok-attribute-in-Name.ensures.shorter, no-more (left c.in_ok-attribute-in-Name.end) (left c.skip-in-Name.result) c.skip-in-Name.ensures); goes_on = λ stack k x h. let h1 = log-begins _ (left c.args.cursor) (left c.skip-behind.result) _ k x c.requires (sym c.terminal.ensures ∙ c.in-Name.is) c.place-place.ensures c.skip-behind.ensures h in let h2 = at t.Name _ _ (left c.skip-behind.result) (left c.in_ok-log-in-Name.next) (AfterLog ∷ stack) _ x (sym c.terminal.ensures ∙ c.in-Name.is) refl c.in_ok-log-in-Name.ensures.0 c.in_ok-log-in-Name.ensures.1 c.in_ok-log-in-Name.ensures.2 h1 in let h3 = worded of_word _ (left c.in_ok-log-in-Name.next) (left c.skip.result) _ _ x refl c.skip.ensures h2 in let h4 = step-TheName _ _ (left c.skip.result) (left c.in_ok-source-in-Name.rest) _ _ x c.in_ok-source-in-Name.ensures.0 c.in_ok-source-in-Name.ensures.1 c.in_ok-source-in-Name.ensures.2 h3 in let h5 = c.in_ok-attribute-in-Name.ensures.goes_on _ _ x h4 in just t.Semicolon (left c.in_ok-attribute-in-Name.end) (left c.skip-in-Name.result) _ _ x c.skip-in-Name.ensures h5 }

pub returns-in_ok-only-in_default : goal.returns-in_ok-only-in_default
returns-in_ok-only-in_default c = record { shorter = omega (arith, c.in_ok-only-in_default.ensures.shorter, no-more (left c.in_ok-only-in_default.next) (left c.skip-in_default.result) c.skip-in_default.ensures); goes_on = λ stack k x h. let h1 = name-to-assign (left c.args.cursor) _ k x c.requires (λ e. c.in_default.not-Name (c.terminal.ensures ∙ sym (second-behind (left c.args.cursor) (left c.skip-behind.result) c.skip-behind.ensures) ∙ e)) h in let h2 = c.in_ok-only-in_default.ensures.goes_on _ _ x h1 in just t.Semicolon (left c.in_ok-only-in_default.next) (left c.skip-in_default.result) _ _ x c.skip-in_default.ensures h2 }
