use Rattle.std.proofs.Common.{◌∷◌, refl, sym, ◌∙◌, arith}
use Rattle.utd_syntax.specs.declared.terminal.Terminal.TheVariants as t
use Rattle.utd_syntax.specs.Table.{TheUsedItem}
use Rattle.utd_builder.specs.Building.{left}
use Rattle.utd_builder.proofs.Steps.{at, no-more, just}
use Rattle.utd_builder.proofs.StatementRows.{step-TheUsedItem}
use Rattle.utd_builder.proofs.ScalarRows.{step-TheName}
use Rattle.utd_builder.proofs.statements.used_item.Goals as goal

pub returns-in_ok-inner-in-Insert : goal.returns-in_ok-inner-in-Insert
returns-in_ok-inner-in-Insert c = record { shorter = omega (arith, no-more (left c.args.cursor) (left c.skip.result) c.skip.ensures, no-more (left c.skip.result) (left c.in_ok-name.next) c.in_ok-name.ensures.2, c.in_ok-inner-in-Insert.ensures.shorter); goes_on = λ stack k x h. let h1 = at t.Insert _ _ (left c.args.cursor) (left c.skip.result) (TheUsedItem ∷ stack) k x (sym c.terminal.ensures ∙ c.in-Insert.is) refl c.place-place.ensures refl c.skip.ensures h in let h2 = step-TheName _ _ (left c.skip.result) (left c.in_ok-name.next) _ _ x c.in_ok-name.ensures.0 c.in_ok-name.ensures.1 c.in_ok-name.ensures.2 h1 in c.in_ok-inner-in-Insert.ensures.goes_on _ _ x h2 }

pub returns-in_ok-deletion-in-Delete : goal.returns-in_ok-deletion-in-Delete
returns-in_ok-deletion-in-Delete c = record { shorter = omega (arith, no-more (left c.args.cursor) (left c.skip.result) c.skip.ensures, no-more (left c.skip.result) (left c.in_ok-name.next) c.in_ok-name.ensures.2, c.in_ok-deletion-in-Delete.ensures.shorter); goes_on = λ stack k x h. let h1 = at t.Delete _ _ (left c.args.cursor) (left c.skip.result) (TheUsedItem ∷ stack) k x (sym c.terminal.ensures ∙ c.in-Delete.is) refl c.place-place.ensures refl c.skip.ensures h in let h2 = step-TheName _ _ (left c.skip.result) (left c.in_ok-name.next) _ _ x c.in_ok-name.ensures.0 c.in_ok-name.ensures.1 c.in_ok-name.ensures.2 h1 in c.in_ok-deletion-in-Delete.ensures.goes_on _ _ x h2 }

pub returns-in_ok-sets-in_default : goal.returns-in_ok-sets-in_default
returns-in_ok-sets-in_default c = record { shorter = omega (arith, no-more (left c.args.cursor) (left c.skip.result) c.skip.ensures, no-more (left c.skip.result) (left c.in_ok-name.next) c.in_ok-name.ensures.2, c.in_ok-condition-in_default.ensures.shorter, no-more (left c.in_ok-condition-in_default.behind) (left c.skip-in_default.result) c.skip-in_default.ensures, c.in_ok-sets-in_default.ensures.shorter); goes_on = λ stack k x h. let h1 = step-TheUsedItem _ _ (left c.args.cursor) (left c.skip.result) _ k x (λ e. c.in_default.not-Insert (c.terminal.ensures ∙ e)) (λ e. c.in_default.not-Delete (c.terminal.ensures ∙ e)) c.place-place.ensures refl c.skip.ensures h in let h2 = step-TheName _ _ (left c.skip.result) (left c.in_ok-name.next) _ _ x c.in_ok-name.ensures.0 c.in_ok-name.ensures.1 c.in_ok-name.ensures.2 h1 in let h3 = c.in_ok-condition-in_default.ensures.goes_on _ _ x h2 in let h4 = just t.Colon (left c.in_ok-condition-in_default.behind) (left c.skip-in_default.result) _ _ x c.skip-in_default.ensures h3 in c.in_ok-sets-in_default.ensures.goes_on _ _ x h4 }
