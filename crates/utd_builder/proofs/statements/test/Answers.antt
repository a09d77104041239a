use Rattle.std.proofs.Common.{◌∷◌, refl, sym, ◌∙◌, arith}
use Rattle.utd_syntax.specs.declared.terminal.Terminal.TheVariants as t
use Rattle.utd_syntax.specs.Table.{TheTest}
use Rattle.utd_builder.specs.Building.{left}
use Rattle.utd_builder.proofs.Steps.{at, no-more, just}
use Rattle.utd_builder.proofs.StatementRows.{test-to-comparison}
use Rattle.utd_builder.proofs.statements.test.Goals as goal

pub returns-in_ok-comparison-in-Using : goal.returns-in_ok-comparison-in-Using
returns-in_ok-comparison-in-Using c = record { shorter = omega (arith, no-more (left c.args.cursor) (left c.skip.result) c.skip.ensures, c.in_ok-names-in-Using.ensures.shorter, no-more (left c.in_ok-names-in-Using.next) (left c.skip-in-Using.result) c.skip-in-Using.ensures, c.in_ok-comparison-in-Using.ensures.shorter); goes_on = λ stack k x h. let h1 = at t.Using _ _ (left c.args.cursor) (left c.skip.result) (TheTest ∷ stack) k x (sym c.terminal.ensures ∙ c.in-Using.is) refl c.place-place.ensures refl c.skip.ensures h in let h2 = c.in_ok-names-in-Using.ensures.goes_on _ _ x h1 in let h3 = just t.Colon (left c.in_ok-names-in-Using.next) (left c.skip-in-Using.result) _ _ x c.skip-in-Using.ensures h2 in c.in_ok-comparison-in-Using.ensures.goes_on _ _ x h3 }

pub emptiness-requires : goal.emptiness-requires
emptiness-requires c = (sym c.terminal.ensures ∙ c.in-IsEmpty.is)

pub returns-in-IsEmpty : goal.returns-in-IsEmpty
returns-in-IsEmpty c = c.emptiness.ensures

pub emptiness-requires-in-IsNotEmpty : goal.emptiness-requires-in-IsNotEmpty
emptiness-requires-in-IsNotEmpty c = (sym c.terminal.ensures ∙ c.in-IsNotEmpty.is)

pub returns-in-IsNotEmpty : goal.returns-in-IsNotEmpty
returns-in-IsNotEmpty c = c.emptiness-in-IsNotEmpty.ensures

pub returns-in_ok-only-in_default : goal.returns-in_ok-only-in_default
returns-in_ok-only-in_default c = record { shorter = omega (arith, c.in_ok-only-in_default.ensures.shorter); goes_on = λ stack k x h. let h1 = test-to-comparison (left c.args.cursor) _ k x (λ e. c.in_default.not-Using (c.terminal.ensures ∙ e)) (λ e. c.in_default.not-IsEmpty (c.terminal.ensures ∙ e)) (λ e. c.in_default.not-IsNotEmpty (c.terminal.ensures ∙ e)) h in c.in_ok-only-in_default.ensures.goes_on _ _ x h1 }
