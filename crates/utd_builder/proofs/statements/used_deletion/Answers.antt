use Rattle.std.proofs.Common.{◌∷◌, refl, sym, ◌∙◌, arith}
use Rattle.utd_syntax.specs.declared.terminal.Terminal.TheVariants as t
use Rattle.utd_syntax.specs.Table.{TheUsedDeletion}
use Rattle.utd_builder.specs.Building.{left}
use Rattle.utd_builder.proofs.Steps.{at, no-more}
use Rattle.utd_builder.proofs.StatementRows.{used_deletion-to-rel}
use Rattle.utd_builder.proofs.statements.used_deletion.Goals as goal

pub returns-in_ok-inner-in-Where : goal.returns-in_ok-inner-in-Where
returns-in_ok-inner-in-Where c = record { shorter = omega (arith, no-more (left c.args.cursor) (left c.skip.result) c.skip.ensures, c.in_ok-inner-in-Where.ensures.shorter); goes_on = λ stack k x h. let h1 = at t.Where _ _ (left c.args.cursor) (left c.skip.result) (TheUsedDeletion ∷ stack) k x (sym c.terminal.ensures ∙ c.in-Where.is) refl c.place-place.ensures refl c.skip.ensures h in c.in_ok-inner-in-Where.ensures.goes_on _ _ x h1 }

pub returns-in_ok-inner-in_default : goal.returns-in_ok-inner-in_default
returns-in_ok-inner-in_default c = record { shorter = omega (arith, c.in_ok-inner-in_default.ensures.shorter); goes_on = λ stack k x h. let h1 = used_deletion-to-rel (left c.args.cursor) _ k x (λ e. c.in_default.not-Where (c.terminal.ensures ∙ e)) h in c.in_ok-inner-in_default.ensures.goes_on _ _ x h1 }
