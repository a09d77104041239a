use Rattle.std.proofs.Common.{◌++◌, ◌∷◌, refl, sym, ◌∙◌, ap, arith}
use Rattle.utd_syntax.specs.declared.terminal.Terminal.TheVariants as t
use Rattle.utd_syntax.specs.Plain as plain
use Rattle.utd_syntax.specs.Read.{read_name, read_name_list}
use Rattle.utd_syntax.specs.Table.{MoreNames, InProjection}
use Rattle.utd_builder.specs.Building.{left}
use Rattle.utd_builder.proofs.Steps.{at, no-more, just}
use Rattle.utd_builder.proofs.Paths.{none-yet}
use Rattle.utd_builder.proofs.PartRows.{onto}
use Rattle.utd_builder.proofs.ScalarRows.{step-TheName}
use Rattle.utd_builder.proofs.parts.projection.Goals as goal

pub returns-in_ok-more-in-All : goal.returns-in_ok-more-in-All
returns-in_ok-more-in-All c = record { shorter = omega (arith, no-more (left c.args.cursor) (left c.skip.result) c.skip.ensures, no-more (left c.skip.result) (left c.skip-in-All.result) c.skip-in-All.ensures, no-more (left c.skip-in-All.result) (left c.in_ok-first-in-All.next) c.in_ok-first-in-All.ensures.2, c.in_ok-more-in-All.ensures.shorter, no-more (left c.in_ok-more-in-All.end) (left c.skip-in-All-2.result) c.skip-in-All-2.ensures); goes_on = λ stack k x h. let h1 = at t.All _ _ (left c.args.cursor) (left c.skip.result) (InProjection ∷ stack) (λ vs. k (vs.0 c.args.place, vs.1)) x (sym c.terminal.ensures ∙ c.in-All.is) refl refl refl c.skip.ensures h in let h2 = just t.But (left c.skip.result) (left c.skip-in-All.result) _ _ x c.skip-in-All.ensures h1 in let h3 = step-TheName _ _ (left c.skip-in-All.result) (left c.in_ok-first-in-All.next) _ _ x c.in_ok-first-in-All.ensures.0 c.in_ok-first-in-All.ensures.1 c.in_ok-first-in-All.ensures.2 h2 in let h4 = none-yet MoreNames (left c.in_ok-first-in-All.next) _ (λ v. read_name_list c.new-list.result.items ++ v) _ x (λ v. ap (λ xs. read_name_list xs ++ v) (sym c.new-list.ensures.items)) h3 in let h5 = c.in_ok-more-in-All.ensures.goes_on _ (λ w. k (plain.AllBut c.args.place (read_name c.in_ok-first-in-All.first) w.0, w.1.1)) x h4 in just t.CloseBrace (left c.in_ok-more-in-All.end) (left c.skip-in-All-2.result) _ _ x c.skip-in-All-2.ensures h5 }

pub returns-in_ok-names-in_default : goal.returns-in_ok-names-in_default
returns-in_ok-names-in_default c = record { shorter = omega (arith, c.in_ok-names-in_default.ensures.names.shorter); goes_on = λ stack k x h. let h1 = onto (left c.args.cursor) stack (λ vs. k (vs.0 c.args.place, vs.1)) x (λ e. c.in_default.not-All (c.terminal.ensures ∙ e)) h in c.in_ok-names-in_default.ensures.names.goes_on _ _ x h1 }
