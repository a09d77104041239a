use Rattle.std.proofs.Common.{◌∷◌, refl, sym, ◌∙◌, arith}
use Rattle.utd_syntax.specs.declared.terminal.Terminal.TheVariants as t
use Rattle.utd_syntax.specs.Plain as plain
use Rattle.utd_syntax.specs.Read.{read_list, read_name}
use Rattle.utd_syntax.specs.Table.{AfterKept}
use Rattle.utd_builder.specs.Building.{left}
use Rattle.utd_builder.proofs.Steps.{at, no-more, just}
use Rattle.utd_builder.proofs.ScalarRows.{step-TheName}
use Rattle.utd_builder.proofs.StatementRows.{step-AfterKept}
use Rattle.utd_builder.proofs.statements.kept_otherwise.Goals as goal

pub returns-in_ok-second-in-Not : goal.returns-in_ok-second-in-Not
returns-in_ok-second-in-Not c = record { shorter = omega (arith, no-more (left c.args.cursor) (left c.skip-behind.result) c.skip-behind.ensures, no-more (left c.skip-behind.result) (left c.skip.result) c.skip.ensures, no-more (left c.skip.result) (left c.in_ok-second-in-Not.next) c.in_ok-second-in-Not.ensures.2); goes_on = λ stack k x h. let h1 = at t.Not _ _ (left c.args.cursor) (left c.skip-behind.result) (AfterKept ∷ stack) (λ vs. k (vs.0 c.args.place (read_list c.args.names) (read_name c.args.first), vs.1)) x (sym c.terminal.ensures ∙ c.in-Not.is) refl c.place-at.ensures refl c.skip-behind.ensures h in let h2 = just t.Matching (left c.skip-behind.result) (left c.skip.result) _ _ x c.skip.ensures h1 in step-TheName _ _ (left c.skip.result) (left c.in_ok-second-in-Not.next) _ _ x c.in_ok-second-in-Not.ensures.0 c.in_ok-second-in-Not.ensures.1 c.in_ok-second-in-Not.ensures.2 h2 }

pub returns-in_ok-onto-in_default : goal.returns-in_ok-onto-in_default
returns-in_ok-onto-in_default c = record { shorter = omega (arith, no-more (left c.args.cursor) (left c.skip-behind.result) c.skip-behind.ensures, c.in_ok-onto-in_default.ensures.shorter); goes_on = λ stack k x h. let h1 = step-AfterKept _ _ (left c.args.cursor) (left c.skip-behind.result) _ (λ vs. k (vs.0 c.args.place (read_list c.args.names) (read_name c.args.first), vs.1)) x c.requires (λ e. c.in_default.not-Not (c.terminal.ensures ∙ e)) c.place-at.ensures refl c.skip-behind.ensures h in c.in_ok-onto-in_default.ensures.goes_on _ (λ w. k (plain.KeptProject c.args.place (read_list c.args.names) (read_name c.args.first) w.0, w.1)) x h1 }
