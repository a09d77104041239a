use Rattle.std.proofs.Common.{◌++◌, refl, sym, ap, arith}
use Rattle.utd_syntax.specs.declared.terminal.Terminal.TheVariants as t
use Rattle.utd_syntax.specs.Plain as plain
use Rattle.utd_syntax.specs.Read.{read_name, read_name_list}
use Rattle.utd_syntax.specs.Table.{MoreNames}
use Rattle.utd_builder.specs.Building.{left}
use Rattle.utd_builder.proofs.Steps.{no-more, just}
use Rattle.utd_builder.proofs.Paths.{none-yet}
use Rattle.utd_builder.proofs.PartRows.{step-TheSomeNames}
use Rattle.utd_builder.proofs.ScalarRows.{step-TheName}
use Rattle.utd_builder.proofs.parts.some_names.Goals as goal

pub returns : goal.returns
returns c = record { shorter = omega (arith, no-more (left c.args.cursor) (left c.skip.result) c.skip.ensures, no-more (left c.skip.result) (left c.in_ok-first.next) c.in_ok-first.ensures.2, c.in_ok-more.ensures.shorter, no-more (left c.in_ok-more.end) (left c.skip-2.result) c.skip-2.ensures); goes_on = λ stack k x h. let h1 = step-TheSomeNames _ _ (left c.args.cursor) (left c.skip.result) _ k x c.place-place.ensures refl c.skip.ensures h in let h2 = step-TheName _ _ (left c.skip.result) (left c.in_ok-first.next) _ _ x c.in_ok-first.ensures.0 c.in_ok-first.ensures.1 c.in_ok-first.ensures.2 h1 in let h3 = none-yet MoreNames (left c.in_ok-first.next) _ (λ v. read_name_list c.new-list.result.items ++ v) _ x (λ v. ap (λ xs. read_name_list xs ++ v) (sym c.new-list.ensures.items)) h2 in let h4 = c.in_ok-more.ensures.goes_on _ (λ w. k (plain.SomeNames c.place-place.result (read_name c.in_ok-first.first) w.0, w.1.1)) x h3 in just t.CloseBrace (left c.in_ok-more.end) (left c.skip-2.result) _ _ x c.skip-2.ensures h4 }
