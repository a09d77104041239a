use Rattle.std.proofs.Common.{◌++◌, refl, sym, ap, arith}
use Rattle.utd_syntax.specs.declared.terminal.Terminal.TheVariants as t
use Rattle.utd_syntax.specs.Plain as plain
use Rattle.utd_syntax.specs.Read.{read_element, read_element_list}
use Rattle.utd_syntax.specs.Table.{MoreElements}
use Rattle.utd_builder.specs.Building.{left}
use Rattle.utd_builder.proofs.Steps.{no-more, just}
use Rattle.utd_builder.proofs.Paths.{none-yet}
use Rattle.utd_builder.proofs.PartRows.{step-TheSomeElements}
use Rattle.utd_builder.proofs.parts.some_elements.Goals as goal

pub returns : goal.returns
returns c = record { shorter = omega (arith, no-more (left c.args.cursor) (left c.skip.result) c.skip.ensures, c.in_ok-first.ensures.shorter, c.in_ok-more.ensures.shorter, no-more (left c.in_ok-more.end) (left c.skip-2.result) c.skip-2.ensures); goes_on = λ stack k x h. let h1 = step-TheSomeElements _ _ (left c.args.cursor) (left c.skip.result) _ k x c.place-place.ensures refl c.skip.ensures h in let h2 = c.in_ok-first.ensures.goes_on _ _ x h1 in let h3 = none-yet MoreElements (left c.in_ok-first.next) _ (λ v. read_element_list c.new-list.result.items ++ v) _ x (λ v. ap (λ xs. read_element_list xs ++ v) (sym c.new-list.ensures.items)) h2 in let h4 = c.in_ok-more.ensures.goes_on _ (λ w. k (plain.SomeElements c.place-place.result (read_element c.in_ok-first.first) w.0, w.1.1)) x h3 in just t.CloseBrace (left c.in_ok-more.end) (left c.skip-2.result) _ _ x c.skip-2.ensures h4 }
