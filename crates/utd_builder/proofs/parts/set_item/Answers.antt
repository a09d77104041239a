use Rattle.std.proofs.Common.{arith}
use Rattle.utd_syntax.specs.declared.terminal.Terminal.TheVariants as t
use Rattle.utd_builder.specs.Building.{left}
use Rattle.utd_builder.proofs.Steps.{no-more, just}
use Rattle.utd_builder.proofs.PartRows.{step-TheSetItem}
use Rattle.utd_builder.proofs.parts.set_item.Goals as goal

pub returns : goal.returns
returns c = record { shorter = omega (arith, no-more (left c.args.cursor) (left c.in_ok-name.next) c.in_ok-name.ensures.2, no-more (left c.in_ok-name.next) (left c.skip.result) c.skip.ensures, c.in_ok-scalar.ensures.shorter); goes_on = λ stack k x h. let h1 = step-TheSetItem _ _ (left c.args.cursor) (left c.in_ok-name.next) _ k x c.in_ok-name.ensures.0 c.in_ok-name.ensures.1 c.in_ok-name.ensures.2 h in let h2 = just t.Assign (left c.in_ok-name.next) (left c.skip.result) _ _ x c.skip.ensures h1 in c.in_ok-scalar.ensures.goes_on _ _ x h2 }
