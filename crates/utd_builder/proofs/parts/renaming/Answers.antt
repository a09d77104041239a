use Rattle.std.proofs.Common.{arith}
use Rattle.utd_syntax.specs.declared.terminal.Terminal.TheVariants as t
use Rattle.utd_builder.specs.Building.{left}
use Rattle.utd_builder.proofs.Steps.{no-more, just}
use Rattle.utd_builder.proofs.PartRows.{step-TheRenaming}
use Rattle.utd_builder.proofs.ScalarRows.{step-TheName}
use Rattle.utd_builder.proofs.parts.renaming.Goals as goal

pub returns : goal.returns
returns c = record { shorter = omega (arith, no-more (left c.args.cursor) (left c.in_ok-old.next) c.in_ok-old.ensures.2, no-more (left c.in_ok-old.next) (left c.skip.result) c.skip.ensures, no-more (left c.skip.result) (left c.in_ok-new.end) c.in_ok-new.ensures.2); goes_on = λ stack k x h. let h1 = step-TheRenaming _ _ (left c.args.cursor) (left c.in_ok-old.next) _ k x c.in_ok-old.ensures.0 c.in_ok-old.ensures.1 c.in_ok-old.ensures.2 h in let h2 = just t.As (left c.in_ok-old.next) (left c.skip.result) _ _ x c.skip.ensures h1 in step-TheName _ _ (left c.skip.result) (left c.in_ok-new.end) _ _ x c.in_ok-new.ensures.0 c.in_ok-new.ensures.1 c.in_ok-new.ensures.2 h2 }
