use Rattle.std.proofs.Common.{sym, ◌∙◌, arith}
use Rattle.utd_syntax.specs.declared.terminal.Terminal.TheVariants as t
use Rattle.utd_builder.specs.Building.{left}
use Rattle.utd_builder.proofs.Steps.{no-more, just}
use Rattle.utd_builder.proofs.StatementRows.{step-TheItem}
use Rattle.utd_builder.proofs.statements.item.Goals as goal

pub insert-requires : goal.insert-requires
insert-requires c = (sym c.terminal.ensures ∙ c.in-Insert.is)

pub returns-in-Insert : goal.returns-in-Insert
returns-in-Insert c = c.insert.ensures

pub delete-requires : goal.delete-requires
delete-requires c = (sym c.terminal.ensures ∙ c.in-Delete.is)

pub returns-in-Delete : goal.returns-in-Delete
returns-in-Delete c = c.delete.ensures

pub update-requires : goal.update-requires
update-requires c = (sym c.terminal.ensures ∙ c.in-Update.is)

pub returns-in-Update : goal.returns-in-Update
returns-in-Update c = c.update.ensures

pub terminate-requires : goal.terminate-requires
terminate-requires c = (sym c.terminal.ensures ∙ c.in-Terminate.is)

pub returns-in-Terminate : goal.returns-in-Terminate
returns-in-Terminate c = c.terminate.ensures

pub using_item-requires : goal.using_item-requires
using_item-requires c = (sym c.terminal.ensures ∙ c.in-Using.is)

pub returns-in-Using : goal.returns-in-Using
returns-in-Using c = c.using_item.ensures

pub returns-in_ok-inner-in_default : goal.returns-in_ok-inner-in_default
returns-in_ok-inner-in_default c = record { shorter = omega (arith, no-more (left c.args.cursor) (left c.in_ok-name-in_default.next) c.in_ok-name-in_default.ensures.2, no-more (left c.in_ok-name-in_default.next) (left c.skip.result) c.skip.ensures, c.in_ok-inner-in_default.ensures.shorter); goes_on = λ stack k x h. let h1 = step-TheItem _ _ (left c.args.cursor) (left c.in_ok-name-in_default.next) _ k x (λ e. c.in_default.not-Insert (c.terminal.ensures ∙ e)) (λ e. c.in_default.not-Delete (c.terminal.ensures ∙ e)) (λ e. c.in_default.not-Update (c.terminal.ensures ∙ e)) (λ e. c.in_default.not-Terminate (c.terminal.ensures ∙ e)) (λ e. c.in_default.not-Using (c.terminal.ensures ∙ e)) c.in_ok-name-in_default.ensures.0 c.in_ok-name-in_default.ensures.1 c.in_ok-name-in_default.ensures.2 h in let h2 = just t.Assign (left c.in_ok-name-in_default.next) (left c.skip.result) _ _ x c.skip.ensures h1 in c.in_ok-inner-in_default.ensures.goes_on _ _ x h2 }
