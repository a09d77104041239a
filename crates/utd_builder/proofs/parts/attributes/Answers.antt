use Rattle.std.proofs.Common.{◌++◌, [], ◌∷◌, refl, sym, ◌∙◌, ap, arith}
use Rattle.utd_syntax.specs.declared.terminal.Terminal.TheVariants as t
use Rattle.utd_syntax.specs.Read.{read_attribute, read_attribute_list}
use Rattle.utd_syntax.specs.Table.{Just, MoreAttributes}
use Rattle.utd_syntax.proofs.Reader.{read}
use Rattle.utd_syntax.proofs.FormValues.{Val}
use Rattle.utd_builder.specs.Building.{left}
use Rattle.utd_builder.proofs.Steps.{no-more, just}
use Rattle.utd_builder.proofs.Paths.{relist}
use Rattle.utd_builder.proofs.PartRows.{step-InHeading, first-InHeading}
use Rattle.utd_builder.proofs.parts.attributes.Goals as goal

pub returns-in_ok-all-in-Name : goal.returns-in_ok-all-in-Name
returns-in_ok-all-in-Name c = record { shorter = omega (arith, c.in_ok-item-in-Name.ensures.shorter, c.in_ok-all-in-Name.ensures.shorter, no-more (left c.in_ok-all-in-Name.end) (left c.skip.result) c.skip.ensures); goes_on = λ stack k x h. let h1 = first-InHeading (left c.args.cursor) stack k x (sym c.terminal.ensures ∙ c.in-Name.is) h in let h2 = c.in_ok-item-in-Name.ensures.goes_on _ _ x h1 in let h3 = relist MoreAttributes (Val MoreAttributes) (left c.in_ok-item-in-Name.next) (Just t.CloseBrace ∷ stack) (λ v. read_attribute c.in_ok-item-in-Name.item ∷ v) _ (λ w. k (w.0, w.1.1)) x (λ v. ap (λ xs. read_attribute_list xs ++ v) (sym (c.in_ok-push-in-Name.ensures.items ∙ ap (λ xs. xs ++ c.in_ok-item-in-Name.item ∷ []) c.new-list.ensures.items))) h2 in let h4 = c.in_ok-all-in-Name.ensures.goes_on _ (λ w. k (w.0, w.1.1)) x h3 in just t.CloseBrace (left c.in_ok-all-in-Name.end) (left c.skip.result) _ _ x c.skip.ensures h4 }

pub returns-in_default : goal.returns-in_default
returns-in_default c = record { shorter = omega (arith, no-more (left c.args.cursor) (left c.skip-in_default.result) c.skip-in_default.ensures); goes_on = λ stack k x h. let h1 = step-InHeading _ _ (left c.args.cursor) (left c.skip-in_default.result) _ k x (λ e. c.in_default.not-Name (c.terminal.ensures ∙ e)) refl refl c.skip-in_default.ensures h in (ap (λ z. read (left c.skip-in_default.result) stack (λ v. k (read_attribute_list z, v))) c.new-list.ensures.items ∙ h1) }
