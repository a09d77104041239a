use Rattle.std.proofs.Common.{◌++◌, [], ◌∷◌, refl, sym, ◌∙◌, ap, append-nil, arith}
use Rattle.utd_syntax.specs.declared.terminal.Terminal.TheVariants as t
use Rattle.utd_syntax.specs.Read.{read_element, read_element_list}
use Rattle.utd_syntax.specs.Table.{MoreElements}
use Rattle.utd_syntax.proofs.Reader.{read}
use Rattle.utd_syntax.proofs.FormValues.{Val}
use Rattle.utd_builder.specs.Building.{left}
use Rattle.utd_builder.proofs.Steps.{at, less}
use Rattle.utd_builder.proofs.Paths.{relist}
use Rattle.utd_builder.proofs.PartRows.{done-MoreElements, push-elements}
use Rattle.utd_builder.proofs.parts.more_elements.Goals as goal

pub loop-next-init : goal.loop-next-init
loop-next-init c = ((λ stack k x h. h), omega arith)

pub loop-next-smaller : goal.loop-next-smaller
loop-next-smaller c = omega (arith, less t.Comma (left c.loop-next.next) (left c.skip.result) (sym c.terminal.ensures ∙ c.in-Comma.is) refl c.skip.ensures, c.in_ok-item.ensures.shorter)

pub loop-next-preserved : goal.loop-next-preserved
loop-next-preserved c = rw c.in_ok-push.ensures.items ((λ stack k x h. let h1 = at t.Comma _ _ (left c.loop-next.next) (left c.skip.result) (MoreElements ∷ stack) (λ vs. k (read_element_list c.loop-next.list.items ++ vs.0, vs.1)) x (sym c.terminal.ensures ∙ c.in-Comma.is) refl refl refl c.skip.ensures (c.loop-next.invariant.0 stack k x h) in let h2 = c.in_ok-item.ensures.goes_on _ _ x h1 in relist MoreElements (Val MoreElements) (left c.in_ok-item.after) stack (λ v. read_element_list c.loop-next.list.items ++ (read_element c.in_ok-item.item ∷ v)) (λ v. read_element_list (c.loop-next.list.items ++ c.in_ok-item.item ∷ []) ++ v) k x (push-elements c.loop-next.list.items c.in_ok-item.item) h2), omega (arith, c.loop-next.invariant.1, less t.Comma (left c.loop-next.next) (left c.skip.result) (sym c.terminal.ensures ∙ c.in-Comma.is) refl c.skip.ensures, c.in_ok-item.ensures.shorter))

pub returns : goal.returns
returns c = record { shorter = c.loop-next.invariant.1; goes_on = λ stack k x h. let h1 = done-MoreElements (left c.loop-next.next) stack (λ vs. k (read_element_list c.loop-next.list.items ++ vs.0, vs.1)) x (λ e. c.in_default.not-Comma (c.terminal.ensures ∙ e)) (c.loop-next.invariant.0 stack k x h) in (ap (λ z. read (left c.loop-next.next) stack (λ v. k (z, v))) (sym (append-nil (read_element_list c.loop-next.list.items))) ∙ h1) }
