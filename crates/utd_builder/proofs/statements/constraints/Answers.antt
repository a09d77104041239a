use Rattle.std.proofs.Common.{◌++◌, [], ◌∷◌, sym, ◌∙◌, ap, append-nil, arith}
use Rattle.utd_syntax.specs.Pieces.{first}
use Rattle.utd_syntax.specs.Read.{read_constraint, read_constraint_list}
use Rattle.utd_syntax.specs.Table.{MoreConstraints}
use Rattle.utd_syntax.proofs.Reader.{read}
use Rattle.utd_syntax.proofs.FormValues.{Val}
use Rattle.utd_builder.specs.Building.{left}
use Rattle.utd_builder.proofs.Paths.{relist, none-yet}
use Rattle.utd_builder.proofs.StatementRows.{done-MoreConstraints, starts-constraint, push-constraints}
use Rattle.utd_syntax.proofs.FirstTokens.{constraints-as-constraint}
use Rattle.utd_builder.specs.Choices.{is_constraint}
use Rattle.utd_builder.proofs.statements.constraints.Goals as goal

pub rules-init : goal.rules-init
rules-init c = ((λ stack k x h. none-yet MoreConstraints (left c.args.cursor) stack (λ v. read_constraint_list c.new-list.result.items ++ v) (λ vs. k (vs.0, vs.1)) x (λ v. ap (λ xs. read_constraint_list xs ++ v) (sym c.new-list.ensures.items)) h), omega arith)

pub rules-smaller : goal.rules-smaller
rules-smaller c = omega (arith, c.in_ok-item.ensures.shorter (ap is_constraint (sym c.terminal.ensures) ∙ sym c.is_constraint.ensures ∙ c.rules-test.true))

pub rules-preserved : goal.rules-preserved
rules-preserved c = rw c.in_ok-push.ensures.items ((λ stack k x h. let h1 = (sym (constraints-as-constraint (left c.rules.next) stack (λ vs. k (read_constraint_list c.rules.list.items ++ vs.0, vs.1)) (starts-constraint (first (left c.rules.next)) (ap is_constraint (sym c.terminal.ensures) ∙ sym c.is_constraint.ensures ∙ c.rules-test.true))) ∙ c.rules.invariant.0 stack k x h) in let h2 = c.in_ok-item.ensures.built.goes_on _ _ x h1 in relist MoreConstraints (Val MoreConstraints) (left c.in_ok-item.after) stack (λ v. read_constraint_list c.rules.list.items ++ (read_constraint c.in_ok-item.item ∷ v)) (λ v. read_constraint_list (c.rules.list.items ++ c.in_ok-item.item ∷ []) ++ v) k x (push-constraints c.rules.list.items c.in_ok-item.item) h2), omega (arith, c.rules.invariant.1, c.in_ok-item.ensures.shorter (ap is_constraint (sym c.terminal.ensures) ∙ sym c.is_constraint.ensures ∙ c.rules-test.true)))

pub returns : goal.returns
returns c = record { shorter = c.rules.invariant.1; goes_on = λ stack k x h. ap (λ z. read (left c.rules.next) stack (λ v. k (z, v))) (sym (append-nil (read_constraint_list c.rules.list.items))) ∙ done-MoreConstraints (left c.rules.next) stack (λ vs. k (read_constraint_list c.rules.list.items ++ vs.0, vs.1)) x (ap is_constraint (sym c.terminal.ensures) ∙ sym c.is_constraint.ensures ∙ c.rules-test.false) (c.rules.invariant.0 stack (λ w. k (w.0, w.1)) x h) }
