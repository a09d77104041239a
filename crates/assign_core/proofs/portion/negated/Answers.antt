use Rattle.std.proofs.Common.{sym, ap, ◌∙◌}
use Rattle.scalar_core.specs.declared.operators.OneOp.TheVariants.{Not}
use Rattle.scalar_core.specs.declared.tree.Scalar.{Scalar}
use Rattle.scalar_core.specs.Expressions.{one, read, read_form}
use Rattle.assign_core.proofs.portion.negated.Goals as goal

pub returns-in-Not : goal.returns-in-Not
returns-in-Not c =
    let place = c.args.condition.now.place in
    (place, ap (read_form place) c.in-Not.is ∙ ap (λ (e : Scalar). one Not place (read e)) (sym c.deref.ensures))
