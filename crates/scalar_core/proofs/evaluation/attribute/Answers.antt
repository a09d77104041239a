use Rattle.std.proofs.Common.{Ok, subst}
use Rattle.value_core.specs.Plain.{plain}
use Rattle.value_core.specs.Values.{Value}
use Rattle.scalar_core.specs.Answers.{Gives}
use Rattle.scalar_core.proofs.KindLemmas.{over-attribute}
use Rattle.scalar_core.proofs.TreeLemmas.{value_at-plain, no_value_past}
use Rattle.scalar_core.proofs.evaluation.attribute.Goals as goal

pub unreachable-requires : goal.unreachable-requires
unreachable-requires c =
    let found = over-attribute c.args.row.now c.args.place c.args.i c.requires in
    let told = c.in-None.ensures in
    no_value_past c.values.result.now c.args.row.now c.args.i found.0 c.values.ensures told.lookup.3 found.1

pub returns : goal.returns
returns c =
    let told = c.in-Some.ensures in
    subst (λ (x : Value). Gives plain c.constant.result (Ok x))
    (value_at-plain c.values.result.now c.args.row.now c.args.i c.in-Some.v.now c.values.ensures told.lookup.3.0 told.lookup.1)
    c.constant.ensures
