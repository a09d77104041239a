use Rattle.std.proofs.Common.{◌<◌, length, map, arith, Vec, Global}
use Rattle.std.proofs.lemmas.Result.{err_from_is_err_and}
use Rattle.value_core.specs.Plain.{plain}
use Rattle.value_core.specs.declared.value.Value.{Value}
use Rattle.scalar_core.specs.ScalarValues.{value}
use Rattle.tree_core.specs.Trees.{read_set}
use Rattle.row_making.proofs.ItemLemmas.{typed_at, values_more, calls_end}
use Rattle.row_making.proofs.items.values_on.Goals as goal

pub value_on-requires : goal.value_on-requires
value_on-requires c =
    let l : c.loop-set.set-index < length c.args.sets.now = omega arith in
    typed_at c.args.row.now c.args.sets.now c.loop-set.set-index c.set-item.result c.requires l c.set-item.is

pub returns-in_err-value_on : goal.returns-in_err-value_on
returns-in_err-value_on c =
    let p = err_from_is_err_and c.from_residual-in_err-value_on.result c.from_residual-in_err-value_on.ensures.1 in
    let l : c.loop-set.set-index < length c.args.sets.now = omega arith in
    rw (p.1, p.2) (calls_end (λ t. value t.1 c.args.row.now) read_set plain (λ (values : Vec Value Global). map plain values.items) c.args.sets.now c.loop-set.set-index c.set-item.result
    (map plain c.loop-set.values.items) c.in_err-value_on.field-0.0 l c.set-item.is c.loop-set.invariant c.in_err-value_on.ensures)

pub loop-set-preserved : goal.loop-set-preserved
loop-set-preserved c =
    let l : c.loop-set.set-index < length c.args.sets.now = omega arith in
    values_more c.args.row.now c.args.sets.now c.loop-set.set-index c.set-item.result c.loop-set.values.items c.push.new.self.items c.in_ok-value_on.field-0
    l c.set-item.is c.loop-set.invariant c.in_ok-value_on.ensures c.in_ok-push.ensures.items
