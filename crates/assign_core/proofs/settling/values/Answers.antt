use Rattle.std.proofs.Common.{◌<◌, ◌≤◌, length, ◌∙◌, arith}
use Rattle.std.proofs.lemmas.List.{length-set}
use Rattle.tree_core.specs.Relvars.{read_relvars}
use Rattle.assign_core.proofs.ExchangeLemmas.{exchanged_set, prepared_set, so_listed, values_all, values_set}
use Rattle.assign_core.proofs.settling.values.Goals as goal

pub make_value-requires : goal.make_value-requires
make_value-requires c =
    let cs = c.loop-at.changes.items in
    let at = c.loop-at.at in
    let long = c.loop-at.invariant.long in
    let within : at < length cs = omega (arith, long) in
    record { may = so_listed cs (read_relvars c.args.relvars.now).relvars at c.index_mut.result.now c.loop-at.invariant.changes within c.index_mut.ensures.value }

pub loop-at-preserved : goal.loop-at-preserved
loop-at-preserved c =
    let es = (read_relvars c.args.relvars.now).relvars in
    let cs = c.loop-at.changes.items in
    let at = c.loop-at.at in
    let was = c.index_mut.result.now in
    let now = c.make_value.new.change in
    let k = c.loop-at.invariant in
    let long = k.long in
    let within : at < length cs = omega (arith, long) in
    let made = c.in_ok-make_value.ensures in
    record {
      changes = prepared_set cs es at was now k.changes within c.index_mut.ensures.value made;
      ready = exchanged_set cs es at was now k.changes within c.index_mut.ensures.value made ∙ k.ready;
      values = values_set cs at now within made.1 k.values;
      long = length-set cs at now ∙ long;
    }

pub returns-clause-values : goal.returns-clause-values
returns-clause-values c =
    let cs = c.loop-at.changes.items in
    let long = c.loop-at.invariant.long in
    let all : length cs ≤ c.loop-at.at = omega (arith, long) in
    values_all cs c.loop-at.at all c.loop-at.invariant.values
