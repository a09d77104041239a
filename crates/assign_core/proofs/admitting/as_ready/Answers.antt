use Rattle.std.proofs.Common.{◌<◌, ◌≤◌, length, ◌∙◌, arith}
use Rattle.std.proofs.lemmas.List.{length-set}
use Rattle.assign_core.proofs.RenewedLemmas.{next_value, values_end}
use Rattle.assign_core.proofs.admitting.as_ready.Goals as goal

pub loop-at-preserved : goal.loop-at-preserved
loop-at-preserved c =
    let cs = c.loop-at.changes.items in
    let at = c.loop-at.at in
    let long = c.loop-at.invariant.long in
    let within : at < length cs = omega (arith, long) in
    record {
      made = next_value cs c.loop-at.list.items c.add_value.new.list.items at c.index_mut.result.now c.add_value.new.change within c.index_mut.ensures.value c.in_ok-add_value.ensures
          ∙ c.loop-at.invariant.made;
      long = length-set cs at c.add_value.new.change ∙ long;
    }

pub returns : goal.returns
returns c =
    let cs = c.loop-at.changes.items in
    let long = c.loop-at.invariant.long in
    let all : length cs ≤ c.loop-at.at = omega (arith, long) in
    values_end cs c.loop-at.list.items _ c.loop-at.at all c.loop-at.invariant.made
