use Rattle.std.proofs.Common.{◌≡◌, get_or, length, refl, arith, false}
use Rattle.value_core.specs.Plain.{plain}
use Rattle.value_core.specs.Values.{truth}
use Rattle.u_row.proofs.PickLemmas.{no_more, picked_none, picked_more, picked_all}
use Rattle.u_row.proofs.picked.picked.Goals as goal

pub loop-at-init : goal.loop-at-init
loop-at-init c = picked_none c.args.positions.now c.args.values.now.items

pub swap-requires-clause-i_in_bounds : goal.swap-requires-clause-i_in_bounds
swap-requires-clause-i_in_bounds c =
    let ps = c.args.positions.now in
    let few = no_more ps (length c.args.values.now.items) (length ps) c.requires.rise c.requires.below refl in
    let long = c.loop-at.invariant.0 in
    let lt = c.loop-at-test.true in
    omega (arith, few, long, lt)

pub swap-requires-clause-j_in_bounds : goal.swap-requires-clause-j_in_bounds
swap-requires-clause-j_in_bounds c =
    let within = c.requires.below c.loop-at.at 0 c.loop-at-test.true in
    let long = c.loop-at.invariant.0 in
    omega (arith, within, long)

pub loop-at-preserved : goal.loop-at-preserved
loop-at-preserved c =
    let ps = c.args.positions.now in
    let at = c.loop-at.at in
    let len = c.swap.ensures.len in
    let long : length c.swap.new.self.items ≡ length c.loop-at.values.items = omega (arith, len) in
    picked_more ps c.args.values.now.items c.loop-at.values.items c.swap.new.self.items at (get_or ps at 0)
    c.requires.rise c.loop-at-test.true refl long c.swap.ensures.by_index c.loop-at.invariant

pub returns : goal.returns
returns c =
    picked_all plain (truth false) c.args.positions.now c.args.values.now.items c.loop-at.values.items c.truncate.new.self.items c.loop-at.at
    c.requires.rise c.requires.below c.loop-at-test.false c.loop-at.invariant c.truncate.ensures.items
