use Rattle.std.proofs.Common.{◌<◌, ◌-◌, length, arith}
use Rattle.value_core.specs.Values.{Row}
use Rattle.u_set.proofs.ApartLemmas.{span_at, beyond_turn}
use Rattle.u_set.proofs.CoalescingLemmas.{next_apart}
use Rattle.u_set.specs.declared.apart.Gap.TheVariants.{One}
use Rattle.u_set.proofs.coalescing.stand_apart.Goals as goal

pub is_beyond-requires-clause-x : goal.is_beyond-requires-clause-x
is_beyond-requires-clause-x c =
    let i = c.loop-i.i in
    let b = c.loop-i-test.true in
    let l : c.loop-i.i - 1 < length c.args.rows.now = omega arith in
    span_at c.args.at (λ (r : Row). r) c.args.rows.now c.requires (i - 1) c.index-rows-i.result l c.index-rows-i.is

pub is_beyond-requires-clause-y : goal.is_beyond-requires-clause-y
is_beyond-requires-clause-y c =
    let l : c.loop-i.i < length c.args.rows.now = omega arith in
    span_at c.args.at (λ (r : Row). r) c.args.rows.now c.requires c.loop-i.i c.index-rows-i-in-loop-i.result l c.index-rows-i-in-loop-i.is

pub loop-i-preserved : goal.loop-i-preserved
loop-i-preserved c =
    let l : c.loop-i.i < length c.args.rows.now = omega arith in
    let here = c.is_beyond.ensures c.if-not-is_beyond.false in
    beyond_turn c.args.label.now c.args.at One c.args.rows.now c.loop-i.i c.loop-i.invariant
    (next_apart c.args.label.now c.args.at c.args.rows.now c.loop-i.i c.index-rows-i.result c.index-rows-i-in-loop-i.result l c.index-rows-i.is c.index-rows-i-in-loop-i.is here)
