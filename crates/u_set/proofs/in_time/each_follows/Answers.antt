use Rattle.std.proofs.Common.{◌<◌, ◌≤◌, ◌-◌, length, arith}
use Rattle.value_core.specs.Values.{Row}
use Rattle.u_set.proofs.ApartLemmas.{span_at}
use Rattle.u_set.proofs.TimeLemmas.{within, chain_in_time, follows_at, follows_turn}
use Rattle.u_set.proofs.in_time.each_follows.Goals as goal

pub follows_in-requires-clause-x : goal.follows_in-requires-clause-x
follows_in-requires-clause-x c =
    let i = c.loop-i.i in
    let b = c.loop-i-test.true in
    let l : c.loop-i.i - 1 < length c.args.rows.now = omega arith in
    span_at c.args.at (λ (r : Row). r) c.args.rows.now c.requires.spans (i - 1) c.index-rows-i.result l c.index-rows-i.is

pub follows_in-requires-clause-y : goal.follows_in-requires-clause-y
follows_in-requires-clause-y c =
    let l : c.loop-i.i < length c.args.rows.now = omega arith in
    span_at c.args.at (λ (r : Row). r) c.args.rows.now c.requires.spans c.loop-i.i c.index-rows-i-in-loop-i.result l c.index-rows-i-in-loop-i.is

pub loop-i-preserved : goal.loop-i-preserved
loop-i-preserved c =
    let l : c.loop-i.i < length c.args.rows.now = omega arith in
    let here = c.follows_in.ensures c.if-not-follows_in.false in
    follows_turn c.args.key.now c.args.label.now c.args.at (within c.args.key.now c.args.label.now c.requires.key) c.args.rows.now c.loop-i.i c.loop-i.invariant
    (follows_at c.args.key.now c.args.label.now c.args.at (within c.args.key.now c.args.label.now c.requires.key) c.args.rows.now c.loop-i.i c.index-rows-i.result c.index-rows-i-in-loop-i.result l c.index-rows-i.is c.index-rows-i-in-loop-i.is here)

pub returns : goal.returns
returns c = λ t.
    let h = c.loop-i-test.false in
    let e : length c.args.rows.now ≤ c.loop-i.i = omega arith in
    chain_in_time c.args.key.now c.args.label.now c.args.at (within c.args.key.now c.args.label.now c.requires.key) c.args.rows.now c.requires.spans (λ j d l. c.loop-i.invariant j d (omega arith))
