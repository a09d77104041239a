use Rattle.std.proofs.Common.{◌≤◌, List, length, arith, sym, subst}
use Rattle.std.specs.List.{All}
use Rattle.std.proofs.lemmas.List.{take_all}
use Rattle.interval_core.specs.Members.{Span}
use Rattle.value_core.specs.Values.{Row}
use Rattle.relation_core.specs.Agreement.{part_of}
use Rattle.u_set.specs.Apart.{span_in, HasInterval}
use Rattle.u_constraints.specs.Covers.{IsCovered}
use Rattle.u_constraints.proofs.CoverLemmas.{all_more}
use Rattle.u_constraints.proofs.runs.are_in_runs.Goals as goal

pub run_of-asked-requires : goal.run_of-asked-requires
run_of-asked-requires c =
    subst (λ (x : Row). HasInterval c.args.own.at x) (sym c.row-item.is) (c.requires.intervals c.loop-row.row-index c.row-item.result c.loop-row-test.true)

pub loop-row-preserved : goal.loop-row-preserved
loop-row-preserved c at others all =
    let x : Row = c.row-item.result in
    let own = c.args.own.label.now in
    let theirs = c.args.theirs.now in
    let k = c.args.own.at in
    let here : IsCovered theirs at others (part_of own x) (span_in k x) =
    subst (λ (q : Row × Span). IsCovered theirs at others (part_of own q.0) q.1) (λ t. (c.run_of-asked.ensures.row t, c.run_of-asked.ensures.ends t))
    (c.is_in_run.ensures at others all c.if-not-is_in_run.false) in
    all_more (λ (z : Row). IsCovered theirs at others (part_of own z) (span_in k z)) c.args.rows.now c.loop-row.row-index x c.row-item.is c.loop-row-test.true (c.loop-row.invariant at others all) here

pub returns : goal.returns
returns c at others all t =
    let h = c.loop-row-test.false in
    let l : length c.args.rows.now ≤ c.loop-row.row-index = omega arith in
    subst (λ (zs : List Row). All (λ (z : Row). IsCovered c.args.theirs.now at others (part_of c.args.own.label.now z) (span_in c.args.own.at z)) zs) (take_all c.loop-row.row-index c.args.rows.now l)
    (c.loop-row.invariant at others all)
