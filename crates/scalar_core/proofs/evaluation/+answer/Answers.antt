use Rattle.std.proofs.Common.{ap, ◌∙◌}
use Rattle.value_core.specs.Plain.{plain}
use Rattle.scalar_core.specs.Expressions.{Expr, read, read_left, read_right}
use Rattle.scalar_core.specs.ScalarValues.{value}
use Rattle.scalar_core.proofs.KindLemmas.{over-one_takes, over-pair_takes, over-and_truth, over-or_truth}
use Rattle.scalar_core.proofs.TreeLemmas.{read_left-read, read_right-read}
use Rattle.scalar_core.proofs.evaluation.+answer.Goals as goal

pub and-truth_of-requires : goal.and-truth_of-requires
and-truth_of-requires t c =
    let told = c.in_ok-first.ensures in
    over-and_truth c.args.row.now c.args.place (read_left c.args.p.now) (read_right c.args.p.now) (plain c.in_ok-first.first) c.requires
    (ap (λ (e : Expr). value e c.args.row.now) (read_left-read c.args.p.now c.deref.result.now c.deref.ensures) ∙ told)

pub or-truth_of-requires : goal.or-truth_of-requires
or-truth_of-requires t c =
    let told = c.in_ok-left.ensures in
    over-or_truth c.args.row.now c.args.place (read_left c.args.p.now) (read_right c.args.p.now) (plain c.in_ok-left.left) c.requires
    (ap (λ (e : Expr). value e c.args.row.now) (read_left-read c.args.p.now c.deref.result.now c.deref.ensures) ∙ told)

pub single-apply_one-requires : goal.single-apply_one-requires
single-apply_one-requires t c =
    over-one_takes c.args.row.now c.args.op c.args.place (read c.args.a.now) (plain c.in_ok-v.v) c.requires c.in_ok-v.ensures

pub two-apply_pair-requires : goal.two-apply_pair-requires
two-apply_pair-requires t c =
    let first = c.in_ok-a.ensures in
    let second = c.in_ok-b.ensures in
    over-pair_takes c.args.row.now c.args.op c.args.place (read_left c.args.p.now) (read_right c.args.p.now) (plain c.in_ok-a.a) (plain c.in_ok-b.b)
    c.requires
    (ap (λ (e : Expr). value e c.args.row.now) (read_left-read c.args.p.now c.deref.result.now c.deref.ensures) ∙ first)
    (ap (λ (e : Expr). value e c.args.row.now) (read_right-read c.args.p.now c.deref-2.result.now c.deref-2.ensures) ∙ second)
