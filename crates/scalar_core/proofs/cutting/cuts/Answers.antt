use Rattle.std.proofs.Common.{◌∙◌, ◌++◌, ap, sym, subst, slice_index}
use Rattle.std.specs.List.Sorted.{IsStrictlySortedBy}
use Rattle.std.specs.Ordering.{int_cmp}
use Rattle.point_core.specs.Points.{number}
use Rattle.interval_core.specs.Members.{span}
use Rattle.value_core.specs.Attributes.{span_of, value_at}
use Rattle.scalar_core.specs.AtPlaces.{IsSteady}
use Rattle.scalar_core.specs.Cuts.{cuts}
use Rattle.scalar_core.specs.Expressions.{read}
use Rattle.scalar_core.proofs.CutLemmas.{inside_in_order, inside-ascending, inside-each, inside-points}
use Rattle.scalar_core.proofs.SweepLemmas.{swept-steady}
use Rattle.scalar_core.proofs.cutting.cuts.Goals as goal

pub returns-clause-cuts : goal.returns-clause-cuts
returns-clause-cuts c =
    let told = c.in_ok-points.ensures in
    let kept = c.in_ok-numbers.ensures in
    let pushed = c.in_ok-push_cuts.ensures in
    let at = slice_index c.args.commalist.now c.args.side in
    let all = cuts c.args.commalist.now at (read c.args.e.now) c.args.row.now in
    inside_in_order (span number c.interval_at.result.now) (span_of (value_at c.args.row.now at)) all c.push_cuts.new.numbers.items c.as_slice.result.now _ told.numbers
    (c.as_slice.ensures.value ∙ kept.numbers) (pushed ∙ ap (λ ns. ns ++ all) c.new-numbers.ensures.items) c.interval_at.ensures.span

pub returns-clause-points : goal.returns-clause-points
returns-clause-points c t h =
    let told = c.in_ok-points.ensures in
    let ends = c.interval_at.ensures.points t h in
    inside-points t c.interval_at.result.now c.as_slice.result.now c.in_ok-points.points.items told.numbers told.points ends.0 ends.1

pub returns-clause-ascending : goal.returns-clause-ascending
returns-clause-ascending c =
    let told = c.in_ok-points.ensures in
    let kept = c.in_ok-numbers.ensures in
    inside-ascending (span number c.interval_at.result.now) c.as_slice.result.now _ told.numbers (subst (IsStrictlySortedBy int_cmp) (sym c.as_slice.ensures.value) kept.ascending)

pub returns-clause-inside : goal.returns-clause-inside
returns-clause-inside c =
    let told = c.in_ok-points.ensures in
    inside-each (span number c.interval_at.result.now) (span_of (value_at c.args.row.now (slice_index c.args.commalist.now c.args.side))) c.as_slice.result.now _ told.numbers c.interval_at.ensures.span

pub returns-clause-steady : goal.returns-clause-steady
returns-clause-steady c =
    subst (IsSteady (read c.args.e.now) c.args.row.now c.args.commalist.now c.args.side) (sym (returns-clause-cuts c))
    (swept-steady (read c.args.e.now) c.args.row.now c.args.commalist.now c.args.side c.requires.typed c.requires.sweepable)
