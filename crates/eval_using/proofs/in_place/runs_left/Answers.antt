use Rattle.std.proofs.Common.{List, map, ap, sym, ◌∙◌, subst}
use Rattle.std.specs.Bool.{IsTrue}
use Rattle.std.specs.List.{All}
use Rattle.point_core.specs.Points.{number, IsPointOf}
use Rattle.point_core.specs.declared.any_type.AnyPoint.{AnyPoint}
use Rattle.interval_core.specs.Members.{HasEndsIn}
use Rattle.value_core.specs.Attributes.{value_at}
use Rattle.value_core.specs.Values.{fits}
use Rattle.value_core.specs.declared.kind.Kind.TheVariants.{Span as SpanOf}
use Rattle.scalar_core.specs.Expressions.{read}
use Rattle.relation_core.specs.Parts.{kind_at}
use Rattle.cell_core.specs.Cells.{box_numbers}
use Rattle.u_set.specs.Boxes.{type_of}
use Rattle.u_row.specs.Cutting.{pieces}
use Rattle.eval_using.specs.Holding.{IsPart}
use Rattle.eval_using.proofs.InPlaceLemmas.{row_fits, side_cuts, parts_there, runs_there, least_there}
use Rattle.eval_using.proofs.in_place.runs_left.Goals as goal

pub cuts-requires-clause-interval : goal.cuts-requires-clause-interval
cuts-requires-clause-interval c =
    let w = c.requires.can in
    (type_of (kind_at w.0 c.args.asked.at), row_fits w.0 c.args.asked.at c.args.row.now w.1.intervals w.1.fits)

pub interval_at-side-requires : goal.interval_at-side-requires
interval_at-side-requires c =
    let w = c.requires.can in
    (type_of (kind_at w.0 c.args.asked.at), row_fits w.0 c.args.asked.at c.args.row.now w.1.intervals w.1.fits)

pub parts_of-requires-clause-side : goal.parts_of-requires-clause-side
parts_of-requires-clause-side c =
    let w = c.requires.can in
    let fit = subst (λ t. IsTrue (fits (SpanOf t) (value_at c.args.row.now c.args.asked.at))) (sym w.2) (row_fits w.0 c.args.asked.at c.args.row.now w.1.intervals w.1.fits) in
    c.interval_at-side.ensures.points c.args.t.now fit

pub parts_of-requires-clause-points : goal.parts_of-requires-clause-points
parts_of-requires-clause-points c =
    let w = c.requires.can in
    let t = c.args.t.now in
    let fit = subst (λ t. IsTrue (fits (SpanOf t) (value_at c.args.row.now c.args.asked.at))) (sym w.2) (row_fits w.0 c.args.asked.at c.args.row.now w.1.intervals w.1.fits) in
    subst (λ (ps : List AnyPoint). All (IsPointOf t) ps) (sym c.as_slice.ensures.value) (c.in_ok-cuts.ensures.points t fit)

pub parts_of-requires-clause-cuts : goal.parts_of-requires-clause-cuts
parts_of-requires-clause-cuts c =
    let w = c.requires.can in
    side_cuts w.0 c.args.asked.at (read c.args.asked.c.now) c.args.row.now w.1 c.interval_at-side.result c.interval_at-side.ensures.numbers (map number c.as_slice.result.now)
    (ap (map number) c.as_slice.ensures.value ∙ c.in_ok-cuts.ensures.cuts)

pub runs_of-requires : goal.runs_of-requires
runs_of-requires c =
    let w = c.requires.can in
    let at = c.args.asked.at in
    let row = c.args.row.now in
    let parts = c.in_ok-parts.parts.items in
    let cs = map number c.in_ok-cuts.cuts.items in
    let same = c.in_ok-parts.ensures.parts ∙ (λ t. pieces (number c.interval_at-side.result.0) (number c.interval_at-side.result.1) (map number (c.as_slice.ensures.value t))) in
    let points = subst (λ t. All (HasEndsIn IsPointOf t) parts) w.2 c.in_ok-parts.ensures.points in
    let all = parts_there w.0 at (read c.args.asked.c.now) row w.1 c.interval_at-side.result c.interval_at-side.ensures.numbers cs c.in_ok-cuts.ensures.cuts c.in_ok-cuts.ensures.steady parts same points in
    record { can = (w.0, w.1, subst (λ (is : List (AnyPoint × AnyPoint)). All (IsPart w.0 at row) is) (sym c.as_slice-2.ensures.value) all) }

pub returns-clause-runs : goal.returns-clause-runs
returns-clause-runs c =
    let w = c.requires.can in
    let cs = map number c.in_ok-cuts.cuts.items in
    let same = (λ t. box_numbers number (c.as_slice-2.ensures.value t)) ∙ c.in_ok-parts.ensures.parts ∙ (λ t. pieces (number c.interval_at-side.result.0) (number c.interval_at-side.result.1) (map number (c.as_slice.ensures.value t))) in
    runs_there w.0 c.args.asked.at (read c.args.asked.c.now) c.args.row.now w.1 c.interval_at-side.result c.interval_at-side.ensures.numbers cs c.in_ok-cuts.ensures.cuts c.in_ok-cuts.ensures.steady c.as_slice-2.result.now same
    (box_numbers number c.in_ok-runs.runs.items) c.in_ok-runs.ensures.runs

pub returns-clause-points : goal.returns-clause-points
returns-clause-points c =
    let t = c.args.t.now in
    c.in_ok-runs.ensures.points t (subst (λ (is : List (AnyPoint × AnyPoint)). All (HasEndsIn IsPointOf t) is) (sym c.as_slice-2.ensures.value) c.in_ok-parts.ensures.points)

pub returns-clause-least : goal.returns-clause-least
returns-clause-least c =
    let w = c.requires.can in
    let cs = map number c.in_ok-cuts.cuts.items in
    let same = (λ t. box_numbers number (c.as_slice-2.ensures.value t)) ∙ c.in_ok-parts.ensures.parts ∙ (λ t. pieces (number c.interval_at-side.result.0) (number c.interval_at-side.result.1) (map number (c.as_slice.ensures.value t))) in
    least_there w.0 c.args.asked.at (read c.args.asked.c.now) c.args.row.now w.1 c.interval_at-side.result c.interval_at-side.ensures.numbers cs c.in_ok-cuts.ensures.cuts c.in_ok-cuts.ensures.steady c.as_slice-2.result.now same
    c.args.least.now c.runs_of.new.least c.in_ok-runs.ensures.least
