use Rattle.std.proofs.Common.{ℤ, List, [], ◌∷◌, map, ap, sym, ◌∙◌, subst}
use Rattle.std.specs.Bool.{IsTrue}
use Rattle.std.specs.List.{All}
use Rattle.point_core.specs.Points.{number, IsPointOf}
use Rattle.point_core.specs.declared.any_type.AnyPoint.{AnyPoint}
use Rattle.interval_core.specs.Members.{Span, HasEndsIn}
use Rattle.value_core.specs.Attributes.{value_at}
use Rattle.value_core.specs.Values.{fits}
use Rattle.value_core.specs.declared.kind.Kind.TheVariants.{Span as SpanOf}
use Rattle.tree_core.specs.Trees.{read_sets}
use Rattle.relation_core.specs.Parts.{kind_at}
use Rattle.cell_core.specs.Cells.{box_numbers}
use Rattle.u_set.specs.Boxes.{type_of, boxed}
use Rattle.u_row.specs.Cutting.{AreCuts, pieces}
use Rattle.eval_using.specs.Holding.{IsPart}
use Rattle.eval_using.proofs.InPlaceLemmas.{row_fits}
use Rattle.eval_using.proofs.MadePartLemmas.{own_cuts, parts_made, places_made, least_made}
use Rattle.eval_using.proofs.row_extension.extend_row.Goals as goal

pub item_cuts-requires-clause-typed : goal.item_cuts-requires-clause-typed
item_cuts-requires-clause-typed c =
    let w = c.requires.can in
    w.2.items.typed c.args.row.now w.2.fits

pub item_cuts-requires-clause-sweepable : goal.item_cuts-requires-clause-sweepable
item_cuts-requires-clause-sweepable c = c.requires.can.2.items.sweepable

pub item_cuts-requires-clause-interval : goal.item_cuts-requires-clause-interval
item_cuts-requires-clause-interval c =
    let w = c.requires.can in
    (type_of (kind_at w.0 c.args.by.at), row_fits w.0 c.args.by.at c.args.row.now w.2.items.here w.2.fits)

pub interval_at-side-requires : goal.interval_at-side-requires
interval_at-side-requires c =
    let w = c.requires.can in
    (type_of (kind_at w.0 c.args.by.at), row_fits w.0 c.args.by.at c.args.row.now w.2.items.here w.2.fits)

pub parts_of-requires-clause-side : goal.parts_of-requires-clause-side
parts_of-requires-clause-side c =
    let w = c.requires.can in
    let fit = subst (λ t. IsTrue (fits (SpanOf t) (value_at c.args.row.now c.args.by.at))) (sym w.3) (row_fits w.0 c.args.by.at c.args.row.now w.2.items.here w.2.fits) in
    c.interval_at-side.ensures.points c.args.t.now fit

pub parts_of-requires-clause-points : goal.parts_of-requires-clause-points
parts_of-requires-clause-points c =
    let w = c.requires.can in
    let t = c.args.t.now in
    let fit = subst (λ t. IsTrue (fits (SpanOf t) (value_at c.args.row.now c.args.by.at))) (sym w.3) (row_fits w.0 c.args.by.at c.args.row.now w.2.items.here w.2.fits) in
    subst (λ (ps : List AnyPoint). All (IsPointOf t) ps) (sym c.as_slice.ensures.value) (c.in_ok-cuts.ensures.points t fit)

pub parts_of-requires-clause-cuts : goal.parts_of-requires-clause-cuts
parts_of-requires-clause-cuts c =
    let w = c.requires.can in
    let by = c.args.by in
    let is = ap (map number) c.as_slice.ensures.value ∙ c.in_ok-cuts.ensures.cuts in
    subst (λ (x : Span × List ℤ). AreCuts x.0.0 x.0.1 x.1) (λ t. (sym c.interval_at-side.ensures.numbers t, sym is t)) (own_cuts w.0 w.1 by.at by.to (read_sets by.sets.now) by.places.now c.args.row.now w.2)

pub add_parts-requires : goal.add_parts-requires
add_parts-requires c =
    let w = c.requires.can in
    let by = c.args.by in
    let parts = c.in_ok-parts.parts.items in
    let cuts = ap (map number) c.as_slice.ensures.value ∙ c.in_ok-cuts.ensures.cuts in
    let same = c.in_ok-parts.ensures.parts ∙ (λ t. pieces (c.interval_at-side.ensures.numbers t).0 (c.interval_at-side.ensures.numbers t).1 (cuts t)) in
    let points = subst (λ t. All (HasEndsIn IsPointOf t) parts) w.3 c.in_ok-parts.ensures.points in
    let all = parts_made w.0 w.1 by.at by.to (read_sets by.sets.now) by.places.now c.args.row.now w.2 parts same points in
    record { can = (w.0, w.1, w.2, subst (λ (is : List (AnyPoint × AnyPoint)). All (IsPart w.0 by.at c.args.row.now) is) (sym c.as_slice-2.ensures.value) all) }

pub returns-clause-places : goal.returns-clause-places
returns-clause-places c =
    let w = c.requires.can in
    let by = c.args.by in
    let cuts = ap (map number) c.as_slice.ensures.value ∙ c.in_ok-cuts.ensures.cuts in
    let same = (λ t. box_numbers number (c.as_slice-2.ensures.value t)) ∙ c.in_ok-parts.ensures.parts ∙ (λ t. pieces (c.interval_at-side.ensures.numbers t).0 (c.interval_at-side.ensures.numbers t).1 (cuts t)) in
    places_made w.0 w.1 by.at by.to (read_sets by.sets.now) by.places.now c.args.row.now w.2 (box_numbers number c.as_slice-2.result.now) same
    (map (boxed (by.to ∷ [])) c.args.out.now.items) (map (boxed (by.to ∷ [])) c.add_parts.new.out.items) c.in_ok-add_parts.ensures.rows

pub returns-clause-fits : goal.returns-clause-fits
returns-clause-fits c = λ from heading can type.
    let by = c.args.by in
    let parts = c.in_ok-parts.parts.items in
    let cuts = ap (map number) c.as_slice.ensures.value ∙ c.in_ok-cuts.ensures.cuts in
    let same = c.in_ok-parts.ensures.parts ∙ (λ t. pieces (c.interval_at-side.ensures.numbers t).0 (c.interval_at-side.ensures.numbers t).1 (cuts t)) in
    let points = subst (λ t. All (HasEndsIn IsPointOf t) parts) type c.in_ok-parts.ensures.points in
    let all = parts_made from heading by.at by.to (read_sets by.sets.now) by.places.now c.args.row.now can parts same points in
    c.in_ok-add_parts.ensures.fits from heading can (subst (λ (is : List (AnyPoint × AnyPoint)). All (IsPart from by.at c.args.row.now) is) (sym c.as_slice-2.ensures.value) all)

pub returns-clause-least : goal.returns-clause-least
returns-clause-least c =
    let w = c.requires.can in
    let by = c.args.by in
    let cuts = ap (map number) c.as_slice.ensures.value ∙ c.in_ok-cuts.ensures.cuts in
    let same = (λ t. box_numbers number (c.as_slice-2.ensures.value t)) ∙ c.in_ok-parts.ensures.parts ∙ (λ t. pieces (c.interval_at-side.ensures.numbers t).0 (c.interval_at-side.ensures.numbers t).1 (cuts t)) in
    least_made w.0 w.1 by.at by.to (read_sets by.sets.now) by.places.now c.args.row.now w.2 (box_numbers number c.as_slice-2.result.now) same
    c.args.least.now c.add_parts.new.least c.in_ok-add_parts.ensures.least
