use Rattle.std.proofs.Common.{◌≡◌, ℕ, ◌+◌, ◌<◌, List, [], ◌∷◌, ◌++◌, map, take, length, get_or, sym, ap, ◌∙◌, subst, arith}
use Rattle.std.specs.Bool.{IsTrue}
use Rattle.std.proofs.lemmas.List.{length-map, map_more, map_push}
use Rattle.point_core.specs.declared.any_type.AnyType.{AnyType}
use Rattle.point_core.specs.declared.any_type.AnyPoint.{AnyPoint}
use Rattle.point_core.specs.Points.{number, IsPointOf}
use Rattle.interval_core.specs.Members.{span}
use Rattle.value_core.specs.declared.kind.Kind.TheVariants.{Span as SpanOf}
use Rattle.value_core.specs.Attributes.{value_at, span_of}
use Rattle.value_core.specs.Plain.{plain}
use Rattle.value_core.specs.Values.{Row, fits}
use Rattle.relation_core.specs.Parts.{kind_at}
use Rattle.cell_core.specs.Boxes.{IsBox}
use Rattle.cell_core.specs.Cells.{box_numbers}
use Rattle.cell_core.specs.Numbering.{numbers_of}
use Rattle.u_set.specs.Boxes.{type_of, types_at}
use Rattle.u_set.proofs.BoxLemmas.{place_listed, shaped_from_fit, span_fits}
use Rattle.u_set.proofs.RowLemmas.{value_held, box_push}
use Rattle.u_set.proofs.boxes.sides_of.Goals as goal

pub bounds-values-i : goal.bounds-values-i
bounds-values-i c =
    let below = c.requires.intervals.within c.loop-i.i-index 0 (omega arith) in
    let long = (shaped_from_fit c.args.heading.now c.args.commalist.now c.requires.intervals (map plain c.args.values.now) c.requires.fits).long in
    let same = length-map c.args.values.now plain in
    omega (arith, below, long, same)

pub interval_of-side-requires : goal.interval_of-side-requires
interval_of-side-requires c =
    let heading = c.args.heading.now in
    let commalist = c.args.commalist.now in
    let row : Row = map plain c.args.values.now in
    let i : ℕ = get_or commalist c.loop-i.i-index 0 in
    let below = c.requires.intervals.within c.loop-i.i-index 0 (omega arith) in
    let long = (shaped_from_fit heading commalist c.requires.intervals row c.requires.fits).long in
    let same = length-map c.args.values.now plain in
    let is : value_at row i ≡ plain c.index-values-i.result = value_held c.args.values.now i c.index-values-i.result (omega (arith, below, long, same)) c.index-values-i.is in
    let fit = span_fits heading commalist c.requires.intervals row c.requires.fits i (place_listed commalist c.loop-i.i-index (omega arith)) in
    (type_of (kind_at heading i), subst (λ v. IsTrue (fits (SpanOf (type_of (kind_at heading i))) v)) is fit)

pub loop-i-preserved : goal.loop-i-preserved
loop-i-preserved c =
    let heading = c.args.heading.now in
    let commalist = c.args.commalist.now in
    let row : Row = map plain c.args.values.now in
    let at : ℕ = c.loop-i.i-index in
    let lt : c.loop-i.i-index < length c.args.commalist.now = omega arith in
    let i : ℕ = get_or commalist at 0 in
    let side = c.interval_of-side.result in
    let below = c.requires.intervals.within at 0 lt in
    let long = (shaped_from_fit heading commalist c.requires.intervals row c.requires.fits).long in
    let same = length-map c.args.values.now plain in
    let is : value_at row i ≡ plain c.index-values-i.result = value_held c.args.values.now i c.index-values-i.result (omega (arith, below, long, same)) c.index-values-i.is in
    let t : AnyType = type_of (kind_at heading i) in
    let fit : IsTrue (fits (SpanOf t) (plain c.index-values-i.result)) = subst (λ v. IsTrue (fits (SpanOf t) v)) is (span_fits heading commalist c.requires.intervals row c.requires.fits i (place_listed commalist at lt)) in
    let push = c.in_ok-push.ensures.items in
    let span_is : span number side ≡ span_of (value_at row i) = c.interval_of-side.ensures.numbers ∙ ap span_of (sym is) in
    let more : types_at heading (take (at + 1) commalist) ≡ types_at heading (take at commalist) ++ t ∷ [] = map_more (λ j. type_of (kind_at heading j)) commalist at 0 lt in
    record {
      numbers =
          ap (box_numbers number) push ∙ map_push (numbers_of number) c.loop-i.list.items side ∙ (λ k. c.loop-i.invariant.numbers k ++ span_is k ∷ [])
          ∙ sym (map_more (λ j. span_of (value_at row j)) commalist at 0 lt);
      points =
          subst (λ (ts : List AnyType). IsBox IsPointOf ts c.push.new.self.items) (sym more)
          (subst (λ (v : List (AnyPoint × AnyPoint)). IsBox IsPointOf (types_at heading (take at commalist) ++ t ∷ []) v) (sym push)
          (box_push IsPointOf (types_at heading (take at commalist)) c.loop-i.list.items t side c.loop-i.invariant.points (c.interval_of-side.ensures.points t fit)));
    }
