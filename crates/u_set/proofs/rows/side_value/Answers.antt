use Rattle.std.proofs.Common.{◌≡◌, [], length, get_or, sym, ap, ◌∙◌, subst, arith}
use Rattle.std.proofs.lemmas.List.{get_or_default}
use Rattle.point_core.specs.Points.{line_of, number, IsPointOf}
use Rattle.interval_core.specs.Members.{HasEndsIn, span}
use Rattle.cell_packing.specs.Packed.{nowhere}
use Rattle.value_core.specs.declared.kind.Kind.{Kind}
use Rattle.value_core.specs.declared.kind.Kind.TheVariants.{Truth, Span as SpanOf}
use Rattle.value_core.specs.Plain.{plain}
use Rattle.value_core.specs.Values.{Name, interval, fits}
use Rattle.relation_core.specs.Parts.{kind_at}
use Rattle.cell_core.specs.Cells.{box_numbers}
use Rattle.u_set.specs.Boxes.{type_of, place_of}
use Rattle.u_set.proofs.BoxLemmas.{kind_listed}
use Rattle.u_set.proofs.RowLemmas.{side_at}
use Rattle.u_set.proofs.rows.side_value.Goals as goal

pub offset_bounds-heading-i : goal.offset_bounds-heading-i
offset_bounds-heading-i c =
    let k = (kind_listed c.args.heading.now c.args.commalist.now c.requires.intervals c.args.i c.requires.listed).0 in
    omega (arith, k)

pub bounds-heading-i : goal.bounds-heading-i
bounds-heading-i c = (kind_listed c.args.heading.now c.args.commalist.now c.requires.intervals c.args.i c.requires.listed).0

pub bounds-heading-i-2 : goal.bounds-heading-i-2
bounds-heading-i-2 c = (kind_listed c.args.heading.now c.args.commalist.now c.requires.intervals c.args.i c.requires.listed).0

pub index-requires : goal.index-requires
index-requires c =
    let p = (side_at c.args.heading.now c.args.commalist.now c.args.i c.args.sides.now c.requires.listed c.requires.sides).0 in
    let e = ap length c.sides.view_is in
    let l = c.sides.inside.list.ok.0 in
    let at = c.place_of.ensures in
    omega (arith, p)

pub value_of-requires : goal.value_of-requires
value_of-requires c =
    let heading = c.args.heading.now in
    let i = c.args.i in
    let x = c.index.result.now in
    let k = kind_listed heading c.args.commalist.now c.requires.intervals i c.requires.listed in
    let type : c.type_of.result ≡ type_of (kind_at c.args.heading.now c.args.i) = c.type_of.ensures ∙ ap (λ (a : Name × Kind). type_of a.1) (get_or_default heading i c.index-heading-i.result ([], Truth) k.0) in
    let at = ap (λ j. get_or c.args.sides.now j x) (sym c.place_of.ensures) ∙ ap (λ ys. get_or ys c.place_of.result x) (sym c.sides.view_is) ∙ sym c.index.ensures in
    let p = (side_at heading c.args.commalist.now i c.args.sides.now c.requires.listed c.requires.sides).1 x in
    subst (λ t. HasEndsIn IsPointOf t c.index.result.now) (sym type) (subst (HasEndsIn IsPointOf (type_of (kind_at heading i))) at p.0)

pub returns-clause-value : goal.returns-clause-value
returns-clause-value c =
    let heading = c.args.heading.now in
    let i = c.args.i in
    let x = c.index.result.now in
    let k = kind_listed heading c.args.commalist.now c.requires.intervals i c.requires.listed in
    let type : c.type_of.result ≡ type_of (kind_at c.args.heading.now c.args.i) = c.type_of.ensures ∙ ap (λ (a : Name × Kind). type_of a.1) (get_or_default heading i c.index-heading-i.result ([], Truth) k.0) in
    let at = ap (λ j. get_or c.args.sides.now j x) (sym c.place_of.ensures) ∙ ap (λ ys. get_or ys c.place_of.result x) (sym c.sides.view_is) ∙ sym c.index.ensures in
    let p = (side_at heading c.args.commalist.now i c.args.sides.now c.requires.listed c.requires.sides).1 x in
    let numbers : span number c.index.result.now ≡ get_or (box_numbers number c.args.sides.now) (place_of c.args.commalist.now c.args.i) nowhere = sym (p.1 ∙ ap (span number) at) in
    c.value_of.ensures.value ∙ (λ t. interval (line_of (type t)) (numbers t))

pub returns-clause-fits : goal.returns-clause-fits
returns-clause-fits c =
    let heading = c.args.heading.now in
    let i = c.args.i in
    let k = kind_listed heading c.args.commalist.now c.requires.intervals i c.requires.listed in
    let type : c.type_of.result ≡ type_of (kind_at c.args.heading.now c.args.i) = c.type_of.ensures ∙ ap (λ (a : Name × Kind). type_of a.1) (get_or_default heading i c.index-heading-i.result ([], Truth) k.0) in
    let same : kind_at c.args.heading.now c.args.i ≡ SpanOf c.type_of.result = k.1 ∙ ap SpanOf (sym type) in
    ap (λ q. fits q (plain c.value_of.result)) same ∙ c.value_of.ensures.fits
