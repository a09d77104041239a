use Rattle.std.proofs.Common.{◌≡◌, ◌↔◌, ◌<◌, ◌∷◌, [], map, length, arith, sym, subst}
use Rattle.std.proofs.lemmas.List.{length-map}
use Rattle.cell_packing.specs.Boxed.{InBoxes}
use Rattle.point_core.specs.LeastFault.{IsLeast}
use Rattle.tree_core.specs.Trees.{read_sets}
use Rattle.u_set.specs.Boxes.{boxed, spans_at}
use Rattle.u_row.proofs.AllRowsLemmas.{InRuleBelow, HasFaultBelow}
use Rattle.eval_using.specs.Extended.{made_of, CanMake}
use Rattle.eval_using.specs.Swept.{swept_rows}
use Rattle.eval_using.proofs.LeftLemmas.{row_places, row_least}
use Rattle.eval_using.proofs.row_extension.rows_made.Goals as goal

pub extend_row-requires : goal.extend_row-requires
extend_row-requires c =
    let w = c.requires.can in
    let by = c.args.by in
    let i = c.loop-row.row-index in
    let row = c.row-item.result in
    record { can = (w.0, w.1, subst (CanMake w.0 w.1 by.at by.to (read_sets by.sets.now) by.places.now) (sym c.row-item.is) (w.2 i row c.loop-row-test.true), w.3) }

pub loop-row-preserved : goal.loop-row-preserved
loop-row-preserved c =
    let by = c.args.by in
    let m = made_of by.places.now (read_sets by.sets.now) in
    let rows = c.args.rows.now in
    let i = c.loop-row.row-index in
    let row = c.row-item.result in
    let lt : i < length rows = c.loop-row-test.true in
    record {
      within = omega (arith, lt);
      places = row_places by.at by.to m rows i row lt c.row-item.is (map (boxed (by.to ∷ [])) c.loop-row.out.items) (map (boxed (by.to ∷ [])) c.extend_row.new.out.items) c.loop-row.invariant.places c.in_ok-extend_row.ensures.places;
      fits = λ from heading can type.
          c.in_ok-extend_row.ensures.fits from heading (subst (CanMake from heading by.at by.to (read_sets by.sets.now) by.places.now) (sym c.row-item.is) (can i row lt)) type (c.loop-row.invariant.fits from heading can type);
      least = row_least by.at by.to m rows i row lt c.row-item.is c.loop-row.least c.extend_row.new.least c.loop-row.invariant.least c.in_ok-extend_row.ensures.least;
    }

pub returns-clause-places : goal.returns-clause-places
returns-clause-places c = λ m place.
    let by = c.args.by in
    let f = swept_rows (by.at ∷ []) (by.to ∷ []) (made_of by.places.now (read_sets by.sets.now)) c.args.rows.now in
    let boxes = map (spans_at (by.at ∷ [])) c.args.rows.now in
    let many : length boxes ≡ length c.args.rows.now = length-map c.args.rows.now (spans_at (by.at ∷ [])) in
    let within = c.loop-row.invariant.within in
    let done = c.loop-row-test.false in
    let all : c.loop-row.row-index ≡ length boxes = omega (arith, many, within, done) in
    subst (λ i. InBoxes (map (boxed (by.to ∷ [])) c.loop-row.out.items) m place ↔ InRuleBelow f boxes i m place) all (c.loop-row.invariant.places m place)

pub returns-clause-least : goal.returns-clause-least
returns-clause-least c =
    let by = c.args.by in
    let f = swept_rows (by.at ∷ []) (by.to ∷ []) (made_of by.places.now (read_sets by.sets.now)) c.args.rows.now in
    let boxes = map (spans_at (by.at ∷ [])) c.args.rows.now in
    let many : length boxes ≡ length c.args.rows.now = length-map c.args.rows.now (spans_at (by.at ∷ [])) in
    let within = c.loop-row.invariant.within in
    let done = c.loop-row-test.false in
    let all : c.loop-row.row-index ≡ length boxes = omega (arith, many, within, done) in
    subst (λ i. IsLeast (HasFaultBelow f boxes i) c.loop-row.least) all c.loop-row.invariant.least
