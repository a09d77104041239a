use Rattle.std.proofs.Common.{◌≡◌, ◌↔◌, ◌<◌, ◌∷◌, [], map, length, arith, sym, subst}
use Rattle.std.proofs.lemmas.List.{length-map}
use Rattle.cell_packing.specs.Boxed.{InBoxes}
use Rattle.scalar_core.specs.Expressions.{read}
use Rattle.point_core.specs.LeastFault.{IsLeast}
use Rattle.u_set.specs.Boxes.{boxed, spans_at}
use Rattle.u_row.proofs.AllRowsLemmas.{InRuleBelow, HasFaultBelow}
use Rattle.eval_using.specs.Swept.{met, swept_rows}
use Rattle.eval_using.specs.Holding.{CanAsk}
use Rattle.eval_using.proofs.LeftLemmas.{row_places, row_least}
use Rattle.eval_using.proofs.in_place.rows_left.Goals as goal

pub loop-row-preserved : goal.loop-row-preserved
loop-row-preserved c =
    let at = c.args.at in
    let e = read c.args.c.now in
    let rows = c.args.rows.now in
    let i = c.loop-row.row-index in
    let row = c.row-item.result in
    let lt : i < length rows = c.loop-row-test.true in
    let can = subst (CanAsk c.args.heading.now at e) (sym c.row-item.is) (c.requires.can i row lt) in
    record {
      within = omega (arith, lt);
      places = row_places at at (met e) rows i row lt c.row-item.is (map (boxed (at ∷ [])) c.loop-row.out.items) (map (boxed (at ∷ [])) c.keep_row.new.out.items) c.loop-row.invariant.places c.in_ok-keep_row.ensures.places;
      fits = c.in_ok-keep_row.ensures.fits c.args.heading.now can c.type_at-t.ensures c.loop-row.invariant.fits;
      least = row_least at at (met e) rows i row lt c.row-item.is c.loop-row.least c.keep_row.new.least c.loop-row.invariant.least c.in_ok-keep_row.ensures.least;
    }

pub returns-clause-places : goal.returns-clause-places
returns-clause-places c = λ m place.
    let commalist = c.args.at ∷ [] in
    let f = swept_rows commalist commalist (met (read c.args.c.now)) c.args.rows.now in
    let boxes = map (spans_at commalist) c.args.rows.now in
    let many : length boxes ≡ length c.args.rows.now = length-map c.args.rows.now (spans_at commalist) in
    let within = c.loop-row.invariant.within in
    let done = c.loop-row-test.false in
    let all : c.loop-row.row-index ≡ length boxes = omega (arith, many, within, done) in
    subst (λ i. InBoxes (map (boxed commalist) c.loop-row.out.items) m place ↔ InRuleBelow f boxes i m place) all (c.loop-row.invariant.places m place)

pub returns-clause-least : goal.returns-clause-least
returns-clause-least c =
    let commalist = c.args.at ∷ [] in
    let f = swept_rows commalist commalist (met (read c.args.c.now)) c.args.rows.now in
    let boxes = map (spans_at commalist) c.args.rows.now in
    let many : length boxes ≡ length c.args.rows.now = length-map c.args.rows.now (spans_at commalist) in
    let within = c.loop-row.invariant.within in
    let done = c.loop-row-test.false in
    let all : c.loop-row.row-index ≡ length boxes = omega (arith, many, within, done) in
    subst (λ i. IsLeast (HasFaultBelow f boxes i) c.loop-row.least) all c.loop-row.invariant.least
