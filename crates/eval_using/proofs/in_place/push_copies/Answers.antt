use Rattle.std.proofs.Common.{◌≡◌, ◌<◌, length, sym, ap, ◌∙◌, subst}
use Rattle.std.specs.Bool.{IsTrue}
use Rattle.point_core.specs.Points.{number, line, IsPointOf}
use Rattle.interval_core.specs.Members.{HasEndsIn}
use Rattle.value_core.specs.Attributes.{value_at, span_of, put_span}
use Rattle.value_core.specs.Values.{Row, interval, fits_heading}
use Rattle.cell_core.specs.Numbering.{numbers_of}
use Rattle.relation_core.specs.Parts.{kind_at}
use Rattle.u_set.specs.Boxes.{type_of}
use Rattle.eval_using.proofs.InPlaceLemmas.{row_within, row_line, rows_more, fits_more, part_fits}
use Rattle.eval_using.proofs.in_place.push_copies.Goals as goal

pub with_interval-more-requires-clause-within : goal.with_interval-more-requires-clause-within
with_interval-more-requires-clause-within c =
    let w = c.requires.can in
    subst (λ (x : Row). c.args.at < length x) (sym c.in_ok-same.ensures) (row_within w.0 c.args.at c.args.row.now w.1 w.2)

pub with_interval-more-requires-clause-first : goal.with_interval-more-requires-clause-first
with_interval-more-requires-clause-first c =
    let w = c.requires.can in
    let i = c.i-item.result in
    let own = row_line w.0 c.args.at c.args.row.now w.1 w.2 i.0 (subst (HasEndsIn IsPointOf (type_of (kind_at w.0 c.args.at))) (sym c.i-item.is) (w.3 c.loop-i.i-index i c.loop-i-test.true)).0 in
    subst (λ (x : Row). value_at x c.args.at ≡ interval (line i.0) (span_of (value_at x c.args.at))) (sym c.in_ok-same.ensures) own

pub loop-i-preserved : goal.loop-i-preserved
loop-i-preserved c =
    let at = c.args.at in
    let row = c.args.row.now in
    let k = c.loop-i.i-index in
    let i = c.i-item.result in
    let lt = c.loop-i-test.true in
    let more = c.with_interval-more.result in
    let put = c.with_interval-more.ensures.row ∙ ap (λ (x : Row). put_span x at (numbers_of number i)) c.in_ok-same.ensures in
    let push = c.in_ok-push.ensures.items in
    record {
      rows = rows_more row at c.args.intervals.now k i c.args.out.now.items c.loop-i.out.items c.push.new.self.items more lt c.i-item.is put push c.loop-i.invariant.rows;
      fits = λ heading intervals fit ends old.
          let own = subst (HasEndsIn IsPointOf (type_of (kind_at heading at))) (sym c.i-item.is) (ends k i lt) in
          let here = subst (λ (x : Row). IsTrue (fits_heading heading x)) (sym put) (part_fits heading at row i fit own c.with_interval-more.ensures.ordered) in
          fits_more heading c.loop-i.out.items c.push.new.self.items more push here (c.loop-i.invariant.fits heading intervals fit ends old);
    }
