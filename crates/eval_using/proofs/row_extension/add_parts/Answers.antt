use Rattle.std.proofs.Common.{◌≡◌, ◌⊎◌, ◌++◌, ◌∷◌, [], List, map, Err, Some, sym, subst}
use Rattle.std.proofs.lemmas.List.{append-nil}
use Rattle.point_core.specs.Points.{number}
use Rattle.point_core.specs.declared.any_type.AnyPoint.{AnyPoint}
use Rattle.point_core.specs.LeastFault.{IsLeast}
use Rattle.interval_core.specs.Members.{Span, at_point}
use Rattle.cell_packing.specs.Boxed.{Boxed}
use Rattle.cell_packing.specs.Covering.{Among}
use Rattle.cell_packing.specs.Packed.{firsts}
use Rattle.cell_sweep.proofs.Turns.{least_kept}
use Rattle.value_core.specs.Attributes.{put_span}
use Rattle.value_core.specs.Values.{Row}
use Rattle.tree_core.specs.Trees.{read_sets}
use Rattle.cell_core.specs.Cells.{box_numbers}
use Rattle.cell_core.specs.Numbering.{numbers_of}
use Rattle.cell_core.proofs.KeyLemmas.{take_whole}
use Rattle.u_set.specs.Boxes.{boxed}
use Rattle.u_row.specs.Rules.{given, labelled}
use Rattle.eval_using.specs.Extended.{made_of, label_made, alone}
use Rattle.eval_using.specs.Holding.{IsPart}
use Rattle.eval_using.specs.Moved.{IsMoved}
use Rattle.eval_using.specs.Swept.{swept}
use Rattle.eval_using.proofs.InPlaceLemmas.{row_interval}
use Rattle.eval_using.proofs.MadePartLemmas.{made_there, part_rows, part_least}
use Rattle.eval_using.proofs.MovedLemmas.{moved_itself}
use Rattle.eval_using.proofs.row_extension.add_parts.Goals as goal

pub at_first-there-requires : goal.at_first-there-requires
at_first-there-requires c =
    let part = c.part-item.result in
    let w = c.requires.can in
    let is = subst (IsPart w.0 c.args.by.at c.args.row.now) (sym c.part-item.is) (w.3 c.loop-part.part-index part c.loop-part-test.true) in
    (w.0, c.args.row.now, c.loop-part.invariant.moved, w.2.items.here, w.2.fits, is.points)

pub add_made-requires : goal.add_made-requires
add_made-requires c =
    let part = c.part-item.result in
    let w = c.requires.can in
    let by = c.args.by in
    let row = c.args.row.now in
    let is = subst (IsPart w.0 by.at row) (sym c.part-item.is) (w.3 c.loop-part.part-index part c.loop-part-test.true) in
    let there = c.at_first-there.ensures row c.loop-part.invariant.moved in
    record { can = (w.0, w.1, made_there w.0 w.1 by.at by.to (read_sets by.sets.now) by.places.now row w.2 (number part.0) is.first c.at_first-there.result there, is.points) }

pub loop-part-init : goal.loop-part-init
loop-part-init c =
    let w = c.requires.can in
    let by = c.args.by in
    let row = c.args.row.now in
    let own = row_interval w.0 by.at row w.2.items.here w.2.fits in
    let f = swept (by.at ∷ []) (by.to ∷ []) (made_of by.places.now (read_sets by.sets.now)) row in
    record {
      rows = sym (append-nil (map (boxed (by.to ∷ [])) c.args.out.now.items));
      fits = λ from heading can all old. old;
      moved = subst (IsMoved by.at row) (sym c.in_ok-there.ensures) (moved_itself by.at row own.0 own.1);
      least = least_kept (λ e. (x : List Span) × Among x [] × (f (firsts x) ≡ Err e)) c.args.least.now (λ e v. absurd v.1);
    }

pub loop-part-preserved : goal.loop-part-preserved
loop-part-preserved c =
    let by = c.args.by in
    let row = c.args.row.now in
    let sets = read_sets by.sets.now in
    let places = by.places.now in
    let parts = c.args.parts.now in
    let k = c.loop-part.part-index in
    let part = c.part-item.result in
    let lt = c.loop-part-test.true in
    let box : Row → Boxed Row = boxed (by.to ∷ []) in
    let f = swept (by.at ∷ []) (by.to ∷ []) (made_of places sets) row in
    let is : c.at_first-there.result ≡ put_span row by.at (at_point (number part.0)) = c.at_first-there.ensures row c.loop-part.invariant.moved in
    let rows = subst (λ (x : Row). map box c.add_made.new.out.items ≡ map box c.loop-part.out.items ++ given (label_made by.to sets places x) (numbers_of number part ∷ [])) is c.in_ok-add_made.ensures.rows in
    let least = subst (λ (x : Row). IsLeast (λ e. (c.loop-part.least ≡ Some e) ⊎ (label_made by.to sets places x ≡ Err e)) c.add_made.new.least) is c.in_ok-add_made.ensures.least in
    record {
      rows = part_rows f parts k part lt c.part-item.is (map box c.args.out.now.items) (map box c.loop-part.out.items) (map box c.add_made.new.out.items) c.loop-part.invariant.rows rows;
      fits = λ from heading can all old.
          let here = subst (IsPart from by.at row) (sym c.part-item.is) (all k part lt) in
          c.in_ok-add_made.ensures.fits from heading (made_there from heading by.at by.to sets places row can (number part.0) here.first c.at_first-there.result is) here.points (c.loop-part.invariant.fits from heading can all old);
      moved = (at_point (number part.0), is);
      least = part_least f parts k part lt c.part-item.is c.args.least.now c.loop-part.least c.add_made.new.least c.loop-part.invariant.least least;
    }

pub returns-clause-rows : goal.returns-clause-rows
returns-clause-rows c =
    let by = c.args.by in
    let box : Row → Boxed Row = boxed (by.to ∷ []) in
    let f = swept (by.at ∷ []) (by.to ∷ []) (made_of by.places.now (read_sets by.sets.now)) c.args.row.now in
    subst (λ (parts : List (AnyPoint × AnyPoint)). map box c.loop-part.out.items ≡ map box c.args.out.now.items ++ labelled f (alone (box_numbers number parts)))
    (take_whole c.args.parts.now c.loop-part.part-index c.loop-part-test.false) c.loop-part.invariant.rows

pub returns-clause-least : goal.returns-clause-least
returns-clause-least c =
    let by = c.args.by in
    let f = swept (by.at ∷ []) (by.to ∷ []) (made_of by.places.now (read_sets by.sets.now)) c.args.row.now in
    subst (λ (parts : List (AnyPoint × AnyPoint)). IsLeast (λ e. (c.args.least.now ≡ Some e) ⊎ ((x : List Span) × Among x (alone (box_numbers number parts)) × (f (firsts x) ≡ Err e))) c.loop-part.least)
    (take_whole c.args.parts.now c.loop-part.part-index c.loop-part-test.false) c.loop-part.invariant.least
