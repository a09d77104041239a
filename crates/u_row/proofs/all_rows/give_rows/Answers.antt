use Rattle.std.proofs.Common.{◌≡◌, ◌↔◌, ◌+◌, ◌<◌, ◌≤◌, ℤ, List, [], map, length, get_or, arith, ap, sym, ◌∙◌, subst}
use Rattle.std.specs.List.{All}
use Rattle.std.proofs.lemmas.List.{length-map}
use Rattle.cell_packing.specs.Boxed.{InBoxes}
use Rattle.value_core.specs.Values.{Row}
use Rattle.point_core.specs.LeastFault.{IsLeast}
use Rattle.cell_core.specs.Boxes.{IsBox}
use Rattle.cell_core.specs.Cells.{box_numbers, row_numbers}
use Rattle.u_row.specs.Rules.{sides_numbers}
use Rattle.u_row.proofs.AllRowsLemmas.{InRuleBelow, HasFaultBelow, sides_at, places_step, fault_step, no_fault_yet, no_place_yet, cells_step, cuts_more}
use Rattle.u_row.proofs.all_rows.give_rows.Goals as goal

pub loop-i-init : goal.loop-i-init
loop-i-init g c =
    let n = g.T.PointType.number_of in
    let f = g.R.RowRule.means c.args.rule.now in
    let boxes = sides_numbers n c.args.rows.now in
    let none = c.new-out.ensures.items in
    let short = ap length none in
    record {
      within = omega arith;
      places = λ label place. subst (λ (xs : List (Row × List _)). InBoxes (map (row_numbers n) xs) label place ↔ InRuleBelow f boxes 0 label place) (sym none) (no_place_yet f boxes label place);
      boxes = subst (All (λ b. IsBox g.T.PointType.IsPoint c.args.types.now b.1)) (sym none) (λ j d l. absurd (omega arith));
      few = omega (arith, short);
      least = no_fault_yet f boxes;
      cost = omega arith;
    }

pub loop-i-preserved : goal.loop-i-preserved
loop-i-preserved g c =
    let n = g.T.PointType.number_of in
    let f = g.R.RowRule.means c.args.rule.now in
    let cuts = g.R.RowRule.cuts_of c.args.rule.now in
    let rows = c.args.rows.now in
    let boxes = sides_numbers n rows in
    let i = c.loop-i.i in
    let box = box_numbers n c.row.inside.sides in
    let lt : i < length rows = c.loop-i-test.true in
    let many : length boxes ≡ length rows = length-map rows (λ b. box_numbers n b.1) in
    let at : get_or boxes i [] ≡ box = sides_at n rows i c.index-rows-i.result lt c.index-rows-i.is ∙ sym (ap (λ b. box_numbers n b.1) c.row.view_is) in
    let below : i < length boxes = omega (arith, lt, many) in
    let cells = cells_step cuts boxes i box below at in
    let more = cuts_more cuts boxes i box below at in
    let few = c.in_ok-give_row.ensures.few in
    let took = c.give_row.ensures.cost in
    let before = c.loop-i.invariant.few in
    let steps = c.loop-i.invariant.cost in
    record {
      within = omega (arith, lt);
      places = places_step f boxes i box at (map (row_numbers n) c.loop-i.out.items) (map (row_numbers n) c.give_row.new.out.items) c.loop-i.invariant.places c.in_ok-give_row.ensures.places;
      boxes = c.in_ok-give_row.ensures.boxes c.loop-i.invariant.boxes;
      few = omega (arith, cells, few, before);
      least = fault_step f boxes i box at c.loop-i.least c.give_row.new.least c.loop-i.invariant.least c.in_ok-give_row.ensures.least;
      cost = omega (arith, more, took, steps);
    }

pub returns-in_err-give_row-clause-cost : goal.returns-in_err-give_row-clause-cost
returns-in_err-give_row-clause-cost g c =
    let n = g.T.PointType.number_of in
    let cuts = g.R.RowRule.cuts_of c.args.rule.now in
    let rows = c.args.rows.now in
    let boxes = sides_numbers n rows in
    let i = c.loop-i.i in
    let box = box_numbers n c.row.inside.sides in
    let lt : i < length rows = c.loop-i-test.true in
    let many : length boxes ≡ length rows = length-map rows (λ b. box_numbers n b.1) in
    let at : get_or boxes i [] ≡ box = sides_at n rows i c.index-rows-i.result lt c.index-rows-i.is ∙ sym (ap (λ b. box_numbers n b.1) c.row.view_is) in
    let more = cuts_more cuts boxes i box (omega (arith, lt, many)) at in
    let took = c.give_row.ensures.cost in
    let steps = c.loop-i.invariant.cost in
    omega (arith, more, took, steps)

pub returns-clause-places : goal.returns-clause-places
returns-clause-places g c = λ label place.
    let n = g.T.PointType.number_of in
    let f = g.R.RowRule.means c.args.rule.now in
    let rows = c.args.rows.now in
    let many : length (sides_numbers n rows) ≡ length rows = length-map rows (λ b. box_numbers n b.1) in
    let within = c.loop-i.invariant.within in
    let done = c.loop-i-test.false in
    let all : c.loop-i.i ≡ length (sides_numbers n rows) = omega (arith, many, within, done) in
    subst (λ i. InBoxes (map (row_numbers n) c.loop-i.out.items) label place ↔ InRuleBelow f (sides_numbers n rows) i label place) all (c.loop-i.invariant.places label place)

pub returns-clause-least : goal.returns-clause-least
returns-clause-least g c =
    let n = g.T.PointType.number_of in
    let f = g.R.RowRule.means c.args.rule.now in
    let rows = c.args.rows.now in
    let many : length (sides_numbers n rows) ≡ length rows = length-map rows (λ b. box_numbers n b.1) in
    let within = c.loop-i.invariant.within in
    let done = c.loop-i-test.false in
    let all : c.loop-i.i ≡ length (sides_numbers n rows) = omega (arith, many, within, done) in
    subst (λ i. IsLeast (HasFaultBelow f (sides_numbers n rows) i) c.loop-i.least) all c.loop-i.invariant.least
