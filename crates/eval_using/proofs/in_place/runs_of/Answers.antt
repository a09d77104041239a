use Rattle.std.proofs.Common.{◌≡◌, ◌↔◌, ◌⊎◌, ℤ, true, List, [], Ok, Err, Some, sym, subst, arith}
use Rattle.std.specs.List.{All}
use Rattle.point_core.specs.Points.{number, IsPointOf}
use Rattle.point_core.specs.declared.any_type.AnyPoint.{AnyPoint}
use Rattle.interval_core.specs.Members.{HasEndsIn, at_point}
use Rattle.value_core.specs.Values.{Row}
use Rattle.scalar_core.specs.AtPlaces.{IsWithin}
use Rattle.scalar_core.specs.Expressions.{read}
use Rattle.point_core.specs.LeastFault.{IsLeast}
use Rattle.cell_core.specs.Cells.{box_numbers}
use Rattle.cell_core.proofs.KeyLemmas.{take_whole}
use Rattle.cell_core.specs.Numbering.{numbers_of}
use Rattle.meaning_core.specs.Meanings.{condition}
use Rattle.cell_sweep.proofs.Turns.{least_kept}
use Rattle.eval_using.specs.Holding.{at_number, InSpans, HoldsIn, FailsIn, IsPart}
use Rattle.eval_using.specs.Moved.{IsMoved}
use Rattle.eval_using.proofs.InPlaceLemmas.{own_interval, asked_over}
use Rattle.eval_using.proofs.MovedLemmas.{moved_itself}
use Rattle.eval_using.proofs.RunLemmas.{runs_step, least_step}
use Rattle.eval_using.proofs.in_place.runs_of.Goals as goal

pub at_first-there-requires : goal.at_first-there-requires
at_first-there-requires c =
    let part = c.part-item.result in
    let w = c.requires.can in
    let is = subst (IsPart w.0 c.args.asked.at c.args.row.now) (sym c.part-item.is) (w.2 c.loop-part.part-index part c.loop-part-test.true) in
    (w.0, c.args.row.now, c.loop-part.invariant.moved, w.1.intervals, w.1.fits, is.points)

pub ask-requires : goal.ask-requires
ask-requires c =
    let part = c.part-item.result in
    let w = c.requires.can in
    let is = subst (IsPart w.0 c.args.asked.at c.args.row.now) (sym c.part-item.is) (w.2 c.loop-part.part-index part c.loop-part-test.true) in
    asked_over w.0 c.args.asked.at (read c.args.asked.c.now) c.args.row.now w.1 (number part.0) is.first c.at_first-there.result (c.at_first-there.ensures c.args.row.now c.loop-part.invariant.moved)

pub loop-part-init : goal.loop-part-init
loop-part-init c =
    let w = c.requires.can in
    let e = read c.args.asked.c.now in
    let at = c.args.asked.at in
    let row = c.args.row.now in
    let own = own_interval w.0 at e row w.1 in
    let runs = c.in_ok-runs.ensures.items in
    record {
      runs = subst (λ (is : List (AnyPoint × AnyPoint)). (p : ℤ) → InSpans (box_numbers number is) p ↔ HoldsIn e at row [] p) (sym runs) (λ p. (λ h. absurd h, λ h. absurd h.1));
      points = λ t all. subst (λ (is : List (AnyPoint × AnyPoint)). All (HasEndsIn IsPointOf t) is) (sym runs) (λ j d l. absurd (omega (arith, l)));
      moved = subst (IsMoved at row) (sym c.in_ok-there.ensures) (moved_itself at row own.0 own.1);
      least = least_kept (FailsIn e at row []) c.args.least.now (λ d v. absurd v.1);
    }

pub loop-part-preserved : goal.loop-part-preserved
loop-part-preserved c =
    let e = read c.args.asked.c.now in
    let at = c.args.asked.at in
    let row = c.args.row.now in
    let parts = c.args.parts.now in
    let part = c.part-item.result in
    let lt = c.loop-part-test.true in
    let is : c.at_first-there.result ≡ at_number at row (number part.0) = c.at_first-there.ensures row c.loop-part.invariant.moved in
    let runs = subst (λ (x : Row). (p : ℤ) → InSpans (box_numbers number c.ask.new.runs.items) p ↔ InSpans (box_numbers number c.loop-part.runs.items) p ⊎ (IsWithin (numbers_of number part) p × (condition e x ≡ Ok true))) is c.in_ok-ask.ensures.runs in
    let least = subst (λ (x : Row). IsLeast (λ d. (c.loop-part.least ≡ Some d) ⊎ (condition e x ≡ Err d)) c.ask.new.least) is c.in_ok-ask.ensures.least in
    record {
      runs = runs_step e at row parts c.loop-part.part-index part lt c.part-item.is (box_numbers number c.loop-part.runs.items) (box_numbers number c.ask.new.runs.items) c.loop-part.invariant.runs runs;
      points = λ t all. c.in_ok-ask.ensures.points t (subst (HasEndsIn IsPointOf t) (sym c.part-item.is) (all c.loop-part.part-index part lt)) (c.loop-part.invariant.points t all);
      moved = (at_point (number part.0), is);
      least = least_step e at row parts c.loop-part.part-index part lt c.part-item.is c.args.least.now c.loop-part.least c.ask.new.least c.loop-part.invariant.least least;
    }

pub returns-clause-runs : goal.returns-clause-runs
returns-clause-runs c = λ p.
    subst (λ (parts : List (AnyPoint × AnyPoint)). InSpans (box_numbers number c.loop-part.runs.items) p ↔ HoldsIn (read c.args.asked.c.now) c.args.asked.at c.args.row.now (box_numbers number parts) p)
    (take_whole c.args.parts.now c.loop-part.part-index c.loop-part-test.false) (c.loop-part.invariant.runs p)

pub returns-clause-least : goal.returns-clause-least
returns-clause-least c =
    subst (λ (parts : List (AnyPoint × AnyPoint)). IsLeast (λ e. (c.args.least.now ≡ Some e) ⊎ FailsIn (read c.args.asked.c.now) c.args.asked.at c.args.row.now (box_numbers number parts) e) c.loop-part.least)
    (take_whole c.args.parts.now c.loop-part.part-index c.loop-part-test.false) c.loop-part.invariant.least
