use Rattle.std.proofs.Common.{◌≡◌, ◌<◌, ◌≤◌, ◌↔◌, ◌⊎◌, ℕ, List, [], arith, ap, sym, subst, length, ◌∙◌, Some, Err}
use Rattle.cell_packing.specs.Covering.{Among, Gives}
use Rattle.cell_packing.specs.Live.{box, InLive, IsSomewhere}
use Rattle.point_core.specs.LeastFault.{IsLeast}
use Rattle.cell_sweep.specs.PackedRows.{HasRow}
use Rattle.cell_sweep.specs.Rows.{sides_of, AreRows, GivesLabel, GivesFault}
use Rattle.cell_sweep.proofs.Turns.{least_kept, least_more}
use Rattle.cell_boxes.specs.Common.{EndsBy}
use Rattle.cell_boxes.specs.Groups.{IsGroupFault}
use Rattle.cell_boxes.specs.Meetings.{boxes_in}
use Rattle.cell_boxes.specs.Rows.{IsRow, PlainCellBox}
use Rattle.cell_boxes.proofs.GroupLemmas.{Done, split_first, split_more, done_none, done_more, done_all, rows_of_boxes, sides_of_boxes, rows_more, lengths_more, ends_more, least_all, somewhere_all}
use Rattle.cell_boxes.proofs.RowLemmas.{row_there}
use Rattle.std.specs.declared.cmp.Ordering.TheVariants.{Equal}
use Rattle.cell_packing.proofs.AmongLemmas.{all_from_members}
use Rattle.cell_boxes.proofs.grouping.grouped.Goals as goal

pub loop-first-init : goal.loop-first-init
loop-first-init g c =
    let m : List ℕ → List ℕ → _ = λ a b. g.O.CellRule.means c.args.rule.now a in
    let rows = c.args.rows.now in
    record {
      within = omega arith;
      split = split_first rows;
      grid_points = λ t grid_point f. (λ h. absurd (subst (Among (t, h.0)) c.new-out.ensures.items h.1), λ h. absurd (done_none rows (λ a. Gives (m a []) t) grid_point h));
      lengths = all_from_members (λ (x : PlainCellBox _). length x.1 ≡ c.args.sides) c.new-out.result.items (λ x h. absurd (subst (Among x) c.new-out.ensures.items h));
      ends = λ z h. absurd (subst (Among z) c.new-out.ensures.items h);
      least = least_kept (λ e. (grid_point : List ℕ) × (length grid_point ≡ c.args.sides) × Done rows 0 (λ a. m a [] ≡ Err e) grid_point) c.args.least.now (λ e h. done_none rows (λ a. m a [] ≡ Err e) h.0 h.2);
    }

pub covered-requires-clause-rows : goal.covered-requires-clause-rows
covered-requires-clause-rows g c =
    let e = ap sides_of c.as_slice.ensures.value ∙ c.in_ok-boxes.ensures in
    rows_of_boxes c.as_slice.result.now c.args.rows.now e c.loop-first.first c.group_end-end.result c.as_slice-in-loop-first.result.now c.group_end-end.ensures.within
    (subst (AreRows c.loop-first.first c.group_end-end.result) (sym c.as_slice-in-loop-first.ensures.value) c.in_ok-live.ensures.order)

pub covered-requires-clause-sides : goal.covered-requires-clause-sides
covered-requires-clause-sides g c =
    let e = ap sides_of c.as_slice.ensures.value ∙ c.in_ok-boxes.ensures in
    sides_of_boxes c.as_slice.result.now c.args.rows.now e c.args.sides c.requires.sides

pub loop-first-preserved : goal.loop-first-preserved
loop-first-preserved g c =
    let o = g.P.Label.order in
    let total = g.met.P.Label.total in
    let sep = g.met.P.Label.separates in
    let m : List ℕ → List ℕ → _ = λ a b. g.O.CellRule.means c.args.rule.now a in
    let rows = c.args.rows.now in
    let k : ℕ = c.args.sides in
    let first : ℕ = c.loop-first.first in
    let end : ℕ = c.group_end-end.result in
    let live = c.in_ok-live.live.items in
    let ens = c.group_end-end.ensures in
    let inside : first < length rows = omega arith in
    let there = row_there rows first inside in
    let x0 : PlainCellBox g.row.P.Denot = there.0 in
    let at : IsRow rows first x0 = there.1 in
    let same : (q : ℕ) (y : PlainCellBox g.row.P.Denot) → IsRow rows q y → first < q → q < end → o x0.0 y.0 ≡ Equal = λ q y h l n. ens.same q x0 y at h l n in
    let other : (y : PlainCellBox g.row.P.Denot) → IsRow rows end y → o x0.0 y.0 ≡ Equal → ⊥ = λ y h e. ens.other x0 y at h e in
    let v = c.loop-first.invariant in
    let es = ap sides_of c.as_slice.ensures.value ∙ c.in_ok-boxes.ensures in
    let el = c.as_slice-in-loop-first.ensures.value in
    let parts = c.in_ok-parts.parts.items in
    let old = c.loop-first.out.items in
    let new = c.push_rows.new.out.items in
    let made = c.in_ok-push_rows.ensures in
    let GridPoints : List (List (ℕ × ℕ)) → List ℕ → Type 0 = λ b ns. (t : g.row.O-Out.Denot) (grid_point : List ℕ) → length grid_point ≡ k → HasRow parts t grid_point ↔ InLive (GivesLabel m 0) b ns [] t grid_point in
    let Ends : List (List (ℕ × ℕ)) → List ℕ → Type 0 = λ b ns. (z : PlainCellBox g.row.O-Out.Denot) → Among z parts → (r : ℕ) × Among r ns × EndsBy (box b r) z.1 in
    let Least : List (List (ℕ × ℕ)) → List ℕ → Type 0 = λ b ns. IsLeast (λ e. (c.loop-first.least ≡ Some e) ⊎ IsSomewhere k (GivesFault m 0) b ns [] e) c.covered.new.least in
    let grid_points : GridPoints (boxes_in rows) live = subst (GridPoints (boxes_in rows)) el (subst (λ b. GridPoints b c.as_slice-in-loop-first.result.now) es c.in_ok-parts.ensures.grid_points) in
    let ends : Ends (boxes_in rows) live = subst (Ends (boxes_in rows)) el (subst (λ b. Ends b c.as_slice-in-loop-first.result.now) es c.in_ok-parts.ensures.ends) in
    let least : Least (boxes_in rows) live = subst (Least (boxes_in rows)) el (subst (λ b. Least b c.as_slice-in-loop-first.result.now) es c.in_ok-parts.ensures.least) in
    record {
      within = ens.within;
      split = split_more o total sep rows c.requires.order first end v.split ens.from ens.within x0 at same other;
      grid_points = λ t grid_point f.
          let V : List ℕ → Type 0 = λ a. Gives (m a []) t in
          rows_more old new parts made t grid_point (Done rows first V grid_point) (InLive (GivesLabel m 0) (boxes_in rows) live [] t grid_point) (Done rows end V grid_point) (v.grid_points t grid_point f) (grid_points t grid_point f)
          (done_more o total sep rows c.requires.order first end v.split ens.from ens.within x0 at same other live c.in_ok-live.ensures.order c.in_ok-live.ensures.members V grid_point);
      lengths = lengths_more k old new parts made v.lengths c.in_ok-parts.ensures.lengths;
      ends = ends_more rows live end ens.within (λ r h. ((c.in_ok-live.ensures.members r).0 h).1) old new parts made v.ends ends;
      least =
          least_all (λ e. (grid_point : List ℕ) × (length grid_point ≡ k) × Done rows first (λ a. m a [] ≡ Err e) grid_point) (IsSomewhere k (GivesFault m 0) (boxes_in rows) live []) (λ e. (grid_point : List ℕ) × (length grid_point ≡ k) × Done rows end (λ a. m a [] ≡ Err e) grid_point)
          c.args.least.now c.loop-first.least c.covered.new.least
          (λ e.
          let V : List ℕ → Type 0 = λ a. m a [] ≡ Err e in
          somewhere_all k (Done rows first V) (InLive (GivesFault m 0) (boxes_in rows) live [] e) (Done rows end V)
          (done_more o total sep rows c.requires.order first end v.split ens.from ens.within x0 at same other live c.in_ok-live.ensures.order c.in_ok-live.ensures.members V))
          v.least least;
    }

pub returns-clause-grid_points : goal.returns-clause-grid_points
returns-clause-grid_points g c = λ l grid_point f.
    let m : List ℕ → List ℕ → _ = λ a b. g.O.CellRule.means c.args.rule.now a in
    let v = c.loop-first.invariant.grid_points l grid_point f in
    let w = done_all c.args.rows.now c.loop-first.first (omega arith) (λ a. Gives (m a []) l) grid_point in
    (λ h. w.0 (v.0 h), λ h. v.1 (w.1 h))

pub returns-clause-least : goal.returns-clause-least
returns-clause-least g c =
    let m : List ℕ → List ℕ → _ = λ a b. g.O.CellRule.means c.args.rule.now a in
    let rows = c.args.rows.now in
    let k : ℕ = c.args.sides in
    let all : length rows ≤ c.loop-first.first = omega arith in
    least_more (λ e. (grid_point : List ℕ) × (length grid_point ≡ k) × Done rows c.loop-first.first (λ a. m a [] ≡ Err e) grid_point) (IsGroupFault k m rows) c.args.least.now c.loop-first.least
    (λ e. (
      λ h. (h.0, h.1, (done_all rows c.loop-first.first all (λ a. m a [] ≡ Err e) h.0).0 h.2),
      λ h. (h.0, h.1, (done_all rows c.loop-first.first all (λ a. m a [] ≡ Err e) h.0).1 h.2),
    ))
    c.loop-first.invariant.least
