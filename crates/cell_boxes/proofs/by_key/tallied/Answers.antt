use Rattle.std.proofs.Common.{◌≡◌, ◌<◌, ◌≤◌, ◌↔◌, ◌⊎◌, ℕ, List, [], ◌∷◌, Bool, inl, inr, arith, ap, subst, length, ◌∙◌, Some, Ok, Err}
use Rattle.cell_packing.specs.Covering.{Among}
use Rattle.point_core.specs.LeastFault.{IsLeast}
use Rattle.cell_sweep.specs.PackedRows.{HasRow}
use Rattle.cell_sweep.proofs.Turns.{least_kept, least_more}
use Rattle.std.specs.declared.cmp.Ordering.TheVariants.{Equal}
use Rattle.cell_packing.proofs.AmongLemmas.{all_from_members}
use Rattle.cell_boxes.specs.Common.{first_of}
use Rattle.cell_boxes.specs.Rows.{IsRow, PlainCellBox}
use Rattle.cell_boxes.specs.Tallies.{IsPart, OfTallied, IsTallyFault}
use Rattle.cell_boxes.proofs.GroupLemmas.{split_first, split_more}
use Rattle.cell_sweep.proofs.LabelRows.{map_length}
use Rattle.cell_boxes.proofs.KeyLemmas.{DoneFlags, part_of_row, tallied_more, fault_more, flags_none, flags_all, rows_none, through}
use Rattle.cell_boxes.proofs.RowLemmas.{row_there, among_row, row_sides}
use Rattle.cell_boxes.proofs.TallyLemmas.{some_of_label, some_of_fault}
use Rattle.cell_boxes.proofs.by_key.tallied.Goals as goal

pub loop-first-init : goal.loop-first-init
loop-first-init g c =
    let m = g.T.Tally.means c.args.rule.now in
    let rows = c.args.rows.now in
    let nothing = g.met.T.Tally.nothing c.args.rule.now in
    record {
      within = omega arith;
      split = split_first rows;
      of = c.in_ok-state.ensures c.in_ok-flags.flags.items c.in_ok-flags.ensures.count c.in_ok-flags.ensures.none;
      count = c.in_ok-flags.ensures.count;
      none = c.in_ok-flags.ensures.none;
      grid_points = λ t j. rows_none rows c.new-out.result.items c.new-out.ensures.items (λ k f. m k f ≡ Ok (Some t)) (λ k f q. some_of_label (m k f) f (nothing k f) t q) t j;
      parts = λ z h. absurd (subst (Among z) c.new-out.ensures.items h);
      least = least_kept (λ e. (j : ℕ) × DoneFlags rows 0 (λ k f. m k f ≡ Err e) j) c.args.least.now (λ e h. flags_none rows (λ k f. m k f ≡ Err e) (λ k f q. some_of_fault (m k f) f (nothing k f) e q) h.0 h.1);
    }

pub loop-first-preserved : goal.loop-first-preserved
loop-first-preserved g c =
    let o = g.T.Key.Label.order in
    let total = g.met.T.Key.Label.total in
    let sep = g.met.T.Key.Label.separates in
    let m = g.T.Tally.means c.args.rule.now in
    let nothing = g.met.T.Tally.nothing c.args.rule.now in
    let rows = c.args.rows.now in
    let first : ℕ = c.loop-first.first in
    let end : ℕ = c.group_end-end.result in
    let ens = c.group_end-end.ensures in
    let inside : first < length rows = omega arith in
    let there = row_there rows first inside in
    let x0 : PlainCellBox g.row.T-Key.Denot = there.0 in
    let at : IsRow rows first x0 = there.1 in
    let same : (q : ℕ) (y : PlainCellBox g.row.T-Key.Denot) → IsRow rows q y → first < q → q < end → o x0.0 y.0 ≡ Equal = λ q y h l n. ens.same q x0 y at h l n in
    let other : (y : PlainCellBox g.row.T-Key.Denot) → IsRow rows end y → o x0.0 y.0 ≡ Equal → ⊥ = λ y h e. ens.other x0 y at h e in
    let v = c.loop-first.invariant in
    let spans = c.in_ok-spans.spans.items in
    let are = c.in_ok-spans.ensures in
    let el = c.as_slice.ensures.value in
    let key : g.row.T-Key.Denot = c.key_at-key.result.now in
    let ek : key ≡ x0.0 = c.key_at-key.ensures x0 at in
    let old = c.loop-first.out.items in
    let new = c.tally_key.new.out.items in
    let e = c.in_ok-next.ensures in
    let n : ℕ = length rows in
    let count : length c.loop-first.flags.items ≡ n = v.count in
    let GridPoints : g.row.T-Key.Denot → List (ℕ × ℕ) → ℕ → Type 0 = λ k ss q. (t : g.row.T-Out.Denot) (j : ℕ) → HasRow new t (j ∷ []) ↔ HasRow old t (j ∷ []) ⊎ OfTallied (λ f. m k f ≡ Ok (Some t)) ss (first, end) q j in
    let Least : g.row.T-Key.Denot → List (ℕ × ℕ) → ℕ → Type 0 = λ k ss q. IsLeast (λ d. (c.loop-first.least ≡ Some d) ⊎ ((j : ℕ) × OfTallied (λ f. m k f ≡ Err d) ss (first, end) q j)) c.tally_key.new.least in
    let grid_points : GridPoints x0.0 spans n = subst (GridPoints x0.0 spans) count (subst (λ ss. GridPoints x0.0 ss (length c.loop-first.flags.items)) el (subst (λ k. GridPoints k c.as_slice.result.now (length c.loop-first.flags.items)) ek e.grid_points)) in
    let least : Least x0.0 spans n = subst (Least x0.0 spans) count (subst (λ ss. Least x0.0 ss (length c.loop-first.flags.items)) el (subst (λ k. Least k c.as_slice.result.now (length c.loop-first.flags.items)) ek e.least)) in
    record {
      within = ens.within;
      split = split_more o total sep rows c.requires.order first end v.split ens.from ens.within x0 at same other;
      of = e.of;
      count = e.count ∙ v.count;
      none = e.none;
      grid_points = λ t j.
          let V : g.row.T-Key.Denot → List Bool → Type 0 = λ k f. m k f ≡ Ok (Some t) in
          through (HasRow new t (j ∷ [])) (HasRow old t (j ∷ [])) (DoneFlags rows first V j) (OfTallied (V x0.0) spans (first, end) n j) (DoneFlags rows end V j) (grid_points t j) (v.grid_points t j)
          (tallied_more rows spans are c.requires.sides o total sep c.requires.order first end v.split ens.from ens.within x0 at same other V (λ k f q. some_of_label (m k f) f (nothing k f) t q) j);
      parts = λ z h. elim (e.parts z h) [
        | inl w ↦ v.parts z w
        | inr w ↦ part_of_row rows spans are c.requires.sides (first, end) ens.within z (subst (λ ss. IsPart ss (first, end) z) el w)
      ];
      least = fault_more rows spans are c.requires.sides o total sep c.requires.order first end v.split ens.from ens.within x0 at same other (λ d k f. m k f ≡ Err d) (λ d k f q. some_of_fault (m k f) f (nothing k f) d q) c.args.least.now c.loop-first.least c.tally_key.new.least v.least least;
    }

pub tally_key-requires-clause-flags : goal.tally_key-requires-clause-flags
tally_key-requires-clause-flags g c =
    let a : length c.as_slice.result.now ≡ length c.args.rows.now = ap length (c.as_slice.ensures.value ∙ c.in_ok-spans.ensures) ∙ map_length (λ (x : PlainCellBox _). first_of x.1) c.args.rows.now in
    let b : length c.loop-first.flags.items ≡ length c.args.rows.now = c.loop-first.invariant.count in
    omega (arith, a, b)

pub tally_key-requires-clause-within : goal.tally_key-requires-clause-within
tally_key-requires-clause-within g c =
    let a : length c.as_slice.result.now ≡ length c.args.rows.now = ap length (c.as_slice.ensures.value ∙ c.in_ok-spans.ensures) ∙ map_length (λ (x : PlainCellBox _). first_of x.1) c.args.rows.now in
    let b = c.group_end-end.ensures.within in
    omega (arith, a, b)

pub first_sides-requires : goal.first_sides-requires
first_sides-requires g c = all_from_members (λ (x : PlainCellBox _). 0 < length x.1) c.args.rows.now (λ x h.
    let r = among_row c.args.rows.now x h in
    let e : length x.1 ≡ 1 = row_sides 1 c.args.rows.now c.requires.sides r.0 x r.1 in
    omega (arith, e))

pub returns-clause-grid_points : goal.returns-clause-grid_points
returns-clause-grid_points g c = λ l j.
    let m = g.T.Tally.means c.args.rule.now in
    let v = c.loop-first.invariant.grid_points l j in
    let w = flags_all c.args.rows.now c.loop-first.first (omega arith) (λ k f. m k f ≡ Ok (Some l)) j in
    (λ h. w.0 (v.0 h), λ h. v.1 (w.1 h))

pub returns-clause-lengths : goal.returns-clause-lengths
returns-clause-lengths g c = all_from_members (λ (x : PlainCellBox _). length x.1 ≡ 1) c.loop-first.out.items (λ x h. (c.loop-first.invariant.parts x h).0)

pub returns-clause-ends : goal.returns-clause-ends
returns-clause-ends g c = λ z h. (c.loop-first.invariant.parts z h).1

pub returns-clause-least : goal.returns-clause-least
returns-clause-least g c =
    let m = g.T.Tally.means c.args.rule.now in
    let rows = c.args.rows.now in
    let all : length rows ≤ c.loop-first.first = omega arith in
    least_more (λ e. (j : ℕ) × DoneFlags rows c.loop-first.first (λ k f. m k f ≡ Err e) j) (IsTallyFault m rows) c.args.least.now c.loop-first.least
    (λ e. (
      λ h. (h.0, (flags_all rows c.loop-first.first all (λ k f. m k f ≡ Err e) h.0).0 h.1),
      λ h. (h.0, (flags_all rows c.loop-first.first all (λ k f. m k f ≡ Err e) h.0).1 h.1),
    ))
    c.loop-first.invariant.least
