use Rattle.std.proofs.Common.{◌≡◌, ◌<◌, ◌≤◌, ◌+◌, ◌↔◌, ◌⊎◌, ℕ, List, [], ◌∷◌, ◌++◌, Bool, inl, inr, arith, ap, sym, subst, length, get_or, ◌∙◌, Vec, Global, Option, Some, Ok, Err}
use Rattle.cell_packing.specs.Covering.{Among}
use Rattle.point_core.specs.declared.fault.Fault.{Fault}
use Rattle.point_core.specs.LeastFault.{IsLeast}
use Rattle.cell_sweep.specs.PackedRows.{HasRow}
use Rattle.cell_sweep.specs.declared.key.CellBox.{CellBox}
use Rattle.cell_sweep.proofs.UnitedLemmas.{IsBeside, beside, all_passed}
use Rattle.cell_sweep.proofs.Turns.{least_kept, least_more}
use Rattle.cell_boxes.specs.Rows.{PlainCellBox}
use Rattle.cell_boxes.specs.Tallies.{IsIn, Within, span_at, boxed, label_in, IsKept, OfTallied, IsPart}
use Rattle.cell_boxes.proofs.TallyLemmas.{kept_first, label_is, some_of_label, some_of_fault, tallied_turn, tallied_below, fault_turn, parts_turn}
use Rattle.cell_boxes.proofs.tallying.tally_rows.Goals.{then-begin-end+in_ok-next+in_ok-push_label, else-begin-end}
use Rattle.cell_boxes.proofs.tallying.tally_rows.Goals as goal

pub loop-i-init : goal.loop-i-init
loop-i-init g c =
    let means = g.T.Tally.means c.args.rule.now c.args.key.now in
    let m : ℕ = length c.args.flags.now.items in
    record {
      kept = (0, omega arith, kept_first c.args.spans.now c.args.rows c.args.starts.now c.args.ends.now c.args.flags.now.items c.requires.none);
      of = c.requires.of;
      count = λ t. m;
      grid_points = λ t j. (λ h. inl h, λ h. elim h [ inl w ↦ w | inr w ↦ (let l = w.0 in absurd (omega arith)) ]);
      parts = λ z h. inl h;
      least = least_kept (λ e. (j : ℕ) × (j < 0) × OfTallied (λ f. means f ≡ Err e) c.args.spans.now c.args.rows m j) c.args.least.now (λ e h. let l = h.1 in omega arith);
      passed = λ j h. omega arith;
      ahead = λ j h n. omega arith;
    }

pub loop-i-preserved : goal.loop-i-preserved
loop-i-preserved g c =
    let spans = c.args.spans.now in
    let rows : ℕ × ℕ = c.args.rows in
    let starts = c.args.starts.now in
    let ends = c.args.ends.now in
    let cuts = c.args.cuts.now in
    let i : ℕ = c.loop-i.i in
    let a : ℕ = c.loop-i.begin in
    let z : ℕ = get_or cuts i 0 in
    let l : i < length cuts = omega arith in
    let m : ℕ = length c.args.flags.now.items in
    let v = c.loop-i.invariant in
    let means = g.T.Tally.means c.args.rule.now c.args.key.now in
    let ahead : a ≤ z = v.ahead i (omega arith) l in
    let low : v.kept.0 ≤ a + 1 = let q = v.kept.1 in omega arith in
    let cut : (r : ℕ) → Within rows r → IsBeside a z (span_at spans r).0 × IsBeside a z (span_at spans r).1 = λ r h.
    let w = c.requires.cuts r h in (beside cuts a i l c.requires.order v.passed (span_at spans r).0 w.0, beside cuts a i l c.requires.order v.passed (span_at spans r).1 w.1) in
    let GridPoints : List (PlainCellBox g.row.T-Out.Denot) → ℕ → Type 0 = λ out n. (t : g.row.T-Out.Denot) (j : ℕ) → HasRow out t (j ∷ []) ↔ HasRow c.args.out.now.items t (j ∷ []) ⊎ ((j < n) × OfTallied (λ f. means f ≡ Ok (Some t)) spans rows m j) in
    let Parts : List (PlainCellBox g.row.T-Out.Denot) → Type 0 = λ out. (x : PlainCellBox g.row.T-Out.Denot) → Among x out → Among x c.args.out.now.items ⊎ IsPart spans rows x in
    let Least : Option Fault → ℕ → Type 0 = λ least n. IsLeast (λ e. (c.args.least.now ≡ Some e) ⊎ ((j : ℕ) × (j < n) × OfTallied (λ f. means f ≡ Err e) spans rows m j)) least in
    record {
      kept = elim c.if-begin-end.branch [
        | then-begin-end+in_ok-next+in_ok-push_label w ↦
            let less : a < z = w.if-begin-end.true in
            let k = w.in_ok-next.ensures.kept rows v.kept.0 c.requires.by_start c.requires.by_end low v.kept.2 in
            (a + 1, omega arith, subst (λ (t : ℕ × ℕ). IsKept spans rows starts ends (a + 1) t.0 t.1 c.if-begin-end.flags.items) (sym w.at-is) (subst (λ (ms : Vec Bool Global). IsKept spans rows starts ends (a + 1) w.in_ok-next.next.0 w.in_ok-next.next.1 ms.items) (sym w.flags-is) k))
        | else-begin-end w ↦
            let q = v.kept.1 in
            (v.kept.0, omega arith, subst (λ (t : ℕ × ℕ). IsKept spans rows starts ends v.kept.0 t.0 t.1 c.if-begin-end.flags.items) (sym w.at-is) (subst (λ (ms : Vec Bool Global). IsKept spans rows starts ends v.kept.0 c.loop-i.at.0 c.loop-i.at.1 ms.items) (sym w.flags-is) v.kept.2))
      ];
      of = elim c.if-begin-end.branch [
        | then-begin-end+in_ok-next+in_ok-push_label w ↦
            subst (λ s. g.T.Tally.IsOf c.args.rule.now s c.if-begin-end.flags.items) (sym w.kept-is) (subst (λ (ms : Vec Bool Global). g.T.Tally.IsOf c.args.rule.now w.in_ok-next.now ms.items) (sym w.flags-is) w.in_ok-next.ensures.of)
        | else-begin-end w ↦
            subst (λ s. g.T.Tally.IsOf c.args.rule.now s c.if-begin-end.flags.items) (sym w.kept-is) (subst (λ (ms : Vec Bool Global). g.T.Tally.IsOf c.args.rule.now c.loop-i.kept ms.items) (sym w.flags-is) v.of)
      ];
      count = elim c.if-begin-end.branch [
        | then-begin-end+in_ok-next+in_ok-push_label w ↦ ap (λ (ms : Vec Bool Global). length ms.items) w.flags-is ∙ w.in_ok-next.ensures.count ∙ v.count
        | else-begin-end w ↦ ap (λ (ms : Vec Bool Global). length ms.items) w.flags-is ∙ v.count
      ];
      grid_points = elim c.if-begin-end.branch [
        | then-begin-end+in_ok-next+in_ok-push_label w ↦
            let k = w.in_ok-next.ensures.kept rows v.kept.0 c.requires.by_start c.requires.by_end low v.kept.2 in
            let f : List Bool = w.come.new.flags.items in
            let made : c.if-begin-end.out.items ≡ c.loop-i.out.items ++ boxed (a, z) (label_in (means f)) = ap (λ (o : Vec (CellBox _) Global). o.items) w.out-is ∙ w.in_ok-push_label.ensures.rows f w.in_ok-next.ensures.of in
            λ t j. tallied_turn spans rows m starts ends w.in_ok-next.next.0 w.in_ok-next.next.1 a z f k (w.in_ok-next.ensures.count ∙ v.count) cut
            (λ f. means f ≡ Ok (Some t)) c.args.out.now.items c.loop-i.out.items c.if-begin-end.out.items (label_in (means f)) t ahead (label_is (means f) t) made j (v.grid_points t j)
        | else-begin-end w ↦
            let q : c.if-begin-end.out.items ≡ c.loop-i.out.items = ap (λ (o : Vec (CellBox _) Global). o.items) w.out-is in
            let more : z ≤ a = w.if-begin-end.false in
            let same : a ≡ z = omega arith in
            subst (GridPoints c.if-begin-end.out.items) same (subst (λ ps. GridPoints ps a) (sym q) v.grid_points)
      ];
      parts = elim c.if-begin-end.branch [
        | then-begin-end+in_ok-next+in_ok-push_label w ↦
            let k = w.in_ok-next.ensures.kept rows v.kept.0 c.requires.by_start c.requires.by_end low v.kept.2 in
            let f : List Bool = w.come.new.flags.items in
            let made : c.if-begin-end.out.items ≡ c.loop-i.out.items ++ boxed (a, z) (label_in (means f)) = ap (λ (o : Vec (CellBox _) Global). o.items) w.out-is ∙ w.in_ok-push_label.ensures.rows f w.in_ok-next.ensures.of in
            parts_turn spans rows m starts ends w.in_ok-next.next.0 w.in_ok-next.next.1 a z f k (w.in_ok-next.ensures.count ∙ v.count) cut
            c.args.out.now.items c.loop-i.out.items c.if-begin-end.out.items (label_in (means f))
            (λ t h. some_of_label (means f) f (g.met.T.Tally.nothing c.args.rule.now c.args.key.now f) t ((label_is (means f) t).0 h)) made v.parts
        | else-begin-end w ↦
            let q : c.if-begin-end.out.items ≡ c.loop-i.out.items = ap (λ (o : Vec (CellBox _) Global). o.items) w.out-is in
            subst Parts (sym q) v.parts
      ];
      least = elim c.if-begin-end.branch [
        | then-begin-end+in_ok-next+in_ok-push_label w ↦
            let less : a < z = w.if-begin-end.true in
            let k = w.in_ok-next.ensures.kept rows v.kept.0 c.requires.by_start c.requires.by_end low v.kept.2 in
            let f : List Bool = w.come.new.flags.items in
            subst (λ o. Least o z) (sym w.least-is) (fault_turn spans rows m starts ends w.in_ok-next.next.0 w.in_ok-next.next.1 a z f k (w.in_ok-next.ensures.count ∙ v.count) cut
            (λ e f. means f ≡ Err e) c.args.least.now c.loop-i.least w.push_label.new.least less v.least (w.in_ok-push_label.ensures.least f w.in_ok-next.ensures.of))
        | else-begin-end w ↦
            let more : z ≤ a = w.if-begin-end.false in
            let same : a ≡ z = omega arith in
            subst (Least c.if-begin-end.least) same (subst (λ o. Least o a) (sym w.least-is) v.least)
      ];
      passed = λ j h. let w = c.requires.order j i (omega arith) l in omega arith;
      ahead = λ j h n. let w = c.requires.order i j (omega arith) n in omega arith;
    }

pub returns-clause-none : goal.returns-clause-none
returns-clause-none g c = λ r h.
    let v = c.loop-i.invariant in
    let low : v.kept.0 ≤ c.loop-i.begin + 1 = let q = v.kept.1 in omega arith in
    let end : length c.args.cuts.now ≤ c.loop-i.i = omega arith in
    let k = c.in_ok-last.ensures.kept c.args.rows v.kept.0 c.requires.by_start c.requires.by_end low v.kept.2 in
    let w = (k.flagged r).0 h in
    let a = w.2 in
    let b = all_passed c.args.cuts.now c.loop-i.begin (λ j q. v.passed j (omega arith)) (span_at c.args.spans.now r).1 (c.requires.cuts r w.0).1 in
    omega arith

pub returns-clause-grid_points : goal.returns-clause-grid_points
returns-clause-grid_points g c = λ l j.
    let v = c.loop-i.invariant in
    let means = g.T.Tally.means c.args.rule.now c.args.key.now in
    let end : length c.args.cuts.now ≤ c.loop-i.i = omega arith in
    let p = v.grid_points l j in
    let last : (r : ℕ) → Within c.args.rows r → (span_at c.args.spans.now r).1 ≤ c.loop-i.begin = λ r h.
    all_passed c.args.cuts.now c.loop-i.begin (λ j q. v.passed j (omega arith)) (span_at c.args.spans.now r).1 (c.requires.cuts r h).1 in
    let some : (f : List Bool) → means f ≡ Ok (Some l) → (r : ℕ) × IsIn f r = λ f h. some_of_label (means f) f (g.met.T.Tally.nothing c.args.rule.now c.args.key.now f) l h in (
      λ h. elim (p.0 h) [ inl w ↦ inl w | inr w ↦ inr w.1 ],
      λ h. p.1 (elim h [
        | inl w ↦ inl w
        | inr w ↦ inr (tallied_below c.args.spans.now c.args.rows (length c.args.flags.now.items) (λ f. means f ≡ Ok (Some l)) some c.loop-i.begin last j w, w)
      ]),
    )

pub returns-clause-least : goal.returns-clause-least
returns-clause-least g c =
    let v = c.loop-i.invariant in
    let means = g.T.Tally.means c.args.rule.now c.args.key.now in
    let m : ℕ = length c.args.flags.now.items in
    let end : length c.args.cuts.now ≤ c.loop-i.i = omega arith in
    let last : (r : ℕ) → Within c.args.rows r → (span_at c.args.spans.now r).1 ≤ c.loop-i.begin = λ r h.
    all_passed c.args.cuts.now c.loop-i.begin (λ j q. v.passed j (omega arith)) (span_at c.args.spans.now r).1 (c.requires.cuts r h).1 in
    least_more (λ e. (j : ℕ) × (j < c.loop-i.begin) × OfTallied (λ f. means f ≡ Err e) c.args.spans.now c.args.rows m j) (λ e. (j : ℕ) × OfTallied (λ f. means f ≡ Err e) c.args.spans.now c.args.rows m j) c.args.least.now c.loop-i.least
    (λ e. (
      λ h. (h.0, h.2),
      λ h. (h.0, tallied_below c.args.spans.now c.args.rows m (λ f. means f ≡ Err e) (λ f q. some_of_fault (means f) f (g.met.T.Tally.nothing c.args.rule.now c.args.key.now f) e q) c.loop-i.begin last h.0 h.1, h.1),
    ))
    v.least
