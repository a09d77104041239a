use Rattle.std.proofs.Common.{◌≡◌, ◌≤◌, ℕ, inl, inr, get_or, arith, subst, sym}
use Rattle.cell_packing.specs.Pieces.{Covers}
use Rattle.cell_sweep.specs.PackedRows.{span_of, alone, bare}
use Rattle.cell_sweep.specs.Rows.{sides_of}
use Rattle.cell_sweep.specs.TwoSides.{bare_cmp, NoneAfter}
use Rattle.cell_sweep.proofs.TwoSidesLemmas.{covers_next}
use Rattle.cell_sweep.proofs.runs.runs_in_turn.Goals as goal

pub add_span-requires-clause-order : goal.add_span-requires-clause-order
add_span-requires-clause-order c =
    let e : span_of (sides_of c.args.boxes.now) 0 (get_or c.args.rows.now c.loop-r.r-index 0) ≡ c.first_span-span.result = sym c.first_span-span.ensures in
    subst (λ (s : ℕ × ℕ). NoneAfter s.0 c.loop-r.runs.items) e (c.loop-r.invariant.order c.loop-r.r-index 0 (omega arith) (omega arith))

pub loop-r-preserved : goal.loop-r-preserved
loop-r-preserved c =
    let b = sides_of c.args.boxes.now in
    let rows = c.args.rows.now in
    let at : ℕ = c.loop-r.r-index in
    let e : span_of b 0 (get_or rows at 0) ≡ c.first_span-span.result = sym c.first_span-span.ensures in
    let said = c.in_ok-add_span.ensures in
    record {
      apart = said.apart;
      covers = λ k i.
          let more = covers_next b rows at 0 (omega arith) k i in
          let old = c.loop-r.invariant.covers k i in
          let new = said.covers k i in (
            λ h. elim (new.0 h) [ inl w ↦ more.1 (inl (old.0 w)) | inr w ↦ more.1 (inr (subst (λ (s : ℕ × ℕ). Covers bare_cmp (alone bare s) k i) (sym e) w)) ],
            λ h. elim (more.0 h) [ inl w ↦ new.1 (inl (old.1 w)) | inr w ↦ new.1 (inr (subst (λ (s : ℕ × ℕ). Covers bare_cmp (alone bare s) k i) e w)) ],
          );
      order = λ j d f h.
          let first : (span_of b 0 (get_or rows at 0)).0 ≤ (span_of b 0 (get_or rows j d)).0 = c.requires.turn at j 0 d (omega arith) h in
          said.order (span_of b 0 (get_or rows j d)).0 (subst (λ (s : ℕ × ℕ). s.0 ≤ (span_of b 0 (get_or rows j d)).0) e first) (c.loop-r.invariant.order j d (omega arith) h);
    }
