use Rattle.std.proofs.Common.{ℕ, List, sym, subst}
use Rattle.cell_sweep.specs.Rows.{sides_of}
use Rattle.cell_sweep.specs.Sweeps.{AreStarts, AreOpen}
use Rattle.cell_sweep.proofs.Sweeping.{same_live, open_now}
use Rattle.cell_sweep.proofs.live.advance.Goals as goal

pub returns-clause-live : goal.returns-clause-live
returns-clause-live c = λ a z b rows are up is.
    let n = c.in_ok-next.ensures in
    let boxes = sides_of c.args.boxes.now in
    let side : ℕ = c.args.side in
    let e = c.as_slice.ensures.value in
    let starts = c.as_slice.result.now in
    let s = subst (AreStarts boxes side rows) (sym e) is.0 in
    let w = subst (λ (xs : List (ℕ × ℕ)). AreOpen boxes side rows b xs c.args.sweep.next c.args.sweep.live.items) (sym e) is.1 in
    c.in_ok-live.ensures a z rows are (λ r h.
    same_live boxes side rows starts b c.args.cell c.args.sweep.next c.in_ok-next.next c.args.sweep.live.items c.in_ok-next.rows.items up s w n.from n.within n.passed n.ahead n.rows r h)

pub returns-clause-sweep : goal.returns-clause-sweep
returns-clause-sweep c = λ a z b rows are up is.
    let n = c.in_ok-next.ensures in
    let boxes = sides_of c.args.boxes.now in
    let side : ℕ = c.args.side in
    let e = c.as_slice.ensures.value in
    let starts = c.as_slice.result.now in
    let s = subst (AreStarts boxes side rows) (sym e) is.0 in
    let w = subst (λ (xs : List (ℕ × ℕ)). AreOpen boxes side rows b xs c.args.sweep.next c.args.sweep.live.items) (sym e) is.1 in (
      is.0,
      subst (λ (xs : List (ℕ × ℕ)). AreOpen boxes side rows c.args.cell xs c.in_ok-next.next c.in_ok-live.live.items) e
          (open_now boxes side rows starts b c.args.cell c.args.sweep.next c.in_ok-next.next c.args.sweep.live.items c.in_ok-next.rows.items up s w n.from n.within n.passed n.ahead n.rows
          c.in_ok-live.live.items (returns-clause-live c a z b rows are up is)),
    )
