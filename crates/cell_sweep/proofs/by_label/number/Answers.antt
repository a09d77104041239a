use Rattle.std.proofs.Common.{◌≡◌, ◌<◌, ◌≤◌, ◌↔◌, inl, inr, ◌+◌, [], ◌∷◌, arith, subst, sym}
use Rattle.std.proofs.lemmas.Bool.{cases_lt}
use Rattle.cell_packing.specs.Covering.{Among}
use Rattle.cell_packing.proofs.AmongLemmas.{among_append}
use Rattle.cell_sweep.specs.Rows.{AreRows}
use Rattle.cell_sweep.proofs.Turns.{AreRows-push, AreRows-wider}
use Rattle.cell_sweep.proofs.by_label.number.Goals as goal

pub loop-r-preserved : goal.loop-r-preserved
loop-r-preserved c =
    let out = c.loop-r.list.items in
    let low : c.args.first ≤ c.loop-r.r = omega arith in
    record {
      members = λ n.
          let a = among_append n out (c.loop-r.r ∷ []) in
          let v = c.loop-r.invariant.members n in
          subst (λ xs. Among n xs ↔ (c.args.first ≤ n) × (n < c.loop-r.r + 1)) (sym c.in_ok-push.ensures.items) (
            λ h. elim (a.0 h) [
              | inl w ↦ let q = v.0 w in let l = q.1 in (q.0, omega arith)
              | inr w ↦ elim w [ inl e ↦ (omega arith, omega arith) | inr u ↦ absurd u ]
            ],
            λ h. elim (cases_lt n c.loop-r.r) [
              | inl l ↦ a.1 (inl (v.1 (h.0, l)))
              | inr l ↦ let m = h.1 in let e : c.loop-r.r ≡ n = omega arith in a.1 (inr (inl e))
            ],
          );
      order = subst (AreRows c.args.first (c.loop-r.r + 1)) (sym c.in_ok-push.ensures.items) (AreRows-push c.args.first c.loop-r.r out low c.loop-r.invariant.order);
    }

pub returns-clause-members : goal.returns-clause-members
returns-clause-members c = λ n.
    let v = c.loop-r.invariant.members n in (
      λ h. let w = v.0 h in let l = w.1 in (w.0, omega arith),
      λ h. let l = h.1 in v.1 (h.0, omega arith),
    )

pub returns-clause-order : goal.returns-clause-order
returns-clause-order c = AreRows-wider c.args.first c.args.first c.loop-r.r c.args.end c.loop-r.list.items (omega arith) (omega arith) c.loop-r.invariant.order
