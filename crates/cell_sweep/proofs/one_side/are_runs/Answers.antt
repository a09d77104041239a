use Rattle.std.proofs.Common.{◌≡◌, ℕ, ◌≤◌, true, nat_eq, length, arith, subst, inl, inr}
use Rattle.std.proofs.lemmas.Bool.{cases_lt}
use Rattle.std.proofs.lemmas.Bool.Decides.{nat_tests}
use Rattle.cell_sweep.specs.Runs.{IsRunAt}
use Rattle.cell_sweep.proofs.one_side.are_runs.Goals as goal

pub loop-at-preserved : goal.loop-at-preserved
loop-at-preserved g c =
    let n : ℕ = c.loop-at.at in
    record {
      within = omega arith;
      runs = λ i l. elim (cases_lt i n) [
        | inl w ↦ c.loop-at.invariant.runs i w
        | inr w ↦ let e : n ≡ i = omega arith in subst (IsRunAt g.P.Label.order c.args.rows.now) e (c.has_one_span_at.ensures c.if-has_one_span_at.true, c.is_parted_at.ensures c.if-is_parted_at.true)
      ];
    }

all_seen : (n m : ℕ) → nat_eq n m ≡ true → m ≤ n
all_seen n m e = grind (arith, nat_tests)

pub returns : goal.returns
returns g c = λ e.
    let m : length c.args.rows.now ≤ c.loop-at.at = all_seen c.loop-at.at (length c.args.rows.now) e in
    λ i l. c.loop-at.invariant.runs i (omega arith)
