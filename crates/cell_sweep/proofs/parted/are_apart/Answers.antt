use Rattle.std.proofs.Common.{◌≡◌, ℕ, ◌<◌, ◌≤◌, true, nat_eq, length, arith, subst, inl, inr}
use Rattle.std.proofs.lemmas.Bool.{cases_lt}
use Rattle.std.proofs.lemmas.Bool.Decides.{nat_tests}
use Rattle.cell_sweep.specs.Parted.{StandsApart}
use Rattle.cell_sweep.specs.Rows.{sides_of}
use Rattle.cell_sweep.proofs.parted.are_apart.Goals as goal

pub loop-at-preserved : goal.loop-at-preserved
loop-at-preserved c =
    let b = sides_of c.args.boxes.now in
    let live = c.args.live.now in
    let n : ℕ = c.loop-at.at in
    record {
      within = omega arith;
      apart = λ i l. elim (cases_lt i n) [
        | inl w ↦ c.loop-at.invariant.apart i w
        | inr w ↦ let e : n ≡ i = omega arith in subst (StandsApart b c.args.sides live) e (c.stands_apart.ensures c.if-stands_apart.true)
      ];
    }

all_seen : (n m : ℕ) → nat_eq n m ≡ true → m ≤ n
all_seen n m e = grind (arith, nat_tests)

pub returns : goal.returns
returns c = λ e.
    let s : 1 < c.args.sides = omega arith in
    let m : length c.args.live.now ≤ c.loop-at.at = all_seen c.loop-at.at (length c.args.live.now) e in
    (s, λ i l. c.loop-at.invariant.apart i (omega arith))
