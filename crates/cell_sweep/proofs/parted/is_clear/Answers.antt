use Rattle.std.proofs.Common.{◌≡◌, ℕ, arith, subst, inl, inr}
use Rattle.std.proofs.lemmas.Bool.{cases_lt}
use Rattle.cell_sweep.specs.Parted.{AreParted, live_row}
use Rattle.cell_sweep.specs.Rows.{sides_of}
use Rattle.cell_sweep.proofs.parted.is_clear.Goals as goal

pub loop-next-preserved : goal.loop-next-preserved
loop-next-preserved c =
    let b = sides_of c.args.boxes.now in
    let live = c.args.live.now in
    let i : ℕ = c.args.at in
    let n : ℕ = c.loop-next.next in
    record {
      after = omega arith;
      within = omega arith;
      parted = λ j h l. elim (cases_lt j n) [
        | inl w ↦ c.loop-next.invariant.parted j h w
        | inr w ↦ let e : n ≡ j = omega arith in subst (λ m. AreParted b c.args.sides (live_row live i) (live_row live m)) e (c.is_parted_near.ensures c.if-is_parted_near.true)
      ];
    }
