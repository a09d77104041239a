use Rattle.std.proofs.Common.{inl, inr, arith}
use Rattle.cell_boxes.proofs.MeetingLemmas.{push_turn}
use Rattle.u_join.proofs.sweeping.push_range.Goals as goal

pub loop-j-preserved : goal.loop-j-preserved
loop-j-preserved c = record {
  upto = inr (omega arith);
  pairs = push_turn c.args.out.now.items c.loop-j.out.items c.push.new.self.items c.args.number c.args.first c.loop-j.j (omega arith) c.in_ok-push.ensures.items c.loop-j.invariant.pairs;
}

pub returns : goal.returns
returns c = λ p.
    let v = c.loop-j.invariant.pairs p in (
      λ h. elim (v.0 h) [
        | inl w ↦ inl w
        | inr w ↦ let a = w.1 in let b = w.2 in inr (w.0, a, elim c.loop-j.invariant.upto [ inl u ↦ omega arith | inr u ↦ omega arith ])
      ],
      λ h. elim h [
        | inl w ↦ v.1 (inl w)
        | inr w ↦ let b = w.2 in v.1 (inr (w.0, w.1, omega arith))
      ],
    )
