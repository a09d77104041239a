use Rattle.std.proofs.Common.{◌≡◌, ℕ, map, take}
use Rattle.u_summarize.proofs.firsts.without_ranks.Given as goal

abbrev pub invariant-loop-pair : goal.invariant-loop-pair
invariant-loop-pair l = l.list.items ≡ map (λ (x : ℕ × ℕ). x.1) (take l.pair-index l.pairs)
