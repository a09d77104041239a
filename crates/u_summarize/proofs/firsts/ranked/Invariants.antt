use Rattle.std.proofs.Common.{◌≡◌, take}
use Rattle.u_summarize.specs.Asked.{ranked}
use Rattle.u_summarize.proofs.firsts.ranked.Given as goal

abbrev pub invariant-loop-place : goal.invariant-loop-place
invariant-loop-place l = l.list.items ≡ ranked l.ranks l.numbers (take l.place-index l.places)
