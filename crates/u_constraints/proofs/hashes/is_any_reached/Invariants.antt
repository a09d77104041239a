use Rattle.std.proofs.Common.{◌≡◌, false, take}
use Rattle.std.specs.List.{list_any}
use Rattle.u_constraints.specs.Hashes.{reaches}
use Rattle.u_constraints.proofs.hashes.is_any_reached.Given as goal

-- no begin so far is reached
abbrev pub invariant-loop-begin : goal.invariant-loop-begin
invariant-loop-begin l = list_any (λ begin. list_any (reaches begin) l.ends) (take l.begin-index l.begins) ≡ false
