use Rattle.std.proofs.Common.{◌≡◌, ◌∷◌, ◌++◌, map, drop}
use Rattle.std.specs.List.{flat_map}
use Rattle.u_row.proofs.cutting.with_each.Given as goal

abbrev pub invariant-loop-piece : goal.invariant-loop-piece
invariant-loop-piece g l = l.out.items ++ flat_map (λ i. map (λ s. i ∷ s) l.rest) (drop l.piece-index l.pieces) ≡ flat_map (λ i. map (λ s. i ∷ s) l.rest) l.pieces
