use Rattle.std.proofs.Common.{◌≡◌, ℤ, pos, ◌-ℤ◌, ◌<ℤ◌, arith, w64, to_z, of_z, [], ◌∷◌, ◌++◌, map, ap, ◌∙◌}
use Rattle.std.specs.Int.{w128}
use Rattle.std.proofs.lemmas.Int.{ints, to_z-of_z}
use Rattle.std.proofs.lemmas.List.{map_push}
use Rattle.relation_core.specs.Agreement.{part_of}
use Rattle.u_join.specs.RowPairs.{Stood, seen}
use Rattle.u_join.proofs.StandingLemmas.{stood_by_ends}
use Rattle.u_join.proofs.rests.push_between.Goals as goal

pub overflow_cast-part : goal.overflow_cast-part
overflow_cast-part c = grind (arith, ints, to_z-of_z)

pub overflow_cast-part-then-from-to : goal.overflow_cast-part-then-from-to
overflow_cast-part-then-from-to c = grind (arith, ints, to_z-of_z)

pub returns-in_ok-push : goal.returns-in_ok-push
returns-in_ok-push c =
    let x = c.args.x.now in
    let from : ℤ = c.args.from in
    let to : ℤ = c.args.to in
    let less : from <ℤ to = grind (arith, ints, to_z-of_z) in (
      λ l.
          let begin : to_z w64 (of_z w64 (to_z w128 (of_z w128 from))) ≡ from = grind (arith, ints, to_z-of_z) in
          let end : to_z w64 (of_z w64 (to_z w128 (of_z w128 (to_z w128 (of_z w128 to) -ℤ pos 1)))) ≡ to -ℤ pos 1 = grind (arith, ints, to_z-of_z) in
          ap (map seen) c.in_ok-push.ensures.items
          ∙ map_push seen c.args.parts.now.items _
          ∙ ap (λ (z : Stood). map seen c.args.parts.now.items ++ z ∷ []) (stood_by_ends x.row.now (part_of x.key.now x.row.now) _ _ begin end),
      λ l. absurd (omega (arith, ints)),
    )
