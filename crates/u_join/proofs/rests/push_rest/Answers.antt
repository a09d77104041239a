use Rattle.std.proofs.Common.{◌≡◌, ℤ, pos, ◌+ℤ◌, ◌≤ℤ◌, ◌<ℤ◌, ℕ, ◌+◌, ◌<◌, ◌≤◌, map, sym, subst, arith, ◌∙◌, to_z, of_z}
use Rattle.std.specs.Int.{int_max, w128}
use Rattle.std.proofs.lemmas.Int.{ints, clamps, to_z-of_z}
use Rattle.cell_boxes.specs.Rows.{IsRow}
use Rattle.u_join.specs.declared.standing.Standing.{Standing}
use Rattle.u_join.specs.RowPairs.{seen}
use Rattle.u_join.specs.Rests.{HasNumber, IsCut, AreCutTo}
use Rattle.u_join.proofs.RestLemmas.{turn, known_more, last_turn, on_ok}
use Rattle.u_join.proofs.rests.push_rest.Goals as goal

pub loop-j-preserved : goal.loop-j-preserved
loop-j-preserved c =
    let x = c.args.x.now in
    let rows = c.args.rows.now in
    let first : ℕ = c.args.first in
    let j : ℕ = c.loop-j.j in
    let from : ℤ = to_z w128 c.loop-j.from-bits in
    let begin : x.begin ≤ℤ from = c.loop-j.invariant.begin in
    let y = c.index-rows-j.result in
    let within = c.requires.rows.end_within in
    let test = c.loop-j-test.true in
    let a : IsRow rows j y = (omega arith, sym c.index-rows-j.is) in
    let old = map seen c.args.parts.now.items in
    let parts = map seen c.loop-j.parts.items in
    let new = map seen c.push_before.new.parts.items in
    let next : int_max from (y.end +ℤ pos 1) ≡ to_z w128 (of_z w128 c.after-from.result) =
    sym c.after-from.ensures ∙ grind (arith, ints, to_z-of_z) in
    let whole : x.begin ≤ℤ int_max from (y.end +ℤ pos 1) = omega (arith, ints, clamps) in
    record {
      begin = subst (λ n. x.begin ≤ℤ n) next whole;
      cut = subst (λ n. AreCutTo seen (seen x) rows n old new) next
          (turn seen (seen x) rows c.requires.order first c.args.end j c.requires.rows c.loop-j.auto.j test y a from old parts new c.loop-j.invariant.cut begin c.loop-j.invariant.known c.in_ok-push_before.ensures);
      known = subst (λ n. (p : ℤ) (i : ℕ) (w : Standing) → IsRow rows i w → first ≤ i → i < j + 1 → HasNumber (seen w).2 p → p <ℤ n) next
          (known_more seen rows first j y a from c.loop-j.invariant.known);
    }

pub returns : goal.returns
returns c =
    let x = c.args.x.now in
    let rows = c.args.rows.now in
    let old = map seen c.args.parts.now.items in
    let parts = map seen c.loop-j.parts.items in
    let new = map seen c.push_last.new.parts.items in
    on_ok (IsCut (seen x) (to_z w128 c.loop-j.from-bits) (x.end +ℤ pos 1) parts new) (AreCutTo seen (seen x) rows (x.end +ℤ pos 1) old new) c.push_last.result
    (last_turn seen (seen x) rows c.args.first c.args.end c.loop-j.j c.requires.rows c.loop-j-test.false (to_z w128 c.loop-j.from-bits) old parts new c.loop-j.invariant.cut c.loop-j.invariant.begin c.loop-j.invariant.known)
    c.push_last.ensures
