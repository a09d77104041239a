use Rattle.std.proofs.Common.{◌≡◌, ℤ, true, subst, sym, arith, w64, to_z, of_z}
use Rattle.std.proofs.lemmas.Int.{ints, to_z-of_z}
use Rattle.u_join.specs.RowPairs.{seen, AreBehind, AreAhead}
use Rattle.u_join.proofs.RestLemmas.{past_behind, meeting}
use Rattle.u_join.proofs.rests.range_meeting.Goals as goal

pub count_behind-end-requires-clause-known : goal.count_behind-end-requires-clause-known
count_behind-end-requires-clause-known c =
    let x = seen c.args.x.now in
    let rows = c.args.rows.now in
    let first = c.count_past-first in
    let e : to_z w64 (of_z w64 x.2.1) ≡ x.2.1 = grind (arith, ints, to_z-of_z) in
    subst (λ (p : ℤ). AreBehind seen true x.1 p rows first.result) (sym e) (past_behind seen x rows c.requires.intervals c.requires.interval first.result first.ensures.past)

pub returns-clause-rows : goal.returns-clause-rows
returns-clause-rows c =
    let x = seen c.args.x.now in
    let rows = c.args.rows.now in
    let first = c.count_past-first in
    let end = c.count_behind-end in
    let e : to_z w64 (of_z w64 x.2.1) ≡ x.2.1 = grind (arith, ints, to_z-of_z) in
    meeting seen x rows c.requires.order first.result end.result end.ensures.within first.ensures.past first.ensures.next
    (subst (λ (p : ℤ). AreBehind seen true x.1 p rows end.result) e end.ensures.behind)
    (subst (λ (p : ℤ). AreAhead seen true x.1 p rows end.result) e end.ensures.ahead)
