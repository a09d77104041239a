use Rattle.std.proofs.Common.{List, map, ap, arith}
use Rattle.value_core.specs.Values.{Name}
use Rattle.tree_core.specs.declared.relvar.Relvar.{Relvar}
use Rattle.tree_core.specs.Relvars.{read_entry}
use Rattle.assign_core.specs.Breaches.{rows_of_all}
use Rattle.assign_core.proofs.counting.rows_of_bases.Goals as goal

pub overflow_add-count : goal.overflow_add-count
overflow_add-count c =
    let rest = ap (λ (es : List (Name × Relvar)). rows_of_all (map read_entry es)) c.in-Some.ensures.steps in
    let one = c.rows_of_base-count.ensures c.in-Some.field-0-0.now in
    let all = c.loop-relvar.invariant.2 in
    let few = c.requires in
    omega (arith, rest, one, all, few)

pub loop-relvar-preserved : goal.loop-relvar-preserved
loop-relvar-preserved c =
    let rest = ap (λ (es : List (Name × Relvar)). rows_of_all (map read_entry es)) c.in-Some.ensures.steps in
    let one = c.rows_of_base-count.ensures c.in-Some.field-0-0.now in
    let all = c.loop-relvar.invariant.2 in
    (tt, tt, omega (arith, rest, one, all))
