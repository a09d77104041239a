use Rattle.std.proofs.Common.{◌≡◌, [], ◌∷◌, Option, subst}
use Rattle.std.specs.Prelude.{IfSome}
use Rattle.value_core.specs.RowPacking.{packed}
use Rattle.value_core.specs.Values.{Relation}
use Rattle.u_join.proofs.PackedOperandLemmas.{unpacked_same, unmatched_answer}
use Rattle.u_join.proofs.row_unmatched.unmatched_packed.Goals as goal

pub returns-in-Some : goal.returns-in-Some
returns-in-Some c =
    let left = c.args.left.now in
    let here = c.args.here in
    let l = c.in-Some.l in
    let first = subst (λ (o : Option Relation). IfSome o (λ q. (q.heading ≡ left.heading) × (q.rows ≡ packed (here ∷ []) left.rows))) c.in-Some.is c.in_ok-lefts.ensures.packed in
    unmatched_answer here c.args.there l left c.args.right.now first.0 (unpacked_same l left c.in_ok-lefts.ensures.relation here c.requires.left first.1) c.unmatched_once.result c.unmatched_once.ensures
