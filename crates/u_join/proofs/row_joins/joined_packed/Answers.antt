use Rattle.std.proofs.Common.{◌≡◌, [], ◌∷◌, Option, subst}
use Rattle.std.specs.Prelude.{IfSome}
use Rattle.value_core.specs.RowPacking.{packed}
use Rattle.value_core.specs.Values.{Relation}
use Rattle.u_join.proofs.PackedOperandLemmas.{unpacked_same, answer_same}
use Rattle.u_join.proofs.row_joins.joined_packed.Goals as goal

pub returns-in-Some-rights : goal.returns-in-Some-rights
returns-in-Some-rights c =
    let left = c.args.left.now in
    let right = c.args.right.now in
    let at = c.args.listed.at in
    let here = c.args.listed.here in
    let there = c.args.listed.there in
    let l = c.in-Some.l in
    let r = c.in-Some-rights.r in
    let first = subst (λ (o : Option Relation). IfSome o (λ q. (q.heading ≡ left.heading) × (q.rows ≡ packed (here ∷ []) left.rows))) c.in-Some.is c.in_ok-lefts.ensures.packed in
    let second = subst (λ (o : Option Relation). IfSome o (λ q. (q.heading ≡ right.heading) × (q.rows ≡ packed (there ∷ []) right.rows))) c.in-Some-rights.is c.in_ok-rights.ensures.packed in
    answer_same c.args.heading.now at here there l r left right first.0 second.0
    (unpacked_same l left c.in_ok-lefts.ensures.relation here c.requires.left first.1)
    (unpacked_same r right c.in_ok-rights.ensures.relation there c.requires.right second.1)
    c.joined_apart.result c.joined_apart.ensures
