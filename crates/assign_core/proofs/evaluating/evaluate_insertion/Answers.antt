use Rattle.std.proofs.Common.{◌≡◌, [], ◌∷◌, map, arith, ap, sym, subst, Ok, Err}
use Rattle.std.specs.Prelude.{IfErr, IfOk}
use Rattle.base_core.specs.Outcomes.{then_give}
use Rattle.point_core.specs.Faults.{OrFault}
use Rattle.value_core.specs.Values.{Relation}
use Rattle.relation_core.specs.Answers.{Answers}
use Rattle.tree_core.specs.Items.{read_assignment}
use Rattle.tree_core.specs.Relvars.{Entries, read_entry}
use Rattle.assign_core.specs.Assignments.{evaluated, with_target}
use Rattle.assign_core.specs.Pendings.{IsPending}
use Rattle.assign_core.proofs.HashedLemmas.{hashes_of_first}
use Rattle.assign_core.proofs.evaluating.evaluate_insertion.Goals as goal

pub pending_addition-requires-clause-addition : goal.pending_addition-requires-clause-addition
pending_addition-requires-clause-addition g c =
    let k = c.in_ok-at.ensures.sum in
    record { target = record { constraints = k.constraints; first = k.first }; headed = k.headed; relation = k.relation; listed = k.listed }

pub pending_addition-requires-clause-hashed : goal.pending_addition-requires-clause-hashed
pending_addition-requires-clause-hashed g c =
    let es = map read_entry c.args.relvars.now.list.entries in
    let k = c.in_ok-at.ensures.sum in
    hashes_of_first es c.args.insertion.assignment.now.target c.in_ok-at.at c.in_ok-at.value.now k.constraints c.hashes_at.result.now k.first (c.hashes_at.ensures es c.requires.hashed)

pub returns-clause-pending : goal.returns-clause-pending
returns-clause-pending g c =
    let es = map read_entry c.args.relvars.now.list.entries in
    let t = c.args.insertion.assignment.now in
    let meant : evaluated es es (read_assignment t ∷ []) ≡ _ = ap (λ (m : OrFault Relation). then_give m (λ v. Ok (with_target es t.target v))) c.in_ok-at.ensures.sum.meant in
    subst (λ (m : OrFault Entries). IfOk c.pending_addition.result (IsPending c.args.relvars.now m)) (sym meant) c.pending_addition.ensures.pending

pub returns-clause-refused : goal.returns-clause-refused
returns-clause-refused g c =
    let es = map read_entry c.args.relvars.now.list.entries in
    let t = c.args.insertion.assignment.now in
    let meant : evaluated es es (read_assignment t ∷ []) ≡ _ = ap (λ (m : OrFault Relation). then_give m (λ v. Ok (with_target es t.target v))) c.in_ok-at.ensures.sum.meant in
    subst (λ (m : OrFault Entries). IfErr c.pending_addition.result (λ stop. Answers {A = Entries} (Err stop) m)) (sym meant) c.pending_addition.ensures.refused

pub returns-clause-cost : goal.returns-clause-cost
returns-clause-cost g c =
    let left = c.in_ok-at.ensures.left in
    let then = c.pending_addition.ensures.cost in
    omega (arith, left, then)
