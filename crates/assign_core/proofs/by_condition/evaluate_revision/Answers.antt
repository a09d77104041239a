use Rattle.std.proofs.Common.{map, IfSome, subst}
use Rattle.scalar_core.specs.Expressions.{read}
use Rattle.tree_core.specs.Relvars.{read_entry}
use Rattle.assign_core.specs.Portions.{IsAffected}
use Rattle.assign_core.proofs.HashedLemmas.{hashes_of_first}
use Rattle.assign_core.proofs.by_condition.evaluate_revision.Goals as goal

pub revised_part-requires-clause-hashed : goal.revised_part-requires-clause-hashed
revised_part-requires-clause-hashed g c =
    let es = map read_entry c.args.relvars.now.list.entries in
    let k = c.revision_at-at.ensures in
    hashes_of_first es c.args.revision.assignment.now.target c.revision_at-at.result.0 c.revision_at-at.result.1.now k.constraints c.hashes_at-hashes.result.now k.first (c.hashes_at-hashes.ensures es c.requires.hashed)

pub pending_renewal-requires : goal.pending_renewal-requires
pending_renewal-requires g c =
    let es = map read_entry c.args.relvars.now.list.entries in
    let k = c.revision_at-at.ensures in
    let r = c.args.revision in
    let value = c.revision_at-at.result.1.now in
    record {
      revision = k;
      gone = subst (λ o. IfSome o (IsAffected r.commalist.now (read r.gone.now) value)) c.in-Some.is c.in_ok-part.ensures.gone;
      changed = subst (λ o. IfSome o (IsAffected r.commalist.now (read r.changed.portion.condition.now) value)) c.in-Some.is c.in_ok-part.ensures.changed;
      hashed = hashes_of_first es r.assignment.now.target c.revision_at-at.result.0 value k.constraints c.hashes_at-hashes.result.now k.first (c.hashes_at-hashes.ensures es c.requires.hashed);
    }
