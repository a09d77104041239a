use Rattle.std.proofs.Common.{◌≡◌, List, ap, refl, sym, subst, Ok}
use Rattle.std.proofs.lemmas.Result.{err_from_is_err_and}
use Rattle.value_core.specs.Values.{Row}
use Rattle.relation_core.specs.Answers.{under}
use Rattle.meaning_core.specs.Meanings.{limited}
use Rattle.assign_core.specs.Assignments.{with_target}
use Rattle.assign_core.specs.Insertions.{sum_of, value_meant}
use Rattle.assign_core.specs.Targets.{entries_after, entries_before, entries_with}
use Rattle.assign_core.specs.Turnovers.{IsKnown}
use Rattle.assign_core.proofs.PendingLemmas.{value_stopped}
use Rattle.assign_core.proofs.evaluating.pending_packed.Goals as goal

pub returns-in_err-rows-clause-refused : goal.returns-in_err-rows-clause-refused
returns-in_err-rows-clause-refused g c =
    let a = c.args.addition in
    let p = err_from_is_err_and c.from_residual-in_err-rows.result c.from_residual-in_err-rows.ensures.1 in
    rw (p.1, p.2) (value_stopped (value_meant a) (λ v. Ok (with_target (entries_before a.target) a.target.name.now v)) c.in_err-rows.field-0.0 c.in_err-rows.ensures.refused)

pub returns-clause-pending : goal.returns-clause-pending
returns-clause-pending g c =
    let t = c.args.addition.target in
    let x = c.in_ok-rows.rows in
    let same : entries_after t x ≡ sum_of c.args.addition = ap (λ (rs : List Row). entries_with t (under t.value.now.heading (limited t.place rs))) c.in_ok-rows.ensures.rows in
    let known = subst (IsKnown t.value.now x) (sym c.known_of-known.ensures) (record { hashed = c.requires.hashed; packed = c.in_ok-rows.ensures.packed }) in
    (refl, c.requires.addition.target, c.in_ok-rows.ensures.exchange, known, sym same)
