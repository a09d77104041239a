use Rattle.std.proofs.Common.{rules, ◌≡◌, ◌<◌, ◌+ℤ◌, ℤ, pos, length, map, refl, sym, subst, ◌∙◌, w64, to_z, of_z}
use Rattle.value_core.specs.Values.{most_rows}
use Rattle.relation_core.specs.Answers.{IsRefusal}
use Rattle.log_times.specs.Kept.{log_relation}
use Rattle.log_times.specs.Logs.{moved}
use Rattle.log_turns.specs.Turned.{IsAfter}
use Rattle.tree_core.specs.Relvars.{read_entry}
use Rattle.relvar_logs.specs.Changes.{changed}
use Rattle.relvar_logs.proofs.NextLemmas.{change_found, change_absent, ready_log, idle_log, too_long}
use Rattle.relvar_logs.proofs.next.next_log.Goals as goal

pub turned-requires-clause-heading : goal.turned-requires-clause-heading
turned-requires-clause-heading c =
    let es = map read_entry c.args.relvars.now.list.entries in
    let new = change_found c.args.changes.now es c.args.of.now c.in-Some.value.now c.requires.changes (sym c.in-Some.ensures) in
    new.heading ∙ sym c.requires.base.1

pub returns-in-Ok-clause-next : goal.returns-in-Ok-clause-next
returns-in-Ok-clause-next c =
    let es = map read_entry c.args.relvars.now.list.entries in
    let n = c.args.relvars.now.accepted in
    let l = c.args.kept.now in
    let now = c.in-Some.value.now in
    let new = change_found c.args.changes.now es c.args.of.now now c.requires.changes (sym c.in-Some.ensures) in
    let number : to_z w64 (of_z w64 (to_z w64 (of_z w64 n) +ℤ pos 1)) ≡ n +ℤ pos 1 = search rules in
    let after : IsAfter l now (n +ℤ pos 1) c.in-Ok.next = subst (λ (k : ℤ). IsAfter l now k c.in-Ok.next) number c.in-Ok.ensures in
    ready_log n (changed c.args.changes.now es) c.args.of.now l c.requires.step.0 now c.in-Ok.next new.rows after c.stored.ensures.log

pub returns-in-Err-TooMany-clause-refused : goal.returns-in-Err-TooMany-clause-refused
returns-in-Err-TooMany-clause-refused c =
    let es = map read_entry c.args.relvars.now.list.entries in
    let n = c.args.relvars.now.accepted in
    let l = c.args.kept.now in
    let now = c.in-Some.value.now in
    let new = change_found c.args.changes.now es c.args.of.now now c.requires.changes (sym c.in-Some.ensures) in
    let number : to_z w64 (of_z w64 (to_z w64 (of_z w64 n) +ℤ pos 1)) ≡ n +ℤ pos 1 = search rules in
    let more : most_rows < length (moved l.side (n +ℤ pos 1) now.rows (log_relation l).rows) =
    subst (λ (k : ℤ). most_rows < length (moved l.side k now.rows (log_relation l).rows)) number (subst (IsRefusal _) c.in-Err-TooMany.field-0-is c.in-Err-TooMany.ensures) in
    (refl, too_long n (changed c.args.changes.now es) c.args.of.now l c.requires.step.0 now.rows new.rows more)

pub returns-in-None-clause-next : goal.returns-in-None-clause-next
returns-in-None-clause-next c =
    let es = map read_entry c.args.relvars.now.list.entries in
    idle_log c.args.relvars.now.accepted (changed c.args.changes.now es) c.args.of.now c.args.kept.now c.requires.step.0 es
    (change_absent c.args.changes.now es c.args.of.now c.requires.changes (sym c.in-None.ensures)) c.requires.step
