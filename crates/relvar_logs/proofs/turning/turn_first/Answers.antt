use Rattle.std.proofs.Common.{◌≡◌, ◌≤◌, ◌<◌, ◌+◌, ◌<ℤ◌, ◌-ℤ◌, ℕ, ℤ, suc, pos, length, map, sym, subst, ap, ◌∙◌, arith, Option, w64, to_z, of_z}
use Rattle.std.proofs.lemmas.Int.{to_z-of_z}
use Rattle.point_core.specs.Whole.{greatest_whole}
use Rattle.log_times.specs.Kept.{PlainLog}
use Rattle.tree_core.specs.Relvars.{Entries, read_entry}
use Rattle.meaning_core.specs.Logs.{turned_relvar, IsInStep}
use Rattle.relvar_logs.specs.Changes.{turned_at, IsSoAt}
use Rattle.relvar_logs.specs.Turning.{turned_first, IsNext}
use Rattle.relvar_logs.proofs.EntryLemmas.{entries_length}
use Rattle.relvar_logs.proofs.TurningLemmas.{next_there, ready_later, later_there, first_more, more_in_step, drop_later, first_length, all_before}
use Rattle.relvar_logs.proofs.turning.turn_first.Goals as goal

pub turn_at-requires : goal.turn_at-requires
turn_at-requires g c =
    let raw = c.args.relvars.now.list.entries in
    let es = map read_entry raw in
    let at = c.loop-at.at in
    let count = c.requires.1.0 in
    let below : at < c.args.count = omega arith in
    let read = entries_length raw in
    let long = entries_length c.loop-at.relvars.list.entries in
    let same = ap (λ (z : Entries). length z) c.loop-at.invariant.list ∙ first_length g.all es at in
    let within : at < length c.loop-at.relvars.list.entries = omega (arith, long, same, read, count, below) in
    let number : to_z w64 (of_z w64 c.args.number) ≡ c.args.number = to_z-of_z w64 c.args.number c.ranges.number in
    let ready = next_there (c.args.number -ℤ pos 1) g.all c.args.next.now es at c.requires.1.1 (omega (arith, read, count, below)) in
    let taken = c.take_at-log.ensures.log ∙ ready_later c.loop-at.next c.args.next.now at c.loop-at.invariant.next in
    let here = subst (λ (o : Option PlainLog). IsSoAt at (IsNext (c.args.number -ℤ pos 1) g.all o) es) (sym taken) ready in
    let now = subst (λ (z : Entries). IsSoAt at (IsNext (c.args.number -ℤ pos 1) g.all c.take_at-log.result) z) (sym c.loop-at.invariant.list)
    (later_there (IsNext (c.args.number -ℤ pos 1) g.all c.take_at-log.result) g.all es at at (omega arith) here) in
    subst (λ (k : ℤ). (k <ℤ greatest_whole) × ((at < length c.loop-at.relvars.list.entries) × IsSoAt at (IsNext (k -ℤ pos 1) g.all c.take_at-log.result) (map read_entry c.loop-at.relvars.list.entries)))
    (sym number) (c.requires.0, (within, now))

pub loop-at-preserved : goal.loop-at-preserved
loop-at-preserved g c =
    let es = map read_entry c.args.relvars.now.list.entries in
    let at = c.loop-at.at in
    let below : at < c.args.count = omega arith in
    let one : suc at ≡ at + 1 = omega arith in
    let i = c.loop-at.invariant in
    record {
      list = c.turn_at.ensures.list ∙ (ap (turned_at at (turned_relvar g.all)) i.list ∙ (first_more g.all es at ∙ ap (λ (k : ℕ). turned_first g.all k es) one));
      step = more_in_step (to_z w64 (of_z w64 c.args.number)) g.all (map read_entry c.loop-at.relvars.list.entries) (map read_entry c.turn_at.new.relvars.list.entries) at c.turn_at.ensures.list i.step c.turn_at.ensures.step;
      next = drop_later c.take_at-log.new.next c.loop-at.next c.args.next.now at c.take_at-log.ensures.behind i.next;
      within = omega (arith, below);
      ordinals = c.turn_at.ensures.ordinals ∙ i.ordinals;
      rules = c.turn_at.ensures.rules ∙ i.rules;
      accepted = c.turn_at.ensures.accepted ∙ i.accepted;
    }

pub returns-clause-step : goal.returns-clause-step
returns-clause-step g c =
    let now = map read_entry c.loop-at.relvars.list.entries in
    let number : to_z w64 (of_z w64 c.args.number) ≡ c.args.number = to_z-of_z w64 c.args.number c.ranges.number in
    let end : c.args.count ≤ c.loop-at.at = omega arith in
    subst (λ (k : ℤ). (i : ℕ) → i < c.args.count → IsSoAt i (IsInStep k g.all) now) number
    (all_before (to_z w64 (of_z w64 c.args.number)) g.all now c.args.count c.loop-at.at end c.loop-at.invariant.step)
