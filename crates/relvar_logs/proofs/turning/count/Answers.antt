use Rattle.std.proofs.Common.{rules, ◌≡◌, ◌+ℤ◌, pos, length, map, ap, ◌∙◌, arith, w64, to_z, of_z}
use Rattle.tree_core.specs.Relvars.{Entries, read_entry, read_rule}
use Rattle.relvar_logs.proofs.EntryLemmas.{entries_length}
use Rattle.relvar_logs.proofs.TurningLemmas.{all_turned, all_in_step, first_length}
use Rattle.relvar_logs.proofs.turning.count.Goals as goal

pub returns-clause-counted : goal.returns-clause-counted
returns-clause-counted c =
    let old = c.args.relvars.now in
    let new = c.turn_first.new.relvars in
    let len = c.len-count.ensures.len in
    let list = all_turned old.list.entries new.list.entries c.len-count.result len c.turn_first.ensures.list in
    let number : to_z w64 (of_z w64 (to_z w64 (of_z w64 old.accepted) +ℤ pos 1)) ≡ old.accepted +ℤ pos 1 = search rules in
    λ i. record { ordinals = c.turn_first.ensures.ordinals i; relvars = list i; rules = map read_rule (c.turn_first.ensures.rules i).entries; accepted = number i }

pub returns-clause-step : goal.returns-clause-step
returns-clause-step c =
    let old = c.args.relvars.now in
    let new = c.turn_first.new.relvars in
    let len = c.len-count.ensures.len in
    let list = all_turned old.list.entries new.list.entries c.len-count.result len c.turn_first.ensures.list in
    let read = entries_length old.list.entries in
    let same = ap (λ (z : Entries). length z) c.turn_first.ensures.list ∙ first_length (map read_entry old.list.entries) (map read_entry old.list.entries) c.len-count.result in
    all_in_step _ (map read_entry old.list.entries) (map read_entry new.list.entries) list (λ i l. c.turn_first.ensures.step i (omega (arith, len, read, same, l)))
