use Rattle.std.proofs.Common.{◌<◌, ◌≤◌, [], length, map, sym, ◌∙◌, arith}
use Rattle.value_core.specs.Values.{Name}
use Rattle.tree_core.specs.Relvars.{PlainRelvar, read_entry}
use Rattle.relvar_logs.specs.Changes.{changed}
use Rattle.relvar_logs.proofs.EntryLemmas.{entries_length}
use Rattle.assign_core.proofs.CountLemmas.{changed_length, too_many, next_room, few_enough}
use Rattle.tree_core.specs.Relvars.{base}
use Rattle.assign_core.proofs.counting.are_few.Goals as goal

none : Name × PlainRelvar
none = ([], base (record { heading = []; rows = [] }) [])

pub returns-then-count-room : goal.returns-then-count-room
returns-then-count-room c =
    let raw = c.args.relvars.now.list.entries in
    let es = changed c.args.changes.now (map read_entry raw) in
    let long = changed_length c.args.changes.now (map read_entry raw) (c.requires ∙ sym (entries_length raw)) in
    let before = entries_length raw in
    let same = c.requires in
    let at : c.loop-at.at < length c.args.changes.now = omega arith in
    let within : c.loop-at.at < length es = omega (arith, long, before, same, at) in
    let more : c.loop-at.room < c.count_at-count.result = omega arith in
    too_many es c.loop-at.at none c.loop-at.room c.count_at-count.result c.args.most within c.loop-at.invariant (c.count_at-count.ensures none) more

pub loop-at-preserved : goal.loop-at-preserved
loop-at-preserved c =
    let raw = c.args.relvars.now.list.entries in
    let es = changed c.args.changes.now (map read_entry raw) in
    let long = changed_length c.args.changes.now (map read_entry raw) (c.requires ∙ sym (entries_length raw)) in
    let before = entries_length raw in
    let same = c.requires in
    let at : c.loop-at.at < length c.args.changes.now = omega arith in
    let within : c.loop-at.at < length es = omega (arith, long, before, same, at) in
    let less : c.count_at-count.result ≤ c.loop-at.room = omega arith in
    next_room es c.loop-at.at none c.loop-at.room c.count_at-count.result c.args.most within c.loop-at.invariant (c.count_at-count.ensures none) less

pub returns : goal.returns
returns c =
    let raw = c.args.relvars.now.list.entries in
    let es = changed c.args.changes.now (map read_entry raw) in
    let long = changed_length c.args.changes.now (map read_entry raw) (c.requires ∙ sym (entries_length raw)) in
    let before = entries_length raw in
    let same = c.requires in
    let end : length c.args.changes.now ≤ c.loop-at.at = omega arith in
    few_enough es c.loop-at.at c.loop-at.room c.args.most (omega (arith, long, before, same, end)) c.loop-at.invariant
