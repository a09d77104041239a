use Rattle.std.proofs.Common.{◌<◌, ◌+◌, length, List, Ok, Err, take, subst, arith}
use Rattle.std.proofs.lemmas.List.{take_more_set}
use Rattle.value_core.specs.Values.{Row}
use Rattle.row_removal.specs.Removals.{IsPlaceBehind}
use Rattle.assign_core.proofs.MergingLemmas.{kept_count, put_found, put_missing}
use Rattle.assign_core.proofs.merging.put_next.Goals as goal

pub returns-in-Ok-clause-room : goal.returns-in-Ok-clause-room
returns-in-Ok-clause-room c =
    let rows = c.args.rows.now.items in
    let seen = c.args.cut.seen in
    let told = subst (λ (rs : List Row). IsPlaceBehind rs seen c.args.row (Ok c.in-Ok.at)) c.as_slice.ensures.value c.in-Ok.ensures in
    let run = c.keep_run-kept.ensures in
    let count = kept_count rows c.keep_run-kept.new.rows.items c.args.cut.kept c.keep_run-kept.result seen (c.in-Ok.at + 1) (omega (arith, c.requires.kept)) (omega (arith, told.0)) (omega (arith, told.1)) (omega (arith, run.len)) run.kept run.front in
    omega (arith, count, c.requires.kept, told.0)

pub returns-in-Ok-clause-front : goal.returns-in-Ok-clause-front
returns-in-Ok-clause-front c = λ more others.
    let rows = c.args.rows.now.items in
    let seen = c.args.cut.seen in
    let told = subst (λ (rs : List Row). IsPlaceBehind rs seen c.args.row (Ok c.in-Ok.at)) c.as_slice.ensures.value c.in-Ok.ensures in
    put_found rows (take c.keep_run-kept.result c.keep_run-kept.new.rows.items) (take c.args.cut.kept rows) more seen c.in-Ok.at c.args.row c.requires.rest others told c.keep_run-kept.ensures.front

pub returns-in-Err-clause-front : goal.returns-in-Err-clause-front
returns-in-Err-clause-front c = λ more others.
    let rows = c.args.rows.now.items in
    let now = c.keep_run-kept-in-Err.new.rows.items in
    let seen = c.args.cut.seen in
    let at = c.in-Err.at in
    let kept = c.keep_run-kept-in-Err.result in
    let told = subst (λ (rs : List Row). IsPlaceBehind rs seen c.args.row (Err at)) c.as_slice.ensures.value c.in-Err.ensures in
    let run = c.keep_run-kept-in-Err.ensures in
    let count = kept_count rows now c.args.cut.kept kept seen at (omega (arith, c.requires.kept)) told.0 told.1 (omega (arith, run.len)) run.kept run.front in
    let within : kept < length now = omega (arith, count, c.requires.kept, told.0, told.1, run.len) in
    put_missing rows (take kept now) _ (take c.args.cut.kept rows) more seen at c.args.row c.requires.rest others told run.front (take_more_set now kept c.args.row within)
