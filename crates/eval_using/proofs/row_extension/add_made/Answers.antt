use Rattle.std.proofs.Common.{◌∷◌, [], Err, Some, subst}
use Rattle.point_core.specs.Points.{number}
use Rattle.cell_core.specs.Numbering.{numbers_of}
use Rattle.point_core.specs.declared.fault.Stop.{Stop}
use Rattle.value_core.specs.Values.{Row}
use Rattle.relation_core.specs.Answers.{Answers}
use Rattle.meaning_core.specs.Rows.{extended_at}
use Rattle.tree_core.specs.Trees.{read_sets}
use Rattle.eval_using.proofs.MadePartLemmas.{made_within, made_line, made_rows, made_all_fit, made_least, failed_rows, failed_least}
use Rattle.eval_using.proofs.row_extension.add_made.Goals as goal

pub extended_row-requires : goal.extended_row-requires
extended_row-requires c =
    let w = c.requires.can in
    w.2.items.typed c.args.there.now w.2.fits

pub with_interval-own-requires-clause-within : goal.with_interval-own-requires-clause-within
with_interval-own-requires-clause-within c =
    let w = c.requires.can in
    let by = c.args.by in
    made_within w.0 w.1 by.at by.to (read_sets by.sets.now) by.places.now c.args.there.now w.2 c.in-Ok.made c.in-Ok.ensures c.args.part.now w.3

pub with_interval-own-requires-clause-first : goal.with_interval-own-requires-clause-first
with_interval-own-requires-clause-first c =
    let w = c.requires.can in
    let by = c.args.by in
    made_line w.0 w.1 by.at by.to (read_sets by.sets.now) by.places.now c.args.there.now w.2 c.in-Ok.made c.in-Ok.ensures c.args.part.now w.3

pub returns-in_ok-push-in-Ok-clause-rows : goal.returns-in_ok-push-in-Ok-clause-rows
returns-in_ok-push-in-Ok-clause-rows c =
    let w = c.requires.can in
    let by = c.args.by in
    made_rows w.0 w.1 by.at by.to (read_sets by.sets.now) by.places.now c.args.there.now w.2 c.in-Ok.made c.in-Ok.ensures c.args.part.now w.3
    c.args.out.now.items c.push.new.self.items c.with_interval-own.result c.with_interval-own.ensures.row c.in_ok-push-in-Ok.ensures.items

pub returns-in_ok-push-in-Ok-clause-fits : goal.returns-in_ok-push-in-Ok-clause-fits
returns-in_ok-push-in-Ok-clause-fits c = λ from heading can ends.
    let by = c.args.by in
    made_all_fit from heading by.at by.to (read_sets by.sets.now) by.places.now c.args.there.now can c.in-Ok.made c.in-Ok.ensures c.args.part.now ends
    c.args.out.now.items c.push.new.self.items c.with_interval-own.result c.with_interval-own.ensures.row c.with_interval-own.ensures.ordered c.in_ok-push-in-Ok.ensures.items

pub returns-in_ok-push-in-Ok-clause-least : goal.returns-in_ok-push-in-Ok-clause-least
returns-in_ok-push-in-Ok-clause-least c =
    let w = c.requires.can in
    let by = c.args.by in
    made_least w.0 w.1 by.at by.to (read_sets by.sets.now) by.places.now c.args.there.now w.2 c.in-Ok.made c.in-Ok.ensures c.args.part.now w.3 c.args.least.now

pub returns-in-Err-Fault-clause-rows : goal.returns-in-Err-Fault-clause-rows
returns-in-Err-Fault-clause-rows c =
    let by = c.args.by in
    let meant = extended_at by.places.now (read_sets by.sets.now) c.args.there.now in
    let fault = subst (λ (s : Stop). Answers {A = Row} (Err s) meant) c.in-Err-Fault.field-0-is c.in-Err-Fault.ensures in
    failed_rows by.to (read_sets by.sets.now) by.places.now c.args.there.now c.in-Err-Fault.e fault c.args.out.now.items (numbers_of number c.args.part.now ∷ [])

pub returns-in-Err-Fault-clause-least : goal.returns-in-Err-Fault-clause-least
returns-in-Err-Fault-clause-least c =
    let by = c.args.by in
    let meant = extended_at by.places.now (read_sets by.sets.now) c.args.there.now in
    let fault = subst (λ (s : Stop). Answers {A = Row} (Err s) meant) c.in-Err-Fault.field-0-is c.in-Err-Fault.ensures in
    failed_least by.to (read_sets by.sets.now) by.places.now c.args.there.now c.in-Err-Fault.e fault c.args.least.now (Some c.least_so_far.result) c.least_so_far.ensures
