use Rattle.std.proofs.Common.{List, sym, ap, ◌∙◌}
use Rattle.std.proofs.lemmas.Result.{err_from_is_err_and}
use Rattle.value_core.specs.Values.{Row}
use Rattle.relation_core.specs.Answers.{under}
use Rattle.meaning_core.specs.Meanings.{limited}
use Rattle.assign_core.specs.Reductions.{entries_reduced}
use Rattle.assign_core.proofs.DeletionLemmas.{part_for, deletion_within, deletion_meant, deletion_failed, deletion_headed, deletion_paid}
use Rattle.assign_core.proofs.reduction.deleted.Goals as goal

pub portion_rows-requires : goal.portion_rows-requires
portion_rows-requires g c =
    let r = c.args.reduction in
    let k = c.requires in
    part_for r.value.now.heading r.part.now.heading r.deletion.kept k.affected.closed.heading k.deletion.kept

pub returns-in_err-left-clause-refused : goal.returns-in_err-left-clause-refused
returns-in_err-left-clause-refused g c =
    let r = c.args.reduction in
    let k = c.requires in
    let p = err_from_is_err_and c.from_residual.result c.from_residual.ensures.1 in
    rw (p.1, p.2) (deletion_failed (entries_reduced r) r.deletion r.at r.value.now r.part.now k.deletion k.affected c.in_err-left.field-0.0 c.in_err-left.ensures.value)

pub returns-in_err-left-clause-cost : goal.returns-in_err-left-clause-cost
returns-in_err-left-clause-cost g c =
    let r = c.args.reduction in
    let k = c.requires in
    deletion_paid (entries_reduced r) r.deletion r.at r.value.now r.part.now k.deletion k.affected c.args.steps.now c.portion_rows.new.steps c.portion_rows.ensures.cost

pub replaced-requires-clause-heading : goal.replaced-requires-clause-heading
replaced-requires-clause-heading g c =
    let r = c.args.reduction in
    let k = c.requires in
    (k.affected.closed.heading, deletion_headed (entries_reduced r) r.deletion r.at r.value.now r.part.now k.deletion k.affected c.in_ok-left.left c.in_ok-left.ensures.value)

pub replaced-requires-clause-within : goal.replaced-requires-clause-within
replaced-requires-clause-within g c =
    let r = c.args.reduction in
    let k = c.requires in
    deletion_within (entries_reduced r) r.deletion r.at r.value.now r.part.now k.deletion k.affected

pub returns-in_err-rows-clause-cost : goal.returns-in_err-rows-clause-cost
returns-in_err-rows-clause-cost g c =
    let r = c.args.reduction in
    let k = c.requires in
    deletion_paid (entries_reduced r) r.deletion r.at r.value.now r.part.now k.deletion k.affected c.args.steps.now c.portion_rows.new.steps c.portion_rows.ensures.cost

pub returns-clause-meant : goal.returns-clause-meant
returns-clause-meant g c =
    let r = c.args.reduction in
    let k = c.requires in
    deletion_meant (entries_reduced r) r.deletion r.at r.value.now r.part.now k.deletion k.affected c.in_ok-left.left c.in_ok-left.ensures.value
    ∙ ap (λ (rows : List Row). under r.value.now.heading (limited r.deletion.kept.place rows)) (sym c.in_ok-rows.ensures.rows)

pub returns-clause-cost : goal.returns-clause-cost
returns-clause-cost g c =
    let r = c.args.reduction in
    let k = c.requires in
    deletion_paid (entries_reduced r) r.deletion r.at r.value.now r.part.now k.deletion k.affected c.args.steps.now c.portion_rows.new.steps c.portion_rows.ensures.cost
