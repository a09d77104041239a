use Rattle.std.proofs.Common.{List, sym, ap, ◌∙◌}
use Rattle.std.proofs.lemmas.Result.{err_from_is_err_and}
use Rattle.value_core.specs.Values.{Row}
use Rattle.relation_core.specs.Answers.{under}
use Rattle.relation_core.specs.Operators.{united}
use Rattle.meaning_core.specs.Meanings.{limited}
use Rattle.assign_core.proofs.PlainRenewalLemmas.{new_headed, new_meant, new_refused}
use Rattle.assign_core.proofs.RenewalLemmas.{part_within}
use Rattle.assign_core.proofs.renewal.exchange_plainly.Goals as goal

pub union-requires : goal.union-requires
union-requires c = c.requires.left.heading ∙ sym c.requires.added.heading

pub or_fault_at-requires : goal.or_fault_at-requires
or_fault_at-requires c = (c.args.left.now.heading, united c.args.left.now.rows c.args.added.now.rows, c.union.ensures)

pub returns-in_err-new-clause-refused : goal.returns-in_err-new-clause-refused
returns-in_err-new-clause-refused c =
    let k = c.requires in
    let answer = c.in_err-new.ensures c.args.left.now.heading (united c.args.left.now.rows c.args.added.now.rows) c.union.ensures in
    let p = err_from_is_err_and c.from_residual.result c.from_residual.ensures.1 in
    rw (p.1, p.2) (new_refused c.args.renewal k.renewal k.none c.args.left.now c.args.added.now k.left k.added c.in_err-new.field-0.0 answer)

pub replaced-requires-clause-heading : goal.replaced-requires-clause-heading
replaced-requires-clause-heading c =
    let k = c.requires in
    let answer = c.in_ok-new.ensures c.args.left.now.heading (united c.args.left.now.rows c.args.added.now.rows) c.union.ensures in
    (k.renewal.gone.closed.heading, new_headed c.args.renewal k.renewal k.none c.args.left.now c.args.added.now k.left k.added c.in_ok-new.new answer)

pub replaced-requires-clause-within : goal.replaced-requires-clause-within
replaced-requires-clause-within c = part_within c.args.renewal c.requires.renewal

pub returns-clause-meant : goal.returns-clause-meant
returns-clause-meant c =
    let k = c.requires in
    let r = c.args.renewal in
    let answer = c.in_ok-new.ensures c.args.left.now.heading (united c.args.left.now.rows c.args.added.now.rows) c.union.ensures in
    new_meant r k.renewal k.none c.args.left.now c.args.added.now k.left k.added c.in_ok-new.new answer
    ∙ ap (λ (rows : List Row). under r.value.now.heading (limited r.revision.assignment.now.tree.place rows)) (sym c.in_ok-rows.ensures.rows)
