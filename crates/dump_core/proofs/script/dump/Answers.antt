use Rattle.std.proofs.Common.{Some, sym, ap, ◌∙◌}
use Rattle.std.proofs.lemmas.Result.{err_from_is_err_and}
use Rattle.tree_core.specs.Relvars.{read_relvars}
use Rattle.dump_core.specs.Dumps.{statements_of}
use Rattle.dump_core.specs.Drafts.{Written, with_statements}
use Rattle.dump_core.proofs.ScriptLemmas.{script-written, script-refused}
use Rattle.dump_core.proofs.script.dump.Goals as goal

pub returns-in_err-put_all-clause-too_long : goal.returns-in_err-put_all-clause-too_long
returns-in_err-put_all-clause-too_long c =
    let ss = statements_of c.args.texts.now (read_relvars c.args.relvars.now) in
    let p = err_from_is_err_and c.from_residual.result c.from_residual.ensures.1 in
    rw (p.1, p.2) (λ t. script-refused ss (ap (λ (w : Written). with_statements ss w) (sym c.new-draft.ensures) ∙ c.in_err-put_all.ensures.too_long t))

pub returns-clause-dumped : goal.returns-clause-dumped
returns-clause-dumped c =
    let ss = statements_of c.args.texts.now (read_relvars c.args.relvars.now) in
    script-written ss c.put_all.new.draft (ap (λ (w : Written). with_statements ss w) (sym c.new-draft.ensures) ∙ c.in_ok-put_all.ensures.written)
    ∙ ap Some (sym c.in_ok-script.ensures)
