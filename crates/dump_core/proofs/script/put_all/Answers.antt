use Rattle.std.proofs.Common.{◌≡◌, Some, None, Option, OnOk, IfErr, subst, sym}
use Rattle.std.proofs.lemmas.Result.{err_from_is_err_and}
use Rattle.tree_core.specs.Relvars.{read_relvars}
use Rattle.dump_core.specs.declared.refuse.DumpRefuse.TheVariants.{TooLong}
use Rattle.dump_core.specs.declared.texts.TextKind.TheVariants.{Early, View, Rule}
use Rattle.dump_core.specs.Texts.{of_kind}
use Rattle.dump_core.specs.Inserts.{rows_of_state}
use Rattle.dump_core.specs.Drafts.{Written}
use Rattle.dump_core.proofs.DraftLemmas.{first-refused, second-refused, third-refused, behind-three}
use Rattle.dump_core.proofs.script.put_all.Goals as goal

pub returns-in_err-put_texts-clause-too_long : goal.returns-in_err-put_texts-clause-too_long
returns-in_err-put_texts-clause-too_long c =
    let texts = c.args.texts.now in
    let p = err_from_is_err_and c.from_residual.result c.from_residual.ensures.1 in
    rw (p.1, p.2) (λ t. first-refused (of_kind Early texts) (rows_of_state (read_relvars c.args.relvars.now)) (of_kind View texts) (of_kind Rule texts) c.args.draft.now
    (c.in_err-put_texts.ensures.too_long t))

pub returns-in_err-put_rows-clause-too_long : goal.returns-in_err-put_rows-clause-too_long
returns-in_err-put_rows-clause-too_long c =
    let texts = c.args.texts.now in
    let p = err_from_is_err_and c.from_residual-in_err-put_rows.result c.from_residual-in_err-put_rows.ensures.1 in
    rw (p.1, p.2) (λ t. second-refused (of_kind Early texts) (rows_of_state (read_relvars c.args.relvars.now)) (of_kind View texts) (of_kind Rule texts) c.args.draft.now
    c.put_texts.new.draft c.in_ok-put_texts.ensures.written (c.in_err-put_rows.ensures.too_long t))

pub returns-in_err-put_texts-2-clause-too_long : goal.returns-in_err-put_texts-2-clause-too_long
returns-in_err-put_texts-2-clause-too_long c =
    let texts = c.args.texts.now in
    let p = err_from_is_err_and c.from_residual-in_err-put_texts-2.result c.from_residual-in_err-put_texts-2.ensures.1 in
    rw (p.1, p.2) (λ t. third-refused (of_kind Early texts) (rows_of_state (read_relvars c.args.relvars.now)) (of_kind View texts) (of_kind Rule texts) c.args.draft.now
    c.put_texts.new.draft c.put_rows.new.draft c.in_ok-put_texts.ensures.written c.in_ok-put_rows.ensures.written (c.in_err-put_texts-2.ensures.too_long t))

pub returns-clause-written : goal.returns-clause-written
returns-clause-written c =
    let texts = c.args.texts.now in
    let all = behind-three (of_kind Early texts) (rows_of_state (read_relvars c.args.relvars.now)) (of_kind View texts) (of_kind Rule texts) c.args.draft.now
    c.put_texts.new.draft c.put_rows.new.draft c.put_texts-2.new.draft c.in_ok-put_texts.ensures.written c.in_ok-put_rows.ensures.written c.in_ok-put_texts-2.ensures.written in
    subst (λ (o : Option Written). OnOk c.put_texts-3.result (o ≡ Some c.put_texts-3.new.draft)) (sym all) c.put_texts-3.ensures.written

pub returns-clause-too_long : goal.returns-clause-too_long
returns-clause-too_long c =
    let texts = c.args.texts.now in
    let all = behind-three (of_kind Early texts) (rows_of_state (read_relvars c.args.relvars.now)) (of_kind View texts) (of_kind Rule texts) c.args.draft.now
    c.put_texts.new.draft c.put_rows.new.draft c.put_texts-2.new.draft c.in_ok-put_texts.ensures.written c.in_ok-put_rows.ensures.written c.in_ok-put_texts-2.ensures.written in
    subst (λ (o : Option Written). IfErr c.put_texts-3.result (λ r. r ≡ TooLong → o ≡ None)) (sym all) c.put_texts-3.ensures.too_long
