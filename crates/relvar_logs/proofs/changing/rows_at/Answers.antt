use Rattle.std.proofs.Common.{sym}
use Rattle.relvar_logs.proofs.FittingLemmas.{fit_put}
use Rattle.relvar_logs.proofs.changing.rows_at.Goals as goal

pub returns : goal.returns
returns c =
    fit_put c.args.name.now c.args.more c.args.relvars.now.list.entries c.args.at c.in-Some.field-0-0.now c.in-Some.relvar.now c.fitting_rows.result (sym c.in-Some.ensures.entry) c.fitting_rows.ensures
