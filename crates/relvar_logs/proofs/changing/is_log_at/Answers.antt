use Rattle.std.proofs.Common.{◌≡◌, sym}
use Rattle.relvar_logs.specs.LoggedChanges.{is_log_of}
use Rattle.relvar_logs.proofs.EntryLemmas.{so_put}
use Rattle.relvar_logs.proofs.changing.is_log_at.Goals as goal

pub returns : goal.returns
returns c =
    so_put c.args.relvars.now.list.entries c.args.at (λ r. is_log_of c.args.name.now r ≡ c.is_log_of.result) c.in-Some.field-0-0.now c.in-Some.relvar.now (sym c.in-Some.ensures.entry) (sym c.is_log_of.ensures)
