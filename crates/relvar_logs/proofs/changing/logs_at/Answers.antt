use Rattle.std.proofs.Common.{◌≡◌, ◌≤◌, true, map, sym, ◌∙◌, arith, true≢false}
use Rattle.tree_core.specs.Relvars.{read_entry}
use Rattle.relvar_logs.specs.LoggedChanges.{is_log_of}
use Rattle.relvar_logs.proofs.EntryLemmas.{so_weaker}
use Rattle.relvar_logs.proofs.changing.logs_at.Goals as goal

pub returns-then-is_log_at-clause-own : goal.returns-then-is_log_at-clause-own
returns-then-is_log_at-clause-own c =
    so_weaker (map read_entry c.args.relvars.now.list.entries) c.args.at (λ r. is_log_of c.args.name.now r ≡ c.is_log_at.result) (λ r. is_log_of c.args.name.now r ≡ true → 1 ≤ 1) (λ r h e. omega arith) c.is_log_at.ensures

pub returns-clause-own : goal.returns-clause-own
returns-clause-own c =
    so_weaker (map read_entry c.args.relvars.now.list.entries) c.args.at (λ r. is_log_of c.args.name.now r ≡ c.is_log_at.result) (λ r. is_log_of c.args.name.now r ≡ true → 1 ≤ 0)
    (λ r h e. absurd (true≢false (sym e ∙ (h ∙ c.if-is_log_at.false)))) c.is_log_at.ensures
