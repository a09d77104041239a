-- What comes of a declaration of a log.
--     logs_fit      whether logs have room beside the rows of base relvars
--     IsOpenedIn      the log begins with its declaration, or that is refused
use Rattle.std.specs.Prelude.{◌≡◌, ℕ, ◌+◌, nat_le, Bool, true, false, ◌&&◌, Result, Ok, Err}
use Rattle.point_core.specs.declared.fault.Code.TheVariants.{E46}
use Rattle.value_core.specs.declared.refuse.Refuse.{Refuse}
use Rattle.value_core.specs.declared.refuse.Refuse.TheVariants.{Plain, At, Broken, Memory}
use Rattle.value_core.specs.Limits.{most_rows_in_all}
use Rattle.tree_core.specs.declared.declaration.LogData.{LogData}
use Rattle.tree_core.specs.Relvars.{Entries, State}
use Rattle.meaning_core.specs.Declarations.{counted, with_log}
use Rattle.meaning_core.specs.Logs.{turned_logs}
use Rattle.relvar_logs.specs.Room.{are_each_few, rows_of_logs}

-- whether the logs of these entries have room beside so many rows of base relvars: 200,000 in all, and 100,000 in each log
abbrev pub logs_fit : ℕ → Entries → Bool
logs_fit rows entries = nat_le (rows + rows_of_logs entries) most_rows_in_all && are_each_few entries

-- the log is declared and the statement counted; or the logs would not fit, or memory is wanting, and nothing changes
abbrev pub IsOpenedIn : ℕ → Result (Unit {0}) Refuse → State → State → LogData → Type 0
IsOpenedIn rows (Ok done) old new d = (logs_fit rows (turned_logs (with_log old d).relvars) ≡ true) × (new ≡ counted (with_log old d))
IsOpenedIn rows (Err (Plain code)) old new d = (code ≡ E46) × (logs_fit rows (turned_logs (with_log old d).relvars) ≡ false) × (new ≡ old)
IsOpenedIn rows (Err (At fault)) old new d = ⊥
IsOpenedIn rows (Err (Broken code relvar number)) old new d = ⊥
IsOpenedIn rows (Err Memory) old new d = new ≡ old
