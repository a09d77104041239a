use Rattle.std.proofs.Common.{◌-◌}
use Rattle.plain_rows.proofs.columns.columns_met.Given as goal

abbrev pub decreases-columns : goal.decreases-columns
decreases-columns l = 16 - l.turn
