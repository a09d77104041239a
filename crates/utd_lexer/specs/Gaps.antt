-- The white space and the comments in front of what bytes say.
--     without_gaps      the bytes behind them
use Rattle.std.specs.Prelude.{ℕ, zero, suc, List, length, take, drop, Bool, true, ◌&&◌, if◌then◌else◌}
use Rattle.utd_lexer.specs.declared.cutter.Mode.TheVariants.{Between}
use Rattle.utd_lexer.specs.Cutting.{run, is_between, can_be_blank}

-- whether the bytes are only white space and whole comments
abbrev pub is_gap : List ℕ → Bool
is_gap bytes = can_be_blank Between true bytes && is_between (run Between bytes)

-- the length of the longest front that is white space and whole comments, of those with at most n bytes
abbrev pub gaps_len : List ℕ → ℕ → ℕ
gaps_len bytes zero = zero
gaps_len bytes (suc n) = if is_gap (take (suc n) bytes) then suc n else gaps_len bytes n

-- the bytes from the first token on
abbrev pub without_gaps : List ℕ → List ℕ
without_gaps bytes = drop (gaps_len bytes (length bytes)) bytes
