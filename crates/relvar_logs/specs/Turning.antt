-- Logs that stand ready for the next statement.
--     IsReadyLog      a log after one statement more
--     IsNext, AreNext      what stands ready for the entries of a state
--     IsOfBase      a log is that of a base relvar with its heading
--     IsFull, IsFullAlone      a log would have too many rows, or memory is wanting
--     turned_first      the entries with the logs among the first of them turned
use Rattle.std.specs.Prelude.{◌≡◌, ℕ, zero, suc, ℤ, pos, ◌+ℤ◌, nat_le, false, List, [], ◌∷◌, map, Option, Some, None}
use Rattle.point_core.specs.declared.fault.Code.TheVariants.{E46}
use Rattle.value_core.specs.declared.refuse.Refuse.{Refuse}
use Rattle.value_core.specs.declared.refuse.Refuse.TheVariants.{Plain, At, Broken, Memory}
use Rattle.value_core.specs.Values.{most_rows}
use Rattle.log_times.specs.Kept.{PlainLog, log_relation}
use Rattle.log_times.specs.Turns.{without}
use Rattle.tree_core.specs.Relvars.{PlainRelvar, base, view, log, Entries, relvar_named, heading_if}
use Rattle.meaning_core.specs.Logs.{turned_relvar, IsInStep}
use Rattle.meaning_core.specs.WellMade.{IsBase}
use Rattle.relvar_logs.specs.Room.{are_each_few, log_count}

-- what a log is after the statement behind the n-th, after which these are the relvars
pub record IsReadyLog (n : ℤ) (all : Entries) (before after : PlainRelvar) : Type 0 where
  pub is : after ≡ turned_relvar all before
  pub step : IsInStep (n +ℤ pos 1) all after

-- A log that stands ready for the statement behind the n-th, after which these are the relvars. Where none stands ready, the relvar's rows are
-- those that the log tells of the n-th. Of other entries nothing is asked.
abbrev pub IsNext : ℤ → Entries → Option PlainLog → PlainRelvar → Type 0
IsNext n all next (base value constraints) = Unit {0}
IsNext n all next (view t kind) = Unit {0}
IsNext n all None (log of side last value) = IsInStep n all (log of side last value)
IsNext n all (Some t) (log of side last value) = IsReadyLog n all (log of side last value) (log of t.side t.last (log_relation t))

-- the same of all; behind the list none stands ready
abbrev pub AreNext : ℤ → Entries → List (Option PlainLog) → Entries → Type 0
AreNext n all [] [] = Unit {0}
AreNext n all [] (r ∷ rest) = IsNext n all None r.1 × AreNext n all [] rest
AreNext n all (t ∷ ts) [] = Unit {0}
AreNext n all (t ∷ ts) (r ∷ rest) = IsNext n all t r.1 × AreNext n all ts rest

-- the entries with the logs among the first so many turned
abbrev pub turned_first : Entries → ℕ → Entries → Entries
turned_first all zero es = es
turned_first all (suc i) [] = []
turned_first all (suc i) (r ∷ rest) = (r.0, turned_relvar all r.1) ∷ turned_first all i rest

-- ---- what is asked of logs, and why none stands ready

-- a log is that of a base relvar, whose heading it has beside its own attribute
abbrev pub IsOfBase : Entries → PlainRelvar → Type 0
IsOfBase entries (base value constraints) = Unit {0}
IsOfBase entries (view t kind) = Unit {0}
IsOfBase entries (log of side last value) = IsBase (relvar_named entries of) × (without side value.heading ≡ heading_if (relvar_named entries of))

-- the log would have too many rows after the next statement, behind which these are the relvars; or memory is wanting
abbrev pub IsFullAlone : Entries → PlainRelvar → Refuse → Type 0
IsFullAlone all r (Plain code) = (code ≡ E46) × (nat_le (log_count (turned_relvar all r)) most_rows ≡ false)
IsFullAlone all r (At fault) = ⊥
IsFullAlone all r (Broken code relvar number) = ⊥
IsFullAlone all r Memory = Unit {0}

-- and so would one of the logs
abbrev pub IsFull : Entries → Entries → Refuse → Type 0
IsFull all entries (Plain code) = (code ≡ E46) × (are_each_few (map (λ r. (r.0, turned_relvar all r.1)) entries) ≡ false)
IsFull all entries (At fault) = ⊥
IsFull all entries (Broken code relvar number) = ⊥
IsFull all entries Memory = Unit {0}
