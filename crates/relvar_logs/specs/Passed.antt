-- Logs on their way to a statement, some of which tell it already.
--     IsChangingLog      a log that has room for the rows that its relvar gained and lost, and does not tell them yet
--     IsChanged      the log that tells them
--     IsBrought      an entry that is brought to the statement
--     IsOnTheWay      an entry that is, or that tells the statement before
--     ArePassed      the entries, the first so many of which are brought to it
use Rattle.std.specs.Prelude.{◌≡◌, ◌⊎◌, ℕ, zero, suc, ℤ, pos, ◌-ℤ◌, [], ◌∷◌}
use Rattle.value_core.specs.Values.{Relation}
use Rattle.log_times.specs.Kept.{PlainLog, log_relation, IsLog}
use Rattle.log_times.specs.Told.{value_after}
use Rattle.log_times.specs.Turns.{exchanged}
use Rattle.log_turns.specs.Turned.{IsAfter}
use Rattle.tree_core.specs.Relvars.{PlainRelvar, base, view, log, Entries}
use Rattle.meaning_core.specs.Logs.{turned_relvar, IsInStep}
use Rattle.relvar_logs.specs.LoggedChanges.{IsChanging}

abbrev pub IsChangingLog : ℤ → Entries → Relation → Relation → PlainRelvar → Type 0
IsChangingLog n all come gone (base value constraints) = Unit {0}
IsChangingLog n all come gone (view t kind) = Unit {0}
IsChangingLog n all come gone (log of side last value) = IsChanging n all come gone of side last value

-- the log t after the statement n, where it was l before and its relvar gained and lost these rows
pub record IsChanged (l : PlainLog) (come gone : Relation) (n : ℤ) (t : PlainLog) : Type 0 where
  pub after : IsAfter l (record { heading = come.heading; rows = exchanged (value_after l.side l.last (log_relation l).rows) come.rows gone.rows }) n t
  pub is : IsLog t

-- what an entry is after the statement n, after which these are the relvars
pub record IsBrought (n : ℤ) (all : Entries) (before now : PlainRelvar) : Type 0 where
  pub is : now ≡ turned_relvar all before
  pub step : IsInStep n all now

-- it is that already, or as it was, and tells of the statement before n that its relvar had the same rows
abbrev pub IsOnTheWay : ℤ → Entries → PlainRelvar → PlainRelvar → Type 0
IsOnTheWay n all before now = ((now ≡ before) × IsInStep (n -ℤ pos 1) all before) ⊎ IsBrought n all before now

-- the entries that there were before, and those that there are
abbrev pub ArePassed : ℤ → Entries → ℕ → Entries → Entries → Type 0
ArePassed n all k [] [] = Unit {0}
ArePassed n all k [] (r ∷ rest) = ⊥
ArePassed n all k (e ∷ es) [] = ⊥
ArePassed n all zero (e ∷ es) (r ∷ rest) = (r.0 ≡ e.0) × IsOnTheWay n all e.1 r.1 × ArePassed n all zero es rest
ArePassed n all (suc k) (e ∷ es) (r ∷ rest) = (r.0 ≡ e.0) × IsBrought n all e.1 r.1 × ArePassed n all k es rest
