-- Rows that come to a base relvar and others that go.
--     renewed_at      the relvars after an exchange of rows of the one at a place
--     IsTurnover      what is asked of an exchange that stands ready for a base relvar
--     after_turnover      the relvars after it
--     IsKnown      what is known of the rows before it and after it
use Rattle.std.specs.Prelude.{◌≡◌, ℕ, ◌+◌, ◌≤◌, Bool, false, List, length, Option, Some, None, option_map, IfSome, if◌then◌else◌}
use Rattle.std.specs.List.{All}
use Rattle.std.specs.Str.{bytes_eq}
use Rattle.value_core.specs.RowPacking.{packed}
use Rattle.value_core.specs.declared.constraint.Constraint.{Constraint}
use Rattle.value_core.specs.Values.{Name, Row, Relation, most_rows}
use Rattle.relation_core.specs.Operators.{united}
use Rattle.relation_core.specs.Hashes.{AreHashesOf}
use Rattle.tree_core.specs.Relvars.{PlainRelvar, base, view, Entries, read_relvars, log}
use Rattle.meaning_core.specs.Names.{IsFirstAt}
use Rattle.u_constraints.specs.Growth.{exchanged}
use Rattle.change_rows.specs.declared.exchange.Exchange.{Exchange}
use Rattle.assign_core.specs.declared.turnover.Known.{Known}
use Rattle.assign_core.specs.declared.turnover.Turnover.{Turnover}
use Rattle.relvar_logs.specs.Changes.{turned_at, IsSoAt}

-- a relation after an exchange of rows
abbrev pub renewed : Relation → Exchange → Relation
renewed value x = record { heading = value.heading; rows = exchanged value.rows x.gone.rows x.come.rows }

abbrev pub renewed_relvar : Exchange → PlainRelvar → PlainRelvar
renewed_relvar x (base value constraints) = base (renewed value x) constraints
renewed_relvar x (view t kind) = view t kind
renewed_relvar x (log of side last w) = log of side last w

-- the relvars after an exchange of rows of the one at a place
abbrev pub renewed_at : ℕ → Exchange → Entries → Entries
renewed_at i x entries = turned_at i (renewed_relvar x) entries

-- what is asked where rows are put among those of a relvar: they have its heading, and are few enough with its own
abbrev pub MayExchange : Exchange → PlainRelvar → Type 0
MayExchange x (base value constraints) = (x.come.heading ≡ value.heading) × (length (united value.rows x.come.rows) ≤ most_rows)
MayExchange x (view t kind) = ⊥
MayExchange x (log of side last w) = ⊥

-- the same of the relvar at a place
abbrev pub IsExchangeAt : ℕ → Exchange → Entries → Type 0
IsExchangeAt i x entries = IsSoAt i (MayExchange x) entries

-- ---- a turnover

abbrev pub before_turnover : Turnover → Entries
before_turnover t = (read_relvars t.relvars.now).relvars

abbrev pub after_turnover : Turnover → Entries
after_turnover t = renewed_at t.at t.rows.now (before_turnover t)

-- the rows are of the base relvar at the place, which is the first of its name and has the value, and are few enough with its own
pub record IsTurnoverOf (entries : Entries) (name : Name) (at : ℕ) (value : Relation) (rows : Exchange) : Type 0 where
  pub constraints : List Constraint
  pub first : IsFirstAt entries name at (base value constraints)
  pub come : rows.come.heading ≡ value.heading
  pub gone : rows.gone.heading ≡ value.heading
  pub few : length (united value.rows rows.come.rows) ≤ most_rows

abbrev pub IsTurnover : Turnover → Type 0
IsTurnover t = IsTurnoverOf (before_turnover t) t.name.now t.at t.value.now t.rows.now

-- the new value, where it stands ready, is that after the exchange
abbrev pub IsMade : Turnover → Type 0
IsMade t = IfSome t.new (λ v. v.now ≡ renewed t.value.now t.rows.now)

-- rows are packed on a list, if one is given
abbrev pub ArePackedIf : Option (List ℕ) → List Row → Type 0
ArePackedIf None rows = Unit {0}
ArePackedIf (Some commalist) rows = packed commalist rows ≡ rows

-- the hashes are those of a relation's rows, and its rows after the exchange are packed on the list, if one is told
pub record IsKnown (value : Relation) (x : Exchange) (k : Known) : Type 0 where
  pub hashed : All (AreHashesOf value.rows) k.hashes.now
  pub packed : ArePackedIf (option_map (λ l. l.now) k.packed) (renewed value x).rows

-- each row that comes is new, and each that goes was there
abbrev pub IsCounted : Relation → Exchange → Type 0
IsCounted value x = length (exchanged value.rows x.gone.rows x.come.rows) + length x.gone.rows ≡ length value.rows + length x.come.rows

-- the rows of a relvar after the turnover, where it is the one that changes
abbrev pub rows_after : Turnover → Bool → List Row → List Row
rows_after t own rows = if own then exchanged rows t.rows.now.gone.rows t.rows.now.come.rows else rows

-- whether this is the name of the relvar that changes
abbrev pub names_changed : Turnover → Option Name → Bool
names_changed t None = false
names_changed t (Some name) = bytes_eq t.name.now name
