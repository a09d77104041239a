-- Changes that stand ready for base relvars: new values, and rows that come and others that go.
--     ArePrepared      what is asked of them
--     exchanged_by      the relvars after them
--     AreValues, IsValueFor, values_from      new values alone
--     replaced      changes that are taken back by those that are left in their places
--     IsReady, with_ready      what stands ready, and the relvars with it
--     HasRoom, IsHeld, refilled      rows that are taken out of a relation, and there is room for others among them
use Rattle.std.specs.Prelude.{◌≡◌, ◌≢◌, ℕ, zero, suc, ◌+◌, ◌≤◌, List, [], ◌∷◌, ◌++◌, length, drop, Option, None, Some}
use Rattle.std.specs.List.{All}
use Rattle.std.specs.Vec.{vec_len, vec_capacity}
use Rattle.value_core.specs.Values.{Relation, IsRelation, most_rows}
use Rattle.relation_core.specs.Operators.{united}
use Rattle.tree_core.specs.Relvars.{PlainRelvar, base, view, Entries, log}
use Rattle.meaning_core.specs.Names.{with_value}
use Rattle.change_rows.specs.declared.exchange.Exchange.{Exchange}
use Rattle.assign_core.specs.declared.exchange.Change.{Change}
use Rattle.assign_core.specs.declared.exchange.Change.TheVariants.{Value, Rows}
use Rattle.assign_core.specs.declared.exchange.Ready.{Ready}
use Rattle.assign_core.specs.declared.room.Held.{Held}
use Rattle.relvar_logs.specs.Changes.{Changes, IsChange, turned_at, IsSoAt}
use Rattle.assign_core.specs.Changes.{value_there}
use Rattle.assign_core.specs.Hashed.{IsHashesOf}
use Rattle.assign_core.specs.Turnovers.{renewed_relvar, MayExchange}

-- ---- changes

abbrev pub place_of : Change → ℕ
place_of (Value at value) = at
place_of (Rows at rows) = at

-- a relvar after the change
abbrev pub turned : Change → PlainRelvar → PlainRelvar
turned (Value at value) r = with_value value r
turned (Rows at rows) r = renewed_relvar rows r

-- the change is one of this relvar
abbrev pub MayTurn : Change → PlainRelvar → Type 0
MayTurn (Value at value) r = IsChange (Some value) r
MayTurn (Rows at rows) r = MayExchange rows r

-- none of them is at the place
abbrev pub AreElsewhere : ℕ → List Change → Type 0
AreElsewhere i [] = Unit {0}
AreElsewhere i (c ∷ cs) = (place_of c ≢ i) × AreElsewhere i cs

-- each is a change of the base relvar at its place, and their places differ
abbrev pub ArePrepared : List Change → Entries → Type 0
ArePrepared [] entries = Unit {0}
ArePrepared (c ∷ cs) entries = IsSoAt (place_of c) (MayTurn c) entries × AreElsewhere (place_of c) cs × ArePrepared cs entries

-- the relvars after all of them
abbrev pub exchanged_by : List Change → Entries → Entries
exchanged_by [] entries = entries
exchanged_by (c ∷ cs) entries = turned_at (place_of c) (turned c) (exchanged_by cs entries)

abbrev pub AreValues : List Change → Type 0
AreValues [] = Unit {0}
AreValues (Value at value ∷ cs) = AreValues cs
AreValues (Rows at rows ∷ cs) = ⊥

-- what is left in the place of a new value: the one that it replaces
abbrev pub replaced : Entries → Change → Change
replaced entries (Value at value) = Value at (value_there at value entries)
replaced entries (Rows at rows) = Rows at rows

-- a new value that comes to the same
abbrev pub IsValueFor : Entries → Change → Change → Type 0
IsValueFor entries c d = (place_of d ≡ place_of c) × AreValues (d ∷ []) × IsSoAt (place_of c) (λ r. MayTurn d r × (turned d r ≡ turned c r)) entries

-- new values as changes, the first of them at a place
abbrev pub value_here : ℕ → Option Relation → List Change
value_here i None = []
value_here i (Some value) = Value i value ∷ []

abbrev pub values_from : ℕ → Changes → List Change
values_from i [] = []
values_from i (c ∷ cs) = value_here i c ++ values_from (suc i) cs

-- ---- what stands ready

abbrev pub IsReady : Ready → Entries → Type 0
IsReady r entries = ArePrepared r.changes.items entries

-- the relvars with what stands ready for them
abbrev pub with_ready : Ready → Entries → Entries
with_ready r entries = exchanged_by r.changes.items entries

-- ---- rows that are held

-- among rows, so many of them in front to be overwritten, there is room for others: in their places if there are some, else behind all
abbrev pub HasRoom : ℕ → ℕ → ℕ → ℕ → Type 0
HasRoom zero long capacity more = long + more ≤ capacity
HasRoom (suc n) long capacity more = (suc n ≡ more) × (more ≤ long)

-- a relation that has the rows again
abbrev pub refilled : Held → Relation → Relation
refilled h value = record { heading = value.heading; rows = drop h.empty h.rows.items }

abbrev pub refilled_relvar : Held → PlainRelvar → PlainRelvar
refilled_relvar h (base value constraints) = base (refilled h value) constraints
refilled_relvar h (view t kind) = view t kind
refilled_relvar h (log of side last w) = log of side last w

-- the rows are those of the relation that is left, with their hashes, and there is room for those that come
pub record IsHeld (value : Relation) (h : Held) (x : Exchange) : Type 0 where
  pub relation : IsRelation (refilled h value)
  pub headed : x.come.heading ≡ value.heading
  pub few : length (united (drop h.empty h.rows.items) x.come.rows) ≤ most_rows
  pub hashes : All (IsHashesOf value.heading (drop h.empty h.rows.items)) h.hashes.items
  pub room : HasRoom h.empty (vec_len h.rows) (vec_capacity h.rows) (length x.come.rows)

abbrev pub IsHeldOf : Held → Exchange → PlainRelvar → Type 0
IsHeldOf h x (base value constraints) = IsHeld value h x
IsHeldOf h x (view t kind) = ⊥
IsHeldOf h x (log of side last w) = ⊥

-- the same for any change: for a new value nothing is held
abbrev pub filled : Option Held → PlainRelvar → PlainRelvar
filled None r = r
filled (Some h) r = refilled_relvar h r

abbrev pub IsHeldFor : Change → Option Held → PlainRelvar → Type 0
IsHeldFor (Value at value) None r = IsChange (Some value) r
IsHeldFor (Value at value) (Some h) r = ⊥
IsHeldFor (Rows at rows) None r = ⊥
IsHeldFor (Rows at rows) (Some h) r = IsHeldOf h rows r
