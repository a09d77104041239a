-- A new value that stands ready alone, and the rows by which it differs from the old one.
--     IsOnlyAt      no place but one has a new value
--     IsOnly      the base relvar at that place, with both values
--     IsDifference      the rows that come and those that go
use Rattle.std.specs.Prelude.{◌≡◌, ℕ, zero, suc, List, [], ◌∷◌, Option, Some, None}
use Rattle.value_core.specs.declared.constraint.Constraint.{Constraint}
use Rattle.value_core.specs.Values.{Name, Relation}
use Rattle.tree_core.specs.Relvars.{PlainRelvar, base, Entries}
use Rattle.change_rows.specs.declared.exchange.Exchange.{Exchange}
use Rattle.assign_core.specs.declared.checking.After.{After}
use Rattle.assign_core.specs.declared.differences.Only.{Only}
use Rattle.assign_core.specs.Breaches.{value_of}
use Rattle.relvar_logs.specs.Changes.{Changes}
use Rattle.assign_core.specs.Checks.{before}
use Rattle.assign_core.specs.Turnovers.{renewed}

abbrev pub AreNone : Changes → Type 0
AreNone [] = Unit {0}
AreNone (c ∷ cs) = (c ≡ None) × AreNone cs

-- no other place has a new value
abbrev pub IsOnlyAt : ℕ → Changes → Type 0
IsOnlyAt i [] = ⊥
IsOnlyAt zero (c ∷ cs) = AreNone cs
IsOnlyAt (suc i) (c ∷ cs) = (c ≡ None) × IsOnlyAt i cs

-- the place so far, where there is one
abbrev pub AreFound : Option ℕ → Changes → Type 0
AreFound None cs = AreNone cs
AreFound (Some i) cs = IsOnlyAt i cs

-- the entry at a place is the base relvar of the name with the old value, and the new value stands ready there
abbrev pub IsPlaced : Changes → Entries → ℕ → Only → List Constraint → Type 0
IsPlaced [] es i o constraints = ⊥
IsPlaced (c ∷ cs) [] i o constraints = ⊥
IsPlaced (c ∷ cs) (r ∷ es) zero o constraints = (c ≡ Some o.new.now) × (r ≡ (o.name.now, base o.old.now constraints))
IsPlaced (c ∷ cs) (r ∷ es) (suc i) o constraints = IsPlaced cs es i o constraints

pub record IsOnly (a : After) (o : Only) : Type 0 where
  pub constraints : List Constraint
  pub alone : IsOnlyAt o.at a.changes.now
  pub placed : IsPlaced a.changes.now (before a) o.at o constraints

-- the relvar of that name at the place, with its old value and the new one that stands ready
pub record HasBoth (o : Only) (i : ℕ) (n : Name) (r : PlainRelvar) (change : Option Relation) : Type 0 where
  pub at : o.at ≡ i
  pub name : o.name.now ≡ n
  pub old : value_of r ≡ Some o.old.now
  pub new : change ≡ Some o.new.now

-- rows of the heading, by whose exchange the old value becomes the new one
pub record IsDifference (old new : Relation) (x : Exchange) : Type 0 where
  pub come : x.come.heading ≡ old.heading
  pub gone : x.gone.heading ≡ old.heading
  pub is : new ≡ renewed old x
