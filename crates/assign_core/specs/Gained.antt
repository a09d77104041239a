-- Rows that a base relvar gains beside its log.
--     less      a relvar without rows that it gained
--     MayGain      the base relvar at a place may gain the rows: it, its log, and all base relvars and logs have room for them
--     IsGain      what stands ready: those rows that it does not have yet
use Rattle.std.specs.Prelude.{◌≡◌, ℕ, [], length, None}
use Rattle.value_core.specs.Values.{Name, Relation, IsRelation}
use Rattle.relation_core.specs.Operators.{subtracted}
use Rattle.tree_core.specs.Relvars.{PlainRelvar, base, view, log, State}
use Rattle.assign_core.specs.declared.gaining.Gain.{Gain}
use Rattle.assign_core.specs.Arrivals.{IsBaseFor}
use Rattle.assign_core.specs.Beside.{FitsBeside}
use Rattle.assign_core.specs.NewRows.{joining}

abbrev pub less : Relation → PlainRelvar → PlainRelvar
less come (base value constraints) = base (record { heading = value.heading; rows = subtracted value.rows come.rows }) constraints
less come (view t kind) = view t kind
less come (log of side last value) = log of side last value

-- the rows may be added to the base relvar of the name, which stands at the place: so many rows more fit in any case
pub record MayGain (s : State) (name : Name) (rows : Relation) (at : ℕ) (old : Relation) : Type 0 where
  pub base : IsBaseFor s.relvars name (joining None) rows at old
  pub own : IsRelation rows
  pub fits : FitsBeside s name (length rows.rows)

pub record IsGain (s : State) (name : Name) (rows : Relation) (g : Gain) : Type 0 where
  pub old : Relation
  pub may : MayGain s name rows g.at old
  pub headed : g.rows.come.heading ≡ rows.heading
  pub new : g.rows.come.rows ≡ subtracted rows.rows old.rows
  pub gone : g.rows.gone ≡ record { heading = old.heading; rows = [] }
