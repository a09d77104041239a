-- What stands before and behind the rows of a dumped script.
--     IsBare      a relvar has no rows
--     StandsEarly      so much is declared, and no relvar has rows
--     StandsLate      so much is declared, and the base relvars have all their rows
use Rattle.std.specs.Prelude.{◌≡◌, List}
use Rattle.std.specs.List.{filter, AllByRecursion}
use Rattle.value_core.specs.Values.{Name}
use Rattle.tree_core.specs.Relvars.{State, PlainRelvar}
use Rattle.meaning_core.specs.WellMade.{IsWellMade}
use Rattle.part_laws.specs.Parts.{without_rows, is_base}
use Rattle.typing_laws.specs.Saying.{Said}
use Rattle.dump_laws.specs.Standing.{Stands}

abbrev pub IsBare : Name × PlainRelvar → Type 0
IsBare e = without_rows e.1 ≡ e.1

pub record StandsEarly (done : List Said) (r : State) : Type 0 where
  pub stands : Stands done r
  pub fits : IsWellMade r
  pub bare : AllByRecursion IsBare r.relvars

pub record StandsLate (w : State) (done : List Said) (r : State) : Type 0 where
  pub stands : Stands done r
  pub fits : IsWellMade r
  pub bases : filter is_base r.relvars ≡ filter is_base w.relvars
