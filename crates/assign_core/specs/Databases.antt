-- The states of databases.
--     IsKept      what the state of a database keeps
--     IsSettled      the state gets other relvars, unless these break a database constraint
--     declared      the state with what a list declares
use Rattle.std.specs.Prelude.{◌≡◌, pos, ◌≤◌, true, List, [], None, Result, Ok, Err, fold}
use Rattle.std.specs.List.{All}
use Rattle.value_core.specs.Limits.{most_rows_in_all}
use Rattle.value_core.specs.declared.refuse.Refuse.{Refuse}
use Rattle.tree_core.specs.Relvars.{Entries, State}
use Rattle.meaning_core.specs.Declarations.{PlainDeclaration, with_declaration}
use Rattle.meaning_core.specs.Truths.{holds_in}
use Rattle.meaning_core.specs.WellMade.{IsWellMade}
use Rattle.assign_core.specs.Breaches.{rows_of_all, first_broken, first_rule_broken}
use Rattle.assign_core.specs.Changes.{Tells}

-- what a database begins with
abbrev pub no_relvars : State
no_relvars = record { ordinals = []; relvars = []; rules = []; accepted = pos 0 }

-- the state is well made, each constraint of its relvars and each database constraint holds, and the base relvars have at most 200,000 rows
-- together
pub record IsKept (s : State) : Type 0 where
  pub well_made : IsWellMade s
  pub holds : first_broken s.relvars ≡ None
  pub few : rows_of_all s.relvars ≤ most_rows_in_all
  pub rules : All (λ r. holds_in s.relvars r.1 ≡ true) s.rules

-- the state with all that is declared, in the order of the list
abbrev pub declared : State → List PlainDeclaration → State
declared s list = fold with_declaration s list

-- the relvars of the state become these; where a database constraint is broken in them, or memory is wanting, the state stays
abbrev pub IsSettled : Result (Unit {0}) Refuse → State → State → Entries → Type 0
IsSettled (Ok done) old new entries = (first_rule_broken entries old.rules ≡ None) × (new ≡ record old { relvars = entries })
IsSettled (Err refuse) old new entries = Tells (Err refuse) (first_rule_broken entries old.rules) × (new ≡ old)
