-- What USING asks of an operator behind the operator's own checks: first that the listed attributes are kept (E19), then that
-- expressions are sweepable for them (E18). Positions are those of the listed attributes in the operand's heading.
use Rattle.std.specs.Prelude.{ℕ, not, List, [], ◌∷◌, Ok, Option, Some, None}
use Rattle.point_core.specs.declared.fault.Place.{Place}
use Rattle.point_core.specs.declared.fault.Code.{Code}
use Rattle.point_core.specs.declared.fault.Code.TheVariants.{E18, E19}
use Rattle.point_core.specs.Faults.{OrFault}
use Rattle.utd_syntax.specs.Plain.{Word, SetItemP, SetItem}
use Rattle.value_core.specs.Headings.{has_name}
use Rattle.value_core.specs.Values.{Name, Heading}
use Rattle.scalar_core.specs.Expressions.{Expr}
use Rattle.tree_core.specs.Trees.{PlainSets, PlainAggregateForm, count_rows, sum_of, min_of, max_of, PlainAggregate}
use Rattle.scalar_typing.specs.Typings.{◌>>=◌, refused}
use Rattle.scalar_core.specs.Sweeping.{first_place, named_places, sweep_fault}
use Rattle.node_typing.specs.Lists.{named_in}
use Rattle.node_typing.specs.Positions.{check}

-- ---- attributes that are kept

-- E19 at the first listed name that is no attribute of the heading
abbrev pub all_kept : Heading → List Word → OrFault (Unit {0})
all_kept heading [] = Ok tt
all_kept heading (w ∷ rest) = do
  kept ← check w.place E19 (has_name heading w.bytes)
  all_kept heading rest

-- E19 at the first item that assigns a listed attribute
abbrev pub none_assigned : List Name → List SetItemP → OrFault (Unit {0})
none_assigned names [] = Ok tt
none_assigned names (SetItem w s ∷ rest) = do
  kept ← check w.place E19 (not (named_in names w.bytes))
  none_assigned names rest

-- ---- sweepable expressions

-- the refusal with this code at the place, where there is one
abbrev pub refused_if : Code → Option Place → OrFault (Unit {0})
refused_if code None = Ok tt
refused_if code (Some place) = refused place code

-- E18 at the first name that is in no atom
abbrev pub swept : List ℕ → Expr → OrFault (Unit {0})
swept commalist e = refused_if E18 (sweep_fault commalist e)

-- of items in their order
abbrev pub sets_swept : List ℕ → PlainSets → OrFault (Unit {0})
sets_swept commalist [] = Ok tt
sets_swept commalist (s ∷ rest) = do
  item ← swept commalist s.1
  sets_swept commalist rest

-- E18 at the first name of a listed attribute
abbrev pub names_no : List ℕ → Expr → OrFault (Unit {0})
names_no commalist e = refused_if E18 (first_place (named_places commalist e))

abbrev pub form_names_no : List ℕ → PlainAggregateForm → OrFault (Unit {0})
form_names_no commalist count_rows = Ok tt
form_names_no commalist (sum_of e) = names_no commalist e
form_names_no commalist (min_of e) = names_no commalist e
form_names_no commalist (max_of e) = names_no commalist e

abbrev pub aggregates_name_no : List ℕ → List PlainAggregate → OrFault (Unit {0})
aggregates_name_no commalist [] = Ok tt
aggregates_name_no commalist (g ∷ rest) = do
  item ← form_names_no commalist g.form
  aggregates_name_no commalist rest
