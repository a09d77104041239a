-- Attributes that are named, by their positions in a heading.
use Rattle.std.specs.Prelude.{ℕ, ◌+◌, Bool, not, List, [], ◌∷◌, ◌++◌, Ok, Option, Some, None, if◌then◌else◌}
use Rattle.point_core.specs.declared.fault.Place.{Place}
use Rattle.point_core.specs.declared.fault.Code.{Code}
use Rattle.point_core.specs.declared.fault.Code.TheVariants.{E14, E15}
use Rattle.point_core.specs.Faults.{OrFault}
use Rattle.value_core.specs.Attributes.{among}
use Rattle.utd_syntax.specs.Plain.{Word}
use Rattle.value_core.specs.Headings.{has_name}
use Rattle.value_core.specs.Values.{Name, Heading}
use Rattle.relation_core.specs.Agreement.{position_of, as_wanted}
use Rattle.scalar_typing.specs.Typings.{◌>>=◌, refused, value_or}

-- nothing, or the refusal with this code at this place where it does not hold
abbrev pub check : Place → Code → Bool → OrFault (Unit {0})
check place code holds = if holds then Ok tt else refused place code

-- the position of the attribute of the name
abbrev pub position_if : Heading → Name → Option ℕ
position_if heading name = if has_name heading name then Some (position_of heading name) else None

-- E14 at a name that is no attribute
abbrev pub position_typed : Heading → Word → OrFault ℕ
position_typed heading w = value_or w.place E14 (position_if heading w.bytes)

-- and E15 at one that stood before
abbrev pub new_position : Heading → List ℕ → Word → OrFault ℕ
new_position heading before w = do
  at ← position_typed heading w
  new ← check w.place E15 (not (among before at))
  Ok at

-- the positions behind those so far, in the order of the text
abbrev pub positions_typed : Heading → List ℕ → List Word → OrFault (List ℕ)
positions_typed heading before [] = Ok before
positions_typed heading before (w ∷ rest) = do
  at ← new_position heading before w
  positions_typed heading (before ++ at ∷ []) rest

-- the positions from n on that are among the named ones, or those that are not, ascending
abbrev pub kept_from : Bool → List ℕ → ℕ → Heading → List ℕ
kept_from wanted named n [] = []
kept_from wanted named n (a ∷ rest) =
    if as_wanted wanted (among named n) then n ∷ kept_from wanted named (n + 1) rest else kept_from wanted named (n + 1) rest

abbrev pub kept : Bool → List ℕ → Heading → List ℕ
kept wanted named heading = kept_from wanted named 0 heading
