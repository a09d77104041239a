-- The typing of TYPE.
--     ordinal_declared state name values      the ordinal type, or the first refusal
use Rattle.std.specs.Prelude.{not, List, [], ◌∷◌, ◌++◌, length, nat_le, nat_lt, Ok}
use Rattle.point_core.specs.declared.fault.Code.TheVariants.{E15, E22}
use Rattle.point_core.specs.Faults.{OrFault}
use Rattle.utd_syntax.specs.Plain as syntax
use Rattle.utd_syntax.specs.Plain.{Word, SomeNamesP}
use Rattle.value_core.specs.Limits.{most_ordinal_types, most_ordinal_values}
use Rattle.value_core.specs.Values.{Name}
use Rattle.scalar_typing.specs.Typings.{◌>>=◌}
use Rattle.relation_typing.specs.Attributes.{name_typed}
use Rattle.tree_core.specs.Relvars.{State}
use Rattle.meaning_core.specs.Declarations.{PlainDeclaration, ordinal_type}
use Rattle.declaration_typing.specs.Names.{new_name}
use Rattle.node_typing.specs.Positions.{check}
use Rattle.node_typing.specs.Lists.{named_in}

-- one value more: E15 at a name that stood before
abbrev pub with_value : List Name → Word → OrFault (List Name)
with_value before w = do
  name ← name_typed w
  new ← check w.place E15 (not (named_in before name))
  Ok (before ++ name ∷ [])

-- the values behind those so far
abbrev pub values_typed : List Name → List Word → OrFault (List Name)
values_typed before [] = Ok before
values_typed before (w ∷ rest) = do
  next ← with_value before w
  values_typed next rest

-- then E22 at `{` above the most values
abbrev pub few_values : SomeNamesP → OrFault (List Name)
few_values (syntax.SomeNames at first more) = do
  values ← values_typed [] (first ∷ more)
  few ← check at E22 (nat_le (length values) most_ordinal_values)
  Ok values

-- E11 at the name, the values, and E22 at the name where there are the most types
unfoldable pub ordinal_declared : State → Word → SomeNamesP → OrFault PlainDeclaration
ordinal_declared s w list = do
  name ← new_name s w
  values ← few_values list
  room ← check w.place E22 (nat_lt (length s.ordinals) most_ordinal_types)
  Ok (ordinal_type name values)
