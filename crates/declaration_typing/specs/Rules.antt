-- The typing of CONSTRAINT and of DROP CONSTRAINT.
--     rule_scope state      what a database constraint may name
--     rule_declared state name test      the database constraint, or the first refusal
--     rule_dropped state name      the name of the database constraint, or the first refusal
use Rattle.std.specs.Prelude.{nat_le, nat_lt, length, Ok}
use Rattle.point_core.specs.declared.fault.Place.{Place}
use Rattle.point_core.specs.declared.fault.Code.TheVariants.{E10, E22}
use Rattle.point_core.specs.Faults.{OrFault}
use Rattle.utd_syntax.specs.Plain.{Word, TestP}
use Rattle.value_core.specs.Limits.{most_nodes, most_rules}
use Rattle.value_core.specs.Values.{Name}
use Rattle.scalar_typing.specs.Typings.{◌>>=◌}
use Rattle.relation_typing.specs.Attributes.{name_typed}
use Rattle.tree_core.specs.Relvars.{State}
use Rattle.tree_core.specs.Trees.{Test}
use Rattle.meaning_core.specs.Logs.{over_log}
use Rattle.node_typing.specs.Positions.{check}
use Rattle.tree_typing.specs.Scopes.{Scope}
use Rattle.tree_typing.specs.Trees.{test_typed_in}
use Rattle.declaration_typing.specs.Names.{is_rule, new_name}
use Rattle.declaration_typing.specs.Nodes.{test_nodes}

-- E22 there above the most nodes, and where there are the most database constraints
abbrev pub room_for_rule : State → Place → Test → OrFault (Unit {0})
room_for_rule s place t = do
  few ← check place E22 (nat_le (test_nodes s.relvars t) most_nodes)
  check place E22 (nat_lt (length s.rules) most_rules)

-- a database constraint names no log, itself or through views
abbrev pub rule_scope : State → Scope
rule_scope s = record { state = s; closed = over_log s.relvars }

-- E11 at the name, the test, and E22 at the name
unfoldable pub rule_declared : State → Word → TestP → OrFault (Name × Test)
rule_declared s w test = do
  name ← new_name s w
  t ← test_typed_in (rule_scope s) test
  room ← room_for_rule s w.place t
  Ok (name, t)

-- E10 at a name that is no database constraint
unfoldable pub rule_dropped : State → Word → OrFault Name
rule_dropped s w = do
  name ← name_typed w
  known ← check w.place E10 (is_rule s name)
  Ok name
