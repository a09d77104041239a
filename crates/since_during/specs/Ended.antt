-- What the relvars of a history get where facts end.
--     both_of      the assignments of an ending, by the sides of its history
use Rattle.std.specs.Prelude.{List, [], ◌∷◌, option_map}
use Rattle.value_core.specs.Values.{Name}
use Rattle.scalar_core.specs.Expressions.{Expr, read}
use Rattle.tree_core.specs.Items.{PlainAssignment}
use Rattle.tree_core.specs.Trees.{Tree, named, restrict}
use Rattle.update_core.specs.Updates.{condition_of, negated}
use Rattle.since_during.specs.Sides.{joined}
use Rattle.since_during.specs.declared.endings.Ending.{Ending}
use Rattle.since_during.specs.declared.joining.Sides.{Sides}

-- the facts that meet the condition
abbrev pub facts : Sides → Name → Expr → Tree
facts s since c = restrict s.place s.since.now c (named s.place s.since.now since)

abbrev pub condition_in : Sides → Ending → Expr
condition_in s e = condition_of s.place (option_map read e.condition.now)

-- the during relvar's rows with the facts that end, and the other facts
abbrev pub with_facts : Sides → Name → Ending → Tree
with_facts s since e = joined s e.at (read e.end.now) (facts s since (condition_in s e))

abbrev pub other_facts : Sides → Name → Ending → Tree
other_facts s since e = facts s since (negated s.place (condition_in s e))

abbrev pub with_ended : Sides → Name → Ending → PlainAssignment
with_ended s since e = record { target = s.during_name.now; tree = with_facts s since e }

abbrev pub without_ended : Sides → Name → Ending → PlainAssignment
without_ended s since e = record { target = since; tree = other_facts s since e }

abbrev pub both_of : Sides → Name → Ending → List PlainAssignment
both_of s since e = with_ended s since e ∷ without_ended s since e ∷ []
