-- The two relvars of a history as its view joins them.
--     joined      the during relvar's rows, and those of an expression of the since relvar's heading, which last up to a point
--     IsNarrow      there is room for an interval beside the since relvar's attributes
use Rattle.std.specs.Prelude.{◌≤◌, [], ◌∷◌, length}
use Rattle.interval_core.specs.declared.selector.Ends.TheVariants.{Closed}
use Rattle.point_core.specs.declared.fault.Place.{Place}
use Rattle.value_core.specs.declared.kind.Kind.TheVariants.{Span}
use Rattle.value_core.specs.Limits.{most_attributes}
use Rattle.value_core.specs.Values.{Heading}
use Rattle.scalar_core.specs.declared.operators.PairOp.TheVariants.{Select}
use Rattle.scalar_core.specs.Expressions.{Expr, attribute, pair}
use Rattle.relation_core.specs.Agreement.{position_of}
use Rattle.tree_core.specs.declared.tree.InfixWord.TheVariants.{Union}
use Rattle.tree_core.specs.Trees.{Tree, named, infix_of, project, extend, using}
use Rattle.meaning_core.specs.Histories.{joined_history, with_attribute, all_but}
use Rattle.since_during.specs.declared.joining.Sides.{Sides}

-- the since relvar's heading with the during relvar's interval
abbrev pub wide_of : Sides → Heading
wide_of s = with_attribute s.since.now s.span.now (Span s.over)

abbrev pub IsNarrow : Sides → Type 0
IsNarrow s = length (wide_of s) ≤ most_attributes

-- from the since relvar's point up to the end
abbrev pub lasting : Sides → Place → Expr → Expr
lasting s at e = pair (Select Closed s.over) at (attribute at (position_of s.since.now s.point.now)) e

-- the rows with intervals in place of points
abbrev pub narrowed : Sides → Heading → Expr → Tree → Tree
narrowed s wide e t =
    project s.place s.during.now (all_but (position_of wide s.point.now) wide) (extend s.place wide ((s.span.now, e) ∷ []) t)

abbrev pub ended : Sides → Place → Expr → Tree → Tree
ended s at e t = narrowed s (wide_of s) (lasting s at e) t

-- the during relvar's rows beside others, and rows point by point
abbrev pub united : Sides → Tree → Tree
united s t = infix_of s.place s.during.now Union (named s.place s.during.now s.during_name.now) t

abbrev pub at_points : Sides → Tree → Tree
at_points s t = using s.place s.during.now (position_of s.during.now s.span.now ∷ []) t

abbrev pub joined : Sides → Place → Expr → Tree → Tree
joined s at e t = joined_history s.place at s.over s.point.now s.span.now s.during_name.now s.since.now s.during.now e t
