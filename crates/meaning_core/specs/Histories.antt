-- The view of a history: what lasts, up to the last point, beside what has ended.
--     joined_history      a during relvar and an expression of its since relvar's heading, as one relation
use Rattle.std.specs.Prelude.{ℕ, List, [], ◌∷◌, nat_eq, not, filter, slice_index_or}
use Rattle.interval_core.specs.declared.selector.Ends.TheVariants.{Closed}
use Rattle.point_core.specs.declared.fault.Place.{Place}
use Rattle.point_core.specs.declared.any_type.AnyType.{AnyType}
use Rattle.point_core.specs.declared.any_type.AnyType.TheVariants.{Integer}
use Rattle.point_core.specs.Points.{line_of, last_of}
use Rattle.base_core.specs.Sets.{in_order}
use Rattle.value_core.specs.declared.kind.Kind.{Kind}
use Rattle.value_core.specs.declared.kind.Kind.TheVariants.{Truth, Char, Point, Span}
use Rattle.value_core.specs.Values.{Name, Heading, attribute_cmp, point}
use Rattle.scalar_core.specs.declared.operators.PairOp.TheVariants.{Select}
use Rattle.scalar_core.specs.Expressions.{Expr, constant, attribute, pair}
use Rattle.relation_core.specs.Agreement.{names_of, position_of}
use Rattle.relation_core.specs.Parts.{no_attribute, kind_at}
use Rattle.tree_core.specs.Trees.{Tree, named, infix_of, project, extend, using}
use Rattle.tree_core.specs.declared.tree.InfixWord.TheVariants.{Union}
use Rattle.meaning_core.specs.Meanings.{positions_of}

-- a heading with one attribute more
abbrev pub with_attribute : Heading → Name → Kind → Heading
with_attribute heading name kind = in_order attribute_cmp ((name, kind) ∷ heading)

-- the positions but one
abbrev pub all_but : ℕ → Heading → List ℕ
all_but i heading = filter (λ j. not (nat_eq i j)) (positions_of heading (names_of heading))

abbrev pub last_point : Place → AnyType → Expr
last_point place t = constant place (Point t) (point (line_of t) (last_of t))

-- the type of the points at a position
abbrev pub type_of_kind : Kind → AnyType
type_of_kind Truth = Integer
type_of_kind Char = Integer
type_of_kind (Point t) = t
type_of_kind (Span t) = t

abbrev pub type_at : Heading → ℕ → AnyType
type_at heading i = type_of_kind (kind_at heading i)

abbrev pub name_at : Heading → ℕ → Name
name_at heading i = (slice_index_or heading i no_attribute).0

-- USING (i): d UNION ((EXTEND t : {i := [p:e]}) {ALL BUT p}), for an expression t of the since relvar's heading
abbrev pub joined_history : Place → Place → AnyType → Name → Name → Name → Heading → Heading → Expr → Tree → Tree
joined_history place at over p i d since during e t =
    let wide = with_attribute since i (Span over) in
    using place during (position_of during i ∷ []) (infix_of place during Union
    (named place during d)
    (project place during (all_but (position_of wide p) wide)
    (extend place wide ((i, pair (Select Closed over) at (attribute at (position_of since p)) e) ∷ []) t)))
