-- Headings and relations on some of the attributes.
--     kind_at, attributes_at      the kind at a position, and the attributes at positions
--     projected      the different parts of rows
--     IsRenamed      a relation with new names of the attributes
use Rattle.std.specs.Prelude.{◌≡◌, ℕ, List, [], ◌∷◌, map, slice_index_or}
use Rattle.value_core.specs.Values.{Name, Row, Heading, Relation, rows_of}
use Rattle.value_core.specs.Headings.{IsHeadingOf}
use Rattle.value_core.specs.declared.kind.Kind.{Kind}
use Rattle.value_core.specs.declared.kind.Kind.TheVariants.{Truth}
use Rattle.relation_core.specs.Agreement.{names_of, position_of, part_of}

-- what stands for an attribute past the end
abbrev pub no_attribute : Name × Kind
no_attribute = ([], Truth)

-- the kind at a position
abbrev pub kind_at : Heading → ℕ → Kind
kind_at heading i = (slice_index_or heading i no_attribute).1

-- the attributes at the positions
abbrev pub attributes_at : List ℕ → Heading → Heading
attributes_at positions heading = map (λ i. slice_index_or heading i no_attribute) positions

-- the different parts of the rows, in order
abbrev pub projected : List ℕ → List Row → List Row
projected positions rows = rows_of (map (part_of positions) rows)

-- the attributes with new names, in the old order
abbrev pub renamed : List Name → Heading → Heading
renamed [] heading = []
renamed (n ∷ names) [] = []
renamed (n ∷ names) (a ∷ rest) = (n, a.1) ∷ renamed names rest

-- where the attributes of a heading stand in a list of attributes
abbrev pub positions_in : Heading → Heading → List ℕ
positions_in list heading = map (position_of list) (names_of heading)

-- the heading has the new names, and each row has its values beside them
pub record IsRenamed (names : List Name) (old new : Relation) : Type 0 where
  pub heading : IsHeadingOf (renamed names old.heading) new.heading
  pub rows : new.rows ≡ projected (positions_in (renamed names old.heading) new.heading) old.rows
