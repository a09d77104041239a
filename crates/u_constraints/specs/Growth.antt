-- Which rows tell whether a constraint that holds still holds where rows come and others go.
--     exchanged      the rows after some have come and then others have gone
--     is_history      whether a constraint is that of a history
--     outside_below      the positions below a number that are not unpacked
--     telling      the positions whose values tell which rows a new one is held against
--     only_unpacked      the attribute that alone is unpacked
--     Tells      whether some of the rows, with those that come, tell it
use Rattle.std.specs.Prelude.{◌≡◌, ℕ, zero, suc, Bool, true, false, List, [], ◌∷◌, ◌++◌, Option, Some, None, if◌then◌else◌}
use Rattle.cell_packing.specs.Covering.{Among}
use Rattle.value_core.specs.Attributes.{among}
use Rattle.value_core.specs.declared.constraint.Constraint.{Constraint}
use Rattle.value_core.specs.declared.constraint.Constraint.TheVariants.{Key, Packed, WhenUnpacked, UKey, Foreign, History}
use Rattle.value_core.specs.Values.{Row}
use Rattle.relation_core.specs.Operators.{subtracted, united}
use Rattle.u_row.specs.Kept.{unlisted}
use Rattle.u_constraints.specs.Constraints.{broken}

-- the rows after some have come and then others have gone
abbrev pub exchanged : List Row → List Row → List Row → List Row
exchanged rows gone come = subtracted (united rows come) gone

abbrev pub is_history : Constraint → Bool
is_history (History h) = true
is_history _ = false

-- the positions below the number that are not unpacked
abbrev pub outside_below : List ℕ → ℕ → List ℕ
outside_below commalist zero = []
outside_below commalist (suc n) = if among commalist n then outside_below commalist n else outside_below commalist n ++ n ∷ []

-- of a relvar with so many attributes, positions where rows have the same values that the constraint holds against one another: those of
-- its key, or else all, without what is unpacked. None where it holds rows against those of another relvar
abbrev pub telling : Constraint → ℕ → Option (List ℕ)
telling (Key k) many = Some k
telling (Packed commalist) many = Some (outside_below commalist many)
telling (WhenUnpacked commalist k) many = Some (unlisted commalist k)
telling (UKey commalist k) many = Some (unlisted commalist k)
telling (Foreign commalist here name there) many = None
telling (History h) many = None

-- the position that a list alone has
abbrev pub only : List ℕ → Option ℕ
only (i ∷ []) = Some i
only _ = None

-- the attribute that the constraint alone unpacks, where it holds the rows of one relvar against one another
abbrev pub only_unpacked : Constraint → Option ℕ
only_unpacked (Packed commalist) = only commalist
only_unpacked (WhenUnpacked commalist k) = only commalist
only_unpacked (UKey commalist k) = only commalist
only_unpacked _ = None

-- some of the rows: whichever go, these and the rows that come break what all break, where the rows broke nothing before
pub record Tells (c : Constraint) (rows come some : List Row) : Type 0 where
  pub within : (x : Row) → Among x some → Among x rows
  pub same : (gone others : List Row) → broken c rows others ≡ None → broken c (exchanged some gone come) others ≡ broken c (exchanged rows gone come) others
