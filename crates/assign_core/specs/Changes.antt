-- What comes of changes.
--     Tells      nothing is broken, or what is told is the first that is
--     value_or      the value of a base relvar
--     value_there      the value of the base relvar at a place
use Rattle.std.specs.Prelude.{◌≡◌, ℕ, zero, suc, [], ◌∷◌, Option, Some, None, Result, Ok, Err}
use Rattle.value_core.specs.declared.refuse.Refuse.{Refuse}
use Rattle.value_core.specs.declared.refuse.Refuse.TheVariants.{Plain, At, Broken, Memory}
use Rattle.value_core.specs.Values.{Relation}
use Rattle.tree_core.specs.Relvars.{PlainRelvar, base, view, Entries, log}

-- nothing is broken, or what is told is the first that is
abbrev pub Tells : Result (Unit {0}) Refuse → Option Refuse → Type 0
Tells (Ok done) meant = meant ≡ None
Tells (Err (Plain code)) meant = ⊥
Tells (Err (At fault)) meant = ⊥
Tells (Err (Broken code relvar number)) meant = meant ≡ Some (Broken code relvar number)
Tells (Err Memory) meant = Unit {0}

-- the value of a base relvar; other, of a view
abbrev pub value_or : Relation → PlainRelvar → Relation
value_or other (base value constraints) = value
value_or other (view t kind) = other
value_or other (log of side last w) = other

-- ---- one place

-- the value of the base relvar at a place; other, where there is none
abbrev pub value_there : ℕ → Relation → Entries → Relation
value_there i other [] = other
value_there zero other (r ∷ rest) = value_or other r.1
value_there (suc i) other (r ∷ rest) = value_there i other rest
