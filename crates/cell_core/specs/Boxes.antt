-- Boxes: lists of intervals, one for each point type.
use Rattle.std.specs.Prelude.{List, [], ◌∷◌}
use Rattle.interval_core.specs.Members.{HasEndsIn}

-- one interval for each type, with its ends among that type's points
abbrev pub IsBox : {T P : Type 0} → (T → P → Type 0) → List T → List (P × P) → Type 0
IsBox IsPoint [] [] = Unit {0}
IsBox IsPoint [] (i ∷ is) = ⊥
IsBox IsPoint (t ∷ ts) [] = ⊥
IsBox IsPoint (t ∷ ts) (i ∷ is) = HasEndsIn IsPoint t i × IsBox IsPoint ts is
