-- Words for what a call answers that may find a fault or want memory.
--     OrFault, then_give, both, first_of_all, least_of_all      values or faults, and which of several counts
use Rattle.std.specs.Prelude.{List, [], ◌∷◌, Result, Ok, Err, if◌then◌else◌}
use Rattle.std.specs.Ordering.{is_lt}
use Rattle.std.specs.declared.cmp.Ordering.{Ordering}

-- f of the value; a fault stays
abbrev pub then_give : {X Y F : Type 0} → Result X F → (X → Result Y F) → Result Y F
then_give (Ok x) f = f x
then_give (Err e) f = Err e

-- two values left to right, the first fault counting
abbrev pub both : {X Y Z F : Type 0} → Result X F → Result Y F → (X → Y → Result Z F) → Result Z F
both x y f = then_give x (λ a. then_give y (f a))

-- all values, or the first fault
abbrev pub first_of_all : {X F : Type 0} → List (Result X F) → Result (List X) F
first_of_all [] = Ok []
first_of_all (x ∷ xs) = both x (first_of_all xs) (λ v vs. Ok (v ∷ vs))

module _ {F : Type 0} (cmp : F → F → Ordering) where
  -- the lesser of two faults
  abbrev pub lesser : F → F → F
  lesser a b = if is_lt (cmp b a) then b else a

  -- a value or a fault, and all values behind it or their least fault
  abbrev pub with_lesser : {X : Type 0} → Result X F → Result (List X) F → Result (List X) F
  with_lesser (Ok v) (Ok vs) = Ok (v ∷ vs)
  with_lesser (Ok v) (Err e) = Err e
  with_lesser (Err d) (Ok vs) = Err d
  with_lesser (Err d) (Err e) = Err (lesser d e)

  -- all values, or the least fault
  abbrev pub least_of_all : {X : Type 0} → List (Result X F) → Result (List X) F
  least_of_all [] = Ok []
  least_of_all (x ∷ xs) = with_lesser x (least_of_all xs)
