-- What has no fault gives the same elsewhere.
--     Gives m n      where m is a value, n is that value; of a fault nothing is said
use Rattle.std.specs.Prelude.{◌≡◌, Result, Ok}

abbrev pub Gives : {X F : Type 0} → Result X F → Result X F → Type 0
Gives {X} m n = (x : X) → m ≡ Ok x → n ≡ Ok x
