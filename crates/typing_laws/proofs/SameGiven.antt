-- What is given twice is the same.
--     ok-same      two values of one outcome
use Rattle.std.proofs.Common.{◌≡◌, Ok, Err, sym, ap, ◌∙◌}
use Rattle.point_core.specs.Faults.{OrFault}

value-else : {A : Type 0} → A → OrFault A → A
value-else a (Ok x) = x
value-else a (Err e) = a

pub ok-same : {A : Type 0} → (a b : A) (m : OrFault A) → m ≡ Ok a → m ≡ Ok b → a ≡ b
unfolding value-else
ok-same a b m p q = ap (value-else a) (sym p ∙ q)
