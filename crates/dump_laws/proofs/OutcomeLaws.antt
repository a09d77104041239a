-- Answers that are equal.
--     given-same      two values that are given
--     never-given      a fault is no value
use Rattle.std.proofs.Common.{◌≡◌, Result, Ok, Err, sym, ◌∙◌, ap, subst}

abbrev value_else : {A E : Type 0} → A → Result A E → A
value_else other (Ok x) = x
value_else other (Err e) = other

abbrev IsFault : {A E : Type 0} → Result A E → Type 0
IsFault (Ok x) = ⊥
IsFault (Err e) = Unit {0}

pub given-same : {A E : Type 0} → (x y : A) (r : Result A E) → r ≡ Ok x → r ≡ Ok y → x ≡ y
given-same x y r e d = ap (value_else x) (sym e ∙ d)

pub never-given : {A E : Type 0} → (x : A) (fault : E) (r : Result A E) → r ≡ Err fault → r ≡ Ok x → ⊥
never-given x fault r e d = subst IsFault (sym e ∙ d) tt
