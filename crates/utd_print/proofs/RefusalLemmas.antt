-- The number of a constraint in the line of a refusal.
use Rattle.std.proofs.Common.{◌≡◌, ℕ, List, ◌++◌, Result, Ok, Err, OnOk, codes, decimal, append_assoc, refl, sym, ◌∙◌, ap}
use Rattle.point_core.specs.declared.fault.Code.{Code}
use Rattle.point_core.specs.declared.fault.Code.TheVariants.{E45}
use Rattle.utd_print.specs.Lines.{number_text}

-- each code but that of a database constraint has it
numbered : (code : Code) (n : ℕ) → (code ≡ E45 → ⊥) → codes " constraint " ++ decimal n ≡ number_text code n
numbered E45 n other = absurd (other refl)
numbered code n other = refl

-- it is written behind its words
pub put-number : {A E : Type 0} (code : Code) (n : ℕ) → (code ≡ E45 → ⊥) → (old words new : List ℕ) (r : Result A E)
    → words ≡ old ++ codes " constraint " → OnOk r (new ≡ words ++ decimal n) → OnOk r (new ≡ old ++ number_text code n)
put-number code n other old words new (Ok done) e put =
    put ∙ (ap (λ (x : List ℕ). x ++ decimal n) e ∙ (append_assoc old (codes " constraint ") (decimal n) ∙ ap (λ (t : List ℕ). old ++ t) (numbered code n other)))
put-number code n other old words new (Err fault) e put = put
