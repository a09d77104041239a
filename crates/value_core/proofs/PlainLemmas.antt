-- Values at positions of a row, and their plain forms.
use Rattle.std.specs.Prelude.{◌≡◌, ℕ, zero, suc, [], ◌∷◌, set, refl}
use Rattle.std.proofs.Common.{ap, ◌<◌, List, length, map, get_or, sym, ◌∙◌}
use Rattle.std.proofs.lemmas.List.{get_or-map}
use Rattle.value_core.specs.Attributes.{value_at}
use Rattle.value_core.specs.Values.{Value as PlainValue, Row}
use Rattle.value_core.specs.declared.value.Value.{Value}
use Rattle.value_core.specs.Plain.{plain}

pub set_elsewhere : (row : Row) (i j : ℕ) (v : PlainValue) → (j ≡ i → ⊥) → value_at (set row i v) j ≡ value_at row j
set_elsewhere [] i j v other = refl
set_elsewhere (u ∷ row) zero zero v other = absurd (other refl)
set_elsewhere (u ∷ row) zero (suc j) v other = refl
set_elsewhere (u ∷ row) (suc i) zero v other = refl
set_elsewhere (u ∷ row) (suc i) (suc j) v other = set_elsewhere row i j v (λ e. other (ap suc e))

pub plain_at : (xs : List Value) (i : ℕ) (x : Value) → i < length xs → x ≡ get_or xs i x → plain x ≡ get_or (map plain xs) i (plain x)
plain_at xs i x within is = ap plain is ∙ sym (get_or-map plain xs i x (plain x) within)
