-- The parts of a tree read as the parts of its expression, and a row's values as its plain values.
use Rattle.std.specs.Prelude.{◌≡◌, ℕ, ◌<◌, ◌≤◌, List, map, length, Option, Some, Result, Ok, Err, slice_get, unwrap_or, option_map, false, IsTrue, IfOk, refl}
use Rattle.std.proofs.Common.{sym, ◌∙◌, ap, subst, get_or, arith}
use Rattle.std.proofs.lemmas.Option.{slice_get-map, slice_get_read, slice_get_within}
use Rattle.std.proofs.lemmas.List.{length-map}
use Rattle.point_core.specs.declared.fault.Stop.{Stop}
use Rattle.value_core.specs.declared.kind.Kind.{Kind}
use Rattle.value_core.specs.declared.value.Value.{Value as Held}
use Rattle.value_core.specs.Attributes.{value_at}
use Rattle.value_core.specs.Values.{Value, Row, truth, fits}
use Rattle.value_core.specs.Plain.{plain}
use Rattle.scalar_core.specs.declared.tree.Scalar.{Scalar}
use Rattle.scalar_core.specs.declared.tree.Parts.{Parts, Parts', out-Parts}
use Rattle.scalar_core.specs.Answers.{Gives}
use Rattle.scalar_core.specs.Expressions.{read, read_left, read_right}
use Rattle.scalar_core.specs.Operations.{Meant}

left-is : (p : Parts) → read_left p ≡ read (out-Parts p).left.value
unfolding out-Parts denote.Hole.Carrier.out
left-is (Parts' a place form b other_place other_form) = refl

right-is : (p : Parts) → read_right p ≡ read (out-Parts p).right.value
unfolding out-Parts denote.Hole.Carrier.out
right-is (Parts' a other_place other_form b place form) = refl

pub read_left-read : (p : Parts) (e : Scalar) → e ≡ (out-Parts p).left.value → read_left p ≡ read e
read_left-read p e same = left-is p ∙ ap read (sym same)

pub read_right-read : (p : Parts) (e : Scalar) → e ≡ (out-Parts p).right.value → read_right p ≡ read e
read_right-read p e same = right-is p ∙ ap read (sym same)

-- the value at a position
pub value_at-plain : (held : List Held) (row : Row) (i : ℕ) (v : Held) → map plain held ≡ row → i < length held → v ≡ get_or held i v → plain v ≡ value_at row i
value_at-plain held row i v same within e =
    let at : slice_get held i ≡ Some v = slice_get_read held (length held) i v refl within e in
    let mapped : slice_get (map plain held) i ≡ Some (plain v) = slice_get-map plain held i ∙ ap (option_map plain) at in
    let found : slice_get row i ≡ Some (plain v) = subst (λ (r : Row). slice_get r i ≡ Some (plain v)) same mapped in
    sym (ap (λ (o : Option Value). unwrap_or o (truth false)) found)

pub no_value_past : (held : List Held) (row : Row) (i : ℕ) (v : Value) → map plain held ≡ row → length held ≤ i → slice_get row i ≡ Some v → ⊥
no_value_past held row i v same past found =
    let within : i < length row = slice_get_within row i v found in
    let equal : length (map plain held) ≡ length row = ap length same in
    omega (arith, length-map held plain)

-- an answer of the kind that is meant
pub gives-kind : (r : Result Held Stop) (m : Meant) (kind : Kind) → Gives plain r m → ((v : Value) → m ≡ Ok v → IsTrue (fits kind v)) →
    IfOk r (λ v. IsTrue (fits kind (plain v)))
gives-kind (Ok v) m kind given of_kind = of_kind (plain v) given
gives-kind (Err s) m kind given of_kind = tt
