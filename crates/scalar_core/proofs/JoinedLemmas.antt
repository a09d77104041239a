-- Two texts one behind the other.
--     given-short, given-long      what a text that is made of them tells
--     joined-printed      no character of them is below the space
use Rattle.std.proofs.Common.{◌≡◌, ℕ, Bool, true, false, cond, not, ◌&&◌, List, ◌++◌, length, Option, Some, None, Ok, Err, refl, sym, ap, ◌∙◌}
use Rattle.std.specs.Prelude.{nat_le}
use Rattle.std.specs.Bool.{IsTrue}
use Rattle.std.specs.Str.{IsUtf8}
use Rattle.point_core.specs.declared.fault.Place.{Place}
use Rattle.point_core.specs.declared.fault.Code.TheVariants.{E36}
use Rattle.point_core.specs.Faults.{fault}
use Rattle.value_core.specs.declared.kind.Kind.TheVariants.{Char}
use Rattle.value_core.specs.Lengths.{has_control, is_text, IsTextOf}
use Rattle.value_core.specs.Limits.{most_text_bytes}
use Rattle.value_core.specs.Values.{Value, text, fits}
use Rattle.value_core.proofs.TextLemmas.{control-append, text-bytes, text-parts}
use Rattle.scalar_core.specs.Operations.{Meant, joined_text}

pub given-short : (place : Place) (bytes t : List ℕ) → IsTextOf bytes (Some t) → joined_text place bytes ≡ Ok (text t)
given-short place bytes t h =
    ap (λ (b : Bool). cond b (Ok (text bytes)) (Err (fault place E36))) (text-parts bytes h.1).short ∙ ap (λ (z : List ℕ). Ok (text z)) (sym h.0)

short-or : (short printed : Bool) → printed ≡ false → (short && not printed) ≡ false → short ≡ false
short-or false printed e h = refl
short-or true printed e h = sym (ap not e) ∙ h

pub given-long : (place : Place) (bytes : List ℕ) → IsUtf8 bytes → has_control bytes ≡ false → IsTextOf bytes None → joined_text place bytes ≡ Err (fault place E36)
given-long place bytes valid printed h =
    ap (λ (b : Bool). cond b (Ok (text bytes)) (Err (fault place E36)))
    (short-or (nat_le (length bytes) most_text_bytes) (has_control bytes) printed (sym (text-bytes bytes valid) ∙ h))

pub joined-printed : (a b : List ℕ) → IsTrue (fits Char (text a)) → IsTrue (fits Char (text b)) → has_control (a ++ b) ≡ false
joined-printed a b h k = control-append a b (text-parts a h).printed (text-parts b k).printed
