-- What a refusal of a text says.
use Rattle.std.proofs.Common.{◌≡◌, ℕ, List, IfOk, Result, Ok, Err, refl, sym, subst}
use Rattle.point_core.specs.declared.fault.Place.{Place}
use Rattle.point_core.specs.declared.memory.Memory.{Memory as MemoryType}
use Rattle.value_core.specs.declared.refuse.Refuse.{Refuse}
use Rattle.value_core.specs.declared.refuse.Refuse.TheVariants.{Plain, At, Broken, Memory}
use Rattle.utd_statement.specs.declared.reading.Parsed.{Parsed}
use Rattle.utd_statement.specs.Readings as readings
use Rattle.utd_statement.specs.Readings.{IsText}
use Rattle.utd_statement.specs.Parsed.{IsRefusal, HasAnswer, reading_of}

-- a refusal that is not want of memory
pub refusal_text : (place : Place) (bytes : List ℕ) (e : Refuse) → (e ≡ Memory → ⊥) → IsRefusal place bytes e → IsText place bytes (readings.Refused e)
refusal_text place bytes Memory n h = absurd (n refl)
refusal_text place bytes (At fault) n h = h
refusal_text place bytes (Plain code) n h = h
refusal_text place bytes (Broken code relvar number) n h = h

-- the reading that a refusal is
pub refused_ok : (place : Place) (bytes : List ℕ) (e : Refuse) (r : Result Parsed MemoryType) → IsRefusal place bytes e → IfOk r (λ p. reading_of p ≡ readings.Refused e) → IfOk r (λ p. e ≡ Memory → ⊥)
    → IfOk r (λ p. IsText place bytes (reading_of p)) × IfOk r (λ p. HasAnswer (reading_of p))
refused_ok place bytes e (Ok p) h same not =
    let text = refusal_text place bytes e not h in
    (subst (IsText place bytes) (sym same) text, subst HasAnswer (sym same) not)
refused_ok place bytes e (Err m) h same not = (tt, tt)
