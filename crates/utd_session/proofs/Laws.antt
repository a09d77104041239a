-- A statement has one reading and no more than one, and so has the machine a step after each number of statements.
use Rattle.std.proofs.Common.{◌≡◌, ℕ, Bool, true, false, nat_le, List, [], ◌∷◌, length, take, refl, sym, ap, ◌∙◌}
use Rattle.point_core.specs.declared.fault.Place.{Place}
use Rattle.point_core.specs.declared.fault.Code.TheVariants.{E03, E04}
use Rattle.value_core.specs.declared.refuse.Refuse.TheVariants as refuses
use Rattle.utd_statement.specs.Readings.{Reading, Refused}
use Rattle.utd_statement.proofs.ReadingLaws.{text_one, text_some}
use Rattle.utd_session.specs.Statements.{Statement, Complete, Incomplete}
use Rattle.utd_session.specs.Readings.{IsShort, IsReading, AreReadings, most_in_statement}
use Rattle.utd_session.specs.Machine.{Step, performed}
use Rattle.utd_session.specs.Run.{IsAfter}

short_one : (t : Bool) (place : Place) (bytes : List ℕ) (a b : Reading) → IsShort t place bytes a → IsShort t place bytes b → a ≡ b
short_one true place bytes a b h k = text_one place bytes a b h k
short_one false place bytes a b h k = h ∙ sym k

-- a statement has one reading
pub reading_one : (s : Statement) (a b : Reading) → IsReading s a → IsReading s b → a ≡ b
reading_one (Complete place bytes) a b h k = short_one (nat_le (length bytes) most_in_statement) place bytes a b h k
reading_one Incomplete a b h k = h ∙ sym k

pub readings_one : (ss : List Statement) (rs us : List Reading) → AreReadings ss rs → AreReadings ss us → rs ≡ us
readings_one [] [] [] h k = refl
readings_one [] (r ∷ rs) us h k = absurd h
readings_one [] [] (u ∷ us) h k = absurd k
readings_one (s ∷ ss) [] us h k = absurd h
readings_one (s ∷ ss) (r ∷ rs) [] h k = absurd k
readings_one (s ∷ ss) (r ∷ rs) (u ∷ us) h k = λ i. reading_one s r u h.0 k.0 i ∷ readings_one ss rs us h.1 k.1 i

-- and the machine one step after the first j
pub step_one : (ss : List Statement) (j : ℕ) (a b : Step) → IsAfter ss j a → IsAfter ss j b → a ≡ b
step_one ss j a b (rs, h, p) (us, k, q) = p ∙ ap performed (readings_one (take j ss) rs us h k) ∙ sym q

-- ---- and they have one

short_some : (t : Bool) (place : Place) (bytes : List ℕ) → (r : Reading) × IsShort t place bytes r
short_some true place bytes = text_some place bytes
short_some false place bytes = (Refused (refuses.Plain E03), refl)

pub reading_some : (s : Statement) → (r : Reading) × IsReading s r
reading_some (Complete place bytes) = short_some (nat_le (length bytes) most_in_statement) place bytes
reading_some Incomplete = (Refused (refuses.Plain E04), refl)

pub readings_some : (ss : List Statement) → (rs : List Reading) × AreReadings ss rs
readings_some [] = ([], tt)
readings_some (s ∷ ss) =
    let (r, first) = reading_some s in
    let (rs, others) = readings_some ss in (r ∷ rs, (first, others))

pub step_some : (ss : List Statement) (j : ℕ) → (step : Step) × IsAfter ss j step
step_some ss j = let (rs, h) = readings_some (take j ss) in (performed rs, (rs, h, refl))
