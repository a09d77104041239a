-- What the bytes of a statement are read as, and when they are refused.
use Rattle.std.specs.Prelude.{◌≡◌, ◌⊎◌, ◌≤◌, ℕ, List, ◌++◌, length, take, drop, encode_utf8_all}
use Rattle.std.specs.Str.{IsUtf8, chars}
use Rattle.std.specs.Str.Lossy.{utf8_valid_len}
use Rattle.point_core.specs.declared.fault.Fault.{Fault}
use Rattle.point_core.specs.declared.fault.Place.{Place}
use Rattle.point_core.specs.declared.fault.Code.TheVariants.{E01, E02}
use Rattle.point_core.specs.Faults.{fault}
use Rattle.value_core.specs.declared.refuse.Refuse.{Refuse}
use Rattle.value_core.specs.declared.refuse.Refuse.TheVariants.{Plain, At, Broken, Memory}
use Rattle.utd_lexer.specs.declared.token.Token.{Token}
use Rattle.utd_lexer.specs.Tokens.{Fits, Lexed, Stuck, place_after}

-- these are the characters of bytes that are UTF-8
abbrev pub AreCharacters : List ℕ → List ℕ → Type 0
AreCharacters cs bytes = IsUtf8 bytes × (cs ≡ chars bytes)

-- the bytes are not UTF-8, and so many of the first are
abbrev pub IsValidFront : ℕ → List ℕ → Type 0
IsValidFront n bytes = (IsUtf8 bytes → ⊥) × (n ≤ length bytes) × (n ≡ utf8_valid_len bytes)

-- what is known of the text up to a place: what is read from there on, and where that stops, is so of the whole
pub record SoFar (start : Place) (cs : List ℕ) (at : ℕ) (place : Place) (out : List Token) : Type 0 where
  pub within : at ≤ length cs
  pub fits : Fits place (length (encode_utf8_all (drop at cs)))
  pub read : (ts : List Token) → Lexed place (drop at cs) ts → Lexed start cs (out ++ ts)
  pub stuck : (q : Place) → Stuck place (drop at cs) q → Stuck start cs q

-- characters are refused at the first place at which no token begins
abbrev pub Stops : Place → List ℕ → Refuse → Type 0
Stops start cs Memory = Unit {0}
Stops start cs (At f) = Stuck start cs f.place × (f.code ≡ E01)
Stops start cs (Plain code) = ⊥
Stops start cs (Broken code relvar number) = ⊥

-- the bytes are UTF-8, and their characters are these tokens with gaps between them
abbrev pub Reads : Place → List ℕ → List Token → Type 0
Reads start bytes tokens = IsUtf8 bytes × Lexed start (chars bytes) tokens

-- Bytes that are not UTF-8 are refused behind their longest front that is; others by their characters.
abbrev pub Refuses : Place → List ℕ → Refuse → Type 0
Refuses start bytes Memory = Unit {0}
Refuses start bytes (At f) =
    ((IsUtf8 bytes → ⊥) × (f ≡ fault (place_after start (take (utf8_valid_len bytes) bytes)) E02))
    ⊎ (IsUtf8 bytes × Stops start (chars bytes) (At f))
Refuses start bytes (Plain code) = ⊥
Refuses start bytes (Broken code relvar number) = ⊥

-- The bytes have one reading: these tokens and no others, and they are not refused.
pub record IsOnlyReading (start : Place) (bytes : List ℕ) (tokens : List Token) : Type 0 where
  pub others : (list : List Token) → Reads start bytes list → list ≡ tokens
  pub refused : (fault : Fault) → Refuses start bytes (At fault) → ⊥

-- The bytes have one refusal: this code at this place, and they are not read.
pub record IsOnlyRefusal (start : Place) (bytes : List ℕ) (fault : Fault) : Type 0 where
  pub others : (other : Fault) → Refuses start bytes (At other) → other ≡ fault
  pub read : (list : List Token) → Reads start bytes list → ⊥

abbrev pub RefusesOnly : Place → List ℕ → Refuse → Type 0
RefusesOnly start bytes Memory = Unit {0}
RefusesOnly start bytes (At fault) = IsOnlyRefusal start bytes fault
RefusesOnly start bytes (Plain code) = ⊥
RefusesOnly start bytes (Broken code relvar number) = ⊥

-- the bytes are read as tokens, or are refused: every text is
abbrev pub HasReading : Place → List ℕ → Type 0
HasReading start bytes = ((tokens : List Token) × Reads start bytes tokens) ⊎ ((fault : Fault) × Refuses start bytes (At fault))
