-- How long names and texts are, and what a text is.
use Rattle.std.specs.Prelude.{◌≡◌, ℕ, ◌≤◌, Bool, false, not, ◌&&◌, nat_eq, nat_le, nat_lt, IsTrue, List, length, Option, Some, None}
use Rattle.std.specs.List.{list_any}
use Rattle.std.specs.Str.Lossy.{utf8_valid_len}
use Rattle.value_core.specs.Limits.{most_name_bytes, most_text_bytes}

-- a name has 1 to 64 bytes
abbrev pub IsNameLength : List ℕ → Type 0
IsNameLength bytes = (1 ≤ length bytes) × (length bytes ≤ most_name_bytes)

-- a text has at most 255 bytes
abbrev pub IsTextLength : List ℕ → Type 0
IsTextLength bytes = length bytes ≤ most_text_bytes

-- bytes that are UTF-8
abbrev pub is_utf8 : List ℕ → Bool
is_utf8 bytes = nat_eq (utf8_valid_len bytes) (length bytes)

-- a character below the space
abbrev pub has_control : List ℕ → Bool
has_control bytes = list_any (λ c. nat_lt c 32) bytes

-- a text is UTF-8, not too long, and has no character below the space: so it can be written between quotes
abbrev pub is_text : List ℕ → Bool
is_text bytes = is_utf8 bytes && (nat_le (length bytes) most_text_bytes && not (has_control bytes))

-- the bytes as a text, or none where they are none
abbrev pub IsTextOf : List ℕ → Option (List ℕ) → Type 0
IsTextOf bytes None = is_text bytes ≡ false
IsTextOf bytes (Some t) = (t ≡ bytes) × IsTrue (is_text bytes)
