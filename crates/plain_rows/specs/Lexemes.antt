-- Bytes that begin with tokens, whose places are left open.
--     Lexeme      a token without its place
--     AreLexemes      wherever they stand, the bytes are read as these tokens
--     Begins      the bytes begin with these tokens, and these bytes are behind them
use Rattle.std.specs.Prelude.{◌≡◌, ℕ, List, [], ◌∷◌, ◌++◌, map, Bool, true, false, ◌||◌, ◌&&◌, ◌==◌, not, nat_lt}
use Rattle.std.specs.Char.{is_ascii_alphabetic, is_ascii_alphanumeric}
use Rattle.point_core.specs.declared.fault.Place.{Place}
use Rattle.utd_lexer.specs.declared.token.TokenKind.{TokenKind}
use Rattle.utd_lexer.specs.declared.token.Token.{Token}
use Rattle.utd_lexer.specs.Reading.{Reads}
use Rattle.utd_lexer.specs.Tokens.{among, singles, seconds}

-- the kind of a token and its bytes
abbrev pub Lexeme : Type 0
Lexeme = TokenKind × List ℕ

abbrev pub lexeme_of : Token → Lexeme
lexeme_of t = (t.kind, t.bytes)

-- from any place on the bytes are read as these tokens
abbrev pub AreLexemes : List ℕ → List Lexeme → Type 0
AreLexemes bytes ls = (p : Place) → (ts : List Token) × Reads p bytes ts × (map lexeme_of ts ≡ ls)

-- the bytes are read as these tokens and then as the rest is
pub record Begins (bytes : List ℕ) (front : List Lexeme) (rest : List ℕ) : Type 0 where
  pub goes_on : (ls : List Lexeme) → AreLexemes rest ls → AreLexemes bytes (front ++ ls)

-- ---- ASCII

-- a byte of ASCII that begins a word, and one with which a word goes on
abbrev pub begins_word : ℕ → Bool
begins_word c = nat_lt c 128 && (is_ascii_alphabetic c || (c == 95))

abbrev pub continues_word : ℕ → Bool
continues_word c = nat_lt c 128 && (is_ascii_alphanumeric c || (c == 95))

-- nothing is behind, or a byte of ASCII that does not pass
abbrev pub ends_before : (ℕ → Bool) → List ℕ → Bool
ends_before p [] = true
ends_before p (d ∷ rest) = nat_lt d 128 && not (p d)

abbrev pub is_nothing : List ℕ → Bool
is_nothing [] = true
is_nothing (x ∷ xs) = false

-- a symbol of ASCII that no second character makes another or a comment
abbrev pub is_lone : ℕ → Bool
is_lone c = (among c singles && is_nothing (seconds c)) && (not (c == 47) && nat_lt c 128)

abbrev pub all_continue : List ℕ → Bool
all_continue [] = true
all_continue (c ∷ cs) = continues_word c && all_continue cs

-- a word of ASCII
abbrev pub is_word : List ℕ → Bool
is_word [] = false
is_word (c ∷ cs) = begins_word c && all_continue cs

-- a byte of a text that is no quote and no control character
abbrev pub is_text_byte : ℕ → Bool
is_text_byte c = not (c == 39) && not (nat_lt c 32)

-- a `'`, with which a text goes on
abbrev pub is_quote : ℕ → Bool
is_quote c = c == 39

-- the `=` with which a `:` is another symbol
abbrev pub is_equal_sign : ℕ → Bool
is_equal_sign c = c == 61
