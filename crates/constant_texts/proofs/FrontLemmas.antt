-- Texts that are read as tokens wherever they stand, before bytes that go on none of them.
--     IsBehind      these bytes may stand behind a value
--     IsRead bytes ls      before such bytes, the text is read as these tokens
use Rattle.std.proofs.Common.{◌≡◌, ℕ, ◌<◌, lit<, List, [], ◌∷◌, ◌++◌, map, true, false, eqb, ◌||◌, encode_utf8_all, refl, sym, ◌∙◌, ap, subst}
use Rattle.std.proofs.lemmas.Str.{IsUtf8-append, chars-append, encodes-chars}
use Rattle.std.specs.Char.{is_ascii_digit, is_ascii_alphanumeric}
use Rattle.std.specs.Str.{chars, IsUtf8}
use Rattle.unicode_ident.proofs.IdentLemmas.{is_xid_continue-ascii}
use Rattle.utd_lexer.specs.declared.token.TokenKind.{TokenKind}
use Rattle.utd_lexer.specs.declared.token.TokenKind.TheVariants.{Word, Integer, Text, Symbol}
use Rattle.utd_lexer.specs.Tokens.{Lexed, token, past, spelling, token_at, continues, IsOfKind, IsToken, EndsAt}
use Rattle.plain_rows.specs.Lexemes.{Lexeme, Begins, lexeme_of, is_lone, is_word, ends_before, continues_word}
use Rattle.plain_rows.specs.Tuples.{symbol}
use Rattle.plain_rows.proofs.BeginLemmas.{begins-space, chars-one, one-ascii}
use Rattle.plain_rows.proofs.SymbolLemmas.{begins-symbol}
use Rattle.plain_rows.proofs.TokenLemmas.{begins-token}
use Rattle.plain_rows.proofs.WordLemmas.{begins-known}

-- a character of ASCII stands first with which no word, no integer and no text goes on
pub record IsBehind (rest : List ℕ) : Type 0 where
  pub first : ℕ
  pub others : List ℕ
  pub is : rest ≡ first ∷ others
  pub small : first < 128
  pub word : continues first ≡ false
  pub digit : is_ascii_digit first ≡ false
  pub quote : eqb first 39 ≡ false
  pub plain : ends_before continues_word rest ≡ true

pub behind-one : (c : ℕ) (rest : List ℕ) → c < 128 → (is_ascii_alphanumeric c || eqb c 95) ≡ false → is_ascii_digit c ≡ false → eqb c 39 ≡ false
    → ends_before continues_word (c ∷ rest) ≡ true → IsBehind (c ∷ rest)
behind-one c rest small word digit quote plain = record {
  first = c;
  others = rest;
  is = refl;
  small = small;
  word = is_xid_continue-ascii c small ∙ word;
  digit = digit;
  quote = quote;
  plain = plain;
}

-- , } : ] and a space
pub behind-comma : (rest : List ℕ) → IsBehind (44 ∷ rest)
behind-comma rest = behind-one 44 rest (lit< tt) refl refl refl refl

pub behind-brace : (rest : List ℕ) → IsBehind (125 ∷ rest)
behind-brace rest = behind-one 125 rest (lit< tt) refl refl refl refl

pub behind-colon : (rest : List ℕ) → IsBehind (58 ∷ rest)
behind-colon rest = behind-one 58 rest (lit< tt) refl refl refl refl

pub behind-bracket : (rest : List ℕ) → IsBehind (93 ∷ rest)
behind-bracket rest = behind-one 93 rest (lit< tt) refl refl refl refl

pub behind-dot : (rest : List ℕ) → IsBehind (46 ∷ rest)
behind-dot rest = behind-one 46 rest (lit< tt) refl refl refl refl

pub behind-space : (rest : List ℕ) → IsBehind (32 ∷ rest)
behind-space rest = behind-one 32 rest (lit< tt) refl refl refl refl

-- ---- tokens end before them

first-of : (rest : List ℕ) (b : IsBehind rest) → chars rest ≡ b.first ∷ chars b.others
first-of rest b = ap chars b.is ∙ chars-one b.first b.others b.small

pub word-stops : (v rest : List ℕ) → IsBehind rest → EndsAt Word v (chars rest)
word-stops v rest b = subst (EndsAt Word v) (sym (first-of rest b)) b.word

pub digits-stop : (v rest : List ℕ) → IsBehind rest → EndsAt Integer v (chars rest)
digits-stop v rest b = subst (EndsAt Integer v) (sym (first-of rest b)) b.digit

pub text-stops : (v rest : List ℕ) → IsBehind rest → EndsAt Text v (chars rest)
text-stops v rest b = subst (EndsAt Text v) (sym (first-of rest b)) b.quote

-- ---- texts before them

abbrev pub IsRead : List ℕ → List Lexeme → Type 0
IsRead bytes ls = (rest : List ℕ) → IsBehind rest → Begins (bytes ++ rest) ls rest

-- a token that is spelled so
pub token-begins : (k : TokenKind) (v bytes spelled rest : List ℕ) → IsUtf8 spelled → chars spelled ≡ spelling k v → encode_utf8_all v ≡ bytes → IsToken k v (chars rest)
    → Begins (spelled ++ rest) ((k, bytes) ∷ []) rest
token-begins k v bytes spelled rest utf8 spells is h = record {
  goes_on = λ ls r p.
      let q = r (past p (spelling k v)) in (
        token_at p k v ∷ q.0,
        (
          IsUtf8-append spelled rest utf8 q.1.0,
          subst (λ z. Lexed p z (token_at p k v ∷ q.0)) (sym (chars-append spelled rest utf8 ∙ ap (λ z. z ++ chars rest) spells)) (token p k v (chars rest) q.0 h q.1.1),
        ),
        ap (λ b. (k, b) ∷ map lexeme_of q.0) is ∙ ap (λ l. (k, bytes) ∷ l) q.2,
      );
}

-- a word of any characters
pub word-begins : (w : List ℕ) → IsUtf8 w → IsOfKind Word (chars w) → IsRead w ((Word, w) ∷ [])
word-begins w utf8 kind rest b = token-begins Word (chars w) w w rest utf8 refl (encodes-chars w utf8) (kind, word-stops (chars w) rest b)

-- a word of ASCII that is known
pub known-word : (w : List ℕ) → is_word w ≡ true → IsRead w ((Word, w) ∷ [])
known-word w h rest b = begins-known (w ++ rest) w rest refl h b.plain

-- a symbol of one character
pub symbol-begins : (c : ℕ) (rest : List ℕ) → is_lone c ≡ true → Begins (c ∷ rest) (symbol c ∷ []) rest
symbol-begins c rest lone = begins-symbol (c ∷ rest) c c rest refl refl lone

pub space-begins : (rest : List ℕ) → Begins (32 ∷ rest) [] rest
space-begins rest = begins-space 32 rest refl (lit< tt)

-- no `=` stands first, with which a `:` would be another symbol
abbrev pub NoEqual : List ℕ → Type 0
NoEqual rest = EndsAt Symbol (58 ∷ []) (chars rest)

pub colon-begins : (rest : List ℕ) → NoEqual rest → Begins (58 ∷ rest) (symbol 58 ∷ []) rest
colon-begins rest h = let small = one-ascii 58 (lit< tt) in begins-token Symbol (58 ∷ []) rest small small (refl, h)

pub no-equal : (c : ℕ) (rest : List ℕ) → c < 128 → eqb c 61 ≡ false → NoEqual (c ∷ rest)
no-equal c rest small h =
    let none : (eqb c 61 || false) ≡ false = ap (λ b. b || false) h in
    subst (EndsAt Symbol (58 ∷ [])) (sym (chars-one c rest small)) (ap (λ b. b || false) none)
