-- Bytes that begin with gaps, and one after another.
use Rattle.std.proofs.Common.{◌≡◌, ℕ, ◌<◌, List, [], ◌∷◌, ◌++◌, true, sym, ◌∙◌, ap, subst, append_assoc}
use Rattle.std.specs.Str.{chars, IsAscii}
use Rattle.std.proofs.lemmas.Str.{IsUtf8-append, IsUtf8-from_ascii, chars-append, chars-IsAscii}
use Rattle.std.proofs.lemmas.Str.Ascii.{IsAscii-nil, IsAscii-cons}
use Rattle.utd_lexer.specs.Parts.{is_space}
use Rattle.utd_lexer.specs.Tokens.{Lexed, gap, blank, past, spelling_of_gap}
use Rattle.plain_rows.specs.Lexemes.{Lexeme, AreLexemes, Begins}

-- ---- characters of ASCII

pub chars-ascii : (front rest : List ℕ) → IsAscii front → chars (front ++ rest) ≡ front ++ chars rest
chars-ascii front rest h = chars-append front rest (IsUtf8-from_ascii front h) ∙ ap (λ z. z ++ chars rest) (chars-IsAscii front h)

pub one-ascii : (c : ℕ) → c < 128 → IsAscii (c ∷ [])
one-ascii c h = IsAscii-cons c [] h IsAscii-nil

pub chars-one : (c : ℕ) (rest : List ℕ) → c < 128 → chars (c ∷ rest) ≡ c ∷ chars rest
chars-one c rest h = chars-ascii (c ∷ []) rest (one-ascii c h)

-- ---- one after another

pub begins-nothing : (bytes : List ℕ) → Begins bytes [] bytes
begins-nothing bytes = record { goes_on = λ ls h. h }

pub begins-then : (a b c : List ℕ) (f g : List Lexeme) → Begins a f b → Begins b g c → Begins a (f ++ g) c
begins-then a b c f g h k = record { goes_on = λ ls r. subst (AreLexemes a) (sym (append_assoc f g ls)) (h.goes_on (g ++ ls) (k.goes_on ls r)) }

-- ---- gaps

pub begins-space : (c : ℕ) (rest : List ℕ) → is_space c ≡ true → c < 128 → Begins (c ∷ rest) [] rest
begins-space c rest h small = record {
  goes_on = λ ls r p.
      let q = r (past p (spelling_of_gap (blank c))) in
      (q.0, (IsUtf8-append (c ∷ []) rest (IsUtf8-from_ascii (c ∷ []) (one-ascii c small)) q.1.0, subst (λ z. Lexed p z q.0) (sym (chars-one c rest small)) (gap p (blank c) (chars rest) q.0 h q.1.1)), q.2);
}
