-- White space and a semicolon are the empty statement.
use Rattle.std.specs.Prelude.{◌≡◌, ℕ, ◌<◌, Bool, true, List, [], ◌∷◌, ◌++◌, ◌==◌, ◌||◌, refl}
use Rattle.std.specs.List.{list_all, All}
use Rattle.std.specs.Str.{IsAscii}
use Rattle.std.proofs.Common.{sym, ap, subst, arith}
use Rattle.std.proofs.lemmas.Bool.{and_parts}
use Rattle.std.proofs.lemmas.List.Elements.{All-cons, All-nil, All-append}
use Rattle.std.proofs.lemmas.Str.{chars-IsAscii, encodes-IsAscii, IsUtf8-from_ascii}
use Rattle.std.proofs.lemmas.Str.Ascii.{IsAscii-from_all}
use Rattle.point_core.specs.declared.fault.Place.{Place}
use Rattle.utd_lexer.specs.declared.token.Token.{Token}
use Rattle.utd_lexer.specs.declared.token.TokenKind.TheVariants.{Symbol}
use Rattle.utd_lexer.specs.Parts.{is_space}
use Rattle.utd_lexer.specs.Reading.{Reads}
use Rattle.utd_lexer.specs.Tokens.{next_place, place_after, past, blank, token_at, Lexed, done, gap, token}
use Rattle.utd_syntax.specs.Plain.{Nothing}
use Rattle.utd_syntax.specs.Verdict.{Whole, verdict, reach}
use Rattle.utd_ranges.specs.Limits.{verdict_on}
use Rattle.utd_syntax.specs.Written.{Spells, of_statement}
use Rattle.utd_parser.specs.Tokens.{pieces}
use Rattle.plain_rows.proofs.BeginLemmas.{one-ascii}
use Rattle.utd_statement.specs.Readings.{IsText, Tree}

-- ---- ASCII

is-ascii : (b : ℕ) → is_space b ≡ true → b < 128
is-ascii b h = by (b == 9) (b == 10) (b == 13) (b == 32) refl refl refl refl h
  where
    by : (i j k l : Bool) → (b == 9) ≡ i → (b == 10) ≡ j → (b == 13) ≡ k → (b == 32) ≡ l → (i || j || k || l) ≡ true → b < 128
    by i j k l p q r s e = grind arith

are-ascii : (prefix : List ℕ) → list_all is_space prefix ≡ true → All (λ b. b < 128) prefix
are-ascii [] h = All-nil (λ b. b < 128)
are-ascii (b ∷ bs) h = let parts = and_parts (is_space b) (list_all is_space bs) h in All-cons (λ b. b < 128) b bs (is-ascii b parts.0) (are-ascii bs parts.1)

-- ---- tokens

past-one : (p : Place) (b : ℕ) → b < 128 → past p (b ∷ []) ≡ next_place p b
past-one p b h = ap (place_after p) (encodes-IsAscii (b ∷ []) (one-ascii b h))

-- white space before other characters
behind-space : (p : Place) (prefix rest : List ℕ) (ts : List Token) → list_all is_space prefix ≡ true → Lexed (place_after p prefix) rest ts → Lexed p (prefix ++ rest) ts
behind-space p [] rest ts h l = l
behind-space p (b ∷ bs) rest ts h l =
    let parts = and_parts (is_space b) (list_all is_space bs) h in
    gap p (blank b) (bs ++ rest) ts parts.0
    (subst (λ q. Lexed q (bs ++ rest) ts) (sym (past-one p b (is-ascii b parts.0))) (behind-space (next_place p b) bs rest ts parts.1 l))

abbrev semicolon : Place → Token
semicolon p = token_at p Symbol (59 ∷ [])

semicolon-lexed : (p : Place) → Lexed p (59 ∷ []) (semicolon p ∷ [])
semicolon-lexed p = token p Symbol (59 ∷ []) [] [] (refl, tt) (done (past p (59 ∷ [])))

-- ---- the grammar

semicolon-whole : (p : Place) → verdict_on (pieces (semicolon p ∷ [])) ≡ Whole
unfolding verdict reach lib.Utf8.encode
semicolon-whole p = refl

semicolon-spelled : (p : Place) → Spells (of_statement Nothing) (pieces (semicolon p ∷ [])) []
unfolding Spells lib.Utf8.encode
semicolon-spelled p = (refl, refl)

pub empty-text : (p : Place) (prefix bytes : List ℕ) → list_all is_space prefix ≡ true → bytes ≡ prefix ++ 59 ∷ [] → IsText p bytes (Tree Nothing)
empty-text p prefix bytes h e =
    let ascii = IsAscii-from_all (prefix ++ 59 ∷ []) (All-append (λ b. b < 128) prefix (59 ∷ []) (are-ascii prefix h) (All-cons (λ b. b < 128) 59 [] (omega arith) (All-nil (λ b. b < 128)))) in
    let q = place_after p prefix in
    let lexed = behind-space p prefix (59 ∷ []) (semicolon q ∷ []) h (semicolon-lexed q) in
    let reads : Reads p (prefix ++ 59 ∷ []) (semicolon q ∷ []) = (IsUtf8-from_ascii (prefix ++ 59 ∷ []) ascii, subst (λ cs. Lexed p cs (semicolon q ∷ [])) (sym (chars-IsAscii (prefix ++ 59 ∷ []) ascii)) lexed) in
    (semicolon q ∷ [], subst (λ bs. Reads p bs (semicolon q ∷ [])) (sym e) reads, semicolon-whole q, semicolon-spelled q)
