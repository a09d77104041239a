-- The names among the tokens of a text can be said again.
--     sayable-word, word-sayable      what can be said as a name is the UTF-8 of a word that is not reserved, and such a word can be
--     words-named      each name among the tokens of bytes that are read can
use Rattle.std.proofs.Common.{◌≡◌, ℕ, List, [], ◌∷◌, ◌++◌, Bool, true, false, ◌&&◌, not, if◌then◌else◌, refl, sym, ◌∙◌, ap, encode_utf8_all}
use Rattle.std.specs.List.{All, AllByRecursion, list_all}
use Rattle.std.specs.Str.{IsUtf8, is_utf8, chars, all_scalars}
use Rattle.std.proofs.lemmas.Bool.{and_from, not-true, false≢true}
use Rattle.std.proofs.lemmas.List.Elements.{All-from_recursion}
use Rattle.std.proofs.lemmas.Str.{IsUtf8-from_is_utf8, is_utf8-from_IsUtf8, chars-encodes, scalars-chars}
use Rattle.point_core.specs.declared.fault.Place.{Place}
use Rattle.utd_lexer.specs.declared.token.Token.{Token}
use Rattle.utd_lexer.specs.declared.token.TokenKind.{TokenKind}
use Rattle.utd_lexer.specs.declared.token.TokenKind.TheVariants.{Word, Integer, Text, Symbol}
use Rattle.utd_lexer.specs.Reading.{Reads}
use Rattle.utd_lexer.specs.Tokens.{starts, continues, AllOf, IsOfKind, spelling, spelling_of_gap, Lexed, done, gap, token}
use Rattle.utd_syntax.specs.declared.terminal.Terminal.{Terminal}
use Rattle.utd_syntax.specs.declared.terminal.Terminal.TheVariants.{Name, Finish}
use Rattle.utd_syntax.specs.Pieces.{Piece}
use Rattle.utd_syntax.specs.Table.{same, same_bytes}
use Rattle.utd_syntax.specs.Terminals.{word_terminal, symbol_terminal, symbols, spelled_among}
use Rattle.utd_syntax.specs.Terminals as terminals
use Rattle.utd_parser.specs.Tokens.{terminal_of, pieces}
use Rattle.base_core.proofs.BoolLemmas.{and_left, and_right}
use Rattle.text_laws.specs.Sayable.{is_word, is_sayable}

-- ---- words

all-continue : (cs : List ℕ) → AllOf continues cs → list_all continues cs ≡ true
all-continue [] h = refl
all-continue (c ∷ cs) h = and_from (continues c) (list_all continues cs) h.0 (all-continue cs h.1)

continue-all : (cs : List ℕ) → list_all continues cs ≡ true → AllOf continues cs
continue-all [] h = tt
continue-all (c ∷ cs) h = (and_left (continues c) (list_all continues cs) h, continue-all cs (and_right (continues c) (list_all continues cs) h))

kind-word : (cs : List ℕ) → IsOfKind Word cs → is_word cs ≡ true
kind-word [] h = absurd h
kind-word (c ∷ cs) h = and_from (starts c) (list_all continues cs) h.0 (all-continue cs h.1)

word-kind : (cs : List ℕ) → is_word cs ≡ true → IsOfKind Word cs
word-kind [] h = absurd (false≢true h)
word-kind (c ∷ cs) h = (and_left (starts c) (list_all continues cs) h, continue-all cs (and_right (starts c) (list_all continues cs) h))

pub word-sayable : (cs : List ℕ) → all_scalars cs ≡ true → IsOfKind Word cs → word_terminal (encode_utf8_all cs) ≡ Name → is_sayable (encode_utf8_all cs) ≡ true
word-sayable cs scalar kind name =
    let bytes : List ℕ = encode_utf8_all cs in
    and_from (is_utf8 bytes) (is_word (chars bytes) && same (word_terminal bytes) Name) (is_utf8-from_IsUtf8 bytes (cs, (scalar, refl)))
    (and_from (is_word (chars bytes)) (same (word_terminal bytes) Name) (ap is_word (chars-encodes cs scalar) ∙ kind-word cs kind) (ap (λ x. same x Name) name))

-- of all terminals but this one it is no name
same-name : (x : Terminal) → same x Name ≡ true → x ≡ Name
same-name Name h = refl
same-name _ h = absurd (false≢true h)

pub sayable-word : (bytes : List ℕ) → is_sayable bytes ≡ true → IsUtf8 bytes × IsOfKind Word (chars bytes) × (word_terminal bytes ≡ Name)
sayable-word bytes h =
    let more : (is_word (chars bytes) && same (word_terminal bytes) Name) ≡ true = and_right (is_utf8 bytes) _ h in (
      IsUtf8-from_is_utf8 bytes (and_left (is_utf8 bytes) _ h),
      word-kind (chars bytes) (and_left (is_word (chars bytes)) (same (word_terminal bytes) Name) more),
      same-name (word_terminal bytes) (and_right (is_word (chars bytes)) (same (word_terminal bytes) Name) more),
    )

-- ---- tokens

chosen-not : (c : Bool) (x y : Terminal) → same x Name ≡ false → same y Name ≡ false → same (if c then x else y) Name ≡ false
chosen-not true x y h k = h
chosen-not false x y h k = k

-- no symbol is a name
not-among : (list : List Terminal) (other : Terminal) (b : List ℕ) → list_all (λ x. not (same x Name)) list ≡ true → same other Name ≡ false
    → same (spelled_among list other b) Name ≡ false
not-among [] other b h none = none
not-among (x ∷ list) other b h none =
    chosen-not (same_bytes (terminals.spelling x) b) x (spelled_among list other b)
    (not-true (same x Name) (and_left (not (same x Name)) (list_all (λ y. not (same y Name)) list) h))
    (not-among list other b (and_right (not (same x Name)) (list_all (λ y. not (same y Name)) list) h) none)

symbol-not : (b : List ℕ) → symbol_terminal b ≡ Name → ⊥
symbol-not b e = false≢true (sym (not-among symbols Finish b refl refl) ∙ ap (λ x. same x Name) e)

-- of a token: where it is a name, it can be said again
abbrev IsNamed : Piece → Type 0
IsNamed t = t.terminal ≡ Name → is_sayable t.bytes ≡ true

scalars-front : (a b : List ℕ) → all_scalars (a ++ b) ≡ true → all_scalars a ≡ true
scalars-front [] b h = refl
scalars-front (c ∷ a) b h = and_from _ (all_scalars a) (and_left _ (all_scalars (a ++ b)) h) (scalars-front a b (and_right _ (all_scalars (a ++ b)) h))

scalars-behind : (a b : List ℕ) → all_scalars (a ++ b) ≡ true → all_scalars b ≡ true
scalars-behind [] b h = h
scalars-behind (c ∷ a) b h = scalars-behind a b (and_right _ (all_scalars (a ++ b)) h)

-- a word is written as it is; of other tokens nothing is told
kind-named : (p : Place) (k : TokenKind) (cs rest : List ℕ) → all_scalars (spelling k cs ++ rest) ≡ true → IsOfKind k cs
    → terminal_of k (encode_utf8_all cs) ≡ Name → is_sayable (encode_utf8_all cs) ≡ true
kind-named p Word cs rest scalar kind e = word-sayable cs (scalars-front cs rest scalar) kind e
kind-named p Symbol cs rest scalar kind e = absurd (symbol-not (encode_utf8_all cs) e)
kind-named p Integer cs rest scalar kind e = absurd cc
kind-named p Text cs rest scalar kind e = absurd cc

lexed-named : {p : Place} {cs : List ℕ} {ts : List Token} → Lexed p cs ts → all_scalars cs ≡ true → AllByRecursion IsNamed (pieces ts)
lexed-named (done p) h = tt
lexed-named (gap p g rest ts i l) h = lexed-named l (scalars-behind (spelling_of_gap g) rest h)
lexed-named (token p k cs rest ts i l) h = (kind-named p k cs rest h i.0, lexed-named l (scalars-behind (spelling k cs) rest h))

pub words-named-each : (p : Place) (bytes : List ℕ) (tokens : List Token) → Reads p bytes tokens → AllByRecursion IsNamed (pieces tokens)
words-named-each p bytes tokens (utf, l) = lexed-named l (scalars-chars bytes utf)

pub words-named : (p : Place) (bytes : List ℕ) (tokens : List Token) → Reads p bytes tokens
    → All (λ (t : Piece). t.terminal ≡ Name → is_sayable t.bytes ≡ true) (pieces tokens)
words-named p bytes tokens h = All-from_recursion IsNamed (pieces tokens) (words-named-each p bytes tokens h)
