-- The tokens of a text are ones that a text writes: their bytes are UTF-8, and words have some.
use Rattle.std.proofs.Common.{◌≡◌, ℕ, List, [], ◌∷◌, ◌++◌, Bool, true, false, cond, ◌&&◌, ◌||◌, ◌==◌, not, nat_le, length, refl, sym, subst, arith, encode_utf8_all}
use Rattle.std.proofs.Math.Utf8.{scalar, scalars}
use Rattle.std.proofs.lemmas.Bool.{eq-eqb, eqb-true, le-leb, and_from}
use Rattle.std.proofs.lemmas.Str.{scalars-chars, utf8_valid_len-IsUtf8, length-le-encodes}
use Rattle.std.specs.Str.Lossy.{utf8_valid_len}
use Rattle.point_core.specs.declared.fault.Place.{Place}
use Rattle.utd_syntax.specs.declared.terminal.Terminal.{Terminal}
use Rattle.utd_syntax.specs.declared.terminal.Terminal.TheVariants as t
use Rattle.utd_syntax.specs.Table.{same}
use Rattle.utd_syntax.specs.Terminals.{word_terminal, symbol_terminal}
use Rattle.utd_syntax.proofs.FormEnds.{both-left, both-right}
use Rattle.utd_lexer.specs.declared.token.TokenKind.{TokenKind}
use Rattle.utd_lexer.specs.declared.token.TokenKind.TheVariants.{Word, Integer, Text, Symbol}
use Rattle.utd_lexer.specs.declared.token.Token.{Token}
use Rattle.utd_lexer.specs.Tokens.{Lexed, done, gap, token, doubled, spelling, spelling_of_gap, IsOfKind}
use Rattle.utd_lexer.specs.Reading.{Reads}
use Rattle.utd_ranges.specs.Ranges.{is_unwritten, AreWritten}
use Rattle.value_core.specs.Lengths.{is_utf8}
use Rattle.utd_parser.specs.Tokens.{terminal_of, pieces}

-- ---- characters of parts of a text

prefix-scalars : (a b : List ℕ) → scalars (a ++ b) ≡ true → scalars a ≡ true
prefix-scalars [] b h = refl
prefix-scalars (c ∷ a) b h = and_from (scalar c) (scalars a) (both-left (scalar c) _ h) (prefix-scalars a b (both-right (scalar c) _ h))

rest-scalars : (a b : List ℕ) → scalars (a ++ b) ≡ true → scalars b ≡ true
rest-scalars [] b h = h
rest-scalars (c ∷ a) b h = rest-scalars a b (both-right (scalar c) _ h)

pair-scalars : (c : ℕ) (cs : List ℕ) → scalar c ≡ true → scalars cs ≡ true → scalars (c ∷ cs) ≡ true
pair-scalars c cs h g = subst (λ b. (b && scalars cs) ≡ true) (sym h) g

once-scalars : (c : ℕ) (cs : List ℕ) (quote : Bool) → (c == 39) ≡ quote → (scalars (doubled cs) ≡ true → scalars cs ≡ true) → scalars (cond quote (39 ∷ (39 ∷ doubled cs)) (c ∷ doubled cs)) ≡ true → scalars (c ∷ cs) ≡ true
once-scalars c cs true is rest h = pair-scalars c cs (subst (λ z. scalar z ≡ true) (sym (eqb-true c 39 is)) refl) (rest h)
once-scalars c cs false is rest h = pair-scalars c cs (both-left (scalar c) _ h) (rest (both-right (scalar c) _ h))

doubled-scalars : (cs : List ℕ) → scalars (doubled cs) ≡ true → scalars cs ≡ true
doubled-scalars [] h = refl
doubled-scalars (c ∷ cs) h = once-scalars c cs (c == 39) refl (doubled-scalars cs) h

token-scalars : (k : TokenKind) (cs : List ℕ) → scalars (spelling k cs) ≡ true → scalars cs ≡ true
token-scalars Word cs h = h
token-scalars Integer cs h = h
token-scalars Text cs h = doubled-scalars cs (prefix-scalars (doubled cs) (39 ∷ []) h)
token-scalars Symbol cs h = h

-- ---- their bytes

encoded : (cs : List ℕ) → scalars cs ≡ true → is_utf8 (encode_utf8_all cs) ≡ true
encoded cs h = eq-eqb (utf8_valid_len (encode_utf8_all cs)) (length (encode_utf8_all cs)) (utf8_valid_len-IsUtf8 (encode_utf8_all cs) (cs, (h, refl)))

filled : (c : ℕ) (cs : List ℕ) → nat_le 1 (length (encode_utf8_all (c ∷ cs))) ≡ true
filled c cs = let some = length-le-encodes (c ∷ cs) in le-leb 1 (length (encode_utf8_all (c ∷ cs))) (omega (arith, some))

of-two : (valid name some : Bool) → valid ≡ true → some ≡ true → not (valid && (not name || some)) ≡ false
of-two true true true h g = refl
of-two true false true h g = refl
of-two true name false h g = cc
of-two false name some h g = cc

with-bytes : (x : Terminal) (c : ℕ) (cs : List ℕ) → scalars (c ∷ cs) ≡ true → is_unwritten x (encode_utf8_all (c ∷ cs)) ≡ false
with-bytes x c cs h = of-two (is_utf8 (encode_utf8_all (c ∷ cs))) (same x t.Name) (nat_le 1 (length (encode_utf8_all (c ∷ cs)))) (encoded (c ∷ cs) h) (filled c cs)

of-one : (valid : Bool) → valid ≡ true → not (valid && true) ≡ false
of-one true h = refl
of-one false h = cc

kind-written : (k : TokenKind) (cs : List ℕ) → IsOfKind k cs → scalars cs ≡ true → is_unwritten (terminal_of k (encode_utf8_all cs)) (encode_utf8_all cs) ≡ false
kind-written Word [] h g = absurd h
kind-written Word (c ∷ cs) h g = with-bytes (word_terminal (encode_utf8_all (c ∷ cs))) c cs g
kind-written Integer [] h g = absurd h
kind-written Integer (c ∷ cs) h g = with-bytes t.Digits c cs g
kind-written Text cs h g = of-one (is_utf8 (encode_utf8_all cs)) (encoded cs g)
kind-written Symbol [] h g = absurd h
kind-written Symbol (c ∷ cs) h g = with-bytes (symbol_terminal (encode_utf8_all (c ∷ cs))) c cs g

lexed-written : {p : Place} {cs : List ℕ} {ts : List Token} → Lexed p cs ts → scalars cs ≡ true → AreWritten (pieces ts)
lexed-written (done p) h = tt
lexed-written (gap p g rest ts is more) h = lexed-written more (rest-scalars (spelling_of_gap g) rest h)
lexed-written (token p k cs rest ts is more) h = (kind-written k cs is.0 (token-scalars k cs (prefix-scalars (spelling k cs) rest h)), lexed-written more (rest-scalars (spelling k cs) rest h))

-- the tokens that bytes are read as
pub are-written : (start : Place) (bytes : List ℕ) (tokens : List Token) → Reads start bytes tokens → AreWritten (pieces tokens)
are-written start bytes tokens h = lexed-written h.1 (scalars-chars bytes h.0)
