-- A text is read alike without the gaps in front of its first token.
--     HasToken      there is a token
--     reads-begun      from the first token on the text is read as the same tokens
--     reads-behind      behind a byte 10 it is read as these, from one place further on
use Rattle.std.proofs.Common.{◌≡◌, ℕ, ◌+◌, List, [], ◌∷◌, ◌++◌, length, take, drop, true, refl, sym, ◌∙◌, ap, subst, arith, lit<, append_assoc, length-append, encode_utf8_all}
use Rattle.std.proofs.lemmas.List.{take_at, drop_at}
use Rattle.std.proofs.lemmas.Str.{chars-encodes, encodes-append, encodes-chars, scalars-chars, chars_past_char, encode_ascii, IsUtf8-append}
use Rattle.std.specs.Str.{IsUtf8, all_scalars, chars}
use Rattle.point_core.specs.declared.fault.Place.{Place}
use Rattle.utd_lexer.specs.declared.token.Token.{Token}
use Rattle.utd_lexer.specs.Gaps.{is_gap, gaps_len, without_gaps}
use Rattle.utd_lexer.specs.Reading.{Reads}
use Rattle.utd_lexer.specs.Tokens as tokens
use Rattle.utd_lexer.specs.Tokens.{next_place, place_after, past, spelling, Gap, spelling_of_gap, IsGap, Lexed, done, gap, token}
use Rattle.utd_lexer.proofs.PlaceLemmas.{place_after-append}
use Rattle.base_core.proofs.BoolLemmas.{and_right}
use Rattle.text_laws.proofs.GapFronts.{gap-join, gaps-all}
use Rattle.text_laws.proofs.EncodedGaps.{IsClosed, encoded-gap}
use Rattle.text_laws.proofs.FirstTokens.{Unblank, unblank-encoded, token-unblank, unblank-gaps}

-- there is a token
abbrev pub HasToken : List Token → Type 0
HasToken [] = ⊥
HasToken (t ∷ ts) = Unit {0}

-- characters in two: gaps, and those from the first token on
record Begun (p : Place) (cs : List ℕ) (ts : List Token) : Type 0 where
  front : List ℕ
  behind : List ℕ
  is : cs ≡ front ++ behind
  gaps : is_gap (encode_utf8_all front) ≡ true
  read : Lexed (past p front) behind ts
  starts : Unblank behind

some-left : (front behind : List ℕ) → [] ≡ front ++ behind → Unblank behind → ⊥
some-left front [] e h = h
some-left front (c ∷ behind) e h =
    let none : 0 ≡ length (front ++ c ∷ behind) = ap length e in
    omega (arith, none, length-append front (c ∷ behind))

closed : (g : Gap) (rest front behind : List ℕ) → IsGap g rest → rest ≡ front ++ behind → Unblank behind → IsClosed g
closed (tokens.blank c) rest front behind i e h = tt
closed (tokens.block cs) rest front behind i e h = tt
closed (tokens.line cs) rest front behind i e h = tt
closed (tokens.last cs) rest front behind i e h = some-left front behind (sym i.1 ∙ e) h

past-append : (p : Place) (a b : List ℕ) → past (past p a) b ≡ past p (a ++ b)
past-append p a b = sym (place_after-append p (encode_utf8_all a) (encode_utf8_all b)) ∙ ap (place_after p) (sym (encodes-append a b))

begun : {p : Place} {cs : List ℕ} {ts : List Token} → Lexed p cs ts → HasToken ts → Begun p cs ts
begun (done p) h = absurd h
begun (gap p g rest ts i l) h =
    let b = begun l h in
    let first : List ℕ = spelling_of_gap g in
    record {
      front = first ++ b.front;
      behind = b.behind;
      is = ap (λ z. first ++ z) b.is ∙ sym (append_assoc first b.front b.behind);
      gaps = ap is_gap (encodes-append first b.front) ∙ gap-join (encode_utf8_all first) (encode_utf8_all b.front) (encoded-gap g rest i (closed g rest b.front b.behind i b.is b.starts)) b.gaps;
      read = subst (λ z. Lexed z b.behind ts) (past-append p first b.front) b.read;
      starts = b.starts;
    }
begun (token p k cs rest ts i l) h = record {
  front = [];
  behind = spelling k cs ++ rest;
  is = refl;
  gaps = refl;
  read = token p k cs rest ts i l;
  starts = token-unblank k cs rest i;
}

scalars-behind : (a b : List ℕ) → all_scalars (a ++ b) ≡ true → all_scalars b ≡ true
scalars-behind [] b h = h
scalars-behind (c ∷ a) b h = scalars-behind a b (and_right _ (all_scalars (a ++ b)) h)

pub reads-begun : (p : Place) (bytes : List ℕ) (ts : List Token) → Reads p bytes ts → HasToken ts
    → Reads (place_after p (take (gaps_len bytes (length bytes)) bytes)) (without_gaps bytes) ts
reads-begun p bytes ts (utf, l) h =
    let b = begun l h in
    let g : List ℕ = encode_utf8_all b.front in
    let s : List ℕ = encode_utf8_all b.behind in
    let n : ℕ = gaps_len bytes (length bytes) in
    let whole : bytes ≡ g ++ s = sym (encodes-chars bytes utf) ∙ ap encode_utf8_all b.is ∙ encodes-append b.front b.behind in
    let none : gaps_len s (length s) ≡ 0 = unblank-gaps s (length s) (unblank-encoded b.behind b.starts) in
    let sum : n ≡ length g + gaps_len s (length s) = ap (λ z. gaps_len z (length z)) whole ∙ gaps-all g s b.gaps in
    let len : length g ≡ n = omega (arith, sum, none) in
    let first : g ≡ take n bytes = sym (ap (take n) whole ∙ take_at g s n len) in
    let behind : s ≡ without_gaps bytes = sym (ap (drop n) whole ∙ drop_at g s n len) in
    let scalar : all_scalars b.behind ≡ true = scalars-behind b.front b.behind (ap all_scalars (sym b.is) ∙ scalars-chars bytes utf) in
    let list : Lexed (place_after p g) (chars s) ts = subst (λ z. Lexed (place_after p g) z ts) (sym (chars-encodes b.behind scalar)) b.read in
    let here : Reads (place_after p g) s ts = ((b.behind, (scalar, refl)), list) in
    subst (λ z. Reads (place_after p z) (without_gaps bytes) ts) first (subst (λ z. Reads (place_after p g) z ts) behind here)

pub reads-behind : (q : Place) (bytes : List ℕ) (ts : List Token) → Reads (next_place q 10) bytes ts → Reads q (10 ∷ bytes) ts
reads-behind q bytes ts (utf, l) =
    let one : encode_utf8_all (10 ∷ []) ≡ 10 ∷ [] = ap (λ z. z ++ []) (encode_ascii 10 (lit< tt)) in
    let both : IsUtf8 (10 ∷ bytes) = IsUtf8-append (10 ∷ []) bytes (10 ∷ [], (refl, one)) utf in
    let first : 10 ∷ bytes ≡ encode_utf8_all (10 ∷ []) ++ bytes = ap (λ z. z ++ bytes) (sym one) in
    let list : chars (10 ∷ bytes) ≡ 10 ∷ chars bytes = chars_past_char (10 ∷ bytes) bytes 10 both (ap (λ z. z ++ bytes) (sym (encode_ascii 10 (lit< tt)))) in
    let here : Lexed (past q (10 ∷ [])) (chars bytes) ts = subst (λ z. Lexed (place_after q z) (chars bytes) ts) (sym one) l in
    (both, subst (λ z. Lexed q z ts) (sym list) (gap q (tokens.blank 10) (chars bytes) ts refl here))
