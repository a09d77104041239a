-- One gap or token further in a text.
use Rattle.std.proofs.Common.{◌≡◌, ℕ, ◌+◌, ◌<◌, ◌≤◌, List, [], ◌∷◌, ◌++◌, length, drop, take, get_or, Some, Result, Ok, Err, Vec, Global, IfOk, IfErr, MatchResult, ◌-◌, ◌^◌, inl, inr, sym, ◌∙◌, ap, subst, arith, length-append, length-drop, append_assoc, append-nil, encode_utf8_all}
use Rattle.std.proofs.lemmas.List.{take_at, drop_at, drop-drop, drop_all, drop_more}
use Rattle.std.proofs.lemmas.Str.{encodes-append, encodes-chars}
use Rattle.point_core.specs.declared.fault.Place.{Place}
use Rattle.utd_lexer.specs.declared.token.Token.{Token}
use Rattle.utd_lexer.specs.declared.token.TokenKind.{TokenKind}
use Rattle.utd_lexer.specs.declared.token.TokenKind.TheVariants.{Word, Integer, Text, Symbol}
use Rattle.utd_lexer.specs.declared.prefix.Prefix.TheVariants.{Token as OfToken}
use Rattle.value_core.specs.declared.refuse.Refuse.{Refuse}
use Rattle.value_core.specs.declared.refuse.Refuse.TheVariants.{Plain, At, Broken, Memory}
use Rattle.std.specs.Str.{IsUtf8, chars}
use Rattle.std.specs.Str.Lossy.{utf8_valid_len}
use Rattle.point_core.specs.declared.fault.Code.TheVariants.{E02}
use Rattle.point_core.specs.Faults.{fault}
use Rattle.utd_lexer.specs.Tokens.{Fits, place_after, past, Gap, blank, block, line, last, spelling_of_gap, IsToken, spelling, token_at, NoPrefix, Lexed, done, gap, token, Stuck, here, past_gap, past_token}
use Rattle.utd_lexer.specs.Prefixes.{GapFront, PrefixIs}
use Rattle.utd_lexer.specs.declared.prefix.Prefix.{Prefix}
use Rattle.utd_lexer.specs.Reading.{AreCharacters, IsValidFront, SoFar, Stops, Reads, Refuses}
use Rattle.utd_lexer.proofs.PlaceLemmas.{chars-step}

-- the front of what is left, cut off
record Cut (cs : List ℕ) (at : ℕ) (place : Place) (prefix rest : List ℕ) (n : ℕ) : Type 0 where
  prefix_is : take n (drop at cs) ≡ prefix
  rest_is : drop (at + n) cs ≡ rest
  within : at + n ≤ length cs
  prefix_fits : Fits place (length (encode_utf8_all prefix))
  rest_fits : Fits (past place prefix) (length (encode_utf8_all rest))

cut-off : (cs : List ℕ) (at : ℕ) (place : Place) (prefix rest : List ℕ) (n : ℕ) → at ≤ length cs → Fits place (length (encode_utf8_all (drop at cs))) → drop at cs ≡ prefix ++ rest → length prefix ≡ n → Cut cs at place prefix rest n
cut-off cs at place prefix rest n le fits is len =
    let total : length (drop at cs) ≡ length prefix + length rest = ap length is ∙ length-append prefix rest in
    let both = chars-step place (drop at cs) prefix rest is (ap encode_utf8_all is ∙ encodes-append prefix rest) fits in
    record {
      prefix_is = ap (take n) is ∙ take_at prefix rest n len;
      rest_is = sym (drop-drop n at cs) ∙ ap (drop n) is ∙ drop_at prefix rest n len;
      within = omega (arith, total, length-drop at cs, len);
      prefix_fits = both.0;
      rest_fits = both.1;
    }

pub some-gap : (g : Gap) → 0 < length (spelling_of_gap g)
some-gap (blank c) = omega arith
some-gap (block cs) = omega arith
some-gap (line cs) = omega arith
some-gap (last cs) = omega arith

pub some-token : (k : TokenKind) (cs rest : List ℕ) → IsToken k cs rest → 0 < length (spelling k cs)
some-token Word [] rest h = absurd h.0
some-token Word (c ∷ cs) rest h = omega arith
some-token Integer [] rest h = absurd h.0
some-token Integer (c ∷ cs) rest h = omega arith
some-token Text cs rest h = omega arith
some-token Symbol [] rest h = absurd h.0
some-token Symbol (c ∷ cs) rest h = omega arith

-- what a call of the place behind the front needs, and what is known after it
pub gap-fits : (start : Place) (cs : List ℕ) (at n : ℕ) (place : Place) (out : List Token) → SoFar start cs at place out → GapFront (drop at cs) (Some n) → (n ≤ length (drop at cs)) × Fits place (length (encode_utf8_all (take n (drop at cs)))) × (0 < n)
gap-fits start cs at n place out s (g, rest, is, h, len) =
    let c = cut-off cs at place (spelling_of_gap g) rest n s.within s.fits is len in
    (omega (arith, ap length is, length-append (spelling_of_gap g) rest, len), subst (λ z. Fits place (length (encode_utf8_all z))) (sym c.prefix_is) c.prefix_fits, omega (arith, some-gap g, len))

pub gap-step : (start : Place) (cs : List ℕ) (at n : ℕ) (place : Place) (out : List Token) → SoFar start cs at place out → GapFront (drop at cs) (Some n) → SoFar start cs (at + n) (past place (take n (drop at cs))) out
gap-step start cs at n place out s (g, rest, is, h, len) =
    let c = cut-off cs at place (spelling_of_gap g) rest n s.within s.fits is len in
    let now : Place = past place (spelling_of_gap g) in
    let next : SoFar start cs (at + n) now out = record {
      within = c.within;
      fits = subst (λ z. Fits now (length (encode_utf8_all z))) (sym c.rest_is) c.rest_fits;
      read = λ ts l. s.read ts (subst (λ z. Lexed place z ts) (sym is) (gap place g rest ts h (subst (λ z. Lexed now z ts) c.rest_is l)));
      stuck = λ q l. s.stuck q (subst (λ z. Stuck place z q) (sym is) (past_gap place q g rest h (subst (λ z. Stuck now z q) c.rest_is l)));
    } in
    subst (λ z. SoFar start cs (at + n) (past place z) out) (sym c.prefix_is) next

pub token-fits : (start : Place) (cs : List ℕ) (at n : ℕ) (place : Place) (out : List Token) (k : TokenKind) (bytes : List ℕ) → SoFar start cs at place out → PrefixIs (drop at cs) (OfToken k bytes n) → (n ≤ length (drop at cs)) × Fits place (length (encode_utf8_all (take n (drop at cs)))) × (0 < n)
token-fits start cs at n place out k bytes s (v, rest, is, h, len, e) =
    let c = cut-off cs at place (spelling k v) rest n s.within s.fits is len in
    (omega (arith, ap length is, length-append (spelling k v) rest, len), subst (λ z. Fits place (length (encode_utf8_all z))) (sym c.prefix_is) c.prefix_fits, omega (arith, some-token k v rest h, len))

pub token-step : (start : Place) (cs : List ℕ) (at n : ℕ) (place : Place) (out now_out : List Token) (k : TokenKind) (bytes : List ℕ) → SoFar start cs at place out → PrefixIs (drop at cs) (OfToken k bytes n) → now_out ≡ out ++ record { kind = k; place = place; bytes = bytes } ∷ [] → SoFar start cs (at + n) (past place (take n (drop at cs))) now_out
token-step start cs at n place out now_out k bytes s (v, rest, is, h, len, e) grows =
    let c = cut-off cs at place (spelling k v) rest n s.within s.fits is len in
    let now : Place = past place (spelling k v) in
    let x : Token = token_at place k v in
    let more : now_out ≡ out ++ x ∷ [] = grows ∙ ap (λ z. out ++ record { kind = k; place = place; bytes = z } ∷ []) e in
    let next : SoFar start cs (at + n) now now_out = record {
      within = c.within;
      fits = subst (λ z. Fits now (length (encode_utf8_all z))) (sym c.rest_is) c.rest_fits;
      read = λ ts l. subst (Lexed start cs) (sym (ap (λ z. z ++ ts) more ∙ append_assoc out (x ∷ []) ts)) (s.read (x ∷ ts) (subst (λ z. Lexed place z (x ∷ ts)) (sym is) (token place k v rest ts h (subst (λ z. Lexed now z ts) c.rest_is l))));
      stuck = λ q l. s.stuck q (subst (λ z. Stuck place z q) (sym is) (past_token place q k v rest h (subst (λ z. Stuck now z q) c.rest_is l)));
    } in
    subst (λ z. SoFar start cs (at + n) (past place z) now_out) (sym c.prefix_is) next

pub stuck-here : (start : Place) (cs : List ℕ) (at : ℕ) (place : Place) (out : List Token) → SoFar start cs at place out → at < length cs → NoPrefix (drop at cs) → Stuck start cs place
stuck-here start cs at place out s lt none =
    let d : drop at cs ≡ get_or cs at 0 ∷ drop (at + 1) cs = drop_more cs at 0 lt in
    s.stuck place (subst (λ z. Stuck place z place) (sym d) (here place (get_or cs at 0) (drop (at + 1) cs) (subst NoPrefix d none)))

pub all-read : (start : Place) (cs : List ℕ) (at : ℕ) (place : Place) (out : List Token) → SoFar start cs at place out → length cs ≤ at → Lexed start cs out
all-read start cs at place out s le = subst (Lexed start cs) (append-nil out) (s.read [] (subst (λ z. Lexed place z []) (sym (drop_all at cs le)) (done place)))

-- what was found, of what is left of the text
pub prefix-here : (rest all : List ℕ) (at : ℕ) (f g : Prefix) → rest ≡ drop at all → PrefixIs rest f → f ≡ g → PrefixIs (drop at all) g
prefix-here rest all at f g is h e = subst (PrefixIs (drop at all)) e (subst (λ z. PrefixIs z f) is h)

-- what was found of the bytes
pub found-ok : (bytes : List ℕ) (r : Result (Vec ℕ Global) ℕ) (v : Vec ℕ Global) → r ≡ Ok v → MatchResult r (λ v. AreCharacters v.items bytes) (λ n. IsValidFront n bytes) → AreCharacters v.items bytes
found-ok bytes r v is h = subst (λ (z : Result (Vec ℕ Global) ℕ). MatchResult z (λ v. AreCharacters v.items bytes) (λ n. IsValidFront n bytes)) is h

pub found-broken : (bytes : List ℕ) (r : Result (Vec ℕ Global) ℕ) (n : ℕ) → r ≡ Err n → MatchResult r (λ v. AreCharacters v.items bytes) (λ n. IsValidFront n bytes) → IsValidFront n bytes
found-broken bytes r n is h = subst (λ (z : Result (Vec ℕ Global) ℕ). MatchResult z (λ v. AreCharacters v.items bytes) (λ n. IsValidFront n bytes)) is h

-- bytes that are not UTF-8 are refused behind their front that is
pub refused-front : (start place : Place) (bytes prefix : List ℕ) (n : ℕ) → IsValidFront n bytes → prefix ≡ take n bytes → place ≡ place_after start prefix → Refuses start bytes (At (fault place E02))
refused-front start place bytes prefix n valid front is =
    let at : place ≡ place_after start (take (utf8_valid_len bytes) bytes) = is ∙ ap (place_after start) (front ∙ ap (λ z. take z bytes) valid.2) in
    inl (valid.0, ap (λ z. fault z E02) at)

pub text-fits : (start : Place) (cs bytes : List ℕ) → cs ≡ chars bytes → IsUtf8 bytes → start.line + start.column + length bytes ≤ 2 ^ 32 - 1 → Fits start (length (encode_utf8_all cs))
text-fits start cs bytes is utf h =
    let e : length (encode_utf8_all cs) ≡ length bytes = ap length (ap encode_utf8_all is ∙ encodes-chars bytes utf) in
    (omega (arith, e, h), omega (arith, e, h))

-- the bytes are those of their characters
pub text-encoded : (cs bytes : List ℕ) → cs ≡ chars bytes → IsUtf8 bytes → bytes ≡ encode_utf8_all cs
text-encoded cs bytes is utf = sym (ap encode_utf8_all is ∙ encodes-chars bytes utf)

-- the characters' answer is the text's
pub read-text : (start : Place) (cs bytes : List ℕ) (r : Result (List Token) Refuse) → cs ≡ chars bytes → IsUtf8 bytes → IfOk r (λ list. Lexed start cs list) → IfOk r (λ list. Reads start bytes list)
read-text start cs bytes (Ok list) is utf h = (utf, subst (λ z. Lexed start z list) is h)
read-text start cs bytes (Err e) is utf h = tt

refused-chars : (start : Place) (cs bytes : List ℕ) (e : Refuse) → cs ≡ chars bytes → IsUtf8 bytes → Stops start cs e → Refuses start bytes e
refused-chars start cs bytes Memory is utf h = tt
refused-chars start cs bytes (At f) is utf h = inr (utf, subst (λ z. Stops start z (At f)) is h)
refused-chars start cs bytes (Plain code) is utf h = h
refused-chars start cs bytes (Broken code relvar number) is utf h = h

pub refused-text : (start : Place) (cs bytes : List ℕ) (r : Result (List Token) Refuse) → cs ≡ chars bytes → IsUtf8 bytes → IfErr r (λ e. Stops start cs e) → IfErr r (λ e. Refuses start bytes e)
refused-text start cs bytes (Ok list) is utf h = tt
refused-text start cs bytes (Err e) is utf h = refused-chars start cs bytes e is utf h

-- the bytes of the front of what is left, and those behind it
pub bytes-here : (cs rest prefix : List ℕ) (at n : ℕ) → rest ≡ drop at cs → prefix ≡ encode_utf8_all (take n rest) → prefix ≡ encode_utf8_all (take n (drop at cs))
bytes-here cs rest prefix at n is e = e ∙ ap (λ z. encode_utf8_all (take n z)) is

pub bytes-left : (cs rest behind : List ℕ) (at n : ℕ) → rest ≡ drop at cs → behind ≡ encode_utf8_all (drop n rest) → behind ≡ encode_utf8_all (drop (at + n) cs)
bytes-left cs rest behind at n is e = e ∙ ap (λ z. encode_utf8_all (drop n z)) is ∙ ap encode_utf8_all (drop-drop n at cs)
