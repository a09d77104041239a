-- Texts of ASCII, each byte of which is a character.
use Rattle.std.proofs.Common.{◌≡◌, ◌≢◌, ℕ, suc, ◌+◌, List, [], ◌∷◌, ◌++◌, length, take, drop, inl, inr, Bool, true, false, cond, eqb, ◌||◌, Some, refl, sym, ◌∙◌, ap, subst, arith, encode_utf8_all}
use Rattle.std.proofs.lemmas.List.{take_at}
use Rattle.std.proofs.lemmas.Bool.{ne_eqb}
use Rattle.std.proofs.lemmas.Bool.Decides.{eqb_tells}
use Rattle.std.specs.List.{list_any}
use Rattle.std.proofs.lemmas.Str.{encodes-IsAscii, IsAscii-take, IsAscii-drop}
use Rattle.std.specs.Str.{IsAscii, chars}
use Rattle.std.specs.Char.{is_ascii_digit}
use Rattle.unicode_ident.proofs.IdentLemmas.{is_xid_continue-ascii, is_xid_start-ascii}
use Rattle.point_core.specs.declared.fault.Place.{Place}
use Rattle.utd_lexer.specs.declared.token.Token.{Token}
use Rattle.utd_lexer.specs.declared.token.TokenKind.{TokenKind}
use Rattle.utd_lexer.specs.declared.token.TokenKind.TheVariants.{Word, Integer, Text, Symbol}
use Rattle.utd_lexer.specs.declared.prefix.Prefix.TheVariants.{Token as OfToken}
use Rattle.utd_lexer.specs.Parts.{Lacks}
use Rattle.utd_lexer.specs.Tokens.{Fits, next_place, place_after, starts, continues, among, singles, seconds, AllOf, IsOfKind, spelling, Lexed, Stuck}
use Rattle.utd_lexer.specs.Prefixes.{GapFront, PlainPrefix, PrefixIs, IsOneLine}
use Rattle.value_core.specs.declared.refuse.Refuse.{Refuse}
use Rattle.value_core.specs.declared.refuse.Refuse.TheVariants.{Plain, At, Broken, Memory}
use Rattle.utd_lexer.specs.Reading.{SoFar, Stops}
use Rattle.utd_lexer.proofs.PlaceLemmas.{fits-less, fits-next}
use Rattle.utd_lexer.proofs.WordLemmas.{plain-token}
use Rattle.utd_lexer.proofs.ReadLemmas.{gap-fits, gap-step, token-fits, token-step}

-- the front of bytes of ASCII, as the bytes of its characters
pub front-bytes : (cs prefix : List ℕ) (n : ℕ) → IsAscii cs → prefix ≡ take n cs → prefix ≡ encode_utf8_all (take n cs)
front-bytes cs prefix n ascii is = is ∙ sym (encodes-IsAscii (take n cs) (IsAscii-take cs n ascii))

pub plain-step : (cs : List ℕ) (k : TokenKind) (n : ℕ) (prefix : List ℕ) → IsAscii cs → PlainPrefix cs (Some (k, n)) → prefix ≡ take n cs → PrefixIs cs (OfToken k prefix n)
plain-step cs k n prefix ascii front is = plain-token cs k n prefix front (front-bytes cs prefix n ascii is)

pub ascii-tail : (cs rest : List ℕ) (c : ℕ) → cs ≡ c ∷ rest → IsAscii cs → IsAscii rest
ascii-tail cs rest c is h = let whole : IsAscii (c ∷ rest) = subst IsAscii is h in λ i. whole (suc i)

-- a line that does not end

pub one-line : (p : Place) (bs : List ℕ) → Lacks 10 bs → place_after p bs ≡ record { line = p.line; column = p.column + length bs }
one-line p [] h = let e : p.column ≡ p.column + 0 = omega arith in ap (λ z. record { line = p.line; column = z }) e
one-line p (b ∷ bs) h =
    let next : next_place p b ≡ record { line = p.line; column = p.column + 1 } = rw (ne_eqb b 10 h.0) refl in
    let more : place_after p (b ∷ bs) ≡ record { line = p.line; column = p.column + 1 + length bs } =
    ap (λ z. place_after z bs) next ∙ one-line (record { line = p.line; column = p.column + 1 }) bs h.1 in
    let e : p.column + 1 + length bs ≡ p.column + length (b ∷ bs) = omega arith in
    more ∙ ap (λ z. record { line = p.line; column = z }) e

-- bytes of which none is a 10
pub lacks-any : (bs : List ℕ) → list_any (λ y. eqb y 10) bs ≡ false → Lacks 10 bs
lacks-any [] h = tt
lacks-any (b ∷ bs) h = elim (eqb_tells b 10) [
  | inl p ↦ let f : list_any (λ y. eqb y 10) (b ∷ bs) ≡ true = ap (λ z. z || list_any (λ y. eqb y 10) bs) p.0 in cc
  | inr p ↦ (p.1, lacks-any bs (sym (ap (λ z. z || list_any (λ y. eqb y 10) bs) p.0) ∙ h))
]

-- the first byte, and those behind it
pub first-fits : (start : Place) (bytes rest : List ℕ) (b : ℕ) → bytes ≡ b ∷ rest → Fits start (length bytes) → Fits start 1
first-fits start bytes rest b split h = let e : length bytes ≡ length (b ∷ rest) = ap length split in fits-less start 1 (length bytes) h (omega (arith, e))

pub rest-fits : (start place : Place) (bytes rest : List ℕ) (b : ℕ) → bytes ≡ b ∷ rest → place ≡ next_place start b → Fits start (length bytes) → Fits place (length rest)
rest-fits start place bytes rest b split is h =
    let s : length bytes ≡ length (b ∷ rest) = ap length split in
    let e : length bytes ≡ length rest + 1 = omega (arith, s) in
    subst (λ p. Fits p (length rest)) (sym is) (fits-next start b (length rest) (subst (Fits start) e h))

pub behind-first : (start place after : Place) (bytes rest : List ℕ) (b : ℕ) → bytes ≡ b ∷ rest → place ≡ next_place start b → after ≡ place_after place rest → after ≡ place_after start bytes
behind-first start place after bytes rest b split is h = h ∙ ap (λ p. place_after p rest) is ∙ ap (place_after start) (sym split)

-- what fails of 10 does not hold of it
fails-at : (p : ℕ → Bool) (c : ℕ) → p 10 ≡ false → p c ≡ true → c ≢ 10
fails-at p c fails holds e = let t : p 10 ≡ true = ap p (sym e) ∙ holds in cc

all-lack : (p : ℕ → Bool) (cs : List ℕ) → p 10 ≡ false → AllOf p cs → Lacks 10 cs
all-lack p [] fails h = tt
all-lack p (c ∷ cs) fails h = (fails-at p c fails h.0, all-lack p cs fails h.1)

no-start : starts 10 ≡ false
no-start = ap (λ b. b || false) (is_xid_start-ascii 10 (omega arith))

no-continuing : continues 10 ≡ false
no-continuing = is_xid_continue-ascii 10 (omega arith)

among-if : (b : Bool) (x : ℕ) (xs ys : List ℕ) → among x xs ≡ false → among x ys ≡ false → among x (cond b xs ys) ≡ false
among-if true x xs ys e f = e
among-if false x xs ys e f = f

-- no symbol of two characters has a 10 in it
second-line : (a : ℕ) → among 10 (seconds a) ≡ false
second-line a = among-if (eqb a 58) 10 _ _ refl (among-if (eqb a 60) 10 _ _ refl (among-if (eqb a 62) 10 _ _ refl (among-if (eqb a 124) 10 _ _ refl refl)))

kind-line : (k : TokenKind) (v : List ℕ) → IsOfKind k v → IsOneLine k (spelling k v)
kind-line Text v h = tt
kind-line Word [] h = absurd h
kind-line Word (c ∷ cs) h = (fails-at starts c no-start h.0, all-lack continues cs no-continuing h.1)
kind-line Integer [] h = absurd h
kind-line Integer (c ∷ cs) h = all-lack is_ascii_digit (c ∷ cs) refl h
kind-line Symbol [] h = absurd h
kind-line Symbol (a ∷ []) h = (fails-at (λ x. among x singles) a refl h, tt)
kind-line Symbol (a ∷ (b ∷ [])) h = (fails-at (λ x. among b (seconds x)) a refl h, (fails-at (λ x. among x (seconds a)) b (second-line a) h, tt))
kind-line Symbol (a ∷ (b ∷ (c ∷ cs))) h = absurd h

pub token-line : (cs prefix bytes : List ℕ) (k : TokenKind) (n : ℕ) → PrefixIs cs (OfToken k bytes n) → prefix ≡ take n cs → IsOneLine k prefix
token-line cs prefix bytes k n (v, rest, is, tok, len, e) at =
    subst (IsOneLine k) (sym (at ∙ ap (take n) is ∙ take_at (spelling k v) rest n len)) (kind-line k v tok.0)

-- a step through a text

pub begin : (start : Place) (cs : List ℕ) → IsAscii cs → Fits start (length cs) → SoFar start cs 0 start []
begin start cs ascii fits = record {
  within = omega arith;
  fits = subst (λ z. Fits start (length z)) (sym (encodes-IsAscii cs ascii)) fits;
  read = λ ts h. h;
  stuck = λ q h. h;
}

same-front : (cs prefix : List ℕ) (at n : ℕ) → IsAscii cs → prefix ≡ take n (drop at cs) → encode_utf8_all (take n (drop at cs)) ≡ prefix
same-front cs prefix at n ascii is = sym (front-bytes (drop at cs) prefix n (IsAscii-drop cs at ascii) is)

-- what a call of the place behind the front needs, and what is known after it
pub blank-passed : (start place : Place) (cs left prefix : List ℕ) (at n : ℕ) (out : List Token) → IsAscii cs → SoFar start cs at place out → left ≡ drop at cs → GapFront left (Some n) → prefix ≡ take n left → Fits place (length prefix) × SoFar start cs (at + n) (place_after place prefix) out
blank-passed start place cs left prefix at n out ascii s back front is =
    let h : GapFront (drop at cs) (Some n) = subst (λ z. GapFront z (Some n)) back front in
    let same = same-front cs prefix at n ascii (is ∙ ap (take n) back) in
    (subst (λ z. Fits place (length z)) same (gap-fits start cs at n place out s h).1, subst (λ z. SoFar start cs (at + n) (place_after place z) out) same (gap-step start cs at n place out s h))

pub token-passed : (start place : Place) (cs left prefix bytes : List ℕ) (at n : ℕ) (out : List Token) (k : TokenKind) → IsAscii cs → SoFar start cs at place out → left ≡ drop at cs → PrefixIs left (OfToken k bytes n) → prefix ≡ take n left → Fits place (length prefix) × IsOneLine k prefix
token-passed start place cs left prefix bytes at n out k ascii s back front is =
    let h : PrefixIs (drop at cs) (OfToken k bytes n) = subst (λ z. PrefixIs z (OfToken k bytes n)) back front in
    let same = same-front cs prefix at n ascii (is ∙ ap (take n) back) in
    (subst (λ z. Fits place (length z)) same (token-fits start cs at n place out k bytes s h).1, token-line left prefix bytes k n front is)

pub token-pushed : (start place now : Place) (cs left prefix bytes : List ℕ) (at n : ℕ) (out now_out : List Token) (k : TokenKind) → IsAscii cs → SoFar start cs at place out → left ≡ drop at cs → PrefixIs left (OfToken k bytes n) → prefix ≡ take n left → now ≡ place_after place prefix → now_out ≡ out ++ record { kind = k; place = place; bytes = bytes } ∷ [] → SoFar start cs (at + n) now now_out
token-pushed start place now cs left prefix bytes at n out now_out k ascii s back front is behind grows =
    let h : PrefixIs (drop at cs) (OfToken k bytes n) = subst (λ z. PrefixIs z (OfToken k bytes n)) back front in
    let same = same-front cs prefix at n ascii (is ∙ ap (take n) back) in
    subst (λ z. SoFar start cs (at + n) z now_out) (ap (place_after place) same ∙ sym behind) (token-step start cs at n place out now_out k bytes s h grows)

-- no line ends in a token that is no text
pub lacks-line : (k : TokenKind) (bs : List ℕ) → (k ≡ Text → ⊥) → IsOneLine k bs → Lacks 10 bs
lacks-line Text bs h line = absurd (h refl)
lacks-line Word bs h line = line
lacks-line Integer bs h line = line
lacks-line Symbol bs h line = line

-- the text goes on where it was left

pub others-read : (start place : Place) (cs left : List ℕ) (at : ℕ) (out ts all : List Token) → SoFar start cs at place out → left ≡ drop at cs → Lexed place left ts → all ≡ out ++ ts → Lexed start cs all
others-read start place cs left at out ts all s is h e = subst (Lexed start cs) (sym e) (s.read ts (subst (λ z. Lexed place z ts) is h))

pub others-refused : (start place : Place) (cs left : List ℕ) (at : ℕ) (out : List Token) (e : Refuse) → SoFar start cs at place out → left ≡ drop at cs → Stops place left e → Stops start cs e
others-refused start place cs left at out Memory s is h = tt
others-refused start place cs left at out (At f) s is h = (s.stuck f.place (subst (λ z. Stuck place z f.place) is h.0), h.1)
others-refused start place cs left at out (Plain code) s is h = h
others-refused start place cs left at out (Broken code relvar number) s is h = h

pub left-encoded : (cs left chars : List ℕ) (at : ℕ) → IsAscii cs → left ≡ drop at cs → chars ≡ left → left ≡ encode_utf8_all chars
left-encoded cs left chars at ascii is same =
    let h : IsAscii left = subst IsAscii (sym is) (IsAscii-drop cs at ascii) in
    sym (ap encode_utf8_all same ∙ encodes-IsAscii left h)

pub left-fits : (start place : Place) (cs left chars : List ℕ) (at : ℕ) (out : List Token) → SoFar start cs at place out → left ≡ drop at cs → chars ≡ left → Fits place (length (encode_utf8_all chars))
left-fits start place cs left chars at out s is same = subst (λ z. Fits place (length (encode_utf8_all z))) (sym (same ∙ is)) s.fits
