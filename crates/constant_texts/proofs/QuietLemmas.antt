-- Texts in which no statement ends, and behind which none is open.
--     IsQuiet      so are these bytes, where they begin outside texts and comments
use Rattle.std.proofs.Common.{◌≡◌, ℕ, ◌+◌, ◌/◌, ◌≤◌, lit<, Bool, true, false, cond, eqb, ltb, not, ◌||◌, ◌&&◌, List, [], ◌∷◌, ◌++◌, encode_utf8_all, refl, sym, ◌∙◌, ap, subst, arith, inl, inr}
use Rattle.std.proofs.Math.Utf8.{encode, next as next_byte}
use Rattle.std.proofs.lemmas.Bool.{true≢false, cases_lt, lt-ltb, le-ltb, eqb-true, and_parts, and_from, not-true}
use Rattle.std.proofs.lemmas.Bool.Decides.{nat_tests}
use Rattle.std.proofs.lemmas.Str.{encodes-chars}
use Rattle.std.specs.Char.{is_ascii_digit}
use Rattle.std.specs.List.{flat_map, list_all}
use Rattle.std.specs.Str.{chars}
use Rattle.unicode_ident.proofs.IdentLemmas.{is_xid_start-ascii, is_xid_continue-ascii}
use Rattle.utd_lexer.specs.declared.cutter.Mode.{Mode}
use Rattle.utd_lexer.specs.declared.cutter.Mode.TheVariants.{Between, Text, Slash}
use Rattle.utd_lexer.specs.declared.token.TokenKind.TheVariants.{Word}
use Rattle.utd_lexer.specs.Cutting.{next, run, is_outside, is_plain}
use Rattle.utd_lexer.specs.Tokens.{starts, continues, AllOf, IsOfKind}
use Rattle.utd_lexer.proofs.CutLemmas.{run-append}
use Rattle.utd_print.specs.Tables.{quoted, quotes_doubled}
use Rattle.value_core.specs.Values.{Name}
use Rattle.text_laws.specs.Statements.{NoneEnds, IsOneStatement}
use Rattle.dump_core.specs.Inserts.{listed}
use Rattle.dump_core.specs.Inserts as inserts
use Rattle.constant_texts.specs.Calm.{is_calm}
use Rattle.constant_texts.proofs.NameLemmas.{IsWordName}

-- no statement ends in the bytes, where they begin in this mode
abbrev pub NoneFrom : Mode → List ℕ → Type 0
NoneFrom m [] = Unit {0}
NoneFrom m (c ∷ rest) = ((eqb c 59 && is_outside m) ≡ false) × NoneFrom (next m c) rest

pub record Stays (m : Mode) (bytes : List ℕ) : Type 0 where
  pub none : NoneFrom m bytes
  pub ends : run m bytes ≡ m

abbrev pub IsQuiet : List ℕ → Type 0
IsQuiet bytes = Stays Between bytes

-- ---- one behind another

none-append : (m : Mode) (a b : List ℕ) → NoneFrom m a → NoneFrom (run m a) b → NoneFrom m (a ++ b)
none-append m [] b h k = k
none-append m (c ∷ a) b h k = (h.0, none-append (next m c) a b h.1 k)

pub stays-then : (m : Mode) (a b : List ℕ) → Stays m a → Stays m b → Stays m (a ++ b)
stays-then m a b h k = record {
  none = none-append m a b h.none (subst (λ n. NoneFrom n b) (sym h.ends) k.none);
  ends = run-append m a b ∙ (ap (λ n. run n b) h.ends ∙ k.ends);
}

pub stays-nothing : (m : Mode) → Stays m []
stays-nothing m = record { none = tt; ends = refl }

-- ---- plain bytes

no-end : (c : ℕ) (m : Mode) → eqb c 59 ≡ false → (eqb c 59 && is_outside m) ≡ false
no-end c m h = ap (λ t. t && is_outside m) h

plain-next : (c : ℕ) → is_plain c ≡ true → next Between c ≡ Between
plain-next c h =
    let parts = and_parts (not (eqb c 39)) _ h in
    ap (λ t. cond t Text (cond (eqb c 47) Slash Between)) (not-true (eqb c 39) parts.0) ∙ ap (λ t. cond t Slash Between) (not-true (eqb c 47) (and_parts (not (eqb c 47)) _ parts.1).0)

pub plain-one : (c : ℕ) (rest : List ℕ) → is_plain c ≡ true → IsQuiet rest → IsQuiet (c ∷ rest)
plain-one c rest h k =
    let last = (and_parts (not (eqb c 47)) _ (and_parts (not (eqb c 39)) _ h).1).1 in
    record {
      none = (no-end c Between (not-true (eqb c 59) last), subst (λ m. NoneFrom m rest) (sym (plain-next c h)) k.none);
      ends = ap (λ m. run m rest) (plain-next c h) ∙ k.ends;
    }

pub plain-quiet : (bs : List ℕ) → AllOf is_plain bs → IsQuiet bs
plain-quiet [] h = stays-nothing Between
plain-quiet (c ∷ bs) h = plain-one c bs h.0 (plain-quiet bs h.1)

-- bytes that are known
all-plain : (bs : List ℕ) → list_all is_plain bs ≡ true → AllOf is_plain bs
all-plain [] h = tt
all-plain (c ∷ bs) h = let parts = and_parts (is_plain c) (list_all is_plain bs) h in (parts.0, all-plain bs parts.1)

pub known-quiet : (bs : List ℕ) → list_all is_plain bs ≡ true → IsQuiet bs
known-quiet bs h = plain-quiet bs (all-plain bs h)

digit-plain : (c : ℕ) → is_ascii_digit c ≡ true → is_plain c ≡ true
digit-plain c h = grind (arith, nat_tests)

digits-plain : (ds : List ℕ) → AllOf is_ascii_digit ds → AllOf is_plain ds
digits-plain [] h = tt
digits-plain (d ∷ ds) h = (digit-plain d h.0, digits-plain ds h.1)

pub digits-quiet : (ds : List ℕ) → AllOf is_ascii_digit ds → IsQuiet ds
digits-quiet ds h = plain-quiet ds (digits-plain ds h)

-- ---- names

apart-from : (c d : ℕ) (p : ℕ → Bool) (b : Bool) → eqb c d ≡ b → p c ≡ true → p d ≡ false → not b ≡ true
apart-from c d p false e h k = refl
apart-from c d p true e h k = absurd (true≢false (sym (subst (λ z. p z ≡ true) (eqb-true c d e) h) ∙ k))

-- what passes where `'`, `/` and `;` do not
passes-plain : (c : ℕ) (p : ℕ → Bool) → p c ≡ true → p 39 ≡ false → p 47 ≡ false → p 59 ≡ false → is_plain c ≡ true
passes-plain c p h quote slash semicolon =
    and_from _ _ (apart-from c 39 p (eqb c 39) refl h quote) (and_from _ _ (apart-from c 47 p (eqb c 47) refl h slash) (apart-from c 59 p (eqb c 59) refl h semicolon))

start-plain : (c : ℕ) → starts c ≡ true → is_plain c ≡ true
start-plain c h = passes-plain c starts h (ap (λ z. z || false) (is_xid_start-ascii 39 (lit< tt))) (ap (λ z. z || false) (is_xid_start-ascii 47 (lit< tt)))
    (ap (λ z. z || false) (is_xid_start-ascii 59 (lit< tt)))

continue-plain : (c : ℕ) → continues c ≡ true → is_plain c ≡ true
continue-plain c h = passes-plain c continues h (is_xid_continue-ascii 39 (lit< tt)) (is_xid_continue-ascii 47 (lit< tt)) (is_xid_continue-ascii 59 (lit< tt))

great-plain : (b : ℕ) → 60 ≤ b → is_plain b ≡ true
great-plain b h = grind (arith, nat_tests)

great-next : (n : ℕ) → 60 ≤ next_byte n
great-next n = omega arith

-- the bytes of a plain character
character-plain : (c : ℕ) → is_plain c ≡ true → AllOf is_plain (encode c)
unfolding encode
character-plain c h = elim (cases_lt c 128) [
  | inl i ↦ rw (lt-ltb c 128 i) (h, tt)
  | inr i ↦ rw (le-ltb c 128 i) (elim (cases_lt c 2048) [
    | inl j ↦ rw (lt-ltb c 2048 j) (great-plain (192 + c / 64) (omega arith), (great-plain (next_byte c) (great-next c), tt))
    | inr j ↦ rw (le-ltb c 2048 j) (elim (cases_lt c 65536) [
      | inl k ↦ rw (lt-ltb c 65536 k) (great-plain (224 + c / 4096) (omega arith), (great-plain (next_byte (c / 64)) (great-next (c / 64)), (great-plain (next_byte c) (great-next c), tt)))
      | inr k ↦ rw (le-ltb c 65536 k) (
        great-plain (240 + c / 262144) (omega arith),
        (great-plain (next_byte (c / 4096)) (great-next (c / 4096)), (great-plain (next_byte (c / 64)) (great-next (c / 64)), (great-plain (next_byte c) (great-next c), tt))),
      )
    ])
  ])
]

plain-append : (xs ys : List ℕ) → AllOf is_plain xs → AllOf is_plain ys → AllOf is_plain (xs ++ ys)
plain-append [] ys h k = k
plain-append (x ∷ xs) ys h k = (h.0, plain-append xs ys h.1 k)

continued-plain : (cs : List ℕ) → AllOf continues cs → AllOf is_plain (encode_utf8_all cs)
continued-plain [] h = tt
continued-plain (c ∷ cs) h = plain-append (encode c) (encode_utf8_all cs) (character-plain c (continue-plain c h.0)) (continued-plain cs h.1)

word-plain : (cs : List ℕ) → IsOfKind Word cs → AllOf is_plain (encode_utf8_all cs)
word-plain [] h = absurd h
word-plain (c ∷ cs) h = plain-append (encode c) (encode_utf8_all cs) (character-plain c (start-plain c h.0)) (continued-plain cs h.1)

pub name-quiet : (w : Name) → IsWordName w → IsQuiet w
name-quiet w h = plain-quiet w (subst (AllOf is_plain) (encodes-chars w h.utf8) (word-plain (chars w) h.kind))

-- ---- texts

never : (a : Bool) → (a && false) ≡ false
never true = refl
never false = refl

byte-inside : (b : ℕ) (t : Bool) → eqb b 39 ≡ t → Stays Text (cond t (39 ∷ 39 ∷ []) (b ∷ []))
byte-inside b true e = record { none = (refl, (refl, tt)); ends = refl }
byte-inside b false e = record { none = (never (eqb b 59), tt); ends = ap (λ t. cond t Between Text) e }

quoted-inside : (bytes : List ℕ) → Stays Text (quotes_doubled bytes)
quoted-inside [] = stays-nothing Text
quoted-inside (b ∷ bytes) = stays-then Text (quoted b) (quotes_doubled bytes) (byte-inside b (eqb b 39) refl) (quoted-inside bytes)

-- between quotes
inside-quiet : (d : List ℕ) → Stays Text d → IsQuiet (39 ∷ (d ++ 39 ∷ []))
inside-quiet d h = record {
  none = (refl, none-append Text d (39 ∷ []) h.none (subst (λ m. NoneFrom m (39 ∷ [])) (sym h.ends) (refl, tt)));
  ends = run-append Text d (39 ∷ []) ∙ ap (λ m. run m (39 ∷ [])) h.ends;
}

pub text-quiet : (bytes : List ℕ) → IsQuiet (39 ∷ (quotes_doubled bytes ++ 39 ∷ []))
text-quiet bytes = inside-quiet (quotes_doubled bytes) (quoted-inside bytes)

calm-inside : (bs : List ℕ) → AllOf is_calm bs → Stays Text bs
calm-inside [] h = stays-nothing Text
calm-inside (b ∷ bs) h =
    let other : eqb b 39 ≡ false = not-true (eqb b 39) (and_parts (not (eqb b 39)) _ (and_parts (ltb b 128) _ h.0).1).0 in
    stays-then Text (b ∷ []) bs (record { none = (never (eqb b 59), tt); ends = ap (λ t. cond t Between Text) other }) (calm-inside bs h.1)

pub calm-quiet : (bs : List ℕ) → AllOf is_calm bs → IsQuiet (39 ∷ (bs ++ 39 ∷ []))
calm-quiet bs h = inside-quiet bs (calm-inside bs h)

-- ---- lists

abbrev pub AllQuiet : List (List ℕ) → Type 0
AllQuiet [] = Unit {0}
AllQuiet (t ∷ ts) = IsQuiet t × AllQuiet ts

more-quiet : (ts : List (List ℕ)) → AllQuiet ts → IsQuiet (flat_map inserts.behind_comma ts)
more-quiet [] h = stays-nothing Between
more-quiet (t ∷ ts) h = plain-one 44 _ refl (plain-one 32 _ refl (stays-then Between t (flat_map inserts.behind_comma ts) h.0 (more-quiet ts h.1)))

pub listed-quiet : (ts : List (List ℕ)) → AllQuiet ts → IsQuiet (listed ts)
listed-quiet [] h = stays-nothing Between
listed-quiet (t ∷ ts) h = stays-then Between t (flat_map inserts.behind_comma ts) h.0 (more-quiet ts h.1)

-- ---- statements

from-mode : (prefix bytes : List ℕ) → NoneFrom (run Between prefix) bytes → NoneEnds prefix bytes
from-mode prefix [] h = tt
from-mode prefix (c ∷ rest) h = (h.0, from-mode (prefix ++ c ∷ []) rest (subst (λ m. NoneFrom m rest) (sym (run-append Between prefix (c ∷ []))) h.1))

pub quiet-one : (front bytes : List ℕ) → bytes ≡ front ++ 59 ∷ [] → IsQuiet front → IsOneStatement bytes
quiet-one front bytes is h = (front, is, ap is_outside h.ends, from-mode [] front h.none)
