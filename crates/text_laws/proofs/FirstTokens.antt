-- No white space and no comment begins where a token does.
--     Unblank      characters or bytes with which none of these begins
--     unblank-encoded      the bytes of such characters are such
--     token-unblank      where a token stands
--     unblank-gaps      the longest front of gaps is empty there
use Rattle.std.proofs.Common.{◌≡◌, ℕ, zero, suc, ◌<◌, ◌≤◌, List, [], ◌∷◌, ◌++◌, length, take, Bool, true, false, ◌&&◌, ◌||◌, ◌==◌, if◌then◌else◌, nat_le, refl, sym, ◌∙◌, ap, subst, arith, leb-true, leb-false, length-append, inl, inr, encode_utf8, encode_utf8_all}
use Rattle.std.proofs.lemmas.Bool.{and_left, cases_Bool, false_from_ne_true, false≢true, or_from}
use Rattle.std.proofs.lemmas.Bool.Decides.{eqb_tells, nat_tests}
use Rattle.std.proofs.lemmas.Str.{encode_ascii}
use Rattle.std.specs.Char.{is_ascii_digit}
use Rattle.utd_lexer.specs.declared.token.TokenKind.{TokenKind}
use Rattle.utd_lexer.specs.declared.token.TokenKind.TheVariants.{Word, Integer, Text, Symbol}
use Rattle.utd_lexer.specs.declared.cutter.Mode.{Mode}
use Rattle.utd_lexer.specs.declared.cutter.Mode.TheVariants as modes
use Rattle.utd_lexer.specs.Parts.{is_space}
use Rattle.utd_lexer.specs.Cutting.{blank_next, can_be_blank, is_between, next, run}
use Rattle.utd_lexer.specs.Gaps.{is_gap, gaps_len}
use Rattle.utd_lexer.specs.Tokens.{among, seconds, opens_comment, spelling, EndsAt, IsOfKind, IsToken, blank}
use Rattle.utd_lexer.proofs.ListLemmas.{same-head, same-tail}
use Rattle.utd_lexer.proofs.OnePrefixLemmas.{token-same, gap-token}
use Rattle.utd_lexer.proofs.ReadLemmas.{some-token}
use Rattle.text_laws.proofs.EncodedGaps.{Own, own-encode, some-byte, blank-small}

-- these begin with no white space and with no comment
abbrev pub Unblank : List ℕ → Type 0
Unblank [] = ⊥
Unblank (b ∷ []) = is_space b ≡ false
Unblank (b ∷ (c ∷ rest)) = (is_space b ≡ false) × (b ≡ 47 → opens_comment 47 c ≡ false)

-- ---- bytes

-- bytes that are not blank stay so
stays-off : (m : Mode) (ok : Bool) (b : ℕ) → ok ≡ false → blank_next m ok b ≡ false
stays-off modes.Between ok b e = and_left ok _ e
stays-off modes.Slash ok b e = and_left ok _ e
stays-off modes.Text ok b e = e
stays-off modes.Block ok b e = e
stays-off modes.Star ok b e = e
stays-off modes.Line ok b e = e

never-blank : (m : Mode) (ok : Bool) (bytes : List ℕ) → ok ≡ false → can_be_blank m ok bytes ≡ false
never-blank m ok [] e = e
never-blank m ok (b ∷ bytes) e = never-blank (next m b) (blank_next m ok b) bytes (stays-off m ok b e)

no-gap : (bytes : List ℕ) → can_be_blank modes.Between true bytes ≡ false → is_gap bytes ≡ false
no-gap bytes h = ap (λ b. b && is_between (run modes.Between bytes)) h

first-blank : (b : ℕ) (bytes : List ℕ) → blank_next modes.Between true b ≡ false → is_gap (b ∷ bytes) ≡ false
first-blank b bytes h = no-gap (b ∷ bytes) (never-blank (next modes.Between b) (blank_next modes.Between true b) bytes h)

or-swap : (x y : Bool) → (x || y) ≡ false → (y || x) ≡ false
or-swap true true e = e
or-swap true false e = e
or-swap false true e = e
or-swap false false e = e

one-byte : (b : ℕ) → is_space b ≡ false → is_gap (b ∷ []) ≡ false
one-byte b h = elim (eqb_tells b 47) [
  | inl p ↦ subst (λ z. is_gap (z ∷ []) ≡ false) (sym p.1) refl
  | inr p ↦ first-blank b [] (or_from (is_space b) (b == 47) h p.0)
]

-- a `/` with which no comment begins
lone-slash : (c : ℕ) (bytes : List ℕ) → opens_comment 47 c ≡ false → is_gap (47 ∷ (c ∷ bytes)) ≡ false
lone-slash c bytes h =
    let flag : blank_next modes.Slash true c ≡ false = or-swap (c == 47) (c == 42) h in
    no-gap (47 ∷ (c ∷ bytes)) (never-blank (next modes.Slash c) (blank_next modes.Slash true c) bytes flag)

two-bytes : (b c : ℕ) (bytes : List ℕ) → is_space b ≡ false → (b ≡ 47 → opens_comment 47 c ≡ false) → is_gap (b ∷ (c ∷ bytes)) ≡ false
two-bytes b c bytes h k = elim (eqb_tells b 47) [
  | inl p ↦ subst (λ z. is_gap (z ∷ (c ∷ bytes)) ≡ false) (sym p.1) (lone-slash c bytes (k p.1))
  | inr p ↦ first-blank b (c ∷ bytes) (or_from (is_space b) (b == 47) h p.0)
]

front-unblank : (s : List ℕ) (n : ℕ) → Unblank s → is_gap (take (suc n) s) ≡ false
front-unblank [] n h = absurd h
front-unblank (b ∷ []) zero h = one-byte b h
front-unblank (b ∷ []) (suc n) h = one-byte b h
front-unblank (b ∷ (c ∷ s)) zero h = one-byte b h.0
front-unblank (b ∷ (c ∷ s)) (suc n) h = two-bytes b c (take n s) h.0 h.1

pub unblank-gaps : (s : List ℕ) (n : ℕ) → Unblank s → gaps_len s n ≡ 0
unblank-gaps s zero h = refl
unblank-gaps s (suc n) h = ap (λ b. if b then suc n else gaps_len s n) (front-unblank s n h) ∙ unblank-gaps s n h

-- ---- the bytes of characters

space-own : (c b : ℕ) → (b < 128 → c ≡ b) → is_space c ≡ false → is_space b ≡ false
space-own c b own h = false_from_ne_true (is_space b) (λ t. false≢true (sym h ∙ ap is_space (own (omega (arith, blank-small b t))) ∙ t))

opens-small : (b : ℕ) → opens_comment 47 b ≡ true → b < 128
opens-small b t = grind (arith, nat_tests)

opens-own : (c b : ℕ) → (b < 128 → c ≡ b) → opens_comment 47 c ≡ false → opens_comment 47 b ≡ false
opens-own c b own h = false_from_ne_true (opens_comment 47 b) (λ t. false≢true (sym h ∙ ap (opens_comment 47) (own (opens-small b t)) ∙ t))

high-unblank : (c : ℕ) (bs rest : List ℕ) → 0 < length bs → Own c bs → 128 ≤ c → is_space c ≡ false → Unblank (bs ++ rest)
high-unblank c [] rest some own high h = absurd (omega (arith, some))
high-unblank c (b ∷ []) [] some own high h = space-own c b own.0 h
high-unblank c (b ∷ []) (d ∷ rest) some own high h =
    (space-own c b own.0 h, λ e. let small : b < 128 = omega (arith, e) in let same : c ≡ b = own.0 small in absurd (omega (arith, same, small, high)))
high-unblank c (b ∷ (d ∷ bs)) rest some own high h =
    (space-own c b own.0 h, λ e. let small : b < 128 = omega (arith, e) in let same : c ≡ b = own.0 small in absurd (omega (arith, same, small, high)))

low-unblank : (c d : ℕ) (bs rest : List ℕ) → 0 < length bs → Own d bs → is_space c ≡ false → (c ≡ 47 → opens_comment 47 d ≡ false) → Unblank (c ∷ (bs ++ rest))
low-unblank c d [] rest some own h k = absurd (omega (arith, some))
low-unblank c d (b ∷ bs) rest some own h k = (h, λ e. opens-own d b own.0 (k e))

first-space : (c : ℕ) (cs : List ℕ) → Unblank (c ∷ cs) → is_space c ≡ false
first-space c [] h = h
first-space c (d ∷ cs) h = h.0

ascii-unblank : (c : ℕ) (cs : List ℕ) → Unblank (c ∷ cs) → Unblank (c ∷ encode_utf8_all cs)
ascii-unblank c [] h = h
ascii-unblank c (d ∷ cs) h = low-unblank c d (encode_utf8 d) (encode_utf8_all cs) (some-byte d) (own-encode d) h.0 h.1

pub unblank-encoded : (cs : List ℕ) → Unblank cs → Unblank (encode_utf8_all cs)
unblank-encoded [] h = absurd h
unblank-encoded (c ∷ cs) h = elim (cases_Bool (nat_le 128 c)) [
  | inl e ↦ high-unblank c (encode_utf8 c) (encode_utf8_all cs) (some-byte c) (own-encode c) (leb-true 128 c e) (first-space c cs h)
  | inr e ↦ subst (λ z. Unblank (z ++ encode_utf8_all cs)) (sym (encode_ascii c (leb-false 128 c e))) (ascii-unblank c cs h)
]

-- ---- where a token stands

-- a `/` is no letter, since it is a symbol
word-slash : (v : List ℕ) → IsOfKind Word (47 ∷ v) → ⊥
word-slash v h =
    let e : Word ≡ Symbol = (token-same Word Symbol (47 ∷ []) (47 ∷ []) [] [] ((h.0, tt), tt) (refl, tt) refl).0 in cc

-- behind a `/` at which a token stands, no comment goes on
slash-token : (k : TokenKind) (v s rest : List ℕ) (d : ℕ) → IsToken k v s → spelling k v ++ s ≡ 47 ∷ (d ∷ rest) → opens_comment 47 d ≡ false
slash-token Word [] s rest d h e = absurd h.0
slash-token Word (c ∷ v) s rest d h e = absurd (word-slash v (subst (λ z. IsOfKind Word (z ∷ v)) (same-head c 47 _ _ e) h.0))
slash-token Integer [] s rest d h e = absurd h.0
slash-token Integer (c ∷ v) s rest d h e = absurd (false≢true (ap is_ascii_digit (sym (same-head c 47 _ _ e)) ∙ h.0.0))
slash-token Text v s rest d h e = let f : 39 ≡ 47 = same-head 39 47 _ _ e in absurd (omega (arith, f))
slash-token Symbol [] s rest d h e = absurd h.0
slash-token Symbol (a ∷ []) s rest d h e =
    subst (λ z. EndsAt Symbol (z ∷ []) (d ∷ rest)) (same-head a 47 _ _ e) (subst (EndsAt Symbol (a ∷ [])) (same-tail a 47 _ _ e) h.1)
slash-token Symbol (a ∷ (b ∷ [])) s rest d h e =
    absurd (false≢true (ap (λ z. among b (seconds z)) (sym (same-head a 47 _ _ e)) ∙ h.0))
slash-token Symbol (a ∷ (b ∷ (c ∷ v))) s rest d h e = absurd h.0

unblank-is : (k : TokenKind) (v rest cs : List ℕ) → IsToken k v rest → spelling k v ++ rest ≡ cs → Unblank cs
unblank-is k v rest [] h e =
    let some = some-token k v rest h in
    let none : length (spelling k v ++ rest) ≡ 0 = ap length e in
    omega (arith, some, none, length-append (spelling k v) rest)
unblank-is k v rest (c ∷ []) h e = false_from_ne_true (is_space c) (λ t. gap-token (blank c) [] k v rest t h (sym e))
unblank-is k v rest (c ∷ (d ∷ cs)) h e = (
  false_from_ne_true (is_space c) (λ t. gap-token (blank c) (d ∷ cs) k v rest t h (sym e)),
  λ is. slash-token k v rest cs d h (e ∙ ap (λ z. z ∷ (d ∷ cs)) is),
)

pub token-unblank : (k : TokenKind) (v rest : List ℕ) → IsToken k v rest → Unblank (spelling k v ++ rest)
token-unblank k v rest h = unblank-is k v rest (spelling k v ++ rest) h refl
