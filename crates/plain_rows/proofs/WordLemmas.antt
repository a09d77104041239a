-- Words at the front of bytes.
use Rattle.std.proofs.Common.{◌≡◌, ℕ, ◌<◌, List, [], ◌∷◌, ◌++◌, length, take, drop, Bool, true, false, eqb, ltb, not, ◌||◌, ◌&&◌, refl, sym, ◌∙◌, ap, subst, arith}
use Rattle.std.proofs.lemmas.Bool.{true≢false, ltb-true, lt-ltb, and_parts, not-true}
use Rattle.std.proofs.lemmas.List.{take_at, drop_at}
use Rattle.std.proofs.lemmas.Str.{chars-nil}
use Rattle.std.proofs.lemmas.Str.Ascii.{IsAscii-nil, IsAscii-cons}
use Rattle.std.specs.Char.{is_ascii_alphabetic, is_ascii_alphanumeric}
use Rattle.std.specs.List.{prefix_len}
use Rattle.std.specs.Str.{chars, IsAscii}
use Rattle.unicode_ident.proofs.IdentLemmas.{is_xid_start-ascii, is_xid_continue-ascii}
use Rattle.utd_lexer.specs.declared.token.TokenKind.TheVariants.{Word}
use Rattle.utd_lexer.specs.Tokens.{starts, continues, AllOf, IsOfKind, EndsAt}
use Rattle.utd_lexer.proofs.ListLemmas.{same-head}
use Rattle.utd_lexer.proofs.WordLemmas.{taken}
use Rattle.plain_rows.specs.Lexemes.{Begins, begins_word, continues_word, ends_before, all_continue, is_word}
use Rattle.plain_rows.proofs.BeginLemmas.{chars-one}
use Rattle.plain_rows.proofs.TokenLemmas.{begins-token}

small-of : (c : ℕ) (b : Bool) → (ltb c 128 && b) ≡ true → c < 128
small-of c b h = ltb-true c 128 (and_parts (ltb c 128) b h).0

rest-of : (c : ℕ) (b : Bool) → (ltb c 128 && b) ≡ true → b ≡ true
rest-of c b h = (and_parts (ltb c 128) b h).1

fails-of : (a b : Bool) → a ≡ true → (a && b) ≡ false → b ≡ false
fails-of true b e h = h
fails-of false b e h = absurd (true≢false (sym e))

start-starts : (c : ℕ) → begins_word c ≡ true → starts c ≡ true
start-starts c h =
    let b = is_ascii_alphabetic c || eqb c 95 in
    ap (λ z. z || eqb c 95) (is_xid_start-ascii c (small-of c b h)) ∙ rest-of c b h

goes-on : (c : ℕ) → continues_word c ≡ true → continues c ≡ true
goes-on c h =
    let b = is_ascii_alphanumeric c || eqb c 95 in
    is_xid_continue-ascii c (small-of c b h) ∙ rest-of c b h

stops : (c : ℕ) → c < 128 → continues_word c ≡ false → continues c ≡ false
stops c small h = is_xid_continue-ascii c small ∙ fails-of (ltb c 128) (is_ascii_alphanumeric c || eqb c 95) (lt-ltb c 128 small) h

all-continue : (cs : List ℕ) → AllOf continues_word cs → AllOf continues cs
all-continue [] h = tt
all-continue (c ∷ cs) h = (goes-on c h.0, all-continue cs h.1)

all-small : (cs : List ℕ) → AllOf continues_word cs → IsAscii cs
all-small [] h = IsAscii-nil
all-small (c ∷ cs) h = IsAscii-cons c cs (small-of c (is_ascii_alphanumeric c || eqb c 95) h.0) (all-small cs h.1)

word-ends : (v rest : List ℕ) → ends_before continues_word rest ≡ true → EndsAt Word v (chars rest)
word-ends v [] h = subst (EndsAt Word v) (sym chars-nil) tt
word-ends v (d ∷ rest) h =
    let parts = and_parts (ltb d 128) (not (continues_word d)) h in
    let small = ltb-true d 128 parts.0 in
    subst (EndsAt Word v) (sym (chars-one d rest small)) (stops d small (not-true (continues_word d) parts.1))

pub ends-nothing : (p : ℕ → Bool) (rest : List ℕ) → length rest ≡ 0 → ends_before p rest ≡ true
ends-nothing p [] h = refl
ends-nothing p (d ∷ rest) h = absurd (omega (arith, h))

word-kind : (c : ℕ) (behind front rest : List ℕ) → c ∷ behind ≡ front ++ rest → begins_word c ≡ true → 0 < length front → AllOf continues_word front → IsOfKind Word front
word-kind c behind [] rest is s some all = absurd (omega (arith, some))
word-kind c behind (d ∷ front) rest is s some all = (ap starts (sym (same-head c d behind _ is)) ∙ start-starts c s, (all-continue (d ∷ front) all).1)

-- the token of the bytes that go on a word
begins-split : (c : ℕ) (behind v rest : List ℕ) → c ∷ behind ≡ v ++ rest → begins_word c ≡ true → 0 < length v → AllOf continues_word v → ends_before continues_word rest ≡ true → Begins (v ++ rest) ((Word, v) ∷ []) rest
begins-split c behind v rest is s some all ends =
    begins-token Word v rest (all-small v all) (all-small v all) (word-kind c behind v rest is s some all, word-ends v rest ends)

pub begins-word : (text : List ℕ) (c : ℕ) (behind front rest : List ℕ) (n : ℕ) → text ≡ c ∷ behind → begins_word c ≡ true → 0 < n → n ≡ prefix_len continues_word text → front ≡ take n text → rest ≡ drop n text → ends_before continues_word rest ≡ true → Begins text ((Word, front) ∷ []) rest
begins-word text c behind front rest n is s some h t d ends =
    let q = taken continues_word text n h in
    let same : front ≡ q.0 = t ∙ ap (take n) q.2 ∙ take_at q.0 q.1 n q.5 in
    let left : rest ≡ q.1 = d ∙ ap (drop n) q.2 ∙ drop_at q.0 q.1 n q.5 in
    let nonempty : 0 < length q.0 = subst (λ z. 0 < z) (sym q.5) some in
    let begins = begins-split c behind q.0 q.1 (sym is ∙ q.2) s nonempty q.3 (subst (λ z. ends_before continues_word z ≡ true) left ends) in
    let of_front = subst (λ z. Begins (q.0 ++ q.1) ((Word, z) ∷ []) q.1) (sym same) begins in
    let to_rest = subst (λ z. Begins (q.0 ++ q.1) ((Word, front) ∷ []) z) (sym left) of_front in
    subst (λ z. Begins z ((Word, front) ∷ []) rest) (sym q.2) to_rest

-- ---- a word that is known

all-pass : (cs : List ℕ) → all_continue cs ≡ true → AllOf continues_word cs
all-pass [] h = tt
all-pass (c ∷ cs) h = let parts = and_parts (continues_word c) (all_continue cs) h in (parts.0, all-pass cs parts.1)

start-small : (c : ℕ) → begins_word c ≡ true → c < 128
start-small c h = small-of c (is_ascii_alphabetic c || eqb c 95) h

known-begins : (w rest : List ℕ) → is_word w ≡ true → ends_before continues_word rest ≡ true → Begins (w ++ rest) ((Word, w) ∷ []) rest
known-begins [] rest h ends = absurd (true≢false (sym h))
known-begins (c ∷ cs) rest h ends =
    let parts = and_parts (begins_word c) (all_continue cs) h in
    let all = all-pass cs parts.1 in
    let small = IsAscii-cons c cs (start-small c parts.0) (all-small cs all) in
    begins-token Word (c ∷ cs) rest small small ((start-starts c parts.0, all-continue cs all), word-ends (c ∷ cs) rest ends)

pub begins-known : (text w rest : List ℕ) → text ≡ w ++ rest → is_word w ≡ true → ends_before continues_word rest ≡ true → Begins text ((Word, w) ∷ []) rest
begins-known text w rest is h ends = subst (λ z. Begins z ((Word, w) ∷ []) rest) (sym is) (known-begins w rest h ends)

pub word-ascii : (w : List ℕ) → is_word w ≡ true → IsAscii w
word-ascii [] h = absurd (true≢false (sym h))
word-ascii (c ∷ cs) h = let parts = and_parts (begins_word c) (all_continue cs) h in IsAscii-cons c cs (start-small c parts.0) (all-small cs (all-pass cs parts.1))
