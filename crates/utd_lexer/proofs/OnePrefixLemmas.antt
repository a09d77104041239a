-- At most one gap or token stands at the front of characters.
use Rattle.std.proofs.Common.{◌≡◌, ◌≢◌, ℕ, ◌<◌, List, [], ◌∷◌, ◌++◌, Bool, true, false, cond, ◌||◌, eqb, refl, sym, ◌∙◌, ap, subst, arith, lit<, append_assoc, append-nil, inl, inr}
use Rattle.std.proofs.lemmas.List.{append_cancel_left}
use Rattle.std.proofs.lemmas.Bool.{eqb-true}
use Rattle.std.proofs.lemmas.Bool.Decides.{eqb_tells, nat_tests}
use Rattle.std.specs.Char.{is_ascii_digit, is_ascii_alphabetic}
use Rattle.unicode_ident.proofs.IdentLemmas.{is_xid_start-ascii}
use Rattle.base_core.proofs.BoolLemmas.{left_false}
use Rattle.utd_lexer.specs.declared.token.TokenKind.{TokenKind}
use Rattle.utd_lexer.specs.declared.token.TokenKind.TheVariants.{Word, Integer, Text, Symbol}
use Rattle.utd_lexer.specs.Parts.{is_space, Lacks, LacksEnd}
use Rattle.utd_lexer.specs.Tokens.{starts, continues, among, singles, seconds, opens_comment, AllOf, doubled, spelling, EndsAt, IsToken, Gap, blank, block, line, last, spelling_of_gap, IsGap}
use Rattle.utd_lexer.proofs.CutLemmas.{LacksEnd-tail}
use Rattle.utd_lexer.proofs.ListLemmas.{same-head, same-tail, nil-cons}
use Rattle.utd_lexer.proofs.TextLemmas.{ends-any}
use Rattle.utd_lexer.proofs.WordLemmas.{Stops, or-cases}

-- ---- what begins a token of each kind

both-values : (b : Bool) → b ≡ true → b ≡ false → ⊥
both-values b t f = let e : true ≡ false = sym t ∙ f in cc

abbrev no_start : ℕ → Bool
no_start c = is_ascii_alphabetic c || (eqb c 95)

starts-ascii : (c : ℕ) → c < 128 → no_start c ≡ false → starts c ≡ false
starts-ascii c small none = ap (λ b. b || eqb c 95) (is_xid_start-ascii c small) ∙ none

-- the characters that begin a symbol
abbrev firsts : List ℕ
firsts = 124 ∷ singles

abbrev Begins : TokenKind → ℕ → Type 0
Begins Word c = starts c ≡ true
Begins Integer c = is_ascii_digit c ≡ true
Begins Text c = c ≡ 39
Begins Symbol c = among c firsts ≡ true

-- all of these have the property
abbrev Each : (ℕ → Type 0) → List ℕ → Type 0
Each P [] = Unit {0}
Each P (x ∷ xs) = P x × Each P xs

each-among : (P : ℕ → Type 0) (xs : List ℕ) (c : ℕ) → Each P xs → among c xs ≡ true → P c
each-among P [] c each h = absurd (both-values true refl (sym h))
each-among P (x ∷ xs) c each h = elim (eqb_tells c x) [
  | inl p ↦ subst P (sym p.1) each.0
  | inr p ↦ each-among P xs c each.1 (sym (ap (λ b. b || among c xs) p.0) ∙ h)
]

no-symbol-start : (c : ℕ) → among c firsts ≡ true → starts c ≡ false
no-symbol-start c = each-among (λ x. starts x ≡ false) firsts c (
  starts-ascii 124 (lit< tt) refl,
  (
    starts-ascii 40 (lit< tt) refl,
    (
      starts-ascii 41 (lit< tt) refl,
      (
        starts-ascii 91 (lit< tt) refl,
        (
          starts-ascii 93 (lit< tt) refl,
          (
            starts-ascii 123 (lit< tt) refl,
            (
              starts-ascii 125 (lit< tt) refl,
              (
                starts-ascii 44 (lit< tt) refl,
                (
                  starts-ascii 59 (lit< tt) refl,
                  (
                    starts-ascii 58 (lit< tt) refl,
                    (
                      starts-ascii 61 (lit< tt) refl,
                      (
                        starts-ascii 60 (lit< tt) refl,
                        (
                          starts-ascii 62 (lit< tt) refl,
                          (
                            starts-ascii 43 (lit< tt) refl,
                            (
                              starts-ascii 45 (lit< tt) refl,
                              (
                                starts-ascii 42 (lit< tt) refl,
                                (
                                  starts-ascii 47 (lit< tt) refl,
                                  (
                                    starts-ascii 46 (lit< tt) refl,
                                    tt,
                                  ),
                                ),
                              ),
                            ),
                          ),
                        ),
                      ),
                    ),
                  ),
                ),
              ),
            ),
          ),
        ),
      ),
    ),
  ),
)

no-symbol-digit : (c : ℕ) → among c firsts ≡ true → is_ascii_digit c ≡ false
no-symbol-digit c = each-among (λ x. is_ascii_digit x ≡ false) firsts c (
  refl,
  (
    refl,
    (
      refl,
      (
        refl,
        (
          refl,
          (
            refl,
            (
              refl,
              (
                refl,
                (
                  refl,
                  (
                    refl,
                    (
                      refl,
                      (
                        refl,
                        (
                          refl,
                          (
                            refl,
                            (
                              refl,
                              (
                                refl,
                                (refl, (refl, tt)),
                              ),
                            ),
                          ),
                        ),
                      ),
                    ),
                  ),
                ),
              ),
            ),
          ),
        ),
      ),
    ),
  ),
)

digit-start : (c : ℕ) → is_ascii_digit c ≡ true → starts c ≡ false
digit-start c h =
    let small : c < 128 = grind (arith, nat_tests) in
    let none : no_start c ≡ false = grind (arith, nat_tests) in
    starts-ascii c small none

quote-start : starts 39 ≡ false
quote-start = starts-ascii 39 (lit< tt) refl

-- a character begins tokens of one kind
one-kind : (j k : TokenKind) (c : ℕ) → Begins j c → Begins k c → j ≡ k
one-kind Word Word c a b = refl
one-kind Word Integer c a b = absurd (both-values (starts c) a (digit-start c b))
one-kind Word Text c a b = absurd (both-values (starts c) a (ap starts b ∙ quote-start))
one-kind Word Symbol c a b = absurd (both-values (starts c) a (no-symbol-start c b))
one-kind Integer Word c a b = absurd (both-values (starts c) b (digit-start c a))
one-kind Integer Integer c a b = refl
one-kind Integer Text c a b = absurd (both-values (is_ascii_digit c) a (ap is_ascii_digit b))
one-kind Integer Symbol c a b = absurd (both-values (is_ascii_digit c) a (no-symbol-digit c b))
one-kind Text Word c a b = absurd (both-values (starts c) b (ap starts a ∙ quote-start))
one-kind Text Integer c a b = absurd (both-values (is_ascii_digit c) b (ap is_ascii_digit a))
one-kind Text Text c a b = refl
one-kind Text Symbol c a b = absurd (both-values (among c firsts) b (ap (λ x. among x firsts) a))
one-kind Symbol Word c a b = absurd (both-values (starts c) b (no-symbol-start c a))
one-kind Symbol Integer c a b = absurd (both-values (is_ascii_digit c) b (no-symbol-digit c a))
one-kind Symbol Text c a b = absurd (both-values (among c firsts) a (ap (λ x. among x firsts) b))
one-kind Symbol Symbol c a b = refl

-- what makes a symbol with a second character begins one
pair-first : (a b : ℕ) → among b (seconds a) ≡ true → among a firsts ≡ true
pair-first a b h = elim (eqb_tells a 58) [
  | inl p ↦ ap (λ x. among x firsts) p.1
  | inr p ↦ elim (eqb_tells a 60) [
    | inl q ↦ ap (λ x. among x firsts) q.1
    | inr q ↦ elim (eqb_tells a 62) [
      | inl r ↦ ap (λ x. among x firsts) r.1
      | inr r ↦ elim (eqb_tells a 124) [
        | inl s ↦ ap (λ x. among x firsts) s.1
        | inr s ↦ absurd (both-values (among b (seconds a)) h (rw (p.0, q.0, r.0, s.0) refl))
      ]
    ]
  ]
]

single-first : (a : ℕ) → among a singles ≡ true → among a firsts ≡ true
single-first a h = ap (λ b. eqb a 124 || b) h ∙ or-true (eqb a 124)
  where
    or-true : (b : Bool) → (b || true) ≡ true
    or-true true = refl
    or-true false = refl

-- the first character of a token
pub record StartsToken (k : TokenKind) (v rest : List ℕ) : Type 0 where
  pub first : ℕ
  pub behind : List ℕ
  pub is : spelling k v ++ rest ≡ first ∷ behind
  pub begins : Begins k first

token-start : (k : TokenKind) (v rest : List ℕ) → IsToken k v rest → StartsToken k v rest
token-start Word [] rest h = absurd h.0
token-start Word (c ∷ cs) rest h = record { first = c; behind = cs ++ rest; is = refl; begins = h.0.0 }
token-start Integer [] rest h = absurd h.0
token-start Integer (c ∷ cs) rest h = record { first = c; behind = cs ++ rest; is = refl; begins = h.0.0 }
token-start Text cs rest h = record { first = 39; behind = (doubled cs ++ 39 ∷ []) ++ rest; is = refl; begins = refl }
token-start Symbol [] rest h = absurd h.0
token-start Symbol (a ∷ []) rest h = record { first = a; behind = rest; is = refl; begins = single-first a h.0 }
token-start Symbol (a ∷ (b ∷ [])) rest h = record { first = a; behind = b ∷ rest; is = refl; begins = pair-first a b h.0 }
token-start Symbol (a ∷ (b ∷ (c ∷ cs))) rest h = absurd h.0

-- ---- one token

-- two prefixes all of which pass and that go no further are one
run-same : (p : ℕ → Bool) (a b r s : List ℕ) → AllOf p a → AllOf p b → Stops p r → Stops p s → a ++ r ≡ b ++ s → a ≡ b
run-same p [] [] r s all one stop end e = refl
run-same p [] (y ∷ b) r s all one stop end e = absurd (both-values (p y) one.0 (subst (Stops p) e stop))
run-same p (x ∷ a) [] r s all one stop end e = absurd (both-values (p x) all.0 (subst (Stops p) (sym e) end))
run-same p (x ∷ a) (y ∷ b) r s all one stop end e =
    ap (λ z. z ∷ a) (same-head x y _ _ e) ∙ ap (λ z. y ∷ z) (run-same p a b r s all.1 one.1 stop end (same-tail x y _ _ e))

word-stops : (v rest : List ℕ) → EndsAt Word v rest → Stops continues rest
word-stops v [] h = tt
word-stops v (d ∷ rest) h = h

integer-stops : (v rest : List ℕ) → EndsAt Integer v rest → Stops is_ascii_digit rest
integer-stops v [] h = tt
integer-stops v (d ∷ rest) h = h

word-same : (v w r s : List ℕ) → IsToken Word v r → IsToken Word w s → v ++ r ≡ w ++ s → v ≡ w
word-same [] w r s h g e = absurd h.0
word-same (x ∷ v) [] r s h g e = absurd g.0
word-same (x ∷ v) (y ∷ w) r s h g e =
    ap (λ z. z ∷ v) (same-head x y _ _ e) ∙ ap (λ z. y ∷ z) (run-same continues v w r s h.0.1 g.0.1 (word-stops (x ∷ v) r h.1) (word-stops (y ∷ w) s g.1) (same-tail x y _ _ e))

integer-same : (v w r s : List ℕ) → IsToken Integer v r → IsToken Integer w s → v ++ r ≡ w ++ s → v ≡ w
integer-same [] w r s h g e = absurd h.0
integer-same (x ∷ v) [] r s h g e = absurd g.0
integer-same (x ∷ v) (y ∷ w) r s h g e = run-same is_ascii_digit (x ∷ v) (y ∷ w) r s h.0 g.0 (integer-stops (x ∷ v) r h.1) (integer-stops (y ∷ w) s g.1) e

-- a text ends at its first quote that is not doubled
end-not-doubled : (r s : List ℕ) → EndsAt Text [] r → r ≡ 39 ∷ s → ⊥
end-not-doubled r s h e = let f : EndsAt Text [] (39 ∷ s) = subst (EndsAt Text []) e h in cc

text-same : (v w r s : List ℕ) → EndsAt Text [] r → EndsAt Text [] s → doubled v ++ 39 ∷ r ≡ doubled w ++ 39 ∷ s → v ≡ w
text-same [] [] r s h g e = refl
text-same [] (d ∷ w) r s h g e = elim (eqb_tells d 39) [
  | inl p ↦ absurd (end-not-doubled r _ h (same-tail 39 39 r _ (e ∙ ap (λ b. cond b (39 ∷ (39 ∷ doubled w)) (d ∷ doubled w) ++ 39 ∷ s) p.0)))
  | inr p ↦ absurd (p.1 (sym (same-head 39 d r _ (e ∙ ap (λ b. cond b (39 ∷ (39 ∷ doubled w)) (d ∷ doubled w) ++ 39 ∷ s) p.0))))
]
text-same (c ∷ v) [] r s h g e = elim (eqb_tells c 39) [
  | inl p ↦ absurd (end-not-doubled s _ g (same-tail 39 39 s _ (sym e ∙ ap (λ b. cond b (39 ∷ (39 ∷ doubled v)) (c ∷ doubled v) ++ 39 ∷ r) p.0)))
  | inr p ↦ absurd (p.1 (sym (same-head 39 c s _ (sym e ∙ ap (λ b. cond b (39 ∷ (39 ∷ doubled v)) (c ∷ doubled v) ++ 39 ∷ r) p.0))))
]
text-same (c ∷ v) (d ∷ w) r s h g e =
    let left : Bool → List ℕ = λ b. cond b (39 ∷ (39 ∷ doubled v)) (c ∷ doubled v) ++ 39 ∷ r in
    let right : Bool → List ℕ = λ b. cond b (39 ∷ (39 ∷ doubled w)) (d ∷ doubled w) ++ 39 ∷ s in
    elim (eqb_tells c 39) [
      | inl p ↦ elim (eqb_tells d 39) [
        | inl q ↦
            let f : left true ≡ right true = sym (ap left p.0) ∙ e ∙ ap right q.0 in
            ap (λ z. z ∷ v) (p.1 ∙ sym q.1) ∙ ap (λ z. d ∷ z) (text-same v w r s h g (same-tail 39 39 _ _ (same-tail 39 39 _ _ f)))
        | inr q ↦ let f : left true ≡ right false = sym (ap left p.0) ∙ e ∙ ap right q.0 in absurd (q.1 (sym (same-head 39 d _ _ f)))
      ]
      | inr p ↦ elim (eqb_tells d 39) [
        | inl q ↦ let f : left false ≡ right true = sym (ap left p.0) ∙ e ∙ ap right q.0 in absurd (p.1 (same-head c 39 _ _ f))
        | inr q ↦
            let f : left false ≡ right false = sym (ap left p.0) ∙ e ∙ ap right q.0 in
            ap (λ z. z ∷ v) (same-head c d _ _ f) ∙ ap (λ z. d ∷ z) (text-same v w r s h g (same-tail c d _ _ f))
      ]
    ]

-- a symbol of one character does not go on to one of two
not-longer : (a d : ℕ) (r : List ℕ) → EndsAt Symbol (a ∷ []) (d ∷ r) → among d (seconds a) ≡ true → ⊥
not-longer a d r h g = both-values (among d (seconds a)) g (left_false (among d (seconds a)) (opens_comment a d) h)

symbol-same : (v w r s : List ℕ) → IsToken Symbol v r → IsToken Symbol w s → v ++ r ≡ w ++ s → v ≡ w
symbol-same [] w r s h g e = absurd h.0
symbol-same (a ∷ []) [] r s h g e = absurd g.0
symbol-same (a ∷ []) (c ∷ []) r s h g e = ap (λ z. z ∷ []) (same-head a c _ _ e)
symbol-same (a ∷ []) (c ∷ (d ∷ [])) r s h g e =
    let tail : r ≡ d ∷ s = same-tail a c _ _ e in
    let same : a ≡ c = same-head a c _ _ e in
    absurd (not-longer c d s (subst (λ z. EndsAt Symbol (z ∷ []) (d ∷ s)) same (subst (EndsAt Symbol (a ∷ [])) tail h.1)) g.0)
symbol-same (a ∷ []) (c ∷ (d ∷ (x ∷ w))) r s h g e = absurd g.0
symbol-same (a ∷ (b ∷ [])) [] r s h g e = absurd g.0
symbol-same (a ∷ (b ∷ [])) (c ∷ []) r s h g e =
    let tail : s ≡ b ∷ r = sym (same-tail a c _ _ e) in
    let same : c ≡ a = sym (same-head a c _ _ e) in
    absurd (not-longer a b r (subst (λ z. EndsAt Symbol (z ∷ []) (b ∷ r)) same (subst (EndsAt Symbol (c ∷ [])) tail g.1)) h.0)
symbol-same (a ∷ (b ∷ [])) (c ∷ (d ∷ [])) r s h g e =
    ap (λ z. z ∷ (b ∷ [])) (same-head a c _ _ e) ∙ ap (λ z. c ∷ (z ∷ [])) (same-head b d _ _ (same-tail a c _ _ e))
symbol-same (a ∷ (b ∷ [])) (c ∷ (d ∷ (x ∷ w))) r s h g e = absurd g.0
symbol-same (a ∷ (b ∷ (x ∷ v))) w r s h g e = absurd h.0

value-same : (k : TokenKind) (v w r s : List ℕ) → IsToken k v r → IsToken k w s → spelling k v ++ r ≡ spelling k w ++ s → v ≡ w
value-same Word v w r s h g e = word-same v w r s h g e
value-same Integer v w r s h g e = integer-same v w r s h g e
value-same Text v w r s h g e =
    text-same v w r s (ends-any v [] r h.1) (ends-any w [] s g.1)
    (sym (append_assoc (doubled v) (39 ∷ []) r) ∙ same-tail 39 39 _ _ e ∙ append_assoc (doubled w) (39 ∷ []) s)
value-same Symbol v w r s h g e = symbol-same v w r s h g e

-- two tokens at the front of the same characters are one
pub token-same : (j k : TokenKind) (v w r s : List ℕ) → IsToken j v r → IsToken k w s → spelling j v ++ r ≡ spelling k w ++ s → (j ≡ k) × (v ≡ w) × (r ≡ s)
token-same j k v w r s h g e =
    let a = token-start j v r h in
    let b = token-start k w s g in
    let first : a.first ≡ b.first = same-head a.first b.first a.behind b.behind (sym a.is ∙ e ∙ b.is) in
    let kind : j ≡ k = one-kind j k b.first (subst (Begins j) first a.begins) b.begins in
    let here : spelling k v ++ r ≡ spelling k w ++ s = ap (λ i. spelling i v ++ r) (sym kind) ∙ e in
    let value : v ≡ w = value-same k v w r s (subst (λ i. IsToken i v r) kind h) g here in
    (kind, value, append_cancel_left (spelling k w) r s (ap (λ z. spelling k z ++ r) (sym value) ∙ here))

-- ---- one gap

lacks-same : (a b r s : List ℕ) → Lacks 10 a → Lacks 10 b → a ++ 10 ∷ r ≡ b ++ 10 ∷ s → a ≡ b
lacks-same [] [] r s h g e = refl
lacks-same [] (y ∷ b) r s h g e = absurd (g.0 (sym (same-head 10 y _ _ e)))
lacks-same (x ∷ a) [] r s h g e = absurd (h.0 (same-head x 10 _ _ e))
lacks-same (x ∷ a) (y ∷ b) r s h g e = ap (λ z. z ∷ a) (same-head x y _ _ e) ∙ ap (λ z. y ∷ z) (lacks-same a b r s h.1 g.1 (same-tail x y _ _ e))

-- a comment // .. that lacks the byte 10 has none
lacks-ten : (a b r : List ℕ) → Lacks 10 b → b ≡ a ++ 10 ∷ r → ⊥
lacks-ten [] [] r h e = nil-cons 10 r e
lacks-ten [] (y ∷ b) r h e = h.0 (same-head y 10 b r e)
lacks-ten (x ∷ a) [] r h e = nil-cons x _ e
lacks-ten (x ∷ a) (y ∷ b) r h e = lacks-ten a b r h.1 (same-tail y x b _ e)

-- a comment /* .. */ ends at its first */
block-same : (a b r s : List ℕ) → LacksEnd a → LacksEnd b → a ++ 42 ∷ (47 ∷ r) ≡ b ++ 42 ∷ (47 ∷ s) → a ≡ b
block-same [] [] r s h g e = refl
block-same [] (y ∷ []) r s h g e = let f : 47 ≡ 42 = same-head 47 42 _ _ (same-tail 42 y _ _ e) in absurd (omega (arith, f))
block-same [] (y ∷ (z ∷ b)) r s h g e = absurd (g.0 (sym (same-head 42 y _ _ e)) (sym (same-head 47 z _ _ (same-tail 42 y _ _ e))))
block-same (x ∷ []) [] r s h g e = let f : 42 ≡ 47 = same-head 42 47 _ _ (same-tail x 42 _ _ e) in absurd (omega (arith, f))
block-same (x ∷ (z ∷ a)) [] r s h g e = absurd (h.0 (same-head x 42 _ _ e) (same-head z 47 _ _ (same-tail x 42 _ _ e)))
block-same (x ∷ a) (y ∷ b) r s h g e =
    ap (λ z. z ∷ a) (same-head x y _ _ e) ∙ ap (λ z. y ∷ z) (block-same a b r s (LacksEnd-tail x a h) (LacksEnd-tail y b g) (same-tail x y _ _ e))

space-cases : (P : ℕ → Type 0) → P 9 → P 10 → P 13 → P 32 → (c : ℕ) → is_space c ≡ true → P c
space-cases P nine ten thirteen space c h =
    elim (or-cases ((eqb c 9 || eqb c 10) || eqb c 13) (eqb c 32) h) [
      | inl a ↦ elim (or-cases (eqb c 9 || eqb c 10) (eqb c 13) a) [
        | inl b ↦ elim (or-cases (eqb c 9) (eqb c 10) b) [
          | inl d ↦ subst P (sym (eqb-true c 9 d)) nine
          | inr d ↦ subst P (sym (eqb-true c 10 d)) ten
        ]
        | inr b ↦ subst P (sym (eqb-true c 13 b)) thirteen
      ]
      | inr a ↦ subst P (sym (eqb-true c 32 a)) space
    ]

no-space-slash : (c : ℕ) → is_space c ≡ true → c ≡ 47 → ⊥
no-space-slash c h e = both-values (is_space c) h (ap is_space e)

-- no token begins with such a character
abbrev BeginsNone : ℕ → Type 0
BeginsNone c = (k : TokenKind) → Begins k c → ⊥

begins-none : (c : ℕ) → starts c ≡ false → is_ascii_digit c ≡ false → c ≢ 39 → among c firsts ≡ false → BeginsNone c
begins-none c a b d e Word h = both-values (starts c) h a
begins-none c a b d e Integer h = both-values (is_ascii_digit c) h b
begins-none c a b d e Text h = d h
begins-none c a b d e Symbol h = both-values (among c firsts) h e

no-quote : (c : ℕ) → eqb c 39 ≡ false → c ≢ 39
no-quote c f e = both-values (eqb c 39) (ap (λ x. eqb x 39) e) f

space-begins-none : (c : ℕ) → is_space c ≡ true → BeginsNone c
space-begins-none c h = space-cases BeginsNone
    (begins-none 9 (starts-ascii 9 (lit< tt) refl) refl (no-quote 9 refl) refl)
    (begins-none 10 (starts-ascii 10 (lit< tt) refl) refl (no-quote 10 refl) refl)
    (begins-none 13 (starts-ascii 13 (lit< tt) refl) refl (no-quote 13 refl) refl)
    (begins-none 32 (starts-ascii 32 (lit< tt) refl) refl (no-quote 32 refl) refl)
    c h

-- where a comment begins, no symbol does
symbol-comment : (v s rest : List ℕ) (d : ℕ) → IsToken Symbol v s → v ++ s ≡ 47 ∷ (d ∷ rest) → opens_comment 47 d ≡ true → ⊥
symbol-comment [] s rest d h e o = h.0
symbol-comment (a ∷ []) s rest d h e o =
    let same : a ≡ 47 = same-head a 47 _ _ e in
    let tail : s ≡ d ∷ rest = same-tail a 47 _ _ e in
    let ends : EndsAt Symbol (47 ∷ []) (d ∷ rest) = subst (λ z. EndsAt Symbol (z ∷ []) (d ∷ rest)) same (subst (EndsAt Symbol (a ∷ [])) tail h.1) in
    both-values (opens_comment 47 d) o ends
symbol-comment (a ∷ (b ∷ [])) s rest d h e o =
    let same : a ≡ 47 = same-head a 47 _ _ e in
    both-values (among b (seconds a)) h.0 (ap (λ z. among b (seconds z)) same)
symbol-comment (a ∷ (b ∷ (c ∷ v))) s rest d h e o = h.0

comment-token : (k : TokenKind) (v s rest : List ℕ) (d : ℕ) → IsToken k v s → 47 ∷ (d ∷ rest) ≡ spelling k v ++ s → opens_comment 47 d ≡ true → ⊥
comment-token k v s rest d h e o =
    let a = token-start k v s h in
    let first : a.first ≡ 47 = same-head a.first 47 a.behind (d ∷ rest) (sym a.is ∙ sym e) in
    let kind : k ≡ Symbol = one-kind k Symbol 47 (subst (Begins k) first a.begins) refl in
    symbol-comment v s rest d (subst (λ i. IsToken i v s) kind h) (ap (λ i. spelling i v ++ s) (sym kind) ∙ sym e) o

-- no gap and token stand at the front of the same characters
pub gap-token : (g : Gap) (r : List ℕ) (k : TokenKind) (v s : List ℕ) → IsGap g r → IsToken k v s → spelling_of_gap g ++ r ≡ spelling k v ++ s → ⊥
gap-token (blank c) r k v s h g e =
    let a = token-start k v s g in
    space-begins-none c h k (subst (Begins k) (same-head a.first c a.behind r (sym a.is ∙ sym e)) a.begins)
gap-token (block cs) r k v s h g e = comment-token k v s ((cs ++ 42 ∷ (47 ∷ [])) ++ r) 42 g e refl
gap-token (line cs) r k v s h g e = comment-token k v s ((cs ++ 10 ∷ []) ++ r) 47 g e refl
gap-token (last cs) r k v s h g e = comment-token k v s (cs ++ r) 47 g e refl

other-comment : (a b : List ℕ) → 47 ∷ (42 ∷ a) ≡ 47 ∷ (47 ∷ b) → ⊥
other-comment a b e = let f : 42 ≡ 47 = same-head 42 47 a b (same-tail 47 47 _ _ e) in omega (arith, f)

behind-slashes : (d : ℕ) (a b : List ℕ) → 47 ∷ (d ∷ a) ≡ 47 ∷ (d ∷ b) → a ≡ b
behind-slashes d a b e = same-tail d d a b (same-tail 47 47 _ _ e)

line-last : (a b r s : List ℕ) → Lacks 10 b → s ≡ [] → (a ++ 10 ∷ []) ++ r ≡ b ++ s → ⊥
line-last a b r s h none e = lacks-ten a b r h (sym (append-nil b) ∙ ap (λ z. b ++ z) (sym none) ∙ sym e ∙ append_assoc a (10 ∷ []) r)

-- two gaps at the front of the same characters are written alike
pub gap-same : (g h : Gap) (r s : List ℕ) → IsGap g r → IsGap h s → spelling_of_gap g ++ r ≡ spelling_of_gap h ++ s → spelling_of_gap g ≡ spelling_of_gap h
gap-same (blank c) (blank d) r s a b e = ap (λ z. z ∷ []) (same-head c d r s e)
gap-same (blank c) (block ds) r s a b e = absurd (no-space-slash c a (same-head c 47 r _ e))
gap-same (blank c) (line ds) r s a b e = absurd (no-space-slash c a (same-head c 47 r _ e))
gap-same (blank c) (last ds) r s a b e = absurd (no-space-slash c a (same-head c 47 r _ e))
gap-same (block cs) (blank d) r s a b e = absurd (no-space-slash d b (sym (same-head 47 d _ s e)))
gap-same (block cs) (block ds) r s a b e =
    ap (λ z. 47 ∷ (42 ∷ (z ++ 42 ∷ (47 ∷ []))))
    (block-same cs ds r s a b (sym (append_assoc cs (42 ∷ (47 ∷ [])) r) ∙ behind-slashes 42 _ _ e ∙ append_assoc ds (42 ∷ (47 ∷ [])) s))
gap-same (block cs) (line ds) r s a b e = absurd (other-comment _ _ e)
gap-same (block cs) (last ds) r s a b e = absurd (other-comment _ _ e)
gap-same (line cs) (blank d) r s a b e = absurd (no-space-slash d b (sym (same-head 47 d _ s e)))
gap-same (line cs) (block ds) r s a b e = absurd (other-comment _ _ (sym e))
gap-same (line cs) (line ds) r s a b e =
    ap (λ z. 47 ∷ (47 ∷ (z ++ 10 ∷ [])))
    (lacks-same cs ds r s a b (sym (append_assoc cs (10 ∷ []) r) ∙ behind-slashes 47 _ _ e ∙ append_assoc ds (10 ∷ []) s))
gap-same (line cs) (last ds) r s a b e = absurd (line-last cs ds r s b.0 b.1 (behind-slashes 47 _ _ e))
gap-same (last cs) (blank d) r s a b e = absurd (no-space-slash d b (sym (same-head 47 d _ s e)))
gap-same (last cs) (block ds) r s a b e = absurd (other-comment _ _ (sym e))
gap-same (last cs) (line ds) r s a b e = absurd (line-last ds cs s r a.0 a.1 (sym (behind-slashes 47 _ _ e)))
gap-same (last cs) (last ds) r s a b e =
    let left : cs ++ r ≡ cs = ap (λ z. cs ++ z) a.1 ∙ append-nil cs in
    let right : ds ++ s ≡ ds = ap (λ z. ds ++ z) b.1 ∙ append-nil ds in
    ap (λ z. 47 ∷ (47 ∷ z)) (sym left ∙ behind-slashes 47 _ _ e ∙ right)
