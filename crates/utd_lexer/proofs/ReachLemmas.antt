-- Characters have a reading: tokens, or a place at which neither a token nor a gap stands.
use Rattle.std.proofs.Common.{◌≡◌, ◌≢◌, ℕ, zero, suc, ◌+◌, ◌<◌, ◌≤◌, List, [], ◌∷◌, ◌++◌, length, take, Bool, true, false, cond, ◌||◌, Some, None, refl, sym, ◌∙◌, ap, subst, arith, ◌⊎◌, inl, inr, length-append, append_assoc, append-nil}
use Rattle.std.proofs.lemmas.Bool.Decides.{eqb_tells}
use Rattle.std.specs.List.{prefix_len}
use Rattle.std.specs.Str.{IsUtf8, chars, is_utf8}
use Rattle.std.specs.Str.Lossy.{utf8_valid_len}
use Rattle.std.proofs.lemmas.Str.{IsUtf8-from_is_utf8, is_utf8-from_IsUtf8}
use Rattle.std.specs.Char.{is_ascii_digit}
use Rattle.point_core.specs.declared.fault.Place.{Place}
use Rattle.point_core.specs.declared.fault.Code.TheVariants.{E01, E02}
use Rattle.point_core.specs.Faults.{fault}
use Rattle.utd_lexer.specs.declared.token.TokenKind.{TokenKind}
use Rattle.utd_lexer.specs.declared.token.TokenKind.TheVariants.{Word, Integer, Text, Symbol}
use Rattle.utd_lexer.specs.declared.token.Token.{Token}
use Rattle.utd_lexer.specs.Parts.{is_space, Lacks, LacksEnd}
use Rattle.utd_lexer.specs.Tokens.{past, place_after, starts, continues, among, singles, seconds, opens_comment, doubled, Gap, blank, block, line, last, spelling_of_gap, IsGap, spelling, IsOfKind, IsToken, EndsAt, token_at, NoPrefix, Lexed, done, gap, token, Stuck, here, past_gap, past_token}
use Rattle.utd_lexer.specs.Prefixes.{TokenFront, GapFront}
use Rattle.utd_lexer.specs.Reading.{HasReading}
use Rattle.utd_lexer.proofs.ListLemmas.{same-head, same-tail, nil-cons}
use Rattle.utd_lexer.proofs.WordLemmas.{word-found, integer-found, pair-found, single-found}
use Rattle.utd_lexer.proofs.GapLemmas.{NoEnd, lacks-more, no-end-more, no-end-short, no-block}
use Rattle.utd_lexer.proofs.TextLemmas.{NoText, ends-any, doubled-plain, no-plain, no-quote}
use Rattle.utd_lexer.proofs.ReadLemmas.{some-gap, some-token}

-- a gap stands at the front, and a token of this kind does
abbrev pub HasGap : List ℕ → Type 0
HasGap cs = (g : Gap) × (rest : List ℕ) × (cs ≡ spelling_of_gap g ++ rest) × IsGap g rest

abbrev pub HasToken : TokenKind → List ℕ → Type 0
HasToken k cs = (v : List ℕ) × (rest : List ℕ) × (cs ≡ spelling k v ++ rest) × IsToken k v rest

-- ---- words and integers

no-word : (c : ℕ) (cs : List ℕ) → starts c ≡ false → TokenFront Word (c ∷ cs) None
no-word c cs f [] rest is tok = absurd tok.0
no-word c cs f (d ∷ v) rest is tok =
    let t : starts c ≡ true = ap starts (same-head c d cs (v ++ rest) is) ∙ tok.0.0 in cc

word-at : (c : ℕ) (cs : List ℕ) (b : Bool) → starts c ≡ b → HasToken Word (c ∷ cs) ⊎ TokenFront Word (c ∷ cs) None
word-at c cs true h =
    let (v, rest, is, tok, len) = word-found (c ∷ cs) c cs (prefix_len continues (c ∷ cs)) refl h refl in inl (v, rest, is, tok)
word-at c cs false h = inr (no-word c cs h)

no-integer : (c : ℕ) (cs : List ℕ) → is_ascii_digit c ≡ false → TokenFront Integer (c ∷ cs) None
no-integer c cs f [] rest is tok = absurd tok.0
no-integer c cs f (d ∷ v) rest is tok =
    let t : is_ascii_digit c ≡ true = ap is_ascii_digit (same-head c d cs (v ++ rest) is) ∙ tok.0.0 in cc

positive : (b : Bool) (m : ℕ) → b ≡ true → 0 < cond b (1 + m) 0
positive true m h = omega arith
positive false m h = cc

integer-at : (c : ℕ) (cs : List ℕ) (b : Bool) → is_ascii_digit c ≡ b → HasToken Integer (c ∷ cs) ⊎ TokenFront Integer (c ∷ cs) None
integer-at c cs true h =
    let some : 0 < prefix_len is_ascii_digit (c ∷ cs) = positive (is_ascii_digit c) (prefix_len is_ascii_digit cs) h in
    let (v, rest, is, tok, len) = integer-found (c ∷ cs) (prefix_len is_ascii_digit (c ∷ cs)) refl some in inl (v, rest, is, tok)
integer-at c cs false h = inr (no-integer c cs h)

-- ---- symbols

no-last-symbol : (c : ℕ) → among c singles ≡ false → TokenFront Symbol (c ∷ []) None
no-last-symbol c f [] rest is tok = absurd tok.0
no-last-symbol c f (a ∷ []) rest is tok =
    let t : among c singles ≡ true = ap (λ z. among z singles) (same-head c a [] rest is) ∙ tok.0 in cc
no-last-symbol c f (a ∷ (b ∷ [])) rest is tok = nil-cons b rest (same-tail c a [] (b ∷ rest) is)
no-last-symbol c f (a ∷ (b ∷ (x ∷ v))) rest is tok = absurd tok.0

no-symbol : (c d : ℕ) (ds : List ℕ) → among d (seconds c) ≡ false → (among c singles ≡ true → opens_comment c d ≡ true) → TokenFront Symbol (c ∷ (d ∷ ds)) None
no-symbol c d ds p never [] rest is tok = absurd tok.0
no-symbol c d ds p never (a ∷ []) rest is tok =
    let e : c ≡ a = same-head c a (d ∷ ds) rest is in
    let r : d ∷ ds ≡ rest = same-tail c a (d ∷ ds) rest is in
    let o : opens_comment c d ≡ true = never (ap (λ z. among z singles) e ∙ tok.0) in
    let ends : EndsAt Symbol (c ∷ []) (d ∷ ds) = subst (EndsAt Symbol (c ∷ [])) (sym r) (subst (λ z. EndsAt Symbol (z ∷ []) rest) (sym e) tok.1) in
    let f : opens_comment c d ≡ false = sym (ap (λ b. b || opens_comment c d) p) ∙ ends in cc
no-symbol c d ds p never (a ∷ (b ∷ [])) rest is tok =
    let e : c ≡ a = same-head c a (d ∷ ds) (b ∷ rest) is in
    let g : d ≡ b = same-head d b ds rest (same-tail c a (d ∷ ds) (b ∷ rest) is) in
    let t : among d (seconds c) ≡ true = ap (λ z. among z (seconds c)) g ∙ ap (λ z. among b (seconds z)) e ∙ tok.0 in cc
no-symbol c d ds p never (a ∷ (b ∷ (x ∷ v))) rest is tok = absurd tok.0

last-symbol-at : (c : ℕ) (b : Bool) → among c singles ≡ b → HasToken Symbol (c ∷ []) ⊎ TokenFront Symbol (c ∷ []) None
last-symbol-at c true h = inl (c ∷ [], [], refl, (h, tt))
last-symbol-at c false h = inr (no-last-symbol c h)

symbol-at : (c d : ℕ) (ds : List ℕ) (two one comment : Bool) → among d (seconds c) ≡ two → among c singles ≡ one → opens_comment c d ≡ comment
    → HasToken Symbol (c ∷ (d ∷ ds)) ⊎ TokenFront Symbol (c ∷ (d ∷ ds)) None
symbol-at c d ds true one comment t o m =
    let (v, rest, is, tok, len) = pair-found (c ∷ (d ∷ ds)) c d (d ∷ ds) ds refl refl t in inl (v, rest, is, tok)
symbol-at c d ds false true false t o m =
    let (v, rest, is, tok, len) = single-found (c ∷ (d ∷ ds)) c d (d ∷ ds) ds refl refl o t m in inl (v, rest, is, tok)
symbol-at c d ds false true true t o m = inr (no-symbol c d ds t (λ h. m))
symbol-at c d ds false false comment t o m = inr (no-symbol c d ds t (λ h. let x : true ≡ false = sym h ∙ o in cc))

-- ---- texts

-- these characters end a text
abbrev Closes : List ℕ → Type 0
Closes body = (v : List ℕ) × (rest : List ℕ) × (body ≡ doubled v ++ 39 ∷ rest) × EndsAt Text v rest

no-text : NoText []
no-text v rest is ends =
    let n : 0 ≡ length (doubled v) + length (39 ∷ rest) = ap length is ∙ length-append (doubled v) (39 ∷ rest) in
    omega (arith, n)

quoted : (c d : ℕ) (r : List ℕ) → c ≡ 39 → d ≡ 39 → Closes r ⊎ NoText r → Closes (c ∷ (d ∷ r)) ⊎ NoText (c ∷ (d ∷ r))
quoted c d r p q (inl (v, rest, is, ends)) =
    inl (39 ∷ v, rest, ap (λ z. z ∷ (d ∷ r)) p ∙ ap (λ z. 39 ∷ (z ∷ r)) q ∙ ap (λ z. 39 ∷ (39 ∷ z)) is, ends-any v (39 ∷ v) rest ends)
quoted c d r p q (inr never) =
    inr (subst NoText (sym (ap (λ z. z ∷ (d ∷ r)) p ∙ ap (λ z. 39 ∷ (z ∷ r)) q)) (no-quote r never))

plainly : (c : ℕ) (r : List ℕ) → c ≢ 39 → Closes r ⊎ NoText r → Closes (c ∷ r) ⊎ NoText (c ∷ r)
plainly c r h (inl (v, rest, is, ends)) =
    inl (c ∷ v, rest, ap (λ z. c ∷ z) is ∙ ap (λ z. z ++ 39 ∷ rest) (sym (doubled-plain c v h)), ends-any v (c ∷ v) rest ends)
plainly c r h (inr never) = inr (no-plain c r h never)

text-from : (body : List ℕ) → Closes body ⊎ NoText body
text-from [] = inr no-text
text-from (c ∷ []) = elim (eqb_tells c 39) [
  | inl p ↦ inl ([], [], ap (λ z. z ∷ []) p.1, tt)
  | inr p ↦ inr (no-plain c [] p.1 no-text)
]
text-from (c ∷ (d ∷ r)) = elim (eqb_tells c 39) [
  | inl p ↦ elim (eqb_tells d 39) [
    | inl q ↦ quoted c d r p.1 q.1 (text-from r)
    | inr q ↦ inl ([], d ∷ r, ap (λ z. z ∷ (d ∷ r)) p.1, q.0)
  ]
  | inr p ↦ plainly c (d ∷ r) p.1 (text-from (d ∷ r))
]

text-behind : (body : List ℕ) → Closes body ⊎ NoText body → HasToken Text (39 ∷ body) ⊎ TokenFront Text (39 ∷ body) None
text-behind body (inl (v, rest, is, ends)) =
    inl (v, rest, ap (λ z. 39 ∷ z) (is ∙ sym (append_assoc (doubled v) (39 ∷ []) rest)), (tt, ends))
text-behind body (inr never) =
    inr (λ v rest is tok. never v rest (same-tail 39 39 body _ is ∙ append_assoc (doubled v) (39 ∷ []) rest) tok.1)

text-at : (c : ℕ) (cs : List ℕ) → HasToken Text (c ∷ cs) ⊎ TokenFront Text (c ∷ cs) None
text-at c cs = elim (eqb_tells c 39) [
  | inl p ↦ subst (λ z. HasToken Text (z ∷ cs) ⊎ TokenFront Text (z ∷ cs) None) (sym p.1) (text-behind cs (text-from cs))
  | inr p ↦ inr (λ v rest is tok. p.1 (same-head c 39 cs _ is))
]

-- ---- gaps

no-gap : (c : ℕ) (cs : List ℕ) → is_space c ≡ false → c ≢ 47 → GapFront (c ∷ cs) None
no-gap c cs f never (blank b) rest is h = let t : is_space c ≡ true = ap is_space (same-head c b cs rest is) ∙ h in cc
no-gap c cs f never (block bs) rest is h = never (same-head c 47 cs _ is)
no-gap c cs f never (line bs) rest is h = never (same-head c 47 cs _ is)
no-gap c cs f never (last bs) rest is h = never (same-head c 47 cs _ is)

no-last-gap : (c : ℕ) → is_space c ≡ false → GapFront (c ∷ []) None
no-last-gap c f (blank b) rest is h = let t : is_space c ≡ true = ap is_space (same-head c b [] rest is) ∙ h in cc
no-last-gap c f (block bs) rest is h = nil-cons 42 _ (same-tail c 47 [] _ is)
no-last-gap c f (line bs) rest is h = nil-cons 47 _ (same-tail c 47 [] _ is)
no-last-gap c f (last bs) rest is h = nil-cons 47 _ (same-tail c 47 [] _ is)

no-second : (c d : ℕ) (ds : List ℕ) → is_space c ≡ false → d ≢ 42 → d ≢ 47 → GapFront (c ∷ (d ∷ ds)) None
no-second c d ds f star slash (blank b) rest is h = let t : is_space c ≡ true = ap is_space (same-head c b (d ∷ ds) rest is) ∙ h in cc
no-second c d ds f star slash (block bs) rest is h = star (same-head d 42 ds _ (same-tail c 47 (d ∷ ds) _ is))
no-second c d ds f star slash (line bs) rest is h = slash (same-head d 47 ds _ (same-tail c 47 (d ∷ ds) _ is))
no-second c d ds f star slash (last bs) rest is h = slash (same-head d 47 ds _ (same-tail c 47 (d ∷ ds) _ is))

-- these characters end a comment /* .. */
abbrev HasEnd : List ℕ → Type 0
HasEnd xs = (bs : List ℕ) × (rest : List ℕ) × LacksEnd bs × (xs ≡ bs ++ 42 ∷ (47 ∷ rest))

further : (x y : ℕ) (r : List ℕ) → (x ≡ 42 → y ≡ 47 → ⊥) → HasEnd (y ∷ r) ⊎ NoEnd (y ∷ r) → HasEnd (x ∷ (y ∷ r)) ⊎ NoEnd (x ∷ (y ∷ r))
further x y r never (inl (bs, rest, lacks, is)) = inl (x ∷ bs, rest, lacks-more x y r bs rest never is lacks, ap (λ z. x ∷ z) is)
further x y r never (inr none) = inr (no-end-more x y r never none)

end-from : (xs : List ℕ) → HasEnd xs ⊎ NoEnd xs
end-from [] = inr (no-end-short [] (omega arith))
end-from (x ∷ []) = inr (no-end-short (x ∷ []) (omega arith))
end-from (x ∷ (y ∷ r)) = elim (eqb_tells x 42) [
  | inl p ↦ elim (eqb_tells y 47) [
    | inl q ↦ inl ([], r, tt, ap (λ z. z ∷ (y ∷ r)) p.1 ∙ ap (λ z. 42 ∷ (z ∷ r)) q.1)
    | inr q ↦ further x y r (λ a b. q.1 b) (end-from (y ∷ r))
  ]
  | inr p ↦ further x y r (λ a b. p.1 a) (end-from (y ∷ r))
]

block-behind : (body : List ℕ) → HasEnd body ⊎ NoEnd body → HasGap (47 ∷ (42 ∷ body)) ⊎ GapFront (47 ∷ (42 ∷ body)) None
block-behind body (inl (bs, rest, lacks, is)) =
    inl (block bs, rest, ap (λ z. 47 ∷ (42 ∷ z)) (is ∙ sym (append_assoc bs (42 ∷ (47 ∷ [])) rest)), lacks)
block-behind body (inr never) = inr (no-block body never)

abbrev HasLine : List ℕ → Type 0
HasLine xs = (bs : List ℕ) × (rest : List ℕ) × Lacks 10 bs × (xs ≡ bs ++ 10 ∷ rest)

longer : (x : ℕ) (xs : List ℕ) → x ≢ 10 → HasLine xs ⊎ Lacks 10 xs → HasLine (x ∷ xs) ⊎ Lacks 10 (x ∷ xs)
longer x xs h (inl (bs, rest, lacks, is)) = inl (x ∷ bs, rest, (h, lacks), ap (λ z. x ∷ z) is)
longer x xs h (inr lacks) = inr (h, lacks)

line-from : (xs : List ℕ) → HasLine xs ⊎ Lacks 10 xs
line-from [] = inr tt
line-from (x ∷ xs) = elim (eqb_tells x 10) [
  | inl p ↦ inl ([], xs, tt, ap (λ z. z ∷ xs) p.1)
  | inr p ↦ longer x xs p.1 (line-from xs)
]

line-behind : (body : List ℕ) → HasLine body ⊎ Lacks 10 body → HasGap (47 ∷ (47 ∷ body))
line-behind body (inl (bs, rest, lacks, is)) =
    (line bs, rest, ap (λ z. 47 ∷ (47 ∷ z)) (is ∙ sym (append_assoc bs (10 ∷ []) rest)), lacks)
line-behind body (inr lacks) = (last body, [], sym (append-nil (47 ∷ (47 ∷ body))), (lacks, refl))

gap-second : (c d : ℕ) (ds : List ℕ) → is_space c ≡ false → c ≡ 47 → HasGap (c ∷ (d ∷ ds)) ⊎ GapFront (c ∷ (d ∷ ds)) None
gap-second c d ds f e = elim (eqb_tells d 42) [
  | inl p ↦ subst (λ z. HasGap z ⊎ GapFront z None) (sym (ap (λ z. z ∷ (d ∷ ds)) e ∙ ap (λ z. 47 ∷ (z ∷ ds)) p.1)) (block-behind ds (end-from ds))
  | inr p ↦ elim (eqb_tells d 47) [
    | inl q ↦ inl (subst HasGap (sym (ap (λ z. z ∷ (d ∷ ds)) e ∙ ap (λ z. 47 ∷ (z ∷ ds)) q.1)) (line-behind ds (line-from ds)))
    | inr q ↦ inr (no-second c d ds f p.1 q.1)
  ]
]

gap-at : (c : ℕ) (cs : List ℕ) (b : Bool) → is_space c ≡ b → HasGap (c ∷ cs) ⊎ GapFront (c ∷ cs) None
gap-at c cs true h = inl (blank c, cs, refl, h)
gap-at c [] false h = inr (no-last-gap c h)
gap-at c (d ∷ ds) false h = elim (eqb_tells c 47) [
  | inl p ↦ gap-second c d ds h p.1
  | inr p ↦ inr (no-gap c (d ∷ ds) h p.1)
]

-- ---- the front

data Front (cs : List ℕ) : Type 0 where
  by_gap : HasGap cs → Front cs
  by_token : (k : TokenKind) → HasToken k cs → Front cs
  by_none : NoPrefix cs → Front cs

none-of : (cs : List ℕ) → TokenFront Word cs None → TokenFront Integer cs None → TokenFront Symbol cs None → TokenFront Text cs None → (k : TokenKind) → TokenFront k cs None
none-of cs w i s t Word = w
none-of cs w i s t Integer = i
none-of cs w i s t Symbol = s
none-of cs w i s t Text = t

symbol-front : (c : ℕ) (cs : List ℕ) → HasToken Symbol (c ∷ cs) ⊎ TokenFront Symbol (c ∷ cs) None
symbol-front c [] = last-symbol-at c (among c singles) refl
symbol-front c (d ∷ ds) = symbol-at c d ds (among d (seconds c)) (among c singles) (opens_comment c d) refl refl refl

front : (c : ℕ) (cs : List ℕ) → Front (c ∷ cs)
front c cs = elim (gap-at c cs (is_space c) refl) [
  | inl g ↦ by_gap g
  | inr g ↦ elim (text-at c cs) [
    | inl t ↦ by_token Text t
    | inr t ↦ elim (word-at c cs (starts c) refl) [
      | inl w ↦ by_token Word w
      | inr w ↦ elim (integer-at c cs (is_ascii_digit c) refl) [
        | inl i ↦ by_token Integer i
        | inr i ↦ elim (symbol-front c cs) [
          | inl s ↦ by_token Symbol s
          | inr s ↦ by_none (g, λ k v rest is tok. none-of (c ∷ cs) w i s t k v rest is tok)
        ]
      ]
    ]
  ]
]

-- ---- all characters

abbrev pub IsReached : Place → List ℕ → Type 0
IsReached p cs = ((ts : List Token) × Lexed p cs ts) ⊎ ((q : Place) × Stuck p cs q)

shorter : (cs w rest : List ℕ) (n : ℕ) → length cs ≤ suc n → cs ≡ w ++ rest → 0 < length w → length rest ≤ n
shorter cs w rest n le is some =
    let e : length cs ≡ length w + length rest = ap length is ∙ length-append w rest in
    omega (arith, le, e, some)

behind-gap : (p : Place) (cs : List ℕ) (g : Gap) (rest : List ℕ) → cs ≡ spelling_of_gap g ++ rest → IsGap g rest → IsReached (past p (spelling_of_gap g)) rest → IsReached p cs
behind-gap p cs g rest is h (inl (ts, l)) = inl (ts, subst (λ z. Lexed p z ts) (sym is) (gap p g rest ts h l))
behind-gap p cs g rest is h (inr (q, s)) = inr (q, subst (λ z. Stuck p z q) (sym is) (past_gap p q g rest h s))

behind-token : (p : Place) (cs : List ℕ) (k : TokenKind) (v rest : List ℕ) → cs ≡ spelling k v ++ rest → IsToken k v rest → IsReached (past p (spelling k v)) rest → IsReached p cs
behind-token p cs k v rest is h (inl (ts, l)) = inl (token_at p k v ∷ ts, subst (λ z. Lexed p z (token_at p k v ∷ ts)) (sym is) (token p k v rest ts h l))
behind-token p cs k v rest is h (inr (q, s)) = inr (q, subst (λ z. Stuck p z q) (sym is) (past_token p q k v rest h s))

-- where what is shorter has a reading
at-front : (n : ℕ) (p : Place) (c : ℕ) (cs : List ℕ) → length (c ∷ cs) ≤ suc n → ((q : Place) (rest : List ℕ) → length rest ≤ n → IsReached q rest) → Front (c ∷ cs) → IsReached p (c ∷ cs)
at-front n p c cs le on (by_gap (g, rest, is, h)) =
    behind-gap p (c ∷ cs) g rest is h (on (past p (spelling_of_gap g)) rest (shorter (c ∷ cs) (spelling_of_gap g) rest n le is (some-gap g)))
at-front n p c cs le on (by_token k (v, rest, is, h)) =
    behind-token p (c ∷ cs) k v rest is h (on (past p (spelling k v)) rest (shorter (c ∷ cs) (spelling k v) rest n le is (some-token k v rest h)))
at-front n p c cs le on (by_none h) = inr (p, here p c cs h)

reached-from : (n : ℕ) (p : Place) (cs : List ℕ) → length cs ≤ n → IsReached p cs
reached-from n p [] le = inl ([], done p)
reached-from zero p (c ∷ cs) le = absurd (omega (arith, le))
reached-from (suc n) p (c ∷ cs) le = at-front n p c cs le (λ q rest h. reached-from n q rest h) (front c cs)

-- every character list has a reading from every place on
pub reached : (p : Place) (cs : List ℕ) → IsReached p cs
reached p cs = reached-from (length cs) p cs (omega arith)

bytes-at : (start : Place) (bytes : List ℕ) → IsUtf8 bytes → IsReached start (chars bytes) → HasReading start bytes
bytes-at start bytes u (inl (ts, l)) = inl (ts, (u, l))
bytes-at start bytes u (inr (q, s)) = inr (fault q E01, inr (u, (s, refl)))

bytes-by : (start : Place) (bytes : List ℕ) (b : Bool) → is_utf8 bytes ≡ b → HasReading start bytes
bytes-by start bytes true h = bytes-at start bytes (IsUtf8-from_is_utf8 bytes h) (reached start (chars bytes))
bytes-by start bytes false h =
    inr (fault (place_after start (take (utf8_valid_len bytes) bytes)) E02, inl (λ u. let t : is_utf8 bytes ≡ true = is_utf8-from_IsUtf8 bytes u in cc, refl))

-- and so have all bytes
pub bytes_read : (start : Place) (bytes : List ℕ) → HasReading start bytes
bytes_read start bytes = bytes-by start bytes (is_utf8 bytes) refl
