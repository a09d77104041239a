-- A text is read alike wherever it begins: its places move with it.
--     Follows      a map of places goes along with the bytes behind two places
--     shift-after      the shift of a place behind bytes is the place behind them elsewhere
--     lexed-moved      characters are read elsewhere as the moved tokens
use Rattle.std.proofs.Common.{◌≡◌, ◌≢◌, ℕ, ◌+◌, ◌-◌, ◌≤◌, List, [], ◌∷◌, ◌++◌, map, refl, sym, ◌∙◌, ap, subst, arith, inl, inr, encode_utf8_all}
use Rattle.std.proofs.lemmas.Bool.{ne_eqb}
use Rattle.std.proofs.lemmas.Bool.Decides.{eqb_tells}
use Rattle.point_core.specs.declared.fault.Place.{Place}
use Rattle.utd_lexer.specs.declared.token.Token.{Token}
use Rattle.utd_lexer.specs.Tokens.{next_place, place_after, spelling, spelling_of_gap, token_at, Lexed, done, gap, token}
use Rattle.utd_lexer.proofs.PlaceLemmas.{place_after-append}
use Rattle.text_laws.specs.Elsewhere.{shift, moved_token}

-- ---- one place

-- bytes from p on can lead to r
abbrev pub IsBehind : Place → Place → Type 0
IsBehind p r = (p.line ≤ r.line) × (r.line ≡ p.line → p.column ≤ r.column)

behind-next : (p r : Place) (b : ℕ) → IsBehind p r → IsBehind p (next_place r b)
behind-next p r b h = elim (eqb_tells b 10) [
  | inl e ↦ rw e.0 (omega (arith, h.0), λ same. absurd (omega (arith, h.0, same)))
  | inr e ↦ rw e.0 (h.0, λ same. let le : p.column ≤ r.column = h.1 same in omega (arith, le))
]

shift-line : (p q r : Place) → p.line ≤ r.line → (shift p q r).line ≡ q.line + (r.line - p.line)
shift-line p q r le = elim (eqb_tells r.line p.line) [
  | inl e ↦ rw e.0 (let same : r.line ≡ p.line = e.1 in omega (arith, same))
  | inr e ↦ rw e.0 refl
]

shift-below : (p q r : Place) → p.line ≤ r.line → shift p q (record { line = r.line + 1; column = 1 }) ≡ record { line = (shift p q r).line + 1; column = 1 }
shift-below p q r le =
    let other : r.line + 1 ≢ p.line = λ e. omega (arith, le, e) in
    let far : q.line + (r.line + 1 - p.line) ≡ (shift p q r).line + 1 = omega (arith, shift-line p q r le, le) in
    rw (ne_eqb (r.line + 1) p.line other) (ap (λ (n : ℕ). record { line = n; column = 1 }) far)

shift-right : (p q r : Place) → IsBehind p r
    → shift p q (record { line = r.line; column = r.column + 1 }) ≡ record { line = (shift p q r).line; column = (shift p q r).column + 1 }
shift-right p q r h = elim (eqb_tells r.line p.line) [
  | inl e ↦
      let le : p.column ≤ r.column = h.1 e.1 in
      let far : q.column + (r.column + 1 - p.column) ≡ q.column + (r.column - p.column) + 1 = omega (arith, le) in
      rw e.0 (ap (λ (n : ℕ). record { line = q.line; column = n }) far)
  | inr e ↦ rw e.0 refl
]

shift-next : (p q r : Place) (b : ℕ) → IsBehind p r → shift p q (next_place r b) ≡ next_place (shift p q r) b
shift-next p q r b h = elim (eqb_tells b 10) [
  | inl e ↦ rw e.0 (shift-below p q r h.0)
  | inr e ↦ rw e.0 (shift-right p q r h)
]

-- ---- bytes

shift-behind : (p q r : Place) (bs : List ℕ) → IsBehind p r → shift p q (place_after r bs) ≡ place_after (shift p q r) bs
shift-behind p q r [] h = refl
shift-behind p q r (b ∷ bs) h = shift-behind p q (next_place r b) bs (behind-next p r b h) ∙ ap (λ s. place_after s bs) (shift-next p q r b h)

shift-start : (p q : Place) → shift p q p ≡ q
shift-start p q = elim (eqb_tells p.line p.line) [
  | inl e ↦ rw e.0 (let none : q.column + (p.column - p.column) ≡ q.column = omega arith in ap (λ (n : ℕ). record { line = q.line; column = n }) none)
  | inr e ↦ absurd (e.1 refl)
]

pub shift-after : (p q : Place) (bs : List ℕ) → shift p q (place_after p bs) ≡ place_after q bs
shift-after p q bs = shift-behind p q p bs (omega arith, λ e. omega arith) ∙ ap (λ s. place_after s bs) (shift-start p q)

-- ---- characters

-- the map takes each place behind r to the one as far behind s
abbrev pub Follows : (Place → Place) → Place → Place → Type 0
Follows f r s = (bs : List ℕ) → f (place_after r bs) ≡ place_after s bs

follows-on : (f : Place → Place) (r s : Place) (xs : List ℕ) → Follows f r s → Follows f (place_after r xs) (place_after s xs)
follows-on f r s xs h bs = ap f (sym (place_after-append r xs bs)) ∙ h (xs ++ bs) ∙ place_after-append s xs bs

pub lexed-moved : (f : Place → Place) {p : Place} {cs : List ℕ} {ts : List Token} (q : Place) → Follows f p q → Lexed p cs ts → Lexed q cs (map (moved_token f) ts)
lexed-moved f q h (done p) = done q
lexed-moved f q h (gap p g rest ts i l) =
    gap q g rest (map (moved_token f) ts) i (lexed-moved f _ (follows-on f p q (encode_utf8_all (spelling_of_gap g)) h) l)
lexed-moved f q h (token p k cs rest ts i l) =
    let more : List Token = map (moved_token f) ts in
    subst (λ z. Lexed q (spelling k cs ++ rest) (token_at z k cs ∷ more)) (sym (h []))
    (token q k cs rest more i (lexed-moved f _ (follows-on f p q (encode_utf8_all (spelling k cs)) h) l))
