-- What tokens with given marks are.
use Rattle.std.proofs.Common.{◌≡◌, ℕ, List, [], ◌∷◌, ◌++◌, refl, sym, ◌∙◌, ap, subst}
use Rattle.point_core.specs.declared.fault.Place.{Place}
use Rattle.utd_syntax.specs.declared.terminal.Terminal.{Terminal}
use Rattle.utd_syntax.specs.declared.terminal.Terminal.TheVariants.{Name}
use Rattle.utd_syntax.specs.Pieces.{Piece, first}
use Rattle.utd_syntax.specs.Written.{Mark, fixed, at, spelled, worded, apart, IsMark, Spells}

-- the token with this mark; the place and the bytes count where the mark has none
abbrev pub seen : Mark → Place → List ℕ → Piece
seen (fixed x) p b = record { terminal = x; place = p; bytes = b }
seen (at x q) p b = record { terminal = x; place = q; bytes = b }
seen (spelled x q c) p b = record { terminal = x; place = q; bytes = c }
seen (worded c) p b = record { terminal = Name; place = p; bytes = c }
seen (apart x q barred) p b = record { terminal = x; place = q; bytes = b }

seen-is : (m : Mark) (t : Piece) (behind : Terminal) → IsMark m t behind → t ≡ seen m t.place t.bytes
seen-is (fixed x) t behind h = rw (← h) refl
seen-is (at x q) t behind h = rw (← h.0, ← h.1) refl
seen-is (spelled x q c) t behind h = rw (← h.0, ← h.1, ← h.2) refl
seen-is (worded c) t behind h = rw (← h.0, ← h.1) refl
seen-is (apart x q barred) t behind h = rw (← h.0, ← h.1) refl

-- what does not stand behind it
abbrev pub Aside : Mark → Terminal → Type 0
Aside (apart x q barred) behind = behind ≡ barred → ⊥
Aside _ behind = Unit {0}

aside : (m : Mark) (t : Piece) (behind : Terminal) → IsMark m t behind → Aside m behind
aside (apart x q barred) t behind h = h.2
aside _ t behind h = tt

-- the first token
pub record One (m : Mark) (ms : List Mark) (ts rest : List Piece) : Type 0 where
  pub place : Place
  pub bytes : List ℕ
  pub left : List Piece
  pub is : ts ≡ seen m place bytes ∷ left
  pub aside : Aside m (first left)
  pub spells : Spells ms left rest

pub one : (m : Mark) (ms : List Mark) (ts rest : List Piece) → Spells (m ∷ ms) ts rest → One m ms ts rest
unfolding Spells
one m ms [] rest h = absurd h
one m ms (t ∷ ts) rest h = record {
  place = t.place;
  bytes = t.bytes;
  left = ts;
  is = ap (λ x. x ∷ ts) (seen-is m t (first ts) h.0);
  aside = aside m t (first ts) h.0;
  spells = h.1;
}

pub done : (ts rest : List Piece) → Spells [] ts rest → ts ≡ rest
unfolding Spells
done ts rest h = h

-- the last token
pub record Last (a : List Mark) (m : Mark) (ts rest : List Piece) : Type 0 where
  pub place : Place
  pub bytes : List ℕ
  pub spells : Spells a ts (seen m place bytes ∷ rest)
  pub aside : Aside m (first rest)

pub last : (a : List Mark) (m : Mark) (ts rest : List Piece) → Spells (a ++ m ∷ []) ts rest → Last a m ts rest
unfolding Spells
last [] m [] rest h = absurd h
last [] m (t ∷ ts) rest h = record {
  place = t.place;
  bytes = t.bytes;
  spells = ap (λ x. x ∷ ts) (seen-is m t (first ts) h.0) ∙ ap (λ x. seen m t.place t.bytes ∷ x) h.1;
  aside = subst (λ r. Aside m (first r)) h.1 (aside m t (first ts) h.0);
}
last (x ∷ a) m [] rest h = absurd h
last (x ∷ a) m (t ∷ ts) rest h = let r : Last a m ts rest = last a m ts rest h.1 in record {
  place = r.place;
  bytes = r.bytes;
  spells = (h.0, r.spells);
  aside = r.aside;
}

-- two parts
pub record Two (a b : List Mark) (ts rest : List Piece) : Type 0 where
  pub mid : List Piece
  pub before : Spells a ts mid
  pub after : Spells b mid rest

pub two : (a b : List Mark) (ts rest : List Piece) → Spells (a ++ b) ts rest → Two a b ts rest
unfolding Spells
two [] b ts rest h = record { mid = ts; before = refl; after = h }
two (x ∷ a) b [] rest h = absurd h
two (x ∷ a) b (t ∷ ts) rest h = let r : Two a b ts rest = two a b ts rest h.1 in record { mid = r.mid; before = (h.0, r.before); after = r.after }

-- what the first token is
abbrev pub terminal_of : Mark → Terminal
terminal_of (fixed x) = x
terminal_of (at x q) = x
terminal_of (spelled x q c) = x
terminal_of (worded c) = Name
terminal_of (apart x q barred) = x

abbrev pub Begins : (Terminal → Type 0) → List Mark → Type 0
Begins P [] = ⊥
Begins P (m ∷ ms) = P (terminal_of m)

terminal-is : (m : Mark) (t : Piece) (behind : Terminal) → IsMark m t behind → t.terminal ≡ terminal_of m
terminal-is (fixed x) t behind h = h
terminal-is (at x q) t behind h = h.0
terminal-is (spelled x q c) t behind h = h.0
terminal-is (worded c) t behind h = h.0
terminal-is (apart x q barred) t behind h = h.0

pub begins : (P : Terminal → Type 0) (ms : List Mark) (ts rest : List Piece) → Begins P ms → Spells ms ts rest → P (first ts)
unfolding Spells
begins P [] ts rest b h = absurd b
begins P (m ∷ ms) [] rest b h = absurd h
begins P (m ∷ ms) (t ∷ ts) rest b h = subst P (sym (terminal-is m t (first ts) h.0)) b

-- where nothing is written, the first token is that of the rest
pub none : (P : Terminal → Type 0) (ts rest : List Piece) → Spells [] ts rest → P (first rest) → P (first ts)
unfolding Spells
none P ts rest h p = subst (λ r. P (first r)) (sym h) p

pub Spells-append : (a b : List Mark) (ts mid rest : List Piece) → Spells a ts mid → Spells b mid rest → Spells (a ++ b) ts rest
unfolding Spells
Spells-append [] b ts mid rest h k = rw h k
Spells-append (m ∷ ms) b [] mid rest h k = h
Spells-append (m ∷ ms) b (t ∷ ts) mid rest h k = (h.0, Spells-append ms b ts mid rest h.1 k)
