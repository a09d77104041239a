-- Steps over one token.
use Rattle.std.proofs.Common.{◌≡◌, ◌≤◌, ◌+◌, ℕ, List, [], ◌∷◌, Bool, true, false, cond, Option, Some, None, refl, sym, ◌∙◌, ap, subst, length, arith}
use Rattle.point_core.specs.declared.fault.Place.{Place}
use Rattle.utd_syntax.specs.declared.terminal.Terminal.{Terminal}
use Rattle.utd_syntax.specs.declared.terminal.Terminal.TheVariants as t
use Rattle.utd_syntax.specs.Pieces.{Piece, first, second, place_of, bytes_of}
use Rattle.utd_syntax.specs.Plain.{StatementP}
use Rattle.utd_syntax.specs.Table.{Symbol, Just, Worded, Plain, Takes, Never, spelt, fits, same}
use Rattle.utd_syntax.proofs.FormValues.{Val}
use Rattle.utd_syntax.proofs.Reader.{Built, Go, pick, on_end, on_turn, read, read_at}
use Rattle.utd_builder.specs.Building.{behind}

-- the first token is known
pub at : (x : Terminal) (p : Place) (b : List ℕ) (old new : List Piece) (stack : List Symbol) (k : Go stack) (s : StatementP) → first old ≡ x → same x t.Finish ≡ false → p ≡ place_of old → b ≡ bytes_of old → new ≡ behind old → read old stack k ≡ Some s → read_at x (first new) p b (read new) stack k ≡ Some s
at x p b [] new stack k s is more hp hb hn h = absurd (no (subst (λ z. same z t.Finish ≡ false) (sym is) more))
  where
    no : true ≡ false → ⊥
    no e = cc
at x p b (o ∷ old) new stack k s is more hp hb hn h =
    ap (λ z. read_at z (first new) p b (read new) stack k) (sym is) ∙ ap (λ z. read_at o.terminal (first new) z b (read new) stack k) hp ∙ ap (λ z. read_at o.terminal (first new) o.place z (read new) stack k) hb ∙ ap (λ z. read_at o.terminal (first z) o.place o.bytes (read z) stack k) hn ∙ h

pub less : (x : Terminal) (old new : List Piece) → first old ≡ x → same x t.Finish ≡ false → new ≡ behind old → length new + 1 ≡ length old
less x [] new is more hn = absurd (no (subst (λ z. same z t.Finish ≡ false) (sym is) more))
  where
    no : true ≡ false → ⊥
    no e = cc
less x (o ∷ old) new is more hn = let e : length new ≡ length old = ap length hn in omega arith

pub no-more : (old new : List Piece) → new ≡ behind old → length new ≤ length old
no-more [] new hn = let e : length new ≡ 0 = ap length hn in omega arith
no-more (o ∷ old) new hn = let e : length new ≡ length old = ap length hn in omega arith

-- the second token is the first behind it
pub second-behind : (old new : List Piece) → new ≡ behind old → second old ≡ first new
second-behind [] new hn = sym (ap first hn)
second-behind (o ∷ old) new hn = sym (ap first hn)

-- a value is not nothing
pub differs : {A : Type 0} {B : Type 0} {b : B} → None ≡ Some b → A
differs e = absurd (no e)
  where
    no : {B : Type 0} {b : B} → None ≡ Some b → ⊥
    no e = cc

pub differs-back : {A : Type 0} {B : Type 0} {b : B} → Some b ≡ None → A
differs-back e = differs (sym e)

-- the first two tokens are known
pub at-both : (x y : Terminal) (p : Place) (b : List ℕ) (old new : List Piece) (stack : List Symbol) (k : Go stack) (s : StatementP) → first new ≡ y → read_at x (first new) p b (read new) stack k ≡ Some s → read_at x y p b (read new) stack k ≡ Some s
at-both x y p b old new stack k s is h = ap (λ z. read_at x z p b (read new) stack k) (sym is) ∙ h

just-end : (c : Bool) (x : Terminal) (v : Built (Just x) (cond c (Takes Plain []) Never)) (stack : List Symbol) (beyond : Go stack → Option StatementP) (k : Go (Just x ∷ stack)) → on_end (Just x) (cond c (Takes Plain []) Never) v stack beyond k ≡ None
just-end true x v stack beyond k = refl
just-end false x v stack beyond k = refl

just-taken : (c : Bool) (x : Terminal) (w' : Built (Just x) Never) (stack : List Symbol) (next : (st : List Symbol) → Go st → Option StatementP) (beyond : Go stack → Option StatementP) (k : Go (Just x ∷ stack)) (s : StatementP) → on_turn (Just x) (cond c (Takes Plain []) Never) (pick (Just x) c (Takes Plain []) Never (λ v. tt) w') stack next beyond k ≡ Some s → next stack (λ v. k (tt, v)) ≡ Some s
just-taken true x w' stack next beyond k s h = h
just-taken false x w' stack next beyond k s h = differs h

-- past a token that stands for itself
pub just : (x : Terminal) (old new : List Piece) (stack : List Symbol) (k : Go (Just x ∷ stack)) (s : StatementP) → new ≡ behind old → read old (Just x ∷ stack) k ≡ Some s → read new stack (λ v. k (tt, v)) ≡ Some s
just x [] new stack k s e h = differs (sym (just-end (same x t.Finish) x _ stack _ k) ∙ h)
just x (o ∷ old) new stack k s e h = ap (λ z. read z stack (λ v. k (tt, v))) e ∙ just-taken (same x o.terminal) x tt stack (read old) (read_at o.terminal (first old) o.place o.bytes (read old) stack) k s h

word-taken : (c : Bool) (w : List ℕ) (p : Place) (w' : Built (Worded w) Never) (stack : List Symbol) (next : (st : List Symbol) → Go st → Option StatementP) (beyond : Go stack → Option StatementP) (k : Go (Worded w ∷ stack)) (s : StatementP) → on_turn (Worded w) (cond c (Takes Plain []) Never) (pick (Worded w) c (Takes Plain []) Never (λ v. p) w') stack next beyond k ≡ Some s → next stack (λ v. k (p, v)) ≡ Some s
word-taken true w p w' stack next beyond k s h = h
word-taken false w p w' stack next beyond k s h = differs h

-- past a word that is reserved at its place
pub worded : (w : List ℕ) (p : Place) (old new : List Piece) (stack : List Symbol) (k : Go (Worded w ∷ stack)) (s : StatementP) → p ≡ place_of old → new ≡ behind old → read old (Worded w ∷ stack) k ≡ Some s → read new stack (λ v. k (p, v)) ≡ Some s
worded w p [] new stack k s hp e h = differs h
worded w p (o ∷ old) new stack k s hp e h = ap (λ z. read z stack (λ v. k (p, v))) e ∙ ap (λ z. read old stack (λ v. k (z, v))) hp ∙ word-taken (fits (spelt w []) o.terminal o.bytes) w o.place tt stack (read old) (read_at o.terminal (first old) o.place o.bytes (read old) stack) k s h

-- what is read of a form with a value, and where the tree has the same value
pub over : (form : Symbol) (v w : Val form) (new : List Piece) (stack : List Symbol) (k : Go (form ∷ stack)) (s : StatementP) → w ≡ v → read new stack (λ vs. k (v, vs)) ≡ Some s → read new stack (λ vs. k (w, vs)) ≡ Some s
over form v w new stack k s e h = ap (λ z. read new stack (λ vs. k (z, vs))) e ∙ h
