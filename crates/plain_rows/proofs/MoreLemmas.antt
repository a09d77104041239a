-- Elements one after another.
use Rattle.std.proofs.Common.{◌≡◌, ℕ, arith, length, List, [], ◌∷◌, ◌++◌, true, map, refl, sym, ◌∙◌, ap, subst, append_assoc, append-nil}
use Rattle.std.proofs.lemmas.Bool.{and_parts}
use Rattle.value_core.specs.declared.kind.Kind.{Kind}
use Rattle.value_core.specs.declared.list.OrdinalNames.{OrdinalNames}
use Rattle.value_core.specs.declared.value.Value.{Value as Held}
use Rattle.value_core.specs.Plain.{plain}
use Rattle.value_core.specs.Values.{Name, Value}
use Rattle.plain_rows.specs.Lexemes.{Lexeme, Begins, is_word}
use Rattle.plain_rows.specs.Tuples.{Shape, comma, followed, IsElement, AreElements, BeginsWithElement, BeginsWithNext, BeginsWithMore, HasValues, are_words}
use Rattle.plain_rows.proofs.BeginLemmas.{begins-nothing, begins-then}
use Rattle.plain_rows.proofs.IntervalLemmas.{begins-gap}

pub next : {types : List OrdinalNames} → (bytes a b c rest : List ℕ) (name : Name) (kind : Kind) (v : Value) → Begins bytes (comma ∷ []) a → Begins a [] b → BeginsWithElement types b (name, kind) v c → Begins c [] rest → BeginsWithNext types bytes (name, kind) v rest
next {types} bytes a b c rest name kind v sign gap h behind = record {
  lexemes = h.lexemes;
  begins = begins-then bytes b rest (comma ∷ []) h.lexemes (begins-gap bytes a b (comma ∷ []) sign gap) (begins-gap b c rest h.lexemes h.begins behind);
  written = h.written;
}

pub followed-snoc : (parts : List (List Lexeme)) (p : List Lexeme) → followed (parts ++ p ∷ []) ≡ followed parts ++ (comma ∷ p)
followed-snoc [] p = ap (λ z. comma ∷ z) (append-nil p)
followed-snoc (q ∷ parts) p = ap (λ z. comma ∷ z) (ap (λ z. q ++ z) (followed-snoc parts p) ∙ sym (append_assoc q (followed parts) (comma ∷ p)))

elements-snoc : (types : List OrdinalNames) (shape : Shape) (vs : List Value) (parts : List (List Lexeme)) (a : Name × Kind) (v : Value) (p : List Lexeme) → AreElements types shape vs parts → IsElement types a v p → AreElements types (shape ++ a ∷ []) (vs ++ v ∷ []) (parts ++ p ∷ [])
elements-snoc types [] [] [] a v p h e = (e, tt)
elements-snoc types [] [] (q ∷ parts) a v p h e = absurd h
elements-snoc types [] (w ∷ vs) parts a v p h e = absurd h
elements-snoc types (b ∷ shape) [] parts a v p h e = absurd h
elements-snoc types (b ∷ shape) (w ∷ vs) [] a v p h e = absurd h
elements-snoc types (b ∷ shape) (w ∷ vs) (q ∷ parts) a v p h e = (h.0, elements-snoc types shape vs parts a v p h.1 e)

-- the names so far, and those that are left
pub record SoFar (types : List OrdinalNames) (shape left : Shape) (text : List ℕ) (first : Value) (values : List Value) (rest : List ℕ) : Type 0 where
  pub done : Shape
  pub vs : List Value
  pub split : shape ≡ done ++ left
  pub words : are_words left ≡ true
  pub held : values ≡ first ∷ vs
  pub more : BeginsWithMore types text done vs rest

pub so-far-none : {types : List OrdinalNames} → (shape : Shape) (text : List ℕ) (first : Value) → are_words shape ≡ true → SoFar types shape shape text first (first ∷ []) text
so-far-none {types} shape text first h = record {
  done = [];
  vs = [];
  split = refl;
  words = h;
  held = refl;
  more = record { elements = []; begins = begins-nothing text; written = tt };
}

pub so-far-word : {types : List OrdinalNames} → (shape : Shape) (a : Name × Kind) (others left : Shape) (text : List ℕ) (first : Value) (values : List Value) (rest : List ℕ) → left ≡ a ∷ others → SoFar types shape left text first values rest → is_word a.0 ≡ true
so-far-word {types} shape a others left text first values rest e h =
    (and_parts (is_word a.0) (are_words others) (subst (λ z. are_words z ≡ true) e h.words)).0

pub so-far-next : {types : List OrdinalNames} → (shape : Shape) (a : Name × Kind) (others left : Shape) (text : List ℕ) (first v : Value) (values now : List Value) (rest behind : List ℕ) → left ≡ a ∷ others → now ≡ values ++ v ∷ [] → SoFar types shape left text first values rest → BeginsWithNext types rest a v behind → SoFar types shape others text first now behind
so-far-next {types} shape a others left text first v values now rest behind e pushed h n = record {
  done = h.done ++ a ∷ [];
  vs = h.vs ++ v ∷ [];
  split = h.split ∙ ap (λ z. h.done ++ z) e ∙ sym (append_assoc h.done (a ∷ []) others);
  words = (and_parts (is_word a.0) (are_words others) (subst (λ z. are_words z ≡ true) e h.words)).1;
  held = pushed ∙ ap (λ z. z ++ v ∷ []) h.held;
  more = record {
    elements = h.more.elements ++ n.lexemes ∷ [];
    begins = subst (λ z. Begins text z behind) (sym (followed-snoc h.more.elements n.lexemes)) (begins-then text rest behind (followed h.more.elements) (comma ∷ n.lexemes) h.more.begins n.begins);
    written = elements-snoc types h.done h.vs h.more.elements a v n.lexemes h.more.written n.written;
  };
}

pub so-far-all : {types : List OrdinalNames} → (shape left : Shape) (text : List ℕ) (first : Value) (values : List Value) (rest : List ℕ) → left ≡ [] → SoFar types shape left text first values rest → HasValues types shape text first values rest
so-far-all {types} shape left text first values rest e h =
    let all : shape ≡ h.done = h.split ∙ ap (λ z. h.done ++ z) e ∙ append-nil h.done in
    record { vs = h.vs; held = h.held; more = subst (λ z. BeginsWithMore types text z h.vs rest) (sym all) h.more }

pub values-snoc : (xs : List Held) (x : Held) → map plain (xs ++ x ∷ []) ≡ map plain xs ++ plain x ∷ []
values-snoc [] x = refl
values-snoc (y ∷ xs) x = ap (λ z. plain y ∷ z) (values-snoc xs x)

pub no-columns : (left : Shape) → length left ≡ 0 → left ≡ []
no-columns [] h = refl
no-columns (a ∷ left) h = absurd (omega (arith, h))
