-- Tuples one after another.
use Rattle.std.proofs.Common.{◌≡◌, ℕ, List, [], ◌∷◌, ◌++◌, sym, ◌∙◌, ap, subst}
use Rattle.value_core.specs.Values.{Value}
use Rattle.value_core.specs.declared.list.OrdinalNames.{OrdinalNames}
use Rattle.plain_rows.specs.Lexemes.{Lexeme, Begins}
use Rattle.plain_rows.specs.Tuples.{Shape, comma, followed, IsTuple, AreTuples, BeginsWithTuple, BeginsWithNextTuple, HasRows}
use Rattle.plain_rows.proofs.BeginLemmas.{begins-nothing, begins-then}
use Rattle.plain_rows.proofs.IntervalLemmas.{begins-gap}
use Rattle.plain_rows.proofs.MoreLemmas.{followed-snoc}

pub next-tuple : {types : List OrdinalNames} → (bytes a b c rest : List ℕ) (shape : Shape) (vs row : List Value) → row ≡ vs → Begins bytes (comma ∷ []) a → Begins a [] b → BeginsWithTuple types b shape vs c → Begins c [] rest → BeginsWithNextTuple types bytes shape row rest
next-tuple {types} bytes a b c rest shape vs row is sign gap h behind = record {
  lexemes = h.lexemes;
  begins = begins-then bytes b rest (comma ∷ []) h.lexemes (begins-gap bytes a b (comma ∷ []) sign gap) (begins-gap b c rest h.lexemes h.begins behind);
  written = subst (λ z. IsTuple types shape z h.lexemes) (sym is) h.written;
}

tuples-snoc : {types : List OrdinalNames} → (shape : Shape) (rows : List (List Value)) (parts : List (List Lexeme)) (vs : List Value) (p : List Lexeme) → AreTuples types shape rows parts → IsTuple types shape vs p → AreTuples types shape (rows ++ vs ∷ []) (parts ++ p ∷ [])
tuples-snoc {types} shape [] [] vs p h e = (e, tt)
tuples-snoc {types} shape [] (q ∷ parts) vs p h e = absurd h
tuples-snoc {types} shape (ws ∷ rows) [] vs p h e = absurd h
tuples-snoc {types} shape (ws ∷ rows) (q ∷ parts) vs p h e = (h.0, tuples-snoc {types = types} shape rows parts vs p h.1 e)

pub has-rows-one : {types : List OrdinalNames} → (shape : Shape) (text : List ℕ) (first : List Value) (rows : List (List Value)) → rows ≡ first ∷ [] → HasRows types shape text first rows text
has-rows-one {types} shape text first rows e = record { others = []; tuples = []; held = e; begins = begins-nothing text; written = tt }

pub has-rows-next : {types : List OrdinalNames} → (shape : Shape) (text : List ℕ) (first vs : List Value) (rows now : List (List Value)) (rest behind : List ℕ) → now ≡ rows ++ vs ∷ [] → HasRows types shape text first rows rest → BeginsWithNextTuple types rest shape vs behind → HasRows types shape text first now behind
has-rows-next {types} shape text first vs rows now rest behind pushed h n = record {
  others = h.others ++ vs ∷ [];
  tuples = h.tuples ++ n.lexemes ∷ [];
  held = pushed ∙ ap (λ z. z ++ vs ∷ []) h.held;
  begins = subst (λ z. Begins text z behind) (sym (followed-snoc h.tuples n.lexemes)) (begins-then text rest behind (followed h.tuples) (comma ∷ n.lexemes) h.begins n.begins);
  written = tuples-snoc {types = types} shape h.others h.tuples vs n.lexemes h.written n.written;
}
