-- Whole tuples at the front of bytes.
use Rattle.std.proofs.Common.{◌≡◌, ℕ, List, [], ◌∷◌, ◌++◌, true, refl, sym, subst}
use Rattle.std.proofs.lemmas.Bool.{and_parts}
use Rattle.value_core.specs.declared.kind.Kind.{Kind}
use Rattle.value_core.specs.Values.{Name, Value}
use Rattle.value_core.specs.declared.list.OrdinalNames.{OrdinalNames}
use Rattle.plain_rows.specs.Lexemes.{Begins, is_word}
use Rattle.plain_rows.specs.Tuples.{Shape, tuple_word, open_brace, close_brace, followed, separated, AreElements, BeginsWithElement, HasValues, BeginsWithTuple, are_words}
use Rattle.plain_rows.proofs.BeginLemmas.{begins-then}
use Rattle.plain_rows.proofs.IntervalLemmas.{begins-gap}

pub first-word : (shape : Shape) (a : Name × Kind) (others : Shape) → shape ≡ a ∷ others → are_words shape ≡ true → is_word a.0 ≡ true
first-word shape a others e h = (and_parts (is_word a.0) (are_words others) (subst (λ z. are_words z ≡ true) e h)).0

pub other-words : (shape : Shape) (a : Name × Kind) (others : Shape) → shape ≡ a ∷ others → are_words shape ≡ true → are_words others ≡ true
other-words shape a others e h = (and_parts (is_word a.0) (are_words others) (subst (λ z. are_words z ≡ true) e h)).1

spelled : {types : List OrdinalNames} → (a : Name × Kind) (others : Shape) (v : Value) (bytes b c d e rest : List ℕ) (values : List Value) → Begins bytes (tuple_word ∷ open_brace ∷ []) b → BeginsWithElement types b a v c → Begins c [] d → HasValues types others d v values e → Begins e (close_brace ∷ []) rest → BeginsWithTuple types bytes (a ∷ others) values rest
spelled {types} a others v bytes b c d e rest values opens first gap more closes =
    let front = first.lexemes in
    let behind = more.more.elements in
    let inner = begins-then b d e front (followed behind) (begins-gap b c d front first.begins gap) more.more.begins in
    record {
      lexemes = tuple_word ∷ open_brace ∷ (separated (front ∷ behind) ++ close_brace ∷ []);
      begins = begins-then bytes b rest (tuple_word ∷ open_brace ∷ []) (separated (front ∷ behind) ++ close_brace ∷ []) opens (begins-then b e rest (front ++ followed behind) (close_brace ∷ []) inner closes);
      written = record {
        elements = front ∷ behind;
        spelled = refl;
        written = subst (λ z. AreElements types (a ∷ others) z (front ∷ behind)) (sym more.held) (first.written, more.more.written);
      };
    }

pub whole : {types : List OrdinalNames} → (shape : Shape) (a : Name × Kind) (others : Shape) (v : Value) (bytes b c d e rest : List ℕ) (values : List Value) → shape ≡ a ∷ others → Begins bytes (tuple_word ∷ open_brace ∷ []) b → BeginsWithElement types b a v c → Begins c [] d → HasValues types others d v values e → Begins e (close_brace ∷ []) rest → BeginsWithTuple types bytes shape values rest
whole {types} shape a others v bytes b c d e rest values is opens first gap more closes =
    subst (λ z. BeginsWithTuple types bytes z values rest) (sym is) (spelled {types = types} a others v bytes b c d e rest values opens first gap more closes)
