-- Elements and braces at the front of bytes.
use Rattle.std.proofs.Common.{ℕ, List, [], ◌∷◌, refl}
use Rattle.utd_lexer.specs.declared.token.TokenKind.TheVariants.{Word}
use Rattle.value_core.specs.declared.kind.Kind.{Kind}
use Rattle.value_core.specs.Values.{Name, Value}
use Rattle.value_core.specs.declared.list.OrdinalNames.{OrdinalNames}
use Rattle.plain_rows.specs.Lexemes.{Begins}
use Rattle.plain_rows.specs.Written.{BeginsWithConstant}
use Rattle.plain_rows.specs.Tuples.{tuple_word, open_brace, BeginsWithElement}
use Rattle.plain_rows.proofs.BeginLemmas.{begins-then}
use Rattle.plain_rows.proofs.IntervalLemmas.{begins-gap}

pub element : {types : List OrdinalNames} → (bytes a b rest : List ℕ) (name : Name) (kind : Kind) (v : Value) → Begins bytes ((Word, name) ∷ []) a → Begins a [] b → BeginsWithConstant types b kind v rest → BeginsWithElement types bytes (name, kind) v rest
element {types} bytes a b rest name kind v word gap h = record {
  lexemes = (Word, name) ∷ h.lexemes;
  begins = begins-then bytes b rest ((Word, name) ∷ []) h.lexemes (begins-gap bytes a b ((Word, name) ∷ []) word gap) h.begins;
  written = (h.lexemes, refl, h.written);
}

pub opening : (bytes a b c d : List ℕ) → Begins bytes (tuple_word ∷ []) a → Begins a [] b → Begins b (open_brace ∷ []) c → Begins c [] d → Begins bytes (tuple_word ∷ open_brace ∷ []) d
opening bytes a b c d word gap brace behind =
    begins-then bytes b d (tuple_word ∷ []) (open_brace ∷ []) (begins-gap bytes a b (tuple_word ∷ []) word gap) (begins-gap b c d (open_brace ∷ []) brace behind)
