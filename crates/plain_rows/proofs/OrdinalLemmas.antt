-- Values of ordinal types at the front of bytes.
use Rattle.std.proofs.Common.{◌≡◌, ℕ, ℤ, pos, List, [], ◌∷◌, Some, refl, sym, subst}
use Rattle.utd_lexer.specs.declared.token.TokenKind.TheVariants.{Word}
use Rattle.point_core.specs.declared.any_type.AnyType.{AnyType}
use Rattle.point_core.specs.declared.any_type.AnyType.TheVariants.{Ordinal}
use Rattle.value_core.specs.declared.list.OrdinalNames.{OrdinalNames}
use Rattle.value_core.specs.Values.{Name}
use Rattle.scalar_typing.specs.Names.{ordinal_of, value_of, ordinal_type}
use Rattle.plain_rows.specs.Lexemes.{Lexeme, Begins}
use Rattle.plain_rows.specs.Words.{IsFreeWord}
use Rattle.plain_rows.specs.Written.{dot, IsValueOf, BeginsWithDotted, BeginsWithPoint}
use Rattle.plain_rows.proofs.BeginLemmas.{begins-then}
use Rattle.plain_rows.proofs.IntervalLemmas.{begins-gap}

pub value-named : (types : List OrdinalNames) (t : AnyType) (n : ℤ) (name value : Name) (found : ℕ × OrdinalNames) (at : ℕ) → ordinal_of types name ≡ Some found → value_of found.1.values value ≡ Some at → t ≡ ordinal_type found → n ≡ pos at
    → IsValueOf types t n name value
value-named types t n name value found at first second of_type numbered p q = record { found = found; at = at; type_named = first; value_named = second; of_type = of_type; numbered = numbered }

-- with gaps on both sides
pub begins-around : (a b c d : List ℕ) (f : List Lexeme) → Begins a [] b → Begins b f c → Begins c [] d → Begins a f d
begins-around a b c d f before h behind = begins-then a b d [] f before (begins-gap b c d f h behind)

pub both-words : (a b c d name value : List ℕ) → Begins a ((Word, name) ∷ []) b → Begins b (dot ∷ []) c → Begins c ((Word, value) ∷ []) d → Begins a ((Word, name) ∷ dot ∷ (Word, value) ∷ []) d
both-words a b c d name value first sign second = begins-then a b d ((Word, name) ∷ []) (dot ∷ (Word, value) ∷ []) first (begins-then b c d (dot ∷ []) ((Word, value) ∷ []) sign second)

pub begins-dotted : {types : List OrdinalNames} → (bytes name value rest : List ℕ) (t : AnyType) (n : ℤ) → Begins bytes ((Word, name) ∷ dot ∷ (Word, value) ∷ []) rest → IsFreeWord name × IsFreeWord value → IsValueOf types t n name value
    → BeginsWithDotted types bytes t n rest
begins-dotted {types} bytes name value rest t n h free of = record {
  lexemes = (Word, name) ∷ dot ∷ (Word, value) ∷ [];
  begins = h;
  written = record { name = name; value = value; spelled = refl; names = free; written = of };
}

pub dotted-same : {types : List OrdinalNames} → (bytes rest : List ℕ) (t u : AnyType) (n : ℤ) → t ≡ u → BeginsWithDotted types bytes t n rest → BeginsWithDotted types bytes u n rest
dotted-same {types} bytes rest t u n e h = subst (λ z. BeginsWithDotted types bytes z n rest) e h

pub dotted-point : {types : List OrdinalNames} → (bytes rest : List ℕ) (t : AnyType) (of last : ℕ) (n : ℤ) → t ≡ Ordinal of last → BeginsWithDotted types bytes t n rest → BeginsWithPoint types bytes t n rest
dotted-point {types} bytes rest t of last n e =
    subst (λ z. BeginsWithDotted types bytes z n rest → BeginsWithPoint types bytes z n rest) (sym e) (λ h. record { lexemes = h.lexemes; begins = h.begins; written = h.written })
