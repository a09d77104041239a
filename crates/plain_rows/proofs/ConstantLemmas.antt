-- Constants at the front of bytes.
use Rattle.std.proofs.Common.{◌≡◌, ℕ, pos, Bool, true, cond, List, [], ◌∷◌, refl, sym, ◌∙◌, ap, subst}
use Rattle.utd_lexer.specs.declared.token.TokenKind.TheVariants.{Text}
use Rattle.point_core.specs.declared.any_type.AnyType.{AnyType}
use Rattle.point_core.specs.declared.any_type.AnyPoint.{AnyPoint}
use Rattle.point_core.specs.Points.{line, number, line_of, IsPointOf}
use Rattle.interval_core.specs.Members.{span}
use Rattle.value_core.specs.declared.kind.Kind.TheVariants as kinds
use Rattle.value_core.specs.Lengths.{is_text}
use Rattle.value_core.proofs.TextLemmas.{text-short}
use Rattle.value_core.specs.Plain.{ends}
use Rattle.value_core.specs.Values.{truth, text, point, interval, same_line}
use Rattle.scalar_core.proofs.PointLemmas.{same_line-self}
use Rattle.value_core.specs.declared.list.OrdinalNames.{OrdinalNames}
use Rattle.plain_rows.specs.Lexemes.{Begins}
use Rattle.plain_rows.specs.Written.{truth_word, IsInterval, BeginsWithText, BeginsWithPoint, BeginsWithInterval, BeginsWithConstant}

pub truth-constant : {types : List OrdinalNames} → (bytes : List ℕ) (b : Bool) (rest : List ℕ) → Begins bytes (truth_word b ∷ []) rest → BeginsWithConstant types bytes kinds.Truth (truth b) rest
truth-constant {types} bytes b rest h = record { lexemes = truth_word b ∷ []; begins = h; written = refl }

pub text-constant : {types : List OrdinalNames} → (bytes written rest : List ℕ) → BeginsWithText bytes written rest → is_text written ≡ true → BeginsWithConstant types bytes kinds.Char (text written) rest
text-constant {types} bytes written rest h is = record { lexemes = (Text, written) ∷ []; begins = h.begins; written = (refl, h.utf8, text-short written is, h.printed) }

pub point-constant : {types : List OrdinalNames} → (bytes : List ℕ) (t : AnyType) (p : AnyPoint) (rest : List ℕ) → BeginsWithPoint types bytes t (number p) rest → IsPointOf t p → BeginsWithConstant types bytes (kinds.Point t) (point (line p) (number p)) rest
point-constant {types} bytes t p rest h of = record { lexemes = h.lexemes; begins = h.begins; written = (of.0, h.written) }

ends-numbers : (t : AnyType) (i : AnyPoint × AnyPoint) → IsPointOf t i.0 → IsPointOf t i.1 → ends i ≡ span number i
ends-numbers t i b e =
    let one : same_line (line i.0) (line i.1) ≡ true = ap (λ z. same_line z (line i.1)) b.0 ∙ ap (λ z. same_line (line_of t) z) e.0 ∙ same_line-self (line_of t) in
    ap (λ z. cond z (number i.0, number i.1) (pos 1, pos 0)) one

pub span-constant : {types : List OrdinalNames} → (bytes : List ℕ) (t : AnyType) (i : AnyPoint × AnyPoint) (rest : List ℕ) → BeginsWithInterval types bytes t (span number i) rest → IsPointOf t i.0 → IsPointOf t i.1 → BeginsWithConstant types bytes (kinds.Span t) (interval (line i.0) (ends i)) rest
span-constant {types} bytes t i rest h b e = record { lexemes = h.lexemes; begins = h.begins; written = (b.0, subst (λ z. IsInterval types t z h.lexemes) (sym (ends-numbers t i b e)) h.written) }
