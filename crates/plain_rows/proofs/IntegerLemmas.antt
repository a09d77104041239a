-- Integers, dates and moments at the front of bytes.
use Rattle.std.proofs.Common.{◌≡◌, inl, inr, ℕ, ◌≤◌, ℤ, pos, neg_ℤ, List, [], ◌∷◌, Some, None, cond, leb, refl, sym, ◌∙◌, ap, subst}
use Rattle.std.proofs.lemmas.Bool.{le-leb}
use Rattle.utd_lexer.specs.declared.token.TokenKind.TheVariants.{Integer, Text}
use Rattle.utd_syntax.specs.Literals.{value_of}
use Rattle.point_core.specs.Dates.{IsDateText}
use Rattle.point_core.specs.Moments.{IsMomentText}
use Rattle.scalar_typing.proofs.LiteralLemmas.{date-some, moment-some}
use Rattle.plain_rows.specs.Lexemes.{Begins}
use Rattle.plain_rows.specs.Numbers.{BeginsWithNumber}
use Rattle.plain_rows.specs.Written.{dash, date_word, moment_word, BeginsWithText, BeginsWithInteger, BeginsWithDate, BeginsWithMoment}
use Rattle.plain_rows.proofs.BeginLemmas.{begins-then}

up-to : (most v w : ℕ) (f : ℕ → ℤ) → v ≡ w → v ≤ most → cond (leb w most) (Some (f w)) None ≡ Some (f v)
up-to most v w f e le = subst (λ z. cond (leb z most) (Some (f z)) None ≡ Some (f v)) e (ap (λ b. cond b (Some (f v)) None) (le-leb v most le))

pub unsigned : (text rest : List ℕ) (value : ℕ) (n : ℤ) → BeginsWithNumber text value rest → value ≤ 9223372036854775807 → n ≡ pos value → BeginsWithInteger text n rest
unsigned text rest value n h le is = record {
  lexemes = (Integer, h.digits) ∷ [];
  begins = h.begins;
  written = inl (h.digits, refl, up-to 9223372036854775807 value (value_of h.digits) (λ z. pos z) h.written le ∙ ap (λ z. Some z) (sym is));
}

pub signed : (text a b rest : List ℕ) (value : ℕ) (n : ℤ) → Begins text (dash ∷ []) a → Begins a [] b → BeginsWithNumber b value rest → value ≤ 9223372036854775808 → n ≡ neg_ℤ (pos value) → BeginsWithInteger text n rest
signed text a b rest value n sign gap h le is = record {
  lexemes = dash ∷ (Integer, h.digits) ∷ [];
  begins = begins-then text a rest (dash ∷ []) ((Integer, h.digits) ∷ []) sign (begins-then a b rest [] ((Integer, h.digits) ∷ []) gap h.begins);
  written = inr (h.digits, refl, up-to 9223372036854775808 value (value_of h.digits) (λ z. neg_ℤ (pos z)) h.written le ∙ ap (λ z. Some z) (sym is));
}

pub dated : (text a b rest written : List ℕ) (n : ℤ) → Begins text (date_word ∷ []) a → Begins a [] b → BeginsWithText b written rest → IsDateText written n → BeginsWithDate text n rest
dated text a b rest written n word gap h day = record {
  text = written;
  begins = begins-then text a rest (date_word ∷ []) ((Text, written) ∷ []) word (begins-then a b rest [] ((Text, written) ∷ []) gap h.begins);
  written = date-some written n day;
}

pub timed : (text a b rest written : List ℕ) (n : ℤ) → Begins text (moment_word ∷ []) a → Begins a [] b → BeginsWithText b written rest → IsMomentText written n → BeginsWithMoment text n rest
timed text a b rest written n word gap h moment = record {
  text = written;
  begins = begins-then text a rest (moment_word ∷ []) ((Text, written) ∷ []) word (begins-then a b rest [] ((Text, written) ∷ []) gap h.begins);
  written = moment-some written n moment;
}
