-- Texts in which quotes are doubled.
--     body-end, body-more      up to the last quote, and up to a doubled one
--     TextSoFar      the text up to a doubled quote
use Rattle.std.proofs.Common.{◌≡◌, ℕ, List, [], ◌∷◌, ◌++◌, take, drop, true, false, eqb, ltb, not, ◌||◌, map, sym, ◌∙◌, ap, subst, append_assoc}
use Rattle.std.proofs.lemmas.Bool.{and_parts, not-true}
use Rattle.std.proofs.lemmas.List.{take_at, drop_at}
use Rattle.std.proofs.lemmas.Str.{IsUtf8-append, IsUtf8-from_ascii, chars-append, encodes-chars}
use Rattle.std.specs.List.{prefix_len}
use Rattle.std.specs.Str.{chars, IsUtf8}
use Rattle.utd_lexer.specs.declared.token.TokenKind.TheVariants.{Text}
use Rattle.utd_lexer.specs.Tokens.{Lexed, token, past, spelling, doubled, token_at, AllOf}
use Rattle.utd_lexer.proofs.TextLemmas.{doubled-append}
use Rattle.utd_lexer.proofs.WordLemmas.{taken}
use Rattle.value_core.specs.Lengths.{has_control}
use Rattle.plain_rows.specs.Lexemes.{Begins, lexeme_of, ends_before, is_quote, is_text_byte}
use Rattle.plain_rows.specs.Texts.{IsTextPart, IsTextBody}
use Rattle.plain_rows.specs.Written.{BeginsWithText}
use Rattle.plain_rows.proofs.BeginLemmas.{one-ascii, chars-one}
use Rattle.plain_rows.proofs.QuotedLemmas.{quote-small, part-chars, all-unquoted, no-control, text-ends}

quote-utf8 : IsUtf8 (39 ∷ [])
quote-utf8 = IsUtf8-from_ascii (39 ∷ []) (one-ascii 39 quote-small)

-- ---- no control characters

control-append : (a b : List ℕ) → AllOf is_text_byte a → has_control b ≡ false → has_control (a ++ b) ≡ false
control-append [] b h e = e
control-append (c ∷ a) b h e = ap (λ t. t || has_control (a ++ b)) (not-true (ltb c 32) (and_parts (not (eqb c 39)) (not (ltb c 32)) h.0).1) ∙ control-append a b h.1 e

-- ---- up to a quote

pub body-end : (front rest : List ℕ) → IsUtf8 front → AllOf is_text_byte front → IsTextBody (front ++ 39 ∷ rest) front rest
body-end front rest utf8 all = record {
  utf8 = utf8;
  whole = λ r. IsUtf8-append front (39 ∷ rest) utf8 (IsUtf8-append (39 ∷ []) rest quote-utf8 r);
  spelled = part-chars front rest utf8 (all-unquoted front all);
  printed = no-control front all;
}

spelled-more : (front more text rest : List ℕ) → IsUtf8 front → AllOf is_text_byte front → chars more ≡ doubled (chars text) ++ 39 ∷ chars rest
    → chars (front ++ 39 ∷ 39 ∷ more) ≡ doubled (chars (front ++ 39 ∷ text)) ++ 39 ∷ chars rest
spelled-more front more text rest utf8 all h =
    let written : chars (front ++ 39 ∷ text) ≡ chars front ++ 39 ∷ chars text = chars-append front (39 ∷ text) utf8 ∙ ap (λ z. chars front ++ z) (chars-one 39 text quote-small) in
    let twice : doubled (chars (front ++ 39 ∷ text)) ≡ doubled (chars front) ++ (39 ∷ 39 ∷ doubled (chars text)) = ap doubled written ∙ doubled-append (chars front) (39 ∷ chars text) in
    part-chars front (39 ∷ more) utf8 (all-unquoted front all)
    ∙ (ap (λ z. doubled (chars front) ++ 39 ∷ z) (chars-one 39 more quote-small ∙ ap (λ z. 39 ∷ z) h)
    ∙ (sym (append_assoc (doubled (chars front)) (39 ∷ 39 ∷ doubled (chars text)) (39 ∷ chars rest)) ∙ ap (λ z. z ++ 39 ∷ chars rest) (sym twice)))

pub body-more : (front more text rest : List ℕ) → IsUtf8 front → AllOf is_text_byte front → IsTextBody more text rest → IsTextBody (front ++ 39 ∷ 39 ∷ more) (front ++ 39 ∷ text) rest
body-more front more text rest utf8 all h = record {
  utf8 = IsUtf8-append front (39 ∷ text) utf8 (IsUtf8-append (39 ∷ []) text quote-utf8 h.utf8);
  whole = λ r. IsUtf8-append front (39 ∷ 39 ∷ more) utf8 (IsUtf8-append (39 ∷ []) (39 ∷ more) quote-utf8 (IsUtf8-append (39 ∷ []) more quote-utf8 (h.whole r)));
  spelled = spelled-more front more text rest utf8 all h.spelled;
  printed = control-append front (39 ∷ text) all h.printed;
}

-- ---- the text so far

pub record TextSoFar (body written rest : List ℕ) : Type 0 where
  pub goes_on : (text end : List ℕ) → IsTextBody rest text end → IsTextBody body (written ++ text) end

pub text-none : (body written : List ℕ) → written ≡ [] → TextSoFar body written body
text-none body written is = record { goes_on = λ text end h. subst (λ z. IsTextBody body (z ++ text) end) (sym is) h }

pub text-more : (body was first second rest front behind more : List ℕ) → first ≡ was ++ front → second ≡ first ++ 39 ∷ [] → IsTextPart rest front behind → behind ≡ 39 ∷ more → TextSoFar body was rest → TextSoFar body second more
text-more body was first second rest front behind more one two p quote s = record {
  goes_on = λ text end h.
      let so : rest ≡ front ++ 39 ∷ 39 ∷ more = p.is ∙ ap (λ z. front ++ 39 ∷ z) quote in
      let step : IsTextBody rest (front ++ 39 ∷ text) end = subst (λ z. IsTextBody z (front ++ 39 ∷ text) end) (sym so) (body-more front more text end p.utf8 p.plain h) in
      let same : second ++ text ≡ was ++ (front ++ 39 ∷ text) = ap (λ z. z ++ text) (two ∙ ap (λ z. z ++ 39 ∷ []) one) ∙ (append_assoc (was ++ front) (39 ∷ []) text ∙ append_assoc was front (39 ∷ text)) in
      subst (λ z. IsTextBody body z end) (sym same) (s.goes_on (front ++ 39 ∷ text) end step);
}

pub text-end : (body was first rest front behind : List ℕ) → first ≡ was ++ front → IsTextPart rest front behind → TextSoFar body was rest → IsTextBody body first behind
text-end body was first rest front behind one p s =
    subst (λ z. IsTextBody body z behind) (sym one) (s.goes_on front behind (subst (λ z. IsTextBody z front behind) (sym p.is) (body-end front behind p.utf8 p.plain)))

-- ---- a part

pub part-of-text : (text front behind : List ℕ) (n d : ℕ) (rest written : List ℕ) → n ≡ prefix_len is_text_byte text → front ≡ take n text → behind ≡ drop n text → behind ≡ d ∷ rest → d ≡ 39 → written ≡ front → IsUtf8 front → IsTextPart text written rest
part-of-text text front behind n d rest written h t b on second same utf8 =
    let q = taken is_text_byte text n h in
    let front-is : front ≡ q.0 = t ∙ ap (take n) q.2 ∙ take_at q.0 q.1 n q.5 in
    let behind-is : behind ≡ q.1 = b ∙ ap (drop n) q.2 ∙ drop_at q.0 q.1 n q.5 in
    record {
      is = q.2 ∙ ap (λ z. z ++ q.1) (sym (same ∙ front-is)) ∙ ap (λ z. written ++ z) (sym behind-is ∙ on ∙ ap (λ z. z ∷ rest) second);
      utf8 = subst IsUtf8 (sym same) utf8;
      plain = subst (AllOf is_text_byte) (sym (same ∙ front-is)) q.3;
    }

-- ---- the token

body-chars : (body text rest : List ℕ) → IsTextBody body text rest → chars (39 ∷ body) ≡ spelling Text (chars text) ++ chars rest
body-chars body text rest h = chars-one 39 body quote-small ∙ ap (λ z. 39 ∷ z) (h.spelled ∙ sym (append_assoc (doubled (chars text)) (39 ∷ []) (chars rest)))

body-begins : (body text rest : List ℕ) → IsTextBody body text rest → ends_before is_quote rest ≡ true → Begins (39 ∷ body) ((Text, text) ∷ []) rest
body-begins body text rest h ends = record {
  goes_on = λ ls r p.
      let v = chars text in
      let q = r (past p (spelling Text v)) in (
        token_at p Text v ∷ q.0,
        (
          IsUtf8-append (39 ∷ []) body quote-utf8 (h.whole q.1.0),
          subst (λ z. Lexed p z (token_at p Text v ∷ q.0)) (sym (body-chars body text rest h)) (token p Text v (chars rest) q.0 (tt, text-ends v rest ends) q.1.1),
        ),
        ap (λ b. (Text, b) ∷ map lexeme_of q.0) (encodes-chars text h.utf8) ∙ ap (λ l. (Text, text) ∷ l) q.2,
      );
}

pub begins-doubled : (bytes body text rest : List ℕ) → bytes ≡ 39 ∷ body → IsTextBody body text rest → ends_before is_quote rest ≡ true → BeginsWithText bytes text rest
begins-doubled bytes body text rest is h ends = record {
  begins = subst (λ z. Begins z ((Text, text) ∷ []) rest) (sym is) (body-begins body text rest h ends);
  utf8 = h.utf8;
  printed = h.printed;
}
