-- Names that can be written.
--     IsWordName, word-name      what is known of such a name
--     name-begins, name-no-equal      it is read as a word, and no `=` stands first in it
use Rattle.std.proofs.Common.{◌≡◌, ℕ, ◌≤◌, lit<, Bool, true, false, eqb, ◌||◌, List, [], ◌∷◌, ◌++◌, length, refl, sym, ◌∙◌, ap, subst}
use Rattle.std.proofs.lemmas.Bool.{true≢false, and_from, eqb-true, le-leb}
use Rattle.std.proofs.lemmas.Str.{chars-append}
use Rattle.std.specs.Str.{chars, IsUtf8}
use Rattle.std.specs.Prelude.{nat_le}
use Rattle.unicode_ident.proofs.IdentLemmas.{is_xid_start-ascii}
use Rattle.utd_lexer.specs.declared.token.TokenKind.TheVariants.{Word, Symbol}
use Rattle.utd_lexer.specs.Tokens.{starts, IsOfKind, EndsAt}
use Rattle.value_core.specs.Limits.{most_name_bytes}
use Rattle.value_core.specs.Values.{Name}
use Rattle.value_core.proofs.TextLemmas.{utf8-known}
use Rattle.relation_typing.specs.Attributes.{is_name}
use Rattle.plain_rows.specs.Words.{IsFreeWord}
use Rattle.text_laws.proofs.WordsNamed.{sayable-word}
use Rattle.constant_texts.specs.Sayable.{IsSayableName}
use Rattle.constant_texts.proofs.FrontLemmas.{IsRead, NoEqual, word-begins}

pub record IsWordName (w : Name) : Type 0 where
  pub utf8 : IsUtf8 w
  pub kind : IsOfKind Word (chars w)
  pub free : IsFreeWord w
  pub some : 1 ≤ length w

pub word-name : (w : Name) → IsSayableName w → IsWordName w
word-name w h = let is = sayable-word w h.0 in record { utf8 = is.0; kind = is.1; free = (is.2, h.1.1); some = h.1.0 }

pub name-begins : (w : Name) → IsWordName w → IsRead w ((Word, w) ∷ [])
name-begins w h = word-begins w h.utf8 h.kind

pub name-is : (w : Name) → IsWordName w → is_name w ≡ true
name-is w h =
    and_from _ _ (utf8-known w h.utf8)
    (and_from (nat_le 1 (length w)) (nat_le (length w) most_name_bytes) (le-leb 1 (length w) h.some) (le-leb (length w) most_name_bytes h.free.1))

-- ---- no `=`

equal-starts : starts 61 ≡ false
equal-starts = ap (λ z. z || false) (is_xid_start-ascii 61 (lit< tt))

start-no-equal : (c : ℕ) (b : Bool) → eqb c 61 ≡ b → starts c ≡ true → b ≡ false
start-no-equal c false e h = refl
start-no-equal c true e h = absurd (true≢false (sym (subst (λ z. starts z ≡ true) (eqb-true c 61 e) h) ∙ equal-starts))

word-no-equal : (v rest : List ℕ) → IsOfKind Word v → EndsAt Symbol (58 ∷ []) (v ++ rest)
word-no-equal [] rest h = absurd h
word-no-equal (c ∷ v) rest h = ap (λ b. (b || false) || false) (start-no-equal c (eqb c 61) refl h.0)

pub name-no-equal : (w : Name) (rest : List ℕ) → IsWordName w → NoEqual (w ++ rest)
name-no-equal w rest h = subst (EndsAt Symbol (58 ∷ [])) (sym (chars-append w rest h.utf8)) (word-no-equal (chars w) (chars rest) h.kind)
