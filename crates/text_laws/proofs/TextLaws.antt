-- Bytes that write a statement write it elsewhere too, but for its places.
--     text-moved      from another place on
--     text-begun      without the gaps in front
--     text-behind      behind a byte 10
--     written-names      each name that the statement has can be said again
--     text-first, text-later      without the gaps in front, from any place on; and so behind a byte 10
use Rattle.std.proofs.Common.{◌≡◌, ℕ, List, [], ◌∷◌, length, take, map, refl, sym, ap, subst}
use Rattle.point_core.specs.declared.fault.Place.{Place}
use Rattle.utd_lexer.specs.declared.token.Token.{Token}
use Rattle.utd_lexer.specs.Gaps.{gaps_len, without_gaps}
use Rattle.utd_lexer.specs.Reading.{Reads}
use Rattle.utd_lexer.specs.Tokens.{next_place, place_after}
use Rattle.utd_syntax.specs.Plain.{StatementP}
use Rattle.utd_syntax.specs.Verdict.{Whole, verdict, reach}
use Rattle.utd_syntax.specs.Written.{Spells, of_statement}
use Rattle.utd_ranges.specs.Limits.{verdict_on}
use Rattle.utd_ranges.specs.Ranges.{StatementIn}
use Rattle.utd_parser.specs.Tokens.{piece, pieces}
use Rattle.place_laws.specs.Held.{unheld}
use Rattle.place_laws.specs.Moved.{moved_statement}
use Rattle.place_laws.specs.MovedPieces.{moved_piece}
use Rattle.place_laws.proofs.MovedTexts.{statement-spells, whole-moved}
use Rattle.place_laws.proofs.HeldNames.{names-hold}
use Rattle.text_laws.specs.Elsewhere.{shift, moved_token}
use Rattle.text_laws.specs.Sayable.{is_sayable}
use Rattle.text_laws.specs.Written.{IsWritten}
use Rattle.text_laws.proofs.ShiftLemmas.{Follows, lexed-moved, shift-after}
use Rattle.text_laws.proofs.BegunTexts.{HasToken, reads-begun, reads-behind}
use Rattle.text_laws.proofs.WordsNamed.{words-named}

-- ---- tokens

pub pieces-moved : (f : Place → Place) (ts : List Token) → pieces (map (moved_token f) ts) ≡ map (moved_piece f) (pieces ts)
pieces-moved f [] = refl
pieces-moved f (t ∷ ts) = ap (λ z. moved_piece f (piece t) ∷ z) (pieces-moved f ts)

pub reads-moved : (f : Place → Place) (p q : Place) (bytes : List ℕ) (ts : List Token) → Follows f p q → Reads p bytes ts → Reads q bytes (map (moved_token f) ts)
reads-moved f p q bytes ts follows (utf, l) = (utf, lexed-moved f q follows l)

-- no statement has no token
none-whole : verdict_on [] ≡ Whole → ⊥
unfolding verdict reach
none-whole e = cc

pub whole-token : (ts : List Token) → verdict_on (pieces ts) ≡ Whole → HasToken ts
whole-token [] e = none-whole e
whole-token (t ∷ ts) e = tt

-- ---- statements

-- under any map that goes along with the bytes behind both places
pub text-follows : (f : Place → Place) (p q : Place) (bytes : List ℕ) (x : StatementP) → Follows f p q → IsWritten p bytes x → IsWritten q bytes (moved_statement f x)
text-follows f p q bytes x follows (ts, reads, whole, spells) =
    let same : map (moved_piece f) (pieces ts) ≡ pieces (map (moved_token f) ts) = sym (pieces-moved f ts) in (
      map (moved_token f) ts,
      reads-moved f p q bytes ts follows reads,
      subst (λ z. verdict_on z ≡ Whole) same (whole-moved f (pieces ts) whole),
      subst (λ z. Spells (of_statement (moved_statement f x)) z []) same (statement-spells f x (pieces ts) [] spells),
    )

pub text-moved : (p q : Place) (bytes : List ℕ) (x : StatementP) → IsWritten p bytes x → IsWritten q bytes (moved_statement (shift p q) x)
text-moved p q bytes x h = text-follows (shift p q) p q bytes x (shift-after p q) h

pub text-begun : (p : Place) (bytes : List ℕ) (x : StatementP) → IsWritten p bytes x
    → IsWritten (place_after p (take (gaps_len bytes (length bytes)) bytes)) (without_gaps bytes) x
text-begun p bytes x (ts, reads, whole, spells) = (ts, reads-begun p bytes ts reads (whole-token ts whole), whole, spells)

pub text-behind : (q : Place) (bytes : List ℕ) (x : StatementP) → IsWritten (next_place q 10) bytes x → IsWritten q (10 ∷ bytes) x
text-behind q bytes x (ts, reads, whole, spells) = (ts, reads-behind q bytes ts reads, whole, spells)

-- the map of places from those of the bytes to those of the bytes without gaps that begin at q
abbrev pub taken_to : Place → Place → List ℕ → Place → Place
taken_to p q bytes = shift (place_after p (take (gaps_len bytes (length bytes)) bytes)) q

pub text-first : (p q : Place) (bytes : List ℕ) (x : StatementP) → IsWritten p bytes x → (f : Place → Place) × IsWritten q (without_gaps bytes) (moved_statement f x)
text-first p q bytes x h =
    (taken_to p q bytes, text-moved (place_after p (take (gaps_len bytes (length bytes)) bytes)) q (without_gaps bytes) x (text-begun p bytes x h))

pub text-later : (p q : Place) (bytes : List ℕ) (x : StatementP) → IsWritten p bytes x → (f : Place → Place) × IsWritten q (10 ∷ without_gaps bytes) (moved_statement f x)
text-later p q bytes x h =
    let first = text-first p (next_place q 10) bytes x h in
    (first.0, text-behind q (without_gaps bytes) (moved_statement first.0 x) first.1)

-- ---- names

pub written-names : (p : Place) (bytes : List ℕ) (x : StatementP) → IsWritten p bytes x → StatementIn (unheld is_sayable) x
written-names p bytes x (ts, reads, whole, spells) = names-hold is_sayable (pieces ts) x (words-named p bytes ts reads) spells whole
