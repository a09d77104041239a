-- The whole statement, put together from its parts.
--     tuples-begin      the tuples, of the first and the others
--     is-body, brings      a body, and what it brings behind a head
use Rattle.std.proofs.Common.{◌≡◌, ◌≤◌, ℕ, suc, List, [], ◌∷◌, ◌++◌, map, length, true, Some, refl, sym, ◌∙◌, ap, ap₂, subst, arith}
use Rattle.std.specs.Prelude.{nat_le}
use Rattle.std.specs.Str.Lossy.{utf8_valid_len}
use Rattle.std.proofs.lemmas.Bool.{true≢false, and_parts, le-leb, eq-eqb, and_from}
use Rattle.std.proofs.lemmas.List.{append-nil}
use Rattle.std.proofs.lemmas.Str.{IsUtf8-nil, IsUtf8-from_ascii, chars-nil, utf8_valid_len-IsUtf8}
use Rattle.utd_lexer.specs.Tokens.{Lexed, done}
use Rattle.value_core.specs.declared.kind.Kind.{Kind}
use Rattle.value_core.specs.Limits.{most_name_bytes}
use Rattle.value_core.specs.Headings.{position_of}
use Rattle.value_core.specs.Values.{Name, Value, Heading, Relation, rows_of}
use Rattle.relation_core.specs.Agreement.{part_of}
use Rattle.meaning_core.specs.Places.{places}
use Rattle.meaning_core.proofs.MadeLemmas.{place-position}
use Rattle.relation_typing.specs.Attributes.{is_name}
use Rattle.constant_laws.specs.Insertions.{MakesHeading, in_heading, Bringing}
use Rattle.value_core.specs.declared.list.OrdinalNames.{OrdinalNames}
use Rattle.plain_rows.specs.Brought.{HasRowsOf, IsBody, IsBrought}
use Rattle.plain_rows.specs.Heads.{AreListNames, IsWayOf}
use Rattle.plain_rows.specs.Lexemes.{Lexeme, AreLexemes, Begins, is_word}
use Rattle.plain_rows.specs.Names.{IsNameWord, AreNameWords, Ascending, IsPlainShape}
use Rattle.plain_rows.specs.Tuples.{Shape, are_words, open_brace, close_brace, semicolon, relation_word, separated, followed, Head, target, body, AreElements, IsTuple, AreTuples, HasRows, BeginsWithTuple, BeginsWithTuples}
use Rattle.plain_rows.proofs.BeginLemmas.{begins-then}
use Rattle.plain_rows.proofs.IntervalLemmas.{begins-gap}
use Rattle.plain_rows.proofs.OrderLemmas.{AreNames, shape-makes, row-stays}
use Rattle.plain_rows.proofs.Statements.{statement-found}
use Rattle.plain_rows.proofs.WordLemmas.{word-ascii}

-- ---- names

some-byte : (w : Name) → is_word w ≡ true → 1 ≤ length w
some-byte [] h = absurd (true≢false (sym h))
some-byte (c ∷ cs) h = omega arith

word-is-name : (w : Name) → is_word w ≡ true → length w ≤ most_name_bytes → is_name w ≡ true
word-is-name w h short =
    and_from _ _ (eq-eqb (utf8_valid_len w) (length w) (utf8_valid_len-IsUtf8 w (IsUtf8-from_ascii w (word-ascii w h))))
    (and_from (nat_le 1 (length w)) (nat_le (length w) most_name_bytes) (le-leb 1 (length w) (some-byte w h)) (le-leb (length w) most_name_bytes short))

words-are-names : (shape : Shape) → are_words shape ≡ true → AreNameWords shape → AreNames shape
words-are-names [] h named = tt
words-are-names (a ∷ shape) h named =
    let parts = and_parts (is_word a.0) (are_words shape) h in
    (word-is-name a.0 parts.0 named.0.1, words-are-names shape parts.1 named.1)

-- names in order make themselves
heading-same : (shape : Shape) (heading : Heading) → IsPlainShape shape → Ascending shape → MakesHeading heading shape → shape ≡ heading
heading-same shape heading plain up makes =
    let e : Some shape ≡ Some heading = sym (shape-makes shape (words-are-names shape plain.words plain.named) up) ∙ makes.made in
    cc

-- ---- rows

as-many : (types : List OrdinalNames) (shape : Shape) (vs : List Value) (parts : List (List Lexeme)) → AreElements types shape vs parts → length vs ≡ length shape
as-many types [] [] [] h = refl
as-many types (a ∷ shape) (v ∷ vs) (p ∷ parts) h = ap suc (as-many types shape vs parts h.1)
as-many types _ _ _ h = absurd h

rows-stay : (types : List OrdinalNames) (shape : Shape) (rows : List (List Value)) (parts : List (List Lexeme)) → Ascending shape → AreTuples types shape rows parts → rows ≡ map (in_heading shape shape) rows
rows-stay types shape [] [] up h = refl
rows-stay types shape (vs ∷ rows) (p ∷ parts) up h =
    ap₂ (λ (x : List Value) (xs : List (List Value)). x ∷ xs) (sym (row-stays shape vs up (as-many types shape vs h.0.elements h.0.written))) (rows-stay types shape rows parts up h.1)
rows-stay types shape _ _ up h = absurd h

-- the rows of columns that are in order stay as they are
pub rows-in-order : (types : List OrdinalNames) (shape : Shape) (heading : Heading) (rows : List (List Value)) (parts : List (List Lexeme)) → IsPlainShape shape → MakesHeading heading shape → Ascending shape → AreTuples types shape rows parts
    → rows ≡ map (in_heading shape heading) rows
rows-in-order types shape heading rows parts plain makes up h =
    subst (λ (z : Heading). rows ≡ map (in_heading shape z) rows) (heading-same shape heading plain up makes) (rows-stay types shape rows parts up h)

places-same : (shape : Shape) (heading : Heading) → map (λ (a : Name × Kind). position_of shape a.0) heading ≡ places (map (λ (a : Name × Kind). a.0) shape) heading
places-same shape [] = refl
places-same shape (a ∷ heading) = ap₂ (λ (n : ℕ) (ns : List ℕ). n ∷ ns) (sym (place-position shape a.0)) (places-same shape heading)

-- the others are arranged by the places of the names
pub rows-arranged : (shape : Shape) (heading : Heading) (list : List ℕ) (rows made : List (List Value)) → list ≡ map (λ (a : Name × Kind). position_of shape a.0) heading → made ≡ map (part_of list) rows
    → made ≡ map (in_heading shape heading) rows
rows-arranged shape heading list rows made e m = m ∙ ap (λ (p : List ℕ). map (part_of p) rows) (e ∙ places-same shape heading)

pub has-rows-of : (shape : Shape) (values made : List (List Value)) (heading : Heading) (relation : Relation) → MakesHeading heading shape → relation.heading ≡ heading → relation.rows ≡ rows_of made → made ≡ map (in_heading shape heading) values
    → HasRowsOf shape values relation
has-rows-of shape values made heading relation makes headed rows so = record {
  makes = subst (λ (z : Heading). MakesHeading z shape) (sym headed) makes;
  rows = rows ∙ ap rows_of (so ∙ ap (λ (z : Heading). map (in_heading shape z) values) (sym headed));
}

pub tuples-begin : {types : List OrdinalNames} → (bytes b more rest : List ℕ) (shape : Shape) (vs first : List Value) (rows : List (List Value)) → first ≡ vs → BeginsWithTuple types bytes shape vs b → Begins b [] more → HasRows types shape more first rows rest → BeginsWithTuples types bytes shape rows rest
tuples-begin {types} bytes b more rest shape vs first rows is h gap m = record {
  first = first;
  others = m.others;
  held = m.held;
  tuples = h.lexemes ∷ m.tuples;
  begins = begins-then bytes more rest h.lexemes (followed m.tuples) (begins-gap bytes b more h.lexemes h.begins gap) m.begins;
  written = (subst (λ z. IsTuple types shape z h.lexemes) (sym is) h.written, m.written);
}

-- ---- the whole

nothing-read : (bytes : List ℕ) → bytes ≡ [] → AreLexemes bytes []
nothing-read bytes is = subst (λ z. AreLexemes z []) (sym is) (λ p. ([], (IsUtf8-nil, subst (λ z. Lexed p z []) (sym chars-nil) (done p)), refl))

-- all of it is read
whole-read : (bytes rest : List ℕ) (ls : List Lexeme) → Begins bytes ls rest → rest ≡ [] → AreLexemes bytes ls
whole-read bytes rest ls h is = subst (AreLexemes bytes) (append-nil ls) (h.goes_on [] (nothing-read rest is))

-- the lexemes of the body
spelled-so : (text opened behind rest : List ℕ) (tuples : List (List Lexeme)) → Begins text (relation_word ∷ open_brace ∷ []) opened → Begins opened (separated tuples) behind → Begins behind (close_brace ∷ semicolon ∷ []) rest → rest ≡ []
    → AreLexemes text (body tuples)
spelled-so text opened behind rest tuples relation rows end is =
    let ends = begins-then opened behind rest (separated tuples) (close_brace ∷ semicolon ∷ []) rows end in
    whole-read text rest (body tuples) (begins-then text opened rest (relation_word ∷ open_brace ∷ []) (separated tuples ++ close_brace ∷ semicolon ∷ []) relation ends) is

pub is-body : {types : List OrdinalNames} → (text opened behind rest : List ℕ) (shape : Shape) (rows : List (List Value)) (relation : Relation) → Begins text (relation_word ∷ open_brace ∷ []) opened → IsPlainShape shape
    → BeginsWithTuples types opened shape rows behind → Begins behind (close_brace ∷ semicolon ∷ []) rest → rest ≡ [] → ((parts : List (List Lexeme)) → AreTuples types shape rows parts → HasRowsOf shape rows relation)
    → IsBody types text relation
is-body {types} text opened behind rest shape rows relation opens plain t end is has = record {
  shape = shape;
  first = t.first;
  others = t.others;
  tuples = t.tuples;
  named = plain.named;
  written = t.written;
  spelled = spelled-so text opened behind rest t.tuples opens t.begins end is;
  has = subst (λ (z : List (List Value)). HasRowsOf shape z relation) t.held (has t.tuples (subst (λ (z : List (List Value)). AreTuples types shape z t.tuples) (sym t.held) t.written));
}

-- what a head and a body bring
pub brings : {types : List OrdinalNames} → (bytes here behind at : List ℕ) (head : Head) (bringing : Bringing) (relvar : Name) (relation : Relation) → Begins bytes [] here → Begins here (target head relvar) behind → Begins behind [] at
    → AreListNames head → IsNameWord relvar → IsBody types at relation → IsWayOf head relation.heading bringing → IsBrought types bytes bringing relvar relation
brings {types} bytes here behind at head bringing relvar relation gap begins more listed name b way =
    let front = begins-then bytes here at [] (target head relvar) gap (begins-gap here behind at (target head relvar) begins more) in
    let rows = map (in_heading b.shape relation.heading) (b.first ∷ b.others) in record {
      named = word-is-name relvar name.2 name.1;
      given = rows;
      rows = b.has.rows;
      brings = λ start. statement-found types head bringing relvar relation.heading b.shape b.first b.others rows bytes (target head relvar ++ body b.tuples) b.has.makes b.named listed name way refl
          (record { tuples = b.tuples; spelled = refl; written = b.written }) (front.goes_on (body b.tuples) b.spelled) start;
    }
