-- Tokens of tuples and of insertions, taken one after another: the tree that they spell. The names may be of any characters.
--     IsInsertRead      from this place on the bytes write an insertion of just these rows
--     statement-read      the tokens of an insertion are read so
use Rattle.std.proofs.lemmas.Bool.{le-ltb}
use Rattle.std.proofs.Common.{◌≡◌, ℕ, suc, arith, List, [], ◌∷◌, ◌++◌, map, length, refl, sym, ◌∙◌, ap, subst, append_assoc}
use Rattle.std.proofs.lemmas.List.{append-nil}
use Rattle.point_core.specs.declared.fault.Place.{Place}
use Rattle.utd_lexer.specs.declared.token.TokenKind.TheVariants.{Word}
use Rattle.utd_lexer.specs.declared.token.Token.{Token}
use Rattle.utd_lexer.specs.Reading.{Reads}
use Rattle.utd_parser.specs.Tokens.{pieces}
use Rattle.utd_syntax.specs.declared.terminal.Terminal.TheVariants as t
use Rattle.utd_syntax.specs.Plain as syntax
use Rattle.utd_syntax.specs.Plain.{word, ElementP, TupleP, LiteralP, StatementP}
use Rattle.utd_syntax.specs.Written.{Mark, fixed, at, spelled, token, Spells, of_scalar, of_element, of_more_elements, of_element_list, of_tuple, of_more_tuples, of_literal, of_statement}
use Rattle.utd_syntax.proofs.Marks.{Spells-append}
use Rattle.utd_ranges.specs.Limits.{is_out_of_range}
use Rattle.utd_ranges.specs.Ranges.{Each, ElementIn, TupleIn, LiteralIn}
use Rattle.value_core.specs.declared.kind.Kind.{Kind}
use Rattle.value_core.specs.declared.list.OrdinalNames.{OrdinalNames}
use Rattle.value_core.specs.Limits.{most_name_bytes}
use Rattle.value_core.specs.Values.{Name, Value, Row, Heading}
use Rattle.constant_laws.specs.Insertions.{MakesHeading, WritesElement, WritesElements, WritesTuple, WritesTuples, in_heading, WritesLiteral, insertion, Adding, IsPlainInsertion}
use Rattle.constant_laws.proofs.WholeInsertions.{insertion-whole}
use Rattle.plain_rows.specs.Lexemes.{Lexeme, lexeme_of, AreLexemes}
use Rattle.plain_rows.specs.Tuples.{Shape, comma, open_brace, close_brace, semicolon, tuple_word, relation_word, insert_word, followed, separated, body, IsElement, AreElements, IsTuple}
use Rattle.plain_rows.specs.Tuples.{AreTuples}
use Rattle.plain_rows.proofs.Trees.{Next, next, nothing, fixed-next, at-next, spelled-next, FoundScalar, constant-found}
use Rattle.plain_rows.specs.Words.{IsFreeWord}
use Rattle.text_laws.specs.Written.{IsWritten}

abbrev pub AreFreeNames : Shape → Type 0
AreFreeNames [] = Unit {0}
AreFreeNames (a ∷ shape) = IsFreeWord a.0 × AreFreeNames shape

pub record IsInsertRead (types : List OrdinalNames) (start : Place) (bytes : List ℕ) (relvar : Name) (heading : Heading) (rows : List Row) : Type 0 where
  pub tree : StatementP
  pub written : IsWritten start bytes tree
  pub plain : IsPlainInsertion types Adding relvar heading rows tree

-- ---- elements

record FoundElement (types : List OrdinalNames) (a : Name × Kind) (v : Value) (ts : List Token) (ls : List Lexeme) : Type 0 where
  x : ElementP
  left : List Token
  others : map lexeme_of left ≡ ls
  writes : WritesElement types a v x
  in_range : ElementIn is_out_of_range x
  spells : Spells (of_element x) (pieces ts) (pieces left)

named-found : (types : List OrdinalNames) (a : Name × Kind) (v : Value) (ts : List Token) (cs ls : List Lexeme) (n : Next (Word, a.0) cs ts) → IsFreeWord a.0
    → FoundScalar types a.1 v n.left ls → FoundElement types a v ts ls
named-found types a v ts cs ls n name c = record {
  x = syntax.Element (word n.place a.0) c.s;
  left = c.left;
  others = c.others;
  writes = (refl, c.writes);
  in_range = (le-ltb most_name_bytes (length a.0) name.1, c.in_range);
  spells = spelled-next t.Name (of_scalar c.s) (Word, a.0) cs ts (pieces c.left) n name.0 c.spells;
}

element-found : (types : List OrdinalNames) (a : Name × Kind) (v : Value) (p ls : List Lexeme) (ts : List Token) → IsFreeWord a.0 → IsElement types a v p → map lexeme_of ts ≡ p ++ ls
    → FoundElement types a v ts ls
element-found types a v p ls ts name h e =
    let n = next (Word, a.0) (h.0 ++ ls) ts (e ∙ ap (λ (z : List Lexeme). z ++ ls) h.1) in
    named-found types a v ts (h.0 ++ ls) ls n name (constant-found types a.1 v h.0 ls n.left h.2 n.others)

record FoundMore (types : List OrdinalNames) (shape : Shape) (vs : List Value) (ts : List Token) (ls : List Lexeme) : Type 0 where
  list : List ElementP
  left : List Token
  others : map lexeme_of left ≡ ls
  writes : WritesElements types shape vs list
  in_range : Each (ElementIn is_out_of_range) list
  spells : Spells (of_more_elements list) (pieces ts) (pieces left)

more-step : (types : List OrdinalNames) (a : Name × Kind) (v : Value) (shape : Shape) (vs : List Value) (ts : List Token) (cs es ls : List Lexeme) (n : Next comma cs ts)
    (x : FoundElement types a v n.left es) → FoundMore types shape vs x.left ls → FoundMore types (a ∷ shape) (v ∷ vs) ts ls
more-step types a v shape vs ts cs es ls n x m = record {
  list = x.x ∷ m.list;
  left = m.left;
  others = m.others;
  writes = (x.writes, m.writes);
  in_range = (x.in_range, m.in_range);
  spells = fixed-next t.Comma (of_element x.x ++ of_more_elements m.list) comma cs ts (pieces m.left) n refl
      (Spells-append (of_element x.x) (of_more_elements m.list) (pieces n.left) (pieces x.left) (pieces m.left) x.spells m.spells);
}

more-found : (types : List OrdinalNames) (shape : Shape) (vs : List Value) (parts : List (List Lexeme)) (ls : List Lexeme) (ts : List Token) → AreFreeNames shape
    → AreElements types shape vs parts → map lexeme_of ts ≡ followed parts ++ ls → FoundMore types shape vs ts ls
more-found types [] [] [] ls ts named h e = record { list = []; left = ts; others = e; writes = tt; in_range = tt; spells = nothing (pieces ts) }
more-found types (a ∷ shape) (v ∷ vs) (p ∷ parts) ls ts named h e =
    let n = next comma ((p ++ followed parts) ++ ls) ts e in
    let x = element-found types a v p (followed parts ++ ls) n.left named.0 h.0 (n.others ∙ append_assoc p (followed parts) ls) in
    more-step types a v shape vs ts ((p ++ followed parts) ++ ls) (followed parts ++ ls) ls n x (more-found types shape vs parts ls x.left named.1 h.1 x.others)
more-found types _ _ _ ls ts named h e = absurd h

record FoundList (types : List OrdinalNames) (shape : Shape) (vs : List Value) (ts : List Token) (ls : List Lexeme) : Type 0 where
  list : List ElementP
  left : List Token
  others : map lexeme_of left ≡ ls
  writes : WritesElements types shape vs list
  in_range : Each (ElementIn is_out_of_range) list
  spells : Spells (of_element_list list) (pieces ts) (pieces left)

list-step : (types : List OrdinalNames) (a : Name × Kind) (v : Value) (shape : Shape) (vs : List Value) (ts : List Token) (es ls : List Lexeme) (x : FoundElement types a v ts es)
    → FoundMore types shape vs x.left ls → FoundList types (a ∷ shape) (v ∷ vs) ts ls
list-step types a v shape vs ts es ls x m = record {
  list = x.x ∷ m.list;
  left = m.left;
  others = m.others;
  writes = (x.writes, m.writes);
  in_range = (x.in_range, m.in_range);
  spells = Spells-append (of_element x.x) (of_more_elements m.list) (pieces ts) (pieces x.left) (pieces m.left) x.spells m.spells;
}

list-found : (types : List OrdinalNames) (shape : Shape) (vs : List Value) (parts : List (List Lexeme)) (ls : List Lexeme) (ts : List Token) → AreFreeNames shape
    → AreElements types shape vs parts → map lexeme_of ts ≡ separated parts ++ ls → FoundList types shape vs ts ls
list-found types [] [] [] ls ts named h e = record { list = []; left = ts; others = e; writes = tt; in_range = tt; spells = nothing (pieces ts) }
list-found types (a ∷ shape) (v ∷ vs) (p ∷ parts) ls ts named h e =
    let x = element-found types a v p (followed parts ++ ls) ts named.0 h.0 (e ∙ append_assoc p (followed parts) ls) in
    list-step types a v shape vs ts (followed parts ++ ls) ls x (more-found types shape vs parts ls x.left named.1 h.1 x.others)
list-found types _ _ _ ls ts named h e = absurd h

-- ---- tuples

record FoundTuple (types : List OrdinalNames) (shape : Shape) (vs : List Value) (ts : List Token) (ls : List Lexeme) : Type 0 where
  x : TupleP
  left : List Token
  others : map lexeme_of left ≡ ls
  writes : WritesTuple types shape vs x
  in_range : TupleIn is_out_of_range x
  spells : Spells (of_tuple x) (pieces ts) (pieces left)

braced-found : (types : List OrdinalNames) (shape : Shape) (vs : List Value) (ts : List Token) (as' bs cs ls : List Lexeme) (a : Next tuple_word as' ts) (b : Next open_brace bs a.left)
    (l : FoundList types shape vs b.left cs) (z : Next close_brace ls l.left) → FoundTuple types shape vs ts ls
braced-found types shape vs ts as' bs cs ls a b l z = record {
  x = syntax.Tuple a.place (syntax.Elements b.place l.list);
  left = z.left;
  others = z.others;
  writes = l.writes;
  in_range = l.in_range;
  spells =
      at-next t.Tuple (at t.OpenBrace b.place ∷ (of_element_list l.list ++ token t.CloseBrace)) tuple_word as' ts (pieces z.left) a refl
      (at-next t.OpenBrace (of_element_list l.list ++ token t.CloseBrace) open_brace bs a.left (pieces z.left) b refl
      (Spells-append (of_element_list l.list) (token t.CloseBrace) (pieces b.left) (pieces l.left) (pieces z.left) l.spells
      (fixed-next t.CloseBrace [] close_brace ls l.left (pieces z.left) z refl (nothing (pieces z.left)))));
}

tuple-found : (types : List OrdinalNames) (shape : Shape) (vs : List Value) (p ls : List Lexeme) (ts : List Token) → AreFreeNames shape → IsTuple types shape vs p
    → map lexeme_of ts ≡ p ++ ls → FoundTuple types shape vs ts ls
tuple-found types shape vs p ls ts named h e =
    let a = next tuple_word (open_brace ∷ ((separated h.elements ++ close_brace ∷ []) ++ ls)) ts (e ∙ ap (λ (z : List Lexeme). z ++ ls) h.spelled) in
    let b = next open_brace ((separated h.elements ++ close_brace ∷ []) ++ ls) a.left a.others in
    let l = list-found types shape vs h.elements (close_brace ∷ ls) b.left named h.written (b.others ∙ append_assoc (separated h.elements) (close_brace ∷ []) ls) in
    braced-found types shape vs ts (open_brace ∷ ((separated h.elements ++ close_brace ∷ []) ++ ls)) ((separated h.elements ++ close_brace ∷ []) ++ ls) (close_brace ∷ ls) ls a b l
    (next close_brace ls l.left l.others)

record FoundTuples (types : List OrdinalNames) (shape : Shape) (rows : List (List Value)) (ts : List Token) (ls : List Lexeme) : Type 0 where
  list : List TupleP
  left : List Token
  others : map lexeme_of left ≡ ls
  writes : WritesTuples types shape rows list
  in_range : Each (TupleIn is_out_of_range) list
  spells : Spells (of_more_tuples list) (pieces ts) (pieces left)

tuples-step : (types : List OrdinalNames) (shape : Shape) (vs : List Value) (rows : List (List Value)) (ts : List Token) (cs es ls : List Lexeme) (n : Next comma cs ts)
    (x : FoundTuple types shape vs n.left es) → FoundTuples types shape rows x.left ls → FoundTuples types shape (vs ∷ rows) ts ls
tuples-step types shape vs rows ts cs es ls n x m = record {
  list = x.x ∷ m.list;
  left = m.left;
  others = m.others;
  writes = (x.writes, m.writes);
  in_range = (x.in_range, m.in_range);
  spells = fixed-next t.Comma (of_tuple x.x ++ of_more_tuples m.list) comma cs ts (pieces m.left) n refl
      (Spells-append (of_tuple x.x) (of_more_tuples m.list) (pieces n.left) (pieces x.left) (pieces m.left) x.spells m.spells);
}

tuples-found : (types : List OrdinalNames) (shape : Shape) (rows : List (List Value)) (parts : List (List Lexeme)) (ls : List Lexeme) (ts : List Token) → AreFreeNames shape
    → AreTuples types shape rows parts → map lexeme_of ts ≡ followed parts ++ ls → FoundTuples types shape rows ts ls
tuples-found types shape [] [] ls ts named h e = record { list = []; left = ts; others = e; writes = tt; in_range = tt; spells = nothing (pieces ts) }
tuples-found types shape (vs ∷ rows) (p ∷ parts) ls ts named h e =
    let n = next comma ((p ++ followed parts) ++ ls) ts e in
    let x = tuple-found types shape vs p (followed parts ++ ls) n.left named h.0 (n.others ∙ append_assoc p (followed parts) ls) in
    tuples-step types shape vs rows ts ((p ++ followed parts) ++ ls) (followed parts ++ ls) ls n x (tuples-found types shape rows parts ls x.left named h.1 x.others)
tuples-found types shape _ _ ls ts named h e = absurd h

-- ---- literals

record FoundLiteral (types : List OrdinalNames) (heading : Heading) (rows : List Row) (ts : List Token) (ls : List Lexeme) : Type 0 where
  l : LiteralP
  left : List Token
  others : map lexeme_of left ≡ ls
  writes : WritesLiteral types heading rows l
  in_range : LiteralIn is_out_of_range l
  spells : Spells (of_literal l) (pieces ts) (pieces left)

literal-step : (types : List OrdinalNames) (heading : Heading) (shape : Shape) (vs : List Value) (others : List (List Value)) (rows : List Row) (ts : List Token) (as' bs es cs ls : List Lexeme)
    → MakesHeading heading shape → rows ≡ map (in_heading shape heading) (vs ∷ others)
    → (a : Next relation_word as' ts) (b : Next open_brace bs a.left) (x : FoundTuple types shape vs b.left es) (m : FoundTuples types shape others x.left cs) (z : Next close_brace ls m.left)
    → FoundLiteral types heading rows ts ls
literal-step types heading shape vs others rows ts as' bs es cs ls makes so a b x m z = record {
  l = syntax.Tuples a.place x.x m.list;
  left = z.left;
  others = z.others;
  writes = record { shape = shape; values = vs ∷ others; makes = makes; tuples_so = (x.writes, m.writes); rows_so = so };
  in_range = (x.in_range, m.in_range);
  spells =
      at-next t.Relation (fixed t.OpenBrace ∷ (of_tuple x.x ++ of_more_tuples m.list ++ token t.CloseBrace)) relation_word as' ts (pieces z.left) a refl
      (fixed-next t.OpenBrace (of_tuple x.x ++ of_more_tuples m.list ++ token t.CloseBrace) open_brace bs a.left (pieces z.left) b refl
      (Spells-append (of_tuple x.x ++ of_more_tuples m.list) (token t.CloseBrace) (pieces b.left) (pieces m.left) (pieces z.left)
      (Spells-append (of_tuple x.x) (of_more_tuples m.list) (pieces b.left) (pieces x.left) (pieces m.left) x.spells m.spells)
      (fixed-next t.CloseBrace [] close_brace ls m.left (pieces z.left) z refl (nothing (pieces z.left)))));
}

literal-found : (types : List OrdinalNames) (heading : Heading) (shape : Shape) (vs : List Value) (others : List (List Value)) (rows : List Row) (parts : List (List Lexeme)) (ls : List Lexeme)
    (ts : List Token) → MakesHeading heading shape → AreFreeNames shape
    → rows ≡ map (in_heading shape heading) (vs ∷ others) → AreTuples types shape (vs ∷ others) parts → map lexeme_of ts ≡ relation_word ∷ open_brace ∷ (separated parts ++ close_brace ∷ ls)
    → FoundLiteral types heading rows ts ls
literal-found types heading shape vs others rows [] ls ts makes named so h e = absurd h
literal-found types heading shape vs others rows (p ∷ parts) ls ts makes named so h e =
    let a = next relation_word (open_brace ∷ ((p ++ followed parts) ++ close_brace ∷ ls)) ts e in
    let b = next open_brace ((p ++ followed parts) ++ close_brace ∷ ls) a.left a.others in
    let x = tuple-found types shape vs p (followed parts ++ close_brace ∷ ls) b.left named h.0 (b.others ∙ append_assoc p (followed parts) (close_brace ∷ ls)) in
    let m = tuples-found types shape others parts (close_brace ∷ ls) x.left named h.1 x.others in
    literal-step types heading shape vs others rows ts (open_brace ∷ ((p ++ followed parts) ++ close_brace ∷ ls)) ((p ++ followed parts) ++ close_brace ∷ ls) (followed parts ++ close_brace ∷ ls)
    (close_brace ∷ ls) ls makes so a b x m (next close_brace ls m.left m.others)

-- ---- statements

nothing-behind : (ts : List Token) (z : Next semicolon [] ts) → Spells [] (pieces z.left) []
unfolding Spells
nothing-behind ts z = by-list z.left z.others
  where
    by-list : (left : List Token) → map lexeme_of left ≡ [] → Spells [] (pieces left) []
    by-list [] e = refl
    by-list (x ∷ left) e = let n : suc (length (map lexeme_of left)) ≡ 0 = ap length e in absurd (omega (arith, n))

-- a literal and the end
end-spelled : (types : List OrdinalNames) (heading : Heading) (rows : List Row) (ts : List Token) (l : FoundLiteral types heading rows ts (semicolon ∷ [])) → Next semicolon [] l.left
    → Spells (of_literal l.l ++ [] ++ token t.Semicolon) (pieces ts) []
end-spelled types heading rows ts l z =
    Spells-append (of_literal l.l ++ []) (token t.Semicolon) (pieces ts) (pieces l.left) []
    (subst (λ (ms : List Mark). Spells ms (pieces ts) (pieces l.left)) (sym (append-nil (of_literal l.l))) l.spells)
    (fixed-next t.Semicolon [] semicolon [] l.left [] z refl (nothing-behind l.left z))

insertion-written : (types : List OrdinalNames) (start : Place) (bytes : List ℕ) (relvar : Name) (heading : Heading) (rows : List Row) (tokens : List Token) (cs ds : List Lexeme)
    → Reads start bytes tokens → IsFreeWord relvar → (a : Next insert_word cs tokens)
    (b : Next (Word, relvar) ds a.left) (l : FoundLiteral types heading rows b.left (semicolon ∷ [])) → Next semicolon [] l.left → IsInsertRead types start bytes relvar heading rows
insertion-written types start bytes relvar heading rows tokens cs ds reads name a b l z =
    let spells : Spells (of_statement (insertion a.place (word b.place relvar) l.l)) (pieces tokens) [] =
    at-next t.Insert (spelled t.Name b.place relvar ∷ (of_literal l.l ++ [] ++ token t.Semicolon)) insert_word cs tokens [] a refl
    (spelled-next t.Name (of_literal l.l ++ [] ++ token t.Semicolon) (Word, relvar) ds a.left [] b name.0 (end-spelled types heading rows b.left l z)) in record {
      tree = insertion a.place (word b.place relvar) l.l;
      written = (
        tokens,
        reads,
        insertion-whole types heading rows a.place (word b.place relvar) l.l (pieces tokens) l.writes
            ((le-ltb most_name_bytes (length relvar) name.1, l.in_range), tt) spells,
        spells,
      );
      plain = record { w = word b.place relvar; l = l.l; named = refl; is = (a.place, refl); writes = l.writes };
    }

-- the tokens of INSERT, a name and a literal
pub statement-read : (types : List OrdinalNames) (relvar : Name) (heading : Heading) (shape : Shape) (vs : List Value) (others : List (List Value)) (rows : List Row) (bytes : List ℕ)
    (parts : List (List Lexeme)) → MakesHeading heading shape → AreFreeNames shape → IsFreeWord relvar
    → rows ≡ map (in_heading shape heading) (vs ∷ others) → AreTuples types shape (vs ∷ others) parts → AreLexemes bytes (insert_word ∷ (Word, relvar) ∷ body parts) → (start : Place)
    → IsInsertRead types start bytes relvar heading rows
statement-read types relvar heading shape vs others rows bytes parts makes named name so h read start =
    let r = read start in
    let a = next insert_word ((Word, relvar) ∷ body parts) r.0 r.2 in
    let b = next (Word, relvar) (body parts) a.left a.others in
    let l = literal-found types heading shape vs others rows parts (semicolon ∷ []) b.left makes named so h b.others in
    insertion-written types start bytes relvar heading rows r.0 ((Word, relvar) ∷ body parts) (body parts) r.1 name a b l (next semicolon [] l.left l.others)
