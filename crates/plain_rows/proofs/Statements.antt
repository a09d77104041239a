-- Tokens of tuples and of whole statements, taken one after another: the tree that they spell.
--     statement-found      the tree of a plain statement's tokens
use Rattle.std.proofs.lemmas.Bool.{le-ltb}
use Rattle.std.proofs.Common.{◌≡◌, ℕ, suc, arith, List, [], ◌∷◌, ◌++◌, map, length, refl, sym, ◌∙◌, ap, subst, append_assoc}
use Rattle.std.proofs.lemmas.List.{append-nil}
use Rattle.point_core.specs.declared.fault.Place.{Place}
use Rattle.utd_lexer.specs.declared.token.TokenKind.TheVariants.{Word}
use Rattle.utd_lexer.specs.declared.token.Token.{Token}
use Rattle.utd_lexer.specs.Reading.{Reads}
use Rattle.utd_parser.specs.Tokens.{pieces}
use Rattle.utd_syntax.specs.declared.terminal.Terminal.TheVariants as t
use Rattle.utd_syntax.specs.Plain as syntax
use Rattle.utd_syntax.specs.Plain.{word, Word as SyntaxWord, NameListP, ElementP, TupleP, LiteralP}
use Rattle.utd_syntax.specs.Pieces.{Piece}
use Rattle.utd_syntax.specs.Written.{Mark, fixed, at, spelled, token, word_of, Spells, of_more_words, of_words, of_list, of_scalar, of_element, of_more_elements, of_element_list, of_tuple, of_more_tuples, of_literal, of_statement}
use Rattle.utd_syntax.proofs.Marks.{Spells-append}
use Rattle.utd_ranges.specs.Limits.{is_out_of_range}
use Rattle.utd_ranges.specs.Ranges.{Each, NameIn, ElementIn, TupleIn, LiteralIn}
use Rattle.value_core.specs.declared.kind.Kind.{Kind}
use Rattle.value_core.specs.declared.list.OrdinalNames.{OrdinalNames}
use Rattle.value_core.specs.Limits.{most_name_bytes}
use Rattle.value_core.specs.Values.{Name, Value, Row, Heading}
use Rattle.constant_laws.specs.Insertions.{MakesHeading, WritesElement, WritesElements, WritesTuple, WritesTuples, in_heading, WritesLiteral, insertion, insertion_under, setting, Bringing, Setting, Adding, AddingUnder}
use Rattle.constant_laws.proofs.ListedNames.{listed-anywhere}
use Rattle.constant_laws.proofs.WholeInsertions.{insertion-whole, insertion-under-whole, setting-whole}
use Rattle.node_typing.specs.Lists.{names_of_words}
use Rattle.plain_rows.specs.Lexemes.{Lexeme, lexeme_of, AreLexemes}
use Rattle.plain_rows.specs.Heads.{AreListNames, IsListing, IsWayOf}
use Rattle.plain_rows.specs.Names.{AllNames, IsNameWord, AreNameWords}
use Rattle.plain_rows.specs.Written.{colon}
use Rattle.plain_rows.specs.Tuples.{Shape, comma, open_brace, close_brace, open_bracket, close_bracket, semicolon, tuple_word, relation_word, insert_word, using_word, assign_symbol, followed, separated, lone, listed, using_list, Head, Sets, Inserts, InsertsUnder, body, IsElement, AreElements, IsTuple, AreTuples, IsPlain}
use Rattle.plain_rows.specs.Brought.{BringsRows}
use Rattle.plain_rows.proofs.Trees.{Next, next, nothing, fixed-next, at-next, spelled-next, FoundScalar, constant-found}

-- ---- elements

record FoundElement (types : List OrdinalNames) (a : Name × Kind) (v : Value) (ts : List Token) (ls : List Lexeme) : Type 0 where
  x : ElementP
  left : List Token
  others : map lexeme_of left ≡ ls
  writes : WritesElement types a v x
  in_range : ElementIn is_out_of_range x
  spells : Spells (of_element x) (pieces ts) (pieces left)

named-found : (types : List OrdinalNames) (a : Name × Kind) (v : Value) (ts : List Token) (cs ls : List Lexeme) (n : Next (Word, a.0) cs ts) → IsNameWord a.0 → FoundScalar types a.1 v n.left ls → FoundElement types a v ts ls
named-found types a v ts cs ls n name c = record {
  x = syntax.Element (word n.place a.0) c.s;
  left = c.left;
  others = c.others;
  writes = (refl, c.writes);
  in_range = (le-ltb most_name_bytes (length a.0) name.1, c.in_range);
  spells = spelled-next t.Name (of_scalar c.s) (Word, a.0) cs ts (pieces c.left) n name.0 c.spells;
}

element-found : (types : List OrdinalNames) (a : Name × Kind) (v : Value) (p ls : List Lexeme) (ts : List Token) → IsNameWord a.0 → IsElement types a v p → map lexeme_of ts ≡ p ++ ls → FoundElement types a v ts ls
element-found types a v p ls ts name h e =
    let n = next (Word, a.0) (h.0 ++ ls) ts (e ∙ ap (λ (z : List Lexeme). z ++ ls) h.1) in
    named-found types a v ts (h.0 ++ ls) ls n name (constant-found types a.1 v h.0 ls n.left h.2 n.others)

record FoundMore (types : List OrdinalNames) (shape : Shape) (vs : List Value) (ts : List Token) (ls : List Lexeme) : Type 0 where
  list : List ElementP
  left : List Token
  others : map lexeme_of left ≡ ls
  writes : WritesElements types shape vs list
  in_range : Each (ElementIn is_out_of_range) list
  spells : Spells (of_more_elements list) (pieces ts) (pieces left)

more-step : (types : List OrdinalNames) (a : Name × Kind) (v : Value) (shape : Shape) (vs : List Value) (ts : List Token) (cs es ls : List Lexeme) (n : Next comma cs ts) (x : FoundElement types a v n.left es) → FoundMore types shape vs x.left ls → FoundMore types (a ∷ shape) (v ∷ vs) ts ls
more-step types a v shape vs ts cs es ls n x m = record {
  list = x.x ∷ m.list;
  left = m.left;
  others = m.others;
  writes = (x.writes, m.writes);
  in_range = (x.in_range, m.in_range);
  spells = fixed-next t.Comma (of_element x.x ++ of_more_elements m.list) comma cs ts (pieces m.left) n refl (Spells-append (of_element x.x) (of_more_elements m.list) (pieces n.left) (pieces x.left) (pieces m.left) x.spells m.spells);
}

more-found : (types : List OrdinalNames) (shape : Shape) (vs : List Value) (parts : List (List Lexeme)) (ls : List Lexeme) (ts : List Token) → AreNameWords shape → AreElements types shape vs parts → map lexeme_of ts ≡ followed parts ++ ls → FoundMore types shape vs ts ls
more-found types [] [] [] ls ts named h e = record { list = []; left = ts; others = e; writes = tt; in_range = tt; spells = nothing (pieces ts) }
more-found types (a ∷ shape) (v ∷ vs) (p ∷ parts) ls ts named h e =
    let n = next comma ((p ++ followed parts) ++ ls) ts e in
    let x = element-found types a v p (followed parts ++ ls) n.left named.0 h.0 (n.others ∙ append_assoc p (followed parts) ls) in
    more-step types a v shape vs ts ((p ++ followed parts) ++ ls) (followed parts ++ ls) ls n x (more-found types shape vs parts ls x.left named.1 h.1 x.others)
more-found types _ _ _ ls ts named h e = absurd h

record FoundList (types : List OrdinalNames) (shape : Shape) (vs : List Value) (ts : List Token) (ls : List Lexeme) : Type 0 where
  list : List ElementP
  left : List Token
  others : map lexeme_of left ≡ ls
  writes : WritesElements types shape vs list
  in_range : Each (ElementIn is_out_of_range) list
  spells : Spells (of_element_list list) (pieces ts) (pieces left)

list-step : (types : List OrdinalNames) (a : Name × Kind) (v : Value) (shape : Shape) (vs : List Value) (ts : List Token) (es ls : List Lexeme) (x : FoundElement types a v ts es) → FoundMore types shape vs x.left ls → FoundList types (a ∷ shape) (v ∷ vs) ts ls
list-step types a v shape vs ts es ls x m = record {
  list = x.x ∷ m.list;
  left = m.left;
  others = m.others;
  writes = (x.writes, m.writes);
  in_range = (x.in_range, m.in_range);
  spells = Spells-append (of_element x.x) (of_more_elements m.list) (pieces ts) (pieces x.left) (pieces m.left) x.spells m.spells;
}

list-found : (types : List OrdinalNames) (shape : Shape) (vs : List Value) (parts : List (List Lexeme)) (ls : List Lexeme) (ts : List Token) → AreNameWords shape → AreElements types shape vs parts → map lexeme_of ts ≡ separated parts ++ ls → FoundList types shape vs ts ls
list-found types [] [] [] ls ts named h e = record { list = []; left = ts; others = e; writes = tt; in_range = tt; spells = nothing (pieces ts) }
list-found types (a ∷ shape) (v ∷ vs) (p ∷ parts) ls ts named h e =
    let x = element-found types a v p (followed parts ++ ls) ts named.0 h.0 (e ∙ append_assoc p (followed parts) ls) in
    list-step types a v shape vs ts (followed parts ++ ls) ls x (more-found types shape vs parts ls x.left named.1 h.1 x.others)
list-found types _ _ _ ls ts named h e = absurd h

-- ---- tuples

record FoundTuple (types : List OrdinalNames) (shape : Shape) (vs : List Value) (ts : List Token) (ls : List Lexeme) : Type 0 where
  x : TupleP
  left : List Token
  others : map lexeme_of left ≡ ls
  writes : WritesTuple types shape vs x
  in_range : TupleIn is_out_of_range x
  spells : Spells (of_tuple x) (pieces ts) (pieces left)

braced-found : (types : List OrdinalNames) (shape : Shape) (vs : List Value) (ts : List Token) (as' bs cs ls : List Lexeme) (a : Next tuple_word as' ts) (b : Next open_brace bs a.left) (l : FoundList types shape vs b.left cs) (z : Next close_brace ls l.left) → FoundTuple types shape vs ts ls
braced-found types shape vs ts as' bs cs ls a b l z = record {
  x = syntax.Tuple a.place (syntax.Elements b.place l.list);
  left = z.left;
  others = z.others;
  writes = l.writes;
  in_range = l.in_range;
  spells =
      at-next t.Tuple (at t.OpenBrace b.place ∷ (of_element_list l.list ++ token t.CloseBrace)) tuple_word as' ts (pieces z.left) a refl
      (at-next t.OpenBrace (of_element_list l.list ++ token t.CloseBrace) open_brace bs a.left (pieces z.left) b refl
      (Spells-append (of_element_list l.list) (token t.CloseBrace) (pieces b.left) (pieces l.left) (pieces z.left) l.spells
      (fixed-next t.CloseBrace [] close_brace ls l.left (pieces z.left) z refl (nothing (pieces z.left)))));
}

tuple-found : (types : List OrdinalNames) (shape : Shape) (vs : List Value) (p ls : List Lexeme) (ts : List Token) → AreNameWords shape → IsTuple types shape vs p → map lexeme_of ts ≡ p ++ ls → FoundTuple types shape vs ts ls
tuple-found types shape vs p ls ts named h e =
    let a = next tuple_word (open_brace ∷ ((separated h.elements ++ close_brace ∷ []) ++ ls)) ts (e ∙ ap (λ (z : List Lexeme). z ++ ls) h.spelled) in
    let b = next open_brace ((separated h.elements ++ close_brace ∷ []) ++ ls) a.left a.others in
    let l = list-found types shape vs h.elements (close_brace ∷ ls) b.left named h.written (b.others ∙ append_assoc (separated h.elements) (close_brace ∷ []) ls) in
    braced-found types shape vs ts (open_brace ∷ ((separated h.elements ++ close_brace ∷ []) ++ ls)) ((separated h.elements ++ close_brace ∷ []) ++ ls) (close_brace ∷ ls) ls a b l (next close_brace ls l.left l.others)

record FoundTuples (types : List OrdinalNames) (shape : Shape) (rows : List (List Value)) (ts : List Token) (ls : List Lexeme) : Type 0 where
  list : List TupleP
  left : List Token
  others : map lexeme_of left ≡ ls
  writes : WritesTuples types shape rows list
  in_range : Each (TupleIn is_out_of_range) list
  spells : Spells (of_more_tuples list) (pieces ts) (pieces left)

tuples-step : (types : List OrdinalNames) (shape : Shape) (vs : List Value) (rows : List (List Value)) (ts : List Token) (cs es ls : List Lexeme) (n : Next comma cs ts) (x : FoundTuple types shape vs n.left es) → FoundTuples types shape rows x.left ls → FoundTuples types shape (vs ∷ rows) ts ls
tuples-step types shape vs rows ts cs es ls n x m = record {
  list = x.x ∷ m.list;
  left = m.left;
  others = m.others;
  writes = (x.writes, m.writes);
  in_range = (x.in_range, m.in_range);
  spells = fixed-next t.Comma (of_tuple x.x ++ of_more_tuples m.list) comma cs ts (pieces m.left) n refl (Spells-append (of_tuple x.x) (of_more_tuples m.list) (pieces n.left) (pieces x.left) (pieces m.left) x.spells m.spells);
}

tuples-found : (types : List OrdinalNames) (shape : Shape) (rows : List (List Value)) (parts : List (List Lexeme)) (ls : List Lexeme) (ts : List Token) → AreNameWords shape → AreTuples types shape rows parts → map lexeme_of ts ≡ followed parts ++ ls → FoundTuples types shape rows ts ls
tuples-found types shape [] [] ls ts named h e = record { list = []; left = ts; others = e; writes = tt; in_range = tt; spells = nothing (pieces ts) }
tuples-found types shape (vs ∷ rows) (p ∷ parts) ls ts named h e =
    let n = next comma ((p ++ followed parts) ++ ls) ts e in
    let x = tuple-found types shape vs p (followed parts ++ ls) n.left named h.0 (n.others ∙ append_assoc p (followed parts) ls) in
    tuples-step types shape vs rows ts ((p ++ followed parts) ++ ls) (followed parts ++ ls) ls n x (tuples-found types shape rows parts ls x.left named h.1 x.others)
tuples-found types shape _ _ ls ts named h e = absurd h

-- ---- literals

record FoundLiteral (types : List OrdinalNames) (heading : Heading) (rows : List Row) (ts : List Token) (ls : List Lexeme) : Type 0 where
  l : LiteralP
  left : List Token
  others : map lexeme_of left ≡ ls
  writes : WritesLiteral types heading rows l
  in_range : LiteralIn is_out_of_range l
  spells : Spells (of_literal l) (pieces ts) (pieces left)

literal-step : (types : List OrdinalNames) (heading : Heading) (shape : Shape) (vs : List Value) (others : List (List Value)) (rows : List Row) (ts : List Token) (as' bs es cs ls : List Lexeme) → MakesHeading heading shape → rows ≡ map (in_heading shape heading) (vs ∷ others)
    → (a : Next relation_word as' ts) (b : Next open_brace bs a.left) (x : FoundTuple types shape vs b.left es) (m : FoundTuples types shape others x.left cs) (z : Next close_brace ls m.left) → FoundLiteral types heading rows ts ls
literal-step types heading shape vs others rows ts as' bs es cs ls makes so a b x m z = record {
  l = syntax.Tuples a.place x.x m.list;
  left = z.left;
  others = z.others;
  writes = record { shape = shape; values = vs ∷ others; makes = makes; tuples_so = (x.writes, m.writes); rows_so = so };
  in_range = (x.in_range, m.in_range);
  spells =
      at-next t.Relation (fixed t.OpenBrace ∷ (of_tuple x.x ++ of_more_tuples m.list ++ token t.CloseBrace)) relation_word as' ts (pieces z.left) a refl
      (fixed-next t.OpenBrace (of_tuple x.x ++ of_more_tuples m.list ++ token t.CloseBrace) open_brace bs a.left (pieces z.left) b refl
      (Spells-append (of_tuple x.x ++ of_more_tuples m.list) (token t.CloseBrace) (pieces b.left) (pieces m.left) (pieces z.left)
      (Spells-append (of_tuple x.x) (of_more_tuples m.list) (pieces b.left) (pieces x.left) (pieces m.left) x.spells m.spells)
      (fixed-next t.CloseBrace [] close_brace ls m.left (pieces z.left) z refl (nothing (pieces z.left)))));
}

literal-found : (types : List OrdinalNames) (heading : Heading) (shape : Shape) (vs : List Value) (others : List (List Value)) (rows : List Row) (parts : List (List Lexeme)) (ls : List Lexeme) (ts : List Token) → MakesHeading heading shape → AreNameWords shape
    → rows ≡ map (in_heading shape heading) (vs ∷ others) → AreTuples types shape (vs ∷ others) parts → map lexeme_of ts ≡ relation_word ∷ open_brace ∷ (separated parts ++ close_brace ∷ ls) → FoundLiteral types heading rows ts ls
literal-found types heading shape vs others rows [] ls ts makes named so h e = absurd h
literal-found types heading shape vs others rows (p ∷ parts) ls ts makes named so h e =
    let a = next relation_word (open_brace ∷ ((p ++ followed parts) ++ close_brace ∷ ls)) ts e in
    let b = next open_brace ((p ++ followed parts) ++ close_brace ∷ ls) a.left a.others in
    let x = tuple-found types shape vs p (followed parts ++ close_brace ∷ ls) b.left named h.0 (b.others ∙ append_assoc p (followed parts) (close_brace ∷ ls)) in
    let m = tuples-found types shape others parts (close_brace ∷ ls) x.left named h.1 x.others in
    literal-step types heading shape vs others rows ts (open_brace ∷ ((p ++ followed parts) ++ close_brace ∷ ls)) ((p ++ followed parts) ++ close_brace ∷ ls) (followed parts ++ close_brace ∷ ls) (close_brace ∷ ls) ls makes so a b x m (next close_brace ls m.left m.others)

-- ---- statements

none-left : (ts : List Token) → map lexeme_of ts ≡ [] → Spells [] (pieces ts) []
unfolding Spells
none-left [] e = refl
none-left (x ∷ ts) e = let n : suc (length (map lexeme_of ts)) ≡ 0 = ap length e in absurd (omega (arith, n))

-- a literal and the end
end-spelled : (types : List OrdinalNames) (heading : Heading) (rows : List Row) (ts : List Token) (l : FoundLiteral types heading rows ts (semicolon ∷ [])) → Next semicolon [] l.left → Spells (of_literal l.l ++ [] ++ token t.Semicolon) (pieces ts) []
end-spelled types heading rows ts l z =
    Spells-append (of_literal l.l ++ []) (token t.Semicolon) (pieces ts) (pieces l.left) [] (subst (λ (ms : List Mark). Spells ms (pieces ts) (pieces l.left)) (sym (append-nil (of_literal l.l))) l.spells)
    (fixed-next t.Semicolon [] semicolon [] l.left [] z refl (none-left z.left z.others))

insertion-brings : (types : List OrdinalNames) (start : Place) (bytes : List ℕ) (relvar : Name) (heading : Heading) (rows : List Row) (tokens : List Token) (cs ds : List Lexeme) → Reads start bytes tokens → IsNameWord relvar → (a : Next insert_word cs tokens) (b : Next (Word, relvar) ds a.left)
    (l : FoundLiteral types heading rows b.left (semicolon ∷ [])) → Next semicolon [] l.left → BringsRows types start bytes Adding relvar heading rows
insertion-brings types start bytes relvar heading rows tokens cs ds reads name a b l z =
    let spells : Spells (of_statement (insertion a.place (word b.place relvar) l.l)) (pieces tokens) [] =
    at-next t.Insert (spelled t.Name b.place relvar ∷ (of_literal l.l ++ [] ++ token t.Semicolon)) insert_word cs tokens [] a refl
    (spelled-next t.Name (of_literal l.l ++ [] ++ token t.Semicolon) (Word, relvar) ds a.left [] b name.0 (end-spelled types heading rows b.left l z)) in record {
      tokens = tokens;
      reads = reads;
      whole = insertion-whole types heading rows a.place (word b.place relvar) l.l (pieces tokens) l.writes ((le-ltb most_name_bytes (length relvar) name.1, l.in_range), tt) spells;
      tree = insertion a.place (word b.place relvar) l.l;
      spelled = spells;
      plain = record { w = word b.place relvar; l = l.l; named = refl; is = (a.place, refl); writes = l.writes };
    }

setting-brings : (types : List OrdinalNames) (start : Place) (bytes : List ℕ) (relvar : Name) (heading : Heading) (rows : List Row) (tokens : List Token) (cs ds : List Lexeme) → Reads start bytes tokens → IsNameWord relvar → (b : Next (Word, relvar) cs tokens) (a : Next assign_symbol ds b.left)
    (l : FoundLiteral types heading rows a.left (semicolon ∷ [])) → Next semicolon [] l.left → BringsRows types start bytes Setting relvar heading rows
setting-brings types start bytes relvar heading rows tokens cs ds reads name b a l z =
    let spells : Spells (of_statement (setting (word b.place relvar) l.l)) (pieces tokens) [] =
    spelled-next t.Name (fixed t.Assign ∷ (of_literal l.l ++ [] ++ token t.Semicolon)) (Word, relvar) cs tokens [] b name.0
    (fixed-next t.Assign (of_literal l.l ++ [] ++ token t.Semicolon) assign_symbol ds b.left [] a refl (end-spelled types heading rows a.left l z)) in record {
      tokens = tokens;
      reads = reads;
      whole = setting-whole types heading rows (word b.place relvar) l.l (pieces tokens) l.writes ((le-ltb most_name_bytes (length relvar) name.1, l.in_range), tt) spells;
      tree = setting (word b.place relvar) l.l;
      spelled = spells;
      plain = record { w = word b.place relvar; l = l.l; named = refl; is = refl; writes = l.writes };
    }

-- ---- under USING

-- the tokens begin with words of these names, each behind a comma
record FoundMoreWords (names : List Name) (ts : List Token) (ls : List Lexeme) : Type 0 where
  words : List SyntaxWord
  same : names_of_words words ≡ names
  left : List Token
  others : map lexeme_of left ≡ ls
  in_range : Each (NameIn is_out_of_range) words
  spells : Spells (of_more_words words) (pieces ts) (pieces left)

more-words-found : (names : List Name) (ls : List Lexeme) (ts : List Token) → AllNames names → map lexeme_of ts ≡ followed (map lone names) ++ ls → FoundMoreWords names ts ls
more-words-found [] ls ts named e = record { words = []; same = refl; left = ts; others = e; in_range = tt; spells = nothing (pieces ts) }
more-words-found (n ∷ names) ls ts named e =
    let a = next comma ((Word, n) ∷ (followed (map lone names) ++ ls)) ts e in
    let b = next (Word, n) (followed (map lone names) ++ ls) a.left a.others in
    let r = more-words-found names ls b.left named.1 b.others in record {
      words = word b.place n ∷ r.words;
      same = ap (λ (z : List Name). n ∷ z) r.same;
      left = r.left;
      others = r.others;
      in_range = (le-ltb most_name_bytes (length n) named.0.1, r.in_range);
      spells =
          fixed-next t.Comma (spelled t.Name b.place n ∷ of_more_words r.words) comma ((Word, n) ∷ (followed (map lone names) ++ ls)) ts (pieces r.left) a refl
          (spelled-next t.Name (of_more_words r.words) (Word, n) (followed (map lone names) ++ ls) a.left (pieces r.left) b named.0.0 r.spells);
    }

-- with commas between them
record FoundWords (names : List Name) (ts : List Token) (ls : List Lexeme) : Type 0 where
  words : List SyntaxWord
  same : names_of_words words ≡ names
  left : List Token
  others : map lexeme_of left ≡ ls
  in_range : Each (NameIn is_out_of_range) words
  spells : Spells (of_words words) (pieces ts) (pieces left)

words-found : (names : List Name) (ls : List Lexeme) (ts : List Token) → AllNames names → map lexeme_of ts ≡ listed names ++ ls → FoundWords names ts ls
words-found [] ls ts named e = record { words = []; same = refl; left = ts; others = e; in_range = tt; spells = nothing (pieces ts) }
words-found (n ∷ names) ls ts named e =
    let b = next (Word, n) (followed (map lone names) ++ ls) ts e in
    let r = more-words-found names ls b.left named.1 b.others in record {
      words = word b.place n ∷ r.words;
      same = ap (λ (z : List Name). n ∷ z) r.same;
      left = r.left;
      others = r.others;
      in_range = (le-ltb most_name_bytes (length n) named.0.1, r.in_range);
      spells = spelled-next t.Name (of_more_words r.words) (Word, n) (followed (map lone names) ++ ls) ts (pieces r.left) b named.0.0 r.spells;
    }

-- the tokens begin with a list of these names in brackets, and a colon behind it
record FoundNames (names : List Name) (ts : List Token) (ls : List Lexeme) : Type 0 where
  place : Place
  words : List SyntaxWord
  same : names_of_words words ≡ names
  left : List Token
  others : map lexeme_of left ≡ ls
  in_range : Each (NameIn is_out_of_range) words
  spells : Spells (of_list (syntax.NameList place words) ++ token t.Colon) (pieces ts) (pieces left)

bracketed-found : (names : List Name) (ts : List Token) (os zs cs ls : List Lexeme) (o : Next open_bracket os ts) (r : FoundWords names o.left zs) (z : Next close_bracket cs r.left) (c : Next colon ls z.left) → FoundNames names ts ls
bracketed-found names ts os zs cs ls o r z c = record {
  place = o.place;
  words = r.words;
  same = r.same;
  left = c.left;
  others = c.others;
  in_range = r.in_range;
  spells =
      Spells-append (of_list (syntax.NameList o.place r.words)) (token t.Colon) (pieces ts) (pieces z.left) (pieces c.left)
      (at-next t.Open (of_words r.words ++ token t.Close) open_bracket os ts (pieces z.left) o refl
      (Spells-append (of_words r.words) (token t.Close) (pieces o.left) (pieces r.left) (pieces z.left) r.spells
      (fixed-next t.Close [] close_bracket cs r.left (pieces z.left) z refl (nothing (pieces z.left)))))
      (fixed-next t.Colon [] colon ls z.left (pieces c.left) c refl (nothing (pieces c.left)));
}

names-found : (names : List Name) (ls : List Lexeme) (ts : List Token) → AllNames names → map lexeme_of ts ≡ open_bracket ∷ ((listed names ++ close_bracket ∷ colon ∷ []) ++ ls) → FoundNames names ts ls
names-found names ls ts named e =
    let o = next open_bracket ((listed names ++ close_bracket ∷ colon ∷ []) ++ ls) ts e in
    let r = words-found names (close_bracket ∷ colon ∷ ls) o.left named (o.others ∙ append_assoc (listed names) (close_bracket ∷ colon ∷ []) ls) in
    let z = next close_bracket (colon ∷ ls) r.left r.others in
    bracketed-found names ts ((listed names ++ close_bracket ∷ colon ∷ []) ++ ls) (close_bracket ∷ colon ∷ ls) (colon ∷ ls) ls o r z (next colon ls z.left z.others)

-- the item, and the end
used-spelled : (types : List OrdinalNames) (heading : Heading) (rows : List Row) (relvar : Name) (ms : List Mark) (start : List Piece) (tokens : List Token) (is bs : List Lexeme) → IsNameWord relvar → Spells ms start (pieces tokens)
    → (i : Next insert_word is tokens) (b : Next (Word, relvar) bs i.left) (l : FoundLiteral types heading rows b.left (semicolon ∷ [])) → Next semicolon [] l.left
    → Spells (ms ++ (at t.Insert i.place ∷ (word_of (word b.place relvar) ++ of_literal l.l)) ++ [] ++ token t.Semicolon) start []
used-spelled types heading rows relvar ms start tokens is bs name front i b l z =
    let used : List Mark = at t.Insert i.place ∷ (word_of (word b.place relvar) ++ of_literal l.l) in
    let item : Spells used (pieces tokens) (pieces l.left) =
    at-next t.Insert (word_of (word b.place relvar) ++ of_literal l.l) insert_word is tokens (pieces l.left) i refl (spelled-next t.Name (of_literal l.l) (Word, relvar) bs i.left (pieces l.left) b name.0 l.spells) in
    Spells-append (ms ++ used ++ []) (token t.Semicolon) start (pieces l.left) []
    (subst (λ (z : List Mark). Spells z start (pieces l.left)) (sym (append-nil (ms ++ used))) (Spells-append ms used start (pieces tokens) (pieces l.left) front item))
    (fixed-next t.Semicolon [] semicolon [] l.left [] z refl (none-left z.left z.others))

under-brings : (types : List OrdinalNames) (start : Place) (bytes : List ℕ) (names : List Name) (commalist : List ℕ) (relvar : Name) (heading : Heading) (rows : List Row) (tokens : List Token) (us ns is bs : List Lexeme) → Reads start bytes tokens
    → IsNameWord relvar → IsListing heading commalist names → (a : Next using_word us tokens) (n : FoundNames names a.left ns) (i : Next insert_word is n.left) (b : Next (Word, relvar) bs i.left)
    (l : FoundLiteral types heading rows b.left (semicolon ∷ [])) → Next semicolon [] l.left → BringsRows types start bytes (AddingUnder commalist) relvar heading rows
under-brings types start bytes names commalist relvar heading rows tokens us ns is bs reads name listing a n i b l z =
    let list : NameListP = syntax.NameList n.place n.words in
    let tree = insertion_under a.place list i.place (word b.place relvar) l.l in
    let used : List Mark = at t.Insert i.place ∷ (word_of (word b.place relvar) ++ of_literal l.l) in
    let spells : Spells (of_statement tree) (pieces tokens) [] =
    at-next t.Using (of_list list ++ token t.Colon ++ used ++ [] ++ token t.Semicolon) using_word us tokens [] a refl
    (used-spelled types heading rows relvar (of_list list ++ token t.Colon) (pieces a.left) n.left is bs name n.spells i b l z) in record {
      tokens = tokens;
      reads = reads;
      whole = insertion-under-whole types heading rows a.place list i.place (word b.place relvar) l.l (pieces tokens) l.writes ((n.in_range, (le-ltb most_name_bytes (length relvar) name.1, l.in_range)), tt) spells;
      tree = tree;
      spelled = spells;
      plain = record {
        w = word b.place relvar;
        l = l.l;
        named = refl;
        is = (a.place, list, i.place, listed-anywhere heading commalist listing.list n.place n.words listing.is (n.same ∙ sym listing.same), refl);
        writes = l.writes;
      };
    }

-- ---- whichever it is

pub statement-found : (types : List OrdinalNames) (head : Head) (bringing : Bringing) (relvar : Name) (heading : Heading) (shape : Shape) (vs : List Value) (others : List (List Value)) (rows : List Row) (bytes : List ℕ) (ls : List Lexeme)
    → MakesHeading heading shape → AreNameWords shape → AreListNames head → IsNameWord relvar → IsWayOf head heading bringing → rows ≡ map (in_heading shape heading) (vs ∷ others) → IsPlain types head relvar shape (vs ∷ others) ls
    → AreLexemes bytes ls → (start : Place) → BringsRows types start bytes bringing relvar heading rows
statement-found types Inserts Adding relvar heading shape vs others rows bytes ls makes named listed name way so h read start =
    let r = read start in
    let a = next insert_word ((Word, relvar) ∷ body h.tuples) r.0 (r.2 ∙ h.spelled) in
    let b = next (Word, relvar) (body h.tuples) a.left a.others in
    let l = literal-found types heading shape vs others rows h.tuples (semicolon ∷ []) b.left makes named so h.written b.others in
    insertion-brings types start bytes relvar heading rows r.0 ((Word, relvar) ∷ body h.tuples) (body h.tuples) r.1 name a b l (next semicolon [] l.left l.others)
statement-found types Sets Setting relvar heading shape vs others rows bytes ls makes named listed name way so h read start =
    let r = read start in
    let b = next (Word, relvar) (assign_symbol ∷ body h.tuples) r.0 (r.2 ∙ h.spelled) in
    let a = next assign_symbol (body h.tuples) b.left b.others in
    let l = literal-found types heading shape vs others rows h.tuples (semicolon ∷ []) a.left makes named so h.written a.others in
    setting-brings types start bytes relvar heading rows r.0 (assign_symbol ∷ body h.tuples) (body h.tuples) r.1 name b a l (next semicolon [] l.left l.others)
statement-found types (InsertsUnder names) (AddingUnder commalist) relvar heading shape vs others rows bytes ls makes named list_named name way so h read start =
    let r = read start in
    let behind : List Lexeme = insert_word ∷ (Word, relvar) ∷ body h.tuples in
    let e = r.2 ∙ (h.spelled ∙ append_assoc (using_list names) (insert_word ∷ (Word, relvar) ∷ []) (body h.tuples)) in
    let a = next using_word (open_bracket ∷ ((listed names ++ close_bracket ∷ colon ∷ []) ++ behind)) r.0 e in
    let n = names-found names behind a.left list_named a.others in
    let i = next insert_word ((Word, relvar) ∷ body h.tuples) n.left n.others in
    let b = next (Word, relvar) (body h.tuples) i.left i.others in
    let l = literal-found types heading shape vs others rows h.tuples (semicolon ∷ []) b.left makes named so h.written b.others in
    under-brings types start bytes names commalist relvar heading rows r.0 (open_bracket ∷ ((listed names ++ close_bracket ∷ colon ∷ []) ++ behind)) behind ((Word, relvar) ∷ body h.tuples) (body h.tuples) r.1 name way a n i b l
    (next semicolon [] l.left l.others)
statement-found types _ _ relvar heading shape vs others rows bytes ls makes named listed name way so h read start = absurd way
