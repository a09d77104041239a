-- Tuples and statements as they are printed.
--     TuplesFound, tuples-found      the tokens of tuples
--     statement-lexemes      the tokens of a whole statement
--     statement-one      it is one statement
use Rattle.std.proofs.Common.{◌≡◌, ℕ, ◌<◌, true, List, [], ◌∷◌, ◌++◌, map, length, get_or, refl, sym, ◌∙◌, ap, subst, bytes_eq, append_assoc}
use Rattle.std.proofs.lemmas.Bool.{true≢false, and_parts}
use Rattle.std.proofs.lemmas.List.{append-nil}
use Rattle.std.proofs.lemmas.Str.{IsUtf8-nil, chars-nil}
use Rattle.std.specs.List.{flat_map, list_all, IsDistinct, AllByRecursion}
use Rattle.utd_lexer.specs.declared.cutter.Mode.TheVariants.{Between}
use Rattle.utd_lexer.specs.declared.token.TokenKind.TheVariants.{Word}
use Rattle.utd_lexer.specs.Tokens.{Lexed, done}
use Rattle.value_core.specs.declared.kind.Kind.{Kind}
use Rattle.value_core.specs.declared.list.OrdinalNames.{OrdinalNames}
use Rattle.value_core.specs.Values.{Name, Value, Row, Heading, fits, fits_heading}
use Rattle.meaning_core.specs.Typing.{is_kind}
use Rattle.meaning_core.specs.WellMade.{sizes_of}
use Rattle.dump_core.specs.Inserts.{listed, attribute_scripts, tuple_script, insert_script}
use Rattle.dump_core.specs.Inserts as inserts
use Rattle.dump_core.specs.Values.{value_script}
use Rattle.text_laws.specs.Statements.{IsOneStatement}
use Rattle.plain_rows.specs.Lexemes.{Lexeme, AreLexemes, Begins}
use Rattle.plain_rows.specs.Tuples.{comma, open_brace, close_brace, semicolon, tuple_word, relation_word, insert_word, followed, separated, body, AreElements, IsTuple, AreTuples}
use Rattle.plain_rows.proofs.BeginLemmas.{begins-nothing, begins-then}
use Rattle.constant_texts.specs.Sayable.{IsSayableType, FitsRow}
use Rattle.constant_texts.proofs.FrontLemmas.{IsBehind, IsRead, behind-comma, behind-brace, behind-space, symbol-begins, space-begins, known-word}
use Rattle.constant_texts.proofs.NameLemmas.{IsWordName, name-begins}
use Rattle.constant_texts.proofs.QuietLemmas.{IsQuiet, AllQuiet, stays-then, plain-one, known-quiet, name-quiet, listed-quiet, quiet-one}
use Rattle.constant_texts.proofs.ValueLemmas.{ValueFound, value-found}

-- ---- lists

abbrev pub AllRead : List (List ℕ) → List (List Lexeme) → Type 0
AllRead [] [] = Unit {0}
AllRead (t ∷ ts) (p ∷ ps) = IsRead t p × AllRead ts ps
AllRead _ _ = ⊥

behind-more : (ts : List (List ℕ)) (rest : List ℕ) → IsBehind rest → IsBehind (flat_map inserts.behind_comma ts ++ rest)
behind-more [] rest b = b
behind-more (t ∷ ts) rest b = behind-comma _

-- one behind another
then-read : (t more rest : List ℕ) (p q : List Lexeme) → IsRead t p → IsBehind (more ++ rest) → Begins (more ++ rest) q rest → Begins ((t ++ more) ++ rest) (p ++ q) rest
then-read t more rest p q h b k = subst (λ z. Begins z (p ++ q) rest) (sym (append_assoc t more rest)) (begins-then (t ++ (more ++ rest)) (more ++ rest) rest p q (h (more ++ rest) b) k)

-- behind a comma and a space
comma-read : (bytes rest : List ℕ) (ls : List Lexeme) → Begins bytes ls rest → Begins (44 ∷ 32 ∷ bytes) (comma ∷ ls) rest
comma-read bytes rest ls h = begins-then (44 ∷ 32 ∷ bytes) (32 ∷ bytes) rest (comma ∷ []) ls (symbol-begins 44 (32 ∷ bytes) refl) (begins-then (32 ∷ bytes) bytes rest [] ls (space-begins bytes) h)

followed-read : (ts : List (List ℕ)) (ps : List (List Lexeme)) → AllRead ts ps → IsRead (flat_map inserts.behind_comma ts) (followed ps)
followed-read [] [] h rest b = begins-nothing rest
followed-read (t ∷ ts) (p ∷ ps) h rest b =
    let more : List ℕ = flat_map inserts.behind_comma ts in
    comma-read ((t ++ more) ++ rest) rest (p ++ followed ps) (then-read t more rest p (followed ps) h.0 (behind-more ts rest b) (followed-read ts ps h.1 rest b))
followed-read _ _ h rest b = absurd h

pub separated-read : (ts : List (List ℕ)) (ps : List (List Lexeme)) → AllRead ts ps → IsRead (listed ts) (separated ps)
separated-read [] [] h rest b = begins-nothing rest
separated-read (t ∷ ts) (p ∷ ps) h rest b = then-read t (flat_map inserts.behind_comma ts) rest p (followed ps) h.0 (behind-more ts rest b) (followed-read ts ps h.1 rest b)
separated-read _ _ h rest b = absurd h

-- ---- elements

-- a name, a space and a value
element-read : (name value : List ℕ) (ls : List Lexeme) → IsWordName name → IsRead value ls → IsRead (name ++ 32 ∷ value) ((Word, name) ∷ ls)
element-read name value ls h k rest b =
    then-read name (32 ∷ value) rest ((Word, name) ∷ []) ls (name-begins name h) (behind-space (value ++ rest))
    (begins-then (32 ∷ (value ++ rest)) (value ++ rest) rest [] ls (space-begins (value ++ rest)) (k rest b))

abbrev pub AreWordNames : Heading → Type 0
AreWordNames [] = Unit {0}
AreWordNames (a ∷ heading) = IsWordName a.0 × AreWordNames heading

pub record ElementsFound (types : List OrdinalNames) (heading : Heading) (row : Row) : Type 0 where
  pub parts : List (List Lexeme)
  pub written : AreElements types heading row parts
  pub read : AllRead (attribute_scripts types heading row) parts
  pub quiet : AllQuiet (attribute_scripts types heading row)

pub record TupleFound (types : List OrdinalNames) (heading : Heading) (row : Row) : Type 0 where
  pub lexemes : List Lexeme
  pub written : IsTuple types heading row lexemes
  pub read : IsRead (tuple_script types heading row) lexemes
  pub quiet : IsQuiet (tuple_script types heading row)

pub record TuplesFound (types : List OrdinalNames) (heading : Heading) (rows : List Row) : Type 0 where
  pub parts : List (List Lexeme)
  pub written : AreTuples types heading rows parts
  pub read : AllRead (map (tuple_script types heading) rows) parts
  pub quiet : AllQuiet (map (tuple_script types heading) rows)

-- TUPLE and braces around elements
braces-read : (inner : List ℕ) (ls : List Lexeme) → IsRead inner ls → IsRead (84 ∷ 85 ∷ 80 ∷ 76 ∷ 69 ∷ 32 ∷ 123 ∷ (inner ++ 125 ∷ [])) (tuple_word ∷ open_brace ∷ (ls ++ close_brace ∷ []))
braces-read inner ls h rest b =
    let t : List ℕ = (inner ++ 125 ∷ []) ++ rest in
    let last = then-read inner (125 ∷ []) rest ls (close_brace ∷ []) h (behind-brace rest) (symbol-begins 125 rest refl) in
    let braced = begins-then (123 ∷ t) t rest (open_brace ∷ []) (ls ++ close_brace ∷ []) (symbol-begins 123 t refl) last in
    begins-then (84 ∷ 85 ∷ 80 ∷ 76 ∷ 69 ∷ 32 ∷ 123 ∷ t) (32 ∷ 123 ∷ t) rest (tuple_word ∷ []) (open_brace ∷ (ls ++ close_brace ∷ []))
    (known-word (84 ∷ 85 ∷ 80 ∷ 76 ∷ 69 ∷ []) refl (32 ∷ 123 ∷ t) (behind-space (123 ∷ t)))
    (begins-then (32 ∷ 123 ∷ t) (123 ∷ t) rest [] (open_brace ∷ (ls ++ close_brace ∷ [])) (space-begins (123 ∷ t)) braced)

braces-quiet : (inner : List ℕ) → IsQuiet inner → IsQuiet (84 ∷ 85 ∷ 80 ∷ 76 ∷ 69 ∷ 32 ∷ 123 ∷ (inner ++ 125 ∷ []))
braces-quiet inner h = stays-then Between (84 ∷ 85 ∷ 80 ∷ 76 ∷ 69 ∷ 32 ∷ 123 ∷ []) (inner ++ 125 ∷ []) (known-quiet (84 ∷ 85 ∷ 80 ∷ 76 ∷ 69 ∷ 32 ∷ 123 ∷ []) refl)
    (stays-then Between inner (125 ∷ []) h (known-quiet (125 ∷ []) refl))

module _ (types : List OrdinalNames) (different : IsDistinct bytes_eq (map (λ (o : OrdinalNames). o.name) types))
    (all : (k : ℕ) (d : OrdinalNames) → k < length types → IsSayableType (get_or types k d)) where
  one-more : (a : Name × Kind) (v : Value) (heading : Heading) (row : Row) → IsWordName a.0 → ValueFound types different all a.1 v → ElementsFound types heading row
      → ElementsFound types (a ∷ heading) (v ∷ row)
  one-more a v heading row name f more = record {
    parts = ((Word, a.0) ∷ f.lexemes) ∷ more.parts;
    written = ((f.lexemes, refl, f.written), more.written);
    read = (element-read a.0 (value_script types v) f.lexemes name f.begins, more.read);
    quiet = (stays-then Between a.0 (32 ∷ value_script types v) (name-quiet a.0 name) (plain-one 32 (value_script types v) refl f.quiet), more.quiet);
  }

  elements-found : (heading : Heading) (row : Row) → AreWordNames heading → list_all (λ (a : Name × Kind). is_kind (sizes_of types) a.1) heading ≡ true
      → fits_heading heading row ≡ true → ElementsFound types heading row
  elements-found [] [] names declared h = record { parts = []; written = tt; read = tt; quiet = tt }
  elements-found (a ∷ heading) (v ∷ row) names declared h =
      let kinds = and_parts (is_kind (sizes_of types) a.1) _ declared in
      let both = and_parts (fits a.1 v) (fits_heading heading row) h in
      one-more a v heading row names.0 (value-found types different all a.1 v kinds.0 both.0) (elements-found heading row names.1 kinds.1 both.1)
  elements-found _ _ names declared h = absurd (true≢false (sym h))

  tuple-of : (heading : Heading) (row : Row) → ElementsFound types heading row → TupleFound types heading row
  tuple-of heading row e = record {
    lexemes = tuple_word ∷ open_brace ∷ (separated e.parts ++ close_brace ∷ []);
    written = record { elements = e.parts; spelled = refl; written = e.written };
    read = braces-read (listed (attribute_scripts types heading row)) (separated e.parts) (separated-read (attribute_scripts types heading row) e.parts e.read);
    quiet = braces-quiet (listed (attribute_scripts types heading row)) (listed-quiet (attribute_scripts types heading row) e.quiet);
  }

  next-tuple : (heading : Heading) (row : Row) (rows : List Row) → TupleFound types heading row → TuplesFound types heading rows → TuplesFound types heading (row ∷ rows)
  next-tuple heading row rows t more = record { parts = t.lexemes ∷ more.parts; written = (t.written, more.written); read = (t.read, more.read); quiet = (t.quiet, more.quiet) }

  pub tuples-found : (heading : Heading) (rows : List Row) → AreWordNames heading → list_all (λ (a : Name × Kind). is_kind (sizes_of types) a.1) heading ≡ true
      → AllByRecursion (FitsRow heading) rows → TuplesFound types heading rows
  tuples-found heading [] names declared h = record { parts = []; written = tt; read = tt; quiet = tt }
  tuples-found heading (row ∷ rows) names declared h = next-tuple heading row rows (tuple-of heading row (elements-found heading row names declared h.0))
      (tuples-found heading rows names declared h.1)

-- ---- statements

nothing-left : AreLexemes [] []
nothing-left p = ([], (IsUtf8-nil, subst (λ z. Lexed p z []) (sym chars-nil) (done p)), refl)

all-read : (bytes : List ℕ) (ls : List Lexeme) → Begins bytes ls [] → AreLexemes bytes ls
all-read bytes ls h = subst (AreLexemes bytes) (append-nil ls) (h.goes_on [] nothing-left)

-- RELATION, tuples in braces, and the end
body-read : (inner : List ℕ) (ls : List Lexeme) → IsRead inner ls
    → Begins (32 ∷ 82 ∷ 69 ∷ 76 ∷ 65 ∷ 84 ∷ 73 ∷ 79 ∷ 78 ∷ 32 ∷ 123 ∷ (inner ++ (125 ∷ 59 ∷ []))) (relation_word ∷ open_brace ∷ (ls ++ close_brace ∷ semicolon ∷ [])) []
body-read inner ls h =
    let ends : List ℕ = 125 ∷ 59 ∷ [] in
    let t : List ℕ = inner ++ ends in
    let out : List Lexeme = ls ++ close_brace ∷ semicolon ∷ [] in
    let last = begins-then t ends [] ls (close_brace ∷ semicolon ∷ []) (h ends (behind-brace (59 ∷ [])))
    (begins-then ends (59 ∷ []) [] (close_brace ∷ []) (semicolon ∷ []) (symbol-begins 125 (59 ∷ []) refl) (symbol-begins 59 [] refl)) in
    let braced = begins-then (123 ∷ t) t [] (open_brace ∷ []) out (symbol-begins 123 t refl) last in
    let word = begins-then (82 ∷ 69 ∷ 76 ∷ 65 ∷ 84 ∷ 73 ∷ 79 ∷ 78 ∷ 32 ∷ 123 ∷ t) (32 ∷ 123 ∷ t) [] (relation_word ∷ []) (open_brace ∷ out)
    (known-word (82 ∷ 69 ∷ 76 ∷ 65 ∷ 84 ∷ 73 ∷ 79 ∷ 78 ∷ []) refl (32 ∷ 123 ∷ t) (behind-space (123 ∷ t)))
    (begins-then (32 ∷ 123 ∷ t) (123 ∷ t) [] [] (open_brace ∷ out) (space-begins (123 ∷ t)) braced) in
    begins-then (32 ∷ 82 ∷ 69 ∷ 76 ∷ 65 ∷ 84 ∷ 73 ∷ 79 ∷ 78 ∷ 32 ∷ 123 ∷ t) (82 ∷ 69 ∷ 76 ∷ 65 ∷ 84 ∷ 73 ∷ 79 ∷ 78 ∷ 32 ∷ 123 ∷ t) [] [] (relation_word ∷ open_brace ∷ out)
    (space-begins (82 ∷ 69 ∷ 76 ∷ 65 ∷ 84 ∷ 73 ∷ 79 ∷ 78 ∷ 32 ∷ 123 ∷ t)) word

-- INSERT and a name before it
head-read : (name more : List ℕ) (ls : List Lexeme) → IsWordName name → IsBehind more → Begins more ls []
    → Begins (73 ∷ 78 ∷ 83 ∷ 69 ∷ 82 ∷ 84 ∷ 32 ∷ (name ++ more)) (insert_word ∷ (Word, name) ∷ ls) []
head-read name more ls h b k =
    let t : List ℕ = name ++ more in
    let named = begins-then t more [] ((Word, name) ∷ []) ls (name-begins name h more b) k in
    begins-then (73 ∷ 78 ∷ 83 ∷ 69 ∷ 82 ∷ 84 ∷ 32 ∷ t) (32 ∷ t) [] (insert_word ∷ []) ((Word, name) ∷ ls) (known-word (73 ∷ 78 ∷ 83 ∷ 69 ∷ 82 ∷ 84 ∷ []) refl (32 ∷ t) (behind-space t))
    (begins-then (32 ∷ t) t [] [] ((Word, name) ∷ ls) (space-begins t) named)

insert-split : (types : List OrdinalNames) (name : Name) (heading : Heading) (rows : List Row) (inner : List ℕ) → inner ≡ listed (map (tuple_script types heading) rows)
    → insert_script types name heading rows ≡ 73 ∷ 78 ∷ 83 ∷ 69 ∷ 82 ∷ 84 ∷ 32 ∷ (name ++ (32 ∷ 82 ∷ 69 ∷ 76 ∷ 65 ∷ 84 ∷ 73 ∷ 79 ∷ 78 ∷ 32 ∷ 123 ∷ (inner ++ (125 ∷ 59 ∷ []))))
insert-split types name heading rows inner e =
    let word : List ℕ = 32 ∷ 82 ∷ 69 ∷ 76 ∷ 65 ∷ 84 ∷ 73 ∷ 79 ∷ 78 ∷ 32 ∷ 123 ∷ [] in
    ap (λ z. 73 ∷ 78 ∷ 83 ∷ 69 ∷ 82 ∷ 84 ∷ 32 ∷ z) (ap (λ z. ((name ++ word) ++ z) ++ (125 ∷ 59 ∷ [])) (sym e)
    ∙ (append_assoc (name ++ word) inner (125 ∷ 59 ∷ []) ∙ append_assoc name word (inner ++ (125 ∷ 59 ∷ []))))

pub statement-lexemes : (types : List OrdinalNames) (name : Name) (heading : Heading) (rows : List Row) → IsWordName name → (t : TuplesFound types heading rows)
    → AreLexemes (insert_script types name heading rows) (insert_word ∷ (Word, name) ∷ body t.parts)
statement-lexemes types name heading rows h t =
    let inner = listed (map (tuple_script types heading) rows) in
    let read = separated-read (map (tuple_script types heading) rows) t.parts t.read in
    all-read (insert_script types name heading rows) (insert_word ∷ (Word, name) ∷ body t.parts)
    (subst (λ z. Begins z (insert_word ∷ (Word, name) ∷ body t.parts) []) (sym (insert-split types name heading rows inner refl))
    (head-read name (32 ∷ 82 ∷ 69 ∷ 76 ∷ 65 ∷ 84 ∷ 73 ∷ 79 ∷ 78 ∷ 32 ∷ 123 ∷ (inner ++ (125 ∷ 59 ∷ []))) (body t.parts) h (behind-space _) (body-read inner (separated t.parts) read)))

-- all but the last byte
front_of : Name → List ℕ → List ℕ
front_of name inner = 73 ∷ 78 ∷ 83 ∷ 69 ∷ 82 ∷ 84 ∷ 32 ∷ (name ++ (32 ∷ 82 ∷ 69 ∷ 76 ∷ 65 ∷ 84 ∷ 73 ∷ 79 ∷ 78 ∷ 32 ∷ 123 ∷ (inner ++ 125 ∷ [])))

front-quiet : (name : Name) (inner : List ℕ) → IsWordName name → IsQuiet inner → IsQuiet (front_of name inner)
unfolding front_of
front-quiet name inner h k =
    let word : List ℕ = 32 ∷ 82 ∷ 69 ∷ 76 ∷ 65 ∷ 84 ∷ 73 ∷ 79 ∷ 78 ∷ 32 ∷ 123 ∷ [] in
    let tuples = stays-then Between word (inner ++ 125 ∷ []) (known-quiet word refl) (stays-then Between inner (125 ∷ []) k (known-quiet (125 ∷ []) refl)) in
    stays-then Between (73 ∷ 78 ∷ 83 ∷ 69 ∷ 82 ∷ 84 ∷ 32 ∷ []) (name ++ (word ++ (inner ++ 125 ∷ []))) (known-quiet (73 ∷ 78 ∷ 83 ∷ 69 ∷ 82 ∷ 84 ∷ 32 ∷ []) refl)
    (stays-then Between name (word ++ (inner ++ 125 ∷ [])) (name-quiet name h) tuples)

front-all : (name : Name) (inner : List ℕ)
    → 73 ∷ 78 ∷ 83 ∷ 69 ∷ 82 ∷ 84 ∷ 32 ∷ (name ++ (32 ∷ 82 ∷ 69 ∷ 76 ∷ 65 ∷ 84 ∷ 73 ∷ 79 ∷ 78 ∷ 32 ∷ 123 ∷ (inner ++ (125 ∷ 59 ∷ [])))) ≡ front_of name inner ++ 59 ∷ []
unfolding front_of
front-all name inner =
    let word : List ℕ = 32 ∷ 82 ∷ 69 ∷ 76 ∷ 65 ∷ 84 ∷ 73 ∷ 79 ∷ 78 ∷ 32 ∷ 123 ∷ [] in
    ap (λ z. 73 ∷ 78 ∷ 83 ∷ 69 ∷ 82 ∷ 84 ∷ 32 ∷ z)
    (ap (λ z. name ++ (word ++ z)) (sym (append_assoc inner (125 ∷ []) (59 ∷ []))) ∙ sym (append_assoc name (word ++ (inner ++ 125 ∷ [])) (59 ∷ [])))

pub statement-one : (types : List OrdinalNames) (name : Name) (heading : Heading) (rows : List Row) → IsWordName name → TuplesFound types heading rows
    → IsOneStatement (insert_script types name heading rows)
statement-one types name heading rows h t =
    let inner = listed (map (tuple_script types heading) rows) in
    quiet-one (front_of name inner) (insert_script types name heading rows) (insert-split types name heading rows inner refl ∙ front-all name inner)
    (front-quiet name inner h (listed-quiet (map (tuple_script types heading) rows) t.quiet))
