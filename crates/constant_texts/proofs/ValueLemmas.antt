-- Values as they are printed.
--     value-found      the tokens of a value
use Rattle.std.proofs.Common.{◌≡◌, ℕ, ◌<◌, Bool, true, false, cond, ℤ, List, [], ◌∷◌, ◌++◌, map, length, get_or, Ok, Err, refl, sym, ◌∙◌, ap, subst, bytes_eq, append_assoc}
use Rattle.std.proofs.lemmas.Bool.{true≢false, and_parts}
use Rattle.std.specs.List.{IsDistinct}
use Rattle.std.specs.Prelude.{int_le}
use Rattle.point_core.specs.declared.any_type.AnyType.{AnyType}
use Rattle.point_core.specs.declared.any_type.AnyType.TheVariants as points
use Rattle.point_core.specs.Points.{Line, line_of, first_of, last_of, is_number, IsNumber}
use Rattle.interval_core.specs.declared.selector.Ends.TheVariants as ends
use Rattle.interval_core.specs.declared.selector.SelectFault.TheVariants.{Empty}
use Rattle.interval_core.specs.Members.{Span}
use Rattle.interval_core.specs.Selector.{selected}
use Rattle.utd_lexer.specs.declared.cutter.Mode.TheVariants.{Between}
use Rattle.utd_lexer.specs.declared.token.TokenKind.TheVariants.{Text}
use Rattle.value_core.specs.declared.kind.Kind.{Kind}
use Rattle.value_core.specs.declared.kind.Kind.TheVariants as kinds
use Rattle.value_core.specs.declared.list.OrdinalNames.{OrdinalNames}
use Rattle.value_core.specs.Values.{Value, truth, text, point, interval, same_line, is_interval, fits}
use Rattle.value_core.specs.Lengths.{is_text}
use Rattle.value_core.proofs.TextLemmas.{text-parts, text-short, utf8-valid}
use Rattle.value_core.proofs.FitLemmas.{same_line-same, is_number-number}
use Rattle.meaning_core.specs.Typing.{is_type, is_kind}
use Rattle.meaning_core.specs.WellMade.{sizes_of}
use Rattle.utd_print.specs.Dates.{day_text}
use Rattle.utd_print.specs.Moments.{second_text}
use Rattle.utd_print.specs.Tables.{interval_text}
use Rattle.dump_core.specs.Values.{point_script, value_script}
use Rattle.plain_rows.specs.Lexemes.{Lexeme, Begins}
use Rattle.plain_rows.specs.Written.{date_word, moment_word, colon, opening, closing, truth_word, IsPoint, IsInterval, IsConstant}
use Rattle.plain_rows.proofs.BeginLemmas.{begins-then}
use Rattle.constant_texts.specs.Sayable.{IsSayableType}
use Rattle.constant_texts.proofs.CalendarLemmas.{day-read, second-read}
use Rattle.constant_texts.proofs.DateTextLemmas.{day-begins, second-begins, day-no-equal, second-no-equal, day-quiet, second-quiet}
use Rattle.constant_texts.proofs.DottedLemmas.{MemberFound, member-found}
use Rattle.constant_texts.proofs.FrontLemmas.{IsRead, NoEqual, behind-colon, behind-bracket, symbol-begins, colon-begins, known-word}
use Rattle.constant_texts.proofs.NumberLemmas.{integer_lexemes, integer-written, integer-begins, integer-no-equal, integer-quiet}
use Rattle.constant_texts.proofs.QuietLemmas.{IsQuiet, stays-then, stays-nothing, plain-one, known-quiet, text-quiet}
use Rattle.constant_texts.proofs.QuotedLemmas.{text-begins}

-- ---- points

-- the text of a point
pub record PointFound (types : List OrdinalNames) (t : AnyType) (n : ℤ) : Type 0 where
  pub lexemes : List Lexeme
  pub written : IsPoint types t n lexemes
  pub begins : IsRead (point_script types (line_of t) n) lexemes
  pub no_equal : (rest : List ℕ) → NoEqual (point_script types (line_of t) n ++ rest)
  pub quiet : IsQuiet (point_script types (line_of t) n)

module _ (types : List OrdinalNames) (different : IsDistinct bytes_eq (map (λ (o : OrdinalNames). o.name) types))
    (all : (k : ℕ) (d : OrdinalNames) → k < length types → IsSayableType (get_or types k d)) where
  of-member : (of last : ℕ) (n : ℤ) → MemberFound types of last n → PointFound types (points.Ordinal of last) n
  of-member of last n m = record { lexemes = m.lexemes; written = m.written; begins = m.begins; no_equal = m.no_equal; quiet = m.quiet }

  pub point-found : (t : AnyType) (n : ℤ) → is_type (sizes_of types) t ≡ true → IsNumber t n → PointFound types t n
  point-found points.Integer n declared h = record {
    lexemes = integer_lexemes n;
    written = integer-written n h;
    begins = integer-begins n h;
    no_equal = λ rest. integer-no-equal n rest h.1;
    quiet = integer-quiet n h;
  }
  point-found points.Date n declared h = record {
    lexemes = date_word ∷ (Text, day_text n) ∷ [];
    written = (day_text n, refl, day-read n h);
    begins = day-begins n h;
    no_equal = day-no-equal n;
    quiet = day-quiet n h;
  }
  point-found points.Moment n declared h = record {
    lexemes = moment_word ∷ (Text, second_text n) ∷ [];
    written = (second_text n, refl, second-read n h);
    begins = second-begins n h;
    no_equal = second-no-equal n;
    quiet = second-quiet n h;
  }
  point-found (points.Ordinal of last) n declared h = of-member of last n (member-found types of last n different all declared h.0 h.1)

  -- ---- intervals

  selects : (t : AnyType) (i : Span) → int_le i.0 i.1 ≡ true → selected (first_of t) (last_of t) ends.Closed i.0 i.1 ≡ Ok i
  selects t i h = ap (λ b. cond b (Ok i) (Err Empty)) h

  -- brackets around two points with a colon between them
  pub span-begins : (a b : List ℕ) (f g : List Lexeme) → IsRead a f → IsRead b g → ((rest : List ℕ) → NoEqual (b ++ rest))
      → IsRead (interval_text a b) ((opening true ∷ []) ++ (f ++ ((colon ∷ []) ++ (g ++ closing true ∷ []))))
  span-begins a b f g h k none rest behind =
      let inner : List ℕ = 58 ∷ (b ++ 93 ∷ rest) in
      let split : interval_text a b ++ rest ≡ 91 ∷ (a ++ inner) = ap (λ z. 91 ∷ z) (append_assoc (a ++ 58 ∷ b) (93 ∷ []) rest ∙ append_assoc a (58 ∷ b) (93 ∷ rest)) in
      let last = begins-then (b ++ 93 ∷ rest) (93 ∷ rest) rest g (closing true ∷ []) (k (93 ∷ rest) (behind-bracket rest)) (symbol-begins 93 rest refl) in
      let middle = begins-then inner (b ++ 93 ∷ rest) rest (colon ∷ []) (g ++ closing true ∷ []) (colon-begins (b ++ 93 ∷ rest) (none (93 ∷ rest))) last in
      let points = begins-then (a ++ inner) inner rest f ((colon ∷ []) ++ (g ++ closing true ∷ [])) (h inner (behind-colon (b ++ 93 ∷ rest))) middle in
      subst (λ z. Begins z ((opening true ∷ []) ++ (f ++ ((colon ∷ []) ++ (g ++ closing true ∷ [])))) rest) (sym split)
      (begins-then (91 ∷ (a ++ inner)) (a ++ inner) rest (opening true ∷ []) (f ++ ((colon ∷ []) ++ (g ++ closing true ∷ []))) (symbol-begins 91 (a ++ inner) refl) points)

  span-quiet : (a b : List ℕ) → IsQuiet a → IsQuiet b → IsQuiet (interval_text a b)
  span-quiet a b h k = plain-one 91 _ refl (stays-then Between (a ++ 58 ∷ b) (93 ∷ []) (stays-then Between a (58 ∷ b) h (plain-one 58 b refl k)) (plain-one 93 [] refl (stays-nothing Between)))

  is-span : (t : AnyType) (i : Span) (f : PointFound types t i.0) (g : PointFound types t i.1) → int_le i.0 i.1 ≡ true
      → IsInterval types t i ((opening true ∷ []) ++ (f.lexemes ++ ((colon ∷ []) ++ (g.lexemes ++ closing true ∷ []))))
  is-span t i f g h = record {
    begin = true;
    end = true;
    from = i.0;
    to = i.1;
    first = f.lexemes;
    second = g.lexemes;
    spelled = refl;
    begins_at = f.written;
    ends_at = g.written;
    selects = selects t i h;
  }

  -- ---- values

  -- the text of a value
  pub record ValueFound (k : Kind) (v : Value) : Type 0 where
    pub lexemes : List Lexeme
    pub written : IsConstant types k v lexemes
    pub begins : IsRead (value_script types v) lexemes
    pub quiet : IsQuiet (value_script types v)

  truth-found : (b : Bool) → ValueFound kinds.Truth (truth b)
  truth-found true = record { lexemes = truth_word true ∷ []; written = refl; begins = known-word (84 ∷ 82 ∷ 85 ∷ 69 ∷ []) refl; quiet = known-quiet (84 ∷ 82 ∷ 85 ∷ 69 ∷ []) refl }
  truth-found false = record { lexemes = truth_word false ∷ []; written = refl; begins = known-word (70 ∷ 65 ∷ 76 ∷ 83 ∷ 69 ∷ []) refl; quiet = known-quiet (70 ∷ 65 ∷ 76 ∷ 83 ∷ 69 ∷ []) refl }

  text-found : (bytes : List ℕ) → is_text bytes ≡ true → ValueFound kinds.Char (text bytes)
  text-found bytes h =
      let parts = text-parts bytes h in
      let utf8 = utf8-valid bytes parts.utf8 in
      record { lexemes = (Text, bytes) ∷ []; written = (refl, utf8, text-short bytes h, parts.printed); begins = text-begins bytes utf8; quiet = text-quiet bytes }

  of-point : (t : AnyType) (l : Line) (n : ℤ) → l ≡ line_of t → PointFound types t n → ValueFound (kinds.Point t) (point l n)
  of-point t l n is f = record {
    lexemes = f.lexemes;
    written = (is, f.written);
    begins = subst (λ z. IsRead (point_script types z n) f.lexemes) (sym is) f.begins;
    quiet = subst (λ z. IsQuiet (point_script types z n)) (sym is) f.quiet;
  }

  of-span : (t : AnyType) (l : Line) (i : Span) → l ≡ line_of t → int_le i.0 i.1 ≡ true → PointFound types t i.0 → PointFound types t i.1 → ValueFound (kinds.Span t) (interval l i)
  of-span t l i is order f g = record {
    lexemes = (opening true ∷ []) ++ (f.lexemes ++ ((colon ∷ []) ++ (g.lexemes ++ closing true ∷ [])));
    written = (is, is-span t i f g order);
    begins = subst (λ z. IsRead (interval_text (point_script types z i.0) (point_script types z i.1)) ((opening true ∷ []) ++ (f.lexemes ++ ((colon ∷ []) ++ (g.lexemes ++ closing true ∷ [])))))
        (sym is)
        (span-begins (point_script types (line_of t) i.0) (point_script types (line_of t) i.1) f.lexemes g.lexemes f.begins g.begins g.no_equal);
    quiet = subst (λ z. IsQuiet (interval_text (point_script types z i.0) (point_script types z i.1))) (sym is)
        (span-quiet (point_script types (line_of t) i.0) (point_script types (line_of t) i.1) f.quiet g.quiet);
  }

  pub value-found : (k : Kind) (v : Value) → is_kind (sizes_of types) k ≡ true → fits k v ≡ true → ValueFound k v
  value-found kinds.Truth (truth b) declared h = truth-found b
  value-found kinds.Char (text bytes) declared h = text-found bytes h
  value-found (kinds.Point t) (point l n) declared h =
      let parts = and_parts (same_line l (line_of t)) (is_number t n) h in
      of-point t l n (same_line-same l (line_of t) parts.0) (point-found t n declared (is_number-number t n parts.1))
  value-found (kinds.Span t) (interval l i) declared h =
      let parts = and_parts (same_line l (line_of t)) (is_interval t i) h in
      let points = and_parts (is_number t i.0) _ parts.1 in
      let rest = and_parts (is_number t i.1) (int_le i.0 i.1) points.1 in
      of-span t l i (same_line-same l (line_of t) parts.0) rest.1 (point-found t i.0 declared (is_number-number t i.0 points.0)) (point-found t i.1 declared (is_number-number t i.1 rest.0))
  value-found _ _ declared h = absurd (true≢false (sym h))
