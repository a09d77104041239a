-- The tokens of a statement that inserts constants, or sets a relvar to them, are a whole text.
--     tuple-whole      those of a tuple, behind the brace of a literal
--     literal-whole      those of a literal, where its levels may open
--     list-whole      those of the names of a USING
--     insertion-whole, insertion-under-whole, setting-whole      those of the statements
use Rattle.std.proofs.Common.{◌≡◌, inl, inr, ℕ, Bool, true, false, List, [], ◌∷◌, ◌++◌, refl, ap, ◌∙◌, subst, append_assoc}
use Rattle.std.specs.Prelude.{nat_le, if◌then◌else◌}
use Rattle.std.proofs.lemmas.List.{append-nil}
use Rattle.point_core.specs.declared.fault.Place.{Place}
use Rattle.utd_syntax.specs.declared.terminal.Terminal.{Terminal}
use Rattle.utd_syntax.specs.declared.terminal.Terminal.TheVariants as t
use Rattle.utd_syntax.specs.Pieces.{Piece, first}
use Rattle.utd_syntax.specs.Plain as syntax
use Rattle.utd_syntax.specs.Plain.{Word, ScalarP, PointP, KindP, AttributeP, HeadingP, NameListP, ElementP, TupleP, LiteralP}
use Rattle.utd_syntax.specs.Table.{Symbol, Load, Takes, AfterLog, same_bytes, Plain, Separator, Opens, Shut, Just, TheName, TheScalar, ThePoint, TheKind, InPoint, TheAttribute, MoreAttributes, InHeading, MoreNames, InList, TheList, TheElement, MoreElements, InElements, TheElements, TheTuple, MoreTuples, InTuples, TheTuples, AfterRelation, MorePostfix, MoreInfix, TheRel, TheUsedItem, MoreItems, TheStatement}
use Rattle.utd_syntax.specs.Verdict.{Whole, Over, Reaches, at_form, verdict, reach, opened, at_start}
use Rattle.utd_syntax.specs.Written.{Mark, log_word, fixed, at, spelled, Spells, token, word_of, of_scalar, of_point, of_kind, of_more_attributes, of_attributes, of_heading, of_more_words, of_words, of_list, of_more_elements, of_element_list, of_elements, of_tuple, of_more_tuples, of_tuple_list, of_tuples, of_literal, of_statement}
use Rattle.utd_syntax.proofs.Marks.{One, one, done, two, begins as begins_with}
use Rattle.utd_ranges.specs.Limits.{limits, is_out_of_range, verdict_on}
use Rattle.utd_ranges.specs.Ranges.{Each, NameIn, NameListIn, PointIn, KindIn, AttributeIn, ScalarIn, ElementIn, TupleIn, LiteralIn, HasLiteralsInRange}
use Rattle.value_core.specs.declared.kind.Kind.{Kind}
use Rattle.value_core.specs.declared.list.OrdinalNames.{OrdinalNames}
use Rattle.value_core.specs.Limits.{most_levels}
use Rattle.value_core.specs.Values.{Value, Row, Heading}
use Rattle.constant_laws.specs.Constants.{Writes}
use Rattle.constant_laws.specs.Insertions.{Shape, WritesElements, WritesTuple, WritesTuples, WritesLiteral, insertion, insertion_under, setting}
use Rattle.constant_laws.proofs.TokenSteps.{stepped, shut, IsCloser}
use Rattle.constant_laws.proofs.WholeScalars.{Pass, scalar-whole}

-- the levels of a literal may open
pub record HasRoom (out : Load) : Type 0 where
  pub outer : nat_le most_levels out.levels ≡ false
  pub inner : nat_le most_levels (opened out).levels ≡ false
  pub innermost : nat_le most_levels (opened (opened out)).levels ≡ false

-- a literal that stands where this is open
module _ (out : Load) (room : HasRoom out) where
  -- the loads inside a literal, and inside a tuple of it
  abbrev in_literal : Load
  in_literal = opened out

  abbrev in_tuple : Load
  in_tuple = opened in_literal

  -- ---- elements

  -- behind an element another one, or the end of the tuple
  more-close : (list : List ElementP) (ts rest : List Piece) → Spells (of_more_elements list ++ token t.CloseBrace) ts rest → IsCloser (first ts)
  more-close [] ts rest h = begins_with IsCloser (token t.CloseBrace) ts rest (inr (inl refl)) h
  more-close (syntax.Element w s ∷ list) ts rest h = begins_with IsCloser (of_more_elements (syntax.Element w s ∷ list) ++ token t.CloseBrace) ts rest (inl refl) h

  -- a scalar, and then the other elements
  element-whole : (types : List OrdinalNames) (kind : Kind) (v : Value) (s : ScalarP) (list : List ElementP) (stack : List Symbol) (ts rest : List Piece) → Writes types kind v s → ScalarIn is_out_of_range s
      → ((mid : List Piece) → Spells (of_more_elements list ++ token t.CloseBrace) mid rest → verdict limits mid (MoreElements ∷ Just t.CloseBrace ∷ stack) in_tuple ≡ verdict limits rest stack in_tuple)
      → Spells (of_scalar s ++ of_more_elements list ++ token t.CloseBrace) ts rest → verdict limits ts (TheScalar ∷ MoreElements ∷ Just t.CloseBrace ∷ stack) in_tuple ≡ verdict limits rest stack in_tuple
  element-whole types kind v s list stack ts rest w i goes_on h =
      let parts = two (of_scalar s) (of_more_elements list ++ token t.CloseBrace) ts rest (subst (λ (l : List Mark). Spells l ts rest) (append_assoc (of_scalar s) (of_more_elements list) (token t.CloseBrace)) h) in
      scalar-whole types kind v s in_tuple ts parts.mid w room.innermost i parts.before (more-close list parts.mid rest parts.after) (MoreElements ∷ Just t.CloseBrace ∷ stack)
      ∙ goes_on parts.mid parts.after

  more-elements-whole : (types : List OrdinalNames) (shape : Shape) (vs : List Value) (list : List ElementP) (stack : List Symbol) (ts rest : List Piece) → WritesElements types shape vs list → Each (ElementIn is_out_of_range) list
      → Spells (of_more_elements list ++ token t.CloseBrace) ts rest → verdict limits ts (MoreElements ∷ Just t.CloseBrace ∷ stack) in_tuple ≡ verdict limits rest stack in_tuple
  unfolding reach
  more-elements-whole types [] [] [] stack ts rest w i h =
      let z = one (fixed t.CloseBrace) [] ts rest h in
      stepped Plain stack (MoreElements ∷ Just t.CloseBrace ∷ stack) in_tuple in_tuple (fixed t.CloseBrace) [] ts rest z refl refl refl ∙ ap (λ (l : List Piece). verdict limits l stack in_tuple) (done z.left rest z.spells)
  more-elements-whole types (a ∷ shape) (v ∷ vs) (syntax.Element n s ∷ list) stack ts rest w i h =
      let c = one (fixed t.Comma) (word_of n ++ of_scalar s ++ of_more_elements list ++ token t.CloseBrace) ts rest h in
      let x = one (spelled t.Name n.place n.bytes) (of_scalar s ++ of_more_elements list ++ token t.CloseBrace) c.left rest c.spells in
      stepped Separator (TheElement ∷ MoreElements ∷ Just t.CloseBrace ∷ stack) (MoreElements ∷ Just t.CloseBrace ∷ stack) in_tuple in_tuple (fixed t.Comma) (word_of n ++ of_scalar s ++ of_more_elements list ++ token t.CloseBrace) ts rest c refl refl refl
      ∙ (stepped Plain (TheScalar ∷ MoreElements ∷ Just t.CloseBrace ∷ stack) (TheElement ∷ MoreElements ∷ Just t.CloseBrace ∷ stack) in_tuple in_tuple (spelled t.Name n.place n.bytes) (of_scalar s ++ of_more_elements list ++ token t.CloseBrace) c.left rest x refl refl i.0.0
      ∙ element-whole types a.1 v s list stack x.left rest w.0.1 i.0.1 (λ mid g. more-elements-whole types shape vs list stack mid rest w.1 i.1 g) x.spells)
  more-elements-whole types _ _ _ stack ts rest w i h = absurd w

  elements-whole : (types : List OrdinalNames) (shape : Shape) (vs : List Value) (list : List ElementP) (stack : List Symbol) (ts rest : List Piece) → WritesElements types shape vs list → Each (ElementIn is_out_of_range) list
      → Spells (of_element_list list ++ token t.CloseBrace) ts rest → verdict limits ts (InElements ∷ stack) in_tuple ≡ verdict limits rest stack in_tuple
  unfolding reach
  elements-whole types [] [] [] stack ts rest w i h =
      let z = one (fixed t.CloseBrace) [] ts rest h in
      stepped Plain stack (InElements ∷ stack) in_tuple in_tuple (fixed t.CloseBrace) [] ts rest z refl refl refl ∙ ap (λ (l : List Piece). verdict limits l stack in_tuple) (done z.left rest z.spells)
  elements-whole types (a ∷ shape) (v ∷ vs) (syntax.Element n s ∷ list) stack ts rest w i h =
      let x = one (spelled t.Name n.place n.bytes) (of_scalar s ++ of_more_elements list ++ token t.CloseBrace) ts rest h in
      stepped Plain (TheScalar ∷ MoreElements ∷ Just t.CloseBrace ∷ stack) (InElements ∷ stack) in_tuple in_tuple (spelled t.Name n.place n.bytes) (of_scalar s ++ of_more_elements list ++ token t.CloseBrace) ts rest x refl refl i.0.0
      ∙ element-whole types a.1 v s list stack x.left rest w.0.1 i.0.1 (λ mid g. more-elements-whole types shape vs list stack mid rest w.1 i.1 g) x.spells
  elements-whole types _ _ _ stack ts rest w i h = absurd w

  -- ---- tuples

  -- behind TUPLE
  in-tuple-whole : (types : List OrdinalNames) (shape : Shape) (vs : List Value) (p : Place) (list : List ElementP) (stack : List Symbol) (ts rest : List Piece) → WritesElements types shape vs list → Each (ElementIn is_out_of_range) list
      → Spells (of_elements (syntax.Elements p list)) ts rest → verdict limits ts (TheElements ∷ stack) in_literal ≡ verdict limits rest stack in_literal
  unfolding reach
  in-tuple-whole types shape vs p list stack ts rest w i h =
      let b = one (at t.OpenBrace p) (of_element_list list ++ token t.CloseBrace) ts rest h in
      stepped (Opens (InElements ∷ [])) stack (TheElements ∷ stack) in_literal in_literal (at t.OpenBrace p) (of_element_list list ++ token t.CloseBrace) ts rest b refl room.inner refl
      ∙ (elements-whole types shape vs list (Shut in_literal ∷ stack) b.left rest w i b.spells
      ∙ shut rest stack in_tuple in_literal)

  pub tuple-whole : (types : List OrdinalNames) (shape : Shape) (vs : List Value) (x : TupleP) (ts rest : List Piece) → WritesTuple types shape vs x → TupleIn is_out_of_range x → Spells (of_tuple x) ts rest
      → Pass TheTuple in_literal ts rest
  unfolding reach
  tuple-whole types shape vs (syntax.Tuple p (syntax.Elements q list)) ts rest w i h stack =
      let x = one (at t.Tuple p) (of_elements (syntax.Elements q list)) ts rest h in
      stepped Plain (TheElements ∷ stack) (TheTuple ∷ stack) in_literal in_literal (at t.Tuple p) (of_elements (syntax.Elements q list)) ts rest x refl refl refl
      ∙ in-tuple-whole types shape vs q list stack x.left rest w i x.spells

  more-tuples-whole : (types : List OrdinalNames) (shape : Shape) (values : List (List Value)) (list : List TupleP) (stack : List Symbol) (ts rest : List Piece) → WritesTuples types shape values list → Each (TupleIn is_out_of_range) list
      → Spells (of_more_tuples list ++ token t.CloseBrace) ts rest → verdict limits ts (MoreTuples ∷ Just t.CloseBrace ∷ stack) in_literal ≡ verdict limits rest stack in_literal
  unfolding reach
  more-tuples-whole types shape [] [] stack ts rest w i h =
      let z = one (fixed t.CloseBrace) [] ts rest h in
      stepped Plain stack (MoreTuples ∷ Just t.CloseBrace ∷ stack) in_literal in_literal (fixed t.CloseBrace) [] ts rest z refl refl refl ∙ ap (λ (l : List Piece). verdict limits l stack in_literal) (done z.left rest z.spells)
  more-tuples-whole types shape (vs ∷ values) (x ∷ list) stack ts rest w i h =
      let c = one (fixed t.Comma) (of_tuple x ++ of_more_tuples list ++ token t.CloseBrace) ts rest h in
      let parts = two (of_tuple x) (of_more_tuples list ++ token t.CloseBrace) c.left rest (subst (λ (l : List Mark). Spells l c.left rest) (append_assoc (of_tuple x) (of_more_tuples list) (token t.CloseBrace)) c.spells) in
      stepped Separator (TheTuple ∷ MoreTuples ∷ Just t.CloseBrace ∷ stack) (MoreTuples ∷ Just t.CloseBrace ∷ stack) in_literal in_literal (fixed t.Comma) (of_tuple x ++ of_more_tuples list ++ token t.CloseBrace) ts rest c refl refl refl
      ∙ (tuple-whole types shape vs x c.left parts.mid w.0 i.0 parts.before (MoreTuples ∷ Just t.CloseBrace ∷ stack)
      ∙ more-tuples-whole types shape values list stack parts.mid rest w.1 i.1 parts.after)
  more-tuples-whole types shape _ _ stack ts rest w i h = absurd w

  tuple-list-whole : (types : List OrdinalNames) (shape : Shape) (values : List (List Value)) (list : List TupleP) (stack : List Symbol) (ts rest : List Piece) → WritesTuples types shape values list → Each (TupleIn is_out_of_range) list
      → Spells (of_tuple_list list ++ token t.CloseBrace) ts rest → verdict limits ts (InTuples ∷ stack) in_literal ≡ verdict limits rest stack in_literal
  unfolding reach
  tuple-list-whole types shape [] [] stack ts rest w i h =
      let z = one (fixed t.CloseBrace) [] ts rest h in
      stepped Plain stack (InTuples ∷ stack) in_literal in_literal (fixed t.CloseBrace) [] ts rest z refl refl refl ∙ ap (λ (l : List Piece). verdict limits l stack in_literal) (done z.left rest z.spells)
  tuple-list-whole types shape (vs ∷ values) (syntax.Tuple p (syntax.Elements q elements) ∷ list) stack ts rest w i h =
      let parts = two (of_tuple (syntax.Tuple p (syntax.Elements q elements))) (of_more_tuples list ++ token t.CloseBrace) ts rest
      (subst (λ (l : List Mark). Spells l ts rest) (append_assoc (of_tuple (syntax.Tuple p (syntax.Elements q elements))) (of_more_tuples list) (token t.CloseBrace)) h) in
      let x = one (at t.Tuple p) (of_elements (syntax.Elements q elements)) ts parts.mid parts.before in
      stepped Plain (TheElements ∷ MoreTuples ∷ Just t.CloseBrace ∷ stack) (InTuples ∷ stack) in_literal in_literal (at t.Tuple p) (of_elements (syntax.Elements q elements)) ts parts.mid x refl refl refl
      ∙ (in-tuple-whole types shape vs q elements (MoreTuples ∷ Just t.CloseBrace ∷ stack) x.left parts.mid w.0 i.0 x.spells
      ∙ more-tuples-whole types shape values list stack parts.mid rest w.1 i.1 parts.after)
  tuple-list-whole types shape _ _ stack ts rest w i h = absurd w

  -- ---- headings

  -- a kind, at any load at which a level may open
  point-type-whole : (y : PointP) (load : Load) (stack : List Symbol) (ts rest : List Piece) → PointIn is_out_of_range y → Spells (of_point y) ts rest → verdict limits ts (ThePoint ∷ stack) load ≡ verdict limits rest stack load
  unfolding reach
  point-type-whole (syntax.IntegerType p) load stack ts rest i h =
      let x = one (at t.Integer p) [] ts rest h in
      stepped Plain stack (ThePoint ∷ stack) load load (at t.Integer p) [] ts rest x refl refl refl ∙ ap (λ (l : List Piece). verdict limits l stack load) (done x.left rest x.spells)
  point-type-whole (syntax.DateType p) load stack ts rest i h =
      let x = one (at t.Date p) [] ts rest h in
      stepped Plain stack (ThePoint ∷ stack) load load (at t.Date p) [] ts rest x refl refl refl ∙ ap (λ (l : List Piece). verdict limits l stack load) (done x.left rest x.spells)
  point-type-whole (syntax.MomentType p) load stack ts rest i h =
      let x = one (at t.Moment p) [] ts rest h in
      stepped Plain stack (ThePoint ∷ stack) load load (at t.Moment p) [] ts rest x refl refl refl ∙ ap (λ (l : List Piece). verdict limits l stack load) (done x.left rest x.spells)
  point-type-whole (syntax.NamedType n) load stack ts rest i h =
      let x = one (spelled t.Name n.place n.bytes) [] ts rest h in
      stepped Plain stack (ThePoint ∷ stack) load load (spelled t.Name n.place n.bytes) [] ts rest x refl refl i ∙ ap (λ (l : List Piece). verdict limits l stack load) (done x.left rest x.spells)

  kind-whole : (k : KindP) (stack : List Symbol) (ts rest : List Piece) → KindIn is_out_of_range k → Spells (of_kind k) ts rest → verdict limits ts (TheKind ∷ stack) in_literal ≡ verdict limits rest stack in_literal
  unfolding reach
  kind-whole (syntax.BooleanKind p) stack ts rest i h =
      let x = one (at t.Boolean p) [] ts rest h in
      stepped Plain stack (TheKind ∷ stack) in_literal in_literal (at t.Boolean p) [] ts rest x refl refl refl ∙ ap (λ (l : List Piece). verdict limits l stack in_literal) (done x.left rest x.spells)
  kind-whole (syntax.CharKind p) stack ts rest i h =
      let x = one (at t.Char p) [] ts rest h in
      stepped Plain stack (TheKind ∷ stack) in_literal in_literal (at t.Char p) [] ts rest x refl refl refl ∙ ap (λ (l : List Piece). verdict limits l stack in_literal) (done x.left rest x.spells)
  kind-whole (syntax.PointKind (syntax.IntegerType p)) stack ts rest i h =
      let x = one (at t.Integer p) [] ts rest h in
      stepped Plain stack (TheKind ∷ stack) in_literal in_literal (at t.Integer p) [] ts rest x refl refl refl ∙ ap (λ (l : List Piece). verdict limits l stack in_literal) (done x.left rest x.spells)
  kind-whole (syntax.PointKind (syntax.DateType p)) stack ts rest i h =
      let x = one (at t.Date p) [] ts rest h in
      stepped Plain stack (TheKind ∷ stack) in_literal in_literal (at t.Date p) [] ts rest x refl refl refl ∙ ap (λ (l : List Piece). verdict limits l stack in_literal) (done x.left rest x.spells)
  kind-whole (syntax.PointKind (syntax.MomentType p)) stack ts rest i h =
      let x = one (at t.Moment p) [] ts rest h in
      stepped Plain stack (TheKind ∷ stack) in_literal in_literal (at t.Moment p) [] ts rest x refl refl refl ∙ ap (λ (l : List Piece). verdict limits l stack in_literal) (done x.left rest x.spells)
  kind-whole (syntax.PointKind (syntax.NamedType n)) stack ts rest i h =
      let x = one (spelled t.Name n.place n.bytes) [] ts rest h in
      stepped Plain stack (TheKind ∷ stack) in_literal in_literal (spelled t.Name n.place n.bytes) [] ts rest x refl refl i ∙ ap (λ (l : List Piece). verdict limits l stack in_literal) (done x.left rest x.spells)
  kind-whole (syntax.IntervalKind p y) stack ts rest i h =
      let x = one (at t.Interval p) (token t.Open ++ of_point y ++ token t.Close) ts rest h in
      let o = one (fixed t.Open) (of_point y ++ token t.Close) x.left rest x.spells in
      let parts = two (of_point y) (token t.Close) o.left rest o.spells in
      let c = one (fixed t.Close) [] parts.mid rest parts.after in
      stepped Plain (InPoint ∷ stack) (TheKind ∷ stack) in_literal in_literal (at t.Interval p) (token t.Open ++ of_point y ++ token t.Close) ts rest x refl refl refl
      ∙ (stepped (Opens (ThePoint ∷ Just t.Close ∷ [])) stack (InPoint ∷ stack) in_literal in_literal (fixed t.Open) (of_point y ++ token t.Close) x.left rest o refl room.inner refl
      ∙ (point-type-whole y in_tuple (Just t.Close ∷ Shut in_literal ∷ stack) o.left parts.mid i parts.before
      ∙ (stepped Plain (Shut in_literal ∷ stack) (Just t.Close ∷ Shut in_literal ∷ stack) in_tuple in_tuple (fixed t.Close) [] parts.mid rest c refl refl refl
      ∙ (shut c.left stack in_tuple in_literal
      ∙ ap (λ (l : List Piece). verdict limits l stack in_literal) (done c.left rest c.spells)))))

  more-attributes-whole : (list : List AttributeP) (stack : List Symbol) (ts rest : List Piece) → Each (AttributeIn is_out_of_range) list → Spells (of_more_attributes list ++ token t.CloseBrace) ts rest
      → verdict limits ts (MoreAttributes ∷ Just t.CloseBrace ∷ stack) in_literal ≡ verdict limits rest stack in_literal
  unfolding reach
  more-attributes-whole [] stack ts rest i h =
      let z = one (fixed t.CloseBrace) [] ts rest h in
      stepped Plain stack (MoreAttributes ∷ Just t.CloseBrace ∷ stack) in_literal in_literal (fixed t.CloseBrace) [] ts rest z refl refl refl ∙ ap (λ (l : List Piece). verdict limits l stack in_literal) (done z.left rest z.spells)
  more-attributes-whole (syntax.Attribute n k ∷ list) stack ts rest i h =
      let c = one (fixed t.Comma) (word_of n ++ of_kind k ++ of_more_attributes list ++ token t.CloseBrace) ts rest h in
      let x = one (spelled t.Name n.place n.bytes) (of_kind k ++ of_more_attributes list ++ token t.CloseBrace) c.left rest c.spells in
      let parts = two (of_kind k) (of_more_attributes list ++ token t.CloseBrace) x.left rest (subst (λ (l : List Mark). Spells l x.left rest) (append_assoc (of_kind k) (of_more_attributes list) (token t.CloseBrace)) x.spells) in
      stepped Separator (TheAttribute ∷ MoreAttributes ∷ Just t.CloseBrace ∷ stack) (MoreAttributes ∷ Just t.CloseBrace ∷ stack) in_literal in_literal (fixed t.Comma) (word_of n ++ of_kind k ++ of_more_attributes list ++ token t.CloseBrace) ts rest c refl refl refl
      ∙ (stepped Plain (TheKind ∷ MoreAttributes ∷ Just t.CloseBrace ∷ stack) (TheAttribute ∷ MoreAttributes ∷ Just t.CloseBrace ∷ stack) in_literal in_literal (spelled t.Name n.place n.bytes) (of_kind k ++ of_more_attributes list ++ token t.CloseBrace) c.left rest x refl refl i.0.0
      ∙ (kind-whole k (MoreAttributes ∷ Just t.CloseBrace ∷ stack) x.left parts.mid i.0.1 parts.before
      ∙ more-attributes-whole list stack parts.mid rest i.1 parts.after))

  attributes-whole : (list : List AttributeP) (stack : List Symbol) (ts rest : List Piece) → Each (AttributeIn is_out_of_range) list → Spells (of_attributes list ++ token t.CloseBrace) ts rest
      → verdict limits ts (InHeading ∷ stack) in_literal ≡ verdict limits rest stack in_literal
  unfolding reach
  attributes-whole [] stack ts rest i h =
      let z = one (fixed t.CloseBrace) [] ts rest h in
      stepped Plain stack (InHeading ∷ stack) in_literal in_literal (fixed t.CloseBrace) [] ts rest z refl refl refl ∙ ap (λ (l : List Piece). verdict limits l stack in_literal) (done z.left rest z.spells)
  attributes-whole (syntax.Attribute n k ∷ list) stack ts rest i h =
      let x = one (spelled t.Name n.place n.bytes) (of_kind k ++ of_more_attributes list ++ token t.CloseBrace) ts rest h in
      let parts = two (of_kind k) (of_more_attributes list ++ token t.CloseBrace) x.left rest (subst (λ (l : List Mark). Spells l x.left rest) (append_assoc (of_kind k) (of_more_attributes list) (token t.CloseBrace)) x.spells) in
      stepped Plain (TheKind ∷ MoreAttributes ∷ Just t.CloseBrace ∷ stack) (InHeading ∷ stack) in_literal in_literal (spelled t.Name n.place n.bytes) (of_kind k ++ of_more_attributes list ++ token t.CloseBrace) ts rest x refl refl i.0.0
      ∙ (kind-whole k (MoreAttributes ∷ Just t.CloseBrace ∷ stack) x.left parts.mid i.0.1 parts.before
      ∙ more-attributes-whole list stack parts.mid rest i.1 parts.after)

  -- ---- literals

  -- a brace, and what stands behind it in a heading
  heading-begins : (list : List AttributeP) (stack : List Symbol) (b : List ℕ) (ts rest : List Piece) → Spells (of_attributes list ++ token t.CloseBrace) ts rest
      → reach (AfterRelation ∷ stack) out t.OpenBrace b (first ts) ≡ Reaches (Opens (InHeading ∷ [])) (TheTuples ∷ stack) out
  unfolding reach
  heading-begins [] stack b ts rest h = ap (reach (AfterRelation ∷ stack) out t.OpenBrace b) (begins_with (λ (c : Terminal). c ≡ t.CloseBrace) (token t.CloseBrace) ts rest refl h)
  heading-begins (syntax.Attribute n k ∷ list) stack b ts rest h =
      ap (reach (AfterRelation ∷ stack) out t.OpenBrace b) (begins_with (λ (c : Terminal). c ≡ t.Name) (of_attributes (syntax.Attribute n k ∷ list) ++ token t.CloseBrace) ts rest refl h)

  headed-whole : (types : List OrdinalNames) (shape : Shape) (values : List (List Value)) (p : Place) (attributes : List AttributeP) (list : List TupleP) (stack : List Symbol) (ts rest : List Piece) → WritesTuples types shape values list
      → Each (AttributeIn is_out_of_range) attributes → Each (TupleIn is_out_of_range) list → Spells (of_heading (syntax.Heading p attributes) ++ of_tuples list) ts rest
      → verdict limits ts (AfterRelation ∷ stack) out ≡ verdict limits rest stack out
  unfolding reach
  headed-whole types shape values p attributes list stack ts rest w i g h =
      let parts = two (of_heading (syntax.Heading p attributes)) (of_tuples list) ts rest h in
      let b = one (at t.OpenBrace p) (of_attributes attributes ++ token t.CloseBrace) ts parts.mid parts.before in
      let o = one (fixed t.OpenBrace) (of_tuple_list list ++ token t.CloseBrace) parts.mid rest parts.after in
      stepped (Opens (InHeading ∷ [])) (TheTuples ∷ stack) (AfterRelation ∷ stack) out out (at t.OpenBrace p) (of_attributes attributes ++ token t.CloseBrace) ts parts.mid b (heading-begins attributes stack b.bytes b.left parts.mid b.spells) room.outer refl
      ∙ (attributes-whole attributes (Shut out ∷ TheTuples ∷ stack) b.left parts.mid i b.spells
      ∙ (shut parts.mid (TheTuples ∷ stack) in_literal out
      ∙ (stepped (Opens (InTuples ∷ [])) stack (TheTuples ∷ stack) out out (fixed t.OpenBrace) (of_tuple_list list ++ token t.CloseBrace) parts.mid rest o refl room.outer refl
      ∙ (tuple-list-whole types shape values list (Shut out ∷ stack) o.left rest w g o.spells
      ∙ shut rest stack in_literal out))))

  tuples-whole : (types : List OrdinalNames) (shape : Shape) (vs : List Value) (values : List (List Value)) (x : TupleP) (list : List TupleP) (stack : List Symbol) (ts rest : List Piece) → WritesTuple types shape vs x
      → WritesTuples types shape values list → TupleIn is_out_of_range x → Each (TupleIn is_out_of_range) list → Spells (token t.OpenBrace ++ of_tuple x ++ of_more_tuples list ++ token t.CloseBrace) ts rest
      → verdict limits ts (AfterRelation ∷ stack) out ≡ verdict limits rest stack out
  unfolding reach
  tuples-whole types shape vs values (syntax.Tuple p (syntax.Elements q elements)) list stack ts rest w ws i is h =
      let x : TupleP = syntax.Tuple p (syntax.Elements q elements) in
      let b = one (fixed t.OpenBrace) (of_tuple x ++ of_more_tuples list ++ token t.CloseBrace) ts rest h in
      let parts = two (of_tuple x) (of_more_tuples list ++ token t.CloseBrace) b.left rest (subst (λ (l : List Mark). Spells l b.left rest) (append_assoc (of_tuple x) (of_more_tuples list) (token t.CloseBrace)) b.spells) in
      let e : first b.left ≡ t.Tuple = begins_with (λ (c : Terminal). c ≡ t.Tuple) (of_tuple x) b.left parts.mid refl parts.before in
      stepped (Opens (TheTuple ∷ MoreTuples ∷ Just t.CloseBrace ∷ [])) stack (AfterRelation ∷ stack) out out (fixed t.OpenBrace) (of_tuple x ++ of_more_tuples list ++ token t.CloseBrace) ts rest b
      (ap (reach (AfterRelation ∷ stack) out t.OpenBrace b.bytes) e) room.outer refl
      ∙ (tuple-whole types shape vs x b.left parts.mid w i parts.before (MoreTuples ∷ Just t.CloseBrace ∷ Shut out ∷ stack)
      ∙ (more-tuples-whole types shape values list (Shut out ∷ stack) parts.mid rest ws is parts.after
      ∙ shut rest stack in_literal out))

  -- RELATION, and what is behind it
  pub literal-whole : (types : List OrdinalNames) (heading : Heading) (rows : List Row) (l : LiteralP) (stack : List Symbol) (ts rest : List Piece) → WritesLiteral types heading rows l → LiteralIn is_out_of_range l → Spells (of_literal l) ts rest
      → verdict limits ts (TheRel ∷ stack) out ≡ verdict limits rest (MorePostfix ∷ MoreInfix ∷ stack) out
  unfolding reach
  literal-whole types heading rows (syntax.Tuples p x list) stack ts rest w i h = all-whole w.values w.tuples_so
    where
      all-whole : (values : List (List Value)) → WritesTuples types w.shape values (x ∷ list) → verdict limits ts (TheRel ∷ stack) out ≡ verdict limits rest (MorePostfix ∷ MoreInfix ∷ stack) out
      all-whole [] g = absurd g
      all-whole (vs ∷ values) g =
          let r = one (at t.Relation p) (token t.OpenBrace ++ of_tuple x ++ of_more_tuples list ++ token t.CloseBrace) ts rest h in
          stepped Plain (AfterRelation ∷ MorePostfix ∷ MoreInfix ∷ stack) (TheRel ∷ stack) out out (at t.Relation p) (token t.OpenBrace ++ of_tuple x ++ of_more_tuples list ++ token t.CloseBrace) ts rest r refl refl refl
          ∙ tuples-whole types w.shape vs values x list (MorePostfix ∷ MoreInfix ∷ stack) r.left rest g.0 g.1 i.0 i.1 r.spells
  literal-whole types heading rows (syntax.Headed p (syntax.Heading q attributes) list) stack ts rest w i h =
      let r = one (at t.Relation p) (of_heading (syntax.Heading q attributes) ++ of_tuples list) ts rest h in
      stepped Plain (AfterRelation ∷ MorePostfix ∷ MoreInfix ∷ stack) (TheRel ∷ stack) out out (at t.Relation p) (of_heading (syntax.Heading q attributes) ++ of_tuples list) ts rest r refl refl refl
      ∙ headed-whole types w.1.shape w.1.values q attributes list (MorePostfix ∷ MoreInfix ∷ stack) r.left rest w.1.tuples_so i.0 i.1 r.spells

-- ---- statements

-- the end of a statement behind its only item
statement-end : (ts : List Piece) → Spells (token t.Semicolon) ts [] → verdict limits ts (MorePostfix ∷ MoreInfix ∷ MoreItems ∷ Just t.Semicolon ∷ []) at_start ≡ Whole
unfolding verdict reach
statement-end ts h =
    let s = one (fixed t.Semicolon) [] ts [] h in
    stepped Plain [] (MorePostfix ∷ MoreInfix ∷ MoreItems ∷ Just t.Semicolon ∷ []) at_start at_start (fixed t.Semicolon) [] ts [] s refl refl refl
    ∙ ap (λ (l : List Piece). verdict limits l [] at_start) (done s.left [] s.spells)

-- where nothing is open
no-levels : HasRoom at_start
no-levels = record { outer = refl; inner = refl; innermost = refl }

-- a literal as the only item's expression, and the end
rel-whole : (types : List OrdinalNames) (heading : Heading) (rows : List Row) (l : LiteralP) (ts : List Piece) → WritesLiteral types heading rows l → LiteralIn is_out_of_range l
    → Spells (of_literal l ++ [] ++ token t.Semicolon) ts [] → verdict limits ts (TheRel ∷ MoreItems ∷ Just t.Semicolon ∷ []) at_start ≡ Whole
rel-whole types heading rows l ts w i h =
    let parts = two (of_literal l ++ []) (token t.Semicolon) ts [] h in
    literal-whole at_start no-levels types heading rows l (MoreItems ∷ Just t.Semicolon ∷ []) ts parts.mid w i (subst (λ (ms : List Mark). Spells ms ts parts.mid) (append-nil (of_literal l)) parts.before)
    ∙ statement-end parts.mid parts.after

pub insertion-whole : (types : List OrdinalNames) (heading : Heading) (rows : List Row) (p : Place) (w : Word) (l : LiteralP) (ts : List Piece) → WritesLiteral types heading rows l → HasLiteralsInRange (insertion p w l)
    → Spells (of_statement (insertion p w l)) ts [] → verdict_on ts ≡ Whole
unfolding reach
insertion-whole types heading rows p w l ts writes i h =
    let x = one (at t.Insert p) (word_of w ++ of_literal l ++ [] ++ token t.Semicolon) ts [] h in
    let n = one (spelled t.Name w.place w.bytes) (of_literal l ++ [] ++ token t.Semicolon) x.left [] x.spells in
    stepped Plain (TheName ∷ TheRel ∷ MoreItems ∷ Just t.Semicolon ∷ []) (TheStatement ∷ []) at_start at_start (at t.Insert p) (word_of w ++ of_literal l ++ [] ++ token t.Semicolon) ts [] x refl refl refl
    ∙ (stepped Plain (TheRel ∷ MoreItems ∷ Just t.Semicolon ∷ []) (TheName ∷ TheRel ∷ MoreItems ∷ Just t.Semicolon ∷ []) at_start at_start (spelled t.Name w.place w.bytes) (of_literal l ++ [] ++ token t.Semicolon) x.left [] n refl refl i.0.0
    ∙ rel-whole types heading rows l n.left writes i.0.1 n.spells)

-- ---- under USING

-- names behind the first
more-words-whole : (words : List Word) (load : Load) (stack : List Symbol) (ts rest : List Piece) → Each (NameIn is_out_of_range) words → Spells (of_more_words words ++ token t.Close) ts rest
    → verdict limits ts (MoreNames ∷ Just t.Close ∷ stack) (opened load) ≡ verdict limits rest stack (opened load)
unfolding reach
more-words-whole [] load stack ts rest i h =
    let z = one (fixed t.Close) [] ts rest h in
    stepped Plain stack (MoreNames ∷ Just t.Close ∷ stack) (opened load) (opened load) (fixed t.Close) [] ts rest z refl refl refl ∙ ap (λ (l : List Piece). verdict limits l stack (opened load)) (done z.left rest z.spells)
more-words-whole (n ∷ words) load stack ts rest i h =
    let c = one (fixed t.Comma) (word_of n ++ of_more_words words ++ token t.Close) ts rest h in
    let x = one (spelled t.Name n.place n.bytes) (of_more_words words ++ token t.Close) c.left rest c.spells in
    stepped Separator (TheName ∷ MoreNames ∷ Just t.Close ∷ stack) (MoreNames ∷ Just t.Close ∷ stack) (opened load) (opened load) (fixed t.Comma) (word_of n ++ of_more_words words ++ token t.Close) ts rest c refl refl refl
    ∙ (stepped Plain (MoreNames ∷ Just t.Close ∷ stack) (TheName ∷ MoreNames ∷ Just t.Close ∷ stack) (opened load) (opened load) (spelled t.Name n.place n.bytes) (of_more_words words ++ token t.Close) c.left rest x refl refl i.0
    ∙ more-words-whole words load stack x.left rest i.1 x.spells)

words-whole : (words : List Word) (load : Load) (stack : List Symbol) (ts rest : List Piece) → Each (NameIn is_out_of_range) words → Spells (of_words words ++ token t.Close) ts rest
    → verdict limits ts (InList ∷ stack) (opened load) ≡ verdict limits rest stack (opened load)
unfolding reach
words-whole [] load stack ts rest i h =
    let z = one (fixed t.Close) [] ts rest h in
    stepped Plain stack (InList ∷ stack) (opened load) (opened load) (fixed t.Close) [] ts rest z refl refl refl ∙ ap (λ (l : List Piece). verdict limits l stack (opened load)) (done z.left rest z.spells)
words-whole (n ∷ words) load stack ts rest i h =
    let x = one (spelled t.Name n.place n.bytes) (of_more_words words ++ token t.Close) ts rest h in
    stepped Plain (MoreNames ∷ Just t.Close ∷ stack) (InList ∷ stack) (opened load) (opened load) (spelled t.Name n.place n.bytes) (of_more_words words ++ token t.Close) ts rest x refl refl i.0
    ∙ more-words-whole words load stack x.left rest i.1 x.spells

-- names in brackets, where a level may open
pub list-whole : (list : NameListP) (load : Load) (stack : List Symbol) (ts rest : List Piece) → nat_le most_levels load.levels ≡ false → NameListIn is_out_of_range list → Spells (of_list list) ts rest
    → verdict limits ts (TheList ∷ stack) load ≡ verdict limits rest stack load
unfolding reach
list-whole (syntax.NameList p words) load stack ts rest room i h =
    let o = one (at t.Open p) (of_words words ++ token t.Close) ts rest h in
    stepped (Opens (InList ∷ [])) stack (TheList ∷ stack) load load (at t.Open p) (of_words words ++ token t.Close) ts rest o refl room refl
    ∙ (words-whole words load (Shut load ∷ stack) o.left rest i o.spells
    ∙ shut rest stack (opened load) load)

-- the load behind USING, where its list and the literal may open theirs
abbrev in_using : Load
in_using = opened at_start

one-level : HasRoom in_using
one-level = record { outer = refl; inner = refl; innermost = refl }

-- the end of a statement behind an item under USING
using-end : (ts : List Piece) → Spells (token t.Semicolon) ts [] → verdict limits ts (MorePostfix ∷ MoreInfix ∷ Shut at_start ∷ MoreItems ∷ Just t.Semicolon ∷ []) in_using ≡ Whole
unfolding verdict reach
using-end ts h =
    let s = one (fixed t.Semicolon) [] ts [] h in
    stepped Plain [] (MorePostfix ∷ MoreInfix ∷ Shut at_start ∷ MoreItems ∷ Just t.Semicolon ∷ []) at_start in_using (fixed t.Semicolon) [] ts [] s refl refl refl
    ∙ ap (λ (l : List Piece). verdict limits l [] at_start) (done s.left [] s.spells)

-- behind the colon
used-whole : (types : List OrdinalNames) (heading : Heading) (rows : List Row) (p : Place) (w : Word) (l : LiteralP) (ts rest : List Piece) → WritesLiteral types heading rows l → NameIn is_out_of_range w → LiteralIn is_out_of_range l
    → Spells (at t.Insert p ∷ (word_of w ++ of_literal l)) ts rest → Spells (token t.Semicolon) rest [] → verdict limits ts (TheUsedItem ∷ Shut at_start ∷ MoreItems ∷ Just t.Semicolon ∷ []) in_using ≡ Whole
unfolding reach
used-whole types heading rows p w l ts rest writes name i h end =
    let x = one (at t.Insert p) (word_of w ++ of_literal l) ts rest h in
    let n = one (spelled t.Name w.place w.bytes) (of_literal l) x.left rest x.spells in
    let stack : List Symbol = Shut at_start ∷ MoreItems ∷ Just t.Semicolon ∷ [] in
    stepped Plain (TheName ∷ TheRel ∷ stack) (TheUsedItem ∷ stack) in_using in_using (at t.Insert p) (word_of w ++ of_literal l) ts rest x refl refl refl
    ∙ (stepped Plain (TheRel ∷ stack) (TheName ∷ TheRel ∷ stack) in_using in_using (spelled t.Name w.place w.bytes) (of_literal l) x.left rest n refl refl name
    ∙ (literal-whole in_using one-level types heading rows l stack n.left rest writes i n.spells
    ∙ using-end rest end))

pub insertion-under-whole : (types : List OrdinalNames) (heading : Heading) (rows : List Row) (p : Place) (list : NameListP) (q : Place) (w : Word) (l : LiteralP) (ts : List Piece) → WritesLiteral types heading rows l
    → HasLiteralsInRange (insertion_under p list q w l) → Spells (of_statement (insertion_under p list q w l)) ts [] → verdict_on ts ≡ Whole
unfolding reach
insertion-under-whole types heading rows p list q w l ts writes i h =
    let used : List Mark = at t.Insert q ∷ (word_of w ++ of_literal l) in
    let x = one (at t.Using p) (of_list list ++ token t.Colon ++ used ++ [] ++ token t.Semicolon) ts [] h in
    let s = two (of_list list ++ token t.Colon ++ used ++ []) (token t.Semicolon) x.left [] x.spells in
    let u = two (of_list list ++ token t.Colon) used x.left s.mid (subst (λ (ms : List Mark). Spells ms x.left s.mid) (append-nil (of_list list ++ token t.Colon ++ used)) s.before) in
    let c = two (of_list list) (token t.Colon) x.left u.mid u.before in
    let z = one (fixed t.Colon) [] c.mid u.mid c.after in
    let stack : List Symbol = Shut at_start ∷ MoreItems ∷ Just t.Semicolon ∷ [] in
    stepped (Opens (TheList ∷ Just t.Colon ∷ TheUsedItem ∷ [])) (MoreItems ∷ Just t.Semicolon ∷ []) (TheStatement ∷ []) at_start at_start (at t.Using p) (of_list list ++ token t.Colon ++ used ++ [] ++ token t.Semicolon) ts [] x refl refl refl
    ∙ (list-whole list in_using (Just t.Colon ∷ TheUsedItem ∷ stack) x.left c.mid refl i.0.0 c.before
    ∙ (stepped Plain (TheUsedItem ∷ stack) (Just t.Colon ∷ TheUsedItem ∷ stack) in_using in_using (fixed t.Colon) [] c.mid u.mid z refl refl refl
    ∙ (ap (λ (m : List Piece). verdict limits m (TheUsedItem ∷ stack) in_using) (done z.left u.mid z.spells)
    ∙ used-whole types heading rows q w l u.mid s.mid writes i.0.1.0 i.0.1.1 u.after s.after)))

-- what a name in front asks for: LOG may begin a log, and any name an assignment
abbrev behind_name : Bool → List Symbol
behind_name true = AfterLog ∷ []
behind_name false = Just t.Assign ∷ TheRel ∷ MoreItems ∷ Just t.Semicolon ∷ []

name-reaches : (c : Bool) → at_form (if c then Takes Plain (AfterLog ∷ []) else Takes Plain (Just t.Assign ∷ TheRel ∷ MoreItems ∷ Just t.Semicolon ∷ [])) [] at_start Over ≡ Reaches Plain (behind_name c) at_start
name-reaches true = refl
name-reaches false = refl

sign-step : (c : Bool) (ms : List Mark) (ts rest : List Piece) (a : One (fixed t.Assign) ms ts rest)
    → verdict limits ts (behind_name c) at_start ≡ verdict limits a.left (TheRel ∷ MoreItems ∷ Just t.Semicolon ∷ []) at_start
unfolding reach
sign-step true ms ts rest a = stepped Plain (TheRel ∷ MoreItems ∷ Just t.Semicolon ∷ []) (AfterLog ∷ []) at_start at_start (fixed t.Assign) ms ts rest a refl refl refl
sign-step false ms ts rest a =
    stepped Plain (TheRel ∷ MoreItems ∷ Just t.Semicolon ∷ []) (Just t.Assign ∷ TheRel ∷ MoreItems ∷ Just t.Semicolon ∷ []) at_start at_start (fixed t.Assign) ms ts rest a refl refl refl

pub setting-whole : (types : List OrdinalNames) (heading : Heading) (rows : List Row) (w : Word) (l : LiteralP) (ts : List Piece) → WritesLiteral types heading rows l → HasLiteralsInRange (setting w l)
    → Spells (of_statement (setting w l)) ts [] → verdict_on ts ≡ Whole
unfolding reach
setting-whole types heading rows w l ts writes i h =
    let n = one (spelled t.Name w.place w.bytes) (token t.Assign ++ of_literal l ++ [] ++ token t.Semicolon) ts [] h in
    let a = one (fixed t.Assign) (of_literal l ++ [] ++ token t.Semicolon) n.left [] n.spells in
    let c : Bool = same_bytes log_word w.bytes in
    stepped Plain (behind_name c) (TheStatement ∷ []) at_start at_start (spelled t.Name w.place w.bytes) (token t.Assign ++ of_literal l ++ [] ++ token t.Semicolon) ts [] n (name-reaches c) refl i.0.0
    ∙ (sign-step c (of_literal l ++ [] ++ token t.Semicolon) n.left [] a
    ∙ rel-whole types heading rows l a.left writes i.0.1 a.spells)
