-- An expression that means rows means the same at other places, where the names that it names mean the same rows.
--     meaning-gives, truth-gives      the law
--     meaning-moved, truth-moved      the same, written out
use Rattle.std.proofs.Common.{◌≡◌, ℕ, Bool, false, List, [], refl, sym, ap, ◌∙◌, subst, map, Ok, Err, length}
use Rattle.std.specs.Prelude.{nat_le}
use Rattle.std.proofs.lemmas.Bool.{or_parts}
use Rattle.point_core.specs.declared.fault.Place.{Place}
use Rattle.point_core.specs.declared.fault.Code.TheVariants.{E35}
use Rattle.point_core.specs.Faults.{fault}
use Rattle.value_core.specs.RowPacking.{packed, unpacked}
use Rattle.value_core.specs.Values.{most_rows, Name, Row, Heading}
use Rattle.scalar_core.specs.Expressions.{Expr}
use Rattle.relation_core.specs.Groups.{rows_at, summarized}
use Rattle.relation_core.specs.Operators.{restricted, extended}
use Rattle.relation_core.specs.Parts.{projected}
use Rattle.tree_core.specs.Trees.{PlainSets, PlainAggregate, Tree, named, literal, infix_of, project, rename, restrict, extend, summarize, pack, unpack, using, heading_of, Test, relate, is_empty, is_not_empty}
use Rattle.tree_core.specs.Uses.{names_any, test_names_any}
use Rattle.tree_core.specs.declared.tree.InfixWord.{InfixWord}
use Rattle.meaning_core.specs.Meanings.{RowsMeant, Known, at_name, limited, Around, plainly, in_using, names_at, positions_of, opened, closed, infix_rows, renamed_rows, condition, literal_rows, meaning}
use Rattle.meaning_core.specs.Names.{found}
use Rattle.meaning_core.specs.Rows.{extended_row, group_row}
use Rattle.meaning_core.specs.Truths.{truth_of}
use Rattle.meaning_laws.specs.Gives.{Gives}
use Rattle.meaning_laws.specs.Moved.{moved_expr, moved_sets, moved_aggregate, moved_tree, moved_test, moved_around}
use Rattle.meaning_laws.proofs.GivesLemmas.{then-gives, both-gives, if-gives, restricted-gives, extended-gives, summarized-gives}
use Rattle.meaning_laws.proofs.SameMoved.{heading-moved}
use Rattle.meaning_laws.proofs.ValueMoved.{condition-moved, extended_row-moved, literal_rows-moved, group_row-moved}

-- ---- at two places

at_name-gives : (p q : Place) (m n : RowsMeant) → Gives m n → Gives (at_name p m) (at_name q n)
at_name-gives p q (Ok rows) n g y e = ap (at_name q) (g rows refl) ∙ e
at_name-gives p q (Err d) n g y e = absurd cc

limited-gives : (p q : Place) (rows : List Row) → Gives (limited p rows) (limited q rows)
limited-gives p q rows = if-gives (nat_le (length rows) most_rows) rows (fault p E35) (fault q E35)

module _ (f : Place → Place) where
  opened-moved : (around : Around) (g h : Heading) → g ≡ h → (rows : List Row) → opened (moved_around f around) g rows ≡ opened around h rows
  opened-moved plainly g h e rows = ap (λ (k : Heading). opened plainly k rows) e
  opened-moved (in_using at names) g h e rows = ap (λ (k : Heading). opened (in_using at names) k rows) e

  closed-moved : (around : Around) (place : Place) (heading : Heading) (rows : List Row) → Gives (closed around place heading rows) (closed (moved_around f around) (f place) heading rows)
  closed-moved plainly place heading rows = limited-gives place (f place) rows
  closed-moved (in_using at names) place heading rows = limited-gives at (f at) (packed (positions_of heading names) rows)

  -- rows that are the same at both places
  closed-same : (around : Around) (place : Place) (heading : Heading) (rows others : List Row) → others ≡ rows
      → Gives (closed around place heading rows) (closed (moved_around f around) (f place) heading others)
  closed-same around place heading rows others e y d = ap (closed (moved_around f around) (f place) heading) e ∙ closed-moved around place heading rows y d

  -- ---- operators, where the headings are the same

  infix-gives : (around : Around) (place : Place) (heading : Heading) (word : InfixWord) (hl hr gl gr : Heading) → gl ≡ hl → gr ≡ hr → (a b : List Row)
      → Gives (closed around place heading (infix_rows word hl hr (opened around hl a) (opened around hr b)))
      (closed (moved_around f around) (f place) heading (infix_rows word gl gr (opened (moved_around f around) gl a) (opened (moved_around f around) gr b)))
  infix-gives around place heading word hl hr gl gr el er a b =
      closed-same around place heading (infix_rows word hl hr (opened around hl a) (opened around hr b))
      (infix_rows word gl gr (opened (moved_around f around) gl a) (opened (moved_around f around) gr b))
      (λ i. infix_rows word (el i) (er i) (opened-moved around gl hl el a i) (opened-moved around gr hr er b i))

  restrict-gives : (around : Around) (c : Expr) (h g : Heading) → g ≡ h → (a : List Row)
      → Gives (restricted (condition c) (opened around h a)) (restricted (condition (moved_expr f c)) (opened (moved_around f around) g a))
  restrict-gives around c h g e a y d =
      ap (restricted (condition (moved_expr f c))) (opened-moved around g h e a) ∙ restricted-gives (condition c) (condition (moved_expr f c)) (condition-moved f c) (opened around h a) y d

  extend-gives : (around : Around) (heading : Heading) (sets : PlainSets) (h g : Heading) → g ≡ h → (a : List Row)
      → Gives (extended (extended_row h heading sets) (opened around h a)) (extended (extended_row g heading (moved_sets f sets)) (opened (moved_around f around) g a))
  extend-gives around heading sets h g e a y d =
      (λ i. extended (extended_row (e i) heading (moved_sets f sets)) (opened-moved around g h e a i))
      ∙ extended-gives (extended_row h heading sets) (extended_row h heading (moved_sets f sets)) (extended_row-moved f h heading sets) (opened around h a) y d

  -- what SUMMARIZE gives of rows
  abbrev summary_rows : Heading → Heading → List ℕ → List PlainAggregate → List Row → RowsMeant
  summary_rows from to by aggregates rows = summarized by (λ numbers. group_row from to aggregates (rows_at rows numbers)) rows

  summarize-gives : (around : Around) (heading : Heading) (by : List ℕ) (aggregates : List PlainAggregate) (h g : Heading) → g ≡ h → (a : List Row)
      → Gives (summary_rows h heading by aggregates (opened around h a)) (summary_rows g heading by (map (moved_aggregate f) aggregates) (opened (moved_around f around) g a))
  summarize-gives around heading by aggregates h g e a y d =
      let rows : List Row = opened around h a in
      (λ i. summary_rows (e i) heading by (map (moved_aggregate f) aggregates) (opened-moved around g h e a i))
      ∙ summarized-gives by (λ numbers. group_row h heading aggregates (rows_at rows numbers)) (λ numbers. group_row h heading (map (moved_aggregate f) aggregates) (rows_at rows numbers))
      (λ numbers. group_row-moved f h heading aggregates (rows_at rows numbers)) rows y d

  -- ---- expressions

  module _ (some : Name → Bool) (known other : Known) (same : (name : Name) → some name ≡ false → Gives (found (Ok []) known name) (found (Ok []) other name)) where
    pub meaning-gives : (around : Around) (t : Tree) → names_any some t ≡ false → Gives (meaning known around t) (meaning other (moved_around f around) (moved_tree f t))
    meaning-gives around (named place h name) none =
        then-gives (at_name place (found (Ok []) known name)) (at_name (f place) (found (Ok []) other name)) (limited place) (limited (f place))
        (at_name-gives place (f place) (found (Ok []) known name) (found (Ok []) other name) (same name none)) (limited-gives place (f place))
    meaning-gives around (literal place h tuples) none =
        then-gives (literal_rows h tuples) (literal_rows h (map (moved_sets f) tuples)) (limited place) (limited (f place)) (literal_rows-moved f h tuples) (limited-gives place (f place))
    meaning-gives around (infix_of place h word l r) none =
        let parts = or_parts (names_any some l) (names_any some r) none in
        both-gives (meaning known plainly l) (meaning other plainly (moved_tree f l)) (meaning known plainly r) (meaning other plainly (moved_tree f r)) _ _
        (meaning-gives plainly l parts.0) (meaning-gives plainly r parts.1)
        (infix-gives around place h word (heading_of l) (heading_of r) (heading_of (moved_tree f l)) (heading_of (moved_tree f r)) (heading-moved f l) (heading-moved f r))
    meaning-gives around (project place h kept t) none =
        then-gives (meaning known plainly t) (meaning other plainly (moved_tree f t)) _ _ (meaning-gives plainly t none)
        (λ a. closed-same around place h (projected kept (opened around (heading_of t) a)) (projected kept (opened (moved_around f around) (heading_of (moved_tree f t)) a))
        (ap (projected kept) (opened-moved around (heading_of (moved_tree f t)) (heading_of t) (heading-moved f t) a)))
    meaning-gives around (rename place h names t) none =
        then-gives (meaning known plainly t) (meaning other plainly (moved_tree f t)) _ _ (meaning-gives plainly t none)
        (λ a y e. ap (λ (g : Heading). limited (f place) (renamed_rows g h names a)) (heading-moved f t) ∙ limited-gives place (f place) (renamed_rows (heading_of t) h names a) y e)
    meaning-gives around (restrict place h c t) none =
        then-gives (meaning known plainly t) (meaning other plainly (moved_tree f t)) _ _ (meaning-gives plainly t none)
        (λ a. then-gives (restricted (condition c) (opened around (heading_of t) a)) (restricted (condition (moved_expr f c)) (opened (moved_around f around) (heading_of (moved_tree f t)) a)) _ _
        (restrict-gives around c (heading_of t) (heading_of (moved_tree f t)) (heading-moved f t) a) (closed-moved around place h))
    meaning-gives around (extend place h sets t) none =
        then-gives (meaning known plainly t) (meaning other plainly (moved_tree f t)) _ _ (meaning-gives plainly t none)
        (λ a. then-gives (extended (extended_row (heading_of t) h sets) (opened around (heading_of t) a))
        (extended (extended_row (heading_of (moved_tree f t)) h (moved_sets f sets)) (opened (moved_around f around) (heading_of (moved_tree f t)) a)) _ _
        (extend-gives around h sets (heading_of t) (heading_of (moved_tree f t)) (heading-moved f t) a) (closed-moved around place h))
    meaning-gives around (summarize place h by aggregates t) none =
        then-gives (meaning known plainly t) (meaning other plainly (moved_tree f t)) _ _ (meaning-gives plainly t none)
        (λ a. then-gives (summary_rows (heading_of t) h by aggregates (opened around (heading_of t) a))
        (summary_rows (heading_of (moved_tree f t)) h by (map (moved_aggregate f) aggregates) (opened (moved_around f around) (heading_of (moved_tree f t)) a)) _ _
        (summarize-gives around h by aggregates (heading_of t) (heading_of (moved_tree f t)) (heading-moved f t) a) (closed-moved around place h))
    meaning-gives around (pack place h commalist t) none =
        then-gives (meaning known plainly t) (meaning other plainly (moved_tree f t)) _ _ (meaning-gives plainly t none) (λ a. limited-gives place (f place) (packed commalist a))
    meaning-gives around (unpack place h commalist t) none =
        then-gives (meaning known plainly t) (meaning other plainly (moved_tree f t)) _ _ (meaning-gives plainly t none) (λ a. limited-gives place (f place) (unpacked commalist a))
    meaning-gives around (using place h commalist t) none =
        subst (λ (g : Heading). Gives (meaning known (in_using place (names_at (heading_of t) commalist)) t) (meaning other (in_using (f place) (names_at g commalist)) (moved_tree f t)))
        (sym (heading-moved f t)) (meaning-gives (in_using place (names_at (heading_of t) commalist)) t none)

    -- ---- tests

    pub truth-gives : (t : Test) → test_names_any some t ≡ false → Gives (truth_of known t) (truth_of other (moved_test f t))
    truth-gives (relate place word commalist l r) none =
        let parts = or_parts (names_any some l) (names_any some r) none in
        both-gives (meaning known plainly l) (meaning other plainly (moved_tree f l)) (meaning known plainly r) (meaning other plainly (moved_tree f r)) _ _
        (meaning-gives plainly l parts.0) (meaning-gives plainly r parts.1) (λ a b y e. e)
    truth-gives (is_empty place t) none = then-gives (meaning known plainly t) (meaning other plainly (moved_tree f t)) _ _ (meaning-gives plainly t none) (λ a y e. e)
    truth-gives (is_not_empty place t) none = then-gives (meaning known plainly t) (meaning other plainly (moved_tree f t)) _ _ (meaning-gives plainly t none) (λ a y e. e)

-- ---- written out

module _ (some : Name → Bool) (known other : Known)
    (same : (name : Name) (rows : List Row) → some name ≡ false → found (Ok []) known name ≡ Ok rows → found (Ok []) other name ≡ Ok rows) (f : Place → Place)
  where
    pub meaning-moved : (around : Around) (t : Tree) (rows : List Row) → names_any some t ≡ false → meaning known around t ≡ Ok rows → meaning other (moved_around f around) (moved_tree f t) ≡ Ok rows
    meaning-moved around t rows none e = meaning-gives f some known other (λ name out had d. same name had out d) around t none rows e

    pub truth-moved : (t : Test) (b : Bool) → test_names_any some t ≡ false → truth_of known t ≡ Ok b → truth_of other (moved_test f t) ≡ Ok b
    truth-moved t b none e = truth-gives f some known other (λ name out had d. same name had out d) t none b e
