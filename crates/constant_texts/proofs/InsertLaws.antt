-- A statement that a dump writes for rows of a relvar is an insertion of just these rows.
--     insert-read      it is read so, from any place on
--     insert-one      it is one statement
use Rattle.std.proofs.Common.{◌≡◌, suc, true, List, [], ◌∷◌, map, length, refl, sym, ap, ap₂, Less}
use Rattle.std.proofs.lemmas.Bool.{true≢false, and_parts, leb-true}
use Rattle.std.proofs.lemmas.List.Elements.{recursion_from_All}
use Rattle.std.specs.List.{All, AllByRecursion, list_all}
use Rattle.std.specs.Ordering.{is_lt}
use Rattle.std.specs.Cmp.Lexicographic.{nat_list_cmp_total}
use Rattle.std.specs.Prelude.{◌≢◌, nat_le}
use Rattle.point_core.specs.declared.fault.Place.{Place}
use Rattle.base_core.proofs.SetOperatorLemmas.{is_lt-Less}
use Rattle.base_core.specs.Sets.{is_set_after, is_set}
use Rattle.utd_syntax.specs.Plain.{StatementP}
use Rattle.value_core.specs.declared.kind.Kind.{Kind}
use Rattle.value_core.specs.declared.list.OrdinalNames.{OrdinalNames}
use Rattle.value_core.specs.Limits.{most_attributes}
use Rattle.value_core.specs.Values.{Name, Row, Heading, name_cmp, attribute_cmp, is_heading, fits, fits_heading}
use Rattle.meaning_core.specs.Typing.{is_kind}
use Rattle.meaning_core.specs.WellMade.{sizes_of}
use Rattle.constant_laws.specs.Insertions.{MakesHeading, in_heading, Adding, IsPlainInsertion}
use Rattle.dump_core.specs.Inserts.{insert_script}
use Rattle.plain_rows.specs.Names.{AllBehind, Ascending}
use Rattle.plain_rows.proofs.OrderLemmas.{AreNames, shape-makes, row-stays}
use Rattle.text_laws.specs.Statements.{IsOneStatement}
use Rattle.text_laws.specs.Written.{IsWritten}
use Rattle.constant_texts.specs.Sayable.{IsSayableName, AreSayable, FitsRow}
use Rattle.constant_texts.proofs.InsertTrees.{AreFreeNames, IsInsertRead, statement-read}
use Rattle.constant_texts.proofs.NameLemmas.{IsWordName, word-name, name-is}
use Rattle.constant_texts.proofs.TupleLemmas.{AreWordNames, TuplesFound, tuples-found, statement-lexemes, statement-one}

-- ---- the heading

behind-all : (a b : Name × Kind) (rest : Heading) → name_cmp a.0 b.0 ≡ Less → AllBehind b rest → AllBehind a rest
behind-all a b [] less h = tt
behind-all a b (c ∷ rest) less h = (nat_list_cmp_total.trans a.0 b.0 c.0 less h.0, behind-all a b rest less h.1)

ascending-after : (a : Name × Kind) (rest : Heading) → is_set_after attribute_cmp a rest ≡ true → AllBehind a rest × Ascending rest
ascending-after a [] h = (tt, tt)
ascending-after a (b ∷ rest) h =
    let parts = and_parts (is_lt (attribute_cmp a b)) (is_set_after attribute_cmp b rest) h in
    let less : name_cmp a.0 b.0 ≡ Less = (is_lt-Less (attribute_cmp a b)).0 parts.0 in
    let more = ascending-after b rest parts.1 in
    ((less, behind-all a b rest less more.0), (more.0, more.1))

ascending : (heading : Heading) → is_set attribute_cmp heading ≡ true → Ascending heading
ascending [] h = tt
ascending (a ∷ rest) h = let more = ascending-after a rest h in (more.0, more.1)

word-names : (heading : Heading) → AllByRecursion (λ (a : Name × Kind). IsSayableName a.0) heading → AreWordNames heading
word-names [] h = tt
word-names (a ∷ heading) h = (word-name a.0 h.0, word-names heading h.1)

names-are : (heading : Heading) → AreWordNames heading → AreNames heading
names-are [] h = tt
names-are (a ∷ heading) h = (name-is a.0 h.0, names-are heading h.1)

names-free : (heading : Heading) → AreWordNames heading → AreFreeNames heading
names-free [] h = tt
names-free (a ∷ heading) h = (h.0.free, names-free heading h.1)

makes : (heading : Heading) → AreWordNames heading → is_heading heading ≡ true → MakesHeading heading heading
makes heading names h =
    let parts = and_parts (is_set attribute_cmp heading) (nat_le (length heading) most_attributes) h in
    record { made = shape-makes heading (names-are heading names) (ascending heading parts.0); few = leb-true (length heading) most_attributes parts.1 }

-- ---- rows

as-many : (heading : Heading) (row : Row) → fits_heading heading row ≡ true → length row ≡ length heading
as-many [] [] h = refl
as-many (a ∷ heading) (v ∷ row) h = ap suc (as-many heading row (and_parts (fits a.1 v) (fits_heading heading row) h).1)
as-many _ _ h = absurd (true≢false (sym h))

rows-stay : (heading : Heading) (rows : List Row) → Ascending heading → AllByRecursion (FitsRow heading) rows → rows ≡ map (in_heading heading heading) rows
rows-stay heading [] up h = refl
rows-stay heading (row ∷ rows) up h = ap₂ (λ (x : Row) (xs : List Row). x ∷ xs) (sym (row-stays heading row up (as-many heading row h.0))) (rows-stay heading rows up h.1)

-- ---- the law

read-so : (types : List OrdinalNames) (name : Name) (heading : Heading) (rows : List Row) → IsWordName name → AreWordNames heading → is_heading heading ≡ true → AllByRecursion (FitsRow heading) rows
    → rows ≢ [] → TuplesFound types heading rows → (p : Place)
    → IsInsertRead types p (insert_script types name heading rows) name heading rows
read-so types name heading [] named names headed fit some t p = absurd (some refl)
read-so types name heading (row ∷ rows) named names headed fit some t p =
    let set = and_parts (is_set attribute_cmp heading) (nat_le (length heading) most_attributes) headed in
    statement-read types name heading heading row rows (row ∷ rows) (insert_script types name heading (row ∷ rows)) t.parts (makes heading names headed) (names-free heading names) named.free
    (rows-stay heading (row ∷ rows) (ascending heading set.0) fit) t.written
    (statement-lexemes types name heading (row ∷ rows) named t) p

-- what is known of the tuples
module _ (types : List OrdinalNames) (name : Name) (heading : Heading) (rows : List Row) (s : AreSayable types name heading) (fit : All (FitsRow heading) rows) where
  parts-declared : (is_heading heading ≡ true) × (list_all (λ (a : Name × Kind). is_kind (sizes_of types) a.1) heading ≡ true)
  parts-declared = and_parts (is_heading heading) (list_all (λ (a : Name × Kind). is_kind (sizes_of types) a.1) heading) s.declared

  heading-names : AreWordNames heading
  heading-names = word-names heading (recursion_from_All (λ (a : Name × Kind). IsSayableName a.0) heading s.attributes)

  all-fit : AllByRecursion (FitsRow heading) rows
  all-fit = recursion_from_All (FitsRow heading) rows fit

  all-found : TuplesFound types heading rows
  all-found = tuples-found types s.different s.ordinals heading rows heading-names parts-declared.1 all-fit

  -- the statement is read as an insertion of just these rows, in their order
  pub insert-read : rows ≢ [] → (p : Place) → (tree : StatementP) × IsWritten p (insert_script types name heading rows) tree × IsPlainInsertion types Adding name heading rows tree
  insert-read some p =
      let r = read-so types name heading rows (word-name name s.named) heading-names parts-declared.0 all-fit some all-found p in
      (r.tree, r.written, r.plain)

  -- it is one statement
  pub insert-one : IsOneStatement (insert_script types name heading rows)
  insert-one = statement-one types name heading rows (word-name name s.named) all-found
