-- Each row of what a typed expression means has a value for each attribute of its heading.
--     HaveLength      all rows of a list have so many values
--     IsFull, AreFull      so have the rows of a base relvar or a log, and of all
--     meaning-long      and those that an expression means
use Rattle.std.proofs.Common.{◌≡◌, inl, inr, ℕ, Bool, true, false, cond, nat_le, List, [], ◌∷◌, ◌++◌, map, filter, length, refl, sym, ap, ◌∙◌, subst, Some, Ok, Err}
use Rattle.std.specs.List.{flat_map}
use Rattle.std.proofs.lemmas.List.{length-map, length-set}
use Rattle.base_core.specs.Outcomes.{then_give, first_of_all, least_of_all}
use Rattle.base_core.proofs.MemberLemmas.{In-append, In-filter, In-flat_map, In-map}
use Rattle.base_core.proofs.OutcomeLemmas.{least_of_all-Ok, first_of_all-Ok}
use Rattle.base_core.proofs.SetLemmas.{In, In-in_order}
use Rattle.interval_core.specs.Members.{Span, members, at_point}
use Rattle.interval_core.specs.Packing.{unpack1, pack_each, pack1, is_longest}
use Rattle.point_core.specs.contracts.fault.FaultOrd.TheImpl.Laws.{total-law}
use Rattle.point_core.specs.declared.fault.Place.{Place}
use Rattle.point_core.specs.Faults.{OrFault, fault}
use Rattle.point_core.specs.Orders.{fault_order}
use Rattle.point_core.specs.declared.fault.Code.TheVariants.{E35}
use Rattle.value_core.specs.Attributes.{put_span, with_span, value_at, span_of}
use Rattle.value_core.specs.Order.{row_total, row_separates}
use Rattle.value_core.specs.RowPacking.{attribute, packed, unpacked}
use Rattle.value_core.specs.Values.{most_rows, Name, Value, Row, Heading, row_cmp, rows_of}
use Rattle.relation_core.specs.Agreement.{agree, matched, names_of, part_of, unmatched}
use Rattle.relation_core.specs.Groups.{groups, rows_at, summarized}
use Rattle.relation_core.specs.Joins.{joined_heading, joined_row, joined_pairs, joined}
use Rattle.relation_core.specs.Operators.{united, intersected, subtracted, is_true, restricted, extended}
use Rattle.relation_core.specs.Parts.{positions_in, projected, renamed}
use Rattle.tree_core.specs.declared.tree.InfixWord.{InfixWord}
use Rattle.tree_core.specs.declared.tree.InfixWord.TheVariants.{Union, Intersect, Minus, Join, Matching, NotMatching}
use Rattle.tree_core.specs.Trees.{PlainSets, PlainAggregate, Tree, named, literal, infix_of, project, rename, restrict, extend, summarize, pack, unpack, using, heading_of}
use Rattle.meaning_core.specs.Meanings.{RowsMeant, Known, at_name, limited, Around, plainly, in_using, list_of, told_at, positions_of, names_at, opened, closed, infix_rows, renamed_rows, condition, literal_rows, meaning}
use Rattle.meaning_core.specs.Names.{found}
use Rattle.meaning_core.specs.Places.{places}
use Rattle.meaning_core.specs.Rows.{set_names, values_on, extended_row, literal_row, aggregate_names, aggregates_on, first_row, group_row}
use Rattle.meaning_core.specs.Typing.{Headings, heading_named, IsInfix, IsTypedTree}
use Rattle.row_typing_laws.proofs.Parts.{parts-of}

-- ---- lists of rows

abbrev pub HaveLength : ℕ → List Row → Type 0
HaveLength n rows = (x : Row) → In x rows → length x ≡ n

pub long-set : (n : ℕ) (rows : List Row) → HaveLength n rows → HaveLength n (rows_of rows)
long-set n rows long x i = long x ((In-in_order row_cmp row_total row_separates x rows).0 i)

long-some : (n : ℕ) (p : Row → Bool) (rows : List Row) → HaveLength n rows → HaveLength n (filter p rows)
long-some n p rows long x i = long x ((In-filter p x rows).0 i).0

long-map : {A : Type 0} (n : ℕ) (f : A → Row) (list : List A) → ((a : A) → length (f a) ≡ n) → HaveLength n (map f list)
long-map n f list each x i = let w = (In-map f x list).0 i in ap length w.2 ∙ each w.0

long-united : (n : ℕ) (r s : List Row) → HaveLength n r → HaveLength n s → HaveLength n (rows_of (r ++ s))
long-united n r s one other = long-set n (r ++ s) (λ x i. elim ((In-append x r s).0 i) [ inl j ↦ one x j | inr j ↦ other x j ])

-- ---- packing and unpacking

pub long-put : (row : Row) (i : ℕ) (j : Span) → length (put_span row i j) ≡ length row
long-put row i j = length-set row i (with_span (value_at row i) j)

abbrev points_of : ℕ → Row → List Row
points_of i x = map (λ p. put_span x i (at_point p)) (members (span_of (value_at x i)))

abbrev ends_of : ℕ → List Row → Row → List Row
ends_of i rows x = map (λ (z : Row). put_span x i ((span_of (value_at x i)).0, (span_of (value_at z i)).1)) rows

long-flat : (n : ℕ) (f : Row → List Row) (rows : List Row) → ((x : Row) → length x ≡ n → HaveLength n (f x)) → HaveLength n rows → HaveLength n (flat_map f rows)
long-flat n f rows each long x k = let of = (In-flat_map f x rows).0 k in each of.0 (long of.0 of.1) x of.2

long-unpacked1 : (n i : ℕ) (rows : List Row) → HaveLength n rows → HaveLength n (unpack1 row_cmp (attribute i) rows)
long-unpacked1 n i rows long =
    long-set n (flat_map (points_of i) rows)
    (long-flat n (points_of i) rows (λ x l. long-map n (λ p. put_span x i (at_point p)) (members (span_of (value_at x i))) (λ p. long-put x i (at_point p) ∙ l)) long)

long-packed1 : (n i : ℕ) (rows : List Row) → HaveLength n rows → HaveLength n (pack1 row_cmp (attribute i) rows)
long-packed1 n i rows long =
    long-set n (filter (is_longest row_cmp (attribute i) rows) (flat_map (ends_of i rows) rows))
    (long-some n (is_longest row_cmp (attribute i) rows) (flat_map (ends_of i rows) rows)
    (long-flat n (ends_of i rows) rows (λ x l.
    long-map n (λ (z : Row). put_span x i ((span_of (value_at x i)).0, (span_of (value_at z i)).1)) rows (λ z. long-put x i ((span_of (value_at x i)).0, (span_of (value_at z i)).1) ∙ l)) long))

pub long-unpacked : (n : ℕ) (commalist : List ℕ) (rows : List Row) → HaveLength n rows → HaveLength n (unpacked commalist rows)
long-unpacked n [] rows long = long
long-unpacked n (i ∷ rest) rows long = long-unpacked n rest (unpack1 row_cmp (attribute i) rows) (long-unpacked1 n i rows long)

long-packed-each : (n : ℕ) (commalist : List ℕ) (rows : List Row) → HaveLength n rows → HaveLength n (pack_each row_cmp (map attribute commalist) rows)
long-packed-each n [] rows long = long
long-packed-each n (i ∷ rest) rows long = long-packed-each n rest (pack1 row_cmp (attribute i) rows) (long-packed1 n i rows long)

pub long-packed : (n : ℕ) (commalist : List ℕ) (rows : List Row) → HaveLength n rows → HaveLength n (packed commalist rows)
long-packed n commalist rows long = long-packed-each n commalist (unpacked commalist rows) (long-unpacked n commalist rows long)

-- ---- operators

-- the rows that were limited
long-limited : (n : ℕ) (place : Place) (rows out : List Row) → limited place rows ≡ Ok out → HaveLength n rows → HaveLength n out
long-limited n place rows out e long = by (nat_le (length rows) most_rows) e
  where
    by : (b : Bool) → cond b (Ok rows) (Err (fault place E35)) ≡ Ok out → HaveLength n out
    by true f = let same : rows ≡ out = cc in subst (HaveLength n) same long
    by false f = absurd (cc)

long-closed : (n : ℕ) (around : Around) (place : Place) (heading : Heading) (rows out : List Row) → closed around place heading rows ≡ Ok out → HaveLength n rows → HaveLength n out
long-closed n around place heading rows out e long =
    let commalist : List ℕ = positions_of heading (list_of around) in
    long-limited n (told_at around place) (packed commalist rows) out e (long-packed n commalist rows long)

long-opened : (n : ℕ) (around : Around) (heading : Heading) (rows : List Row) → HaveLength n rows → HaveLength n (opened around heading rows)
long-opened n around heading rows long = long-unpacked n (positions_of heading (list_of around)) rows long

-- a row that is put together of values at positions has as many as there are positions
long-part : (positions : List ℕ) (row : Row) → length (part_of positions row) ≡ length positions
long-part positions row = length-map positions _

positions-long : (list heading : Heading) → length (positions_in list heading) ≡ length heading
positions-long list heading = length-map (names_of heading) _ ∙ length-map heading _

places-long : (names : List Name) (heading : Heading) → length (places names heading) ≡ length heading
places-long names heading = length-map heading _

long-joined : (left right : Heading) (r s : List Row) → HaveLength (length (joined_heading left right)) (joined left right r s)
long-joined left right r s =
    let at : List ℕ = positions_in (left ++ right) (joined_heading left right) in
    let n : ℕ = length (joined_heading left right) in
    long-set n (joined_pairs left right r s) (λ x i.
    let of = (In-flat_map (λ (y : Row). map (joined_row left right y) (filter (agree left right y) s)) x r).0 i in
    let with = (In-map (joined_row left right of.0) x (filter (agree left right of.0) s)).0 of.2 in
    ap length with.2 ∙ (long-part at (of.0 ++ with.0) ∙ positions-long (left ++ right) (joined_heading left right)))

long-infix : (word : InfixWord) (left right h : Heading) (r s : List Row) → IsInfix word left right h → HaveLength (length left) r → HaveLength (length right) s
    → HaveLength (length h) (infix_rows word left right r s)
long-infix Union left right h r s is one other =
    subst (λ (g : Heading). HaveLength (length g) (united r s)) (sym is.1) (long-united (length left) r s one (subst (λ (g : Heading). HaveLength (length g) s) (sym is.0) other))
long-infix Intersect left right h r s is one other = subst (λ (g : Heading). HaveLength (length g) (intersected r s)) (sym is.1) (long-some (length left) _ r one)
long-infix Minus left right h r s is one other = subst (λ (g : Heading). HaveLength (length g) (subtracted r s)) (sym is.1) (long-some (length left) _ r one)
long-infix Join left right h r s is one other = subst (λ (g : Heading). HaveLength (length g) (joined left right r s)) (sym is.1) (long-joined left right r s)
long-infix Matching left right h r s is one other = subst (λ (g : Heading). HaveLength (length g) (matched left right r s)) (sym is.1) (long-some (length left) _ r one)
long-infix NotMatching left right h r s is one other = subst (λ (g : Heading). HaveLength (length g) (unmatched left right r s)) (sym is.1) (long-some (length left) _ r one)

-- ---- rows that nodes make

long-projected : (kept : List ℕ) (rows : List Row) → HaveLength (length kept) (projected kept rows)
long-projected kept rows = long-set (length kept) (map (part_of kept) rows) (long-map (length kept) (part_of kept) rows (λ x. long-part kept x))

long-restricted : (n : ℕ) (test : Row → OrFault Bool) (rows out : List Row) → restricted test rows ≡ Ok out → HaveLength n rows → HaveLength n out
long-restricted n test rows out e long =
    let given = parts-of (least_of_all fault_order (map test rows)) (λ _. Ok (filter (λ x. is_true (test x)) rows)) out e in
    let same : filter (λ x. is_true (test x)) rows ≡ out = (let f = given.2 in cc) in
    subst (HaveLength n) same (long-some n (λ x. is_true (test x)) rows long)

-- all values of a list that a function gives
given-each : {A : Type 0} (n : ℕ) (f : A → OrFault Row) → ((a : A) (row : Row) → f a ≡ Ok row → length row ≡ n) → (list : List A) (rows : List Row)
    → map f list ≡ map (λ (v : Row). Ok v) rows → HaveLength n rows
given-each n f each [] [] e x i = absurd i
given-each n f each [] (r ∷ rows) e x i = absurd (cc)
given-each n f each (a ∷ list) [] e x i = absurd i
given-each n f each (a ∷ list) (r ∷ rows) e x i =
    elim i [
      | inl same ↦ ap length same ∙ each a r (let g = e in cc)
      | inr more ↦ given-each n f each list rows (let g = e in cc) x more
    ]

long-extended : (n : ℕ) (f : Row → OrFault Row) → ((a : Row) (row : Row) → f a ≡ Ok row → length row ≡ n) → (rows out : List Row) → extended f rows ≡ Ok out → HaveLength n out
long-extended n f each rows out e =
    let given = parts-of (least_of_all fault_order (map f rows)) (λ list. Ok (rows_of list)) out e in
    let same : rows_of given.0 ≡ out = (let g = given.2 in cc) in
    subst (HaveLength n) same (long-set n given.0 (given-each n f each rows given.0 (first_of_all-Ok (map f rows) given.0 ((least_of_all-Ok fault_order total-law (map f rows) given.0).0 given.1))))

made-row : (at : List ℕ) (more : List Value → Row) (m : OrFault (List Value)) (row : Row) → then_give m (λ made. Ok (part_of at (more made))) ≡ Ok row → length row ≡ length at
made-row at more m row e =
    let given = parts-of m (λ made. Ok (part_of at (more made))) row e in
    let same : part_of at (more given.0) ≡ row = (let g = given.2 in cc) in
    ap length (sym same) ∙ long-part at (more given.0)

long-extended-row : (from to : Heading) (sets : PlainSets) (x row : Row) → extended_row from to sets x ≡ Ok row → length row ≡ length to
long-extended-row from to sets x row e =
    let at : List ℕ = places (set_names sets ++ names_of from) to in
    made-row at (λ made. made ++ x) (values_on x sets) row e ∙ places-long (set_names sets ++ names_of from) to

long-group-row : (from to : Heading) (aggregates : List PlainAggregate) (rows : List Row) (row : Row) → group_row from to aggregates rows ≡ Ok row → length row ≡ length to
long-group-row from to aggregates rows row e =
    let at : List ℕ = places (aggregate_names aggregates ++ names_of from) to in
    made-row at (λ made. made ++ first_row rows) (aggregates_on rows aggregates) row e ∙ places-long (aggregate_names aggregates ++ names_of from) to

long-literal : (heading : Heading) (tuples : List PlainSets) (out : List Row) → literal_rows heading tuples ≡ Ok out → HaveLength (length heading) out
long-literal heading tuples out e =
    let given = parts-of (first_of_all (map (literal_row heading) tuples)) (λ rows. Ok (rows_of rows)) out e in
    let same : rows_of given.0 ≡ out = (let g = given.2 in cc) in
    subst (HaveLength (length heading)) same
    (long-set (length heading) given.0
    (given-each (length heading) (literal_row heading) (λ tuple row f. long-extended-row [] heading tuple [] row f) tuples given.0 (first_of_all-Ok (map (literal_row heading) tuples) given.0 given.1)))

long-summarized : (n : ℕ) (by : List ℕ) (f : List ℕ → OrFault Row) → ((g : List ℕ) (row : Row) → f g ≡ Ok row → length row ≡ n) → (rows out : List Row) → summarized by f rows ≡ Ok out → HaveLength n out
long-summarized n by f each rows out e =
    let given = parts-of (least_of_all fault_order (map f (groups by rows))) (λ list. Ok (rows_of list)) out e in
    let same : rows_of given.0 ≡ out = (let g = given.2 in cc) in
    subst (HaveLength n) same
    (long-set n given.0 (given-each n f each (groups by rows) given.0 (first_of_all-Ok (map f (groups by rows)) given.0 ((least_of_all-Ok fault_order total-law (map f (groups by rows)) given.0).0 given.1))))

-- ---- expressions

long-name : (n : ℕ) (place : Place) (m : RowsMeant) (out : List Row) → ((rows : List Row) → m ≡ Ok rows → HaveLength n rows) → then_give (at_name place m) (limited place) ≡ Ok out → HaveLength n out
long-name n place (Ok rows) out long e = long-limited n place rows out e (long rows refl)
long-name n place (Err fault) out long e = absurd (cc)

-- what the names mean is as long as their headings
abbrev pub AreKnownLong : Headings → Known → Type 0
AreKnownLong headings known = (name : Name) (h : Heading) → heading_named headings name ≡ Some h → (rows : List Row) → found (Ok []) known name ≡ Ok rows → HaveLength (length h) rows

module _ (sizes : List ℕ) (headings : Headings) (known : Known) (knows : AreKnownLong headings known) where
  pub meaning-long : (around : Around) (t : Tree) → IsTypedTree sizes headings t → (out : List Row) → meaning known around t ≡ Ok out → HaveLength (length (heading_of t)) out
  meaning-long around (named place h name) typed out e = long-name (length h) place (found (Ok []) known name) out (knows name h typed) e
  meaning-long around (literal place h tuples) typed out e =
      let given = parts-of (literal_rows h tuples) (limited place) out e in
      long-limited (length h) place given.0 out given.2 (long-literal h tuples given.0 given.1)
  meaning-long around (infix_of place h word l r) typed out e =
      let f : List Row → List Row → RowsMeant = λ a b. closed around place h (infix_rows word (heading_of l) (heading_of r) (opened around (heading_of l) a) (opened around (heading_of r) b)) in
      let one = parts-of (meaning known plainly l) (λ a. then_give (meaning known plainly r) (f a)) out e in
      let other = parts-of (meaning known plainly r) (f one.0) out one.2 in
      long-closed (length h) around place h _ out other.2
      (long-infix word (heading_of l) (heading_of r) h _ _ typed.2
      (long-opened (length (heading_of l)) around (heading_of l) one.0 (meaning-long plainly l typed.0 one.0 one.1))
      (long-opened (length (heading_of r)) around (heading_of r) other.0 (meaning-long plainly r typed.1 other.0 other.1)))
  meaning-long around (project place h kept t) typed out e =
      let one = parts-of (meaning known plainly t) (λ a. closed around place h (projected kept (opened around (heading_of t) a))) out e in
      let size : length kept ≡ length h = sym (ap length typed.1.headed ∙ length-map kept _) in
      long-closed (length h) around place h _ out one.2 (subst (λ (n : ℕ). HaveLength n (projected kept (opened around (heading_of t) one.0))) size (long-projected kept (opened around (heading_of t) one.0)))
  meaning-long around (rename place h names t) typed out e =
      let one = parts-of (meaning known plainly t) (λ a. limited place (renamed_rows (heading_of t) h names a)) out e in
      let at : List ℕ = positions_in (renamed names (heading_of t)) h in
      long-limited (length h) place _ out one.2 (subst (λ (n : ℕ). HaveLength n (projected at one.0)) (positions-long (renamed names (heading_of t)) h) (long-projected at one.0))
  meaning-long around (restrict place h c t) typed out e =
      let one = parts-of (meaning known plainly t) (λ a. then_give (restricted (condition c) (opened around (heading_of t) a)) (closed around place h)) out e in
      let two = parts-of (restricted (condition c) (opened around (heading_of t) one.0)) (closed around place h) out one.2 in
      long-closed (length h) around place h two.0 out two.2
      (long-restricted (length h) (condition c) _ two.0 two.1
      (subst (λ (g : Heading). HaveLength (length g) (opened around (heading_of t) one.0)) (sym typed.1.headed)
      (long-opened (length (heading_of t)) around (heading_of t) one.0 (meaning-long plainly t typed.0 one.0 one.1))))
  meaning-long around (extend place h sets t) typed out e =
      let f : Row → OrFault Row = extended_row (heading_of t) h sets in
      let one = parts-of (meaning known plainly t) (λ a. then_give (extended f (opened around (heading_of t) a)) (closed around place h)) out e in
      let two = parts-of (extended f (opened around (heading_of t) one.0)) (closed around place h) out one.2 in
      long-closed (length h) around place h two.0 out two.2
      (long-extended (length h) f (λ x row. long-extended-row (heading_of t) h sets x row) (opened around (heading_of t) one.0) two.0 two.1)
  meaning-long around (summarize place h by aggregates t) typed out e =
      let one = parts-of (meaning known plainly t) (λ a.
      then_give (summarized by (λ numbers. group_row (heading_of t) h aggregates (rows_at (opened around (heading_of t) a) numbers)) (opened around (heading_of t) a)) (closed around place h)) out e in
      let rows : List Row = opened around (heading_of t) one.0 in
      let two = parts-of (summarized by (λ numbers. group_row (heading_of t) h aggregates (rows_at rows numbers)) rows) (closed around place h) out one.2 in
      long-closed (length h) around place h two.0 out two.2
      (long-summarized (length h) by (λ numbers. group_row (heading_of t) h aggregates (rows_at rows numbers)) (λ numbers row. long-group-row (heading_of t) h aggregates (rows_at rows numbers) row) rows two.0 two.1)
  meaning-long around (pack place h commalist t) typed out e =
      let one = parts-of (meaning known plainly t) (λ a. limited place (packed commalist a)) out e in
      long-limited (length h) place _ out one.2
      (subst (λ (g : Heading). HaveLength (length g) (packed commalist one.0)) (sym typed.2) (long-packed (length (heading_of t)) commalist one.0 (meaning-long plainly t typed.0 one.0 one.1)))
  meaning-long around (unpack place h commalist t) typed out e =
      let one = parts-of (meaning known plainly t) (λ a. limited place (unpacked commalist a)) out e in
      long-limited (length h) place _ out one.2
      (subst (λ (g : Heading). HaveLength (length g) (unpacked commalist one.0)) (sym typed.2) (long-unpacked (length (heading_of t)) commalist one.0 (meaning-long plainly t typed.0 one.0 one.1)))
  meaning-long around (using place h commalist t) typed out e =
      subst (λ (g : Heading). HaveLength (length g) out) (sym typed.2) (meaning-long (in_using place (names_at (heading_of t) commalist)) t typed.0 out e)
