-- The numbers of the rows of a group.
use Rattle.std.proofs.Common.{◌≡◌, ℕ, zero, suc, ◌+◌, ◌<◌, List, [], ◌∷◌, ◌++◌, length, get_or, take, map, refl, sym, ap, ◌∙◌, subst, arith, Bool, true, false, cond, inl, inr}
use Rattle.std.specs.Cmp.{eq_by_cmp_equiv}
use Rattle.std.specs.List.{filter, All, Contains}
use Rattle.std.specs.Ordering.{eq_by_cmp}
use Rattle.std.proofs.lemmas.Bool.{true≢false}
use Rattle.base_core.proofs.SetLemmas.{In, In-in_order, In-from_Contains, Contains-from_In}
use Rattle.base_core.proofs.MemberLemmas.{In-map}
use Rattle.base_core.proofs.ListLemmas.{In-get_or}
use Rattle.value_core.specs.Order.{row_total, row_separates}
use Rattle.value_core.specs.Values.{Row, row_cmp}
use Rattle.relation_core.specs.Agreement.{part_of}
use Rattle.relation_core.specs.Groups.{numbers_from, numbers_where, rows_at, has_part, group, groups}
use Rattle.relation_core.specs.Keys.{keyed_from, has_key, IsIndexOf}
use Rattle.relation_core.specs.Parts.{projected}

-- ---- entries

pub keyed_more : (positions : List ℕ) (n : ℕ) (rows : List Row) (i k : ℕ) (d : Row) → i < length rows → k ≡ n + i
    → keyed_from positions n (take (i + 1) rows) ≡ keyed_from positions n (take i rows) ++ (part_of positions (get_or rows i d), k) ∷ []
keyed_more positions n rows i k d l e = let next : suc i ≡ i + 1 = omega arith in subst (λ m. keyed_from positions n (take m rows) ≡ keyed_from positions n (take i rows) ++ (part_of positions (get_or rows i d), k) ∷ []) next (more n rows i l e)
  where
    more : (n : ℕ) (rows : List Row) (i : ℕ) → i < length rows → k ≡ n + i → keyed_from positions n (take (suc i) rows) ≡ keyed_from positions n (take i rows) ++ (part_of positions (get_or rows i d), k) ∷ []
    more n [] i l e = absurd (omega arith)
    more n (x ∷ rows) zero l e = let here : n ≡ k = omega (arith, e) in ap (λ m. (part_of positions x, m) ∷ []) here
    more n (x ∷ rows) (suc i) l e = ap (λ zs. (part_of positions x, n) ∷ zs) (more (suc n) rows i (omega (arith, l)) (omega (arith, e)))

-- one row more
pub entry_more : (positions : List ℕ) (rows : List Row) (i : ℕ) (x key : Row) (before now : List (Row × ℕ)) → i < length rows → x ≡ get_or rows i x → key ≡ part_of positions x
    → before ≡ keyed_from positions 0 (take i rows) → now ≡ before ++ (key, i) ∷ [] → now ≡ keyed_from positions 0 (take (i + 1) rows)
entry_more positions rows i x key before now l is e so_far more =
    let whole = keyed_more positions 0 rows i i x l (omega arith) in
    let same : key ≡ part_of positions (get_or rows i x) = e ∙ ap (part_of positions) is in
    more ∙ (ap (λ (zs : List (Row × ℕ)). zs ++ (key, i) ∷ []) so_far ∙ (ap (λ k. keyed_from positions 0 (take i rows) ++ (k, i) ∷ []) same ∙ sym whole))

one_more : (b : Bool) (key part : Row) (n : ℕ) (entries : List (Row × ℕ)) (numbers : List ℕ) → map (λ (e : Row × ℕ). e.1) entries ≡ numbers
    → map (λ (e : Row × ℕ). e.1) (cond b ((part, n) ∷ entries) entries) ≡ cond b (n ∷ numbers) numbers
one_more true key part n entries numbers e = ap (λ zs. n ∷ zs) e
one_more false key part n entries numbers e = e

keyed_numbers : (positions : List ℕ) (key : Row) (n : ℕ) (rows : List Row) → map (λ (e : Row × ℕ). e.1) (filter (has_key key) (keyed_from positions n rows)) ≡ numbers_from (has_part positions key) n rows
keyed_numbers positions key n [] = refl
keyed_numbers positions key n (x ∷ rows) = one_more (has_part positions key x) key (part_of positions x) n _ _ (keyed_numbers positions key (suc n) rows)

-- what is found by a key in an index
pub found_numbers : (positions : List ℕ) (rows : List Row) (index : List (Row × ℕ)) (key : Row) → IsIndexOf positions rows index → map (λ (e : Row × ℕ). e.1) (filter (has_key key) index) ≡ group positions rows key
found_numbers positions rows index key is = ap (λ zs. map (λ (e : Row × ℕ). e.1) zs) (is.complete key) ∙ keyed_numbers positions key 0 rows

-- ---- rows

rows_from : (f : ℕ → Row) (test : Row → Bool) (n : ℕ) (rows : List Row) → ((j : ℕ) → j < length rows → f (n + j) ≡ get_or rows j []) → map f (numbers_from test n rows) ≡ filter test rows
rows_from f test n [] h = refl
rows_from f test n (x ∷ rows) h =
    let here : n + 0 ≡ n = omega arith in
    let first : f n ≡ x = ap f (sym here) ∙ h 0 (omega arith) in
    let rest = rows_from f test (suc n) rows (λ j l. let next : suc n + j ≡ n + suc j = omega arith in ap f next ∙ h (suc j) (omega (arith, l))) in
    elim (test x) as (λ b. map f (cond b (n ∷ numbers_from test (suc n) rows) (numbers_from test (suc n) rows)) ≡ cond b (x ∷ filter test rows) (filter test rows)) [
      | true ↦ ap (λ z. z ∷ map f (numbers_from test (suc n) rows)) first ∙ ap (λ zs. x ∷ zs) rest
      | false ↦ rest
    ]

pub rows_at-where : (test : Row → Bool) (rows : List Row) → rows_at rows (numbers_where test rows) ≡ filter test rows
rows_at-where test rows = rows_from (λ i. get_or rows i []) test 0 rows (λ j l. let here : 0 + j ≡ j = omega arith in ap (λ m. get_or rows m []) here)

-- a group's rows are those with its values at the positions
pub rows_at-group : (by : List ℕ) (rows : List Row) (key : Row) → rows_at rows (group by rows key) ≡ filter (has_part by key) rows
rows_at-group by rows key = rows_at-where (has_part by key) rows

-- ---- numbers

below_from : (test : Row → Bool) (n : ℕ) (rows : List Row) (i : ℕ) → In i (numbers_from test n rows) → i < n + length rows
below_from test n [] i h = absurd h
below_from test n (x ∷ rows) i h =
    let rest : In i (numbers_from test (suc n) rows) → i < n + length (x ∷ rows) = λ k. let b = below_from test (suc n) rows i k in omega (arith, b) in
    (elim (test x) as (λ b. In i (cond b (n ∷ numbers_from test (suc n) rows) (numbers_from test (suc n) rows)) → i < n + length (x ∷ rows)) [
      | true ↦ λ k. elim k [ inl e ↦ omega (arith, e) | inr j ↦ rest j ]
      | false ↦ λ k. rest k
    ]) h

pub where_within : (test : Row → Bool) (rows : List Row) → All (λ (i : ℕ). i < length rows) (numbers_where test rows)
where_within test rows k d l = let b = below_from test 0 rows (get_or (numbers_where test rows) k d) (In-get_or (numbers_where test rows) k d l) in omega (arith, b)

some_from : (test : Row → Bool) (n : ℕ) (rows : List Row) (x : Row) → In x rows → test x ≡ true → 0 < length (numbers_from test n rows)
some_from test n [] x i e = absurd i
some_from test n (y ∷ rows) x i e =
    (elim (test y) as (λ b. test y ≡ b → 0 < length (cond b (n ∷ numbers_from test (suc n) rows) (numbers_from test (suc n) rows))) [
      | true ↦ λ h. omega arith
      | false ↦ λ h. elim i [ inl same ↦ absurd (true≢false (sym e ∙ (ap test same ∙ h))) | inr j ↦ some_from test (suc n) rows x j e ]
    ]) refl

-- ---- groups

-- a group has the numbers of the rows with the values of one of them
pub group_key : (by : List ℕ) (rows : List Row) (g : List ℕ) → Contains (groups by rows) g → ((key : Row) × In key (projected by rows) × (g ≡ group by rows key))
group_key by rows g h = (In-map (group by rows) g (projected by rows)).0 (In-from_Contains (groups by rows) g h)

pub group_within : (by : List ℕ) (rows : List Row) (g : List ℕ) → Contains (groups by rows) g → All (λ (i : ℕ). i < length rows) g
group_within by rows g h =
    let w = group_key by rows g h in
    subst (λ (z : List ℕ). All (λ (i : ℕ). i < length rows) z) (sym w.2) (where_within (has_part by w.0) rows)

pub group_not_empty : (by : List ℕ) (rows : List Row) (g : List ℕ) → Contains (groups by rows) g → 0 < length g
group_not_empty by rows g h =
    let w = group_key by rows g h in
    let row = (In-map (part_of by) w.0 rows).0 ((In-in_order row_cmp row_total row_separates w.0 (map (part_of by) rows)).0 w.1) in
    let same : has_part by w.0 row.0 ≡ true = subst (λ k. eq_by_cmp row_cmp (part_of by row.0) k ≡ true) (sym row.2) ((eq_by_cmp_equiv row_total).refl (part_of by row.0)) in
    subst (λ (z : List ℕ). 0 < length z) (sym w.2) (some_from (has_part by w.0) 0 rows row.0 row.1 same)

-- the numbers of a key that is met are a group
pub a_group : (by : List ℕ) (rows keys : List Row) (i : ℕ) (key : Row) (numbers : List ℕ) → keys ≡ projected by rows → i < length keys → key ≡ get_or keys i key → numbers ≡ group by rows key
    → Contains (groups by rows) numbers
a_group by rows keys i key numbers all l is e =
    let here : In key (projected by rows) = subst (λ (ks : List Row). In key ks) all (subst (λ k. In k keys) (sym is) (In-get_or keys i key l)) in
    Contains-from_In (groups by rows) numbers ((In-map (group by rows) numbers (projected by rows)).1 (key, here, e))

pub of_groups : {Y : Type 0} (f : List ℕ → Y) (by : List ℕ) (rows : List Row) → map f (groups by rows) ≡ map (λ k. f (group by rows k)) (projected by rows)
of_groups f by rows = through (projected by rows)
  where
    through : (keys : List Row) → map f (map (group by rows) keys) ≡ map (λ k. f (group by rows k)) keys
    through [] = refl
    through (k ∷ keys) = ap (λ zs. f (group by rows k) ∷ zs) (through keys)
