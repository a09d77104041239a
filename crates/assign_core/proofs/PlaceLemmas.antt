-- A row that is put in place of another one.
--     turned_left, turned_right      what a part of rows is after a turn by one row
--     renewed_one      the rows after one has come and another one has gone
use Rattle.std.proofs.Common.{◌≡◌, ◌⊎◌, inl, inr, ℕ, zero, suc, ◌+◌, ◌-◌, take, drop, ◌<◌, ◌≤◌, List, [], ◌∷◌, ◌++◌, length, get_or, set, refl, sym, ap, ap₂, subst, ◌∙◌, arith, Err, Equal}
use Rattle.std.proofs.lemmas.List.{append-nil, append_assoc, length-append}
use Rattle.std.specs.Prelude.{slice_range}
use Rattle.std.specs.List.{insert, remove, HoldsAt}
use Rattle.std.specs.List.Sorted.{IsStrictlySortedBy, IsBinarySearchResult}
use Rattle.base_core.specs.Sets.{put}
use Rattle.base_core.proofs.SetLemmas.{Ascends, Ascends-put, Ascends-from_sorted}
use Rattle.value_core.specs.Values.{Row, row_cmp}
use Rattle.value_core.specs.Order.{row_total, row_separates}
use Rattle.value_core.proofs.PlacingLemmas.{put_missing}
use Rattle.relation_core.specs.Operators.{subtracted}
use Rattle.relation_core.proofs.FilterLemmas.{ended, take_all}
use Rattle.row_removal.proofs.RemovalLemmas.{found_at}

-- ---- a part of rows that is written back

part_long : (rest part : List Row) → length part ≤ length rest → length (part ++ drop (length part) rest) ≡ length rest
part_long rest [] l = refl
part_long [] (p ∷ ps) l = absurd (omega (arith, l))
part_long (y ∷ ys) (p ∷ ps) l = ap suc (part_long ys ps (omega (arith, l)))

back_long : (rows part : List Row) (from : ℕ) → from + length part ≤ length rows → length (take from rows ++ (part ++ drop (length part) (drop from rows))) ≡ length rows
back_long rows part zero l = part_long rows part (omega (arith, l))
back_long [] part (suc from) l = absurd (omega (arith, l))
back_long (y ∷ ys) part (suc from) l = ap suc (back_long ys part from (omega (arith, l)))

nothing_behind : (rows whole : List Row) (long : ℕ) → length whole ≡ length rows → long ≡ length rows → take long (whole ++ drop (length whole) rows) ≡ whole
nothing_behind rows whole long e l =
    ap (λ (rs : List Row). take long (whole ++ rs)) (ended (length whole) rows (omega (arith, e)))
    ∙ (ap (λ (rs : List Row). take long rs) (append-nil whole) ∙ take_all long whole (omega (arith, e, l)))

-- ---- turned by one row

behind_one : (ys : List Row) (k : ℕ) (x : Row) → k ≤ length ys → drop (length (take k ys ++ x ∷ [])) (x ∷ ys) ≡ drop k ys
behind_one ys k x l = ap (λ (n : ℕ). drop n (x ∷ ys)) (long ys k x l)
  where
    long : (zs : List Row) (n : ℕ) (w : Row) → n ≤ length zs → length (take n zs ++ w ∷ []) ≡ suc n
    long zs zero w m = refl
    long [] (suc n) w m = absurd (omega (arith, m))
    long (z ∷ zs) (suc n) w m = ap suc (long zs n w (omega (arith, m)))

left_whole : (rows : List Row) (from k to : ℕ) (x : Row) → to ≡ from + k → to < length rows
    → let part = take (suc k) (drop from (set rows from x)) in
    take from (set rows from x) ++ ((drop 1 part ++ take 1 part) ++ drop (length (drop 1 part ++ take 1 part)) (drop from (set rows from x))) ≡ insert (remove rows from) to x
left_whole [] from k to x e l = absurd (omega (arith, l))
left_whole (y ∷ ys) zero k to x e l =
    let same : k ≡ to = omega (arith, e) in
    let within : k ≤ length ys = omega (arith, e, l) in
    ap (λ (rs : List Row). (take k ys ++ x ∷ []) ++ rs) (behind_one ys k x within)
    ∙ (append_assoc (take k ys) (x ∷ []) (drop k ys) ∙ ap (λ (n : ℕ). take n ys ++ x ∷ drop n ys) same)
left_whole (y ∷ ys) (suc from) k zero x e l = absurd (omega (arith, e))
left_whole (y ∷ ys) (suc from) k (suc to) x e l = ap (λ (rs : List Row). y ∷ rs) (left_whole ys from k to x (omega (arith, e)) (omega (arith, l)))

last_of : (rows : List Row) (k : ℕ) (x : Row) → k < length rows → drop k (take (suc k) (set rows k x)) ≡ x ∷ []
last_of [] k x l = absurd (omega (arith, l))
last_of (y ∷ ys) zero x l = refl
last_of (y ∷ ys) (suc k) x l = last_of ys k x (omega (arith, l))

first_of : (rows : List Row) (k : ℕ) (x : Row) → k < length rows → take k (take (suc k) (set rows k x)) ≡ take k rows
first_of [] k x l = absurd (omega (arith, l))
first_of (y ∷ ys) zero x l = refl
first_of (y ∷ ys) (suc k) x l = ap (λ (rs : List Row). y ∷ rs) (first_of ys k x (omega (arith, l)))

behind_of : (rows : List Row) (k : ℕ) (x : Row) → k < length rows → drop (length (x ∷ take k rows)) (set rows k x) ≡ drop (suc k) rows
behind_of [] k x l = absurd (omega (arith, l))
behind_of (y ∷ ys) zero x l = refl
behind_of (y ∷ ys) (suc k) x l = behind_of ys k x (omega (arith, l))

right_whole : (rows : List Row) (from k to : ℕ) (x : Row) → from ≡ to + k → from < length rows
    → let part = take (suc k) (drop to (set rows from x)) in
    take to (set rows from x) ++ ((drop k part ++ take k part) ++ drop (length (drop k part ++ take k part)) (drop to (set rows from x))) ≡ insert (remove rows from) to x
right_whole [] from k to x e l = absurd (omega (arith, l))
right_whole (y ∷ ys) from k zero x e l =
    let same : from ≡ k = omega (arith, e) in
    let within : k < length (y ∷ ys) = omega (arith, e, l) in
    subst (λ (n : ℕ). (drop k (take (suc k) (set (y ∷ ys) n x)) ++ take k (take (suc k) (set (y ∷ ys) n x)))
    ++ drop (length (drop k (take (suc k) (set (y ∷ ys) n x)) ++ take k (take (suc k) (set (y ∷ ys) n x)))) (set (y ∷ ys) n x) ≡ x ∷ remove (y ∷ ys) n) (sym same)
    (ap₂ (λ (a b : List Row). (a ++ b) ++ drop (length (a ++ b)) (set (y ∷ ys) k x)) (last_of (y ∷ ys) k x within) (first_of (y ∷ ys) k x within)
    ∙ ap (λ (rs : List Row). x ∷ (take k (y ∷ ys) ++ rs)) (behind_of (y ∷ ys) k x within))
right_whole (y ∷ ys) zero k (suc to) x e l = absurd (omega (arith, e))
right_whole (y ∷ ys) (suc from) k (suc to) x e l = ap (λ (rs : List Row). y ∷ rs) (right_whole ys from k to x (omega (arith, e)) (omega (arith, l)))

long_set : (rows : List Row) (i : ℕ) (x : Row) → length (set rows i x) ≡ length rows
long_set [] i x = refl
long_set (y ∷ ys) zero x = refl
long_set (y ∷ ys) (suc i) x = ap suc (long_set ys i x)

long_part : (rows : List Row) (from k : ℕ) → from + k ≤ length rows → length (take k (drop from rows)) ≡ k
long_part rows zero zero l = refl
long_part [] zero (suc k) l = absurd (omega (arith, l))
long_part (y ∷ ys) zero (suc k) l = ap suc (long_part ys zero k (omega (arith, l)))
long_part [] (suc from) k l = absurd (omega (arith, l))
long_part (y ∷ ys) (suc from) k l = long_part ys from k (omega (arith, l))

turned_long : (part : List Row) (k : ℕ) → length (drop k part ++ take k part) ≡ length part
turned_long part zero = ap (λ (rs : List Row). length rs) (append-nil part)
turned_long [] (suc k) = refl
turned_long (p ∷ ps) (suc k) = length-append (drop k ps) (p ∷ take k ps) ∙ more (length (drop k ps)) (length (take k ps)) (length ps) (sym (length-append (drop k ps) (take k ps)) ∙ turned_long ps k)
  where
    more : (a b n : ℕ) → a + b ≡ n → a + suc b ≡ suc n
    more a b n e = omega (arith, e)

pub turned_left : (rows now part turned : List Row) (from to long : ℕ) (x : Row) → from < to → to < length rows → now ≡ set rows from x → part ≡ slice_range now from (to + 1)
    → turned ≡ drop 1 part ++ take 1 part → long ≡ length rows
    → take long ((take from now ++ (turned ++ drop (length turned) (drop from now))) ++ drop (length (take from now ++ (turned ++ drop (length turned) (drop from now)))) now) ≡ insert (remove rows from) to x
turned_left rows now part turned from to long x less l is cut turn lng =
    let k = to - from in
    let many : to + 1 - from ≡ suc k = omega (arith, less) in
    let kept : length now ≡ length rows = ap (λ (rs : List Row). length rs) is ∙ long_set rows from x in
    let size : length part ≡ suc k = ap (λ (rs : List Row). length rs) cut ∙ (ap (λ (n : ℕ). length (take n (drop from now))) many ∙ long_part now from (suc k) (omega (arith, kept, less, l))) in
    let fits : length turned ≡ suc k = ap (λ (rs : List Row). length rs) turn ∙ (turned_long part 1 ∙ size) in
    nothing_behind now (take from now ++ (turned ++ drop (length turned) (drop from now))) long (back_long now turned from (omega (arith, kept, fits, less, l))) (lng ∙ sym kept)
    ∙ (λ i. take from (is i) ++ ((all i) ++ drop (length (all i)) (drop from (is i))))
    ∙ left_whole rows from k to x (omega (arith, less)) l
  where
    one : part ≡ take (suc (to - from)) (drop from (set rows from x))
    one = let many : to + 1 - from ≡ suc (to - from) = omega (arith, less) in cut ∙ (λ i. take (many i) (drop from (is i)))

    all : turned ≡ drop 1 (take (suc (to - from)) (drop from (set rows from x))) ++ take 1 (take (suc (to - from)) (drop from (set rows from x)))
    all = turn ∙ ap (λ (rs : List Row). drop 1 rs ++ take 1 rs) one

pub turned_right : (rows now part turned : List Row) (from to long : ℕ) (x : Row) → to ≤ from → from < length rows → now ≡ set rows from x → part ≡ slice_range now to (from + 1)
    → turned ≡ drop (length part - 1) part ++ take (length part - 1) part → long ≡ length rows
    → take long ((take to now ++ (turned ++ drop (length turned) (drop to now))) ++ drop (length (take to now ++ (turned ++ drop (length turned) (drop to now)))) now) ≡ insert (remove rows from) to x
turned_right rows now part turned from to long x less l is cut turn lng =
    nothing_behind now (take to now ++ (turned ++ drop (length turned) (drop to now))) long (back_long now turned to (omega (arith, kept, fits, less, l))) (lng ∙ sym kept)
    ∙ (λ i. take to (is i) ++ ((all i) ++ drop (length (all i)) (drop to (is i))))
    ∙ right_whole rows from (from - to) to x (omega (arith, less)) l
  where
    many : from + 1 - to ≡ suc (from - to)
    many = omega (arith, less)

    kept : length now ≡ length rows
    kept = ap (λ (rs : List Row). length rs) is ∙ long_set rows from x

    size : length part ≡ suc (from - to)
    size = ap (λ (rs : List Row). length rs) cut ∙ (ap (λ (n : ℕ). length (take n (drop to now))) many ∙ long_part now to (suc (from - to)) (omega (arith, kept, less, l)))

    fits : length turned ≡ suc (from - to)
    fits = ap (λ (rs : List Row). length rs) turn ∙ (turned_long part (length part - 1) ∙ size)

    one : part ≡ take (suc (from - to)) (drop to (set rows from x))
    one = cut ∙ (λ i. take (many i) (drop to (is i)))

    before : length part - 1 ≡ from - to
    before = omega (arith, size)

    all : turned ≡ drop (from - to) (take (suc (from - to)) (drop to (set rows from x))) ++ take (from - to) (take (suc (from - to)) (drop to (set rows from x)))
    all = turn ∙ ap₂ (λ (n : ℕ) (rs : List Row). drop n rs ++ take n rs) before one

-- ---- one row comes, and another one goes

later_put : (rows : List Row) (to from : ℕ) (x : Row) → to ≤ from → from < length rows → remove (insert rows to x) (suc from) ≡ insert (remove rows from) to x
later_put [] to from x le l = absurd (omega (arith, l))
later_put (y ∷ ys) zero from x le l = refl
later_put (y ∷ ys) (suc to) zero x le l = absurd (omega (arith, le))
later_put (y ∷ ys) (suc to) (suc from) x le l = ap (λ (rs : List Row). y ∷ rs) (later_put ys to from x (omega (arith, le)) (omega (arith, l)))

sooner_put : (rows : List Row) (to from : ℕ) (x : Row) → from ≤ to → to < length rows → remove (insert rows (suc to) x) from ≡ insert (remove rows from) to x
sooner_put [] to from x le l = absurd (omega (arith, l))
sooner_put (y ∷ ys) to zero x le l = refl
sooner_put (y ∷ ys) zero (suc from) x le l = absurd (omega (arith, le))
sooner_put (y ∷ ys) (suc to) (suc from) x le l = ap (λ (rs : List Row). y ∷ rs) (sooner_put ys to from x (omega (arith, le)) (omega (arith, l)))

later_row : (rows : List Row) (to from : ℕ) (x d : Row) → to ≤ from → get_or (insert rows to x) (suc from) d ≡ get_or rows from d
later_row rows zero from x d le = refl
later_row rows (suc to) zero x d le = absurd (omega (arith, le))
later_row [] (suc to) (suc from) x d le = refl
later_row (y ∷ ys) (suc to) (suc from) x d le = later_row ys to from x d (omega (arith, le))

sooner_row : (rows : List Row) (to from : ℕ) (x d : Row) → from < to → from < length rows → get_or (insert rows to x) from d ≡ get_or rows from d
sooner_row rows zero from x d l m = absurd (omega (arith, l))
sooner_row [] (suc to) from x d l m = absurd (omega (arith, m))
sooner_row (y ∷ ys) (suc to) zero x d l m = refl
sooner_row (y ∷ ys) (suc to) (suc from) x d l m = sooner_row ys to from x d (omega (arith, l)) (omega (arith, m))

long_insert : (rows : List Row) (to : ℕ) (x : Row) → to ≤ length rows → length (insert rows to x) ≡ suc (length rows)
long_insert rows zero x l = refl
long_insert [] (suc to) x l = absurd (omega (arith, l))
long_insert (y ∷ ys) (suc to) x l = ap suc (long_insert ys to x (omega (arith, l)))

pub renewed_one : (rows : List Row) (x gone : Row) (from at to : ℕ) → IsStrictlySortedBy row_cmp rows → from < length rows → HoldsAt (λ y. row_cmp y gone ≡ Equal) rows from → at ≤ length rows
    → IsBinarySearchResult (λ y. row_cmp y x) rows (Err at) → (((from < at) × (at ≡ suc to)) ⊎ ((at ≤ from) × (at ≡ to))) → insert (remove rows from) to x ≡ subtracted (put row_cmp x rows) (gone ∷ [])
renewed_one rows x gone from at to sorted l found within missing which =
    let is : insert rows at x ≡ put row_cmp x rows = put_missing rows x at sorted within missing in
    let up : Ascends row_cmp (insert rows at x) = subst (λ (rs : List Row). Ascends row_cmp rs) (sym is) (Ascends-put row_cmp row_total row_separates x rows (Ascends-from_sorted row_cmp rows sorted)) in
    let many = long_insert rows at x within in
    elim which [
      | inl before ↦
          sym (subst (λ (n : ℕ). remove (insert rows n x) from ≡ insert (remove rows from) to x) (sym before.1) (sooner_put rows to from x (omega (arith, before.0, before.1)) (omega (arith, before.1, within))))
          ∙ (found_at (insert rows at x) gone from up (omega (arith, many, l)) (λ d. ap (λ (y : Row). row_cmp y gone) (sooner_row rows at from x d before.0 l) ∙ found d)
          ∙ ap (λ (rs : List Row). subtracted rs (gone ∷ [])) is)
      | inr behind ↦
          sym (subst (λ (n : ℕ). remove (insert rows n x) (suc from) ≡ insert (remove rows from) to x) (sym behind.1) (later_put rows to from x (omega (arith, behind.0, behind.1)) l))
          ∙ (found_at (insert rows at x) gone (suc from) up (omega (arith, many, l)) (λ d. ap (λ (y : Row). row_cmp y gone) (later_row rows at from x d behind.0) ∙ found d)
          ∙ ap (λ (rs : List Row). subtracted rs (gone ∷ [])) is)
    ]
