-- The states of a run, one by one, and what its logs tell of them.
--     HasTold      what is known of a log
--     IsPast      what is known of the states
--     past-more      one accepted statement more
--     told-of      what is known of a log is the sentence
use Rattle.std.proofs.Common.{◌≡◌, ◌⊎◌, inl, inr, ℕ, zero, suc, ◌+◌, ◌<◌, ◌≤◌, List, [], ◌∷◌, ◌++◌, map, drop, length, refl, sym, ap, ◌∙◌, subst, arith, take_all, Some, None}
use Rattle.std.specs.Prelude.{ℤ, pos, ◌+ℤ◌}
use Rattle.std.specs.List.{All}
use Rattle.std.proofs.lemmas.List.Elements.{All-nil, All-push}
use Rattle.std.proofs.lemmas.Bool.{cases_lt}
use Rattle.std.proofs.lemmas.Int.{ints}
use Rattle.std.proofs.lemmas.List.{map-append, length-map, length-drop, get_or_append_left, take-append-le, drop_all}
use Rattle.std.proofs.Math.Seq.{get_or-append_seam}
use Rattle.base_core.proofs.ListLemmas.{All-In, length_more}
use Rattle.base_core.proofs.SetLemmas.{In}
use Rattle.value_core.specs.Values.{Name, Row, Heading, Relation}
use Rattle.log_times.specs.Logs.{logged, moved}
use Rattle.log_times.specs.Told as told
use Rattle.log_times.proofs.LogLaws.{moved-is-logged, logged-set, in_log}
use Rattle.tree_core.specs.Relvars.{State, log, relvar_named}
use Rattle.meaning_core.specs.Declarations.{counted}
use Rattle.meaning_core.specs.Logs.{base_rows}
use Rattle.meaning_core.specs.WellMade.{sizes_of, IsBase, IsLogOf, IsWellMade}
use Rattle.meaning_core.proofs.AcceptedLemmas.{made-turned}
use Rattle.relvar_logs.proofs.TurningLemmas.{rows-turned}
use Rattle.log_laws.specs.Past.{state_at, rows_in, values_of, IsTelling, IsLogSince}
use Rattle.log_laws.proofs.EntryLengths.{AreLong, long-named, long-base, long-without}
use Rattle.log_laws.proofs.LoggedEntries.{log-of, long-turned, turned-from, WasLog}

-- ---- what is known

-- the log after the n-th statement, where the m-th declared it
pub record HasToldAt (states : List State) (name of : Name) (side : ℕ) (heading : Heading) (m n : ℕ) : Type 0 where
  pub there : relvar_named (state_at states n).relvars name ≡ Some (log of side (pos n) (record { heading = heading; rows = logged side (pos m) (values_of states of m n) }))
  pub relvar : IsBase (relvar_named (state_at states n).relvars of)
  pub long : told.AreLong side (values_of states of m n)

pub record HasTold (states : List State) (name of : Name) (side : ℕ) (heading : Heading) : Type 0 where
  pub first : ℕ
  pub some : 1 ≤ first
  pub within : first < length states
  pub free : (k : ℕ) → suc k ≡ first → relvar_named (state_at states k).relvars name ≡ None
  pub stands : (n : ℕ) → first ≤ n → n < length states → HasToldAt states name of side heading first n

-- the states, of which the last is this one
pub record IsPast (states : List State) (w : State) : Type 0 where
  pub made : IsWellMade w
  pub long : AreLong w.relvars
  pub front : List State
  pub ends : states ≡ front ++ w ∷ []
  pub number : pos (length states) ≡ w.accepted +ℤ pos 1
  pub logs : (name of : Name) (side : ℕ) (last : ℤ) (value : Relation) → relvar_named w.relvars name ≡ Some (log of side last value) → HasTold states name of side value.heading

-- ---- the sentence

pub told-at : (states : List State) (name of : Name) (side : ℕ) (heading : Heading) (m n : ℕ) → HasToldAt states name of side heading m n → IsTelling states name of side m n
told-at states name of side heading m n is = record {
  value = record { heading = heading; rows = logged side (pos m) (values_of states of m n) };
  there = is.there;
  relvar = is.relvar;
  set = logged-set side (pos m) (values_of states of m n);
  told = λ y. in_log side (pos m) (values_of states of m n) is.long y;
}

pub told-of : (states : List State) (name of : Name) (side : ℕ) (heading : Heading) → HasTold states name of side heading → IsLogSince states name of side
told-of states name of side heading is = record {
  first = is.first;
  some = is.some;
  within = is.within;
  free = is.free;
  tells = λ n l m. told-at states name of side heading is.first n (is.stands n l m);
}

-- ---- one state more

module _ (states : List State) (next : State) where
  abbrev more : List State
  more = states ++ next ∷ []

  at-before : (k : ℕ) → k < length states → state_at more k ≡ state_at states k
  at-before k l = get_or_append_left states (next ∷ []) _ k l

  at-next : (k : ℕ) → k ≡ length states → state_at more k ≡ next
  at-next k e = ap (state_at more) e ∙ get_or-append_seam states next [] _

  values-before : (of : Name) (m n : ℕ) → n < length states → values_of more of m n ≡ values_of states of m n
  values-before of m n l = ap (λ (xs : List State). map (rows_in of) (drop m xs)) (take-append-le (suc n) states (next ∷ []) (omega (arith, l)))

  drop-more : (m : ℕ) (xs : List State) → m ≤ length xs → drop m (xs ++ next ∷ []) ≡ drop m xs ++ next ∷ []
  drop-more zero xs l = refl
  drop-more (suc m) [] l = absurd (omega (arith, l))
  drop-more (suc m) (x ∷ xs) l = drop-more m xs (omega (arith, l))

  -- those up to the next one
  values-next : (of : Name) (m n : ℕ) → n ≡ length states → m ≤ n → values_of more of m n ≡ map (rows_in of) (drop m states) ++ rows_in of next ∷ []
  values-next of m n e l =
      let size : length more ≡ suc (length states) = length_more states next in
      ap (λ (xs : List State). map (rows_in of) (drop m xs)) (take_all (suc n) more (omega (arith, size, e)))
      ∙ (ap (map (rows_in of)) (drop-more m states (omega (arith, e, l))) ∙ map-append (rows_in of) (drop m states) (next ∷ []))

-- those up to the last one
values-last : (states : List State) (of : Name) (m n : ℕ) → suc n ≡ length states → values_of states of m n ≡ map (rows_in of) (drop m states)
values-last states of m n e = ap (λ (xs : List State). map (rows_in of) (drop m xs)) (take_all (suc n) states (omega (arith, e)))

-- ---- one accepted statement more

-- a log that a statement has declared and that tells nothing yet
pub record IsNewLog (w : State) (name : Name) (last : ℤ) (value : Relation) : Type 0 where
  pub free : relvar_named w.relvars name ≡ None
  pub begins : last ≡ w.accepted
  pub none : value.rows ≡ []

-- the logs are those that there were, and new ones
abbrev pub AreLogsKept : State → State → Type 0
AreLogsKept w v =
    (name of : Name) (side : ℕ) (last : ℤ) (value : Relation) → relvar_named v.relvars name ≡ Some (log of side last value)
    → (relvar_named w.relvars name ≡ Some (log of side last value)) ⊎ IsNewLog w name last value

module _ (past : List State) (w v : State) (is : IsPast past w) (made : IsWellMade v) (long : AreLong v.relvars) (same : v.accepted ≡ w.accepted) (kept : AreLogsKept w v) where
  abbrev next : State
  next = counted v

  next-made : IsWellMade next
  next-made = made-turned v made

  next-long : AreLong next.relvars
  next-long = long-turned (sizes_of v.ordinals) v.relvars made.relvars long

  -- the state before is the last of them
  before-is : (k : ℕ) → suc k ≡ length past → state_at past k ≡ w
  before-is k e =
      let size = length_more is.front w in
      let whole : length past ≡ length (is.front ++ w ∷ []) = ap length is.ends in
      let at : k ≡ length is.front = omega (arith, e, size, whole) in
      ap (λ (xs : List State). state_at xs k) is.ends ∙ (ap (state_at (is.front ++ w ∷ [])) at ∙ get_or-append_seam is.front w [] _)

  module _ (name of : Name) (side : ℕ) (last : ℤ) (value : Relation) (there : relvar_named next.relvars name ≡ Some (log of side last value)) where
    abbrev was : WasLog v.relvars name of side last value
    was = turned-from v.relvars name of side last value there

    source : IsLogOf next.relvars of side value.heading
    source = log-of (sizes_of next.ordinals) next.relvars next-made.relvars name of side last value there

    abbrev now : List Row
    now = rows_in of next

    now-is : now ≡ base_rows (relvar_named v.relvars of)
    now-is = rows-turned v.relvars of

    row-long : (x : Row) → In x now → side ≤ length x
    row-long x i =
        let one = long-base (relvar_named next.relvars of) (long-named next.relvars of next-long) x i in
        let without-is = ap (λ (h : Heading). length h) source.2 in
        let size = long-without side value.heading source.1.within in
        let inside = source.1.within in
        omega (arith, one, without-is, size, inside)

    now-long : All (λ (x : Row). side ≤ length x) now
    now-long = All-In (λ (x : Row). side ≤ length x) now row-long

    -- the log as it was told so far, with one statement more
    module _ (m : ℕ) (values : List (List Row)) (early : m + length values ≡ length past) (old : was.old.rows ≡ logged side (pos m) values) (long_values : told.AreLong side values) (begun : was.before +ℤ pos 1 ≡ pos (length past))
        (are : values_of (more past next) of m (length past) ≡ values ++ now ∷ []) where
      next-rows : value.rows ≡ logged side (pos m) (values ++ now ∷ [])
      next-rows =
          let at : was.before +ℤ pos 1 ≡ pos m +ℤ pos (length values) = omega (arith, ints, early, begun) in
          was.rows
          ∙ ((λ i. moved side (at i) (sym now-is i) (old i))
          ∙ sym (moved-is-logged side (pos m) values now))

      next-told : HasToldAt (more past next) name of side value.heading m (length past)
      next-told = record {
        there =
            ap (λ (s : State). relvar_named s.relvars name) (at-next past next (length past) refl)
            ∙ (there ∙ (λ i. Some (log of side (let e : last ≡ pos (length past) = was.next ∙ begun in e i) (record { heading = value.heading; rows = (next-rows ∙ ap (logged side (pos m)) (sym are)) i }))));
        relvar = subst (λ (s : State). IsBase (relvar_named s.relvars of)) (sym (at-next past next (length past) refl)) source.0;
        long = subst (told.AreLong side) (sym are) (All-push (All (λ (x : Row). side ≤ length x)) values now long_values now-long);
      }

  -- what was known of a log at an earlier statement
  told-before : (name of : Name) (side : ℕ) (heading : Heading) (m n : ℕ) → n < length past → HasToldAt past name of side heading m n → HasToldAt (more past next) name of side heading m n
  told-before name of side heading m n l told_then =
      let at : state_at (more past next) n ≡ state_at past n = at-before past next n l in
      let values : values_of (more past next) of m n ≡ values_of past of m n = values-before past next of m n l in
      record {
        there =
            ap (λ (s : State). relvar_named s.relvars name) at
            ∙ (told_then.there ∙ (λ i. Some (log of side (pos n) (record { heading = heading; rows = logged side (pos m) (sym values i) }))));
        relvar = subst (λ (s : State). IsBase (relvar_named s.relvars of)) (sym at) told_then.relvar;
        long = subst (told.AreLong side) (sym values) told_then.long;
      }

  last-one : suc (length is.front) ≡ length past
  last-one = sym (length_more is.front w) ∙ ap length (sym is.ends)

  -- ---- a log that was there

  module _ (name of : Name) (side : ℕ) (last : ℤ) (value : Relation) (there : relvar_named next.relvars name ≡ Some (log of side last value)) where
    abbrev was_so : WasLog v.relvars name of side last value
    was_so = turned-from v.relvars name of side last value there

    module _ (old : relvar_named w.relvars name ≡ Some (log of side (turned-from v.relvars name of side last value there).before (turned-from v.relvars name of side last value there).old)) where
      known : HasTold past name of side was_so.old.heading
      known = is.logs name of side was_so.before was_so.old old

      module _ (first : ℕ) (within : first < length past) (stands : HasToldAt past name of side was_so.old.heading first (length is.front)) where
        abbrev values : List (List Row)
        values = map (rows_in of) (drop first past)

        values-are : values_of past of first (length is.front) ≡ values
        values-are = values-last past of first (length is.front) last-one

        both : log of side (pos (length is.front)) (record { heading = was_so.old.heading; rows = logged side (pos first) (values_of past of first (length is.front)) }) ≡ log of side was_so.before was_so.old
        both =
            let one = ap (λ (s : State). relvar_named s.relvars name) (sym (before-is (length is.front) last-one)) ∙ stands.there in
            let two : Some (log of side (pos (length is.front)) (record { heading = was_so.old.heading; rows = logged side (pos first) (values_of past of first (length is.front)) })) ≡ Some (log of side was_so.before was_so.old) = sym one ∙ old in
            cc

        old-rows : was_so.old.rows ≡ logged side (pos first) values
        old-rows =
            let same_value : record { heading = was_so.old.heading; rows = logged side (pos first) (values_of past of first (length is.front)) } ≡ was_so.old = (let b = both in cc) in
            ap (λ (r : Relation). r.rows) (sym same_value) ∙ ap (logged side (pos first)) values-are

        old-last : was_so.before +ℤ pos 1 ≡ pos (length past)
        old-last =
            let number : pos (length is.front) ≡ was_so.before = (let b = both in cc) in
            let size = last-one in
            omega (arith, ints, number, size)

        size-is : first + length values ≡ length past
        size-is = let a = length-map (drop first past) (rows_in of) in let b = length-drop first past in omega (arith, a, b, within)

        still : HasToldAt (more past next) name of side value.heading first (length past)
        still =
            next-told name of side last value there first values size-is old-rows (subst (told.AreLong side) values-are stands.long) old-last
            (values-next past next of first (length past) refl (omega (arith, within)))

      stays : HasTold (more past next) name of side value.heading
      stays = record {
        first = known.first;
        some = known.some;
        within = let size = length_more past next in let inside = known.within in omega (arith, size, inside);
        free = λ k e. ap (λ (s : State). relvar_named s.relvars name) (at-before past next k (let inside = known.within in omega (arith, e, inside))) ∙ known.free k e;
        stands = λ n l m. each n l m;
      }
        where
          each : (n : ℕ) → known.first ≤ n → n < length (more past next) → HasToldAt (more past next) name of side value.heading known.first n
          each n l m =
              elim (cases_lt n (length past)) [
                | inl before ↦ subst (λ (h : Heading). HasToldAt (more past next) name of side h known.first n) (sym was_so.headed)
                    (told-before name of side was_so.old.heading known.first n before (known.stands n l before))
                | inr after ↦
                    let size = length_more past next in
                    let here : length past ≡ n = omega (arith, m, after, size) in
                    let one = last-one in
                    let inside = known.within in
                    subst (HasToldAt (more past next) name of side value.heading known.first) here
                    (still known.first known.within (known.stands (length is.front) (omega (arith, one, inside)) (omega (arith, one))))
              ]

    -- ---- a log that the statement has declared

    module _ (new : IsNewLog w name was_so.before was_so.old) where
      begins : HasToldAt (more past next) name of side value.heading (length past) (length past)
      begins =
          let none : map (rows_in of) (drop (length past) past) ≡ [] = ap (map (rows_in of)) (drop_all (length past) past (omega arith)) in
          let number : was_so.before +ℤ pos 1 ≡ pos (length past) = ap (λ (i : ℤ). i +ℤ pos 1) new.begins ∙ sym is.number in
          next-told name of side last value there (length past) [] (omega arith) new.none (All-nil _) number
          (values-next past next of (length past) (length past) refl (omega arith) ∙ ap (λ (xs : List (List Row)). xs ++ rows_in of next ∷ []) none)

      appears : HasTold (more past next) name of side value.heading
      appears = record {
        first = length past;
        some = let one = last-one in omega (arith, one);
        within = let size = length_more past next in omega (arith, size);
        free = λ k e. ap (λ (s : State). relvar_named s.relvars name) (at-before past next k (omega (arith, e)) ∙ before-is k e) ∙ new.free;
        stands = λ n l m.
            let size = length_more past next in
            let here : length past ≡ n = omega (arith, l, m, size) in
            subst (HasToldAt (more past next) name of side value.heading (length past)) here begins;
      }

  -- the states with the one after the statement
  pub past-more : IsPast (past ++ counted v ∷ []) (counted v)
  past-more = record {
    made = next-made;
    long = next-long;
    front = past;
    ends = refl;
    number =
        let size = length_more past next in
        let one = is.number in
        let as_before = same in
        omega (arith, ints, size, one, as_before);
    logs = λ name of side last value there.
        elim (kept name of side _ _ (was name of side last value there).named) [
          | inl old ↦ stays name of side last value there old
          | inr new ↦ appears name of side last value there new
        ];
  }
