-- Entries that are dropped, with the places of their rows.
--     stored-without      the stored views that stay have their rows
--     without_one      the place of one entry is taken out
--     names_differ      the names of a well made state do
--     without_none      nothing goes where no entry has one of the names
--     without_next      names go one after the other
--     has_stored-without      where no stored view was, none is left
--     without-few      there are no more places than entries
use Rattle.std.proofs.Common.{◌≡◌, ℕ, zero, suc, ◌≤◌, Bool, true, false, not, cond, List, [], ◌∷◌, ◌++◌, map, filter, take, drop, length, refl, sym, ap, ◌∙◌, subst, arith, true≢false, Option, Some, None}
use Rattle.std.specs.Prelude.{◌||◌}
use Rattle.std.specs.List.{list_any, AllByRecursion, IsDistinct}
use Rattle.std.specs.Str.{bytes_eq}
use Rattle.std.proofs.lemmas.Bool.{or_parts}
use Rattle.value_core.specs.Values.{Name, Relation}
use Rattle.tree_core.specs.Relvars.{PlainRelvar, Entries, State, relvar_named}
use Rattle.tree_core.specs.Uses.{is_one_of}
use Rattle.meaning_core.specs.Declarations.{group, without_all, without_group}
use Rattle.meaning_core.specs.Names.{IsFirstAt}
use Rattle.meaning_core.specs.StoredRows.{HaveTheirRows, AreStored}
use Rattle.meaning_core.specs.WellMade.{sizes_of, IsBase, IsWellMade}
use Rattle.meaning_core.proofs.ElsewhereLemmas.{left, left-kept, left-gone, named-left}
use Rattle.meaning_core.proofs.MadeLemmas.{same_name}
use Rattle.relvar_logs.proofs.NextLemmas.{turned-name}
use Rattle.stored_views.specs.Operands.{value_if}
use Rattle.stored_views.specs.Stored.{is_stored, has_stored}
use Rattle.stored_views.specs.Without.{rows_without}
use Rattle.stored_views.proofs.AlikeLemmas.{HaveSameValues, AreAlike, value_of_base, alike_from, stored_alike}

-- ---- base relvars that stay

module _ (some : Name → Bool) where
  none_left : (es : Entries) (name : Name) → some name ≡ true → relvar_named (left some es) name ≡ None
  none_left [] name e = refl
  none_left (r ∷ es) name e = by (some r.0) refl (bytes_eq r.0 name) refl (none_left es name e)
    where
      by : (b : Bool) → some r.0 ≡ b → (d : Bool) → bytes_eq r.0 name ≡ d → relvar_named (left some es) name ≡ None → relvar_named (left some (r ∷ es)) name ≡ None
      by true p d q more = ap (λ (l : Entries). relvar_named l name) (left-gone some r es p) ∙ more
      by false p true q more = absurd (true≢false (sym e ∙ (sym (ap some (same_name r.0 name q)) ∙ p)))
      by false p false q more =
          ap (λ (l : Entries). relvar_named l name) (left-kept some r es p) ∙ (ap (λ (d : Bool). cond d (Some r.1) (relvar_named (left some es) name)) q ∙ more)

  same-left : (es : Entries) → HaveSameValues (left some es) es (left some es)
  same-left es name is = by (some name) refl
    where
      by : (b : Bool) → some name ≡ b → (x : Relation) × (value_if (relvar_named es name) ≡ Some x) × (value_if (relvar_named (left some es) name) ≡ Some x)
      by true e = absurd (subst IsBase (none_left es name e) is)
      by false e =
          let same = named-left some es name e in
          value_of_base _ _ (subst IsBase same is) (ap value_if same)

-- ---- places

module _ (names : List Name) where
  bare-left : (all es : Entries) → HaveTheirRows all es [] → HaveTheirRows all (left (is_one_of names) es) []
  bare-left all [] h = tt
  bare-left all (e ∷ es) h = by (is_one_of names e.0) (bare-left all es h.1)
    where
      by : (b : Bool) → HaveTheirRows all (left (is_one_of names) es) [] → HaveTheirRows all (cond (not b) (e ∷ left (is_one_of names) es) (left (is_one_of names) es)) []
      by true more = more
      by false more = (h.0, more)

  there-without : (all es : Entries) (rows : List (Option Relation)) → HaveTheirRows all es rows → HaveTheirRows all (left (is_one_of names) es) (rows_without names es rows)
  there-without all [] rows h = tt
  there-without all (e ∷ es) [] h = bare-left all (e ∷ es) h
  there-without all (e ∷ es) (o ∷ rows) h = by (is_one_of names e.0) (there-without all es rows h.1)
    where
      by : (b : Bool) → HaveTheirRows all (left (is_one_of names) es) (rows_without names es rows)
          → HaveTheirRows all (cond (not b) (e ∷ left (is_one_of names) es) (left (is_one_of names) es)) (cond b (rows_without names es rows) (o ∷ rows_without names es rows))
      by true more = more
      by false more = (h.0, more)

pub alike-left : (names : List Name) (s : State) → IsWellMade (without_all names s) → AreAlike s.relvars (without_all names s).relvars (without_all names s).relvars
alike-left names s made =
    alike_from (sizes_of s.ordinals) s.relvars (without_all names s).relvars (without_all names s).relvars (same-left (is_one_of names) s.relvars) made.relvars

pub stored-without_all : (names : List Name) (s : State) (rows : List (Option Relation)) → IsWellMade (without_all names s) → AreStored s.relvars rows
    → AreStored (without_all names s).relvars (rows_without names s.relvars rows)
stored-without_all names s rows made h =
    stored_alike s.relvars (without_all names s).relvars (without_all names s).relvars (rows_without names s.relvars rows) (alike-left names s made)
    (there-without names s.relvars s.relvars rows h)

pub stored-without : (name : Name) (s : State) (rows : List (Option Relation)) → IsWellMade (without_group name s) → AreStored s.relvars rows
    → AreStored (without_group name s).relvars (rows_without (group s.relvars name) s.relvars rows)
stored-without name s rows made h = stored-without_all (group s.relvars name) s rows made h

-- ---- one name

-- no entry has one of the names
pub without_none : (names : List Name) (es : Entries) (rows : List (Option Relation)) → list_any (λ r. is_one_of names r.0) es ≡ false → rows_without names es rows ≡ rows
without_none names [] rows none = refl
without_none names (e ∷ es) [] none = refl
without_none names (e ∷ es) (o ∷ rows) none =
    let parts = or_parts (is_one_of names e.0) (list_any (λ r. is_one_of names r.0) es) none in
    ap (λ (b : Bool). cond b (rows_without names es rows) (o ∷ rows_without names es rows)) parts.0 ∙ ap (λ (more : List (Option Relation)). o ∷ more) (without_none names es rows parts.1)

-- the names behind the first are others
none_behind : (name own : Name) (es : Entries) → bytes_eq own name ≡ true → AllByRecursion (λ y. bytes_eq own y ≡ false) (map (λ r. r.0) es) → list_any (λ r. is_one_of (name ∷ []) r.0) es ≡ false
none_behind name own [] e apart = refl
none_behind name own (r ∷ es) e apart =
    let other : bytes_eq r.0 name ≡ false = subst (λ (n : Name). bytes_eq r.0 n ≡ false) (same_name own name e) (turned-name own r.0 apart.0) in
    λ i. (other i || false) || none_behind name own es e apart.1 i

-- taking out the place of the first entry of the name, where names differ
pub without_one : (name : Name) (es : Entries) (rows : List (Option Relation)) (i : ℕ) (r : PlainRelvar) → IsDistinct bytes_eq (map (λ r. r.0) es) → IsFirstAt es name i r
    → rows_without (name ∷ []) es rows ≡ take i rows ++ drop (suc i) rows
unfolding IsDistinct
without_one name [] rows i r distinct first = absurd first
without_one name (e ∷ es) [] zero r distinct first = refl
without_one name (e ∷ es) [] (suc i) r distinct first = refl
without_one name (e ∷ es) (o ∷ rows) zero r distinct first =
    ap (λ (b : Bool). cond (b || false) (rows_without (name ∷ []) es rows) (o ∷ rows_without (name ∷ []) es rows)) first.0
    ∙ without_none (name ∷ []) es rows (none_behind name e.0 es first.0 distinct.0)
without_one name (e ∷ es) (o ∷ rows) (suc i) r distinct first =
    ap (λ (b : Bool). cond (b || false) (rows_without (name ∷ []) es rows) (o ∷ rows_without (name ∷ []) es rows)) first.0
    ∙ ap (λ (more : List (Option Relation)). o ∷ more) (without_one name es rows i r distinct.1 first.1)

distinct_behind : (before names : List Name) → IsDistinct bytes_eq (before ++ names) → IsDistinct bytes_eq names
unfolding IsDistinct
distinct_behind [] names d = d
distinct_behind (n ∷ before) names d = distinct_behind before names d.1

-- the names of entries differ in a well made state
pub names_differ : (s : State) → IsWellMade s → IsDistinct bytes_eq (map (λ r. r.0) s.relvars)
names_differ s made = distinct_behind (map (λ r. r.0) s.rules ++ map (λ o. o.name) s.ordinals) (map (λ r. r.0) s.relvars) made.different

-- ---- one name after the other

without_nothing : (names : List Name) (es : Entries) → rows_without names es [] ≡ []
without_nothing names [] = refl
without_nothing names (e ∷ es) = refl

pub without_next : (name : Name) (names : List Name) (es : Entries) (rows : List (Option Relation))
    → rows_without (name ∷ names) es rows ≡ rows_without names (left (is_one_of (name ∷ [])) es) (rows_without (name ∷ []) es rows)
without_next name names [] rows = refl
without_next name names (e ∷ es) [] = sym (without_nothing names (left (is_one_of (name ∷ [])) (e ∷ es)))
without_next name names (e ∷ es) (o ∷ rows) = by (bytes_eq e.0 name) (is_one_of names e.0) refl (without_next name names es rows)
  where
    by : (b d : Bool) → is_one_of names e.0 ≡ d → rows_without (name ∷ names) es rows ≡ rows_without names (left (is_one_of (name ∷ [])) es) (rows_without (name ∷ []) es rows)
        → cond (b || d) (rows_without (name ∷ names) es rows) (o ∷ rows_without (name ∷ names) es rows)
        ≡ rows_without names (cond (not (b || false)) (e ∷ left (is_one_of (name ∷ [])) es) (left (is_one_of (name ∷ [])) es)) (cond (b || false) (rows_without (name ∷ []) es rows) (o ∷ rows_without (name ∷ []) es rows))
    by true d q more = more
    by false true q more =
        more ∙ sym (ap (λ (c : Bool). cond c (rows_without names (left (is_one_of (name ∷ [])) es) (rows_without (name ∷ []) es rows))
        (o ∷ rows_without names (left (is_one_of (name ∷ [])) es) (rows_without (name ∷ []) es rows))) q)
    by false false q more =
        ap (λ (l : List (Option Relation)). o ∷ l) more
        ∙ sym (ap (λ (c : Bool). cond c (rows_without names (left (is_one_of (name ∷ [])) es) (rows_without (name ∷ []) es rows))
        (o ∷ rows_without names (left (is_one_of (name ∷ [])) es) (rows_without (name ∷ []) es rows))) q)

-- ---- no stored view

pub has_stored-without : (names : List Name) (es : Entries) → has_stored es ≡ false → has_stored (filter (λ r. not (is_one_of names r.0)) es) ≡ false
has_stored-without names [] none = refl
has_stored-without names (e ∷ es) none =
    let parts = or_parts (is_stored e.1) (has_stored es) none in
    by (is_one_of names e.0) parts.0 (has_stored-without names es parts.1)
  where
    by : (b : Bool) → is_stored e.1 ≡ false → has_stored (left (is_one_of names) es) ≡ false → has_stored (cond (not b) (e ∷ left (is_one_of names) es) (left (is_one_of names) es)) ≡ false
    by true h more = more
    by false h more = λ i. h i || more i

-- ---- how many places there are

-- no more places than entries
pub without-few : (names : List Name) (es : Entries) (rows : List (Option Relation)) → length rows ≤ length es
    → length (rows_without names es rows) ≤ length (filter (λ r. not (is_one_of names r.0)) es)
without-few names [] rows few = few
without-few names (e ∷ es) [] few = omega arith
without-few names (e ∷ es) (o ∷ rows) few = by (is_one_of names e.0) (without-few names es rows (omega (arith, few)))
  where
    by : (b : Bool) → length (rows_without names es rows) ≤ length (left (is_one_of names) es)
        → length (cond b (rows_without names es rows) (o ∷ rows_without names es rows)) ≤ length (cond (not b) (e ∷ left (is_one_of names) es) (left (is_one_of names) es))
    by true more = more
    by false more = omega (arith, more)
