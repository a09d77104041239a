-- Entries of the same names in order, each for the like.
--     like-append, like-length, like-names      joined, their number and their names
--     BothLike, named-like      what a name stands for in both
--     like-filtered, same-early, same-late      some of them, and the like of what stands before all rows stands there too, and of a view
--     like-logless, like-unstored      where there is no log there, there is none, and so it is of stored views
--     full-one, like-full, like-bare      rows do not count
--     rules-append, rules-length, no-rules      the same of database constraints
--     like-emptied, filled-like, filled-rowless      relvars with the values of others
use Rattle.std.proofs.Common.{◌≡◌, suc, Bool, true, false, cond, List, [], ◌∷◌, ◌++◌, map, length, refl, sym, ap, ap₂, ◌∙◌, subst, Option, Some, None}
use Rattle.std.specs.List.{filter, list_any, AllByRecursion}
use Rattle.std.specs.Str.{bytes_eq}
use Rattle.std.proofs.lemmas.Bool.{or_parts, or_from}
use Rattle.value_core.specs.declared.constraint.Constraint.{Constraint}
use Rattle.value_core.specs.Values.{Name, Relation}
use Rattle.tree_core.specs.Relvars.{PlainRelvar, base, view, Entries, Rules, relvar_named, log, PlainKind, derived, stored, of_history}
use Rattle.tree_core.specs.Trees.{Tree}
use Rattle.meaning_core.specs.Logs.{is_log, has_log}
use Rattle.meaning_core.proofs.RowlessLemmas.{bare, bare_entry, bare_all}
use Rattle.meaning_laws.specs.Likeness.{IsLike}
use Rattle.stored_views.specs.Stored.{is_stored, has_stored}
use Rattle.part_laws.specs.Parts.{IsEmptied, AreEmptied, filled, emptied, without_rows}
use Rattle.dump_laws.specs.Kept.{is_early_relvar, is_early, is_late_relvar, is_late}
use Rattle.dump_laws.specs.Phases.{IsBare}
use Rattle.dump_laws.specs.Standing.{AreLikeEntries, AreMovedRules}

pub like-append : (xs ys us vs : Entries) → AreLikeEntries xs ys → AreLikeEntries us vs → AreLikeEntries (xs ++ us) (ys ++ vs)
like-append [] [] us vs h k = k
like-append [] (y ∷ ys) us vs h k = absurd h
like-append (x ∷ xs) [] us vs h k = absurd h
like-append (x ∷ xs) (y ∷ ys) us vs h k = (h.0, like-append xs ys us vs h.1 k)

pub like-length : (xs ys : Entries) → AreLikeEntries xs ys → length ys ≡ length xs
like-length [] [] h = refl
like-length [] (y ∷ ys) h = absurd h
like-length (x ∷ xs) [] h = absurd h
like-length (x ∷ xs) (y ∷ ys) h = ap suc (like-length xs ys h.1)

pub like-names : (xs ys : Entries) → AreLikeEntries xs ys → map (λ (e : Name × PlainRelvar). e.0) ys ≡ map (λ (e : Name × PlainRelvar). e.0) xs
like-names [] [] h = refl
like-names [] (y ∷ ys) h = absurd h
like-names (x ∷ xs) [] h = absurd h
like-names (x ∷ xs) (y ∷ ys) h = ap₂ (λ (n : Name) (l : List Name). n ∷ l) h.0.0 (like-names xs ys h.1)

-- ---- what a name stands for

-- for the like, or for nothing in both
abbrev pub BothLike : Option PlainRelvar → Option PlainRelvar → Type 0
BothLike None None = Unit {0}
BothLike None (Some y) = ⊥
BothLike (Some x) None = ⊥
BothLike (Some x) (Some y) = IsLike x y

pub named-like : (name : Name) (xs ys : Entries) → AreLikeEntries xs ys → BothLike (relvar_named xs name) (relvar_named ys name)
named-like name [] [] h = tt
named-like name [] (y ∷ ys) h = absurd h
named-like name (x ∷ xs) [] h = absurd h
named-like name (x ∷ xs) (y ∷ ys) h =
    subst (λ (n : Name). BothLike (cond (bytes_eq x.0 name) (Some x.1) (relvar_named xs name)) (cond (bytes_eq n name) (Some y.1) (relvar_named ys name))) (sym h.0.0)
    (by (bytes_eq x.0 name) (named-like name xs ys h.1))
  where
    by : (b : Bool) → BothLike (relvar_named xs name) (relvar_named ys name) → BothLike (cond b (Some x.1) (relvar_named xs name)) (cond b (Some y.1) (relvar_named ys name))
    by true more = h.0.1
    by false more = more

-- ---- some of them

module _ (p : Name × PlainRelvar → Bool) (same : (n m : Name) (x y : PlainRelvar) → IsLike x y → p (m, y) ≡ p (n, x)) where
  pub like-filtered : (xs ys : Entries) → AreLikeEntries xs ys → AreLikeEntries (filter p xs) (filter p ys)
  like-filtered [] [] h = tt
  like-filtered [] (y ∷ ys) h = absurd h
  like-filtered (x ∷ xs) [] h = absurd h
  like-filtered (x ∷ xs) (y ∷ ys) h =
      subst (λ (b : Bool). AreLikeEntries (cond (p x) (x ∷ filter p xs) (filter p xs)) (cond b (y ∷ filter p ys) (filter p ys))) (sym (same x.0 y.0 x.1 y.1 h.0.1))
      (by (p x) (like-filtered xs ys h.1))
    where
      by : (b : Bool) → AreLikeEntries (filter p xs) (filter p ys) → AreLikeEntries (cond b (x ∷ filter p xs) (filter p xs)) (cond b (y ∷ filter p ys) (filter p ys))
      by true more = (h.0, more)
      by false more = more

pub same-early : (n m : Name) (x y : PlainRelvar) → IsLike x y → is_early (m, y) ≡ is_early (n, x)
same-early n m (base v c) (base u d) h = refl
same-early n m (base v c) (view u g) h = absurd h
same-early n m (view t k) (base u d) h = absurd h
same-early n m (view t k) (view u g) h = ap (λ (kind : PlainKind). is_early_relvar (view t kind)) h.1 ∙ refl
same-early n m (base v c) (log o i last w) h = absurd h
same-early n m (view t k) (log o i last w) h = absurd h
same-early n m (log o i last w) (base u d) h = absurd h
same-early n m (log o i last w) (view u g) h = absurd h
same-early n m (log o i last w) (log p j k v) h = refl

pub same-late : (n m : Name) (x y : PlainRelvar) → IsLike x y → is_late (m, y) ≡ is_late (n, x)
same-late n m (base v c) (base u d) h = refl
same-late n m (base v c) (view u g) h = absurd h
same-late n m (view t k) (base u d) h = absurd h
same-late n m (view t k) (view u g) h = ap (λ (kind : PlainKind). is_late_relvar (view t kind)) h.1 ∙ refl
same-late n m (base v c) (log o i last w) h = absurd h
same-late n m (view t k) (log o i last w) h = absurd h
same-late n m (log o i last w) (base u d) h = absurd h
same-late n m (log o i last w) (view u g) h = absurd h
same-late n m (log o i last w) (log p j k v) h = refl

-- ---- logs and stored views

-- where none is so there, none is here
like-none : (p : PlainRelvar → Bool) → ((x y : PlainRelvar) → IsLike x y → p y ≡ p x) → (xs ys : Entries) → AreLikeEntries xs ys
    → list_any (λ (e : Name × PlainRelvar). p e.1) xs ≡ false → list_any (λ (e : Name × PlainRelvar). p e.1) ys ≡ false
like-none p same [] [] h none = none
like-none p same [] (y ∷ ys) h none = absurd h
like-none p same (x ∷ xs) [] h none = absurd h
like-none p same (x ∷ xs) (y ∷ ys) h none =
    let parts = or_parts (p x.1) (list_any (λ (e : Name × PlainRelvar). p e.1) xs) none in
    or_from (p y.1) (list_any (λ (e : Name × PlainRelvar). p e.1) ys) (same x.1 y.1 h.0.1 ∙ parts.0) (like-none p same xs ys h.1 parts.1)

same-log : (x y : PlainRelvar) → IsLike x y → is_log y ≡ is_log x
same-log (base v c) (base u d) h = refl
same-log (base v c) (view u g) h = absurd h
same-log (base v c) (log o i last w) h = absurd h
same-log (view t k) (base u d) h = absurd h
same-log (view t k) (view u g) h = refl
same-log (view t k) (log o i last w) h = absurd h
same-log (log o i last w) (base u d) h = absurd h
same-log (log o i last w) (view u g) h = absurd h
same-log (log o i last w) (log p j k v) h = refl

pub like-logless : (xs ys : Entries) → AreLikeEntries xs ys → has_log xs ≡ false → has_log ys ≡ false
like-logless xs ys h none = like-none is_log same-log xs ys h none

-- whether a view is stored does not turn on its expression
stored-by-kind : (t u : Tree) (kind : PlainKind) → is_stored (view u kind) ≡ is_stored (view t kind)
stored-by-kind t u derived = refl
stored-by-kind t u stored = refl
stored-by-kind t u (of_history names) = refl

same-stored : (x y : PlainRelvar) → IsLike x y → is_stored y ≡ is_stored x
same-stored (base v c) (base u d) h = refl
same-stored (base v c) (view u g) h = absurd h
same-stored (base v c) (log o i last w) h = absurd h
same-stored (view t k) (base u d) h = absurd h
same-stored (view t k) (view u g) h = ap (λ (kind : PlainKind). is_stored (view u kind)) h.1 ∙ stored-by-kind t u k
same-stored (view t k) (log o i last w) h = absurd h
same-stored (log o i last w) (base u d) h = absurd h
same-stored (log o i last w) (view u g) h = absurd h
same-stored (log o i last w) (log p j k v) h = refl

pub like-unstored : (xs ys : Entries) → AreLikeEntries xs ys → has_stored xs ≡ false → has_stored ys ≡ false
like-unstored xs ys h none = like-none is_stored same-stored xs ys h none

-- ---- rows do not count

pub full-one : (x y : PlainRelvar) → IsLike (without_rows x) y → IsLike x y
full-one (base v c) (base u d) h = h
full-one (base v c) (view u g) h = absurd h
full-one (view t k) y h = h
full-one (base v c) (log o i last w) h = absurd h
full-one (log o i last w) y h = h

pub like-full : (xs ys : Entries) → AreLikeEntries (map emptied xs) ys → AreLikeEntries xs ys
like-full [] [] h = tt
like-full [] (y ∷ ys) h = absurd h
like-full (x ∷ xs) [] h = absurd h
like-full (x ∷ xs) (y ∷ ys) h = ((h.0.0, full-one x.1 y.1 h.0.1), like-full xs ys h.1)

bare-one : (x y : PlainRelvar) → IsLike x y → IsLike (without_rows x) y
bare-one (base v c) (base u d) h = h
bare-one (base v c) (view u g) h = absurd h
bare-one (view t k) y h = h
bare-one (base v c) (log o i last w) h = absurd h
bare-one (log o i last w) y h = h

pub like-bare : (xs ys : Entries) → AreLikeEntries xs ys → AreLikeEntries (map emptied xs) ys
like-bare [] [] h = tt
like-bare [] (y ∷ ys) h = absurd h
like-bare (x ∷ xs) [] h = absurd h
like-bare (x ∷ xs) (y ∷ ys) h = ((h.0.0, bare-one x.1 y.1 h.0.1), like-bare xs ys h.1)

-- ---- database constraints

pub rules-append : (xs ys us vs : Rules) → AreMovedRules xs ys → AreMovedRules us vs → AreMovedRules (xs ++ us) (ys ++ vs)
rules-append [] [] us vs h k = k
rules-append [] (y ∷ ys) us vs h k = absurd h
rules-append (x ∷ xs) [] us vs h k = absurd h
rules-append (x ∷ xs) (y ∷ ys) us vs h k = (h.0, rules-append xs ys us vs h.1 k)

pub rules-length : (xs ys : Rules) → AreMovedRules xs ys → length ys ≡ length xs
rules-length [] [] h = refl
rules-length [] (y ∷ ys) h = absurd h
rules-length (x ∷ xs) [] h = absurd h
rules-length (x ∷ xs) (y ∷ ys) h = ap suc (rules-length xs ys h.1)

pub no-rules : (ys : Rules) → AreMovedRules [] ys → ys ≡ []
no-rules [] h = refl
no-rules (y ∷ ys) h = absurd h

-- ---- relvars with the values of others

-- without rows, the like is what is declared
emptied-one : (e d : Name × PlainRelvar) → d.0 ≡ e.0 → IsLike e.1 d.1 → IsBare d → IsEmptied e d
emptied-one (n, base v c) (m, base u k) same like bare = λ i. (same i, (sym bare ∙ (λ j. base (record { heading = like.0 j; rows = [] }) (like.1 j))) i)
emptied-one (n, base v c) (m, view u g) same like bare = absurd like
emptied-one (n, view t h) (m, base u k) same like bare = absurd like
emptied-one (n, view t h) (m, view u g) same like bare = (same, refl)
emptied-one (n, base v c) (m, log o i last w) same like bare = absurd like
emptied-one (n, view t h) (m, log o i last w) same like bare = absurd like
emptied-one (n, log o i last w) (m, base u k) same like bare = absurd like
emptied-one (n, log o i last w) (m, view u g) same like bare = absurd like
emptied-one (n, log o i last w) (m, log p j k v) same like bare = (same, refl)

pub like-emptied : (xs ys : Entries) → AreLikeEntries xs ys → AllByRecursion IsBare ys → AreEmptied xs ys
like-emptied [] [] h bare = tt
like-emptied [] (y ∷ ys) h bare = absurd h
like-emptied (x ∷ xs) [] h bare = absurd h
like-emptied (x ∷ xs) (y ∷ ys) h bare = (emptied-one x y h.0.0 h.0.1 bare.0, like-emptied xs ys h.1 bare.1)

pub filled-like : (xs ys : Entries) → AreLikeEntries xs ys → AreLikeEntries xs (filled xs ys)
filled-like [] [] h = tt
filled-like [] (y ∷ ys) h = absurd h
filled-like (x ∷ xs) [] h = absurd h
filled-like ((n, base v c) ∷ xs) (y ∷ ys) h = ((refl, (refl, refl)), filled-like xs ys h.1)
filled-like ((n, view t k) ∷ xs) (y ∷ ys) h = (h.0, filled-like xs ys h.1)
filled-like ((n, log o i last w) ∷ xs) (y ∷ ys) h = (h.0, filled-like xs ys h.1)

rowless-one : (n : Name) (v : Relation) (c : List Constraint) (y : Name × PlainRelvar) → y.0 ≡ n → IsLike (base v c) y.1 → (n, bare (base v c)) ≡ bare_entry y
rowless-one n v c (m, base u k) same like = λ i. (sym same i, base (record { heading = sym like.0 i; rows = [] }) (sym like.1 i))
rowless-one n v c (m, view u g) same like = absurd like
rowless-one n v c (m, log o i last w) same like = absurd like

pub filled-rowless : (xs ys : Entries) → AreLikeEntries xs ys → bare_all (filled xs ys) ≡ bare_all ys
filled-rowless [] [] h = refl
filled-rowless [] (y ∷ ys) h = absurd h
filled-rowless (x ∷ xs) [] h = absurd h
filled-rowless ((n, base v c) ∷ xs) (y ∷ ys) h = λ i. rowless-one n v c y h.0.0 h.0.1 i ∷ filled-rowless xs ys h.1 i
filled-rowless ((n, view t k) ∷ xs) (y ∷ ys) h = λ i. bare_entry y ∷ filled-rowless xs ys h.1 i
filled-rowless ((n, log o k last w) ∷ xs) (y ∷ ys) h = λ i. bare_entry y ∷ filled-rowless xs ys h.1 i
