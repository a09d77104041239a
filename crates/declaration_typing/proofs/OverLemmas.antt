-- The names of the logs and of the views over them are those that stand for such.
--     over-names      the law
--     none-differ, over-told      of entries as they are read
use Rattle.std.proofs.Common.{◌≡◌, Bool, true, false, cond, List, [], ◌∷◌, ◌++◌, map, refl, sym, ap, ◌∙◌, subst}
use Rattle.std.specs.Prelude.{◌||◌, None, slice_get}
use Rattle.std.specs.List.{AllByRecursion, IsDistinct}
use Rattle.std.specs.Map.{keys_of}
use Rattle.std.specs.Str.{bytes_eq}
use Rattle.std.proofs.lemmas.List.{map-append}
use Rattle.base_core.proofs.ListLemmas.{AllByRecursion-push, bytes_eq-sym}
use Rattle.value_core.specs.Values.{Name}
use Rattle.tree_core.specs.declared.relvar.Relvar.{Relvar}
use Rattle.tree_core.specs.Relvars.{PlainRelvar, base, view, log, Entries, read_entry}
use Rattle.tree_core.specs.Uses.{is_one_of, names_any}
use Rattle.meaning_core.specs.Logs.{is_over_log, over_log}
use Rattle.meaning_core.specs.Names.{found, each_after}
use Rattle.meaning_core.proofs.MadeLemmas.{same_name}
use Rattle.declaration_typing.proofs.DistinctLemmas.{no-distinct}
use Rattle.declaration_typing.specs.Logs.{is_over, with_over, names_behind, names_over}

abbrev Known : Type 0
Known = List (Name × Bool)

-- none of the known names is this one
abbrev IsNew : Name → Known → Type 0
IsNew name known = AllByRecursion (λ (n : Name). bytes_eq n name ≡ false) (map (λ (k : Name × Bool). k.0) known)

-- ---- one name more

found-new : (known : Known) (own : Name) (b : Bool) (name : Name) → IsNew name known → found false (known ++ (own, b) ∷ []) name ≡ cond (bytes_eq own name) b false
found-new [] own b name new = refl
found-new (k ∷ known) own b name new = ap (λ (t : Bool). cond t k.1 (found false (known ++ (own, b) ∷ []) name)) new.0 ∙ found-new known own b name new.1

found-none : (known : Known) (name : Name) → IsNew name known → found false known name ≡ false
found-none [] name new = refl
found-none (k ∷ known) name new = ap (λ (t : Bool). cond t k.1 (found false known name)) new.0 ∙ found-none known name new.1

found-other : (known : Known) (own : Name) (b : Bool) (name : Name) → bytes_eq own name ≡ false → found false (known ++ (own, b) ∷ []) name ≡ found false known name
found-other [] own b name other = ap (λ (t : Bool). cond t b false) other
found-other (k ∷ known) own b name other = ap (λ (more : Bool). cond (bytes_eq k.0 name) k.1 more) (found-other known own b name other)

among-last : (names : List Name) (own name : Name) (b : Bool) → bytes_eq own name ≡ b → is_one_of names name ≡ false → is_one_of (names ++ own ∷ []) name ≡ b
among-last [] own name b e none = ap (λ (t : Bool). t || false) (bytes_eq-sym name own ∙ e) ∙ either b
  where
    either : (t : Bool) → (t || false) ≡ t
    either true = refl
    either false = refl
among-last (n ∷ names) own name b e none = by-test (bytes_eq name n) none (among-last names own name b e)
  where
    by-test : (t : Bool) → (t || is_one_of names name) ≡ false → (is_one_of names name ≡ false → is_one_of (names ++ own ∷ []) name ≡ b) → (t || is_one_of (names ++ own ∷ []) name) ≡ b
    by-test true f more = absurd (cc)
    by-test false f more = more f

among-other : (names : List Name) (own name : Name) → bytes_eq own name ≡ false → is_one_of (names ++ own ∷ []) name ≡ is_one_of names name
among-other [] own name other = ap (λ (t : Bool). t || false) (bytes_eq-sym name own ∙ other)
among-other (n ∷ names) own name other = ap (λ (more : Bool). bytes_eq name n || more) (among-other names own name other)

-- ---- the names so far are the known ones that stand for such

abbrev Agree : List Name → Known → Type 0
Agree names known = (name : Name) → is_one_of names name ≡ found false known name

one-more : (names : List Name) (known : Known) (own : Name) (b : Bool) → Agree names known → IsNew own known → Agree (cond b (names ++ own ∷ []) names) (known ++ (own, b) ∷ [])
one-more names known own b agree new name = by-test (bytes_eq own name) refl
  where
    none : bytes_eq own name ≡ true → IsNew name known
    none e = subst (λ (n : Name). IsNew n known) (same_name own name e) new

    by-truth : (t : Bool) → bytes_eq own name ≡ true → is_one_of (cond t (names ++ own ∷ []) names) name ≡ t
    by-truth true e = among-last names own name true e (agree name ∙ found-none known name (none e))
    by-truth false e = agree name ∙ found-none known name (none e)

    by-other : (t : Bool) → bytes_eq own name ≡ false → is_one_of (cond t (names ++ own ∷ []) names) name ≡ is_one_of names name
    by-other true e = among-other names own name e
    by-other false e = refl

    by-test : (t : Bool) → bytes_eq own name ≡ t → is_one_of (cond b (names ++ own ∷ []) names) name ≡ found false (known ++ (own, b) ∷ []) name
    by-test true e = by-truth b e ∙ sym (found-new known own b name (none e) ∙ ap (λ (t : Bool). cond t b false) e)
    by-test false e = by-other b e ∙ (agree name ∙ sym (found-other known own b name e))

is-same : (names : List Name) (known : Known) (r : PlainRelvar) → Agree names known → is_over names r ≡ is_over_log known r
is-same names known (base value constraints) agree = refl
is-same names known (view t kind) agree = λ i. names_any (λ name. agree name i) t
is-same names known (log of side last value) agree = refl

-- ---- all

-- the names of the entries differ, and none is known
abbrev AreNew : Known → Entries → Type 0
AreNew known [] = Unit {0}
AreNew known (r ∷ rest) = IsNew r.0 known × ((b : Bool) → AreNew (known ++ (r.0, b) ∷ []) rest)

agree-from : (entries : Entries) (names : List Name) (known : Known) → AreNew known entries → Agree names known → Agree (names_behind names entries) (each_after is_over_log known entries)
agree-from [] names known new agree = agree
agree-from (r ∷ rest) names known new agree =
    let b : Bool = is_over_log known r.1 in
    let same : with_over names r.0 r.1 ≡ cond b (names ++ r.0 ∷ []) names = ap (λ (t : Bool). cond t (names ++ r.0 ∷ []) names) (is-same names known r.1 agree) in
    agree-from rest (with_over names r.0 r.1) (known ++ (r.0, b) ∷ []) (new.1 b)
    (subst (λ (ns : List Name). Agree ns (known ++ (r.0, b) ∷ [])) (sym same) (one-more names known r.0 b agree new.0))

-- different names, each behind those that are known
abbrev AreApart : Known → List Name → Type 0
AreApart known names = AllByRecursion (λ (n : Name). IsNew n known) names

apart-more : (known : Known) (own : Name) (b : Bool) (names : List Name) → AllByRecursion (λ (n : Name). bytes_eq own n ≡ false) names → AreApart known names
    → AreApart (known ++ (own, b) ∷ []) names
apart-more known own b [] others apart = tt
apart-more known own b (n ∷ names) others apart = (
  subst (AllByRecursion (λ (m : Name). bytes_eq m n ≡ false)) (sym (map-append (λ (k : Name × Bool). k.0) known ((own, b) ∷ [])))
      (AllByRecursion-push (λ (m : Name). bytes_eq m n ≡ false) (map (λ (k : Name × Bool). k.0) known) own apart.0 others.0),
  apart-more known own b names others.1 apart.1,
)

new-from : (entries : Entries) (known : Known) → IsDistinct bytes_eq (map (λ r. r.0) entries) → AreApart known (map (λ r. r.0) entries) → AreNew known entries
unfolding IsDistinct
new-from [] known distinct apart = tt
new-from (r ∷ rest) known distinct apart =
    (apart.0, λ b. new-from rest (known ++ (r.0, b) ∷ []) distinct.1 (apart-more known r.0 b (map (λ (e : Name × PlainRelvar). e.0) rest) distinct.0 apart.1))

none-known : (names : List Name) → AreApart [] names
none-known [] = tt
none-known (n ∷ names) = (tt, none-known names)

-- where the names of the entries differ
pub over-names : (entries : Entries) → IsDistinct bytes_eq (map (λ r. r.0) entries) → is_one_of (names_over entries) ≡ over_log entries
over-names entries distinct =
    let agree : Agree (names_over entries) (each_after is_over_log [] entries) =
    agree-from entries [] [] (new-from entries [] distinct (none-known (map (λ (e : Name × PlainRelvar). e.0) entries))) (λ name. refl) in
    λ i name. agree name i

-- ---- as they are read

keys-read : (es : List (Name × Relvar)) → keys_of es ≡ map (λ r. r.0) (map read_entry es)
keys-read [] = refl
keys-read (e ∷ es) = ap (λ (names : List Name). e.0 ∷ names) (keys-read es)

-- no entries have different names
pub none-differ : (es : List (Name × Relvar)) → None ≡ slice_get es 0 → IsDistinct bytes_eq (keys_of es)
none-differ [] none = no-distinct bytes_eq
none-differ (e ∷ es) none = absurd (cc)

-- where all entries are gone through
pub over-told : (names : List Name) (left es : List (Name × Relvar)) → IsDistinct bytes_eq (keys_of es) → left ≡ [] → names_behind names (map read_entry left) ≡ names_over (map read_entry es)
    → is_one_of names ≡ over_log (map read_entry es)
over-told names left es distinct none all =
    let same : names ≡ names_over (map read_entry es) = sym (ap (λ (l : List (Name × Relvar)). names_behind names (map read_entry l)) none) ∙ all in
    ap is_one_of same ∙ over-names (map read_entry es) (subst (IsDistinct bytes_eq) (keys-read es) distinct)
