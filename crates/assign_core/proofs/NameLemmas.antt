-- Names that differ, and what is found under a name.
use Rattle.std.proofs.Common.{◌≡◌, ℕ, zero, suc, ◌<◌, Bool, true, false, not, cond, List, [], ◌∷◌, ◌++◌, map, filter, take, drop, length, get_or, refl, sym, ap, subst, ◌∙◌, arith, true≢false}
use Rattle.std.specs.Prelude.{◌||◌}
use Rattle.std.specs.List.{IsDistinct, AllByRecursion}
use Rattle.std.specs.Map.{keys_of}
use Rattle.std.specs.Str.{bytes_eq}
use Rattle.indexmap.specs.IndexMap.{insert_entry, shift_remove_entry}
use Rattle.base_core.proofs.ListLemmas.{bytes_eq-sym}
use Rattle.value_core.specs.Values.{Name}
use Rattle.tree_core.specs.declared.relvar.Relvar.{Relvar}
use Rattle.tree_core.specs.declared.test.RelTest.{RelTest}
use Rattle.tree_core.specs.Relvars.{PlainRelvar, Entries, State, read_entry, read_rule}
use Rattle.tree_core.specs.Trees.{Test}
use Rattle.tree_core.specs.Uses.{is_one_of}
use Rattle.meaning_core.specs.WellMade.{IsWellMade}
use Rattle.meaning_core.proofs.MadeLemmas.{same_name, own_name}
use Rattle.assign_core.specs.Parts.{names_in}

-- ---- equal names

pub turned : (a b : Name) → bytes_eq a b ≡ false → bytes_eq b a ≡ false
turned a b e = by (bytes_eq b a) refl
  where
    by : (t : Bool) → bytes_eq b a ≡ t → bytes_eq b a ≡ false
    by false q = q
    by true q = absurd (true≢false (sym (own_name a) ∙ (ap (λ (n : Name). bytes_eq a n) (sym (same_name b a q)) ∙ e)))

-- ---- different names

all_earlier : (P : Name → Type 0) (xs ys : List Name) → AllByRecursion P (xs ++ ys) → AllByRecursion P xs
all_earlier P [] ys h = tt
all_earlier P (x ∷ xs) ys h = (h.0, all_earlier P xs ys h.1)

all_last : (P : Name → Type 0) (xs : List Name) (y : Name) → AllByRecursion P (xs ++ y ∷ []) → P y
all_last P [] y h = h.0
all_last P (x ∷ xs) y h = all_last P xs y h.1

pub distinct_earlier : (xs ys : List Name) → IsDistinct bytes_eq (xs ++ ys) → IsDistinct bytes_eq xs
unfolding IsDistinct
distinct_earlier [] ys h = tt
distinct_earlier (x ∷ xs) ys h = (all_earlier (λ y. bytes_eq x y ≡ false) xs ys h.0, distinct_earlier xs ys h.1)

pub distinct_later : (xs ys : List Name) → IsDistinct bytes_eq (xs ++ ys) → IsDistinct bytes_eq ys
unfolding IsDistinct
distinct_later [] ys h = h
distinct_later (x ∷ xs) ys h = distinct_later xs ys h.1

-- a new name goes last
pub insert_new : {V : Type 0} (es : List (Name × V)) (k : Name) (v : V) → IsDistinct bytes_eq (keys_of es ++ k ∷ []) → insert_entry bytes_eq es k v ≡ es ++ (k, v) ∷ []
unfolding IsDistinct
insert_new {V} [] k v h = refl
insert_new {V} (e ∷ es) k v h =
    let other : bytes_eq k e.0 ≡ false = turned e.0 k (all_last (λ y. bytes_eq e.0 y ≡ false) (keys_of es) k h.0) in
    ap (λ (b : Bool). cond b ((e.0, v) ∷ es) (e ∷ insert_entry bytes_eq es k v)) other ∙ ap (λ (z : List (Name × V)). e ∷ z) (insert_new es k v h.1)

names_one : (es : List (Name × Relvar)) (n : Name) (r : PlainRelvar) → names_in (map read_entry es ++ (n, r) ∷ []) ≡ keys_of es ++ n ∷ []
names_one [] n r = refl
names_one (e ∷ es) n r = ap (λ (z : List Name). e.0 ∷ z) (names_one es n r)

pub new_name : (es : List (Name × Relvar)) (n : Name) (r : PlainRelvar) → IsDistinct bytes_eq (names_in (map read_entry es ++ (n, r) ∷ [])) → IsDistinct bytes_eq (keys_of es ++ n ∷ [])
new_name es n r h = subst (IsDistinct bytes_eq) (names_one es n r) h

pub names_of_keys : (es : List (Name × Relvar)) → names_in (map read_entry es) ≡ keys_of es
names_of_keys [] = refl
names_of_keys (e ∷ es) = ap (λ (z : List Name). e.0 ∷ z) (names_of_keys es)

pub names_more : (xs ys : Entries) → names_in (xs ++ ys) ≡ names_in xs ++ names_in ys
names_more [] ys = refl
names_more (x ∷ xs) ys = ap (λ (z : List Name). x.0 ∷ z) (names_more xs ys)

-- the names of relvars differ, and those of database constraints
pub relvars_differ : (s : State) → IsWellMade s → IsDistinct bytes_eq (names_in s.relvars)
relvars_differ s made = distinct_later (map (λ k. k.0) s.rules ++ map (λ o. o.name) s.ordinals) (names_in s.relvars) made.different

pub rules_differ : (s : State) → IsWellMade s → IsDistinct bytes_eq (map (λ k. k.0) s.rules)
rules_differ s made =
    distinct_earlier (map (λ k. k.0) s.rules) (map (λ o. o.name) s.ordinals)
    (distinct_earlier (map (λ k. k.0) s.rules ++ map (λ o. o.name) s.ordinals) (names_in s.relvars) made.different)

-- ---- names removed

pub distinct_more : (x : Name) (ys : List Name) → AllByRecursion (λ y. bytes_eq x y ≡ false) ys → IsDistinct bytes_eq ys → IsDistinct bytes_eq (x ∷ ys)
unfolding IsDistinct
distinct_more x ys here rest = (here, rest)

module _ {V : Type 0} where
  abbrev pub apart_from : Name → List (Name × V) → List (Name × V)
  apart_from name es = filter (λ r. not (bytes_eq r.0 name)) es

  none_other : (es : List (Name × V)) (name : Name) → AllByRecursion (λ y. bytes_eq name y ≡ false) (keys_of es) → apart_from name es ≡ es
  none_other [] name h = refl
  none_other (e ∷ es) name h =
      ap (λ (b : Bool). cond (not b) (e ∷ apart_from name es) (apart_from name es)) (turned name e.0 h.0) ∙ ap (λ (z : List (Name × V)). e ∷ z) (none_other es name h.1)

  pub shift_apart : (es : List (Name × V)) (name : Name) → IsDistinct bytes_eq (keys_of es) → shift_remove_entry (bytes_eq name) es ≡ apart_from name es
  unfolding IsDistinct
  shift_apart [] name h = refl
  shift_apart (e ∷ es) name h = by (bytes_eq name e.0) refl (shift_apart es name h.1)
    where
      by : (t : Bool) → bytes_eq name e.0 ≡ t → shift_remove_entry (bytes_eq name) es ≡ apart_from name es
          → cond (bytes_eq name e.0) es (e ∷ shift_remove_entry (bytes_eq name) es) ≡ cond (not (bytes_eq e.0 name)) (e ∷ apart_from name es) (apart_from name es)
      by true q ih =
          let here : bytes_eq e.0 name ≡ true = bytes_eq-sym e.0 name ∙ q in
          let none = none_other es name (subst (λ (n : Name). AllByRecursion (λ y. bytes_eq n y ≡ false) (keys_of es)) (sym (same_name name e.0 q)) h.0) in
          ap (λ (b : Bool). cond b es (e ∷ shift_remove_entry (bytes_eq name) es)) q
          ∙ (sym none ∙ sym (ap (λ (b : Bool). cond (not b) (e ∷ apart_from name es) (apart_from name es)) here))
      by false q ih =
          let apart : bytes_eq e.0 name ≡ false = turned name e.0 q in
          ap (λ (b : Bool). cond b es (e ∷ shift_remove_entry (bytes_eq name) es)) q
          ∙ (ap (λ (z : List (Name × V)). e ∷ z) ih ∙ sym (ap (λ (b : Bool). cond (not b) (e ∷ apart_from name es) (apart_from name es)) apart))

  all_apart : (P : Name → Type 0) (es : List (Name × V)) (name : Name) → AllByRecursion P (keys_of es) → AllByRecursion P (keys_of (apart_from name es))
  all_apart P [] name h = tt
  all_apart P (e ∷ es) name h = by (bytes_eq e.0 name) (all_apart P es name h.1)
    where
      by : (t : Bool) → AllByRecursion P (keys_of (apart_from name es)) → AllByRecursion P (keys_of (cond (not t) (e ∷ apart_from name es) (apart_from name es)))
      by true ih = ih
      by false ih = (h.0, ih)

  pub distinct_apart : (es : List (Name × V)) (name : Name) → IsDistinct bytes_eq (keys_of es) → IsDistinct bytes_eq (keys_of (apart_from name es))
  unfolding IsDistinct
  distinct_apart [] name h = tt
  distinct_apart (e ∷ es) name h = by (bytes_eq e.0 name) (distinct_apart es name h.1) (all_apart (λ y. bytes_eq e.0 y ≡ false) es name h.0)
    where
      by : (t : Bool) → IsDistinct bytes_eq (keys_of (apart_from name es)) → AllByRecursion (λ y. bytes_eq e.0 y ≡ false) (keys_of (apart_from name es))
          → IsDistinct bytes_eq (keys_of (cond (not t) (e ∷ apart_from name es) (apart_from name es)))
      by true ih here = ih
      by false ih here = distinct_more e.0 (keys_of (apart_from name es)) here ih

  -- the entries that are none of some names
  abbrev pub none_of : List Name → List (Name × V) → List (Name × V)
  none_of names es = filter (λ r. not (is_one_of names r.0)) es

  pub one_removed : (es : List (Name × V)) (a : Name) → apart_from a es ≡ none_of (a ∷ []) es
  one_removed [] a = refl
  one_removed (e ∷ es) a = by (bytes_eq e.0 a) (one_removed es a)
    where
      by : (t : Bool) → apart_from a es ≡ none_of (a ∷ []) es
          → cond (not t) (e ∷ apart_from a es) (apart_from a es) ≡ cond (not (t || false)) (e ∷ none_of (a ∷ []) es) (none_of (a ∷ []) es)
      by true ih = ih
      by false ih = ap (λ (z : List (Name × V)). e ∷ z) ih

  module _ (e : Name × V) (es : List (Name × V)) (a b c : Name) (ih : apart_from c (apart_from b (apart_from a es)) ≡ none_of (a ∷ b ∷ c ∷ []) es) where
    third : (t : Bool) → cond (not t) (e ∷ apart_from c (apart_from b (apart_from a es))) (apart_from c (apart_from b (apart_from a es)))
        ≡ cond (not (t || false)) (e ∷ none_of (a ∷ b ∷ c ∷ []) es) (none_of (a ∷ b ∷ c ∷ []) es)
    third true = ih
    third false = ap (λ (z : List (Name × V)). e ∷ z) ih

    second : (t : Bool) → apart_from c (cond (not t) (e ∷ apart_from b (apart_from a es)) (apart_from b (apart_from a es)))
        ≡ cond (not (t || (bytes_eq e.0 c || false))) (e ∷ none_of (a ∷ b ∷ c ∷ []) es) (none_of (a ∷ b ∷ c ∷ []) es)
    second true = ih
    second false = third (bytes_eq e.0 c)

    first : (t : Bool) → apart_from c (apart_from b (cond (not t) (e ∷ apart_from a es) (apart_from a es)))
        ≡ cond (not (t || (bytes_eq e.0 b || (bytes_eq e.0 c || false)))) (e ∷ none_of (a ∷ b ∷ c ∷ []) es) (none_of (a ∷ b ∷ c ∷ []) es)
    first true = ih
    first false = second (bytes_eq e.0 b)

  pub three_removed : (es : List (Name × V)) (a b c : Name) → apart_from c (apart_from b (apart_from a es)) ≡ none_of (a ∷ b ∷ c ∷ []) es
  three_removed [] a b c = refl
  three_removed (e ∷ es) a b c = first e es a b c (three_removed es a b c) (bytes_eq e.0 a)

-- entries are read the same before and after
abbrev pub with_read : {V W : Type 0} → (V → W) → Name × V → Name × W
with_read f e = (e.0, f e.1)

pub filter_read : {V W : Type 0} (f : V → W) (keep : Name → Bool) (es : List (Name × V))
    → map (with_read f) (filter (λ r. keep r.0) es) ≡ filter (λ r. keep r.0) (map (with_read f) es)
filter_read {V} {W} f keep [] = refl
filter_read {V} {W} f keep (e ∷ es) = by (keep e.0) (filter_read f keep es)
  where
    by : (t : Bool) → map (with_read f) (filter (λ r. keep r.0) es) ≡ filter (λ r. keep r.0) (map (with_read f) es)
        → map (with_read f) (cond t (e ∷ filter (λ r. keep r.0) es) (filter (λ r. keep r.0) es))
        ≡ cond t (with_read f e ∷ filter (λ r. keep r.0) (map (with_read f) es)) (filter (λ r. keep r.0) (map (with_read f) es))
    by true ih = ap (λ (z : List (Name × W)). with_read f e ∷ z) ih
    by false ih = ih

pub names_of_rules : (rs : List (Name × RelTest)) → map (λ k. k.0) (map read_rule rs) ≡ keys_of rs
names_of_rules [] = refl
names_of_rules (r ∷ rs) = ap (λ (z : List Name). r.0 ∷ z) (names_of_rules rs)

pub new_rule : (rs : List (Name × RelTest)) (n : Name) (t : Test) → IsDistinct bytes_eq (map (λ k. k.0) (map read_rule rs ++ (n, t) ∷ [])) → IsDistinct bytes_eq (keys_of rs ++ n ∷ [])
new_rule rs n t h = subst (IsDistinct bytes_eq) (by rs) h
  where
    by : (ks : List (Name × RelTest)) → map (λ k. k.0) (map read_rule ks ++ (n, t) ∷ []) ≡ keys_of ks ++ n ∷ []
    by [] = refl
    by (k ∷ ks) = ap (λ (z : List Name). k.0 ∷ z) (by ks)

-- ---- lists in parts

pub split_at : {A : Type 0} (xs : List A) (i : ℕ) (x : A) → i < length xs → x ≡ get_or xs i x → xs ≡ take i xs ++ x ∷ drop (suc i) xs
split_at [] i x l e = absurd (omega arith)
split_at (y ∷ ys) zero x l e = ap (λ z. z ∷ ys) (sym e)
split_at (y ∷ ys) (suc i) x l e = ap (λ z. y ∷ z) (split_at ys i x (omega arith) e)
