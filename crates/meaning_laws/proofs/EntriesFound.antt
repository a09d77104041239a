-- What names stand for among entries, each by what the names before it stand for.
--     has-push, has-more, has-each, has-named      whether a name is one of those of entries
--     each-append, each-more      entries behind others
--     IsFirstEntry, at-first, at-found      where a name stands first, and what it stands for there
use Rattle.std.proofs.Common.{◌≡◌, ℕ, Bool, true, false, cond, List, [], ◌∷◌, ◌++◌, refl, sym, ap, ◌∙◌, subst, Some, None, append_assoc}
use Rattle.std.specs.Prelude.{◌||◌, if◌then◌else◌}
use Rattle.std.specs.Str.{bytes_eq}
use Rattle.std.proofs.lemmas.Bool.{true≢false}
use Rattle.value_core.specs.Values.{Name}
use Rattle.tree_core.specs.Relvars.{PlainRelvar, Entries, relvar_named, relvar_heading}
use Rattle.meaning_core.specs.Names.{found, each_after, each_in}
use Rattle.meaning_core.specs.Typing.{heading_named}
use Rattle.meaning_core.specs.WellMade.{headings_of, IsRelvar, AreRelvars}
use Rattle.meaning_laws.specs.Likeness.{has_entry}

-- ---- whether a name is one of those of entries

module _ {A : Type 0} where
  pub has-push : (ks : List (Name × A)) (k : Name × A) (name : Name) → has_entry (ks ++ k ∷ []) name ≡ (has_entry ks name || bytes_eq k.0 name)
  has-push [] k name = by (bytes_eq k.0 name)
    where
      by : (b : Bool) → (b || false) ≡ (false || b)
      by true = refl
      by false = refl
  has-push (j ∷ ks) k name = by (bytes_eq j.0 name) (has-push ks k name)
    where
      by : (b : Bool) → has_entry (ks ++ k ∷ []) name ≡ (has_entry ks name || bytes_eq k.0 name) → (b || has_entry (ks ++ k ∷ []) name) ≡ ((b || has_entry ks name) || bytes_eq k.0 name)
      by true e = refl
      by false e = e

  pub has-more : (ks more : List (Name × A)) (name : Name) → has_entry ks name ≡ true → has_entry (ks ++ more) name ≡ true
  has-more [] more name h = absurd (true≢false (sym h))
  has-more (k ∷ ks) more name h = by (bytes_eq k.0 name) (has-more ks more name) h
    where
      by : (b : Bool) → (has_entry ks name ≡ true → has_entry (ks ++ more) name ≡ true) → (b || has_entry ks name) ≡ true → (b || has_entry (ks ++ more) name) ≡ true
      by true f g = refl
      by false f g = f g

  -- what a name stands for, where it stands in front
  pub found-more : (other : A) (ks more : List (Name × A)) (name : Name) → has_entry ks name ≡ true → found other (ks ++ more) name ≡ found other ks name
  found-more other [] more name h = absurd (true≢false (sym h))
  found-more other (k ∷ ks) more name h = by (bytes_eq k.0 name) (found-more other ks more name) h
    where
      by : (b : Bool) → (has_entry ks name ≡ true → found other (ks ++ more) name ≡ found other ks name) → (b || has_entry ks name) ≡ true
          → cond b k.1 (found other (ks ++ more) name) ≡ cond b k.1 (found other ks name)
      by true f g = refl
      by false f g = f g

  -- and where it does not
  pub found-last : (other : A) (ks more : List (Name × A)) (k : Name × A) (name : Name) → has_entry ks name ≡ false → bytes_eq k.0 name ≡ true → found other (ks ++ k ∷ more) name ≡ k.1
  found-last other [] more k name h here = ap (λ b. cond b k.1 (found other more name)) here
  found-last other (j ∷ ks) more k name h here = by (bytes_eq j.0 name) (found-last other ks more k name) h
    where
      by : (b : Bool) → (has_entry ks name ≡ false → bytes_eq k.0 name ≡ true → found other (ks ++ k ∷ more) name ≡ k.1) → (b || has_entry ks name) ≡ false
          → cond b j.1 (found other (ks ++ k ∷ more) name) ≡ k.1
      by true f g = absurd (true≢false g)
      by false f g = f g here

-- ---- by what the names before it stand for

module _ {A : Type 0} (of : List (Name × A) → PlainRelvar → A) where
  pub each-append : (known : List (Name × A)) (es more : Entries) → each_after of known (es ++ more) ≡ each_after of (each_after of known es) more
  each-append known [] more = refl
  each-append known (e ∷ es) more = each-append (known ++ (e.0, of known e.1) ∷ []) es more

  pub has-each : (known : List (Name × A)) (es : Entries) (name : Name) → has_entry (each_after of known es) name ≡ (has_entry known name || has_entry es name)
  has-each known [] name = by (has_entry known name)
    where
      by : (b : Bool) → b ≡ (b || false)
      by true = refl
      by false = refl
  has-each known (e ∷ es) name =
      has-each (known ++ (e.0, of known e.1) ∷ []) es name
      ∙ (ap (λ b. b || has_entry es name) (has-push known (e.0, of known e.1) name) ∙ by (has_entry known name))
    where
      by : (b : Bool) → ((b || bytes_eq e.0 name) || has_entry es name) ≡ (b || (bytes_eq e.0 name || has_entry es name))
      by true = refl
      by false = refl

  -- in the whole, the names that the front has stand for what they stand for in the front
  pub each-more : (other : A) (known : List (Name × A)) (more : Entries) (name : Name) → has_entry known name ≡ true → found other (each_after of known more) name ≡ found other known name
  each-more other known [] name h = refl
  each-more other known (e ∷ more) name h =
      each-more other (known ++ (e.0, of known e.1) ∷ []) more name (has-more known ((e.0, of known e.1) ∷ []) name h) ∙ found-more other known ((e.0, of known e.1) ∷ []) name h

  pub front-found : (other : A) (front back : Entries) (name : Name) → has_entry front name ≡ true → found other (each_in of (front ++ back)) name ≡ found other (each_in of front) name
  front-found other front back name h =
      ap (λ (ks : List (Name × A)). found other ks name) (each-append [] front back) ∙ each-more other (each_in of front) back name (has-each [] front name ∙ h)

  pub last-found : (other : A) (front back : Entries) (e : Name × PlainRelvar) (name : Name) → has_entry front name ≡ false → bytes_eq e.0 name ≡ true
      → found other (each_in of (front ++ e ∷ back)) name ≡ of (each_in of front) e.1
  last-found other front back e name h here =
      let own : Name × A = (e.0, of (each_in of front) e.1) in
      let none : has_entry (each_in of front) name ≡ false = has-each [] front name ∙ h in
      ap (λ (ks : List (Name × A)). found other ks name) (each-append [] front (e ∷ back))
      ∙ (each-more other (each_in of front ++ own ∷ []) back name (has-push (each_in of front) own name ∙ ((λ i. none i || here i)))
      ∙ found-last other (each_in of front) [] own name none here)

-- ---- where a name stands first

pub record IsFirstEntry (sizes : List ℕ) (es : Entries) (name : Name) (x : PlainRelvar) : Type 0 where
  pub front : Entries
  pub back : Entries
  pub key : Name
  pub whole : es ≡ front ++ (key, x) ∷ back
  pub here : bytes_eq key name ≡ true
  pub first : has_entry front name ≡ false
  pub made : IsRelvar sizes front key x

pub relvar-at : (sizes : List ℕ) (before front back : Entries) (e : Name × PlainRelvar) → AreRelvars sizes before (front ++ e ∷ back) → IsRelvar sizes (before ++ front) e.0 e.1
relvar-at sizes before [] back e all = subst (λ (es : Entries). IsRelvar sizes es e.0 e.1) (sym (append-none before)) all.0
  where
    append-none : (es : Entries) → es ++ [] ≡ es
    append-none [] = refl
    append-none (k ∷ es) = ap (λ (l : Entries). k ∷ l) (append-none es)
relvar-at sizes before (k ∷ front) back e all =
    subst (λ (es : Entries). IsRelvar sizes es e.0 e.1) (append_assoc before (k ∷ []) front) (relvar-at sizes (before ++ k ∷ []) front back e all.1)

-- a name that stands for something stands somewhere first
first-from : (sizes : List ℕ) (es before rest : Entries) (name : Name) (x : PlainRelvar) → AreRelvars sizes [] es → es ≡ before ++ rest → has_entry before name ≡ false
    → relvar_named rest name ≡ Some x → IsFirstEntry sizes es name x
first-from sizes es before [] name x all e none named = absurd cc
first-from sizes es before (k ∷ rest) name x all e none named =
    by (bytes_eq k.0 name) refl named
    (λ here is. first-from sizes es (before ++ k ∷ []) rest name x all (e ∙ sym (append_assoc before (k ∷ []) rest)) (has-push before k name ∙ (λ i. none i || here i)) is)
  where
    by : (b : Bool) → bytes_eq k.0 name ≡ b → (if b then Some k.1 else relvar_named rest name) ≡ Some x
        → (bytes_eq k.0 name ≡ false → relvar_named rest name ≡ Some x → IsFirstEntry sizes es name x) → IsFirstEntry sizes es name x
    by true here is more =
        let same : k.1 ≡ x = cc in
        subst (IsFirstEntry sizes es name) same
        (record {
          front = before;
          back = rest;
          key = k.0;
          whole = e;
          here = here;
          first = none;
          made = relvar-at sizes [] before rest k (subst (AreRelvars sizes []) e all);
        })
    by false here is more = more here is

pub at-first : (sizes : List ℕ) (es : Entries) (name : Name) (x : PlainRelvar) → AreRelvars sizes [] es → relvar_named es name ≡ Some x → IsFirstEntry sizes es name x
at-first sizes es name x all named = first-from sizes es [] es name x all refl refl named

-- and stands for what is made of it where the names before it are known
pub at-found : {A : Type 0} (of : List (Name × A) → PlainRelvar → A) (other : A) (sizes : List ℕ) (es : Entries) (name : Name) (x : PlainRelvar) (a : IsFirstEntry sizes es name x)
    → found other (each_in of es) name ≡ of (each_in of a.front) x
at-found of other sizes es name x a =
    ap (λ (l : Entries). found other (each_in of l) name) a.whole ∙ last-found of other a.front a.back (a.key, x) name a.first a.here

-- ---- names that have a relvar or a heading

pub has-named : (es : Entries) (name : Name) (x : PlainRelvar) → relvar_named es name ≡ Some x → has_entry es name ≡ true
has-named [] name x e = absurd cc
has-named (k ∷ es) name x e = by (bytes_eq k.0 name) (has-named es name x) e
  where
    by : (b : Bool) → (relvar_named es name ≡ Some x → has_entry es name ≡ true) → (if b then Some k.1 else relvar_named es name) ≡ Some x → (b || has_entry es name) ≡ true
    by true f g = refl
    by false f g = f g

pub none-heading : (es : Entries) (name : Name) → has_entry es name ≡ false → heading_named (headings_of es) name ≡ None
none-heading [] name h = refl
none-heading (k ∷ es) name h = by (bytes_eq k.0 name) (none-heading es name) h
  where
    by : (b : Bool) → (has_entry es name ≡ false → heading_named (headings_of es) name ≡ None) → (b || has_entry es name) ≡ false
        → (if b then Some (relvar_heading k.1) else heading_named (headings_of es) name) ≡ None
    by true f g = absurd (true≢false g)
    by false f g = f g
