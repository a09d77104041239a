-- What is made of each entry, by what the names before it stand for, does not hang on the order of the entries.
--     EntriesAgree      one entry here and the like there, where the names that it names agree
--     each-alike      the law: then all names of the entries agree
--     each-known      the same, of names that are not unknown
--     names-or, names-known, test-names-known      which names an expression names
--     has_none      whether a name has no entry
use Rattle.std.proofs.Common.{◌≡◌, ℕ, Bool, true, false, not, List, [], ◌∷◌, ◌++◌, refl, sym, ap, ◌∙◌, subst, Option, Some, None, append_assoc, append-nil}
use Rattle.std.specs.Prelude.{◌||◌, if◌then◌else◌}
use Rattle.std.specs.Str.{bytes_eq}
use Rattle.std.proofs.lemmas.Bool.{or_parts, or_from, not-true, not-false, true≢false}
use Rattle.value_core.specs.Values.{Name}
use Rattle.tree_core.specs.Relvars.{PlainRelvar, base, view, Entries, relvar_named, log}
use Rattle.tree_core.specs.Trees.{Tree, named, literal, infix_of, project, rename, restrict, extend, summarize, pack, unpack, using, Test, relate, is_empty, is_not_empty}
use Rattle.tree_core.specs.Uses.{names_any, test_names_any}
use Rattle.meaning_core.specs.Names.{found, each_in}
use Rattle.meaning_core.specs.Typing.{IsTypedTree, IsTypedTest}
use Rattle.meaning_core.specs.WellMade.{headings_of, IsRelvar, AreRelvars}
use Rattle.meaning_core.proofs.ElsewhereLemmas.{view_names, IsApart, typed-names, typed-test-names}
use Rattle.meaning_core.proofs.MadeLemmas.{same_name}
use Rattle.meaning_laws.specs.Likeness.{IsLike, RelatedIf, IsSameThere, has_entry, unknown}
use Rattle.meaning_laws.proofs.EntriesFound.{IsFirstEntry, at-first, at-found, relvar-at, front-found, has-push, none-heading}
use Rattle.meaning_laws.proofs.SameMoved.{names-moved}

-- ---- which names an expression names

module _ (some more : Name → Bool) where
  pub names-or : (t : Tree) → names_any some t ≡ false → names_any more t ≡ false → names_any (λ name. some name || more name) t ≡ false
  names-or (named place h name) p q = or_from (some name) (more name) p q
  names-or (literal place h tuples) p q = refl
  names-or (infix_of place h word l r) p q =
      let a = or_parts (names_any some l) (names_any some r) p in
      let b = or_parts (names_any more l) (names_any more r) q in
      λ i. names-or l a.0 b.0 i || names-or r a.1 b.1 i
  names-or (project place h kept t) p q = names-or t p q
  names-or (rename place h names t) p q = names-or t p q
  names-or (restrict place h c t) p q = names-or t p q
  names-or (extend place h sets t) p q = names-or t p q
  names-or (summarize place h by aggregates t) p q = names-or t p q
  names-or (pack place h commalist t) p q = names-or t p q
  names-or (unpack place h commalist t) p q = names-or t p q
  names-or (using place h commalist t) p q = names-or t p q

  pub test-names-or : (t : Test) → test_names_any some t ≡ false → test_names_any more t ≡ false → test_names_any (λ name. some name || more name) t ≡ false
  test-names-or (relate place word commalist l r) p q =
      let a = or_parts (names_any some l) (names_any some r) p in
      let b = or_parts (names_any more l) (names_any more r) q in
      λ i. names-or l a.0 b.0 i || names-or r a.1 b.1 i
  test-names-or (is_empty place t) p q = names-or t p q
  test-names-or (is_not_empty place t) p q = names-or t p q

  pub view-or : (x : PlainRelvar) → view_names some x ≡ false → view_names more x ≡ false → view_names (λ name. some name || more name) x ≡ false
  view-or (base value constraints) p q = refl
  view-or (view t kind) p q = names-or t p q
  view-or (log of side last value) p q = refl

abbrev pub has_none : Entries → Name → Bool
has_none es name = not (has_entry es name)

-- a typed expression names no name that has no entry
module _ (es : Entries) (sizes : List ℕ) where
  pub tree-has : (t : Tree) → IsTypedTree sizes (headings_of es) t → names_any (has_none es) t ≡ false
  tree-has t is = typed-names (has_none es) sizes (headings_of es) (λ name one. none-heading es name (not-true (has_entry es name) one)) t is

  pub test-has : (t : Test) → IsTypedTest sizes (headings_of es) t → test_names_any (has_none es) t ≡ false
  test-has t is = typed-test-names (has_none es) sizes (headings_of es) (λ name one. none-heading es name (not-true (has_entry es name) one)) t is

  pub names-known : (some : Name → Bool) (t : Tree) → names_any some t ≡ false → IsTypedTree sizes (headings_of es) t → names_any (unknown some es) t ≡ false
  names-known some t none is = names-or some (has_none es) t none (tree-has t is)

  pub test-names-known : (some : Name → Bool) (t : Test) → test_names_any some t ≡ false → IsTypedTest sizes (headings_of es) t → test_names_any (unknown some es) t ≡ false
  test-names-known some t none is = test-names-or some (has_none es) t none (test-has t is)

  pub relvar-has : (own : Name) (x : PlainRelvar) → IsRelvar sizes es own x → view_names (has_none es) x ≡ false
  relvar-has own (base value constraints) is = refl
  relvar-has own (view t kind) is = tree-has t is.0
  relvar-has own (log of side last value) is = refl

pub unknown-not : (some : Name → Bool) (es : Entries) (name : Name) → unknown some es name ≡ false → (some name ≡ false) × (has_entry es name ≡ true)
unknown-not some es name e = let parts = or_parts (some name) (not (has_entry es name)) e in (parts.0, not-false (has_entry es name) parts.1)

-- what is like names the same
pub like-names : (some : Name → Bool) (x y : PlainRelvar) → IsLike x y → view_names some y ≡ false → view_names some x ≡ false
like-names some (base v c) y like none = refl
like-names some (view t h) (base u d) like none = absurd like
like-names some (view t h) (view u g) like none = sym (names-moved like.0.0 some t) ∙ (ap (names_any some) (sym like.0.1) ∙ none)
like-names some (view t h) (log o i last w) like none = absurd like
like-names some (log o i last w) y like none = refl

apart-at : (some : Name → Bool) (front back : Entries) (e : Name × PlainRelvar) → IsApart some (front ++ e ∷ back) → some e.0 ≡ false → view_names some e.1 ≡ false
apart-at some [] back e apart q = apart.0 q
apart-at some (k ∷ front) back e apart q = apart-at some front back e apart.1 q

named-behind : (front back : Entries) (e : Name × PlainRelvar) (name : Name) → has_entry front name ≡ false → bytes_eq e.0 name ≡ true → relvar_named (front ++ e ∷ back) name ≡ Some e.1
named-behind [] back e name none here = ap (λ b. if b then Some e.1 else relvar_named back name) here
named-behind (k ∷ front) back e name none here = by (bytes_eq k.0 name) none (named-behind front back e name)
  where
    by : (b : Bool) → (b || has_entry front name) ≡ false → (has_entry front name ≡ false → bytes_eq e.0 name ≡ true → relvar_named (front ++ e ∷ back) name ≡ Some e.1)
        → (if b then Some k.1 else relvar_named (front ++ e ∷ back) name) ≡ Some e.1
    by true f g = absurd (true≢false f)
    by false f g = g f here

-- ---- the law

module _ {A : Type 0} (of : List (Name × A) → PlainRelvar → A) (other : A) (R : A → A → Type 0) (Same : PlainRelvar → PlainRelvar → Type 0) where
  -- what is made of a relvar or view here, and of the one there, agrees where the names that it names agree
  abbrev pub EntriesAgree : Type 0
  EntriesAgree =
      (known there : List (Name × A)) (out : Name → Bool) (x y : PlainRelvar) → Same x y → ((name : Name) → out name ≡ false → R (found other known name) (found other there name))
      → view_names out x ≡ false
      → R (of known x) (of there y)

  module _ (like : (x y : PlainRelvar) → Same x y → IsLike x y) (step : EntriesAgree) (some : Name → Bool) (sizes more : List ℕ) (es fs : Entries) where
    abbrev Agrees : Name → Type 0
    Agrees name = R (found other (each_in of es) name) (found other (each_in of fs) name)

    -- of the first entry of a name, where the names before it agree
    at-both : (m : Name) (x y : PlainRelvar) (a : IsFirstEntry sizes es m x) (b : IsFirstEntry more fs m y) → Same x y → view_names some x ≡ false
        → ((k : Name) → some k ≡ false → has_entry a.front k ≡ true → Agrees k)
        → Agrees m
    at-both m x y a b s none before =
        let out : Name → Bool = λ k. unknown some a.front k || not (has_entry b.front k) in
        let none_out : view_names out x ≡ false =
        view-or (unknown some a.front) (has_none b.front) x (view-or some (has_none a.front) x none (relvar-has a.front sizes a.key x a.made))
        (like-names (has_none b.front) x y (like x y s) (relvar-has b.front more b.key y b.made)) in
        let agree : (k : Name) → out k ≡ false → R (found other (each_in of a.front) k) (found other (each_in of b.front) k) = λ k q.
        let parts = or_parts (unknown some a.front k) (not (has_entry b.front k)) q in
        let here = unknown-not some a.front k parts.0 in
        let left : found other (each_in of es) k ≡ found other (each_in of a.front) k =
        ap (λ (l : Entries). found other (each_in of l) k) a.whole ∙ front-found of other a.front ((a.key, x) ∷ a.back) k here.1 in
        let right : found other (each_in of fs) k ≡ found other (each_in of b.front) k =
        ap (λ (l : Entries). found other (each_in of l) k) b.whole ∙ front-found of other b.front ((b.key, y) ∷ b.back) k (not-false (has_entry b.front k) parts.1) in
        subst (λ (T : Type 0). T) (λ i. R (left i) (right i)) (before k here.0 here.1) in
        subst (λ (T : Type 0). T) (λ i. R (sym (at-found of other sizes es m x a) i) (sym (at-found of other more fs m y b) i))
        (step (each_in of a.front) (each_in of b.front) out x y s agree none_out)

    module _ (made : AreRelvars sizes [] es) (others : AreRelvars more [] fs) (same : IsSameThere Same some es fs) (apart : IsApart some es) where
      -- one entry more
      next : (before : Entries) (e : Name × PlainRelvar) (rest : Entries) → es ≡ before ++ e ∷ rest → ((k : Name) → some k ≡ false → has_entry before k ≡ true → Agrees k)
          → (m : Name) → some m ≡ false → has_entry (before ++ e ∷ []) m ≡ true → Agrees m
      next before e rest whole known m out has = by (has_entry before m) refl
        where
          -- the like entry there
          there : (o : Option PlainRelvar) → relvar_named fs m ≡ o → RelatedIf Same (Some e.1) o → bytes_eq e.0 m ≡ true → has_entry before m ≡ false → Agrees m
          there None q r here none = absurd r
          there (Some y) q r here none =
              let apart_here : view_names some e.1 ≡ false = apart-at some before rest e (subst (IsApart some) whole apart) (ap some (same_name e.0 m here) ∙ out) in
              let a : IsFirstEntry sizes es m e.1 = record {
                front = before;
                back = rest;
                key = e.0;
                whole = whole;
                here = here;
                first = none;
                made = relvar-at sizes [] before rest e (subst (AreRelvars sizes []) whole made);
              } in
              at-both m e.1 y a (at-first more fs m y others q) r apart_here known

          by : (b : Bool) → has_entry before m ≡ b → Agrees m
          by true h = known m out h
          by false h =
              let here : bytes_eq e.0 m ≡ true = sym (ap (λ b. b || bytes_eq e.0 m) h) ∙ (sym (has-push before e m) ∙ has) in
              let named_here : relvar_named es m ≡ Some e.1 = ap (λ (l : Entries). relvar_named l m) whole ∙ named-behind before rest e m h here in
              there (relvar_named fs m) refl (subst (λ (o : Option PlainRelvar). RelatedIf Same o (relvar_named fs m)) named_here (same m out)) here h

      loop : (before rest : Entries) → es ≡ before ++ rest → ((k : Name) → some k ≡ false → has_entry before k ≡ true → Agrees k) → (m : Name) → some m ≡ false → has_entry es m ≡ true → Agrees m
      loop before [] whole known m out has = known m out (ap (λ (l : Entries). has_entry l m) (sym (append-nil before) ∙ sym whole) ∙ has)
      loop before (e ∷ rest) whole known m out has = loop (before ++ e ∷ []) rest (whole ∙ sym (append_assoc before (e ∷ []) rest)) (next before e rest whole known) m out has

      pub each-alike : (name : Name) → some name ≡ false → has_entry es name ≡ true → R (found other (each_in of es) name) (found other (each_in of fs) name)
      each-alike name out has = loop [] es refl (λ k _ none. absurd (true≢false (sym none))) name out has

      pub each-known : (name : Name) → unknown some es name ≡ false → R (found other (each_in of es) name) (found other (each_in of fs) name)
      each-known name q = let parts = unknown-not some es name q in each-alike name parts.0 parts.1
