-- What an expression or a test means turns only on what it names, itself and through views.
--     names-alike, test-names-alike      whether one of two kinds of names is named
--     left      the entries that are none of some names
--     IsApart      each view that is none of them names none of them
--     meaning-elsewhere, truth-elsewhere      the law: the meaning is that among the entries that are left
--     truth-unaffected      two lists of entries that differ at some names alone
--     truth-dropped      what is left is well made, and the test is typed for it
--     truth-appended      more entries behind those for which the test is typed
use Rattle.std.proofs.Common.{◌≡◌, ℕ, Bool, true, false, not, cond, List, [], ◌∷◌, ◌++◌, filter, refl, sym, ap, ◌∙◌, subst, Option, Some, None, Ok, inl, inr, ◌⊎◌}
use Rattle.std.specs.Prelude.{is_none, ◌||◌}
use Rattle.std.specs.List.{list_any}
use Rattle.std.specs.Str.{bytes_eq}
use Rattle.std.proofs.lemmas.Bool.{or_parts, or_cases, true≢false, false_from_ne_true}
use Rattle.std.proofs.lemmas.List.{append-nil}
use Rattle.base_core.specs.Outcomes.{then_give, both}
use Rattle.point_core.specs.Faults.{OrFault}
use Rattle.value_core.specs.Values.{Name, Heading, Relation}
use Rattle.tree_core.specs.Relvars.{PlainRelvar, base, view, Entries, State, relvar_named, relvar_heading, log}
use Rattle.tree_core.specs.Trees.{Tree, named, literal, infix_of, project, rename, restrict, extend, summarize, pack, unpack, using, Test, relate, is_empty, is_not_empty}
use Rattle.tree_core.specs.Uses.{is_one_of, names_any, test_names_any}
use Rattle.meaning_core.specs.Declarations.{without_all}
use Rattle.meaning_core.specs.Meanings.{RowsMeant, Known, Around, plainly, in_using, at_name, limited, meaning, relvar_meaning, known_in, meaning_in, names_at}
use Rattle.meaning_core.specs.Names.{found, each_after, given, given_entry, with_value}
use Rattle.meaning_core.specs.Truths.{truth_of, truth_in}
use Rattle.meaning_core.specs.Typing.{Headings, heading_named, IsTypedTree, IsTypedTest}
use Rattle.meaning_core.specs.WellMade.{sizes_of, headings_of, IsRelvar, AreRelvars, IsWellMade, IsTypedTestFor}
use Rattle.meaning_core.proofs.MadeLemmas.{same_name}

-- ---- outcomes

then-same : {X Y : Type 0} (m n : OrFault X) (f : X → OrFault Y) → m ≡ n → then_give m f ≡ then_give n f
then-same m n f e = λ i. then_give (e i) f

both-same : {X Y Z : Type 0} (m n : OrFault X) (p q : OrFault Y) (f : X → Y → OrFault Z) → m ≡ n → p ≡ q → both m p f ≡ both n q f
both-same m n p q f e d = λ i. both (e i) (d i) f

-- ---- names

-- whether an expression names one of these, where it names none of some others
pub names-alike : (some p q : Name → Bool) → ((name : Name) → some name ≡ false → p name ≡ q name) → (t : Tree) → names_any some t ≡ false → names_any p t ≡ names_any q t
names-alike some p q same (named place h name) none = same name none
names-alike some p q same (literal place h tuples) none = refl
names-alike some p q same (infix_of place h word l r) none =
    let parts = or_parts (names_any some l) (names_any some r) none in
    λ i. names-alike some p q same l parts.0 i || names-alike some p q same r parts.1 i
names-alike some p q same (project place h kept t) none = names-alike some p q same t none
names-alike some p q same (rename place h names t) none = names-alike some p q same t none
names-alike some p q same (restrict place h c t) none = names-alike some p q same t none
names-alike some p q same (extend place h sets t) none = names-alike some p q same t none
names-alike some p q same (summarize place h by aggregates t) none = names-alike some p q same t none
names-alike some p q same (pack place h commalist t) none = names-alike some p q same t none
names-alike some p q same (unpack place h commalist t) none = names-alike some p q same t none
names-alike some p q same (using place h commalist t) none = names-alike some p q same t none

pub test-names-alike : (some p q : Name → Bool) → ((name : Name) → some name ≡ false → p name ≡ q name) → (t : Test) → test_names_any some t ≡ false
    → test_names_any p t ≡ test_names_any q t
test-names-alike some p q same (relate place word commalist l r) none =
    let parts = or_parts (names_any some l) (names_any some r) none in
    λ i. names-alike some p q same l parts.0 i || names-alike some p q same r parts.1 i
test-names-alike some p q same (is_empty place t) none = names-alike some p q same t none
test-names-alike some p q same (is_not_empty place t) none = names-alike some p q same t none

-- ---- the entries that are left

module _ (some : Name → Bool) where
  -- a name that is one of some is not the other
  pub some-apart : (a b : Name) → some a ≡ true → some b ≡ false → bytes_eq a b ≡ false
  some-apart a b e d = false_from_ne_true (bytes_eq a b) (λ s. true≢false (sym e ∙ (ap some (same_name a b s) ∙ d)))

  pub apart-some : (a b : Name) → some a ≡ false → some b ≡ true → bytes_eq a b ≡ false
  apart-some a b e d = false_from_ne_true (bytes_eq a b) (λ s. true≢false (sym d ∙ (sym (ap some (same_name a b s)) ∙ e)))

  module _ {A : Type 0} where
    abbrev pub left : List (Name × A) → List (Name × A)
    left es = filter (λ e. not (some e.0)) es

    pub left-kept : (e : Name × A) (es : List (Name × A)) → some e.0 ≡ false → left (e ∷ es) ≡ e ∷ left es
    left-kept e es q = ap (λ (b : Bool). cond (not b) (e ∷ left es) (left es)) q

    pub left-gone : (e : Name × A) (es : List (Name × A)) → some e.0 ≡ true → left (e ∷ es) ≡ left es
    left-gone e es q = ap (λ (b : Bool). cond (not b) (e ∷ left es) (left es)) q

    pub left-append : (xs ys : List (Name × A)) → left (xs ++ ys) ≡ left xs ++ left ys
    left-append [] ys = refl
    left-append (x ∷ xs) ys =
        elim (some x.0) as (λ (b : Bool). cond (not b) (x ∷ left (xs ++ ys)) (left (xs ++ ys)) ≡ cond (not b) (x ∷ left xs) (left xs) ++ left ys) [
          | true ↦ left-append xs ys
          | false ↦ ap (λ (l : List (Name × A)). x ∷ l) (left-append xs ys)
        ]

    -- another name stands for the same among them
    pub found-left : (other : A) (ks : List (Name × A)) (name : Name) → some name ≡ false → found other ks name ≡ found other (left ks) name
    found-left other [] name none = refl
    found-left other (k ∷ ks) name none = by-test (some k.0) refl (found-left other ks name none)
      where
        by-test : (b : Bool) → some k.0 ≡ b → found other ks name ≡ found other (left ks) name → found other (k ∷ ks) name ≡ found other (left (k ∷ ks)) name
        by-test true e more =
            ap (λ (b : Bool). cond b k.1 (found other ks name)) (some-apart k.0 name e none) ∙ (more ∙ sym (ap (λ (l : List (Name × A)). found other l name) (left-gone k ks e)))
        by-test false e more =
            ap (λ (a : A). cond (bytes_eq k.0 name) k.1 a) more ∙ sym (ap (λ (l : List (Name × A)). found other l name) (left-kept k ks e))

  pub named-left : (es : Entries) (name : Name) → some name ≡ false → relvar_named (left es) name ≡ relvar_named es name
  named-left [] name none = refl
  named-left (r ∷ es) name none = by-test (some r.0) refl (named-left es name none)
    where
      by-test : (b : Bool) → some r.0 ≡ b → relvar_named (left es) name ≡ relvar_named es name → relvar_named (left (r ∷ es)) name ≡ relvar_named (r ∷ es) name
      by-test true e more =
          ap (λ (l : Entries). relvar_named l name) (left-gone r es e) ∙ (more ∙ sym (ap (λ (b : Bool). cond b (Some r.1) (relvar_named es name)) (some-apart r.0 name e none)))
      by-test false e more =
          ap (λ (l : Entries). relvar_named l name) (left-kept r es e) ∙ ap (λ (o : Option PlainRelvar). cond (bytes_eq r.0 name) (Some r.1) o) more

  -- ---- where other names mean the same

  abbrev pub AgreeElsewhere : Known → Known → Type 0
  AgreeElsewhere known other = (name : Name) → some name ≡ false → found (Ok []) known name ≡ found (Ok []) other name

  module _ (known other : Known) (agree : AgreeElsewhere known other) where
    pub meaning-agrees : (around : Around) (t : Tree) → names_any some t ≡ false → meaning known around t ≡ meaning other around t
    meaning-agrees around (named place h name) none = ap (λ (m : RowsMeant). then_give (at_name place m) (limited place)) (agree name none)
    meaning-agrees around (literal place h tuples) none = refl
    meaning-agrees around (infix_of place h word l r) none =
        let parts = or_parts (names_any some l) (names_any some r) none in
        both-same _ _ _ _ _ (meaning-agrees plainly l parts.0) (meaning-agrees plainly r parts.1)
    meaning-agrees around (project place h kept t) none = then-same _ _ _ (meaning-agrees plainly t none)
    meaning-agrees around (rename place h names t) none = then-same _ _ _ (meaning-agrees plainly t none)
    meaning-agrees around (restrict place h c t) none = then-same _ _ _ (meaning-agrees plainly t none)
    meaning-agrees around (extend place h sets t) none = then-same _ _ _ (meaning-agrees plainly t none)
    meaning-agrees around (summarize place h by aggregates t) none = then-same _ _ _ (meaning-agrees plainly t none)
    meaning-agrees around (pack place h commalist t) none = then-same _ _ _ (meaning-agrees plainly t none)
    meaning-agrees around (unpack place h commalist t) none = then-same _ _ _ (meaning-agrees plainly t none)
    meaning-agrees around (using place h commalist t) none = meaning-agrees (in_using place (names_at _ commalist)) t none

    pub truth-agrees : (t : Test) → test_names_any some t ≡ false → truth_of known t ≡ truth_of other t
    truth-agrees (relate place word commalist l r) none =
        let parts = or_parts (names_any some l) (names_any some r) none in
        both-same _ _ _ _ _ (meaning-agrees plainly l parts.0) (meaning-agrees plainly r parts.1)
    truth-agrees (is_empty place t) none = then-same _ _ _ (meaning-agrees plainly t none)
    truth-agrees (is_not_empty place t) none = then-same _ _ _ (meaning-agrees plainly t none)

  -- ---- the law

  -- whether a view's expression itself names one of some
  abbrev pub view_names : PlainRelvar → Bool
  view_names (base value constraints) = false
  view_names (view t kind) = names_any some t
  view_names (log of side last value) = false

  abbrev pub IsApart : Entries → Type 0
  IsApart [] = Unit {0}
  IsApart (e ∷ es) = (some e.0 ≡ false → view_names e.1 ≡ false) × IsApart es

  relvar-same : (known : Known) (r : PlainRelvar) → view_names r ≡ false → relvar_meaning known r ≡ relvar_meaning (left known) r
  relvar-same known (base value constraints) none = refl
  relvar-same known (view t kind) none = meaning-agrees known (left known) (λ name q. found-left (Ok []) known name q) plainly t none
  relvar-same known (log of side last value) none = refl

  module _ {A : Type 0} (of : List (Name × A) → PlainRelvar → A) (same : (known : List (Name × A)) (r : PlainRelvar) → view_names r ≡ false → of known r ≡ of (left known) r) where
    -- an entry with what its name stands for
    abbrev told : List (Name × A) → Name × PlainRelvar → Name × A
    told known e = (e.0, of known e.1)

    pub each-left : (known : List (Name × A)) (es : Entries) → IsApart es → left (each_after of known es) ≡ each_after of (left known) (left es)
    each-left known [] apart = refl
    each-left known (e ∷ es) apart = by-test (some e.0) refl (each-left (known ++ told known e ∷ []) es apart.1)
      where
        by-test : (b : Bool) → some e.0 ≡ b → left (each_after of (known ++ told known e ∷ []) es) ≡ each_after of (left (known ++ told known e ∷ [])) (left es)
            → left (each_after of known (e ∷ es)) ≡ each_after of (left known) (left (e ∷ es))
        by-test true q more =
            let stays : left (known ++ told known e ∷ []) ≡ left known =
            left-append known (told known e ∷ []) ∙ (ap (λ (l : List (Name × A)). left known ++ l) (left-gone (told known e) [] q) ∙ append-nil (left known)) in
            more ∙ (ap (λ (k : List (Name × A)). each_after of k (left es)) stays ∙ sym (ap (each_after of (left known)) (left-gone e es q)))
        by-test false q more =
            let comes : left (known ++ told known e ∷ []) ≡ left known ++ told (left known) e ∷ [] =
            left-append known (told known e ∷ [])
            ∙ (ap (λ (l : List (Name × A)). left known ++ l) (left-kept (told known e) [] q) ∙ ap (λ (a : A). left known ++ (e.0, a) ∷ []) (same known e.1 (apart.0 q))) in
            more ∙ (ap (λ (k : List (Name × A)). each_after of k (left es)) comes ∙ sym (ap (each_after of (left known)) (left-kept e es q)))

  agree-left : (es : Entries) → IsApart es → AgreeElsewhere (known_in es) (known_in (left es))
  agree-left es apart name none = found-left (Ok []) (known_in es) name none ∙ ap (λ (k : Known). found (Ok []) k name) (each-left relvar_meaning relvar-same [] es apart)

  pub meaning-elsewhere : (es : Entries) (t : Tree) → IsApart es → names_any some t ≡ false → meaning_in es t ≡ meaning_in (left es) t
  meaning-elsewhere es t apart none = meaning-agrees (known_in es) (known_in (left es)) (agree-left es apart) plainly t none

  pub truth-elsewhere : (es : Entries) (t : Test) → IsApart es → test_names_any some t ≡ false → truth_in es t ≡ truth_in (left es) t
  truth-elsewhere es t apart none = truth-agrees (known_in es) (known_in (left es)) (agree-left es apart) t none

  -- ---- entries that differ at some names alone

  apart-next : (e : Name × PlainRelvar) (es : Entries) → (some e.0 ≡ false → (view_names e.1 ≡ false) × IsApart (left es)) → (some e.0 ≡ true → IsApart (left es)) → IsApart (left (e ∷ es))
  apart-next e es kept gone = by-test (some e.0) refl
    where
      by-test : (b : Bool) → some e.0 ≡ b → IsApart (left (e ∷ es))
      by-test true q = subst IsApart (sym (left-gone e es q)) (gone q)
      by-test false q = let parts = kept q in subst IsApart (sym (left-kept e es q)) (λ _. parts.0, parts.1)

  into-left : (es : Entries) → IsApart es → IsApart (left es)
  into-left [] apart = tt
  into-left (e ∷ es) apart = apart-next e es (λ q. (apart.0 q, into-left es apart.1)) (λ _. into-left es apart.1)

  from-left : (es : Entries) → IsApart (left es) → IsApart es
  from-left [] apart = tt
  from-left (e ∷ es) apart = by-test (some e.0) refl (from-left es)
    where
      by-test : (b : Bool) → some e.0 ≡ b → (IsApart (left es) → IsApart es) → IsApart (e ∷ es)
      by-test true q more = (λ f. absurd (true≢false (sym q ∙ f)), more (subst IsApart (left-gone e es q) apart))
      by-test false q more =
          let parts : IsApart (e ∷ left es) = subst IsApart (left-kept e es q) apart in
          (parts.0, more parts.1)

  pub apart-alike : (es fs : Entries) → left es ≡ left fs → IsApart es → IsApart fs
  apart-alike es fs same apart = from-left fs (subst IsApart same (into-left es apart))

  pub truth-unaffected : (es fs : Entries) (t : Test) → left es ≡ left fs → IsApart es → test_names_any some t ≡ false → truth_in es t ≡ truth_in fs t
  truth-unaffected es fs t same apart none =
      truth-elsewhere es t apart none ∙ (ap (λ (l : Entries). truth_in l t) same ∙ sym (truth-elsewhere fs t (apart-alike es fs same apart) none))

  -- another value of a relvar that is one of some
  pub left-given : (name : Name) (value : Option Relation) (es : Entries) → some name ≡ true → left (given (Some name) value es) ≡ left es
  left-given name value [] one = refl
  left-given name value (e ∷ es) one = by-test (some e.0) refl (left-given name value es one)
    where
      unlike : (o : Option Relation) → bytes_eq e.0 name ≡ false → given_entry (Some name) o e ≡ e
      unlike None q = refl
      unlike (Some v) q = ap (λ (b : Bool). (e.0, cond b (with_value v e.1) e.1)) q

      by-test : (b : Bool) → some e.0 ≡ b → left (given (Some name) value es) ≡ left es → left (given (Some name) value (e ∷ es)) ≡ left (e ∷ es)
      by-test true q more = left-gone (given_entry (Some name) value e) (given (Some name) value es) q ∙ (more ∙ sym (left-gone e es q))
      by-test false q more =
          left-kept (given_entry (Some name) value e) (given (Some name) value es) q
          ∙ ((λ i. unlike value (apart-some e.0 name q one) i ∷ more i) ∙ sym (left-kept e es q))

  -- ---- typed expressions name what has a heading

  -- none of some has a heading
  abbrev pub IsClear : Headings → Type 0
  IsClear headings = (name : Name) → some name ≡ true → heading_named headings name ≡ None

  module _ (sizes : List ℕ) (headings : Headings) (clear : IsClear headings) where
    pub typed-names : (t : Tree) → IsTypedTree sizes headings t → names_any some t ≡ false
    typed-names (named place h name) is = false_from_ne_true (some name) (λ e. let none : heading_named headings name ≡ None = clear name e in absurd (cc))
    typed-names (literal place h tuples) is = refl
    typed-names (infix_of place h word l r) is = λ i. typed-names l is.0 i || typed-names r is.1 i
    typed-names (project place h kept t) is = typed-names t is.0
    typed-names (rename place h names t) is = typed-names t is.0
    typed-names (restrict place h c t) is = typed-names t is.0
    typed-names (extend place h sets t) is = typed-names t is.0
    typed-names (summarize place h by aggregates t) is = typed-names t is.0
    typed-names (pack place h commalist t) is = typed-names t is.0
    typed-names (unpack place h commalist t) is = typed-names t is.0
    typed-names (using place h commalist t) is = typed-names t is.0

    pub typed-test-names : (t : Test) → IsTypedTest sizes headings t → test_names_any some t ≡ false
    typed-test-names (relate place word commalist l r) is = λ i. typed-names l is.0 i || typed-names r is.1 i
    typed-test-names (is_empty place t) is = typed-names t is
    typed-test-names (is_not_empty place t) is = typed-names t is

  -- ---- what is left is well made

  clear-push : (before : Entries) (e : Name × PlainRelvar) → some e.0 ≡ false → IsClear (headings_of before) → IsClear (headings_of (before ++ e ∷ []))
  clear-push before e q clear name one = from before (clear name one)
    where
      from : (es : Entries) → heading_named (headings_of es) name ≡ None → heading_named (headings_of (es ++ e ∷ [])) name ≡ None
      from [] none = ap (λ (b : Bool). cond b (Some (relvar_heading e.1)) None) (apart-some e.0 name q one)
      from (k ∷ es) none = by-test (bytes_eq k.0 name) (from es) none
        where
          by-test : (b : Bool) → (heading_named (headings_of es) name ≡ None → heading_named (headings_of (es ++ e ∷ [])) name ≡ None)
              → cond b (Some (relvar_heading k.1)) (heading_named (headings_of es) name) ≡ None → cond b (Some (relvar_heading k.1)) (heading_named (headings_of (es ++ e ∷ [])) name) ≡ None
          by-test true more f = f
          by-test false more f = more f

  pub left-clear : (es : Entries) → IsClear (headings_of (left es))
  left-clear [] name one = refl
  left-clear (e ∷ es) name one = by-test (some e.0) refl (left-clear es name one)
    where
      by-test : (b : Bool) → some e.0 ≡ b → heading_named (headings_of (left es)) name ≡ None → heading_named (headings_of (left (e ∷ es))) name ≡ None
      by-test true q more = ap (λ (l : Entries). heading_named (headings_of l) name) (left-gone e es q) ∙ more
      by-test false q more =
          ap (λ (l : Entries). heading_named (headings_of l) name) (left-kept e es q)
          ∙ (ap (λ (b : Bool). cond b (Some (relvar_heading e.1)) (heading_named (headings_of (left es)) name)) (apart-some e.0 name q one) ∙ more)

  relvar-names : (sizes : List ℕ) (before : Entries) (own : Name) (r : PlainRelvar) → IsClear (headings_of before) → IsRelvar sizes before own r → view_names r ≡ false
  relvar-names sizes before own (base value constraints) clear is = refl
  relvar-names sizes before own (view t kind) clear is = typed-names sizes (headings_of before) clear t is.0
  relvar-names sizes before own (log of side last value) clear is = refl

  pub apart-left : (sizes : List ℕ) (es before : Entries) → IsClear (headings_of before) → AreRelvars sizes before (left es) → IsApart es
  apart-left sizes [] before clear all = tt
  apart-left sizes (e ∷ es) before clear all = by-test (some e.0) refl (apart-left sizes es)
    where
      by-test : (b : Bool) → some e.0 ≡ b → ((front : Entries) → IsClear (headings_of front) → AreRelvars sizes front (left es) → IsApart es) → IsApart (e ∷ es)
      by-test true q more = (λ f. absurd (true≢false (sym q ∙ f)), more before clear (subst (AreRelvars sizes before) (left-gone e es q) all))
      by-test false q more =
          let parts : AreRelvars sizes before (e ∷ left es) = subst (AreRelvars sizes before) (left-kept e es q) all in
          (λ _. relvar-names sizes before e.0 e.1 clear parts.0, more (before ++ e ∷ []) (clear-push before e q clear) parts.1)

  pub truth-left : (sizes : List ℕ) (es : Entries) (t : Test) → AreRelvars sizes [] (left es) → IsTypedTest sizes (headings_of (left es)) t → truth_in (left es) t ≡ truth_in es t
  truth-left sizes es t all is =
      sym (truth-elsewhere es t (apart-left sizes es [] (λ name one. refl) all) (typed-test-names sizes (headings_of (left es)) (left-clear es) t is))

-- what is dropped changes the truth of no test that is typed for what is left
pub truth-dropped : (names : List Name) (s : State) (t : Test) → IsWellMade (without_all names s) → IsTypedTestFor (without_all names s) t
    → truth_in (without_all names s).relvars t ≡ truth_in s.relvars t
truth-dropped names s t made is = truth-left (is_one_of names) (sizes_of s.ordinals) s.relvars t made.relvars is

-- ---- more entries behind

module _ {A : Type 0} where
  abbrev pub has : List (Name × A) → Name → Bool
  has ks name = list_any (λ k. bytes_eq k.0 name) ks

  has-more : (ks more : List (Name × A)) (name : Name) → has ks name ≡ true → has (ks ++ more) name ≡ true
  has-more [] more name h = absurd (true≢false (sym h))
  has-more (k ∷ ks) more name h = by-test (bytes_eq k.0 name) (has-more ks more name) h
    where
      by-test : (b : Bool) → (has ks name ≡ true → has (ks ++ more) name ≡ true) → (b || has ks name) ≡ true → (b || has (ks ++ more) name) ≡ true
      by-test true f g = refl
      by-test false f g = f g

  has-last : (ks : List (Name × A)) (k : Name × A) (name : Name) → bytes_eq k.0 name ≡ true → has (ks ++ k ∷ []) name ≡ true
  has-last [] k name h = ap (λ (b : Bool). b || false) h
  has-last (j ∷ ks) k name h = by-test (bytes_eq j.0 name) (has-last ks k name h)
    where
      by-test : (b : Bool) → has (ks ++ k ∷ []) name ≡ true → (b || has (ks ++ k ∷ []) name) ≡ true
      by-test true f = refl
      by-test false f = f

  found-more : (other : A) (ks more : List (Name × A)) (name : Name) → has ks name ≡ true → found other (ks ++ more) name ≡ found other ks name
  found-more other [] more name h = absurd (true≢false (sym h))
  found-more other (k ∷ ks) more name h = by-test (bytes_eq k.0 name) (found-more other ks more name) h
    where
      by-test : (b : Bool) → (has ks name ≡ true → found other (ks ++ more) name ≡ found other ks name) → (b || has ks name) ≡ true
          → cond b k.1 (found other (ks ++ more) name) ≡ cond b k.1 (found other ks name)
      by-test true f g = refl
      by-test false f g = f g

  module _ (of : List (Name × A) → PlainRelvar → A) (other : A) where
    pub each-append : (known : List (Name × A)) (es more : Entries) → each_after of known (es ++ more) ≡ each_after of (each_after of known es) more
    each-append known [] more = refl
    each-append known (e ∷ es) more = each-append (known ++ (e.0, of known e.1) ∷ []) es more

    pub each-more : (known : List (Name × A)) (more : Entries) (name : Name) → has known name ≡ true → found other (each_after of known more) name ≡ found other known name
    each-more known [] name h = refl
    each-more known (e ∷ more) name h =
        let own : Name × A = (e.0, of known e.1) in
        each-more (known ++ own ∷ []) more name (has-more known (own ∷ []) name h) ∙ found-more other known (own ∷ []) name h

has-each : {A : Type 0} (of : List (Name × A) → PlainRelvar → A) (known : List (Name × A)) (es : Entries) (name : Name) → (has known name ≡ true) ⊎ (has es name ≡ true)
    → has (each_after of known es) name ≡ true
has-each of known [] name h = elim h [ inl e ↦ e | inr e ↦ absurd (true≢false (sym e)) ]
has-each {A = A} of known (e ∷ es) name h =
    let own : Name × A = (e.0, of known e.1) in
    has-each of (known ++ own ∷ []) es name (elim h [
      | inl q ↦ inl (has-more known (own ∷ []) name q)
      | inr q ↦ elim (or_cases (bytes_eq e.0 name) (has es name) q) [
        | inl p ↦ inl (has-last known own name p)
        | inr p ↦ inr p
      ]
    ])

-- a name that stands among the entries stands for the same among more
pub found-appended : {A : Type 0} (of : List (Name × A) → PlainRelvar → A) (other : A) (es more : Entries) (name : Name) → has es name ≡ true
    → found other (each_after of [] (es ++ more)) name ≡ found other (each_after of [] es) name
found-appended {A = A} of other es more name h =
    ap (λ (k : List (Name × A)). found other k name) (each-append of other [] es more)
    ∙ each-more of other (each_after of [] es) more name (has-each of [] es name (inr h))

pub has-heading : (es : Entries) (name : Name) → is_none (heading_named (headings_of es) name) ≡ false → has es name ≡ true
has-heading [] name h = absurd (true≢false h)
has-heading (e ∷ es) name h = by-test (bytes_eq e.0 name) (has-heading es name) h
  where
    by-test : (b : Bool) → (is_none (heading_named (headings_of es) name) ≡ false → has es name ≡ true) → is_none (cond b (Some (relvar_heading e.1)) (heading_named (headings_of es) name)) ≡ false
        → (b || has es name) ≡ true
    by-test true f g = refl
    by-test false f g = f g

pub none-is : (o : Option Heading) → is_none o ≡ true → o ≡ None
none-is None e = refl
none-is (Some h) e = absurd (true≢false (sym e))

-- what is declared behind changes the truth of no test that is typed for what stood before
pub truth-appended : (sizes : List ℕ) (es more : Entries) (t : Test) → IsTypedTest sizes (headings_of es) t → truth_in (es ++ more) t ≡ truth_in es t
truth-appended sizes es more t is =
    let unknown : Name → Bool = λ name. is_none (heading_named (headings_of es) name) in
    truth-agrees unknown (known_in (es ++ more)) (known_in es)
    (λ name q. found-appended relvar_meaning (Ok []) es more name (has-heading es name q))
    t (typed-test-names unknown sizes (headings_of es) (λ name one. none-is (heading_named (headings_of es) name) one) t is)
