-- What is said of a state from which a relvar, a view, a history or a database constraint went.
--     IsGone      one of what is said goes, and its names are those that go
--     others-apart      the names of the others do not go
--     relvar-gone, rule-gone      one goes with DROP VAR of what is no log, and with DROP CONSTRAINT
use Rattle.std.proofs.Common.{◌≡◌, inl, inr, Bool, true, false, List, [], ◌∷◌, ◌++◌, refl, sym, ap, ◌∙◌, subst, Option, Some, None}
use Rattle.std.specs.Prelude.{◌||◌}
use Rattle.std.specs.List.{flat_map, IsDistinct}
use Rattle.std.specs.Str.{bytes_eq}
use Rattle.std.proofs.lemmas.Bool.{true≢false, or_left}
use Rattle.std.proofs.lemmas.List.Concat.{flat_map-append}
use Rattle.base_core.proofs.ListLemmas.{bytes_eq-sym}
use Rattle.base_core.proofs.MemberLemmas.{In-append, In-flat_map, list_any-In}
use Rattle.base_core.proofs.SetLemmas.{In}
use Rattle.value_core.specs.declared.constraint.Constraint.{Constraint}
use Rattle.value_core.specs.Values.{Name, Relation}
use Rattle.tree_core.specs.Relvars.{State, PlainRelvar, base, view, relvar_named, history_if, log, derived, stored, of_history, PlainKind, history_in}
use Rattle.tree_core.specs.Trees.{Tree, Test}
use Rattle.tree_core.specs.Uses.{is_one_of}
use Rattle.meaning_core.specs.Declarations.{with_history, group}
use Rattle.meaning_core.specs.Logs.{is_log}
use Rattle.meaning_core.proofs.MadeLemmas.{own_name, same_name}
use Rattle.declaration_typing.specs.Drops.{is_in_history, is_of_history}
use Rattle.declaration_typing.specs.Names.{is_rule}
use Rattle.typing_laws.specs.Saying.{Said, said_ordinal, said_base, said_view, said_stored, said_history, said_rule, names_said, entries_said, ordinals_said, rules_said}
use Rattle.dump_laws.specs.Kept.{key_said, IsListedAs}
use Rattle.part_laws.specs.Parts.{without_rows}
use Rattle.dump_laws.proofs.ListLaws.{split-at, given-middle, distinct-apart, distinct-later, distinct-without}
use Rattle.dump_laws.proofs.MadeLaws.{named-in, entry-in, said-of, said-rule-of}

-- ---- one of all

-- one of what is said has the key, and its names are those that go
pub record IsGone (ds : List Said) (name : Name) (gone : Name → Bool) : Type 0 where
  pub front : List Said
  pub back : List Said
  pub d : Said
  pub parts : ds ≡ front ++ d ∷ back
  pub key : key_said d ≡ name
  pub names : (k : Name) → gone k ≡ is_one_of (names_said d) k
  pub stays : ordinals_said d ≡ []

pub any-none : (name : Name) (names : List Name) → ((n : Name) → In n names → bytes_eq name n ≡ false) → is_one_of names name ≡ false
any-none name [] h = refl
any-none name (n ∷ names) h = ap (λ (b : Bool). b || is_one_of names name) (h n (inl refl)) ∙ any-none name names (λ m i. h m (inr i))

pub any-own : (name : Name) (names : List Name) → In name names → is_one_of names name ≡ true
any-own name names i = (list_any-In (bytes_eq name) names).1 (name, i, own_name name)

-- the names of the others are none of its names
pub others-apart : (front back : List Said) (d : Said) → IsDistinct bytes_eq (flat_map names_said (front ++ d ∷ back)) → (z : Said) → In z (front ++ back) → (n : Name) → In n (names_said z)
    → is_one_of (names_said d) n ≡ false
others-apart front back d differ z i n j =
    let all : IsDistinct bytes_eq (flat_map names_said front ++ (names_said d ++ flat_map names_said back)) = subst (IsDistinct bytes_eq) (given-middle names_said front back d) differ in
    any-none n (names_said d) (λ m k. elim ((In-append z front back).0 i) [
      | inl a ↦ distinct-apart bytes_eq (flat_map names_said front) (names_said d ++ flat_map names_said back) all n m
          ((In-flat_map names_said n front).1 (z, a, j)) ((In-append m (names_said d) (flat_map names_said back)).1 (inl k))
      | inr b ↦ bytes_eq-sym n m
          ∙ distinct-apart bytes_eq (names_said d) (flat_map names_said back) (distinct-later bytes_eq (flat_map names_said front) (names_said d ++ flat_map names_said back) all) m n
          k ((In-flat_map names_said n back).1 (z, b, j))
    ])

-- and they differ among themselves
pub others-differ : (front back : List Said) (d : Said) → IsDistinct bytes_eq (flat_map names_said (front ++ d ∷ back)) → IsDistinct bytes_eq (flat_map names_said (front ++ back))
others-differ front back d differ =
    subst (IsDistinct bytes_eq) (sym (flat_map-append names_said front back))
    (distinct-without bytes_eq (flat_map names_said front) (names_said d) (flat_map names_said back) (subst (IsDistinct bytes_eq) (given-middle names_said front back d) differ))

-- ---- what goes with DROP VAR

base-history : (r : PlainRelvar) (v : Relation) (cs : List Constraint) → without_rows r ≡ base v cs → history_if (Some r) ≡ None
base-history (base value constraints) v cs e = refl
base-history (view t kind) v cs e = absurd (cc)
base-history (log o k last w) v cs e = absurd (cc)

view-history : (r : PlainRelvar) (t : Tree) (kind : PlainKind) → without_rows r ≡ view t kind → history_if (Some r) ≡ history_in kind
view-history (base value constraints) t kind e = absurd (cc)
view-history (view u p) t kind e = let same : p ≡ kind = cc in ap history_in same
view-history (log q k last w) t kind e = absurd (cc)

is-its : (x : Name × PlainRelvar) (n : Name) (t : Tree) (names : Name × Name) → without_rows x.1 ≡ view t (of_history names) → (bytes_eq n names.0 || bytes_eq n names.1) ≡ true
    → is_in_history n x.1 ≡ true
is-its x n t names e one = by x.1 e
  where
    by : (r : PlainRelvar) → without_rows r ≡ view t (of_history names) → is_in_history n r ≡ true
    by (base value constraints) f = absurd (cc)
    by (view u derived) f = absurd (cc)
    by (view u stored) f = absurd (cc)
    by (log o k last w) f = absurd (cc)
    by (view u (of_history others)) f = let same : others ≡ names = cc in subst (λ (p : Name × Name). (bytes_eq n p.0 || bytes_eq n p.1) ≡ true) (sym same) one

or-again : (a b c : Bool) → (a || (b || (c || false))) ≡ (c || (b || (a || false)))
or-again true true true = refl
or-again true true false = refl
or-again true false true = refl
or-again true false false = refl
or-again false true true = refl
or-again false true false = refl
or-again false false true = refl
or-again false false false = refl

module _ (w : State) (ds : List Said) (made : IsListedAs w ds) where
  -- a since relvar and a during relvar are told as of a history
  of-history : (h : _) (n : Name) → In (said_history h) ds → (bytes_eq n h.since || bytes_eq n h.during) ≡ true → is_of_history w.relvars n ≡ true
  of-history h n i one =
      let here = entry-in w ds made _ (said_history h) i (inr (inr (inl refl))) in
      (list_any-In (λ (e : Name × PlainRelvar). is_in_history n e.1) w.relvars).1
      (here.0, here.1, is-its here.0 n _ (h.since, h.during) (sym (ap (λ (x : Name × PlainRelvar). x.1) here.2)) one)

  -- the names that go are those of a base relvar or view, or of a history
  gone-names : (name : Name) (r : PlainRelvar) (d : Said) → relvar_named w.relvars name ≡ Some r → is_of_history w.relvars name ≡ false → In d ds → In (name, without_rows r) (entries_said d)
      → (key_said d ≡ name) × ((k : Name) → is_one_of (group w.relvars name) k ≡ is_one_of (names_said d) k) × (ordinals_said d ≡ []) × (rules_said d ≡ [])
  gone-names name r (said_ordinal own names) e alone i j = absurd j
  gone-names name r (said_base own heading typed) e alone i j = elim j [
    | inl k ↦
        let same : name ≡ own = ap (λ (x : Name × PlainRelvar). x.0) k in
        let none : history_if (relvar_named w.relvars name) ≡ None = ap history_if e ∙ base-history r _ _ (ap (λ (x : Name × PlainRelvar). x.1) k) in
        (sym same, λ n. ap (λ (o : Option (Name × Name)). is_one_of (with_history name o) n) none ∙ ap (λ (m : Name). is_one_of (m ∷ []) n) same, refl, refl)
    | inr k ↦ absurd k
  ]
  gone-names name r (said_view own t) e alone i j = elim j [
    | inl k ↦
        let same : name ≡ own = ap (λ (x : Name × PlainRelvar). x.0) k in
        let none : history_if (relvar_named w.relvars name) ≡ None = ap history_if e ∙ view-history r t derived (ap (λ (x : Name × PlainRelvar). x.1) k) in
        (sym same, λ n. ap (λ (o : Option (Name × Name)). is_one_of (with_history name o) n) none ∙ ap (λ (m : Name). is_one_of (m ∷ []) n) same, refl, refl)
    | inr k ↦ absurd k
  ]
  gone-names name r (said_stored own t) e alone i j = elim j [
    | inl k ↦
        let same : name ≡ own = ap (λ (x : Name × PlainRelvar). x.0) k in
        let none : history_if (relvar_named w.relvars name) ≡ None = ap history_if e ∙ view-history r t stored (ap (λ (x : Name × PlainRelvar). x.1) k) in
        (sym same, λ n. ap (λ (o : Option (Name × Name)). is_one_of (with_history name o) n) none ∙ ap (λ (m : Name). is_one_of (m ∷ []) n) same, refl, refl)
    | inr k ↦ absurd k
  ]
  gone-names name r (said_history h) e alone i j = elim j [
    | inl k ↦
        let same : name ≡ h.since = ap (λ (x : Name × PlainRelvar). x.0) k in
        absurd (true≢false (sym (of-history h name i (or_left (bytes_eq name h.since) (bytes_eq name h.during) (subst (λ (m : Name). bytes_eq name m ≡ true) same (own_name name)))) ∙ alone))
    | inr l ↦ elim l [
      | inl k ↦
          let same : name ≡ h.during = ap (λ (x : Name × PlainRelvar). x.0) k in
          absurd (true≢false (sym (of-history h name i (or_later (bytes_eq name h.since) (bytes_eq name h.during) (subst (λ (m : Name). bytes_eq name m ≡ true) same (own_name name)))) ∙ alone))
      | inr m ↦ elim m [
        | inl k ↦
            let same : name ≡ h.view = ap (λ (x : Name × PlainRelvar). x.0) k in
            let its : history_if (relvar_named w.relvars name) ≡ Some (h.since, h.during) = ap history_if e ∙ view-history r _ (of_history (h.since, h.during)) (ap (λ (x : Name × PlainRelvar). x.1) k) in (
              sym same,
              λ n.
                  ap (λ (o : Option (Name × Name)). is_one_of (with_history name o) n) its
                  ∙ (ap (λ (x : Name). is_one_of (x ∷ h.during ∷ h.since ∷ []) n) same ∙ or-again (bytes_eq n h.view) (bytes_eq n h.during) (bytes_eq n h.since)),
              refl,
              refl,
            )
        | inr k ↦ absurd k
      ]
    ]
  ]
    where
      or_later : (a b : Bool) → b ≡ true → (a || b) ≡ true
      or_later true b q = refl
      or_later false b q = q
  gone-names name r (said_rule own t) e alone i j = absurd j

  pub relvar-gone : (name : Name) (r : PlainRelvar) → relvar_named w.relvars name ≡ Some r → is_log r ≡ false → is_of_history w.relvars name ≡ false
      → (g : IsGone ds name (is_one_of (group w.relvars name))) × (rules_said g.d ≡ [])
  relvar-gone name r e none alone =
      let said = said-of w ds made (name, r) (named-in w.relvars name r e) none in
      let parts = split-at said.0 ds said.1 in
      let goes = gone-names name r said.0 e alone said.1 said.2 in
      (record { front = parts.0; back = parts.1; d = said.0; parts = parts.2; key = goes.0; names = goes.1; stays = goes.2 }, goes.3)

  -- ---- what goes with DROP CONSTRAINT

  rule-names : (name : Name) (r : Name × Test) (d : Said) → bytes_eq name r.0 ≡ true → In r (rules_said d) → (key_said d ≡ name) × ((k : Name) → bytes_eq k name ≡ is_one_of (names_said d) k)
      × (ordinals_said d ≡ []) × (entries_said d ≡ [])
  rule-names name r (said_ordinal own names) q j = absurd j
  rule-names name r (said_base own heading typed) q j = absurd j
  rule-names name r (said_view own t) q j = absurd j
  rule-names name r (said_stored own t) q j = absurd j
  rule-names name r (said_history h) q j = absurd j
  rule-names name r (said_rule own t) q j = elim j [
    | inl k ↦
        let same : name ≡ own = same_name name r.0 q ∙ ap (λ (x : Name × Test). x.0) k in
        (sym same, λ n. ap (bytes_eq n) same ∙ sym (or-none (bytes_eq n own)), refl, refl)
    | inr k ↦ absurd k
  ]
    where
      or-none : (b : Bool) → (b || false) ≡ b
      or-none true = refl
      or-none false = refl

  pub rule-gone : (name : Name) → is_rule w name ≡ true → (g : IsGone ds name (λ k. bytes_eq k name)) × (entries_said g.d ≡ [])
  rule-gone name there =
      let here = (list_any-In (λ (r : Name × Test). bytes_eq name r.0) w.rules).0 there in
      let said = said-rule-of w ds made here.0 here.1 in
      let parts = split-at said.0 ds said.1 in
      let goes = rule-names name here.0 said.0 here.2 said.2 in
      (record { front = parts.0; back = parts.1; d = said.0; parts = parts.2; key = goes.0; names = goes.1; stays = goes.2 }, goes.3)
