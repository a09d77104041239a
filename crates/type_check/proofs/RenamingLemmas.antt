-- Typed renamings are typed for evaluation: the names behind them are all different.
use Rattle.std.specs.Prelude.{◌≡◌, ◌≤◌, ℕ, suc, ◌+◌, Bool, true, false, cond, List, [], ◌∷◌, filter, length, nat_eq, Ok, Err, IfOk, IsTrue, refl, if◌then◌else◌}
use Rattle.std.proofs.Common.{arith, sym, ◌∙◌, ap, subst, inl, inr, ◌⊎◌}
use Rattle.std.specs.List.{AllByRecursion, IsDistinct}
use Rattle.std.specs.Cmp.Lexicographic.{texts_ties}
use Rattle.std.specs.Ordering.{is_eq}
use Rattle.std.specs.Str.{bytes_eq}
use Rattle.std.proofs.lemmas.Bool.{true≢false, false_from_ne_true, leb-true}
use Rattle.base_core.proofs.SetLemmas.{In, Ascends}
use Rattle.base_core.proofs.MemberLemmas.{In-append}
use Rattle.base_core.proofs.SetOperatorLemmas.{AllAfter-In, length-in_order}
use Rattle.point_core.specs.declared.fault.Place.{Place}
use Rattle.point_core.specs.declared.fault.Code.TheVariants.{E06}
use Rattle.point_core.specs.Faults.{OrFault}
use Rattle.utd_syntax.specs.Plain.{Word, RenamingP, Renaming, RenamingsP}
use Rattle.value_core.specs.declared.kind.Kind.{Kind}
use Rattle.value_core.specs.Values.{Name, Heading, attribute_cmp, is_heading}
use Rattle.relation_core.specs.Parts.{renamed}
use Rattle.relation_core.proofs.ApartLemmas.{Apart}
use Rattle.relation_core.proofs.AttributeLemmas.{same_name}
use Rattle.relation_core.proofs.HeadingLemmas.{heading_ascends, few_attributes}
use Rattle.relation_core.proofs.RenamingLemmas.{length-renamed, name_in}
use Rattle.relation_typing.specs.Attributes.{is_name, name_typed}
use Rattle.scalar_typing.specs.Typings.{refused}
use Rattle.scalar_typing.proofs.SoundLemmas.{then-sound, any-given}
use Rattle.tree_core.specs.Trees.{Tree, heading_of}
use Rattle.meaning_core.specs.Typing.{IsRenaming, Headings, IsTypedTree}
use Rattle.node_typing.specs.Headings.{heading_of_list}
use Rattle.node_typing.specs.Nodes.{renaming_rule}
use Rattle.node_typing.specs.Positions.{check, new_position}
use Rattle.node_typing.specs.Projections.{NewNames, renamed_positions, renaming_typed, renamings_typed, name_behind, names_from, stands_once, new_names_once, renaming_list, renaming_names}
use Rattle.type_check.proofs.ExtensionLemmas.{order-heading}
use Rattle.declaration_typing.proofs.PositionLemmas.{held}
use Rattle.meaning_core.proofs.MadeLemmas.{own_name as own, same_name as name-is}
use Rattle.since_during.proofs.PlaceLemmas.{each-from}
use Rattle.node_typing.proofs.ListLemmas.{length-names_from}

-- ---- new names are written ones

-- a renaming has the new name
abbrev pub GivesName : List RenamingP → Name → Type 0
GivesName [] name = ⊥
GivesName (Renaming old new ∷ rest) name = (name ≡ new.bytes) ⊎ GivesName rest name

-- each new name so far is that of a renaming
abbrev pub AreWritten : List RenamingP → NewNames → Type 0
AreWritten list pairs = (p : ℕ × Name) → In p pairs → GivesName list p.1

pub word-typed : (w : Word) → IfOk (name_typed w) (λ (name : Name). name ≡ w.bytes)
word-typed w = by-test (is_name w.bytes)
  where
    by-test : (b : Bool) → IfOk (if b then Ok w.bytes else refused w.place E06) (λ (name : Name). name ≡ w.bytes)
    by-test true = refl
    by-test false = tt

renaming-written : (heading : Heading) (list : List RenamingP) (before : NewNames) (old new : Word) → GivesName list new.bytes → AreWritten list before
    → IfOk (renaming_typed heading before (Renaming old new)) (AreWritten list)
renaming-written heading list before old new here h =
    then-sound (λ _. Unit {0}) (AreWritten list) (new_position heading (renamed_positions before) old) _ (any-given (new_position heading (renamed_positions before) old)) (λ at _.
    then-sound (λ (name : Name). name ≡ new.bytes) (AreWritten list) (name_typed new) _ (word-typed new) (λ name is p i.
    elim ((In-append p before ((at, name) ∷ [])).0 i) [
      | inl j ↦ h p j
      | inr j ↦ elim j [
        | inl e ↦ subst (GivesName list) (sym (ap (λ (q : ℕ × Name). q.1) e ∙ is)) here
        | inr k ↦ absurd k
      ]
    ]))

renamings-written : (heading : Heading) (list : List RenamingP) (before : NewNames) (rest : List RenamingP) → ((name : Name) → GivesName rest name → GivesName list name) → AreWritten list before
    → IfOk (renamings_typed heading before rest) (AreWritten list)
renamings-written heading list before [] within h = h
renamings-written heading list before (Renaming old new ∷ rest) within h =
    then-sound (AreWritten list) (AreWritten list) (renaming_typed heading before (Renaming old new)) _ (renaming-written heading list before old new (within new.bytes (inl refl)) h)
    (λ next is. renamings-written heading list next rest (λ name g. within name (inr g)) is)

-- ---- a new name stands once among all

once-names : (names : List Name) (list : List RenamingP) → IfOk (new_names_once names list) (λ (all : List Name). (all ≡ names) × ((name : Name) → GivesName list name → IsTrue (stands_once names name)))
once-names names [] = (refl, λ name g. absurd g)
once-names names (Renaming old new ∷ rest) =
    then-sound (λ _. IsTrue (stands_once names new.bytes)) _ (check new.place _ (stands_once names new.bytes)) _ (held new.place _ (stands_once names new.bytes)) (λ _ once.
    more (new_names_once names rest) once (once-names names rest))
  where
    more : (r : OrFault (List Name)) → IsTrue (stands_once names new.bytes) → IfOk r (λ (all : List Name). (all ≡ names) × ((name : Name) → GivesName rest name → IsTrue (stands_once names name)))
        → IfOk r (λ (all : List Name). (all ≡ names) × ((name : Name) → GivesName (Renaming old new ∷ rest) name → IsTrue (stands_once names name)))
    more (Ok all) once h = (
      h.0,
      λ name g. elim g [
        | inl e ↦ subst (λ (m : Name). IsTrue (stands_once names m)) (sym e) once
        | inr k ↦ h.1 name k
      ],
    )
    more (Err e) once h = tt

-- the names that are the name
abbrev pub times : Name → List Name → ℕ
times name names = length (filter (bytes_eq name) names)

times-head : (name n : Name) (names : List Name) → bytes_eq name n ≡ true → times name (n ∷ names) ≡ suc (times name names)
times-head name n names e = ap (λ (b : Bool). length (cond b (n ∷ filter (bytes_eq name) names) (filter (bytes_eq name) names))) e

times-tail : (name n : Name) (names : List Name) → times name names ≤ times name (n ∷ names)
times-tail name n names = by-test (bytes_eq name n)
  where
    by-test : (b : Bool) → times name names ≤ length (cond b (n ∷ filter (bytes_eq name) names) (filter (bytes_eq name) names))
    by-test true = omega arith
    by-test false = omega arith

times-some : (name : Name) (names : List Name) → In name names → 1 ≤ times name names
times-some name [] i = absurd i
times-some name (n ∷ names) i =
    let tail = times-tail name n names in
    elim i [
      | inl s ↦
          let one = times-head name n names (ap (bytes_eq name) (sym s) ∙ own name) in
          omega (arith, one)
      | inr j ↦
          let some = times-some name names j in
          omega (arith, some, tail)
    ]

-- ---- the names behind all renamings

behind : (list : List RenamingP) (pairs : NewNames) (i : ℕ) (name : Name) → AreWritten list pairs → (name_behind pairs i name ≡ name) ⊎ GivesName list (name_behind pairs i name)
behind list [] i name h = inl refl
behind list (p ∷ pairs) i name h = by-test (nat_eq p.0 i) (h p (inl refl)) (behind list pairs i name (λ q j. h q (inr j)))
  where
    by-test : (b : Bool) → GivesName list p.1 → (name_behind pairs i name ≡ name) ⊎ GivesName list (name_behind pairs i name)
        → ((if b then p.1 else name_behind pairs i name) ≡ name) ⊎ GivesName list (if b then p.1 else name_behind pairs i name)
    by-test true here there = inr here
    by-test false here there = there

-- the name is a new one, or the old name of an attribute
abbrev pub IsBehind : List RenamingP → Heading → Name → Type 0
IsBehind list h y = GivesName list y ⊎ ((b : Name × Kind) × In b h × (y ≡ b.0))

behind-in : (list : List RenamingP) (pairs : NewNames) (n : ℕ) (h : Heading) (y : Name) → AreWritten list pairs → In y (names_from pairs n h) → IsBehind list h y
behind-in list pairs n [] y w i = absurd i
behind-in list pairs n (a ∷ rest) y w i = elim i [
  | inl e ↦ elim (behind list pairs n a.0 w) [
    | inl old ↦ inr (a, inl refl, e ∙ old)
    | inr new ↦ inl (subst (GivesName list) (sym e) new)
  ]
  | inr j ↦ elim (behind-in list pairs (n + 1) rest y w j) [
    | inl new ↦ inl new
    | inr old ↦ inr (old.0, inr old.1, old.2)
  ]
]

-- a new name that stands in front stands no more
twice : (x y : Name) (xs : List Name) → times x (x ∷ xs) ≤ 1 → In y xs → x ≡ y → ⊥
twice x y xs few i e =
    let some = times-some x xs (subst (λ (z : Name). In z xs) (sym e) i) in
    let head = times-head x x xs (own x) in
    omega (arith, few, some, head)

new-apart : (list : List RenamingP) (a : Name × Kind) (rest : Heading) (x y : Name) (xs : List Name) → Ascends attribute_cmp (a ∷ rest) → ((name : Name) → GivesName list name → times name (x ∷ xs) ≤ 1)
    → (x ≡ a.0) ⊎ GivesName list x → In y xs → IsBehind list rest y → bytes_eq x y ≡ false
new-apart list a rest x y xs up once first i second =
    false_from_ne_true (bytes_eq x y) (λ e.
    let same : x ≡ y = name-is x y e in
    elim first [
      | inr new ↦ twice x y xs (once x new) i same
      | inl old ↦ elim second [
        | inl new ↦ twice x y xs (once x (subst (GivesName list) (sym same) new)) i same
        | inr other ↦
            let apart : bytes_eq a.0 other.0.0 ≡ false = texts_ties a.0 other.0.0 ∙ ap is_eq ((AllAfter-In attribute_cmp a rest).0 up.0 other.0 other.1) in
            let one : a.0 ≡ other.0.0 = sym old ∙ (same ∙ other.2) in
            true≢false (sym (ap (bytes_eq a.0) (sym one) ∙ own a.0) ∙ apart)
      ]
    ])

names-differ : (list : List RenamingP) (pairs : NewNames) (n : ℕ) (h : Heading) → AreWritten list pairs → Ascends attribute_cmp h
    → ((name : Name) → GivesName list name → times name (names_from pairs n h) ≤ 1) → IsDistinct bytes_eq (names_from pairs n h)
unfolding IsDistinct
names-differ list pairs n [] w up once = tt
names-differ list pairs n (a ∷ rest) w up once = (
  each-from (λ (y : Name). bytes_eq (name_behind pairs n a.0) y ≡ false) (names_from pairs (n + 1) rest) (λ y i.
      new-apart list a rest (name_behind pairs n a.0) y (names_from pairs (n + 1) rest) up once (behind list pairs n a.0 w) i (behind-in list pairs (n + 1) rest y w i)),
  names-differ list pairs (n + 1) rest w up.1 (λ name g. let tail = times-tail name (name_behind pairs n a.0) (names_from pairs (n + 1) rest) in omega (arith, once name g, tail)),
)

-- ---- attributes of different names

each-by : {X : Type 0} (P : X → Type 0) (xs : List X) (x : X) → AllByRecursion P xs → In x xs → P x
each-by P [] x h i = absurd i
each-by P (y ∷ xs) x h i = elim i [ inl e ↦ subst P (sym e) h.0 | inr j ↦ each-by P xs x h.1 j ]

renamed-apart : (names : List Name) (h : Heading) → IsDistinct bytes_eq names → Apart attribute_cmp (renamed names h)
unfolding IsDistinct
renamed-apart [] h different = tt
renamed-apart (n ∷ names) [] different = tt
renamed-apart (n ∷ names) (a ∷ rest) different = (
  λ b i t. true≢false (sym (same_name (n, a.1) b t) ∙ each-by (λ (y : Name). bytes_eq n y ≡ false) names b.0 different.0 (name_in names rest b i)),
  renamed-apart names rest different.1,
)

renaming-of : (names : List Name) (from : Heading) → IsTrue (is_heading from) → length names ≡ length from → IsDistinct bytes_eq names → IsRenaming from (heading_of_list (renamed names from)) names
renaming-of names from headed long different = record {
  one_each = long;
  different = different;
  headed =
      let made = length-renamed names from long in
      let few = few_attributes from headed in
      let less = length-in_order attribute_cmp (renamed names from) in
      order-heading (renamed names from) (renamed-apart names from different) (omega (arith, made, few, less));
}

-- the names behind all renamings are one for each attribute, and all different
abbrev pub AreNames : Heading → List Name → Type 0
AreNames from names = (length names ≡ length from) × IsDistinct bytes_eq names

pub names-sound : (r : RenamingsP) (from : Heading) → IsTrue (is_heading from) → IfOk (renaming_names r from) (AreNames from)
names-sound r from headed =
    then-sound (AreWritten (renaming_list r)) (AreNames from) (renamings_typed from [] (renaming_list r)) _
    (renamings-written from (renaming_list r) [] (renaming_list r) (λ name g. g) (λ p i. absurd i)) (λ pairs written.
    all-different pairs written (new_names_once (names_from pairs 0 from) (renaming_list r)) (once-names (names_from pairs 0 from) (renaming_list r)))
  where
    all-different : (pairs : NewNames) → AreWritten (renaming_list r) pairs → (o : OrFault (List Name))
        → IfOk o (λ (all : List Name). (all ≡ names_from pairs 0 from) × ((name : Name) → GivesName (renaming_list r) name → IsTrue (stands_once (names_from pairs 0 from) name)))
        → IfOk o (AreNames from)
    all-different pairs written (Ok all) h =
        subst (AreNames from) (sym h.0) (
          length-names_from pairs 0 from,
          names-differ (renaming_list r) pairs 0 from written (heading_ascends from headed) (λ name g. leb-true (times name (names_from pairs 0 from)) 1 (h.1 name g)),
        )
    all-different pairs written (Err e) h = tt

pub renaming-sound : (sizes : List ℕ) (headings : Headings) (place : Place) (r : RenamingsP) (t : Tree) → IsTrue (is_heading (heading_of t)) → IsTypedTree sizes headings t
    → IfOk (renaming_rule place r t) (IsTypedTree sizes headings)
renaming-sound sizes headings place r t headed typed =
    then-sound (AreNames (heading_of t)) (IsTypedTree sizes headings) (renaming_names r (heading_of t)) _ (names-sound r (heading_of t) headed)
    (λ names h. (typed, renaming-of names (heading_of t) headed h.0 h.1))
