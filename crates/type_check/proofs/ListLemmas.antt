-- Lists of interval attributes that are checked: PACK, UNPACK and comparisons over them are typed for evaluation.
use Rattle.std.specs.Prelude.{◌≡◌, ◌≤◌, ℕ, false, not, ◌&&◌, List, [], ◌∷◌, ◌++◌, length, nat_le, Ok, Err, IfOk, IsTrue, refl}
use Rattle.std.proofs.Common.{arith, sym, ◌∙◌, subst, inl, inr}
use Rattle.std.specs.List.{IsDistinct}
use Rattle.std.specs.Cmp.Lexicographic.{nat_list_eq_equiv}
use Rattle.std.specs.Str.{bytes_eq}
use Rattle.std.proofs.lemmas.Bool.{and_parts, not-true, leb-true}
use Rattle.std.proofs.lemmas.List.{append-nil, append_assoc, length-map}
use Rattle.std.proofs.lemmas.Map.Keys.{IsDistinct-push}
use Rattle.base_core.proofs.SetLemmas.{In}
use Rattle.base_core.proofs.MemberLemmas.{In-append, In-map, list_all-In}
use Rattle.point_core.specs.declared.fault.Place.{Place}
use Rattle.point_core.specs.Faults.{OrFault}
use Rattle.utd_syntax.specs.declared.words.PackWord.{PackWord}
use Rattle.utd_syntax.specs.declared.words.PackWord.TheVariants.{Pack, Unpack}
use Rattle.utd_syntax.specs.declared.words.EmptinessWord.{EmptinessWord}
use Rattle.utd_syntax.specs.declared.words.EmptinessWord.TheVariants.{IsEmpty, IsNotEmpty}
use Rattle.utd_syntax.specs.Plain.{Word, NameListP, NameList}
use Rattle.value_core.specs.Headings.{has_name}
use Rattle.value_core.specs.Limits.{most_listed}
use Rattle.value_core.specs.Values.{Name, Heading}
use Rattle.scalar_core.specs.KindOf.{same_kind}
use Rattle.relation_core.specs.Agreement.{position_of}
use Rattle.relation_core.specs.Parts.{kind_at}
use Rattle.relation_typing.specs.Headings.{same_heading}
use Rattle.scalar_typing.proofs.SoundLemmas.{then-sound}
use Rattle.scalar_core.proofs.KindOfLemmas.{same_kind-same}
use Rattle.tree_core.specs.Trees.{Tree, heading_of}
use Rattle.tree_core.specs.declared.test.RelateWord.{RelateWord}
use Rattle.meaning_core.specs.Meanings.{positions_of}
use Rattle.meaning_core.specs.Typing.{is_span, IsList, Headings, IsTypedTree, IsTypedTest}
use Rattle.node_typing.specs.Lists.{words_of, names_of_words, named_in, kind_named, name_checked, names_checked, list_checked}
use Rattle.node_typing.specs.Nodes.{packed_by, packing_rule, comparison_rule, using_comparison_rule, emptiness_test}
use Rattle.node_typing.specs.Positions.{check}
use Rattle.type_check.proofs.LiteralLemmas.{same_heading-same}
use Rattle.type_check.proofs.PositionLemmas.{positions-within, positions-differ}
use Rattle.declaration_typing.proofs.PositionLemmas.{held}

-- ---- names of a list

-- the name is that of an attribute of both headings, of one interval kind
pub record IsShared (left right : Heading) (name : Name) : Type 0 where
  pub here : IsTrue (has_name left name)
  pub there : IsTrue (has_name right name)
  pub span : IsTrue (is_span (kind_named left name))
  pub same : kind_named left name ≡ kind_named right name

-- different names of such attributes, at most three; they are those of the words
pub record AreListed (left right : Heading) (list : NameListP) (names : List Name) : Type 0 where
  pub shared : (name : Name) → In name names → IsShared left right name
  pub different : IsDistinct bytes_eq names
  pub few : length names ≤ most_listed
  pub written : names ≡ names_of_words (words_of list)

-- names so far
record AreSoFar (left right : Heading) (names : List Name) : Type 0 where
  shared : (name : Name) → In name names → IsShared left right name
  different : IsDistinct bytes_eq names

word-shared : (left right : Heading) (before : List Name) (w : Word) → IfOk (name_checked left right before w) (λ _. IsShared left right w.bytes × (named_in before w.bytes ≡ false))
word-shared left right before w =
    then-sound (λ _. IsTrue (has_name left w.bytes && has_name right w.bytes)) _ (check w.place _ (has_name left w.bytes && has_name right w.bytes)) _
    (held w.place _ (has_name left w.bytes && has_name right w.bytes)) (λ _ known.
    then-sound (λ _. IsTrue (not (named_in before w.bytes))) _ (check w.place _ (not (named_in before w.bytes))) _ (held w.place _ (not (named_in before w.bytes))) (λ _ new.
    then-sound (λ _. IsTrue (is_span (kind_named left w.bytes))) _ (check w.place _ (is_span (kind_named left w.bytes))) _ (held w.place _ (is_span (kind_named left w.bytes))) (λ _ span.
    last (check w.place _ (same_kind (kind_named left w.bytes) (kind_named right w.bytes))) (held w.place _ (same_kind (kind_named left w.bytes) (kind_named right w.bytes))) known new span)))
  where
    last : (r : OrFault (Unit {0})) → IfOk r (λ _. IsTrue (same_kind (kind_named left w.bytes) (kind_named right w.bytes))) → IsTrue (has_name left w.bytes && has_name right w.bytes)
        → IsTrue (not (named_in before w.bytes)) → IsTrue (is_span (kind_named left w.bytes)) → IfOk r (λ _. IsShared left right w.bytes × (named_in before w.bytes ≡ false))
    last (Ok u) h known new span =
        let parts = and_parts (has_name left w.bytes) (has_name right w.bytes) known in (
          record { here = parts.0; there = parts.1; span = span; same = same_kind-same (kind_named left w.bytes) (kind_named right w.bytes) h },
          not-true (named_in before w.bytes) new,
        )
    last (Err e) h known new span = tt

one-more : (left right : Heading) (before : List Name) (name : Name) → AreSoFar left right before → IsShared left right name → named_in before name ≡ false → AreSoFar left right (before ++ name ∷ [])
one-more left right before name h is new = record {
  shared = λ n i. elim ((In-append n before (name ∷ [])).0 i) [
    | inl j ↦ h.shared n j
    | inr j ↦ elim j [ inl e ↦ subst (IsShared left right) (sym e) is | inr k ↦ absurd k ]
  ];
  different = IsDistinct-push nat_list_eq_equiv before name h.different new;
}

names-sound : (left right : Heading) (before : List Name) (words : List Word) → AreSoFar left right before
    → IfOk (names_checked left right before words) (λ (names : List Name). AreSoFar left right names × (names ≡ before ++ names_of_words words))
names-sound left right before [] h = (h, sym (append-nil before))
names-sound left right before (w ∷ rest) h =
    then-sound (λ _. IsShared left right w.bytes × (named_in before w.bytes ≡ false)) _ (name_checked left right before w) _ (word-shared left right before w) (λ _ is.
    onward (names_checked left right (before ++ w.bytes ∷ []) rest) (names-sound left right (before ++ w.bytes ∷ []) rest (one-more left right before w.bytes h is.0 is.1)))
  where
    onward : (r : OrFault (List Name)) → IfOk r (λ (names : List Name). AreSoFar left right names × (names ≡ (before ++ w.bytes ∷ []) ++ names_of_words rest))
        → IfOk r (λ (names : List Name). AreSoFar left right names × (names ≡ before ++ names_of_words (w ∷ rest)))
    onward (Ok names) k = (k.0, k.1 ∙ append_assoc before (w.bytes ∷ []) (names_of_words rest))
    onward (Err e) k = tt

none-yet : (left right : Heading) → AreSoFar left right []
unfolding IsDistinct
none-yet left right = record { shared = λ name i. absurd i; different = tt }

pub list-sound : (left right : Heading) (list : NameListP) → IfOk (list_checked left right list) (AreListed left right list)
list-sound left right (NameList at words) =
    then-sound (λ (names : List Name). AreSoFar left right names × (names ≡ names_of_words words)) (AreListed left right (NameList at words)) (names_checked left right [] words) _
    (names-sound left right [] words (none-yet left right)) (λ names h.
    then-sound (λ _. IsTrue (nat_le (length names) most_listed)) (AreListed left right (NameList at words)) (check at _ (nat_le (length names) most_listed)) _ (held at _ (nat_le (length names) most_listed)) (λ _ few.
    record { shared = h.0.shared; different = h.0.different; few = leb-true (length names) most_listed few; written = h.1 }))

-- ---- their positions

-- different names of interval attributes of a heading, at most three, stand at a list of positions
pub list-of : (h : Heading) (names : List Name) → ((name : Name) → In name names → IsTrue (has_name h name) × IsTrue (is_span (kind_named h name))) → IsDistinct bytes_eq names → length names ≤ most_listed
    → IsList h (positions_of h names)
list-of h names known apart few = record {
  within = positions-within h names (λ n i. (known n i).0);
  different = positions-differ h names (λ n i. (known n i).0) apart;
  spans = (list_all-In (λ i. is_span (kind_at h i)) (positions_of h names)).1 (λ i m.
      let w = (In-map (position_of h) i names).0 m in
      subst (λ (j : ℕ). IsTrue (is_span (kind_at h j))) (sym w.2) (known w.0 w.1).1);
  few = let same = length-map names (position_of h) in omega (arith, same, few);
}

pub left-list : (left right : Heading) (list : NameListP) (names : List Name) → AreListed left right list names → IsList left (positions_of left names)
left-list left right list names h = list-of left names (λ n i. ((h.shared n i).here, (h.shared n i).span)) h.different h.few

-- ---- PACK and UNPACK

packed-typed : (sizes : List ℕ) (headings : Headings) (place : Place) (word : PackWord) (commalist : List ℕ) (t : Tree) → IsTypedTree sizes headings t → IsList (heading_of t) commalist
    → IsTypedTree sizes headings (packed_by word place (heading_of t) commalist t)
packed-typed sizes headings place Pack commalist t typed is = (typed, is, refl)
packed-typed sizes headings place Unpack commalist t typed is = (typed, is, refl)

pub packing-sound : (sizes : List ℕ) (headings : Headings) (place : Place) (word : PackWord) (list : NameListP) (t : Tree) → IsTypedTree sizes headings t
    → IfOk (packing_rule place word list t) (IsTypedTree sizes headings)
packing-sound sizes headings place word list t typed =
    then-sound (AreListed (heading_of t) (heading_of t) list) (IsTypedTree sizes headings) (list_checked (heading_of t) (heading_of t) list) _ (list-sound (heading_of t) (heading_of t) list)
    (λ names h. packed-typed sizes headings place word (positions_of (heading_of t) names) t typed (left-list (heading_of t) (heading_of t) list names h))

-- ---- tests

pub comparison-sound : (sizes : List ℕ) (headings : Headings) (place : Place) (word : RelateWord) (l r : Tree) → IsTypedTree sizes headings l → IsTypedTree sizes headings r
    → IfOk (comparison_rule place word l r) (IsTypedTest sizes headings)
comparison-sound sizes headings place word l r left right =
    then-sound (λ _. IsTrue (same_heading (heading_of l) (heading_of r))) (IsTypedTest sizes headings) (check place _ (same_heading (heading_of l) (heading_of r))) _
    (held place _ (same_heading (heading_of l) (heading_of r))) (λ _ same. (left, right, same_heading-same (heading_of l) (heading_of r) same, tt))

pub using-comparison-sound : (sizes : List ℕ) (headings : Headings) (list : NameListP) (place : Place) (word : RelateWord) (l r : Tree) → IsTypedTree sizes headings l → IsTypedTree sizes headings r
    → IfOk (using_comparison_rule list place word l r) (IsTypedTest sizes headings)
using-comparison-sound sizes headings list place word l r left right =
    then-sound (AreListed (heading_of l) (heading_of r) list) (IsTypedTest sizes headings) (list_checked (heading_of l) (heading_of r) list) _ (list-sound (heading_of l) (heading_of r) list) (λ names h.
    then-sound (λ _. IsTrue (same_heading (heading_of l) (heading_of r))) (IsTypedTest sizes headings) (check place _ (same_heading (heading_of l) (heading_of r))) _
    (held place _ (same_heading (heading_of l) (heading_of r)))
    (λ _ same. (left, right, same_heading-same (heading_of l) (heading_of r) same, left-list (heading_of l) (heading_of r) list names h)))

pub emptiness-sound : (sizes : List ℕ) (headings : Headings) (place : Place) (word : EmptinessWord) (t : Tree) → IsTypedTree sizes headings t → IsTypedTest sizes headings (emptiness_test place word t)
emptiness-sound sizes headings place IsEmpty t typed = typed
emptiness-sound sizes headings place IsNotEmpty t typed = typed
