-- Attributes that are put one by one into a heading: the list of them makes the heading.
use Rattle.std.proofs.Common.{◌≡◌, inl, inr, ℕ, ◌+◌, Bool, true, false, ◌||◌, [], ◌∷◌, ◌++◌, refl, sym, ap, ◌∙◌, subst, Some, None, IsTrue, Less, Equal, Greater, if◌then◌else◌}
use Rattle.std.specs.BTreeMap.{insert_entry}
use Rattle.std.specs.Cmp.Lexicographic.{texts_ties, nat_list_eq_equiv}
use Rattle.std.specs.List.{AllByRecursion, IsDistinct, list_all}
use Rattle.std.specs.List.Sorted.{IsPermutation}
use Rattle.std.specs.Ordering.{is_eq, match_ordering, ordering_reverse}
use Rattle.std.specs.Str.{bytes_eq}
use Rattle.std.proofs.lemmas.Bool.{true≢false, and_from, and_parts, or_parts}
use Rattle.std.proofs.lemmas.List.Folds.{list_any-append}
use Rattle.std.proofs.lemmas.List.Sorted.{IsPermutation-sym}
use Rattle.std.proofs.lemmas.Map.Keys.{IsDistinct-IsPermutation}
use Rattle.base_core.specs.Sets.{placed, put}
use Rattle.base_core.proofs.SetLemmas.{In, AllAfter, Ascends}
use Rattle.base_core.proofs.MemberLemmas.{list_all-In}
use Rattle.base_core.proofs.SetOperatorLemmas.{In-permutation}
use Rattle.value_core.specs.declared.kind.Kind.{Kind}
use Rattle.value_core.specs.Headings.{has_name, repeat_after, IsHeadingOf}
use Rattle.value_core.specs.Values.{Name, Heading, name_cmp, attribute_cmp, is_heading}
use Rattle.value_core.proofs.HeadingLemmas.{attribute_total}
use Rattle.relation_core.proofs.HeadingLemmas.{neither, heading_ascends}
use Rattle.since_during.proofs.HistoryTypes.{put-permutes}

-- ---- put into its place, nothing is lost

after-placed : (a b : Name × Kind) (xs : Heading) → attribute_cmp b a ≡ Less → AllAfter attribute_cmp b xs → AllAfter attribute_cmp b (put attribute_cmp a xs)
after-placed a b [] l h = (l, tt)
after-placed a b (c ∷ cs) l h =
    elim (attribute_cmp a c) as (λ r. AllAfter attribute_cmp b (placed r a c cs (put attribute_cmp a cs))) [
      | Less ↦ (l, h)
      | Equal ↦ h
      | Greater ↦ (h.0, after-placed a b cs l h.1)
    ]

-- ---- an attribute of a new name

-- no attribute of the heading stands at its place
pub new-apart : (h : Heading) (name : Name) (kind : Kind) → has_name h name ≡ false → (b : Name × Kind) → In b h → attribute_cmp (name, kind) b ≡ Equal → ⊥
new-apart [] name kind e b i t = i
new-apart (a ∷ rest) name kind e b i t =
    let parts = or_parts (bytes_eq a.0 name) (has_name rest name) e in
    elim i [
      | inl s ↦
          let tied : bytes_eq name b.0 ≡ true = texts_ties name b.0 ∙ ap is_eq t in
          let same : bytes_eq a.0 name ≡ true = nat_list_eq_equiv.symm a.0 name ∙ (ap (λ (z : Name × Kind). bytes_eq name z.0) (sym s) ∙ tied) in
          true≢false (sym same ∙ parts.0)
      | inr j ↦ new-apart rest name kind parts.1 b j t
    ]

-- it is inserted as it is put
pub insert-put : (h : Heading) (name : Name) (kind : Kind) → has_name h name ≡ false → insert_entry name_cmp h name kind ≡ put attribute_cmp (name, kind) h
insert-put [] name kind e = refl
insert-put (a ∷ rest) name kind e =
    let parts = or_parts (bytes_eq a.0 name) (has_name rest name) e in
    elim (name_cmp name a.0) as (λ r. name_cmp name a.0 ≡ r → match_ordering r ((name, kind) ∷ a ∷ rest) ((a.0, kind) ∷ rest) (a ∷ insert_entry name_cmp rest name kind)
    ≡ placed r (name, kind) a rest (put attribute_cmp (name, kind) rest)) [
      | Less ↦ λ t. refl
      | Equal ↦ λ t. absurd (new-apart (a ∷ rest) name kind e a (inl refl) t)
      | Greater ↦ λ t. ap (λ (l : Heading). a ∷ l) (insert-put rest name kind parts.1)
    ] refl

pub insert-permutes : (h : Heading) (name : Name) (kind : Kind) → has_name h name ≡ false → IsPermutation ((name, kind) ∷ h) (insert_entry name_cmp h name kind)
insert-permutes h name kind e =
    subst (IsPermutation ((name, kind) ∷ h)) (sym (insert-put h name kind e)) (put-permutes attribute_cmp (name, kind) h (new-apart h name kind e))

-- attributes in order stay so
put-ascends : (a : Name × Kind) (h : Heading) → Ascends attribute_cmp h → Ascends attribute_cmp (put attribute_cmp a h)
put-ascends a [] up = (tt, tt)
put-ascends a (b ∷ rest) up =
    elim (attribute_cmp a b) as (λ r. attribute_cmp a b ≡ r → Ascends attribute_cmp (placed r a b rest (put attribute_cmp a rest))) [
      | Less ↦ λ e. ((e, all-after a b rest e up.0), up)
      | Equal ↦ λ e. up
      | Greater ↦ λ e. (after-placed a b rest (attribute_total.antisymm b a ∙ ap ordering_reverse e) up.0, put-ascends a rest up.1)
    ] refl
  where
    all-after : (a b : Name × Kind) (xs : Heading) → attribute_cmp a b ≡ Less → AllAfter attribute_cmp b xs → AllAfter attribute_cmp a xs
    all-after a b [] l h = tt
    all-after a b (c ∷ cs) l h = (attribute_total.trans a b c l h.0, all-after a b cs l h.1)

pub insert-ascends : (h : Heading) (name : Name) (kind : Kind) → has_name h name ≡ false → Ascends attribute_cmp h → Ascends attribute_cmp (insert_entry name_cmp h name kind)
insert-ascends h name kind e up = subst (Ascends attribute_cmp) (sym (insert-put h name kind e)) (put-ascends (name, kind) h up)

-- ---- attributes in order differ in their names

apart-after : (a : Name × Kind) (rest : Heading) → AllAfter attribute_cmp a rest → AllByRecursion (λ b. bytes_eq a.0 b.0 ≡ false) rest
apart-after a [] up = tt
apart-after a (b ∷ rest) up = (texts_ties a.0 b.0 ∙ ap is_eq up.0, apart-after a rest up.1)

distinct-ascends : (h : Heading) → Ascends attribute_cmp h → IsDistinct (λ (a b : Name × Kind). bytes_eq a.0 b.0) h
unfolding IsDistinct
distinct-ascends [] up = tt
distinct-ascends (a ∷ rest) up = (apart-after a rest up.0, distinct-ascends rest up.1)

both-new : (prefix : Heading) (a : Name × Kind) (rest : Heading) → AllByRecursion (λ b. has_name prefix b.0 ≡ false) rest → AllByRecursion (λ b. bytes_eq a.0 b.0 ≡ false) rest
    → AllByRecursion (λ b. has_name (prefix ++ a ∷ []) b.0 ≡ false) rest
both-new prefix a [] h d = tt
both-new prefix a (b ∷ rest) h d = (
  list_any-append (λ (c : Name × Kind). bytes_eq c.0 b.0) prefix (a ∷ []) ∙ neither (has_name prefix b.0) (bytes_eq a.0 b.0) h.0 d.0,
  both-new prefix a rest h.1 d.1,
)

none-repeated : (prefix rest : Heading) (n : ℕ) → AllByRecursion (λ b. has_name prefix b.0 ≡ false) rest → IsDistinct (λ (a b : Name × Kind). bytes_eq a.0 b.0) rest → repeat_after prefix n rest ≡ None
unfolding IsDistinct
none-repeated prefix [] n h d = refl
none-repeated prefix (a ∷ rest) n h d =
    ap (λ t. if t then Some n else repeat_after (prefix ++ a ∷ []) (n + 1) rest) h.0 ∙ none-repeated (prefix ++ a ∷ []) rest (n + 1) (both-new prefix a rest h.1 d.0) d.1

none-before : (list : Heading) → AllByRecursion (λ b. has_name [] b.0 ≡ false) list
none-before [] = tt
none-before (a ∷ rest) = (refl, none-before rest)

-- a list of which a heading is an order makes the heading
pub heading-of : (list heading : Heading) → IsPermutation list heading → IsTrue (is_heading heading) → IsHeadingOf list heading
heading-of list heading moved ordered = record {
  different =
      let back = IsPermutation-sym list heading moved in
      let apart = IsDistinct-IsPermutation (λ (a b : Name × Kind). bytes_eq a.0 b.0) (λ a b. nat_list_eq_equiv.symm a.0 b.0) heading list back (distinct-ascends heading (heading_ascends heading ordered)) in
      none-repeated [] list 0 (none-before list) apart;
  same = moved;
  ordered = ordered;
}

-- what all attributes of a list have, those of the heading have
pub all-moved : (p : Name × Kind → Bool) (list heading : Heading) → IsPermutation list heading → IsTrue (list_all p list) → IsTrue (list_all p heading)
all-moved p list heading moved h =
    (list_all-In p heading).1 (λ a i. (list_all-In p list).0 h a (In-permutation heading list a (IsPermutation-sym list heading moved) i))

pub all-in : (p : Name × Kind → Bool) (list heading : Heading) → ((a : Name × Kind) → In a heading → In a list) → IsTrue (list_all p list) → IsTrue (list_all p heading)
all-in p list heading within h = (list_all-In p heading).1 (λ a i. (list_all-In p list).0 h a (within a i))

pub all-both : (p : Name × Kind → Bool) (xs ys : Heading) → IsTrue (list_all p xs) → IsTrue (list_all p ys) → IsTrue (list_all p (xs ++ ys))
all-both p [] ys h k = k
all-both p (x ∷ xs) ys h k =
    let parts = and_parts (p x) (list_all p xs) h in
    and_from (p x) (list_all p (xs ++ ys)) parts.0 (all-both p xs ys parts.1 k)
