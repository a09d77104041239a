-- Rows in order of keys and of time, none of which meets the one before it where both have the same values elsewhere, are a chain.
use Rattle.std.proofs.Common.{◌≡◌, inl, inr, ℕ, zero, suc, ◌+◌, ◌-◌, ◌<◌, true, false, nat_eq, List, [], ◌∷◌, length, get_or, slice_index_or, refl, sym, ap, ◌∙◌, subst, arith}
use Rattle.std.specs.List.{All, AllByRecursion, list_all}
use Rattle.std.specs.List.Sorted.{IsPermutation}
use Rattle.std.specs.Ordering.{ordering_reverse}
use Rattle.std.specs.declared.cmp.Ordering.TheVariants.{Less, Equal, Greater}
use Rattle.std.proofs.lemmas.Bool.{cases_lt, eqb-true}
use Rattle.std.proofs.lemmas.Cmp.{tied_itself}
use Rattle.std.proofs.lemmas.Int.{ints}
use Rattle.std.proofs.lemmas.List.{get_or_default}
use Rattle.std.proofs.lemmas.List.Sorted.{IsPermutation-refl, IsPermutation-sym, IsPermutation-trans, IsPermutation-cons, IsPermutation-middle}
use Rattle.base_core.proofs.MemberLemmas.{list_all-In, list_any-In}
use Rattle.base_core.proofs.SetLemmas.{In}
use Rattle.base_core.proofs.SetOperatorLemmas.{In-permutation}
use Rattle.value_core.specs.Attributes.{among}
use Rattle.value_core.specs.Order.{row_total, row_separates}
use Rattle.value_core.specs.Values.{Row, Value, row_cmp, truth}
use Rattle.relation_core.specs.Agreement.{part_of}
use Rattle.u_set.specs.declared.apart.Gap.TheVariants.{One}
use Rattle.u_set.specs.Apart.{HasInterval, Follows, FollowsIn, IsBeyond, IsChain}
use Rattle.u_set.proofs.ApartLemmas.{span_ordered, AllBeyond, all_after}

-- ---- what holds of each row

each_in : {X : Type 0} (P : X → Type 0) (xs : List X) → AllByRecursion P xs → (x : X) → In x xs → P x
each_in P [] h x m = absurd m
each_in P (y ∷ ys) h x m = elim m [ inl e ↦ subst P (sym e) h.0 | inr w ↦ each_in P ys h.1 x w ]

each_from : {X : Type 0} (P : X → Type 0) (xs : List X) → ((x : X) → In x xs → P x) → AllByRecursion P xs
each_from P [] h = tt
each_from P (x ∷ xs) h = (h x (inl refl), each_from P xs (λ y m. h y (inr m)))

each_moved : {X : Type 0} (P : X → Type 0) (xs ys : List X) → IsPermutation xs ys → AllByRecursion P xs → AllByRecursion P ys
each_moved P xs ys p h = each_from P ys (λ y m. each_in P xs h y (In-permutation ys xs y (IsPermutation-sym xs ys p) m))

-- ---- values at positions that are among others

abbrev value_at : ℕ → Row → Value
value_at i x = slice_index_or x i (truth false)

abbrev first_or : Value → Row → Value
first_or d [] = d
first_or d (x ∷ xs) = x

abbrev behind : Row → Row
behind [] = []
behind (x ∷ xs) = xs

-- the value at one of the positions
value_within : (label : List ℕ) (i : ℕ) → In i label → (x y : Row) → part_of label x ≡ part_of label y → value_at i x ≡ value_at i y
value_within [] i m x y e = absurd m
value_within (j ∷ js) i m x y e = elim m [
  | inl q ↦ let first : value_at j x ≡ value_at j y = ap (first_or (truth false)) e in subst (λ k. value_at k x ≡ value_at k y) (sym q) first
  | inr w ↦ value_within js i w x y (ap behind e)
]

values_within : (key label : List ℕ) → ((i : ℕ) → In i key → In i label) → (x y : Row) → part_of label x ≡ part_of label y → part_of key x ≡ part_of key y
values_within [] label h x y e = refl
values_within (i ∷ is) label h x y e =
    let first : value_at i x ≡ value_at i y = value_within label i (h i (inl refl)) x y e in
    let rest = values_within is label (λ j m. h j (inr m)) x y e in
    λ t. first t ∷ rest t

pub within : (key label : List ℕ) → list_all (among label) key ≡ true → (x y : Row) → part_of label x ≡ part_of label y → part_of key x ≡ part_of key y
within key label h = values_within key label (λ i m.
    let w = (list_any-In (nat_eq i) label).0 ((list_all-In (among label) key).0 h i m) in
    subst (λ j. In j label) (sym (eqb-true i w.0 w.2)) w.1)

module _ (key label : List ℕ) (at : ℕ) (lies : (x y : Row) → part_of label x ≡ part_of label y → part_of key x ≡ part_of key y) where
  abbrev Next : Row → Row → Type 0
  Next = FollowsIn key label at

  abbrev Beyond : Row → Row → Type 0
  Beyond = IsBeyond label at One

  -- ---- each row follows all before it

  abbrev AllFollow : List Row → Type 0
  AllFollow [] = Unit {0}
  AllFollow (x ∷ xs) = HasInterval at x × AllByRecursion (Next x) xs × AllFollow xs

  -- the points of a row between lie between
  later_trans : (x y z : Row) → HasInterval at y → Follows label at x y → Follows label at y z → Follows label at x z
  later_trans x y z s a b =
      let t = span_ordered at y s in
      let u = a.0 in
      let v = b.0 in
      (omega (arith, ints), λ e. omega (arith, ints))

  same_key : (x y : Row) → row_cmp (part_of key x) (part_of key y) ≡ Equal → part_of key x ≡ part_of key y
  same_key x y e = row_separates (part_of key x) (part_of key y) e

  follows_trans : (x y z : Row) → HasInterval at y → Next x y → Next y z → Next x z
  follows_trans x y z s a b = elim a [
    | inl u ↦ elim b [
      | inl v ↦ inl (row_total.trans (part_of key x) (part_of key y) (part_of key z) u v)
      | inr v ↦ inl (subst (λ k. row_cmp (part_of key x) k ≡ Less) (same_key y z v.0) u)
    ]
    | inr u ↦ elim b [
      | inl v ↦ inl (subst (λ k. row_cmp k (part_of key z) ≡ Less) (sym (same_key x y u.0)) v)
      | inr v ↦ inr (subst (λ k. row_cmp k (part_of key z) ≡ Equal) (sym (same_key x y u.0)) v.0, later_trans x y z s u.1 v.1)
    ]
  ]

  -- rows with the same values elsewhere have one key
  one_key : (x y : Row) → row_cmp (part_of label x) (part_of label y) ≡ Equal → Next x y → Follows label at x y
  one_key x y e n = elim n [
    | inl u ↦
        let same : part_of key x ≡ part_of key y = lies x y (row_separates (part_of label x) (part_of label y) e) in
        let less : row_cmp (part_of key y) (part_of key y) ≡ Less = subst (λ k. row_cmp k (part_of key y) ≡ Less) same u in
        let w : Less ≡ Equal = sym less ∙ tied_itself row_total (part_of key y) in
        absurd (cc)
    | inr u ↦ u.1
  ]

  all_later : (x y : Row) (ys : List Row) → Next x y → HasInterval at y → AllByRecursion (Next y) ys → AllByRecursion (Next x) ys
  all_later x y [] a s h = tt
  all_later x y (z ∷ zs) a s h = (follows_trans x y z s a h.0, all_later x y zs a s h.1)

  all_follow : (rows : List Row) → All (HasInterval at) rows → ((j : ℕ) (d : Row) → suc j < length rows → Next (get_or rows j d) (get_or rows (suc j) d)) → AllFollow rows
  all_follow [] spans h = tt
  all_follow (x ∷ []) spans h = (spans 0 x (omega arith), tt, tt)
  all_follow (x ∷ y ∷ ys) spans h =
      let rest : AllFollow (y ∷ ys) = all_follow (y ∷ ys) (λ i d l. spans (suc i) d (omega arith)) (λ i d l. h (suc i) d (omega arith)) in
      let first : Next x y = h 0 x (omega arith) in
      (spans 0 x (omega arith), (first, all_later x y ys first rest.0 rest.1), rest)

  -- ---- the rows in the order of their labels

  -- a row that all of a chain follow has a place in it
  placed : (x : Row) (ys : List Row) → HasInterval at x → AllByRecursion (Next x) ys → AllBeyond label at One ys → (list : List Row) × IsPermutation (x ∷ ys) list × AllBeyond label at One list
  placed x [] s f h = (x ∷ [], IsPermutation-refl (x ∷ []), (s, tt, tt))
  placed x (y ∷ ys) s f h =
      let here : Beyond x y → (list : List Row) × IsPermutation (x ∷ y ∷ ys) list × AllBeyond label at One list = λ b.
      (x ∷ y ∷ ys, IsPermutation-refl (x ∷ y ∷ ys), (s, (b, all_after label at One x y ys b h.0 h.1), h)) in
      elim (row_cmp (part_of label x) (part_of label y)) as (λ o. row_cmp (part_of label x) (part_of label y) ≡ o → (list : List Row) × IsPermutation (x ∷ y ∷ ys) list × AllBeyond label at One list) [
        | Less ↦ λ e. here (inl e)
        | Equal ↦ λ e. here (inr (e, (one_key x y e f.0).1 e))
        | Greater ↦ λ e.
            let w = placed x ys s f.1 h.2 in
            let b : Beyond y x = inl (row_total.antisymm (part_of label y) (part_of label x) ∙ ap ordering_reverse e) in
            let swap : IsPermutation (x ∷ y ∷ ys) (y ∷ x ∷ ys) = IsPermutation-sym (y ∷ x ∷ ys) (x ∷ y ∷ ys) (IsPermutation-middle (y ∷ []) x ys) in
            let moved : IsPermutation (x ∷ y ∷ ys) (y ∷ w.0) = IsPermutation-trans (x ∷ y ∷ ys) (y ∷ x ∷ ys) (y ∷ w.0) swap (IsPermutation-cons y (x ∷ ys) w.0 w.1) in
            (y ∷ w.0, moved, (h.0, each_moved (Beyond y) (x ∷ ys) w.0 w.1 (b, h.1), w.2))
      ] refl

  by_labels : (rows : List Row) → AllFollow rows → (list : List Row) × IsPermutation rows list × AllBeyond label at One list
  by_labels [] h = ([], IsPermutation-refl [], tt)
  by_labels (x ∷ xs) h =
      let w = by_labels xs h.2 in
      let v = placed x w.0 h.0 (each_moved (Next x) xs w.0 w.1 h.1) w.2 in
      (v.0, IsPermutation-trans (x ∷ xs) (x ∷ w.0) v.0 (IsPermutation-cons x xs w.0 w.1) v.1, v.2)

  have_spans : (rows : List Row) → AllBeyond label at One rows → All (HasInterval at) rows
  have_spans [] h i d l = absurd (omega arith)
  have_spans (x ∷ xs) h zero d l = h.0
  have_spans (x ∷ xs) h (suc i) d l = have_spans xs h.2 i d (omega arith)

  next_beyond : (rows : List Row) → AllBeyond label at One rows → (i : ℕ) (d : Row) → suc i < length rows → Beyond (get_or rows i d) (get_or rows (suc i) d)
  next_beyond [] h i d l = absurd (omega arith)
  next_beyond (x ∷ []) h i d l = absurd (omega arith)
  next_beyond (x ∷ y ∷ ys) h zero d l = h.1.0
  next_beyond (x ∷ y ∷ ys) h (suc i) d l = next_beyond (y ∷ ys) h.2 i d (omega arith)

  pub chain_in_time : (rows : List Row) → All (HasInterval at) rows → ((j : ℕ) (d : Row) → suc j < length rows → Next (get_or rows j d) (get_or rows (suc j) d)) → IsChain label at One rows
  chain_in_time rows spans h =
      let w = by_labels rows (all_follow rows spans h) in
      record { list = w.0; moved = w.1; beyond = record { spans = have_spans w.0 w.2; beyond = next_beyond w.0 w.2 } }

  -- ---- a row more

  pub follows_at : (rows : List Row) (i : ℕ) (a b : Row) → i < length rows → a ≡ get_or rows (i - 1) a → b ≡ get_or rows i b → Next a b → (j : ℕ) (d : Row) → suc j ≡ i → Next (get_or rows j d) (get_or rows i d)
  follows_at rows i a b l first second h j d e =
      let q : i - 1 ≡ j = omega arith in
      let k : j < length rows = omega arith in
      let u : get_or rows j d ≡ a = get_or_default rows j d a k ∙ sym (subst (λ m. a ≡ get_or rows m a) q first) in
      let v : get_or rows i d ≡ b = get_or_default rows i d b l ∙ sym second in
      subst (λ (y : Row). Next (get_or rows j d) y) (sym v) (subst (λ (x : Row). Next x b) (sym u) h)

  pub follows_turn : (rows : List Row) (i : ℕ) → ((j : ℕ) (d : Row) → suc j < i → Next (get_or rows j d) (get_or rows (suc j) d)) → ((j : ℕ) (d : Row) → suc j ≡ i → Next (get_or rows j d) (get_or rows i d))
      → (j : ℕ) (d : Row) → suc j < i + 1 → Next (get_or rows j d) (get_or rows (suc j) d)
  follows_turn rows i h s j d l = elim (cases_lt (suc j) i) [
    | inl w ↦ h j d w
    | inr w ↦ let q : suc j ≡ i = omega arith in subst (λ k. Next (get_or rows j d) (get_or rows k d)) (sym q) (s j d q)
  ]
