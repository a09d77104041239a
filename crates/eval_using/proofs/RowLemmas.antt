-- The row of a group by where its values come from, and when rows have the same part.
use Rattle.std.proofs.Common.{◌≡◌, ◌⊎◌, inl, inr, ℕ, suc, ◌+◌, ◌<◌, Bool, true, false, not, List, [], ◌∷◌, ◌++◌, map, length, get_or, refl, sym, ap, ap₂, ◌∙◌, subst, arith}
use Rattle.std.proofs.lemmas.Bool.{true≢false}
use Rattle.std.proofs.lemmas.List.{get_or_append_left, get_or-append-add, get_or-map}
use Rattle.base_core.proofs.MemberLemmas.{In-filter}
use Rattle.base_core.proofs.SetLemmas.{In}
use Rattle.base_core.proofs.ListLemmas.{map-In}
use Rattle.point_core.specs.Points.{line_of}
use Rattle.value_core.specs.Attributes.{value_at, span_of, among}
use Rattle.value_core.specs.Values.{Value, truth, interval, Row, Heading}
use Rattle.relation_core.specs.Agreement.{part_of}
use Rattle.relation_core.specs.Parts.{kind_at}
use Rattle.u_set.specs.Boxes.{type_of, unless, others_from, others, spans_at, IsShaped}
use Rattle.u_set.proofs.BoxLemmas.{value_at-get}
use Rattle.u_row.specs.Kept.{unlisted, inner}
use Rattle.u_row.proofs.LabelLemmas.{map_twice, inner_values}
use Rattle.u_row.proofs.BeneathLemmas.{among_in, in_among}
use Rattle.u_join.proofs.NameLemmas.{maps_agree}

abbrev pub nth : Row → ℕ → Value
nth x i = get_or x i (truth false)

-- ---- lists made of places

others_map : {X : Type 0} (f g : ℕ → X) (n : ℕ) (commalist at : List ℕ) → ((j : ℕ) → j < length at → among commalist (n + j) ≡ false → f (get_or at j 0) ≡ g (get_or at j 0))
    → others_from n commalist (map f at) ≡ others_from n commalist (map g at)
others_map f g n commalist [] h = refl
others_map f g n commalist (k ∷ at) h =
    let z : n + 0 ≡ n = omega arith in
    let rest : others_from (suc n) commalist (map f at) ≡ others_from (suc n) commalist (map g at) = others_map f g (suc n) commalist at (λ j l o.
    let s : n + suc j ≡ suc n + j = omega arith in
    h (suc j) (omega arith) (ap (among commalist) s ∙ o)) in
    by f g k (others_from (suc n) commalist (map f at)) (others_from (suc n) commalist (map g at)) (among commalist n) rest (λ o. h 0 (omega arith) (ap (among commalist) z ∙ o))
  where
    by : {X : Type 0} (f g : ℕ → X) (k : ℕ) (xs ys : List X) (b : Bool) → xs ≡ ys → (b ≡ false → f k ≡ g k) → unless b (f k) xs ≡ unless b (g k) ys
    by f g k xs ys true e h = e
    by f g k xs ys false e h = ap₂ (λ u us. u ∷ us) (h refl) e

map_places : {X : Type 0} (f g : ℕ → X) (at : List ℕ) → ((j : ℕ) → j < length at → f (get_or at j 0) ≡ g (get_or at j 0)) → map f at ≡ map g at
map_places f g [] h = refl
map_places f g (k ∷ at) h = ap₂ (λ u us. u ∷ us) (h 0 (omega arith)) (map_places f g at (λ j l. h (suc j) (omega arith)))

-- ---- a row of made values and values of another row

module _ (made : Row) (many : ℕ) (count : length made ≡ many) where
  behind : (x : Row) (p : ℕ) → nth (made ++ x) (many + p) ≡ nth x p
  behind x p = ap (λ m. nth (made ++ x) (m + p)) (sym count) ∙ get_or-append-add made x p (truth false)

  among_made : (x y : Row) (k : ℕ) → k < many → nth (made ++ x) k ≡ nth (made ++ y) k
  among_made x y k l =
      let m : k < length made = subst (λ n. k < n) (sym count) l in
      get_or_append_left made x (truth false) k m ∙ sym (get_or_append_left made y (truth false) k m)

  module _ (at by : List ℕ) where
    -- rows with one part give one row
    pub same_by_part : ((j : ℕ) → j < length at → (get_or at j 0 < many) ⊎ ((p : ℕ) × In p by × (get_or at j 0 ≡ many + p))) → (x y : Row) → part_of by x ≡ part_of by y
        → part_of at (made ++ x) ≡ part_of at (made ++ y)
    same_by_part from x y e = map_places (nth (made ++ x)) (nth (made ++ y)) at (λ j l. elim (from j l) [
      | inl k ↦ among_made x y (get_or at j 0) k
      | inr w ↦ ap (nth (made ++ x)) w.2 ∙ behind x w.0 ∙ maps_agree (nth x) (nth y) by e w.0 w.1 ∙ sym (behind y w.0) ∙ ap (nth (made ++ y)) (sym w.2)
    ])

    -- its listed intervals are those of the operand
    pub spans_given : (commalist : List ℕ) (own : ℕ → ℕ) → ((i : ℕ) → In i commalist → (i < length at) × (get_or at i 0 ≡ many + own i)) → (x : Row) → spans_at commalist (part_of at (made ++ x)) ≡ spans_at (map own commalist) x
    spans_given commalist own from x =
        map-In (λ i. span_of (value_at (part_of at (made ++ x)) i)) (λ i. span_of (value_at x (own i))) commalist (λ i m.
        let w = from i m in
        ap span_of (value_at-get (part_of at (made ++ x)) i ∙ get_or-map (nth (made ++ x)) at i 0 (truth false) w.0 ∙ ap (nth (made ++ x)) w.1 ∙ behind x (own i) ∙ sym (value_at-get x (own i))))
        ∙ sym (map_twice (λ p. span_of (value_at x p)) own commalist)

    -- and its other values do not come from these
    pub others_given : (commalist ls : List ℕ) → ((j : ℕ) → j < length at → (In j commalist → ⊥) → (get_or at j 0 < many) ⊎ ((p : ℕ) × In p by × (get_or at j 0 ≡ many + p) × (In p ls → ⊥)))
        → (x y : Row) → ((p : ℕ) → among ls p ≡ false → value_at x p ≡ value_at y p) → others commalist (part_of at (made ++ x)) ≡ others commalist (part_of at (made ++ y))
    others_given commalist ls from x y same = others_map (nth (made ++ x)) (nth (made ++ y)) 0 commalist at (λ j l o.
        let z : 0 + j ≡ j = omega arith in
        elim (from j l (λ m. true≢false (sym (in_among commalist j m) ∙ ap (among commalist) (sym z) ∙ o))) [
          | inl k ↦ among_made x y (get_or at j 0) k
          | inr w ↦ ap (nth (made ++ x)) w.2 ∙ behind x w.0 ∙ sym (value_at-get x w.0) ∙ same w.0 (not_in w.0 (among ls w.0) refl w.3) ∙ value_at-get y w.0 ∙ sym (behind y w.0) ∙ ap (nth (made ++ y)) (sym w.2)
        ])
      where
        not_in : (p : ℕ) (b : Bool) → among ls p ≡ b → (In p ls → ⊥) → b ≡ false
        not_in p true e h = absurd (h (among_in ls p e))
        not_in p false e h = refl

-- ---- rows with one part

module _ (from : Heading) (ls by : List ℕ) (x y : Row) where
  -- rows with one part have one part in their labels
  pub inner_part : part_of by x ≡ part_of by y → part_of (inner ls by) (others ls x) ≡ part_of (inner ls by) (others ls y)
  inner_part e =
      inner_values ls by x (truth false)
      ∙ map-In (nth x) (nth y) (unlisted ls by) (λ i m. maps_agree (nth x) (nth y) by e i ((In-filter (λ j. not (among ls j)) i by).0 m).0)
      ∙ sym (inner_values ls by y (truth false))

  -- and the other way round, where their listed intervals are the same
  pub whole_part : IsShaped from ls x → IsShaped from ls y → spans_at ls x ≡ spans_at ls y → part_of (inner ls by) (others ls x) ≡ part_of (inner ls by) (others ls y) → part_of by x ≡ part_of by y
  whole_part hx hy spans e =
      let unlisted_same : map (nth x) (unlisted ls by) ≡ map (nth y) (unlisted ls by) = sym (inner_values ls by x (truth false)) ∙ e ∙ inner_values ls by y (truth false) in
      map-In (nth x) (nth y) by (λ i m. elim (tested (among ls i)) [
        | inl t ↦
            let own : span_of (value_at x i) ≡ span_of (value_at y i) = maps_agree (λ k. span_of (value_at x k)) (λ k. span_of (value_at y k)) ls spans i (among_in ls i t) in
            sym (value_at-get x i) ∙ hx.spans i t ∙ ap (interval (line_of (type_of (kind_at from i)))) own ∙ sym (hy.spans i t) ∙ value_at-get y i
        | inr f ↦ maps_agree (nth x) (nth y) (unlisted ls by) unlisted_same i ((In-filter (λ j. not (among ls j)) i by).1 (m, ap not f))
      ])
    where
      tested : (b : Bool) → (b ≡ true) ⊎ (b ≡ false)
      tested true = inl refl
      tested false = inr refl

  -- they have the listed intervals too where these are among the positions
  pub listed_part : ((p : ℕ) → In p ls → In p by) → part_of by x ≡ part_of by y → spans_at ls x ≡ spans_at ls y
  listed_part all e =
      map-In (λ p. span_of (value_at x p)) (λ p. span_of (value_at y p)) ls (λ p m.
      ap span_of (value_at-get x p ∙ maps_agree (nth x) (nth y) by e p (all p m) ∙ sym (value_at-get y p)))
