-- A row comes back from its box, and its box goes along with each listed interval attribute.
use Rattle.std.proofs.Common.{◌≡◌, inl, inr, ℕ, zero, suc, ◌+◌, ◌<◌, true, false, cond, ◌||◌, List, [], ◌∷◌, map, drop, length, get_or, set, refl, sym, ap, ◌∙◌, subst, arith}
use Rattle.std.specs.Prelude.{nat_eq, slice_index_or, if◌then◌else◌}
use Rattle.std.specs.Bool.{IsTrue}
use Rattle.std.specs.List.{AllByRecursion, IsDistinct}
use Rattle.std.proofs.lemmas.Bool.{true≢false, and_parts, and_from, cases_eq, eqb-true, eqb-false, eq-eqb}
use Rattle.std.proofs.lemmas.List.{length-set, get_or-map, get_or-set_same, get_or_default}
use Rattle.std.proofs.lemmas.List.Elements.{All-from_recursion}
use Rattle.std.proofs.lemmas.List.Folds.{list_any_at}
use Rattle.std.proofs.lemmas.Option.{unwrap_or-slice_get}
use Rattle.point_core.specs.Points.{Line, line_of}
use Rattle.interval_core.specs.Members.{Span}
use Rattle.value_core.specs.declared.kind.Kind.{Kind}
use Rattle.value_core.specs.declared.kind.Kind.TheVariants.{Truth, Span as SpanOf}
use Rattle.value_core.specs.Attributes.{value_at, span_of, with_span, among}
use Rattle.value_core.specs.RowPacking.{attribute}
use Rattle.value_core.specs.Values.{Name, Value, Row, Heading, truth, interval, fits, fits_heading}
use Rattle.value_core.proofs.RelationLemmas.{other_length}
use Rattle.value_core.proofs.FitLemmas.{fits_at, interval_that_fits}
use Rattle.value_core.proofs.PlainLemmas.{set_elsewhere}
use Rattle.relation_core.specs.Parts.{kind_at}
use Rattle.cell_packing.specs.Boxed.{side, sides_from}
use Rattle.cell_packing.specs.Packed.{nowhere}
use Rattle.u_set.specs.Boxes.{place_of, type_of, AreIntervals, unless, others_from, others, spans_at, boxed, unboxed_from, unboxed, IsShaped}
use Rattle.u_set.proofs.ImageLemmas.{Alike, AllAlike}

-- ---- positions

-- a listed position stands at its place
pub listed_at : (commalist : List ℕ) (i : ℕ) → IsTrue (among commalist i) → (place_of commalist i < length commalist) × (get_or commalist (place_of commalist i) 0 ≡ i)
listed_at [] i h = absurd (true≢false (sym h))
listed_at (j ∷ commalist) i h =
    elim (nat_eq i j) as (λ b. nat_eq i j ≡ b → (b || among commalist i) ≡ true → (cond b 0 (suc (place_of commalist i)) < suc (length commalist)) × (get_or (j ∷ commalist) (cond b 0 (suc (place_of commalist i))) 0 ≡ i)) [
      | true ↦ λ e k. (omega arith, sym (eqb-true i j e))
      | false ↦ λ e k. let w = listed_at commalist i k in (omega (arith, w.0), w.1)
    ] refl h

pub place_listed : (commalist : List ℕ) (j : ℕ) → j < length commalist → IsTrue (among commalist (get_or commalist j 0))
place_listed commalist j l = list_any_at (nat_eq (get_or commalist j 0)) commalist j 0 l (eq-eqb (get_or commalist j 0) (get_or commalist j 0) refl)

-- ---- values at positions

pub value_at-get : (row : Row) (i : ℕ) → value_at row i ≡ get_or row i (truth false)
value_at-get row i = unwrap_or-slice_get row i (truth false)

value_at-same : (row : Row) (i : ℕ) (v : Value) → i < length row → value_at (set row i v) i ≡ v
value_at-same row i v l = value_at-get (set row i v) i ∙ get_or-set_same row i v (truth false) l

-- ---- a row comes back from its box

pub unboxed_others : (n : ℕ) (commalist : List ℕ) (heading : Heading) (row : Row) (spans : List Span) → length row ≡ length heading
    → ((m : ℕ) (d : Value) (e : Name × Kind) → m < length row → IsTrue (among commalist (n + m)) → get_or row m d ≡ interval (line_of (type_of (get_or heading m e).1)) (get_or spans (place_of commalist (n + m)) nowhere))
    → unboxed_from n commalist heading (others_from n commalist row) spans ≡ row
unboxed_others n commalist [] [] spans l h = refl
unboxed_others n commalist [] (v ∷ row) spans l h = absurd (omega arith)
unboxed_others n commalist (a ∷ heading) [] spans l h = absurd (omega arith)
unboxed_others n commalist (a ∷ heading) (v ∷ row) spans l h =
    let rest : Row = others_from (suc n) commalist row in
    let ih : unboxed_from (suc n) commalist heading rest spans ≡ row =
    unboxed_others (suc n) commalist heading row spans (omega arith) (λ m d e b g.
    let s : n + suc m ≡ suc n + m = omega arith in
    let g' : IsTrue (among commalist (n + suc m)) = subst (λ k. IsTrue (among commalist k)) (sym s) g in
    subst (λ k. get_or row m d ≡ interval (line_of (type_of (get_or heading m e).1)) (get_or spans (place_of commalist k) nowhere)) s (h (suc m) d e (omega arith) g')) in
    let z : n + 0 ≡ n = omega arith in
    elim (among commalist n) as (λ b. among commalist n ≡ b
    → (if b then interval (line_of (type_of a.1)) (get_or spans (place_of commalist n) nowhere) else slice_index_or (unless b v rest) 0 (truth false)) ∷ unboxed_from (suc n) commalist heading (if b then unless b v rest else drop 1 (unless b v rest)) spans ≡ v ∷ row) [
      | true ↦ λ e.
          let g : IsTrue (among commalist (n + 0)) = subst (λ k. IsTrue (among commalist k)) (sym z) e in
          let first : v ≡ interval (line_of (type_of a.1)) (get_or spans (place_of commalist n) nowhere) =
          subst (λ k. v ≡ interval (line_of (type_of a.1)) (get_or spans (place_of commalist k) nowhere)) z (h 0 v a (omega arith) g) in
          let back = sym first in
          λ t. back t ∷ ih t
      | false ↦ λ e. ap (λ r. v ∷ r) ih
    ] refl

-- ---- another interval at a listed position

pub others-set : {X : Type 0} (n : ℕ) (commalist : List ℕ) (xs : List X) (i : ℕ) (v : X) → IsTrue (among commalist (n + i)) → others_from n commalist (set xs i v) ≡ others_from n commalist xs
others-set n commalist [] i v h = refl
others-set n commalist (x ∷ xs) zero v h =
    let z : n + 0 ≡ n = omega arith in
    let e : among commalist n ≡ true = subst (λ k. IsTrue (among commalist k)) z h in
    ap (λ b. unless b v (others_from (suc n) commalist xs)) e ∙ sym (ap (λ b. unless b x (others_from (suc n) commalist xs)) e)
others-set n commalist (x ∷ xs) (suc i) v h =
    let s : n + suc i ≡ suc n + i = omega arith in
    ap (unless (among commalist n) x) (others-set (suc n) commalist xs i v (subst (λ k. IsTrue (among commalist k)) s h))

map_same : {X : Type 0} (f g : ℕ → X) (i : ℕ) (ks : List ℕ) → AllByRecursion (λ k. nat_eq i k ≡ false) ks → ((k : ℕ) → (k ≡ i → ⊥) → g k ≡ f k) → map g ks ≡ map f ks
map_same f g i [] h other = refl
map_same f g i (k ∷ ks) h other =
    let first : g k ≡ f k = other k (λ e. eqb-false i k h.0 (sym e)) in
    let rest : map g ks ≡ map f ks = map_same f g i ks h.1 other in
    λ t. first t ∷ rest t

-- what different positions give, where what one of them gives is another
map_set : {X : Type 0} (f g : ℕ → X) (s : X) (commalist : List ℕ) (j : ℕ) → IsDistinct nat_eq commalist → j < length commalist → g (get_or commalist j 0) ≡ s → ((k : ℕ) → (k ≡ get_or commalist j 0 → ⊥) → g k ≡ f k)
    → map g commalist ≡ set (map f commalist) j s
unfolding IsDistinct
map_set f g s [] j different l at other = absurd (omega arith)
map_set f g s (i ∷ commalist) zero different l at other =
    let rest : map g commalist ≡ map f commalist = map_same f g i commalist different.0 other in
    λ t. at t ∷ rest t
map_set f g s (i ∷ commalist) (suc j) different l at other =
    let apart : nat_eq i (get_or commalist j 0) ≡ false = All-from_recursion (λ k. nat_eq i k ≡ false) commalist different.0 j 0 (omega arith) in
    let first : g i ≡ f i = other i (eqb-false i (get_or commalist j 0) apart) in
    let rest : map g commalist ≡ set (map f commalist) j s = map_set f g s commalist j different.1 (omega arith) at other in
    λ t. first t ∷ rest t

span_of-with : (l : Line) (i s : Span) (v : Value) → v ≡ interval l i → with_span v s ≡ interval l s
span_of-with l i s v e = ap (λ w. with_span w s) e

module _ (heading : Heading) (commalist : List ℕ) (intervals : AreIntervals heading commalist) where
  -- the box goes along with the attribute at a place of the list
  alike_at : (j : ℕ) → j < length commalist → Alike (IsShaped heading commalist) (boxed commalist) (attribute (get_or commalist j 0)) (side j)
  alike_at j l =
      let i : ℕ = get_or commalist j 0 in
      let listed : IsTrue (among commalist i) = place_listed commalist j l in
      let below : i < length heading = intervals.within j 0 l in
      let put : Row → Span → Row = λ x s. set x i (with_span (value_at x i) s) in
      let at : (x : Row) (s : Span) → IsShaped heading commalist x → value_at (put x s) i ≡ interval (line_of (type_of (kind_at heading i))) s = λ x s h.
      let long = h.long in
      value_at-same x i (with_span (value_at x i) s) (omega arith) ∙ span_of-with (line_of (type_of (kind_at heading i))) (span_of (value_at x i)) s (value_at x i) (h.spans i listed) in
      let label : (x : Row) (s : Span) → others commalist (put x s) ≡ others commalist x = λ x s.
      let z : i ≡ 0 + i = omega arith in
      others-set 0 commalist x i (with_span (value_at x i) s) (subst (λ k. IsTrue (among commalist k)) z listed) in
      record {
        of = λ x h. get_or-map (λ k. span_of (value_at x k)) commalist j 0 nowhere l;
        put = λ x s h.
            let sides : spans_at commalist (put x s) ≡ set (spans_at commalist x) j s =
            map_set (λ k. span_of (value_at x k)) (λ k. span_of (value_at (put x s) k)) s commalist j intervals.different l (ap span_of (at x s h)) (λ k n. ap span_of (set_elsewhere x i k (with_span (value_at x i) s) n)) in
            let same = label x s in
            λ t. (same t, sides t);
        keeps = λ x s h. record {
          long = length-set x i (with_span (value_at x i) s) ∙ h.long;
          spans = λ k g.
              let P : Value → Type 0 = λ v. v ≡ interval (line_of (type_of (kind_at heading k))) (span_of v) in
              elim (cases_eq k i) [
                | inl e ↦
                    let Q : ℕ → Type 0 = λ m. value_at (put x s) m ≡ interval (line_of (type_of (kind_at heading m))) (span_of (value_at (put x s) m)) in
                    let here : Q i = at x s h ∙ ap (interval (line_of (type_of (kind_at heading i)))) (sym (ap span_of (at x s h))) in
                    subst Q (sym e) here
                | inr n ↦ subst P (sym (set_elsewhere x i k (with_span (value_at x i) s) n)) (h.spans k g)
              ];
          label = subst (λ (r : Row). IsTrue (fits_heading (others commalist heading) r)) (sym (label x s)) h.label;
        };
      }

  alike_from : (n : ℕ) (rest : List ℕ) → ((m : ℕ) → m < length rest → (n + m < length commalist) × (get_or commalist (n + m) 0 ≡ get_or rest m 0))
      → AllAlike (IsShaped heading commalist) (boxed commalist) (map attribute rest) (sides_from n (length rest))
  alike_from n [] h = tt
  alike_from n (i ∷ rest) h =
      let z : n + 0 ≡ n = omega arith in
      let w = h 0 (omega arith) in
      let e : get_or commalist n 0 ≡ i = subst (λ k. get_or commalist k 0 ≡ i) z w.1 in
      let here : Alike (IsShaped heading commalist) (boxed commalist) (attribute (get_or commalist n 0)) (side n) = alike_at n (omega (arith, w.0)) in (
        subst (λ k. Alike (IsShaped heading commalist) (boxed commalist) (attribute k) (side n)) e here,
        alike_from (suc n) rest (λ m l.
            let s : n + suc m ≡ suc n + m = omega arith in
            let v = h (suc m) (omega arith) in
            (omega (arith, v.0), subst (λ k. get_or commalist k 0 ≡ get_or rest m 0) s v.1)),
      )

  -- and with all of them
  pub all_alike : AllAlike (IsShaped heading commalist) (boxed commalist) (map attribute commalist) (sides_from 0 (length commalist))
  all_alike = alike_from 0 commalist (λ m l.
      let z : m ≡ 0 + m = omega arith in
      (omega arith, ap (λ k. get_or commalist k 0) (sym z)))

  -- a row comes back from its box
  pub unboxed-boxed : (row : Row) → IsShaped heading commalist row → unboxed heading commalist (boxed commalist row) ≡ row
  unboxed-boxed row h =
      unboxed_others 0 commalist heading row (spans_at commalist row) h.long (λ m d e l g.
      let z : 0 + m ≡ m = omega arith in
      let long = h.long in
      let listed : IsTrue (among commalist m) = subst (λ k. IsTrue (among commalist k)) z g in
      let p = listed_at commalist m listed in
      let value : get_or row m d ≡ value_at row m = get_or_default row m d (truth false) l ∙ sym (value_at-get row m) in
      let kind : kind_at heading m ≡ (get_or heading m e).1 = ap (λ (a : Name × Kind). a.1) (get_or_default heading m ([], Truth) e (omega arith)) in
      let span : get_or (spans_at commalist row) (place_of commalist m) nowhere ≡ span_of (value_at row m) =
      get_or-map (λ k. span_of (value_at row k)) commalist (place_of commalist m) 0 nowhere p.0 ∙ ap (λ k. span_of (value_at row k)) p.1 in
      value ∙ h.spans m listed ∙ (λ t. interval (line_of (type_of (kind t))) (sym span t)) ∙ ap (λ k. interval (line_of (type_of (get_or heading m e).1)) (get_or (spans_at commalist row) (place_of commalist k) nowhere)) (sym z))

  -- ---- a row that fits the heading is shaped so

  others_fit : (n : ℕ) (h : Heading) (row : Row) → IsTrue (fits_heading h row) → IsTrue (fits_heading (others_from n commalist h) (others_from n commalist row))
  others_fit n [] [] f = refl
  others_fit n [] (v ∷ row) f = absurd (true≢false (sym f))
  others_fit n (a ∷ h) [] f = absurd (true≢false (sym f))
  others_fit n (a ∷ h) (v ∷ row) f =
      let w = and_parts (fits a.1 v) (fits_heading h row) f in
      let ih = others_fit (suc n) h row w.1 in
      elim (among commalist n) as (λ b. IsTrue (fits_heading (unless b a (others_from (suc n) commalist h)) (unless b v (others_from (suc n) commalist row)))) [
        | true ↦ ih
        | false ↦ and_from (fits a.1 v) (fits_heading (others_from (suc n) commalist h) (others_from (suc n) commalist row)) w.0 ih
      ]

  pub kind_listed : (i : ℕ) → IsTrue (among commalist i) → (i < length heading) × (kind_at heading i ≡ SpanOf (type_of (kind_at heading i)))
  kind_listed i listed =
      let p = listed_at commalist i listed in
      let l = intervals.within (place_of commalist i) 0 p.0 in (
        subst (λ k. k < length heading) p.1 l,
        subst (λ k. kind_at heading k ≡ SpanOf (type_of (kind_at heading k))) p.1 (intervals.spans (place_of commalist i) 0 p.0),
      )

  -- the value at a listed position is an interval of its type
  pub span_fits : (row : Row) → IsTrue (fits_heading heading row) → (i : ℕ) → IsTrue (among commalist i) → IsTrue (fits (SpanOf (type_of (kind_at heading i))) (value_at row i))
  span_fits row f i listed =
      let k = kind_listed i listed in
      let here : IsTrue (fits (kind_at heading i) (get_or row i (truth false))) = fits_at heading row i ([], Truth) (truth false) f k.0 in
      (λ t. fits (sym k.1 t) (value_at-get row i t)) ∙ here

  pub shaped_from_fit : (row : Row) → IsTrue (fits_heading heading row) → IsShaped heading commalist row
  shaped_from_fit row f = record {
    long = elim (cases_eq (length heading) (length row)) [
      | inl e ↦ sym e
      | inr n ↦ absurd (true≢false (sym f ∙ other_length heading row n))
    ];
    spans = λ i listed. interval_that_fits (type_of (kind_at heading i)) (value_at row i) (span_fits row f i listed);
    label = others_fit 0 heading row f;
  }
