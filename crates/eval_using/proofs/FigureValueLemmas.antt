-- The values of aggregates by figures, one after the other.
use Rattle.std.proofs.Common.{◌≡◌, ◌⊎◌, inl, inr, ℕ, zero, suc, ◌+◌, ◌<◌, ◌≤◌, List, [], ◌∷◌, ◌++◌, map, take, length, get_or, Ok, Err, arith, refl, sym, ap, ap₂, ◌∙◌, subst}
use Rattle.base_core.specs.Outcomes.{both}
use Rattle.point_core.specs.Faults.{OrFault}
use Rattle.point_core.specs.declared.fault.Stop.{Stop}
use Rattle.point_core.specs.declared.fault.Stop.TheVariants.{Fault as Faulted, Memory as OfMemory}
use Rattle.value_core.specs.Values.{Value}
use Rattle.scalar_core.specs.Answers.{Gives}
use Rattle.tree_core.specs.Trees.{read_aggregate}
use Rattle.tree_core.specs.declared.tree.Aggregate.{Aggregate}
use Rattle.u_summarize.specs.declared.values.Figure.{Figure}
use Rattle.eval_using.specs.Columns.{point_at, figure_values}

abbrev behind_none : OrFault (List Value)
behind_none = Ok []

abbrev behind : OrFault Value → OrFault (List Value) → OrFault (List Value)
behind m ms = both m ms (λ v vs. Ok (v ∷ vs))

parts : (m : OrFault Value) (ms : OrFault (List Value)) (vs : List Value) → behind m ms ≡ Ok vs → (u : Value) × (us : List Value) × (m ≡ Ok u) × (ms ≡ Ok us) × (u ∷ us ≡ vs)
parts (Ok u) (Ok us) vs e = (u, us, refl, refl, let q : u ∷ us ≡ vs = cc in q)
parts (Ok u) (Err d) vs e = absurd cc
parts (Err c) ms vs e = absurd cc

ok_list : OrFault (List Value) → List Value
ok_list (Ok us) = us
ok_list (Err d) = []

nothing : (vs : List Value) → behind_none ≡ Ok vs → [] ≡ vs
unfolding ok_list
nothing vs e = ap ok_list e

module _ (a : Aggregate) (z : Figure) where
  more : (gs : List Aggregate) (zs : List Figure) (i : ℕ) (vs : List Value) (v : Value) → i < length gs → i < length zs → a ≡ get_or gs i a → z ≡ get_or zs i z
      → figure_values (map read_aggregate (take i gs)) (take i zs) ≡ Ok vs → point_at a.place z ≡ Ok v → figure_values (map read_aggregate (take (suc i) gs)) (take (suc i) zs) ≡ Ok (vs ++ v ∷ [])
  more [] zs i vs v l m p q h e = absurd (omega (arith, l))
  more (g ∷ gs) [] i vs v l m p q h e = absurd (omega (arith, m))
  more (g ∷ gs) (y ∷ ys) zero vs v l m p q h e =
      ap (λ r. behind r (Ok [])) (sym (ap₂ (λ (b : Aggregate) (x : Figure). point_at b.place x) p q) ∙ e) ∙ ap (λ us. Ok (us ++ v ∷ [])) (nothing vs h)
  more (g ∷ gs) (y ∷ ys) (suc i) vs v l m p q h e =
      let w = parts (point_at g.place y) (figure_values (map read_aggregate (take i gs)) (take i ys)) vs h in
      ap₂ behind w.2 (more gs ys i w.1 v (omega (arith, l)) (omega (arith, m)) p q w.3 e) ∙ ap (λ us. Ok (us ++ v ∷ [])) w.4

  ends : {V : Type 0} (all : V → List Value) (one : Value → Value) (gs : List Aggregate) (zs : List Figure) (i : ℕ) (vs : List Value) (d : _) → i < length gs → i < length zs → a ≡ get_or gs i a → z ≡ get_or zs i z
      → figure_values (map read_aggregate (take i gs)) (take i zs) ≡ Ok vs → point_at a.place z ≡ Err d → figure_values (map read_aggregate gs) zs ≡ Err d
  ends all one [] zs i vs d l m p q h e = absurd (omega (arith, l))
  ends all one (g ∷ gs) [] i vs d l m p q h e = absurd (omega (arith, m))
  ends all one (g ∷ gs) (y ∷ ys) zero vs d l m p q h e = ap (λ r. behind r (figure_values (map read_aggregate gs) ys)) (sym (ap₂ (λ (b : Aggregate) (x : Figure). point_at b.place x) p q) ∙ e)
  ends all one (g ∷ gs) (y ∷ ys) (suc i) vs d l m p q h e =
      let w = parts (point_at g.place y) (figure_values (map read_aggregate (take i gs)) (take i ys)) vs h in
      ap₂ behind w.2 (ends all one gs ys i w.1 d (omega (arith, l)) (omega (arith, m)) p q w.3 e)

  pub values_more : (gs : List Aggregate) (zs : List Figure) (i : ℕ) (vs : List Value) (v : Value) → i < length gs → i < length zs → a ≡ get_or gs i a → z ≡ get_or zs i z
      → figure_values (map read_aggregate (take i gs)) (take i zs) ≡ Ok vs → point_at a.place z ≡ Ok v → figure_values (map read_aggregate (take (i + 1) gs)) (take (i + 1) zs) ≡ Ok (vs ++ v ∷ [])
  values_more gs zs i vs v l m p q h e =
      let up : suc i ≡ i + 1 = omega arith in
      subst (λ n. figure_values (map read_aggregate (take n gs)) (take n zs) ≡ Ok (vs ++ v ∷ [])) up (more gs zs i vs v l m p q h e)

  pub values_end : {V W : Type 0} (all : V → List Value) (one : W → Value) (gs : List Aggregate) (zs : List Figure) (i : ℕ) (vs : List Value) (stop : Stop) → i < length gs → i < length zs → a ≡ get_or gs i a → z ≡ get_or zs i z
      → figure_values (map read_aggregate (take i gs)) (take i zs) ≡ Ok vs → Gives one (Err stop) (point_at a.place z) → Gives all (Err stop) (figure_values (map read_aggregate gs) zs)
  values_end all one gs zs i vs (Faulted d) l m p q h e = ends all (λ v. v) gs zs i vs d l m p q h e
  values_end all one gs zs i vs OfMemory l m p q h e = tt

pub values_all : (gs : List Aggregate) (zs : List Figure) (i : ℕ) (vs : List Value) → i ≤ length gs → i ≤ length zs → (length gs ≤ i) ⊎ (length zs ≤ i)
    → figure_values (map read_aggregate (take i gs)) (take i zs) ≡ Ok vs → figure_values (map read_aggregate gs) zs ≡ Ok vs
values_all [] zs zero vs l m e h = h
values_all [] zs (suc i) vs l m e h = absurd (omega (arith, l))
values_all (g ∷ gs) [] zero vs l m e h = h
values_all (g ∷ gs) [] (suc i) vs l m e h = absurd (omega (arith, m))
values_all (g ∷ gs) (y ∷ ys) zero vs l m e h = elim e [ inl k ↦ absurd (omega (arith, k)) | inr k ↦ absurd (omega (arith, k)) ]
values_all (g ∷ gs) (y ∷ ys) (suc i) vs l m e h =
    let w = parts (point_at g.place y) (figure_values (map read_aggregate (take i gs)) (take i ys)) vs h in
    ap₂ behind w.2 (values_all gs ys i w.1 (omega (arith, l)) (omega (arith, m)) (elim e [ inl k ↦ inl (omega (arith, k)) | inr k ↦ inr (omega (arith, k)) ]) w.3) ∙ ap (λ us. Ok us) w.4
