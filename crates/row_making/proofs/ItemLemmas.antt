-- The values of items on a row, one after the other.
use Rattle.std.proofs.Common.{◌≡◌, ℕ, zero, suc, ◌+◌, ◌<◌, List, [], ◌∷◌, ◌++◌, length, map, take, drop, get_or, sym, ap, ◌∙◌, subst, arith, Ok, Err}
use Rattle.std.proofs.lemmas.List.{take_more, map-append, take-append-drop}
use Rattle.relation_core.proofs.FilterLemmas.{head_of}
use Rattle.point_core.specs.Faults.{OrFault}
use Rattle.point_core.specs.declared.fault.Stop.{Stop}
use Rattle.point_core.specs.declared.fault.Stop.TheVariants.{Fault as Faulted, Memory as OfMemory}
use Rattle.base_core.specs.Outcomes.{both, first_of_all}
use Rattle.base_core.proofs.OutcomeLemmas.{first_of_all-more, first_of_all-Err_at}
use Rattle.value_core.specs.declared.value.Value.{Value}
use Rattle.value_core.specs.Plain.{plain}
use Rattle.value_core.specs.Values.{Name, Row}
use Rattle.scalar_core.specs.Answers.{Gives}
use Rattle.scalar_core.specs.Expressions.{Expr, read}
use Rattle.scalar_core.specs.Kinds.{IsTypedOver}
use Rattle.scalar_core.specs.ScalarValues.{value}
use Rattle.scalar_core.specs.declared.tree.Scalar.{Scalar}
use Rattle.tree_core.specs.Trees.{read_set, read_sets}
use Rattle.meaning_core.specs.Rows.{values_on}
use Rattle.meaning_core.specs.Scalars.{AreTypedOver}

-- a list of calls up to one, with that one, and up to its end
module _ {A B X : Type 0} (f : B → OrFault X) (g : A → B) where
  pub calls_more : (xs : List A) (i : ℕ) (x : A) (vs : List X) (v : X) → i < length xs → x ≡ get_or xs i x
      → first_of_all (map f (map g (take i xs))) ≡ Ok vs → f (g x) ≡ Ok v → first_of_all (map f (map g (take (i + 1) xs))) ≡ Ok (vs ++ v ∷ [])
  calls_more xs i x vs v l is before one =
      let split : take (i + 1) xs ≡ take i xs ++ x ∷ [] = take_more xs i x l ∙ ap (λ y. take i xs ++ y ∷ []) (sym is) in
      ap (λ ys. first_of_all (map f (map g ys))) split
      ∙ ap (λ ys. first_of_all (map f ys)) (map-append g (take i xs) (x ∷ []))
      ∙ ap first_of_all (map-append f (map g (take i xs)) (g x ∷ []))
      ∙ first_of_all-more (map f (map g (take i xs))) (f (g x))
      ∙ ap (λ r. both r (f (g x)) (λ us u. Ok (us ++ u ∷ []))) before
      ∙ ap (λ r. both (Ok vs) r (λ us u. Ok (us ++ u ∷ []))) one

  pub calls_fault : (xs : List A) (i : ℕ) (x : A) (vs : List X) (e : _) → i < length xs → x ≡ get_or xs i x
      → first_of_all (map f (map g (take i xs))) ≡ Ok vs → f (g x) ≡ Err e → first_of_all (map f (map g xs)) ≡ Err e
  calls_fault xs i x vs e l is before one =
      let split : xs ≡ take i xs ++ (x ∷ drop (i + 1) xs) = sym (take-append-drop i xs) ∙ ap (λ ys. take i xs ++ ys) (head_of xs i x l is) in
      let rest = map f (map g (drop (i + 1) xs)) in
      ap (λ ys. first_of_all (map f (map g ys))) split
      ∙ ap (λ ys. first_of_all (map f ys)) (map-append g (take i xs) (x ∷ drop (i + 1) xs))
      ∙ ap first_of_all (map-append f (map g (take i xs)) (g x ∷ map g (drop (i + 1) xs)))
      ∙ ap (λ r. first_of_all (map f (map g (take i xs)) ++ (r ∷ rest))) one
      ∙ first_of_all-Err_at (map f (map g (take i xs))) rest vs e before

-- what is meant by the call at a place is meant by all, where it ends them
pub calls_end : {A B V W X : Type 0} (f : B → OrFault X) (g : A → B) (seen : V → X) (all : W → List X) (xs : List A) (i : ℕ) (x : A) (vs : List X) (stop : Stop)
    → i < length xs → x ≡ get_or xs i x → first_of_all (map f (map g (take i xs))) ≡ Ok vs
    → Gives seen (Err stop) (f (g x)) → Gives all (Err stop) (first_of_all (map f (map g xs)))
calls_end f g seen all xs i x vs (Faulted e) l is before one = calls_fault f g xs i x vs e l is before one
calls_end f g seen all xs i x vs OfMemory l is before one = tt

-- ---- items

pub typed_at : (row : Row) (sets : List (Name × Scalar)) (i : ℕ) (s : Name × Scalar) → AreTypedOver row (read_sets sets) → i < length sets → s ≡ get_or sets i s
    → IsTypedOver row (read s.1)
typed_at row [] i s h l is = absurd (omega arith)
typed_at row (t ∷ sets) zero s h l is = subst (λ (z : Name × Scalar). IsTypedOver row (read z.1)) (sym is) h.0
typed_at row (t ∷ sets) (suc i) s h l is = typed_at row sets i s h.1 (omega arith) is

pub values_more : (row : Row) (sets : List (Name × Scalar)) (i : ℕ) (s : Name × Scalar) (before now : List Value) (v : Value) → i < length sets → s ≡ get_or sets i s
    → values_on row (read_sets (take i sets)) ≡ Ok (map plain before) → value (read s.1) row ≡ Ok (plain v) → now ≡ before ++ v ∷ []
    → values_on row (read_sets (take (i + 1) sets)) ≡ Ok (map plain now)
values_more row sets i s before now v l is h one e =
    calls_more (λ (t : Name × Expr). value t.1 row) read_set sets i s (map plain before) (plain v) l is h one
    ∙ ap (λ us. Ok us) (sym (map-append plain before (v ∷ [])) ∙ ap (map plain) (sym e))
