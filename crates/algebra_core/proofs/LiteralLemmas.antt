-- The rows of tuples, one after the other.
use Rattle.std.proofs.Common.{◌≡◌, ℕ, suc, ◌<◌, List, [], ◌∷◌, ◌++◌, length, map, take, get_or, refl, sym, ap, ◌∙◌, subst, arith, IsTrue, Ok, Err}
use Rattle.std.specs.List.{All}
use Rattle.std.proofs.lemmas.Bool.{and_from}
use Rattle.std.proofs.lemmas.List.{length-map, get_or-map}
use Rattle.base_core.specs.Outcomes.{both, first_of_all}
use Rattle.point_core.specs.Faults.{OrFault}
use Rattle.point_core.specs.declared.fault.Stop.{Stop}
use Rattle.point_core.specs.declared.fault.Stop.TheVariants.{Fault as Faulted, Memory as OfMemory}
use Rattle.value_core.specs.Relations.{all_fit}
use Rattle.value_core.specs.Values.{Row, Heading, fits_heading}
use Rattle.scalar_core.specs.Answers.{Gives}
use Rattle.relation_core.specs.Answers.{Answers}
use Rattle.relation_core.specs.Agreement.{names_of}
use Rattle.tree_core.specs.Trees.{PlainSets}
use Rattle.meaning_core.specs.Places.{places}
use Rattle.meaning_core.specs.Rows.{set_names, literal_row}
use Rattle.meaning_core.specs.Typing.{IsTuple}
use Rattle.row_making.proofs.ItemLemmas.{calls_fault}
use Rattle.meaning_core.proofs.MadeLemmas.{extended_fits, tuple_extends}

pub all_at : {A B : Type 0} (P : B → Type 0) (f : A → B) (xs : List A) (i : ℕ) (x : A) → All P (map f xs) → i < length xs → x ≡ get_or xs i x → P (f x)
all_at P f xs i x h l is =
    subst P (get_or-map f xs i x (f x) l ∙ ap f (sym is)) (h i (f x) (omega (arith, length-map xs f)))

-- what is meant by the call at a place is meant by all, where it ends them
pub answers_end : {A B W X : Type 0} (f : B → OrFault X) (g : A → B) (all : W → List X) (xs : List A) (i : ℕ) (x : A) (vs : List X) (stop : Stop)
    → i < length xs → x ≡ get_or xs i x → first_of_all (map f (map g (take i xs))) ≡ Ok vs
    → Answers {A = X} (Err stop) (f (g x)) → Gives all (Err stop) (first_of_all (map f (map g xs)))
answers_end f g all xs i x vs (Faulted e) l is before one = calls_fault f g xs i x vs e l is before one
answers_end f g all xs i x vs OfMemory l is before one = tt

one_more : {X : Type 0} (v : OrFault X) (rest : OrFault (List X)) (all : List X) → both v rest (λ w ws. Ok (w ∷ ws)) ≡ Ok all
    → (w : X) × (ws : List X) × (v ≡ Ok w) × (rest ≡ Ok ws) × (w ∷ ws ≡ all)
one_more {X} (Ok w) (Ok ws) all e = (w, ws, refl, refl, let same : w ∷ ws ≡ all = cc in same)
one_more (Ok w) (Err d) all e = absurd (cc)
one_more (Err d) rest all e = absurd (cc)

pub tuples_fit : (sizes : List ℕ) (heading : Heading) (tuples : List PlainSets) (rows : List Row) → All (IsTuple sizes heading) tuples
    → first_of_all (map (literal_row heading) tuples) ≡ Ok rows → IsTrue (all_fit heading rows)
tuples_fit sizes heading [] rows h e = subst (λ (rs : List Row). IsTrue (all_fit heading rs)) (let same : [] ≡ rows = cc in same) refl
tuples_fit sizes heading (t ∷ tuples) rows h e =
    let parts = one_more (literal_row heading t) (first_of_all (map (literal_row heading) tuples)) rows e in
    let first : IsTuple sizes heading t = h 0 t (omega arith) in
    let rest : All (IsTuple sizes heading) tuples = λ i d l. h (suc i) d (omega arith) in
    subst (λ (rs : List Row). IsTrue (all_fit heading rs)) parts.4
    (and_from (fits_heading heading parts.0) (all_fit heading parts.1)
    (extended_fits sizes [] heading t (places (set_names t ++ names_of []) heading) [] parts.0 refl (tuple_extends sizes heading t first) refl refl parts.2)
    (tuples_fit sizes heading tuples parts.1 rest parts.3))
