-- One more cell under the label that a function gives.
use Rattle.std.proofs.Common.{◌≡◌, ◌⊎◌, ℤ, List, [], ◌∷◌, ◌++◌, map, Result, Ok, Err, Option, Some, None, refl, sym, ap, ◌∙◌, subst, inl, inr}
use Rattle.std.specs.List.{All}
use Rattle.std.proofs.lemmas.List.{map-append}
use Rattle.std.proofs.lemmas.List.Elements.{All-same, All-push}
use Rattle.point_core.specs.declared.fault.Fault.{Fault}
use Rattle.interval_core.specs.Members.{Span}
use Rattle.cell_packing.specs.Covering.{Among}
use Rattle.cell_packing.specs.Packed.{firsts}
use Rattle.cell_packing.proofs.AmongLemmas.{among_append}
use Rattle.point_core.specs.LeastFault.{IsLeast}
use Rattle.cell_sweep.proofs.Turns.{least_iff}
use Rattle.cell_core.specs.Cells.{box_numbers, boxes_of, row_numbers}
use Rattle.u_row.specs.Rules.{given, labelled}
use Rattle.u_row.proofs.RuleLemmas.{least_chain}

assoc : {X : Type 0} (xs ys zs : List X) → (xs ++ ys) ++ zs ≡ xs ++ (ys ++ zs)
assoc [] ys zs = refl
assoc (x ∷ xs) ys zs = ap (λ us. x ∷ us) (assoc xs ys zs)

with_none : {X : Type 0} (xs : List X) → xs ++ [] ≡ xs
with_none [] = refl
with_none (x ∷ xs) = ap (λ us. x ∷ us) (with_none xs)

numbers_given : {L F P : Type 0} (n : P → ℤ) (r : Result (Option L) F) (s : List (P × P)) → map (row_numbers n) (given r s) ≡ given r (box_numbers n s)
numbers_given n (Ok (Some l)) s = refl
numbers_given n (Ok None) s = refl
numbers_given n (Err e) s = refl

-- one cell more keeps what holds of all
pub boxes_step : {L F S : Type 0} (Q : S → Type 0) (out new : List (L × S)) (r : Result (Option L) F) (s : S) → new ≡ out ++ given r s → Q s → All (λ b. Q b.1) out → All (λ b. Q b.1) new
boxes_step Q out new (Ok (Some l)) s e q h = All-same (λ b. Q b.1) new (out ++ (l, s) ∷ []) e (All-push (λ b. Q b.1) out (l, s) h q)
boxes_step Q out new (Ok None) s e q h = All-same (λ b. Q b.1) new out (e ∙ with_none out) h
boxes_step Q out new (Err f) s e q h = All-same (λ b. Q b.1) new out (e ∙ with_none out) h

labelled_more : {L F : Type 0} (f : List ℤ → Result (Option L) F) (xs : List (List Span)) (x : List Span) → labelled f (xs ++ x ∷ []) ≡ labelled f xs ++ given (f (firsts x)) x
labelled_more f [] x = with_none (given (f (firsts x)) x)
labelled_more f (y ∷ ys) x = ap (λ zs. given (f (firsts y)) y ++ zs) (labelled_more f ys x) ∙ sym (assoc (given (f (firsts y)) y) (labelled f ys) (given (f (firsts x)) x))

module _ {P : Type 0} (n : P → ℤ) (cells : List (List (P × P))) (sides : List (P × P)) where
  one_more : boxes_of n (cells ++ sides ∷ []) ≡ boxes_of n cells ++ box_numbers n sides ∷ []
  one_more = map-append (box_numbers n) cells (sides ∷ [])

  pub rows_step : {L F : Type 0} (f : List ℤ → Result (Option L) F) (old out new : List (L × List (P × P))) → new ≡ out ++ given (f (firsts (box_numbers n sides))) sides
      → map (row_numbers n) out ≡ map (row_numbers n) old ++ labelled f (boxes_of n cells) → map (row_numbers n) new ≡ map (row_numbers n) old ++ labelled f (boxes_of n (cells ++ sides ∷ []))
  rows_step f old out new push inv =
      let x : List Span = box_numbers n sides in
      let xs : List (List Span) = boxes_of n cells in
      ap (map (row_numbers n)) push ∙ map-append (row_numbers n) out (given (f (firsts x)) sides) ∙ (λ t. inv t ++ numbers_given n (f (firsts x)) sides t)
      ∙ assoc (map (row_numbers n) old) (labelled f xs) (given (f (firsts x)) x)
      ∙ ap (λ ys. map (row_numbers n) old ++ ys) (sym (labelled_more f xs x) ∙ ap (labelled f) (sym one_more))

  pub least_step : {L : Type 0} (f : List ℤ → Result (Option L) Fault) (o a b : Option Fault)
      → IsLeast (λ e. (o ≡ Some e) ⊎ ((c : List Span) × Among c (boxes_of n cells) × (f (firsts c) ≡ Err e))) a
      → IsLeast (λ e. (a ≡ Some e) ⊎ (f (firsts (box_numbers n sides)) ≡ Err e)) b
      → IsLeast (λ e. (o ≡ Some e) ⊎ ((c : List Span) × Among c (boxes_of n (cells ++ sides ∷ [])) × (f (firsts c) ≡ Err e))) b
  least_step f o a b ha hb =
      let x : List Span = box_numbers n sides in
      let xs : List (List Span) = boxes_of n cells in
      let Q : Fault → Type 0 = λ e. (o ≡ Some e) ⊎ ((c : List Span) × Among c xs × (f (firsts c) ≡ Err e)) in
      let M : Fault → Type 0 = λ e. f (firsts x) ≡ Err e in
      let N : Fault → Type 0 = λ e. (o ≡ Some e) ⊎ ((c : List Span) × Among c (xs ++ x ∷ []) × (f (firsts c) ≡ Err e)) in
      subst (λ ys. IsLeast (λ e. (o ≡ Some e) ⊎ ((c : List Span) × Among c ys × (f (firsts c) ≡ Err e))) b) (sym one_more)
      (least_iff (λ e. Q e ⊎ M e) N b (λ e. (
        λ q. elim q [
          | inl u ↦ elim u [ inl p ↦ inl p | inr w ↦ inr (w.0, (among_append w.0 xs (x ∷ [])).1 (inl w.1), w.2) ]
          | inr m ↦ inr (x, (among_append x xs (x ∷ [])).1 (inr (inl refl)), m)
        ],
        λ q. elim q [
          | inl p ↦ inl (inl p)
          | inr w ↦ elim ((among_append w.0 xs (x ∷ [])).0 w.1) [
            | inl u ↦ inl (inr (w.0, u, w.2))
            | inr u ↦ elim u [ inl k ↦ inr (subst (λ s. f (firsts s) ≡ Err e) (sym k) w.2) | inr z ↦ absurd z ]
          ]
        ],
      )) (least_chain Q M a b ha hb))
