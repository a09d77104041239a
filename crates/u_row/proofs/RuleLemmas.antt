-- What a function that is the same at all places of a cell gives at the places of a box.
use Rattle.std.proofs.Common.{◌≡◌, ◌≢◌, ◌↔◌, ◌⊎◌, ℕ, ℤ, List, Result, Ok, Err, Option, Some, None, refl, sym, ap, ◌∙◌, subst, inl, inr}
use Rattle.std.specs.declared.cmp.Ordering.TheVariants.{Greater}
use Rattle.point_core.specs.declared.fault.Fault.{Fault}
use Rattle.point_core.specs.Orders.{fault_order}
use Rattle.interval_core.specs.Members.{Span}
use Rattle.cell_packing.specs.Boxed.{InBoxes}
use Rattle.cell_packing.specs.Covering.{Among}
use Rattle.cell_packing.specs.Packed.{Has, firsts}
use Rattle.cell_packing.proofs.AmongLemmas.{among_flat}
use Rattle.point_core.specs.LeastFault.{fault_total, IsAtMost, IsLeast}
use Rattle.point_core.proofs.LeastFaultLemmas.{not_after_both}
use Rattle.cell_sweep.proofs.Turns.{at_most_then}
use Rattle.u_row.specs.Cutting.{AreCutsFrom, cells_of}
use Rattle.u_row.specs.Rules.{given, labelled}
use Rattle.u_row.proofs.CellLemmas.{in_cell, cell_in, has_firsts}

given_is : {L F S : Type 0} (r : Result (Option L) F) (s : S) (l : L) (x : S) → Among (l, x) (given r s) → (r ≡ Ok (Some l)) × (s ≡ x)
given_is {L = L} {S = S} (Ok (Some m)) s l x h = elim h [ inl e ↦ (ap (λ (z : L × S). Ok (Some z.0)) e, ap (λ (z : L × S). z.1) e) | inr w ↦ absurd w ]
given_is (Ok None) s l x h = absurd h
given_is (Err e) s l x h = absurd h

module _ {L F : Type 0} (f : List ℤ → Result (Option L) F) (cuts : ℕ → List ℤ) (box : List Span) (h : AreCutsFrom cuts 0 box)
    (steady : (cell : List Span) (ps qs : List ℤ) → Among cell (cells_of cuts box) → Has cell ps → Has cell qs → f ps ≡ f qs) where
  -- the labelled cells have at each place of the box the label that the function gives there
  pub labelled_places : (l : L) (place : List ℤ) → InBoxes (labelled f (cells_of cuts box)) l place ↔ (Has box place × (f place ≡ Ok (Some l)))
  labelled_places l place = (
    λ w. let v = (among_flat (λ (s : List Span). given (f (firsts s)) s) (l, w.0) (cells_of cuts box)).0 w.1 in
        let g = given_is (f (firsts v.0)) v.0 l w.0 v.2 in
        let here : Has v.0 place = subst (λ (s : List Span). Has s place) (sym g.1) w.2 in
        (cell_in cuts 0 box h v.0 v.1 place here, steady v.0 place (firsts v.0) v.1 here (has_firsts cuts 0 box h v.0 v.1) ∙ g.0),
    λ w. let v = in_cell cuts 0 box h place w.0 in
        let e : f (firsts v.0) ≡ Ok (Some l) = steady v.0 (firsts v.0) place v.1 (has_firsts cuts 0 box h v.0 v.1) v.2 ∙ w.1 in
        (v.0, (among_flat (λ (s : List Span). given (f (firsts s)) s) (l, v.0) (cells_of cuts box)).1 (v.0, v.1, subst (λ r. Among (l, v.0) (given r v.0)) (sym e) (inl refl)), v.2),
  )

  -- and the faults at the cells' first places are those at all places of the box
  pub cell_faults : (e : F) → ((cell : List Span) × Among cell (cells_of cuts box) × (f (firsts cell) ≡ Err e)) ↔ ((place : List ℤ) × Has box place × (f place ≡ Err e))
  cell_faults e = (
    λ w. let here = has_firsts cuts 0 box h w.0 w.1 in (firsts w.0, cell_in cuts 0 box h w.0 w.1 (firsts w.0) here, w.2),
    λ w. let v = in_cell cuts 0 box h w.0 w.1 in (v.0, v.1, steady v.0 (firsts v.0) w.0 v.1 (has_firsts cuts 0 box h v.0 v.1) v.2 ∙ w.2),
  )

-- ---- one more cell

at_most : (b : Option Fault) (x d : Fault) → IsAtMost b x → fault_order x d ≢ Greater → IsAtMost b d
at_most None x d h l = absurd h
at_most (Some y) x d h l = not_after_both fault_order fault_total y x d h l

-- the least of the least so far and of one more fault is the least of all
pub least_chain : (Q M : Fault → Type 0) (a b : Option Fault) → IsLeast Q a → IsLeast (λ e. (a ≡ Some e) ⊎ M e) b → IsLeast (λ e. Q e ⊎ M e) b
least_chain Q M a b ha hb = record {
  comes = λ e q. elim (hb.comes e q) [ inl p ↦ inl (ha.comes e p) | inr m ↦ inr m ];
  below = λ d q. elim q [ inl p ↦ at_most_then a b d (ha.below d p) (λ x e. hb.below x (inl e)) | inr m ↦ hb.below d (inr m) ];
}
