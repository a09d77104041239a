-- Constraints where rows have come to the relvar that is named, and others have gone from it.
--     across_referred      of a foreign key the rows with the key of a row that goes tell, against the rows with their key
--     across_break      of a history the rows that come and stay
use Rattle.std.proofs.Common.{◌≡◌, ◌↔◌, ◌⊎◌, inl, inr, ℕ, ◌+◌, ◌≤◌, nat_eq, Bool, true, false, List, [], ◌∷◌, length, map, Option, None, refl, sym, ap, ◌∙◌, arith}
use Rattle.std.specs.Bool.{IsTrue}
use Rattle.std.specs.List.{IsDistinct}
use Rattle.std.proofs.lemmas.Bool.{true≢false}
use Rattle.base_core.specs.Sets.{has}
use Rattle.base_core.proofs.MemberLemmas.{In-filter, has-In}
use Rattle.base_core.proofs.SetLemmas.{In}
use Rattle.base_core.proofs.SetOperatorLemmas.{Ascends-union_of}
use Rattle.point_core.specs.declared.fault.Code.{Code}
use Rattle.point_core.specs.declared.fault.Code.TheVariants.{E43, E44}
use Rattle.value_core.specs.Order.{row_total, row_separates}
use Rattle.value_core.specs.Values.{Name, Row, Heading, row_cmp}
use Rattle.value_core.specs.declared.constraint.Constraint.{Constraint}
use Rattle.value_core.specs.declared.constraint.Constraint.TheVariants.{Foreign, History}
use Rattle.value_core.specs.declared.constraint.HistoryRule.{HistoryRule}
use Rattle.relation_core.specs.Agreement.{part_of}
use Rattle.relation_core.specs.Operators.{subtracted, united}
use Rattle.relation_core.specs.Parts.{projected}
use Rattle.meaning_core.specs.WellMade.{AreAlike, AreAmong}
use Rattle.u_row.specs.Kept.{unlisted}
use Rattle.u_constraints.specs.Constraints.{counterpart, is_referenced, keeps_history, first_failed, broken}
use Rattle.u_constraints.specs.Costs.{constraint_cost}
use Rattle.u_constraints.specs.Growth.{exchanged}
use Rattle.u_constraints.specs.Near.{with_keys}
use Rattle.u_constraints.proofs.BoundLemmas.{bound_grows}
use Rattle.u_constraints.proofs.GrownKeyLemmas.{In-exchanged}
use Rattle.u_constraints.proofs.GrowthLemmas.{In-united, exchanged_ascends, history_across, one_line}
use Rattle.u_constraints.proofs.NearLemmas.{asked_enough, in_parts, near_enough}
use Rattle.u_constraints.proofs.TouchedLemmas.{within_length}

-- ---- a foreign key

module _ (positions : List ℕ) (keys old gone come : List Row) where
  abbrev near : List Row
  near = with_keys positions keys old

  kept : (s : Row) → In s near ↔ (In s old × IsTrue (has row_cmp keys (part_of positions s)))
  kept s = In-filter (λ x. has row_cmp keys (part_of positions x)) s old

  pub near_within : (s : Row) → In s (exchanged near gone come) → In s (exchanged old gone come)
  near_within s i =
      let w = (In-exchanged near gone come s).0 i in
      (In-exchanged old gone come s).1 (elim w.0 [ inl l ↦ inl ((kept s).0 l).0 | inr r ↦ inr r ], w.1)

  pub near_joined : length (united near come) ≤ length (united old come)
  near_joined =
      within_length row_cmp row_total row_separates (united near come) (united old come) (Ascends-union_of row_cmp row_total row_separates near come)
      (Ascends-union_of row_cmp row_total row_separates old come) (λ x i.
      (In-united old come x).1 (elim ((In-united near come x).0 i) [ inl w ↦ inl ((kept x).0 w).0 | inr w ↦ inr w ]))

  pub near_length : length (exchanged near gone come) ≤ length (exchanged old gone come)
  near_length =
      within_length row_cmp row_total row_separates (exchanged near gone come) (exchanged old gone come) (exchanged_ascends near gone come)
      (exchanged_ascends old gone come) near_within

  with_key : (s : Row) → In s (exchanged old gone come) → IsTrue (has row_cmp keys (part_of positions s)) → In s (exchanged near gone come)
  with_key s i t =
      let w = (In-exchanged old gone come s).0 i in
      (In-exchanged near gone come s).1 (elim w.0 [ inl l ↦ inl ((kept s).1 (l, t)) | inr r ↦ inr r ], w.1)

module _ (h g : Heading) (here there commalist : List ℕ) (alike : AreAlike h here g there) (lies : AreAmong here commalist) (d : IsDistinct nat_eq here) (d' : IsDistinct nat_eq there) where
  abbrev own : List ℕ
  own = unlisted commalist here

  abbrev theirs : List ℕ
  theirs = unlisted (map (counterpart here there) commalist) there

  module _ (of old gone come : List Row) where
    abbrev keys : List Row
    keys = projected theirs gone

    abbrev asked : List Row
    asked = with_keys own keys of

    abbrev few : List Row
    few = exchanged (with_keys theirs keys old) gone come

    abbrev all : List Row
    all = exchanged old gone come

    is_asked : (r : Row) → In r asked ↔ (In r of × IsTrue (has row_cmp keys (part_of own r)))
    is_asked r = In-filter (λ x. has row_cmp keys (part_of own x)) r of

    -- a row without the key of one that goes refers to rows that stay
    stays : (r s : Row) → In r of → In s old → part_of own r ≡ part_of theirs s → In r asked ⊎ In s all
    stays r s i j e =
        elim (has row_cmp keys (part_of own r)) as (λ b. has row_cmp keys (part_of own r) ≡ b → In r asked ⊎ In s all) [
          | true ↦ λ t. inl ((is_asked r).1 (i, t))
          | false ↦ λ t.
              inr ((In-exchanged old gone come s).1 (
                inl j,
                λ k.
                    let told : has row_cmp keys (part_of theirs s) ≡ true = (has-In row_cmp row_total row_separates keys (part_of theirs s)).1 ((in_parts theirs gone (part_of theirs s)).1 (s, k, refl)) in
                    true≢false (sym told ∙ (ap (has row_cmp keys) (sym e) ∙ t)),
              ))
        ] refl

    pub across_referred : is_referenced commalist here there of old ≡ true → is_referenced commalist here there asked few ≡ is_referenced commalist here there of all
    across_referred held =
        near_enough h g here there commalist alike lies d d' asked few all (near_within theirs keys old gone come) (λ r s i j e.
        with_key theirs keys old gone come s j (ap (has row_cmp keys) (sym e) ∙ ((is_asked r).0 i).1))
        ∙ asked_enough h g here there commalist alike lies d d' of asked old all (λ r i. ((is_asked r).0 i).0) stays held

-- fewer rows cost no more
pub reference_cost : (commalist here there : List ℕ) (name : Name) (rows more others all : List Row) → length rows ≤ length more → length others ≤ length all
    → constraint_cost (Foreign commalist here name there) rows others ≤ constraint_cost (Foreign commalist here name there) more all
reference_cost [] here there name rows more others all l m = omega arith
reference_cost (i ∷ commalist) here there name rows more others all l m =
    bound_grows (length rows + length others) (length more + length all) (length (i ∷ commalist)) (omega (arith, l, m))

-- ---- the form of the constraint

pub form_at : (c : Constraint) (commalist here there a b t : List ℕ) (name : Name) → c ≡ Foreign commalist here name there → a ≡ commalist → b ≡ here → t ≡ there → c ≡ Foreign a b name t
form_at c commalist here there a b t name form d e f = form ∙ (λ i. Foreign (sym d i) (sym e i) name (sym f i))

pub held_at : (c : Constraint) (a b t : List ℕ) (name : Name) (rows others : List Row) → c ≡ Foreign a b name t → broken c rows others ≡ None → is_referenced a b t rows others ≡ true
held_at c a b t name rows others form held = one_line (is_referenced a b t rows others) E43 (ap (λ z. broken z rows others) (sym form) ∙ held)

pub answered : (c : Constraint) (a b t : List ℕ) (name : Name) (rows others : List Row) (kept : Bool) (code : Option Code) → c ≡ Foreign a b name t → kept ≡ is_referenced a b t rows others
    → code ≡ first_failed ((kept, E43) ∷ []) → code ≡ broken c rows others
answered c a b t name rows others kept code form is told = told ∙ (ap (λ k. first_failed ((k, E43) ∷ [])) is ∙ ap (λ z. broken z rows others) (sym form))

-- ---- a history

pub across_break : (c : Constraint) (h : HistoryRule) (rows old gone come : List Row) → c ≡ History h → broken c rows old ≡ None → broken c rows (subtracted come gone) ≡ broken c rows (exchanged old gone come)
across_break c h rows old gone come form held =
    let kept : keeps_history h rows old ≡ true = one_line (keeps_history h rows old) E44 (ap (λ z. broken z rows old) (sym form) ∙ held) in
    ap (λ z. broken z rows (subtracted come gone)) form
    ∙ (ap (λ b. first_failed ((b, E44) ∷ [])) (history_across h rows old gone come kept) ∙ ap (λ z. broken z rows (exchanged old gone come)) (sym form))
