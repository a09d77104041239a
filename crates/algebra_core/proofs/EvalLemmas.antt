-- What nodes mean, from what their parts mean.
use Rattle.std.proofs.Common.{◌≡◌, ℕ, zero, suc, ◌<◌, ◌≤◌, Bool, true, false, List, [], ◌∷◌, length, map, take, get_or, refl, sym, ap, ◌∙◌, subst, arith, cond, Option, Some, None, Result, Ok, ◌⊎◌, inl, inr}
use Rattle.std.proofs.lemmas.List.{length-map}
use Rattle.relation_core.proofs.FilterLemmas.{take_all}
use Rattle.std.specs.Str.{bytes_eq}
use Rattle.std.proofs.lemmas.Bool.{true≢false}
use Rattle.base_core.specs.Outcomes.{then_give}
use Rattle.point_core.specs.declared.fault.Place.{Place}
use Rattle.point_core.specs.declared.fault.Stop.{Stop}
use Rattle.value_core.specs.declared.constraint.Constraint.{Constraint}
use Rattle.value_core.specs.Values.{Name, Heading, Relation}
use Rattle.relation_core.specs.Answers.{Answers, under}
use Rattle.tree_core.specs.Relvars.{PlainRelvar, base, view, Entries, relvar_named, relvar_heading, heading_if, read_relvar, read_entry, PlainKind}
use Rattle.tree_core.specs.Trees.{Tree, named}
use Rattle.tree_core.specs.declared.relvar.Relvar.{Relvar}
use Rattle.meaning_core.specs.Meanings.{RowsMeant, Known, at_name, limited, relvar_meaning, known_in}
use Rattle.meaning_core.specs.Names.{found, given, given_relvar, given_entry, IsFirstAt}
use Rattle.algebra_core.specs.Costs.{prices_with}
use Rattle.algebra_core.specs.Scopes.{CanEvaluate, CanLookUp, state_of, all_of, with_of, value_of, known_at, prices_at, entry_meaning, entry_work, work, up_to, current}
use Rattle.meaning_core.specs.StoredRows.{AreStored}
use Rattle.meaning_core.specs.Typing.{heading_named, IsTypedTree}
use Rattle.meaning_core.specs.WellMade.{sizes_of, headings_of, IsGiven, IsWellMade, IsTypedFor}
use Rattle.algebra_core.specs.declared.scope.Scope.{Scope}
use Rattle.meaning_core.proofs.EntryLemmas.{found_first, named_first, heading_first, weight_first, relvar_first, given_first}
use Rattle.meaning_core.proofs.LimitLemmas.{with_rows}
use Rattle.meaning_core.proofs.MadeLemmas.{same_name, own_name}

-- ---- names

module _ (s : Scope) (place : Place) (h : Heading) (name : Name) (at : ℕ) (x : PlainRelvar) (can : CanEvaluate s (named place h name)) (first : IsFirstAt (all_of s) name at x) where
  pub stands_before : (at < s.before) × (relvar_heading x ≡ h)
  stands_before = heading_first (all_of s) name at s.before x h first can.typed

  pub can_look_up : CanLookUp s name at x
  can_look_up = record {
    relvars = can.relvars;
    given = can.given;
    stored = can.stored;
    first = first;
  }

  pub work_falls : entry_work s at x < work s (named place h name)
  work_falls = let w = weight_first (all_of s) name at s.before x first stands_before.0 in omega (arith, w)

  meant : found (Ok []) (known_at s) name ≡ entry_meaning s name at x
  meant =
      found_first relvar_meaning (Ok []) (given (with_of s) (value_of s) (all_of s)) name at s.before (given_relvar (with_of s) (value_of s) name x)
      (given_first (with_of s) (value_of s) (all_of s) name at x first) stands_before.0

  pub named_meant : (result : Result Relation Stop) → Answers result (under (relvar_heading x) (then_give (at_name place (entry_meaning s name at x)) (limited place)))
      → Answers result (under h (then_give (at_name place (found (Ok []) (known_at s) name)) (limited place)))
  named_meant result told =
      subst (λ (z : RowsMeant). Answers result (under h (then_give (at_name place z) (limited place)))) (sym meant)
      (subst (λ (z : Heading). Answers result (under z (then_give (at_name place (entry_meaning s name at x)) (limited place)))) stands_before.1 told)

-- ---- what an entry is

pub view_can : (s : Scope) (name : Name) (at : ℕ) (t : Tree) (kind : PlainKind) → CanLookUp s name at (view t kind) → CanEvaluate (up_to s at) t
view_can s name at t kind can = record {
  relvars = can.relvars;
  given = can.given;
  stored = can.stored;
  typed = (relvar_first (sizes_of (state_of s).ordinals) (all_of s) name at (view t kind) can.relvars can.first).1.0;
}

base_by : (entries : Entries) (known : Known) (with : Option Name) (value : Option Relation) (name : Name) (old : Relation) (constraints : List Constraint)
    → IsGiven entries with value → relvar_named entries name ≡ Some (base old constraints)
    → under old.heading (relvar_meaning known (given_relvar with value name (base old constraints))) ≡ Ok (current with value name old)
base_by entries known None value name old constraints h e = refl
base_by entries known (Some with) None name old constraints h e = refl
base_by entries known (Some with) (Some value) name old constraints h e = by_test (bytes_eq name with) refl
  where
    by_test : (b : Bool) → bytes_eq name with ≡ b → under old.heading (relvar_meaning known (given_relvar (Some with) (Some value) name (base old constraints))) ≡ Ok (current (Some with) (Some value) name old)
    by_test false q = rw q refl
    by_test true q =
        let same : value.heading ≡ old.heading = h.1 ∙ (ap (λ (n : Name). heading_if (relvar_named entries n)) (sym (same_name name with q)) ∙ ap heading_if e) in
        rw q (ap (λ (g : Heading). Ok (with_rows g value.rows)) (sym same))

pub base_meant : (s : Scope) (name : Name) (at : ℕ) (old : Relation) (constraints : List Constraint) → CanLookUp s name at (base old constraints)
    → under old.heading (entry_meaning s name at (base old constraints)) ≡ Ok (current (with_of s) (value_of s) name old)
base_meant s name at old constraints can =
    base_by (all_of s) (known_at (up_to s at)) (with_of s) (value_of s) name old constraints can.given (named_first (all_of s) name at (base old constraints) can.first)

named_more : (t : Bool) (d : Name × Heading) (rest : List (Name × Heading)) (name : Name) (h : Heading) → bytes_eq d.0 name ≡ t → heading_named (d ∷ rest) name ≡ Some h
    → (bytes_eq d.0 name ≡ true) ⊎ (heading_named rest name ≡ Some h)
named_more true d rest name h q e = inl q
named_more false d rest name h q e = inr (ap (λ (b : Bool). cond b (Some d.1) (heading_named rest name)) (sym q) ∙ e)

pub none_named : (es : List (Name × Relvar)) (name : Name) (b : ℕ) (h : Heading)
    → ((k : ℕ) → k < length (map (λ (e : Name × Relvar). e.0) es) → bytes_eq name (get_or (map (λ (e : Name × Relvar). e.0) es) k []) ≡ false)
    → heading_named (headings_of (take b (map read_entry es))) name ≡ Some h → ⊥
none_named [] name zero h none e = cc
none_named [] name (suc b) h none e = cc
none_named (d ∷ es) name zero h none e = cc
none_named (d ∷ es) name (suc b) h none e =
    elim (named_more (bytes_eq d.0 name) (d.0, relvar_heading (read_relvar d.1)) (headings_of (take b (map read_entry es))) name h refl e) [
      | inl q ↦ true≢false (sym (own_name name) ∙ (ap (λ (n : Name). bytes_eq name n) (sym (same_name d.0 name q)) ∙ none 0 (omega arith)))
      | inr f ↦ none_named es name b h (λ k l. none (suc k) (omega arith)) f
    ]

-- ---- the scope of a whole state

module _ (s : Scope) (whole : length (all_of s) ≤ s.before) where
  all_first : take s.before (all_of s) ≡ all_of s
  all_first = take_all s.before (all_of s) whole

  pub whole_can : (t : Tree) → IsWellMade (state_of s) → IsTypedFor (state_of s) t → IsGiven (all_of s) (with_of s) (value_of s) → AreStored (all_of s) s.stored.now
      → CanEvaluate s t
  whole_can t made typed given stored = record {
    relvars = made.relvars;
    given = given;
    stored = stored;
    typed = subst (λ (es : Entries). IsTypedTree (sizes_of (state_of s).ordinals) (headings_of es) t) (sym all_first) typed;
  }

  pub whole_known : known_at s ≡ known_in (given (with_of s) (value_of s) (all_of s))
  whole_known =
      ap known_in (take_all s.before (given (with_of s) (value_of s) (all_of s)) (omega (arith, length-map (all_of s) (given_entry (with_of s) (value_of s)))))

  pub whole_prices : prices_at s ≡ prices_with (with_of s) (given (with_of s) (value_of s) (all_of s))
  whole_prices =
      ap (prices_with (with_of s)) (take_all s.before (given (with_of s) (value_of s) (all_of s)) (omega (arith, length-map (all_of s) (given_entry (with_of s) (value_of s)))))
