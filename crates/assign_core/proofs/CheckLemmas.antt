-- Constraints checked one after another.
use Rattle.std.proofs.Common.{◌≡◌, ℕ, zero, suc, ◌+◌, ◌<◌, ◌≤◌, List, [], ◌∷◌, take, drop, length, refl, sym, ap, subst, ◌∙◌, arith, Option, Some, None, option_map, Err}
use Rattle.std.specs.Prelude.{slice_index_or}
use Rattle.relation_core.proofs.FilterLemmas.{take_all}
use Rattle.point_core.specs.declared.fault.Code.{Code}
use Rattle.value_core.specs.declared.constraint.Constraint.{Constraint}
use Rattle.value_core.specs.declared.constraint.Constraint.TheVariants.{Key, Packed, WhenUnpacked, UKey, Foreign, History}
use Rattle.value_core.specs.declared.refuse.Refuse.{Refuse}
use Rattle.value_core.specs.declared.refuse.Refuse.TheVariants.{Plain, At, Broken, Memory}
use Rattle.value_core.specs.Values.{Name, Row, Relation}
use Rattle.tree_core.specs.Relvars.{PlainRelvar, base, view, Entries, relvar_named, heading_if, log}
use Rattle.meaning_core.specs.WellMade.{IsBase}
use Rattle.u_constraints.specs.Constraints.{broken, names_relvar, heading_or_none, IsNamed}
use Rattle.assign_core.specs.Breaches.{value_if, value_at, rows_named, or_later, breach, first_of, first_in, first_among}
use Rattle.assign_core.specs.Changes.{Tells}
use Rattle.assign_core.specs.Checks.{heading_at, NamesBase, AreChecked, AllChecked}
use Rattle.assign_core.proofs.DeclaredLemmas.{neither, none_of_two}

-- ---- one constraint

named_base : (o : Option PlainRelvar) → IsBase o → heading_or_none (value_if o) ≡ heading_if o
named_base None h = absurd h
named_base (Some (base value constraints)) h = refl
named_base (Some (view t kind)) h = absurd h
named_base (Some (log of side last w)) h = absurd h

pub heading_named : (all : Entries) (n : Option Name) (other : Option Relation) → other ≡ value_at all n → NamesBase all n → heading_at all n ≡ heading_or_none other
heading_named all None other e h = sym (ap heading_or_none e)
heading_named all (Some name) other e h = sym (ap heading_or_none e ∙ named_base (relvar_named all name) h)

some_base : (c : Constraint) (o : Option PlainRelvar) → IsBase o → ((v : Relation) → IsNamed c (Some v)) → IsNamed c (value_if o)
some_base c None h f = absurd h
some_base c (Some (base value constraints)) h f = f value
some_base c (Some (view t kind)) h f = absurd h
some_base c (Some (log of side last w)) h f = absurd h

pub is_named : (all : Entries) (c : Constraint) (other : Option Relation) → other ≡ value_at all (names_relvar c) → NamesBase all (names_relvar c) → IsNamed c other
is_named all (Key k) other e h = tt
is_named all (Packed commalist) other e h = tt
is_named all (WhenUnpacked commalist k) other e h = tt
is_named all (UKey commalist k) other e h = tt
is_named all (Foreign commalist k name there) other e h = subst (IsNamed (Foreign commalist k name there)) (sym e) (some_base (Foreign commalist k name there) (relvar_named all name) h (λ v. tt))
is_named all (History rule) other e h = subst (IsNamed (History rule)) (sym e) (some_base (History rule) (relvar_named all rule.since) h (λ v. tt))

-- ---- the constraints of a relvar

module _ (all : Entries) (name : Name) (rows : List Row) where
  of_split : (n i : ℕ) (cs : List Constraint) (d : Constraint) → i < length cs → first_of all name rows n (take i cs) ≡ None
      → first_of all name rows n cs ≡ or_later (breach all name rows (i + n) (slice_index_or cs i d)) (first_of all name rows (suc (i + n)) (drop (suc i) cs))
  of_split n i [] d l e = absurd (omega arith)
  of_split n zero (c ∷ cs) d l e =
      let same : n ≡ 0 + n = omega arith in
      ap (λ (m : ℕ). or_later (breach all name rows m c) (first_of all name rows (suc m) cs)) same
  of_split n (suc i) (c ∷ cs) d l e =
      let parts = neither (breach all name rows n c) (first_of all name rows (suc n) (take i cs)) e in
      let same : i + suc n ≡ suc i + n = omega arith in
      ap (λ (z : Option Refuse). or_later z (first_of all name rows (suc n) cs)) parts.0
      ∙ (of_split (suc n) i cs d (omega arith) parts.1
      ∙ ap (λ (m : ℕ). or_later (breach all name rows m (slice_index_or cs i d)) (first_of all name rows (suc m) (drop (suc i) cs))) same)

  of_more : (n i : ℕ) (cs : List Constraint) (d : Constraint) → i < length cs → first_of all name rows n (take i cs) ≡ None → breach all name rows (i + n) (slice_index_or cs i d) ≡ None
      → first_of all name rows n (take (suc i) cs) ≡ None
  of_more n i [] d l e b = absurd (omega arith)
  of_more n zero (c ∷ cs) d l e b =
      let same : n ≡ 0 + n = omega arith in
      none_of_two (breach all name rows n c) None (ap (λ (m : ℕ). breach all name rows m c) same ∙ b) refl
  of_more n (suc i) (c ∷ cs) d l e b =
      let parts = neither (breach all name rows n c) (first_of all name rows (suc n) (take i cs)) e in
      let same : i + suc n ≡ suc i + n = omega arith in
      none_of_two (breach all name rows n c) (first_of all name rows (suc n) (take (suc i) cs)) parts.0
      (of_more (suc n) i cs d (omega arith) parts.1 (ap (λ (m : ℕ). breach all name rows m (slice_index_or cs i d)) same ∙ b))

  -- a turn that finds the constraint kept, and one that finds it broken
  pub kept_turn : (i : ℕ) (cs : List Constraint) (d : Constraint) → i < length cs → first_of all name rows 1 (take i cs) ≡ None
      → None ≡ broken (slice_index_or cs i d) rows (rows_named all (slice_index_or cs i d)) → first_of all name rows 1 (take (i + 1) cs) ≡ None
  kept_turn i cs d l e b =
      let one : i + 1 ≡ suc i = omega arith in
      ap (λ (m : ℕ). first_of all name rows 1 (take m cs)) one ∙ of_more 1 i cs d l e (ap (option_map (λ code. Broken code name (i + 1))) (sym b))

  told_first : (refuse : Refuse) (b : Refuse) (later : Option Refuse) (o : Option Refuse) → o ≡ Some b → Tells (Err refuse) (Some b) → Tells (Err refuse) (or_later o later)
  told_first (Plain code) b later o e h = h
  told_first (At fault) b later o e h = h
  told_first (Broken code relvar number) b later o e h = ap (λ (z : Option Refuse). or_later z later) e ∙ h
  told_first Memory b later o e h = tt

  pub broken_turn : (i : ℕ) (cs : List Constraint) (d : Constraint) (code : Code) (refuse : Refuse) → i < length cs → first_of all name rows 1 (take i cs) ≡ None
      → Some code ≡ broken (slice_index_or cs i d) rows (rows_named all (slice_index_or cs i d)) → Tells (Err refuse) (Some (Broken code name (i + 1)))
      → Tells (Err refuse) (first_of all name rows 1 cs)
  broken_turn i cs d code refuse l e b told =
      subst (λ (o : Option Refuse). Tells (Err refuse) o) (sym (of_split 1 i cs d l e))
      (told_first refuse (Broken code name (i + 1)) (first_of all name rows (suc (i + 1)) (drop (suc i) cs)) (breach all name rows (i + 1) (slice_index_or cs i d))
      (ap (option_map (λ z. Broken z name (i + 1))) (sym b)) told)

  pub all_kept : (i : ℕ) (cs : List Constraint) → length cs ≤ i → first_of all name rows 1 (take i cs) ≡ None → first_of all name rows 1 cs ≡ None
  all_kept i cs l e = ap (first_of all name rows 1) (sym (take_all i cs l)) ∙ e

-- ---- relvars

module _ (all : Entries) where
  abbrev first_here : Name × PlainRelvar → Option Refuse
  first_here r = first_in all r.0 r.1

  among_split : (i : ℕ) (es : Entries) (d : Name × PlainRelvar) → i < length es → first_among all (take i es) ≡ None
      → first_among all es ≡ or_later (first_here (slice_index_or es i d)) (first_among all (drop (suc i) es))
  among_split i [] d l e = absurd (omega arith)
  among_split zero (r ∷ es) d l e = refl
  among_split (suc i) (r ∷ es) d l e =
      let parts = neither (first_here r) (first_among all (take i es)) e in
      ap (λ (z : Option Refuse). or_later z (first_among all es)) parts.0 ∙ among_split i es d (omega arith) parts.1

  among_more : (i : ℕ) (es : Entries) (d : Name × PlainRelvar) → i < length es → first_among all (take i es) ≡ None → first_here (slice_index_or es i d) ≡ None
      → first_among all (take (suc i) es) ≡ None
  among_more i [] d l e b = absurd (omega arith)
  among_more zero (r ∷ es) d l e b = none_of_two (first_here r) None b refl
  among_more (suc i) (r ∷ es) d l e b =
      let parts = neither (first_here r) (first_among all (take i es)) e in
      none_of_two (first_here r) (first_among all (take (suc i) es)) parts.0 (among_more i es d (omega arith) parts.1 b)

  pub relvar_kept : (i : ℕ) (es : Entries) (d : Name × PlainRelvar) → i < length es → first_among all (take i es) ≡ None
      → first_in all (slice_index_or es i d).0 (slice_index_or es i d).1 ≡ None → first_among all (take (i + 1) es) ≡ None
  relvar_kept i es d l e b =
      let one : i + 1 ≡ suc i = omega arith in
      ap (λ (m : ℕ). first_among all (take m es)) one ∙ among_more i es d l e b

  told_here : (refuse : Refuse) (later : Option Refuse) (o : Option Refuse) → Tells (Err refuse) o → Tells (Err refuse) (or_later o later)
  told_here (Plain code) later o h = h
  told_here (At fault) later o h = h
  told_here (Broken code relvar number) later o h = ap (λ (z : Option Refuse). or_later z later) h
  told_here Memory later o h = tt

  pub relvar_broken : (i : ℕ) (es : Entries) (d : Name × PlainRelvar) (refuse : Refuse) → i < length es → first_among all (take i es) ≡ None
      → Tells (Err refuse) (first_in all (slice_index_or es i d).0 (slice_index_or es i d).1) → Tells (Err refuse) (first_among all es)
  relvar_broken i es d refuse l e told =
      subst (λ (o : Option Refuse). Tells (Err refuse) o) (sym (among_split i es d l e))
      (told_here refuse (first_among all (drop (suc i) es)) (first_here (slice_index_or es i d)) told)

  pub relvars_kept : (i : ℕ) (es : Entries) → length es ≤ i → first_among all (take i es) ≡ None → first_among all es ≡ None
  relvars_kept i es l e = ap (first_among all) (sym (take_all i es l)) ∙ e

pub checked_at : (all es : Entries) (i : ℕ) (d : Name × PlainRelvar) → i < length es → AllChecked all es → AreChecked all (slice_index_or es i d).1
checked_at all [] i d l h = absurd (omega arith)
checked_at all (r ∷ es) zero d l h = h.0
checked_at all (r ∷ es) (suc i) d l h = checked_at all es i d (omega arith) h.1
