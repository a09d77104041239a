-- The rows that stand ready for stored views, entry by entry.
--     AreNextOf      they are those of the first entries
--     next_more, next_all, next_places      those of one entry more, and of all
--     next_put, idle_put, few_put      what is told of the entry at a place
use Rattle.std.proofs.Common.{◌≡◌, ℕ, zero, suc, ◌+◌, Bool, true, false, List, [], ◌∷◌, ◌++◌, map, get_or, length, refl, sym, ap, ◌∙◌, subst, arith, Option, Some, None, Result, Ok, Err}
use Rattle.std.specs.Prelude.{◌&&◌, slice_get, IfErr, IfOk}
use Rattle.value_core.specs.Values.{Name, Relation}
use Rattle.value_core.specs.declared.refuse.RowsRefuse.{RowsRefuse}
use Rattle.value_core.specs.declared.refuse.RowsRefuse.TheVariants.{TooMany, Memory}
use Rattle.tree_core.specs.declared.relvar.Relvar.{Relvar}
use Rattle.tree_core.specs.Relvars.{PlainRelvar, Entries, read_entry, read_relvar}
use Rattle.tree_core.specs.Trees.{Tree}
use Rattle.meaning_core.specs.Meanings.{meaning_in}
use Rattle.meaning_core.specs.StoredRows.{IsValueThere, HasItsRows, HaveTheirRows}
use Rattle.relvar_logs.specs.Changes.{Changes, changed, IsSoAt}
use Rattle.relvar_logs.proofs.EntryLemmas.{so_put}
use Rattle.stored_views.specs.NextRows.{newer, renewed, IsNextTo, AreNextTo, IsNextOf, AreTooMany}
use Rattle.stored_views.specs.Rules.{IsUnmade}
use Rattle.stored_views.specs.Stored.{stored_tree, is_meant, is_meant_if, are_meant_among}
use Rattle.stored_views.proofs.CountLemmas.{view_put, none_put}
use Rattle.stored_views.proofs.KindLemmas.{meant-changed}

-- ---- the list

module _ (all : Entries) where
  -- these stand ready for the first entries, beside the stored ones
  abbrev pub AreNextOf : List (Option Relation) → List (Option Relation) → Entries → Type 0
  AreNextOf rows [] es = Unit {0}
  AreNextOf rows (n ∷ next) [] = ⊥
  AreNextOf [] (n ∷ next) (e ∷ es) = IsNextOf all None n e.1 × AreNextOf [] next es
  AreNextOf (o ∷ rows) (n ∷ next) (e ∷ es) = IsNextOf all o n e.1 × AreNextOf rows next es

  pub next_more : (rows next : List (Option Relation)) (es : Entries) (i : ℕ) (n : Option Relation) → length next ≡ i → AreNextOf rows next es
      → IsSoAt i (IsNextOf all (get_or rows i None) n) es → AreNextOf rows (next ++ n ∷ []) es
  next_more rows [] [] i n l are h = absurd h
  next_more [] [] (e ∷ es) zero n l are h = (h, tt)
  next_more (o ∷ rows) [] (e ∷ es) zero n l are h = (h, tt)
  next_more rows [] (e ∷ es) (suc i) n l are h = absurd (omega (arith, l))
  next_more rows (m ∷ next) [] i n l are h = absurd h
  next_more rows (m ∷ next) (e ∷ es) zero n l are h = absurd (omega (arith, l))
  next_more [] (m ∷ next) (e ∷ es) (suc i) n l are h = (are.0, next_more [] next es i n (omega (arith, l)) are.1 h)
  next_more (o ∷ rows) (m ∷ next) (e ∷ es) (suc i) n l are h = (are.0, next_more rows next es i n (omega (arith, l)) are.1 h)

  no_places : (next : List (Option Relation)) → renewed next [] ≡ []
  no_places [] = refl
  no_places (n ∷ next) = refl

  bare_here : (n : Option Relation) (r : PlainRelvar) → IsNextOf all None n r → HasItsRows all r None
  bare_here None r h = h.rows
  bare_here (Some rows) r h = absurd h.place

  pub next_all : (rows next : List (Option Relation)) (es : Entries) → length next ≡ length es → AreNextOf rows next es → HaveTheirRows all es (renewed next rows)
  next_all rows [] [] l are = tt
  next_all rows [] (e ∷ es) l are = absurd (omega (arith, l))
  next_all rows (n ∷ next) [] l are = absurd are
  next_all [] (n ∷ next) (e ∷ es) l are =
      (bare_here n e.1 are.0, subst (λ (rest : List (Option Relation)). HaveTheirRows all es rest) (no_places next) (next_all [] next es (omega (arith, l)) are.1))
  next_all (o ∷ rows) (n ∷ next) (e ∷ es) l are = (are.0.rows, next_all rows next es (omega (arith, l)) are.1)

  pub next_places : (rows next : List (Option Relation)) (es : Entries) → AreNextOf rows next es → AreNextTo next rows
  next_places rows [] es are = tt
  next_places rows (n ∷ next) [] are = absurd are
  next_places [] (n ∷ next) (e ∷ es) are = (are.0.place, next_places [] next es are.1)
  next_places (o ∷ rows) (n ∷ next) (e ∷ es) are = (are.0.place, next_places rows next es are.1)

pub one_longer : (next : List (Option Relation)) (n : Option Relation) → length (next ++ n ∷ []) ≡ length next + 1
one_longer [] n = refl
one_longer (m ∷ next) n = let h = one_longer next n in omega (arith, h)

-- ---- one entry

over_view : (n : Option Relation) (view : Relation) → IsNextTo n (Some view)
over_view None view = tt
over_view (Some rows) view = tt

module _ (all : Entries) (es : List (Name × Relvar)) (i : ℕ) (k : Name) (r : Relvar) (there : slice_get es i ≡ Some (k, r)) where
  -- of a stored view with these rows
  pub next_put : (t : Tree) (view : Relation) (old : Option Relation) (result : Result (Option Relation) RowsRefuse) → Some t ≡ stored_tree (read_relvar r) → Some view ≡ old
      → IfOk result (λ n. IsValueThere all t (newer n (Some view))) → IfOk result (λ n. IsSoAt i (IsNextOf all old n) (map read_entry es))
  next_put t view old (Ok n) e o h =
      so_put es i (IsNextOf all old n) k r there (record {
        rows = subst (λ (p : Option Relation). HasItsRows all (read_relvar r) (newer n p)) o (view_put all (read_relvar r) t (newer n (Some view)) e h);
        place = subst (IsNextTo n) o (over_view n view);
      })
  next_put t view old (Err d) e o h = h

  -- of another entry
  pub idle_put : (old : Option Relation) → None ≡ stored_tree (read_relvar r) → IsSoAt i (IsNextOf all old None) (map read_entry es)
  idle_put old e = so_put es i (IsNextOf all old None) k r there (record { rows = none_put all (read_relvar r) old e; place = tt })

not_meant : (all es : Entries) (i : ℕ) → IsSoAt i (λ r. is_meant_if all (stored_tree r) ≡ false) es → are_meant_among all es ≡ false
not_meant all [] i h = absurd h
not_meant all (e ∷ es) zero h = ap (λ (b : Bool). b && are_meant_among all es) h
not_meant all (e ∷ es) (suc i) h = ap (λ (b : Bool). is_meant_if all (stored_tree e.1) && b) (not_meant all es i h) ∙ none (is_meant_if all (stored_tree e.1))
  where
    none : (b : Bool) → (b && false) ≡ false
    none true = refl
    none false = refl

-- a stored view that means too many rows, once base relvars have new values
pub few_put : {X : Type 0} (cs : Changes) (es : List (Name × Relvar)) (i : ℕ) (k : Name) (r : Relvar) (t : Tree) (result : Result X RowsRefuse) → slice_get es i ≡ Some (k, r) → Some t ≡ stored_tree (read_relvar r)
    → IfErr result (IsUnmade t (meaning_in (changed cs (map read_entry es)) t)) → IfErr result (AreTooMany (changed cs (map read_entry es)))
few_put cs es i k r t (Ok n) there e h = h
few_put cs es i k r t (Err Memory) there e h = tt
few_put cs es i k r t (Err TooMany) there e h =
    let all = changed cs (map read_entry es) in
    meant-changed all cs (map read_entry es)
    ∙ not_meant all (map read_entry es) i (so_put es i (λ q. is_meant_if all (stored_tree q) ≡ false) k r there (ap (is_meant_if all) (sym e) ∙ ap is_meant h))
