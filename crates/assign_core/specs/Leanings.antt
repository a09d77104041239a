-- Which database constraints a change can break.
--     affected      the names of relvars for which something stands ready, and of views over these
--     leaning      of each database constraint, whether it names one of these
--     DoOthersHold      where one does not, it holds
use Rattle.std.specs.Prelude.{◌≡◌, ℕ, suc, Bool, true, false, ◌||◌, List, [], ◌∷◌, ◌++◌, map, nat_eq, if◌then◌else◌}
use Rattle.std.specs.List.{list_any}
use Rattle.value_core.specs.Values.{Name}
use Rattle.tree_core.specs.Relvars.{PlainRelvar, base, view, Entries, Rules, log}
use Rattle.tree_core.specs.Uses.{is_one_of, names_any, test_names_any}
use Rattle.meaning_core.specs.Truths.{holds_in}
use Rattle.assign_core.specs.Exchanges.{place_of}
use Rattle.assign_core.specs.declared.exchange.Ready.{Ready}

-- ---- what stands ready

-- whether something stands ready for the relvar at the place
abbrev pub is_ready_at : Ready → ℕ → Bool
is_ready_at r i = list_any (λ c. nat_eq (place_of c) i) r.changes.items

-- ---- what it affects

-- whether it is a view that names one of these
abbrev pub is_view_of : List Name → PlainRelvar → Bool
is_view_of names (base value constraints) = false
is_view_of names (view t kind) = names_any (is_one_of names) t
is_view_of names (log of side last w) = false

-- whether the relvar at the place has something ready, or is a view of affected ones
abbrev pub is_affected : Ready → ℕ → List Name → PlainRelvar → Bool
is_affected ready i names r = is_ready_at ready i || is_view_of names r

-- the affected names, with that of the relvar at the place if it is one
abbrev pub with_affected : Ready → ℕ → List Name → Name → PlainRelvar → List Name
with_affected ready i names name r = if is_affected ready i names r then names ++ name ∷ [] else names

-- the affected names from a place on
abbrev pub affected_from : Ready → ℕ → List Name → Entries → List Name
affected_from ready i names [] = names
affected_from ready i names (r ∷ rest) = affected_from ready (suc i) (with_affected ready i names r.0 r.1) rest

abbrev pub affected : Ready → Entries → List Name
affected ready entries = affected_from ready 0 [] entries

-- ---- database constraints

abbrev pub leaning : List Name → Rules → List Bool
leaning names rules = map (λ r. test_names_any (is_one_of names) r.1) rules

-- each of these that is not told holds
abbrev pub DoOthersHold : Entries → List Bool → Rules → Type 0
DoOthersHold entries [] [] = Unit {0}
DoOthersHold entries [] (r ∷ rest) = ⊥
DoOthersHold entries (b ∷ bs) [] = ⊥
DoOthersHold entries (b ∷ bs) (r ∷ rest) = (b ≡ false → holds_in entries r.1 ≡ true) × DoOthersHold entries bs rest
