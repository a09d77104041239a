-- A database while its rows come in: the first relvars are whole, the next one has its first rows, the later ones have none.
--     first_of_value, with_first, without_rows, emptied      relvars with their first rows, or none
--     loaded      a database so far
--     is_base      whether an entry is that of a base relvar
--     IsAt      which entry stands at a place
--     MayHave, IsWholeIfOwn      rows that refer to rows of their own relvar come in all at once
--     AreConstrained      each constraint names a base relvar before its own, or its own, and fits both headings
--     IsLoadable      what a database keeps, so far as its parts lean on it
--     AreEmptied, filled      another database with the same base relvars without rows, and it with their rows
use Rattle.std.specs.Prelude.{◌≡◌, ◌⊎◌, ℕ, zero, suc, ◌≤◌, Bool, true, false, [], ◌∷◌, ◌++◌, map, take, length, None, IsTrue}
use Rattle.std.specs.List.{list_any, All, IsDistinct}
use Rattle.std.specs.Str.{bytes_eq}
use Rattle.value_core.specs.Limits.{most_rows_in_all}
use Rattle.value_core.specs.Values.{Name, Relation}
use Rattle.tree_core.specs.Relvars.{PlainRelvar, base, view, Entries, log}
use Rattle.meaning_core.specs.WellMade.{IsConstraint}
use Rattle.dump_core.specs.Inserts.{references, HaveRelations}
use Rattle.assign_core.specs.Breaches.{rows_of_all, first_broken}
use Rattle.assign_core.specs.Parts.{names_in}

-- ---- first rows

-- the value with its first rows alone
abbrev pub first_of_value : ℕ → Relation → Relation
first_of_value n value = record { heading = value.heading; rows = take n value.rows }

-- and so a relvar; a view or a log has no rows that come
abbrev pub with_first : ℕ → PlainRelvar → PlainRelvar
with_first n (base value constraints) = base (first_of_value n value) constraints
with_first n (view t kind) = view t kind
with_first n (log o k last w) = log o k last w

abbrev pub without_rows : PlainRelvar → PlainRelvar
without_rows (base value constraints) = base (record { heading = value.heading; rows = [] }) constraints
without_rows (view t kind) = view t kind
without_rows (log o k last w) = log o k last w

abbrev pub emptied : Name × PlainRelvar → Name × PlainRelvar
emptied e = (e.0, without_rows e.1)

-- so many entries are whole, the next one has so many of its rows, and the later ones have none
abbrev pub loaded : ℕ → ℕ → Entries → Entries
loaded i n [] = []
loaded zero n (e ∷ es) = (e.0, with_first n e.1) ∷ map emptied es
loaded (suc i) n (e ∷ es) = e ∷ loaded i n es

-- ---- entries

abbrev pub is_base : Name × PlainRelvar → Bool
is_base (name, base value constraints) = true
is_base (name, view t kind) = false
is_base (name, log o k last w) = false

-- the entry stands at the place
abbrev pub IsAt : Entries → ℕ → Name × PlainRelvar → Type 0
IsAt [] i e = ⊥
IsAt (d ∷ es) zero e = d ≡ e
IsAt (d ∷ es) (suc i) e = IsAt es i e

-- ---- rows that refer to rows of their own relvar

-- a relvar with a foreign key on itself has none of its rows or all
abbrev pub MayHave : Name → ℕ → PlainRelvar → Type 0
MayHave name n (base value constraints) = IsTrue (list_any (references name) constraints) → (n ≡ 0) ⊎ (length value.rows ≤ n)
MayHave name n (view t kind) = Unit {0}
MayHave name n (log o k last w) = Unit {0}

-- the one at the place may have so many
abbrev pub IsWholeIfOwn : Entries → ℕ → ℕ → Type 0
IsWholeIfOwn [] i n = Unit {0}
IsWholeIfOwn (e ∷ es) zero n = MayHave e.0 n e.1
IsWholeIfOwn (e ∷ es) (suc i) n = IsWholeIfOwn es i n

-- ---- constraints

-- behind these base relvars each constraint names its own relvar or one before it, and fits their headings
abbrev pub AreConstrained : Entries → Entries → Type 0
AreConstrained before [] = Unit {0}
AreConstrained before ((name, base value constraints) ∷ es) =
    All (IsConstraint before name (base value constraints)) constraints × AreConstrained (before ++ (name, base value constraints) ∷ []) es
AreConstrained before ((name, view t kind) ∷ es) = AreConstrained before es
AreConstrained before ((name, log o k last w) ∷ es) = AreConstrained before es

-- ---- databases

pub record IsLoadable (es : Entries) : Type 0 where
  pub different : IsDistinct bytes_eq (names_in es)
  pub constrained : AreConstrained [] es
  pub relations : HaveRelations es
  pub unbroken : first_broken es ≡ None
  pub few : rows_of_all es ≤ most_rows_in_all

-- ---- a database declared anew

-- the same base relvar without rows, or something else of the same name
abbrev pub IsEmptied : Name × PlainRelvar → Name × PlainRelvar → Type 0
IsEmptied (name, base value constraints) d = d ≡ (name, base (record { heading = value.heading; rows = [] }) constraints)
IsEmptied (name, view t kind) d = (d.0 ≡ name) × (is_base d ≡ false)
IsEmptied (name, log o k last w) d = (d.0 ≡ name) × (is_base d ≡ false)

abbrev pub AreEmptied : Entries → Entries → Type 0
AreEmptied [] [] = Unit {0}
AreEmptied [] (d ∷ ds) = ⊥
AreEmptied (e ∷ es) [] = ⊥
AreEmptied (e ∷ es) (d ∷ ds) = IsEmptied e d × AreEmptied es ds

-- the second database with the base relvars of the first
abbrev pub filled : Entries → Entries → Entries
filled [] ds = []
filled (e ∷ es) [] = []
filled ((name, base value constraints) ∷ es) (d ∷ ds) = (name, base value constraints) ∷ filled es ds
filled ((name, view t kind) ∷ es) (d ∷ ds) = d ∷ filled es ds
filled ((name, log o k last w) ∷ es) (d ∷ ds) = d ∷ filled es ds
