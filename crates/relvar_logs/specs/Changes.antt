-- New values that stand ready for base relvars, one place for each relvar, view and log.
--     AreChanges      each new value has the heading of its base relvar
--     changed      the relvars with the values that stand ready for them
--     change_named      the value that stands ready for a name
--     turned_at, IsSoAt      one entry is turned into another one, and what is so of it
use Rattle.std.specs.Prelude.{◌≡◌, ℕ, zero, suc, List, [], ◌∷◌, Option, Some, None, if◌then◌else◌}
use Rattle.std.specs.Str.{bytes_eq}
use Rattle.value_core.specs.Values.{Name, Relation}
use Rattle.tree_core.specs.Relvars.{PlainRelvar, base, view, Entries, log}
use Rattle.meaning_core.specs.Names.{with_value}

abbrev pub Changes : Type 0
Changes = List (Option Relation)

-- the new value, or the old one where there is none
abbrev pub newest : Option Relation → Relation → Relation
newest None old = old
newest (Some value) old = value

-- a new value is one of a base relvar, and has its heading
abbrev pub IsChange : Option Relation → PlainRelvar → Type 0
IsChange None r = Unit {0}
IsChange (Some value) (base old constraints) = value.heading ≡ old.heading
IsChange (Some value) (view t kind) = ⊥
IsChange (Some value) (log of side last w) = ⊥

abbrev pub AreChanges : Changes → Entries → Type 0
AreChanges [] [] = Unit {0}
AreChanges [] (r ∷ rest) = ⊥
AreChanges (c ∷ cs) [] = ⊥
AreChanges (c ∷ cs) (r ∷ rest) = IsChange c r.1 × AreChanges cs rest

abbrev pub changed_relvar : Option Relation → PlainRelvar → PlainRelvar
changed_relvar None r = r
changed_relvar (Some value) r = with_value value r

-- the relvars with the values that stand ready for them
abbrev pub changed : Changes → Entries → Entries
changed [] entries = entries
changed (c ∷ cs) [] = []
changed (c ∷ cs) (r ∷ rest) = (r.0, changed_relvar c r.1) ∷ changed cs rest

-- the value that stands ready for the relvar of a name
abbrev pub change_named : Changes → Entries → Name → Option Relation
change_named [] entries name = None
change_named (c ∷ cs) [] name = None
change_named (c ∷ cs) (r ∷ rest) name = if bytes_eq r.0 name then c else change_named cs rest name

-- ---- one place

-- the relvars with the one at a place turned into another one
abbrev pub turned_at : ℕ → (PlainRelvar → PlainRelvar) → Entries → Entries
turned_at i f [] = []
turned_at zero f (r ∷ rest) = (r.0, f r.1) ∷ rest
turned_at (suc i) f (r ∷ rest) = r ∷ turned_at i f rest

-- a relvar or view stands at the place, of which this is so
abbrev pub IsSoAt : ℕ → (PlainRelvar → Type 0) → Entries → Type 0
IsSoAt i P [] = ⊥
IsSoAt zero P (r ∷ rest) = P r.1
IsSoAt (suc i) P (r ∷ rest) = IsSoAt i P rest
