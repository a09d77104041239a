-- What names stand for in a state, each by what the names before it stand for.
--     each_in of entries      the names of a state with what each stands for
--     found      what a name stands for
--     given      a state in which a base relvar has another value
--     IsFirstAt      the first entry of a name
use Rattle.std.specs.Prelude.{◌≡◌, ℕ, zero, suc, true, false, List, [], ◌∷◌, ◌++◌, map, Option, Some, None, if◌then◌else◌}
use Rattle.std.specs.Str.{bytes_eq}
use Rattle.value_core.specs.Values.{Name, Relation}
use Rattle.tree_core.specs.Relvars.{PlainRelvar, base, view, Entries, log}

module _ {A : Type 0} where
  -- what a name stands for; other, where it does not stand there
  abbrev pub found : A → List (Name × A) → Name → A
  found other [] name = other
  found other (k ∷ ks) name = if bytes_eq k.0 name then k.1 else found other ks name

  module _ (of : List (Name × A) → PlainRelvar → A) where
    -- the known names, and the entries with what each stands for
    abbrev pub each_after : List (Name × A) → Entries → List (Name × A)
    each_after known [] = known
    each_after known (r ∷ rest) = each_after (known ++ (r.0, of known r.1) ∷ []) rest

    abbrev pub each_in : Entries → List (Name × A)
    each_in entries = each_after [] entries

-- ---- another value of a base relvar

abbrev pub with_value : Relation → PlainRelvar → PlainRelvar
with_value value (base old constraints) = base value constraints
with_value value (view t kind) = view t kind
with_value value (log of side last old) = log of side last old

-- what an entry is, where the named relvar has the value, if both are given
abbrev pub given_relvar : Option Name → Option Relation → Name → PlainRelvar → PlainRelvar
given_relvar (Some with) (Some value) name r = if bytes_eq name with then with_value value r else r
given_relvar (Some with) None name r = r
given_relvar None value name r = r

abbrev pub given_entry : Option Name → Option Relation → Name × PlainRelvar → Name × PlainRelvar
given_entry with value e = (e.0, given_relvar with value e.0 e.1)

-- the state in which the named relvar has the value, where both are given
abbrev pub given : Option Name → Option Relation → Entries → Entries
given with value entries = map (given_entry with value) entries

-- ---- where a name stands

-- the first entry of a name, at a place
abbrev pub IsFirstAt : {A : Type 0} → List (Name × A) → Name → ℕ → A → Type 0
IsFirstAt [] name i x = ⊥
IsFirstAt (k ∷ ks) name zero x = (bytes_eq k.0 name ≡ true) × (k.1 ≡ x)
IsFirstAt (k ∷ ks) name (suc i) x = (bytes_eq k.0 name ≡ false) × IsFirstAt ks name i x
