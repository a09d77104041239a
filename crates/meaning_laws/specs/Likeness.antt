-- States in which names stand for the same, places aside; the order of their entries, and what else they have, may differ.
--     IsLike      two relvars with the same heading and constraints, two views with the same expression at other places, or two logs of one relvar
--     Alike some es fs      each name that es has, and that is none of some, stands for the like in fs
--     HasValues some es fs      and where it is a base relvar or a log, for one with the same value
--     IsSameThere      the same of any relation between what names stand for
--     has_entry      whether a name is one of those of entries
--     unknown some es      the names of which nothing is known: some, and those that es has not
use Rattle.std.specs.Prelude.{◌≡◌, Bool, false, not, ◌||◌, List, Option, Some, None}
use Rattle.std.specs.List.{list_any}
use Rattle.std.specs.Str.{bytes_eq}
use Rattle.point_core.specs.declared.fault.Place.{Place}
use Rattle.value_core.specs.Values.{Name}
use Rattle.tree_core.specs.Relvars.{PlainRelvar, base, view, Entries, relvar_named, log}
use Rattle.meaning_laws.specs.Moved.{moved_tree}

-- two relvars with the same heading and constraints, or two views with the same expression, places aside, or two logs of one relvar with
-- the same heading
abbrev pub IsLike : PlainRelvar → PlainRelvar → Type 0
IsLike (base v c) (base u d) = (u.heading ≡ v.heading) × (d ≡ c)
IsLike (base v c) (view u g) = ⊥
IsLike (view t h) (base u d) = ⊥
IsLike (view t h) (view u g) = ((f : Place → Place) × (u ≡ moved_tree f t)) × (g ≡ h)
IsLike (base v c) (log o i last w) = ⊥
IsLike (view t h) (log o i last w) = ⊥
IsLike (log o i last w) (base u d) = ⊥
IsLike (log o i last w) (view u g) = ⊥
IsLike (log o i last w) (log p j n v) = (p ≡ o) × (j ≡ i) × (v.heading ≡ w.heading)

-- a base relvar or a log has the same value there
abbrev pub HasValue : PlainRelvar → PlainRelvar → Type 0
HasValue (base v c) (base u d) = u ≡ v
HasValue (base v c) (view u g) = ⊥
HasValue (view t h) r = Unit {0}
HasValue (base v c) (log o i last w) = ⊥
HasValue (log o i last w) (base u d) = ⊥
HasValue (log o i last w) (view u g) = ⊥
HasValue (log o i last w) (log p j n v) = v ≡ w

-- ---- where a name stands for one

-- the relation holds between what a name stands for here and there, where it stands for something here
abbrev pub RelatedIf : (PlainRelvar → PlainRelvar → Type 0) → Option PlainRelvar → Option PlainRelvar → Type 0
RelatedIf Same None o = Unit {0}
RelatedIf Same (Some x) None = ⊥
RelatedIf Same (Some x) (Some y) = Same x y

abbrev pub LikeIf : Option PlainRelvar → Option PlainRelvar → Type 0
LikeIf None o = Unit {0}
LikeIf (Some x) None = ⊥
LikeIf (Some x) (Some y) = IsLike x y

abbrev pub ValueIf : Option PlainRelvar → Option PlainRelvar → Type 0
ValueIf None o = Unit {0}
ValueIf (Some (base v c)) None = ⊥
ValueIf (Some (view t h)) None = Unit {0}
ValueIf (Some (log o i last w)) None = ⊥
ValueIf (Some x) (Some y) = HasValue x y

-- ---- states

-- names that are none of some stand in fs for what is related to what they stand for in es
abbrev pub IsSameThere : (PlainRelvar → PlainRelvar → Type 0) → (Name → Bool) → Entries → Entries → Type 0
IsSameThere Same some es fs = (name : Name) → some name ≡ false → RelatedIf Same (relvar_named es name) (relvar_named fs name)

-- names that are none of some stand for the like
abbrev pub Alike : (Name → Bool) → Entries → Entries → Type 0
Alike some es fs = (name : Name) → some name ≡ false → LikeIf (relvar_named es name) (relvar_named fs name)

-- those of base relvars and of logs, for the same values
abbrev pub HasValues : (Name → Bool) → Entries → Entries → Type 0
HasValues some es fs = (name : Name) → some name ≡ false → ValueIf (relvar_named es name) (relvar_named fs name)

-- ---- names

abbrev pub has_entry : {A : Type 0} → List (Name × A) → Name → Bool
has_entry ks name = list_any (λ k. bytes_eq k.0 name) ks

abbrev pub unknown : (Name → Bool) → Entries → Name → Bool
unknown some es name = some name || not (has_entry es name)
