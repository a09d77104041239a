-- Likeness of relvars and of states: of moved ones, of the same, and one behind the other.
--     like-moved, like-itself, like-then      of relvars and views
--     alike-itself, alike-then, values-itself, values-then      of states
--     both-same      likeness and values together, as one relation
use Rattle.std.proofs.Common.{◌≡◌, Bool, true, false, [], ◌∷◌, map, refl, sym, ap, ◌∙◌, subst, Option, Some, None}
use Rattle.std.specs.Prelude.{option_map, if◌then◌else◌}
use Rattle.std.specs.Str.{bytes_eq}
use Rattle.point_core.specs.declared.fault.Place.{Place}
use Rattle.value_core.specs.Values.{Name}
use Rattle.tree_core.specs.Relvars.{PlainRelvar, base, view, Entries, relvar_named, relvar_heading, log}
use Rattle.meaning_core.specs.WellMade.{headings_of}
use Rattle.meaning_laws.specs.Likeness.{IsLike, HasValue, RelatedIf, LikeIf, ValueIf, IsSameThere, Alike, HasValues}
use Rattle.meaning_laws.specs.Moved.{moved_tree, moved_relvar, moved_entry}
use Rattle.meaning_laws.proofs.SameMoved.{tree-same, tree-twice, heading-moved, relvar-heading-moved}

-- ---- relvars and views

pub like-moved : (f : Place → Place) (x : PlainRelvar) → IsLike x (moved_relvar f x)
like-moved f (base v c) = (refl, refl)
like-moved f (view t h) = ((f, refl), refl)
like-moved f (log o i last w) = (refl, refl, refl)

pub like-itself : (x : PlainRelvar) → IsLike x x
like-itself (base v c) = (refl, refl)
like-itself (view t h) = ((λ p. p, sym (tree-same t)), refl)
like-itself (log o i last w) = (refl, refl, refl)

pub like-then : (x y z : PlainRelvar) → IsLike x y → IsLike y z → IsLike x z
like-then (base v c) (base u d) (base w e) p q = (q.0 ∙ p.0, q.1 ∙ p.1)
like-then (base v c) (base u d) (view s k) p q = absurd q
like-then (base v c) (view u g) z p q = absurd p
like-then (view t h) (base u d) z p q = absurd p
like-then (view t h) (view u g) (base w e) p q = absurd q
like-then (view t h) (view u g) (view s k) p q = ((λ a. q.0.0 (p.0.0 a), q.0.1 ∙ (ap (moved_tree q.0.0) p.0.1 ∙ tree-twice q.0.0 p.0.0 t)), q.1 ∙ p.1)
like-then (base v c) (base u d) (log o i last w) p q = absurd q
like-then (base v c) (log o i last w) z p q = absurd p
like-then (view t h) (view u g) (log o i last w) p q = absurd q
like-then (view t h) (log o i last w) z p q = absurd p
like-then (log o i last w) (base u d) z p q = absurd p
like-then (log o i last w) (view u g) z p q = absurd p
like-then (log o i last w) (log a j n v) (base u d) p q = absurd q
like-then (log o i last w) (log a j n v) (view u g) p q = absurd q
like-then (log o i last w) (log a j n v) (log b k m u) p q = (q.0 ∙ p.0, q.1 ∙ p.1, q.2 ∙ p.2)

pub value-itself : (x : PlainRelvar) → HasValue x x
value-itself (base v c) = refl
value-itself (view t h) = tt
value-itself (log o i last w) = refl

-- two like relvars or views have the same heading
pub like-heading : (x y : PlainRelvar) → IsLike x y → relvar_heading y ≡ relvar_heading x
like-heading (base v c) (base u d) p = p.0
like-heading (base v c) (view u g) p = absurd p
like-heading (view t h) (base u d) p = absurd p
like-heading (view t h) (view u g) p = ap relvar_heading (λ i. view (p.0.1 i) g) ∙ heading-moved p.0.0 t
like-heading (base v c) (log o i last w) p = absurd p
like-heading (view t h) (log o i last w) p = absurd p
like-heading (log o i last w) (base u d) p = absurd p
like-heading (log o i last w) (view u g) p = absurd p
like-heading (log o i last w) (log a j n v) p = p.2

-- ---- where a name stands for one

related-itself : (o : Option PlainRelvar) → LikeIf o o
related-itself None = tt
related-itself (Some x) = like-itself x

values-one : (o : Option PlainRelvar) → ValueIf o o
values-one None = tt
values-one (Some (base v c)) = refl
values-one (Some (view t h)) = tt
values-one (Some (log o i last w)) = refl

like-if-then : (o p q : Option PlainRelvar) → LikeIf o p → LikeIf p q → LikeIf o q
like-if-then None p q a b = tt
like-if-then (Some x) None q a b = absurd a
like-if-then (Some x) (Some y) None a b = absurd b
like-if-then (Some x) (Some y) (Some z) a b = like-then x y z a b

value-if-then : (o p q : Option PlainRelvar) → LikeIf o p → ValueIf o p → ValueIf p q → ValueIf o q
value-if-then None p q l a b = tt
value-if-then (Some x) None q l a b = absurd l
value-if-then (Some (view t h)) (Some y) None l a b = tt
value-if-then (Some (view t h)) (Some y) (Some z) l a b = tt
value-if-then (Some (base v c)) (Some (view u g)) q l a b = absurd l
value-if-then (Some (base v c)) (Some (base u d)) None l a b = absurd b
value-if-then (Some (base v c)) (Some (base u d)) (Some (base w e)) l a b = b ∙ a
value-if-then (Some (base v c)) (Some (base u d)) (Some (view s k)) l a b = absurd b
value-if-then (Some (base v c)) (Some (base u d)) (Some (log o i last w)) l a b = absurd b
value-if-then (Some (base v c)) (Some (log o i last w)) q l a b = absurd l
value-if-then (Some (log o i last w)) (Some (base u d)) q l a b = absurd l
value-if-then (Some (log o i last w)) (Some (view u g)) q l a b = absurd l
value-if-then (Some (log o i last w)) (Some (log p j n v)) None l a b = absurd b
value-if-then (Some (log o i last w)) (Some (log p j n v)) (Some (base u d)) l a b = absurd b
value-if-then (Some (log o i last w)) (Some (log p j n v)) (Some (view u g)) l a b = absurd b
value-if-then (Some (log o i last w)) (Some (log p j n v)) (Some (log r k m u)) l a b = b ∙ a

-- likeness and the same value
abbrev pub IsLikeAndValued : PlainRelvar → PlainRelvar → Type 0
IsLikeAndValued x y = IsLike x y × HasValue x y

both-if : (o p : Option PlainRelvar) → LikeIf o p → ValueIf o p → RelatedIf IsLikeAndValued o p
both-if None p l v = tt
both-if (Some x) None l v = absurd l
both-if (Some (base v c)) (Some y) l w = (l, w)
both-if (Some (view t h)) (Some y) l w = (l, w)
both-if (Some (log o i last v)) (Some y) l w = (l, w)

like-related : (o p : Option PlainRelvar) → LikeIf o p → RelatedIf IsLike o p
like-related None p l = tt
like-related (Some x) None l = absurd l
like-related (Some x) (Some y) l = l

-- ---- states

pub alike-itself : (some : Name → Bool) (es : Entries) → Alike some es es
alike-itself some es name out = related-itself (relvar_named es name)

pub alike-then : (some : Name → Bool) (es fs gs : Entries) → Alike some es fs → Alike some fs gs → Alike some es gs
alike-then some es fs gs a b name out = like-if-then (relvar_named es name) (relvar_named fs name) (relvar_named gs name) (a name out) (b name out)

pub values-itself : (some : Name → Bool) (es : Entries) → HasValues some es es
values-itself some es name out = values-one (relvar_named es name)

pub values-then : (some : Name → Bool) (es fs gs : Entries) → Alike some es fs → HasValues some es fs → HasValues some fs gs → HasValues some es gs
values-then some es fs gs l a b name out = value-if-then (relvar_named es name) (relvar_named fs name) (relvar_named gs name) (l name out) (a name out) (b name out)

pub both-same : (some : Name → Bool) (es fs : Entries) → Alike some es fs → HasValues some es fs → IsSameThere IsLikeAndValued some es fs
both-same some es fs a v name out = both-if (relvar_named es name) (relvar_named fs name) (a name out) (v name out)

pub alike-same : (some : Name → Bool) (es fs : Entries) → Alike some es fs → IsSameThere IsLike some es fs
alike-same some es fs a name out = like-related (relvar_named es name) (relvar_named fs name) (a name out)

-- ---- moved entries

pub named-moved : (f : Place → Place) (es : Entries) (name : Name) → relvar_named (map (moved_entry f) es) name ≡ option_map (moved_relvar f) (relvar_named es name)
named-moved f [] name = refl
named-moved f (e ∷ es) name = by (bytes_eq e.0 name) (named-moved f es name)
  where
    by : (b : Bool) → relvar_named (map (moved_entry f) es) name ≡ option_map (moved_relvar f) (relvar_named es name)
        → (if b then Some (moved_relvar f e.1) else relvar_named (map (moved_entry f) es) name) ≡ option_map (moved_relvar f) (if b then Some e.1 else relvar_named es name)
    by true d = refl
    by false d = d

pub headings-moved : (f : Place → Place) (es : Entries) → headings_of (map (moved_entry f) es) ≡ headings_of es
headings-moved f [] = refl
headings-moved f (e ∷ es) = λ i. (e.0, relvar-heading-moved f e.1 i) ∷ headings-moved f es i

moved-if : (f : Place → Place) (o : Option PlainRelvar) → LikeIf o (option_map (moved_relvar f) o) × ValueIf o (option_map (moved_relvar f) o)
moved-if f None = (tt, tt)
moved-if f (Some (base v c)) = ((refl, refl), refl)
moved-if f (Some (view t h)) = (((f, refl), refl), tt)
moved-if f (Some (log o i last w)) = ((refl, refl, refl), refl)

-- a state is like itself with its places moved
pub alike-moved : (some : Name → Bool) (f : Place → Place) (es : Entries) → Alike some es (map (moved_entry f) es)
alike-moved some f es name out =
    subst (LikeIf (relvar_named es name)) (sym (named-moved f es name)) (moved-if f (relvar_named es name)).0

pub values-moved : (some : Name → Bool) (f : Place → Place) (es : Entries) → HasValues some es (map (moved_entry f) es)
values-moved some f es name out =
    subst (ValueIf (relvar_named es name)) (sym (named-moved f es name)) (moved-if f (relvar_named es name)).1
