-- Changes of base relvars, one place after the other.
--     back_there, turned_twice      one relvar is turned into another one, and another one
--     exchanged_turned, so_exchanged      changes at other places
--     taken_back, prepared_back      a second exchange takes the first one back
--     prepared_set, exchanged_set, values_set      a new value in place of another change
use Rattle.std.proofs.Common.{◌≡◌, ◌≢◌, ℕ, zero, suc, ◌+◌, ◌<◌, ◌≤◌, List, [], ◌∷◌, map, take, drop, set, get_or, length, refl, sym, ap, ap₂, subst, ◌∙◌, arith, Option, Result, Ok, Err, Some, None}
use Rattle.std.proofs.lemmas.List.{drop-set}
use Rattle.std.specs.Prelude.{slice_get, IfOk}
use Rattle.value_core.specs.Values.{Name, Relation}
use Rattle.relation_core.proofs.FilterLemmas.{head_of}
use Rattle.tree_core.specs.declared.relvar.Relvar.{Relvar}
use Rattle.tree_core.specs.Relvars.{PlainRelvar, base, view, Entries, read_entry, read_relvar, log}
use Rattle.meaning_core.specs.Names.{with_value}
use Rattle.relvar_logs.proofs.EntryLemmas.{so_weaker}
use Rattle.change_rows.specs.declared.exchange.Exchange.{Exchange}
use Rattle.assign_core.specs.declared.exchange.Change.{Change}
use Rattle.assign_core.specs.declared.exchange.Change.TheVariants.{Value, Rows}
use Rattle.relvar_logs.specs.Changes.{IsChange, turned_at, IsSoAt}
use Rattle.assign_core.specs.Changes.{value_or, value_there}
use Rattle.assign_core.specs.declared.room.Held.{Held}
use Rattle.assign_core.specs.Exchanges.{exchanged_by, filled, place_of, replaced, turned, AreElsewhere, ArePrepared, AreValues, IsHeldFor, IsValueFor, MayTurn}

pub if_ok_weaker : {T E : Type 0} {P Q : T → Type 0} (r : Result T E) → ((x : T) → P x → Q x) → IfOk r P → IfOk r Q
if_ok_weaker (Ok x) f h = f x h
if_ok_weaker (Err e) f h = h

pub if_ok_both : {T E : Type 0} {P Q R : T → Type 0} (r : Result T E) → ((x : T) → P x → Q x → R x) → IfOk r P → IfOk r Q → IfOk r R
if_ok_both (Ok x) f h k = f x h k
if_ok_both (Err e) f h k = h

-- ---- one place

pub back_there : (es : List (Name × Relvar)) (i : ℕ) (value : Relation) (k : Name) (r : Relvar) → slice_get es i ≡ Some (k, r) → value_or value (read_relvar r) ≡ value_there i value (map read_entry es)
back_there [] i value k r is = absurd (cc)
back_there (x ∷ es) zero value k r is = let same : (k, r) ≡ x = cc in ap (λ (z : Name × Relvar). value_or value (read_relvar z.1)) same
back_there (x ∷ es) (suc i) value k r is = back_there es i value k r is

pub turned_twice : (es : Entries) (i : ℕ) (f g : PlainRelvar → PlainRelvar) → turned_at i f (turned_at i g es) ≡ turned_at i (λ r. f (g r)) es
turned_twice [] i f g = refl
turned_twice (e ∷ es) zero f g = refl
turned_twice (e ∷ es) (suc i) f g = ap (λ (z : Entries). e ∷ z) (turned_twice es i f g)

turned_alike : (es : Entries) (i : ℕ) (f g : PlainRelvar → PlainRelvar) → IsSoAt i (λ r. f r ≡ g r) es → turned_at i f es ≡ turned_at i g es
turned_alike [] i f g h = refl
turned_alike (e ∷ es) zero f g h = ap (λ (x : PlainRelvar). (e.0, x) ∷ es) h
turned_alike (e ∷ es) (suc i) f g h = ap (λ (z : Entries). e ∷ z) (turned_alike es i f g h)

so_turned : (es : Entries) (i : ℕ) (P : PlainRelvar → Type 0) (f : PlainRelvar → PlainRelvar) → IsSoAt i (λ r. P (f r)) es → IsSoAt i P (turned_at i f es)
so_turned [] i P f h = absurd h
so_turned (e ∷ es) zero P f h = h
so_turned (e ∷ es) (suc i) P f h = so_turned es i P f h

-- ---- two places

module _ (f : PlainRelvar → PlainRelvar) where
  turned_others : (es : Entries) (i j : ℕ) (g : PlainRelvar → PlainRelvar) → j ≢ i → turned_at j g (turned_at i f es) ≡ turned_at i f (turned_at j g es)
  turned_others [] i j g other = refl
  turned_others (e ∷ es) zero zero g other = absurd (other refl)
  turned_others (e ∷ es) zero (suc j) g other = refl
  turned_others (e ∷ es) (suc i) zero g other = refl
  turned_others (e ∷ es) (suc i) (suc j) g other = ap (λ (z : Entries). e ∷ z) (turned_others es i j g (λ same. other (ap suc same)))

  so_others : (es : Entries) (i j : ℕ) (P : PlainRelvar → Type 0) → j ≢ i → IsSoAt j P es → IsSoAt j P (turned_at i f es)
  so_others [] i j P other h = absurd h
  so_others (e ∷ es) zero zero P other h = absurd (other refl)
  so_others (e ∷ es) zero (suc j) P other h = h
  so_others (e ∷ es) (suc i) zero P other h = h
  so_others (e ∷ es) (suc i) (suc j) P other h = so_others es i j P (λ same. other (ap suc same)) h

  so_before : (es : Entries) (i j : ℕ) (P : PlainRelvar → Type 0) → j ≢ i → IsSoAt j P (turned_at i f es) → IsSoAt j P es
  so_before [] i j P other h = absurd h
  so_before (e ∷ es) zero zero P other h = absurd (other refl)
  so_before (e ∷ es) zero (suc j) P other h = h
  so_before (e ∷ es) (suc i) zero P other h = h
  so_before (e ∷ es) (suc i) (suc j) P other h = so_before es i j P (λ same. other (ap suc same)) h

  value_others : (es : Entries) (i j : ℕ) (value : Relation) → j ≢ i → value_there i value (turned_at j f es) ≡ value_there i value es
  value_others [] i j value other = refl
  value_others (e ∷ es) zero zero value other = absurd (other refl)
  value_others (e ∷ es) zero (suc j) value other = refl
  value_others (e ∷ es) (suc i) zero value other = refl
  value_others (e ∷ es) (suc i) (suc j) value other = value_others es i j value (λ same. other (ap suc same))

-- ---- changes at other places

pub exchanged_turned : (cs : List Change) (es : Entries) (i : ℕ) (f : PlainRelvar → PlainRelvar) → AreElsewhere i cs → exchanged_by cs (turned_at i f es) ≡ turned_at i f (exchanged_by cs es)
exchanged_turned [] es i f others = refl
exchanged_turned (c ∷ cs) es i f others =
    ap (turned_at (place_of c) (turned c)) (exchanged_turned cs es i f others.1) ∙ turned_others f (exchanged_by cs es) i (place_of c) (turned c) others.0

pub so_exchanged : (cs : List Change) (es : Entries) (i : ℕ) (P : PlainRelvar → Type 0) → AreElsewhere i cs → IsSoAt i P es → IsSoAt i P (exchanged_by cs es)
so_exchanged [] es i P others h = h
so_exchanged (c ∷ cs) es i P others h = so_others (turned c) (exchanged_by cs es) (place_of c) i P (λ same. others.0 (sym same)) (so_exchanged cs es i P others.1 h)

pub prepared_before : (cs : List Change) (es : Entries) (i : ℕ) (f : PlainRelvar → PlainRelvar) → AreElsewhere i cs → ArePrepared cs (turned_at i f es) → ArePrepared cs es
prepared_before [] es i f others h = tt
prepared_before (c ∷ cs) es i f others h = (so_before f es i (place_of c) (MayTurn c) others.0 h.0, h.1, prepared_before cs es i f others.1 h.2)

prepared_after : (cs : List Change) (es : Entries) (i : ℕ) (f : PlainRelvar → PlainRelvar) → AreElsewhere i cs → ArePrepared cs es → ArePrepared cs (turned_at i f es)
prepared_after [] es i f others h = tt
prepared_after (c ∷ cs) es i f others h = (so_others f es i (place_of c) (MayTurn c) others.0 h.0, h.1, prepared_after cs es i f others.1 h.2)

pub value_exchanged : (cs : List Change) (es : Entries) (i : ℕ) (value : Relation) → AreElsewhere i cs → value_there i value (exchanged_by cs es) ≡ value_there i value es
value_exchanged [] es i value others = refl
value_exchanged (c ∷ cs) es i value others = value_others (turned c) (exchanged_by cs es) i (place_of c) value others.0 ∙ value_exchanged cs es i value others.1

-- ---- and back

replaced_place : (es : Entries) (c : Change) → place_of (replaced es c) ≡ place_of c
replaced_place es (Value at value) = refl
replaced_place es (Rows at rows) = refl

replaced_elsewhere : (cs : List Change) (es : Entries) (i : ℕ) → AreElsewhere i cs → AreElsewhere i (map (replaced es) cs)
replaced_elsewhere [] es i others = tt
replaced_elsewhere (c ∷ cs) es i others = (λ same. others.0 (sym (replaced_place es c) ∙ same), replaced_elsewhere cs es i others.1)

value_back : (es : Entries) (i : ℕ) (value : Relation) → turned_at i (with_value (value_there i value es)) (turned_at i (with_value value) es) ≡ es
value_back [] i value = refl
value_back ((n, base old constraints) ∷ es) zero value = refl
value_back ((n, view t kind) ∷ es) zero value = refl
value_back ((n, log of side last w) ∷ es) zero value = refl
value_back (e ∷ es) (suc i) value = ap (λ (z : Entries). e ∷ z) (value_back es i value)

pub taken_back : (cs : List Change) (es : Entries) → ArePrepared cs es → AreValues cs → exchanged_by (map (replaced es) cs) (exchanged_by cs es) ≡ es
taken_back [] es h v = refl
taken_back (Value i value ∷ cs) es h v =
    let old = value_there i value es in
    ap (turned_at i (with_value old)) (exchanged_turned (map (replaced es) cs) (exchanged_by cs es) i (with_value value) (replaced_elsewhere cs es i h.1)
    ∙ ap (turned_at i (with_value value)) (taken_back cs es h.2 v))
    ∙ value_back es i value
taken_back (Rows i rows ∷ cs) es h v = absurd v

so_value : (es : Entries) (i : ℕ) (value : Relation) → IsSoAt i (IsChange (Some value)) es → IsSoAt i (λ r. IsChange (Some (value_there i value es)) (with_value value r)) es
so_value [] i value h = absurd h
so_value ((n, base old constraints) ∷ es) zero value h = sym h
so_value ((n, view t kind) ∷ es) zero value h = absurd h
so_value ((n, log of side last w) ∷ es) zero value h = absurd h
so_value (e ∷ es) (suc i) value h = so_value es i value h

pub prepared_back : (cs : List Change) (es : Entries) → ArePrepared cs es → AreValues cs → ArePrepared (map (replaced es) cs) (exchanged_by cs es)
prepared_back [] es h v = tt
prepared_back (Value i value ∷ cs) es h v =
    let others = replaced_elsewhere cs es i h.1 in (
      so_turned (exchanged_by cs es) i (IsChange (Some (value_there i value es))) (with_value value) (so_exchanged cs es i (λ r. IsChange (Some (value_there i value es)) (with_value value r)) h.1 (so_value es i value h.0)),
      others,
      prepared_after (map (replaced es) cs) (exchanged_by cs es) i (with_value value) others (prepared_back cs es h.2 v),
    )
prepared_back (Rows i rows ∷ cs) es h v = absurd v

pub values_back : (cs : List Change) (es : Entries) → AreValues cs → AreValues (map (replaced es) cs)
values_back [] es v = tt
values_back (Value i value ∷ cs) es v = values_back cs es v
values_back (Rows i rows ∷ cs) es v = absurd v

-- ---- new values in place of other changes

elsewhere_set : (cs : List Change) (i j : ℕ) (c d : Change) → c ≡ get_or cs i c → place_of d ≡ place_of c → i < length cs → AreElsewhere j cs → AreElsewhere j (set cs i d)
elsewhere_set [] i j c d g e l h = absurd (omega arith)
elsewhere_set (b ∷ cs) zero j c d g e l h = ((λ same. h.0 (ap place_of (sym g) ∙ (sym e ∙ same))), h.1)
elsewhere_set (b ∷ cs) (suc i) j c d g e l h = (h.0, elsewhere_set cs i j c d g e (omega arith) h.1)

pub so_listed : (cs : List Change) (es : Entries) (i : ℕ) (c : Change) → ArePrepared cs es → i < length cs → c ≡ get_or cs i c → IsSoAt (place_of c) (MayTurn c) es
so_listed [] es i c h l g = absurd (omega arith)
so_listed (b ∷ cs) es zero c h l g = subst (λ (z : Change). IsSoAt (place_of z) (MayTurn z) es) (sym g) h.0
so_listed (b ∷ cs) es (suc i) c h l g = so_listed cs es i c h.2 (omega arith) g

pub prepared_set : (cs : List Change) (es : Entries) (i : ℕ) (c d : Change) → ArePrepared cs es → i < length cs → c ≡ get_or cs i c → IsValueFor es c d → ArePrepared (set cs i d) es
prepared_set [] es i c d h l g v = absurd (omega arith)
prepared_set (b ∷ cs) es zero c d h l g v =
    let at : place_of d ≡ place_of b = v.0 ∙ ap place_of g in
    let so = so_weaker es (place_of c) (λ r. MayTurn d r × (turned d r ≡ turned c r)) (MayTurn d) (λ r k. k.0) v.2 in
    (subst (λ (i : ℕ). IsSoAt i (MayTurn d) es) (sym v.0) so, subst (λ (i : ℕ). AreElsewhere i cs) (sym at) h.1, h.2)
prepared_set (b ∷ cs) es (suc i) c d h l g v = (h.0, elsewhere_set cs i (place_of b) c d g v.0 (omega arith) h.1, prepared_set cs es i c d h.2 (omega arith) g v)

pub exchanged_set : (cs : List Change) (es : Entries) (i : ℕ) (c d : Change) → ArePrepared cs es → i < length cs → c ≡ get_or cs i c → IsValueFor es c d → exchanged_by (set cs i d) es ≡ exchanged_by cs es
exchanged_set [] es i c d h l g v = absurd (omega arith)
exchanged_set (b ∷ cs) es zero c d h l g v =
    let so = so_weaker es (place_of c) (λ r. MayTurn d r × (turned d r ≡ turned c r)) (λ r. turned d r ≡ turned c r) (λ r k. k.1) v.2 in
    let others : AreElsewhere (place_of c) cs = subst (λ (z : Change). AreElsewhere (place_of z) cs) (sym g) h.1 in
    ap (λ (i : ℕ). turned_at i (turned d) (exchanged_by cs es)) v.0
    ∙ (turned_alike (exchanged_by cs es) (place_of c) (turned d) (turned c) (so_exchanged cs es (place_of c) (λ r. turned d r ≡ turned c r) others so)
    ∙ ap (λ (z : Change). turned_at (place_of z) (turned z) (exchanged_by cs es)) g)
exchanged_set (b ∷ cs) es (suc i) c d h l g v = ap (turned_at (place_of b) (turned b)) (exchanged_set cs es i c d h.2 (omega arith) g v)

values_first : (cs : List Change) (i : ℕ) (d : Change) → i < length cs → AreValues (d ∷ []) → AreValues (take i cs) → AreValues (take (suc i) (set cs i d))
values_first [] i d l v h = absurd (omega arith)
values_first (b ∷ cs) zero d l v h = v
values_first (Value at value ∷ cs) (suc i) d l v h = values_first cs i d (omega arith) v h
values_first (Rows at rows ∷ cs) (suc i) d l v h = absurd h

pub values_set : (cs : List Change) (i : ℕ) (d : Change) → i < length cs → AreValues (d ∷ []) → AreValues (take i cs) → AreValues (take (i + 1) (set cs i d))
values_set cs i d l v h =
    let one : suc i ≡ i + 1 = omega arith in
    subst (λ (n : ℕ). AreValues (take n (set cs i d))) one (values_first cs i d l v h)

pub values_all : (cs : List Change) (i : ℕ) → length cs ≤ i → AreValues (take i cs) → AreValues cs
values_all [] i l h = tt
values_all (c ∷ cs) zero l h = absurd (omega arith)
values_all (Value at value ∷ cs) (suc i) l h = values_all cs i (omega arith) h
values_all (Rows at rows ∷ cs) (suc i) l h = absurd h

-- ---- what is held

pub turned_none : (es : Entries) (i : ℕ) → turned_at i (filled None) es ≡ es
turned_none [] i = refl
turned_none (e ∷ es) zero = refl
turned_none (e ∷ es) (suc i) = ap (λ (z : Entries). e ∷ z) (turned_none es i)

so_never : (es : Entries) (i : ℕ) → IsSoAt i (λ r. ⊥) es → ⊥
so_never [] i h = h
so_never (e ∷ es) zero h = h
so_never (e ∷ es) (suc i) h = so_never es i h

nothing_for : (es : Entries) (at : ℕ) (rows : Exchange) → IsSoAt at (IsHeldFor (Rows at rows) None) es → ⊥
nothing_for es at rows h = so_never es at h

pub none_held : (es : Entries) (at : ℕ) (rows : Exchange) (c : Change) (h : Option Held) → c ≡ Rows at rows → h ≡ None → IsSoAt (place_of c) (IsHeldFor c h) es → ⊥
none_held es at rows c h is none so =
    nothing_for es at rows (subst (λ (o : Option Held). IsSoAt at (IsHeldFor (Rows at rows) o) es) none (subst (λ (z : Change). IsSoAt (place_of z) (IsHeldFor z h) es) is so))

value_as : (es : Entries) (at : ℕ) (value : Relation) (h : Option Held) → IsSoAt at (IsHeldFor (Value at value) h) es → h ≡ None
value_as es at value None so = refl
value_as es at value (Some h) so = absurd (so_never es at so)

pub value_held : (es : Entries) (at : ℕ) (value : Relation) (c : Change) (h : Option Held) → c ≡ Value at value → IsSoAt (place_of c) (IsHeldFor c h) es → es ≡ turned_at (place_of c) (filled h) es
value_held es at value c h is so =
    let none = value_as es at value h (subst (λ (z : Change). IsSoAt (place_of z) (IsHeldFor z h) es) is so) in
    sym (ap (λ (o : Option Held). turned_at (place_of c) (filled o) es) none ∙ turned_none es (place_of c))

-- ---- one change of a list

item_at : (xs ys : List Change) (i : ℕ) (x y : Change) → take (suc i) xs ≡ take (suc i) ys → i < length xs → length ys ≡ length xs → x ≡ get_or xs i x → y ≡ get_or ys i y → x ≡ y
item_at [] ys i x y e l m g h = absurd (omega arith)
item_at (a ∷ xs) [] i x y e l m g h = absurd (omega (arith, m))
item_at (a ∷ xs) (b ∷ ys) zero x y e l m g h = let same : a ≡ b = cc in g ∙ (same ∙ sym h)
item_at (a ∷ xs) (b ∷ ys) (suc i) x y e l m g h = let rest : take (suc i) xs ≡ take (suc i) ys = cc in item_at xs ys i x y rest (omega arith) (omega (arith, m)) g h

pub same_item : (xs ys : List Change) (i : ℕ) (x y : Change) → take (i + 1) xs ≡ take (i + 1) ys → i < length xs → length ys ≡ length xs → x ≡ get_or xs i x → y ≡ get_or ys i y → x ≡ y
same_item xs ys i x y e l m g h =
    let one : i + 1 ≡ suc i = omega arith in
    item_at xs ys i x y (subst (λ (n : ℕ). take n xs ≡ take n ys) one e) l m g h

module _ (cs : List Change) (i : ℕ) (y : Change) (h : Option Held) (E0 E1 E2 : Entries) (l : i < length cs) (g : y ≡ get_or cs i y) (prepared : ArePrepared (drop i cs) E0) where
  listed : ArePrepared (y ∷ drop (i + 1) cs) E0
  listed = subst (λ (z : List Change). ArePrepared z E0) (head_of cs i y l g) prepared

  pub prepared_here : turned_at (place_of y) (filled h) E1 ≡ E0 → ArePrepared (drop (i + 1) cs) E1
  prepared_here back = prepared_before (drop (i + 1) cs) E1 (place_of y) (filled h) listed.1 (subst (λ (z : Entries). ArePrepared (drop (i + 1) cs) z) (sym back) listed.2)

  pub held_here : IsSoAt (place_of y) (IsHeldFor y h) E1 → E2 ≡ exchanged_by (drop (i + 1) cs) E1 → IsSoAt (place_of y) (IsHeldFor y h) E2
  held_here held done = subst (λ (z : Entries). IsSoAt (place_of y) (IsHeldFor y h) z) (sym done) (so_exchanged (drop (i + 1) cs) E1 (place_of y) (IsHeldFor y h) listed.1 held)

pub exchanged_here : (cs : List Change) (i : ℕ) (y : Change) (h : Option Held) (E0 E1 E2 E3 : Entries) → i < length cs → y ≡ get_or cs i y → ArePrepared (drop i cs) E0
    → turned_at (place_of y) (filled h) E1 ≡ E0 → E2 ≡ exchanged_by (drop (i + 1) cs) E1 → E3 ≡ turned_at (place_of y) (λ r. turned y (filled h r)) E2 → E3 ≡ exchanged_by (drop i cs) E0
exchanged_here cs i y h E0 E1 E2 E3 l g prepared back done last =
    let rest = drop (i + 1) cs in
    let head = head_of cs i y l g in
    let others = (subst (λ (z : List Change). ArePrepared z E0) head prepared).1 in
    last
    ∙ (ap (turned_at (place_of y) (λ r. turned y (filled h r))) done
    ∙ (sym (turned_twice (exchanged_by rest E1) (place_of y) (turned y) (filled h))
    ∙ (ap (turned_at (place_of y) (turned y)) (sym (exchanged_turned rest E1 (place_of y) (filled h) others) ∙ ap (exchanged_by rest) back)
    ∙ ap (λ (z : List Change). exchanged_by z E0) (sym head))))

replaced_others : (cs : List Change) (es : Entries) (i : ℕ) (f : PlainRelvar → PlainRelvar) → AreElsewhere i cs → map (replaced es) cs ≡ map (replaced (turned_at i f es)) cs
replaced_others [] es i f others = refl
replaced_others (Value at value ∷ cs) es i f others =
    ap₂ (λ (v : Relation) (z : List Change). Value at v ∷ z) (sym (value_others f es at i value (λ same. others.0 (sym same)))) (replaced_others cs es i f others.1)
replaced_others (Rows at rows ∷ cs) es i f others = ap (λ (z : List Change). Rows at rows ∷ z) (replaced_others cs es i f others.1)

back_listed : (y d : Change) (rest : List Change) (h : Option Held) (E0 E1 E2 : Entries) → AreElsewhere (place_of y) rest → turned_at (place_of y) (filled h) E1 ≡ E0
    → IsSoAt (place_of y) (IsHeldFor y h) E1 → E2 ≡ exchanged_by rest E1 → (AreValues (y ∷ []) → d ≡ replaced E2 y) → AreValues (y ∷ rest)
    → d ∷ map (replaced E1) rest ≡ map (replaced E0) (y ∷ rest)
back_listed (Value at value) d rest h E0 E1 E2 others back held done last are =
    let none = value_as E1 at value h held in
    let same : E1 ≡ E0 = sym (ap (λ (o : Option Held). turned_at at (filled o) E1) none ∙ turned_none E1 at) ∙ back in
    let one : d ≡ Value at (value_there at value E1) = last tt ∙ ap (Value at) (ap (value_there at value) done ∙ value_exchanged rest E1 at value others) in
    ap (λ (c : Change). c ∷ map (replaced E1) rest) one ∙ ap (λ (z : Entries). map (replaced z) (Value at value ∷ rest)) same
back_listed (Rows at rows) d rest h E0 E1 E2 others back held done last are = absurd are

values_rest : (y : Change) (rest : List Change) → AreValues (y ∷ rest) → AreValues rest
values_rest (Value at value) rest are = are
values_rest (Rows at rows) rest are = absurd are

pub back_here : (cs new : List Change) (i : ℕ) (y d : Change) (h : Option Held) (E0 E1 E2 : Entries) → i < length cs → length new ≡ length cs → y ≡ get_or cs i y → ArePrepared (drop i cs) E0
    → turned_at (place_of y) (filled h) E1 ≡ E0 → IsSoAt (place_of y) (IsHeldFor y h) E1 → E2 ≡ exchanged_by (drop (i + 1) cs) E1
    → (AreValues (drop (i + 1) cs) → drop (i + 1) new ≡ map (replaced E1) (drop (i + 1) cs)) → (AreValues (y ∷ []) → d ≡ replaced E2 y)
    → AreValues (drop i cs) → drop i (set new i d) ≡ map (replaced E0) (drop i cs)
back_here cs new i y d h E0 E1 E2 l m g prepared back held done more last are =
    let rest = drop (i + 1) cs in
    let head = head_of cs i y l g in
    let others = (subst (λ (z : List Change). ArePrepared z E0) head prepared).1 in
    let all = subst AreValues head are in
    drop-set new i d (omega (arith, l, m))
    ∙ (ap (λ (z : List Change). d ∷ z) (more (values_rest y rest all))
    ∙ (back_listed y d rest h E0 E1 E2 others back held done last all
    ∙ ap (map (replaced E0)) (sym head)))
