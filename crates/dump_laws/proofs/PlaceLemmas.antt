-- Where an entry stands in a state.
--     IsMapSplit, map-split, IsFilterSplit, filter-split      a list whose members were mapped, and one of which some are left
--     named-once      an entry of a name that stands once
--     all-lengths      what some members give is no more than what all give
--     IsOfBase      a base relvar with these constraints
--     IsPlaced, base-place, view-place, stored-place      where a base relvar and a view that are said stand in a state
use Rattle.std.proofs.Common.{◌≡◌, inl, inr, ◌+◌, ◌≤◌, Bool, true, false, cond, List, [], ◌∷◌, ◌++◌, map, length, refl, ap, ap₂, ◌∙◌, subst, Some, arith, length-append}
use Rattle.std.specs.List.{filter, flat_map, IsDistinct}
use Rattle.std.specs.Str.{bytes_eq}
use Rattle.base_core.proofs.MemberLemmas.{In-map}
use Rattle.base_core.proofs.SetLemmas.{In}
use Rattle.value_core.specs.declared.constraint.Constraint.{Constraint}
use Rattle.value_core.specs.Values.{Name, Heading, Relation}
use Rattle.tree_core.specs.Relvars.{State, PlainRelvar, base, view, Entries, relvar_named, log, derived, stored}
use Rattle.tree_core.specs.Trees.{Tree}
use Rattle.meaning_core.proofs.MadeLemmas.{own_name}
use Rattle.typing_laws.specs.Saying.{Said, said_base, said_view, said_stored, entries_said}
use Rattle.dump_laws.specs.Kept.{is_early, is_late, is_early_said, is_view_said, IsMadeOf}
use Rattle.part_laws.specs.Parts.{emptied, without_rows}
use Rattle.dump_laws.proofs.ListLaws.{each-in, given-middle}

-- ---- lists

pub record IsMapSplit {X Y : Type 0} (f : X → Y) (xs : List X) (front : List Y) (y : Y) : Type 0 where
  pub before : List X
  pub here : X
  pub behind : List X
  pub whole : xs ≡ before ++ here ∷ behind
  pub same : map f before ≡ front
  pub is : f here ≡ y

pub map-split : {X Y : Type 0} (f : X → Y) (xs : List X) (front : List Y) (y : Y) (back : List Y) → map f xs ≡ front ++ y ∷ back → IsMapSplit f xs front y
map-split f [] [] y back e = absurd (cc)
map-split f [] (z ∷ front) y back e = absurd (cc)
map-split {X} f (x ∷ xs) [] y back e = let same : f x ≡ y = cc in record { before = []; here = x; behind = xs; whole = refl; same = refl; is = same }
map-split {X} {Y} f (x ∷ xs) (z ∷ front) y back e =
    let first : f x ≡ z = cc in
    let rest : map f xs ≡ front ++ y ∷ back = cc in
    let s : IsMapSplit f xs front y = map-split f xs front y back rest in
    record {
      before = x ∷ s.before;
      here = s.here;
      behind = s.behind;
      whole = λ i. x ∷ s.whole i;
      same = λ i. first i ∷ s.same i;
      is = s.is;
    }

pub record IsFilterSplit {X : Type 0} (p : X → Bool) (xs front : List X) (y : X) : Type 0 where
  pub before : List X
  pub behind : List X
  pub whole : xs ≡ before ++ y ∷ behind
  pub same : filter p before ≡ front

module _ {X : Type 0} (p : X → Bool) (y : X) (back : List X) where
  -- behind one that is left, and behind one that is not
  split-kept : (x : X) (xs : List X) → ((front : List X) → filter p xs ≡ front ++ y ∷ back → IsFilterSplit p xs front y) → p x ≡ true → (front : List X) → x ∷ filter p xs ≡ front ++ y ∷ back
      → IsFilterSplit p (x ∷ xs) front y
  split-kept x xs more q [] h =
      let first : x ≡ y = cc in
      record { before = []; behind = xs; whole = ap (λ (v : X). v ∷ xs) first; same = refl }
  split-kept x xs more q (z ∷ front) h =
      let first : x ≡ z = cc in
      let rest : filter p xs ≡ front ++ y ∷ back = cc in
      let s : IsFilterSplit p xs front y = more front rest in
      record {
        before = x ∷ s.before;
        behind = s.behind;
        whole = λ i. x ∷ s.whole i;
        same = ap (λ (b : Bool). cond b (x ∷ filter p s.before) (filter p s.before)) q ∙ ap₂ (λ (v : X) (l : List X). v ∷ l) first s.same;
      }

  split-gone : (x : X) (xs front : List X) → IsFilterSplit p xs front y → p x ≡ false → IsFilterSplit p (x ∷ xs) front y
  split-gone x xs front s q = record {
    before = x ∷ s.before;
    behind = s.behind;
    whole = λ i. x ∷ s.whole i;
    same = ap (λ (b : Bool). cond b (x ∷ filter p s.before) (filter p s.before)) q ∙ s.same;
  }

  pub filter-split : (xs front : List X) → filter p xs ≡ front ++ y ∷ back → IsFilterSplit p xs front y
  filter-split [] [] e = absurd (cc)
  filter-split [] (z ∷ front) e = absurd (cc)
  filter-split (x ∷ xs) front e = by (p x) refl (filter-split xs) e
    where
      by : (b : Bool) → p x ≡ b → ((fs : List X) → filter p xs ≡ fs ++ y ∷ back → IsFilterSplit p xs fs y) → cond b (x ∷ filter p xs) (filter p xs) ≡ front ++ y ∷ back
          → IsFilterSplit p (x ∷ xs) front y
      by true q more h = split-kept x xs more q front h
      by false q more h = split-gone x xs front (more front h) q

pub named-once : (es : Entries) (x : Name × PlainRelvar) → In x es → IsDistinct bytes_eq (map (λ (e : Name × PlainRelvar). e.0) es) → relvar_named es x.0 ≡ Some x.1
unfolding IsDistinct
named-once [] x i d = absurd i
named-once (k ∷ es) x i d = elim i [
  | inl e ↦ subst (λ (z : Name × PlainRelvar). cond (bytes_eq z.0 x.0) (Some z.1) (relvar_named es x.0) ≡ Some x.1) e (ap (λ (b : Bool). cond b (Some x.1) (relvar_named es x.0)) (own_name x.0))
  | inr j ↦ (
      let there : In x.0 (map (λ (e : Name × PlainRelvar). e.0) es) = (In-map (λ (e : Name × PlainRelvar). e.0) x.0 es).1 (x, j, refl) in
      let other : bytes_eq k.0 x.0 ≡ false = each-in (λ (n : Name). bytes_eq k.0 n ≡ false) (map (λ (e : Name × PlainRelvar). e.0) es) d.0 x.0 there in
      ap (λ (b : Bool). cond b (Some k.1) (relvar_named es x.0)) other ∙ named-once es x j d.1)
]

pub all-lengths : {X Y : Type 0} (f : X → List Y) (all done rest : List X) (x : X) → all ≡ done ++ x ∷ rest → length (flat_map f done) + length (f x) ≤ length (flat_map f all)
all-lengths {X} {Y} f all done rest x e =
    let whole : length (flat_map f all) ≡ length (flat_map f done ++ (f x ++ flat_map f rest)) = ap (λ (l : List X). length (flat_map f l)) e ∙ ap length (given-middle f done rest x) in
    let first = length-append (flat_map f done) (f x ++ flat_map f rest) in
    let second = length-append (f x) (flat_map f rest) in
    omega (arith, whole, first, second)

-- ---- entries

-- a base relvar that has no more rows is one
pub record IsOfBase (r : PlainRelvar) (c : List Constraint) : Type 0 where
  pub value : Relation
  pub is : r ≡ base value c

of-base : (r : PlainRelvar) (u : Relation) (c : List Constraint) → without_rows r ≡ base u c → IsOfBase r c
of-base (base v d) u c e = let same : d ≡ c = cc in record { value = v; is = ap (base v) same }
of-base (view t kind) u c e = absurd (cc)
of-base (log o k last w) u c e = absurd (cc)

-- where an entry stands: those before it are these
pub record IsPlaced (w : State) (p : Name × PlainRelvar → Bool) (f : Name × PlainRelvar → Name × PlainRelvar) (front : Entries) (name : Name) (r : PlainRelvar) : Type 0 where
  pub before : Entries
  pub behind : Entries
  pub whole : w.relvars ≡ before ++ (name, r) ∷ behind
  pub same : map f (filter p before) ≡ front

whole-there : (es before behind : Entries) (x : Name × PlainRelvar) (name : Name) (r : PlainRelvar) → es ≡ before ++ x ∷ behind → x.0 ≡ name → x.1 ≡ r → es ≡ before ++ (name, r) ∷ behind
whole-there es before behind x name r e n k = subst (λ (y : Name × PlainRelvar). es ≡ before ++ y ∷ behind) (λ i. (n i, k i)) e

-- a base relvar that is as this one, without its rows
base-from : (w : State) (front : Entries) (name : Name) (u : Relation) (c : List Constraint) → IsMapSplit emptied (filter is_early w.relvars) front (name, base u c)
    → (v : Relation) × IsPlaced w is_early emptied front name (base v c)
base-from w front name u c s =
    let of : IsOfBase s.here.1 c = of-base s.here.1 u c (λ i. (s.is i).1) in
    let t : IsFilterSplit is_early w.relvars s.before s.here = filter-split is_early s.here s.behind w.relvars s.before s.whole in (
      of.value,
      record {
        before = t.before;
        behind = t.behind;
        whole = whole-there w.relvars t.before t.behind s.here name (base of.value c) t.whole (λ i. (s.is i).0) of.is;
        same = ap (map emptied) t.same ∙ s.same;
      },
    )

module _ (w : State) (ds : List Said) (made : IsMadeOf w ds) (done rest : List Said) (name : Name) where
  pub base-place : (h : Heading) (c : List Constraint) → filter is_early_said ds ≡ done ++ said_base name h c ∷ rest
      → (v : Relation) × IsPlaced w is_early emptied (flat_map entries_said done) name (base v c)
  base-place h c e =
      let u : Relation = record { heading = h; rows = [] } in
      let whole : map emptied (filter is_early w.relvars) ≡ flat_map entries_said done ++ (name, base u c) ∷ flat_map entries_said rest =
      made.early ∙ (ap (flat_map entries_said) e ∙ given-middle entries_said done rest (said_base name h c)) in
      base-from w (flat_map entries_said done) name u c
      (map-split emptied (filter is_early w.relvars) (flat_map entries_said done) (name, base u c) (flat_map entries_said rest) whole)

  late-place : (d : Said) (r : PlainRelvar) → entries_said d ≡ (name, r) ∷ [] → filter is_view_said ds ≡ done ++ d ∷ rest → IsPlaced w is_late (λ x. x) (flat_map entries_said done) name r
  late-place d r one e =
      let y : Name × PlainRelvar = (name, r) in
      let whole : filter is_late w.relvars ≡ flat_map entries_said done ++ y ∷ flat_map entries_said rest =
      made.views
      ∙ (ap (flat_map entries_said) e ∙ (given-middle entries_said done rest d ∙ ap (λ (l : Entries). flat_map entries_said done ++ (l ++ flat_map entries_said rest)) one)) in
      let s : IsFilterSplit is_late w.relvars (flat_map entries_said done) y = filter-split is_late y (flat_map entries_said rest) w.relvars (flat_map entries_said done) whole in
      record { before = s.before; behind = s.behind; whole = s.whole; same = same-map (filter is_late s.before) ∙ s.same }
    where
      same-map : (es : Entries) → map (λ (x : Name × PlainRelvar). x) es ≡ es
      same-map [] = refl
      same-map (k ∷ es) = ap (λ (l : Entries). k ∷ l) (same-map es)

  pub view-place : (t : Tree) → filter is_view_said ds ≡ done ++ said_view name t ∷ rest → IsPlaced w is_late (λ x. x) (flat_map entries_said done) name (view t derived)
  view-place t e = late-place (said_view name t) (view t derived) refl e

  pub stored-place : (t : Tree) → filter is_view_said ds ≡ done ++ said_stored name t ∷ rest → IsPlaced w is_late (λ x. x) (flat_map entries_said done) name (view t stored)
  stored-place t e = late-place (said_stored name t) (view t stored) refl e
