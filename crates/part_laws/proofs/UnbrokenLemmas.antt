-- A database so far breaks no constraint, where the whole one breaks none.
--     loaded-unbroken-where      so far as the constraints of its base relvars go
use Rattle.std.proofs.Common.{◌≡◌, inl, inr, ℕ, zero, suc, true, false, List, [], ◌∷◌, ◌++◌, map, filter, take, refl, sym, ap, ◌∙◌, subst, Option, Some, None, option_map}
use Rattle.std.specs.List.{list_any, All, IsDistinct}
use Rattle.std.specs.Str.{bytes_eq}
use Rattle.std.proofs.lemmas.Bool.{or_parts, true≢false}
use Rattle.std.proofs.lemmas.List.Elements.{All-head, All-tail, filter-append}
use Rattle.std.proofs.lemmas.List.{append-nil}
use Rattle.base_core.proofs.ListLemmas.{bytes_eq-sym}
use Rattle.base_core.proofs.SetLemmas.{In, Ascends}
use Rattle.point_core.specs.declared.fault.Code.{Code}
use Rattle.value_core.specs.declared.refuse.Refuse.TheVariants.{Broken}
use Rattle.relation_core.proofs.FilterLemmas.{rows_ascend, take_all}
use Rattle.value_core.specs.declared.constraint.Constraint.{Constraint}
use Rattle.value_core.specs.declared.constraint.Constraint.TheVariants.{Key, Packed, WhenUnpacked, UKey, Foreign, History}
use Rattle.value_core.specs.Values.{Name, Row, Heading, Relation, IsRelation, row_cmp}
use Rattle.tree_core.specs.Relvars.{PlainRelvar, base, view, Entries, relvar_named, log}
use Rattle.meaning_core.specs.WellMade.{FitsHeadings, IsBase, IsConstraint}
use Rattle.meaning_core.proofs.RelvarLemmas.{named_before}
use Rattle.u_constraints.specs.Constraints.{broken, rows_or_none}
use Rattle.u_constraints.proofs.ConstraintLemmas.{broken_none}
use Rattle.u_constraints.proofs.GrowthLemmas.{fewer_hold}
use Rattle.dump_core.specs.Inserts.{references, HaveRelations}
use Rattle.assign_core.specs.Breaches.{value_if, value_at, rows_named, breach, first_of, first_among, first_broken}
use Rattle.assign_core.specs.Parts.{names_in}
use Rattle.assign_core.proofs.DeclaredLemmas.{neither, none_of_two, in_turn}
use Rattle.part_laws.specs.Parts.{with_first, emptied, loaded, is_base, MayHave, IsWholeIfOwn, AreConstrained}
use Rattle.part_laws.proofs.EntryLemmas.{base-of, named-next, named-unfiltered, distinct-front}
use Rattle.part_laws.proofs.LoadedLemmas.{first-whole}
use Rattle.part_laws.proofs.RowLemmas.{Ascends-take, In-take}

-- ---- what is named

-- base relvars of the first entries stand for the same among all
abbrev Sees : Entries → Entries → Type 0
Sees before all = (name : Name) (x : PlainRelvar) → relvar_named before name ≡ Some x → relvar_named all name ≡ Some x

sees-less : (before more all : Entries) → Sees (before ++ more) all → Sees before all
sees-less before more all sees name x e = sees name x (named_before before more name x e)

same-rows : (all whole : Entries) (name : Name) (x : PlainRelvar) → relvar_named all name ≡ Some x → relvar_named whole name ≡ Some x
    → rows_or_none (value_at all (Some name)) ≡ rows_or_none (value_at whole (Some name))
same-rows all whole name x e d = ap (λ (o : Option PlainRelvar). rows_or_none (value_if o)) (e ∙ sym d)

-- of a name that is found before, or is the relvar's own
same-found : (before all whole : Entries) (name : Name) → Sees before all → Sees before whole → IsBase (relvar_named before name)
    → rows_or_none (value_at all (Some name)) ≡ rows_or_none (value_at whole (Some name))
same-found before all whole name sees sees' h =
    let w = base-of (relvar_named before name) h in
    same-rows all whole name (base w.0 w.1) (sees name (base w.0 w.1) w.2) (sees' name (base w.0 w.1) w.2)

-- a constraint names the same rows
same-whole : (before all whole : Entries) (own : Name) (r : PlainRelvar) (c : Constraint) → Sees (before ++ (own, r) ∷ []) all → Sees (before ++ (own, r) ∷ []) whole → IsConstraint before own r c
    → rows_named all c ≡ rows_named whole c
same-whole before all whole own r (Key k) sees sees' h = refl
same-whole before all whole own r (Packed commalist) sees sees' h = refl
same-whole before all whole own r (WhenUnpacked commalist k) sees sees' h = refl
same-whole before all whole own r (UKey commalist k) sees sees' h = refl
same-whole before all whole own r (Foreign commalist k name there) sees sees' h = same-found (before ++ (own, r) ∷ []) all whole name sees sees' h.0
same-whole before all whole own r (History rule) sees sees' h =
    same-found before all whole rule.since (sees-less before ((own, r) ∷ []) all sees) (sees-less before ((own, r) ∷ []) whole sees') h.0

-- also where its own relvar is another, unless it names that
same-other : (before all whole : Entries) (own : Name) (r : PlainRelvar) (c : Constraint) → Sees before all → Sees before whole → IsConstraint before own r c → references own c ≡ false
    → rows_named all c ≡ rows_named whole c
same-other before all whole own r (Key k) sees sees' h none = refl
same-other before all whole own r (Packed commalist) sees sees' h none = refl
same-other before all whole own r (WhenUnpacked commalist k) sees sees' h none = refl
same-other before all whole own r (UKey commalist k) sees sees' h none = refl
same-other before all whole own r (Foreign commalist k name there) sees sees' h none =
    let w = base-of (relvar_named (before ++ (own, r) ∷ []) name) h.0 in
    elim (named-next before own name r (base w.0 w.1) w.2) [
      | inl e ↦ same-rows all whole name (base w.0 w.1) (sees name (base w.0 w.1) e) (sees' name (base w.0 w.1) e)
      | inr q ↦ absurd (true≢false (sym q ∙ (bytes_eq-sym own name ∙ none)))
    ]
same-other before all whole own r (History rule) sees sees' h none = same-found before all whole rule.since sees sees' h.0

fits-some : (before : Entries) (own : Name) (v : Relation) (cs : List Constraint) (c : Constraint) → IsConstraint before own (base v cs) c → (g : Heading) × FitsHeadings v.heading g c
fits-some before own v cs (Key k) h = ([], h)
fits-some before own v cs (Packed commalist) h = ([], h)
fits-some before own v cs (WhenUnpacked commalist k) h = ([], h)
fits-some before own v cs (UKey commalist k) h = ([], h)
fits-some before own v cs (Foreign commalist k name there) h = (_, h.1)
fits-some before own v cs (History rule) h = (_, h.1)

-- ---- the constraints of one relvar

-- where there is no breach, no constraint is broken
unbroken-at : (name : Name) (n : ℕ) (o : Option Code) → option_map (λ code. Broken code name n) o ≡ None → o ≡ None
unbroken-at name n None e = refl
unbroken-at name n (Some code) e = absurd (cc)

module _ (all whole before : Entries) (own : Name) where
  whole-holds : (r : PlainRelvar) (rows : List Row) (n : ℕ) (cs : List Constraint) → Sees (before ++ (own, r) ∷ []) all → Sees (before ++ (own, r) ∷ []) whole → All (IsConstraint before own r) cs
      → first_of whole own rows n cs ≡ None → first_of all own rows n cs ≡ None
  whole-holds r rows n [] sees sees' h e = refl
  whole-holds r rows n (c ∷ cs) sees sees' h e =
      let parts = neither (breach whole own rows n c) (first_of whole own rows (suc n) cs) e in
      let same = same-whole before all whole own r c sees sees' (All-head (IsConstraint before own r) c cs h) in
      none_of_two (breach all own rows n c) (first_of all own rows (suc n) cs) (ap (λ (zs : List Row). option_map (λ code. Broken code own n) (broken c rows zs)) same ∙ parts.0)
      (whole-holds r rows (suc n) cs sees sees' (All-tail (IsConstraint before own r) c cs h) parts.1)

  none-holds : (n : ℕ) (cs : List Constraint) → first_of all own [] n cs ≡ None
  none-holds n [] = refl
  none-holds n (c ∷ cs) =
      none_of_two (breach all own [] n c) (first_of all own [] (suc n) cs) (ap (option_map (λ code. Broken code own n)) (broken_none c (rows_named all c))) (none-holds (suc n) cs)

  module _ (v : Relation) (ds : List Constraint) (is : IsRelation v) (part : List Row) (up : Ascends row_cmp part) (less : (x : Row) → In x part → In x v.rows) (sees : Sees before all)
      (sees' : Sees before whole) where
    part-holds : (n : ℕ) (cs : List Constraint) → list_any (references own) cs ≡ false → All (IsConstraint before own (base v ds)) cs → first_of whole own v.rows n cs ≡ None
        → first_of all own part n cs ≡ None
    part-holds n [] none h e = refl
    part-holds n (c ∷ cs) none h e =
        let parts = neither (breach whole own v.rows n c) (first_of whole own v.rows (suc n) cs) e in
        let nones = or_parts (references own c) (list_any (references own) cs) none in
        let here = All-head (IsConstraint before own (base v ds)) c cs h in
        let same = same-other before all whole own (base v ds) c sees sees' here nones.0 in
        let fits = fits-some before own v ds c here in
        let held : broken c v.rows (rows_named whole c) ≡ None = unbroken-at own n (broken c v.rows (rows_named whole c)) parts.0 in
        let few : broken c part (rows_named whole c) ≡ None = fewer_hold v is part up less c fits.0 (rows_named whole c) fits.1 held in
        let now : broken c part (rows_named all c) ≡ None = ap (broken c part) same ∙ few in
        none_of_two (breach all own part n c) (first_of all own part (suc n) cs) (ap (option_map (λ code. Broken code own n)) now)
        (part-holds (suc n) cs nones.1 (All-tail (IsConstraint before own (base v ds)) c cs h) parts.1)

-- ---- what the first entries stand for

sees-front : (front more : Entries) → IsDistinct bytes_eq (names_in front) → Sees (filter is_base front) (front ++ more)
sees-front front more d name x e = named_before front more name x (named-unfiltered front name x d e)

-- the first entries, and the base relvars among them
record IsFront (all whole front before : Entries) (later rest : Entries) : Type 0 where
  bases : before ≡ filter is_base front
  now : all ≡ front ++ later
  then : whole ≡ front ++ rest
  different : IsDistinct bytes_eq (names_in whole)

module _ (all whole front before later rest : Entries) (is : IsFront all whole front before later rest) where
  front-different : IsDistinct bytes_eq (names_in front)
  front-different = distinct-front front rest (subst (λ (es : Entries). IsDistinct bytes_eq (names_in es)) is.then is.different)

  front-sees : Sees before all
  front-sees = λ name x e. subst (λ (es : Entries). relvar_named es name ≡ Some x) (sym is.now)
      (sees-front front later front-different name x (subst (λ (bs : Entries). relvar_named bs name ≡ Some x) is.bases e))

  front-saw : Sees before whole
  front-saw = λ name x e. subst (λ (es : Entries). relvar_named es name ≡ Some x) (sym is.then)
      (sees-front front rest front-different name x (subst (λ (bs : Entries). relvar_named bs name ≡ Some x) is.bases e))

-- one entry more
front-more : (all whole front before later rest : Entries) (e : Name × PlainRelvar) → IsFront all whole front before (e ∷ later) (e ∷ rest)
    → IsFront all whole (front ++ e ∷ []) (before ++ filter is_base (e ∷ [])) later rest
front-more all whole front before later rest e is = record {
  bases = ap (λ (bs : Entries). bs ++ filter is_base (e ∷ [])) is.bases ∙ sym (filter-append is_base front (e ∷ []));
  now = is.now ∙ sym (in_turn front (e ∷ []) later);
  then = is.then ∙ sym (in_turn front (e ∷ []) rest);
  different = is.different;
}

-- ---- all relvars

emptied-unbroken : (all es : Entries) → first_among all (map emptied es) ≡ None
emptied-unbroken all [] = refl
emptied-unbroken all ((name, base v cs) ∷ es) = none_of_two (first_of all name [] 1 cs) (first_among all (map emptied es)) (none-holds all [] [] name 1 cs) (emptied-unbroken all es)
emptied-unbroken all ((name, view t kind) ∷ es) = emptied-unbroken all es
emptied-unbroken all ((name, log o k last w) ∷ es) = emptied-unbroken all es

module _ (all whole : Entries) where
  -- a relvar that is whole
  here-whole : (front before later rest : Entries) (name : Name) (v : Relation) (cs : List Constraint)
      → IsFront all whole front before ((name, base v cs) ∷ later) ((name, base v cs) ∷ rest) → All (IsConstraint before name (base v cs)) cs
      → first_of whole name v.rows 1 cs ≡ None → first_of all name v.rows 1 cs ≡ None
  here-whole front before later rest name v cs is h e =
      let next = front-more all whole front before later rest (name, base v cs) is in
      whole-holds all whole before name (base v cs) v.rows 1 cs
      (front-sees all whole (front ++ (name, base v cs) ∷ []) (before ++ (name, base v cs) ∷ []) later rest next)
      (front-saw all whole (front ++ (name, base v cs) ∷ []) (before ++ (name, base v cs) ∷ []) later rest next) h e

  -- a relvar that has its first rows
  here-part : (n : ℕ) (front before later rest : Entries) (name : Name) (v : Relation) (cs : List Constraint)
      → IsFront all whole front before ((name, with_first n (base v cs)) ∷ later) ((name, base v cs) ∷ rest) → All (IsConstraint before name (base v cs)) cs
      → IsRelation v → MayHave name n (base v cs) → first_of whole name v.rows 1 cs ≡ None → first_of all name (take n v.rows) 1 cs ≡ None
  here-part n front before later rest name v cs is h relation may e =
      elim (list_any (references name) cs) as (λ b. list_any (references name) cs ≡ b → first_of all name (take n v.rows) 1 cs ≡ None) [
        | true ↦ λ q. elim (may q) [
          | inl none ↦ subst (λ (m : ℕ). first_of all name (take m v.rows) 1 cs ≡ None) (sym none) (none-holds all whole before name 1 cs)
          | inr long ↦
              let same : with_first n (base v cs) ≡ base v cs = first-whole n v cs long in
              let is' = subst (λ (r : PlainRelvar). IsFront all whole front before ((name, r) ∷ later) ((name, base v cs) ∷ rest)) same is in
              subst (λ (rows : List Row). first_of all name rows 1 cs ≡ None) (sym (take_all n v.rows long)) (here-whole front before later rest name v cs is' h e)
        ]
        | false ↦ λ q.
            part-holds all whole before name v cs relation (take n v.rows) (Ascends-take n v.rows (rows_ascend v relation)) (λ x. In-take n x v.rows)
            (front-sees all whole front before _ _ is) (front-saw all whole front before _ _ is) 1 cs q h e
      ] refl

  among-loaded : (i n : ℕ) (front before rest : Entries) → IsFront all whole front before (loaded i n rest) rest → AreConstrained before rest → HaveRelations rest → IsWholeIfOwn rest i n
      → first_among whole rest ≡ None → first_among all (loaded i n rest) ≡ None
  among-loaded i n front before [] is h relations may e = refl
  among-loaded zero n front before ((name, base v cs) ∷ es) is h relations may e =
      let parts = neither (first_of whole name v.rows 1 cs) (first_among whole es) e in
      none_of_two (first_of all name (take n v.rows) 1 cs) (first_among all (map emptied es))
      (here-part n front before (map emptied es) es name v cs is h.0 relations.0 may parts.0) (emptied-unbroken all es)
  among-loaded zero n front before ((name, view t kind) ∷ es) is h relations may e = emptied-unbroken all es
  among-loaded zero n front before ((name, log o k last w) ∷ es) is h relations may e = emptied-unbroken all es
  among-loaded (suc i) n front before ((name, base v cs) ∷ es) is h relations may e =
      let parts = neither (first_of whole name v.rows 1 cs) (first_among whole es) e in
      none_of_two (first_of all name v.rows 1 cs) (first_among all (loaded i n es)) (here-whole front before (loaded i n es) es name v cs is h.0 parts.0)
      (among-loaded i n (front ++ (name, base v cs) ∷ []) (before ++ (name, base v cs) ∷ []) es
      (front-more all whole front before (loaded i n es) es (name, base v cs) is) h.1 relations.1 may parts.1)
  among-loaded (suc i) n front before ((name, view t kind) ∷ es) is h relations may e =
      let next = front-more all whole front before (loaded i n es) es (name, view t kind) is in
      let same = subst (λ (bs : Entries). IsFront all whole (front ++ (name, view t kind) ∷ []) bs (loaded i n es) es) (append-nil before) next in
      among-loaded i n (front ++ (name, view t kind) ∷ []) before es same h relations.1 may e
  among-loaded (suc i) n front before ((name, log o k last w) ∷ es) is h relations may e =
      let next = front-more all whole front before (loaded i n es) es (name, log o k last w) is in
      let same = subst (λ (bs : Entries). IsFront all whole (front ++ (name, log o k last w) ∷ []) bs (loaded i n es) es) (append-nil before) next in
      among-loaded i n (front ++ (name, log o k last w) ∷ []) before es same h relations.1 may e

pub loaded-unbroken-where : (es : Entries) (i n : ℕ) → IsDistinct bytes_eq (names_in es) → AreConstrained [] es → HaveRelations es → IsWholeIfOwn es i n
    → first_broken es ≡ None → first_broken (loaded i n es) ≡ None
loaded-unbroken-where es i n d h relations may e =
    among-loaded (loaded i n es) es i n [] [] es (record { bases = refl; now = refl; then = refl; different = d }) h relations may e
