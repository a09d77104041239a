-- A state in which some of what is said has been declared: what it has is like what the final state has under that name.
--     moved-entries      what is said adds the like at other places
--     stands-more, none-stand      it has one more, and it has nothing
--     stands-logless, stands-unturned, stands-counted      it has no log, and it is so with a statement more
--     alike-so-far      each name that it has stands for the like
--     stands-for      it has the names of what was declared
--     free-so-far      the names of what is still to be declared are free
--     apart-one, apart-so-far      what it has names none that it lacks
use Rattle.std.proofs.Common.{◌≡◌, inl, inr, Bool, true, false, not, cond, List, [], ◌∷◌, ◌++◌, map, refl, sym, ap, ap₂, ◌∙◌, subst, Option, Some, None}
use Rattle.std.specs.Prelude.{is_none, is_some, ◌||◌}
use Rattle.std.specs.List.{flat_map, list_any, IsDistinct}
use Rattle.std.specs.Str.{bytes_eq}
use Rattle.std.proofs.lemmas.Bool.{true≢false, or_from, not-false}
use Rattle.base_core.proofs.MemberLemmas.{In-flat_map}
use Rattle.base_core.proofs.SetLemmas.{In}
use Rattle.point_core.specs.declared.fault.Place.{Place}
use Rattle.value_core.specs.declared.list.OrdinalNames.{OrdinalNames}
use Rattle.value_core.specs.Values.{Name}
use Rattle.tree_core.specs.Relvars.{State, PlainRelvar, Entries, Rules, relvar_named}
use Rattle.tree_core.specs.Trees.{Test}
use Rattle.meaning_core.specs.Declarations.{counted}
use Rattle.meaning_core.specs.Logs.{has_log, turned_logs}
use Rattle.meaning_core.specs.WellMade.{sizes_of, IsWellMade}
use Rattle.meaning_core.proofs.ElsewhereLemmas.{view_names, IsApart}
use Rattle.meaning_core.proofs.LogLemmas.{turned-none}
use Rattle.meaning_core.proofs.MadeLemmas.{own_name}
use Rattle.meaning_laws.specs.Likeness.{IsLike, LikeIf, Alike, has_entry}
use Rattle.meaning_laws.specs.Moved.{moved_entry}
use Rattle.meaning_laws.proofs.ApartLemmas.{view-fewer, declared-apart}
use Rattle.meaning_laws.proofs.EachAlike.{has_none, like-names}
use Rattle.meaning_laws.proofs.EntriesFound.{has-named}
use Rattle.meaning_laws.proofs.LikeLemmas.{like-moved}
use Rattle.meaning_laws.proofs.TypedAlike.{StandsLike, like-there}
use Rattle.declaration_typing.specs.Names.{is_taken, is_rule}
use Rattle.assign_core.specs.Parts.{names_in}
use Rattle.typing_laws.specs.Saying.{Said, said_ordinal, said_base, said_view, said_stored, said_history, said_rule, names_said, moved_said, entries_said, ordinals_said, rules_said, with_said, IsFree}
use Rattle.typing_laws.proofs.SaidLaws.{said-moved-entries, said-moved-ordinals}
use Rattle.dump_laws.specs.Kept.{IsListedAs}
use Rattle.part_laws.specs.Parts.{without_rows}
use Rattle.since_during.proofs.PlaceLemmas.{each-from}
use Rattle.dump_laws.proofs.LeftLaws.{rule-name}
use Rattle.dump_laws.proofs.ListLaws.{given-last}
use Rattle.dump_laws.proofs.MadeLaws.{entry-name, named-in, in-named, entry-in}
use Rattle.dump_laws.specs.Replays.{lacks}
use Rattle.dump_laws.specs.Standing.{AreLikeEntries, AreMovedRules, Stands}
use Rattle.dump_laws.proofs.LikeEntries.{like-append, like-logless, BothLike, named-like, full-one, rules-append}
use Rattle.dump_laws.proofs.LoggedLaws.{said-logless}
use Rattle.dump_laws.proofs.PlaceLemmas.{named-once}

-- ---- one more

moved-rules : (f : Place → Place) (d : Said) → AreMovedRules (rules_said d) (rules_said (moved_said f d))
moved-rules f (said_ordinal name names) = tt
moved-rules f (said_base name heading typed) = tt
moved-rules f (said_view name t) = tt
moved-rules f (said_stored name t) = tt
moved-rules f (said_history made) = tt
moved-rules f (said_rule name t) = ((refl, (f, refl)), tt)

like-mapped : (f : Place → Place) (es : Entries) → AreLikeEntries es (map (moved_entry f) es)
like-mapped f [] = tt
like-mapped f (e ∷ es) = ((refl, like-moved f e.1), like-mapped f es)

pub moved-entries : (f : Place → Place) (d : Said) → AreLikeEntries (entries_said d) (entries_said (moved_said f d))
moved-entries f d = subst (AreLikeEntries (entries_said d)) (sym (said-moved-entries f d)) (like-mapped f (entries_said d))

pub stands-more : (done : List Said) (r : State) (f : Place → Place) (d : Said) → Stands done r → Stands (done ++ d ∷ []) (with_said r (moved_said f d))
stands-more done r f d h = record {
  ordinals = ap₂ (λ (k l : List OrdinalNames). k ++ l) h.ordinals (said-moved-ordinals f d) ∙ sym (given-last ordinals_said done d);
  relvars =
      subst (λ (es : Entries). AreLikeEntries es (r.relvars ++ entries_said (moved_said f d))) (sym (given-last entries_said done d))
      (like-append (flat_map entries_said done) r.relvars (entries_said d) (entries_said (moved_said f d)) h.relvars (moved-entries f d));
  rules =
      subst (λ (rs : Rules). AreMovedRules rs (r.rules ++ rules_said (moved_said f d))) (sym (given-last rules_said done d))
      (rules-append (flat_map rules_said done) r.rules (rules_said d) (rules_said (moved_said f d)) h.rules (moved-rules f d));
}

-- no text says a log, and so it has none
pub stands-logless : (done : List Said) (r : State) → Stands done r → has_log r.relvars ≡ false
stands-logless done r h = like-logless (flat_map entries_said done) r.relvars h.relvars (said-logless done)

pub stands-unturned : (done : List Said) (r : State) → Stands done r → turned_logs r.relvars ≡ r.relvars
stands-unturned done r h = turned-none r.relvars (stands-logless done r h)

pub stands-counted : (done : List Said) (r : State) → Stands done r → Stands done (counted r)
stands-counted done r h =
    record { ordinals = h.ordinals; relvars = subst (AreLikeEntries (flat_map entries_said done)) (sym (stands-unturned done r h)) h.relvars; rules = h.rules }

pub none-stand : (r : State) → r.ordinals ≡ [] → r.relvars ≡ [] → r.rules ≡ [] → Stands [] r
none-stand r a b c = record {
  ordinals = a;
  relvars = subst (λ (es : Entries). AreLikeEntries [] es) (sym b) tt;
  rules = subst (λ (rs : Rules). AreMovedRules [] rs) (sym c) tt;
}

-- ---- what was declared

any-false : {X : Type 0} (p : X → Bool) (xs : List X) → ((x : X) → In x xs → p x ≡ false) → list_any p xs ≡ false
any-false p [] h = refl
any-false p (x ∷ xs) h = or_from (p x) (list_any p xs) (h x (inl refl)) (any-false p xs (λ y i. h y (inr i)))

ordinal-name : (o : OrdinalNames) (d : Said) → In o (ordinals_said d) → In o.name (names_said d)
ordinal-name o (said_ordinal name names) i = elim i [ inl k ↦ inl (ap (λ (x : OrdinalNames). x.name) k) | inr k ↦ absurd k ]
ordinal-name o (said_base name heading typed) i = absurd i
ordinal-name o (said_view name t) i = absurd i
ordinal-name o (said_stored name t) i = absurd i
ordinal-name o (said_history made) i = absurd i
ordinal-name o (said_rule name t) i = absurd i

rules-free : (n : Name) (xs ys : Rules) → AreMovedRules xs ys → ((x : Name × Test) → In x xs → bytes_eq n x.0 ≡ false) → list_any (λ (y : Name × Test). bytes_eq n y.0) ys ≡ false
rules-free n [] [] h free = refl
rules-free n [] (y ∷ ys) h free = absurd h
rules-free n (x ∷ xs) [] h free = absurd h
rules-free n (x ∷ xs) (y ∷ ys) h free =
    or_from (bytes_eq n y.0) (list_any (λ (z : Name × Test). bytes_eq n z.0) ys) (ap (bytes_eq n) h.0.0 ∙ free x (inl refl)) (rules-free n xs ys h.1 (λ z i. free z (inr i)))

-- what r has, which is what was said so far
module _ (done : List Said) (r : State) (h : Stands done r) where
  abbrev said_so_far : Entries
  said_so_far = flat_map entries_said done

  pub stands-for : (x : Name × PlainRelvar) → In x (flat_map entries_said done) → lacks r x.0 ≡ false
  stands-for x i = by (relvar_named said_so_far x.0) (relvar_named r.relvars x.0) (in-named said_so_far x i) (named-like x.0 said_so_far r.relvars h.relvars)
    where
      by : (o p : Option PlainRelvar) → is_some o ≡ true → BothLike o p → is_none p ≡ false
      by None None s l = absurd (true≢false (sym s))
      by None (Some y) s l = refl
      by (Some x) None s l = absurd l
      by (Some x) (Some y) s l = refl

  -- no name of what was said is taken by another
  pub free-so-far : (d : Said) → ((z : Said) → In z done → (a b : Name) → In a (names_said d) → In b (names_said z) → bytes_eq a b ≡ false) → IsDistinct bytes_eq (names_said d)
      → IsFree r (names_said d)
  free-so-far d apart differ = (each-from (λ (n : Name). is_taken r n ≡ false) (names_said d) free, differ)
    where
      no-ordinal : (n : Name) → In n (names_said d) → list_any (λ (o : OrdinalNames). bytes_eq n o.name) r.ordinals ≡ false
      no-ordinal n i = any-false (λ (o : OrdinalNames). bytes_eq n o.name) r.ordinals (λ o j.
          let z = (In-flat_map ordinals_said o done).0 (subst (In o) h.ordinals j) in
          apart z.0 z.1 n o.name i (ordinal-name o z.0 z.2))

      no-relvar : (n : Name) → In n (names_said d) → is_some (relvar_named r.relvars n) ≡ false
      no-relvar n i = by (relvar_named said_so_far n) (relvar_named r.relvars n) refl (named-like n said_so_far r.relvars h.relvars)
        where
          by : (o p : Option PlainRelvar) → relvar_named said_so_far n ≡ o → BothLike o p → is_some p ≡ false
          by None None e l = refl
          by None (Some y) e l = absurd l
          by (Some x) None e l = refl
          by (Some x) (Some y) e l =
              let z = (In-flat_map entries_said (n, x) done).0 (named-in said_so_far n x e) in
              absurd (true≢false (sym (own_name n) ∙ apart z.0 z.1 n n i (entry-name (n, x) z.0 z.2)))

      no-rule : (n : Name) → In n (names_said d) → is_rule r n ≡ false
      no-rule n i = rules-free n (flat_map rules_said done) r.rules h.rules (λ x j.
          let z = (In-flat_map rules_said x done).0 j in
          apart z.0 z.1 n x.0 i (rule-name x z.0 z.2))

      free : (n : Name) → In n (names_said d) → is_taken r n ≡ false
      free n i =
          or_from (list_any (λ (o : OrdinalNames). bytes_eq n o.name) r.ordinals || is_some (relvar_named r.relvars n)) (is_rule r n)
          (or_from (list_any (λ (o : OrdinalNames). bytes_eq n o.name) r.ordinals) (is_some (relvar_named r.relvars n)) (no-ordinal n i) (no-relvar n i)) (no-rule n i)

  module _ (w : State) (ds : List Said) (made : IsListedAs w ds) (differ : IsDistinct bytes_eq (names_in w.relvars)) (among : (d : Said) → In d done → In d ds) where
    -- what a name stands for in what was said is like what it stands for in the end
    said-like : (name : Name) (x y : PlainRelvar) → relvar_named said_so_far name ≡ Some x → IsLike x y → LikeIf (relvar_named w.relvars name) (Some y)
    said-like name x y e l =
        let z = (In-flat_map entries_said (name, x) done).0 (named-in said_so_far name x e) in
        let s = entry-in w ds made (name, x) z.0 (among z.0 z.1) z.2 in
        let key : s.0.0 ≡ name = ap (λ (k : Name × PlainRelvar). k.0) (sym s.2) in
        let is : x ≡ without_rows s.0.1 = ap (λ (k : Name × PlainRelvar). k.1) s.2 in
        let found : relvar_named w.relvars name ≡ Some s.0.1 = ap (relvar_named w.relvars) (sym key) ∙ named-once w.relvars s.0 s.1 differ in
        subst (λ (o : Option PlainRelvar). LikeIf o (Some y)) (sym found) (full-one s.0.1 y (subst (λ (k : PlainRelvar). IsLike k y) is l))

    pub alike-so-far : Alike (lacks r) w.relvars r.relvars
    alike-so-far name out = by (relvar_named said_so_far name) (relvar_named r.relvars name) refl (named-like name said_so_far r.relvars h.relvars) out
      where
        by : (o p : Option PlainRelvar) → relvar_named said_so_far name ≡ o → BothLike o p → is_none p ≡ false → LikeIf (relvar_named w.relvars name) p
        by None None e l q = absurd (true≢false q)
        by None (Some y) e l q = absurd l
        by (Some x) None e l q = absurd l
        by (Some x) (Some y) e l q = said-like name x y e l

-- ---- what it names

-- the two ways to say that a name has no entry
lacks-none : (r : State) (name : Name) → has_none r.relvars name ≡ false → lacks r name ≡ false
lacks-none r name e = from r.relvars (not-false (has_entry r.relvars name) e)
  where
    from : (es : Entries) → has_entry es name ≡ true → is_none (relvar_named es name) ≡ false
    from [] h = absurd (true≢false (sym h))
    from (k ∷ es) h = by (bytes_eq k.0 name) (from es) h
      where
        by : (b : Bool) → (has_entry es name ≡ true → is_none (relvar_named es name) ≡ false) → (b || has_entry es name) ≡ true → is_none (cond b (Some k.1) (relvar_named es name)) ≡ false
        by true more g = refl
        by false more g = more g

apart-in : (some : Name → Bool) (es : Entries) (e : Name × PlainRelvar) → IsApart some es → In e es → some e.0 ≡ false → view_names some e.1 ≡ false
apart-in some [] e apart i q = absurd i
apart-in some (k ∷ es) e apart i q = elim i [
  | inl s ↦ subst (λ (z : Name × PlainRelvar). view_names some z.1 ≡ false) (sym s) (apart.0 (subst (λ (z : Name × PlainRelvar). some z.0 ≡ false) s q))
  | inr j ↦ apart-in some es e apart.1 j q
]

module _ (w r : State) (well : IsWellMade r) (differ : IsDistinct bytes_eq (names_in w.relvars)) (alike : Alike (lacks r) w.relvars r.relvars) where
  pub apart-one : (x : Name × PlainRelvar) → In x w.relvars → lacks r x.0 ≡ false → view_names (lacks r) x.1 ≡ false
  apart-one x i q =
      let s : StandsLike x.1 (relvar_named r.relvars x.0) = like-there (lacks r) w.relvars r.relvars alike x.0 x.1 q (named-once w.relvars x i differ) in
      let there : In (x.0, s.0) r.relvars = named-in r.relvars x.0 s.0 s.1 in
      let none : view_names (has_none r.relvars) s.0 ≡ false =
      apart-in (has_none r.relvars) r.relvars (x.0, s.0) (declared-apart (sizes_of r.ordinals) r.relvars well.relvars) there (ap not (has-named r.relvars x.0 s.0 s.1)) in
      like-names (lacks r) x.1 s.0 s.2 (view-fewer (has_none r.relvars) (lacks r) (lacks-none r) s.0 none)

  all-apart : (es : Entries) → ((x : Name × PlainRelvar) → In x es → In x w.relvars) → IsApart (lacks r) es
  all-apart [] within = tt
  all-apart (e ∷ es) within = (apart-one e (within e (inl refl)), all-apart es (λ x i. within x (inr i)))

  pub apart-so-far : IsApart (lacks r) w.relvars
  apart-so-far = all-apart w.relvars (λ x i. i)
