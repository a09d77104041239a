-- What a text names is known where the texts before it were declared, and a database constraint holds where all relvars and views are.
--     early_said, views_said, rules_of      what is said, by its kind
--     early-there, all-there      what stands before all rows, and all relvars and views, have their names
--     known-early, known-view, known-rule      what is said names what was declared
--     values-here      base relvars have their values
--     held-here      a database constraint holds
-- All but the first of each where there is no log.
use Rattle.std.proofs.Common.{◌≡◌, inl, inr, Bool, true, false, List, ◌∷◌, ◌++◌, map, refl, sym, ap, ◌∙◌, subst, Option, Some, None}
use Rattle.std.specs.List.{filter, flat_map, All}
use Rattle.std.proofs.lemmas.Bool.{true≢false}
use Rattle.std.proofs.lemmas.List.Elements.{recursion_from_All}
use Rattle.base_core.proofs.MemberLemmas.{In-append, In-filter, In-map}
use Rattle.base_core.proofs.SetLemmas.{In}
use Rattle.point_core.specs.declared.fault.Place.{Place}
use Rattle.value_core.specs.Values.{Name}
use Rattle.tree_core.specs.Relvars.{State, PlainKind, PlainRelvar, base, view, Entries, relvar_named, log, derived, stored}
use Rattle.tree_core.specs.Trees.{Tree, Test}
use Rattle.tree_core.specs.Uses.{names_any, test_names_any}
use Rattle.meaning_core.specs.Logs.{is_log, has_log}
use Rattle.meaning_core.specs.Truths.{holds_in}
use Rattle.meaning_core.specs.WellMade.{sizes_of, IsWellMade}
use Rattle.meaning_laws.specs.Likeness.{Alike, HasValues, ValueIf}
use Rattle.meaning_laws.specs.Moved.{moved_test}
use Rattle.meaning_laws.proofs.MeaningAlike.{holds-alike}
use Rattle.assign_core.proofs.NameLemmas.{relvars_differ}
use Rattle.typing_laws.specs.Saying.{Said, said_ordinal, said_base, said_view, said_stored, said_history, said_rule, said_names_any, entries_said}
use Rattle.part_laws.specs.Parts.{is_base, emptied}
use Rattle.part_laws.proofs.EntryLemmas.{named-filtered, named-unfiltered}
use Rattle.dump_laws.specs.Kept.{is_early, is_late, is_early_said, is_view_said, IsMadeOf}
use Rattle.std.proofs.lemmas.List.Concat.{flat_map-append}
use Rattle.dump_laws.proofs.ListLaws.{in-front, in-middle, each-in}
use Rattle.dump_laws.proofs.MadeLaws.{named-in, early-or-late, rule-in}
use Rattle.dump_laws.proofs.NamingLaws.{any-member}
use Rattle.dump_laws.proofs.SayableLaws.{listed-of}
use Rattle.dump_laws.specs.Replays.{lacks}
use Rattle.dump_laws.specs.Standing.{is_rule_said, Stands}
use Rattle.dump_laws.proofs.KnownLaws.{base-known, view-known, rule-known}
use Rattle.dump_laws.proofs.PlaceLemmas.{IsPlaced, base-place, view-place, stored-place}
use Rattle.dump_laws.proofs.StandingLaws.{stands-for, apart-so-far}
use Rattle.dump_laws.proofs.StepLaws.{rule-typed}

-- what is before all rows, and views
abbrev pub early_said : List Said → List Said
early_said ds = filter is_early_said ds

abbrev pub views_said : List Said → List Said
views_said ds = filter is_view_said ds

abbrev pub rules_of : List Said → List Said
rules_of ds = filter is_rule_said ds

in-given : (e : Name × PlainRelvar) (xs ys : List Said) → In e (flat_map entries_said xs) → In e (flat_map entries_said (xs ++ ys))
in-given e xs ys i = subst (In e) (sym (flat_map-append entries_said xs ys)) ((In-append e (flat_map entries_said xs) (flat_map entries_said ys)).1 (inl i))

in-later : (e : Name × PlainRelvar) (xs ys : List Said) → In e (flat_map entries_said ys) → In e (flat_map entries_said (xs ++ ys))
in-later e xs ys i = subst (In e) (sym (flat_map-append entries_said xs ys)) ((In-append e (flat_map entries_said xs) (flat_map entries_said ys)).1 (inr i))

in-whole : (x e : Name × PlainRelvar) (es front back : Entries) → es ≡ front ++ e ∷ back → In x front → In x es
in-whole x e es front back whole i = subst (In x) (sym whole) (in-front x e front back i)

module _ (w : State) (ds : List Said) (made : IsMadeOf w ds) (well : IsWellMade w) where
  pub early-there : (more : List Said) (r : State) → Stands (early_said ds ++ more) r → (x : Name × PlainRelvar) → In x w.relvars → is_early x ≡ true → lacks r x.0 ≡ false
  early-there more r h x i q =
      let here : In (emptied x) (map emptied (filter is_early w.relvars)) = (In-map emptied (emptied x) (filter is_early w.relvars)).1 (x, (In-filter is_early x w.relvars).1 (i, q), refl) in
      stands-for (early_said ds ++ more) r h (emptied x) (in-given (emptied x) (early_said ds) more (subst (In (emptied x)) made.early here))

  -- where there is no log, what does not stand before all rows is a view
  late-where : has_log w.relvars ≡ false → (x : Name × PlainRelvar) → In x w.relvars → is_early x ≡ false → is_late x ≡ true
  late-where none x i q = early-or-late x (any-member (λ (r : Name × PlainRelvar). is_log r.1) w.relvars x none i) q

  pub all-there : has_log w.relvars ≡ false → (more : List Said) (r : State) → Stands (early_said ds ++ (views_said ds ++ more)) r → (x : Name × PlainRelvar) → In x w.relvars → lacks r x.0 ≡ false
  all-there none more r h x i = by (is_early x) refl
    where
      by : (b : Bool) → is_early x ≡ b → lacks r x.0 ≡ false
      by true q = early-there (views_said ds ++ more) r h x i q
      by false q =
          let here : In x (filter is_late w.relvars) = (In-filter is_late x w.relvars).1 (i, late-where none x i q) in
          stands-for (early_said ds ++ (views_said ds ++ more)) r h x
          (in-later x (early_said ds) (views_said ds ++ more) (in-given x (views_said ds) more (subst (In x) made.views here)))

  -- ---- what is said before all rows

  pub known-early : (done rest : List Said) (d : Said) (r : State) → early_said ds ≡ done ++ d ∷ rest → Stands done r → said_names_any (lacks r) d ≡ false
  known-early done rest d r e h = by d e (subst (In d) (sym e) (in-middle d done rest))
    where
      by : (z : Said) → early_said ds ≡ done ++ z ∷ rest → In z (early_said ds) → said_names_any (lacks r) z ≡ false
      by (said_ordinal name names) q i = refl
      by (said_base name heading c) q i =
          let p = base-place w ds made done rest name heading c q in
          let placed : IsPlaced w is_early emptied (flat_map entries_said done) name (base p.0 c) = p.1 in
          base-known w r well placed.before placed.behind name p.0 c placed.whole (λ x j k.
          stands-for done r h (emptied x)
          (subst (In (emptied x)) placed.same ((In-map emptied (emptied x) (filter is_early placed.before)).1 (x, (In-filter is_early x placed.before).1 (j, k), refl))))
      by (said_view name t) q i = absurd (true≢false (sym ((In-filter is_early_said (said_view name t) ds).0 i).1))
      by (said_stored name t) q i = absurd (true≢false (sym ((In-filter is_early_said (said_stored name t) ds).0 i).1))
      by (said_history made) q i = refl
      by (said_rule name t) q i = absurd (true≢false (sym ((In-filter is_early_said (said_rule name t) ds).0 i).1))

  -- ---- views

  -- a view names what is before it
  placed-known : has_log w.relvars ≡ false → (done : List Said) (r : State) → Stands (early_said ds ++ done) r → (name : Name) (t : Tree) (kind : PlainKind)
      → IsPlaced w is_late (λ x. x) (flat_map entries_said done) name (view t kind) → names_any (lacks r) t ≡ false
  placed-known none done r h name t kind placed = view-known w r well placed.before placed.behind name t kind placed.whole there
    where
      there : (x : Name × PlainRelvar) → In x placed.before → lacks r x.0 ≡ false
      there x j = here (is_early x) refl
        where
          among : In x w.relvars
          among = in-whole x (name, view t kind) w.relvars placed.before placed.behind placed.whole j

          here : (b : Bool) → is_early x ≡ b → lacks r x.0 ≡ false
          here true k = early-there done r h x among k
          here false k =
              let late : In x (filter is_late placed.before) = (In-filter is_late x placed.before).1 (j, late-where none x among k) in
              let said : In x (flat_map entries_said done) = subst (In x) placed.same ((In-map (λ (y : Name × PlainRelvar). y) x (filter is_late placed.before)).1 (x, late, refl)) in
              stands-for (early_said ds ++ done) r h x (in-later x (early_said ds) done said)

  pub known-view : has_log w.relvars ≡ false → (done rest : List Said) (d : Said) (r : State) → views_said ds ≡ done ++ d ∷ rest → Stands (early_said ds ++ done) r → said_names_any (lacks r) d ≡ false
  known-view none done rest d r e h = by d e (subst (In d) (sym e) (in-middle d done rest))
    where
      by : (z : Said) → views_said ds ≡ done ++ z ∷ rest → In z (views_said ds) → said_names_any (lacks r) z ≡ false
      by (said_ordinal name names) q i = refl
      by (said_base name heading c) q i = absurd (true≢false (sym ((In-filter is_view_said (said_base name heading c) ds).0 i).1))
      by (said_view name t) q i = placed-known none done r h name t derived (view-place w ds made done rest name t q)
      by (said_stored name t) q i = placed-known none done r h name t stored (stored-place w ds made done rest name t q)
      by (said_history made) q i = refl
      by (said_rule name t) q i = absurd (true≢false (sym ((In-filter is_view_said (said_rule name t) ds).0 i).1))

  -- ---- database constraints

  pub known-rule : has_log w.relvars ≡ false → (more : List Said) (r : State) → Stands (early_said ds ++ (views_said ds ++ more)) r → (name : Name) (t : Test) → In (said_rule name t) ds → test_names_any (lacks r) t ≡ false
  known-rule none more r h name t i = rule-known w r well t (rule-typed w ds made well name t i) (all-there none more r h)

  module _ (none : has_log w.relvars ≡ false) (r : State) (fits : IsWellMade r) (alike : Alike (lacks r) w.relvars r.relvars) (bases : filter is_base r.relvars ≡ filter is_base w.relvars) where
    pub values-here : HasValues (lacks r) w.relvars r.relvars
    values-here name out = by (relvar_named w.relvars name) (relvar_named r.relvars name) refl refl
      where
        by : (o p : Option PlainRelvar) → relvar_named w.relvars name ≡ o → relvar_named r.relvars name ≡ p → ValueIf o p
        by None p e f = tt
        by (Some (base v c)) p e f =
            let kept : relvar_named (filter is_base r.relvars) name ≡ Some (base v c) = ap (λ (es : Entries). relvar_named es name) bases ∙ named-filtered w.relvars name v c e in
            let found : p ≡ Some (base v c) = sym f ∙ named-unfiltered r.relvars name (base v c) (relvars_differ r fits) kept in
            subst (λ (o : Option PlainRelvar). ValueIf (Some (base v c)) o) (sym found) refl
        by (Some (view t kind)) None e f = tt
        by (Some (view t kind)) (Some y) e f = tt
        by (Some (log o k last v)) p e f =
            let there : true ≡ false = any-member (λ (x : Name × PlainRelvar). is_log x.1) w.relvars (name, log o k last v) none (named-in w.relvars name (log o k last v) e) in
            absurd (true≢false there)

    pub held-here : All (λ (x : Name × Test). holds_in w.relvars x.1 ≡ true) w.rules → (name : Name) (t : Test) → In (said_rule name t) ds → test_names_any (lacks r) t ≡ false → (f : Place → Place)
        → holds_in r.relvars (moved_test f t) ≡ true
    held-here held name t i known f =
        let there : In (name, t) w.rules = rule-in w ds (listed-of w ds made) (name, t) (said_rule name t) i (inl refl) in
        let holds : holds_in w.relvars t ≡ true =
        each-in (λ (x : Name × Test). holds_in w.relvars x.1 ≡ true) w.rules (recursion_from_All (λ (x : Name × Test). holds_in w.relvars x.1 ≡ true) w.rules held) (name, t) there in
        holds-alike (lacks r) (sizes_of w.ordinals) (sizes_of r.ordinals) w.relvars r.relvars well.relvars fits.relvars alike values-here
        (apart-so-far w r fits (relvars_differ w well) alike) f (sizes_of w.ordinals) t
        known (rule-typed w ds made well name t i) holds
