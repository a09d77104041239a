-- The state behind a dumped script is the same, where there is no log.
--     same-state      the law
use Rattle.std.proofs.Common.{◌≡◌, false, List, [], ◌++◌, map, refl, ap, ap₂, ◌∙◌, subst, Option, Some, None, append-nil}
use Rattle.std.specs.List.{filter}
use Rattle.std.proofs.lemmas.List.Elements.{filter-append}
use Rattle.base_core.proofs.MemberLemmas.{In-filter, In-map}
use Rattle.tree_core.specs.Relvars.{State, PlainRelvar, Entries, Rules, relvar_named}
use Rattle.meaning_core.specs.Logs.{has_log}
use Rattle.meaning_core.specs.WellMade.{IsWellMade}
use Rattle.meaning_laws.specs.Likeness.{LikeIf, Alike}
use Rattle.assign_core.proofs.NameLemmas.{relvars_differ}
use Rattle.typing_laws.specs.Saying.{Said}
use Rattle.dump_laws.specs.Kept.{is_early, is_late, IsMadeOf}
use Rattle.part_laws.specs.Parts.{emptied}
use Rattle.relation_core.proofs.FilterLemmas.{filter_all}
use Rattle.dump_laws.proofs.ListLaws.{filter-none}
use Rattle.dump_laws.proofs.MadeLaws.{named-in, never-both, never-late}
use Rattle.dump_laws.proofs.EmptiedLaws.{early-emptied, late-emptied}
use Rattle.dump_laws.proofs.SayableLaws.{listed-of}
use Rattle.dump_laws.specs.Replays.{lacks}
use Rattle.dump_laws.specs.Back.{IsSameState}
use Rattle.dump_laws.specs.Phases.{StandsLate}
use Rattle.dump_laws.specs.Standing.{in_script_order, AreLikeEntries, AreMovedRules}
use Rattle.dump_laws.proofs.LikeEntries.{like-filtered, same-early, same-late, like-full}
use Rattle.dump_laws.proofs.OrderLaws.{order-entries, order-ordinals, order-rules, order-member}
use Rattle.dump_laws.proofs.ReachedLaws.{rules_of, all-there}
use Rattle.dump_laws.proofs.StandingLaws.{stands-logless, alike-so-far}

-- ---- entries before all rows, and views

all-early : (es : Entries) → filter is_early (map emptied (filter is_early es)) ≡ map emptied (filter is_early es)
all-early es =
    filter_all is_early (map emptied (filter is_early es)) (λ x i.
    let from = (In-map emptied x (filter is_early es)).0 i in
    ap is_early from.2 ∙ (early-emptied from.0 ∙ ((In-filter is_early from.0 es).0 from.1).1))

none-late : (es : Entries) → filter is_late (map emptied (filter is_early es)) ≡ []
none-late es =
    filter-none is_late (map emptied (filter is_early es)) (λ x i.
    let from = (In-map emptied x (filter is_early es)).0 i in
    ap is_late from.2 ∙ (late-emptied from.0 ∙ never-late from.0 ((In-filter is_early from.0 es).0 from.1).1))

none-early : (es : Entries) → filter is_early (filter is_late es) ≡ []
none-early es = filter-none is_early (filter is_late es) (λ x i. never-both x ((In-filter is_late x es).0 i).1)

all-late : (es : Entries) → filter is_late (filter is_late es) ≡ filter is_late es
all-late es = filter_all is_late (filter is_late es) (λ x i. ((In-filter is_late x es).0 i).1)

module _ (w : State) (ds : List Said) (made : IsMadeOf w ds) (well : IsWellMade w) (none : has_log w.relvars ≡ false) (r : State) (h : StandsLate w (in_script_order ds) r) where
  abbrev first : Entries
  first = map emptied (filter is_early w.relvars)

  abbrev views : Entries
  views = filter is_late w.relvars

  all-like : AreLikeEntries (map emptied (filter is_early w.relvars) ++ filter is_late w.relvars) r.relvars
  all-like = subst (λ (es : Entries). AreLikeEntries es r.relvars) (order-entries w ds made) h.stands.relvars

  early-part : filter is_early (first ++ views) ≡ first
  early-part = filter-append is_early first views ∙ (ap₂ (λ (k l : Entries). k ++ l) (all-early w.relvars) (none-early w.relvars) ∙ append-nil first)

  late-part : filter is_late (first ++ views) ≡ views
  late-part = filter-append is_late first views ∙ ap₂ (λ (k l : Entries). k ++ l) (none-late w.relvars) (all-late w.relvars)

  same-first : AreLikeEntries (filter is_early w.relvars) (filter is_early r.relvars)
  same-first =
      like-full (filter is_early w.relvars) (filter is_early r.relvars)
      (subst (λ (es : Entries). AreLikeEntries es (filter is_early r.relvars)) early-part (like-filtered is_early same-early (first ++ views) r.relvars all-like))

  same-views : AreLikeEntries (filter is_late w.relvars) (filter is_late r.relvars)
  same-views =
      subst (λ (es : Entries). AreLikeEntries es (filter is_late r.relvars)) late-part
      (like-filtered is_late same-late (first ++ views) r.relvars all-like)

  same-there : Alike (λ name. false) w.relvars r.relvars
  same-there name out = by (relvar_named w.relvars name) refl
    where
      by : (o : Option PlainRelvar) → relvar_named w.relvars name ≡ o → LikeIf o (relvar_named r.relvars name)
      by None e = tt
      by (Some x) e =
          let known : lacks r name ≡ false = all-there w ds made well none (rules_of ds) r h.stands (name, x) (named-in w.relvars name x e) in
          let like = alike-so-far (in_script_order ds) r h.stands w ds (listed-of w ds made) (relvars_differ w well) (λ d i. order-member d ds i) name known in
          subst (λ (o : Option PlainRelvar). LikeIf o (relvar_named r.relvars name)) e like

  pub same-state : IsSameState w r
  same-state = record {
    ordinals = h.stands.ordinals ∙ order-ordinals w ds made;
    bases = h.bases;
    early = same-first;
    views = same-views;
    there = same-there;
    rules = subst (λ (rs : Rules). AreMovedRules rs r.rules) (order-rules w ds made) h.stands.rules;
    logless = none;
    logless_there = stands-logless (in_script_order ds) r h.stands;
  }
