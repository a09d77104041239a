-- The texts of a dumped script are accepted: those before all rows, those of views, and those of database constraints.
--     KeepsMade      what is declared leaves a well made state
--     early-taken      the texts before all rows
--     views-taken, rules-taken      those of views and of database constraints
use Rattle.std.proofs.Common.{◌≡◌, ◌⊎◌, inl, inr, ℕ, Bool, true, false, List, [], ◌∷◌, ◌++◌, map, refl, sym, ap, ◌∙◌, subst, append_assoc, append-nil}
use Rattle.std.specs.List.{filter, flat_map, All, AllByRecursion}
use Rattle.std.proofs.lemmas.Bool.{true≢false}
use Rattle.std.proofs.lemmas.List.Elements.{filter-append}
use Rattle.base_core.proofs.MemberLemmas.{In-filter}
use Rattle.base_core.proofs.SetLemmas.{In}
use Rattle.point_core.specs.declared.fault.Place.{Place}
use Rattle.value_core.specs.declared.list.OrdinalNames.{OrdinalNames}
use Rattle.value_core.specs.Values.{Name}
use Rattle.tree_core.specs.Relvars.{State, Entries}
use Rattle.tree_core.specs.Trees.{Test}
use Rattle.meaning_core.specs.Truths.{holds_in}
use Rattle.meaning_core.specs.Declarations.{counted}
use Rattle.meaning_core.specs.Logs.{has_log}
use Rattle.meaning_core.proofs.AcceptedLemmas.{made-turned}
use Rattle.meaning_core.specs.WellMade.{IsWellMade}
use Rattle.assign_core.specs.Room.{HasStoredRoom}
use Rattle.dump_core.specs.Texts.{SourceText}
use Rattle.typing_laws.specs.Saying.{Said, said_ordinal, said_base, said_view, said_stored, said_history, said_rule, said_names_any, moved_said, entries_said, ordinals_said, with_said}
use Rattle.part_laws.specs.Parts.{is_base}
use Rattle.dump_laws.specs.Kept.{is_early_said, is_view_said, IsTextOf, IsMadeOf}
use Rattle.dump_laws.proofs.ListLaws.{in-middle}
use Rattle.dump_laws.specs.Replays.{lacks, IsHeld, IsStepFor, Declares}
use Rattle.dump_laws.specs.Accepting.{Outcome, TakesAll}
use Rattle.dump_laws.specs.Phases.{IsBare, StandsEarly, StandsLate}
use Rattle.dump_laws.specs.Standing.{is_rule_said, in_script_order, Stands, AreSaidFrom}
use Rattle.dump_laws.proofs.ReachedLaws.{early_said, views_said, rules_of, known-early, known-view, known-rule, held-here}
use Rattle.dump_laws.proofs.RoomLaws.{stored-here}
use Rattle.dump_laws.proofs.SegmentLaws.{TextStep, segment-taken}
use Rattle.dump_laws.proofs.StandingLaws.{stands-more, stands-unturned, stands-counted}
use Rattle.dump_laws.proofs.StepLaws.{step-for, alike-here}

-- what is declared leaves a well made state
abbrev pub KeepsMade : Type 0
KeepsMade = (place : Place) (bytes : List ℕ) (r : State) (t : SourceText) (d : Said) (x : Declares place bytes r t d) → IsWellMade r → IsWellMade (with_said r (moved_said x.move d))

bare-append : (xs ys : Entries) → AllByRecursion IsBare xs → AllByRecursion IsBare ys → AllByRecursion IsBare (xs ++ ys)
bare-append [] ys h k = k
bare-append (x ∷ xs) ys h k = (h.0, bare-append xs ys h.1 k)

-- what is said adds no rows
bare-said : (d : Said) → AllByRecursion IsBare (entries_said d)
bare-said (said_ordinal name names) = tt
bare-said (said_base name heading typed) = (refl, tt)
bare-said (said_view name t) = (refl, tt)
bare-said (said_stored name t) = (refl, tt)
bare-said (said_history made) = (refl, (refl, (refl, tt)))
bare-said (said_rule name t) = tt

-- nothing is asked of what stands before all rows
early-held : (r : State) (d : Said) → is_early_said d ≡ true → (f : Place → Place) → IsHeld r (moved_said f d)
early-held r (said_ordinal name names) k f = tt
early-held r (said_base name heading typed) k f = tt
early-held r (said_view name t) k f = tt
early-held r (said_stored name t) k f = absurd (true≢false (sym k))
early-held r (said_history made) k f = tt
early-held r (said_rule name t) k f = absurd (true≢false (sym k))

-- no base relvar is said by a view's text, nor by a database constraint's
no-base : (d : Said) → (is_view_said d ≡ true) ⊎ (is_rule_said d ≡ true) → (f : Place → Place) → filter is_base (entries_said (moved_said f d)) ≡ []
no-base (said_ordinal name names) k f = refl
no-base (said_base name heading typed) k f = elim k [ inl e ↦ absurd (true≢false (sym e)) | inr e ↦ absurd (true≢false (sym e)) ]
no-base (said_view name t) k f = refl
no-base (said_stored name t) k f = refl
no-base (said_history made) k f = elim k [ inl e ↦ absurd (true≢false (sym e)) | inr e ↦ absurd (true≢false (sym e)) ]
no-base (said_rule name t) k f = refl

kind-of : (p : Said → Bool) (ds done rest : List Said) (d : Said) → filter p ds ≡ done ++ d ∷ rest → In d ds × (p d ≡ true)
kind-of p ds done rest d e = let both = (In-filter p d ds).0 (subst (In d) (sym e) (in-middle d done rest)) in (both.0, both.1)

module _ (text-step : TextStep) (keeps-made : KeepsMade) (w : State) (ds : List Said) (made : IsMadeOf w ds) (well : IsWellMade w) where
  -- ---- before all rows

  early-whole : (done rest : List Said) (d : Said) → early_said ds ≡ done ++ d ∷ rest → in_script_order ds ≡ done ++ d ∷ (rest ++ (views_said ds ++ rules_of ds))
  early-whole done rest d e = ap (λ (l : List Said). l ++ (views_said ds ++ rules_of ds)) e ∙ append_assoc done (d ∷ rest) (views_said ds ++ rules_of ds)

  early-step : (done rest : List Said) (d : Said) (t : SourceText) (r : State) (types more : List OrdinalNames) → early_said ds ≡ done ++ d ∷ rest → StandsEarly done r
      → flat_map ordinals_said done ≡ types ++ more
      → IsTextOf (record w { ordinals = types }) t d
      → IsStepFor w r types more t d
  early-step done rest d t r types more e h same text =
      let is = kind-of is_early_said ds done rest d e in
      step-for w ds made well done (rest ++ (views_said ds ++ rules_of ds)) d (early-whole done rest d e) r h.stands h.fits t types more same text
      (known-early w ds made well done rest d r e h.stands)
      (early-held r d is.1)

  early-next : (done rest : List Said) (d : Said) (t : SourceText) (place : Place) (bytes : List ℕ) (r : State) → early_said ds ≡ done ++ d ∷ rest → StandsEarly done r
      → (x : Declares place bytes r t d)
      → StandsEarly (done ++ d ∷ []) (counted (with_said r (moved_said x.move d)))
  early-next done rest d t place bytes r e h x =
      let s : State = with_said r (moved_said x.move d) in
      let stands : Stands (done ++ d ∷ []) s = stands-more done r x.move d h.stands in
      record {
        stands = stands-counted (done ++ d ∷ []) s stands;
        fits = made-turned s (keeps-made place bytes r t d x h.fits);
        bare = subst (AllByRecursion IsBare) (sym (stands-unturned (done ++ d ∷ []) s stands))
            (bare-append r.relvars (entries_said (moved_said x.move d)) h.bare (bare-said (moved_said x.move d)));
      }

  pub early-taken : (ts : List SourceText) (r : State) (After : Outcome) → StandsEarly [] r → AreSaidFrom w [] ts (early_said ds)
      → ((last : State) → StandsEarly (early_said ds) last → After last ts)
      → TakesAll (map (λ (t : SourceText). t.bytes) ts) r [] After
  early-taken ts r After h said then = segment-taken text-step w [] (early_said ds) StandsEarly early-step early-next [] (early_said ds) ts r [] After refl h said then

  -- ---- behind all rows, where there is no log

  late-next : (done : List Said) (d : Said) (t : SourceText) (place : Place) (bytes : List ℕ) (r : State) → (is_view_said d ≡ true) ⊎ (is_rule_said d ≡ true) → StandsLate w done r
      → (x : Declares place bytes r t d)
      → StandsLate w (done ++ d ∷ []) (counted (with_said r (moved_said x.move d)))
  late-next done d t place bytes r kind h x =
      let s : State = with_said r (moved_said x.move d) in
      let stands : Stands (done ++ d ∷ []) s = stands-more done r x.move d h.stands in
      record {
        stands = stands-counted (done ++ d ∷ []) s stands;
        fits = made-turned s (keeps-made place bytes r t d x h.fits);
        bases = ap (filter is_base) (stands-unturned (done ++ d ∷ []) s stands) ∙
            (filter-append is_base r.relvars (entries_said (moved_said x.move d)) ∙
            (ap (λ (l : Entries). filter is_base r.relvars ++ l) (no-base d kind x.move) ∙ (append-nil (filter is_base r.relvars) ∙ h.bases)));
      }

  -- views
  abbrev InViews : List Said → State → Type 0
  InViews done r = StandsLate w (early_said ds ++ done) r

  views-whole : (done rest : List Said) (d : Said) → views_said ds ≡ done ++ d ∷ rest → in_script_order ds ≡ (early_said ds ++ done) ++ d ∷ (rest ++ rules_of ds)
  views-whole done rest d e =
      ap (λ (l : List Said). early_said ds ++ (l ++ rules_of ds)) e
      ∙ (ap (λ (l : List Said). early_said ds ++ l) (append_assoc done (d ∷ rest) (rules_of ds)) ∙ sym (append_assoc (early_said ds) done (d ∷ (rest ++ rules_of ds))))

  -- a stored view has room
  view-held : has_log w.relvars ≡ false → HasStoredRoom w → (done rest : List Said) (d : Said) (r : State) → views_said ds ≡ done ++ d ∷ rest → InViews done r → is_view_said d ≡ true
      → (f : Place → Place) → IsHeld r (moved_said f d)
  view-held none room done rest (said_ordinal name names) r e h k f = tt
  view-held none room done rest (said_base name heading typed) r e h k f = tt
  view-held none room done rest (said_view name t) r e h k f = tt
  view-held none room done rest (said_stored name t) r e h k f =
      stored-here w ds made well none room (early_said ds ++ done) (rest ++ rules_of ds) name t (views-whole done rest (said_stored name t) e) r h
      (known-view w ds made well none done rest (said_stored name t) r e h.stands) f
  view-held none room done rest (said_history made') r e h k f = tt
  view-held none room done rest (said_rule name t) r e h k f = absurd (true≢false (sym k))

  views-step : has_log w.relvars ≡ false → HasStoredRoom w → (done rest : List Said) (d : Said) (t : SourceText) (r : State) (types more : List OrdinalNames) → views_said ds ≡ done ++ d ∷ rest
      → InViews done r
      → flat_map ordinals_said (early_said ds ++ done) ≡ types ++ more
      → IsTextOf (record w { ordinals = types }) t d
      → IsStepFor w r types more t d
  views-step none room done rest d t r types more e h same text =
      let is = kind-of is_view_said ds done rest d e in
      step-for w ds made well (early_said ds ++ done) (rest ++ rules_of ds) d (views-whole done rest d e) r h.stands h.fits t types more same text
      (known-view w ds made well none done rest d r e h.stands)
      (view-held none room done rest d r e h is.1)

  views-next : (done rest : List Said) (d : Said) (t : SourceText) (place : Place) (bytes : List ℕ) (r : State) → views_said ds ≡ done ++ d ∷ rest → InViews done r → (x : Declares place bytes r t d)
      → InViews (done ++ d ∷ []) (counted (with_said r (moved_said x.move d)))
  views-next done rest d t place bytes r e h x =
      let is = kind-of is_view_said ds done rest d e in
      subst (λ (l : List Said). StandsLate w l (counted (with_said r (moved_said x.move d)))) (append_assoc (early_said ds) done (d ∷ [])) (late-next (early_said ds ++ done) d t place bytes r (inl is.1) h x)

  pub views-taken : has_log w.relvars ≡ false → HasStoredRoom w → (ts : List SourceText) (r : State) (texts : List SourceText) (After : Outcome) → StandsLate w (early_said ds) r
      → AreSaidFrom w (flat_map ordinals_said (early_said ds)) ts (views_said ds)
      → ((last : State) → StandsLate w (early_said ds ++ views_said ds) last → After last (texts ++ ts))
      → TakesAll (map (λ (t : SourceText). t.bytes) ts) r texts After
  views-taken none room ts r texts After h said then =
      segment-taken text-step w (early_said ds) (views_said ds) InViews (views-step none room) views-next [] (views_said ds) ts r texts After refl
      (subst (λ (l : List Said). StandsLate w l r) (sym (append-nil (early_said ds))) h)
      (subst (λ (l : List Said). AreSaidFrom w (flat_map ordinals_said l) ts (views_said ds)) (sym (append-nil (early_said ds))) said) then

  -- database constraints
  abbrev InRules : List Said → State → Type 0
  InRules done r = StandsLate w (early_said ds ++ (views_said ds ++ done)) r

  rules-whole : (done rest : List Said) (d : Said) → rules_of ds ≡ done ++ d ∷ rest → in_script_order ds ≡ (early_said ds ++ (views_said ds ++ done)) ++ d ∷ rest
  rules-whole done rest d e =
      ap (λ (l : List Said). early_said ds ++ (views_said ds ++ l)) e
      ∙ (ap (λ (l : List Said). early_said ds ++ l) (sym (append_assoc (views_said ds) done (d ∷ rest))) ∙ sym (append_assoc (early_said ds) (views_said ds ++ done) (d ∷ rest)))

  module _ (held : All (λ (x : Name × Test). holds_in w.relvars x.1 ≡ true) w.rules) (none : has_log w.relvars ≡ false) where
    rule-known-here : (done : List Said) (r : State) (d : Said) → In d ds → is_rule_said d ≡ true → InRules done r → said_names_any (lacks r) d ≡ false
    rule-known-here done r (said_ordinal name names) i k h = absurd (true≢false (sym k))
    rule-known-here done r (said_base name heading typed) i k h = absurd (true≢false (sym k))
    rule-known-here done r (said_view name t) i k h = absurd (true≢false (sym k))
    rule-known-here done r (said_stored name t) i k h = absurd (true≢false (sym k))
    rule-known-here done r (said_history made') i k h = absurd (true≢false (sym k))
    rule-known-here done r (said_rule name t) i k h = known-rule w ds made well none done r h.stands name t i

    rule-held : (done rest : List Said) (r : State) (d : Said) → rules_of ds ≡ done ++ d ∷ rest → In d ds → is_rule_said d ≡ true → InRules done r → (f : Place → Place) → IsHeld r (moved_said f d)
    rule-held done rest r (said_ordinal name names) e i k h f = tt
    rule-held done rest r (said_base name heading typed) e i k h f = tt
    rule-held done rest r (said_view name t) e i k h f = tt
    rule-held done rest r (said_stored name t) e i k h f = absurd (true≢false (sym k))
    rule-held done rest r (said_history made') e i k h f = tt
    rule-held done rest r (said_rule name t) e i k h f =
        held-here w ds made well none r h.fits
        (alike-here w ds made well (early_said ds ++ (views_said ds ++ done)) rest (said_rule name t) (rules-whole done rest (said_rule name t) e) r h.stands h.fits) h.bases held name t i
        (known-rule w ds made well none done r h.stands name t i) f

    rules-step : (done rest : List Said) (d : Said) (t : SourceText) (r : State) (types more : List OrdinalNames) → rules_of ds ≡ done ++ d ∷ rest → InRules done r
        → flat_map ordinals_said ((early_said ds ++ views_said ds) ++ done) ≡ types ++ more
        → IsTextOf (record w { ordinals = types }) t d
        → IsStepFor w r types more t d
    rules-step done rest d t r types more e h same text =
        let is = kind-of is_rule_said ds done rest d e in
        step-for w ds made well (early_said ds ++ (views_said ds ++ done)) rest d (rules-whole done rest d e) r h.stands h.fits t types more
        (ap (flat_map ordinals_said) (sym (append_assoc (early_said ds) (views_said ds) done)) ∙ same) text (rule-known-here done r d is.0 is.1 h)
        (rule-held done rest r d e is.0 is.1 h)

    rules-next : (done rest : List Said) (d : Said) (t : SourceText) (place : Place) (bytes : List ℕ) (r : State) → rules_of ds ≡ done ++ d ∷ rest → InRules done r → (x : Declares place bytes r t d)
        → InRules (done ++ d ∷ []) (counted (with_said r (moved_said x.move d)))
    rules-next done rest d t place bytes r e h x =
        let is = kind-of is_rule_said ds done rest d e in
        let same : (early_said ds ++ (views_said ds ++ done)) ++ d ∷ [] ≡ early_said ds ++ (views_said ds ++ (done ++ d ∷ [])) =
        append_assoc (early_said ds) (views_said ds ++ done) (d ∷ []) ∙ ap (λ (l : List Said). early_said ds ++ l) (append_assoc (views_said ds) done (d ∷ [])) in
        subst (λ (l : List Said). StandsLate w l (counted (with_said r (moved_said x.move d)))) same (late-next (early_said ds ++ (views_said ds ++ done)) d t place bytes r (inr is.1) h x)

    pub rules-taken : (ts : List SourceText) (r : State) (texts : List SourceText) (After : Outcome) → StandsLate w (early_said ds ++ views_said ds) r
        → AreSaidFrom w (flat_map ordinals_said (early_said ds ++ views_said ds)) ts (rules_of ds)
        → ((last : State) → StandsLate w (in_script_order ds) last → After last (texts ++ ts))
        → TakesAll (map (λ (t : SourceText). t.bytes) ts) r texts After
    rules-taken ts r texts After h said then =
        segment-taken text-step w (early_said ds ++ views_said ds) (rules_of ds) InRules rules-step rules-next [] (rules_of ds) ts r texts After refl
        (subst (λ (l : List Said). StandsLate w (early_said ds ++ l) r) (sym (append-nil (views_said ds))) h)
        (subst (λ (l : List Said). AreSaidFrom w (flat_map ordinals_said l) ts (rules_of ds)) (sym (append-nil (early_said ds ++ views_said ds))) said) then
