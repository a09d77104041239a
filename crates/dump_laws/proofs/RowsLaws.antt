-- The statements of a dumped script that insert rows are accepted, and give the base relvars their values.
--     with_rows      the relvars of the second run with the values of the first
--     rows-bases, rows-logless, rows-unstored      they have the base relvars of the first, no log, and no stored view
--     loadable-rows      its rows can come in
--     rows-taken      the law
use Rattle.std.proofs.Common.{◌≡◌, ℕ, ◌+◌, true, false, List, [], refl, sym, ap, ◌∙◌, subst}
use Rattle.std.specs.List.{filter, flat_map}
use Rattle.point_core.specs.declared.fault.Place.{Place}
use Rattle.tree_core.specs.Relvars.{State, Entries, Rules}
use Rattle.meaning_core.specs.Declarations.{counted}
use Rattle.meaning_core.specs.Logs.{has_log}
use Rattle.meaning_core.specs.WellMade.{IsWellMade}
use Rattle.meaning_core.proofs.AcceptedLemmas.{made-counted}
use Rattle.meaning_core.proofs.LogLemmas.{turned-none}
use Rattle.meaning_core.proofs.RowlessLemmas.{bare-keeps}
use Rattle.stored_views.specs.Stored.{has_stored}
use Rattle.dump_core.specs.Inserts.{rows_a_statement, rows_of_state, HaveRelations}
use Rattle.dump_core.specs.Texts.{SourceText}
use Rattle.assign_core.specs.Databases.{IsKept}
use Rattle.utd_lexer.specs.Gaps.{without_gaps}
use Rattle.utd_statement.specs.Keeping.{Keeping, settled, texts_after}
use Rattle.utd_statement.specs.Readings.{Tree as TreeOf}
use Rattle.typing_laws.specs.Saying.{Said, entries_said, rules_said}
use Rattle.part_laws.specs.Parts.{is_base, loaded, filled, AreEmptied, IsLoadable}
use Rattle.part_laws.specs.Steps.{HoldsBefore}
use Rattle.part_laws.proofs.BaseLemmas.{bases-kept}
use Rattle.part_laws.proofs.FilledLemmas.{loadable-state, loadable-kept, filled-bases, filled-begins, loadable-filled}
use Rattle.part_laws.proofs.ThroughLemmas.{inserts-through, inserts-bases}
use Rattle.dump_laws.specs.Kept.{is_early, is_early_said, IsMadeOf}
use Rattle.dump_laws.specs.Accepting.{Outcome, TakesAll}
use Rattle.dump_laws.specs.Bringing.{Brings, CanBring}
use Rattle.dump_laws.specs.Phases.{StandsEarly, StandsLate}
use Rattle.dump_laws.specs.Standing.{AreLikeEntries, AreMovedRules}
use Rattle.dump_laws.proofs.LikeEntries.{like-full, like-bare, like-logless, like-unstored, no-rules, like-emptied, filled-like, filled-rowless}
use Rattle.dump_laws.proofs.LoadedLaws.{early-logless, loaded-logless, early-unstored}
use Rattle.dump_laws.proofs.OrderLaws.{none-left, early-rules, early-ordinals}

-- a statement that keeps no text
brings-text : (place : Place) (bytes : List ℕ) (s : State) (now : Entries) (x : Brings place bytes s now) (texts : List SourceText) → texts_after bytes (TreeOf x.tree) true texts ≡ texts
brings-text place bytes s now x texts = ap (λ (k : Keeping). settled k (without_gaps bytes) true texts) x.keeping

-- the relvars of the second run with the values of the first
abbrev pub with_rows : State → State → Entries
with_rows w r = filled (filter is_early w.relvars) r.relvars

module _ (w : State) (ds : List Said) (made : IsMadeOf w ds) (kept : IsKept w) (relations : HaveRelations w.relvars) (r : State) (h : StandsEarly (filter is_early_said ds) r) where
  abbrev full : Entries
  full = filled (filter is_early w.relvars) r.relvars

  like-early : AreLikeEntries (filter is_early w.relvars) r.relvars
  like-early = like-full (filter is_early w.relvars) r.relvars (subst (λ (es : Entries). AreLikeEntries es r.relvars) (sym made.early) h.stands.relvars)

  as-emptied : AreEmptied (filter is_early w.relvars) r.relvars
  as-emptied = like-emptied (filter is_early w.relvars) r.relvars like-early h.bare

  pub rows-bases : filter is_base full ≡ filter is_base w.relvars
  rows-bases = filled-bases (filter is_early w.relvars) r.relvars as-emptied ∙ bases-kept is_early w.relvars (λ name v c. refl)

  pub loadable-rows : IsLoadable full
  loadable-rows = loadable-filled (filter is_early w.relvars) r.relvars as-emptied (loadable-kept is_early w.relvars (λ name v c. refl) (loadable-state w kept relations))

  pub rows-logless : has_log full ≡ false
  rows-logless = like-logless (filter is_early w.relvars) full (filled-like (filter is_early w.relvars) r.relvars like-early) (early-logless w.relvars)

  pub rows-unstored : has_stored full ≡ false
  rows-unstored = like-unstored (filter is_early w.relvars) full (filled-like (filter is_early w.relvars) r.relvars like-early) (early-unstored w.relvars)

  -- no rows yet
  at-first : r.relvars ≡ loaded 0 0 full
  at-first = sym (filled-begins (filter is_early w.relvars) r.relvars as-emptied)

  first-ordinals : r.ordinals ≡ w.ordinals
  first-ordinals = h.stands.ordinals ∙ early-ordinals w ds made

  no-said-rules : flat_map rules_said (filter is_early_said ds) ≡ []
  no-said-rules = none-left rules_said is_early_said ds early-rules

  first-rules : r.rules ≡ []
  first-rules = no-rules r.rules (subst (λ (rs : Rules). AreMovedRules rs r.rules) no-said-rules h.stands.rules)

  -- all rows
  all-stand : (s : State) → s.relvars ≡ full → s.ordinals ≡ w.ordinals → s.rules ≡ [] → StandsLate w (filter is_early_said ds) s
  all-stand s e o n = record {
    stands = record {
      ordinals = o ∙ sym (early-ordinals w ds made);
      relvars =
          subst (λ (es : Entries). AreLikeEntries (flat_map entries_said (filter is_early_said ds)) es) (sym e)
          (subst (λ (es : Entries). AreLikeEntries es full) made.early
          (like-bare (filter is_early w.relvars) full (filled-like (filter is_early w.relvars) r.relvars like-early)));
      rules =
          subst (λ (rs : Rules). AreMovedRules rs s.rules) (sym no-said-rules) (subst (λ (rs : Rules). AreMovedRules [] rs) (sym n) tt);
    };
    fits = subst IsWellMade as-full (made-counted (record r { relvars = full }) s.accepted (bare-keeps r full (filled-rowless (filter is_early w.relvars) r.relvars like-early) h.fits));
    bases = ap (filter is_base) e ∙ rows-bases;
  }
    where
      as-full : record r { relvars = full; accepted = s.accepted } ≡ s
      as-full = λ i. record { ordinals = (first-ordinals ∙ sym o) i; relvars = sym e i; rules = (first-rules ∙ sym n) i; accepted = s.accepted }

  module _ (can : CanBring w.ordinals full) (texts : List SourceText) (After : Outcome) (then : (last : State) → StandsLate w (filter is_early_said ds) last → After last texts) where
    -- from a database with such relvars on, the statements are accepted
    abbrev Through : Entries → List (List ℕ) → Type 0
    Through now scripts = (s : State) → s.relvars ≡ now → s.ordinals ≡ w.ordinals → s.rules ≡ [] → TakesAll scripts s texts After

    one-more : HoldsBefore w.ordinals full Through
    one-more i n name v c later stands less may more = λ s e o none place bytes form.
        let now : Entries = loaded i (n + rows_a_statement name c) full in
        let x : Brings place bytes s now = can i n name v c s stands less may e none o place bytes form in
        let next : State = record s { relvars = now } in (
          TreeOf x.tree,
          next,
          x.one,
          x.text,
          x.answered,
          subst (λ (us : List SourceText). TakesAll later (counted next) us After) (sym (brings-text place bytes s now x texts)) (more (counted next) (turned-none now (loaded-logless i (n + rows_a_statement name c) full rows-logless)) o none),
        )

    pub rows-taken : TakesAll (rows_of_state w) r texts After
    rows-taken =
        subst (λ (l : List (List ℕ)). TakesAll l r texts After) (sym (inserts-bases w.ordinals w.relvars full (sym rows-bases)))
        (inserts-through w.ordinals full loadable-rows Through (λ s e o n. then s (all-stand s e o n)) one-more r at-first first-ordinals first-rules)
