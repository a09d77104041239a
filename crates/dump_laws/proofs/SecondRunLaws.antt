-- The statements of a dumped script are accepted one after the other, where there is no log.
--     Behind      what stands behind all of them
--     all-taken      the law
use Rattle.std.proofs.Common.{◌≡◌, ℕ, false, List, [], ◌++◌, refl, sym, ap₂, ◌∙◌, subst, append_assoc, append-nil}
use Rattle.std.specs.List.{filter, flat_map}
use Rattle.value_core.specs.declared.list.OrdinalNames.{OrdinalNames}
use Rattle.tree_core.specs.Relvars.{State}
use Rattle.meaning_core.specs.Logs.{has_log}
use Rattle.meaning_core.specs.WellMade.{IsWellMade}
use Rattle.assign_core.specs.Databases.{no_relvars}
use Rattle.assign_core.specs.Databases.{IsKept}
use Rattle.assign_core.specs.Room.{HasStoredRoom}
use Rattle.dump_core.specs.declared.texts.TextKind.TheVariants.{Early, View, Rule}
use Rattle.dump_core.specs.Dumps.{statements_of}
use Rattle.dump_core.specs.Inserts.{HaveRelations, rows_of_state}
use Rattle.dump_core.specs.Texts.{SourceText, of_kind}
use Rattle.typing_laws.specs.Saying.{Said, ordinals_said}
use Rattle.dump_laws.specs.Kept.{is_early_said, is_view_said, AreTexts, IsMadeOf}
use Rattle.std.proofs.lemmas.List.Concat.{flat_map-append}
use Rattle.dump_laws.specs.Accepting.{Outcome, TakesAll}
use Rattle.dump_laws.specs.Bringing.{CanBring}
use Rattle.dump_laws.specs.Phases.{StandsEarly, StandsLate}
use Rattle.dump_laws.specs.Standing.{in_script_order, AreSaidFrom}
use Rattle.dump_laws.proofs.AcceptingLaws.{all-more}
use Rattle.dump_laws.proofs.KindTexts.{texts_in_order}
use Rattle.dump_laws.proofs.OrderLaws.{none-left, view-ordinals, early-ordinals}
use Rattle.dump_laws.proofs.PhaseLaws.{KeepsMade, early-taken, views-taken, rules-taken}
use Rattle.dump_laws.proofs.ReachedLaws.{early_said, views_said, rules_of}
use Rattle.dump_laws.proofs.RowsLaws.{with_rows, rows-taken}
use Rattle.dump_laws.proofs.SaidTexts.{texts_of_kind, early-said, view-said, rule-said}
use Rattle.dump_laws.proofs.SegmentLaws.{TextStep}
use Rattle.dump_laws.proofs.StandingLaws.{none-stand}

module _ (text-step : TextStep) (keeps-made : KeepsMade) (empty-made : IsWellMade no_relvars) (w : State) (texts : List SourceText) (ds : List Said) (said : AreTexts w texts ds)
    (made : IsMadeOf w ds) (kept : IsKept w)
    (relations : HaveRelations w.relvars) (room : HasStoredRoom w) (none : has_log w.relvars ≡ false) (can : (r : State) → StandsEarly (filter is_early_said ds) r → CanBring w.ordinals (with_rows w r))
  where
    -- all is declared, and the texts are those of the first run, in the order of the script
    abbrev pub Behind : Outcome
    Behind last left = StandsLate w (in_script_order ds) last × (left ≡ texts_in_order texts)

    first : StandsEarly [] no_relvars
    first = record { stands = none-stand no_relvars refl refl refl; fits = empty-made; bare = tt }

    -- all ordinal types are declared before the rows
    views-types : flat_map ordinals_said (early_said ds ++ views_said ds) ≡ w.ordinals
    views-types =
        flat_map-append ordinals_said (early_said ds) (views_said ds)
        ∙ (ap₂ (λ (k l : List OrdinalNames). k ++ l) (early-ordinals w ds made) (none-left ordinals_said is_view_said ds view-ordinals) ∙ append-nil w.ordinals)

    views-here : AreSaidFrom w (flat_map ordinals_said (early_said ds)) (texts_of_kind View texts) (views_said ds)
    views-here = subst (λ (l : List OrdinalNames). AreSaidFrom w l (texts_of_kind View texts) (views_said ds)) (sym (early-ordinals w ds made)) (view-said w texts ds made.ordinals said)

    rules-here : AreSaidFrom w (flat_map ordinals_said (early_said ds ++ views_said ds)) (texts_of_kind Rule texts) (rules_of ds)
    rules-here = subst (λ (l : List OrdinalNames). AreSaidFrom w l (texts_of_kind Rule texts) (rules_of ds)) (sym views-types) (rule-said w texts ds made.ordinals said)

    -- behind the texts of views
    from-rules : (r : State) → StandsLate w (early_said ds ++ views_said ds) r → TakesAll (of_kind Rule texts) r (texts_of_kind Early texts ++ texts_of_kind View texts) Behind
    from-rules r h =
        rules-taken text-step keeps-made w ds made kept.well_made kept.rules none (texts_of_kind Rule texts) r (texts_of_kind Early texts ++ texts_of_kind View texts) Behind h rules-here
        (λ last k. (k, append_assoc (texts_of_kind Early texts) (texts_of_kind View texts) (texts_of_kind Rule texts)))

    -- behind the rows
    from-views : (r : State) → StandsLate w (early_said ds) r → TakesAll (of_kind View texts ++ of_kind Rule texts) r (texts_of_kind Early texts) Behind
    from-views r h =
        all-more (of_kind View texts) (of_kind Rule texts) r (texts_of_kind Early texts) Behind
        (views-taken text-step keeps-made w ds made kept.well_made none room (texts_of_kind View texts) r (texts_of_kind Early texts)
        (λ next more. TakesAll (of_kind Rule texts) next more Behind) h views-here from-rules)

    -- behind the texts before the rows
    from-rows : (r : State) → StandsEarly (early_said ds) r → TakesAll (rows_of_state w ++ (of_kind View texts ++ of_kind Rule texts)) r (texts_of_kind Early texts) Behind
    from-rows r h =
        all-more (rows_of_state w) (of_kind View texts ++ of_kind Rule texts) r (texts_of_kind Early texts) Behind
        (rows-taken w ds made kept relations r h (can r h) (texts_of_kind Early texts) (λ next more. TakesAll (of_kind View texts ++ of_kind Rule texts) next more Behind) from-views)

    -- the statements of the script, each kind before the later ones
    abbrev in_parts : List (List ℕ)
    in_parts = of_kind Early texts ++ (rows_of_state w ++ (of_kind View texts ++ of_kind Rule texts))

    as-parts : in_parts ≡ statements_of texts w
    as-parts =
        sym (append_assoc (of_kind Early texts) (rows_of_state w) (of_kind View texts ++ of_kind Rule texts)) ∙ sym
        (append_assoc (of_kind Early texts ++ rows_of_state w) (of_kind View texts) (of_kind Rule texts))

    pub all-taken : TakesAll (statements_of texts w) no_relvars [] Behind
    all-taken =
        subst (λ (ss : List (List ℕ)). TakesAll ss no_relvars [] Behind) as-parts
        (all-more (of_kind Early texts) (rows_of_state w ++ (of_kind View texts ++ of_kind Rule texts)) no_relvars [] Behind
        (early-taken text-step keeps-made w ds made kept.well_made (texts_of_kind Early texts) no_relvars
        (λ next more. TakesAll (rows_of_state w ++ (of_kind View texts ++ of_kind Rule texts)) next more Behind) first
        (early-said w [] texts ds said) from-rows))
