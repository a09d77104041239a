-- A dumped script gives the database back, where there is no log.
--     text-step, can-bring      each statement of it is accepted
--     made-back      of a state that the texts of a run make
--     gives-back      the law
use Rattle.std.proofs.Common.{◌≡◌, inl, inr, ℕ, zero, suc, ◌+◌, ◌≤◌, false, List, [], ◌∷◌, length, take, drop, refl, sym, ap, ◌∙◌, subst, arith, Some}
use Rattle.std.specs.List.{filter}
use Rattle.base_core.proofs.MemberLemmas.{In-filter}
use Rattle.base_core.proofs.SetLemmas.{In}
use Rattle.relation_core.proofs.FilterLemmas.{take_all}
use Rattle.point_core.specs.declared.fault.Place.{Place}
use Rattle.value_core.specs.declared.constraint.Constraint.{Constraint}
use Rattle.value_core.specs.declared.list.OrdinalNames.{OrdinalNames}
use Rattle.value_core.specs.Values.{Name, Relation}
use Rattle.tree_core.specs.Relvars.{State, PlainRelvar, base, Entries}
use Rattle.meaning_core.specs.Logs.{has_log}
use Rattle.dump_core.specs.Dumps.{script_of, statements_of}
use Rattle.dump_core.specs.Inserts.{insert_script, rows_a_statement}
use Rattle.dump_core.specs.Texts.{SourceText}
use Rattle.utd_session.specs.Machine.{Step, performed}
use Rattle.utd_session.specs.Readings.{AreReadings}
use Rattle.utd_session.specs.Run.{IsAfter}
use Rattle.utd_session.specs.Statements.{Statement, statements, statements_within, most_bytes}
use Rattle.utd_session.specs.Texts.{AreTextsOf}
use Rattle.utd_session.proofs.Laws.{readings_one}
use Rattle.utd_session.proofs.StatementLemmas.{within_short}
use Rattle.constant_texts.specs.Sayable.{AreSayable}
use Rattle.typing_laws.specs.Saying.{Said}
use Rattle.part_laws.specs.Parts.{is_base, loaded, IsAt}
use Rattle.part_laws.proofs.LoadedLemmas.{relation-at}
use Rattle.part_laws.proofs.StepLemmas.{some-a-statement}
use Rattle.dump_laws.specs.Kept.{AreTexts, IsMadeOf, is_early_said}
use Rattle.dump_laws.proofs.RunLaws.{none-made, run-kept}
use Rattle.dump_laws.specs.Replays.{Declares}
use Rattle.dump_laws.specs.Loads.{IsLoadFor, Loads}
use Rattle.dump_laws.proofs.TextSteps.{text-first-step, text-later-step}
use Rattle.dump_laws.proofs.InsertSteps.{insert-first-step, insert-later-step}
use Rattle.dump_laws.specs.Back.{IsSound, GivesBack}
use Rattle.dump_laws.specs.Bringing.{Brings, CanBring}
use Rattle.dump_laws.specs.Phases.{StandsEarly}
use Rattle.dump_laws.proofs.DeclaredMade.{keeps-made}
use Rattle.dump_laws.proofs.GivenBack.{given-back}
use Rattle.dump_laws.proofs.RowsLaws.{with_rows, rows-bases, rows-logless, rows-unstored, loadable-rows}
use Rattle.dump_laws.proofs.SecondRunLaws.{Behind, all-taken}
use Rattle.dump_laws.proofs.SameLaws.{same-state}
use Rattle.dump_laws.proofs.ScriptLaws.{script-is}
use Rattle.dump_laws.proofs.SegmentLaws.{TextStep}
use Rattle.dump_laws.proofs.WrittenStates.{CanBeWritten, state-written}

-- ---- one statement

pub text-step : TextStep
text-step w r types more t d is place bytes form = elim form [
  | inl e ↦ subst (λ (b : List ℕ). Declares place b r t d) (sym e) (text-first-step w r types more t d is place)
  | inr e ↦ subst (λ (b : List ℕ). Declares place b r t d) (sym e) (text-later-step w r types more t d is place)
]

as-brought : (place : Place) (bytes : List ℕ) (es : Entries) (i n : ℕ) (s : State) → Loads place bytes es i n s → Brings place bytes s (loaded i n es)
as-brought place bytes es i n s x = record { tree = x.tree; text = x.text; keeping = x.keeping; answered = x.answered; one = x.one }

at-in : (es : Entries) (i : ℕ) (e : Name × PlainRelvar) → IsAt es i e → In e es
at-in [] i e at = absurd at
at-in (d ∷ es) zero e at = inl (sym at)
at-in (d ∷ es) (suc i) e at = inr (at-in es i e at)

module _ (w : State) (ds : List Said) (made : IsMadeOf w ds) (sound : IsSound w) (written : CanBeWritten w) (r : State) (h : StandsEarly (filter is_early_said ds) r) where
  abbrev full : Entries
  full = with_rows w r

  in-first : (name : Name) (v : Relation) (c : List Constraint) → In (name, base v c) full → In (name, base v c) w.relvars
  in-first name v c i =
      let kept : In (name, base v c) (filter is_base w.relvars) =
      subst (In (name, base v c)) (rows-bases w ds made sound.0 sound.1 r h) ((In-filter is_base (name, base v c) full).1 (i, refl)) in
      ((In-filter is_base (name, base v c) w.relvars).0 kept).0

  pub can-bring : CanBring w.ordinals full
  can-bring i n name v c s stands less may now none types place bytes form =
      let loadable = loadable-rows w ds made sound.0 sound.1 r h in
      let relation = relation-at full i name v c loadable.relations stands in
      let size : ℕ = rows_a_statement name c in
      let load : IsLoadFor full i n size name v c s = record {
        loadable = loadable;
        stands = stands;
        less = less;
        some = some-a-statement name c;
        may = may;
        now = now;
        none = none;
        logless = rows-logless w ds made sound.0 sound.1 r h;
        unstored = rows-unstored w ds made sound.0 sound.1 r h;
        sayable = subst (λ (os : List OrdinalNames). AreSayable os name v.heading) (sym types) (written name v c (in-first name v c (at-in full i (name, base v c) stands)));
      } in
      let script : List OrdinalNames → List ℕ = λ os. insert_script os name v.heading (take size (drop n v.rows)) in
      as-brought place bytes full i (n + size) s
      (elim form [
        | inl e ↦ subst (λ (b : List ℕ). Loads place b full i (n + size) s) (ap script types ∙ sym e) (insert-first-step full i n size name v c s load place)
        | inr e ↦ subst (λ (b : List ℕ). Loads place b full i (n + size) s) (ap (λ (os : List OrdinalNames). 10 ∷ script os) types ∙ sym e) (insert-later-step full i n size name v c s load place)
      ])

-- ---- the law

-- of a state that the texts of a run make
pub made-back : (w : State) (texts : List SourceText) (ds : List Said) (x : List ℕ) → AreTexts w texts ds → IsMadeOf w ds → IsSound w → has_log w.relvars ≡ false
    → script_of texts w ≡ Some x → GivesBack x w
made-back w texts ds x said made sound none e =
    let can : (r : State) → StandsEarly (filter is_early_said ds) r → CanBring w.ordinals (with_rows w r) = can-bring w ds made sound (state-written w texts ds said made sound.0.well_made) in
    given-back w texts x (script-is (statements_of texts w) x e) (Behind text-step keeps-made none-made w texts ds said made sound.0 sound.1 sound.2 none can)
    (λ r left h. (same-state w ds made sound.0.well_made none r h.0, h.1)) (all-taken text-step keeps-made none-made w texts ds said made sound.0 sound.1 sound.2 none can)

-- the run whose state is dumped
module _ (bytes : List ℕ) (step : Step) (texts : List SourceText) (few : length bytes ≤ most_bytes) (after : IsAfter (statements_within bytes) (length (statements_within bytes)) step)
    (are : AreTextsOf bytes texts)
  where
    -- the statements are read as one only
    all-read : take (length (statements_within bytes)) (statements_within bytes) ≡ statements bytes
    all-read = take_all (length (statements_within bytes)) (statements_within bytes) (omega arith) ∙ within_short bytes few

    one-step : step ≡ performed are.0
    one-step = after.2 ∙ ap performed (readings_one (statements bytes) after.0 are.0 (subst (λ (ts : List Statement). AreReadings ts after.0) all-read after.1) are.1)

    one-state : (performed are.0).state ≡ step.state
    one-state = ap (λ (s : Step). s.state) (sym one-step)

    run-back : (x : List ℕ) → IsSound step.state → has_log step.state.relvars ≡ false → script_of texts step.state ≡ Some x → GivesBack x step.state
    run-back x sound none e =
        let run = run-kept bytes are.0 are.1 in
        let said : AreTexts step.state texts run.0 =
        subst (λ (w : State). AreTexts w texts run.0) one-state (subst (λ (ts : List SourceText). AreTexts (performed are.0).state ts run.0) (sym are.2) run.1) in
        let made : IsMadeOf step.state run.0 = subst (λ (w : State). IsMadeOf w run.0) one-state run.2 in
        made-back step.state texts run.0 x said made sound none e

pub gives-back : (bytes : List ℕ) (step : Step) (texts : List SourceText) (x : List ℕ) → length bytes ≤ most_bytes → IsAfter (statements_within bytes) (length (statements_within bytes)) step
    → AreTextsOf bytes texts
    → IsSound step.state → has_log step.state.relvars ≡ false → script_of texts step.state ≡ Some x → GivesBack x step.state
gives-back bytes step texts x few after are sound none e = run-back bytes step texts few after are x sound none e
