-- A script whose statements are accepted one after the other gives the database back.
--     same-script      the script of the state behind it is the same
--     given-back      the law, where the statements are accepted
use Rattle.std.proofs.Common.{◌≡◌, ℕ, true, List, [], ◌++◌, length, refl, arith, sym, ap, ◌∙◌, subst}
use Rattle.std.specs.List.{All}
use Rattle.base_core.proofs.ListLemmas.{All-In}
use Rattle.relation_core.proofs.FilterLemmas.{take_all}
use Rattle.value_core.specs.declared.list.OrdinalNames.{OrdinalNames}
use Rattle.tree_core.specs.Relvars.{State}
use Rattle.assign_core.specs.Databases.{no_relvars}
use Rattle.dump_core.specs.declared.texts.TextKind.TheVariants.{Early, View, Rule}
use Rattle.dump_core.specs.Dumps.{statements_of, script_with}
use Rattle.dump_core.specs.Inserts.{rows_of_entries, rows_of_state}
use Rattle.dump_core.specs.Texts.{SourceText, of_kind}
use Rattle.text_laws.specs.Statements.{IsOneStatement}
use Rattle.utd_statement.specs.Readings.{Reading}
use Rattle.utd_session.specs.Machine.{Step, performed}
use Rattle.utd_session.specs.Readings.{AreReadings}
use Rattle.utd_session.specs.Run.{IsAfter}
use Rattle.utd_session.specs.Statements.{Statement, first_place, statements, statements_within}
use Rattle.utd_session.proofs.DumpLemmas.{dump_logless}
use Rattle.utd_session.proofs.StatementLemmas.{within_short}
use Rattle.part_laws.proofs.ThroughLemmas.{inserts-bases}
use Rattle.dump_laws.proofs.Cuts.{in_order, texts_in, cut-lines}
use Rattle.dump_laws.proofs.ListLaws.{each-in}
use Rattle.dump_laws.specs.Accepting.{Outcome, TakesAll}
use Rattle.dump_laws.specs.Back.{IsSameState, GivesBack}
use Rattle.dump_laws.proofs.AcceptingLaws.{HasTaken, has-taken, ones-taken}
use Rattle.dump_laws.proofs.KindTexts.{texts_in_order, ordered-early, ordered-views, ordered-rules}
use Rattle.dump_laws.proofs.ScriptLaws.{IsScriptOf, all-forms}

-- the state has the same script
pub same-script : (w r : State) (texts left : List SourceText) → IsSameState w r → left ≡ texts_in_order texts → statements_of left r ≡ statements_of texts w
same-script w r texts left same e =
    let rows : rows_of_state r ≡ rows_of_state w = ap (λ (types : List OrdinalNames). rows_of_entries types r.relvars) same.ordinals ∙ inserts-bases w.ordinals r.relvars w.relvars same.bases in
    let early : of_kind Early left ≡ of_kind Early texts = ap (of_kind Early) e ∙ ordered-early texts in
    let views : of_kind View left ≡ of_kind View texts = ap (of_kind View) e ∙ ordered-views texts in
    let rules : of_kind Rule left ≡ of_kind Rule texts = ap (of_kind Rule) e ∙ ordered-rules texts in
    λ i. early i ++ rows i ++ views i ++ rules i

module _ (w : State) (texts : List SourceText) (x : List ℕ) (is : IsScriptOf (statements_of texts w) x) (After : Outcome)
    (same : (r : State) (left : List SourceText) → After r left → IsSameState w r × (left ≡ texts_in_order texts))
    (taken : TakesAll (statements_of texts w) no_relvars [] After)
  where
    ones : All IsOneStatement (statements_of texts w)
    ones = All-In IsOneStatement (statements_of texts w) (each-in IsOneStatement (statements_of texts w) (ones-taken (statements_of texts w) no_relvars [] After taken))

    cut-so : statements x ≡ in_order first_place (texts_in (statements_of texts w))
    cut-so = ap statements is.is ∙ cut-lines (statements_of texts w) ones

    run-so : HasTaken (statements x) no_relvars [] After
    run-so =
        subst (λ (ss : List Statement). HasTaken ss no_relvars [] After) (sym cut-so)
        (has-taken first_place (statements_of texts w) (texts_in (statements_of texts w)) no_relvars [] After (all-forms (statements_of texts w) is.short) taken)

    whole-read : (ss : List Statement) (rs : List Reading) → ss ≡ statements x → AreReadings (statements x) rs → IsAfter ss (length ss) (performed rs)
    whole-read ss rs e read =
        (rs, subst (λ (ts : List Statement). AreReadings ts rs) (sym e ∙ sym (take_all (length ss) ss (omega arith))) read, refl)

    pub given-back : GivesBack x w
    given-back =
        let run : HasTaken (statements x) no_relvars [] After = run-so in
        let step : performed run.readings ≡ record { state = run.state; output = []; accepted = true } = run.steps 1 in
        let state : (performed run.readings).state ≡ run.state = ap (λ (s : Step). s.state) step in
        let both : IsSameState w run.state × (run.left ≡ texts_in_order texts) = same run.state run.left run.after in
        let here : IsSameState w (performed run.readings).state = subst (IsSameState w) (sym state) both.0 in
        record {
          again = performed run.readings;
          texts = run.left;
          read = whole-read (statements_within x) run.readings (within_short x is.few) run.read;
          accepted = ap (λ (s : Step). s.accepted) step;
          silent = ap (λ (s : Step). s.output) step;
          same = here;
          kept = (run.readings, run.read, sym run.kept);
          back = dump_logless run.left (performed run.readings).state here.logless_there
              ∙ (ap script_with (same-script w (performed run.readings).state texts run.left here both.1) ∙ is.again);
        }
