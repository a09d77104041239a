use Rattle.std.proofs.Common.{refl, sym, subst, ◌∙◌, None, Bool, Ok}
use Rattle.tree_core.specs.Relvars.{State, read_relvars}
use Rattle.meaning_core.specs.Logs.{AreInStep}
use Rattle.assign_core.specs.Databases.{IsKept}
use Rattle.assign_core.specs.Hashed.{AreHashed}
use Rattle.assign_core.specs.NewRows.{joining, IsToldOf}
use Rattle.assign_core.proofs.GainedLemmas.{gains, has_room_for, is_back, once, within}
use Rattle.assign_core.proofs.LogLemmas.{hashed_turned, turned_kept}
use Rattle.assign_core.proofs.UnstoredLemmas.{unstored_counted, unstored_same}
use Rattle.assign_core.proofs.gaining.bring_gained.Goals as goal

pub count_change-requires-clause-once : goal.count_change-requires-clause-once
count_change-requires-clause-once g c =
    let s = read_relvars c.args.relvars.now in
    let mid = read_relvars c.bring.new.relvars in
    let gain = c.requires.gain in
    let told = subst (λ (b : Bool). IsToldOf (joining None) (Ok b) s mid c.args.target.now c.args.rows) c.in-Ok-true.field-0-test c.in-Ok-true.ensures.brought in
    once s c.args.target.now c.args.rows c.args.gain.now.at gain.old c.requires.kept c.requires.step gain.may mid told

pub count_change-requires-clause-changing : goal.count_change-requires-clause-changing
count_change-requires-clause-changing g c =
    let s = read_relvars c.args.relvars.now in
    let mid = read_relvars c.bring.new.relvars in
    let gain = c.requires.gain in
    let told = subst (λ (b : Bool). IsToldOf (joining None) (Ok b) s mid c.args.target.now c.args.rows) c.in-Ok-true.field-0-test c.in-Ok-true.ensures.brought in
    gains s c.args.target.now c.args.rows c.args.gain.now.at gain.old c.requires.kept c.requires.step gain.may mid told c.args.gain.now.rows.come c.args.gain.now.rows.gone gain.headed gain.new gain.gone

pub take_back-requires : goal.take_back-requires
take_back-requires g c =
    let s = read_relvars c.args.relvars.now in
    let mid = read_relvars c.bring.new.relvars in
    let gain = c.requires.gain in
    let told = subst (λ (b : Bool). IsToldOf (joining None) (Ok b) s mid c.args.target.now c.args.rows) c.in-Ok-true.field-0-test c.in-Ok-true.ensures.brought in
    record {
      at = within s c.args.target.now c.args.rows c.args.gain.now.at gain.old c.requires.kept c.requires.step gain.may mid told c.count_change.new.relvars.list.entries
          (λ i. (c.in-Err-count_change.ensures.err i).relvars);
    }

pub returns-in-Ok-clause-brought : goal.returns-in-Ok-clause-brought
returns-in-Ok-clause-brought g c =
    let s = read_relvars c.args.relvars.now in
    let mid = read_relvars c.bring.new.relvars in
    let told = subst (λ (b : Bool). IsToldOf (joining None) (Ok b) s mid c.args.target.now c.args.rows) c.in-Ok-true.field-0-test c.in-Ok-true.ensures.brought in
    (mid, told, c.in-Ok.ensures.counted)

pub returns-in-Ok-clause-beside : goal.returns-in-Ok-clause-beside
returns-in-Ok-clause-beside g c =
    let gain = c.requires.gain in
    has_room_for (read_relvars c.args.relvars.now) c.args.target.now c.args.rows c.args.gain.now.at gain.old c.requires.kept c.requires.step gain.may

pub returns-in-Ok-clause-kept : goal.returns-in-Ok-clause-kept
returns-in-Ok-clause-kept g c = subst IsKept (sym c.in-Ok.ensures.counted) (turned_kept (read_relvars c.bring.new.relvars) c.in-Ok-true.ensures.kept)

pub returns-in-Ok-clause-hashed : goal.returns-in-Ok-clause-hashed
returns-in-Ok-clause-hashed g c =
    let mid = read_relvars c.bring.new.relvars in
    subst (λ (t : State). AreHashed c.bring.new.hashed t.relvars) (sym c.in-Ok.ensures.counted) (hashed_turned c.bring.new.hashed mid.relvars c.in-Ok-true.ensures.hashed)

pub returns-in-Err-count_change-clause-brought : goal.returns-in-Err-count_change-clause-brought
returns-in-Err-count_change-clause-brought g c =
    let s = read_relvars c.args.relvars.now in
    let mid = read_relvars c.bring.new.relvars in
    let gain = c.requires.gain in
    let told = subst (λ (b : Bool). IsToldOf (joining None) (Ok b) s mid c.args.target.now c.args.rows) c.in-Ok-true.field-0-test c.in-Ok-true.ensures.brought in (
      s,
      (λ old at there given k. (tt, refl)),
      is_back s c.args.target.now c.args.rows c.args.gain.now.at gain.old c.requires.kept c.requires.step gain.may mid told c.args.gain.now.rows.come c.count_change.new.relvars c.take_back.new.relvars gain.new
          c.in-Err-count_change.ensures.err c.take_back.ensures.list c.take_back.ensures.ordinals c.take_back.ensures.rules c.take_back.ensures.accepted,
    )

pub returns-in-Err-count_change-clause-stays : goal.returns-in-Err-count_change-clause-stays
returns-in-Err-count_change-clause-stays g c =
    let s = read_relvars c.args.relvars.now in
    let mid = read_relvars c.bring.new.relvars in
    let gain = c.requires.gain in
    let told = subst (λ (b : Bool). IsToldOf (joining None) (Ok b) s mid c.args.target.now c.args.rows) c.in-Ok-true.field-0-test c.in-Ok-true.ensures.brought in
    is_back s c.args.target.now c.args.rows c.args.gain.now.at gain.old c.requires.kept c.requires.step gain.may mid told c.args.gain.now.rows.come c.count_change.new.relvars c.take_back.new.relvars gain.new
    c.in-Err-count_change.ensures.err c.take_back.ensures.list c.take_back.ensures.ordinals c.take_back.ensures.rules c.take_back.ensures.accepted

pub returns-in-Err-count_change-clause-kept : goal.returns-in-Err-count_change-clause-kept
returns-in-Err-count_change-clause-kept g c =
    let s = read_relvars c.args.relvars.now in
    let mid = read_relvars c.bring.new.relvars in
    let gain = c.requires.gain in
    let told = subst (λ (b : Bool). IsToldOf (joining None) (Ok b) s mid c.args.target.now c.args.rows) c.in-Ok-true.field-0-test c.in-Ok-true.ensures.brought in
    subst IsKept (sym (is_back s c.args.target.now c.args.rows c.args.gain.now.at gain.old c.requires.kept c.requires.step gain.may mid told c.args.gain.now.rows.come c.count_change.new.relvars c.take_back.new.relvars gain.new
    c.in-Err-count_change.ensures.err c.take_back.ensures.list c.take_back.ensures.ordinals c.take_back.ensures.rules c.take_back.ensures.accepted)) c.requires.kept

pub returns-in-Err-count_change-clause-step : goal.returns-in-Err-count_change-clause-step
returns-in-Err-count_change-clause-step g c =
    let s = read_relvars c.args.relvars.now in
    let mid = read_relvars c.bring.new.relvars in
    let gain = c.requires.gain in
    let told = subst (λ (b : Bool). IsToldOf (joining None) (Ok b) s mid c.args.target.now c.args.rows) c.in-Ok-true.field-0-test c.in-Ok-true.ensures.brought in
    subst (λ (t : State). AreInStep t.accepted t.relvars) (sym (is_back s c.args.target.now c.args.rows c.args.gain.now.at gain.old c.requires.kept c.requires.step gain.may mid told c.args.gain.now.rows.come c.count_change.new.relvars c.take_back.new.relvars gain.new
    c.in-Err-count_change.ensures.err c.take_back.ensures.list c.take_back.ensures.ordinals c.take_back.ensures.rules c.take_back.ensures.accepted)) c.requires.step

pub returns-in-Err-count_change-clause-beside : goal.returns-in-Err-count_change-clause-beside
returns-in-Err-count_change-clause-beside g c =
    let gain = c.requires.gain in
    has_room_for (read_relvars c.args.relvars.now) c.args.target.now c.args.rows c.args.gain.now.at gain.old c.requires.kept c.requires.step gain.may

pub returns-in-Err-clause-beside : goal.returns-in-Err-clause-beside
returns-in-Err-clause-beside g c =
    let gain = c.requires.gain in
    has_room_for (read_relvars c.args.relvars.now) c.args.target.now c.args.rows c.args.gain.now.at gain.old c.requires.kept c.requires.step gain.may

pub returns-in-Ok-clause-unstored : goal.returns-in-Ok-clause-unstored
returns-in-Ok-clause-unstored g c =
    unstored_counted (read_relvars c.args.relvars.now) (read_relvars c.bring.new.relvars) (read_relvars c.count_change.new.relvars) c.requires.unstored c.in-Ok-true.ensures.logs c.in-Ok.ensures.counted

pub returns-in-Err-count_change-clause-unstored : goal.returns-in-Err-count_change-clause-unstored
returns-in-Err-count_change-clause-unstored g c =
    let s = read_relvars c.args.relvars.now in
    let mid = read_relvars c.bring.new.relvars in
    let gain = c.requires.gain in
    let told = subst (λ (b : Bool). IsToldOf (joining None) (Ok b) s mid c.args.target.now c.args.rows) c.in-Ok-true.field-0-test c.in-Ok-true.ensures.brought in
    unstored_same s (read_relvars c.take_back.new.relvars) c.requires.unstored
    (is_back s c.args.target.now c.args.rows c.args.gain.now.at gain.old c.requires.kept c.requires.step gain.may mid told c.args.gain.now.rows.come c.count_change.new.relvars c.take_back.new.relvars gain.new
    c.in-Err-count_change.ensures.err c.take_back.ensures.list c.take_back.ensures.ordinals c.take_back.ensures.rules c.take_back.ensures.accepted)

pub returns-in-Ok-false-clause-unstored : goal.returns-in-Ok-false-clause-unstored
returns-in-Ok-false-clause-unstored g c = (c.bring.ensures.logs.2 ∙ c.requires.unstored, c.bring.ensures.logs.3)

pub returns-in-Err-clause-unstored : goal.returns-in-Err-clause-unstored
returns-in-Err-clause-unstored g c = (c.bring.ensures.logs.2 ∙ c.requires.unstored, c.bring.ensures.logs.3)
