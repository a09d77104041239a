-- What comes of a script that is accepted statement by statement.
--     takes-then, all-then      where more follows from what holds then
--     all-more      statements behind others
--     AreForms      the statements of a script, each in its form and no longer than one may be
--     HasTaken      readings of statements, the state and the texts behind them
--     has-taken      the law
--     ones-taken      each is one statement
use Rattle.std.proofs.Common.{◌≡◌, inl, ℕ, ◌+◌, ◌≤◌, true, List, [], ◌∷◌, ◌++◌, length, refl, sym, ap, ◌∙◌, subst}
use Rattle.std.specs.List.{AllByRecursion}
use Rattle.std.proofs.lemmas.Bool.{le-leb}
use Rattle.point_core.specs.declared.fault.Place.{Place}
use Rattle.value_core.specs.Limits.{most_statement_bytes}
use Rattle.tree_core.specs.Relvars.{State}
use Rattle.dump_core.specs.Texts.{SourceText}
use Rattle.meaning_core.specs.Declarations.{counted}
use Rattle.utd_lexer.specs.Tokens.{place_after}
use Rattle.utd_statement.specs.Answers.{Answer, Changed, answer, text_of, is_accepted, state_after}
use Rattle.utd_statement.specs.Keeping.{texts_after}
use Rattle.utd_statement.specs.Readings.{Reading, IsText}
use Rattle.text_laws.specs.Statements.{IsOneStatement}
use Rattle.utd_session.specs.Statements.{Statement, Complete, first_place}
use Rattle.utd_session.specs.Readings.{IsReading, AreReadings, IsShort, most_in_statement}
use Rattle.utd_session.specs.Machine.{in_turn, all_steps}
use Rattle.utd_session.specs.Texts.{all_kept}
use Rattle.dump_laws.specs.Accepting.{Outcome, IsForm, Takes, TakesAll}
use Rattle.dump_laws.proofs.Cuts.{in_order}

-- ---- one behind the other

pub takes-then : (place : Place) (bytes : List ℕ) (r : State) (texts : List SourceText) (After Then : Outcome) → ((next : State) (more : List SourceText) → After next more → Then next more)
    → Takes place bytes r texts After → Takes place bytes r texts Then
takes-then place bytes r texts After Then f (x, next, one, read, e, h) = (x, next, one, read, e, f (counted next) (texts_after bytes x true texts) h)

pub all-then : (ss : List (List ℕ)) (r : State) (texts : List SourceText) (After Then : Outcome) → ((next : State) (more : List SourceText) → After next more → Then next more)
    → TakesAll ss r texts After → TakesAll ss r texts Then
all-then [] r texts After Then f h = f r texts h
all-then (s ∷ ss) r texts After Then f h = λ place bytes form.
    takes-then place bytes r texts (λ next more. TakesAll ss next more After) (λ next more. TakesAll ss next more Then) (λ next more. all-then ss next more After Then f)
    (h place bytes form)

pub all-more : (ss ts : List (List ℕ)) (r : State) (texts : List SourceText) (After : Outcome) → TakesAll ss r texts (λ next more. TakesAll ts next more After) → TakesAll (ss ++ ts) r texts After
all-more [] ts r texts After h = h
all-more (s ∷ ss) ts r texts After h = λ place bytes form.
    takes-then place bytes r texts (λ next more. TakesAll ss next more (λ last all. TakesAll ts last all After)) (λ next more. TakesAll (ss ++ ts) next more After)
    (λ next more. all-more ss ts next more After) (h place bytes form)

-- ---- a whole script

-- each is in its form, and no longer than a statement may be
abbrev pub AreForms : List (List ℕ) → List (List ℕ) → Type 0
AreForms [] [] = Unit {0}
AreForms [] (b ∷ bs) = ⊥
AreForms (s ∷ ss) [] = ⊥
AreForms (s ∷ ss) (b ∷ bs) = (IsForm s b × (length b ≤ most_statement_bytes)) × AreForms ss bs

-- the statements are read as these, all are accepted, and this holds of the state and the texts behind them
pub record HasTaken (ss : List Statement) (r : State) (texts : List SourceText) (After : Outcome) : Type 0 where
  pub readings : List Reading
  pub read : AreReadings ss readings
  pub state : State
  pub left : List SourceText
  pub steps : (n : ℕ) → all_steps r n readings ≡ record { state = state; output = []; accepted = true }
  pub kept : all_kept r texts ss readings ≡ left
  pub after : After state left

none-taken : (r : State) (texts : List SourceText) (After : Outcome) → After r texts → HasTaken [] r texts After
none-taken r texts After h = record { readings = []; read = tt; state = r; left = texts; steps = λ n. refl; kept = refl; after = h }

short : (place : Place) (bytes : List ℕ) (x : Reading) → length bytes ≤ most_statement_bytes → IsText place bytes x → IsReading (Complete place bytes) x
short place bytes x le is = subst (λ b. IsShort b place bytes x) (sym (le-leb (length bytes) most_in_statement le)) is

one-taken : (place : Place) (bytes : List ℕ) (ss : List Statement) (r next : State) (texts : List SourceText) (x : Reading) (After : Outcome) → IsReading (Complete place bytes) x
    → answer r x ≡ Changed next
    → HasTaken ss (counted next) (texts_after bytes x true texts) After → HasTaken (Complete place bytes ∷ ss) r texts After
one-taken place bytes ss r next texts x After read e h = record {
  readings = x ∷ h.readings;
  read = (read, h.read);
  state = h.state;
  left = h.left;
  steps = λ n.
      ap (λ (a : Answer). in_turn (record { state = state_after r a; output = text_of n a; accepted = is_accepted a }) (all_steps (state_after r a) (n + 1) h.readings)) e
      ∙ ap (in_turn (record { state = counted next; output = []; accepted = true })) (h.steps (n + 1));
  kept = ap (λ (a : Answer). all_kept (state_after r a) (texts_after bytes x (is_accepted a) texts) ss h.readings) e ∙ h.kept;
  after = h.after;
}

pub has-taken : (place : Place) (ss bs : List (List ℕ)) (r : State) (texts : List SourceText) (After : Outcome) → AreForms ss bs → TakesAll ss r texts After
    → HasTaken (in_order place bs) r texts After
has-taken place [] [] r texts After forms h = none-taken r texts After h
has-taken place [] (b ∷ bs) r texts After forms h = absurd forms
has-taken place (s ∷ ss) [] r texts After forms h = absurd forms
has-taken place (s ∷ ss) (b ∷ bs) r texts After forms h =
    let (x, next, one, read, e, rest) = h place b forms.0.0 in
    one-taken place b (in_order (place_after place b) bs) r next texts x After (short place b x forms.0.1 read) e
    (has-taken (place_after place b) ss bs (counted next) (texts_after b x true texts) After forms.1 rest)

pub ones-taken : (ss : List (List ℕ)) (r : State) (texts : List SourceText) (After : Outcome) → TakesAll ss r texts After → AllByRecursion IsOneStatement ss
ones-taken [] r texts After h = tt
ones-taken (s ∷ ss) r texts After h =
    let (x, next, one, read, e, rest) = h first_place s (inl refl) in
    (one, ones-taken ss (counted next) (texts_after s x true texts) After rest)
