-- The cut of a script that is made of statements, and the texts of statements that a script is cut into.
--     in_order, place_behind      statements one behind the other from a place on, and the place behind them
--     cut-one      one statement, with more bytes behind it
--     cut-all      statements one behind the other, with more bytes behind them
--     one-behind_another, length-behind_another      a statement behind another is one, and no longer than one may be
--     gaps-behind_another, text-behind_another      without gaps it is the same, and it is written at another place
--     texts_in, cut-ended_lines      the texts of a script's statements, and the cut of these with the byte that ends the script
--     cut-lines      the script of statements is cut into these
--     IsOneText, complete-ones, cut-ones      each text that a script is cut into is one statement
use Rattle.std.proofs.Common.{◌≡◌, ℕ, List, [], ◌∷◌, ◌++◌, length, ◌≤◌, map, Bool, true, false, cond, eqb, refl, sym, ◌∙◌, ap, append_assoc, append-nil, arith, inl, inr}
use Rattle.std.specs.Prelude.{nat_eq, nat_lt, if◌then◌else◌}
use Rattle.std.specs.List.{All, AllByRecursion, flat_map}
use Rattle.std.proofs.lemmas.Bool.{eqb-true}
use Rattle.std.proofs.lemmas.Bool.Decides.{eqb_tells}
use Rattle.std.proofs.lemmas.List.Elements.{recursion_from_All}
use Rattle.point_core.specs.declared.fault.Place.{Place}
use Rattle.value_core.specs.Limits.{most_statement_bytes, most_script_bytes}
use Rattle.base_core.proofs.BoolLemmas.{and_left, and_right}
use Rattle.utd_lexer.specs.declared.cutter.Mode.TheVariants.{Between}
use Rattle.utd_lexer.specs.Cutting.{run, is_outside}
use Rattle.utd_lexer.specs.Gaps.{without_gaps}
use Rattle.utd_lexer.specs.Tokens.{place_after}
use Rattle.utd_syntax.specs.Plain.{StatementP}
use Rattle.place_laws.specs.Moved.{moved_statement}
use Rattle.dump_core.specs.Dumps.{behind_another, lines_of, ended, script_text}
use Rattle.utd_session.specs.Statements.{Statement, Complete, Incomplete, ends, Cut, before_others, cut_from, first_place, cut, complete_statements, incomplete_rest, statements}
use Rattle.text_laws.specs.Statements.{NoneEnds, IsOneStatement}
use Rattle.text_laws.specs.Written.{IsWritten}
use Rattle.text_laws.proofs.GapFronts.{gaps-once, gaps-behind}
use Rattle.text_laws.proofs.TextLaws.{text-first, text-later}
use Rattle.text_laws.proofs.OneStatements.{NoneEnds-join, one-behind}

-- ---- one statement

-- bytes in which no statement ends
pub cut-none : (place : Place) (prefix a more : List ℕ) → NoneEnds prefix a → cut_from place prefix (a ++ more) ≡ cut_from place (prefix ++ a) more
unfolding cut_from
cut-none place prefix [] more h = ap (λ z. cut_from place z more) (sym (append-nil prefix))
cut-none place prefix (c ∷ a) more h =
    let now : List ℕ = prefix ++ c ∷ [] in
    ap (λ t. cond t (before_others (Complete place now) (cut_from (place_after place now) [] (a ++ more))) (cut_from place now (a ++ more))) h.0
    ∙ cut-none place now a more h.1
    ∙ ap (λ z. cut_from place z more) (append_assoc prefix (c ∷ []) a)

-- the `;` that ends one
cut-end : (place : Place) (front more : List ℕ) → is_outside (run Between front) ≡ true
    → cut_from place front (59 ∷ more) ≡ before_others (Complete place (front ++ 59 ∷ [])) (cut_from (place_after place (front ++ 59 ∷ [])) [] more)
unfolding cut_from
cut-end place front more out =
    let now : List ℕ = front ++ 59 ∷ [] in
    ap (λ t. cond t (before_others (Complete place now) (cut_from (place_after place now) [] more)) (cut_from place now more)) out

pub cut-one : (place : Place) (s more : List ℕ) → IsOneStatement s
    → cut_from place [] (s ++ more) ≡ before_others (Complete place s) (cut_from (place_after place s) [] more)
cut-one place s more (front, is, out, none) =
    let whole : s ++ more ≡ front ++ (59 ∷ more) = ap (λ z. z ++ more) is ∙ append_assoc front (59 ∷ []) more in
    ap (cut_from place []) whole ∙ cut-none place [] front (59 ∷ more) none ∙ cut-end place front more out
    ∙ ap (λ z. before_others (Complete place z) (cut_from (place_after place z) [] more)) (sym is)

-- ---- statements one behind the other

abbrev pub in_order : Place → List (List ℕ) → List Statement
in_order place [] = []
in_order place (s ∷ ss) = Complete place s ∷ in_order (place_after place s) ss

abbrev pub place_behind : Place → List (List ℕ) → Place
place_behind place [] = place
place_behind place (s ∷ ss) = place_behind (place_after place s) ss

-- a cut with these statements in front
abbrev pub before_all : List Statement → Cut → Cut
before_all ss c = record { ended = ss ++ c.ended; place = c.place; rest = c.rest }

pub cut-all : (form : List ℕ → List ℕ) (place : Place) (ss : List (List ℕ)) (more : List ℕ) → AllByRecursion (λ (s : List ℕ). IsOneStatement (form s)) ss
    → cut_from place [] (flat_map form ss ++ more) ≡ before_all (in_order place (map form ss)) (cut_from (place_behind place (map form ss)) [] more)
cut-all form place [] more h = refl
cut-all form place (s ∷ ss) more h =
    let behind : Place = place_after place (form s) in
    ap (cut_from place []) (append_assoc (form s) (flat_map form ss) more)
    ∙ cut-one place (form s) (flat_map form ss ++ more) h.0
    ∙ ap (before_others (Complete place (form s))) (cut-all form behind ss more h.1)

-- ---- a script

one-form : (b : Bool) (s : List ℕ) → IsOneStatement s → IsOneStatement (if b then s else 10 ∷ s)
one-form true s h = h
one-form false s h = one-behind s h

pub one-behind_another : (s : List ℕ) → IsOneStatement s → IsOneStatement (behind_another s)
one-behind_another s h = one-form (nat_eq (length s) most_statement_bytes) s h

within-form : (n : ℕ) (s : List ℕ) → length s ≤ n → length (if nat_eq (length s) n then s else 10 ∷ s) ≤ n
within-form n s le = elim (eqb_tells (length s) n) [
  | inl e ↦ rw e.0 le
  | inr e ↦ rw e.0 (longer e.1)
]
  where
    longer : (length s ≡ n → ⊥) → length (10 ∷ s) ≤ n
    longer other = omega (arith, le, other)

pub length-behind_another : (s : List ℕ) → length s ≤ most_statement_bytes → length (behind_another s) ≤ most_statement_bytes
length-behind_another s le = within-form most_statement_bytes s le

gaps-form : (b : Bool) (bytes : List ℕ) → without_gaps (if b then without_gaps bytes else 10 ∷ without_gaps bytes) ≡ without_gaps bytes
gaps-form true bytes = gaps-once bytes
gaps-form false bytes = gaps-behind bytes

pub gaps-behind_another : (bytes : List ℕ) → without_gaps (behind_another (without_gaps bytes)) ≡ without_gaps bytes
gaps-behind_another bytes = gaps-form (nat_eq (length (without_gaps bytes)) most_statement_bytes) bytes

text-form : (b : Bool) (p q : Place) (bytes : List ℕ) (x : StatementP) → IsWritten p bytes x
    → (f : Place → Place) × IsWritten q (if b then without_gaps bytes else 10 ∷ without_gaps bytes) (moved_statement f x)
text-form true p q bytes x h = text-first p q bytes x h
text-form false p q bytes x h = text-later p q bytes x h

pub text-behind_another : (p q : Place) (bytes : List ℕ) (x : StatementP) → IsWritten p bytes x
    → (f : Place → Place) × IsWritten q (behind_another (without_gaps bytes)) (moved_statement f x)
text-behind_another p q bytes x h = text-form (nat_eq (length (without_gaps bytes)) most_statement_bytes) p q bytes x h

all-behind_another : (ss : List (List ℕ)) → AllByRecursion IsOneStatement ss → AllByRecursion (λ (s : List ℕ). IsOneStatement (behind_another s)) ss
all-behind_another [] h = tt
all-behind_another (s ∷ ss) h = (one-behind_another s h.0, all-behind_another ss h.1)

-- the texts of the statements of a script: the first as it is, each other behind another
abbrev pub texts_in : List (List ℕ) → List (List ℕ)
texts_in [] = []
texts_in (s ∷ ss) = s ∷ map behind_another ss

cut-lines-more : (place : Place) (ss : List (List ℕ)) (more : List ℕ) → AllByRecursion IsOneStatement ss
    → cut_from place [] (lines_of ss ++ more) ≡ before_all (in_order place (texts_in ss)) (cut_from (place_behind place (texts_in ss)) [] more)
cut-lines-more place [] more h = refl
cut-lines-more place (s ∷ ss) more h =
    ap (cut_from place []) (append_assoc s (flat_map behind_another ss) more)
    ∙ cut-one place s (flat_map behind_another ss ++ more) h.0
    ∙ ap (before_others (Complete place s)) (cut-all behind_another (place_after place s) ss more (all-behind_another ss h.1))

-- what is behind the last statement of a script is blank
blank-end : (place : Place) (ss : List Statement) (c : Cut) → c ≡ before_all ss (cut_from place [] []) → c.ended ++ incomplete_rest c.rest ≡ ss
unfolding cut_from
blank-end place ss c e =
    ap (λ (z : Cut). z.ended ++ incomplete_rest z.rest) e ∙ append-nil (ss ++ []) ∙ append-nil ss

line-end : (place : Place) (ss : List Statement) (c : Cut) → c ≡ before_all ss (cut_from place [] (10 ∷ [])) → c.ended ++ incomplete_rest c.rest ≡ ss
unfolding cut_from
line-end place ss c e =
    ap (λ (z : Cut). z.ended ++ incomplete_rest z.rest) e ∙ append-nil (ss ++ []) ∙ append-nil ss

cut-ended : (b : Bool) (ss : List (List ℕ)) → AllByRecursion IsOneStatement ss
    → statements (if b then lines_of ss ++ 10 ∷ [] else lines_of ss) ≡ in_order first_place (texts_in ss)
cut-ended true ss h =
    line-end (place_behind first_place (texts_in ss)) (in_order first_place (texts_in ss)) (cut (lines_of ss ++ 10 ∷ []))
    (cut-lines-more first_place ss (10 ∷ []) h)
cut-ended false ss h =
    blank-end (place_behind first_place (texts_in ss)) (in_order first_place (texts_in ss)) (cut (lines_of ss))
    (ap cut (sym (append-nil (lines_of ss))) ∙ cut-lines-more first_place ss [] h)

pub cut-ended_lines : (ss : List (List ℕ)) → AllByRecursion IsOneStatement ss → statements (ended (lines_of ss)) ≡ in_order first_place (texts_in ss)
cut-ended_lines ss h = cut-ended (nat_lt (length (lines_of ss)) most_script_bytes) ss h

cut-script : (ss : List (List ℕ)) → AllByRecursion IsOneStatement ss → statements (script_text ss) ≡ in_order first_place (texts_in ss)
unfolding cut_from
cut-script [] h = refl
cut-script (s ∷ ss) h = cut-ended_lines (s ∷ ss) h

pub cut-lines : (ss : List (List ℕ)) → All IsOneStatement ss → statements (script_text ss) ≡ in_order first_place (texts_in ss)
cut-lines ss h = cut-script ss (recursion_from_All IsOneStatement ss h)

-- ---- the texts of a script's statements

-- the text of a statement that ends is one
abbrev pub IsOneText : Statement → Type 0
IsOneText (Complete place bytes) = IsOneStatement bytes
IsOneText Incomplete = Unit {0}

ended-one : (prefix : List ℕ) (b : ℕ) → NoneEnds [] prefix → ends prefix b ≡ true → IsOneStatement (prefix ++ b ∷ [])
ended-one prefix b none e =
    let is : b ≡ 59 = eqb-true b 59 (and_left (eqb b 59) (is_outside (run Between prefix)) e) in
    (prefix, ap (λ z. prefix ++ z ∷ []) is, and_right (eqb b 59) (is_outside (run Between prefix)) e, none)

ones-from : (place : Place) (prefix bytes : List ℕ) → NoneEnds [] prefix → AllByRecursion IsOneText (cut_from place prefix bytes).ended
unfolding cut_from
ones-from place prefix [] none = tt
ones-from place prefix (b ∷ bytes) none =
    let now : List ℕ = prefix ++ b ∷ [] in
    let behind : Cut = cut_from (place_after place now) [] bytes in
    let on : Cut = cut_from place now bytes in
    elim (ends prefix b) as (λ t. ends prefix b ≡ t → AllByRecursion IsOneText (cond t (before_others (Complete place now) behind) on).ended) [
      | true ↦ λ e. (ended-one prefix b none e, ones-from (place_after place now) [] bytes tt)
      | false ↦ λ e. ones-from place now bytes (NoneEnds-join [] prefix (b ∷ []) none (e, tt))
    ] refl

pub complete-ones : (bytes : List ℕ) → AllByRecursion IsOneText (complete_statements bytes)
complete-ones bytes = ones-from first_place [] bytes tt

all-append : (ss more : List Statement) → AllByRecursion IsOneText ss → AllByRecursion IsOneText more → AllByRecursion IsOneText (ss ++ more)
all-append [] more h k = k
all-append (s ∷ ss) more h k = (h.0, all-append ss more h.1 k)

incomplete-ones : (b : Bool) → AllByRecursion IsOneText (if b then [] else Incomplete ∷ [])
incomplete-ones true = tt
incomplete-ones false = (tt, tt)

pub cut-ones : (bytes : List ℕ) → AllByRecursion IsOneText (statements bytes)
cut-ones bytes = all-append (complete_statements bytes) (incomplete_rest (cut bytes).rest) (complete-ones bytes) (incomplete-ones _)
