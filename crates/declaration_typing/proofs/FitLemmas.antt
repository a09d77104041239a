-- The constraints that are typed fit the headings.
use Rattle.std.specs.Prelude.{◌≡◌, ℕ, Bool, true, false, List, [], ◌∷◌, ◌++◌, length, nat_le, Option, Some, None, Ok, Err, IfOk, IsTrue, refl, if◌then◌else◌}
use Rattle.std.proofs.Common.{arith, sym, ◌∙◌, ap, subst, append_assoc}
use Rattle.std.specs.List.{All, list_all}
use Rattle.std.specs.Str.{bytes_eq}
use Rattle.std.proofs.lemmas.Bool.{and_from}
use Rattle.std.proofs.lemmas.List.{append-nil}
use Rattle.point_core.specs.declared.fault.Place.{Place}
use Rattle.point_core.specs.declared.fault.Code.TheVariants.{E17, E19}
use Rattle.point_core.specs.Faults.{OrFault}
use Rattle.value_core.specs.Attributes.{among}
use Rattle.utd_syntax.specs.Plain as syntax
use Rattle.utd_syntax.specs.Plain.{Word, NameListP, NamesP, ConstraintP}
use Rattle.value_core.specs.declared.constraint.Constraint.{Constraint}
use Rattle.value_core.specs.declared.constraint.Constraint.TheVariants.{Foreign}
use Rattle.value_core.specs.Limits.{most_listed}
use Rattle.value_core.specs.Values.{Name, Heading}
use Rattle.scalar_typing.proofs.SoundLemmas.{then-sound, any-given}
use Rattle.relation_typing.specs.Attributes.{name_typed}
use Rattle.relation_core.specs.Agreement.{position_of}
use Rattle.tree_core.specs.Relvars.{State, PlainRelvar, base, view, Entries, relvar_named, heading_if, log}
use Rattle.meaning_core.specs.Meanings.{positions_of}
use Rattle.meaning_core.specs.Typing.{IsList}
use Rattle.meaning_core.specs.WellMade.{AreDifferent, AreAlike, AreAmong, FitsHeadings, IsBase, IsConstraint}
use Rattle.meaning_core.proofs.MadeLemmas.{same_name}
use Rattle.meaning_core.proofs.PositionLemmas.{no_list}
use Rattle.meaning_core.proofs.RelvarLemmas.{named_before}
use Rattle.node_typing.specs.Positions.{check}
use Rattle.node_typing.specs.Lists.{names_of_words, words_of, name_checked, names_checked, list_checked}
use Rattle.declaration_typing.specs.Constraints.{base_heading, heading_there, positions_there, reference_typed, names_typed, list_typed, kept_by, listed_key, constraint_typed, constraints_typed}
use Rattle.declaration_typing.proofs.DistinctLemmas.{all-push}
use Rattle.declaration_typing.proofs.PositionLemmas.{held, positions_at, AreAt, key-at, AreThere, there-from, are-alike, different-there}

pub both-hold : {X : Type 0} (P Q : X → Type 0) (r : OrFault X) → IfOk r P → IfOk r Q → IfOk r (λ x. P x × Q x)
both-hold P Q (Ok x) h k = (h, k)
both-hold P Q (Err e) h k = tt

-- ---- what a name stands for behind more entries

-- the entries behind count where none of these has the name
pub named-none : (before more : Entries) (name : Name) → relvar_named before name ≡ None → relvar_named (before ++ more) name ≡ relvar_named more name
named-none [] more name e = refl
named-none (k ∷ before) more name e = by-test (bytes_eq k.0 name) e (named-none before more name)
  where
    by-test : (b : Bool) → (if b then Some k.1 else relvar_named before name) ≡ None → (relvar_named before name ≡ None → relvar_named (before ++ more) name ≡ relvar_named more name)
        → (if b then Some k.1 else relvar_named (before ++ more) name) ≡ relvar_named more name
    by-test true f h = absurd (cc)
    by-test false f h = h f

-- ---- lists

-- what is listed are the words' names
listed-names : (h g : Heading) (words : List Word) (before : List Name) → IfOk (names_checked h g before words) (λ names. names ≡ before ++ names_of_words words)
listed-names h g [] before = sym (append-nil before)
listed-names h g (w ∷ words) before =
    then-sound (λ (_ : Unit {0}). Unit {0}) (λ names. names ≡ before ++ names_of_words (w ∷ words)) (name_checked h g before w) _ (any-given (name_checked h g before w)) (λ _ _.
    then-more (names_checked h g (before ++ w.bytes ∷ []) words) (listed-names h g words (before ++ w.bytes ∷ [])))
  where
    then-more : (r : OrFault (List Name)) → IfOk r (λ names. names ≡ (before ++ w.bytes ∷ []) ++ names_of_words words) → IfOk r (λ names. names ≡ before ++ names_of_words (w ∷ words))
    then-more (Ok names) e = e ∙ append_assoc before (w.bytes ∷ []) (names_of_words words)
    then-more (Err e) f = tt

-- all that is listed is of the key
kept-among : (h : Heading) (key : List ℕ) (words : List Word) → IfOk (kept_by h key words) (λ _. AreAmong key (positions_of h (names_of_words words)))
kept-among h key [] = refl
kept-among h key (w ∷ words) =
    then-sound (λ (_ : Unit {0}). IsTrue (among key (position_of h w.bytes))) (λ (_ : Unit {0}). AreAmong key (positions_of h (names_of_words (w ∷ words)))) (check w.place E19 (among key (position_of h w.bytes))) _
    (held w.place E19 (among key (position_of h w.bytes))) (λ _ here. then-more here (kept_by h key words) (kept-among h key words))
  where
    then-more : IsTrue (among key (position_of h w.bytes)) → (r : OrFault (Unit {0})) → IfOk r (λ _. AreAmong key (positions_of h (names_of_words words)))
        → IfOk r (λ _. AreAmong key (positions_of h (names_of_words (w ∷ words))))
    then-more here (Ok _) there = and_from (among key (position_of h w.bytes)) (list_all (among key) (positions_of h (names_of_words words))) here there
    then-more here (Err e) there = tt

-- what a check of a list tells of its positions
abbrev pub ListsAreSound : Heading → Type 0
ListsAreSound h = (list : NameListP) → IfOk (list_checked h h list) (λ names. IsList h (positions_of h names))

module _ (s : State) (own : Name) (heading : Heading) (others : List Constraint) (free : relvar_named s.relvars own ≡ None) (lists : ListsAreSound heading) where
  -- the relvar that is declared
  abbrev own_relvar : PlainRelvar
  own_relvar = base (record { heading = heading; rows = [] }) others

  abbrev with_own : Entries
  with_own = s.relvars ++ (own, own_relvar) ∷ []

  abbrev IsBaseOf : Heading → Option PlainRelvar → Type 0
  IsBaseOf g o = IsBase o × (heading_if o ≡ g)

  -- ---- what is referenced

  found-base : (at : Place) (name : Name) (o : Option PlainRelvar) → relvar_named s.relvars name ≡ o → IfOk (base_heading at o) (λ g. IsBaseOf g (relvar_named with_own name))
  found-base at name None e = tt
  found-base at name (Some (base value constraints)) e =
      subst (IsBaseOf value.heading) (sym (named_before s.relvars ((own, own_relvar) ∷ []) name (base value constraints) e)) (tt, refl)
  found-base at name (Some (view t kind)) e = tt
  found-base at name (Some (log of side last value)) e = tt

  own-base : (name : Name) → bytes_eq own name ≡ true → IsBaseOf heading (relvar_named with_own name)
  own-base name e =
      let none : relvar_named s.relvars name ≡ None = subst (λ (n : Name). relvar_named s.relvars n ≡ None) (same_name own name e) free in
      let found : relvar_named with_own name ≡ Some own_relvar = named-none s.relvars ((own, own_relvar) ∷ []) name none ∙ ap (λ (b : Bool). if b then Some own_relvar else None) e in
      subst (IsBaseOf heading) (sym found) (tt, refl)

  there-base : (at : Place) (name : Name) → IfOk (heading_there s own heading at name) (λ g. IsBaseOf g (relvar_named with_own name))
  there-base at name = by-test (bytes_eq own name) refl
    where
      by-test : (b : Bool) → bytes_eq own name ≡ b → IfOk (if b then Ok heading else base_heading at (relvar_named s.relvars name)) (λ g. IsBaseOf g (relvar_named with_own name))
      by-test true e = own-base name e
      by-test false e = found-base at name (relvar_named s.relvars name) refl

  reference-fits : (commalist key : List ℕ) (brace : Place) (words : List Word) (w : Word) → IsList heading commalist → AreAmong key commalist → AreAt heading [] words key
      → IfOk (reference_typed s own heading commalist key (syntax.Names brace words) w) (IsConstraint s.relvars own own_relvar)
  reference-fits commalist key brace words w list kept at =
      then-sound (λ (_ : Name). Unit {0}) (IsConstraint s.relvars own own_relvar) (name_typed w) _ (any-given (name_typed w)) (λ name _.
      then-sound (λ g. IsBaseOf g (relvar_named with_own name)) (IsConstraint s.relvars own own_relvar) (heading_there s own heading w.place name) _ (there-base w.place name) (λ g is.
      then-sound (AreThere heading g [] words) (IsConstraint s.relvars own own_relvar) (positions_there heading g [] words) _ (there-from heading g words []) (λ there found. (
        is.0,
        subst (λ (z : Heading). FitsHeadings heading z (Foreign commalist key name there)) (sym is.1)
            (foreign-fits commalist key name there words g list kept at found),
      ))))
    where
      foreign-fits : (commalist key : List ℕ) (name : Name) (there : List ℕ) (words : List Word) (g : Heading) → IsList heading commalist → AreAmong key commalist → AreAt heading [] words key → AreThere heading g [] words there
          → FitsHeadings heading g (Foreign commalist key name there)
      foreign-fits commalist key name there words g list kept at found =
          let here : AreDifferent heading (positions_at heading words) = subst (AreDifferent heading) at.places at.different in
          let alike : AreAlike heading key g there = subst (λ (k : List ℕ). AreAlike heading k g there) (sym at.places)
          (subst (λ (k : List ℕ). AreAlike heading (positions_at heading words) g k) (sym found.places) (are-alike heading g words found.alike)) in
          (list, at.different, kept, subst (AreDifferent g) (sym found.places) (different-there heading g words found.known here), alike)

  -- ---- all forms

  abbrev IsNamed : List Word → List Name → Type 0
  IsNamed words names = names ≡ names_of_words words

  abbrev IsListOf : List Word → List ℕ → Type 0
  IsListOf words commalist = IsList heading commalist × (commalist ≡ positions_of heading (names_of_words words))

  checked-names : (at : Place) (words : List Word) → IfOk (list_checked heading heading (syntax.NameList at words)) (IsNamed words)
  checked-names at words =
      then-sound (IsNamed words) (IsNamed words) (names_checked heading heading [] words) _ (listed-names heading heading words []) (λ names is.
      then-sound (λ (_ : Unit {0}). Unit {0}) (IsNamed words) (check at E17 (nat_le (length names) most_listed)) _ (any-given (check at E17 (nat_le (length names) most_listed))) (λ _ _. is))

  listed-positions : (list : NameListP) → IfOk (list_typed heading list) (IsListOf (words_of list))
  listed-positions (syntax.NameList at words) =
      let list = syntax.NameList at words in
      then-sound (λ names. IsList heading (positions_of heading names) × IsNamed words names) (IsListOf words) (list_checked heading heading list) _
      (both-hold (λ names. IsList heading (positions_of heading names)) (IsNamed words) (list_checked heading heading list) (lists list) (checked-names at words)) (λ names is. (is.0, ap (positions_of heading) is.1))

  abbrev IsListed : List Word → List ℕ × List ℕ → Type 0
  IsListed words both = IsList heading both.0 × AreAmong both.1 both.0 × AreAt heading [] words both.1

  listed-fits : (list : NameListP) (brace : Place) (words : List Word) → IfOk (listed_key heading list (syntax.Names brace words)) (IsListed words)
  listed-fits list brace words =
      then-sound (IsListOf (words_of list)) (IsListed words) (list_typed heading list) _ (listed-positions list) (λ commalist is.
      then-sound (AreAt heading [] words) (IsListed words) (names_typed heading (syntax.Names brace words)) _ (key-at heading words) (λ key at.
      then-sound (λ (_ : Unit {0}). AreAmong key (positions_of heading (names_of_words (words_of list)))) (IsListed words) (kept_by heading key (words_of list)) _ (kept-among heading key (words_of list)) (λ _ kept.
      (is.0, subst (AreAmong key) (sym is.1) kept, at))))

  pub constraint-fits : (c : ConstraintP) → IfOk (constraint_typed s own heading c) (IsConstraint s.relvars own own_relvar)
  constraint-fits (syntax.KeyOf (syntax.Key at (syntax.Names brace words))) =
      then-sound (AreAt heading [] words) (IsConstraint s.relvars own own_relvar) (names_typed heading (syntax.Names brace words)) _ (key-at heading words) (λ key here. here.different)
  constraint-fits (syntax.ForeignOf (syntax.Foreign at (syntax.Names brace words) w)) =
      then-sound (AreAt heading [] words) (IsConstraint s.relvars own own_relvar) (names_typed heading (syntax.Names brace words)) _ (key-at heading words) (λ key here.
      reference-fits [] key brace words w (no_list heading) refl here)
  constraint-fits (syntax.PackedOn at list) =
      then-sound (IsListOf (words_of list)) (IsConstraint s.relvars own own_relvar) (list_typed heading list) _ (listed-positions list) (λ commalist is. is.0)
  constraint-fits (syntax.WhenUnpacked at list (syntax.Key here (syntax.Names brace words))) =
      then-sound (IsListed words) (IsConstraint s.relvars own own_relvar) (listed_key heading list (syntax.Names brace words)) _ (listed-fits list brace words) (λ both is. (is.0, is.2.different, is.1))
  constraint-fits (syntax.UsingConstraint at list (syntax.UsedKey (syntax.Key here (syntax.Names brace words)))) =
      then-sound (IsListed words) (IsConstraint s.relvars own own_relvar) (listed_key heading list (syntax.Names brace words)) _ (listed-fits list brace words) (λ both is. (is.0, is.2.different, is.1))
  constraint-fits (syntax.UsingConstraint at list (syntax.UsedForeign (syntax.Foreign here (syntax.Names brace words) w))) =
      then-sound (IsListed words) (IsConstraint s.relvars own own_relvar) (listed_key heading list (syntax.Names brace words)) _ (listed-fits list brace words) (λ both is.
      reference-fits both.0 both.1 brace words w is.0 is.1 is.2)

  constraints-from : (list : List ConstraintP) (before : List Constraint) → All (IsConstraint s.relvars own own_relvar) before
      → IfOk (constraints_typed s own heading before list) (All (IsConstraint s.relvars own own_relvar))
  constraints-from [] before all = all
  constraints-from (c ∷ list) before all =
      then-sound (IsConstraint s.relvars own own_relvar) (All (IsConstraint s.relvars own own_relvar)) (constraint_typed s own heading c) _ (constraint-fits c) (λ next fits.
      constraints-from list (before ++ next ∷ []) (all-push (IsConstraint s.relvars own own_relvar) before next all fits))

  pub constraints-fit : (list : List ConstraintP) → IfOk (constraints_typed s own heading [] list) (All (IsConstraint s.relvars own own_relvar))
  constraints-fit list = constraints-from list [] (λ k d l. absurd (omega (arith, l)))
