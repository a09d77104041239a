-- What is left where relvars and views are removed, and that each constraint finds the relvar that it names.
use Rattle.std.proofs.Common.{◌≡◌, ℕ, ◌+◌, ◌≤◌, Bool, true, false, not, cond, List, [], ◌∷◌, ◌++◌, filter, refl, sym, ap, subst, ◌∙◌, arith, true≢false, Option, Some, None}
use Rattle.std.specs.List.{All}
use Rattle.std.specs.Str.{bytes_eq}
use Rattle.std.proofs.lemmas.Bool.{false_from_ne_true}
use Rattle.std.proofs.lemmas.List.Elements.{All-nil, All-cons, All-head, All-tail}
use Rattle.value_core.specs.declared.constraint.Constraint.{Constraint}
use Rattle.value_core.specs.declared.constraint.Constraint.TheVariants.{Key, Packed, WhenUnpacked, UKey, Foreign, History}
use Rattle.value_core.specs.Values.{Name}
use Rattle.tree_core.specs.Relvars.{State, PlainRelvar, base, view, Entries, Rules, relvar_named, relvar_heading, heading_if, log}
use Rattle.tree_core.specs.Uses.{is_one_of}
use Rattle.meaning_core.specs.Declarations.{without_all}
use Rattle.meaning_core.specs.Truths.{holds_in, is_held}
use Rattle.meaning_core.specs.WellMade.{IsBase, IsConstraint, IsRelvar, AreRelvars, FitsHeadings, IsTypedTestFor, IsWellMade, sizes_of}
use Rattle.meaning_core.proofs.ElsewhereLemmas.{truth-dropped}
use Rattle.meaning_core.proofs.MadeLemmas.{same_name}
use Rattle.u_constraints.specs.Constraints.{names_relvar, rows_or_none}
use Rattle.assign_core.specs.Breaches.{value_if, value_at, count_of, rows_of_all, first_in, first_among}
use Rattle.assign_core.specs.Checks.{heading_at, NamesBase}
use Rattle.assign_core.specs.Databases.{IsKept}
use Rattle.assign_core.proofs.DeclaredLemmas.{NameTheSame, same_of, neither, none_of_two, in_turn}

-- ---- what constraints name

-- the constraint fits its relvar's heading and that of the relvar that it names
abbrev pub IsFitting : Entries → PlainRelvar → Constraint → Type 0
IsFitting entries r c = NamesBase entries (names_relvar c) × FitsHeadings (relvar_heading r) (heading_at entries (names_relvar c)) c

abbrev pub AreFitting : Entries → PlainRelvar → List Constraint → Type 0
AreFitting entries r [] = Unit {0}
AreFitting entries r (c ∷ cs) = IsFitting entries r c × AreFitting entries r cs

abbrev pub constraints_of : PlainRelvar → List Constraint
constraints_of (base value constraints) = constraints
constraints_of (view t kind) = []
constraints_of (log of side last w) = []

abbrev pub AllFit : Entries → Entries → Type 0
AllFit entries [] = Unit {0}
AllFit entries (r ∷ rest) = AreFitting entries r.1 (constraints_of r.1) × AllFit entries rest

base_before : (xs ys : Entries) (n : Name) → IsBase (relvar_named xs n) → relvar_named xs n ≡ relvar_named (xs ++ ys) n
base_before [] ys n h = absurd h
base_before (x ∷ xs) ys n h = by (bytes_eq x.0 n) (base_before xs ys n) h
  where
    by : (b : Bool) → (IsBase (relvar_named xs n) → relvar_named xs n ≡ relvar_named (xs ++ ys) n) → IsBase (cond b (Some x.1) (relvar_named xs n))
        → cond b (Some x.1) (relvar_named xs n) ≡ cond b (Some x.1) (relvar_named (xs ++ ys) n)
    by true ih h = refl
    by false ih h = ih h

fits_named : (xs ys : Entries) (r : PlainRelvar) (n : Name) (c : Constraint) → names_relvar c ≡ Some n → IsBase (relvar_named xs n)
    → FitsHeadings (relvar_heading r) (heading_if (relvar_named xs n)) c → IsFitting (xs ++ ys) r c
fits_named xs ys r n c e h f =
    let is = base_before xs ys n h in (
      subst (NamesBase (xs ++ ys)) (sym e) (subst IsBase is h),
      subst (λ (o : Option Name). FitsHeadings (relvar_heading r) (heading_at (xs ++ ys) o) c) (sym e)
          (subst (λ (o : Option PlainRelvar). FitsHeadings (relvar_heading r) (heading_if o) c) is f),
    )

one_fits : (before rest : Entries) (own : Name) (r : PlainRelvar) (c : Constraint) → IsConstraint before own r c → IsFitting ((before ++ (own, r) ∷ []) ++ rest) r c
one_fits before rest own r (Key k) h = (tt, h)
one_fits before rest own r (Packed commalist) h = (tt, h)
one_fits before rest own r (WhenUnpacked commalist k) h = (tt, h)
one_fits before rest own r (UKey commalist k) h = (tt, h)
one_fits before rest own r (Foreign commalist k name there) h = fits_named (before ++ (own, r) ∷ []) rest r name (Foreign commalist k name there) refl h.0 h.1
one_fits before rest own r (History rule) h =
    subst (λ (z : Entries). IsFitting z r (History rule)) (sym (in_turn before ((own, r) ∷ []) rest))
    (fits_named before ((own, r) ∷ rest) r rule.since (History rule) refl h.0 h.1)

each_fits : (before rest : Entries) (own : Name) (r : PlainRelvar) (cs : List Constraint) → All (IsConstraint before own r) cs → AreFitting ((before ++ (own, r) ∷ []) ++ rest) r cs
each_fits before rest own r [] h = tt
each_fits before rest own r (c ∷ cs) h = (one_fits before rest own r c (All-head (IsConstraint before own r) c cs h), each_fits before rest own r cs (All-tail (IsConstraint before own r) c cs h))

relvar_fits : (sizes : List ℕ) (before rest : Entries) (own : Name) (r : PlainRelvar) → IsRelvar sizes before own r
    → AreFitting ((before ++ (own, r) ∷ []) ++ rest) r (constraints_of r)
relvar_fits sizes before rest own (base value constraints) h = each_fits before rest own (base value constraints) constraints h.1
relvar_fits sizes before rest own (view t kind) h = tt
relvar_fits sizes before rest own (log of side last w) h = tt

fit_after : (sizes : List ℕ) (before es all : Entries) → all ≡ before ++ es → AreRelvars sizes before es → AllFit all es
fit_after sizes before [] all e h = tt
fit_after sizes before (r ∷ es) all e h =
    let is : all ≡ (before ++ (r.0, r.1) ∷ []) ++ es = e ∙ sym (in_turn before (r ∷ []) es) in (
      subst (λ (z : Entries). AreFitting z r.1 (constraints_of r.1)) (sym is) (relvar_fits sizes before es r.0 r.1 h.0),
      fit_after sizes (before ++ r ∷ []) es all is h.1,
    )

-- in a well made state each constraint fits
pub all_fit : (s : State) → IsWellMade s → AllFit s.relvars s.relvars
all_fit s made = fit_after (sizes_of s.ordinals) [] s.relvars s.relvars refl made.relvars

-- ---- names removed

module _ (names : List Name) where
  abbrev pub left : Entries → Entries
  left es = filter (λ r. not (is_one_of names r.0)) es

  is_one : (a b : Name) → bytes_eq a b ≡ true → is_one_of names a ≡ is_one_of names b
  is_one a b e = ap (is_one_of names) (same_name a b e)

  gone : (es : Entries) (n : Name) → is_one_of names n ≡ true → relvar_named (left es) n ≡ None
  gone [] n g = refl
  gone (e ∷ es) n g = by (is_one_of names e.0) refl (gone es n g)
    where
      by : (b : Bool) → is_one_of names e.0 ≡ b → relvar_named (left es) n ≡ None → relvar_named (cond (not (is_one_of names e.0)) (e ∷ left es) (left es)) n ≡ None
      by true q ih = ap (λ (t : Bool). relvar_named (cond (not t) (e ∷ left es) (left es)) n) q ∙ ih
      by false q ih =
          let other : bytes_eq e.0 n ≡ false = false_from_ne_true (bytes_eq e.0 n) (λ s. true≢false (sym g ∙ (sym (is_one e.0 n s) ∙ q))) in
          ap (λ (t : Bool). relvar_named (cond (not t) (e ∷ left es) (left es)) n) q
          ∙ (ap (λ (t : Bool). cond t (Some e.1) (relvar_named (left es) n)) other ∙ ih)

  still : (es : Entries) (n : Name) → is_one_of names n ≡ false → relvar_named (left es) n ≡ relvar_named es n
  still [] n d = refl
  still (e ∷ es) n d = by (is_one_of names e.0) refl (still es n d)
    where
      by : (b : Bool) → is_one_of names e.0 ≡ b → relvar_named (left es) n ≡ relvar_named es n
          → relvar_named (cond (not (is_one_of names e.0)) (e ∷ left es) (left es)) n ≡ cond (bytes_eq e.0 n) (Some e.1) (relvar_named es n)
      by true q ih =
          let other : bytes_eq e.0 n ≡ false = false_from_ne_true (bytes_eq e.0 n) (λ s. true≢false (sym q ∙ (is_one e.0 n s ∙ d))) in
          ap (λ (t : Bool). relvar_named (cond (not t) (e ∷ left es) (left es)) n) q
          ∙ (ih ∙ sym (ap (λ (t : Bool). cond t (Some e.1) (relvar_named es n)) other))
      by false q ih =
          ap (λ (t : Bool). relvar_named (cond (not t) (e ∷ left es) (left es)) n) q
          ∙ ap (λ (z : Option PlainRelvar). cond (bytes_eq e.0 n) (Some e.1) z) ih

  base_stays : (es : Entries) (n : Name) → IsBase (relvar_named (left es) n) → relvar_named (left es) n ≡ relvar_named es n
  base_stays es n h = by (is_one_of names n) refl
    where
      by : (b : Bool) → is_one_of names n ≡ b → relvar_named (left es) n ≡ relvar_named es n
      by true q = absurd (subst IsBase (gone es n q) h)
      by false q = still es n q

  same_at : (all : Entries) (n : Option Name) → NamesBase (left all) n → rows_or_none (value_at (left all) n) ≡ rows_or_none (value_at all n)
  same_at all None h = refl
  same_at all (Some n) h = ap (λ (o : Option PlainRelvar). rows_or_none (value_if o)) (base_stays all n h)

  same_each : (all : Entries) (r : PlainRelvar) (cs : List Constraint) → AreFitting (left all) r cs → NameTheSame (left all) all cs
  same_each all r [] h = tt
  same_each all r (c ∷ cs) h = (same_at all (names_relvar c) h.0.0, same_each all r cs h.1)

  same_in : (all : Entries) (own : Name) (r : PlainRelvar) → AreFitting (left all) r (constraints_of r) → first_in (left all) own r ≡ first_in all own r
  same_in all own (base value constraints) h = same_of (left all) all own value.rows 1 constraints (same_each all (base value constraints) constraints h)
  same_in all own (view t kind) h = refl
  same_in all own (log of side last w) h = refl

  none_left : (all es : Entries) → AllFit (left all) (left es) → first_among all es ≡ None → first_among (left all) (left es) ≡ None
  none_left all [] fit none = refl
  none_left all (e ∷ es) fit none =
      let parts = neither (first_in all e.0 e.1) (first_among all es) none in
      by (is_one_of names e.0) (λ f. none_left all es f parts.1) parts.0 fit
    where
      by : (b : Bool) → (AllFit (left all) (left es) → first_among (left all) (left es) ≡ None) → first_in all e.0 e.1 ≡ None
          → AllFit (left all) (cond (not b) (e ∷ left es) (left es)) → first_among (left all) (cond (not b) (e ∷ left es) (left es)) ≡ None
      by true ih own f = ih f
      by false ih own f = none_of_two (first_in (left all) e.0 e.1) (first_among (left all) (left es)) (same_in all e.0 e.1 f.0 ∙ own) (ih f.1)

  pub fewer_rows : (es : Entries) → rows_of_all (left es) ≤ rows_of_all es
  fewer_rows [] = omega arith
  fewer_rows (e ∷ es) = by (is_one_of names e.0) (fewer_rows es)
    where
      by : (b : Bool) → rows_of_all (left es) ≤ rows_of_all es → rows_of_all (cond (not b) (e ∷ left es) (left es)) ≤ count_of e + rows_of_all es
      by true ih = omega (arith, ih)
      by false ih = omega (arith, ih)

-- what is removed is named by no database constraint
rules_left : (names : List Name) (s : State) (rs : Rules) → IsWellMade (without_all names s) → All (λ r. IsTypedTestFor (without_all names s) r.1) rs → All (λ r. holds_in s.relvars r.1 ≡ true) rs
    → All (λ r. holds_in (without_all names s).relvars r.1 ≡ true) rs
rules_left names s [] made typed held = All-nil (λ r. holds_in (without_all names s).relvars r.1 ≡ true)
rules_left names s (r ∷ rs) made typed held =
    All-cons (λ z. holds_in (without_all names s).relvars z.1 ≡ true) r rs
    (ap is_held (truth-dropped names s r.1 made (All-head (λ z. IsTypedTestFor (without_all names s) z.1) r rs typed)) ∙ All-head (λ z. holds_in s.relvars z.1 ≡ true) r rs held)
    (rules_left names s rs made (All-tail (λ z. IsTypedTestFor (without_all names s) z.1) r rs typed) (All-tail (λ z. holds_in s.relvars z.1 ≡ true) r rs held))

pub removed_kept : (s now : State) (names : List Name) → now ≡ without_all names s → IsKept s → IsWellMade (without_all names s) → IsKept now
removed_kept s now names e kept made = subst IsKept (sym e) (record {
  well_made = made;
  holds = none_left names s.relvars s.relvars (all_fit (without_all names s) made) kept.holds;
  few =
      let fewer = fewer_rows names s.relvars in
      let few = kept.few in
      omega (arith, fewer, few);
  rules = rules_left names s s.rules made made.rules kept.rules;
})
