-- What declarations append, and that it breaks no constraint.
use Rattle.std.proofs.Common.{◌≡◌, ℕ, suc, ◌+◌, Bool, true, false, cond, List, [], ◌∷◌, ◌++◌, map, length, refl, sym, ap, subst, ◌∙◌, arith, Option, Some, None, option_map}
use Rattle.std.specs.List.{All, IsDistinct}
use Rattle.std.specs.Str.{bytes_eq}
use Rattle.std.proofs.lemmas.List.Elements.{All-nil, All-cons, All-head, All-tail}
use Rattle.value_core.specs.declared.constraint.Constraint.{Constraint}
use Rattle.value_core.specs.declared.refuse.Refuse.{Refuse}
use Rattle.value_core.specs.declared.refuse.Refuse.TheVariants.{Broken}
use Rattle.value_core.specs.Values.{Name, Row}
use Rattle.tree_core.specs.declared.declaration.Declaration.{Declaration}
use Rattle.tree_core.specs.Relvars.{State, PlainRelvar, base, view, Entries, Rules, relvar_named, log}
use Rattle.meaning_core.specs.Declarations.{PlainDeclaration, ordinal_type, base_relvar, view_relvar, with_declaration, read_declaration}
use Rattle.meaning_core.specs.Truths.{holds_in, is_held}
use Rattle.meaning_core.specs.Typing.{IsTypedTest}
use Rattle.meaning_core.specs.WellMade.{sizes_of, headings_of, IsWellMade}
use Rattle.meaning_core.proofs.ElsewhereLemmas.{truth-appended}
use Rattle.u_constraints.specs.Constraints.{broken, names_relvar, rows_or_none}
use Rattle.u_constraints.proofs.ConstraintLemmas.{broken_none}
use Rattle.assign_core.specs.Breaches.{value_of, value_if, value_at, count_of, rows_of_all, rows_named, or_later, breach, first_of, first_in, first_among, first_broken}
use Rattle.assign_core.specs.Databases.{IsKept, declared}
use Rattle.assign_core.specs.Parts.{names_in}
use Rattle.assign_core.proofs.NameLemmas.{distinct_earlier, names_more}

-- ---- what is appended

abbrev pub added : PlainDeclaration → Entries
added (ordinal_type name values) = []
added (base_relvar name heading constraints) = (name, base (record { heading = heading; rows = [] }) constraints) ∷ []
added (view_relvar name t kind) = (name, view t kind) ∷ []

abbrev pub all_added : List PlainDeclaration → Entries
all_added [] = []
all_added (d ∷ ds) = added d ++ all_added ds

no_more : (es : Entries) → es ≡ es ++ []
no_more [] = refl
no_more (e ∷ es) = ap (λ (z : Entries). e ∷ z) (no_more es)

pub in_turn : (xs ys zs : Entries) → (xs ++ ys) ++ zs ≡ xs ++ (ys ++ zs)
in_turn [] ys zs = refl
in_turn (x ∷ xs) ys zs = ap (λ (z : Entries). x ∷ z) (in_turn xs ys zs)

with_added : (s : State) (d : PlainDeclaration) → (with_declaration s d).relvars ≡ s.relvars ++ added d
with_added s (ordinal_type name values) = no_more s.relvars
with_added s (base_relvar name heading constraints) = refl
with_added s (view_relvar name t kind) = refl

pub declared_added : (s : State) (ds : List PlainDeclaration) → (declared s ds).relvars ≡ s.relvars ++ all_added ds
declared_added s [] = no_more s.relvars
declared_added s (d ∷ ds) =
    declared_added (with_declaration s d) ds ∙ (ap (λ (z : Entries). z ++ all_added ds) (with_added s d) ∙ in_turn s.relvars (added d) (all_added ds))

-- the names are different at each turn
so_far : (s : State) (ds : List PlainDeclaration) → IsDistinct bytes_eq (names_in (declared s ds).relvars) → IsDistinct bytes_eq (names_in s.relvars)
so_far s ds h =
    distinct_earlier (names_in s.relvars) (names_in (all_added ds))
    (subst (IsDistinct bytes_eq) (ap names_in (declared_added s ds) ∙ names_more s.relvars (all_added ds)) h)

declared_parts : (s : State) (ys zs : List Declaration) → declared s (map read_declaration (ys ++ zs)) ≡ declared (declared s (map read_declaration ys)) (map read_declaration zs)
declared_parts s [] zs = refl
declared_parts s (y ∷ ys) zs = declared_parts (with_declaration s (read_declaration y)) ys zs

pub next_different : (s now : State) (xs ys rest : List Declaration) (x : Declaration) → xs ≡ ys ++ x ∷ rest → now ≡ declared s (map read_declaration ys)
    → IsDistinct bytes_eq (names_in (declared s (map read_declaration xs)).relvars) → IsDistinct bytes_eq (names_in (with_declaration now (read_declaration x)).relvars)
next_different s now xs ys rest x e d h =
    let parts = ap (λ (z : List Declaration). declared s (map read_declaration z)) e ∙ declared_parts s ys (x ∷ rest) in
    let whole = subst (λ (t : State). IsDistinct bytes_eq (names_in t.relvars)) parts h in
    let then = so_far (with_declaration (declared s (map read_declaration ys)) (read_declaration x)) (map read_declaration rest) whole in
    subst (λ (t : State). IsDistinct bytes_eq (names_in (with_declaration t (read_declaration x)).relvars)) (sym d) then

-- ---- relvars without rows

abbrev pub AreEmpty : Entries → Type 0
AreEmpty [] = Unit {0}
AreEmpty (r ∷ rest) = (rows_or_none (value_of r.1) ≡ []) × AreEmpty rest

empty_both : (xs ys : Entries) → AreEmpty xs → AreEmpty ys → AreEmpty (xs ++ ys)
empty_both [] ys h k = k
empty_both (x ∷ xs) ys h k = (h.0, empty_both xs ys h.1 k)

added_empty : (d : PlainDeclaration) → AreEmpty (added d)
added_empty (ordinal_type name values) = tt
added_empty (base_relvar name heading constraints) = (refl, tt)
added_empty (view_relvar name t kind) = (refl, tt)

all_empty : (ds : List PlainDeclaration) → AreEmpty (all_added ds)
all_empty [] = tt
all_empty (d ∷ ds) = empty_both (added d) (all_added ds) (added_empty d) (all_empty ds)

empty_named : (more : Entries) (name : Name) → AreEmpty more → rows_or_none (value_if (relvar_named more name)) ≡ []
empty_named [] name h = refl
empty_named (r ∷ rest) name h = by (bytes_eq r.0 name) (empty_named rest name h.1)
  where
    by : (b : Bool) → rows_or_none (value_if (relvar_named rest name)) ≡ [] → rows_or_none (value_if (cond b (Some r.1) (relvar_named rest name))) ≡ []
    by true ih = h.0
    by false ih = ih

module _ (more : Entries) (empty : AreEmpty more) where
  rows_found : (es : Entries) (name : Name) → rows_or_none (value_if (relvar_named (es ++ more) name)) ≡ rows_or_none (value_if (relvar_named es name))
  rows_found [] name = empty_named more name empty
  rows_found (r ∷ es) name = by (bytes_eq r.0 name) (rows_found es name)
    where
      by : (b : Bool) → rows_or_none (value_if (relvar_named (es ++ more) name)) ≡ rows_or_none (value_if (relvar_named es name))
          → rows_or_none (value_if (cond b (Some r.1) (relvar_named (es ++ more) name))) ≡ rows_or_none (value_if (cond b (Some r.1) (relvar_named es name)))
      by true ih = refl
      by false ih = ih

  named_if : (es : Entries) (name : Option Name) → rows_or_none (value_at (es ++ more) name) ≡ rows_or_none (value_at es name)
  named_if es None = refl
  named_if es (Some name) = rows_found es name

  pub same_named : (es : Entries) (c : Constraint) → rows_named (es ++ more) c ≡ rows_named es c
  same_named es c = named_if es (names_relvar c)

-- ---- first broken constraints

-- the constraints name the same rows in both
abbrev pub NameTheSame : Entries → Entries → List Constraint → Type 0
NameTheSame all other [] = Unit {0}
NameTheSame all other (c ∷ cs) = (rows_named all c ≡ rows_named other c) × NameTheSame all other cs

each_same : (all other : Entries) → ((c : Constraint) → rows_named all c ≡ rows_named other c) → (cs : List Constraint) → NameTheSame all other cs
each_same all other same [] = tt
each_same all other same (c ∷ cs) = (same c, each_same all other same cs)

pub same_of : (all other : Entries) (name : Name) (rows : List Row) (n : ℕ) (cs : List Constraint) → NameTheSame all other cs
    → first_of all name rows n cs ≡ first_of other name rows n cs
same_of all other name rows n [] same = refl
same_of all other name rows n (c ∷ cs) same =
    ap (λ (z : List Row). or_later (option_map (λ code. Broken code name n) (broken c rows z)) (first_of all name rows (suc n) cs)) same.0
    ∙ ap (or_later (breach other name rows n c)) (same_of all other name rows (suc n) cs same.1)

same_in : (all other : Entries) (name : Name) (r : PlainRelvar) → ((c : Constraint) → rows_named all c ≡ rows_named other c) → first_in all name r ≡ first_in other name r
same_in all other name (base value constraints) same = same_of all other name value.rows 1 constraints (each_same all other same constraints)
same_in all other name (view t kind) same = refl
same_in all other name (log of side last w) same = refl

pub same_among : (all other es : Entries) → ((c : Constraint) → rows_named all c ≡ rows_named other c) → first_among all es ≡ first_among other es
same_among all other [] same = refl
same_among all other (r ∷ es) same =
    ap (λ (z : Option Refuse). or_later z (first_among all es)) (same_in all other r.0 r.1 same) ∙ ap (or_later (first_in other r.0 r.1)) (same_among all other es same)

pub neither : (a b : Option Refuse) → or_later a b ≡ None → (a ≡ None) × (b ≡ None)
neither None b e = (refl, e)
neither (Some x) b e = absurd (cc)

pub none_of_two : (a b : Option Refuse) → a ≡ None → b ≡ None → or_later a b ≡ None
none_of_two a b e d = ap (λ (z : Option Refuse). or_later z b) e ∙ d

none_among : (all xs ys : Entries) → first_among all xs ≡ None → first_among all ys ≡ None → first_among all (xs ++ ys) ≡ None
none_among all [] ys e d = d
none_among all (x ∷ xs) ys e d =
    let parts = neither (first_in all x.0 x.1) (first_among all xs) e in
    none_of_two (first_in all x.0 x.1) (first_among all (xs ++ ys)) parts.0 (none_among all xs ys parts.1 d)

none_of : (all : Entries) (name : Name) (rows : List Row) (n : ℕ) (cs : List Constraint) → rows ≡ [] → first_of all name rows n cs ≡ None
none_of all name rows n [] e = refl
none_of all name rows n (c ∷ cs) e =
    let holds : broken c rows (rows_named all c) ≡ None = ap (λ (z : List Row). broken c z (rows_named all c)) e ∙ broken_none c (rows_named all c) in
    none_of_two (breach all name rows n c) (first_of all name rows (suc n) cs) (ap (option_map (λ code. Broken code name n)) holds) (none_of all name rows (suc n) cs e)

none_in : (all : Entries) (name : Name) (r : PlainRelvar) → rows_or_none (value_of r) ≡ [] → first_in all name r ≡ None
none_in all name (base value constraints) e = none_of all name value.rows 1 constraints e
none_in all name (view t kind) e = refl
none_in all name (log of side last w) e = refl

none_in_empty : (all more : Entries) → AreEmpty more → first_among all more ≡ None
none_in_empty all [] h = refl
none_in_empty all (r ∷ rest) h =
    none_of_two (first_in all r.0 r.1) (first_among all rest) (none_in all r.0 r.1 h.0) (none_in_empty all rest h.1)

pub kept_more : (es more : Entries) → AreEmpty more → first_broken es ≡ None → first_broken (es ++ more) ≡ None
kept_more es more empty holds =
    none_among (es ++ more) es more (same_among (es ++ more) es es (same_named more empty es) ∙ holds) (none_in_empty (es ++ more) more empty)

-- ---- rows

pub no_rows_of : (more : Entries) → AreEmpty more → rows_of_all more ≡ 0
no_rows_of [] h = refl
no_rows_of (r ∷ rest) h = let here : count_of r ≡ 0 = ap length h.0 in let there = no_rows_of rest h.1 in omega (arith, here, there)

pub rows_of_both : (xs ys : Entries) → rows_of_all (xs ++ ys) ≡ rows_of_all xs + rows_of_all ys
rows_of_both [] ys = omega arith
rows_of_both (x ∷ xs) ys = let rest = rows_of_both xs ys in omega (arith, rest)

-- ---- databases

same_rules : (s : State) (ds : List PlainDeclaration) → (declared s ds).rules ≡ s.rules
same_rules s [] = refl
same_rules s (d ∷ ds) = same_rules (with_declaration s d) ds ∙ one s d
  where
    one : (t : State) (e : PlainDeclaration) → (with_declaration t e).rules ≡ t.rules
    one t (ordinal_type name values) = refl
    one t (base_relvar name heading constraints) = refl
    one t (view_relvar name v kind) = refl

-- what is declared behind is named by no database constraint
pub rules_stay : (sizes : List ℕ) (es more : Entries) (rs : Rules) → All (λ r. IsTypedTest sizes (headings_of es) r.1) rs → All (λ r. holds_in es r.1 ≡ true) rs
    → All (λ r. holds_in (es ++ more) r.1 ≡ true) rs
rules_stay sizes es more [] typed held = All-nil (λ r. holds_in (es ++ more) r.1 ≡ true)
rules_stay sizes es more (r ∷ rs) typed held =
    All-cons (λ z. holds_in (es ++ more) z.1 ≡ true) r rs
    (ap is_held (truth-appended sizes es more r.1 (All-head (λ z. IsTypedTest sizes (headings_of es) z.1) r rs typed)) ∙ All-head (λ z. holds_in es z.1 ≡ true) r rs held)
    (rules_stay sizes es more rs (All-tail (λ z. IsTypedTest sizes (headings_of es) z.1) r rs typed) (All-tail (λ z. holds_in es z.1 ≡ true) r rs held))

pub declared_kept : (s now : State) (ds : List PlainDeclaration) → now ≡ declared s ds → IsKept s → IsWellMade (declared s ds) → IsKept now
declared_kept s now ds e kept made = subst IsKept (sym e) (record {
  well_made = made;
  holds =
      let is = declared_added s ds in
      subst (λ (z : Entries). first_broken z ≡ None) (sym is)
      (kept_more s.relvars (all_added ds) (all_empty ds) kept.holds);
  few =
      let is = ap rows_of_all (declared_added s ds) in
      let both = rows_of_both s.relvars (all_added ds) in
      let none = no_rows_of (all_added ds) (all_empty ds) in
      let few = kept.few in
      omega (arith, is, both, none, few);
  rules =
      subst (λ (z : Entries). All (λ r. holds_in z r.1 ≡ true) (declared s ds).rules) (sym (declared_added s ds))
      (subst (λ (rs : Rules). All (λ r. holds_in (s.relvars ++ all_added ds) r.1 ≡ true) rs) (sym (same_rules s ds))
      (rules_stay (sizes_of s.ordinals) s.relvars (all_added ds) s.rules kept.well_made.rules kept.rules));
})
