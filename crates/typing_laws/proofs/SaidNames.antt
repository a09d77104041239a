-- The names that are taken where one declaration more stands, and what is said by what it adds to a state.
--     taken-with      a name is taken there if it was, or the declaration has it
--     said-unused      what adds nothing that names one of some names none of them
use Rattle.std.proofs.Common.{◌≡◌, Bool, true, false, List, [], ◌∷◌, ◌++◌, Option, Some, refl, ap, ◌∙◌}
use Rattle.std.specs.Prelude.{◌&&◌, ◌||◌, not, is_some, if◌then◌else◌}
use Rattle.std.specs.List.{list_any}
use Rattle.std.specs.Str.{bytes_eq}
use Rattle.std.proofs.lemmas.Bool.{or_parts, or_from}
use Rattle.std.proofs.lemmas.List.Folds.{list_any-append}
use Rattle.base_core.proofs.ListLemmas.{bytes_eq-sym}
use Rattle.value_core.specs.declared.constraint.Constraint.{Constraint}
use Rattle.value_core.specs.declared.constraint.Constraint.TheVariants.{Key, Packed, WhenUnpacked, UKey, Foreign, History}
use Rattle.value_core.specs.declared.list.OrdinalNames.{OrdinalNames}
use Rattle.value_core.specs.Values.{Name}
use Rattle.tree_core.specs.Relvars.{State, derived, stored, of_history, PlainRelvar, base, view, Entries, Rules, relvar_named}
use Rattle.tree_core.specs.Trees.{Test}
use Rattle.tree_core.specs.Uses.{is_one_of, test_names_any, references_any, relvar_names_any}
use Rattle.since_during.specs.Histories.{since_heading, during_heading, since_constraints, during_constraints, view_of}
use Rattle.declaration_typing.specs.Names.{is_taken}
use Rattle.typing_laws.specs.Saying.{Said, said_ordinal, said_base, said_view, said_stored, said_history, said_rule, names_said, references_other, said_names_any, entries_said, ordinals_said, rules_said, with_said}

-- ---- names that are taken

some-behind : (es fs : Entries) (name : Name) → is_some (relvar_named (es ++ fs) name) ≡ (is_some (relvar_named es name) || is_some (relvar_named fs name))
some-behind [] fs name = refl
some-behind (e ∷ es) fs name = by-test (bytes_eq e.0 name) (some-behind es fs name)
  where
    by-test : (b : Bool) → is_some (relvar_named (es ++ fs) name) ≡ (is_some (relvar_named es name) || is_some (relvar_named fs name))
        → is_some (if b then Some e.1 else relvar_named (es ++ fs) name) ≡ (is_some (if b then Some e.1 else relvar_named es name) || is_some (relvar_named fs name))
    by-test true more = refl
    by-test false more = more

six : (a x b y c z : Bool) → ((a || x) || (b || y) || (c || z)) ≡ ((a || b || c) || (x || y || z))
six true x b y c z = refl
six false true true y c z = refl
six false true false y true z = refl
six false true false y false z = refl
six false false true y c z = refl
six false false false true true z = refl
six false false false true false z = refl
six false false false false c z = refl

abbrev has_type : List OrdinalNames → Name → Bool
has_type types name = list_any (λ (o : OrdinalNames). bytes_eq name o.name) types

abbrev has_rule : Rules → Name → Bool
has_rule rules name = list_any (λ (r : Name × Test). bytes_eq name r.0) rules

one-some : (b : Bool) (x : PlainRelvar) (o : Option PlainRelvar) → is_some (if b then Some x else o) ≡ (b || is_some o)
one-some true x o = refl
one-some false x o = refl

or-nothing : (b : Bool) → (b || false) ≡ b
or-nothing true = refl
or-nothing false = refl

two-nothing : (b : Bool) → (b || false || false) ≡ b
two-nothing true = refl
two-nothing false = refl

-- the names of entries are names
entry-has : (own name : Name) (x : PlainRelvar) (rest : Entries) → is_some (relvar_named ((own, x) ∷ rest) name) ≡ (bytes_eq name own || is_some (relvar_named rest name))
entry-has own name x rest = one-some (bytes_eq own name) x (relvar_named rest name) ∙ ap (λ (b : Bool). b || is_some (relvar_named rest name)) (bytes_eq-sym own name)

three-have : (a b c name : Name) (x y z : PlainRelvar) → is_some (relvar_named ((a, x) ∷ (b, y) ∷ (c, z) ∷ []) name) ≡ (bytes_eq name a || (bytes_eq name b || (bytes_eq name c || false)))
three-have a b c name x y z =
    entry-has a name x ((b, y) ∷ (c, z) ∷ [])
    ∙ ap (λ (t : Bool). bytes_eq name a || t) (entry-has b name y ((c, z) ∷ []) ∙ ap (λ (t : Bool). bytes_eq name b || t) (entry-has c name z []))

own-names : (d : Said) (name : Name) → (has_type (ordinals_said d) name || is_some (relvar_named (entries_said d) name) || has_rule (rules_said d) name) ≡ is_one_of (names_said d) name
own-names (said_ordinal own names) name = two-nothing (bytes_eq name own || false)
own-names (said_base own heading typed) name = or-nothing (is_some (relvar_named (entries_said (said_base own heading typed)) name)) ∙ entry-has own name _ []
own-names (said_view own t) name = or-nothing (is_some (relvar_named (entries_said (said_view own t)) name)) ∙ entry-has own name _ []
own-names (said_stored own t) name = or-nothing (is_some (relvar_named (entries_said (said_stored own t)) name)) ∙ entry-has own name _ []
own-names (said_history made) name =
    or-nothing (is_some (relvar_named (entries_said (said_history made)) name))
    ∙ three-have made.since made.during made.view name (base (record { heading = since_heading made; rows = [] }) (since_constraints made))
    (base (record { heading = during_heading made; rows = [] }) (during_constraints made)) (view (view_of made) (of_history (made.since, made.during)))
own-names (said_rule own t) name = refl

pub taken-with : (s : State) (d : Said) (name : Name) → is_taken (with_said s d) name ≡ (is_taken s name || is_one_of (names_said d) name)
taken-with s d name =
    (λ i. list_any-append (λ (o : OrdinalNames). bytes_eq name o.name) s.ordinals (ordinals_said d) i || some-behind s.relvars (entries_said d) name i
    || list_any-append (λ (r : Name × Test). bytes_eq name r.0) s.rules (rules_said d) i)
    ∙ (six (has_type s.ordinals name) (has_type (ordinals_said d) name) (is_some (relvar_named s.relvars name)) (is_some (relvar_named (entries_said d) name))
    (has_rule s.rules name) (has_rule (rules_said d) name)
    ∙ ap (λ (b : Bool). is_taken s name || b) (own-names d name))

-- ---- what is said names no more than what it adds

module _ (some : Name → Bool) where
  none-other : (b c : Bool) → c ≡ false → (not b && c) ≡ false
  none-other true c e = refl
  none-other false c e = e

  one-unused : (own : Name) (c : Constraint) → references_any some c ≡ false → references_other some own c ≡ false
  one-unused own (Key k) e = refl
  one-unused own (Packed commalist) e = refl
  one-unused own (WhenUnpacked commalist k) e = refl
  one-unused own (UKey commalist k) e = refl
  one-unused own (Foreign commalist k other there) e = none-other (bytes_eq own other) (some other) e
  one-unused own (History rule) e = none-other (bytes_eq own rule.since) (some rule.since) e

  all-unused : (own : Name) (cs : List Constraint) → list_any (references_any some) cs ≡ false → list_any (references_other some own) cs ≡ false
  all-unused own [] e = refl
  all-unused own (c ∷ cs) e =
      let parts = or_parts (references_any some c) (list_any (references_any some) cs) e in
      or_from (references_other some own c) (list_any (references_other some own) cs) (one-unused own c parts.0) (all-unused own cs parts.1)

  pub said-unused : (d : Said) → list_any (λ (e : Name × PlainRelvar). relvar_names_any some e.1) (entries_said d) ≡ false
      → list_any (λ (r : Name × Test). test_names_any some r.1) (rules_said d) ≡ false
      → said_names_any some d ≡ false
  said-unused (said_ordinal own names) entries rules = refl
  said-unused (said_base own heading typed) entries rules = all-unused own typed (or_parts (list_any (references_any some) typed) false entries).0
  said-unused (said_view own t) entries rules = (or_parts (relvar_names_any some (view t derived)) false entries).0
  said-unused (said_stored own t) entries rules = (or_parts (relvar_names_any some (view t stored)) false entries).0
  said-unused (said_history made) entries rules = refl
  said-unused (said_rule own t) entries rules = (or_parts (test_names_any some t) false rules).0
