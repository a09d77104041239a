-- What is stored of a view is what its name means in a scope: it names base relvars alone, none that has another value.
--     view_meant      a view's name means what its expression means
--     stored_meant      what is stored of a view has the rows that its name means
--     evaluated_cost      where nothing is, its name takes what its expression takes
use Rattle.std.proofs.Common.{◌≡◌, ℕ, zero, suc, ◌+◌, ◌<◌, ◌≤◌, Bool, true, false, not, cond, List, [], ◌∷◌, length, take, get_or, refl, sym, ap, ◌∙◌, subst, arith, true≢false, Option, Some, None, Ok}
use Rattle.std.specs.Prelude.{◌||◌}
use Rattle.std.specs.Str.{bytes_eq}
use Rattle.std.proofs.lemmas.Bool.{or_parts}
use Rattle.value_core.specs.Values.{Name, Heading, Relation}
use Rattle.relation_core.specs.Answers.{under}
use Rattle.relation_core.proofs.FilterLemmas.{take_all}
use Rattle.tree_core.specs.Relvars.{PlainKind, derived, of_history, stored, PlainRelvar, base, view, log, Entries, relvar_named}
use Rattle.tree_core.specs.Trees.{Tree, heading_of}
use Rattle.tree_core.specs.Uses.{names_any}
use Rattle.meaning_core.specs.Meanings.{plainly, meaning, relvar_meaning, known_in, meaning_in}
use Rattle.meaning_core.specs.Names.{found, given, given_relvar, with_value, IsFirstAt}
use Rattle.meaning_core.specs.StoredRows.{IsValueOf, IsValueThere, HasItsRows, HaveTheirRows}
use Rattle.meaning_core.specs.WellMade.{sizes_of, is_base, is_base_in, IsOfKind}
use Rattle.meaning_core.proofs.ElsewhereLemmas.{meaning-agrees, names-alike}
use Rattle.meaning_core.proofs.EntryLemmas.{found_first, given_first, relvar_first}
use Rattle.meaning_core.proofs.LimitLemmas.{with_rows}
use Rattle.algebra_core.specs.Costs.{is_renewed, tree_cost}
use Rattle.algebra_core.specs.Scopes.{CanLookUp, state_of, all_of, with_of, value_of, known_at, prices_at, up_to, stored_rows, entry_meaning, entry_cost}
use Rattle.algebra_core.specs.declared.scope.Scope.{Scope}

-- ---- the relvar that has another value

abbrev is_with : Option Name → Name → Bool
is_with None name = false
is_with (Some with) name = bytes_eq name with

given_apart : (with : Option Name) (value : Option Relation) (name : Name) (r : PlainRelvar) → is_with with name ≡ false → given_relvar with value name r ≡ r
given_apart None value name r e = refl
given_apart (Some with) None name r e = refl
given_apart (Some with) (Some value) name r e = ap (λ (b : Bool). cond b (with_value value r) r) e

or_none : (b : Bool) → (b || false) ≡ b
or_none true = refl
or_none false = refl

-- an expression that names none of some, and not that relvar
none_either : (some : Name → Bool) (with : Option Name) (t : Tree) → names_any some t ≡ false → is_renewed with t ≡ false → names_any (λ name. some name || is_with with name) t ≡ false
none_either some None t none e = names-alike some (λ name. some name || false) some (λ name q. or_none (some name)) t none ∙ none
none_either some (Some with) t none e =
    names-alike some (λ name. some name || bytes_eq name with) (λ name. bytes_eq name with) (λ name q. ap (λ (b : Bool). b || bytes_eq name with) q) t none ∙ e

-- ---- base relvars among the first entries

-- the first entry of the name stands before the end
abbrev StandsBefore : Entries → ℕ → Name → PlainRelvar → Type 0
StandsBefore es b name x = (i : ℕ) × IsFirstAt es name i x × (i < b) × (i < length es)

stands_there : (es : Entries) (b : ℕ) (name : Name) (x : PlainRelvar) → relvar_named (take b es) name ≡ Some x → StandsBefore es b name x
stands_there [] zero name x e = absurd (cc)
stands_there [] (suc b) name x e = absurd (cc)
stands_there (r ∷ rest) zero name x e = absurd (cc)
stands_there (r ∷ rest) (suc b) name x e = by (bytes_eq r.0 name) refl (stands_there rest b name x) e
  where
    by : (t : Bool) → bytes_eq r.0 name ≡ t → (relvar_named (take b rest) name ≡ Some x → StandsBefore rest b name x) → cond t (Some r.1) (relvar_named (take b rest) name) ≡ Some x
        → StandsBefore (r ∷ rest) (suc b) name x
    by true q more f = (0, (q, let same : r.1 ≡ x = cc in same), omega arith, omega arith)
    by false q more f =
        let there = more f in
        let i = there.2 in
        let l = there.3 in
        (suc there.0, (q, there.1), omega (arith, i), omega (arith, l))

-- the name of a base relvar, but of that which has another value, means the same among all entries
module _ (all : Entries) (with : Option Name) (value : Option Relation) (at : ℕ) where
  base_means : (name : Name) (o : Option PlainRelvar) → relvar_named (take at all) name ≡ o → not (is_base o) ≡ false → is_with with name ≡ false
      → found (Ok []) (known_in (take at (given with value all))) name ≡ found (Ok []) (known_in all) name
  base_means name None e is apart = absurd (true≢false is)
  base_means name (Some (base old constraints)) e is apart =
      let there = stands_there all at name (base old constraints) e in
      found_first relvar_meaning (Ok []) (given with value all) name there.0 at (given_relvar with value name (base old constraints))
      (given_first with value all name there.0 (base old constraints) there.1) there.2
      ∙ (ap (relvar_meaning (known_in (take there.0 (given with value all)))) (given_apart with value name (base old constraints) apart)
      ∙ (sym (found_first relvar_meaning (Ok []) all name there.0 (length all) (base old constraints) there.1 there.3)
      ∙ ap (λ (es : Entries). found (Ok []) (known_in es) name) (take_all (length all) all (omega arith))))
  base_means name (Some (view t kind)) e is apart = absurd (true≢false is)
  base_means name (Some (log of side last old)) e is apart = absurd (true≢false is)

-- ---- what a stored view means

stored_means : (s : Scope) (name : Name) (at : ℕ) (t : Tree) → CanLookUp s name at (view t stored) → is_renewed (with_of s) t ≡ false
    → meaning (known_at (up_to s at)) plainly t ≡ meaning_in (all_of s) t
stored_means s name at t can none =
    let other : Name → Bool = λ n. not (is_base_in (take at (all_of s)) n) in
    let kind : IsOfKind (take at (all_of s)) t stored = (relvar_first (sizes_of (state_of s).ordinals) (all_of s) name at (view t stored) can.relvars can.first).1.1 in
    meaning-agrees (λ n. other n || is_with (with_of s) n) (known_at (up_to s at)) (known_in (all_of s))
    (λ n e. let parts = or_parts (other n) (is_with (with_of s) n) e in base_means (all_of s) (with_of s) (value_of s) at n (relvar_named (take at (all_of s)) n) refl parts.0 parts.1)
    plainly t (none_either other (with_of s) t kind.1 none)

-- its rows are at its place
rows_there : (all es : Entries) (rows : List (Option Relation)) (name : Name) (at : ℕ) (x : PlainRelvar) → HaveTheirRows all es rows → IsFirstAt es name at x
    → HasItsRows all x (get_or rows at None)
rows_there all [] rows name at x have first = absurd first
rows_there all (r ∷ es) [] name zero x have first = subst (λ (y : PlainRelvar). HasItsRows all y None) first.1 have.0
rows_there all (r ∷ es) [] name (suc at) x have first = rows_there all es [] name at x have.1 first.1
rows_there all (r ∷ es) (o ∷ rows) name zero x have first = subst (λ (y : PlainRelvar). HasItsRows all y o) first.1 have.0
rows_there all (r ∷ es) (o ∷ rows) name (suc at) x have first = rows_there all es rows name at x have.1 first.1

view_given : (with : Option Name) (value : Option Relation) (name : Name) (t : Tree) (kind : PlainKind) → given_relvar with value name (view t kind) ≡ view t kind
view_given None value name t kind = refl
view_given (Some with) None name t kind = refl
view_given (Some with) (Some value) name t kind = by (bytes_eq name with)
  where
    by : (b : Bool) → cond b (view t kind) (view t kind) ≡ view t kind
    by true = refl
    by false = refl

pub view_meant : (s : Scope) (name : Name) (at : ℕ) (t : Tree) (kind : PlainKind) → meaning (known_at (up_to s at)) plainly t ≡ entry_meaning s name at (view t kind)
view_meant s name at t kind = ap (relvar_meaning (known_at (up_to s at))) (sym (view_given (with_of s) (value_of s) name t kind))

pub nothing : (v : Relation) → None ≡ Some v → ⊥
nothing v e = cc

pub stored_meant : (s : Scope) (name : Name) (at : ℕ) (t : Tree) (kind : PlainKind) (v : Relation) → CanLookUp s name at (view t kind) → stored_rows s at t kind ≡ Some v
    → under (heading_of t) (entry_meaning s name at (view t kind)) ≡ Ok v
stored_meant s name at t derived v can e = absurd (nothing v e)
stored_meant s name at t (of_history names) v can e = absurd (nothing v e)
stored_meant s name at t stored v can e = by (is_renewed (with_of s) t) refl e
  where
    by : (b : Bool) → is_renewed (with_of s) t ≡ b → cond b None (get_or s.stored.now at None) ≡ Some v → under (heading_of t) (entry_meaning s name at (view t stored)) ≡ Ok v
    by true q f = absurd (nothing v f)
    by false q f =
        let there : IsValueOf (all_of s) t v = subst (IsValueThere (all_of s) t) f (rows_there (all_of s) (all_of s) s.stored.now name at (view t stored) can.stored can.first) in
        let meant : entry_meaning s name at (view t stored) ≡ Ok v.rows = sym (view_meant s name at t stored) ∙ (stored_means s name at t can q ∙ there.means) in
        ap (under (heading_of t)) meant ∙ ap (λ (h : Heading). Ok (with_rows h v.rows)) (sym there.headed)

-- ---- what its name takes

expression_cost : (s : Scope) (name : Name) (at : ℕ) (t : Tree) (kind : PlainKind) → CanLookUp s name at (view t kind) → stored_rows s at t kind ≡ None
    → entry_cost s at (view t kind) ≡ tree_cost (prices_at (up_to s at)) plainly t
expression_cost s name at t derived can e = refl
expression_cost s name at t (of_history names) can e = refl
expression_cost s name at t stored can e = by (is_renewed (with_of s) t) refl e
  where
    by : (b : Bool) → is_renewed (with_of s) t ≡ b → cond b None (get_or s.stored.now at None) ≡ None
        → cond b (tree_cost (prices_at (up_to s at)) plainly t) 0 ≡ tree_cost (prices_at (up_to s at)) plainly t
    by true q f = refl
    by false q f = absurd (subst (IsValueThere (all_of s) t) f (rows_there (all_of s) (all_of s) s.stored.now name at (view t stored) can.stored can.first))

pub evaluated_cost : (s before : Scope) (name : Name) (at : ℕ) (t : Tree) (kind : PlainKind) (old new : ℕ) → CanLookUp s name at (view t kind) → stored_rows s at t kind ≡ None
    → before ≡ up_to s at → new ≤ old + tree_cost (prices_at before) plainly t → new ≤ old + entry_cost s at (view t kind)
evaluated_cost s before name at t kind old new can none is told =
    subst (λ (n : ℕ). new ≤ old + n) (ap (λ (z : Scope). tree_cost (prices_at z) plainly t) is ∙ sym (expression_cost s name at t kind can none)) told
