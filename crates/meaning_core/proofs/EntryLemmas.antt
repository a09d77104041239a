-- The entries of a state, by the first of a name.
use Rattle.std.proofs.Common.{◌≡◌, ℕ, zero, suc, ◌+◌, ◌<◌, ◌≤◌, true, false, List, [], ◌∷◌, ◌++◌, take, refl, sym, ap, ap₂, ◌∙◌, subst, arith, cond, Option, Some, inl, inr, ◌⊎◌}
use Rattle.std.specs.Str.{bytes_eq}
use Rattle.std.proofs.lemmas.List.{append-nil}
use Rattle.std.proofs.Common.{append_assoc}
use Rattle.meaning_core.proofs.MadeLemmas.{same_name}
use Rattle.value_core.specs.Values.{Name, Heading, Relation}
use Rattle.tree_core.specs.Relvars.{PlainRelvar, Entries, relvar_named, relvar_heading}
use Rattle.meaning_core.specs.Names.{found, each_after, each_in, given, given_relvar}
use Rattle.meaning_core.specs.Sizes.{relvar_nodes, weight}
use Rattle.meaning_core.specs.Names.{IsFirstAt}
use Rattle.meaning_core.specs.Typing.{heading_named}
use Rattle.meaning_core.specs.WellMade.{headings_of, IsRelvar, AreRelvars}

-- ---- the first of a name among known names

-- a name that is not among the known ones
abbrev pub IsNew : {A : Type 0} → List (Name × A) → Name → Type 0
IsNew [] name = Unit {0}
IsNew (k ∷ ks) name = (bytes_eq k.0 name ≡ false) × IsNew ks name

new_push : {A : Type 0} (known : List (Name × A)) (k : Name × A) (name : Name) → IsNew known name → bytes_eq k.0 name ≡ false → IsNew (known ++ k ∷ []) name
new_push [] k name h e = (e, tt)
new_push (j ∷ known) k name h e = (h.0, new_push known k name h.1 e)

-- a name of the known ones keeps its meaning when more is known
abbrev IsKnown : {A : Type 0} → List (Name × A) → Name → A → Type 0
IsKnown [] name v = ⊥
IsKnown (k ∷ ks) name v = ((bytes_eq k.0 name ≡ true) × (k.1 ≡ v)) ⊎ ((bytes_eq k.0 name ≡ false) × IsKnown ks name v)

known_push : {A : Type 0} (known : List (Name × A)) (name : Name) (own : Name) (v : A) → IsNew known name → bytes_eq own name ≡ true → IsKnown (known ++ (own, v) ∷ []) name v
known_push [] name own v h e = inl (e, refl)
known_push (k ∷ known) name own v h e = inr (h.0, known_push known name own v h.1 e)

known_more : {A : Type 0} (known more : List (Name × A)) (name : Name) (v : A) → IsKnown known name v → IsKnown (known ++ more) name v
known_more [] more name v h = absurd h
known_more (k ∷ known) more name v h = elim h [ inl e ↦ inl e | inr e ↦ inr (e.0, known_more known more name v e.1) ]

found_known : {A : Type 0} (other : A) (known : List (Name × A)) (name : Name) (v : A) → IsKnown known name v → found other known name ≡ v
found_known other [] name v h = absurd h
found_known other (k ∷ known) name v h = elim h [
  | inl e ↦ ap (λ r. cond r k.1 (found other known name)) e.0 ∙ e.1
  | inr e ↦ ap (λ r. cond r k.1 (found other known name)) e.0 ∙ found_known other known name v e.1
]

module _ {A : Type 0} (of : List (Name × A) → PlainRelvar → A) where
  keeps_known : (known : List (Name × A)) (entries : Entries) (name : Name) (v : A) → IsKnown known name v → IsKnown (each_after of known entries) name v
  keeps_known known [] name v h = h
  keeps_known known (r ∷ rest) name v h = keeps_known (known ++ (r.0, of known r.1) ∷ []) rest name v (known_more known ((r.0, of known r.1) ∷ []) name v h)

  known_first : (known : List (Name × A)) (entries : Entries) (name : Name) (i b : ℕ) (x : PlainRelvar) → IsNew known name → IsFirstAt entries name i x → i < b
      → IsKnown (each_after of known (take b entries)) name (of (each_after of known (take i entries)) x)
  known_first known [] name i b x new h l = absurd h
  known_first known (r ∷ rest) name i zero x new h l = absurd (omega arith)
  known_first known (r ∷ rest) name zero (suc b) x new h l =
      keeps_known (known ++ (r.0, of known r.1) ∷ []) (take b rest) name (of known x)
      (subst (λ (y : PlainRelvar). IsKnown (known ++ (r.0, of known r.1) ∷ []) name (of known y)) h.1 (known_push known name r.0 (of known r.1) new h.0))
  known_first known (r ∷ rest) name (suc i) (suc b) x new h l =
      known_first (known ++ (r.0, of known r.1) ∷ []) rest name i b x (new_push known (r.0, of known r.1) name new h.0) h.1 (omega arith)

  pub found_first : (other : A) (entries : Entries) (name : Name) (i b : ℕ) (x : PlainRelvar) → IsFirstAt entries name i x → i < b
      → found other (each_in of (take b entries)) name ≡ of (each_in of (take i entries)) x
  found_first other entries name i b x h l =
      found_known other (each_in of (take b entries)) name (of (each_in of (take i entries)) x) (known_first [] entries name i b x tt h l)

-- ---- what an entry is

pub named_first : (entries : Entries) (name : Name) (i : ℕ) (x : PlainRelvar) → IsFirstAt entries name i x → relvar_named entries name ≡ Some x
named_first [] name i x h = absurd h
named_first (r ∷ rest) name zero x h = ap (λ b. cond b (Some r.1) (relvar_named rest name)) h.0 ∙ ap Some h.1
named_first (r ∷ rest) name (suc i) x h = ap (λ b. cond b (Some r.1) (relvar_named rest name)) h.0 ∙ named_first rest name i x h.1

-- a name among the first entries stands before their end, and has its entry's heading
pub heading_first : (entries : Entries) (name : Name) (i b : ℕ) (x : PlainRelvar) (h : Heading) → IsFirstAt entries name i x
    → heading_named (headings_of (take b entries)) name ≡ Some h → (i < b) × (relvar_heading x ≡ h)
heading_first [] name i b x h at e = absurd at
heading_first (r ∷ rest) name i zero x h at e = absurd (cc)
heading_first (r ∷ rest) name zero (suc b) x h at e =
    let one : Some (relvar_heading r.1) ≡ Some h = ap (λ c. cond c (Some (relvar_heading r.1)) (heading_named (headings_of (take b rest)) name)) (sym at.0) ∙ e in
    (omega arith, ap relvar_heading (sym at.1) ∙ (let same : relvar_heading r.1 ≡ h = cc in same))
heading_first (r ∷ rest) name (suc i) (suc b) x h at e =
    let more = ap (λ c. cond c (Some (relvar_heading r.1)) (heading_named (headings_of (take b rest)) name)) (sym at.0) ∙ e in
    let told = heading_first rest name i b x h at.1 more in
    (omega (arith, told.0), told.1)

pub weight_first : (entries : Entries) (name : Name) (i b : ℕ) (x : PlainRelvar) → IsFirstAt entries name i x → i < b
    → relvar_nodes x + weight (take i entries) ≤ weight (take b entries)
weight_first [] name i b x h l = absurd h
weight_first (r ∷ rest) name i zero x h l = absurd (omega arith)
weight_first (r ∷ rest) name zero (suc b) x h l =
    let e : relvar_nodes r.1 ≡ relvar_nodes x = ap relvar_nodes h.1 in
    omega (arith, e)
weight_first (r ∷ rest) name (suc i) (suc b) x h l =
    let e = weight_first rest name i b x h.1 (omega arith) in
    omega (arith, e)

-- what holds of a view behind the entries before it
abbrev IsRelvarOf : List ℕ → Entries → PlainRelvar → Type 0
IsRelvarOf sizes before r = (own : Name) × IsRelvar sizes before own r

relvar_behind : (sizes : List ℕ) (before entries : Entries) (name : Name) (i : ℕ) (x : PlainRelvar) → AreRelvars sizes before entries → IsFirstAt entries name i x
    → IsRelvarOf sizes (before ++ take i entries) x
relvar_behind sizes before [] name i x h at = absurd at
relvar_behind sizes before (r ∷ rest) name zero x h at =
    subst (λ (y : PlainRelvar). IsRelvarOf sizes (before ++ []) y) at.1 (r.0, subst (λ (es : Entries). IsRelvar sizes es r.0 r.1) (sym (append-nil before)) h.0)
relvar_behind sizes before (r ∷ rest) name (suc i) x h at =
    subst (λ (es : Entries). IsRelvarOf sizes es x) (append_assoc before (r ∷ []) (take i rest)) (relvar_behind sizes (before ++ r ∷ []) rest name i x h.1 at.1)

pub relvar_first : (sizes : List ℕ) (entries : Entries) (name : Name) (i : ℕ) (x : PlainRelvar) → AreRelvars sizes [] entries → IsFirstAt entries name i x
    → (own : Name) × IsRelvar sizes (take i entries) own x
relvar_first sizes entries name i x h at = relvar_behind sizes [] entries name i x h at

-- ---- another value

pub given_first : (with : Option Name) (value : Option Relation) (entries : Entries) (name : Name) (i : ℕ) (x : PlainRelvar) → IsFirstAt entries name i x
    → IsFirstAt (given with value entries) name i (given_relvar with value name x)
given_first with value [] name i x h = absurd h
given_first with value (r ∷ rest) name zero x h =
    (h.0, ap₂ (λ (n : Name) (y : PlainRelvar). given_relvar with value n y) (same_name r.0 name h.0) h.1)
given_first with value (r ∷ rest) name (suc i) x h = (h.0, given_first with value rest name i x h.1)
