-- Attributes by their names and positions.
use Rattle.std.specs.Prelude.{◌≡◌, ◌<◌, ◌≤◌, ℕ, ◌+◌, Bool, true, false, ◌||◌, List, [], ◌∷◌, length, get_or, nat_eq, IsTrue, refl, if◌then◌else◌}
use Rattle.std.proofs.Common.{arith, sym, ◌∙◌, ap, ap₂, subst, inl, inr}
use Rattle.std.specs.List.{All, AllByRecursion, IsDistinct}
use Rattle.std.specs.Ordering.{nat_cmp}
use Rattle.std.specs.Str.{bytes_eq}
use Rattle.std.proofs.lemmas.Bool.{true≢false, false_from_ne_true, eqb-true}
use Rattle.std.proofs.lemmas.Cmp.{nat_cmp_total}
use Rattle.std.proofs.lemmas.Slice.Eq.{bytes_eq-Decides}
use Rattle.base_core.proofs.SetLemmas.{In, Ascends}
use Rattle.base_core.proofs.MemberLemmas.{In-map, list_any-In}
use Rattle.base_core.proofs.SetOperatorLemmas.{is_set-Ascends}
use Rattle.base_core.proofs.ListLemmas.{In-get_or, All-In}
use Rattle.value_core.specs.declared.kind.Kind.{Kind}
use Rattle.value_core.specs.Attributes.{among}
use Rattle.value_core.specs.Headings.{has_name}
use Rattle.value_core.specs.Values.{Name, Heading, attribute_cmp}
use Rattle.relation_core.specs.Agreement.{position_of, as_wanted}
use Rattle.relation_core.specs.Parts.{no_attribute}
use Rattle.meaning_core.specs.Meanings.{positions_of, names_at}
use Rattle.meaning_core.specs.Typing.{ArePositions}
use Rattle.meaning_core.proofs.MadeLemmas.{one_in_order, own_name}
use Rattle.node_typing.specs.Lists.{kind_named}
use Rattle.node_typing.specs.Positions.{kept_from, kept}
use Rattle.node_typing.proofs.KeptLemmas.{kept-ascends}
use Rattle.declaration_typing.proofs.PositionLemmas.{position-named}

-- ---- the attribute of a name

-- a name with its kind is an attribute
pub attribute-named : (h : Heading) (name : Name) → IsTrue (has_name h name) → In (name, kind_named h name) h
attribute-named h name e =
    let at = position-named h name e in
    let a : Name × Kind = get_or h (position_of h name) no_attribute in
    let same : a ≡ (name, kind_named h name) = ap (λ (n : Name). (n, (get_or h (position_of h name) no_attribute).1)) at.1 in
    subst (λ (z : Name × Kind). In z h) same (In-get_or h (position_of h name) no_attribute at.0)

pub named-in : (h : Heading) (name : Name) (kind : Kind) → In (name, kind) h → IsTrue (has_name h name)
named-in h name kind i = (list_any-In (λ (b : Name × Kind). bytes_eq b.0 name) h).1 ((name, kind), i, own_name name)

-- an attribute of a heading is the one of its name
pub kind-is : (h : Heading) (name : Name) (kind : Kind) → Ascends attribute_cmp h → In (name, kind) h → kind_named h name ≡ kind
kind-is h name kind up i =
    let j = attribute-named h name (named-in h name kind i) in
    ap (λ (a : Name × Kind). a.1) (one_in_order h (name, kind) (name, kind_named h name) up i j (own_name name))

-- ---- positions of names

pub names-at-positions : (h : Heading) (names : List Name) → ((n : Name) → In n names → IsTrue (has_name h n)) → names_at h (positions_of h names) ≡ names
names-at-positions h [] known = refl
names-at-positions h (n ∷ names) known =
    ap₂ (λ (m : Name) (ms : List Name). m ∷ ms) (position-named h n (known n (inl refl))).1 (names-at-positions h names (λ m i. known m (inr i)))

pub positions-within : (h : Heading) (names : List Name) → ((n : Name) → In n names → IsTrue (has_name h n)) → All (λ (i : ℕ). i < length h) (positions_of h names)
positions-within h names known =
    All-In (λ (i : ℕ). i < length h) (positions_of h names) (λ i m.
    let w = (In-map (position_of h) i names).0 m in
    subst (λ (j : ℕ). j < length h) (sym w.2) (position-named h w.0 (known w.0 w.1)).0)

other-positions : (h : Heading) (n : Name) (names : List Name) → IsTrue (has_name h n) → ((m : Name) → In m names → IsTrue (has_name h m))
    → AllByRecursion (λ m. bytes_eq n m ≡ false) names → AllByRecursion (λ i. nat_eq (position_of h n) i ≡ false) (positions_of h names)
other-positions h n [] here known apart = tt
other-positions h n (m ∷ names) here known apart = (
  false_from_ne_true (nat_eq (position_of h n) (position_of h m)) (λ e.
      let place : position_of h n ≡ position_of h m = eqb-true (position_of h n) (position_of h m) e in
      let one : n ≡ m = sym (position-named h n here).1 ∙ (ap (λ (i : ℕ). (get_or h i no_attribute).0) place ∙ (position-named h m (known m (inl refl))).1) in
      let same : bytes_eq n m ≡ true = (bytes_eq-Decides n m).1 one in
      true≢false (sym same ∙ apart.0)),
  other-positions h n names here (λ k i. known k (inr i)) apart.1,
)

pub positions-differ : (h : Heading) (names : List Name) → ((n : Name) → In n names → IsTrue (has_name h n)) → IsDistinct bytes_eq names → IsDistinct nat_eq (positions_of h names)
unfolding IsDistinct
positions-differ h [] known apart = tt
positions-differ h (n ∷ names) known apart =
    (other-positions h n names (known n (inl refl)) (λ m i. known m (inr i)) apart.0, positions-differ h names (λ m i. known m (inr i)) apart.1)

-- ---- positions that are kept

kept-within : (wanted : Bool) (named : List ℕ) (n : ℕ) (h : Heading) (i : ℕ) → In i (kept_from wanted named n h) → (n ≤ i) × (i < n + length h)
kept-within wanted named n [] i m = absurd m
kept-within wanted named n (a ∷ rest) i m =
    by-test (as_wanted wanted (among named n)) (λ j. let w = kept-within wanted named (n + 1) rest i j in (omega (arith, w.0), omega (arith, w.1))) m
  where
    by-test : (b : Bool) → (In i (kept_from wanted named (n + 1) rest) → (n ≤ i) × (i < n + length (a ∷ rest)))
        → In i (if b then n ∷ kept_from wanted named (n + 1) rest else kept_from wanted named (n + 1) rest) → (n ≤ i) × (i < n + length (a ∷ rest))
    by-test true more m = elim m [
      | inl e ↦ (omega (arith, e), omega (arith, e))
      | inr j ↦ more j
    ]
    by-test false more m = more m

pub kept-positions : (wanted : Bool) (named : List ℕ) (h : Heading) → ArePositions h (kept wanted named h)
kept-positions wanted named h = record {
  ascending = (is_set-Ascends nat_cmp nat_cmp_total (kept wanted named h)).1 (kept-ascends wanted named 0 h);
  within = All-In (λ (i : ℕ). i < length h) (kept wanted named h) (λ i m. let w = kept-within wanted named 0 h i m in omega (arith, w.1));
}
