-- What a name of a base relvar stands for in a well made state, and where the names of a heading stand.
use Rattle.std.specs.Prelude.{◌≡◌, ℕ, zero, suc, ◌<◌, Bool, true, false, ◌||◌, cond, List, [], ◌∷◌, ◌++◌, length, Option, Some, None, IsTrue, refl, option_map, take}
use Rattle.std.proofs.Common.{sym, ap, ◌∙◌, arith}
use Rattle.std.specs.Cmp.Lexicographic.{texts_ties, nat_list_eq_equiv}
use Rattle.std.specs.Ordering.{is_eq}
use Rattle.std.specs.Str.{bytes_eq}
use Rattle.std.proofs.Math.Seq.{take-length}
use Rattle.base_core.proofs.SetLemmas.{AllAfter, Ascends}
use Rattle.value_core.specs.Headings.{has_name}
use Rattle.value_core.specs.Values.{Name, Heading, attribute_cmp}
use Rattle.value_core.specs.declared.kind.Kind.{Kind}
use Rattle.relation_core.specs.Agreement.{position_of}
use Rattle.tree_core.specs.Relvars.{PlainRelvar, base, view, Entries, relvar_named, relvar_heading, heading_if, log}
use Rattle.meaning_core.specs.Histories.{name_at}
use Rattle.meaning_core.specs.Names.{found, each_in}
use Rattle.meaning_core.specs.Names.{IsFirstAt}
use Rattle.meaning_core.specs.Typing.{heading_named, is_declared}
use Rattle.meaning_core.specs.WellMade.{headings_of, IsBase, AreRelvars}
use Rattle.meaning_core.proofs.EntryLemmas.{found_first}
use Rattle.meaning_core.proofs.RelvarLemmas.{heading_of_named}

-- ---- relvars

some-heading : (o : Option PlainRelvar) (h : Heading) → IsBase o → h ≡ heading_if o → option_map relvar_heading o ≡ Some h
some-heading None h is e = absurd is
some-heading (Some r) h is e = ap Some (sym e)

-- the name of a base relvar has its heading
pub base-heading : (es : Entries) (name : Name) (h : Heading) → IsBase (relvar_named es name) → h ≡ heading_if (relvar_named es name) → heading_named (headings_of es) name ≡ Some h
base-heading es name h is e = heading_of_named es name ∙ some-heading (relvar_named es name) h is e

-- and this is a declared one
pub base-declared : (sizes : List ℕ) (before es : Entries) (name : Name) → AreRelvars sizes before es → IsBase (relvar_named es name) → IsTrue (is_declared sizes (heading_if (relvar_named es name)))
base-declared sizes before [] name are = λ is. absurd is
base-declared sizes before ((own, base value constraints) ∷ rest) name are =
    elim (bytes_eq own name) as (λ b. IsBase (cond b (Some (base value constraints)) (relvar_named rest name)) → IsTrue (is_declared sizes (heading_if (cond b (Some (base value constraints)) (relvar_named rest name))))) [
      | true ↦ λ is. are.0.0
      | false ↦ base-declared sizes (before ++ (own, base value constraints) ∷ []) rest name are.1
    ]
base-declared sizes before ((own, view t kind) ∷ rest) name are =
    elim (bytes_eq own name) as (λ b. IsBase (cond b (Some (view t kind)) (relvar_named rest name)) → IsTrue (is_declared sizes (heading_if (cond b (Some (view t kind)) (relvar_named rest name))))) [
      | true ↦ λ is. absurd is
      | false ↦ base-declared sizes (before ++ (own, view t kind) ∷ []) rest name are.1
    ]
base-declared sizes before ((own, log of side last value) ∷ rest) name are =
    elim (bytes_eq own name) as (λ b. IsBase (cond b (Some (log of side last value)) (relvar_named rest name)) → IsTrue (is_declared sizes (heading_if (cond b (Some (log of side last value)) (relvar_named rest name))))) [
      | true ↦ λ is. absurd is
      | false ↦ base-declared sizes (before ++ (own, log of side last value) ∷ []) rest name are.1
    ]

-- ---- headings

apart-name : (a : Name × Kind) (rest : Heading) (i : ℕ) → AllAfter attribute_cmp a rest → i < length rest → bytes_eq a.0 (name_at rest i) ≡ false
apart-name a [] i after l = absurd (omega arith)
apart-name a (b ∷ rest) zero after l = texts_ties a.0 b.0 ∙ ap is_eq after.0
apart-name a (b ∷ rest) (suc i) after l = apart-name a rest i after.1 (omega arith)

-- a name stands where it was read
pub position-own : (h : Heading) (i : ℕ) → Ascends attribute_cmp h → i < length h → position_of h (name_at h i) ≡ i
position-own [] i up l = absurd (omega arith)
position-own (a ∷ rest) zero up l = ap (λ b. cond b 0 (suc (position_of rest a.0))) (nat_list_eq_equiv.refl a.0)
position-own (a ∷ rest) (suc i) up l =
    ap (λ b. cond b 0 (suc (position_of rest (name_at rest i)))) (apart-name a rest i up.0 (omega arith)) ∙ ap (λ k. suc k) (position-own rest i up.1 (omega arith))

pub has-own : (h : Heading) (i : ℕ) → i < length h → has_name h (name_at h i) ≡ true
has-own [] i l = absurd (omega arith)
has-own (a ∷ rest) zero l = ap (λ b. b || has_name rest a.0) (nat_list_eq_equiv.refl a.0)
has-own (a ∷ rest) (suc i) l =
    elim (bytes_eq a.0 (name_at rest i)) as (λ b. (b || has_name rest (name_at rest i)) ≡ true) [
      | true ↦ refl
      | false ↦ has-own rest i (omega arith)
    ]
