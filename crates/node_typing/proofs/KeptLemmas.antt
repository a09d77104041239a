-- The positions that a projection keeps ascend, and lie in the heading.
use Rattle.std.specs.Prelude.{ℕ, zero, suc, ◌+◌, ◌<◌, ◌≤◌, Bool, true, false, List, [], ◌∷◌, length, IsTrue, if◌then◌else◌}
use Rattle.std.proofs.Common.{arith}
use Rattle.std.specs.List.{All}
use Rattle.std.specs.Ordering.{nat_cmp}
use Rattle.std.proofs.lemmas.Cmp.{nat_cmp_total}
use Rattle.base_core.specs.Sets.{is_set}
use Rattle.base_core.proofs.SetLemmas.{AllAfter, Ascends}
use Rattle.base_core.proofs.SetOperatorLemmas.{is_set-Ascends}
use Rattle.base_core.proofs.OrderingLemmas.{lt-nat_cmp}
use Rattle.value_core.specs.Attributes.{among}
use Rattle.value_core.specs.Values.{Heading}
use Rattle.relation_core.specs.Agreement.{as_wanted}
use Rattle.node_typing.specs.Positions.{kept_from, kept}

all-more : (m x : ℕ) (xs : List ℕ) → x < m → All (λ (i : ℕ). i < m) xs → All (λ (i : ℕ). i < m) (x ∷ xs)
all-more m x xs p h zero d l = p
all-more m x xs p h (suc k) d l = h k d (omega arith)

kept-below : (wanted : Bool) (named : List ℕ) (n m : ℕ) (h : Heading) → n + length h ≤ m → All (λ (i : ℕ). i < m) (kept_from wanted named n h)
kept-below wanted named n m [] l = λ k d e. absurd (omega arith)
kept-below wanted named n m (a ∷ rest) l =
    let more = kept-below wanted named (n + 1) m rest (omega arith) in
    elim (as_wanted wanted (among named n)) as (λ b. All (λ (i : ℕ). i < m) (if b then n ∷ kept_from wanted named (n + 1) rest else kept_from wanted named (n + 1) rest)) [
      | true ↦ all-more m n (kept_from wanted named (n + 1) rest) (omega arith) more
      | false ↦ more
    ]

pub kept-within : (wanted : Bool) (named : List ℕ) (h : Heading) → All (λ (i : ℕ). i < length h) (kept wanted named h)
kept-within wanted named h = kept-below wanted named 0 (length h) h (omega arith)

kept-after : (wanted : Bool) (named : List ℕ) (x n : ℕ) (h : Heading) → x < n → AllAfter nat_cmp x (kept_from wanted named n h)
kept-after wanted named x n [] l = tt
kept-after wanted named x n (a ∷ rest) l =
    let more = kept-after wanted named x (n + 1) rest (omega arith) in
    elim (as_wanted wanted (among named n)) as (λ b. AllAfter nat_cmp x (if b then n ∷ kept_from wanted named (n + 1) rest else kept_from wanted named (n + 1) rest)) [
      | true ↦ (lt-nat_cmp x n l, more)
      | false ↦ more
    ]

pub kept-ascends : (wanted : Bool) (named : List ℕ) (n : ℕ) (h : Heading) → Ascends nat_cmp (kept_from wanted named n h)
kept-ascends wanted named n [] = tt
kept-ascends wanted named n (a ∷ rest) =
    let more = kept-ascends wanted named (n + 1) rest in
    elim (as_wanted wanted (among named n)) as (λ b. Ascends nat_cmp (if b then n ∷ kept_from wanted named (n + 1) rest else kept_from wanted named (n + 1) rest)) [
      | true ↦ (kept-after wanted named n (n + 1) rest (omega arith), more)
      | false ↦ more
    ]

pub kept-ascending : (wanted : Bool) (named : List ℕ) (h : Heading) → IsTrue (is_set nat_cmp (kept wanted named h))
kept-ascending wanted named h = (is_set-Ascends nat_cmp nat_cmp_total (kept wanted named h)).1 (kept-ascends wanted named 0 h)
