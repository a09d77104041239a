-- Marks of a list of hashes.
--     none_marked, marks_more      where there is no table, and of one hash more
--     sought_marked      a hash that is sought has a mark
use Rattle.std.proofs.Common.{◌≡◌, ℕ, ◌+◌, ◌<◌, Bool, true, ◌&&◌, List, [], length, get_or, take, refl, ap, ◌∙◌}
use Rattle.std.specs.Cmp.{nat_cmp_total}
use Rattle.std.specs.FinMap.{nat_cmp-IsAntisymmetric}
use Rattle.std.specs.List.{list_all}
use Rattle.std.specs.Ordering.{nat_cmp}
use Rattle.std.proofs.lemmas.List.Folds.{list_all_more}
use Rattle.base_core.specs.Sets.{has}
use Rattle.base_core.proofs.MemberLemmas.{has-In, list_all-In}
use Rattle.u_constraints.specs.Marks.{is_marked}

-- where there is no table
pub none_marked : (marks : List Bool) (hashes : List ℕ) → marks ≡ [] → list_all (is_marked marks) hashes ≡ true
none_marked marks hashes none = ap (λ ms. list_all (is_marked ms) hashes) none ∙ (list_all-In (is_marked []) hashes).1 (λ h i. refl)

all_kept : (p q : ℕ → Bool) → ((h : ℕ) → p h ≡ true → q h ≡ true) → (hashes : List ℕ) → list_all p hashes ≡ true → list_all q hashes ≡ true
all_kept p q f hashes e = (list_all-In q hashes).1 (λ h i. f h ((list_all-In p hashes).0 e h i))

-- a mark more
pub marks_more : (hashes : List ℕ) (i : ℕ) (marks now : List Bool) → i < length hashes → list_all (is_marked marks) (take i hashes) ≡ true → is_marked now (get_or hashes i 0) ≡ true
    → ((h : ℕ) → is_marked marks h ≡ true → is_marked now h ≡ true) → list_all (is_marked now) (take (i + 1) hashes) ≡ true
marks_more hashes i marks now l so_far own others =
    list_all_more (is_marked now) hashes i 0 l ∙ ap (λ b. b && is_marked now (get_or hashes i 0)) (all_kept (is_marked marks) (is_marked now) others (take i hashes) so_far) ∙ own

-- a hash that is sought has a mark
pub sought_marked : (marks : List Bool) (sought : List ℕ) (hash : ℕ) → list_all (is_marked marks) sought ≡ true → has nat_cmp sought hash ≡ true → is_marked marks hash ≡ true
sought_marked marks sought hash all t = (list_all-In (is_marked marks) sought).0 all hash ((has-In nat_cmp nat_cmp_total nat_cmp-IsAntisymmetric sought hash).0 t)
