-- Hashes of rows, and rows found by their hashes.
--     row_long      positions in the heading lie in each row
--     hashes_more, kept_more, left_out      one row more
--     hashes_from_sort      the different hashes, by a sort
--     sought_all      a row with one of the keys has one of the hashes
use Rattle.std.proofs.Common.{◌≡◌, append-nil, nat_eq, ℕ, ◌+◌, ◌<◌, List, [], ◌∷◌, ◌++◌, length, get_or, take, map, refl, sym, ap, ◌∙◌, subst, arith, Bool, true, false, if◌then◌else◌}
use Rattle.std.specs.Bool.{IsTrue}
use Rattle.std.specs.Cmp.{nat_cmp_total, unsigned_ties}
use Rattle.std.specs.FinMap.{nat_cmp-IsAntisymmetric}
use Rattle.std.specs.List.{All, dedup, filter, list_all}
use Rattle.std.specs.List.Retain.{IsFiltered, DiffersFromLast}
use Rattle.std.specs.List.Sorted.{IsPermutation, IsSorted, IsStrictlySortedBy}
use Rattle.std.specs.Ordering.{nat_cmp}
use Rattle.std.proofs.lemmas.Bool.{true≢false}
use Rattle.std.proofs.lemmas.List.{get_or-map, length-map, map_more}
use Rattle.std.proofs.lemmas.List.Elements.{filter_more}
use Rattle.std.proofs.lemmas.List.Filters.{dedup_is}
use Rattle.std.proofs.lemmas.List.Kept.{IsStrictlySortedBy-dedup}
use Rattle.base_core.specs.Sets.{has, in_order}
use Rattle.base_core.proofs.MemberLemmas.{In-map, has-In}
use Rattle.base_core.proofs.SetLemmas.{In, In-in_order, in_order_of_sorted}
use Rattle.value_core.specs.Order.{row_total, row_separates}
use Rattle.value_core.specs.Values.{Row, Relation, IsRelation, fits_heading, row_cmp}
use Rattle.relation_core.specs.Agreement.{part_of}
use Rattle.relation_core.specs.Parts.{projected}
use Rattle.relation_core.proofs.AgreementLemmas.{length_of_fit}
use Rattle.relation_core.proofs.FilterLemmas.{passes_at}
use Rattle.relation_core.specs.Hashes.{hash_of, row_hash}

-- ---- positions in the rows of a relation

pub row_long : (r : Relation) (rows : List Row) (i : ℕ) (x : Row) (positions : List ℕ) → IsRelation r → rows ≡ r.rows → i < length rows → x ≡ get_or rows i x
    → All (λ (k : ℕ). k < length r.heading) positions → All (λ (k : ℕ). k < length x) positions
row_long r rows i x positions is same l at within k d lt =
    let all : IsTrue (list_all (fits_heading r.heading) rows) = subst (λ (zs : List Row). IsTrue (list_all (fits_heading r.heading) zs)) (sym same) is.fitting in
    let fits : IsTrue (fits_heading r.heading x) = subst (λ (z : Row). IsTrue (fits_heading r.heading z)) (sym at) (passes_at (fits_heading r.heading) rows i x all l) in
    let size = length_of_fit r.heading x fits in
    let below = within k d lt in
    omega (arith, size, below)

-- as many hashes as rows
pub below_rows : (positions : List ℕ) (rows given : List Row) (hashes list : List ℕ) (i : ℕ) → hashes ≡ map (hash_of positions) rows → given ≡ rows → list ≡ hashes → i < length list → i < length given
below_rows positions rows given hashes list i are same is l =
    let many : length list ≡ length rows = ap (λ (ms : List ℕ). length ms) (is ∙ are) ∙ length-map rows (hash_of positions) in
    let size : length given ≡ length rows = ap (λ (rs : List Row). length rs) same in
    omega (arith, l, many, size)

-- ---- one row more

pub hashes_more : (positions : List ℕ) (rows : List Row) (i : ℕ) (x : Row) (hash : ℕ) (before now : List ℕ) → i < length rows → x ≡ get_or rows i x → hash ≡ hash_of positions x
    → before ≡ map (hash_of positions) (take i rows) → now ≡ before ++ hash ∷ [] → now ≡ map (hash_of positions) (take (i + 1) rows)
hashes_more positions rows i x hash before now l at is so_far more =
    more
    ∙ (ap (λ (ms : List ℕ). ms ++ hash ∷ []) so_far
    ∙ (ap (λ (m : ℕ). map (hash_of positions) (take i rows) ++ m ∷ []) (is ∙ ap (hash_of positions) at) ∙ sym (map_more (hash_of positions) rows i x l)))

module _ (keys : List Row) (positions : List ℕ) (rows : List Row) (i : ℕ) (x : Row) (l : i < length rows) (at : x ≡ get_or rows i x) where
  abbrev keeps : Row → Bool
  keeps z = has row_cmp keys (part_of positions z)

  pub kept_more : (before now : List Row) → before ≡ filter (λ z. has row_cmp keys (part_of positions z)) (take i rows)
      → now ≡ before ++ (if has row_cmp keys (part_of positions x) then x ∷ [] else []) → now ≡ filter (λ z. has row_cmp keys (part_of positions z)) (take (i + 1) rows)
  kept_more before now so_far more =
      more
      ∙ (ap (λ (b : List Row). b ++ (if keeps x then x ∷ [] else [])) so_far
      ∙ (ap (λ z. filter keeps (take i rows) ++ (if keeps z then z ∷ [] else [])) at ∙ sym (filter_more keeps rows i x l)))

-- a row whose hash is not sought has none of the keys
module _ (keys : List Row) (positions : List ℕ) (rows : List Row) (hashes sought : List ℕ) (i : ℕ) (l : i < length rows) (are : hashes ≡ map (hash_of positions) rows)
    (all : (x : Row) → IsTrue (has row_cmp keys (part_of positions x)) → IsTrue (has nat_cmp sought (hash_of positions x))) where
  same_hash : (x : Row) → get_or hashes i 0 ≡ hash_of positions (get_or rows i x)
  same_hash x = ap (λ (ms : List ℕ). get_or ms i 0) are ∙ get_or-map (hash_of positions) rows i x 0 l

  no_key : (x : Row) → has nat_cmp sought (get_or hashes i 0) ≡ false → has row_cmp keys (part_of positions (get_or rows i x)) ≡ false
  no_key x missing =
      elim (has row_cmp keys (part_of positions (get_or rows i x))) as (λ b. has row_cmp keys (part_of positions (get_or rows i x)) ≡ b → b ≡ false) [
        | true ↦ λ e.
            let found : has nat_cmp sought (get_or hashes i 0) ≡ true = ap (has nat_cmp sought) (same_hash x) ∙ all (get_or rows i x) e in
            absurd (true≢false (sym found ∙ missing))
        | false ↦ λ e. refl
      ] refl

  pub left_out : (before now : List Row) → has nat_cmp sought (get_or hashes i 0) ≡ false → before ≡ filter (λ z. has row_cmp keys (part_of positions z)) (take i rows) → now ≡ before
      → now ≡ filter (λ z. has row_cmp keys (part_of positions z)) (take (i + 1) rows)
  left_out before now missing so_far stays =
      let p : Row → Bool = λ z. has row_cmp keys (part_of positions z) in
      let none : filter p (take (i + 1) rows) ≡ filter p (take i rows) ++ [] =
      filter_more p rows i [] l ∙ ap (λ b. filter p (take i rows) ++ (if b then get_or rows i [] ∷ [] else [])) (no_key [] missing) in
      stays ∙ (so_far ∙ sym (none ∙ append-nil (filter p (take i rows))))

-- ---- the different hashes

pub hashes_from_sort : (given sorted kept : List ℕ) → IsPermutation given sorted → IsSorted nat_cmp sorted → IsFiltered (DiffersFromLast nat_eq) [] sorted kept
    → (kept ≡ in_order nat_cmp given) × IsStrictlySortedBy nat_cmp kept
hashes_from_sort given sorted kept moved up filtered =
    let is : kept ≡ dedup nat_eq sorted = dedup_is nat_eq sorted kept filtered in (
      is ∙ in_order_of_sorted nat_cmp nat_cmp_total nat_cmp-IsAntisymmetric nat_eq unsigned_ties given sorted moved up,
      subst (IsStrictlySortedBy nat_cmp) (sym is) (IsStrictlySortedBy-dedup nat_cmp_total unsigned_ties sorted up),
    )

-- a row with one of the keys has one of the hashes
pub sought_all : (positions : List ℕ) (few keys : List Row) (sought : List ℕ) → keys ≡ projected positions few → sought ≡ in_order nat_cmp (map (hash_of positions) few) → (x : Row)
    → IsTrue (has row_cmp keys (part_of positions x)) → IsTrue (has nat_cmp sought (hash_of positions x))
sought_all positions few keys sought parts hashes x h =
    let key : In (part_of positions x) keys = (has-In row_cmp row_total row_separates keys (part_of positions x)).0 h in
    let among : In (part_of positions x) (projected positions few) = subst (λ (ks : List Row). In (part_of positions x) ks) parts key in
    let w = (In-map (part_of positions) (part_of positions x) few).0 ((In-in_order row_cmp row_total row_separates (part_of positions x) (map (part_of positions) few)).0 among) in
    let same : hash_of positions x ≡ hash_of positions w.0 = ap row_hash w.2 in
    let one : In (hash_of positions x) (map (hash_of positions) few) = (In-map (hash_of positions) (hash_of positions x) few).1 (w.0, w.1, same) in
    let found : In (hash_of positions x) sought =
    subst (λ (ms : List ℕ). In (hash_of positions x) ms) (sym hashes) ((In-in_order nat_cmp nat_cmp_total nat_cmp-IsAntisymmetric (hash_of positions x) (map (hash_of positions) few)).1 one) in
    (has-In nat_cmp nat_cmp_total nat_cmp-IsAntisymmetric sought (hash_of positions x)).1 found
