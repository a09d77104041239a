-- The least fault so far, row by row.
use Rattle.std.proofs.Common.{◌≡◌, ℕ, ◌+◌, ◌<◌, List, [], ◌∷◌, ◌++◌, length, get_or, take, map, refl, sym, ap, ◌∙◌, Option, Some, None, Ok, Err, ◌≤◌, inl, inr, Bool, arith}
use Rattle.std.proofs.lemmas.List.{take_more, map-append}
use Rattle.std.specs.Bool.{IsTrue}
use Rattle.std.specs.List.{list_all}
use Rattle.std.proofs.lemmas.Bool.{and_from}
use Rattle.base_core.proofs.SetLemmas.{In}
use Rattle.base_core.specs.Outcomes.{then_give, with_lesser, least_of_all}
use Rattle.base_core.proofs.OutcomeLemmas.{with_one, least_of_all-more}
use Rattle.point_core.specs.contracts.fault.FaultOrd.TheImpl.Laws.{total-law}
use Rattle.point_core.specs.Faults.{OrFault}
use Rattle.point_core.specs.declared.fault.Fault.{Fault}
use Rattle.point_core.specs.LeastFault.{lesser_of}
use Rattle.relation_core.specs.Faults.{fault_of, values_of}
use Rattle.point_core.specs.Orders.{fault_order}

fault_of-with_one : {X : Type 0} (r : OrFault (List X)) (v : OrFault X) → fault_of (with_one fault_order total-law r v) ≡ lesser_of (fault_of r) (fault_of v)
fault_of-with_one (Ok vs) (Ok v) = refl
fault_of-with_one (Ok vs) (Err e) = refl
fault_of-with_one (Err d) (Ok v) = refl
fault_of-with_one (Err d) (Err e) = refl

-- the least fault over one more
pub least_more : {A X : Type 0} (m : A → OrFault X) (xs : List A) (i : ℕ) (d : A) → i < length xs
    → fault_of (least_of_all fault_order (map m (take (i + 1) xs))) ≡ lesser_of (fault_of (least_of_all fault_order (map m (take i xs)))) (fault_of (m (get_or xs i d)))
least_more {A} {X} m xs i d l =
    let least : List (OrFault X) → OrFault (List X) = λ rs. least_of_all fault_order rs in
    ap (λ ys. fault_of (least (map m ys))) (take_more xs i d l)
    ∙ (ap (λ rs. fault_of (least rs)) (map-append m (take i xs) (get_or xs i d ∷ []))
    ∙ (ap (λ r. fault_of r) (least_of_all-more fault_order total-law (map m (take i xs)) (m (get_or xs i d)))
    ∙ fault_of-with_one (least (map m (take i xs))) (m (get_or xs i d))))

-- without a fault the value is what counts, and with one the fault
pub without_fault : {X Y : Type 0} (r : OrFault X) (y : OrFault Y) → fault_of r ≡ None → then_give r (λ _. y) ≡ y
without_fault (Ok v) y e = refl
without_fault (Err d) y e = cc

pub with_fault : {X : Type 0} (r : OrFault X) (d : Fault) → fault_of r ≡ Some d → r ≡ Err d
with_fault (Ok v) d e = cc
with_fault (Err c) d e = let same : c ≡ d = cc in ap (λ f. Err f) same

-- ---- values

values_of-append : {X : Type 0} (xs ys : List (OrFault X)) → values_of (xs ++ ys) ≡ values_of xs ++ values_of ys
values_of-append [] ys = refl
values_of-append (Ok v ∷ xs) ys = ap (λ r. v ∷ r) (values_of-append xs ys)
values_of-append (Err e ∷ xs) ys = values_of-append xs ys

pub values_more : {A X : Type 0} (m : A → OrFault X) (xs : List A) (i : ℕ) (d : A) → i < length xs
    → values_of (map m (take (i + 1) xs)) ≡ values_of (map m (take i xs)) ++ values_of (m (get_or xs i d) ∷ [])
values_more m xs i d l =
    ap (λ ys. values_of (map m ys)) (take_more xs i d l)
    ∙ (ap (λ rs. values_of rs) (map-append m (take i xs) (get_or xs i d ∷ [])) ∙ values_of-append (map m (take i xs)) (m (get_or xs i d) ∷ []))

with_value : {X : Type 0} (v : X) (r : OrFault (List X)) (vs : List X) → (fault_of r ≡ None → r ≡ Ok vs) → fault_of (with_lesser fault_order (Ok v) r) ≡ None → with_lesser fault_order (Ok v) r ≡ Ok (v ∷ vs)
with_value v (Ok us) vs ih e = let k = ih refl in ap (λ r. with_lesser fault_order (Ok v) r) k
with_value v (Err d) vs ih e = cc

not_without : {X : Type 0} (d : Fault) (r : OrFault (List X)) → fault_of (with_lesser fault_order (Err d) r) ≡ None → ⊥
not_without d (Ok us) e = cc
not_without d (Err c) e = cc

-- without a fault there are all values
pub all_values : {X : Type 0} (rs : List (OrFault X)) → fault_of (least_of_all fault_order rs) ≡ None → least_of_all fault_order rs ≡ Ok (values_of rs)
all_values [] e = refl
all_values (Ok v ∷ rs) e = with_value v (least_of_all fault_order rs) (values_of rs) (all_values rs) e
all_values (Err d ∷ rs) e = absurd (not_without d (least_of_all fault_order rs) e)

pub length-values_of : {X : Type 0} (rs : List (OrFault X)) → length (values_of rs) ≤ length rs
length-values_of [] = omega arith
length-values_of (Ok v ∷ rs) = let h = length-values_of rs in omega (arith, h)
length-values_of (Err d ∷ rs) = let h = length-values_of rs in omega (arith, h)

one_passes : {X : Type 0} (q : X → Bool) (r : OrFault X) (rs : List (OrFault X)) → ((y : X) → r ≡ Ok y → IsTrue (q y)) → IsTrue (list_all q (values_of rs)) → IsTrue (list_all q (values_of (r ∷ rs)))
one_passes q (Ok v) rs h k = and_from (q v) (list_all q (values_of rs)) (h v refl) k
one_passes q (Err d) rs h k = k

-- all values pass a test that each passes
pub values_pass : {A X : Type 0} (q : X → Bool) (m : A → OrFault X) (xs : List A) → ((x : A) → In x xs → (y : X) → m x ≡ Ok y → IsTrue (q y)) → IsTrue (list_all q (values_of (map m xs)))
values_pass q m [] h = refl
values_pass q m (x ∷ xs) h = one_passes q (m x) (map m xs) (h x (inl refl)) (values_pass q m xs (λ z i. h z (inr i)))

-- ---- a step of a loop

pub least_step : {A X : Type 0} (m : A → OrFault X) (xs : List A) (i : ℕ) (x : A) (before now : Option Fault) → i < length xs → x ≡ get_or xs i x
    → before ≡ fault_of (least_of_all fault_order (map m (take i xs))) → now ≡ lesser_of before (fault_of (m x)) → now ≡ fault_of (least_of_all fault_order (map m (take (i + 1) xs)))
least_step m xs i x before now l is so_far more =
    more
    ∙ (ap (λ z. lesser_of z (fault_of (m x))) so_far
    ∙ (ap (λ z. lesser_of (fault_of (least_of_all fault_order (map m (take i xs)))) (fault_of (m z))) is ∙ sym (least_more m xs i x l)))

pub values_step : {A X : Type 0} (m : A → OrFault X) (xs : List A) (i : ℕ) (x : A) (before now : List X) → i < length xs → x ≡ get_or xs i x
    → before ≡ values_of (map m (take i xs)) → now ≡ before ++ values_of (m x ∷ []) → now ≡ values_of (map m (take (i + 1) xs))
values_step m xs i x before now l is so_far more =
    more
    ∙ (ap (λ z. z ++ values_of (m x ∷ [])) so_far
    ∙ (ap (λ z. values_of (map m (take i xs)) ++ values_of (m z ∷ [])) is ∙ sym (values_more m xs i x l)))
