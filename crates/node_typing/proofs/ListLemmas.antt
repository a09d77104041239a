-- Words and their names, and the check of a list name by name.
use Rattle.std.specs.Prelude.{◌≡◌, ℕ, zero, suc, ◌+◌, ◌<◌, List, [], ◌∷◌, ◌++◌, length, take, drop, Ok, refl}
use Rattle.std.proofs.Common.{arith, get_or, subst, ap}
use Rattle.std.proofs.Math.Seq.{drop-cons}
use Rattle.utd_syntax.specs.declared.word.Word.{Word as WordTree}
use Rattle.utd_syntax.specs.Read.{read_name, read_name_list}
use Rattle.value_core.specs.Values.{Name, Heading}
use Rattle.node_typing.specs.Lists.{name_checked, names_checked, names_of_words}
use Rattle.node_typing.specs.Projections.{NewNames, names_from}

abbrev names_read : List WordTree → List Name
names_read words = names_of_words (read_name_list words)

pub length-names : (words : List WordTree) → length (names_read words) ≡ length words
length-names [] = refl
length-names (w ∷ words) = ap (λ n. suc n) (length-names words)

name-more : (words : List WordTree) (i : ℕ) (d : WordTree) → i < length words → names_read (take (suc i) words) ≡ names_read (take i words) ++ (get_or words i d).bytes.list.items ∷ []
name-more [] i d l = absurd (omega arith)
name-more (w ∷ words) zero d l = refl
name-more (w ∷ words) (suc i) d l = ap (λ (names : List Name). w.bytes.list.items ∷ names) (name-more words i d (omega arith))

check-next : (left right : Heading) (words : List WordTree) (i : ℕ) (w : WordTree) → i < length words → w ≡ get_or words i w
    → name_checked left right (names_read (take i words)) (read_name w) ≡ Ok tt
    → names_checked left right (names_read (take i words)) (read_name_list (drop i words)) ≡ names_checked left right (names_read (take (suc i) words)) (read_name_list (drop (suc i) words))
check-next left right words i w l is checked =
    rw (drop-cons words i w l, ← is, checked, name-more words i w l, ← is) refl

-- the check goes on behind a name that passes
pub check-more : (left right : Heading) (words : List WordTree) (i : ℕ) (w : WordTree) → i < length words → w ≡ get_or words i w
    → name_checked left right (names_of_words (read_name_list (take i words))) (read_name w) ≡ Ok tt
    → names_checked left right (names_of_words (read_name_list (take i words))) (read_name_list (drop i words))
    ≡ names_checked left right (names_of_words (read_name_list (take (i + 1) words))) (read_name_list (drop (i + 1) words))
check-more left right words i w l is checked =
    let next : suc i ≡ i + 1 = omega arith in
    subst (λ k. names_checked left right (names_read (take i words)) (read_name_list (drop i words)) ≡ names_checked left right (names_read (take k words)) (read_name_list (drop k words))) next
    (check-next left right words i w l is checked)

-- ---- names behind renamings

pub length-names_from : (pairs : NewNames) (n : ℕ) (heading : Heading) → length (names_from pairs n heading) ≡ length heading
length-names_from pairs n [] = refl
length-names_from pairs n (a ∷ rest) = ap (λ k. suc k) (length-names_from pairs (n + 1) rest)
