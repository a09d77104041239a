-- The lists of names that an insertion under USING may have: where their words stand in the text does not matter.
--     listed-anywhere      the same names as another list
use Rattle.std.proofs.Common.{◌≡◌, ℕ, Bool, true, false, List, [], ◌∷◌, ◌++◌, map, length, Ok, Err, refl, sym, ap, ◌∙◌, subst, suc, arith}
use Rattle.std.specs.Prelude.{nat_le, not, ◌&&◌}
use Rattle.base_core.specs.Outcomes.{then_give}
use Rattle.point_core.specs.declared.fault.Code.{Code}
use Rattle.point_core.specs.declared.fault.Code.TheVariants.{E12, E14, E15, E16, E17}
use Rattle.point_core.specs.declared.fault.Place.{Place}
use Rattle.point_core.specs.Faults.{OrFault}
use Rattle.utd_syntax.specs.Plain as syntax
use Rattle.utd_syntax.specs.Plain.{Word, word, NameListP}
use Rattle.value_core.specs.Headings.{has_name}
use Rattle.value_core.specs.Limits.{most_listed}
use Rattle.value_core.specs.Values.{Name, Heading}
use Rattle.scalar_core.specs.KindOf.{same_kind}
use Rattle.meaning_core.specs.Meanings.{positions_of}
use Rattle.meaning_core.specs.Typing.{is_span}
use Rattle.node_typing.specs.Lists.{names_of_words, listed_names, named_in, kind_named, name_checked, names_checked, list_checked}
use Rattle.node_typing.specs.Positions.{check}
use Rattle.constant_laws.specs.Insertions.{IsListed}

-- what was given, and what came of it
record Parts {A B : Type 0} (m : OrFault A) (f : A → OrFault B) (b : B) : Type 0 where
  a : A
  given : m ≡ Ok a
  goes_on : f a ≡ Ok b

parts-of : {A B : Type 0} → (m : OrFault A) (f : A → OrFault B) (b : B) → then_give m f ≡ Ok b → Parts m f b
parts-of (Ok a) f b h = record { a = a; given = refl; goes_on = h }
parts-of (Err e) f b h = absurd cc

check-again : (p q : Place) (c : Code) (b : Bool) (u : Unit {0}) → check p c b ≡ Ok u → check q c b ≡ Ok u
check-again p q c true u h = h
check-again p q c false u h = absurd cc

-- the four tests of a name
checks : Place → Bool → Bool → Bool → Bool → OrFault (Unit {0})
checks p known new span same = then_give (check p E14 known) (λ _. then_give (check p E15 new) (λ _. then_give (check p E16 span) (λ _. check p E12 same)))

checks-again : (p q : Place) (known new span same : Bool) (u : Unit {0}) → checks p known new span same ≡ Ok u → checks q known new span same ≡ Ok u
unfolding checks
checks-again p q false new span same u h = absurd cc
checks-again p q true false span same u h = absurd cc
checks-again p q true true false same u h = absurd cc
checks-again p q true true true same u h = check-again p q E12 same u h

place-again : (left right : Heading) (before : List Name) (p q : Place) (n : Name) (u : Unit {0}) → name_checked left right before (word p n) ≡ Ok u → name_checked left right before (word q n) ≡ Ok u
unfolding checks
place-again left right before p q n u h =
    checks-again p q (has_name left n && has_name right n) (not (named_in before n)) (is_span (kind_named left n)) (same_kind (kind_named left n) (kind_named right n)) u h

name-again : (left right : Heading) (before : List Name) (w o : Word) (u : Unit {0}) → o.bytes ≡ w.bytes → name_checked left right before w ≡ Ok u → name_checked left right before o ≡ Ok u
name-again left right before w o u e h = subst (λ (n : Name). name_checked left right before (word o.place n) ≡ Ok u) (sym e) (place-again left right before w.place o.place w.bytes u h)

first-or : Name → List Name → Name
first-or d [] = d
first-or d (x ∷ xs) = x

behind : List Name → List Name
behind [] = []
behind (x ∷ xs) = xs

names-again : (left right : Heading) (before names : List Name) (words others : List Word) → names_of_words others ≡ names_of_words words → names_checked left right before words ≡ Ok names
    → names_checked left right before others ≡ Ok names
unfolding first-or behind
names-again left right before names [] [] e h = h
names-again left right before names [] (o ∷ others) e h = let n : suc (length (names_of_words others)) ≡ 0 = ap length e in absurd (omega (arith, n))
names-again left right before names (w ∷ words) [] e h = let n : 0 ≡ suc (length (names_of_words words)) = ap length e in absurd (omega (arith, n))
names-again left right before names (w ∷ words) (o ∷ others) e h =
    let one : o.bytes ≡ w.bytes = ap (first-or []) e in
    let k = parts-of (name_checked left right before w) (λ _. names_checked left right (before ++ w.bytes ∷ []) words) names h in
    ap (λ (m : OrFault (Unit {0})). then_give m (λ _. names_checked left right (before ++ o.bytes ∷ []) others)) (name-again left right before w o k.a one k.given)
    ∙ (ap (λ (n : Name). names_checked left right (before ++ n ∷ []) others) one
    ∙ names-again left right (before ++ w.bytes ∷ []) names words others (ap behind e) k.goes_on)

list-again : (left right : Heading) (p q : Place) (words others : List Word) (names : List Name) → names_of_words others ≡ names_of_words words → list_checked left right (syntax.NameList p words) ≡ Ok names
    → list_checked left right (syntax.NameList q others) ≡ Ok names
list-again left right p q words others names e h =
    let k = parts-of (names_checked left right [] words) (λ all. then_give (check p E17 (nat_le (length all) most_listed)) (λ _. Ok all)) names h in
    let few = parts-of (check p E17 (nat_le (length k.a) most_listed)) (λ _. Ok k.a) names k.goes_on in
    ap (λ (m : OrFault (List Name)). then_give m (λ all. then_give (check q E17 (nat_le (length all) most_listed)) (λ _. Ok all))) (names-again left right [] k.a words others e k.given)
    ∙ (ap (λ (m : OrFault (Unit {0})). then_give m (λ _. Ok k.a)) (check-again p q E17 (nat_le (length k.a) most_listed) few.a few.given)
    ∙ few.goes_on)

pub listed-anywhere : (heading : Heading) (commalist : List ℕ) (list : NameListP) (at : Place) (words : List Word) → IsListed heading commalist list → names_of_words words ≡ listed_names list
    → IsListed heading commalist (syntax.NameList at words)
listed-anywhere heading commalist (syntax.NameList p others) at words h e = record {
  is_fine = list-again heading heading p at others words (names_of_words others) e h.is_fine ∙ ap Ok (sym e);
  at = h.at ∙ ap (positions_of heading) (sym e);
}
