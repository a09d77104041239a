-- The cut of a script, piece by piece.
use Rattle.std.proofs.Common.{◌≡◌, ◌↔◌, ℕ, ◌+◌, ◌-◌, ◌≤◌, ◌<◌, Bool, true, false, cond, eqb, nat_le, ◌&&◌, List, [], ◌∷◌, ◌++◌, length, take, drop, refl, sym, ap, ◌∙◌, arith, append_assoc, append-nil, take-append-drop, take-add, le-leb, leb-true, leb-false}
use Rattle.std.proofs.lemmas.Bool.{eqb-true}
use Rattle.std.proofs.lemmas.Bool.Decides.{Decides-eqb, nat_tests}
use Rattle.point_core.specs.declared.fault.Place.{Place}
use Rattle.utd_lexer.specs.declared.cutter.Mode.TheVariants.{Between}
use Rattle.utd_lexer.specs.Parts.{IsWhole, IsBlank}
use Rattle.utd_lexer.specs.Cutting.{run}
use Rattle.utd_lexer.specs.Tokens.{next_place, place_after}
use Rattle.utd_lexer.proofs.CutLemmas.{whole-of, outside-of}
use Rattle.utd_lexer.proofs.BlankLemmas.{answers}
use Rattle.utd_session.specs.Statements.{Statement, Complete, ends, Cut, before_others, cut_from, first_place, cut, complete_statements, is_blank, incomplete_rest, statements, most_bytes, statements_within, NoEnd, EndsOne}

-- the byte ends the statement exactly where it is a `;` outside texts and comments
pub ends_is : (prefix : List ℕ) (b : ℕ) → (ends prefix b ≡ true) ↔ ((b ≡ 59) × IsWhole prefix)
ends_is prefix b = (
  λ e. let both = and_both (eqb b 59) _ e in (eqb-true b 59 both.0, whole-of prefix (run Between prefix) refl both.1),
  λ h. both_and (eqb b 59) _ ((Decides-eqb b 59).1 h.0) (outside-of prefix (run Between prefix) refl h.1),
)
  where
    and_both : (a b : Bool) → (a && b) ≡ true → (a ≡ true) × (b ≡ true)
    and_both true b e = (refl, e)
    and_both false b e = absurd (let f : false ≡ true = e in cc)

    both_and : (a b : Bool) → a ≡ true → b ≡ true → (a && b) ≡ true
    both_and true b p q = q
    both_and false b p q = absurd (let f : false ≡ true = p in cc)

-- the rest is blank exactly where it is white space and comments
pub is_blank_is : (bytes : List ℕ) → (is_blank bytes ≡ true) ↔ IsBlank bytes
is_blank_is bytes = answers bytes

-- a cut, with more bytes behind it
abbrev pub joined : Cut → List ℕ → Cut
joined c more = record {
  ended = c.ended ++ (cut_from c.place c.rest more).ended;
  place = (cut_from c.place c.rest more).place;
  rest = (cut_from c.place c.rest more).rest;
}

pub cut_from-append : (place : Place) (prefix a b : List ℕ) → cut_from place prefix (a ++ b) ≡ joined (cut_from place prefix a) b
unfolding cut_from
cut_from-append place prefix [] b = refl
cut_from-append place prefix (x ∷ a) b =
    let now : List ℕ = prefix ++ x ∷ [] in
    let s : Statement = Complete place now in
    let ended = cut_from-append (place_after place now) [] a b in
    let inside = cut_from-append place now a b in
    elim (ends prefix x) as (λ t. cond t (before_others s (cut_from (place_after place now) [] (a ++ b))) (cut_from place now (a ++ b))
    ≡ joined (cond t (before_others s (cut_from (place_after place now) [] a)) (cut_from place now a)) b) [
      | true ↦ ap (before_others s) ended
      | false ↦ inside
    ]

pub cut-append : (a b : List ℕ) → cut (a ++ b) ≡ joined (cut a) b
cut-append a b = cut_from-append _ [] a b

-- bytes that end no statement
pub cut-keep : (a b : List ℕ) → NoEnd (cut a).place (cut a).rest b
    → cut (a ++ b) ≡ record { ended = (cut a).ended; place = (cut a).place; rest = (cut a).rest ++ b }
cut-keep a b none = cut-append a b ∙ (λ i. record { ended = (ap (λ (c : Cut). (cut a).ended ++ c.ended) none ∙ append-nil (cut a).ended) i; place = (none i).place; rest = (none i).rest })

-- bytes that end one
pub cut-end : (a b : List ℕ) → EndsOne (cut a).place (cut a).rest b
    → cut (a ++ b) ≡ record { ended = (cut a).ended ++ Complete (cut a).place ((cut a).rest ++ b) ∷ []; place = place_after (cut a).place ((cut a).rest ++ b); rest = [] }
cut-end a b one = cut-append a b ∙ (λ i. record { ended = (cut a).ended ++ (one i).ended; place = (one i).place; rest = (one i).rest })

-- the statements that end in a front of a text are the first of those that end in it
pub cut-more : (a b : List ℕ) → (more : List Statement) × (complete_statements (a ++ b) ≡ complete_statements a ++ more)
cut-more a b = ((cut_from (cut a).place (cut a).rest b).ended, ap (λ (c : Cut). c.ended) (cut-append a b))

-- one byte more
pub none-yet : (place : Place) (bytes : List ℕ) → NoEnd place bytes []
unfolding cut_from
none-yet place bytes = λ i. record { ended = []; place = place; rest = sym (append-nil bytes) i }

one_byte : (place : Place) (bytes piece : List ℕ) (b : ℕ) → NoEnd place bytes piece → cut_from place bytes (piece ++ b ∷ []) ≡ joined (record { ended = []; place = place; rest = bytes ++ piece }) (b ∷ [])
one_byte place bytes piece b none = cut_from-append place bytes piece (b ∷ []) ∙ ap (λ (c : Cut). joined c (b ∷ [])) none

pub none-more : (place : Place) (bytes piece : List ℕ) (b : ℕ) → NoEnd place bytes piece → ends (bytes ++ piece) b ≡ false → NoEnd place bytes (piece ++ b ∷ [])
unfolding cut_from
none-more place bytes piece b none e =
    let now : List ℕ = (bytes ++ piece) ++ b ∷ [] in
    one_byte place bytes piece b none
    ∙ ap (λ t. cond t (before_others (Complete place now) (cut_from (place_after place now) [] [])) (cut_from place now [])) e
    ∙ (λ i. record { ended = []; place = place; rest = append_assoc bytes piece (b ∷ []) i })

pub one-ends : (place : Place) (bytes piece : List ℕ) (b : ℕ) → NoEnd place bytes piece → ends (bytes ++ piece) b ≡ true → EndsOne place bytes (piece ++ b ∷ [])
unfolding cut_from
one-ends place bytes piece b none e =
    let now : List ℕ = (bytes ++ piece) ++ b ∷ [] in
    let same : now ≡ bytes ++ (piece ++ b ∷ []) = append_assoc bytes piece (b ∷ []) in
    one_byte place bytes piece b none
    ∙ ap (λ t. cond t (before_others (Complete place now) (cut_from (place_after place now) [] [])) (cut_from place now [])) e
    ∙ (λ i. record { ended = Complete place (same i) ∷ []; place = place_after place (same i); rest = [] })

-- a text that is not too long, and one that is
pub within_short : (all : List ℕ) → length all ≤ most_bytes → statements_within all ≡ statements all
unfolding statements_within
within_short all l = ap (λ t. cond t (statements all) (complete_statements (take most_bytes all))) (le-leb (length all) most_bytes l)

pub not_le : (a b : ℕ) → b < a → nat_le a b ≡ false
not_le a b l = grind (arith, nat_tests)

pub within_long : (all : List ℕ) → most_bytes < length all → statements_within all ≡ complete_statements (take most_bytes all)
unfolding statements_within
within_long all l = ap (λ t. cond t (statements all) (complete_statements (take most_bytes all))) (not_le (length all) most_bytes l)

pub by_le : (a b : ℕ) {P : Type 0} → (a ≤ b → P) → (b < a → P) → P
by_le a b {P} f g = elim (nat_le a b) as (λ t. nat_le a b ≡ t → P) [ true ↦ λ e. f (leb-true a b e) | false ↦ λ e. g (leb-false a b e) ] refl

-- the statements that end in the first bytes are the first of those that end in more of them
pub prefix_more : (all : List ℕ) (n m : ℕ) → n ≤ m → (more : List Statement) × (complete_statements (take m all) ≡ complete_statements (take n all) ++ more)
prefix_more all n m l =
    let rest : List ℕ = take (m - n) (drop n all) in
    let parts : take m all ≡ take n all ++ rest = let e : m ≡ n + (m - n) = omega arith in ap (λ i. take i all) e ∙ take-add n (m - n) all in
    let k = cut-more (take n all) rest in
    (k.0, ap complete_statements parts ∙ k.1)

-- the statements that end in the first bytes are the first of those that are performed
pub within_prefix : (all : List ℕ) (n : ℕ) → n ≤ most_bytes → n ≤ length all → (more : List Statement) × (statements_within all ≡ complete_statements (take n all) ++ more)
within_prefix all n short fits =
    let whole : all ≡ take n all ++ drop n all = sym (take-append-drop n all) in
    let m = cut-more (take n all) (drop n all) in
    by_le (length all) most_bytes
    (λ l. (m.0 ++ incomplete_rest (cut all).rest, within_short all l ∙ ap (λ ss. ss ++ incomplete_rest (cut all).rest) (ap complete_statements whole ∙ m.1) ∙ append_assoc (complete_statements (take n all)) m.0 (incomplete_rest (cut all).rest)))
    (λ l. (let k = prefix_more all n most_bytes short in (k.0, within_long all l ∙ k.1)))

pub cut-nil : cut [] ≡ record { ended = []; place = first_place; rest = [] }
unfolding cut_from
cut-nil = refl

-- each byte adds at most one to a line and to a column
next_bound : (p : Place) (b : ℕ) → ((next_place p b).line ≤ p.line + 1) × ((next_place p b).column ≤ p.column + 1)
next_bound p b =
    let below : Place = record { line = p.line + 1; column = 1 } in
    let behind : Place = record { line = p.line; column = p.column + 1 } in
    elim (eqb b 10) as (λ t. ((cond t below behind).line ≤ p.line + 1) × ((cond t below behind).column ≤ p.column + 1)) [
      | true ↦ (omega arith, omega arith)
      | false ↦ (omega arith, omega arith)
    ]

pub place_bound : (p : Place) (bs : List ℕ) → ((place_after p bs).line ≤ p.line + length bs) × ((place_after p bs).column ≤ p.column + length bs)
place_bound p [] = (omega arith, omega arith)
place_bound p (b ∷ bs) =
    let h = place_bound (next_place p b) bs in
    let n = next_bound p b in
    (omega (arith, h.0, n.0), omega (arith, h.1, n.1))
