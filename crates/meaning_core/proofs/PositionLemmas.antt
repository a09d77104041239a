-- Positions come back from the names at them.
--     position-back, positions-back      of one attribute, and of several
use Rattle.std.proofs.Common.{◌≡◌, ℕ, zero, suc, ◌<◌, Bool, false, List, [], ◌∷◌, get_or, length, refl, ap, ap₂, ◌∙◌, inl, inr, cond, arith, Less}
use Rattle.std.specs.Cmp.Lexicographic.{texts_ties}
use Rattle.std.specs.Ordering.{is_eq}
use Rattle.std.specs.Str.{bytes_eq}
use Rattle.std.specs.List.{IsDistinct}
use Rattle.std.specs.Bool.{nat_eq}
use Rattle.std.proofs.lemmas.List.Elements.{Contains-get_or}
use Rattle.base_core.proofs.SetLemmas.{In, Ascends, In-from_Contains}
use Rattle.base_core.proofs.SetOperatorLemmas.{AllAfter-In}
use Rattle.value_core.specs.declared.kind.Kind.{Kind}
use Rattle.value_core.specs.Values.{Name, Heading, attribute_cmp}
use Rattle.relation_core.specs.Agreement.{position_of}
use Rattle.relation_core.specs.Parts.{no_attribute}
use Rattle.meaning_core.specs.Meanings.{positions_of, names_at}
use Rattle.meaning_core.specs.Typing.{IsList}
use Rattle.meaning_core.proofs.MadeLemmas.{own_name}

pub position-back : (heading : Heading) (i : ℕ) (d : Name × Kind) → Ascends attribute_cmp heading → i < length heading → position_of heading (get_or heading i d).0 ≡ i
position-back [] i d up l = absurd (omega arith)
position-back (a ∷ rest) zero d up l = ap (λ (b : Bool). cond b 0 (suc (position_of rest a.0))) (own_name a.0)
position-back (a ∷ rest) (suc i) d up l =
    let b : Name × Kind = get_or rest i d in
    let m : i < length rest = omega arith in
    let less : attribute_cmp a b ≡ Less = (AllAfter-In attribute_cmp a rest).0 up.0 b (In-from_Contains rest b (Contains-get_or rest i d m)) in
    let apart : bytes_eq a.0 b.0 ≡ false = texts_ties a.0 b.0 ∙ ap is_eq less in
    ap (λ (t : Bool). cond t 0 (suc (position_of rest b.0))) apart ∙ ap suc (position-back rest i d up.1 m)

pub positions-back : (heading : Heading) (positions : List ℕ) → Ascends attribute_cmp heading → ((i : ℕ) → In i positions → i < length heading) → positions_of heading (names_at heading positions) ≡ positions
positions-back heading [] up within = refl
positions-back heading (i ∷ is) up within =
    ap₂ (λ (j : ℕ) (js : List ℕ). j ∷ js) (position-back heading i no_attribute up (within i (inl refl))) (positions-back heading is up (λ j m. within j (inr m)))

-- ---- the list of no attributes

pub none_differ : IsDistinct nat_eq []
unfolding IsDistinct
none_differ = tt

pub no_list : (h : Heading) → IsList h []
no_list h = record { within = λ j d l. absurd (omega (arith, l)); different = none_differ; spans = refl; few = omega arith }
