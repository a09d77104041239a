-- The bytes of a statement have one reading, and no more than one.
use Rattle.std.proofs.Common.{◌≡◌, ◌⊎◌, inl, inr, ℕ, List, [], ◌∷◌, refl, sym, ap, ◌∙◌, subst}
use Rattle.point_core.specs.declared.fault.Place.{Place}
use Rattle.point_core.specs.declared.fault.Fault.{Fault}
use Rattle.point_core.specs.declared.fault.Code.{Code}
use Rattle.point_core.specs.Faults.{fault}
use Rattle.value_core.specs.declared.refuse.Refuse.TheVariants as refuses
use Rattle.utd_lexer.specs.declared.token.Token.{Token}
use Rattle.utd_lexer.specs.Reading.{Reads, HasReading}
use Rattle.utd_lexer.proofs.ReachLemmas.{bytes_read}
use Rattle.utd_lexer.proofs.OneReadingLemmas.{reads-one, refuses-one, reads-refuses}
use Rattle.utd_syntax.specs.Plain.{StatementP}
use Rattle.utd_syntax.specs.Written.{Spells, of_statement}
use Rattle.utd_syntax.specs.Table.{TheStatement}
use Rattle.utd_syntax.specs.Verdict as verdict
use Rattle.utd_syntax.specs.Verdict.{Verdict, Whole, at_start}
use Rattle.utd_ranges.specs.Limits.{limits, verdict_on}
use Rattle.utd_syntax.proofs.Laws.{law_c, whole-without}
use Rattle.utd_syntax.proofs.Sound.{accepted-written}
use Rattle.utd_parser.specs.Tokens.{pieces}
use Rattle.utd_statement.specs.Readings.{Reading, Tree, Refused, IsText}

-- two verdicts on one text
no_whole : (ts us : List Token) (code : Code) (place : Place) → us ≡ ts → verdict_on (pieces ts) ≡ Whole → verdict_on (pieces us) ≡ verdict.Refused code place → ⊥
no_whole ts us code place e w r = let f : Whole ≡ verdict.Refused code place = sym w ∙ ap (λ x. verdict_on (pieces x)) (sym e) ∙ r in cc

refused_one : (a b : Fault) → verdict.Refused a.code a.place ≡ verdict.Refused b.code b.place → a ≡ b
refused_one a b e =
    let c : a.code ≡ b.code = cc in
    let p : a.place ≡ b.place = cc in
    λ i. record { place = p i; code = c i }

pub text_one : (place : Place) (bytes : List ℕ) (a b : Reading) → IsText place bytes a → IsText place bytes b → a ≡ b
text_one place bytes (Tree x) (Tree y) (ts, rt, wt, st) (us, ru, wu, su) =
    let e : us ≡ ts = reads-one place bytes ts us rt ru in
    ap Tree (law_c x y (pieces ts) st (subst (λ z. Spells (of_statement y) (pieces z) []) e su))
text_one place bytes (Tree x) (Refused (refuses.At f)) (ts, rt, wt, st) h = elim h [
  | inl r ↦ absurd (reads-refuses place bytes ts f rt r)
  | inr k ↦ absurd (no_whole ts k.0 f.code f.place (reads-one place bytes ts k.0 rt k.1) wt k.2)
]
text_one place bytes (Refused (refuses.At f)) (Tree x) h (ts, rt, wt, st) = elim h [
  | inl r ↦ absurd (reads-refuses place bytes ts f rt r)
  | inr k ↦ absurd (no_whole ts k.0 f.code f.place (reads-one place bytes ts k.0 rt k.1) wt k.2)
]
text_one place bytes (Refused (refuses.At f)) (Refused (refuses.At g)) h k = elim h [
  | inl r ↦ elim k [
    | inl s ↦ ap (λ z. Refused (refuses.At z)) (sym (refuses-one place bytes f g r s))
    | inr s ↦ absurd (reads-refuses place bytes s.0 f s.1 r)
  ]
  | inr r ↦ elim k [
    | inl s ↦ absurd (reads-refuses place bytes r.0 g r.1 s)
    | inr s ↦ ap (λ z. Refused (refuses.At z)) (refused_one f g (sym r.2 ∙ ap (λ z. verdict_on (pieces z)) (sym (reads-one place bytes r.0 s.0 r.1 s.1)) ∙ s.2))
  ]
]
text_one place bytes a (Refused refuses.Memory) h k = absurd k
text_one place bytes a (Refused (refuses.Plain c)) h k = absurd k
text_one place bytes a (Refused (refuses.Broken c r n)) h k = absurd k
text_one place bytes (Refused refuses.Memory) b h k = absurd h
text_one place bytes (Refused (refuses.Plain c)) b h k = absurd h
text_one place bytes (Refused (refuses.Broken c r n)) b h k = absurd h

-- ---- each text has a reading

abbrev pub HasText : Place → List ℕ → Type 0
HasText place bytes = (r : Reading) × IsText place bytes r

whole_tree : (ts : List Token) → verdict_on (pieces ts) ≡ Whole → (x : StatementP) × Spells (of_statement x) (pieces ts) []
whole_tree ts w = accepted-written (pieces ts) at_start (whole-without limits (pieces ts) (TheStatement ∷ []) at_start w)

tokens_text : (place : Place) (bytes : List ℕ) (ts : List Token) (v : Verdict) → Reads place bytes ts → verdict_on (pieces ts) ≡ v → HasText place bytes
tokens_text place bytes ts Whole h w = let (x, written) = whole_tree ts w in (Tree x, (ts, h, w, written))
tokens_text place bytes ts (verdict.Refused code at) h w = (Refused (refuses.At (fault at code)), inr (ts, h, w))

text_by : (place : Place) (bytes : List ℕ) → HasReading place bytes → HasText place bytes
text_by place bytes (inl (ts, h)) = tokens_text place bytes ts (verdict_on (pieces ts)) h refl
text_by place bytes (inr (f, h)) = (Refused (refuses.At f), inl h)

pub text_some : (place : Place) (bytes : List ℕ) → HasText place bytes
text_some place bytes = text_by place bytes (bytes_read place bytes)
