-- The tokens of a scalar that writes a constant pass where a scalar may stand.
--     point-whole      those of a point, at any load
--     scalar-whole      those of a constant, where a level more may open
use Rattle.std.proofs.Common.{◌≡◌, inl, inr, ℕ, ℤ, false, List, [], ◌∷◌, ◌++◌, refl, sym, ap, ◌∙◌, subst, append_assoc}
use Rattle.std.specs.Prelude.{nat_le}
use Rattle.point_core.specs.declared.fault.Place.{Place}
use Rattle.point_core.specs.declared.any_type.AnyType.{AnyType}
use Rattle.utd_syntax.specs.declared.terminal.Terminal.TheVariants as t
use Rattle.utd_syntax.specs.declared.words.BeginBracket.{BeginBracket}
use Rattle.utd_syntax.specs.declared.words.BeginBracket.TheVariants as begins
use Rattle.utd_syntax.specs.declared.words.EndBracket.{EndBracket}
use Rattle.utd_syntax.specs.declared.words.EndBracket.TheVariants as finishes
use Rattle.utd_syntax.specs.Pieces.{Piece, first}
use Rattle.utd_syntax.specs.Plain as syntax
use Rattle.utd_syntax.specs.Plain.{Word, ScalarP, SignP, PrimaryP}
use Rattle.utd_syntax.specs.Table.{Symbol, Load, Plain, Negated, Dated, Timed, Opens, Shut, TheScalar, AfterScalar, EndOfSelector, Just, TheName, AfterName, DateText, MomentText, NegativeDigits}
use Rattle.utd_syntax.specs.Verdict.{verdict, reach, opened}
use Rattle.utd_syntax.specs.Written.{Mark, fixed, at, spelled, Spells, placed, lexeme, token, word_of, end_bracket, of_scalar, of_sign, of_primary}
use Rattle.utd_syntax.proofs.Marks.{one, done, two, begins as begins_with}
use Rattle.utd_ranges.specs.Limits.{limits, is_out_of_range}
use Rattle.interval_core.specs.Members.{Span as Run}
use Rattle.value_core.specs.Limits.{most_levels}
use Rattle.utd_ranges.specs.Ranges.{ScalarIn, SignIn, PrimaryIn}
use Rattle.value_core.specs.declared.kind.Kind.{Kind}
use Rattle.value_core.specs.declared.list.OrdinalNames.{OrdinalNames}
use Rattle.value_core.specs.Values.{Value}
use Rattle.constant_laws.specs.Constants.{alone, PrimaryPoint, WritesPoint, IsBetween, PrimaryWrites, SignWrites, Writes}
use Rattle.constant_laws.proofs.TokenSteps.{stepped, shut, IsCloser, behind_sign, closed}

-- the tokens pass where the form may stand, and leave the forms behind it
abbrev pub Pass : Symbol → Load → List Piece → List Piece → Type 0
Pass s load ts rest = (stack : List Symbol) → verdict limits ts (s ∷ stack) load ≡ verdict limits rest stack load

-- behind the last token of a sign only its end is left
left-behind : (stack : List Symbol) (load : Load) (left rest : List Piece) → Spells [] left rest → IsCloser (first rest) → verdict limits left (behind_sign stack) load ≡ verdict limits rest stack load
left-behind stack load left rest h c = ap (λ (l : List Piece). verdict limits l (behind_sign stack) load) (done left rest h) ∙ closed rest stack load c

-- ---- points

integer-whole : (p : Place) (bytes : List ℕ) (load : Load) (ts rest : List Piece) → is_out_of_range Plain t.Digits bytes ≡ false → Spells (lexeme t.Digits p bytes) ts rest → IsCloser (first rest) → Pass TheScalar load ts rest
unfolding reach
integer-whole p bytes load ts rest in_range h c stack =
    let x = one (spelled t.Digits p bytes) [] ts rest h in
    stepped Plain (behind_sign stack) (TheScalar ∷ stack) load load (spelled t.Digits p bytes) [] ts rest x refl refl in_range
    ∙ left-behind stack load x.left rest x.spells c

negative-whole : (p q : Place) (bytes : List ℕ) (load : Load) (ts rest : List Piece) → is_out_of_range Negated t.Digits bytes ≡ false → Spells (placed t.Dash p ++ lexeme t.Digits q bytes) ts rest → IsCloser (first rest)
    → Pass TheScalar load ts rest
unfolding reach
negative-whole p q bytes load ts rest in_range h c stack =
    let x = one (at t.Dash p) (lexeme t.Digits q bytes) ts rest h in
    let y = one (spelled t.Digits q bytes) [] x.left rest x.spells in
    stepped Plain (NegativeDigits ∷ behind_sign stack) (TheScalar ∷ stack) load load (at t.Dash p) (lexeme t.Digits q bytes) ts rest x
    (ap (λ (l : List Piece). reach (TheScalar ∷ stack) load t.Dash x.bytes (first l)) y.is) refl refl
    ∙ (stepped Negated (behind_sign stack) (NegativeDigits ∷ behind_sign stack) load load (spelled t.Digits q bytes) [] x.left rest y refl refl in_range
    ∙ left-behind stack load y.left rest y.spells c)

date-whole : (p q : Place) (bytes : List ℕ) (load : Load) (ts rest : List Piece) → is_out_of_range Dated t.Quoted bytes ≡ false → Spells (placed t.Date p ++ lexeme t.Quoted q bytes) ts rest → IsCloser (first rest)
    → Pass TheScalar load ts rest
unfolding reach
date-whole p q bytes load ts rest in_range h c stack =
    let x = one (at t.Date p) (lexeme t.Quoted q bytes) ts rest h in
    let y = one (spelled t.Quoted q bytes) [] x.left rest x.spells in
    stepped Plain (DateText ∷ behind_sign stack) (TheScalar ∷ stack) load load (at t.Date p) (lexeme t.Quoted q bytes) ts rest x refl refl refl
    ∙ (stepped Dated (behind_sign stack) (DateText ∷ behind_sign stack) load load (spelled t.Quoted q bytes) [] x.left rest y refl refl in_range
    ∙ left-behind stack load y.left rest y.spells c)

moment-whole : (p q : Place) (bytes : List ℕ) (load : Load) (ts rest : List Piece) → is_out_of_range Timed t.Quoted bytes ≡ false → Spells (placed t.Moment p ++ lexeme t.Quoted q bytes) ts rest → IsCloser (first rest)
    → Pass TheScalar load ts rest
unfolding reach
moment-whole p q bytes load ts rest in_range h c stack =
    let x = one (at t.Moment p) (lexeme t.Quoted q bytes) ts rest h in
    let y = one (spelled t.Quoted q bytes) [] x.left rest x.spells in
    stepped Plain (MomentText ∷ behind_sign stack) (TheScalar ∷ stack) load load (at t.Moment p) (lexeme t.Quoted q bytes) ts rest x refl refl refl
    ∙ (stepped Timed (behind_sign stack) (MomentText ∷ behind_sign stack) load load (spelled t.Quoted q bytes) [] x.left rest y refl refl in_range
    ∙ left-behind stack load y.left rest y.spells c)

dotted-whole : (n v : Word) (load : Load) (ts rest : List Piece) → is_out_of_range Plain t.Name n.bytes ≡ false → is_out_of_range Plain t.Name v.bytes ≡ false → Spells (word_of n ++ token t.Dot ++ word_of v) ts rest
    → IsCloser (first rest) → Pass TheScalar load ts rest
unfolding reach
dotted-whole n v load ts rest type_in value_in h c stack =
    let x = one (spelled t.Name n.place n.bytes) (token t.Dot ++ word_of v) ts rest h in
    let y = one (fixed t.Dot) (word_of v) x.left rest x.spells in
    let z = one (spelled t.Name v.place v.bytes) [] y.left rest y.spells in
    stepped Plain (AfterName ∷ behind_sign stack) (TheScalar ∷ stack) load load (spelled t.Name n.place n.bytes) (token t.Dot ++ word_of v) ts rest x refl refl type_in
    ∙ (stepped Plain (TheName ∷ behind_sign stack) (AfterName ∷ behind_sign stack) load load (fixed t.Dot) (word_of v) x.left rest y refl refl refl
    ∙ (stepped Plain (behind_sign stack) (TheName ∷ behind_sign stack) load load (spelled t.Name v.place v.bytes) [] y.left rest z refl refl value_in
    ∙ left-behind stack load z.left rest z.spells c))

primary-point-whole : (types : List OrdinalNames) (u : AnyType) (n : ℤ) (p : PrimaryP) (load : Load) (ts rest : List Piece) → PrimaryPoint types u n p → PrimaryIn is_out_of_range p → Spells (of_primary p) ts rest
    → IsCloser (first rest) → Pass TheScalar load ts rest
primary-point-whole types u n (syntax.IntegerLiteral p bytes) load ts rest w i h c = integer-whole p bytes load ts rest i h c
primary-point-whole types u n (syntax.DateLiteral p q bytes) load ts rest w i h c = date-whole p q bytes load ts rest i h c
primary-point-whole types u n (syntax.MomentLiteral p q bytes) load ts rest w i h c = moment-whole p q bytes load ts rest i h c
primary-point-whole types u n (syntax.Dotted name v) load ts rest w i h c = dotted-whole name v load ts rest i.0 i.1 h c
primary-point-whole types u n _ load ts rest w i h c = absurd w

pub point-whole : (types : List OrdinalNames) (u : AnyType) (n : ℤ) (x : SignP) (load : Load) (ts rest : List Piece) → WritesPoint types u n x → SignIn is_out_of_range x → Spells (of_sign x) ts rest
    → IsCloser (first rest) → Pass TheScalar load ts rest
point-whole types u n (syntax.NegativeInteger p q bytes) load ts rest w i h c = negative-whole p q bytes load ts rest i h c
point-whole types u n (syntax.Negate p x) load ts rest w i h c = absurd w
point-whole types u n (syntax.OnePrimary p) load ts rest w i h c = primary-point-whole types u n p load ts rest w i h c

-- ---- texts and truth values

text-whole : (p : Place) (bytes : List ℕ) (load : Load) (ts rest : List Piece) → is_out_of_range Plain t.Quoted bytes ≡ false → Spells (lexeme t.Quoted p bytes) ts rest → IsCloser (first rest) → Pass TheScalar load ts rest
unfolding reach
text-whole p bytes load ts rest in_range h c stack =
    let x = one (spelled t.Quoted p bytes) [] ts rest h in
    stepped Plain (behind_sign stack) (TheScalar ∷ stack) load load (spelled t.Quoted p bytes) [] ts rest x refl refl in_range
    ∙ left-behind stack load x.left rest x.spells c

true-whole : (p : Place) (load : Load) (ts rest : List Piece) → Spells (placed t.True p) ts rest → IsCloser (first rest) → Pass TheScalar load ts rest
unfolding reach
true-whole p load ts rest h c stack =
    let x = one (at t.True p) [] ts rest h in
    stepped Plain (behind_sign stack) (TheScalar ∷ stack) load load (at t.True p) [] ts rest x refl refl refl
    ∙ left-behind stack load x.left rest x.spells c

false-whole : (p : Place) (load : Load) (ts rest : List Piece) → Spells (placed t.False p) ts rest → IsCloser (first rest) → Pass TheScalar load ts rest
unfolding reach
false-whole p load ts rest h c stack =
    let x = one (at t.False p) [] ts rest h in
    stepped Plain (behind_sign stack) (TheScalar ∷ stack) load load (at t.False p) [] ts rest x refl refl refl
    ∙ left-behind stack load x.left rest x.spells c

-- ---- intervals

-- the bracket behind two points
end-whole : (e : EndBracket) (stack : List Symbol) (load : Load) (ts rest : List Piece) → Spells (token (end_bracket e)) ts rest → verdict limits ts (EndOfSelector ∷ stack) load ≡ verdict limits rest stack load
unfolding reach
end-whole finishes.Closed stack load ts rest h =
    let z = one (fixed t.CloseBracket) [] ts rest h in
    stepped Plain stack (EndOfSelector ∷ stack) load load (fixed t.CloseBracket) [] ts rest z refl refl refl ∙ ap (λ (l : List Piece). verdict limits l stack load) (done z.left rest z.spells)
end-whole finishes.Open stack load ts rest h =
    let z = one (fixed t.Close) [] ts rest h in
    stepped Plain stack (EndOfSelector ∷ stack) load load (fixed t.Close) [] ts rest z refl refl refl ∙ ap (λ (l : List Piece). verdict limits l stack load) (done z.left rest z.spells)

end-closes : (e : EndBracket) (ts rest : List Piece) → Spells (token (end_bracket e)) ts rest → IsCloser (first ts)
end-closes finishes.Closed ts rest h = begins_with IsCloser (token t.CloseBracket) ts rest (inr (inr (inr (inl refl)))) h
end-closes finishes.Open ts rest h = begins_with IsCloser (token t.Close) ts rest (inr (inr (inr (inr refl)))) h

-- four parts, one after the other
regrouped : (a b c d : List Mark) (ts rest : List Piece) → Spells (a ++ b ++ c ++ d) ts rest → Spells (a ++ (b ++ (c ++ d))) ts rest
regrouped a b c d ts rest h = subst (λ (l : List Mark). Spells l ts rest) (append_assoc (a ++ b) c d ∙ append_assoc a b (c ++ d)) h

-- the points behind either first bracket
module _ (types : List OrdinalNames) (u : AnyType) (n m : ℤ) (x y : SignP) (e : EndBracket) (from : WritesPoint types u n x) (to : WritesPoint types u m y) (from_in : SignIn is_out_of_range x) (to_in : SignIn is_out_of_range y) where
  second-whole : (load : Load) (stack : List Symbol) (ts rest : List Piece) → Spells (of_sign y ++ token (end_bracket e)) ts rest → verdict limits ts (TheScalar ∷ EndOfSelector ∷ stack) load ≡ verdict limits rest stack load
  second-whole load stack ts rest h =
      let d = two (of_sign y) (token (end_bracket e)) ts rest h in
      point-whole types u m y load ts d.mid to to_in d.before (end-closes e d.mid rest d.after) (EndOfSelector ∷ stack)
      ∙ end-whole e stack load d.mid rest d.after

  colon-closes : (ts rest : List Piece) (ms : List Mark) → Spells (token t.Colon ++ ms) ts rest → IsCloser (first ts)
  colon-closes ts rest ms h = begins_with IsCloser (token t.Colon ++ ms) ts rest (inr (inr (inl refl))) h

  closed-bracket : (load : Load) (stack : List Symbol) (ts rest : List Piece) → Spells (of_sign x ++ (token t.Colon ++ (of_sign y ++ token (end_bracket e)))) ts rest
      → verdict limits ts (TheScalar ∷ Just t.Colon ∷ TheScalar ∷ EndOfSelector ∷ stack) load ≡ verdict limits rest stack load
  unfolding reach
  closed-bracket load stack ts rest h =
      let a = two (of_sign x) (token t.Colon ++ (of_sign y ++ token (end_bracket e))) ts rest h in
      let c = one (fixed t.Colon) (of_sign y ++ token (end_bracket e)) a.mid rest a.after in
      point-whole types u n x load ts a.mid from from_in a.before (colon-closes a.mid rest (of_sign y ++ token (end_bracket e)) a.after) (Just t.Colon ∷ TheScalar ∷ EndOfSelector ∷ stack)
      ∙ (stepped Plain (TheScalar ∷ EndOfSelector ∷ stack) (Just t.Colon ∷ TheScalar ∷ EndOfSelector ∷ stack) load load (fixed t.Colon) (of_sign y ++ token (end_bracket e)) a.mid rest c refl refl refl
      ∙ second-whole load stack c.left rest c.spells)

  open-bracket : (load : Load) (stack : List Symbol) (ts rest : List Piece) → Spells (of_sign x ++ (token t.Colon ++ (of_sign y ++ token (end_bracket e)))) ts rest
      → verdict limits ts (TheScalar ∷ AfterScalar ∷ stack) load ≡ verdict limits rest stack load
  unfolding reach
  open-bracket load stack ts rest h =
      let a = two (of_sign x) (token t.Colon ++ (of_sign y ++ token (end_bracket e))) ts rest h in
      let c = one (fixed t.Colon) (of_sign y ++ token (end_bracket e)) a.mid rest a.after in
      point-whole types u n x load ts a.mid from from_in a.before (colon-closes a.mid rest (of_sign y ++ token (end_bracket e)) a.after) (AfterScalar ∷ stack)
      ∙ (stepped Plain (TheScalar ∷ EndOfSelector ∷ stack) (AfterScalar ∷ stack) load load (fixed t.Colon) (of_sign y ++ token (end_bracket e)) a.mid rest c refl refl refl
      ∙ second-whole load stack c.left rest c.spells)

  selector-whole : (b : BeginBracket) (p : Place) (load : Load) (ts rest : List Piece) → nat_le most_levels load.levels ≡ false → Spells (of_primary (syntax.Selector p b (alone x) (alone y) e)) ts rest → IsCloser (first rest)
      → Pass TheScalar load ts rest
  unfolding reach
  selector-whole begins.Closed p load ts rest room h c stack =
      let o = one (at t.OpenBracket p) (of_sign x ++ token t.Colon ++ of_sign y ++ token (end_bracket e)) ts rest h in
      stepped (Opens (TheScalar ∷ Just t.Colon ∷ TheScalar ∷ EndOfSelector ∷ [])) (behind_sign stack) (TheScalar ∷ stack) load load (at t.OpenBracket p) (of_sign x ++ token t.Colon ++ of_sign y ++ token (end_bracket e)) ts rest o refl room refl
      ∙ (closed-bracket (opened load) (Shut load ∷ behind_sign stack) o.left rest (regrouped (of_sign x) (token t.Colon) (of_sign y) (token (end_bracket e)) o.left rest o.spells)
      ∙ (shut rest (behind_sign stack) (opened load) load ∙ closed rest stack load c))
  selector-whole begins.Open p load ts rest room h c stack =
      let o = one (at t.Open p) (of_sign x ++ token t.Colon ++ of_sign y ++ token (end_bracket e)) ts rest h in
      stepped (Opens (TheScalar ∷ AfterScalar ∷ [])) (behind_sign stack) (TheScalar ∷ stack) load load (at t.Open p) (of_sign x ++ token t.Colon ++ of_sign y ++ token (end_bracket e)) ts rest o refl room refl
      ∙ (open-bracket (opened load) (Shut load ∷ behind_sign stack) o.left rest (regrouped (of_sign x) (token t.Colon) (of_sign y) (token (end_bracket e)) o.left rest o.spells)
      ∙ (shut rest (behind_sign stack) (opened load) load ∙ closed rest stack load c))

between-whole : (types : List OrdinalNames) (u : AnyType) (i : Run) (p : Place) (b : BeginBracket) (l r : ScalarP) (e : EndBracket) (load : Load) (ts rest : List Piece) → IsBetween types u i b l r e
    → nat_le most_levels load.levels ≡ false → ScalarIn is_out_of_range l × ScalarIn is_out_of_range r → Spells (of_primary (syntax.Selector p b l r e)) ts rest → IsCloser (first rest) → Pass TheScalar load ts rest
between-whole types u i p b l r e load ts rest w room =
    subst (λ (z : ScalarP). ScalarIn is_out_of_range z × ScalarIn is_out_of_range r → Spells (of_primary (syntax.Selector p b z r e)) ts rest → IsCloser (first rest) → Pass TheScalar load ts rest) (sym w.begins_so)
    (subst (λ (z : ScalarP). ScalarIn is_out_of_range (alone w.first) × ScalarIn is_out_of_range z → Spells (of_primary (syntax.Selector p b (alone w.first) z e)) ts rest → IsCloser (first rest) → Pass TheScalar load ts rest) (sym w.ends_so)
    (λ g h c. selector-whole types u w.from w.to w.first w.second e w.begins_at w.ends_at g.0 g.1 b p load ts rest room h c))

-- ---- values

primary-whole : (types : List OrdinalNames) (kind : Kind) (v : Value) (p : PrimaryP) (load : Load) (ts rest : List Piece) → PrimaryWrites types kind v p → nat_le most_levels load.levels ≡ false → PrimaryIn is_out_of_range p
    → Spells (of_primary p) ts rest → IsCloser (first rest) → Pass TheScalar load ts rest
primary-whole types kind v (syntax.TextLiteral p bytes) load ts rest w room i h c = text-whole p bytes load ts rest i h c
primary-whole types kind v (syntax.TrueLiteral p) load ts rest w room i h c = true-whole p load ts rest h c
primary-whole types kind v (syntax.FalseLiteral p) load ts rest w room i h c = false-whole p load ts rest h c
primary-whole types kind v (syntax.Selector p b l r e) load ts rest w room i h c = between-whole types w.0 w.1 p b l r e load ts rest w.2 room i h c
primary-whole types kind v (syntax.IntegerLiteral p bytes) load ts rest w room i h c = integer-whole p bytes load ts rest i h c
primary-whole types kind v (syntax.DateLiteral p q bytes) load ts rest w room i h c = date-whole p q bytes load ts rest i h c
primary-whole types kind v (syntax.MomentLiteral p q bytes) load ts rest w room i h c = moment-whole p q bytes load ts rest i h c
primary-whole types kind v (syntax.Dotted n m) load ts rest w room i h c = dotted-whole n m load ts rest i.0 i.1 h c
primary-whole types kind v _ load ts rest w room i h c = absurd w.2

sign-whole : (types : List OrdinalNames) (kind : Kind) (v : Value) (x : SignP) (load : Load) (ts rest : List Piece) → SignWrites types kind v x → nat_le most_levels load.levels ≡ false → SignIn is_out_of_range x
    → Spells (of_sign x) ts rest → IsCloser (first rest) → Pass TheScalar load ts rest
sign-whole types kind v (syntax.NegativeInteger p q bytes) load ts rest w room i h c = negative-whole p q bytes load ts rest i h c
sign-whole types kind v (syntax.Negate p x) load ts rest w room i h c = absurd w.2
sign-whole types kind v (syntax.OnePrimary p) load ts rest w room i h c = primary-whole types kind v p load ts rest w room i h c

pub scalar-whole : (types : List OrdinalNames) (kind : Kind) (v : Value) (s : ScalarP) (load : Load) (ts rest : List Piece) → Writes types kind v s → nat_le most_levels load.levels ≡ false → ScalarIn is_out_of_range s
    → Spells (of_scalar s) ts rest → IsCloser (first rest) → Pass TheScalar load ts rest
scalar-whole types kind v s load ts rest w room =
    subst (λ (z : ScalarP). ScalarIn is_out_of_range z → Spells (of_scalar z) ts rest → IsCloser (first rest) → Pass TheScalar load ts rest) (sym w.1)
    (λ i h c. sign-whole types kind v w.0 load ts rest w.2 room i h c)
