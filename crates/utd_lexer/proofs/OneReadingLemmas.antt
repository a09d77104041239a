-- Characters have one reading: at most one list of tokens, or at most one place at which none begins.
use Rattle.std.proofs.Common.{◌≡◌, ℕ, List, [], ◌∷◌, ◌++◌, Result, Ok, Err, IfOk, IfErr, inl, inr, refl, sym, ◌∙◌, ap}
use Rattle.std.proofs.lemmas.List.{append_cancel_left}
use Rattle.point_core.specs.declared.fault.Fault.{Fault}
use Rattle.point_core.specs.declared.fault.Place.{Place}
use Rattle.value_core.specs.declared.refuse.Refuse.{Refuse}
use Rattle.value_core.specs.declared.refuse.Refuse.TheVariants.{Plain, At, Broken, Memory}
use Rattle.utd_lexer.specs.declared.token.TokenKind.{TokenKind}
use Rattle.utd_lexer.specs.declared.token.TokenKind.TheVariants.{Word, Integer, Text, Symbol}
use Rattle.utd_lexer.specs.declared.token.Token.{Token}
use Rattle.utd_lexer.specs.Tokens.{past, Gap, blank, block, line, last, spelling_of_gap, IsGap, spelling, IsToken, token_at, Lexed, done, gap, token, Stuck, here, past_gap, past_token}
use Rattle.utd_lexer.specs.Reading.{Reads, Refuses, IsOnlyReading, RefusesOnly}
use Rattle.utd_lexer.proofs.ListLemmas.{nil-cons}
use Rattle.utd_lexer.proofs.OnePrefixLemmas.{token-same, gap-token, gap-same}

gap-some : (g : Gap) (r : List ℕ) → [] ≡ spelling_of_gap g ++ r → ⊥
gap-some (blank c) r e = nil-cons c r e
gap-some (block cs) r e = nil-cons 47 _ e
gap-some (line cs) r e = nil-cons 47 _ e
gap-some (last cs) r e = nil-cons 47 _ e

token-some : (k : TokenKind) (v r : List ℕ) → IsToken k v r → [] ≡ spelling k v ++ r → ⊥
token-some Word [] r h e = h.0
token-some Word (c ∷ v) r h e = nil-cons c (v ++ r) e
token-some Integer [] r h e = h.0
token-some Integer (c ∷ v) r h e = nil-cons c (v ++ r) e
token-some Text v r h e = nil-cons 39 _ e
token-some Symbol [] r h e = h.0
token-some Symbol (c ∷ v) r h e = nil-cons c (v ++ r) e

-- the place and the characters behind the same gap, and behind the same token
record Behind (p q : Place) (r s : List ℕ) : Type 0 where
  place : p ≡ q
  rest : r ≡ s

behind-gap : (p q : Place) (g h : Gap) (r s : List ℕ) → IsGap g r → IsGap h s → p ≡ q → spelling_of_gap g ++ r ≡ spelling_of_gap h ++ s → Behind (past p (spelling_of_gap g)) (past q (spelling_of_gap h)) r s
behind-gap p q g h r s a b at e =
    let same : spelling_of_gap g ≡ spelling_of_gap h = gap-same g h r s a b e in
    record {
      place = ap (λ z. past z (spelling_of_gap g)) at ∙ ap (past q) same;
      rest = append_cancel_left (spelling_of_gap h) r s (ap (λ z. z ++ r) (sym same) ∙ e);
    }

behind-token : (p q : Place) (j k : TokenKind) (v w r s : List ℕ) → IsToken j v r → IsToken k w s → p ≡ q → spelling j v ++ r ≡ spelling k w ++ s → Behind (past p (spelling j v)) (past q (spelling k w)) r s
behind-token p q j k v w r s a b at e =
    let same = token-same j k v w r s a b e in
    record {
      place = ap (λ z. past z (spelling j v)) at ∙ ap (λ z. past q (spelling z v)) same.0 ∙ ap (λ z. past q (spelling k z)) same.1;
      rest = same.2;
    }

pub one-list : {p q : Place} {cs ds : List ℕ} {ts us : List Token} → Lexed p cs ts → Lexed q ds us → p ≡ q → cs ≡ ds → ts ≡ us
one-list (done p) (done q) at e = refl
one-list (done p) (gap q h s us b m) at e = absurd (gap-some h s e)
one-list (done p) (token q k w s us b m) at e = absurd (token-some k w s b e)
one-list (gap p g r ts a l) (done q) at e = absurd (gap-some g r (sym e))
one-list (gap p g r ts a l) (gap q h s us b m) at e =
    let on = behind-gap p q g h r s a b at e in
    one-list l m on.place on.rest
one-list (gap p g r ts a l) (token q k w s us b m) at e = absurd (gap-token g r k w s a b e)
one-list (token p j v r ts a l) (done q) at e = absurd (token-some j v r a (sym e))
one-list (token p j v r ts a l) (gap q h s us b m) at e = absurd (gap-token h s j v r b a (sym e))
one-list (token p j v r ts a l) (token q k w s us b m) at e =
    let on = behind-token p q j k v w r s a b at e in
    let same = token-same j k v w r s a b e in
    ap (λ z. token_at z j v ∷ ts) at ∙ ap (λ z. token_at q z v ∷ ts) same.0 ∙ ap (λ z. token_at q k z ∷ ts) same.1 ∙ ap (λ z. token_at q k w ∷ z) (one-list l m on.place on.rest)

pub one-place : {p q a b : Place} {cs ds : List ℕ} → Stuck p cs a → Stuck q ds b → p ≡ q → cs ≡ ds → a ≡ b
one-place (here p c cs none) (here q d ds never) at e = at
one-place (here p c cs none) (past_gap q b h s i m) at e = absurd (none.0 h s e i)
one-place (here p c cs none) (past_token q b k w s i m) at e = absurd (none.1 k w s e i)
one-place (past_gap p a g r i l) (here q d ds never) at e = absurd (never.0 g r (sym e) i)
one-place (past_gap p a g r i l) (past_gap q b h s j m) at e =
    let on = behind-gap p q g h r s i j at e in
    one-place l m on.place on.rest
one-place (past_gap p a g r i l) (past_token q b k w s j m) at e = absurd (gap-token g r k w s i j e)
one-place (past_token p a j v r i l) (here q d ds never) at e = absurd (never.1 j v r (sym e) i)
one-place (past_token p a j v r i l) (past_gap q b h s n m) at e = absurd (gap-token h s j v r n i (sym e))
one-place (past_token p a j v r i l) (past_token q b k w s n m) at e =
    let on = behind-token p q j k v w r s i n at e in
    one-place l m on.place on.rest

pub never-both : {p q b : Place} {cs ds : List ℕ} {ts : List Token} → Lexed p cs ts → Stuck q ds b → p ≡ q → cs ≡ ds → ⊥
never-both (done p) (here q d ds never) at e = nil-cons d ds e
never-both (done p) (past_gap q b h s i m) at e = gap-some h s e
never-both (done p) (past_token q b k w s i m) at e = token-some k w s i e
never-both (gap p g r ts i l) (here q d ds never) at e = never.0 g r (sym e) i
never-both (gap p g r ts i l) (past_gap q b h s j m) at e =
    let on = behind-gap p q g h r s i j at e in
    never-both l m on.place on.rest
never-both (gap p g r ts i l) (past_token q b k w s j m) at e = gap-token g r k w s i j e
never-both (token p j v r ts i l) (here q d ds never) at e = never.1 j v r (sym e) i
never-both (token p j v r ts i l) (past_gap q b h s n m) at e = gap-token h s j v r n i (sym e)
never-both (token p j v r ts i l) (past_token q b k w s n m) at e =
    let on = behind-token p q j k v w r s i n at e in
    never-both l m on.place on.rest

-- ---- bytes

pub reads-one : (start : Place) (bytes : List ℕ) (list others : List Token) → Reads start bytes list → Reads start bytes others → others ≡ list
reads-one start bytes list others h g = one-list g.1 h.1 refl refl

pub refuses-one : (start : Place) (bytes : List ℕ) (fault other : Fault) → Refuses start bytes (At fault) → Refuses start bytes (At other) → other ≡ fault
refuses-one start bytes f g (inl a) (inl b) = b.1 ∙ sym a.1
refuses-one start bytes f g (inl a) (inr b) = absurd (a.0 b.0)
refuses-one start bytes f g (inr a) (inl b) = absurd (b.0 a.0)
refuses-one start bytes f g (inr (utf, a)) (inr (also, b)) =
    let place : g.place ≡ f.place = one-place b.0 a.0 refl refl in
    let code : g.code ≡ f.code = b.1 ∙ sym a.1 in
    λ i. record { place = place i; code = code i }

pub reads-refuses : (start : Place) (bytes : List ℕ) (list : List Token) (fault : Fault) → Reads start bytes list → Refuses start bytes (At fault) → ⊥
reads-refuses start bytes list f h (inl b) = b.0 h.0
reads-refuses start bytes list f h (inr (utf, b)) = never-both h.1 b.0 refl refl

pub only-list : (start : Place) (bytes : List ℕ) (r : Result (List Token) Refuse) → IfOk r (λ list. Reads start bytes list) → IfOk r (λ list. IsOnlyReading start bytes list)
only-list start bytes (Ok list) h = record { others = λ others g. reads-one start bytes list others h g; refused = λ f g. reads-refuses start bytes list f h g }
only-list start bytes (Err e) h = tt

only-fault : (start : Place) (bytes : List ℕ) (e : Refuse) → Refuses start bytes e → RefusesOnly start bytes e
only-fault start bytes Memory h = tt
only-fault start bytes (At f) h = record { others = λ g k. refuses-one start bytes f g h k; read = λ list k. reads-refuses start bytes list f k h }
only-fault start bytes (Plain code) h = h
only-fault start bytes (Broken code relvar number) h = h

pub only-refusal : (start : Place) (bytes : List ℕ) (r : Result (List Token) Refuse) → IfErr r (λ e. Refuses start bytes e) → IfErr r (λ e. RefusesOnly start bytes e)
only-refusal start bytes (Ok list) h = tt
only-refusal start bytes (Err e) h = only-fault start bytes e h
