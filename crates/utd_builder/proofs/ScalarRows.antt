-- Written by tools/grammar; change it there.
-- What scalars say of the next token, where a statement goes on.
use Rattle.std.proofs.Common.{◌≡◌, ℕ, List, [], ◌∷◌, false, Option, Some, None, refl, sym, ◌∙◌, ap}
use Rattle.utd_syntax.specs.declared.terminal.Terminal.{Terminal}
use Rattle.utd_syntax.specs.declared.terminal.Terminal.TheVariants as t
use Rattle.point_core.specs.declared.fault.Place.{Place}
use Rattle.utd_syntax.specs.declared.words.ComparisonWord.{ComparisonWord}
use Rattle.utd_syntax.specs.declared.words.ComparisonWord.TheVariants as comparisons
use Rattle.utd_syntax.specs.declared.words.SumWord.{SumWord}
use Rattle.utd_syntax.specs.declared.words.SumWord.TheVariants as sum_words
use Rattle.utd_syntax.specs.declared.words.ProductWord.{ProductWord}
use Rattle.utd_syntax.specs.declared.words.ProductWord.TheVariants as product_words
use Rattle.utd_syntax.specs.declared.words.FunctionWord.{FunctionWord}
use Rattle.utd_syntax.specs.declared.words.FunctionWord.TheVariants as functions
use Rattle.utd_syntax.specs.declared.words.PairWord.{PairWord}
use Rattle.utd_syntax.specs.declared.words.PairWord.TheVariants as pair_functions
use Rattle.utd_syntax.specs.declared.words.ExtremeWord.{ExtremeWord}
use Rattle.utd_syntax.specs.declared.words.ExtremeWord.TheVariants as extremes
use Rattle.utd_syntax.specs.declared.words.EndBracket.{EndBracket}
use Rattle.utd_syntax.specs.Pieces.{Piece, first, place_of, bytes_of}
use Rattle.utd_builder.specs.Building.{behind}
use Rattle.utd_syntax.specs.Plain.{StatementP, Add, AttributeName, Compare, Extreme, Function, Multiply, OneCmp, OneConj, OneNeg, OnePrimary, OneProd, OneSign, OneSum, PairFunction}
use Rattle.utd_syntax.specs.Table.{Symbol, same, TheName, Comma, DateText, MomentText, NegativeDigits, ThePrimary, AfterName, AfterScalar, EndOfSelector, InParens, InPair, InPoint, TheSign, TheProd, MoreProd, TheSum, MoreSum, TheCmp, MoreCmp, TheNeg, TheConj, MoreAnd, TheScalar, MoreOr, ThePoint}
use Rattle.utd_syntax.specs.Written.{comparison, sum_word, product_word, function, pair_function, extreme}
use Rattle.utd_syntax.proofs.Reader.{Go, read, read_at}
use Rattle.utd_syntax.proofs.FormEnds.{Halts, Starts_cmp, Starts_conj, Starts_primary, AfterName-end, MoreProd-end, MoreSum-end, MoreCmp-end, MoreAnd-end, MoreOr-end}
use Rattle.utd_syntax.proofs.FirstTokens.{cmp-as-sum, conj-as-neg, neg-as-cmp, prod-as-sign, scalar-as-conj, sign-as-primary, sum-as-prod}
use Rattle.utd_builder.specs.Choices.{comparison_at, sum_word_at, product_word_at, function_at, pair_function_at, end_bracket_at}
use Rattle.utd_builder.proofs.Steps.{at, differs, differs-back}

halts-MoreOr : (x : Terminal) → (x ≡ t.Or → ⊥) → Halts MoreOr x
halts-MoreOr t.Or n0 = absurd (n0 refl)
halts-MoreOr _ n0 = refl

pub done-MoreOr : (ts : List Piece) (stack : List Symbol) (k : Go (MoreOr ∷ stack)) (s : StatementP) → ((first ts) ≡ t.Or → ⊥) → read ts (MoreOr ∷ stack) k ≡ Some s → read ts stack (λ v. k ((λ x. x), v)) ≡ Some s
done-MoreOr ts stack k s n0 h = sym (MoreOr-end ts stack k (halts-MoreOr (first ts) n0)) ∙ h

halts-MoreAnd : (x : Terminal) → (x ≡ t.And → ⊥) → Halts MoreAnd x
halts-MoreAnd t.And n0 = absurd (n0 refl)
halts-MoreAnd _ n0 = refl

pub done-MoreAnd : (ts : List Piece) (stack : List Symbol) (k : Go (MoreAnd ∷ stack)) (s : StatementP) → ((first ts) ≡ t.And → ⊥) → read ts (MoreAnd ∷ stack) k ≡ Some s → read ts stack (λ v. k ((λ x. x), v)) ≡ Some s
done-MoreAnd ts stack k s n0 h = sym (MoreAnd-end ts stack k (halts-MoreAnd (first ts) n0)) ∙ h

halts-MoreCmp : (x : Terminal) → comparison_at x ≡ None → Halts MoreCmp x
halts-MoreCmp t.Equal f0 = differs-back (f0)
halts-MoreCmp t.NotEqual f0 = differs-back (f0)
halts-MoreCmp t.Less f0 = differs-back (f0)
halts-MoreCmp t.LessEqual f0 = differs-back (f0)
halts-MoreCmp t.Greater f0 = differs-back (f0)
halts-MoreCmp t.GreaterEqual f0 = differs-back (f0)
halts-MoreCmp t.In f0 = differs-back (f0)
halts-MoreCmp t.Includes f0 = differs-back (f0)
halts-MoreCmp t.IncludedIn f0 = differs-back (f0)
halts-MoreCmp t.Before f0 = differs-back (f0)
halts-MoreCmp t.After f0 = differs-back (f0)
halts-MoreCmp t.Meets f0 = differs-back (f0)
halts-MoreCmp t.Overlaps f0 = differs-back (f0)
halts-MoreCmp t.Merges f0 = differs-back (f0)
halts-MoreCmp t.Begins f0 = differs-back (f0)
halts-MoreCmp t.Ends f0 = differs-back (f0)
halts-MoreCmp _ f0 = refl

pub done-MoreCmp : (ts : List Piece) (stack : List Symbol) (k : Go (MoreCmp ∷ stack)) (s : StatementP) → comparison_at (first ts) ≡ None → read ts (MoreCmp ∷ stack) k ≡ Some s → read ts stack (λ v. k ((λ x. OneSum x), v)) ≡ Some s
done-MoreCmp ts stack k s f0 h = sym (MoreCmp-end ts stack k (halts-MoreCmp (first ts) f0)) ∙ h

halts-MoreSum : (x : Terminal) → sum_word_at x ≡ None → Halts MoreSum x
halts-MoreSum t.Plus f0 = differs-back (f0)
halts-MoreSum t.Dash f0 = differs-back (f0)
halts-MoreSum t.Bars f0 = differs-back (f0)
halts-MoreSum _ f0 = refl

pub done-MoreSum : (ts : List Piece) (stack : List Symbol) (k : Go (MoreSum ∷ stack)) (s : StatementP) → sum_word_at (first ts) ≡ None → read ts (MoreSum ∷ stack) k ≡ Some s → read ts stack (λ v. k ((λ x. x), v)) ≡ Some s
done-MoreSum ts stack k s f0 h = sym (MoreSum-end ts stack k (halts-MoreSum (first ts) f0)) ∙ h

halts-MoreProd : (x : Terminal) → product_word_at x ≡ None → Halts MoreProd x
halts-MoreProd t.Star f0 = differs-back (f0)
halts-MoreProd t.Slash f0 = differs-back (f0)
halts-MoreProd _ f0 = refl

pub done-MoreProd : (ts : List Piece) (stack : List Symbol) (k : Go (MoreProd ∷ stack)) (s : StatementP) → product_word_at (first ts) ≡ None → read ts (MoreProd ∷ stack) k ≡ Some s → read ts stack (λ v. k ((λ x. x), v)) ≡ Some s
done-MoreProd ts stack k s f0 h = sym (MoreProd-end ts stack k (halts-MoreProd (first ts) f0)) ∙ h

halts-AfterName : (x : Terminal) → (x ≡ t.Dot → ⊥) → Halts AfterName x
halts-AfterName t.Dot n0 = absurd (n0 refl)
halts-AfterName _ n0 = refl

pub done-AfterName : (ts : List Piece) (stack : List Symbol) (k : Go (AfterName ∷ stack)) (s : StatementP) → ((first ts) ≡ t.Dot → ⊥) → read ts (AfterName ∷ stack) k ≡ Some s → read ts stack (λ v. k ((λ w. AttributeName w), v)) ≡ Some s
done-AfterName ts stack k s n0 h = sym (AfterName-end ts stack k (halts-AfterName (first ts) n0)) ∙ h

starts-scalar-conj : (x n : Terminal) (p : Place) (b : List ℕ) (next : (st : List Symbol) → Go st → Option StatementP) (stack : List Symbol) (k : Go (TheScalar ∷ stack)) (s : StatementP) → read_at x n p b next (TheScalar ∷ stack) k ≡ Some s → Starts_conj x
starts-scalar-conj t.Not n p b next stack k s h = tt
starts-scalar-conj t.Dash n p b next stack k s h = tt
starts-scalar-conj t.Digits n p b next stack k s h = tt
starts-scalar-conj t.Quoted n p b next stack k s h = tt
starts-scalar-conj t.Date n p b next stack k s h = tt
starts-scalar-conj t.Moment n p b next stack k s h = tt
starts-scalar-conj t.True n p b next stack k s h = tt
starts-scalar-conj t.False n p b next stack k s h = tt
starts-scalar-conj t.Name n p b next stack k s h = tt
starts-scalar-conj t.Open n p b next stack k s h = tt
starts-scalar-conj t.OpenBracket n p b next stack k s h = tt
starts-scalar-conj t.First n p b next stack k s h = tt
starts-scalar-conj t.Last n p b next stack k s h = tt
starts-scalar-conj t.Begin n p b next stack k s h = tt
starts-scalar-conj t.End n p b next stack k s h = tt
starts-scalar-conj t.Pre n p b next stack k s h = tt
starts-scalar-conj t.Post n p b next stack k s h = tt
starts-scalar-conj t.Count n p b next stack k s h = tt
starts-scalar-conj t.Next n p b next stack k s h = tt
starts-scalar-conj t.Prior n p b next stack k s h = tt
starts-scalar-conj t.Union n p b next stack k s h = tt
starts-scalar-conj t.Intersect n p b next stack k s h = tt
starts-scalar-conj t.Minus n p b next stack k s h = tt
starts-scalar-conj _ n p b next stack k s h = differs h

pub scalar-to-conj : (ts : List Piece) (stack : List Symbol) (k : Go (TheScalar ∷ stack)) (s : StatementP) → read ts (TheScalar ∷ stack) k ≡ Some s → read ts (TheConj ∷ MoreOr ∷ stack) (λ v. k (v.1.0 (OneConj v.0), v.1.1)) ≡ Some s
scalar-to-conj [] stack k s h = differs h
scalar-to-conj (x ∷ ts) stack k s h = sym (scalar-as-conj (x ∷ ts) stack k (starts-scalar-conj x.terminal (first ts) x.place x.bytes (read ts) stack k s h)) ∙ h

starts-conj-neg : (x n : Terminal) (p : Place) (b : List ℕ) (next : (st : List Symbol) → Go st → Option StatementP) (stack : List Symbol) (k : Go (TheConj ∷ stack)) (s : StatementP) → read_at x n p b next (TheConj ∷ stack) k ≡ Some s → Starts_conj x
starts-conj-neg t.Not n p b next stack k s h = tt
starts-conj-neg t.Dash n p b next stack k s h = tt
starts-conj-neg t.Digits n p b next stack k s h = tt
starts-conj-neg t.Quoted n p b next stack k s h = tt
starts-conj-neg t.Date n p b next stack k s h = tt
starts-conj-neg t.Moment n p b next stack k s h = tt
starts-conj-neg t.True n p b next stack k s h = tt
starts-conj-neg t.False n p b next stack k s h = tt
starts-conj-neg t.Name n p b next stack k s h = tt
starts-conj-neg t.Open n p b next stack k s h = tt
starts-conj-neg t.OpenBracket n p b next stack k s h = tt
starts-conj-neg t.First n p b next stack k s h = tt
starts-conj-neg t.Last n p b next stack k s h = tt
starts-conj-neg t.Begin n p b next stack k s h = tt
starts-conj-neg t.End n p b next stack k s h = tt
starts-conj-neg t.Pre n p b next stack k s h = tt
starts-conj-neg t.Post n p b next stack k s h = tt
starts-conj-neg t.Count n p b next stack k s h = tt
starts-conj-neg t.Next n p b next stack k s h = tt
starts-conj-neg t.Prior n p b next stack k s h = tt
starts-conj-neg t.Union n p b next stack k s h = tt
starts-conj-neg t.Intersect n p b next stack k s h = tt
starts-conj-neg t.Minus n p b next stack k s h = tt
starts-conj-neg _ n p b next stack k s h = differs h

pub conj-to-neg : (ts : List Piece) (stack : List Symbol) (k : Go (TheConj ∷ stack)) (s : StatementP) → read ts (TheConj ∷ stack) k ≡ Some s → read ts (TheNeg ∷ MoreAnd ∷ stack) (λ v. k (v.1.0 (OneNeg v.0), v.1.1)) ≡ Some s
conj-to-neg [] stack k s h = differs h
conj-to-neg (x ∷ ts) stack k s h = sym (conj-as-neg (x ∷ ts) stack k (starts-conj-neg x.terminal (first ts) x.place x.bytes (read ts) stack k s h)) ∙ h

starts-neg-cmp : (x n : Terminal) (p : Place) (b : List ℕ) (next : (st : List Symbol) → Go st → Option StatementP) (stack : List Symbol) (k : Go (TheNeg ∷ stack)) (s : StatementP) → (x ≡ t.Not → ⊥) → read_at x n p b next (TheNeg ∷ stack) k ≡ Some s → Starts_cmp x
starts-neg-cmp t.Not n p b next stack k s n0 h = absurd (n0 refl)
starts-neg-cmp t.Dash n p b next stack k s n0 h = tt
starts-neg-cmp t.Digits n p b next stack k s n0 h = tt
starts-neg-cmp t.Quoted n p b next stack k s n0 h = tt
starts-neg-cmp t.Date n p b next stack k s n0 h = tt
starts-neg-cmp t.Moment n p b next stack k s n0 h = tt
starts-neg-cmp t.True n p b next stack k s n0 h = tt
starts-neg-cmp t.False n p b next stack k s n0 h = tt
starts-neg-cmp t.Name n p b next stack k s n0 h = tt
starts-neg-cmp t.Open n p b next stack k s n0 h = tt
starts-neg-cmp t.OpenBracket n p b next stack k s n0 h = tt
starts-neg-cmp t.First n p b next stack k s n0 h = tt
starts-neg-cmp t.Last n p b next stack k s n0 h = tt
starts-neg-cmp t.Begin n p b next stack k s n0 h = tt
starts-neg-cmp t.End n p b next stack k s n0 h = tt
starts-neg-cmp t.Pre n p b next stack k s n0 h = tt
starts-neg-cmp t.Post n p b next stack k s n0 h = tt
starts-neg-cmp t.Count n p b next stack k s n0 h = tt
starts-neg-cmp t.Next n p b next stack k s n0 h = tt
starts-neg-cmp t.Prior n p b next stack k s n0 h = tt
starts-neg-cmp t.Union n p b next stack k s n0 h = tt
starts-neg-cmp t.Intersect n p b next stack k s n0 h = tt
starts-neg-cmp t.Minus n p b next stack k s n0 h = tt
starts-neg-cmp _ n p b next stack k s n0 h = differs h

pub neg-to-cmp : (ts : List Piece) (stack : List Symbol) (k : Go (TheNeg ∷ stack)) (s : StatementP) → ((first ts) ≡ t.Not → ⊥) → read ts (TheNeg ∷ stack) k ≡ Some s → read ts (TheCmp ∷ stack) (λ v. k (OneCmp v.0, v.1)) ≡ Some s
neg-to-cmp [] stack k s n0 h = differs h
neg-to-cmp (x ∷ ts) stack k s n0 h = sym (neg-as-cmp (x ∷ ts) stack k (starts-neg-cmp x.terminal (first ts) x.place x.bytes (read ts) stack k s n0 h)) ∙ h

starts-cmp-sum : (x n : Terminal) (p : Place) (b : List ℕ) (next : (st : List Symbol) → Go st → Option StatementP) (stack : List Symbol) (k : Go (TheCmp ∷ stack)) (s : StatementP) → read_at x n p b next (TheCmp ∷ stack) k ≡ Some s → Starts_cmp x
starts-cmp-sum t.Dash n p b next stack k s h = tt
starts-cmp-sum t.Digits n p b next stack k s h = tt
starts-cmp-sum t.Quoted n p b next stack k s h = tt
starts-cmp-sum t.Date n p b next stack k s h = tt
starts-cmp-sum t.Moment n p b next stack k s h = tt
starts-cmp-sum t.True n p b next stack k s h = tt
starts-cmp-sum t.False n p b next stack k s h = tt
starts-cmp-sum t.Name n p b next stack k s h = tt
starts-cmp-sum t.Open n p b next stack k s h = tt
starts-cmp-sum t.OpenBracket n p b next stack k s h = tt
starts-cmp-sum t.First n p b next stack k s h = tt
starts-cmp-sum t.Last n p b next stack k s h = tt
starts-cmp-sum t.Begin n p b next stack k s h = tt
starts-cmp-sum t.End n p b next stack k s h = tt
starts-cmp-sum t.Pre n p b next stack k s h = tt
starts-cmp-sum t.Post n p b next stack k s h = tt
starts-cmp-sum t.Count n p b next stack k s h = tt
starts-cmp-sum t.Next n p b next stack k s h = tt
starts-cmp-sum t.Prior n p b next stack k s h = tt
starts-cmp-sum t.Union n p b next stack k s h = tt
starts-cmp-sum t.Intersect n p b next stack k s h = tt
starts-cmp-sum t.Minus n p b next stack k s h = tt
starts-cmp-sum _ n p b next stack k s h = differs h

pub cmp-to-sum : (ts : List Piece) (stack : List Symbol) (k : Go (TheCmp ∷ stack)) (s : StatementP) → read ts (TheCmp ∷ stack) k ≡ Some s → read ts (TheSum ∷ MoreCmp ∷ stack) (λ v. k (v.1.0 v.0, v.1.1)) ≡ Some s
cmp-to-sum [] stack k s h = differs h
cmp-to-sum (x ∷ ts) stack k s h = sym (cmp-as-sum (x ∷ ts) stack k (starts-cmp-sum x.terminal (first ts) x.place x.bytes (read ts) stack k s h)) ∙ h

starts-sum-prod : (x n : Terminal) (p : Place) (b : List ℕ) (next : (st : List Symbol) → Go st → Option StatementP) (stack : List Symbol) (k : Go (TheSum ∷ stack)) (s : StatementP) → read_at x n p b next (TheSum ∷ stack) k ≡ Some s → Starts_cmp x
starts-sum-prod t.Dash n p b next stack k s h = tt
starts-sum-prod t.Digits n p b next stack k s h = tt
starts-sum-prod t.Quoted n p b next stack k s h = tt
starts-sum-prod t.Date n p b next stack k s h = tt
starts-sum-prod t.Moment n p b next stack k s h = tt
starts-sum-prod t.True n p b next stack k s h = tt
starts-sum-prod t.False n p b next stack k s h = tt
starts-sum-prod t.Name n p b next stack k s h = tt
starts-sum-prod t.Open n p b next stack k s h = tt
starts-sum-prod t.OpenBracket n p b next stack k s h = tt
starts-sum-prod t.First n p b next stack k s h = tt
starts-sum-prod t.Last n p b next stack k s h = tt
starts-sum-prod t.Begin n p b next stack k s h = tt
starts-sum-prod t.End n p b next stack k s h = tt
starts-sum-prod t.Pre n p b next stack k s h = tt
starts-sum-prod t.Post n p b next stack k s h = tt
starts-sum-prod t.Count n p b next stack k s h = tt
starts-sum-prod t.Next n p b next stack k s h = tt
starts-sum-prod t.Prior n p b next stack k s h = tt
starts-sum-prod t.Union n p b next stack k s h = tt
starts-sum-prod t.Intersect n p b next stack k s h = tt
starts-sum-prod t.Minus n p b next stack k s h = tt
starts-sum-prod _ n p b next stack k s h = differs h

pub sum-to-prod : (ts : List Piece) (stack : List Symbol) (k : Go (TheSum ∷ stack)) (s : StatementP) → read ts (TheSum ∷ stack) k ≡ Some s → read ts (TheProd ∷ MoreSum ∷ stack) (λ v. k (v.1.0 (OneProd v.0), v.1.1)) ≡ Some s
sum-to-prod [] stack k s h = differs h
sum-to-prod (x ∷ ts) stack k s h = sym (sum-as-prod (x ∷ ts) stack k (starts-sum-prod x.terminal (first ts) x.place x.bytes (read ts) stack k s h)) ∙ h

starts-prod-sign : (x n : Terminal) (p : Place) (b : List ℕ) (next : (st : List Symbol) → Go st → Option StatementP) (stack : List Symbol) (k : Go (TheProd ∷ stack)) (s : StatementP) → read_at x n p b next (TheProd ∷ stack) k ≡ Some s → Starts_cmp x
starts-prod-sign t.Dash n p b next stack k s h = tt
starts-prod-sign t.Digits n p b next stack k s h = tt
starts-prod-sign t.Quoted n p b next stack k s h = tt
starts-prod-sign t.Date n p b next stack k s h = tt
starts-prod-sign t.Moment n p b next stack k s h = tt
starts-prod-sign t.True n p b next stack k s h = tt
starts-prod-sign t.False n p b next stack k s h = tt
starts-prod-sign t.Name n p b next stack k s h = tt
starts-prod-sign t.Open n p b next stack k s h = tt
starts-prod-sign t.OpenBracket n p b next stack k s h = tt
starts-prod-sign t.First n p b next stack k s h = tt
starts-prod-sign t.Last n p b next stack k s h = tt
starts-prod-sign t.Begin n p b next stack k s h = tt
starts-prod-sign t.End n p b next stack k s h = tt
starts-prod-sign t.Pre n p b next stack k s h = tt
starts-prod-sign t.Post n p b next stack k s h = tt
starts-prod-sign t.Count n p b next stack k s h = tt
starts-prod-sign t.Next n p b next stack k s h = tt
starts-prod-sign t.Prior n p b next stack k s h = tt
starts-prod-sign t.Union n p b next stack k s h = tt
starts-prod-sign t.Intersect n p b next stack k s h = tt
starts-prod-sign t.Minus n p b next stack k s h = tt
starts-prod-sign _ n p b next stack k s h = differs h

pub prod-to-sign : (ts : List Piece) (stack : List Symbol) (k : Go (TheProd ∷ stack)) (s : StatementP) → read ts (TheProd ∷ stack) k ≡ Some s → read ts (TheSign ∷ MoreProd ∷ stack) (λ v. k (v.1.0 (OneSign v.0), v.1.1)) ≡ Some s
prod-to-sign [] stack k s h = differs h
prod-to-sign (x ∷ ts) stack k s h = sym (prod-as-sign (x ∷ ts) stack k (starts-prod-sign x.terminal (first ts) x.place x.bytes (read ts) stack k s h)) ∙ h

starts-sign-primary : (x n : Terminal) (p : Place) (b : List ℕ) (next : (st : List Symbol) → Go st → Option StatementP) (stack : List Symbol) (k : Go (TheSign ∷ stack)) (s : StatementP) → (x ≡ t.Dash → ⊥) → read_at x n p b next (TheSign ∷ stack) k ≡ Some s → Starts_primary x
starts-sign-primary t.Dash n p b next stack k s n0 h = absurd (n0 refl)
starts-sign-primary t.Digits n p b next stack k s n0 h = tt
starts-sign-primary t.Quoted n p b next stack k s n0 h = tt
starts-sign-primary t.Date n p b next stack k s n0 h = tt
starts-sign-primary t.Moment n p b next stack k s n0 h = tt
starts-sign-primary t.True n p b next stack k s n0 h = tt
starts-sign-primary t.False n p b next stack k s n0 h = tt
starts-sign-primary t.Name n p b next stack k s n0 h = tt
starts-sign-primary t.Open n p b next stack k s n0 h = tt
starts-sign-primary t.OpenBracket n p b next stack k s n0 h = tt
starts-sign-primary t.First n p b next stack k s n0 h = tt
starts-sign-primary t.Last n p b next stack k s n0 h = tt
starts-sign-primary t.Begin n p b next stack k s n0 h = tt
starts-sign-primary t.End n p b next stack k s n0 h = tt
starts-sign-primary t.Pre n p b next stack k s n0 h = tt
starts-sign-primary t.Post n p b next stack k s n0 h = tt
starts-sign-primary t.Count n p b next stack k s n0 h = tt
starts-sign-primary t.Next n p b next stack k s n0 h = tt
starts-sign-primary t.Prior n p b next stack k s n0 h = tt
starts-sign-primary t.Union n p b next stack k s n0 h = tt
starts-sign-primary t.Intersect n p b next stack k s n0 h = tt
starts-sign-primary t.Minus n p b next stack k s n0 h = tt
starts-sign-primary _ n p b next stack k s n0 h = differs h

pub sign-to-primary : (ts : List Piece) (stack : List Symbol) (k : Go (TheSign ∷ stack)) (s : StatementP) → ((first ts) ≡ t.Dash → ⊥) → read ts (TheSign ∷ stack) k ≡ Some s → read ts (ThePrimary ∷ stack) (λ v. k (OnePrimary v.0, v.1)) ≡ Some s
sign-to-primary [] stack k s n0 h = differs h
sign-to-primary (x ∷ ts) stack k s n0 h = sym (sign-as-primary (x ∷ ts) stack k (starts-sign-primary x.terminal (first ts) x.place x.bytes (read ts) stack k s n0 h)) ∙ h

is-ThePoint : (x n : Terminal) (p : Place) (b : List ℕ) (next : (st : List Symbol) → Go st → Option StatementP) (stack : List Symbol) (k : Go (ThePoint ∷ stack)) (s : StatementP) → (x ≡ t.Integer → ⊥) → (x ≡ t.Date → ⊥) → (x ≡ t.Moment → ⊥) → read_at x n p b next (ThePoint ∷ stack) k ≡ Some s → x ≡ t.Name
is-ThePoint t.Integer n p b next stack k s n0 n1 n2 h = absurd (n0 refl)
is-ThePoint t.Date n p b next stack k s n0 n1 n2 h = absurd (n1 refl)
is-ThePoint t.Moment n p b next stack k s n0 n1 n2 h = absurd (n2 refl)
is-ThePoint t.Name n p b next stack k s n0 n1 n2 h = refl
is-ThePoint _ n p b next stack k s n0 n1 n2 h = differs h

must-ThePoint : (ts : List Piece) (stack : List Symbol) (k : Go (ThePoint ∷ stack)) (s : StatementP) → ((first ts) ≡ t.Integer → ⊥) → ((first ts) ≡ t.Date → ⊥) → ((first ts) ≡ t.Moment → ⊥) → read ts (ThePoint ∷ stack) k ≡ Some s → first ts ≡ t.Name
must-ThePoint [] stack k s n0 n1 n2 h = differs h
must-ThePoint (x ∷ ts) stack k s n0 n1 n2 h = is-ThePoint x.terminal (first ts) x.place x.bytes (read ts) stack k s n0 n1 n2 h

pub step-ThePoint : (p : Place) (b : List ℕ) (old new : List Piece) (stack : List Symbol) (k : Go (ThePoint ∷ stack)) (s : StatementP) → ((first old) ≡ t.Integer → ⊥) → ((first old) ≡ t.Date → ⊥) → ((first old) ≡ t.Moment → ⊥) → p ≡ place_of old → b ≡ bytes_of old → new ≡ behind old → read old (ThePoint ∷ stack) k ≡ Some s → read_at t.Name (first new) p b (read new) (ThePoint ∷ stack) k ≡ Some s
step-ThePoint p b old new stack k s n0 n1 n2 hp hb hn h = at t.Name p b old new (ThePoint ∷ stack) k s (must-ThePoint old stack k s n0 n1 n2 h) refl hp hb hn h

is-ThePrimary : (x n : Terminal) (p : Place) (b : List ℕ) (next : (st : List Symbol) → Go st → Option StatementP) (stack : List Symbol) (k : Go (ThePrimary ∷ stack)) (s : StatementP) → function_at x ≡ None → pair_function_at x ≡ None → (x ≡ t.Open → ⊥) → (x ≡ t.OpenBracket → ⊥) → (x ≡ t.First → ⊥) → (x ≡ t.Last → ⊥) → (x ≡ t.Name → ⊥) → (x ≡ t.Digits → ⊥) → (x ≡ t.Quoted → ⊥) → (x ≡ t.Date → ⊥) → (x ≡ t.Moment → ⊥) → (x ≡ t.True → ⊥) → read_at x n p b next (ThePrimary ∷ stack) k ≡ Some s → x ≡ t.False
is-ThePrimary t.Digits n p b next stack k s f0 f1 n0 n1 n2 n3 n4 n5 n6 n7 n8 n9 h = absurd (n5 refl)
is-ThePrimary t.Quoted n p b next stack k s f0 f1 n0 n1 n2 n3 n4 n5 n6 n7 n8 n9 h = absurd (n6 refl)
is-ThePrimary t.Date n p b next stack k s f0 f1 n0 n1 n2 n3 n4 n5 n6 n7 n8 n9 h = absurd (n7 refl)
is-ThePrimary t.Moment n p b next stack k s f0 f1 n0 n1 n2 n3 n4 n5 n6 n7 n8 n9 h = absurd (n8 refl)
is-ThePrimary t.True n p b next stack k s f0 f1 n0 n1 n2 n3 n4 n5 n6 n7 n8 n9 h = absurd (n9 refl)
is-ThePrimary t.False n p b next stack k s f0 f1 n0 n1 n2 n3 n4 n5 n6 n7 n8 n9 h = refl
is-ThePrimary t.Name n p b next stack k s f0 f1 n0 n1 n2 n3 n4 n5 n6 n7 n8 n9 h = absurd (n4 refl)
is-ThePrimary t.Open n p b next stack k s f0 f1 n0 n1 n2 n3 n4 n5 n6 n7 n8 n9 h = absurd (n0 refl)
is-ThePrimary t.OpenBracket n p b next stack k s f0 f1 n0 n1 n2 n3 n4 n5 n6 n7 n8 n9 h = absurd (n1 refl)
is-ThePrimary t.First n p b next stack k s f0 f1 n0 n1 n2 n3 n4 n5 n6 n7 n8 n9 h = absurd (n2 refl)
is-ThePrimary t.Last n p b next stack k s f0 f1 n0 n1 n2 n3 n4 n5 n6 n7 n8 n9 h = absurd (n3 refl)
is-ThePrimary t.Begin n p b next stack k s f0 f1 n0 n1 n2 n3 n4 n5 n6 n7 n8 n9 h = differs-back (f0)
is-ThePrimary t.End n p b next stack k s f0 f1 n0 n1 n2 n3 n4 n5 n6 n7 n8 n9 h = differs-back (f0)
is-ThePrimary t.Pre n p b next stack k s f0 f1 n0 n1 n2 n3 n4 n5 n6 n7 n8 n9 h = differs-back (f0)
is-ThePrimary t.Post n p b next stack k s f0 f1 n0 n1 n2 n3 n4 n5 n6 n7 n8 n9 h = differs-back (f0)
is-ThePrimary t.Count n p b next stack k s f0 f1 n0 n1 n2 n3 n4 n5 n6 n7 n8 n9 h = differs-back (f0)
is-ThePrimary t.Next n p b next stack k s f0 f1 n0 n1 n2 n3 n4 n5 n6 n7 n8 n9 h = differs-back (f0)
is-ThePrimary t.Prior n p b next stack k s f0 f1 n0 n1 n2 n3 n4 n5 n6 n7 n8 n9 h = differs-back (f0)
is-ThePrimary t.Union n p b next stack k s f0 f1 n0 n1 n2 n3 n4 n5 n6 n7 n8 n9 h = differs-back (f1)
is-ThePrimary t.Intersect n p b next stack k s f0 f1 n0 n1 n2 n3 n4 n5 n6 n7 n8 n9 h = differs-back (f1)
is-ThePrimary t.Minus n p b next stack k s f0 f1 n0 n1 n2 n3 n4 n5 n6 n7 n8 n9 h = differs-back (f1)
is-ThePrimary _ n p b next stack k s f0 f1 n0 n1 n2 n3 n4 n5 n6 n7 n8 n9 h = differs h

must-ThePrimary : (ts : List Piece) (stack : List Symbol) (k : Go (ThePrimary ∷ stack)) (s : StatementP) → function_at (first ts) ≡ None → pair_function_at (first ts) ≡ None → ((first ts) ≡ t.Open → ⊥) → ((first ts) ≡ t.OpenBracket → ⊥) → ((first ts) ≡ t.First → ⊥) → ((first ts) ≡ t.Last → ⊥) → ((first ts) ≡ t.Name → ⊥) → ((first ts) ≡ t.Digits → ⊥) → ((first ts) ≡ t.Quoted → ⊥) → ((first ts) ≡ t.Date → ⊥) → ((first ts) ≡ t.Moment → ⊥) → ((first ts) ≡ t.True → ⊥) → read ts (ThePrimary ∷ stack) k ≡ Some s → first ts ≡ t.False
must-ThePrimary [] stack k s f0 f1 n0 n1 n2 n3 n4 n5 n6 n7 n8 n9 h = differs h
must-ThePrimary (x ∷ ts) stack k s f0 f1 n0 n1 n2 n3 n4 n5 n6 n7 n8 n9 h = is-ThePrimary x.terminal (first ts) x.place x.bytes (read ts) stack k s f0 f1 n0 n1 n2 n3 n4 n5 n6 n7 n8 n9 h

pub step-ThePrimary : (p : Place) (b : List ℕ) (old new : List Piece) (stack : List Symbol) (k : Go (ThePrimary ∷ stack)) (s : StatementP) → function_at (first old) ≡ None → pair_function_at (first old) ≡ None → ((first old) ≡ t.Open → ⊥) → ((first old) ≡ t.OpenBracket → ⊥) → ((first old) ≡ t.First → ⊥) → ((first old) ≡ t.Last → ⊥) → ((first old) ≡ t.Name → ⊥) → ((first old) ≡ t.Digits → ⊥) → ((first old) ≡ t.Quoted → ⊥) → ((first old) ≡ t.Date → ⊥) → ((first old) ≡ t.Moment → ⊥) → ((first old) ≡ t.True → ⊥) → p ≡ place_of old → b ≡ bytes_of old → new ≡ behind old → read old (ThePrimary ∷ stack) k ≡ Some s → read_at t.False (first new) p b (read new) (ThePrimary ∷ stack) k ≡ Some s
step-ThePrimary p b old new stack k s f0 f1 n0 n1 n2 n3 n4 n5 n6 n7 n8 n9 hp hb hn h = at t.False p b old new (ThePrimary ∷ stack) k s (must-ThePrimary old stack k s f0 f1 n0 n1 n2 n3 n4 n5 n6 n7 n8 n9 h) refl hp hb hn h

is-AfterScalar : (x n : Terminal) (p : Place) (b : List ℕ) (next : (st : List Symbol) → Go st → Option StatementP) (stack : List Symbol) (k : Go (AfterScalar ∷ stack)) (s : StatementP) → (x ≡ t.Colon → ⊥) → read_at x n p b next (AfterScalar ∷ stack) k ≡ Some s → x ≡ t.Close
is-AfterScalar t.Close n p b next stack k s n0 h = refl
is-AfterScalar t.Colon n p b next stack k s n0 h = absurd (n0 refl)
is-AfterScalar _ n p b next stack k s n0 h = differs h

must-AfterScalar : (ts : List Piece) (stack : List Symbol) (k : Go (AfterScalar ∷ stack)) (s : StatementP) → ((first ts) ≡ t.Colon → ⊥) → read ts (AfterScalar ∷ stack) k ≡ Some s → first ts ≡ t.Close
must-AfterScalar [] stack k s n0 h = differs h
must-AfterScalar (x ∷ ts) stack k s n0 h = is-AfterScalar x.terminal (first ts) x.place x.bytes (read ts) stack k s n0 h

pub step-AfterScalar : (p : Place) (b : List ℕ) (old new : List Piece) (stack : List Symbol) (k : Go (AfterScalar ∷ stack)) (s : StatementP) → ((first old) ≡ t.Colon → ⊥) → p ≡ place_of old → b ≡ bytes_of old → new ≡ behind old → read old (AfterScalar ∷ stack) k ≡ Some s → read_at t.Close (first new) p b (read new) (AfterScalar ∷ stack) k ≡ Some s
step-AfterScalar p b old new stack k s n0 hp hb hn h = at t.Close p b old new (AfterScalar ∷ stack) k s (must-AfterScalar old stack k s n0 h) refl hp hb hn h

is-InParens : (x n : Terminal) (p : Place) (b : List ℕ) (next : (st : List Symbol) → Go st → Option StatementP) (stack : List Symbol) (k : Go (InParens ∷ stack)) (s : StatementP) → read_at x n p b next (InParens ∷ stack) k ≡ Some s → x ≡ t.Open
is-InParens t.Open n p b next stack k s h = refl
is-InParens _ n p b next stack k s h = differs h

must-InParens : (ts : List Piece) (stack : List Symbol) (k : Go (InParens ∷ stack)) (s : StatementP) → read ts (InParens ∷ stack) k ≡ Some s → first ts ≡ t.Open
must-InParens [] stack k s h = differs h
must-InParens (x ∷ ts) stack k s h = is-InParens x.terminal (first ts) x.place x.bytes (read ts) stack k s h

pub step-InParens : (p : Place) (b : List ℕ) (old new : List Piece) (stack : List Symbol) (k : Go (InParens ∷ stack)) (s : StatementP) → p ≡ place_of old → b ≡ bytes_of old → new ≡ behind old → read old (InParens ∷ stack) k ≡ Some s → read_at t.Open (first new) p b (read new) (InParens ∷ stack) k ≡ Some s
step-InParens p b old new stack k s hp hb hn h = at t.Open p b old new (InParens ∷ stack) k s (must-InParens old stack k s h) refl hp hb hn h

is-InPair : (x n : Terminal) (p : Place) (b : List ℕ) (next : (st : List Symbol) → Go st → Option StatementP) (stack : List Symbol) (k : Go (InPair ∷ stack)) (s : StatementP) → read_at x n p b next (InPair ∷ stack) k ≡ Some s → x ≡ t.Open
is-InPair t.Open n p b next stack k s h = refl
is-InPair _ n p b next stack k s h = differs h

must-InPair : (ts : List Piece) (stack : List Symbol) (k : Go (InPair ∷ stack)) (s : StatementP) → read ts (InPair ∷ stack) k ≡ Some s → first ts ≡ t.Open
must-InPair [] stack k s h = differs h
must-InPair (x ∷ ts) stack k s h = is-InPair x.terminal (first ts) x.place x.bytes (read ts) stack k s h

pub step-InPair : (p : Place) (b : List ℕ) (old new : List Piece) (stack : List Symbol) (k : Go (InPair ∷ stack)) (s : StatementP) → p ≡ place_of old → b ≡ bytes_of old → new ≡ behind old → read old (InPair ∷ stack) k ≡ Some s → read_at t.Open (first new) p b (read new) (InPair ∷ stack) k ≡ Some s
step-InPair p b old new stack k s hp hb hn h = at t.Open p b old new (InPair ∷ stack) k s (must-InPair old stack k s h) refl hp hb hn h

is-InPoint : (x n : Terminal) (p : Place) (b : List ℕ) (next : (st : List Symbol) → Go st → Option StatementP) (stack : List Symbol) (k : Go (InPoint ∷ stack)) (s : StatementP) → read_at x n p b next (InPoint ∷ stack) k ≡ Some s → x ≡ t.Open
is-InPoint t.Open n p b next stack k s h = refl
is-InPoint _ n p b next stack k s h = differs h

must-InPoint : (ts : List Piece) (stack : List Symbol) (k : Go (InPoint ∷ stack)) (s : StatementP) → read ts (InPoint ∷ stack) k ≡ Some s → first ts ≡ t.Open
must-InPoint [] stack k s h = differs h
must-InPoint (x ∷ ts) stack k s h = is-InPoint x.terminal (first ts) x.place x.bytes (read ts) stack k s h

pub step-InPoint : (p : Place) (b : List ℕ) (old new : List Piece) (stack : List Symbol) (k : Go (InPoint ∷ stack)) (s : StatementP) → p ≡ place_of old → b ≡ bytes_of old → new ≡ behind old → read old (InPoint ∷ stack) k ≡ Some s → read_at t.Open (first new) p b (read new) (InPoint ∷ stack) k ≡ Some s
step-InPoint p b old new stack k s hp hb hn h = at t.Open p b old new (InPoint ∷ stack) k s (must-InPoint old stack k s h) refl hp hb hn h

is-Comma : (x n : Terminal) (p : Place) (b : List ℕ) (next : (st : List Symbol) → Go st → Option StatementP) (stack : List Symbol) (k : Go (Comma ∷ stack)) (s : StatementP) → read_at x n p b next (Comma ∷ stack) k ≡ Some s → x ≡ t.Comma
is-Comma t.Comma n p b next stack k s h = refl
is-Comma _ n p b next stack k s h = differs h

must-Comma : (ts : List Piece) (stack : List Symbol) (k : Go (Comma ∷ stack)) (s : StatementP) → read ts (Comma ∷ stack) k ≡ Some s → first ts ≡ t.Comma
must-Comma [] stack k s h = differs h
must-Comma (x ∷ ts) stack k s h = is-Comma x.terminal (first ts) x.place x.bytes (read ts) stack k s h

pub step-Comma : (p : Place) (b : List ℕ) (old new : List Piece) (stack : List Symbol) (k : Go (Comma ∷ stack)) (s : StatementP) → p ≡ place_of old → b ≡ bytes_of old → new ≡ behind old → read old (Comma ∷ stack) k ≡ Some s → read_at t.Comma (first new) p b (read new) (Comma ∷ stack) k ≡ Some s
step-Comma p b old new stack k s hp hb hn h = at t.Comma p b old new (Comma ∷ stack) k s (must-Comma old stack k s h) refl hp hb hn h

is-DateText : (x n : Terminal) (p : Place) (b : List ℕ) (next : (st : List Symbol) → Go st → Option StatementP) (stack : List Symbol) (k : Go (DateText ∷ stack)) (s : StatementP) → read_at x n p b next (DateText ∷ stack) k ≡ Some s → x ≡ t.Quoted
is-DateText t.Quoted n p b next stack k s h = refl
is-DateText _ n p b next stack k s h = differs h

must-DateText : (ts : List Piece) (stack : List Symbol) (k : Go (DateText ∷ stack)) (s : StatementP) → read ts (DateText ∷ stack) k ≡ Some s → first ts ≡ t.Quoted
must-DateText [] stack k s h = differs h
must-DateText (x ∷ ts) stack k s h = is-DateText x.terminal (first ts) x.place x.bytes (read ts) stack k s h

pub step-DateText : (p : Place) (b : List ℕ) (old new : List Piece) (stack : List Symbol) (k : Go (DateText ∷ stack)) (s : StatementP) → p ≡ place_of old → b ≡ bytes_of old → new ≡ behind old → read old (DateText ∷ stack) k ≡ Some s → read_at t.Quoted (first new) p b (read new) (DateText ∷ stack) k ≡ Some s
step-DateText p b old new stack k s hp hb hn h = at t.Quoted p b old new (DateText ∷ stack) k s (must-DateText old stack k s h) refl hp hb hn h

is-MomentText : (x n : Terminal) (p : Place) (b : List ℕ) (next : (st : List Symbol) → Go st → Option StatementP) (stack : List Symbol) (k : Go (MomentText ∷ stack)) (s : StatementP) → read_at x n p b next (MomentText ∷ stack) k ≡ Some s → x ≡ t.Quoted
is-MomentText t.Quoted n p b next stack k s h = refl
is-MomentText _ n p b next stack k s h = differs h

must-MomentText : (ts : List Piece) (stack : List Symbol) (k : Go (MomentText ∷ stack)) (s : StatementP) → read ts (MomentText ∷ stack) k ≡ Some s → first ts ≡ t.Quoted
must-MomentText [] stack k s h = differs h
must-MomentText (x ∷ ts) stack k s h = is-MomentText x.terminal (first ts) x.place x.bytes (read ts) stack k s h

pub step-MomentText : (p : Place) (b : List ℕ) (old new : List Piece) (stack : List Symbol) (k : Go (MomentText ∷ stack)) (s : StatementP) → p ≡ place_of old → b ≡ bytes_of old → new ≡ behind old → read old (MomentText ∷ stack) k ≡ Some s → read_at t.Quoted (first new) p b (read new) (MomentText ∷ stack) k ≡ Some s
step-MomentText p b old new stack k s hp hb hn h = at t.Quoted p b old new (MomentText ∷ stack) k s (must-MomentText old stack k s h) refl hp hb hn h

is-NegativeDigits : (x n : Terminal) (p : Place) (b : List ℕ) (next : (st : List Symbol) → Go st → Option StatementP) (stack : List Symbol) (k : Go (NegativeDigits ∷ stack)) (s : StatementP) → read_at x n p b next (NegativeDigits ∷ stack) k ≡ Some s → x ≡ t.Digits
is-NegativeDigits t.Digits n p b next stack k s h = refl
is-NegativeDigits _ n p b next stack k s h = differs h

must-NegativeDigits : (ts : List Piece) (stack : List Symbol) (k : Go (NegativeDigits ∷ stack)) (s : StatementP) → read ts (NegativeDigits ∷ stack) k ≡ Some s → first ts ≡ t.Digits
must-NegativeDigits [] stack k s h = differs h
must-NegativeDigits (x ∷ ts) stack k s h = is-NegativeDigits x.terminal (first ts) x.place x.bytes (read ts) stack k s h

pub step-NegativeDigits : (p : Place) (b : List ℕ) (old new : List Piece) (stack : List Symbol) (k : Go (NegativeDigits ∷ stack)) (s : StatementP) → p ≡ place_of old → b ≡ bytes_of old → new ≡ behind old → read old (NegativeDigits ∷ stack) k ≡ Some s → read_at t.Digits (first new) p b (read new) (NegativeDigits ∷ stack) k ≡ Some s
step-NegativeDigits p b old new stack k s hp hb hn h = at t.Digits p b old new (NegativeDigits ∷ stack) k s (must-NegativeDigits old stack k s h) refl hp hb hn h

is-TheName : (x n : Terminal) (p : Place) (b : List ℕ) (next : (st : List Symbol) → Go st → Option StatementP) (stack : List Symbol) (k : Go (TheName ∷ stack)) (s : StatementP) → read_at x n p b next (TheName ∷ stack) k ≡ Some s → x ≡ t.Name
is-TheName t.Name n p b next stack k s h = refl
is-TheName _ n p b next stack k s h = differs h

must-TheName : (ts : List Piece) (stack : List Symbol) (k : Go (TheName ∷ stack)) (s : StatementP) → read ts (TheName ∷ stack) k ≡ Some s → first ts ≡ t.Name
must-TheName [] stack k s h = differs h
must-TheName (x ∷ ts) stack k s h = is-TheName x.terminal (first ts) x.place x.bytes (read ts) stack k s h

pub step-TheName : (p : Place) (b : List ℕ) (old new : List Piece) (stack : List Symbol) (k : Go (TheName ∷ stack)) (s : StatementP) → p ≡ place_of old → b ≡ bytes_of old → new ≡ behind old → read old (TheName ∷ stack) k ≡ Some s → read_at t.Name (first new) p b (read new) (TheName ∷ stack) k ≡ Some s
step-TheName p b old new stack k s hp hb hn h = at t.Name p b old new (TheName ∷ stack) k s (must-TheName old stack k s h) refl hp hb hn h

word-comparison : Option ComparisonWord → Terminal
word-comparison None = t.Finish
word-comparison (Some w) = comparison w

pub is-comparison : (x : Terminal) (w : ComparisonWord) → comparison_at x ≡ Some w → x ≡ comparison w
unfolding word-comparison
is-comparison t.Equal w e = ap word-comparison e
is-comparison t.NotEqual w e = ap word-comparison e
is-comparison t.Less w e = ap word-comparison e
is-comparison t.LessEqual w e = ap word-comparison e
is-comparison t.Greater w e = ap word-comparison e
is-comparison t.GreaterEqual w e = ap word-comparison e
is-comparison t.In w e = ap word-comparison e
is-comparison t.Includes w e = ap word-comparison e
is-comparison t.IncludedIn w e = ap word-comparison e
is-comparison t.Before w e = ap word-comparison e
is-comparison t.After w e = ap word-comparison e
is-comparison t.Meets w e = ap word-comparison e
is-comparison t.Overlaps w e = ap word-comparison e
is-comparison t.Merges w e = ap word-comparison e
is-comparison t.Begins w e = ap word-comparison e
is-comparison t.Ends w e = ap word-comparison e
is-comparison _ w e = differs e

pub more-comparison : (w : ComparisonWord) → same (comparison w) t.Finish ≡ false
more-comparison comparisons.Equal = refl
more-comparison comparisons.NotEqual = refl
more-comparison comparisons.Less = refl
more-comparison comparisons.LessEqual = refl
more-comparison comparisons.Greater = refl
more-comparison comparisons.GreaterEqual = refl
more-comparison comparisons.In = refl
more-comparison comparisons.Includes = refl
more-comparison comparisons.IncludedIn = refl
more-comparison comparisons.Before = refl
more-comparison comparisons.After = refl
more-comparison comparisons.Meets = refl
more-comparison comparisons.Overlaps = refl
more-comparison comparisons.Merges = refl
more-comparison comparisons.Begins = refl
more-comparison comparisons.Ends = refl

word-sum_word : Option SumWord → Terminal
word-sum_word None = t.Finish
word-sum_word (Some w) = sum_word w

pub is-sum_word : (x : Terminal) (w : SumWord) → sum_word_at x ≡ Some w → x ≡ sum_word w
unfolding word-sum_word
is-sum_word t.Plus w e = ap word-sum_word e
is-sum_word t.Dash w e = ap word-sum_word e
is-sum_word t.Bars w e = ap word-sum_word e
is-sum_word _ w e = differs e

pub more-sum_word : (w : SumWord) → same (sum_word w) t.Finish ≡ false
more-sum_word sum_words.Plus = refl
more-sum_word sum_words.Minus = refl
more-sum_word sum_words.Concat = refl

word-product_word : Option ProductWord → Terminal
word-product_word None = t.Finish
word-product_word (Some w) = product_word w

pub is-product_word : (x : Terminal) (w : ProductWord) → product_word_at x ≡ Some w → x ≡ product_word w
unfolding word-product_word
is-product_word t.Star w e = ap word-product_word e
is-product_word t.Slash w e = ap word-product_word e
is-product_word _ w e = differs e

pub more-product_word : (w : ProductWord) → same (product_word w) t.Finish ≡ false
more-product_word product_words.Times = refl
more-product_word product_words.Divide = refl

word-function : Option FunctionWord → Terminal
word-function None = t.Finish
word-function (Some w) = function w

pub is-function : (x : Terminal) (w : FunctionWord) → function_at x ≡ Some w → x ≡ function w
unfolding word-function
is-function t.Begin w e = ap word-function e
is-function t.End w e = ap word-function e
is-function t.Pre w e = ap word-function e
is-function t.Post w e = ap word-function e
is-function t.Count w e = ap word-function e
is-function t.Next w e = ap word-function e
is-function t.Prior w e = ap word-function e
is-function _ w e = differs e

pub more-function : (w : FunctionWord) → same (function w) t.Finish ≡ false
more-function functions.Begin = refl
more-function functions.End = refl
more-function functions.Pre = refl
more-function functions.Post = refl
more-function functions.Count = refl
more-function functions.Next = refl
more-function functions.Prior = refl

word-pair_function : Option PairWord → Terminal
word-pair_function None = t.Finish
word-pair_function (Some w) = pair_function w

pub is-pair_function : (x : Terminal) (w : PairWord) → pair_function_at x ≡ Some w → x ≡ pair_function w
unfolding word-pair_function
is-pair_function t.Union w e = ap word-pair_function e
is-pair_function t.Intersect w e = ap word-pair_function e
is-pair_function t.Minus w e = ap word-pair_function e
is-pair_function _ w e = differs e

pub more-pair_function : (w : PairWord) → same (pair_function w) t.Finish ≡ false
more-pair_function pair_functions.Union = refl
more-pair_function pair_functions.Intersect = refl
more-pair_function pair_functions.Minus = refl

pub more-extreme : (w : ExtremeWord) → same (extreme w) t.Finish ≡ false
more-extreme extremes.First = refl
more-extreme extremes.Last = refl

pub row-MoreCmp-comparison : (w : ComparisonWord) (n : Terminal) (p : Place) (b : List ℕ) (next : (st : List Symbol) → Go st → Option StatementP) (stack : List Symbol) (k : Go (MoreCmp ∷ stack)) (s : StatementP) → read_at (comparison w) n p b next (MoreCmp ∷ stack) k ≡ Some s → next (TheSum ∷ stack) (λ v. k ((λ x. Compare x p w v.0), v.1)) ≡ Some s
row-MoreCmp-comparison comparisons.Equal n p b next stack k s h = h
row-MoreCmp-comparison comparisons.NotEqual n p b next stack k s h = h
row-MoreCmp-comparison comparisons.Less n p b next stack k s h = h
row-MoreCmp-comparison comparisons.LessEqual n p b next stack k s h = h
row-MoreCmp-comparison comparisons.Greater n p b next stack k s h = h
row-MoreCmp-comparison comparisons.GreaterEqual n p b next stack k s h = h
row-MoreCmp-comparison comparisons.In n p b next stack k s h = h
row-MoreCmp-comparison comparisons.Includes n p b next stack k s h = h
row-MoreCmp-comparison comparisons.IncludedIn n p b next stack k s h = h
row-MoreCmp-comparison comparisons.Before n p b next stack k s h = h
row-MoreCmp-comparison comparisons.After n p b next stack k s h = h
row-MoreCmp-comparison comparisons.Meets n p b next stack k s h = h
row-MoreCmp-comparison comparisons.Overlaps n p b next stack k s h = h
row-MoreCmp-comparison comparisons.Merges n p b next stack k s h = h
row-MoreCmp-comparison comparisons.Begins n p b next stack k s h = h
row-MoreCmp-comparison comparisons.Ends n p b next stack k s h = h

pub row-MoreSum-sum_word : (w : SumWord) (n : Terminal) (p : Place) (b : List ℕ) (next : (st : List Symbol) → Go st → Option StatementP) (stack : List Symbol) (k : Go (MoreSum ∷ stack)) (s : StatementP) → read_at (sum_word w) n p b next (MoreSum ∷ stack) k ≡ Some s → next (TheProd ∷ MoreSum ∷ stack) (λ v. k ((λ x. v.1.0 (Add x p w v.0)), v.1.1)) ≡ Some s
row-MoreSum-sum_word sum_words.Plus n p b next stack k s h = h
row-MoreSum-sum_word sum_words.Minus n p b next stack k s h = h
row-MoreSum-sum_word sum_words.Concat n p b next stack k s h = h

pub row-MoreProd-product_word : (w : ProductWord) (n : Terminal) (p : Place) (b : List ℕ) (next : (st : List Symbol) → Go st → Option StatementP) (stack : List Symbol) (k : Go (MoreProd ∷ stack)) (s : StatementP) → read_at (product_word w) n p b next (MoreProd ∷ stack) k ≡ Some s → next (TheSign ∷ MoreProd ∷ stack) (λ v. k ((λ x. v.1.0 (Multiply x p w v.0)), v.1.1)) ≡ Some s
row-MoreProd-product_word product_words.Times n p b next stack k s h = h
row-MoreProd-product_word product_words.Divide n p b next stack k s h = h

pub row-ThePrimary-function : (w : FunctionWord) (n : Terminal) (p : Place) (b : List ℕ) (next : (st : List Symbol) → Go st → Option StatementP) (stack : List Symbol) (k : Go (ThePrimary ∷ stack)) (s : StatementP) → read_at (function w) n p b next (ThePrimary ∷ stack) k ≡ Some s → next (InParens ∷ stack) (λ v. k (Function p w v.0, v.1)) ≡ Some s
row-ThePrimary-function functions.Begin n p b next stack k s h = h
row-ThePrimary-function functions.End n p b next stack k s h = h
row-ThePrimary-function functions.Pre n p b next stack k s h = h
row-ThePrimary-function functions.Post n p b next stack k s h = h
row-ThePrimary-function functions.Count n p b next stack k s h = h
row-ThePrimary-function functions.Next n p b next stack k s h = h
row-ThePrimary-function functions.Prior n p b next stack k s h = h

pub row-ThePrimary-pair_function : (w : PairWord) (n : Terminal) (p : Place) (b : List ℕ) (next : (st : List Symbol) → Go st → Option StatementP) (stack : List Symbol) (k : Go (ThePrimary ∷ stack)) (s : StatementP) → read_at (pair_function w) n p b next (ThePrimary ∷ stack) k ≡ Some s → next (InPair ∷ stack) (λ v. k (PairFunction p w v.0.0 v.0.1, v.1)) ≡ Some s
row-ThePrimary-pair_function pair_functions.Union n p b next stack k s h = h
row-ThePrimary-pair_function pair_functions.Intersect n p b next stack k s h = h
row-ThePrimary-pair_function pair_functions.Minus n p b next stack k s h = h

pub row-ThePrimary-extreme : (w : ExtremeWord) (n : Terminal) (p : Place) (b : List ℕ) (next : (st : List Symbol) → Go st → Option StatementP) (stack : List Symbol) (k : Go (ThePrimary ∷ stack)) (s : StatementP) → read_at (extreme w) n p b next (ThePrimary ∷ stack) k ≡ Some s → next (InPoint ∷ stack) (λ v. k (Extreme p w v.0, v.1)) ≡ Some s
row-ThePrimary-extreme extremes.First n p b next stack k s h = h
row-ThePrimary-extreme extremes.Last n p b next stack k s h = h

is-EndOfSelector : (x n : Terminal) (p : Place) (b : List ℕ) (next : (st : List Symbol) → Go st → Option StatementP) (stack : List Symbol) (k : Go (EndOfSelector ∷ stack)) (s : StatementP) → read_at x n p b next (EndOfSelector ∷ stack) k ≡ Some s → next stack (λ v. k (end_bracket_at x, v)) ≡ Some s
is-EndOfSelector t.CloseBracket n p b next stack k s h = h
is-EndOfSelector t.Close n p b next stack k s h = h
is-EndOfSelector _ n p b next stack k s h = differs h

pub end-bracket : (w : EndBracket) (old new : List Piece) (stack : List Symbol) (k : Go (EndOfSelector ∷ stack)) (s : StatementP) → w ≡ end_bracket_at (first old) → new ≡ behind old → read old (EndOfSelector ∷ stack) k ≡ Some s → read new stack (λ v. k (w, v)) ≡ Some s
end-bracket w [] new stack k s e hn h = differs h
end-bracket w (o ∷ old) new stack k s e hn h = ap (λ z. read new stack (λ v. k (z, v))) e ∙ ap (λ z. read z stack (λ v. k (end_bracket_at o.terminal, v))) hn ∙ is-EndOfSelector o.terminal (first old) o.place o.bytes (read old) stack k s h
