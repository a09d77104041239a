-- What the tree that was built says of the statement.
use Rattle.std.proofs.Common.{◌≡◌, ℕ, zero, suc, ◌+◌, ◌<◌, ◌≤◌, ◌==◌, true, false, List, [], ◌∷◌, ◌++◌, Option, Some, None, refl, sym, ◌∙◌, ap, subst, take, drop, get_or, length, arith}
use Rattle.std.proofs.lemmas.List.{take_more}
use Rattle.std.proofs.lemmas.Bool.{eqb-true}
use Rattle.utd_syntax.specs.Pieces.{Piece}
use Rattle.utd_syntax.specs.Plain.{StatementP}
use Rattle.utd_syntax.specs.Table.{Symbol, Load, TheStatement}
use Rattle.utd_syntax.specs.Verdict.{Whole, verdict}
use Rattle.utd_ranges.specs.Limits.{limits}
use Rattle.utd_syntax.specs.Written.{Spells, of_statement}
use Rattle.utd_syntax.proofs.Reader.{read}
use Rattle.utd_syntax.proofs.Complete.{statement-reads}
use Rattle.utd_builder.specs.declared.cursor.Lexeme.{Lexeme}
use Rattle.utd_builder.specs.Building as building
use Rattle.utd_lexer.specs.declared.token.Token.{Token}
use Rattle.utd_parser.specs.Frames.{IsStatement, verdict_behind}
use Rattle.utd_parser.specs.Tokens.{piece, pieces}

or_else : StatementP → Option StatementP → StatementP
or_else x None = x
or_else x (Some y) = y

-- what is read where no form is to come
last : (ts : List Piece) (v x : StatementP) → read ts [] (λ vs. v) ≡ Some x → v ≡ x
unfolding or_else
last [] v x e = ap (or_else v) e
last (t ∷ ts) v x e = cc

-- the tree is the statement
pub is-tree : (ts new : List Piece) (v : StatementP) → (h : IsStatement ts) → building.Read TheStatement ts new v → v ≡ h.0
is-tree ts new v h b = last new v h.0 (b.goes_on [] (λ vs. vs.0) h.0 (statement-reads h.0 ts [] h.1 [] (λ vs. vs.0)))

pub tree-spells : (ts : List Piece) (v : StatementP) → (h : IsStatement ts) → v ≡ h.0 → Spells (of_statement v) ts []
tree-spells ts v h e = subst (λ z. Spells (of_statement z) ts []) (sym e) h.1

pub tree-sole : (ts : List Piece) (v : StatementP) → (h : IsStatement ts) → v ≡ h.0 → (y : StatementP) → Spells (of_statement y) ts [] → y ≡ v
tree-sole ts v h e y g = h.2 y g ∙ sym e

-- the pieces of lists of tokens with one more
pub pieces-push : (xs : List Lexeme) (x : Lexeme) → building.pieces (xs ++ x ∷ []) ≡ building.pieces xs ++ building.piece x ∷ []
pieces-push [] x = refl
pieces-push (y ∷ xs) x = ap (λ z. building.piece y ∷ z) (pieces-push xs x)

tokens-push : (ts : List Token) (t : Token) → pieces (ts ++ t ∷ []) ≡ pieces ts ++ piece t ∷ []
tokens-push [] t = refl
tokens-push (s ∷ ts) t = ap (λ z. piece s ∷ z) (tokens-push ts t)

-- one more token is seen
pub pieces-more : (xs ys : List Lexeme) (x : Lexeme) (ts : List Token) (i : ℕ) (t : Token) → i < length ts → t ≡ get_or ts i t → building.pieces xs ≡ pieces (take i ts) → building.piece x ≡ piece t → ys ≡ xs ++ x ∷ [] → building.pieces ys ≡ pieces (take (i + 1) ts)
pieces-more xs ys x ts i t lt is h e more =
    let last : take (i + 1) ts ≡ take i ts ++ t ∷ [] = take_more ts i t lt ∙ ap (λ z. take i ts ++ z ∷ []) (sym is) in
    ap building.pieces more ∙ pieces-push xs x ∙ ap (λ z. z ++ building.piece x ∷ []) h ∙ ap (λ z. pieces (take i ts) ++ z ∷ []) e ∙ sym (tokens-push (take i ts) t) ∙ ap pieces (sym last)

pub read-from : (ts old new : List Piece) (v : StatementP) → old ≡ ts → building.Read TheStatement old new v → building.Read TheStatement ts new v
read-from ts old new v e r = subst (λ z. building.Read TheStatement z new v) e r

-- the tokens behind the first of those that are left
behind-next : (ls : List Lexeme) (n : ℕ) → building.behind (building.pieces (drop n ls)) ≡ building.pieces (drop (suc n) ls)
behind-next [] zero = refl
behind-next [] (suc n) = refl
behind-next (x ∷ xs) zero = refl
behind-next (x ∷ xs) (suc n) = behind-next xs n

pub behind-first : (ls rest : List Lexeme) (n : ℕ) → rest ≡ drop n ls → building.behind (building.pieces rest) ≡ building.pieces (drop (n + 1) ls)
behind-first ls rest n is =
    let on : suc n ≡ n + 1 = omega arith in
    ap (λ z. building.behind (building.pieces z)) is ∙ behind-next ls n ∙ ap (λ m. building.pieces (drop m ls)) on

-- where a token is left, the verdict behind it is that on those that follow
pub verdict-left : (ls rest : List Lexeme) (n : ℕ) (stack : List Symbol) (load : Load) → rest ≡ drop n ls → ((length rest == 0) ≡ false) → verdict_behind (building.pieces rest) stack load ≡ verdict limits (building.pieces (drop (n + 1) ls)) stack load
verdict-left ls [] n stack load is some = cc
verdict-left ls (x ∷ xs) n stack load is some = ap (λ z. verdict limits z stack load) (behind-first ls (x ∷ xs) n is)

pub some-left : (rest : List Lexeme) → ((length rest == 0) ≡ false) → 1 ≤ length rest
some-left [] some = cc
some-left (x ∷ xs) some = omega arith

past-none : (xs : List Lexeme) → suc (length xs) ≡ 0 → ⊥
past-none xs e = omega (arith, e)

-- no token is left
pub verdict-over : (rest : List Lexeme) (stack : List Symbol) (load : Load) → ((length rest == 0) ≡ true) → verdict_behind (building.pieces rest) stack load ≡ Whole
verdict-over [] stack load none = refl
verdict-over (x ∷ xs) stack load none = let bad : length (x ∷ xs) ≡ 0 = eqb-true (length (x ∷ xs)) 0 none in absurd (past-none xs bad)

pub no-pieces : (ls : List Lexeme) → length ls ≡ 0 → building.pieces ls ≡ []
no-pieces [] e = refl
no-pieces (x ∷ xs) e = absurd (past-none xs e)
