-- Written by tools/grammar; change it there.
-- Forms that end before a token that they do not take, and which tokens may begin a form.
use Rattle.std.proofs.Common.{◌≡◌, ℕ, List, [], ◌∷◌, Bool, true, false, cond, ◌==◌, ◌&&◌, Option, refl, ◌∙◌, ap}
use Rattle.utd_syntax.specs.declared.terminal.Terminal.{Terminal}
use Rattle.utd_syntax.specs.declared.terminal.Terminal.TheVariants as t
use Rattle.point_core.specs.declared.fault.Place.{Place}
use Rattle.utd_syntax.specs.Pieces.{Piece, first}
use Rattle.utd_syntax.specs.Plain.{PointP, StatementP, IntegerType, DateType, MomentType, NamedType, OneSum, AttributeName, NoPortion, NoCondition}
use Rattle.utd_syntax.specs.Written.{Spells, of_point}
use Rattle.utd_syntax.specs.Table.{Symbol, AfterName, MoreProd, MoreSum, MoreCmp, MoreAnd, MoreOr, MoreAttributes, MoreNames, MoreElements, MoreTuples, MoreSetItems, MoreAggregates, MoreRenamings, MaybePortion, MaybeWhere, MorePostfix, MoreInfix, MoreConstraints, MoreItems, Taking, Turn, Ends, Takes, Row, on, spelt, before, same, same_bytes, fits, chosen, find, turn, after_name_rows, more_prod_rows, more_sum_rows, more_cmp_rows, more_and_rows, more_or_rows, more_attributes_rows, more_names_rows, more_elements_rows, more_tuples_rows, more_set_items_rows, more_aggregates_rows, more_renamings_rows, maybe_portion_rows, maybe_where_rows, more_postfix_rows, more_infix_rows, more_constraints_rows, more_items_rows}
use Rattle.utd_syntax.proofs.FormValues.{Val, Makes, make_after_name, make_more_prod, make_more_sum, make_more_cmp, make_more_and, make_more_or, make_more_attributes, make_more_names}
use Rattle.utd_syntax.proofs.Reader.{Built, Go, made, pick, found, on_turn, read_at, read, make_more_elements, make_more_tuples, make_more_set_items, make_more_aggregates, make_more_renamings, make_maybe_portion, make_maybe_where, make_more_postfix, make_more_infix, make_more_constraints, make_more_items}
use Rattle.utd_syntax.proofs.Marks.{begins}
use Rattle.std.proofs.lemmas.Bool.{eqb-true}

pub along : (ts ts' : List Piece) (stack : List Symbol) (k : Go stack) → ts ≡ ts' → read ts stack k ≡ read ts' stack k
along ts ts' stack k e = ap (λ x. read x stack k) e

-- a form that ends before a token that it does not take
pub fitting-ends : (c : Bool) (r : Row) (n : Terminal) (s : Symbol) (v : Built s (chosen r n)) (r' : Turn) (w : Built s r') (d : Val s) (stack : List Symbol) (next : (st : List Symbol) → Go st → Option StatementP) (beyond : Go stack → Option StatementP) (k : Go (s ∷ stack)) → (r' ≡ Ends → on_turn s r' w stack next beyond k ≡ beyond (λ vs. k (d, vs))) → cond c (chosen r n) r' ≡ Ends → on_turn s (cond c (chosen r n) r') (pick s c (chosen r n) r' v w) stack next beyond k ≡ beyond (λ vs. k (d, vs))
fitting-ends true r n s v r' w d stack next beyond k ih h = absurd (chosen-takes r n h)
  where
    chosen-takes : (r : Row) (n : Terminal) → chosen r n ≡ Ends → ⊥
    chosen-takes (on x how more) n e = cc
    chosen-takes (spelt c more) n e = cc
    chosen-takes (before x y how more how' more') n e = either (same y n) how more how' more' e
      where
        either : (c : Bool) (how : Taking) (more : List Symbol) (how' : Taking) (more' : List Symbol) → cond c (Takes how more) (Takes how' more') ≡ Ends → ⊥
        either true how more how' more' e = cc
        either false how more how' more' e = cc
fitting-ends false r n s v r' w d stack next beyond k ih h = ih h

pub halting : (s : Symbol) (rs : List Row) (ms : Makes s rs) (d : Val s) (x : Terminal) (b : List ℕ) (n : Terminal) (p : Place) (stack : List Symbol) (next : (st : List Symbol) → Go st → Option StatementP) (beyond : Go stack → Option StatementP) (k : Go (s ∷ stack)) → find rs true x b n ≡ Ends → on_turn s (find rs true x b n) (found s rs ms true d x b n p) stack next beyond k ≡ beyond (λ vs. k (d, vs))
halting s [] ms d x b n p stack next beyond k h = refl
halting s (r ∷ rs) ms d x b n p stack next beyond k h = fitting-ends (fits r x b) r n s (made s r ms.0 n p b) (find rs true x b n) (found s rs ms.1 true d x b n p) d stack next beyond k (halting s rs ms.1 d x b n p stack next beyond k) h

-- a row that is for another token
pub other-row : (s : Symbol) (c : Bool) (r r' : Turn) (v : Built s r) (w : Built s r') (stack : List Symbol) (next : (st : List Symbol) → Go st → Option StatementP) (beyond : Go stack → Option StatementP) (k : Go (s ∷ stack)) → c ≡ false → on_turn s (cond c r r') (pick s c r r' v w) stack next beyond k ≡ on_turn s r' w stack next beyond k
other-row s true r r' v w stack next beyond k e = cc
other-row s false r r' v w stack next beyond k e = refl

pub both-left : (a b : Bool) → (a && b) ≡ true → a ≡ true
both-left true b e = refl
both-left false b e = cc

pub both-right : (a b : Bool) → (a && b) ≡ true → b ≡ true
both-right true b e = e
both-right false b e = cc

pub bytes-same : (a b : List ℕ) → same_bytes a b ≡ true → a ≡ b
bytes-same [] [] e = refl
bytes-same [] (y ∷ ys) e = cc
bytes-same (x ∷ xs) [] e = cc
bytes-same (x ∷ xs) (y ∷ ys) e =
    let h : x ≡ y = eqb-true x y (both-left (x == y) (same_bytes xs ys) e) in
    let g : xs ≡ ys = bytes-same xs ys (both-right (x == y) (same_bytes xs ys) e) in
    ap (λ z. z ∷ xs) h ∙ ap (λ z. y ∷ z) g

-- the token does not continue the form
abbrev pub Halts : Symbol → Terminal → Type 0
Halts s x = turn s x [] t.Finish ≡ Ends

-- the token continues none of the forms that may be open at the end of one
abbrev pub Calm1 : Terminal → Type 0
Calm1 x = Halts AfterName x

abbrev pub Calm7 : Terminal → Type 0
Calm7 x = Halts MoreAttributes x

abbrev pub Calm8 : Terminal → Type 0
Calm8 x = Halts MoreNames x

abbrev pub Calm10 : Terminal → Type 0
Calm10 x = Halts MoreTuples x

abbrev pub Calm12 : Terminal → Type 0
Calm12 x = Halts MoreAggregates x

abbrev pub Calm13 : Terminal → Type 0
Calm13 x = Halts MoreRenamings x

abbrev pub Calm14 : Terminal → Type 0
Calm14 x = Halts MaybePortion x

abbrev pub Calm18 : Terminal → Type 0
Calm18 x = Halts MoreConstraints x

abbrev pub Calm2 : Terminal → Type 0
Calm2 x = Halts MoreProd x × Calm1 x

abbrev pub Calm3 : Terminal → Type 0
Calm3 x = Halts MoreSum x × Calm2 x

abbrev pub Calm4 : Terminal → Type 0
Calm4 x = Halts MoreCmp x × Calm3 x

abbrev pub Calm5 : Terminal → Type 0
Calm5 x = Halts MoreAnd x × Calm4 x

abbrev pub Calm6 : Terminal → Type 0
Calm6 x = Halts MoreOr x × Calm5 x

abbrev pub Calm9 : Terminal → Type 0
Calm9 x = Halts MoreElements x × Calm6 x

abbrev pub Calm11 : Terminal → Type 0
Calm11 x = Halts MoreSetItems x × Calm6 x

abbrev pub Calm15 : Terminal → Type 0
Calm15 x = Halts MaybeWhere x × Calm6 x

abbrev pub Calm16 : Terminal → Type 0
Calm16 x = Halts MorePostfix x × Calm6 x

abbrev pub Calm17 : Terminal → Type 0
Calm17 x = Halts MoreInfix x × Calm16 x

abbrev pub Calm19 : Terminal → Type 0
Calm19 x = Halts MaybeWhere x × Calm17 x

abbrev pub Calm20 : Terminal → Type 0
Calm20 x = Halts MoreItems x × Calm19 x

pub AfterName-end : (ts : List Piece) (stack : List Symbol) (k : Go (AfterName ∷ stack)) → Halts AfterName (first ts) → read ts (AfterName ∷ stack) k ≡ read ts stack (λ v. k ((λ w. AttributeName w), v))
AfterName-end [] stack k h = refl
AfterName-end (x ∷ ts) stack k h = halting AfterName after_name_rows make_after_name (λ w. AttributeName w) x.terminal x.bytes (first ts) x.place stack (read ts) (read_at x.terminal (first ts) x.place x.bytes (read ts) stack) k h

pub MoreProd-end : (ts : List Piece) (stack : List Symbol) (k : Go (MoreProd ∷ stack)) → Halts MoreProd (first ts) → read ts (MoreProd ∷ stack) k ≡ read ts stack (λ v. k ((λ x. x), v))
MoreProd-end [] stack k h = refl
MoreProd-end (x ∷ ts) stack k h = halting MoreProd more_prod_rows make_more_prod (λ x. x) x.terminal x.bytes (first ts) x.place stack (read ts) (read_at x.terminal (first ts) x.place x.bytes (read ts) stack) k h

pub MoreSum-end : (ts : List Piece) (stack : List Symbol) (k : Go (MoreSum ∷ stack)) → Halts MoreSum (first ts) → read ts (MoreSum ∷ stack) k ≡ read ts stack (λ v. k ((λ x. x), v))
MoreSum-end [] stack k h = refl
MoreSum-end (x ∷ ts) stack k h = halting MoreSum more_sum_rows make_more_sum (λ x. x) x.terminal x.bytes (first ts) x.place stack (read ts) (read_at x.terminal (first ts) x.place x.bytes (read ts) stack) k h

pub MoreCmp-end : (ts : List Piece) (stack : List Symbol) (k : Go (MoreCmp ∷ stack)) → Halts MoreCmp (first ts) → read ts (MoreCmp ∷ stack) k ≡ read ts stack (λ v. k ((λ x. OneSum x), v))
MoreCmp-end [] stack k h = refl
MoreCmp-end (x ∷ ts) stack k h = halting MoreCmp more_cmp_rows make_more_cmp (λ x. OneSum x) x.terminal x.bytes (first ts) x.place stack (read ts) (read_at x.terminal (first ts) x.place x.bytes (read ts) stack) k h

pub MoreAnd-end : (ts : List Piece) (stack : List Symbol) (k : Go (MoreAnd ∷ stack)) → Halts MoreAnd (first ts) → read ts (MoreAnd ∷ stack) k ≡ read ts stack (λ v. k ((λ x. x), v))
MoreAnd-end [] stack k h = refl
MoreAnd-end (x ∷ ts) stack k h = halting MoreAnd more_and_rows make_more_and (λ x. x) x.terminal x.bytes (first ts) x.place stack (read ts) (read_at x.terminal (first ts) x.place x.bytes (read ts) stack) k h

pub MoreOr-end : (ts : List Piece) (stack : List Symbol) (k : Go (MoreOr ∷ stack)) → Halts MoreOr (first ts) → read ts (MoreOr ∷ stack) k ≡ read ts stack (λ v. k ((λ x. x), v))
MoreOr-end [] stack k h = refl
MoreOr-end (x ∷ ts) stack k h = halting MoreOr more_or_rows make_more_or (λ x. x) x.terminal x.bytes (first ts) x.place stack (read ts) (read_at x.terminal (first ts) x.place x.bytes (read ts) stack) k h

pub MoreAttributes-end : (ts : List Piece) (stack : List Symbol) (k : Go (MoreAttributes ∷ stack)) → Halts MoreAttributes (first ts) → read ts (MoreAttributes ∷ stack) k ≡ read ts stack (λ v. k ([], v))
MoreAttributes-end [] stack k h = refl
MoreAttributes-end (x ∷ ts) stack k h = halting MoreAttributes more_attributes_rows make_more_attributes [] x.terminal x.bytes (first ts) x.place stack (read ts) (read_at x.terminal (first ts) x.place x.bytes (read ts) stack) k h

pub MoreNames-end : (ts : List Piece) (stack : List Symbol) (k : Go (MoreNames ∷ stack)) → Halts MoreNames (first ts) → read ts (MoreNames ∷ stack) k ≡ read ts stack (λ v. k ([], v))
MoreNames-end [] stack k h = refl
MoreNames-end (x ∷ ts) stack k h = halting MoreNames more_names_rows make_more_names [] x.terminal x.bytes (first ts) x.place stack (read ts) (read_at x.terminal (first ts) x.place x.bytes (read ts) stack) k h

pub MoreElements-end : (ts : List Piece) (stack : List Symbol) (k : Go (MoreElements ∷ stack)) → Halts MoreElements (first ts) → read ts (MoreElements ∷ stack) k ≡ read ts stack (λ v. k ([], v))
MoreElements-end [] stack k h = refl
MoreElements-end (x ∷ ts) stack k h = halting MoreElements more_elements_rows make_more_elements [] x.terminal x.bytes (first ts) x.place stack (read ts) (read_at x.terminal (first ts) x.place x.bytes (read ts) stack) k h

pub MoreTuples-end : (ts : List Piece) (stack : List Symbol) (k : Go (MoreTuples ∷ stack)) → Halts MoreTuples (first ts) → read ts (MoreTuples ∷ stack) k ≡ read ts stack (λ v. k ([], v))
MoreTuples-end [] stack k h = refl
MoreTuples-end (x ∷ ts) stack k h = halting MoreTuples more_tuples_rows make_more_tuples [] x.terminal x.bytes (first ts) x.place stack (read ts) (read_at x.terminal (first ts) x.place x.bytes (read ts) stack) k h

pub MoreSetItems-end : (ts : List Piece) (stack : List Symbol) (k : Go (MoreSetItems ∷ stack)) → Halts MoreSetItems (first ts) → read ts (MoreSetItems ∷ stack) k ≡ read ts stack (λ v. k ([], v))
MoreSetItems-end [] stack k h = refl
MoreSetItems-end (x ∷ ts) stack k h = halting MoreSetItems more_set_items_rows make_more_set_items [] x.terminal x.bytes (first ts) x.place stack (read ts) (read_at x.terminal (first ts) x.place x.bytes (read ts) stack) k h

pub MoreAggregates-end : (ts : List Piece) (stack : List Symbol) (k : Go (MoreAggregates ∷ stack)) → Halts MoreAggregates (first ts) → read ts (MoreAggregates ∷ stack) k ≡ read ts stack (λ v. k ([], v))
MoreAggregates-end [] stack k h = refl
MoreAggregates-end (x ∷ ts) stack k h = halting MoreAggregates more_aggregates_rows make_more_aggregates [] x.terminal x.bytes (first ts) x.place stack (read ts) (read_at x.terminal (first ts) x.place x.bytes (read ts) stack) k h

pub MoreRenamings-end : (ts : List Piece) (stack : List Symbol) (k : Go (MoreRenamings ∷ stack)) → Halts MoreRenamings (first ts) → read ts (MoreRenamings ∷ stack) k ≡ read ts stack (λ v. k ([], v))
MoreRenamings-end [] stack k h = refl
MoreRenamings-end (x ∷ ts) stack k h = halting MoreRenamings more_renamings_rows make_more_renamings [] x.terminal x.bytes (first ts) x.place stack (read ts) (read_at x.terminal (first ts) x.place x.bytes (read ts) stack) k h

pub MaybePortion-end : (ts : List Piece) (stack : List Symbol) (k : Go (MaybePortion ∷ stack)) → Halts MaybePortion (first ts) → read ts (MaybePortion ∷ stack) k ≡ read ts stack (λ v. k (NoPortion, v))
MaybePortion-end [] stack k h = refl
MaybePortion-end (x ∷ ts) stack k h = halting MaybePortion maybe_portion_rows make_maybe_portion NoPortion x.terminal x.bytes (first ts) x.place stack (read ts) (read_at x.terminal (first ts) x.place x.bytes (read ts) stack) k h

pub MaybeWhere-end : (ts : List Piece) (stack : List Symbol) (k : Go (MaybeWhere ∷ stack)) → Halts MaybeWhere (first ts) → read ts (MaybeWhere ∷ stack) k ≡ read ts stack (λ v. k (NoCondition, v))
MaybeWhere-end [] stack k h = refl
MaybeWhere-end (x ∷ ts) stack k h = halting MaybeWhere maybe_where_rows make_maybe_where NoCondition x.terminal x.bytes (first ts) x.place stack (read ts) (read_at x.terminal (first ts) x.place x.bytes (read ts) stack) k h

pub MorePostfix-end : (ts : List Piece) (stack : List Symbol) (k : Go (MorePostfix ∷ stack)) → Halts MorePostfix (first ts) → read ts (MorePostfix ∷ stack) k ≡ read ts stack (λ v. k ((λ x. x), v))
MorePostfix-end [] stack k h = refl
MorePostfix-end (x ∷ ts) stack k h = halting MorePostfix more_postfix_rows make_more_postfix (λ x. x) x.terminal x.bytes (first ts) x.place stack (read ts) (read_at x.terminal (first ts) x.place x.bytes (read ts) stack) k h

pub MoreInfix-end : (ts : List Piece) (stack : List Symbol) (k : Go (MoreInfix ∷ stack)) → Halts MoreInfix (first ts) → read ts (MoreInfix ∷ stack) k ≡ read ts stack (λ v. k ((λ x. x), v))
MoreInfix-end [] stack k h = refl
MoreInfix-end (x ∷ ts) stack k h = halting MoreInfix more_infix_rows make_more_infix (λ x. x) x.terminal x.bytes (first ts) x.place stack (read ts) (read_at x.terminal (first ts) x.place x.bytes (read ts) stack) k h

pub MoreConstraints-end : (ts : List Piece) (stack : List Symbol) (k : Go (MoreConstraints ∷ stack)) → Halts MoreConstraints (first ts) → read ts (MoreConstraints ∷ stack) k ≡ read ts stack (λ v. k ([], v))
MoreConstraints-end [] stack k h = refl
MoreConstraints-end (x ∷ ts) stack k h = halting MoreConstraints more_constraints_rows make_more_constraints [] x.terminal x.bytes (first ts) x.place stack (read ts) (read_at x.terminal (first ts) x.place x.bytes (read ts) stack) k h

pub MoreItems-end : (ts : List Piece) (stack : List Symbol) (k : Go (MoreItems ∷ stack)) → Halts MoreItems (first ts) → read ts (MoreItems ∷ stack) k ≡ read ts stack (λ v. k ([], v))
MoreItems-end [] stack k h = refl
MoreItems-end (x ∷ ts) stack k h = halting MoreItems more_items_rows make_more_items [] x.terminal x.bytes (first ts) x.place stack (read ts) (read_at x.terminal (first ts) x.place x.bytes (read ts) stack) k h

abbrev pub Starts_point : Terminal → Type 0
Starts_point t.Date = Unit {0}
Starts_point t.Integer = Unit {0}
Starts_point t.Moment = Unit {0}
Starts_point t.Name = Unit {0}
Starts_point _ = ⊥

abbrev pub Starts_conj : Terminal → Type 0
Starts_conj t.Begin = Unit {0}
Starts_conj t.Count = Unit {0}
Starts_conj t.Dash = Unit {0}
Starts_conj t.Date = Unit {0}
Starts_conj t.Digits = Unit {0}
Starts_conj t.End = Unit {0}
Starts_conj t.False = Unit {0}
Starts_conj t.First = Unit {0}
Starts_conj t.Intersect = Unit {0}
Starts_conj t.Last = Unit {0}
Starts_conj t.Minus = Unit {0}
Starts_conj t.Moment = Unit {0}
Starts_conj t.Name = Unit {0}
Starts_conj t.Next = Unit {0}
Starts_conj t.Not = Unit {0}
Starts_conj t.Open = Unit {0}
Starts_conj t.OpenBracket = Unit {0}
Starts_conj t.Post = Unit {0}
Starts_conj t.Pre = Unit {0}
Starts_conj t.Prior = Unit {0}
Starts_conj t.Quoted = Unit {0}
Starts_conj t.True = Unit {0}
Starts_conj t.Union = Unit {0}
Starts_conj _ = ⊥

abbrev pub Starts_cmp : Terminal → Type 0
Starts_cmp t.Begin = Unit {0}
Starts_cmp t.Count = Unit {0}
Starts_cmp t.Dash = Unit {0}
Starts_cmp t.Date = Unit {0}
Starts_cmp t.Digits = Unit {0}
Starts_cmp t.End = Unit {0}
Starts_cmp t.False = Unit {0}
Starts_cmp t.First = Unit {0}
Starts_cmp t.Intersect = Unit {0}
Starts_cmp t.Last = Unit {0}
Starts_cmp t.Minus = Unit {0}
Starts_cmp t.Moment = Unit {0}
Starts_cmp t.Name = Unit {0}
Starts_cmp t.Next = Unit {0}
Starts_cmp t.Open = Unit {0}
Starts_cmp t.OpenBracket = Unit {0}
Starts_cmp t.Post = Unit {0}
Starts_cmp t.Pre = Unit {0}
Starts_cmp t.Prior = Unit {0}
Starts_cmp t.Quoted = Unit {0}
Starts_cmp t.True = Unit {0}
Starts_cmp t.Union = Unit {0}
Starts_cmp _ = ⊥

abbrev pub Starts_primary : Terminal → Type 0
Starts_primary t.Begin = Unit {0}
Starts_primary t.Count = Unit {0}
Starts_primary t.Date = Unit {0}
Starts_primary t.Digits = Unit {0}
Starts_primary t.End = Unit {0}
Starts_primary t.False = Unit {0}
Starts_primary t.First = Unit {0}
Starts_primary t.Intersect = Unit {0}
Starts_primary t.Last = Unit {0}
Starts_primary t.Minus = Unit {0}
Starts_primary t.Moment = Unit {0}
Starts_primary t.Name = Unit {0}
Starts_primary t.Next = Unit {0}
Starts_primary t.Open = Unit {0}
Starts_primary t.OpenBracket = Unit {0}
Starts_primary t.Post = Unit {0}
Starts_primary t.Pre = Unit {0}
Starts_primary t.Prior = Unit {0}
Starts_primary t.Quoted = Unit {0}
Starts_primary t.True = Unit {0}
Starts_primary t.Union = Unit {0}
Starts_primary _ = ⊥

abbrev pub Starts_literal : Terminal → Type 0
Starts_literal t.Relation = Unit {0}
Starts_literal _ = ⊥

abbrev pub Starts_portion : Terminal → Type 0
Starts_portion t.Portion = Unit {0}
Starts_portion _ = ⊥

abbrev pub Starts_rel : Terminal → Type 0
Starts_rel t.Extend = Unit {0}
Starts_rel t.Name = Unit {0}
Starts_rel t.Open = Unit {0}
Starts_rel t.Pack = Unit {0}
Starts_rel t.Relation = Unit {0}
Starts_rel t.Summarize = Unit {0}
Starts_rel t.Unpack = Unit {0}
Starts_rel t.Using = Unit {0}
Starts_rel _ = ⊥

abbrev pub Starts_terms : Terminal → Type 0
Starts_terms t.Extend = Unit {0}
Starts_terms t.Name = Unit {0}
Starts_terms t.Open = Unit {0}
Starts_terms t.Pack = Unit {0}
Starts_terms t.Relation = Unit {0}
Starts_terms t.Summarize = Unit {0}
Starts_terms t.Unpack = Unit {0}
Starts_terms _ = ⊥

abbrev pub Starts_operand : Terminal → Type 0
Starts_operand t.Name = Unit {0}
Starts_operand t.Open = Unit {0}
Starts_operand t.Pack = Unit {0}
Starts_operand t.Relation = Unit {0}
Starts_operand t.Unpack = Unit {0}
Starts_operand _ = ⊥

abbrev pub Starts_extend : Terminal → Type 0
Starts_extend t.Extend = Unit {0}
Starts_extend _ = ⊥

abbrev pub Starts_summarize : Terminal → Type 0
Starts_summarize t.Summarize = Unit {0}
Starts_summarize _ = ⊥

abbrev pub Starts_using : Terminal → Type 0
Starts_using t.Using = Unit {0}
Starts_using _ = ⊥

abbrev pub Starts_key : Terminal → Type 0
Starts_key t.Key = Unit {0}
Starts_key _ = ⊥

abbrev pub Starts_foreign : Terminal → Type 0
Starts_foreign t.Foreign = Unit {0}
Starts_foreign _ = ⊥

abbrev pub Starts_constraint : Terminal → Type 0
Starts_constraint t.Foreign = Unit {0}
Starts_constraint t.Key = Unit {0}
Starts_constraint t.Packed = Unit {0}
Starts_constraint t.Using = Unit {0}
Starts_constraint t.When = Unit {0}
Starts_constraint _ = ⊥

abbrev pub Starts_item : Terminal → Type 0
Starts_item t.Delete = Unit {0}
Starts_item t.Insert = Unit {0}
Starts_item t.Name = Unit {0}
Starts_item t.Terminate = Unit {0}
Starts_item t.Update = Unit {0}
Starts_item t.Using = Unit {0}
Starts_item _ = ⊥

pub Starts_cmp-Starts_conj : (x : Terminal) → Starts_cmp x → Starts_conj x
Starts_cmp-Starts_conj t.Begin h = tt
Starts_cmp-Starts_conj t.Count h = tt
Starts_cmp-Starts_conj t.Dash h = tt
Starts_cmp-Starts_conj t.Date h = tt
Starts_cmp-Starts_conj t.Digits h = tt
Starts_cmp-Starts_conj t.End h = tt
Starts_cmp-Starts_conj t.False h = tt
Starts_cmp-Starts_conj t.First h = tt
Starts_cmp-Starts_conj t.Intersect h = tt
Starts_cmp-Starts_conj t.Last h = tt
Starts_cmp-Starts_conj t.Minus h = tt
Starts_cmp-Starts_conj t.Moment h = tt
Starts_cmp-Starts_conj t.Name h = tt
Starts_cmp-Starts_conj t.Next h = tt
Starts_cmp-Starts_conj t.Open h = tt
Starts_cmp-Starts_conj t.OpenBracket h = tt
Starts_cmp-Starts_conj t.Post h = tt
Starts_cmp-Starts_conj t.Pre h = tt
Starts_cmp-Starts_conj t.Prior h = tt
Starts_cmp-Starts_conj t.Quoted h = tt
Starts_cmp-Starts_conj t.True h = tt
Starts_cmp-Starts_conj t.Union h = tt
Starts_cmp-Starts_conj _ h = absurd h

pub Starts_primary-Starts_cmp : (x : Terminal) → Starts_primary x → Starts_cmp x
Starts_primary-Starts_cmp t.Begin h = tt
Starts_primary-Starts_cmp t.Count h = tt
Starts_primary-Starts_cmp t.Date h = tt
Starts_primary-Starts_cmp t.Digits h = tt
Starts_primary-Starts_cmp t.End h = tt
Starts_primary-Starts_cmp t.False h = tt
Starts_primary-Starts_cmp t.First h = tt
Starts_primary-Starts_cmp t.Intersect h = tt
Starts_primary-Starts_cmp t.Last h = tt
Starts_primary-Starts_cmp t.Minus h = tt
Starts_primary-Starts_cmp t.Moment h = tt
Starts_primary-Starts_cmp t.Name h = tt
Starts_primary-Starts_cmp t.Next h = tt
Starts_primary-Starts_cmp t.Open h = tt
Starts_primary-Starts_cmp t.OpenBracket h = tt
Starts_primary-Starts_cmp t.Post h = tt
Starts_primary-Starts_cmp t.Pre h = tt
Starts_primary-Starts_cmp t.Prior h = tt
Starts_primary-Starts_cmp t.Quoted h = tt
Starts_primary-Starts_cmp t.True h = tt
Starts_primary-Starts_cmp t.Union h = tt
Starts_primary-Starts_cmp _ h = absurd h

pub Starts_using-Starts_rel : (x : Terminal) → Starts_using x → Starts_rel x
Starts_using-Starts_rel t.Using h = tt
Starts_using-Starts_rel _ h = absurd h

pub Starts_terms-Starts_rel : (x : Terminal) → Starts_terms x → Starts_rel x
Starts_terms-Starts_rel t.Extend h = tt
Starts_terms-Starts_rel t.Name h = tt
Starts_terms-Starts_rel t.Open h = tt
Starts_terms-Starts_rel t.Pack h = tt
Starts_terms-Starts_rel t.Relation h = tt
Starts_terms-Starts_rel t.Summarize h = tt
Starts_terms-Starts_rel t.Unpack h = tt
Starts_terms-Starts_rel _ h = absurd h

pub Starts_extend-Starts_terms : (x : Terminal) → Starts_extend x → Starts_terms x
Starts_extend-Starts_terms t.Extend h = tt
Starts_extend-Starts_terms _ h = absurd h

pub Starts_summarize-Starts_terms : (x : Terminal) → Starts_summarize x → Starts_terms x
Starts_summarize-Starts_terms t.Summarize h = tt
Starts_summarize-Starts_terms _ h = absurd h

pub Starts_operand-Starts_terms : (x : Terminal) → Starts_operand x → Starts_terms x
Starts_operand-Starts_terms t.Name h = tt
Starts_operand-Starts_terms t.Open h = tt
Starts_operand-Starts_terms t.Pack h = tt
Starts_operand-Starts_terms t.Relation h = tt
Starts_operand-Starts_terms t.Unpack h = tt
Starts_operand-Starts_terms _ h = absurd h

pub Starts_literal-Starts_operand : (x : Terminal) → Starts_literal x → Starts_operand x
Starts_literal-Starts_operand t.Relation h = tt
Starts_literal-Starts_operand _ h = absurd h

pub Starts_key-Starts_constraint : (x : Terminal) → Starts_key x → Starts_constraint x
Starts_key-Starts_constraint t.Key h = tt
Starts_key-Starts_constraint _ h = absurd h

pub Starts_foreign-Starts_constraint : (x : Terminal) → Starts_foreign x → Starts_constraint x
Starts_foreign-Starts_constraint t.Foreign h = tt
Starts_foreign-Starts_constraint _ h = absurd h

pub point-first : (x : PointP) (ts rest : List Piece) → Spells (of_point x) ts rest → Starts_point (first ts)
point-first (IntegerType p) ts rest h = begins Starts_point _ ts rest tt h
point-first (DateType p) ts rest h = begins Starts_point _ ts rest tt h
point-first (MomentType p) ts rest h = begins Starts_point _ ts rest tt h
point-first (NamedType n) ts rest h = begins Starts_point _ ts rest tt h
