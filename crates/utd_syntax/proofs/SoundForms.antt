-- Written by tools/grammar; change it there.
-- What the rows of the table make writes their tokens.
use Rattle.std.proofs.Common.{◌≡◌, ℕ, List, [], ◌∷◌, ◌++◌, refl, subst}
use Rattle.utd_syntax.specs.declared.terminal.Terminal.{Terminal}
use Rattle.utd_syntax.specs.declared.terminal.Terminal.TheVariants as t
use Rattle.point_core.specs.declared.fault.Place.{Place}
use Rattle.utd_syntax.specs.declared.words.SumWord.TheVariants as sum_words
use Rattle.utd_syntax.specs.declared.words.ProductWord.TheVariants as product_words
use Rattle.utd_syntax.specs.Pieces.{Piece, first}
use Rattle.utd_syntax.specs.Plain.{Word, word, ScalarP, ConjP, SumP, ProdP, NameListP, TermsP, TermP, OperandP, OneConj, Or, OneNeg, And, Not, OneCmp, OneProd, Add, OneSign, Multiply, NegativeInteger, Negate, OnePrimary, BooleanKind, CharKind, PointKind, IntervalKind}
use Rattle.utd_syntax.specs.Written.{Mark, fixed, at, spelled, worded, apart, IsMark, Spells, token, placed, lexeme, word_of, log_word, end_bracket, of_name, of_point, of_scalar, of_conj, of_neg, of_cmp, of_sum, of_prod, of_sign, of_primary, of_kind, of_attribute, of_more_attributes, of_heading, of_more_words, of_names, of_list, of_some_names, of_paren_name, of_element, of_more_elements, of_elements, of_some_elements, of_tuple, of_more_tuples, of_tuples, of_literal, of_set_item, of_more_set_items, of_sets, of_aggregate_form, of_aggregate, of_more_aggregates, of_aggregates, of_renaming, of_more_renamings, of_renamings, of_portion, of_maybe_portion, of_condition, of_projection, of_rel, of_terms, of_term, of_rel_primary, of_operand, of_extend, of_summarize, of_using, of_using_part, of_key, of_foreign, of_used_constraint, of_constraint, of_constraints, of_kept, of_var_form, of_comparison, of_test, of_used_deletion, of_used_item, of_deletion, of_item, of_more_items, of_assign, of_statement, of_attributes, of_words, of_element_list, of_tuple_list}
use Rattle.utd_syntax.specs.Table.{Symbol, TheName, Comma, DateText, MomentText, NegativeDigits, ThePrimary, AfterName, AfterScalar, EndOfSelector, InParens, InPair, InPoint, TheSign, TheProd, MoreProd, TheSum, MoreSum, TheCmp, MoreCmp, TheNeg, TheConj, MoreAnd, TheScalar, MoreOr, ThePoint, TheKind, TheAttribute, MoreAttributes, InHeading, TheHeading, MoreNames, InNames, InList, TheNames, TheList, TheSomeNames, TheParenName, TheElement, MoreElements, InElements, TheElements, TheSomeElements, TheTuple, MoreTuples, InTuples, TheTuples, TheLiteral, AfterRelation, TheSetItem, MoreSetItems, TheSets, EmptyParens, TheAggregateForm, TheAggregate, MoreAggregates, TheAggregates, TheRenaming, MoreRenamings, TheRenamings, ThePortion, MaybePortion, MaybeWhere, InProjection, TheOperand, TheExtend, TheSummarize, TheRelPrimary, TheTerm, MorePostfix, TheTerms, MoreInfix, TheUsing, TheRel, TheUsingPart, AfterOperand, TheKey, TheForeign, TheUsedConstraint, TheConstraint, MoreConstraints, InRel, TheKept, AfterKept, InKept, TheVarForm, TheComparison, AfterLeft, TheTest, TheUsedDeletion, TheUsedItem, TheDeletion, TheItem, MoreItems, TheAssign, TheStatement, AfterDrop, AfterLog, Just, Worded, Shut, Taking, Plain, Opens, Row, on, spelt, before, then_row, ◌▹◌, name_rows, comma_rows, date_text_rows, moment_text_rows, negative_digits_rows, primary_rows, after_name_rows, after_scalar_rows, end_of_selector_rows, in_parens_rows, in_pair_rows, in_point_rows, sign_rows, prod_rows, more_prod_rows, sum_rows, more_sum_rows, cmp_rows, more_cmp_rows, neg_rows, conj_rows, more_and_rows, scalar_rows, more_or_rows, point_rows, kind_rows, attribute_rows, more_attributes_rows, in_heading_rows, heading_rows, more_names_rows, in_names_rows, in_list_rows, names_rows, list_rows, some_names_rows, paren_name_rows, element_rows, more_elements_rows, in_elements_rows, elements_rows, some_elements_rows, tuple_rows, more_tuples_rows, in_tuples_rows, tuples_rows}
use Rattle.utd_syntax.proofs.FormValues.{Val, Vals, Case, Make, Makes, inner, over_make, over_makes, last_of, last_behind, then_case, then_make, then_makes, append_makes, make_name, make_comma, make_date_text, make_moment_text, make_negative_digits, make_primary, make_after_name, make_after_scalar, make_end_of_selector, make_in_parens, make_in_pair, make_in_point, make_sign, make_prod, make_more_prod, make_sum, make_more_sum, make_cmp, make_more_cmp, make_neg, make_conj, make_more_and, make_scalar, make_more_or, make_point, make_kind, make_attribute, make_more_attributes, make_in_heading, make_heading, make_more_names, make_in_names, make_in_list}
use Rattle.utd_syntax.proofs.Reader.{make_names, make_list, make_some_names, make_paren_name, make_element, make_more_elements, make_in_elements, make_elements, make_some_elements, make_tuple, make_more_tuples, make_in_tuples, make_tuples}
use Rattle.utd_syntax.proofs.Marks.{Spells-append}

pub nil : {ts rest : List Piece} → ts ≡ rest → Spells [] ts rest
unfolding Spells
nil h = h

pub cons : (m : Mark) (ms : List Mark) (x : Piece) (ts rest : List Piece) → IsMark m x (first ts) → Spells ms ts rest → Spells (m ∷ ms) (x ∷ ts) rest
unfolding Spells
cons m ms x ts rest h g = (h, g)

pub join : (a b : List Mark) (ts mid rest : List Piece) → Spells a ts mid → Spells b mid rest → Spells (a ++ b) ts rest
join a b ts mid rest h g = Spells-append a b ts mid rest h g

pub loose_word : (p : Place) (b : List ℕ) (ts rest : List Piece) → Spells (spelled t.Name p b ∷ []) ts rest → Spells (worded b ∷ []) ts rest
unfolding Spells
loose_word p b [] rest h = h
loose_word p b (y ∷ ts) rest h = ((h.0.0, h.0.2), h.1)

-- what a form's value writes; the rest of a form makes the whole from the part before it
abbrev pub Writes : (s : Symbol) → Val s → List Piece → List Piece → Type 0
Writes TheName v ts rest = Spells (of_name v) ts rest
Writes Comma v ts rest = Spells (token t.Comma) ts rest
Writes DateText v ts rest = Spells (lexeme t.Quoted v.place v.bytes) ts rest
Writes MomentText v ts rest = Spells (lexeme t.Quoted v.place v.bytes) ts rest
Writes NegativeDigits v ts rest = Spells (lexeme t.Digits v.place v.bytes) ts rest
Writes ThePrimary v ts rest = Spells (of_primary v) ts rest
Writes AfterName v ts rest = (w : Word) (from : List Piece) → Spells (word_of w) from ts → Spells (of_primary (v w)) from rest
Writes AfterScalar v ts rest = (q : Place) (s : ScalarP) (from : List Piece) → Spells (placed t.Open q ++ of_scalar s) from ts → Spells (of_primary (v q s)) from rest
Writes EndOfSelector v ts rest = Spells (token (end_bracket v)) ts rest
Writes InParens v ts rest = Spells (token t.Open ++ of_scalar v ++ token t.Close) ts rest
Writes InPair v ts rest = Spells (token t.Open ++ of_scalar v.0 ++ token t.Comma ++ of_scalar v.1 ++ token t.Close) ts rest
Writes InPoint v ts rest = Spells (token t.Open ++ of_point v ++ token t.Close) ts rest
Writes TheSign v ts rest = Spells (of_sign v) ts rest
Writes TheProd v ts rest = Spells (of_prod v) ts rest
Writes MoreProd v ts rest = (x : ProdP) (from : List Piece) → Spells (of_prod x) from ts → Spells (of_prod (v x)) from rest
Writes TheSum v ts rest = Spells (of_sum v) ts rest
Writes MoreSum v ts rest = (x : SumP) (from : List Piece) → Spells (of_sum x) from ts → Spells (of_sum (v x)) from rest
Writes TheCmp v ts rest = Spells (of_cmp v) ts rest
Writes MoreCmp v ts rest = (x : SumP) (from : List Piece) → Spells (of_sum x) from ts → Spells (of_cmp (v x)) from rest
Writes TheNeg v ts rest = Spells (of_neg v) ts rest
Writes TheConj v ts rest = Spells (of_conj v) ts rest
Writes MoreAnd v ts rest = (x : ConjP) (from : List Piece) → Spells (of_conj x) from ts → Spells (of_conj (v x)) from rest
Writes TheScalar v ts rest = Spells (of_scalar v) ts rest
Writes MoreOr v ts rest = (x : ScalarP) (from : List Piece) → Spells (of_scalar x) from ts → Spells (of_scalar (v x)) from rest
Writes ThePoint v ts rest = Spells (of_point v) ts rest
Writes TheKind v ts rest = Spells (of_kind v) ts rest
Writes TheAttribute v ts rest = Spells (of_attribute v) ts rest
Writes MoreAttributes v ts rest = Spells (of_more_attributes v) ts rest
Writes InHeading v ts rest = Spells (of_attributes v ++ token t.CloseBrace) ts rest
Writes TheHeading v ts rest = Spells (of_heading v) ts rest
Writes MoreNames v ts rest = Spells (of_more_words v) ts rest
Writes InNames v ts rest = Spells (of_words v ++ token t.CloseBrace) ts rest
Writes InList v ts rest = Spells (of_words v ++ token t.Close) ts rest
Writes TheNames v ts rest = Spells (of_names v) ts rest
Writes TheList v ts rest = Spells (of_list v) ts rest
Writes TheSomeNames v ts rest = Spells (of_some_names v) ts rest
Writes TheParenName v ts rest = Spells (of_paren_name v) ts rest
Writes TheElement v ts rest = Spells (of_element v) ts rest
Writes MoreElements v ts rest = Spells (of_more_elements v) ts rest
Writes InElements v ts rest = Spells (of_element_list v ++ token t.CloseBrace) ts rest
Writes TheElements v ts rest = Spells (of_elements v) ts rest
Writes TheSomeElements v ts rest = Spells (of_some_elements v) ts rest
Writes TheTuple v ts rest = Spells (of_tuple v) ts rest
Writes MoreTuples v ts rest = Spells (of_more_tuples v) ts rest
Writes InTuples v ts rest = Spells (of_tuple_list v ++ token t.CloseBrace) ts rest
Writes TheTuples v ts rest = Spells (of_tuples v) ts rest
Writes TheLiteral v ts rest = Spells (of_literal v) ts rest
Writes AfterRelation v ts rest = (q : Place) (from : List Piece) → Spells (placed t.Relation q) from ts → Spells (of_literal (v q)) from rest
Writes TheSetItem v ts rest = Spells (of_set_item v) ts rest
Writes MoreSetItems v ts rest = Spells (of_more_set_items v) ts rest
Writes TheSets v ts rest = Spells (of_sets v) ts rest
Writes EmptyParens v ts rest = Spells (token t.Open ++ token t.Close) ts rest
Writes TheAggregateForm v ts rest = Spells (of_aggregate_form v) ts rest
Writes TheAggregate v ts rest = Spells (of_aggregate v) ts rest
Writes MoreAggregates v ts rest = Spells (of_more_aggregates v) ts rest
Writes TheAggregates v ts rest = Spells (of_aggregates v) ts rest
Writes TheRenaming v ts rest = Spells (of_renaming v) ts rest
Writes MoreRenamings v ts rest = Spells (of_more_renamings v) ts rest
Writes TheRenamings v ts rest = Spells (of_renamings v) ts rest
Writes ThePortion v ts rest = Spells (of_portion v) ts rest
Writes MaybePortion v ts rest = Spells (of_maybe_portion v) ts rest
Writes MaybeWhere v ts rest = Spells (of_condition v) ts rest
Writes InProjection v ts rest = (q : Place) (from : List Piece) → Spells (placed t.OpenBrace q) from ts → Spells (of_projection (v q)) from rest
Writes TheOperand v ts rest = Spells (of_operand v) ts rest
Writes TheExtend v ts rest = Spells (of_extend v) ts rest
Writes TheSummarize v ts rest = Spells (of_summarize v) ts rest
Writes TheRelPrimary v ts rest = Spells (of_rel_primary v) ts rest
Writes TheTerm v ts rest = Spells (of_term v) ts rest
Writes MorePostfix v ts rest = (x : TermP) (from : List Piece) → Spells (of_term x) from ts → Spells (of_term (v x)) from rest
Writes TheTerms v ts rest = Spells (of_terms v) ts rest
Writes MoreInfix v ts rest = (x : TermsP) (from : List Piece) → Spells (of_terms x) from ts → Spells (of_terms (v x)) from rest
Writes TheUsing v ts rest = Spells (of_using v) ts rest
Writes TheRel v ts rest = Spells (of_rel v) ts rest
Writes TheUsingPart v ts rest = Spells (of_using_part v) ts rest
Writes AfterOperand v ts rest = (x : OperandP) (from : List Piece) → Spells (of_operand x) from ts → Spells (of_using_part (v x)) from rest
Writes TheKey v ts rest = Spells (of_key v) ts rest
Writes TheForeign v ts rest = Spells (of_foreign v) ts rest
Writes TheUsedConstraint v ts rest = Spells (of_used_constraint v) ts rest
Writes TheConstraint v ts rest = Spells (of_constraint v) ts rest
Writes MoreConstraints v ts rest = Spells (of_constraints v) ts rest
Writes InRel v ts rest = Spells (token t.Open ++ of_rel v ++ token t.Close) ts rest
Writes TheKept v ts rest = Spells (of_kept v) ts rest
Writes AfterKept v ts rest = (p0 : Place) (a : NameListP) (l : Word) (from : List Piece) → Spells (placed t.Using p0 ++ of_list a ++ token t.Colon ++ word_of l) from ts → Spells (of_kept (v p0 a l)) from rest
Writes InKept v ts rest = Spells (token t.Open ++ of_kept v ++ token t.Close) ts rest
Writes TheVarForm v ts rest = Spells (of_var_form v) ts rest
Writes TheComparison v ts rest = Spells (of_comparison v) ts rest
Writes AfterLeft v ts rest = (x : OperandP) (from : List Piece) → Spells (of_operand x) from ts → Spells (of_comparison (v x)) from rest
Writes TheTest v ts rest = Spells (of_test v) ts rest
Writes TheUsedDeletion v ts rest = Spells (of_used_deletion v) ts rest
Writes TheUsedItem v ts rest = Spells (of_used_item v) ts rest
Writes TheDeletion v ts rest = Spells (of_deletion v) ts rest
Writes TheItem v ts rest = Spells (of_item v) ts rest
Writes MoreItems v ts rest = Spells (of_more_items v) ts rest
Writes TheAssign v ts rest = Spells (of_assign v) ts rest
Writes TheStatement v ts rest = Spells (of_statement v) ts rest
Writes AfterDrop v ts rest = (q : Place) (from : List Piece) → Spells (placed t.Drop q) from ts → Spells (of_statement (v q)) from rest
Writes AfterLog v ts rest = (q : Place) (from : List Piece) → Spells (lexeme t.Name q log_word) from ts → Spells (of_statement (v q)) from rest
Writes (Just x) v ts rest = Spells (token x) ts rest
Writes (Worded w) v ts rest = Spells (lexeme t.Name v w) ts rest
Writes (Shut outer) v ts rest = ts ≡ rest

abbrev pub WritesAll : (stack : List Symbol) → Vals stack → List Piece → List Piece → Type 0
WritesAll [] vs ts rest = ts ≡ rest
WritesAll (s ∷ stack) vs ts rest = (mid : List Piece) × Writes s vs.0 ts mid × WritesAll stack vs.1 mid rest

-- the same without an equation at the end
abbrev pub Chain : (stack : List Symbol) → Vals stack → List Piece → List Piece → Type 0
Chain [] vs ts rest = ts ≡ rest
Chain (s ∷ []) vs ts rest = Writes s vs.0 ts rest
Chain (s ∷ (z ∷ stack)) vs ts rest = (mid : List Piece) × Writes s vs.0 ts mid × Chain (z ∷ stack) vs.1 mid rest

pub chain : (stack : List Symbol) (vs : Vals stack) (ts rest : List Piece) → WritesAll stack vs ts rest → Chain stack vs ts rest
chain [] vs ts rest h = h
chain (s ∷ []) vs ts rest h = subst (λ r. Writes s vs.0 ts r) h.2 h.1
chain (s ∷ (z ∷ stack)) vs ts rest h = (h.0, h.1, chain (z ∷ stack) vs.1 h.0 rest h.2)

pub unchain : (stack : List Symbol) (vs : Vals stack) (ts rest : List Piece) → Chain stack vs ts rest → WritesAll stack vs ts rest
unchain [] vs ts rest h = h
unchain (s ∷ []) vs ts rest h = (rest, h, refl)
unchain (s ∷ (z ∷ stack)) vs ts rest h = (h.0, h.1, unchain (z ∷ stack) vs.1 h.0 rest h.2)

abbrev pub piece_at : Terminal → Place → List ℕ → Piece
piece_at x p b = record { terminal = x; place = p; bytes = b }

-- a row: what its forms write, behind its token, is what the whole writes
abbrev pub SoundCase : (s : Symbol) (how : Taking) (more : List Symbol) → Case s how more → Piece → List Piece → Type 0
SoundCase s how more f x ts = (vs : Vals (inner how ++ more)) (rest : List Piece) → Chain (inner how ++ more) vs ts rest → Writes s (f x.place x.bytes vs) (x ∷ ts) rest

abbrev pub SoundRow : (s : Symbol) (r : Row) → Make s r → Type 0
SoundRow s (on x how more) f = (p : Place) (b : List ℕ) (ts : List Piece) → SoundCase s how more f (piece_at x p b) ts
SoundRow s (spelt c more) f = (p : Place) (ts : List Piece) → SoundCase s Plain more f (piece_at t.Name p c) ts
SoundRow s (before x y how more how' more') f = ((p : Place) (b : List ℕ) (ts : List Piece) → first ts ≡ y → SoundCase s how more f.0 (piece_at x p b) ts) × ((p : Place) (b : List ℕ) (ts : List Piece) → (first ts ≡ y → ⊥) → SoundCase s how' more' f.1 (piece_at x p b) ts)

abbrev pub SoundRows : (s : Symbol) (rs : List Row) → Makes s rs → Type 0
SoundRows s [] ms = Unit {0}
SoundRows s (r ∷ rs) ms = SoundRow s r ms.0 × SoundRows s rs ms.1

-- of a form that is another
pub over-sound : (a b : Symbol) (f : Val a → Val b) → ((u : Val a) (from rest : List Piece) → Writes a u from rest → Writes b (f u) from rest) → (r : Row) (m : Make a r) → SoundRow a r m → SoundRow b r (over_make a b f r m)
over-sound a b f g (on x how more) m h = λ p c ts vs rest k. g (m p c vs) _ rest (h p c ts vs rest k)
over-sound a b f g (spelt w more) m h = λ p ts vs rest k. g (m p w vs) _ rest (h p ts vs rest k)
over-sound a b f g (before x y how more how' more') m h = ((λ p c ts e vs rest k. g (m.0 p c vs) _ rest (h.0 p c ts e vs rest k)), (λ p c ts e vs rest k. g (m.1 p c vs) _ rest (h.1 p c ts e vs rest k)))

pub over-sounds : (a b : Symbol) (f : Val a → Val b) → ((u : Val a) (from rest : List Piece) → Writes a u from rest → Writes b (f u) from rest) → (rs : List Row) (ms : Makes a rs) → SoundRows a rs ms → SoundRows b rs (over_makes a b f rs ms)
over-sounds a b f g [] ms h = tt
over-sounds a b f g (r ∷ rs) ms h = (over-sound a b f g r ms.0 h.0, over-sounds a b f g rs ms.1 h.1)

-- of a form that is another and then more
pub unlast : (xs : List Symbol) (c : Symbol) (vs : Vals (xs ++ c ∷ [])) (ts rest : List Piece) → WritesAll (xs ++ c ∷ []) vs ts rest → (mid : List Piece) × WritesAll xs (last_of xs c vs).0 ts mid × Writes c (last_of xs c vs).1 mid rest
unlast [] c vs ts rest h = (ts, refl, subst (λ r. Writes c vs.0 ts r) h.2 h.1)
unlast (x ∷ xs) c vs ts rest h = let r = unlast xs c vs.1 h.0 rest h.2 in (r.0, (h.0, h.1, r.1), r.2)

pub unlast_behind : (xs ys : List Symbol) (c : Symbol) (vs : Vals (xs ++ (ys ++ c ∷ []))) (ts rest : List Piece) → WritesAll (xs ++ (ys ++ c ∷ [])) vs ts rest → (mid : List Piece) × WritesAll (xs ++ ys) (last_behind xs ys c vs).0 ts mid × Writes c (last_behind xs ys c vs).1 mid rest
unlast_behind [] ys c vs ts rest h = unlast ys c vs ts rest h
unlast_behind (x ∷ xs) ys c vs ts rest h = let r = unlast_behind xs ys c vs.1 h.0 rest h.2 in (r.0, (h.0, h.1, r.1), r.2)

abbrev pub Glue : (a b c : Symbol) → (Val a → Val c → Val b) → Type 0
Glue a b c f = (u : Val a) (w : Val c) (from mid rest : List Piece) → Writes a u from mid → Writes c w mid rest → Writes b (f u w) from rest

pub then-case : (a b c : Symbol) (f : Val a → Val c → Val b) → Glue a b c f → (how : Taking) (more : List Symbol) (m : Case a how more) (x : Piece) (ts : List Piece) → SoundCase a how more m x ts → SoundCase b how (more ++ c ∷ []) (then_case a b c f how more m) x ts
then-case a b c f glue how more m x ts h vs rest all =
    let r = unlast_behind (inner how) more c vs ts rest (unchain (inner how ++ (more ++ c ∷ [])) vs ts rest all) in
    let u = (last_behind (inner how) more c vs).0 in
    glue (m x.place x.bytes u) (last_behind (inner how) more c vs).1 (x ∷ ts) r.0 rest (h u r.0 (chain (inner how ++ more) u ts r.0 r.1)) r.2

pub then-sound : (a b c : Symbol) (f : Val a → Val c → Val b) → Glue a b c f → (r : Row) (m : Make a r) → SoundRow a r m → SoundRow b (then_row r (c ∷ [])) (then_make a b c f r m)
then-sound a b c f glue (on x how more) m h = λ p w ts. then-case a b c f glue how more m (piece_at x p w) ts (h p w ts)
then-sound a b c f glue (spelt w more) m h = λ p ts. then-case a b c f glue Plain more m (piece_at t.Name p w) ts (h p ts)
then-sound a b c f glue (before x y how more how' more') m h = ((λ p w ts e. then-case a b c f glue how more m.0 (piece_at x p w) ts (h.0 p w ts e)), (λ p w ts e. then-case a b c f glue how' more' m.1 (piece_at x p w) ts (h.1 p w ts e)))

pub then-sounds : (a b c : Symbol) (f : Val a → Val c → Val b) → Glue a b c f → (rs : List Row) (ms : Makes a rs) → SoundRows a rs ms → SoundRows b (rs ▹ (c ∷ [])) (then_makes a b c f rs ms)
then-sounds a b c f glue [] ms h = tt
then-sounds a b c f glue (r ∷ rs) ms h = (then-sound a b c f glue r ms.0 h.0, then-sounds a b c f glue rs ms.1 h.1)

pub append-sounds : (s : Symbol) (xs ys : List Row) (ms : Makes s xs) (ns : Makes s ys) → SoundRows s xs ms → SoundRows s ys ns → SoundRows s (xs ++ ys) (append_makes s xs ys ms ns)
append-sounds s [] ys ms ns h g = g
append-sounds s (r ∷ xs) ys ms ns h g = (h.0, append-sounds s xs ys ms.1 ns h.1 g)

pub name-sound : SoundRows TheName name_rows make_name
name-sound = ((λ p b ts vs rest h. (cons (spelled t.Name p b) [] (piece_at t.Name p b) ts _ (refl, refl, refl) (nil h))), tt)

pub comma-sound : SoundRows Comma comma_rows make_comma
comma-sound = ((λ p b ts vs rest h. (cons (fixed t.Comma) [] (piece_at t.Comma p b) ts _ refl (nil h))), tt)

pub date_text-sound : SoundRows DateText date_text_rows make_date_text
date_text-sound = ((λ p b ts vs rest h. (cons (spelled t.Quoted p b) [] (piece_at t.Quoted p b) ts _ (refl, refl, refl) (nil h))), tt)

pub moment_text-sound : SoundRows MomentText moment_text_rows make_moment_text
moment_text-sound = ((λ p b ts vs rest h. (cons (spelled t.Quoted p b) [] (piece_at t.Quoted p b) ts _ (refl, refl, refl) (nil h))), tt)

pub negative_digits-sound : SoundRows NegativeDigits negative_digits_rows make_negative_digits
negative_digits-sound = ((λ p b ts vs rest h. (cons (spelled t.Digits p b) [] (piece_at t.Digits p b) ts _ (refl, refl, refl) (nil h))), tt)

pub primary-sound : SoundRows ThePrimary primary_rows make_primary
primary-sound = (
  (λ p b ts vs rest h. (cons (spelled t.Digits p b) [] (piece_at t.Digits p b) ts _ (refl, refl, refl) (nil h))),
  (
    (λ p b ts vs rest h. (cons (spelled t.Quoted p b) [] (piece_at t.Quoted p b) ts _ (refl, refl, refl) (nil h))),
    (
      (λ p b ts vs rest h. (join _ _ _ _ _ (cons (at t.Date p) [] (piece_at t.Date p b) ts _ (refl, refl) (nil refl)) h)),
      (
        (λ p b ts vs rest h. (join _ _ _ _ _ (cons (at t.Moment p) [] (piece_at t.Moment p b) ts _ (refl, refl) (nil refl)) h)),
        (
          (λ p b ts vs rest h. (cons (at t.True p) [] (piece_at t.True p b) ts _ (refl, refl) (nil h))),
          (
            (λ p b ts vs rest h. (cons (at t.False p) [] (piece_at t.False p b) ts _ (refl, refl) (nil h))),
            (
              (λ p b ts vs rest h. (h (word p b) (piece_at t.Name p b ∷ ts) (cons (spelled t.Name p b) [] (piece_at t.Name p b) ts _ (refl, refl, refl) (nil refl)))),
              (
                (λ p b ts vs rest h. (h.2 p vs.0 (piece_at t.Open p b ∷ ts) (join _ _ _ _ _ (cons (at t.Open p) [] (piece_at t.Open p b) ts _ (refl, refl) (nil refl)) h.1))),
                (
                  (λ p b ts vs rest h. (join _ _ _ _ _ (join _ _ _ _ _ (join _ _ _ _ _ (join _ _ _ _ _ (cons (at t.OpenBracket p) [] (piece_at t.OpenBracket p b) ts _ (refl, refl) (nil refl)) h.1) h.2.1) h.2.2.1) h.2.2.2)),
                  (
                    (λ p b ts vs rest h. (join _ _ _ _ _ (cons (at t.First p) [] (piece_at t.First p b) ts _ (refl, refl) (nil refl)) h)),
                    (
                      (λ p b ts vs rest h. (join _ _ _ _ _ (cons (at t.Last p) [] (piece_at t.Last p b) ts _ (refl, refl) (nil refl)) h)),
                      (
                        (λ p b ts vs rest h. (join _ _ _ _ _ (cons (at t.Begin p) [] (piece_at t.Begin p b) ts _ (refl, refl) (nil refl)) h)),
                        (
                          (λ p b ts vs rest h. (join _ _ _ _ _ (cons (at t.End p) [] (piece_at t.End p b) ts _ (refl, refl) (nil refl)) h)),
                          (
                            (λ p b ts vs rest h. (join _ _ _ _ _ (cons (at t.Pre p) [] (piece_at t.Pre p b) ts _ (refl, refl) (nil refl)) h)),
                            (
                              (λ p b ts vs rest h. (join _ _ _ _ _ (cons (at t.Post p) [] (piece_at t.Post p b) ts _ (refl, refl) (nil refl)) h)),
                              (
                                (λ p b ts vs rest h. (join _ _ _ _ _ (cons (at t.Count p) [] (piece_at t.Count p b) ts _ (refl, refl) (nil refl)) h)),
                                (
                                  (λ p b ts vs rest h. (join _ _ _ _ _ (cons (at t.Next p) [] (piece_at t.Next p b) ts _ (refl, refl) (nil refl)) h)),
                                  (
                                    (λ p b ts vs rest h. (join _ _ _ _ _ (cons (at t.Prior p) [] (piece_at t.Prior p b) ts _ (refl, refl) (nil refl)) h)),
                                    (
                                      (λ p b ts vs rest h. (join _ _ _ _ _ (cons (at t.Union p) [] (piece_at t.Union p b) ts _ (refl, refl) (nil refl)) h)),
                                      (
                                        (λ p b ts vs rest h. (join _ _ _ _ _ (cons (at t.Intersect p) [] (piece_at t.Intersect p b) ts _ (refl, refl) (nil refl)) h)),
                                        (
                                          (λ p b ts vs rest h. (join _ _ _ _ _ (cons (at t.Minus p) [] (piece_at t.Minus p b) ts _ (refl, refl) (nil refl)) h)),
                                          tt,
                                        ),
                                      ),
                                    ),
                                  ),
                                ),
                              ),
                            ),
                          ),
                        ),
                      ),
                    ),
                  ),
                ),
              ),
            ),
          ),
        ),
      ),
    ),
  ),
)

pub after_name-sound : SoundRows AfterName after_name_rows make_after_name
after_name-sound = ((λ p b ts vs rest h w from g. (join _ _ _ _ _ (join _ _ _ _ _ g (cons (fixed t.Dot) [] (piece_at t.Dot p b) ts _ refl (nil refl))) h)), tt)

pub after_scalar-sound : SoundRows AfterScalar after_scalar_rows make_after_scalar
after_scalar-sound = (
  (λ p b ts vs rest h q s from g. (join _ _ _ _ _ g (cons (fixed t.Close) [] (piece_at t.Close p b) ts _ refl (nil h)))),
  (
    (λ p b ts vs rest h q s from g. (join _ _ _ _ _ (join _ _ _ _ _ (join _ _ _ _ _ g (cons (fixed t.Colon) [] (piece_at t.Colon p b) ts _ refl (nil refl))) h.1) h.2)),
    tt,
  ),
)

pub end_of_selector-sound : SoundRows EndOfSelector end_of_selector_rows make_end_of_selector
end_of_selector-sound = (
  (λ p b ts vs rest h. (cons (fixed t.CloseBracket) [] (piece_at t.CloseBracket p b) ts _ refl (nil h))),
  (
    (λ p b ts vs rest h. (cons (fixed t.Close) [] (piece_at t.Close p b) ts _ refl (nil h))),
    tt,
  ),
)

pub in_parens-sound : SoundRows InParens in_parens_rows make_in_parens
in_parens-sound = ((λ p b ts vs rest h. (join _ _ _ _ _ (join _ _ _ _ _ (cons (fixed t.Open) [] (piece_at t.Open p b) ts _ refl (nil refl)) h.1) h.2)), tt)

pub in_pair-sound : SoundRows InPair in_pair_rows make_in_pair
in_pair-sound = ((λ p b ts vs rest h. (join _ _ _ _ _ (join _ _ _ _ _ (join _ _ _ _ _ (join _ _ _ _ _ (cons (fixed t.Open) [] (piece_at t.Open p b) ts _ refl (nil refl)) h.1) h.2.1) h.2.2.1) h.2.2.2)), tt)

pub in_point-sound : SoundRows InPoint in_point_rows make_in_point
in_point-sound = ((λ p b ts vs rest h. (join _ _ _ _ _ (join _ _ _ _ _ (cons (fixed t.Open) [] (piece_at t.Open p b) ts _ refl (nil refl)) h.1) h.2)), tt)

pub sign-sound : SoundRows TheSign sign_rows make_sign
sign-sound = (append-sounds TheSign (before t.Dash t.Digits Plain (NegativeDigits ∷ []) (Opens (TheSign ∷ [])) [] ∷ []) primary_rows (((λ p b v. NegativeInteger p v.0.place v.0.bytes), (λ p b v. Negate p v.0)), tt) (over_makes ThePrimary TheSign (λ u. OnePrimary u) primary_rows make_primary) (((λ p b ts e vs rest h. (join _ _ _ _ _ (cons (at t.Dash p) [] (piece_at t.Dash p b) ts _ (refl, refl) (nil refl)) h)), (λ p b ts e vs rest h. (join _ _ _ _ _ (cons (apart t.Dash p t.Digits) [] (piece_at t.Dash p b) ts _ (refl, refl, e) (nil refl)) h))), tt) (over-sounds ThePrimary TheSign (λ u. OnePrimary u) (λ u from rest h. h) primary_rows make_primary primary-sound))

pub prod-sound : SoundRows TheProd prod_rows make_prod
prod-sound = then-sounds TheSign TheProd MoreProd (λ u w. w (OneSign u)) (λ u w from mid rest h g. g (OneSign u) from h) sign_rows make_sign sign-sound

pub more_prod-sound : SoundRows MoreProd more_prod_rows make_more_prod
more_prod-sound = (
  (λ p b ts vs rest h x from g. (h.2 (Multiply x p product_words.Times vs.0) from (join _ _ _ _ _ (join _ _ _ _ _ g (cons (at t.Star p) [] (piece_at t.Star p b) ts _ (refl, refl) (nil refl))) h.1))),
  (
    (λ p b ts vs rest h x from g. (h.2 (Multiply x p product_words.Divide vs.0) from (join _ _ _ _ _ (join _ _ _ _ _ g (cons (at t.Slash p) [] (piece_at t.Slash p b) ts _ (refl, refl) (nil refl))) h.1))),
    tt,
  ),
)

pub sum-sound : SoundRows TheSum sum_rows make_sum
sum-sound = then-sounds TheProd TheSum MoreSum (λ u w. w (OneProd u)) (λ u w from mid rest h g. g (OneProd u) from h) prod_rows make_prod prod-sound

pub more_sum-sound : SoundRows MoreSum more_sum_rows make_more_sum
more_sum-sound = (
  (λ p b ts vs rest h x from g. (h.2 (Add x p sum_words.Plus vs.0) from (join _ _ _ _ _ (join _ _ _ _ _ g (cons (at t.Plus p) [] (piece_at t.Plus p b) ts _ (refl, refl) (nil refl))) h.1))),
  (
    (λ p b ts vs rest h x from g. (h.2 (Add x p sum_words.Minus vs.0) from (join _ _ _ _ _ (join _ _ _ _ _ g (cons (at t.Dash p) [] (piece_at t.Dash p b) ts _ (refl, refl) (nil refl))) h.1))),
    (
      (λ p b ts vs rest h x from g. (h.2 (Add x p sum_words.Concat vs.0) from (join _ _ _ _ _ (join _ _ _ _ _ g (cons (at t.Bars p) [] (piece_at t.Bars p b) ts _ (refl, refl) (nil refl))) h.1))),
      tt,
    ),
  ),
)

pub cmp-sound : SoundRows TheCmp cmp_rows make_cmp
cmp-sound = then-sounds TheSum TheCmp MoreCmp (λ u w. w u) (λ u w from mid rest h g. g u from h) sum_rows make_sum sum-sound

pub more_cmp-sound : SoundRows MoreCmp more_cmp_rows make_more_cmp
more_cmp-sound = (
  (λ p b ts vs rest h x from g. (join _ _ _ _ _ (join _ _ _ _ _ g (cons (at t.Equal p) [] (piece_at t.Equal p b) ts _ (refl, refl) (nil refl))) h)),
  (
    (λ p b ts vs rest h x from g. (join _ _ _ _ _ (join _ _ _ _ _ g (cons (at t.NotEqual p) [] (piece_at t.NotEqual p b) ts _ (refl, refl) (nil refl))) h)),
    (
      (λ p b ts vs rest h x from g. (join _ _ _ _ _ (join _ _ _ _ _ g (cons (at t.Less p) [] (piece_at t.Less p b) ts _ (refl, refl) (nil refl))) h)),
      (
        (λ p b ts vs rest h x from g. (join _ _ _ _ _ (join _ _ _ _ _ g (cons (at t.LessEqual p) [] (piece_at t.LessEqual p b) ts _ (refl, refl) (nil refl))) h)),
        (
          (λ p b ts vs rest h x from g. (join _ _ _ _ _ (join _ _ _ _ _ g (cons (at t.Greater p) [] (piece_at t.Greater p b) ts _ (refl, refl) (nil refl))) h)),
          (
            (λ p b ts vs rest h x from g. (join _ _ _ _ _ (join _ _ _ _ _ g (cons (at t.GreaterEqual p) [] (piece_at t.GreaterEqual p b) ts _ (refl, refl) (nil refl))) h)),
            (
              (λ p b ts vs rest h x from g. (join _ _ _ _ _ (join _ _ _ _ _ g (cons (at t.In p) [] (piece_at t.In p b) ts _ (refl, refl) (nil refl))) h)),
              (
                (λ p b ts vs rest h x from g. (join _ _ _ _ _ (join _ _ _ _ _ g (cons (at t.Includes p) [] (piece_at t.Includes p b) ts _ (refl, refl) (nil refl))) h)),
                (
                  (λ p b ts vs rest h x from g. (join _ _ _ _ _ (join _ _ _ _ _ g (cons (at t.IncludedIn p) [] (piece_at t.IncludedIn p b) ts _ (refl, refl) (nil refl))) h)),
                  (
                    (λ p b ts vs rest h x from g. (join _ _ _ _ _ (join _ _ _ _ _ g (cons (at t.Before p) [] (piece_at t.Before p b) ts _ (refl, refl) (nil refl))) h)),
                    (
                      (λ p b ts vs rest h x from g. (join _ _ _ _ _ (join _ _ _ _ _ g (cons (at t.After p) [] (piece_at t.After p b) ts _ (refl, refl) (nil refl))) h)),
                      (
                        (λ p b ts vs rest h x from g. (join _ _ _ _ _ (join _ _ _ _ _ g (cons (at t.Meets p) [] (piece_at t.Meets p b) ts _ (refl, refl) (nil refl))) h)),
                        (
                          (λ p b ts vs rest h x from g. (join _ _ _ _ _ (join _ _ _ _ _ g (cons (at t.Overlaps p) [] (piece_at t.Overlaps p b) ts _ (refl, refl) (nil refl))) h)),
                          (
                            (λ p b ts vs rest h x from g. (join _ _ _ _ _ (join _ _ _ _ _ g (cons (at t.Merges p) [] (piece_at t.Merges p b) ts _ (refl, refl) (nil refl))) h)),
                            (
                              (λ p b ts vs rest h x from g. (join _ _ _ _ _ (join _ _ _ _ _ g (cons (at t.Begins p) [] (piece_at t.Begins p b) ts _ (refl, refl) (nil refl))) h)),
                              (
                                (λ p b ts vs rest h x from g. (join _ _ _ _ _ (join _ _ _ _ _ g (cons (at t.Ends p) [] (piece_at t.Ends p b) ts _ (refl, refl) (nil refl))) h)),
                                tt,
                              ),
                            ),
                          ),
                        ),
                      ),
                    ),
                  ),
                ),
              ),
            ),
          ),
        ),
      ),
    ),
  ),
)

pub neg-sound : SoundRows TheNeg neg_rows make_neg
neg-sound = (append-sounds TheNeg (on t.Not (Opens (TheNeg ∷ [])) [] ∷ []) cmp_rows ((λ p b v. Not p v.0), tt) (over_makes TheCmp TheNeg (λ u. OneCmp u) cmp_rows make_cmp) ((λ p b ts vs rest h. (join _ _ _ _ _ (cons (at t.Not p) [] (piece_at t.Not p b) ts _ (refl, refl) (nil refl)) h)), tt) (over-sounds TheCmp TheNeg (λ u. OneCmp u) (λ u from rest h. h) cmp_rows make_cmp cmp-sound))

pub conj-sound : SoundRows TheConj conj_rows make_conj
conj-sound = then-sounds TheNeg TheConj MoreAnd (λ u w. w (OneNeg u)) (λ u w from mid rest h g. g (OneNeg u) from h) neg_rows make_neg neg-sound

pub more_and-sound : SoundRows MoreAnd more_and_rows make_more_and
more_and-sound = ((λ p b ts vs rest h x from g. (h.2 (And x p vs.0) from (join _ _ _ _ _ (join _ _ _ _ _ g (cons (at t.And p) [] (piece_at t.And p b) ts _ (refl, refl) (nil refl))) h.1))), tt)

pub scalar-sound : SoundRows TheScalar scalar_rows make_scalar
scalar-sound = then-sounds TheConj TheScalar MoreOr (λ u w. w (OneConj u)) (λ u w from mid rest h g. g (OneConj u) from h) conj_rows make_conj conj-sound

pub more_or-sound : SoundRows MoreOr more_or_rows make_more_or
more_or-sound = ((λ p b ts vs rest h x from g. (h.2 (Or x p vs.0) from (join _ _ _ _ _ (join _ _ _ _ _ g (cons (at t.Or p) [] (piece_at t.Or p b) ts _ (refl, refl) (nil refl))) h.1))), tt)

pub point-sound : SoundRows ThePoint point_rows make_point
point-sound = (
  (λ p b ts vs rest h. (cons (at t.Integer p) [] (piece_at t.Integer p b) ts _ (refl, refl) (nil h))),
  (
    (λ p b ts vs rest h. (cons (at t.Date p) [] (piece_at t.Date p b) ts _ (refl, refl) (nil h))),
    (
      (λ p b ts vs rest h. (cons (at t.Moment p) [] (piece_at t.Moment p b) ts _ (refl, refl) (nil h))),
      (
        (λ p b ts vs rest h. (cons (spelled t.Name p b) [] (piece_at t.Name p b) ts _ (refl, refl, refl) (nil h))),
        tt,
      ),
    ),
  ),
)

pub kind-sound : SoundRows TheKind kind_rows make_kind
kind-sound = (append-sounds TheKind (on t.Boolean Plain [] ∷ on t.Char Plain [] ∷ on t.Interval Plain (InPoint ∷ []) ∷ []) point_rows ((λ p b v. BooleanKind p), ((λ p b v. CharKind p), ((λ p b v. IntervalKind p v.0), tt))) (over_makes ThePoint TheKind (λ u. PointKind u) point_rows make_point) ((λ p b ts vs rest h. (cons (at t.Boolean p) [] (piece_at t.Boolean p b) ts _ (refl, refl) (nil h))), ((λ p b ts vs rest h. (cons (at t.Char p) [] (piece_at t.Char p b) ts _ (refl, refl) (nil h))), ((λ p b ts vs rest h. (join _ _ _ _ _ (cons (at t.Interval p) [] (piece_at t.Interval p b) ts _ (refl, refl) (nil refl)) h)), tt))) (over-sounds ThePoint TheKind (λ u. PointKind u) (λ u from rest h. h) point_rows make_point point-sound))

pub attribute-sound : SoundRows TheAttribute attribute_rows make_attribute
attribute-sound = ((λ p b ts vs rest h. (join _ _ _ _ _ (cons (spelled t.Name p b) [] (piece_at t.Name p b) ts _ (refl, refl, refl) (nil refl)) h)), tt)

pub more_attributes-sound : SoundRows MoreAttributes more_attributes_rows make_more_attributes
more_attributes-sound = ((λ p b ts vs rest h. (join _ _ _ _ _ (join _ _ _ _ _ (cons (fixed t.Comma) [] (piece_at t.Comma p b) ts _ refl (nil refl)) h.1) h.2)), tt)

pub in_heading-sound : SoundRows InHeading in_heading_rows make_in_heading
in_heading-sound = (
  (λ p b ts vs rest h. (cons (fixed t.CloseBrace) [] (piece_at t.CloseBrace p b) ts _ refl (nil h))),
  (
    (λ p b ts vs rest h. (join _ _ _ _ _ (join _ _ _ _ _ (join _ _ _ _ _ (cons (spelled t.Name p b) [] (piece_at t.Name p b) ts _ (refl, refl, refl) (nil refl)) h.1) h.2.1) h.2.2)),
    tt,
  ),
)

pub heading-sound : SoundRows TheHeading heading_rows make_heading
heading-sound = ((λ p b ts vs rest h. (join _ _ _ _ _ (cons (at t.OpenBrace p) [] (piece_at t.OpenBrace p b) ts _ (refl, refl) (nil refl)) h)), tt)

pub more_names-sound : SoundRows MoreNames more_names_rows make_more_names
more_names-sound = ((λ p b ts vs rest h. (join _ _ _ _ _ (join _ _ _ _ _ (cons (fixed t.Comma) [] (piece_at t.Comma p b) ts _ refl (nil refl)) h.1) h.2)), tt)

pub in_names-sound : SoundRows InNames in_names_rows make_in_names
in_names-sound = (
  (λ p b ts vs rest h. (cons (fixed t.CloseBrace) [] (piece_at t.CloseBrace p b) ts _ refl (nil h))),
  (
    (λ p b ts vs rest h. (join _ _ _ _ _ (join _ _ _ _ _ (cons (spelled t.Name p b) [] (piece_at t.Name p b) ts _ (refl, refl, refl) (nil refl)) h.1) h.2)),
    tt,
  ),
)

pub in_list-sound : SoundRows InList in_list_rows make_in_list
in_list-sound = (
  (λ p b ts vs rest h. (cons (fixed t.Close) [] (piece_at t.Close p b) ts _ refl (nil h))),
  (
    (λ p b ts vs rest h. (join _ _ _ _ _ (join _ _ _ _ _ (cons (spelled t.Name p b) [] (piece_at t.Name p b) ts _ (refl, refl, refl) (nil refl)) h.1) h.2)),
    tt,
  ),
)

pub names-sound : SoundRows TheNames names_rows make_names
names-sound = ((λ p b ts vs rest h. (join _ _ _ _ _ (cons (at t.OpenBrace p) [] (piece_at t.OpenBrace p b) ts _ (refl, refl) (nil refl)) h)), tt)

pub list-sound : SoundRows TheList list_rows make_list
list-sound = ((λ p b ts vs rest h. (join _ _ _ _ _ (cons (at t.Open p) [] (piece_at t.Open p b) ts _ (refl, refl) (nil refl)) h)), tt)

pub some_names-sound : SoundRows TheSomeNames some_names_rows make_some_names
some_names-sound = ((λ p b ts vs rest h. (join _ _ _ _ _ (join _ _ _ _ _ (join _ _ _ _ _ (cons (at t.OpenBrace p) [] (piece_at t.OpenBrace p b) ts _ (refl, refl) (nil refl)) h.1) h.2.1) h.2.2)), tt)

pub paren_name-sound : SoundRows TheParenName paren_name_rows make_paren_name
paren_name-sound = ((λ p b ts vs rest h. (join _ _ _ _ _ (join _ _ _ _ _ (cons (fixed t.Open) [] (piece_at t.Open p b) ts _ refl (nil refl)) h.1) h.2)), tt)

pub element-sound : SoundRows TheElement element_rows make_element
element-sound = ((λ p b ts vs rest h. (join _ _ _ _ _ (cons (spelled t.Name p b) [] (piece_at t.Name p b) ts _ (refl, refl, refl) (nil refl)) h)), tt)

pub more_elements-sound : SoundRows MoreElements more_elements_rows make_more_elements
more_elements-sound = ((λ p b ts vs rest h. (join _ _ _ _ _ (join _ _ _ _ _ (cons (fixed t.Comma) [] (piece_at t.Comma p b) ts _ refl (nil refl)) h.1) h.2)), tt)

pub in_elements-sound : SoundRows InElements in_elements_rows make_in_elements
in_elements-sound = (
  (λ p b ts vs rest h. (cons (fixed t.CloseBrace) [] (piece_at t.CloseBrace p b) ts _ refl (nil h))),
  (
    (λ p b ts vs rest h. (join _ _ _ _ _ (join _ _ _ _ _ (join _ _ _ _ _ (cons (spelled t.Name p b) [] (piece_at t.Name p b) ts _ (refl, refl, refl) (nil refl)) h.1) h.2.1) h.2.2)),
    tt,
  ),
)

pub elements-sound : SoundRows TheElements elements_rows make_elements
elements-sound = ((λ p b ts vs rest h. (join _ _ _ _ _ (cons (at t.OpenBrace p) [] (piece_at t.OpenBrace p b) ts _ (refl, refl) (nil refl)) h)), tt)

pub some_elements-sound : SoundRows TheSomeElements some_elements_rows make_some_elements
some_elements-sound = ((λ p b ts vs rest h. (join _ _ _ _ _ (join _ _ _ _ _ (join _ _ _ _ _ (cons (at t.OpenBrace p) [] (piece_at t.OpenBrace p b) ts _ (refl, refl) (nil refl)) h.1) h.2.1) h.2.2)), tt)

pub tuple-sound : SoundRows TheTuple tuple_rows make_tuple
tuple-sound = ((λ p b ts vs rest h. (join _ _ _ _ _ (cons (at t.Tuple p) [] (piece_at t.Tuple p b) ts _ (refl, refl) (nil refl)) h)), tt)

pub more_tuples-sound : SoundRows MoreTuples more_tuples_rows make_more_tuples
more_tuples-sound = ((λ p b ts vs rest h. (join _ _ _ _ _ (join _ _ _ _ _ (cons (fixed t.Comma) [] (piece_at t.Comma p b) ts _ refl (nil refl)) h.1) h.2)), tt)

pub in_tuples-sound : SoundRows InTuples in_tuples_rows make_in_tuples
in_tuples-sound = (
  (λ p b ts vs rest h. (cons (fixed t.CloseBrace) [] (piece_at t.CloseBrace p b) ts _ refl (nil h))),
  (
    (λ p b ts vs rest h. (join _ _ _ _ _ (join _ _ _ _ _ (join _ _ _ _ _ (cons (at t.Tuple p) [] (piece_at t.Tuple p b) ts _ (refl, refl) (nil refl)) h.1) h.2.1) h.2.2)),
    tt,
  ),
)

pub tuples-sound : SoundRows TheTuples tuples_rows make_tuples
tuples-sound = ((λ p b ts vs rest h. (join _ _ _ _ _ (cons (fixed t.OpenBrace) [] (piece_at t.OpenBrace p b) ts _ refl (nil refl)) h)), tt)
