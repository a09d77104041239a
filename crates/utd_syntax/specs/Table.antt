-- Written by tools/grammar; change it there.
-- For each form and each place in it, the tokens that may stand next.
use Rattle.std.specs.Prelude.{ℕ, List, [], ◌∷◌, ◌++◌, Bool, true, false, ◌==◌, ◌&&◌, if◌then◌else◌}
use Rattle.utd_syntax.specs.declared.terminal.Terminal.{Terminal}
use Rattle.utd_syntax.specs.declared.terminal.Terminal.TheVariants as t
use Rattle.utd_syntax.specs.Written.{ordinal_word, since_word, during_word, over_word, at_word, log_word, of_word, kept_word}

-- the levels that are open, the operators in force, and those of them that stand outside the innermost level
pub record Load : Type 0 where
  pub levels : ℕ
  pub outside : ℕ
  pub operators : ℕ

-- A form that may stand here, or the rest of one that has begun.
pub data Symbol : Type 0 where
  TheName Comma DateText MomentText NegativeDigits ThePrimary AfterName AfterScalar EndOfSelector InParens InPair InPoint TheSign TheProd MoreProd TheSum MoreSum TheCmp MoreCmp TheNeg TheConj MoreAnd TheScalar MoreOr ThePoint TheKind TheAttribute MoreAttributes InHeading TheHeading MoreNames InNames InList TheNames TheList TheSomeNames TheParenName TheElement MoreElements InElements TheElements TheSomeElements TheTuple MoreTuples InTuples TheTuples TheLiteral AfterRelation TheSetItem MoreSetItems TheSets EmptyParens TheAggregateForm TheAggregate MoreAggregates TheAggregates TheRenaming MoreRenamings TheRenamings ThePortion MaybePortion MaybeWhere InProjection TheOperand TheExtend TheSummarize TheRelPrimary TheTerm MorePostfix TheTerms MoreInfix TheUsing TheRel TheUsingPart AfterOperand TheKey TheForeign TheUsedConstraint TheConstraint MoreConstraints InRel TheKept AfterKept InKept TheVarForm TheComparison AfterLeft TheTest TheUsedDeletion TheUsedItem TheDeletion TheItem MoreItems TheAssign TheStatement AfterDrop AfterLog : Symbol
  -- this token; this word where it stands for itself
  Just : Terminal → Symbol
  Worded : List ℕ → Symbol
  -- the end of a level, and the load outside it
  Shut : Load → Symbol

-- How a token is taken: it counts as an operator; it is a comma; it is an integer behind its "-"; it is the text of a
-- date, or of a moment; it opens a level, which ends behind these forms; or it is an operator that opens one.
pub data Taking : Type 0 where
  Plain Operator Separator Negated Dated Timed : Taking
  Opens OperatorOpens : List Symbol → Taking

-- What a token does where a form may stand: it cannot stand there; the form ends before it; or it is taken, and these
-- forms follow.
pub data Turn : Type 0 where
  Never Ends : Turn
  Takes : Taking → List Symbol → Turn

-- A row of a form: this token is taken so, and these forms follow; the name spelled so is; or it depends on the token
-- behind, so before this one and so before any other.
pub data Row : Type 0 where
  on : Terminal → Taking → List Symbol → Row
  spelt : List ℕ → List Symbol → Row
  before : Terminal → Terminal → Taking → List Symbol → Taking → List Symbol → Row

-- the rows of a form that is another and then these
abbrev pub then_row : Row → List Symbol → Row
then_row (on x how next) more = on x how (next ++ more)
then_row (spelt b next) more = spelt b (next ++ more)
then_row (before x y how next how' next') more = before x y how (next ++ more) how' (next' ++ more)

infixl 4 ◌▹◌
abbrev pub ◌▹◌ : List Row → List Symbol → List Row
[] ▹ more = []
(r ∷ rows) ▹ more = then_row r more ∷ (rows ▹ more)

abbrev pub name_rows : List Row
name_rows = on t.Name Plain [] ∷ []

abbrev pub comma_rows : List Row
comma_rows = on t.Comma Separator [] ∷ []

abbrev pub date_text_rows : List Row
date_text_rows = on t.Quoted Dated [] ∷ []

abbrev pub moment_text_rows : List Row
moment_text_rows = on t.Quoted Timed [] ∷ []

abbrev pub negative_digits_rows : List Row
negative_digits_rows = on t.Digits Negated [] ∷ []

abbrev pub primary_rows : List Row
primary_rows =
    on t.Digits Plain [] ∷
    on t.Quoted Plain [] ∷
    on t.Date Plain (DateText ∷ []) ∷
    on t.Moment Plain (MomentText ∷ []) ∷
    on t.True Plain [] ∷
    on t.False Plain [] ∷
    on t.Name Plain (AfterName ∷ []) ∷
    on t.Open (Opens (TheScalar ∷ AfterScalar ∷ [])) [] ∷
    on t.OpenBracket (Opens (TheScalar ∷ Just t.Colon ∷ TheScalar ∷ EndOfSelector ∷ [])) [] ∷
    on t.First Plain (InPoint ∷ []) ∷
    on t.Last Plain (InPoint ∷ []) ∷
    on t.Begin Plain (InParens ∷ []) ∷
    on t.End Plain (InParens ∷ []) ∷
    on t.Pre Plain (InParens ∷ []) ∷
    on t.Post Plain (InParens ∷ []) ∷
    on t.Count Plain (InParens ∷ []) ∷
    on t.Next Plain (InParens ∷ []) ∷
    on t.Prior Plain (InParens ∷ []) ∷
    on t.Union Plain (InPair ∷ []) ∷
    on t.Intersect Plain (InPair ∷ []) ∷
    on t.Minus Plain (InPair ∷ []) ∷
    []

abbrev pub after_name_rows : List Row
after_name_rows = on t.Dot Plain (TheName ∷ []) ∷ []

abbrev pub after_scalar_rows : List Row
after_scalar_rows =
    on t.Close Plain [] ∷
    on t.Colon Plain (TheScalar ∷ EndOfSelector ∷ []) ∷
    []

abbrev pub end_of_selector_rows : List Row
end_of_selector_rows =
    on t.CloseBracket Plain [] ∷
    on t.Close Plain [] ∷
    []

abbrev pub in_parens_rows : List Row
in_parens_rows = on t.Open (Opens (TheScalar ∷ Just t.Close ∷ [])) [] ∷ []

abbrev pub in_pair_rows : List Row
in_pair_rows = on t.Open (Opens (TheScalar ∷ Comma ∷ TheScalar ∷ Just t.Close ∷ [])) [] ∷ []

abbrev pub in_point_rows : List Row
in_point_rows = on t.Open (Opens (ThePoint ∷ Just t.Close ∷ [])) [] ∷ []

abbrev pub sign_rows : List Row
sign_rows = (before t.Dash t.Digits Plain (NegativeDigits ∷ []) (Opens (TheSign ∷ [])) [] ∷ []) ++ primary_rows

abbrev pub prod_rows : List Row
prod_rows = (sign_rows ▹ (MoreProd ∷ []))

abbrev pub more_prod_rows : List Row
more_prod_rows =
    on t.Star Operator (TheSign ∷ MoreProd ∷ []) ∷
    on t.Slash Operator (TheSign ∷ MoreProd ∷ []) ∷
    []

abbrev pub sum_rows : List Row
sum_rows = (prod_rows ▹ (MoreSum ∷ []))

abbrev pub more_sum_rows : List Row
more_sum_rows =
    on t.Plus Operator (TheProd ∷ MoreSum ∷ []) ∷
    on t.Dash Operator (TheProd ∷ MoreSum ∷ []) ∷
    on t.Bars Operator (TheProd ∷ MoreSum ∷ []) ∷
    []

abbrev pub cmp_rows : List Row
cmp_rows = (sum_rows ▹ (MoreCmp ∷ []))

abbrev pub more_cmp_rows : List Row
more_cmp_rows =
    on t.Equal Operator (TheSum ∷ []) ∷
    on t.NotEqual Operator (TheSum ∷ []) ∷
    on t.Less Operator (TheSum ∷ []) ∷
    on t.LessEqual Operator (TheSum ∷ []) ∷
    on t.Greater Operator (TheSum ∷ []) ∷
    on t.GreaterEqual Operator (TheSum ∷ []) ∷
    on t.In Operator (TheSum ∷ []) ∷
    on t.Includes Operator (TheSum ∷ []) ∷
    on t.IncludedIn Operator (TheSum ∷ []) ∷
    on t.Before Operator (TheSum ∷ []) ∷
    on t.After Operator (TheSum ∷ []) ∷
    on t.Meets Operator (TheSum ∷ []) ∷
    on t.Overlaps Operator (TheSum ∷ []) ∷
    on t.Merges Operator (TheSum ∷ []) ∷
    on t.Begins Operator (TheSum ∷ []) ∷
    on t.Ends Operator (TheSum ∷ []) ∷
    []

abbrev pub neg_rows : List Row
neg_rows = (on t.Not (Opens (TheNeg ∷ [])) [] ∷ []) ++ cmp_rows

abbrev pub conj_rows : List Row
conj_rows = (neg_rows ▹ (MoreAnd ∷ []))

abbrev pub more_and_rows : List Row
more_and_rows = on t.And Operator (TheNeg ∷ MoreAnd ∷ []) ∷ []

abbrev pub scalar_rows : List Row
scalar_rows = (conj_rows ▹ (MoreOr ∷ []))

abbrev pub more_or_rows : List Row
more_or_rows = on t.Or Operator (TheConj ∷ MoreOr ∷ []) ∷ []

abbrev pub point_rows : List Row
point_rows =
    on t.Integer Plain [] ∷
    on t.Date Plain [] ∷
    on t.Moment Plain [] ∷
    on t.Name Plain [] ∷
    []

abbrev pub kind_rows : List Row
kind_rows = (on t.Boolean Plain [] ∷ on t.Char Plain [] ∷ on t.Interval Plain (InPoint ∷ []) ∷ []) ++ point_rows

abbrev pub attribute_rows : List Row
attribute_rows = on t.Name Plain (TheKind ∷ []) ∷ []

abbrev pub more_attributes_rows : List Row
more_attributes_rows = on t.Comma Separator (TheAttribute ∷ MoreAttributes ∷ []) ∷ []

abbrev pub in_heading_rows : List Row
in_heading_rows =
    on t.CloseBrace Plain [] ∷
    on t.Name Plain (TheKind ∷ MoreAttributes ∷ Just t.CloseBrace ∷ []) ∷
    []

abbrev pub heading_rows : List Row
heading_rows = on t.OpenBrace (Opens (InHeading ∷ [])) [] ∷ []

abbrev pub more_names_rows : List Row
more_names_rows = on t.Comma Separator (TheName ∷ MoreNames ∷ []) ∷ []

abbrev pub in_names_rows : List Row
in_names_rows =
    on t.CloseBrace Plain [] ∷
    on t.Name Plain (MoreNames ∷ Just t.CloseBrace ∷ []) ∷
    []

abbrev pub in_list_rows : List Row
in_list_rows =
    on t.Close Plain [] ∷
    on t.Name Plain (MoreNames ∷ Just t.Close ∷ []) ∷
    []

abbrev pub names_rows : List Row
names_rows = on t.OpenBrace (Opens (InNames ∷ [])) [] ∷ []

abbrev pub list_rows : List Row
list_rows = on t.Open (Opens (InList ∷ [])) [] ∷ []

abbrev pub some_names_rows : List Row
some_names_rows = on t.OpenBrace (Opens (TheName ∷ MoreNames ∷ Just t.CloseBrace ∷ [])) [] ∷ []

abbrev pub paren_name_rows : List Row
paren_name_rows = on t.Open (Opens (TheName ∷ Just t.Close ∷ [])) [] ∷ []

abbrev pub element_rows : List Row
element_rows = on t.Name Plain (TheScalar ∷ []) ∷ []

abbrev pub more_elements_rows : List Row
more_elements_rows = on t.Comma Separator (TheElement ∷ MoreElements ∷ []) ∷ []

abbrev pub in_elements_rows : List Row
in_elements_rows =
    on t.CloseBrace Plain [] ∷
    on t.Name Plain (TheScalar ∷ MoreElements ∷ Just t.CloseBrace ∷ []) ∷
    []

abbrev pub elements_rows : List Row
elements_rows = on t.OpenBrace (Opens (InElements ∷ [])) [] ∷ []

abbrev pub some_elements_rows : List Row
some_elements_rows = on t.OpenBrace (Opens (TheElement ∷ MoreElements ∷ Just t.CloseBrace ∷ [])) [] ∷ []

abbrev pub tuple_rows : List Row
tuple_rows = on t.Tuple Plain (TheElements ∷ []) ∷ []

abbrev pub more_tuples_rows : List Row
more_tuples_rows = on t.Comma Separator (TheTuple ∷ MoreTuples ∷ []) ∷ []

abbrev pub in_tuples_rows : List Row
in_tuples_rows =
    on t.CloseBrace Plain [] ∷
    on t.Tuple Plain (TheElements ∷ MoreTuples ∷ Just t.CloseBrace ∷ []) ∷
    []

abbrev pub tuples_rows : List Row
tuples_rows = on t.OpenBrace (Opens (InTuples ∷ [])) [] ∷ []

abbrev pub literal_rows : List Row
literal_rows = on t.Relation Plain (AfterRelation ∷ []) ∷ []

abbrev pub after_relation_rows : List Row
after_relation_rows = before t.OpenBrace t.Tuple (Opens (TheTuple ∷ MoreTuples ∷ Just t.CloseBrace ∷ [])) [] (Opens (InHeading ∷ [])) (TheTuples ∷ []) ∷ []

abbrev pub set_item_rows : List Row
set_item_rows = on t.Name Plain (Just t.Assign ∷ TheScalar ∷ []) ∷ []

abbrev pub more_set_items_rows : List Row
more_set_items_rows = on t.Comma Separator (TheSetItem ∷ MoreSetItems ∷ []) ∷ []

abbrev pub sets_rows : List Row
sets_rows = on t.OpenBrace (Opens (TheSetItem ∷ MoreSetItems ∷ Just t.CloseBrace ∷ [])) [] ∷ []

abbrev pub empty_parens_rows : List Row
empty_parens_rows = on t.Open (Opens (Just t.Close ∷ [])) [] ∷ []

abbrev pub aggregate_form_rows : List Row
aggregate_form_rows =
    on t.Count Plain (EmptyParens ∷ []) ∷
    on t.Sum Plain (InParens ∷ []) ∷
    on t.Min Plain (InParens ∷ []) ∷
    on t.Max Plain (InParens ∷ []) ∷
    []

abbrev pub aggregate_rows : List Row
aggregate_rows = on t.Name Plain (Just t.Assign ∷ TheAggregateForm ∷ []) ∷ []

abbrev pub more_aggregates_rows : List Row
more_aggregates_rows = on t.Comma Separator (TheAggregate ∷ MoreAggregates ∷ []) ∷ []

abbrev pub aggregates_rows : List Row
aggregates_rows = on t.OpenBrace (Opens (TheAggregate ∷ MoreAggregates ∷ Just t.CloseBrace ∷ [])) [] ∷ []

abbrev pub renaming_rows : List Row
renaming_rows = on t.Name Plain (Just t.As ∷ TheName ∷ []) ∷ []

abbrev pub more_renamings_rows : List Row
more_renamings_rows = on t.Comma Separator (TheRenaming ∷ MoreRenamings ∷ []) ∷ []

abbrev pub renamings_rows : List Row
renamings_rows = on t.OpenBrace (Opens (TheRenaming ∷ MoreRenamings ∷ Just t.CloseBrace ∷ [])) [] ∷ []

abbrev pub portion_rows : List Row
portion_rows = on t.Portion Plain (TheSomeElements ∷ []) ∷ []

abbrev pub maybe_portion_rows : List Row
maybe_portion_rows = on t.Portion Plain (TheSomeElements ∷ []) ∷ []

abbrev pub maybe_where_rows : List Row
maybe_where_rows = on t.Where Plain (TheScalar ∷ []) ∷ []

abbrev pub in_projection_rows : List Row
in_projection_rows =
    on t.CloseBrace Plain [] ∷
    on t.Name Plain (MoreNames ∷ Just t.CloseBrace ∷ []) ∷
    on t.All Plain (Just t.But ∷ TheName ∷ MoreNames ∷ Just t.CloseBrace ∷ []) ∷
    []

abbrev pub operand_rows : List Row
operand_rows = (on t.Name Plain [] ∷ []) ++ (literal_rows ++ (on t.Open (Opens (TheRel ∷ Just t.Close ∷ [])) [] ∷ on t.Pack (Opens (TheRel ∷ Just t.On ∷ TheList ∷ [])) [] ∷ on t.Unpack (Opens (TheRel ∷ Just t.On ∷ TheList ∷ [])) [] ∷ []))

abbrev pub extend_rows : List Row
extend_rows = on t.Extend (Opens (TheRel ∷ Just t.Colon ∷ TheSets ∷ [])) [] ∷ []

abbrev pub summarize_rows : List Row
summarize_rows = on t.Summarize (Opens (TheRel ∷ Just t.By ∷ TheNames ∷ Just t.Colon ∷ TheAggregates ∷ [])) [] ∷ []

abbrev pub rel_primary_rows : List Row
rel_primary_rows = extend_rows ++ (summarize_rows ++ operand_rows)

abbrev pub term_rows : List Row
term_rows = (rel_primary_rows ▹ (MorePostfix ∷ []))

abbrev pub more_postfix_rows : List Row
more_postfix_rows =
    on t.OpenBrace (OperatorOpens (InProjection ∷ [])) (MorePostfix ∷ []) ∷
    on t.Where Operator (TheScalar ∷ MorePostfix ∷ []) ∷
    on t.Rename Operator (TheRenamings ∷ MorePostfix ∷ []) ∷
    []

abbrev pub terms_rows : List Row
terms_rows = (term_rows ▹ (MoreInfix ∷ []))

abbrev pub more_infix_rows : List Row
more_infix_rows =
    on t.Union Operator (TheTerm ∷ MoreInfix ∷ []) ∷
    on t.Intersect Operator (TheTerm ∷ MoreInfix ∷ []) ∷
    on t.Minus Operator (TheTerm ∷ MoreInfix ∷ []) ∷
    on t.Join Operator (TheTerm ∷ MoreInfix ∷ []) ∷
    on t.Matching Operator (TheTerm ∷ MoreInfix ∷ []) ∷
    on t.Not Operator (Just t.Matching ∷ TheTerm ∷ MoreInfix ∷ []) ∷
    []

abbrev pub using_rows : List Row
using_rows = on t.Using (Opens (TheList ∷ Just t.Colon ∷ TheUsingPart ∷ [])) [] ∷ []

abbrev pub rel_rows : List Row
rel_rows = using_rows ++ terms_rows

abbrev pub using_part_rows : List Row
using_part_rows = extend_rows ++ (summarize_rows ++ (operand_rows ▹ (AfterOperand ∷ [])))

abbrev pub after_operand_rows : List Row
after_operand_rows =
    on t.Union Operator (TheOperand ∷ []) ∷
    on t.Intersect Operator (TheOperand ∷ []) ∷
    on t.Minus Operator (TheOperand ∷ []) ∷
    on t.Join Operator (TheOperand ∷ []) ∷
    on t.Matching Operator (TheOperand ∷ []) ∷
    on t.Not Operator (Just t.Matching ∷ TheOperand ∷ []) ∷
    on t.OpenBrace (Opens (InProjection ∷ [])) [] ∷
    on t.Where Plain (TheScalar ∷ []) ∷
    []

abbrev pub key_rows : List Row
key_rows = on t.Key Plain (TheNames ∷ []) ∷ []

abbrev pub foreign_rows : List Row
foreign_rows = on t.Foreign Plain (Just t.Key ∷ TheNames ∷ Just t.References ∷ TheName ∷ []) ∷ []

abbrev pub used_constraint_rows : List Row
used_constraint_rows = key_rows ++ foreign_rows

abbrev pub constraint_rows : List Row
constraint_rows = key_rows ++ (foreign_rows ++ (on t.Packed Plain (Just t.On ∷ TheList ∷ []) ∷ on t.When Plain (Just t.Unpacked ∷ Just t.On ∷ TheList ∷ Just t.Then ∷ TheKey ∷ []) ∷ on t.Using (Opens (TheList ∷ Just t.Colon ∷ TheUsedConstraint ∷ [])) [] ∷ []))

abbrev pub more_constraints_rows : List Row
more_constraints_rows = (constraint_rows ▹ (MoreConstraints ∷ []))

abbrev pub in_rel_rows : List Row
in_rel_rows = on t.Open (Opens (TheRel ∷ Just t.Close ∷ [])) [] ∷ []

abbrev pub kept_rows : List Row
kept_rows =
    on t.Using (Opens (TheList ∷ Just t.Colon ∷ TheName ∷ AfterKept ∷ [])) [] ∷
    on t.Pack (Opens (TheName ∷ Just t.On ∷ TheList ∷ [])) [] ∷
    []

abbrev pub after_kept_rows : List Row
after_kept_rows =
    on t.Union Operator (TheName ∷ []) ∷
    on t.Intersect Operator (TheName ∷ []) ∷
    on t.Minus Operator (TheName ∷ []) ∷
    on t.Join Operator (TheName ∷ []) ∷
    on t.Matching Operator (TheName ∷ []) ∷
    on t.Not Operator (Just t.Matching ∷ TheName ∷ []) ∷
    on t.OpenBrace (Opens (InProjection ∷ [])) [] ∷
    []

abbrev pub in_kept_rows : List Row
in_kept_rows = on t.Open (Opens (TheKept ∷ Just t.Close ∷ [])) [] ∷ []

abbrev pub var_form_rows : List Row
var_form_rows =
    on t.Relation Plain (TheHeading ∷ MoreConstraints ∷ []) ∷
    on t.Virtual Plain (InRel ∷ []) ∷
    spelt kept_word (InKept ∷ []) ∷
    []

abbrev pub comparison_rows : List Row
comparison_rows = (operand_rows ▹ (AfterLeft ∷ []))

abbrev pub after_left_rows : List Row
after_left_rows =
    on t.Equal Plain (TheOperand ∷ []) ∷
    on t.NotEqual Plain (TheOperand ∷ []) ∷
    on t.Less Plain (TheOperand ∷ []) ∷
    on t.LessEqual Plain (TheOperand ∷ []) ∷
    on t.Greater Plain (TheOperand ∷ []) ∷
    on t.GreaterEqual Plain (TheOperand ∷ []) ∷
    []

abbrev pub test_rows : List Row
test_rows = (on t.Using (Opens (TheList ∷ Just t.Colon ∷ TheComparison ∷ [])) [] ∷ on t.IsEmpty Plain (InRel ∷ []) ∷ on t.IsNotEmpty Plain (InRel ∷ []) ∷ []) ++ comparison_rows

abbrev pub used_deletion_rows : List Row
used_deletion_rows = (on t.Where Plain (TheScalar ∷ []) ∷ []) ++ rel_rows

abbrev pub used_item_rows : List Row
used_item_rows =
    on t.Insert Plain (TheName ∷ TheRel ∷ []) ∷
    on t.Delete Plain (TheName ∷ TheUsedDeletion ∷ []) ∷
    on t.Update Plain (TheName ∷ MaybeWhere ∷ Just t.Colon ∷ TheSets ∷ []) ∷
    []

abbrev pub deletion_rows : List Row
deletion_rows = (on t.Where Plain (TheScalar ∷ []) ∷ []) ++ ((portion_rows ▹ (MaybeWhere ∷ [])) ++ rel_rows)

abbrev pub item_rows : List Row
item_rows =
    on t.Name Plain (Just t.Assign ∷ TheRel ∷ []) ∷
    on t.Insert Plain (TheName ∷ TheRel ∷ []) ∷
    on t.Delete Plain (TheName ∷ TheDeletion ∷ []) ∷
    on t.Update Plain (TheName ∷ MaybePortion ∷ MaybeWhere ∷ Just t.Colon ∷ TheSets ∷ []) ∷
    on t.Terminate Plain (TheName ∷ Worded at_word ∷ TheScalar ∷ MaybeWhere ∷ []) ∷
    on t.Using (Opens (TheList ∷ Just t.Colon ∷ TheUsedItem ∷ [])) [] ∷
    []

abbrev pub more_items_rows : List Row
more_items_rows = on t.Comma Separator (TheItem ∷ MoreItems ∷ []) ∷ []

abbrev pub assign_rows : List Row
assign_rows = (item_rows ▹ (MoreItems ∷ []))

abbrev pub statement_rows : List Row
statement_rows = (on t.Semicolon Plain [] ∷ on t.TypeWord Plain (TheName ∷ Worded ordinal_word ∷ TheSomeNames ∷ Just t.Semicolon ∷ []) ∷ on t.Var Plain (TheName ∷ TheVarForm ∷ Just t.Semicolon ∷ []) ∷ on t.History Plain (TheName ∷ TheHeading ∷ TheKey ∷ Worded since_word ∷ TheName ∷ TheParenName ∷ Worded during_word ∷ TheName ∷ TheParenName ∷ Worded over_word ∷ ThePoint ∷ Just t.Semicolon ∷ []) ∷ on t.Constraint Plain (TheName ∷ TheTest ∷ Just t.Semicolon ∷ []) ∷ on t.Drop Plain (AfterDrop ∷ []) ∷ on t.Print Plain (TheRel ∷ Just t.Semicolon ∷ []) ∷ on t.Ask Plain (TheTest ∷ Just t.Semicolon ∷ []) ∷ spelt log_word (AfterLog ∷ []) ∷ []) ++ (assign_rows ▹ (Just t.Semicolon ∷ []))

abbrev pub after_drop_rows : List Row
after_drop_rows =
    on t.Var Plain (TheName ∷ Just t.Semicolon ∷ []) ∷
    on t.Constraint Plain (TheName ∷ Just t.Semicolon ∷ []) ∷
    []

abbrev pub after_log_rows : List Row
after_log_rows =
    on t.Name Plain (Worded of_word ∷ TheName ∷ TheParenName ∷ Just t.Semicolon ∷ []) ∷
    on t.Assign Plain (TheRel ∷ MoreItems ∷ Just t.Semicolon ∷ []) ∷
    []

abbrev pub rows : Symbol → List Row
rows TheName = name_rows
rows Comma = comma_rows
rows DateText = date_text_rows
rows MomentText = moment_text_rows
rows NegativeDigits = negative_digits_rows
rows ThePrimary = primary_rows
rows AfterName = after_name_rows
rows AfterScalar = after_scalar_rows
rows EndOfSelector = end_of_selector_rows
rows InParens = in_parens_rows
rows InPair = in_pair_rows
rows InPoint = in_point_rows
rows TheSign = sign_rows
rows TheProd = prod_rows
rows MoreProd = more_prod_rows
rows TheSum = sum_rows
rows MoreSum = more_sum_rows
rows TheCmp = cmp_rows
rows MoreCmp = more_cmp_rows
rows TheNeg = neg_rows
rows TheConj = conj_rows
rows MoreAnd = more_and_rows
rows TheScalar = scalar_rows
rows MoreOr = more_or_rows
rows ThePoint = point_rows
rows TheKind = kind_rows
rows TheAttribute = attribute_rows
rows MoreAttributes = more_attributes_rows
rows InHeading = in_heading_rows
rows TheHeading = heading_rows
rows MoreNames = more_names_rows
rows InNames = in_names_rows
rows InList = in_list_rows
rows TheNames = names_rows
rows TheList = list_rows
rows TheSomeNames = some_names_rows
rows TheParenName = paren_name_rows
rows TheElement = element_rows
rows MoreElements = more_elements_rows
rows InElements = in_elements_rows
rows TheElements = elements_rows
rows TheSomeElements = some_elements_rows
rows TheTuple = tuple_rows
rows MoreTuples = more_tuples_rows
rows InTuples = in_tuples_rows
rows TheTuples = tuples_rows
rows TheLiteral = literal_rows
rows AfterRelation = after_relation_rows
rows TheSetItem = set_item_rows
rows MoreSetItems = more_set_items_rows
rows TheSets = sets_rows
rows EmptyParens = empty_parens_rows
rows TheAggregateForm = aggregate_form_rows
rows TheAggregate = aggregate_rows
rows MoreAggregates = more_aggregates_rows
rows TheAggregates = aggregates_rows
rows TheRenaming = renaming_rows
rows MoreRenamings = more_renamings_rows
rows TheRenamings = renamings_rows
rows ThePortion = portion_rows
rows MaybePortion = maybe_portion_rows
rows MaybeWhere = maybe_where_rows
rows InProjection = in_projection_rows
rows TheOperand = operand_rows
rows TheExtend = extend_rows
rows TheSummarize = summarize_rows
rows TheRelPrimary = rel_primary_rows
rows TheTerm = term_rows
rows MorePostfix = more_postfix_rows
rows TheTerms = terms_rows
rows MoreInfix = more_infix_rows
rows TheUsing = using_rows
rows TheRel = rel_rows
rows TheUsingPart = using_part_rows
rows AfterOperand = after_operand_rows
rows TheKey = key_rows
rows TheForeign = foreign_rows
rows TheUsedConstraint = used_constraint_rows
rows TheConstraint = constraint_rows
rows MoreConstraints = more_constraints_rows
rows InRel = in_rel_rows
rows TheKept = kept_rows
rows AfterKept = after_kept_rows
rows InKept = in_kept_rows
rows TheVarForm = var_form_rows
rows TheComparison = comparison_rows
rows AfterLeft = after_left_rows
rows TheTest = test_rows
rows TheUsedDeletion = used_deletion_rows
rows TheUsedItem = used_item_rows
rows TheDeletion = deletion_rows
rows TheItem = item_rows
rows MoreItems = more_items_rows
rows TheAssign = assign_rows
rows TheStatement = statement_rows
rows AfterDrop = after_drop_rows
rows AfterLog = after_log_rows
rows (Just x) = on x Plain [] ∷ []
rows (Worded b) = spelt b [] ∷ []
rows (Shut outer) = []

-- the form may end before a token that none of its rows takes
abbrev pub may_end : Symbol → Bool
may_end AfterName = true
may_end MoreProd = true
may_end MoreSum = true
may_end MoreCmp = true
may_end MoreAnd = true
may_end MoreOr = true
may_end MoreAttributes = true
may_end MoreNames = true
may_end MoreElements = true
may_end MoreTuples = true
may_end MoreSetItems = true
may_end MoreAggregates = true
may_end MoreRenamings = true
may_end MaybePortion = true
may_end MaybeWhere = true
may_end MorePostfix = true
may_end MoreInfix = true
may_end MoreConstraints = true
may_end MoreItems = true
may_end (Shut outer) = true
may_end _ = false

-- the place of a terminal in their list, which tells them apart
abbrev pub number : Terminal → ℕ
number t.All = 0
number t.After = 1
number t.And = 2
number t.As = 3
number t.Ask = 4
number t.Before = 5
number t.Begin = 6
number t.Begins = 7
number t.Boolean = 8
number t.But = 9
number t.By = 10
number t.Char = 11
number t.Constraint = 12
number t.Count = 13
number t.Date = 14
number t.Delete = 15
number t.Drop = 16
number t.End = 17
number t.Ends = 18
number t.Extend = 19
number t.False = 20
number t.First = 21
number t.Foreign = 22
number t.History = 23
number t.In = 24
number t.IncludedIn = 25
number t.Includes = 26
number t.Insert = 27
number t.Integer = 28
number t.Intersect = 29
number t.Interval = 30
number t.IsEmpty = 31
number t.IsNotEmpty = 32
number t.Join = 33
number t.Key = 34
number t.Last = 35
number t.Matching = 36
number t.Max = 37
number t.Meets = 38
number t.Merges = 39
number t.Min = 40
number t.Minus = 41
number t.Moment = 42
number t.Next = 43
number t.Not = 44
number t.On = 45
number t.Or = 46
number t.Overlaps = 47
number t.Pack = 48
number t.Packed = 49
number t.Portion = 50
number t.Post = 51
number t.Pre = 52
number t.Print = 53
number t.Prior = 54
number t.References = 55
number t.Relation = 56
number t.Rename = 57
number t.Sum = 58
number t.Summarize = 59
number t.Terminate = 60
number t.Then = 61
number t.True = 62
number t.Tuple = 63
number t.TypeWord = 64
number t.Union = 65
number t.Unpack = 66
number t.Unpacked = 67
number t.Update = 68
number t.Using = 69
number t.Var = 70
number t.Virtual = 71
number t.When = 72
number t.Where = 73
number t.Open = 74
number t.Close = 75
number t.OpenBracket = 76
number t.CloseBracket = 77
number t.OpenBrace = 78
number t.CloseBrace = 79
number t.Comma = 80
number t.Semicolon = 81
number t.Colon = 82
number t.Assign = 83
number t.Equal = 84
number t.NotEqual = 85
number t.Less = 86
number t.LessEqual = 87
number t.Greater = 88
number t.GreaterEqual = 89
number t.Plus = 90
number t.Dash = 91
number t.Star = 92
number t.Slash = 93
number t.Bars = 94
number t.Dot = 95
number t.Name = 96
number t.Digits = 97
number t.Quoted = 98
number t.Finish = 99

abbrev pub same : Terminal → Terminal → Bool
same a b = number a == number b

abbrev pub same_bytes : List ℕ → List ℕ → Bool
same_bytes [] [] = true
same_bytes (x ∷ xs) (y ∷ ys) = (x == y) && same_bytes xs ys
same_bytes _ _ = false

-- the row is for this token
abbrev pub fits : Row → Terminal → List ℕ → Bool
fits (on y how more) x b = same y x
fits (spelt c more) x b = same t.Name x && same_bytes c b
fits (before y z how more how' more') x b = same y x

-- what the row does with its token before this one
abbrev pub chosen : Row → Terminal → Turn
chosen (on y how more) n = Takes how more
chosen (spelt c more) n = Takes Plain more
chosen (before y z how more how' more') n = if same z n then Takes how more else Takes how' more'

-- what the first row for this token does
abbrev pub find : List Row → Bool → Terminal → List ℕ → Terminal → Turn
find [] ends x b n = if ends then Ends else Never
find (r ∷ rs) ends x b n = if fits r x b then chosen r n else find rs ends x b n

-- What the next token, with its bytes, does where this form may stand, given the token behind it.
abbrev pub turn : Symbol → Terminal → List ℕ → Terminal → Turn
turn s x b n = find (rows s) (may_end s) x b n
