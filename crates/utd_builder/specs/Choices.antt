-- Written by tools/grammar; change it there.
-- Which of some words a token is.
use Rattle.std.specs.Prelude.{Option, Some, None, Bool, true, false}
use Rattle.utd_syntax.specs.declared.terminal.Terminal.{Terminal}
use Rattle.utd_syntax.specs.declared.terminal.Terminal.TheVariants as t
use Rattle.utd_syntax.specs.declared.words.ComparisonWord.{ComparisonWord}
use Rattle.utd_syntax.specs.declared.words.ComparisonWord.TheVariants as comparisons
use Rattle.utd_syntax.specs.declared.words.SumWord.{SumWord}
use Rattle.utd_syntax.specs.declared.words.SumWord.TheVariants as sum_words
use Rattle.utd_syntax.specs.declared.words.ProductWord.{ProductWord}
use Rattle.utd_syntax.specs.declared.words.ProductWord.TheVariants as product_words
use Rattle.utd_syntax.specs.declared.words.FunctionWord.{FunctionWord}
use Rattle.utd_syntax.specs.declared.words.FunctionWord.TheVariants as functions
use Rattle.utd_syntax.specs.declared.words.PairWord.{PairWord}
use Rattle.utd_syntax.specs.declared.words.PairWord.TheVariants as pair_functions
use Rattle.utd_syntax.specs.declared.words.InfixWord.{InfixWord}
use Rattle.utd_syntax.specs.declared.words.InfixWord.TheVariants as infixes
use Rattle.utd_syntax.specs.declared.words.RelationComparison.{RelationComparison}
use Rattle.utd_syntax.specs.declared.words.RelationComparison.TheVariants as relation_comparisons
use Rattle.utd_syntax.specs.declared.words.EndBracket.{EndBracket}
use Rattle.utd_syntax.specs.declared.words.EndBracket.TheVariants as end_brackets
use Rattle.utd_syntax.specs.declared.words.AggregateWord.{AggregateWord}
use Rattle.utd_syntax.specs.declared.words.AggregateWord.TheVariants as aggregate_words

-- the word of an aggregate of a scalar
abbrev pub aggregate_word_at : Terminal → AggregateWord
aggregate_word_at t.Sum = aggregate_words.Sum
aggregate_word_at t.Min = aggregate_words.Min
aggregate_word_at _ = aggregate_words.Max

-- the comparison of relations
abbrev pub relation_comparison_of : Terminal → RelationComparison
relation_comparison_of t.Equal = relation_comparisons.Equal
relation_comparison_of t.NotEqual = relation_comparisons.NotEqual
relation_comparison_of t.Less = relation_comparisons.Less
relation_comparison_of t.LessEqual = relation_comparisons.LessEqual
relation_comparison_of t.Greater = relation_comparisons.Greater
relation_comparison_of _ = relation_comparisons.GreaterEqual

-- the bracket that ends an interval
abbrev pub end_bracket_at : Terminal → EndBracket
end_bracket_at t.CloseBracket = end_brackets.Closed
end_bracket_at _ = end_brackets.Open

-- the comparison of scalars that the token is
abbrev pub comparison_at : Terminal → Option ComparisonWord
comparison_at t.Equal = Some comparisons.Equal
comparison_at t.NotEqual = Some comparisons.NotEqual
comparison_at t.Less = Some comparisons.Less
comparison_at t.LessEqual = Some comparisons.LessEqual
comparison_at t.Greater = Some comparisons.Greater
comparison_at t.GreaterEqual = Some comparisons.GreaterEqual
comparison_at t.In = Some comparisons.In
comparison_at t.Includes = Some comparisons.Includes
comparison_at t.IncludedIn = Some comparisons.IncludedIn
comparison_at t.Before = Some comparisons.Before
comparison_at t.After = Some comparisons.After
comparison_at t.Meets = Some comparisons.Meets
comparison_at t.Overlaps = Some comparisons.Overlaps
comparison_at t.Merges = Some comparisons.Merges
comparison_at t.Begins = Some comparisons.Begins
comparison_at t.Ends = Some comparisons.Ends
comparison_at _ = None

-- the operator of a sum that the token is
abbrev pub sum_word_at : Terminal → Option SumWord
sum_word_at t.Plus = Some sum_words.Plus
sum_word_at t.Dash = Some sum_words.Minus
sum_word_at t.Bars = Some sum_words.Concat
sum_word_at _ = None

-- the operator of a product that the token is
abbrev pub product_word_at : Terminal → Option ProductWord
product_word_at t.Star = Some product_words.Times
product_word_at t.Slash = Some product_words.Divide
product_word_at _ = None

-- the function of one scalar that the token is
abbrev pub function_at : Terminal → Option FunctionWord
function_at t.Begin = Some functions.Begin
function_at t.End = Some functions.End
function_at t.Pre = Some functions.Pre
function_at t.Post = Some functions.Post
function_at t.Count = Some functions.Count
function_at t.Next = Some functions.Next
function_at t.Prior = Some functions.Prior
function_at _ = None

-- the function of two scalars that the token is
abbrev pub pair_function_at : Terminal → Option PairWord
pair_function_at t.Union = Some pair_functions.Union
pair_function_at t.Intersect = Some pair_functions.Intersect
pair_function_at t.Minus = Some pair_functions.Minus
pair_function_at _ = None

-- the infix of relations of one word that the token is
abbrev pub infix_word_at : Terminal → Option InfixWord
infix_word_at t.Union = Some infixes.Union
infix_word_at t.Intersect = Some infixes.Intersect
infix_word_at t.Minus = Some infixes.Minus
infix_word_at t.Join = Some infixes.Join
infix_word_at t.Matching = Some infixes.Matching
infix_word_at _ = None

-- the comparison of relations that the token is
abbrev pub relation_comparison_at : Terminal → Option RelationComparison
relation_comparison_at t.Equal = Some relation_comparisons.Equal
relation_comparison_at t.NotEqual = Some relation_comparisons.NotEqual
relation_comparison_at t.Less = Some relation_comparisons.Less
relation_comparison_at t.LessEqual = Some relation_comparisons.LessEqual
relation_comparison_at t.Greater = Some relation_comparisons.Greater
relation_comparison_at t.GreaterEqual = Some relation_comparisons.GreaterEqual
relation_comparison_at _ = None

-- the token stands between two relations
abbrev pub is_infix : Terminal → Bool
is_infix t.Union = true
is_infix t.Intersect = true
is_infix t.Minus = true
is_infix t.Join = true
is_infix t.Matching = true
is_infix t.Not = true
is_infix _ = false

-- the token stands behind a relation, and what it does with it follows
abbrev pub is_postfix : Terminal → Bool
is_postfix t.OpenBrace = true
is_postfix t.Where = true
is_postfix t.Rename = true
is_postfix _ = false

-- the token begins a constraint
abbrev pub is_constraint : Terminal → Bool
is_constraint t.Key = true
is_constraint t.Foreign = true
is_constraint t.Packed = true
is_constraint t.When = true
is_constraint t.Using = true
is_constraint _ = false
