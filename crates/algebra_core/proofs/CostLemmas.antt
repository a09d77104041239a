-- What names and nodes take, from what their entries and parts take.
--     known_prices      what names mean beside their prices is what they mean
--     price_first      the price of a name is that of its entry
--     paid_at      what follows an operand is paid for its rows
use Rattle.std.proofs.Common.{◌≡◌, ℕ, ◌<◌, List, [], ◌∷◌, ◌++◌, take, refl, ap, ◌∙◌, cond, Bool, true, false, Option, Some, None, Ok}
use Rattle.std.proofs.lemmas.List.{map-append}
use Rattle.std.specs.Str.{bytes_eq}
use Rattle.value_core.specs.Values.{Name, Row, Relation}
use Rattle.relation_core.specs.Answers.{under}
use Rattle.tree_core.specs.Relvars.{PlainRelvar, base, view, Entries, log}
use Rattle.tree_core.specs.Trees.{read_tree}
use Rattle.tree_core.specs.declared.tree.RelTree.{RelTree}
use Rattle.meaning_core.specs.Meanings.{Known, RowsMeant, meaning, plainly, relvar_meaning}
use Rattle.meaning_core.specs.Names.{IsFirstAt, each_after, given, given_relvar, with_value}
use Rattle.algebra_core.specs.Costs.{Priced, Prices, known_of, price_of, paid, relvar_cost, priced}
use Rattle.algebra_core.specs.Scopes.{all_of, with_of, value_of, known_at, prices_at, entry_cost, up_to}
use Rattle.algebra_core.specs.declared.scope.Scope.{Scope}
use Rattle.meaning_core.proofs.EntryLemmas.{found_first, given_first}
use Rattle.meaning_core.proofs.LookupLemmas.{under_ok}

-- ---- names

pub known_each : (with : Option Name) (prices : Prices) (entries : Entries)
    → known_of (each_after (priced with) prices entries) ≡ each_after relvar_meaning (known_of prices) entries
known_each with prices [] = refl
known_each with prices (r ∷ rest) =
    known_each with (prices ++ (r.0, priced with prices r.1) ∷ []) rest
    ∙ ap (λ (k : Known). each_after relvar_meaning k rest) (map-append (λ (p : Name × Priced). (p.0, p.1.0)) prices ((r.0, priced with prices r.1) ∷ []))

pub known_prices : (s : Scope) → known_of (prices_at s) ≡ known_at s
known_prices s = known_each (with_of s) [] (take s.before (given (with_of s) (value_of s) (all_of s)))

cost_valued : (renewed : Option Name) (prices : Prices) (value : Relation) (r : PlainRelvar) → relvar_cost renewed prices (with_value value r) ≡ relvar_cost renewed prices r
cost_valued renewed prices value (base old constraints) = refl
cost_valued renewed prices value (view t kind) = refl
cost_valued renewed prices value (log of side last old) = refl

cost_if : (b : Bool) (renewed : Option Name) (prices : Prices) (value : Relation) (r : PlainRelvar)
    → relvar_cost renewed prices (cond b (with_value value r) r) ≡ relvar_cost renewed prices r
cost_if true renewed prices value r = cost_valued renewed prices value r
cost_if false renewed prices value r = refl

cost_given : (renewed : Option Name) (prices : Prices) (with : Option Name) (value : Option Relation) (name : Name) (r : PlainRelvar)
    → relvar_cost renewed prices (given_relvar with value name r) ≡ relvar_cost renewed prices r
cost_given renewed prices None value name r = refl
cost_given renewed prices (Some with) None name r = refl
cost_given renewed prices (Some with) (Some value) name r = cost_if (bytes_eq name with) renewed prices value r

pub price_first : (s : Scope) (name : Name) (at : ℕ) (x : PlainRelvar) → IsFirstAt (all_of s) name at x → at < s.before → price_of (prices_at s) name ≡ entry_cost s at x
price_first s name at x first l =
    ap (λ (p : Priced). p.1)
    (found_first (priced (with_of s)) (Ok [], 0) (given (with_of s) (value_of s) (all_of s)) name at s.before (given_relvar (with_of s) (value_of s) name x)
    (given_first (with_of s) (value_of s) (all_of s) name at x first) l)
    ∙ cost_given (with_of s) (prices_at (up_to s at)) (with_of s) (value_of s) name x

-- ---- nodes

pub paid_at : (s : Scope) (t : RelTree) (a : Relation) (f : List Row → ℕ) → under t.heading (meaning (known_at s) plainly (read_tree t)) ≡ Ok a
    → paid (meaning (known_of (prices_at s)) plainly (read_tree t)) f ≡ f a.rows
paid_at s t a f e =
    ap (λ (m : RowsMeant). paid m f) (ap (λ (k : Known). meaning k plainly (read_tree t)) (known_prices s) ∙ (under_ok t.heading (meaning (known_at s) plainly (read_tree t)) a e).0)
