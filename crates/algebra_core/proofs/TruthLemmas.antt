-- What names mean and take in the scope of a whole state.
use Rattle.std.proofs.Common.{◌≡◌, ◌≤◌, length, ap, ◌∙◌, Option, None}
use Rattle.value_core.specs.Values.{Name}
use Rattle.meaning_core.specs.Meanings.{known_in}
use Rattle.meaning_core.specs.Names.{given}
use Rattle.algebra_core.specs.Costs.{prices_in, prices_with}
use Rattle.algebra_core.specs.Scopes.{all_of, with_of, value_of, known_at, prices_at}
use Rattle.algebra_core.specs.declared.scope.Scope.{Scope}
use Rattle.meaning_core.proofs.LookupLemmas.{given_none}
use Rattle.algebra_core.proofs.EvalLemmas.{whole_known, whole_prices}

pub known_whole : (s : Scope) → with_of s ≡ None → length (all_of s) ≤ s.before → known_at s ≡ known_in (all_of s)
known_whole s none whole =
    whole_known s whole ∙ ap known_in (ap (λ (w : Option Name). given w (value_of s) (all_of s)) none ∙ given_none (value_of s) (all_of s))

pub prices_whole : (s : Scope) → with_of s ≡ None → length (all_of s) ≤ s.before → prices_at s ≡ prices_in (all_of s)
prices_whole s none whole =
    whole_prices s whole
    ∙ (ap (λ (w : Option Name). prices_with w (given w (value_of s) (all_of s))) none ∙ ap prices_in (given_none (value_of s) (all_of s)))
