-- Relvars that differ in their rows alone.
--     kinds_alike      they have stored views or not
--     as_many      they are as many
use Rattle.std.proofs.Common.{◌≡◌, [], ◌∷◌, length, refl, sym, ap, ◌∙◌}
use Rattle.std.specs.Prelude.{◌||◌}
use Rattle.std.proofs.lemmas.List.{length-map}
use Rattle.tree_core.specs.Relvars.{PlainRelvar, base, view, log, Entries}
use Rattle.meaning_core.proofs.RowlessLemmas.{bare, bare_all, bare_entry}
use Rattle.stored_views.specs.Stored.{has_stored, is_stored}

bare-stored : (r : PlainRelvar) → is_stored (bare r) ≡ is_stored r
bare-stored (base value constraints) = refl
bare-stored (view t kind) = refl
bare-stored (log of side last w) = refl

bare-kinds : (es : Entries) → has_stored (bare_all es) ≡ has_stored es
bare-kinds [] = refl
bare-kinds (e ∷ es) = λ i. bare-stored e.1 i || bare-kinds es i

pub kinds_alike : (es fs : Entries) → bare_all es ≡ bare_all fs → has_stored es ≡ has_stored fs
kinds_alike es fs e = sym (bare-kinds es) ∙ (ap has_stored e ∙ bare-kinds fs)

-- and as many entries
pub as_many : (es fs : Entries) → bare_all es ≡ bare_all fs → length es ≡ length fs
as_many es fs e = sym (length-map es bare_entry) ∙ (ap (λ (zs : Entries). length zs) e ∙ length-map fs bare_entry)
