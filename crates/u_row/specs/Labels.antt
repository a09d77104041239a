-- Boxes under other labels.

-- the same sides under the label that f makes
abbrev pub relabelled : {L M S : Type 0} → (L → M) → L × S → M × S
relabelled f x = (f x.0, x.1)
