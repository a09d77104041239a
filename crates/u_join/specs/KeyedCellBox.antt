-- Labelled boxes with a key beside the label.
abbrev pub keyed : {L K S : Type 0} → (L → K) → L × S → K × L × S
keyed f x = (f x.0, x.0, x.1)
