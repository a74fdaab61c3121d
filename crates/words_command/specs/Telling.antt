-- The line that tells people of the entries that state no data (this project's own).
use Rattle.std.specs.Prelude.{ℕ, zero, suc, ◌+◌, ◌-◌, List, [], ◌++◌, codes, decimal}
use Rattle.zone_words.specs.Refusal.{refusal_text}
use Rattle.zone_words.specs.declared.refusal.Refusal.{Refusal}

-- how many more entries state no data
abbrev pub others_words : ℕ → List ℕ
others_words zero = []
others_words (suc zero) = codes " (and 1 more entry)"
others_words (suc (suc more)) = codes " (and " ++ decimal (2 + more) ++ codes " more entries)"

-- the line on the first entry that states no data, of so many
abbrev pub refusals_line : Refusal → ℕ → List ℕ
refusals_line first count = refusal_text first ++ others_words (count - 1)
