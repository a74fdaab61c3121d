-- The mnemonic of a number.
use Rattle.type_data.proofs.Common.{List, Named, Option, ap, find, find_mapped, map, mnemonic_among, option_map, sym, ℕ, ◌==◌, ◌∙◌, ◌≡◌}

-- rows of any kind, by their numbers and mnemonics
pub mnemonic_of : {Row : Type 0} (names : Row → Named) (rows : List Row) (n : ℕ) (found : Option Row) → found ≡ find (λ (row : Row). n == (names row).number) rows → option_map (λ (row : Named). row.mnemonic) (option_map names found) ≡ mnemonic_among (map names rows) n
mnemonic_of names rows n found is =
    ap (λ f. option_map (λ (row : Named). row.mnemonic) (option_map names f)) is ∙ ap (option_map (λ (row : Named). row.mnemonic)) (sym (find_mapped names (λ (row : Named). n == row.number) rows))
