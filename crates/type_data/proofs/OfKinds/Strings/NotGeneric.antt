-- Character-strings that are printed aren't the mark of the generic form.
use Rattle.type_data.proofs.Common.{IsGeneric, List, RawItem, [], generic_mark, map, sym, ℕ, ◌∙◌, ◌∷◌, ◌≡◌}
use Rattle.zone_rdata.specs.Item.{quoted}
use Rattle.type_data.specs.Kinds.Strings.{PrintsStringItem}

pub string_alone : (alone : List RawItem) (octets : List ℕ) → PrintsStringItem alone octets → IsGeneric alone → ⊥
string_alone alone octets printed generic =
    let both : quoted _ ∷ [] ≡ generic_mark ∷ generic.0 = sym printed.printed ∙ generic.1 in
    cc both

pub strings_alone : (strings : List (List ℕ)) (rest : List RawItem) (text_of : List ℕ → List ℕ) → map (λ string. quoted (text_of string)) strings ≡ generic_mark ∷ rest → ⊥
strings_alone [] rest text_of e = cc e
strings_alone (s ∷ strings) rest text_of e = cc e
