-- A domain name.
use Rattle.type_data.proofs.Common.{Labels, List, Some, SpellsCased-faultless, SpellsCased-once, WordsFault, ap, sym, wire, ℕ, ◌∙◌, ◌≡◌}
use Rattle.type_data.specs.Kinds.Name.{FailsName, StatesName}

-- a text states one list of octets
pub name_once : (origin : Labels) (text a b : List ℕ) → StatesName origin text a → StatesName origin text b → a ≡ b
name_once origin text a b one two = one.2 ∙ ap wire (SpellsCased-once (Some origin) text one.0 two.0 one.1 two.1) ∙ sym two.2

-- where it states octets, it doesn't fail
pub name_or_fault : (origin : Labels) (text octets : List ℕ) (fault : WordsFault) → StatesName origin text octets → FailsName origin text fault → ⊥
name_or_fault origin text octets fault states fails = SpellsCased-faultless (Some origin) text states.0 fails.0 states.1 fails.1
