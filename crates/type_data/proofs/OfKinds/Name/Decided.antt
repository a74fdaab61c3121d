-- Domain names are stated or have a fault.
use Rattle.zone_name.proofs.Spelling.Answered.{one_verdict_cased}
use Rattle.zone_name.specs.Common.{EitherIs}
use Rattle.zone_name.specs.Name.{IsCasedName}
use Rattle.type_data.proofs.Common.{AreOctets, Labels, List, NotAName, Some, inl, inr, refl, wire, ℕ}
use Rattle.type_data.specs.Kinds.Name.{FailsName, StatesName}

pub name_decided : (origin : Labels) → IsCasedName origin → (text : List ℕ) → AreOctets text → EitherIs (StatesName origin text) (FailsName origin text)
name_decided origin is text octets = elim ((one_verdict_cased (Some origin) text is octets).one_of) [
  | inl found ↦ inl (wire found.0, (found.0, found.1, refl))
  | inr wrong ↦ inr (NotAName (Some wrong.0), (wrong.0, wrong.1, refl))
]
