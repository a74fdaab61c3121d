-- What is told of the entries that state no data, as the code holds it.
use Rattle.std.specs.Prelude.{◌≡◌, ℕ, ◌+◌, List, [], ◌∷◌, ◌++◌, length, Option, Some, None, codes, decimal, option_map}
use Rattle.std.specs.Option.{option_or}
use Rattle.type_data.specs.FaultText.{fault_text}
use Rattle.zone_words.specs.Rewriting.{Refused}
use Rattle.zone_words.specs.declared.refusal.Refusal.{Refusal}
use Rattle.zone_words.specs.declared.refusal.Refusals.{Refusals}

abbrev pub refused_of : Refusal → Refused
refused_of r =
    record { line = r.line; mnemonic = r.mnemonic.now; field = r.field.now; fault = r.fault }

abbrev pub first_of : List Refused → Option Refused
first_of [] = None
first_of (it ∷ told) = Some it

-- all that is told, in short
pub record AreInShort (told : List Refused) (short : Refusals) : Type 0 where
  pub first : option_map refused_of short.first ≡ first_of told
  pub count : short.count ≡ length told

-- what is told of more entries is added
pub record AddsTold (told : List Refused) (old new : Refusals) : Type 0 where
  pub first : option_map refused_of new.first
      ≡ option_or (option_map refused_of old.first) (first_of told)
  pub count : new.count ≡ old.count + length told

-- the line that tells of it: `line 10: RRSIG, signature: not base64`
abbrev pub refusal_text : Refusal → List ℕ
refusal_text r =
    codes "line " ++ decimal r.line ++ codes ": " ++ r.mnemonic.now ++ codes ", " ++ r.field.now
    ++ codes ": " ++ fault_text r.fault
