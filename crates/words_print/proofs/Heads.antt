-- What stands before the class word on a line of a canonical text.
use Rattle.std.proofs.Common.{◌≡◌, ℕ, suc, get_or, ◌<◌, ◌==◌, Bool, true, List, [], ◌∷◌, ◌++◌, length, map, refl, ap, arith, ◌∙◌}
use Rattle.std.proofs.lemmas.Bool.Decides.{nat_tests}
use Rattle.std.specs.List.{AllByRecursion}
use Rattle.std.specs.Prelude.{IfSome, None, Option, Some, is_some}
use Rattle.zone_text.specs.Inherited.{IsTtl}
use Rattle.zone_name.proofs.Texts.Bare.{plain_text}
use Rattle.zone_name.specs.Spelling.{plain}
use Rattle.zone_text.proofs.Entries.Begun.{none_left}
use Rattle.zone_words.proofs.WrittenWords.{word_token}
use Rattle.type_data.specs.StandingItem.{IsBareText}
use Rattle.words_print.specs.Machine.Found.{IsPlainOctet}

pub plain_octet : (c : ℕ) → 32 < c → (c ≡ 34 → ⊥) → (c ≡ 40 → ⊥) → (c ≡ 41 → ⊥) → (c ≡ 59 → ⊥) → (c ≡ 92 → ⊥) → IsPlainOctet c
plain_octet c above quote opening closing semicolon backslash = (grind (arith, nat_tests), backslash)

pub plain_bare : (text : List ℕ) → 0 < length text → AllByRecursion IsPlainOctet text → IsBareText text
plain_bare text some each = record { units = map plain text; is = word_token text some each; spelt = plain_text text }

pub owner_and_ttl : (octets owner rest ttl back : List ℕ) → octets ≡ owner ++ 32 ∷ rest → rest ≡ ttl ++ 32 ∷ back → back ≡ [] → octets ≡ owner ++ 32 ∷ (ttl ++ 32 ∷ [])
owner_and_ttl octets owner rest ttl back one two none = one ∙ ap (λ t. owner ++ 32 ∷ t) (two ∙ ap (λ t. ttl ++ 32 ∷ t) none)

pub each_plain : (text : List ℕ) → ((k : ℕ) → k < length text → IsPlainOctet (get_or text k 0)) → AllByRecursion IsPlainOctet text
each_plain [] each = tt
each_plain (c ∷ text) each = (each 0 (omega arith), each_plain text (λ k inside. each (suc k) (omega (arith, inside))))

pub no_back : (back : List ℕ) (empty : Bool) → empty ≡ (length back == 0) → empty ≡ true → back ≡ []
no_back back empty is holds = none_left back (length back) empty refl is holds

pub some_ttl : (ttl : List ℕ) (found : Option ℕ) → IfSome found (IsTtl ttl) → is_some found ≡ true → (seconds : ℕ) × IsTtl ttl seconds
some_ttl ttl (Some seconds) is some = (seconds, is)
some_ttl ttl None is some = absurd cc
