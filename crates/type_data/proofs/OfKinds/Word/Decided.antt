-- Numbers and types by their mnemonics are stated or have a fault.
use Rattle.zone_name.specs.Common.{EitherIs}
use Rattle.zone_rdata.proofs.Choices.{Choice, Decided}
use Rattle.zone_rdata.proofs.Words.OneWord.{mnemonic_or_not, word_or_not}
use Rattle.zone_rdata.specs.Table.{ascends}
use Rattle.zone_rdata.specs.Words.{is_meta}
use Rattle.type_data.proofs.Common.{Bool, IsAlgorithm, IsKind, IsMnemonic, IsNumberOrMnemonic, IsTypeWord, IsWordAmong, List, [], algorithms, arith, cases_lt, certificate_types, codes, false, false≢true, further_algorithms, inl, inr, notify_schemes, refl, registered_types, subst, sym, to_be_bytes, true, w16, ℕ, ◌<◌, ◌∙◌, ◌≡◌, ◌≤◌, ◌⊎◌, early_types, late_types, signed_types}
use Rattle.type_data.proofs.OfKinds.Word.Once.{word_of_type_once}
use Rattle.type_data.specs.Kinds.Word.{FailsType, StatesType}
use Rattle.type_data.specs.declared.fault.WordsFault.TheVariants.{NotAType}

pub certificate_type_or_not : (word : List ℕ) → Choice (IsNumberOrMnemonic certificate_types word)
certificate_type_or_not = word_or_not certificate_types [] refl

pub notify_scheme_or_not : (word : List ℕ) → Choice (IsNumberOrMnemonic notify_schemes word)
notify_scheme_or_not = word_or_not notify_schemes [] refl

algorithm_by : (word : List ℕ) → Choice (IsNumberOrMnemonic algorithms word) → Choice (IsMnemonic further_algorithms word) → Choice (IsAlgorithm word)
algorithm_by word (inl found) further = inl (found.0, inl found.1)
algorithm_by word (inr none) (inl found) = inl (found.0, inr found.1)
algorithm_by word (inr none) (inr none') = inr (λ n h. elim h [ inl x ↦ none n x | inr x ↦ none' n x ])

pub algorithm_or_not : (word : List ℕ) → Choice (IsAlgorithm word)
algorithm_or_not word = algorithm_by word (word_or_not algorithms [] refl word) (mnemonic_or_not further_algorithms refl word)

kind_by : (n : ℕ) (meta : Bool) → is_meta n ≡ meta → (n < 65536) ⊎ (65536 ≤ n) → Decided (IsKind n)
kind_by n true e size = inr (λ kind. false≢true (sym kind.stored ∙ e))
kind_by n false e (inl short) = inl (record { short = short; stored = e })
kind_by n false e (inr over) = inr (λ kind. omega (arith, kind.short))

kind_or_not : (n : ℕ) → Decided (IsKind n)
kind_or_not n = kind_by n (is_meta n) refl (cases_lt n 65536)

type_by : (word : List ℕ) (n : ℕ) → IsWordAmong registered_types (codes "TYPE") word n → Decided (IsKind n) → Choice (IsTypeWord word)
type_by word n named (inl kind) = inl (n, record { named = named; kind = kind })
type_by word n named (inr none) = inr (λ m is. none (subst IsKind (word_of_type_once word m n is.named named) is.kind))

ascend_all : ascends registered_types ≡ true
unfolding early_types late_types signed_types
ascend_all = refl

pub type_or_not : (word : List ℕ) → Choice (IsTypeWord word)
type_or_not word = elim (word_or_not registered_types (codes "TYPE") ascend_all word) [
  | inr none ↦ inr (λ n is. none n is.named)
  | inl found ↦ type_by word found.0 found.1 (kind_or_not found.0)
]

pub type_decided : (word : List ℕ) → EitherIs (StatesType word) (FailsType word)
type_decided word = elim (type_or_not word) [
  | inr none ↦ inr (NotAType, (refl, none))
  | inl found ↦ inl (to_be_bytes w16 found.0, record { number = found.0; stated = found.1; fits = (let short = found.1.kind.short in omega arith); value = refl })
]
