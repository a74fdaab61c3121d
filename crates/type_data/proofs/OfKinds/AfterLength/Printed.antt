-- Values that are printed from the front of octets, where they stand after their length.
use Rattle.type_data.proofs.Common.{AreOctets, List, ap, arith, bytes_each, length, slice_index, subst, sym, with_length, ℕ, ◌++◌, ◌<◌, ◌∙◌, ◌≡◌, ◌≤◌}
use Rattle.zone_rdata.proofs.Octets.Sent.{frame_same}
use Rattle.zone_text.proofs.Common.{AllByRecursion-front}
use Rattle.type_data.specs.Machine.Taking.{NoneCounted}
use Rattle.type_data.specs.Printed.{NoFront, PrintsFront}

-- what a text states is a value after its length
abbrev pub AfterLength : (List ℕ → List ℕ → Type 0) → Type 0
AfterLength States = (words part : List ℕ) → States words part → (value : List ℕ) × (part ≡ with_length value)

pub counted_front : (Prints States : List ℕ → List ℕ → Type 0) (octets rest old new value text : List ℕ) → AfterLength States → octets ≡ with_length value ++ rest → Prints text (with_length value) → new ≡ old ++ text → PrintsFront Prints States octets rest old new
counted_front Prints States octets rest old new value text after whole printed appended = record {
  part = with_length value;
  text = text;
  whole = whole;
  printed = printed;
  appended = appended;
  alone = λ other more words parted states.
      let of = after words other states in
      of.1 ∙ ap with_length (sym (frame_same value of.0 rest more (sym whole ∙ parted ∙ ap (λ o. o ++ more) of.1)).0);
}

pub counted_none : (States : List ℕ → List ℕ → Type 0) (octets : List ℕ) → AfterLength States → NoneCounted octets → NoFront States octets
counted_none States octets after none part rest text parted states =
    let of = after text part states in
    none of.0 rest (parted ∙ ap (λ o. o ++ rest) of.1)

pub counted_bad : (States : List ℕ → List ℕ → Type 0) (octets rest value : List ℕ) → AfterLength States → octets ≡ with_length value ++ rest → ((text : List ℕ) → States text (with_length value) → ⊥) → NoFront States octets
counted_bad States octets rest value after whole bad part more text parted states =
    let of = after text part states in
    bad text (subst (States text) (of.1 ∙ ap with_length (sym (frame_same value of.0 rest more (sym whole ∙ parted ∙ ap (λ o. o ++ more) of.1)).0)) states)

-- a value after its length has octets, at most 255
pub counted_small : (octets value rest : List ℕ) → octets ≡ with_length value ++ rest → ((i : ℕ) → slice_index octets i < 256) → length value ≤ 255
counted_small octets value rest whole low = let first = rw whole at (low 0) in omega (arith, first)

pub counted_octets : (octets value rest : List ℕ) → octets ≡ with_length value ++ rest → ((i : ℕ) → slice_index octets i < 256) → AreOctets value
counted_octets octets value rest whole low = AllByRecursion-front (λ c. c < 256) value rest (subst AreOctets whole (bytes_each octets low)).1
