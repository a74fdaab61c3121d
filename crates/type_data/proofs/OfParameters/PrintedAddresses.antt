-- Addresses as they are printed.
use Rattle.type_data.proofs.Common.{AllByRecursion, AllByRecursion-append, List, [], ap, append-nil, append_assoc, arith, flat_map, flat_map_more, join_with_byte, length, length-append, map, refl, sym, ℕ, ◌++◌, ◌<◌, ◌*◌, ◌∙◌, ◌∷◌, ◌≡◌}
use Rattle.type_data.proofs.OfParameters.Marked.{AreMarked, more_marked}
use Rattle.type_data.specs.Parameters.Machine.Printed.{AppendsUnquoted, AreAddresses, marked, size_of}
use Rattle.type_data.specs.Parameters.Printed.{PrintsAddresses}
use Rattle.type_data.specs.declared.kinds.address.Version.{Version}
use Rattle.type_data.specs.declared.kinds.address.Version.TheVariants.{V4, V6}

abbrev joined : List (List ℕ) → List ℕ
joined addresses = flat_map (λ address. address) addresses

abbrev HaveSize : ℕ → List (List ℕ) → Type 0
HaveSize size addresses = AllByRecursion (λ address. length address ≡ size) addresses

-- the addresses up to a place are printed
pub record HasPrinted (size : ℕ) (text_of : List ℕ → List ℕ) (value rest mark old new : List ℕ) : Type 0 where
  pub done : List (List ℕ)
  pub each : HaveSize size done
  pub parts : value ≡ joined done ++ rest
  pub marked_as : AreMarked text_of (61 ∷ []) done mark old new

pub addresses_more : (size : ℕ) (text_of : List ℕ → List ℕ) (value rest address after mark old mid new : List ℕ) → HasPrinted size text_of value rest mark old mid → rest ≡ address ++ after → length address ≡ size → new ≡ (mid ++ mark) ++ text_of address → HasPrinted size text_of value after (44 ∷ []) old new
addresses_more size text_of value rest address after mark old mid new has split sized grown = record {
  done = has.done ++ address ∷ [];
  each = AllByRecursion-append (λ a. length a ≡ size) has.done (address ∷ []) has.each (sized, tt);
  parts = has.parts ∙ ap (λ t. joined has.done ++ t) split ∙ sym (append_assoc (joined has.done) address after) ∙ ap (λ t. t ++ after) (flat_map_more (λ a. a) [] has.done address);
  marked_as = more_marked text_of (61 ∷ []) has.done address mark old mid new has.marked_as grown;
}

ended : (size : ℕ) (text_of : List ℕ → List ℕ) (value old new : List ℕ) (done : List (List ℕ)) → HaveSize size done → value ≡ joined done → 0 < length value → new ≡ old ++ marked (61 ∷ []) (map text_of done) → AppendsUnquoted (λ text. PrintsAddresses size text_of text value) old new
ended size text_of value old new [] each is some written = absurd (omega (arith, some, ap length is))
ended size text_of value old new (address ∷ done) each is some written = record {
  text = join_with_byte 44 (map text_of (address ∷ done));
  printed = record { addresses = address ∷ done; some = omega arith; each = each; value = is; printed = refl };
  appended = written;
}

pub addresses_ended : (size : ℕ) (text_of : List ℕ → List ℕ) (value rest mark old new : List ℕ) → HasPrinted size text_of value rest mark old new → rest ≡ [] → 0 < length value → AppendsUnquoted (λ text. PrintsAddresses size text_of text value) old new
addresses_ended size text_of value rest mark old new has empty some =
    ended size text_of value old new has.done has.each (has.parts ∙ ap (λ t. joined has.done ++ t) empty ∙ append-nil (joined has.done)) some has.marked_as.written

-- ---- octets that are no addresses

lengths4 : (addresses : List (List ℕ)) → HaveSize 4 addresses → length (joined addresses) ≡ 4 * length addresses
lengths4 [] each = refl
lengths4 (a ∷ addresses) each = omega (arith, length-append a (joined addresses), each.0, lengths4 addresses each.1)

lengths16 : (addresses : List (List ℕ)) → HaveSize 16 addresses → length (joined addresses) ≡ 16 * length addresses
lengths16 [] each = refl
lengths16 (a ∷ addresses) each = omega (arith, length-append a (joined addresses), each.0, lengths16 addresses each.1)

pub addresses_cut_short : (version : Version) (text_of : List ℕ → List ℕ) (value rest mark old new : List ℕ) → HasPrinted (size_of version) text_of value rest mark old new → 0 < length rest → length rest < size_of version → (addresses : List (List ℕ)) → AreAddresses (size_of version) addresses value → ⊥
addresses_cut_short V4 text_of value rest mark old new has some short addresses are = omega (arith, some, short, lengths4 has.done has.each, lengths4 addresses are.each, ap length has.parts, ap length are.value, length-append (joined has.done) rest)
addresses_cut_short V6 text_of value rest mark old new has some short addresses are = omega (arith, some, short, lengths16 has.done has.each, lengths16 addresses are.each, ap length has.parts, ap length are.value, length-append (joined has.done) rest)

pub addresses_some : (version : Version) (value : List ℕ) → length value ≡ 0 → (addresses : List (List ℕ)) → AreAddresses (size_of version) addresses value → ⊥
addresses_some V4 value none addresses are = omega (arith, none, are.some, lengths4 addresses are.each, ap length are.value)
addresses_some V6 value none addresses are = omega (arith, none, are.some, lengths16 addresses are.each, ap length are.value)
