-- Numbers and words that are printed state what they are printed for.
use Rattle.zone_rdata.proofs.Items.GenericLaws.{decimal-is}
use Rattle.type_data.proofs.Common.{IsDecimal, IsInOctets, IsNumbered, IsWordAmong, List, Width, [], arith, by_number, byte_len, certificate_types, codes, inl, mnemonic_among, notify_schemes, refl, registered_types, subst, sym, w16, w32, w8, ℕ, ◌<◌, ◌^◌, ◌≤◌}
use Rattle.type_data.specs.Kinds.Number.{PrintsNumber, PrintsU8, PrintsU16, PrintsU32, StatesU8, StatesU16, StatesU32}
use Rattle.type_data.specs.Kinds.Word.{PrintsAlgorithm, PrintsCertificateType, PrintsNotifyScheme, PrintsType, StatesAlgorithm, StatesCertificateType, StatesNotifyScheme, StatesType}
use Rattle.zone_rdata.proofs.Texts.PrintedWords.{numbered_printed, word_of}

-- ---- numbers

pub short : (w : Width) (n : ℕ) → 256 ^ byte_len w ≤ 2 ^ 64 → n < 256 ^ byte_len w → n < 2 ^ 64
short w n small fits = omega (arith, small, fits)

pub number_states : (w : Width) (text octets : List ℕ) → 256 ^ byte_len w ≤ 2 ^ 64 → PrintsNumber w text octets → IsInOctets (IsDecimal text) w octets
number_states w text octets small p = record {
  number = p.number;
  stated = subst (λ t. IsDecimal t p.number) (sym p.stated) (decimal-is p.number (short w p.number small p.fits));
  fits = p.fits;
  value = p.value;
}

pub u8_printed_states : (text octets : List ℕ) → PrintsU8 text octets → StatesU8 text octets
u8_printed_states text octets p = number_states w8 text octets (omega arith) p

pub u16_printed_states : (text octets : List ℕ) → PrintsU16 text octets → StatesU16 text octets
u16_printed_states text octets p = number_states w16 text octets (omega arith) p

pub u32_printed_states : (text octets : List ℕ) → PrintsU32 text octets → StatesU32 text octets
u32_printed_states text octets p = number_states w32 text octets (omega arith) p

-- ---- words

pub algorithm_printed_states : (text octets : List ℕ) → PrintsAlgorithm text octets → StatesAlgorithm text octets
algorithm_printed_states text octets p = record {
  number = p.number;
  stated = inl (by_number (subst (λ t. IsNumbered [] t p.number) (sym p.stated) (numbered_printed [] p.number (short w8 p.number (omega arith) p.fits))));
  fits = p.fits;
  value = p.value;
}

pub certificate_printed_states : (text octets : List ℕ) → PrintsCertificateType text octets → StatesCertificateType text octets
certificate_printed_states text octets p = record {
  number = p.number;
  stated = subst (λ t. IsWordAmong certificate_types [] t p.number) (sym p.stated) (word_of certificate_types [] (mnemonic_among certificate_types p.number) p.number refl (short w16 p.number (omega arith) p.fits));
  fits = p.fits;
  value = p.value;
}

pub notify_scheme_printed_states : (text octets : List ℕ) → PrintsNotifyScheme text octets → StatesNotifyScheme text octets
notify_scheme_printed_states text octets p = record {
  number = p.number;
  stated = subst (λ t. IsWordAmong notify_schemes [] t p.number) (sym p.stated) (word_of notify_schemes [] (mnemonic_among notify_schemes p.number) p.number refl (short w8 p.number (omega arith) p.fits));
  fits = p.fits;
  value = p.value;
}

pub type_printed_states : (word octets : List ℕ) → PrintsType word octets → StatesType word octets
type_printed_states word octets p = record {
  number = p.number;
  stated = record {
    named = subst (λ t. IsWordAmong registered_types (codes "TYPE") t p.number) (sym p.stated.0) (word_of registered_types (codes "TYPE") (mnemonic_among registered_types p.number) p.number refl (short w16 p.number (omega arith) p.fits));
    kind = p.stated.1;
  };
  fits = p.fits;
  value = p.value;
}
