-- Base64 that are printed aren't the mark of the generic form.
use Rattle.base64.specs.Engines.{standard}
use Rattle.base64.proofs.RoundTrip.{length-encode_symbols}
use Rattle.base64.specs.Rfc4648.{encode_symbols, padding_len}
use Rattle.type_data.proofs.Common.{List, ap, arith, length, length-append, length-replicate, replicate, sym, ℕ, ◌++◌, ◌<◌, ◌≡◌}
use Rattle.type_data.specs.Kinds.Base64.{IsBase64}
use Rattle.type_data.proofs.Printed.Marks.{marked}

-- base64 has a multiple of four digits
sized : (table octets : List ℕ) (pad : ℕ) → 0 < length octets → length (encode_symbols table octets ++ replicate (padding_len (length octets)) pad) ≡ 2 → ⊥
sized table octets pad some e =
    let n = length octets in
    omega (arith, some, e, length-append (encode_symbols table octets) (replicate (padding_len n) pad), length-encode_symbols table octets, length-replicate (padding_len n) pad)

pub base64_alone : (octets : List ℕ) → IsBase64 marked octets → ⊥
base64_alone octets is = sized standard.encode_table octets standard.padding.value is.some (sym (ap length is.encoded))
