-- A number of 16 or of 32 bits, written in decimal digits or as a time.
use Rattle.zone_rdata.proofs.Common.{List, arith, length, refl, sym, ℕ, ◌^◌, ◌∙◌, ◌≡◌, u16_value, u32_value, IsDecimal, Serial, Time, U16, Choice, below_or_not}
use Rattle.std.specs.Int.{byte_len, from_be_bytes, to_be_bytes, Width, w16, w32}
use Rattle.std.proofs.lemmas.Nat.{be_bytes_2, be_bytes_4}
use Rattle.zone_rdata.specs.Fields.Number.{IsNumber, SpellsNumber}
use Rattle.zone_rdata.proofs.Fields.FieldLaws.{AreLow, SizedField, low_at}
use Rattle.zone_rdata.proofs.Items.GenericLaws.{decimal_or_not}

-- a text stands for one number of a width at most
pub spelled_or_not : (w : Width) (text : List ℕ) → Choice (SpellsNumber w text)
spelled_or_not w text =
    below_or_not (IsDecimal text) (256 ^ byte_len w) (λ a b h k. h.value ∙ sym k.value) (decimal_or_not text)

-- ---- 16 bits

u16_read : (octets : List ℕ) → AreLow octets → length octets ≡ 2
    → (n : ℕ) × IsNumber w16 n × (octets ≡ to_be_bytes w16 n)
u16_read octets low size =
    let each = low_at octets low in
    (from_be_bytes w16 octets, omega (arith, each 0, each 1), sym (be_bytes_2 octets (from_be_bytes w16 octets) size each refl))

pub u16_sized : SizedField U16 u16_value 2
u16_sized = record { plain = λ e. cc; single = λ e. cc; only = λ v h. grind arith; size = λ n h. refl; read = u16_read }

-- ---- 32 bits

serial_read : (octets : List ℕ) → AreLow octets → length octets ≡ 4
    → (n : ℕ) × IsNumber w32 n × (octets ≡ to_be_bytes w32 n)
serial_read octets low size =
    let each = low_at octets low in
    (from_be_bytes w32 octets, omega (arith, each 0, each 1, each 2, each 3), sym (be_bytes_4 octets (from_be_bytes w32 octets) size each refl))

pub serial_sized : SizedField Serial u32_value 4
serial_sized = record { plain = λ e. cc; single = λ e. cc; only = λ v h. grind arith; size = λ n h. refl; read = serial_read }

pub time_sized : SizedField Time u32_value 4
time_sized = grind (arith, serial_sized)
