-- Hashes as they are printed.
use Rattle.std.proofs.lemmas.List.Sums.{fold-append}
use Rattle.std.specs.Prelude.{OnOk}
use Rattle.std.specs.Result.{is_ok}
use Rattle.type_data.proofs.Common.{AllByRecursion, AllZip, AreOctets, Err, List, Ok, Result, if◌then◌else◌, Some, [], ap, append-nil, append_assoc, arith, drop, length, length-append, min, nil_from_length, refl, slice_index, subst, suc, sym, take, take-append-drop, with_length, zero, ℕ, ◌*◌, ◌+◌, ◌++◌, ◌/◌, ◌%◌, ◌<◌, ◌^◌, ◌∙◌, ◌∷◌, ◌≡◌, ◌≤◌}
use Rattle.std.proofs.lemmas.List.{length-drop, length-take}
use Rattle.std.specs.Int.{div_ceil}
use Rattle.zone_name.specs.Name.{folded_octet}
use Rattle.type_data.proofs.OfKinds.AfterLength.Printed.{AfterLength, counted_bad, counted_front, counted_octets, counted_small}
use Rattle.type_data.specs.Kinds.Hash.{IsBase32Hex, IsLowerBase32Hex, PrintsHash, StatesHash, base32_digit}
use Rattle.type_data.specs.Kinds.Hash.Machine.{AppendsDigits, IsLowerDigit, block_values, number_from}
use Rattle.type_data.specs.Printed.{NoFront, PrintsFront}
use Rattle.type_data.proofs.OfParameters.Lists.{zip_append}

-- ---- lists side by side

zip_take : (n : ℕ) (text digits : List ℕ) → AllZip IsLowerDigit text digits → AllZip IsLowerDigit (take n text) (take n digits)
zip_take zero text digits each = tt
zip_take (suc n) [] [] each = tt
zip_take (suc n) [] (d ∷ digits) each = each
zip_take (suc n) (c ∷ text) [] each = each
zip_take (suc n) (c ∷ text) (d ∷ digits) each = (each.0, zip_take n text digits each.1)

zip_stands : (text digits : List ℕ) → AllZip IsLowerDigit text digits → AllZip (λ c d. base32_digit c ≡ Some d) text digits
zip_stands [] [] each = tt
zip_stands [] (d ∷ digits) each = each
zip_stands (c ∷ text) [] each = each
zip_stands (c ∷ text) (d ∷ digits) each = (each.0.stands, zip_stands text digits each.1)

zip_lower : (text digits : List ℕ) → AllZip IsLowerDigit text digits → AllByRecursion (λ c. folded_octet c ≡ c) text
zip_lower [] digits each = tt
zip_lower (c ∷ text) [] each = absurd each
zip_lower (c ∷ text) (d ∷ digits) each = (each.0.lower, zip_lower text digits each.1)

-- ---- a block

-- what is appended where no error comes
pub on_ok_appended : {A E : Type 0} (r : Result A E) (new good bad : List ℕ) → new ≡ (if is_ok r then good else bad) → OnOk r (new ≡ good)
on_ok_appended (Ok v) new good bad same = same
on_ok_appended (Err e) new good bad same = tt

abbrev zeros : List ℕ
zeros = 0 ∷ 0 ∷ 0 ∷ 0 ∷ 0 ∷ []

pub block_printed : (block digits old new : List ℕ) → 0 < length block → length block ≤ 5 → AreOctets block → AllZip IsLowerDigit digits (block_values (block ++ drop (length block) zeros)) → new ≡ old ++ take (div_ceil (8 * length block) 5) digits → AppendsDigits block old new
block_printed [] digits old new some few each are appended = absurd (omega (arith, some))
block_printed (a ∷ []) digits old new some few each are appended =
    let la = each.0 in
    record { text = take 2 digits; digits = (a / 8) ∷ (a % 8 * 4 + 0 / 64) ∷ []; spelt = zip_take 2 digits _ are; unused = 2; few = omega arith; count = refl; bits = λ n. omega (arith, la); appended = appended }
block_printed (a ∷ b ∷ []) digits old new some few each are appended =
    let la = each.0 in
    let lb = each.1.0 in
    record { text = take 4 digits; digits = (a / 8) ∷ (a % 8 * 4 + b / 64) ∷ (b / 2 % 32) ∷ (b % 2 * 16 + 0 / 16) ∷ []; spelt = zip_take 4 digits _ are; unused = 4; few = omega arith; count = refl; bits = λ n. omega (arith, la, lb); appended = appended }
block_printed (a ∷ b ∷ c ∷ []) digits old new some few each are appended =
    let la = each.0 in
    let lb = each.1.0 in
    let lc = each.1.1.0 in
    record { text = take 5 digits; digits = (a / 8) ∷ (a % 8 * 4 + b / 64) ∷ (b / 2 % 32) ∷ (b % 2 * 16 + c / 16) ∷ (c % 16 * 2 + 0 / 128) ∷ []; spelt = zip_take 5 digits _ are; unused = 1; few = omega arith; count = refl; bits = λ n. omega (arith, la, lb, lc); appended = appended }
block_printed (a ∷ b ∷ c ∷ d ∷ []) digits old new some few each are appended =
    let la = each.0 in
    let lb = each.1.0 in
    let lc = each.1.1.0 in
    let ld = each.1.1.1.0 in
    record { text = take 7 digits; digits = (a / 8) ∷ (a % 8 * 4 + b / 64) ∷ (b / 2 % 32) ∷ (b % 2 * 16 + c / 16) ∷ (c % 16 * 2 + d / 128) ∷ (d / 4 % 32) ∷ (d % 4 * 8 + 0 / 32) ∷ []; spelt = zip_take 7 digits _ are; unused = 3; few = omega arith; count = refl; bits = λ n. omega (arith, la, lb, lc, ld); appended = appended }
block_printed (a ∷ b ∷ c ∷ d ∷ e ∷ []) digits old new some few each are appended =
    let la = each.0 in
    let lb = each.1.0 in
    let lc = each.1.1.0 in
    let ld = each.1.1.1.0 in
    let le = each.1.1.1.1.0 in
    record { text = take 8 digits; digits = block_values (a ∷ b ∷ c ∷ d ∷ e ∷ []); spelt = zip_take 8 digits _ are; unused = 0; few = omega arith; count = refl; bits = λ n. omega (arith, la, lb, lc, ld, le); appended = appended }
block_printed (a ∷ b ∷ c ∷ d ∷ e ∷ f ∷ block) digits old new some few each are appended = absurd (omega (arith, few))

-- ---- the loop

-- the octets before the rest are printed, in whole blocks where one is left
pub record HavePrinted (octets rest old new : List ℕ) : Type 0 where
  pub before : List ℕ
  pub front : octets ≡ before ++ rest
  pub done : AppendsDigits before old new
  pub whole : 0 < length rest → done.unused ≡ 0

pub none_printed : (octets old : List ℕ) → HavePrinted octets octets old old
none_printed octets old = record {
  before = [];
  front = refl;
  done = record { text = []; digits = []; spelt = tt; unused = 0; few = omega arith; count = refl; bits = λ n. omega arith; appended = sym (append-nil old) };
  whole = λ some. refl;
}

digits_joined : (before block old mid new : List ℕ) (done : AppendsDigits before old mid) → AppendsDigits block mid new → done.unused ≡ 0 → AppendsDigits (before ++ block) old new
digits_joined before block old mid new done more whole = record {
  text = done.text ++ more.text;
  digits = done.digits ++ more.digits;
  spelt = zip_append IsLowerDigit done.text more.text done.digits more.digits done.spelt more.spelt;
  unused = more.unused;
  few = more.few;
  count = omega (arith, whole, done.count, more.count, length-append done.digits more.digits, length-append before block);
  bits = λ n.
      let first : number_from 32 n done.digits ≡ number_from 256 n before = done.bits n ∙ ap (λ u. number_from 256 n before * 2 ^ u) whole ∙ (omega arith) in
      fold-append (λ n d. n * 32 + d) n done.digits more.digits
      ∙ ap (λ m. number_from 32 m more.digits) first
      ∙ more.bits (number_from 256 n before)
      ∙ ap (λ m. m * 2 ^ more.unused) (sym (fold-append (λ n d. n * 256 + d) n before block));
  appended = more.appended ∙ ap (λ m. m ++ more.text) done.appended ∙ append_assoc old done.text more.text;
}

pub block_more : (octets rest block after old mid new : List ℕ) (k : ℕ) → k ≡ min 5 (length rest) → block ≡ take k rest → after ≡ drop k rest → 0 < length rest → HavePrinted octets rest old mid → AppendsDigits block mid new → HavePrinted octets after old new
unfolding digits_joined
block_more octets rest block after old mid new k is front back some have more = record {
  before = have.before ++ block;
  front = have.front ∙ ap (λ r. have.before ++ r) (sym (take-append-drop k rest) ∙ ap (λ t. t ++ drop k rest) (sym front) ∙ ap (λ t. block ++ t) (sym back)) ∙ sym (append_assoc have.before block after);
  done = digits_joined have.before block old mid new have.done more (have.whole some);
  whole = λ left.
      let count = more.count in
      let few = more.few in
      let none : more.unused ≡ 0 = omega (arith, count, few, is, left, ap length front, ap length back, length-take k rest, length-drop k rest) in none;
}

pub all_printed : (octets rest old new : List ℕ) → length rest ≡ 0 → HavePrinted octets rest old new → AppendsDigits octets old new
all_printed octets rest old new empty have =
    subst (λ o. AppendsDigits o old new) (sym (have.front ∙ ap (λ r. have.before ++ r) (nil_from_length rest empty) ∙ append-nil have.before)) have.done

-- ---- after its length

hash_after : AfterLength StatesHash
hash_after words part states = (states.value, states.written)

pub no_hash : (octets rest value : List ℕ) → octets ≡ with_length value ++ rest → length value ≡ 0 → NoFront StatesHash octets
no_hash octets rest value whole empty =
    counted_bad StatesHash octets rest value hash_after whole (λ text states. let some = states.stands.some in omega (arith, some, empty, ap length states.written))

pub hash_front : (octets rest old new value : List ℕ) → octets ≡ with_length value ++ rest → 0 < length value → ((i : ℕ) → slice_index octets i < 256) → AppendsDigits value old new → PrintsFront PrintsHash StatesHash octets rest old new
hash_front octets rest old new value whole some low more =
    let is : IsBase32Hex more.text value = record { some = some; each = counted_octets octets value rest whole low; digits = more.digits; spelt = zip_stands more.text more.digits more.spelt; unused = more.unused; few = more.few; count = more.count; bits = more.bits 0 } in
    let lower : IsLowerBase32Hex more.text value = record { is = is; lower = zip_lower more.text more.digits more.spelt } in
    counted_front PrintsHash StatesHash octets rest old new value more.text hash_after whole (record { value = value; stands = lower; short = counted_small octets value rest whole low; written = refl }) more.appended
