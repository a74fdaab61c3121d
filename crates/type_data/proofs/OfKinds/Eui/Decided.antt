-- Identifiers of hardware are stated or have a fault.
use Rattle.std.proofs.lemmas.Bool.{cases_eq}
use Rattle.std.specs.declared.result.Result.TheVariants.{Err, Ok}
use Rattle.hex.specs.Hex.{decode_sized}
use Rattle.hex.specs.declared.error.FromHexError.{FromHexError}
use Rattle.zone_rdata.proofs.Choices.{Choice}
use Rattle.type_data.proofs.Common.{List, Result, [], ap, arith, drop, inl, inr, length, length-append, refl, suc, subst, sym, take, take-append-drop, zero, ℕ, ◌++◌, ◌<◌, ◌∙◌, ◌∷◌, ◌≡◌, ◌≤◌, ◌⊎◌}
use Rattle.type_data.proofs.OfKinds.Eui.Pairs.{ArePairs, ReadsPairs, are_pairs, eui_length, pair_length, pairs_more, take_last}
use Rattle.type_data.specs.Kinds.Eui.{IsPair, StatesEui}
use Rattle.type_data.specs.Kinds.Eui.Machine.{BeginsWithPair, IsCutPair}

pair_by : (text : List ℕ) (found : Result (List ℕ) FromHexError) → decode_sized text 1 ≡ found → Choice (IsPair text)
pair_by text (Err wrong) e = inr (λ octet is. absurd (let both = sym e ∙ is in cc))
pair_by text (Ok []) e = inr (λ octet is. absurd (let both = sym e ∙ is in cc))
pair_by text (Ok (octet ∷ [])) e = inl (octet, e)
pair_by text (Ok (octet ∷ more ∷ octets)) e = inr (λ other is. absurd (let both = sym e ∙ is in cc))

pair_or_not : (text : List ℕ) → Choice (IsPair text)
pair_or_not text = pair_by text (decode_sized text 1) refl

abbrev CutOrNot : List ℕ → Type 0
CutOrNot text = BeginsWithPair text ⊎ (BeginsWithPair text → ⊥)

-- what stands behind the pair that a text begins with
behind : (text pair rest : List ℕ) (octet : ℕ) → IsPair pair octet → text ≡ pair ++ 45 ∷ rest → (take 2 text ≡ pair) × (drop 2 text ≡ 45 ∷ rest)
behind text [] rest octet is parted = absurd (omega (arith, pair_length [] octet is))
behind text (a ∷ []) rest octet is parted = absurd (omega (arith, pair_length (a ∷ []) octet is))
behind text (a ∷ b ∷ []) rest octet is parted = (ap (take 2) parted, ap (drop 2) parted)
behind text (a ∷ b ∷ c ∷ pair) rest octet is parted = absurd (omega (arith, pair_length (a ∷ b ∷ c ∷ pair) octet is))

cut_by : (text after : List ℕ) → drop 2 text ≡ after → Choice (IsPair (take 2 text)) → CutOrNot text
cut_by text after e (inr none) = inr (λ begins. let cut = begins.2 in none begins.0 (subst (λ t. IsPair t begins.0) (sym (behind text cut.pair begins.1 begins.0 cut.is cut.parted).0) cut.is))
cut_by text [] e found = inr (λ begins. let cut = begins.2 in absurd (let both = sym e ∙ (behind text cut.pair begins.1 begins.0 cut.is cut.parted).1 in cc))
cut_by text (c ∷ rest) e (inl found) = elim (cases_eq c 45) [
  | inl hyphen ↦ inl (found.0, rest, record { pair = take 2 text; is = found.1; parted = sym (take-append-drop 2 text) ∙ ap (λ t. take 2 text ++ t) (e ∙ ap (λ d. d ∷ rest) hyphen) })
  | inr other ↦ inr (λ begins. let cut = begins.2 in let both : c ∷ rest ≡ 45 ∷ begins.1 = sym e ∙ (behind text cut.pair begins.1 begins.0 cut.is cut.parted).1 in other (cc both))
]

cut_or_not : (text : List ℕ) → CutOrNot text
cut_or_not text = cut_by text (drop 2 text) refl (pair_or_not (take 2 text))

shorter : (text rest : List ℕ) (octet : ℕ) → IsCutPair text octet rest → length rest < length text
shorter text rest octet cut = omega (arith, ap length cut.parted, length-append cut.pair (45 ∷ rest))

pairs_from : (left : ℕ) (text rest out : List ℕ) → length rest ≤ left → ReadsPairs text rest [] out → CutOrNot rest → Choice (IsPair rest) → Choice (ArePairs text)
pairs_from left text rest out few r (inr uncut) (inl octet) = inl (r.octets ++ octet.0 ∷ [], r.goes (octet.0 ∷ []) (record { pairs = rest ∷ []; each = (octet.1, tt); parted = refl; some = omega arith }))
pairs_from left text rest out few r (inr uncut) (inr none) = inr (λ whole are. let more = r.comes whole are in take_last rest more.0 more.1.pairs uncut none more.1.each more.1.parted more.1.some)
pairs_from zero text rest out few r (inl begins) last = absurd (omega (arith, shorter rest begins.1 begins.0 begins.2))
pairs_from (suc left) text rest out few r (inl begins) last = pairs_from left text begins.1 (out ++ begins.0 ∷ []) (omega (arith, shorter rest begins.1 begins.0 begins.2)) (pairs_more text rest begins.1 [] out (out ++ begins.0 ∷ []) begins.0 r begins.2 refl) (cut_or_not begins.1) (pair_or_not begins.1)

pairs_or_not : (text : List ℕ) → Choice (ArePairs text)
pairs_or_not text = pairs_from (length text) text text [] (omega arith) (record { octets = []; grown = refl; goes = λ more are. are; comes = λ whole are. (whole, are, refl) }) (cut_or_not text) (pair_or_not text)

eui_by : (count : ℕ) (text : List ℕ) → 0 < count → Choice (ArePairs text) → Choice (StatesEui count text)
eui_by count text some (inr none) = inr (λ octets is. none octets (are_pairs count text octets some is))
eui_by count text some (inl found) = elim (cases_eq (length found.0) count) [
  | inl same ↦ inl (found.0, record { pairs = found.1.pairs; each = found.1.each; parted = found.1.parted; counted = same })
  | inr other ↦ inr (λ octets is. other (let own = eui_length count text found.0 found.1 in let length_is = eui_length count text octets (are_pairs count text octets some is) in let counted = is.counted in omega arith))
]

pub eui_or_not : (count : ℕ) (text : List ℕ) → 0 < count → Choice (StatesEui count text)
eui_or_not count text some = eui_by count text some (pairs_or_not text)
