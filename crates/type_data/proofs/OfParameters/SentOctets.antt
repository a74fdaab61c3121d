-- The octets of parameters whose keys ascend, taken apart.
use Rattle.type_data.proofs.Common.{AllByRecursion, AllByRecursion-append, Ascend, AscendAbove, List, Sent, [], ap, ap₂, append-nil, append_assoc, arith, flat_map, flat_map_more, length, map, refl, sent_octets, subst, sym, to_be_bytes, w16, ℕ, ◌++◌, ◌+◌, ◌<◌, ◌≤◌, ◌∙◌, ◌∷◌, ◌≡◌}
use Rattle.type_data.proofs.OfParameters.Marked.{same_parts}
use Rattle.type_data.specs.Parameters.Machine.Printed.{IsSentFront}
use Rattle.type_data.specs.Parameters.Printed.{HaveOctets, IsSendable}
use Rattle.type_data.proofs.OfKinds.Number.Read.{number_once}

-- each key is greater than the one before it, and the first is `least` or more
abbrev pub AscendFrom : ℕ → List Sent → Type 0
AscendFrom least [] = Unit {0}
AscendFrom least (s ∷ parameters) = (least ≤ s.number) × AscendAbove s.number (map (λ (q : Sent). q.number) parameters)

-- octets of parameters from a key on
pub record Rest (least : ℕ) (rest : List ℕ) : Type 0 where
  pub more : List Sent
  pub each : AllByRecursion IsSendable more
  pub ascend : AscendFrom least more
  pub value : rest ≡ flat_map sent_octets more

-- the parameters up to a place, and what is left
pub record HasSent (octets rest : List ℕ) (parameters : List Sent) (least : ℕ) : Type 0 where
  pub whole : octets ≡ flat_map sent_octets parameters ++ rest
  pub each : AllByRecursion IsSendable parameters
  pub ascend : Ascend parameters
  pub below : AllByRecursion (λ (s : Sent). s.number < least) parameters
  pub only : (all : List Sent) → HaveOctets all octets → Rest least rest

from_first : (all : List Sent) → Ascend all → AscendFrom 0 all
from_first [] a = tt
from_first (s ∷ all) a = (omega arith, a)

pub none_sent : (octets : List ℕ) → HasSent octets octets [] 0
none_sent octets = record { whole = refl; each = tt; ascend = tt; below = tt; only = λ all are. record { more = all; each = are.each; ascend = from_first all are.ascend; value = are.value } }

-- ---- one parameter at the front

abbrev made : ℕ → List ℕ → Sent
made n o = record { number = n; octets = o }

sent_same : (s q : Sent) → s.number ≡ q.number → s.octets ≡ q.octets → s ≡ q
sent_same s q number octets = ap₂ made number octets

front_parts : (s : Sent) (x : List ℕ) → sent_octets s ++ x ≡ to_be_bytes w16 s.number ++ (to_be_bytes w16 (length s.octets) ++ (s.octets ++ x))
front_parts s x = append_assoc (to_be_bytes w16 s.number) (to_be_bytes w16 (length s.octets) ++ s.octets) x ∙ ap (λ t. to_be_bytes w16 s.number ++ t) (append_assoc (to_be_bytes w16 (length s.octets)) s.octets x)

pub record SameFront (s q : Sent) (x y : List ℕ) : Type 0 where
  pub one : s ≡ q
  pub back : x ≡ y

pub front_once : (octets : List ℕ) (s q : Sent) (x y : List ℕ) → IsSentFront octets s x → IsSentFront octets q y → SameFront s q x y
front_once octets s q x y a b =
    let e = sym (front_parts s x) ∙ sym a.whole ∙ b.whole ∙ front_parts q y in
    let keys = same_parts (to_be_bytes w16 s.number) (to_be_bytes w16 q.number) (to_be_bytes w16 (length s.octets) ++ (s.octets ++ x)) (to_be_bytes w16 (length q.octets) ++ (q.octets ++ y)) refl e in
    let lengths = same_parts (to_be_bytes w16 (length s.octets)) (to_be_bytes w16 (length q.octets)) (s.octets ++ x) (q.octets ++ y) refl keys.back in
    let values = same_parts s.octets q.octets x y (number_once (length s.octets) (length q.octets) (omega (arith, a.short)) (omega (arith, b.short)) lengths.front) lengths.back in
    let number = number_once s.number q.number a.number b.number keys.front in
    record { one = sent_same s q number values.front; back = values.back }

-- what sendable octets begin with
front_of : (rest : List ℕ) (q : Sent) (more : List Sent) → IsSendable q → rest ≡ flat_map sent_octets (q ∷ more) → IsSentFront rest q (flat_map sent_octets more)
front_of rest q more is value = record { number = omega (arith, is.valid); short = is.short; each = is.each; whole = value }

some_front : (rest : List ℕ) (s : Sent) (after : List ℕ) → IsSentFront rest s after → rest ≡ [] → ⊥
some_front rest s after front empty = omega (arith, ap length (sym empty ∙ front.whole ∙ front_parts s after))

-- the parameter at the front is the next one
pub record Next (least : ℕ) (s : Sent) (after : List ℕ) : Type 0 where
  pub sendable : IsSendable s
  pub rises : least ≤ s.number
  pub rest : Rest (s.number + 1) after

from_next : (low : ℕ) (more : List Sent) → AscendAbove low (map (λ (q : Sent). q.number) more) → AscendFrom (low + 1) more
from_next low [] a = tt
from_next low (s ∷ more) a = (omega (arith, a.0), a.1)

next_by : (least : ℕ) (rest : List ℕ) (s : Sent) (after : List ℕ) (more : List Sent) → AllByRecursion IsSendable more → AscendFrom least more → rest ≡ flat_map sent_octets more → IsSentFront rest s after → Next least s after
next_by least rest s after [] each ascend value front = absurd (some_front rest s after front value)
next_by least rest s after (q ∷ more) each ascend value front =
    let same = front_once rest q s (flat_map sent_octets more) after (front_of rest q more each.0 value) front in
    subst (λ t. Next least t after) same.one (record { sendable = each.0; rises = ascend.0; rest = record { more = more; each = each.1; ascend = from_next q.number more ascend.1; value = sym same.back } })

pub next_of : (least : ℕ) (rest : List ℕ) (s : Sent) (after : List ℕ) → Rest least rest → IsSentFront rest s after → Next least s after
next_of least rest s after left front = next_by least rest s after left.more left.each left.ascend left.value front

ascend_more : (low : ℕ) (parameters : List Sent) (s : Sent) → low < s.number → AscendAbove low (map (λ (q : Sent). q.number) parameters) → AllByRecursion (λ (q : Sent). q.number < s.number) parameters → AscendAbove low (map (λ (q : Sent). q.number) (parameters ++ s ∷ []))
ascend_more low [] s less a below = (less, tt)
ascend_more low (q ∷ parameters) s less a below = (a.0, ascend_more q.number parameters s below.0 a.1 below.1)

ascend_push : (parameters : List Sent) (s : Sent) → Ascend parameters → AllByRecursion (λ (q : Sent). q.number < s.number) parameters → Ascend (parameters ++ s ∷ [])
ascend_push [] s a below = tt
ascend_push (q ∷ parameters) s a below = ascend_more q.number parameters s below.0 a below.1

below_weaker : (low high : ℕ) (parameters : List Sent) → low ≤ high → AllByRecursion (λ (q : Sent). q.number < low) parameters → AllByRecursion (λ (q : Sent). q.number < high) parameters
below_weaker low high [] up below = tt
below_weaker low high (q ∷ parameters) up below = (omega (arith, up, below.0), below_weaker low high parameters up below.1)

pub sent_more : (octets rest after : List ℕ) (parameters : List Sent) (least : ℕ) (s : Sent) → HasSent octets rest parameters least → IsSentFront rest s after → least ≤ s.number → s.number < 65535 → HasSent octets after (parameters ++ s ∷ []) (s.number + 1)
sent_more octets rest after parameters least s has front rises valid = record {
  whole = has.whole ∙ ap (λ t. flat_map sent_octets parameters ++ t) front.whole ∙ sym (append_assoc (flat_map sent_octets parameters) (sent_octets s) after) ∙ ap (λ t. t ++ after) (flat_map_more sent_octets [] parameters s);
  each = AllByRecursion-append IsSendable parameters (s ∷ []) has.each (record { valid = valid; short = front.short; each = front.each }, tt);
  ascend = ascend_push parameters s has.ascend (below_weaker least s.number parameters rises has.below);
  below = AllByRecursion-append (λ (q : Sent). q.number < s.number + 1) parameters (s ∷ []) (below_weaker least (s.number + 1) parameters (omega (arith, rises)) has.below) (omega arith, tt);
  only = λ all are. (next_of least rest s after (has.only all are) front).rest;
}

pub sent_ended : (octets rest : List ℕ) (parameters : List Sent) (least : ℕ) → HasSent octets rest parameters least → rest ≡ [] → HaveOctets parameters octets
sent_ended octets rest parameters least has empty = record { ascend = has.ascend; each = has.each; value = has.whole ∙ ap (λ t. flat_map sent_octets parameters ++ t) empty ∙ append-nil (flat_map sent_octets parameters) }

no_front : (rest : List ℕ) (more : List Sent) → AllByRecursion IsSendable more → rest ≡ flat_map sent_octets more → 0 < length rest → ((s : Sent) (after : List ℕ) → IsSentFront rest s after → ⊥) → ⊥
no_front rest [] each value some none = omega (arith, some, ap length value)
no_front rest (q ∷ more) each value some none = none q (flat_map sent_octets more) (front_of rest q more each.0 value)

pub sent_cut_short : (octets rest : List ℕ) (parameters : List Sent) (least : ℕ) → HasSent octets rest parameters least → 0 < length rest → ((s : Sent) (after : List ℕ) → IsSentFront rest s after → ⊥) → (all : List Sent) → HaveOctets all octets → ⊥
sent_cut_short octets rest parameters least has some none all are =
    let left = has.only all are in
    no_front rest left.more left.each left.value some none

-- a key that isn't greater than the one before it, or that is none
pub sent_wrong : (octets rest after : List ℕ) (parameters : List Sent) (least : ℕ) (s : Sent) → HasSent octets rest parameters least → IsSentFront rest s after → (least ≤ s.number → s.number < 65535 → ⊥) → (all : List Sent) → HaveOctets all octets → ⊥
sent_wrong octets rest after parameters least s has front wrong all are =
    let next = next_of least rest s after (has.only all are) front in
    wrong next.rises next.sendable.valid
