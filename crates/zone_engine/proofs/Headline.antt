-- The parts of the sentence that the program stands for.
use Rattle.zone_engine.proofs.Common.{◌≡◌, ◌↔◌, ◌⊎◌, ℕ, ◌<◌, ◌≤◌, List, length, refl, sym, ap, ◌∙◌, subst, ⊎_elim, arith, Appends, AllByRecursion, AtMostOneIs, Labels, NothingIs, Octets, Fault, Place, IsZone, Zone, canon, text_limit, Denotes, Verdict, Compares, IsVerdictOnTexts, file, Input, InputDenotes, IsInput, Normalises, NormalisesTo, IsRefusal, IsRefused, rules, Option, Same}
use Rattle.zone_wire.specs.Name.{Found, IsNameAt}
use Rattle.zone_wire.specs.Walk.{Visit, IsWalk}
use Rattle.zone_engine.specs.Headline.{DenoteOne, DenotesOnly, IsBoundedWalk, NormalisesOnlyTo}

abbrev OneZone : Type 0
OneZone = (input : Input) → AtMostOneIs (InputDenotes input)

abbrev ReadsBack : Type 0
ReadsBack = (origin : Labels) (z : Zone) → IsZone z → length (canon z) ≤ text_limit → Denotes origin (canon z) z

-- ---- zones

pub equal_if_one : OneZone → ((z w : Zone) → IsZone z → IsZone w → (canon z ≡ canon w) ↔ (z ≡ w))
    → (a b : Input) (z w : Zone) → InputDenotes a z → InputDenotes b w → (canon z ≡ canon w) ↔ DenoteOne a b
equal_if_one one equal a b z w of_a of_b = (
  λ same. (z, of_a, subst (InputDenotes b) (sym ((equal z w of_a.makes.zone of_b.makes.zone).0 same)) of_b),
  λ (v, a_v, b_v). ap canon (one a z v of_a a_v ∙ one b v w b_v of_b),
)

back : ReadsBack → (input : Input) (z : Zone) (origin : Labels) → InputDenotes input z → InputDenotes (file origin (canon z)) z
back reads input z origin denotes = reads origin z denotes.makes.zone denotes.makes.text_short

pub back_only : OneZone → ReadsBack → (input : Input) (z : Zone) (origin : Labels) → InputDenotes input z → DenotesOnly (file origin (canon z)) z
back_only one reads input z origin denotes = search (rules, back)

pub to_itself : OneZone → ReadsBack → (input : Input) (z : Zone) (origin : Labels) → InputDenotes input z → NormalisesOnlyTo (file origin (canon z)) (canon z)
to_itself one reads input z origin denotes =
    let itself : InputDenotes (file origin (canon z)) z = back reads input z origin denotes in
    record {
      normalises = record { zone = z; denotes = itself; canonical = λ i. canon z };
      no_other = λ other to. to.canonical ∙ ap canon (one (file origin (canon z)) to.zone z to.denotes itself);
    }

pub refused_if_none : ((input : Input) (fault : Fault) (place : Place) → IsRefusal input fault place → NothingIs (InputDenotes input))
    → ((input : Input) → IsInput input → ((fault : Fault) × (place : Place) × IsRefusal input fault place) ⊎ ((z : Zone) × InputDenotes input z))
    → (input : Input) → IsInput input → IsRefused input ↔ NothingIs (InputDenotes input)
refused_if_none never either input is = (
  λ (fault, place, refused). never input fault place refused,
  λ none. ⊎_elim (λ refused. refused) (λ (z, denotes). absurd (none z denotes)) (either input is),
)

pub bounded_walk : ((message : Octets) (offset : ℕ) → (visits : List Visit) × (ending : Option Fault) × IsWalk message offset visits ending)
    → ((message : Octets) (offset : ℕ) (visits : List Visit) (ending : Option Fault) → IsWalk message offset visits ending → length visits ≤ 256)
    → ((message : Octets) (offset : ℕ) (visits : List Visit) (ending : Option Fault) → IsWalk message offset visits ending → AllByRecursion (λ visit. visit.offset < length message) visits)
    → ((message : Octets) (offset : ℕ) (found : Found) (visits : List Visit) (ending : Option Fault) → IsNameAt message offset found → IsWalk message offset visits ending → length visits ≡ found.steps)
    → (message : Octets) (offset : ℕ) → (visits : List Visit) × IsBoundedWalk message offset visits
bounded_walk some few inside steps message offset =
    let (visits, ending, walk) = some message offset in (
      visits,
      record {
        ending = ending;
        walk = walk;
        few = few message offset visits ending walk;
        inside = inside message offset visits ending walk;
        steps = λ found is. sym (steps message offset found visits ending is walk);
      },
    )

-- ---- texts

pub texts_equal_if_one : ((a b : Input) (z w : Zone) → InputDenotes a z → InputDenotes b w → (canon z ≡ canon w) ↔ DenoteOne a b)
    → (a b : Input) (text other : Octets) → NormalisesTo a text → NormalisesTo b other → (text ≡ other) ↔ DenoteOne a b
texts_equal_if_one equal a b text other to too =
    let zones : (canon to.zone ≡ canon too.zone) ↔ DenoteOne a b = equal a b to.zone too.zone to.denotes too.denotes in
    (λ same. zones.0 (sym to.canonical ∙ same ∙ too.canonical), λ one. to.canonical ∙ zones.1 one ∙ sym too.canonical)

pub text_back : ((input : Input) (z : Zone) (origin : Labels) → InputDenotes input z → DenotesOnly (file origin (canon z)) z)
    → (input : Input) (text : Octets) (origin : Labels) → NormalisesTo input text → DenoteOne input (file origin text)
text_back reads input text origin to = grind arith

pub text_to_itself : ((input : Input) (z : Zone) (origin : Labels) → InputDenotes input z → NormalisesOnlyTo (file origin (canon z)) (canon z))
    → (input : Input) (text : Octets) (origin : Labels) → NormalisesTo input text → NormalisesOnlyTo (file origin text) text
text_to_itself again input text origin to =
    subst (λ t. NormalisesOnlyTo (file origin t) t) (sym to.canonical) (again input to.zone origin to.denotes)

-- what normalising wrote
pub written_text : (input : Input) (old new : Option Octets) (count : ℕ) → Normalises input old new count → (text : Octets) × NormalisesTo input text × Appends old new text
written_text input old new count is = (canon is.zone, record { zone = is.zone; denotes = is.denotes; canonical = refl }, is.written)

-- ---- comparisons

pub same_if_one : ((a b : Input) (z w : Zone) → InputDenotes a z → InputDenotes b w → (canon z ≡ canon w) ↔ DenoteOne a b)
    → (first second : Input) (verdict : Verdict) → Compares first second verdict → (verdict ≡ Same) ↔ DenoteOne first second
same_if_one equal first second verdict is =
    let zones : (canon is.zone ≡ canon is.other) ↔ DenoteOne first second = equal first second is.zone is.other is.denotes is.other_denotes in
    (λ same. zones.0 (subst (λ v. IsVerdictOnTexts v (canon is.zone) (canon is.other)) same is.judged), λ one. (grind (arith, is.judged, zones.1 one)))

one_judgement : (verdict another : Verdict) (text other : Octets) → IsVerdictOnTexts verdict text other → IsVerdictOnTexts another text other → verdict ≡ another
one_judgement verdict another text other is too = grind arith

pub one_verdict : OneZone → (first second : Input) → AtMostOneIs (Compares first second)
one_verdict one first second verdict another is too =
    let zone : is.zone ≡ too.zone = one first is.zone too.zone is.denotes too.denotes in
    let other : is.other ≡ too.other = one second is.other too.other is.other_denotes too.other_denotes in
    one_judgement verdict another (canon too.zone) (canon too.other)
    (subst (λ w. IsVerdictOnTexts verdict (canon too.zone) (canon w)) other (subst (λ z. IsVerdictOnTexts verdict (canon z) (canon is.other)) zone is.judged))
    too.judged
