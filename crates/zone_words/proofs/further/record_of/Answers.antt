use Rattle.zone_words.proofs.Common.{FurtherType, IsFurtherWord, ap, false, further_of, map, raw, subst, sym, true, ◌∙◌, ◌∷◌, ◌≡◌}
use Rattle.zone_rdata.specs.Item.{bare}
use Rattle.type_data.proofs.FurtherWords.{further_word_once}
use Rattle.zone_words.proofs.further.record_of.Goals as goal

pub returns-then-not-is_internet-clause-none : goal.returns-then-not-is_internet-clause-none
returns-then-not-is_internet-clause-none c all read word items further are =
    let e : bare c.in-Some.word.now ∷ map raw c.in-Some.after.now ≡ bare word ∷ items = sym c.in-Some.ensures.found ∙ sym read.rest ∙ are.from_type in
    let h : bare c.in-Some.word.now ≡ bare word = cc e in
    let w : c.in-Some.word.now ≡ word = cc h in
    let same : further_of c.in-Some-further_type_of.further.now ≡ further = further_word_once word _ further (subst (λ t. IsFurtherWord t (further_of c.in-Some-further_type_of.further.now)) w c.in-Some-further_type_of.ensures.found) are.named in
    let alone : further.in_internet_alone ≡ true = sym (ap (λ (f : FurtherType). f.in_internet_alone) same) ∙ c.if-further.true in
    let is = are.class alone in
    absurd (let no : false ≡ true = sym c.if-not-is_internet.true ∙ is in cc)
