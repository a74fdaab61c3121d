-- What a reader came to.
use Rattle.std.proofs.Common.{◌≡◌, ℕ, ◌≤◌, ◌∙◌, List, [], ◌∷◌, length, refl, ap, sym, subst, arith}
use Rattle.std.specs.List.{flat_map}
use Rattle.zone_name.specs.Common.{Labels}
use Rattle.zone_rdata.specs.FedSource.{is_finished}
use Rattle.zone_rdata.specs.declared.fed.FedStatus.TheVariants.{Finished}
use Rattle.zone_text.proofs.Tokens.Cuttings.{one_cut}
use Rattle.zone_text.specs.Entries.{entry_of, item_of}
use Rattle.zone_text.specs.Tokens.{Token, text}
use Rattle.zone_words.proofs.OneRewriting.{one_rewriting}
use Rattle.type_data.specs.DataItem.{TouchingItem}
use Rattle.zone_words.specs.Entry.{BecomesUnder, IsRewriting, SaysAnew, anew, in_generic_form, in_words, kept, most_items, refused}
use Rattle.zone_words.specs.Rewriter.{RewriterState, StandsForRewriting}
use Rattle.zone_words.specs.Rewriting.{Outcome, Refused}
use Rattle.zone_words.specs.Written.{Anew}
use Rattle.words_print.proofs.Joined.{LineBecomes, line_becomes}
use Rattle.words_print.specs.Machine.Found.{StatesInFew}
use Rattle.words_print.specs.Shown.{HasTooManyItems, IsRecordInWords}

nothing_told : (told : List Refused) (count : ℕ) → count ≡ length told → count ≡ 0 → told ≡ []
nothing_told [] count same none = refl
nothing_told (it ∷ told) count same none = absurd (omega (arith, same, none))

pub read_as : (origin : Labels) (reader : RewriterState) (octets wanted : List ℕ) → StandsForRewriting origin reader octets [] → reader.status ≡ Finished → reader.held.told.count ≡ 0 → reader.held.written ≡ wanted → IsRewriting origin octets wanted []
read_as origin reader octets wanted is finished none same =
    subst (λ new. IsRewriting origin octets new []) same
    (subst (λ told. IsRewriting origin octets reader.held.written told) (nothing_told is.told reader.held.told.count is.in_short.count none)
    (is.all (ap is_finished finished)))

told_once : (told : List Refused) (count : ℕ) → count ≡ length told → told ≡ [] → count ≡ 0
told_once told count same none = same ∙ ap length none

pub not_read_as : (origin : Labels) (reader : RewriterState) (octets wanted : List ℕ) → StandsForRewriting origin reader octets [] → reader.status ≡ Finished → (reader.held.told.count ≡ 0 → reader.held.written ≡ wanted → ⊥) → IsRewriting origin octets wanted [] → ⊥
not_read_as origin reader octets wanted is finished other rewriting =
    let same = one_rewriting origin octets reader.held.written wanted is.told [] (is.all (ap is_finished finished)) rewriting in
    other (told_once is.told reader.held.told.count is.in_short.count same.told_same) same.written

-- ---- a record in words of very many items

not_many : (wanted shown : List ℕ) → StatesInFew wanted → (record_is : IsRecordInWords wanted shown) → (many : HasTooManyItems shown) → LineBecomes record_is.states.tokens wanted → ⊥
not_many wanted shown few record_is many line =
    let same : many.tokens ≡ record_is.states.tokens = one_cut shown many.tokens record_is.states.tokens many.one.cut record_is.states.one.cut in
    let least : most_items ≤ length (flat_map item_of record_is.states.tokens) = subst (λ t. most_items ≤ length (flat_map item_of t)) same many.many in
    by_outcome record_is.states.tokens line.outcome least line.is line.none (λ kept_is. few.few (subst HasTooManyItems (record_is.states.one.cut.whole ∙ sym (line.new_is ∙ ap text kept_is)) many))
  where
    says_few : (tokens : List Token) (word : List ℕ) (items : List TouchingItem) (it : Anew) → most_items ≤ length (flat_map item_of tokens) → SaysAnew [] [] (entry_of 1 tokens) word items it → ⊥
    says_few tokens word items it least (in_generic_form f above is few lines generic mnemonic) = omega (arith, least, few)
    says_few tokens word items it least (in_words f above octets is few lines words states) = omega (arith, least, few)

    by_outcome : (tokens : List Token) (outcome : Outcome) → most_items ≤ length (flat_map item_of tokens) → BecomesUnder [] [] 1 tokens outcome → outcome.told ≡ [] → (outcome.written ≡ tokens → ⊥) → ⊥
    by_outcome tokens outcome least (anew front back it say e) none kept_not = says_few tokens _ _ it least say.says
    by_outcome tokens outcome least (refused it fail e) none kept_not = absurd (let bad : it ∷ [] ≡ [] = sym (ap (λ (o : Outcome). o.told) e) ∙ none in cc bad)
    by_outcome tokens outcome least (kept no_say no_fail e) none kept_not = kept_not (ap (λ (o : Outcome). o.written) e)

pub many_not_in_words : (wanted shown : List ℕ) → StatesInFew wanted → HasTooManyItems shown → IsRecordInWords wanted shown → ⊥
many_not_in_words wanted shown few many record_is =
    not_many wanted shown few record_is many (line_becomes shown wanted record_is.states record_is.under_root)
