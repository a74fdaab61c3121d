-- An entry read after others: what it states, or its fault.
use Rattle.zone_text.proofs.Common.{AppendsRecord, Cuts, DecidesEntry, EndedEntries, Entry, EntryFault, Err, Fault, IfFault, IsStateAfter, Labels, Line, List, None, Some, Ok, OnOk, Option, ParserState, PendingRecords, Place, Placed, ReadsEntry, ReadsOctets, Result, Token, [], ap, append-nil, arith, decides_fault, decides_none, decides_one, entry_of, length, refl, refused, rules, stated, states_one, subst, sym, ℕ, ◌+◌, ◌∙◌, ◌∷◌, ◌≡◌, ◌≤◌}
use Rattle.zone_rdata.specs.declared.fault.Failing.{Failing}
use Rattle.zone_rdata.specs.declared.fault.Failing.TheVariants as failings
use Rattle.zone_text.proofs.Files.Left.{line_feeds}

-- what octets decide as the entry after others, whatever these are
abbrev pub DecidesOctets : List ℕ → Place → ParserState → PendingRecords → PendingRecords → ParserState → Type 0
DecidesOctets octets place d old new next =
    (origin : Labels) (before : List Entry) (line : ℕ) (tokens : List Token) → IsStateAfter origin before d → Cuts octets tokens → DecidesEntry origin before (entry_of line tokens) place old new next

-- the line after octets
pub record IsLineAfter (octets : List ℕ) (old new : EndedEntries) : Type 0 where
  pub count : new.line ≡ old.line + line_feeds octets
  pub few : line_feeds octets ≤ length octets

pub lines_after : (octets : List ℕ) (old new : EndedEntries) (n : ℕ) → n ≡ line_feeds octets → n ≤ length octets → new.line ≡ old.line + n → IsLineAfter octets old new
lines_after octets old new n count few line = omega arith

-- what an entry decides is what is read of it
entry_read : (origin : Labels) (before : List Entry) (tokens : List Token) (octets : List ℕ) (old new : EndedEntries) → old.decided.ending ≡ None → IsLineAfter octets old new → Cuts octets tokens → DecidesEntry origin before (entry_of old.line tokens) (Line old.line) old.decided new.decided new.state → ReadsEntry origin before tokens old new
entry_read origin before tokens octets old new none after cut (decides_none leaves same) = search rules
entry_read origin before tokens octets old new none after cut (decides_one r states are more same) =
    let p : Placed = record { rr = r; place = Line old.line } in
    record {
      others = p ∷ [];
      read = stated (states_one p [] states refl refl (refl, same ∙ none));
      records = more;
      state = λ _. are;
      line = λ _. after.count ∙ ap (λ t. old.line + line_feeds t) cut.whole;
    }
entry_read origin before tokens octets old new none after cut (decides_fault fault bad same ending) = record {
  others = [];
  read = refused fault bad refl ending;
  records = same ∙ sym (append-nil old.decided.placed);
  state = λ going. absurd cc;
  line = λ going. absurd cc;
}

pub takes_entry : (octets : List ℕ) (old new : EndedEntries) → DecidesOctets octets (Line old.line) old.state old.decided new.decided new.state → old.decided.ending ≡ None → IsLineAfter octets old new → ReadsOctets octets old new
takes_entry octets old new decides none after = search (rules, entry_read)

-- what is refused decides its fault
pub refused_entry : {T E : Type 0} (result : Result T E) (origin : Labels) (before : List Entry) (entry : Entry) (place : Place) (old new : PendingRecords) (next : ParserState) (failing : Failing) → IfFault (EntryFault origin before entry) failing → OnOk result ((fault : Fault) × (failing ≡ failings.Fault fault) × (new ≡ record old { ending = Some (fault, place) })) → OnOk result (DecidesEntry origin before entry place old new next)
refused_entry (Ok x) origin before entry place old new next failing bad refuses =
    decides_fault refuses.0 (subst (IfFault (EntryFault origin before entry)) refuses.1 bad) (ap (λ d. d.placed) refuses.2) (ap (λ d. d.ending) refuses.2)
refused_entry (Err e) origin before entry place old new next failing bad refuses = tt

-- a record that comes after others is what its entry decides
pub appended_decides : {T E : Type 0} (result : Result T E) (origin : Labels) (before : List Entry) (entry : Entry) (place : Place) (old new : List Placed) (ending : Option (Fault × Place)) (next : ParserState) → OnOk result (AppendsRecord origin before entry place old new next) → OnOk result (DecidesEntry origin before entry place (record { placed = old; ending = ending }) (record { placed = new; ending = ending }) next)
appended_decides (Ok x) origin before entry place old new ending next appends = decides_one appends.stated appends.states appends.left appends.appended refl
appended_decides (Err e) origin before entry place old new ending next appends = tt
