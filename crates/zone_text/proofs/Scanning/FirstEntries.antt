-- The entry at the front of a piece, and line feeds.
use Rattle.zone_text.proofs.Common.{EntrySplitter, IsFirstEntry, IsOneEntry, IsSplitter, KeepsItems, List, None, RawItem, ReadsOctets, Token, [], ap, arith, drop, false, length, length-append, refl, rules, take, take-append-drop, ℕ, ◌++◌, ◌+◌, ◌∙◌, ◌∷◌, ◌≡◌, common_steps, AllByRecursion, Bool, cond, eqb-true, list_any, nat_eq, sum_by-append, sum_by-cons, zero-add, ◌==◌}
use Rattle.zone_text.proofs.Scanning.FedPieces.{FollowsOn, HasFed, fed_more}
use Rattle.zone_text.proofs.Tokens.Cuttings.{one_cut}
use Rattle.zone_text.proofs.Files.Followed.{follow_one}
use Rattle.zone_text.proofs.Files.Left.{line_feeds}
use Rattle.zone_text.specs.OpenEntry.{HeldEntry}

-- ---- line feeds

pub feeds_of_both : (xs ys : List ℕ) → line_feeds (xs ++ ys) ≡ line_feeds xs + line_feeds ys
feeds_of_both xs ys = sum_by-append (λ c. cond (c == 10) 1 0) xs ys

pub none_of_any : (xs : List ℕ) → list_any (λ y. nat_eq y 10) xs ≡ false → line_feeds xs ≡ 0
none_of_any [] none = refl
none_of_any (y ∷ xs) none = grind (arith, common_steps, sum_by-cons, none_of_any xs)

pub other_than_ten : (is : ℕ → Bool) (b : Bool) → (is 10 ≡ b → ⊥) → (c : ℕ) → is c ≡ b → (c == 10) ≡ false
other_than_ten is b not c e = grind (arith, common_steps, eqb-true)

pub none_first : (c : ℕ) (xs : List ℕ) → (c == 10) ≡ false → line_feeds (c ∷ xs) ≡ line_feeds xs
none_first c xs e = sum_by-cons (λ d. cond (d == 10) 1 0) c xs ∙ ap (λ (b : Bool). cond b 1 0 + line_feeds xs) e ∙ zero-add (line_feeds xs)

pub none_in : (P : ℕ → Type 0) → ((c : ℕ) → P c → (c == 10) ≡ false) → (xs : List ℕ) → AllByRecursion P xs → line_feeds xs ≡ 0
none_in P other [] each = refl
none_in P other (c ∷ xs) each = none_first c xs (other c each.0) ∙ none_in P other xs each.1

-- ---- the items of the first entry

pub keeps_items : (octets part : List ℕ) (n : ℕ) (kept : List RawItem) → IsFirstEntry octets n kept → part ≡ take n octets → KeepsItems part kept
keeps_items octets part n kept first front tokens cut = search (rules, one_cut part first.tokens tokens)

-- ---- the entry at the front of a piece

fed_one : (old mid new : EntrySplitter) (piece rest part after : List ℕ) (tokens : List Token) → HasFed old mid piece rest → mid.ended.decided.ending ≡ None → mid.unfinished.octets ≡ [] → IsOneEntry part tokens → rest ≡ part ++ after → ReadsOctets part mid.ended new.ended → new.unfinished ≡ mid.unfinished → HasFed old new piece after
fed_one old mid new piece rest part after tokens before none empty one whole reads same =
    let len : length rest ≡ length part + length after = ap length whole ∙ length-append part after in
    let held : new.unfinished.octets ≡ mid.unfinished.octets = ap (λ (h : HeldEntry). h.octets) same in
    let follow : FollowsOn mid.ended [] new.ended [] part = λ origin fed given f. follow_one origin mid.ended new.ended [] part fed given tokens one none reads f in
    let is : IsSplitter new.ended new.unfinished = record {
      state = ap (λ (h : HeldEntry). h.state) same ∙ before.is.state;
      dropped = λ found e. held ∙ empty;
      line = omega (arith, before.is.line, reads.later);
    } in
    fed_more old mid new piece rest part after before none whole len is (omega (arith, reads.near, ap length held)) (rw (held, empty) follow)

pub fed_entry : (old mid new : EntrySplitter) (piece rest part after : List ℕ) (n : ℕ) (raws : List RawItem) → HasFed old mid piece rest → mid.ended.decided.ending ≡ None → mid.unfinished.octets ≡ [] → IsFirstEntry rest n raws → part ≡ take n rest → after ≡ drop n rest → ReadsOctets part mid.ended new.ended → new.unfinished ≡ mid.unfinished → HasFed old new piece after
fed_entry old mid new piece rest part after n raws before none empty first front back reads same = search (rules, fed_one old mid new piece rest part after first.tokens before none empty, take-append-drop n rest)
