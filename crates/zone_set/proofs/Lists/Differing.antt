-- Records that differ, and how many octets they take.
use Rattle.std.proofs.Common.{max}
use Rattle.std.specs.Prelude.{IfOk}
use Rattle.zone_set.proofs.Common.{AllByRecursion, Bool, Entry, Err, Has, IsEntry, IsHint, IsRecord, KeepsList, List, Ok, OnErr, Place, Placed, Record, Result, [], common_steps, false, true, all_records, ap, append-nil, append_assoc, arith, drop, entry_record, flat_map, inl, inr, length, length-append, listed, map, map-append, min, records_of, refl, span, stored, subst, sym, take, take-append-drop, ℕ, ◌*◌, ◌++◌, ◌+◌, ◌-◌, ◌/◌, ◌^◌, ◌∙◌, ◌∷◌, ◌≡◌, ◌≤◌}
use Rattle.zone_set.proofs.Hints.HintOrder.{one_hint}
use Rattle.zone_set.proofs.Lists.ListPush.{records_listed}
use Rattle.zone_set.proofs.Lists.Looking.{each_take}
use Rattle.zone_set.proofs.Lists.Repeats.{span_of}
use Rattle.zone_set.proofs.Ordering.Between.{Has-append}
use Rattle.zone_set.specs.Bounded.{AreDifferent, AreSomeOf, IsBoundedBy, kept_len}
use Rattle.zone_set.specs.Machine.Distinct.{IsSeen, number_of}
use Rattle.zone_set.specs.Machine.Marks.{HasDifferent, IsMark, IsWithinMark}
use Rattle.zone_set.specs.declared.distinct.Look.{Look}
use Rattle.zone_set.specs.declared.distinct.Seen.{Seen}

-- ---- marks

-- with no record
pub within_first : IsWithinMark 262144 []
within_first = record { marked = record { some = []; are = record { differ = tt; among = tt }; reach = omega arith }; below = omega arith }

among_more : (records : List Record) (r : Record) (some : List Record) → AllByRecursion (Has records) some → AllByRecursion (Has (records ++ r ∷ [])) some
among_more records r [] all = tt
among_more records r (s ∷ some) all = ((Has-append records (r ∷ []) s).1 (inl all.0), among_more records r some all.1)

-- a mark stays one when a record comes
mark_more : (mark : ℕ) (records : List Record) (r : Record) → IsMark mark records → IsMark mark (records ++ r ∷ [])
mark_more mark records r m = record { some = m.some; are = record { differ = m.are.differ; among = among_more records r m.some m.are.among }; reach = m.reach }

-- the octets that keep a record
stored_len : (r : Record) → length (stored r) ≡ kept_len (r ∷ [])
stored_len r = grind (arith, common_steps, length-append)

kept_stored : (records : List Record) → length (flat_map stored records) ≡ kept_len records
kept_stored [] = refl
kept_stored (r ∷ records) = omega (arith, length-append (stored r) (flat_map stored records), stored_len r, kept_stored records)

-- a record takes its own octets more
kept_more : (records : List Record) (r : Record) → kept_len (records ++ r ∷ []) ≡ kept_len records + length (stored r)
kept_more [] r = omega (arith, stored_len r)
kept_more (s ∷ records) r = omega (arith, kept_more records r)

all_among : (before records : List Record) → AllByRecursion (Has (before ++ records)) records
all_among before [] = tt
all_among before (r ∷ records) =
    ((Has-append before (r ∷ records) r).1 (inr (inl refl)), subst (λ l. AllByRecursion (Has l) records) (append_assoc before (r ∷ []) records) (all_among (before ++ r ∷ []) records))

-- where all differ
pub mark_of_different : (mark : ℕ) (records : List Record) → AreDifferent records → mark ≤ max 262144 (8 * kept_len records) → IsMark mark records
mark_of_different mark records differ reach = record { some = records; are = record { differ = differ; among = all_among [] records }; reach = reach }

-- where those that differ are so many
pub mark_of_many : (mark least : ℕ) (records : List Record) → HasDifferent records least → mark ≤ max 262144 (8 * least) → IsMark mark records
mark_of_many mark least records has reach = record { some = has.some; are = has.are; reach = omega (arith, reach, has.reach) }

-- what is kept is bounded
pub bounded_within : (mark : ℕ) (records : List Record) → IsWithinMark mark records → IsBoundedBy 8 327943 records
bounded_within mark records m = record { some = m.marked.some; are = m.marked.are; bound = omega (arith, m.marked.reach, m.below) }

-- ---- records that are counted

-- the number of a record was seen
abbrev pub IsSeenAs : List (List ℕ) → Look → Seen → Record → Type 0
IsSeenAs base look seen r = (hint : ℕ) × IsHint base r.owner r.kind hint × IsSeen seen (number_of look hint (stored r))

-- records of entries that were looked at, which differ and take so many octets or more
pub record HasCounted (base : List (List ℕ)) (class : ℕ) (octets : List ℕ) (entries : List Entry) (look : Look) (left : List Entry) (count : ℕ) (seen : Seen) : Type 0 where
  pub some : List Record
  pub are : AreSomeOf (all_records class octets entries) some
  pub reach : count ≤ kept_len some
  pub known : AllByRecursion (IsSeenAs base look seen) some
  pub each : AllByRecursion (IsEntry base class octets) left
  pub among : (r : Record) → Has (all_records class octets left) r → Has (all_records class octets entries) r

pub HasCounted-none : (base : List (List ℕ)) (class : ℕ) (octets : List ℕ) (entries : List Entry) (look : Look) (seen : Seen) → AllByRecursion (IsEntry base class octets) entries → HasCounted base class octets entries look entries 0 seen
HasCounted-none base class octets entries look seen each = record { some = []; are = record { differ = tt; among = tt }; reach = omega arith; known = tt; each = each; among = λ r has. has }

module _ (base : List (List ℕ)) (class : ℕ) (octets : List ℕ) (entries : List Entry) (look : Look) (e : Entry) (left : List Entry) (count : ℕ) (seen after : Seen) (stay : (n : ℕ) → IsSeen seen n → IsSeen after n) (had : HasCounted base class octets entries look (e ∷ left) count seen) where
  stay_each : (rs : List Record) → AllByRecursion (IsSeenAs base look seen) rs → AllByRecursion (IsSeenAs base look after) rs
  stay_each [] each = tt
  stay_each (r ∷ rs) each = ((each.0.0, each.0.1, stay _ each.0.2), stay_each rs each.1)

  -- a record that isn't counted
  pub HasCounted-passed : HasCounted base class octets entries look left count after
  HasCounted-passed = record { some = had.some; are = had.are; reach = had.reach; known = stay_each had.some had.known; each = had.each.1; among = λ r has. had.among r (inr has) }

  abbrev Own : Record
  Own = entry_record class octets e

  spans : span octets e.at ≡ stored Own
  spans = span_of class octets e had.each.0.linked

  -- an equal one was seen
  seen_equal : (rs : List Record) → AllByRecursion (IsSeenAs base look seen) rs → Has rs Own → IsSeen seen (number_of look e.hint (span octets e.at))
  seen_equal [] each has = absurd has
  seen_equal (r ∷ rs) each (inl same) =
      let own : IsSeenAs base look seen Own = subst (IsSeenAs base look seen) (sym same) each.0 in
      let hints : own.0 ≡ e.hint = one_hint base Own.owner Own.kind own.0 e.hint had.each.0.linked.whole.owner own.1 had.each.0.hinted in
      subst (λ l. IsSeen seen (number_of look e.hint l)) (sym spans) (subst (λ h. IsSeen seen (number_of look h (stored Own))) hints own.2)
  seen_equal (r ∷ rs) each (inr more) = seen_equal rs each.1 more

  -- one that is
  pub HasCounted-more : (n more : ℕ) (record_octets : List ℕ) → record_octets ≡ span octets e.at → n ≡ number_of look e.hint record_octets → (IsSeen seen n → ⊥) → IsSeen after n → more ≤ count + length record_octets → HasCounted base class octets entries look left more after
  HasCounted-more n more own is_own is fresh now counts = record {
    some = Own ∷ had.some;
    are = record {
      differ = (λ has. fresh (subst (IsSeen seen) (sym number) (seen_equal had.some had.known has)), had.are.differ);
      among = (had.among Own (inl refl), had.are.among);
    };
    reach = omega (arith, counts, had.reach, stored_len Own, ap length (is_own ∙ spans));
    known = ((e.hint, had.each.0.hinted, subst (IsSeen after) (number ∙ ap (number_of look e.hint) spans) now), stay_each had.some had.known);
    each = had.each.1;
    among = λ r has. had.among r (inr has);
  }
    where
      number : n ≡ number_of look e.hint (span octets e.at)
      number = is ∙ ap (number_of look e.hint) is_own

-- those that counted are so many
pub HasDifferent-counted : (base : List (List ℕ)) (class : ℕ) (octets : List ℕ) (entries left : List Entry) (look : Look) (count least : ℕ) (seen : Seen) → HasCounted base class octets entries look left count seen → least + 1 ≤ count → HasDifferent (all_records class octets entries) (least + 1)
HasDifferent-counted base class octets entries left look count least seen had high = record { some = had.some; are = had.are; reach = omega (arith, had.reach, high) }

-- different ones among some first records are among all
pub HasDifferent-front : (records others : List Record) (least : ℕ) → HasDifferent records least → HasDifferent (records ++ others) least
HasDifferent-front records others least has = record { some = has.some; are = record { differ = has.are.differ; among = wider has.some has.are.among }; reach = has.reach }
  where
    wider : (rs : List Record) → AllByRecursion (Has records) rs → AllByRecursion (Has (records ++ others)) rs
    wider [] each = tt
    wider (r ∷ rs) each = ((Has-append records others r).1 (inl each.0), wider rs each.1)

-- ---- what is listed

module _ {class : ℕ} {base : List (List ℕ)} {octets : List ℕ} {es : List Entry} {ps : List Place} (keeps : KeepsList class base octets es ps) where
  -- its octets keep it
  pub kept_octets : length octets ≡ kept_len (records_of (listed class octets es ps))
  kept_octets = ap length keeps.kept.kept ∙ kept_stored (all_records class octets es) ∙ ap kept_len (sym (records_listed keeps))

  -- different ones among some first entries
  front_different : (n least : ℕ) (first : List Entry) → first ≡ take n es → HasDifferent (all_records class octets first) least → HasDifferent (records_of (listed class octets es ps)) least
  front_different n least first is has =
      let parts : all_records class octets first ++ all_records class octets (drop n es) ≡ all_records class octets es = ap (λ l. all_records class octets l ++ all_records class octets (drop n es)) is ∙ sym (map-append (entry_record class octets) (take n es) (drop n es)) ∙ ap (map (entry_record class octets)) (take-append-drop n es) in
      subst (λ rs. HasDifferent rs least) (parts ∙ sym (records_listed keeps)) (HasDifferent-front (all_records class octets first) (all_records class octets (drop n es)) least has)

  -- seen in a quarter of the octets, among some first entries
  pub mark_of_quick : (mark n least : ℕ) (slice : List ℕ) (entries first : List Entry) → slice ≡ octets → entries ≡ es → first ≡ take n entries → ((b : List (List ℕ)) (k : ℕ) → AllByRecursion (IsEntry b k slice) first → HasDifferent (all_records k slice first) (least + 1)) → least ≡ length slice / 4 → mark ≡ max 262144 (min (length slice * 2) (2 ^ 64 - 1)) → IsMark mark (records_of (listed class octets es ps))
  mark_of_quick mark n least slice entries first is_slice is_entries is_first seen share sets =
      let front : first ≡ take n es = is_first ∙ ap (take n) is_entries in
      let each : AllByRecursion (IsEntry base class slice) first = subst (λ s. AllByRecursion (IsEntry base class s) first) (sym is_slice) (subst (AllByRecursion (IsEntry base class octets)) (sym front) (each_take (IsEntry base class octets) n es keeps.each)) in
      let has : HasDifferent (all_records class octets first) (least + 1) = subst (λ s. HasDifferent (all_records class s first) (least + 1)) is_slice (seen base class each) in
      mark_of_many mark (least + 1) _ (front_different n (least + 1) first front has) (omega (arith, share, sets))

  -- seen in a quarter of the octets, among all
  pub mark_of_whole : (mark least : ℕ) (slice : List ℕ) (entries : List Entry) → slice ≡ octets → entries ≡ es → ((b : List (List ℕ)) (k : ℕ) → AllByRecursion (IsEntry b k slice) entries → HasDifferent (all_records k slice entries) (least + 1)) → least ≡ length slice / 4 → mark ≡ max 262144 (min (length slice * 2) (2 ^ 64 - 1)) → IsMark mark (records_of (listed class octets es ps))
  mark_of_whole mark least slice entries is_slice is_entries seen share sets =
      let each : AllByRecursion (IsEntry base class slice) entries = subst (λ s. AllByRecursion (IsEntry base class s) entries) (sym is_slice) (subst (AllByRecursion (IsEntry base class octets)) (sym is_entries) keeps.each) in
      let has : HasDifferent (all_records class octets es) (least + 1) = subst (λ l. HasDifferent (all_records class octets l) (least + 1)) is_entries (subst (λ s. HasDifferent (all_records class s entries) (least + 1)) is_slice (seen base class each)) in
      mark_of_many mark (least + 1) _ (subst (λ rs. HasDifferent rs (least + 1)) (sym (records_listed keeps)) has) (omega (arith, share, sets))

-- a mark is not below what is kept
pub below_mark : (len mark growth : ℕ) → len ≤ 2 ^ 64 - 1 → len ≤ growth → mark ≡ max 262144 (min growth (2 ^ 64 - 1)) → len ≤ mark
below_mark len mark growth most grown is = omega (arith, most, grown, is)

-- ---- one more record

-- a record takes at most its head, an owner of 255 octets and data of 65,535
stored_most : (r : Record) → IsRecord r → length (stored r) ≤ 65799
stored_most r whole = grind (arith, common_steps, length-append, whole.owner.short, whole.rdata.octets.short)

within_itself : (mark : ℕ) (records : List Record) → IsMark mark records → kept_len records ≤ mark → IsWithinMark mark records
within_itself mark records marked below = record { marked = marked; below = omega (arith, below) }

within_more : (mark : ℕ) (records : List Record) (r : Record) → IsRecord r → IsMark mark records → kept_len records ≤ mark → IsWithinMark mark (records ++ r ∷ [])
within_more mark records r whole marked below = record { marked = mark_more mark records r marked; below = omega (arith, below, kept_more records r, stored_most r whole) }

-- where a record was listed or not
pub within_listed : {E : Type 0} (told : Result Bool E) (mark : ℕ) (old new : List Placed) (p : Placed) (Other : Type 0) → IsRecord p.rr → IsMark mark (records_of old) → kept_len (records_of old) ≤ mark → IfOk told (λ b. b ≡ true → new ≡ old ++ p ∷ []) → IfOk told (λ b. b ≡ false → Other × (new ≡ old)) → OnErr told (new ≡ old) → IsWithinMark mark (records_of new)
within_listed (Ok true) mark old new p Other whole marked below given other same =
    subst (λ ps. IsWithinMark mark (records_of ps)) (sym (given refl)) (subst (IsWithinMark mark) (sym (map-append (λ (q : Placed). q.rr) old (p ∷ []))) (within_more mark (records_of old) p.rr whole marked below))
within_listed (Ok false) mark old new p Other whole marked below given other same = subst (λ ps. IsWithinMark mark (records_of ps)) (sym (other refl).1) (within_itself mark (records_of old) marked below)
within_listed (Err e) mark old new p Other whole marked below given other same = subst (λ ps. IsWithinMark mark (records_of ps)) (sym same) (within_itself mark (records_of old) marked below)
