-- The walk: the one list of places that is a walk, how it ends, the names that it finds, and how it is carried on from place to place.
use Rattle.zone_wire.proofs.Common.{AllByRecursion, At, EitherIs, Fault, Found, IsLabel, IsLabel-folded, IsLabelAt, IsNameAt, IsPointerAt, IsSound, IsVerdict, IsWalk, LeadToLast, List, MatchOption, NameFault, None, Option, Outcome, ShortMessage, Some, Spot, Standing, Visit, Walks, [], after_label, after_pointer, ap, append-nil, arith, at_fault, at_label, at_pointer, at_root, by_pointer, bytes_each, common_steps, drop, ending, flat_map, get_or, get_or-drop, inl, inr, label, label_at, labels_in, length, length-append, length-drop, length-take-le, lit≤, named, outcome, outset, outside, over_label, past_label, past_pointer, pointer, pointers_in, refl, refused, root, slice_index, standing_in, subst, suc, sym, take, target_at, to_fault, to_root, unwrap_or, visit, walk, walk_by, walk_on, wire, with_length, zero, ℕ, ◌*◌, ◌++◌, ◌+◌, ◌<◌, ◌∙◌, ◌∷◌, ◌≡◌, ◌≤◌}
use Rattle.zone_wire.proofs.Names.Spots.{Shows, standing_is, standing_shows}

-- ---- the walk is the one list of places that is a walk
walk_step : (n : ℕ) (message : List ℕ) (spot : Spot) (standing : Option Standing) → Shows message spot standing → walk_on (walk_by n message) spot standing ≡ walk_by (suc n) message spot
unfolding walk_by
walk_step n message spot standing is = ap (walk_on (walk_by n message) spot) (sym (standing_is message spot standing is))

-- n places are enough for a walk from a spot on
record IsEnough (n : ℕ) (spot : Spot) : Type 0 where
  short : spot.octets + 1 ≤ 255
  few : spot.pointers ≤ 128
  enough : 512 ≤ spot.octets + 2 * spot.pointers + 2 * n

enough_label : {message : List ℕ} {n : ℕ} {spot : Spot} {size : ℕ} → IsEnough (suc n) spot → Shows message spot (Some (at_label size)) → IsEnough n (past_label spot size)
enough_label is shows = omega arith

enough_pointer : {message : List ℕ} {n : ℕ} {spot : Spot} {target : ℕ} → IsEnough (suc n) spot → Shows message spot (Some (at_pointer target)) → IsEnough n (past_pointer spot target)
enough_pointer is shows = omega arith

enough_256 : (start : ℕ) → IsEnough 256 (outset start)
enough_256 start = record { short = lit≤ tt; few = lit≤ tt; enough = lit≤ tt }

-- the walk from a spot on
abbrev WalksAt : List ℕ → Spot → List Visit → Option Fault → Type 0
WalksAt message spot visits ends = Walks message spot.offset spot.bound spot.pointers spot.octets visits ends

-- a walk from a spot on is the one that is computed
same : {message : List ℕ} (n : ℕ) {spot : Spot} {visits : List Visit} {ends : Option Fault} → WalksAt message spot visits ends → IsEnough n spot → visits ≡ walk_by n message spot
same zero w is = absurd (omega (arith, is.short, is.few, is.enough))
same {message} (suc n) {spot} (outside past) is = walk_step n message spot None past
same {message} (suc n) {spot} (to_root here first) is = walk_step n message spot (Some at_root) (here, first)
same {message} (suc n) {spot} (to_fault {fault = fault} here) is = walk_step n message spot (Some (at_fault fault)) here
same {message} (suc n) {spot} (over_label {size = size} here room rest) is = cc (same n {spot = past_label spot size} rest (enough_label {message = message} is (here, room)), walk_step n message spot (Some (at_label size)) (here, room))
same {message} (suc n) {spot} (by_pointer {target = target} here few rest) is = cc (same n {spot = past_pointer spot target} rest (enough_pointer {message = message} is (here, few)), walk_step n message spot (Some (at_pointer target)) (here, few))

-- and that is a walk
walks_on : (n : ℕ) (message : List ℕ) (spot : Spot) (standing : Option Standing) → IsEnough (suc n) spot → Shows message spot standing → ((next : Spot) → IsEnough n next → WalksAt message next (walk_by n message next) (ending (walk_by n message next))) → WalksAt message spot (walk_on (walk_by n message) spot standing) (ending (walk_on (walk_by n message) spot standing))
unfolding ending
walks_on n message spot None is shows each = outside shows
walks_on n message spot (Some at_root) is shows each = to_root shows.0 shows.1
walks_on n message spot (Some (at_label size)) is shows each = over_label shows.0 shows.1 (each (past_label spot size) (enough_label {message = message} is shows))
walks_on n message spot (Some (at_pointer target)) is shows each = by_pointer shows.0 shows.1 (each (past_pointer spot target) (enough_pointer {message = message} is shows))
walks_on n message spot (Some (at_fault fault)) is shows each = to_fault shows

walks_by : (n : ℕ) (message : List ℕ) (spot : Spot) → IsEnough n spot → WalksAt message spot (walk_by n message spot) (ending (walk_by n message spot))
unfolding walk_by
walks_by zero message spot is = absurd (omega (arith, is.short, is.few, is.enough))
walks_by (suc n) message spot is = walks_on n message spot (standing_in message spot) is (standing_shows message spot) (walks_by n message)

-- what is a walk is the one that is computed
pub is_walk : (message : List ℕ) (start : ℕ) (visits : List Visit) (ends : Option Fault) → IsWalk message start visits ends → visits ≡ walk message start
unfolding walk
is_walk message start visits ends is = same 256 {spot = outset start} is (enough_256 start)

pub walk_is : (message : List ℕ) (start : ℕ) (ends : Option Fault) → ending (walk message start) ≡ ends → IsWalk message start (walk message start) ends
unfolding walk
walk_is message start ends e = subst (IsWalk message start (walk message start)) e (walks_by 256 message (outset start) (enough_256 start))

-- ---- what holds of each walk
-- the octets of labels, each after its length
abbrev pub label_octets : List (List ℕ) → ℕ
label_octets labels = length (flat_map with_length labels)

pub label_octets-label : (message : List ℕ) (offset size : ℕ) → offset + size < length message → length (label_at message offset size) ≡ size
label_octets-label message offset size h = grind (arith, common_steps)

pub label_octets-more : (l : List ℕ) (labels : List (List ℕ)) → label_octets (l ∷ labels) ≡ length l + 1 + label_octets labels
label_octets-more l labels = grind (arith, common_steps)

-- what a walk to the root finds
pub record Finds (message : List ℕ) (offset bound pointers octets : ℕ) (visits : List Visit) : Type 0 where
  pub found : Found
  pub is : outcome message visits ≡ named found
  pub steps : length visits ≡ found.steps
  pub at : At message offset bound found.labels found.end found.steps found.pointers
  pub few : pointers + found.pointers ≤ 128
  pub short : octets + label_octets found.labels + 1 ≤ 255

-- where a walk ends so
abbrev pub Ends : List ℕ → ℕ → ℕ → ℕ → ℕ → List Visit → Option Fault → Type 0
Ends message offset bound pointers octets visits ends = MatchOption ends (Finds message offset bound pointers octets visits) (λ fault. outcome message visits ≡ refused fault (length visits))

-- each label takes two octets or more of the 254 that labels can have
pub record Lies (message : List ℕ) (offset bound pointers octets : ℕ) (visits : List Visit) (ends : Option Fault) : Type 0 where
  pub ends_so : ends ≡ ending visits
  pub places : octets + 2 * pointers + 2 * length visits ≤ 512
  pub labels : octets + 2 * labels_in visits ≤ 254
  pub few : pointers + pointers_in visits ≤ 128
  pub leads : LeadToLast visits
  pub inside : AllByRecursion (λ v. v.offset < length message) visits
  pub finds : Ends message offset bound pointers octets visits ends

-- a label or a pointer before what a walk ends with
label_ends : {message : List ℕ} {offset size : ℕ} (bound pointers octets : ℕ) (visits : List Visit) (ends : Option Fault) → IsLabelAt message offset size → Ends message (offset + 1 + size) bound pointers (octets + 1 + size) visits ends → Ends message offset bound pointers octets (visit offset (at_label size) ∷ visits) ends
unfolding outcome
label_ends {message} {offset} {size} bound pointers octets visits None here f = record {
  found = record f.found { labels = label_at message offset size ∷ f.found.labels; steps = suc f.found.steps };
  is = ap (after_label (label_at message offset size)) f.is;
  steps = ap suc f.steps;
  at = label offset bound size f.found.labels f.found.end f.found.steps f.found.pointers here f.at;
  few = f.few;
  short = omega (arith, f.short, label_octets-more (label_at message offset size) f.found.labels, label_octets-label message offset size here.inside);
}
label_ends {message} {offset} {size} bound pointers octets visits (Some fault) here e = ap (after_label (label_at message offset size)) e

pointer_ends : {message : List ℕ} {offset bound target : ℕ} (pointers octets : ℕ) (visits : List Visit) (ends : Option Fault) → IsPointerAt message offset bound target → Ends message target target (pointers + 1) octets visits ends → Ends message offset bound pointers octets (visit offset (at_pointer target) ∷ visits) ends
unfolding outcome
pointer_ends {message} {offset} {bound} {target} pointers octets visits None here f = record {
  found = record f.found { end = offset + 2; steps = suc f.found.steps; pointers = suc f.found.pointers };
  is = ap (after_pointer (offset + 2)) f.is;
  steps = ap suc f.steps;
  at = pointer offset bound target f.found.labels f.found.end f.found.steps f.found.pointers here f.at;
  few = omega (arith, f.few);
  short = f.short;
}
pointer_ends {offset = offset} pointers octets visits (Some fault) here e = ap (after_pointer (offset + 2)) e

lies : {message : List ℕ} {offset bound pointers octets : ℕ} {visits : List Visit} {ends : Option Fault} → Walks message offset bound pointers octets visits ends → octets + 1 ≤ 255 → pointers ≤ 128 → Lies message offset bound pointers octets visits ends
unfolding outcome ending
lies (outside past) short few = grind (arith, common_steps)
lies {message} {offset} {bound} (to_root here first) short few = record {
  ends_so = refl;
  places = omega arith;
  labels = omega arith;
  few = omega arith;
  leads = tt;
  inside = (here, tt);
  finds = record { found = record { labels = []; end = offset + 1; steps = 1; pointers = 0 }; is = refl; steps = refl; at = root offset bound here first; few = omega arith; short = omega arith };
}
lies (to_fault here) short few = grind (arith, common_steps)
lies {ends = ends} (over_label here room rest) short few =
    let l = lies rest (omega arith) few in
    grind (arith, common_steps, label_ends _ _ _ _ ends here l.finds)
lies {ends = ends} (by_pointer here few rest) short small =
    let l = lies rest short (omega arith) in
    grind (arith, common_steps, pointer_ends _ _ _ ends here l.finds)

pub walk_lies : {message : List ℕ} {offset : ℕ} {visits : List Visit} {ends : Option Fault} → IsWalk message offset visits ends → Lies message offset offset 0 0 visits ends
walk_lies is = lies is (lit≤ tt) (lit≤ tt)

-- ---- names
-- the steps are the labels, the pointers and the root; each label takes two octets or more, and a name ends inside its message
at_bounds : {message : List ℕ} {offset bound : ℕ} {labels : List (List ℕ)} {end steps pointers : ℕ} → At message offset bound labels end steps pointers → (steps ≡ length labels + pointers + 1) × (2 * length labels ≤ label_octets labels) × (offset < end) × (end ≤ length message)
at_bounds (root offset bound inside first) = (omega arith, omega arith, omega arith, omega arith)
at_bounds {message} (label offset bound size labels end steps pointers here rest) =
    let b = at_bounds rest in (omega (arith, b.0), omega (arith, b.1, label_octets-more (label_at message offset size) labels, label_octets-label message offset size here.inside, here.some), omega (arith, b.2), b.3)
at_bounds (pointer offset bound target labels end steps pointers here rest) = let b = at_bounds rest in (omega (arith, b.0), b.1, omega arith, omega arith)

-- a walk that finds a name
pub record WalksTo (message : List ℕ) (offset bound pointers octets : ℕ) (found : Found) : Type 0 where
  pub visits : List Visit
  pub walks : Walks message offset bound pointers octets visits None
  pub finds : outcome message visits ≡ named found

at_walks : {message : List ℕ} {offset bound : ℕ} {labels : List (List ℕ)} {end steps pointers : ℕ} → At message offset bound labels end steps pointers → (before octets : ℕ) → before + pointers ≤ 128 → octets + label_octets labels + 1 ≤ 255 → WalksTo message offset bound before octets (record { labels = labels; end = end; steps = steps; pointers = pointers })
unfolding outcome
at_walks (root offset bound inside first) before octets few short = record { visits = visit offset at_root ∷ []; walks = to_root inside first; finds = refl }
at_walks {message} (label offset bound size labels end steps pointers here rest) before octets few short =
    let room : octets + 1 + size + label_octets labels + 1 ≤ 255 = omega (arith, label_octets-more (label_at message offset size) labels, label_octets-label message offset size here.inside) in
    let w = at_walks rest before (octets + 1 + size) few room in
    record { visits = visit offset (at_label size) ∷ w.visits; walks = over_label here (omega arith) w.walks; finds = ap (after_label (label_at message offset size)) w.finds }
at_walks (pointer offset bound target labels end steps pointers here rest) before octets few short =
    let w = at_walks rest (before + 1) octets (omega arith) short in
    record { visits = visit offset (at_pointer target) ∷ w.visits; walks = by_pointer here (omega arith) w.walks; finds = ap (after_pointer (offset + 2)) w.finds }

pub wire-octets : (labels : List (List ℕ)) → length (wire labels) ≡ label_octets labels + 1
wire-octets labels = length-append (flat_map with_length labels) (0 ∷ [])

pub record IsBounded (message : List ℕ) (offset : ℕ) (found : Found) : Type 0 where
  pub labels : length found.labels ≤ 127
  pub steps : found.steps ≤ 256
  pub short : label_octets found.labels + 1 ≤ 255
  pub start : offset < found.end
  pub end : found.end ≤ length message

pub name_bounds : (message : List ℕ) (offset : ℕ) (found : Found) → IsNameAt message offset found → IsBounded message offset found
name_bounds message offset found is = grind (arith, wire-octets, at_bounds)

-- what is a name is found
pub name_walk : (message : List ℕ) (offset : ℕ) (found : Found) → IsNameAt message offset found → WalksTo message offset offset 0 0 found
name_walk message offset found is = at_walks is.at 0 0 (omega (arith, is.few)) (omega (arith, (name_bounds message offset found is).short))

pub name_walks : (message : List ℕ) (offset : ℕ) (found : Found) → IsNameAt message offset found → outcome message (walk message offset) ≡ named found
name_walks message offset found is = let w = name_walk message offset found is in cc (is_walk message offset w.visits None w.walks)

pub one_name : (message : List ℕ) (offset : ℕ) (found other : Found) → IsNameAt message offset found → IsNameAt message offset other → found ≡ other
one_name message offset found other is too = grind (arith, name_walks)

pub drop_each : (n : ℕ) (octets : List ℕ) → ((k : ℕ) → get_or octets k 0 < 256) → (k : ℕ) → get_or (drop n octets) k 0 < 256
drop_each n octets each k = rw get_or-drop (each (n + k))

pub take_each : (n : ℕ) (octets : List ℕ) → ((k : ℕ) → get_or octets k 0 < 256) → (k : ℕ) → get_or (take n octets) k 0 < 256
take_each n octets each k = grind (arith, common_steps)

is_label : (message : List ℕ) (offset size : ℕ) → ((k : ℕ) → get_or message k 0 < 256) → 0 < size → size ≤ 63 → offset + size < length message → IsLabel (label_at message offset size)
is_label message offset size each some short inside =
    let octets = take size (drop (offset + 1) message) in
    let len : length octets ≡ size = length-take-le size (drop (offset + 1) message) (omega (arith, length-drop (offset + 1) message)) in
    IsLabel-folded octets (omega (arith, len)) (omega (arith, len)) (bytes_each octets (take_each size (drop (offset + 1) message) (drop_each (offset + 1) message each)))

at_labels : {message : List ℕ} {offset bound : ℕ} {labels : List (List ℕ)} {end steps pointers : ℕ} → ((k : ℕ) → get_or message k 0 < 256) → At message offset bound labels end steps pointers → AllByRecursion IsLabel labels
at_labels each (root offset bound inside first) = tt
at_labels {message} each (label offset bound size labels end steps pointers here rest) = (is_label message offset size each here.some here.short here.inside, at_labels each rest)
at_labels each (pointer offset bound target labels end steps pointers here rest) = at_labels each rest

-- where the walk ends at the root, a name stands
pub root_is_name : (message : List ℕ) (offset : ℕ) (visits : List Visit) → ((k : ℕ) → get_or message k 0 < 256) → IsWalk message offset visits None → (found : Found) × IsNameAt message offset found × (outcome message (walk message offset) ≡ named found)
root_is_name message offset visits each is = grind (arith, at_labels, is_walk, walk_lies, wire-octets)

-- what is found is a name
pub walk_names : (message : List ℕ) (offset : ℕ) (found : Found) → ((k : ℕ) → get_or message k 0 < 256) → outcome message (walk message offset) ≡ named found → IsNameAt message offset found
walk_names message offset found each e = by (ending (walk message offset)) (walk_is message offset _ refl)
  where
    by : (ends : Option Fault) → IsWalk message offset (walk message offset) ends → IsNameAt message offset found
    by None is = let n = root_is_name message offset (walk message offset) each is in let same : n.0 ≡ found = cc in subst (IsNameAt message offset) same n.1
    by (Some fault) is = let f = (walk_lies is).finds in cc

-- what is refused is a fault, after as many places as each walk has
pub refused_places : (message : List ℕ) (offset : ℕ) (fault : Fault) (steps : ℕ) (visits : List Visit) (ends : Option Fault) → outcome message (walk message offset) ≡ refused fault steps → IsWalk message offset visits ends → (ends ≡ Some fault) × (steps ≡ length visits)
refused_places message offset fault steps visits ends e is = grind (arith, is_walk, same, walk_lies)

pub name_refused : (message : List ℕ) (offset : ℕ) (fault : Fault) (steps : ℕ) → outcome message (walk message offset) ≡ refused fault steps → NameFault message offset fault
name_refused message offset fault steps e =
    let is = walk_is message offset _ refl in
    (walk message offset, subst (IsWalk message offset (walk message offset)) (refused_places message offset fault steps _ _ e is).0 is)

pub refused_few : (message : List ℕ) (offset : ℕ) (fault : Fault) (steps : ℕ) → outcome message (walk message offset) ≡ refused fault steps → steps ≤ 256
refused_few message offset fault steps e =
    let is = walk_is message offset _ refl in
    omega (arith, (refused_places message offset fault steps _ _ e is).1, (walk_lies is).places)

pub name_refuses : (message : List ℕ) (offset : ℕ) (fault : Fault) → NameFault message offset fault → (steps : ℕ) × (outcome message (walk message offset) ≡ refused fault steps)
name_refuses message offset fault is = (length is.0, ap (outcome message) (sym (is_walk message offset is.0 (Some fault) is.1)) ∙ (walk_lies is.1).finds)

pub name_one : (message : List ℕ) (offset : ℕ) (f g : Fault) → NameFault message offset f → NameFault message offset g → f ≡ g
name_one message offset f g is too = grind (arith, name_refuses message offset f is, name_refuses message offset g too)

pub name_not_both : (message : List ℕ) (offset : ℕ) (found : Found) (f : Fault) → IsNameAt message offset found → NameFault message offset f → ⊥
name_not_both message offset found f is fault = grind (arith, name_walks message offset found is, name_refuses message offset f fault)

-- ---- laws of walks and names
pub one_walk : (message : List ℕ) (offset : ℕ) (w v : List Visit × Option Fault) → IsWalk message offset w.0 w.1 → IsWalk message offset v.0 v.1 → w ≡ v
one_walk message offset (visits, ends) (others, late) is too = cc (is_walk message offset visits ends is, is_walk message offset others late too, (walk_lies is).ends_so, (walk_lies too).ends_so)

pub some_walk : (message : List ℕ) (offset : ℕ) → (visits : List Visit) × (ends : Option Fault) × IsWalk message offset visits ends
some_walk message offset = (walk message offset, ending (walk message offset), walk_is message offset _ refl)

-- a walk where a name stands is the one that finds it
pub named_ending : (message : List ℕ) (offset : ℕ) (found : Found) (visits : List Visit) (ends : Option Fault) → IsNameAt message offset found → IsWalk message offset visits ends → ends ≡ None
named_ending message offset found visits ends is walks = ap (λ (v : List Visit × Option Fault). v.1) (one_walk message offset (visits, ends) (_, None) walks (name_walk message offset found is).walks)

pub named_steps : (message : List ℕ) (offset : ℕ) (found : Found) (visits : List Visit) (ends : Option Fault) → IsNameAt message offset found → IsWalk message offset visits ends → length visits ≡ found.steps
named_steps message offset found visits ends is walks =
    let w = name_walk message offset found is in
    let f = (walk_lies w.walks).finds in
    let list = ap (λ (v : List Visit × Option Fault). v.0) (one_walk message offset (visits, ends) (w.visits, None) walks w.walks) in
    ap length list ∙ cc

-- a name stands at an offset, or its walk ends with a fault
pub name_verdict : (message : List ℕ) (offset : ℕ) → ((k : ℕ) → get_or message k 0 < 256) → IsVerdict (IsNameAt message offset) (NameFault message offset)
name_verdict message offset each = record { one_of = by (outcome message (walk message offset)) refl; never_both = name_not_both message offset; one_value = one_name message offset; one_fault = name_one message offset }
  where
    by : (o : Outcome) → outcome message (walk message offset) ≡ o → EitherIs (IsNameAt message offset) (NameFault message offset)
    by (named found) e = inl (found, walk_names message offset found each e)
    by (refused fault steps) e = inr (fault, name_refused message offset fault steps e)

-- ---- a walk that is carried on from place to place: what was met so far, and the walk from here
-- what was met so far, and then what the rest leads to
abbrev pub carried : List (List ℕ) → Option ℕ → ℕ → ℕ → Outcome → Outcome
carried labels end steps pointers (named found) = named (record { labels = labels ++ found.labels; end = unwrap_or end found.end; steps = steps + found.steps; pointers = pointers + found.pointers })
carried labels end steps pointers (refused fault places) = refused fault (steps + places)

pub record Carries (message : List ℕ) (offset : ℕ) (spot : Spot) (labels : List (List ℕ)) (end : Option ℕ) (steps : ℕ) : Type 0 where
  pub few : 2 * steps ≤ spot.octets + 2 * spot.pointers
  pub pointers : spot.pointers ≤ 128
  pub short : spot.octets + 1 ≤ 255
  pub octets : spot.octets ≡ label_octets labels
  pub goes_on : (visits : List Visit) (ends : Option Fault) → WalksAt message spot visits ends → (all : List Visit) × IsWalk message offset all ends × (outcome message all ≡ carried labels end steps spot.pointers (outcome message visits))

-- the start
pub carries_start : (message : List ℕ) (offset : ℕ) → Carries message offset (outset offset) [] None 0
carries_start message offset = record { few = omega arith; pointers = omega arith; short = omega arith; octets = refl; goes_on = λ visits ends w. (visits, w, grind arith) }

octets_of-push : (labels : List (List ℕ)) (l : List ℕ) → label_octets (labels ++ l ∷ []) ≡ label_octets labels + 1 + length l
octets_of-push labels l = grind (arith, common_steps)

carried-label : (labels : List (List ℕ)) (end : Option ℕ) (steps pointers : ℕ) (l : List ℕ) (o : Outcome) → carried labels end steps pointers (after_label l o) ≡ carried (labels ++ l ∷ []) end (steps + 1) pointers o
carried-label labels end steps pointers l o = grind (arith, common_steps)

carried-pointer : (labels : List (List ℕ)) (end : Option ℕ) (steps pointers past : ℕ) (o : Outcome) → carried labels end steps pointers (after_pointer past o) ≡ carried labels (Some (unwrap_or end past)) (steps + 1) (pointers + 1) o
carried-pointer labels end steps pointers past o = grind (arith, common_steps)

pub root_inside : (message : List ℕ) (spot : Spot) → standing_in message spot ≡ Some at_root → spot.offset < length message
root_inside message spot e = (subst (Shows message spot) e (standing_shows message spot)).0

pub label_shows : (message : List ℕ) (spot : Spot) (size : ℕ) → standing_in message spot ≡ Some (at_label size) → Shows message spot (Some (at_label size))
label_shows message spot size e = subst (Shows message spot) e (standing_shows message spot)

pub pointer_shows : (message : List ℕ) (spot : Spot) (target : ℕ) → standing_in message spot ≡ Some (at_pointer target) → Shows message spot (Some (at_pointer target))
pointer_shows message spot target e = subst (Shows message spot) e (standing_shows message spot)

module _ {message : List ℕ} {offset : ℕ} {spot : Spot} {labels : List (List ℕ)} {end : Option ℕ} {steps : ℕ} where
  -- what the walk leads to that goes on so from here
  leads : Carries message offset spot labels end steps → (visits : List Visit) (ends : Option Fault) → WalksAt message spot visits ends → outcome message (walk message offset) ≡ carried labels end steps spot.pointers (outcome message visits)
  leads c visits ends w = let all = c.goes_on visits ends w in cc (is_walk message offset all.0 ends all.1, all.2)

  -- after a label
  pub carries_label : (size : ℕ) → Carries message offset spot labels end steps → standing_in message spot ≡ Some (at_label size) → Carries message offset (past_label spot size) (labels ++ label_at message spot.offset size ∷ []) end (steps + 1)
  unfolding outcome
  carries_label size c e =
      let shows = label_shows message spot size e in
      record {
        few = omega (arith, c.few, shows.0.some);
        pointers = c.pointers;
        short = omega (arith, shows.1);
        octets = omega (arith, c.octets, octets_of-push labels (label_at message spot.offset size), label_octets-label message spot.offset size shows.0.inside);
        goes_on = λ visits ends w.
            let all = c.goes_on (visit spot.offset (at_label size) ∷ visits) ends (over_label shows.0 shows.1 w) in
            (all.0, all.1, all.2 ∙ carried-label labels end steps spot.pointers (label_at message spot.offset size) (outcome message visits));
      }

  -- where a pointer leads
  pub carries_pointer : (target : ℕ) → Carries message offset spot labels end steps → standing_in message spot ≡ Some (at_pointer target) → Carries message offset (past_pointer spot target) labels (Some (unwrap_or end (spot.offset + 2))) (steps + 1)
  unfolding outcome
  carries_pointer target c e =
      let shows = pointer_shows message spot target e in
      record {
        few = omega (arith, c.few);
        pointers = omega (arith, shows.1);
        short = c.short;
        octets = c.octets;
        goes_on = λ visits ends w.
            let all = c.goes_on (visit spot.offset (at_pointer target) ∷ visits) ends (by_pointer shows.0 shows.1 w) in
            (all.0, all.1, all.2 ∙ carried-pointer labels end steps spot.pointers (spot.offset + 2) (outcome message visits));
      }

  -- at the root
  pub carries_root : Carries message offset spot labels end steps → standing_in message spot ≡ Some at_root → outcome message (walk message offset) ≡ named (record { labels = labels; end = unwrap_or end (spot.offset + 1); steps = steps + 1; pointers = spot.pointers })
  unfolding outcome
  carries_root c e =
      let shows = subst (Shows message spot) e (standing_shows message spot) in
      let is = leads c (visit spot.offset at_root ∷ []) None (to_root shows.0 shows.1) in
      grind (arith, append-nil labels)

  -- at a fault
  pub carries_bad : (fault : Fault) → Carries message offset spot labels end steps → standing_in message spot ≡ Some (at_fault fault) → outcome message (walk message offset) ≡ refused fault (steps + 1)
  unfolding outcome
  carries_bad fault c e = leads c (visit spot.offset (at_fault fault) ∷ []) (Some fault) (to_fault (subst (Shows message spot) e (standing_shows message spot)))

  -- outside the message
  pub carries_outside : Carries message offset spot labels end steps → standing_in message spot ≡ None → outcome message (walk message offset) ≡ refused ShortMessage steps
  unfolding outcome
  carries_outside c e = leads c [] (Some ShortMessage) (outside (subst (Shows message spot) e (standing_shows message spot))) ∙ ap (refused ShortMessage) (omega arith)

  -- where a name is found, no fault stands here
  pub carries_named : (found : Found) → Carries message offset spot labels end steps → outcome message (walk message offset) ≡ named found → IsSound (standing_in message spot)
  carries_named found c e = by (standing_in message spot) refl
    where
      by : (standing : Option Standing) → standing_in message spot ≡ standing → IsSound standing
      by None is = absurd (let f = carries_outside c is in cc)
      by (Some at_root) is = tt
      by (Some (at_label size)) is = tt
      by (Some (at_pointer target)) is = tt
      by (Some (at_fault fault)) is = absurd (let f = carries_bad fault c is in cc)

-- what is known to stand at a place, by its first octet
pub record Knows (message : List ℕ) (spot : Spot) : Type 0 where
  pub inside : spot.offset < length message
  pub is_root : slice_index message spot.offset ≡ 0 → standing_in message spot ≡ Some at_root
  pub is_label : 0 < slice_index message spot.offset → slice_index message spot.offset ≤ 63 → standing_in message spot ≡ Some (at_label (slice_index message spot.offset))
  pub is_pointer : 63 < slice_index message spot.offset → (spot.offset + 2 ≤ length message) × (192 ≤ slice_index message spot.offset) × (standing_in message spot ≡ Some (at_pointer (target_at message spot.offset)))

pub spot_known : (message : List ℕ) (spot : Spot) → IsSound (standing_in message spot) → Knows message spot
spot_known message spot sound = by (standing_in message spot) refl sound
  where
    by : (standing : Option Standing) → standing_in message spot ≡ standing → IsSound standing → Knows message spot
    by None e sound = absurd sound
    by (Some (at_fault fault)) e sound = absurd sound
    by (Some at_root) e sound = let shows = subst (Shows message spot) e (standing_shows message spot) in grind arith
    by (Some (at_label size)) e sound = let shows = label_shows message spot size e in grind arith
    by (Some (at_pointer target)) e sound = let shows = pointer_shows message spot target e in grind arith

pub ruleset spots_show = (root_inside, label_shows, pointer_shows)

pub ruleset name_says = (walk_names, name_walks, name_bounds, name_refused, refused_places, refused_few)

pub ruleset named_walks = (named_ending, named_steps)

pub ruleset walks_from_an_offset = (one_walk, some_walk)
