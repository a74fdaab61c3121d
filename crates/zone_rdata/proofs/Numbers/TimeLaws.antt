-- Times: a text has one reading, octet by octet, and states one time or none.
use Rattle.zone_rdata.proofs.Common.{[], ◌≡◌, ℕ, ◌+◌, ◌*◌, ◌<◌, ◌⊎◌, min, true, false, List, ◌∷◌, ◌++◌, length, Option, Some, refl, sym, ap, ◌∙◌, subst, arith, append_assoc, length-append, take, drop, get_or, inl, inr, AllByRecursion, flat_map, flat_map-append, sum_by, append-nil, take-append-drop, drop_more, nat_tests, is_digit, decimal_value, Group, IsTimeGroup, group_text, group_seconds, unit_seconds, IsTime, plain, grouped, common_steps, sum_by-append, ReadsTime, IsDecimal, None, ◌-◌, AllByRecursion-append, Choice, Decided, true_or_not}
use Rattle.std.proofs.lemmas.List.{take_more}
use Rattle.std.specs.Option.{is_some, unwrap_or}
use Rattle.zone_rdata.specs.Machine.TimeProgress.{number_of}

abbrev pub AreDigits : List ℕ → Type 0
AreDigits text = AllByRecursion (λ c. is_digit c ≡ true) text

-- digits up to the first octet that is none are one run
run_split : (a b : List ℕ) (c d : ℕ) (r s : List ℕ) → AreDigits a → AreDigits b → is_digit c ≡ false → is_digit d ≡ false → a ++ c ∷ r ≡ b ++ d ∷ s → (a ≡ b) × (c ≡ d) × (r ≡ s)
run_split [] [] c d r s x y p q e = (refl, cc, cc)
run_split (a ∷ as_) (b ∷ bs) c d r s x y p q e = grind (arith, run_split as_ bs c d r s x.1 y.1 p q)
run_split a b c d r s x y p q e = cc

-- an octet that is no digit stands in no digits
no_run : (a : List ℕ) (c : ℕ) (r b : List ℕ) → AreDigits b → is_digit c ≡ false → a ++ c ∷ r ≡ b → ⊥
no_run [] c r b each p e = grind arith
no_run (a ∷ as_) c r b each p e = grind (arith, no_run as_ c r)

-- a unit is no digit
unit_no_digit : (c u : ℕ) → unit_seconds c ≡ Some u → is_digit c ≡ false
unit_no_digit c u e = grind (arith, nat_tests)

-- ---- a text is groups, and what begins with none

abbrev NoGroup : List ℕ → Type 0
NoGroup text = (g : Group) (rest : List ℕ) → IsTimeGroup g → text ≡ g.digits ++ g.letter ∷ rest → ⊥

digits_alone : (digits : List ℕ) → AreDigits digits → NoGroup digits
digits_alone digits all g rest is e = no_run g.digits g.letter rest digits all (unit_no_digit g.letter g.unit is.lasts) (sym e)

octet_alone : (digits rest : List ℕ) (c : ℕ) → AreDigits digits → is_digit c ≡ false → (0 < length digits → (u : ℕ) → unit_seconds c ≡ Some u → ⊥) → NoGroup (digits ++ c ∷ rest)
octet_alone digits rest c all other none g after is e =
    let cut = run_split digits g.digits c g.letter rest after all is.each other (unit_no_digit g.letter g.unit is.lasts) e in
    none (omega (arith, is.some, ap length cut.0)) g.unit (ap unit_seconds cut.1 ∙ is.lasts)

first_text : (g : Group) (groups : List Group) (t : List ℕ) → flat_map group_text (g ∷ groups) ++ t ≡ g.digits ++ g.letter ∷ (flat_map group_text groups ++ t)
first_text g groups t = grind (arith, append_assoc)

groups_once : (groups other : List Group) (t u : List ℕ) → AllByRecursion IsTimeGroup groups → AllByRecursion IsTimeGroup other → NoGroup t → NoGroup u → flat_map group_text groups ++ t ≡ flat_map group_text other ++ u → (groups ≡ other) × (t ≡ u)
groups_once [] [] t u x y p q e = (refl, e)
groups_once [] (h ∷ other) t u x y p q e = absurd (p h (flat_map group_text other ++ u) y.0 (e ∙ first_text h other u))
groups_once (g ∷ groups) [] t u x y p q e = absurd (q g (flat_map group_text groups ++ t) x.0 (sym e ∙ first_text g groups t))
groups_once (g ∷ groups) (h ∷ other) t u x y p q e =
    let cut = run_split g.digits h.digits g.letter h.letter (flat_map group_text groups ++ t) (flat_map group_text other ++ u) x.0.each y.0.each (unit_no_digit g.letter g.unit x.0.lasts) (unit_no_digit h.letter h.unit y.0.lasts) (sym (first_text g groups t) ∙ e ∙ first_text h other u) in
    let unit : Some g.unit ≡ Some h.unit = sym x.0.lasts ∙ ap unit_seconds cut.1 ∙ y.0.lasts in
    let rest = groups_once groups other t u x.1 y.1 p q cut.2 in
    grind arith

-- a time is digits alone or groups alone
abbrev IsAlone : List Group → List ℕ → ℕ → Type 0
IsAlone groups tail n = ((groups ≡ []) × AreDigits tail × (0 < length tail) × (n ≡ decimal_value tail)) ⊎ ((tail ≡ []) × (0 < length groups) × (n ≡ sum_by group_seconds groups))

time_alone : (text : List ℕ) (n : ℕ) (groups : List Group) (tail : List ℕ) → IsTime text n → AllByRecursion IsTimeGroup groups → NoGroup tail → text ≡ flat_map group_text groups ++ tail → IsAlone groups tail n
time_alone text n groups tail (plain h) each none e =
    let same = groups_once [] groups text tail tt each (digits_alone text h.digits) none e in
    inl (sym same.0, subst AreDigits same.1 h.digits, rw (← same.1) h.some, rw (← same.1) h.value)
time_alone text n groups tail (grouped own some all parts sums) each none e =
    let same = groups_once own groups [] tail all each (digits_alone [] tt) none (append-nil (flat_map group_text own) ∙ sym parts ∙ e) in
    inr (sym same.1, rw (← same.0) some, rw (← same.0) sums)

pub one_time : (text : List ℕ) (m n : ℕ) → IsTime text m → IsTime text n → m ≡ n
one_time text m n (plain h) k = grind (arith, time_alone text n [] text k tt (digits_alone text h.digits) refl)
one_time text m n (grouped groups some each parts sums) k = grind (arith, time_alone text n groups [] k each (digits_alone [] tt) (parts ∙ sym (append-nil (flat_map group_text groups))))

-- no time goes on with an octet that is neither a digit nor, after digits, a unit
no_time : (groups : List Group) (digits rest text : List ℕ) (c n : ℕ) → AllByRecursion IsTimeGroup groups → AreDigits digits → is_digit c ≡ false → (0 < length digits → (u : ℕ) → unit_seconds c ≡ Some u → ⊥) → text ≡ flat_map group_text groups ++ (digits ++ c ∷ rest) → IsTime text n → ⊥
no_time groups digits rest text c n each all other none e time = elim (time_alone text n groups (digits ++ c ∷ rest) time each (octet_alone digits rest c all other none) e) [
  | inl alone ↦ no_run digits c rest (digits ++ c ∷ rest) alone.1 other refl
  | inr alone ↦ omega (arith, ap length alone.0, length-append digits (c ∷ rest))
]

-- ---- octet by octet

number_more : (digits : List ℕ) (c : ℕ) → number_of (digits ++ c ∷ []) ≡ Some (min 4294967296 (unwrap_or (number_of digits) 0 * 10 + (c - 48)))
number_more [] c = grind arith
number_more (d ∷ digits) c = grind (arith, common_steps)

number_some : (digits : List ℕ) (n : ℕ) → number_of digits ≡ Some n → (0 < length digits) × (n ≡ min 4294967296 (decimal_value digits))
number_some [] n e = absurd cc
number_some (d ∷ digits) n e = grind arith

number_none : (digits : List ℕ) → number_of digits ≡ None → digits ≡ []
number_none [] e = refl
number_none (d ∷ digits) e = absurd cc

-- a digit is read
more_digits : (text : List ℕ) (c total : ℕ) (number : Option ℕ) → is_digit c ≡ true → ReadsTime text total number → ReadsTime (text ++ c ∷ []) total (Some (min 4294967296 (unwrap_or number 0 * 10 + (c - 48))))
more_digits text c total number digit reads = record {
  groups = reads.groups;
  digits = reads.digits ++ c ∷ [];
  parts = grind (arith, reads.parts, append_assoc);
  each = reads.each;
  last = AllByRecursion-append _ reads.digits (c ∷ []) reads.last (digit, tt);
  summed = reads.summed;
  stated = grind (arith, reads.stated, number_more reads.digits c);
  few = reads.few;
  short = omega arith;
}

-- a group closes
more_groups : (text : List ℕ) (c unit total n : ℕ) (number : Option ℕ) → unit_seconds c ≡ Some unit → number ≡ Some n → ReadsTime text total number → ReadsTime (text ++ c ∷ []) (min 4294967296 (total + n * unit)) None
more_groups text c unit total n number lasts some reads =
    let g : Group = record { digits = reads.digits; letter = c; unit = unit } in
    let sums = sum_by-append group_seconds reads.groups (g ∷ []) in
    let own = number_some reads.digits n (sym reads.stated ∙ some) in
    record {
      groups = reads.groups ++ g ∷ [];
      digits = [];
      parts = grind (arith, reads.parts, flat_map-append, append_assoc);
      each = AllByRecursion-append IsTimeGroup reads.groups (g ∷ []) reads.each (record { some = own.0; each = reads.last; lasts = lasts }, tt);
      last = tt;
      summed = grind (arith, reads.summed, own.1, sums);
      stated = refl;
      few = omega arith;
      short = tt;
    }

-- an octet at which no time goes on
pub time_stops : (text : List ℕ) (i d total : ℕ) (number : Option ℕ) → i < length text → is_digit (get_or text i d) ≡ false → (number ≡ None) ⊎ (unit_seconds (get_or text i d) ≡ None) → ReadsTime (take i text) total number → (m : ℕ) → IsTime text m → ⊥
time_stops text i d total number lt other stopped reads m time =
    let parts : text ≡ take i text ++ get_or text i d ∷ drop (i + 1) text = sym (take-append-drop i text) ∙ ap (λ t. take i text ++ t) (drop_more text i d lt) in
    no_time reads.groups reads.digits (drop (i + 1) text) text (get_or text i d) m reads.each reads.last other
    (λ some u e. elim stopped [
      | inl none ↦ omega (arith, some, ap length (number_none reads.digits (sym reads.stated ∙ none)))
      | inr none ↦ absurd cc
    ])
    (grind (arith, parts, reads.parts, append_assoc)) time

some_groups : (text : List ℕ) (groups : List Group) → 0 < length text → text ≡ flat_map group_text groups → 0 < length groups
some_groups text [] some e = absurd (omega (arith, some, ap length e))
some_groups text (g ∷ groups) some e = omega arith

-- a digit more is read
pub digit_read : (text : List ℕ) (i d total : ℕ) (number next : Option ℕ) → i < length text → is_digit (get_or text i d) ≡ true → next ≡ Some (min 4294967296 (unwrap_or number 0 * 10 + (get_or text i d - 48))) → ReadsTime (take i text) total number → ReadsTime (take (i + 1) text) total next
digit_read text i d total number next lt digit is reads =
    subst (λ t. ReadsTime t total next) (sym (take_more text i d lt)) (subst (ReadsTime (take i text ++ get_or text i d ∷ []) total) (sym is) (more_digits (take i text) (get_or text i d) total number digit reads))

-- a unit is read
pub unit_read : (text : List ℕ) (i d total sum unit n : ℕ) (number : Option ℕ) → i < length text → unit_seconds (get_or text i d) ≡ Some unit → number ≡ Some n → sum ≡ min 4294967296 (total + n * unit) → ReadsTime (take i text) total number → ReadsTime (take (i + 1) text) sum None
unit_read text i d total sum unit n number lt lasts some is reads =
    subst (λ t. ReadsTime t sum None) (sym (take_more text i d lt)) (subst (λ k. ReadsTime (take i text ++ get_or text i d ∷ []) k None) (sym is) (more_groups (take i text) (get_or text i d) unit total n number lasts some reads))

-- a text is read to its end
pub ends_grouped : (text : List ℕ) (total : ℕ) (number : Option ℕ) → 0 < length text → is_some number ≡ false → ReadsTime text total number → (m : ℕ) × (IsTime text m × (total ≡ min 4294967296 m))
ends_grouped text total None some closed reads =
    let parts : text ≡ flat_map group_text reads.groups = reads.parts ∙ ap (λ d. flat_map group_text reads.groups ++ d) (number_none reads.digits (sym reads.stated)) ∙ append-nil (flat_map group_text reads.groups) in
    (sum_by group_seconds reads.groups, (grouped reads.groups (some_groups text reads.groups some parts) reads.each parts refl, reads.summed))
ends_grouped text total (Some n) some closed reads = absurd cc

-- digits after groups are no time, nor is nothing
pub ends_open : (text : List ℕ) (total m : ℕ) (number : Option ℕ) → is_some number ≡ true → ((k : ℕ) → IsDecimal text k → ⊥) → ReadsTime text total number → IsTime text m → ⊥
ends_open text total m None opened none reads time = absurd cc
ends_open text total m (Some n) opened none reads time =
    let own = number_some reads.digits n (sym reads.stated) in
    elim (time_alone text m reads.groups reads.digits time reads.each (digits_alone reads.digits reads.last) reads.parts) [
      | inl alone ↦ none m (subst (λ t. IsDecimal t m) (sym (reads.parts ∙ ap (λ g. flat_map group_text g ++ reads.digits) alone.0)) (record { some = own.0; digits = reads.last; value = alone.3 }))
      | inr alone ↦ omega (arith, own.0, ap length alone.0)
    ]

pub none_empty : (text : List ℕ) (m : ℕ) → length text ≡ 0 → IsTime text m → ⊥
none_empty [] m e time = elim (time_alone [] m [] [] time tt (digits_alone [] tt) refl) [
  | inl alone ↦ omega (arith, alone.2)
  | inr alone ↦ omega (arith, alone.1)
]
none_empty (c ∷ text) m e time = omega (arith, e)

-- ---- a text states a time or none

time_ends : (text : List ℕ) (groups : List Group) (digits : List ℕ) → AllByRecursion IsTimeGroup groups → AreDigits digits → text ≡ flat_map group_text groups ++ digits → Choice (IsTime text)
time_ends text [] (d ∷ digits) each all e = inl (decimal_value (d ∷ digits), plain (rw e (record { some = omega arith; digits = all; value = refl })))
time_ends text (g ∷ groups) [] each all e = inl (sum_by group_seconds (g ∷ groups), grouped (g ∷ groups) (omega arith) each (e ∙ append-nil _) refl)
time_ends text groups digits each all e = inr (λ n h. grind (arith, time_alone text n groups digits h each (digits_alone digits all) e))

-- after groups and digits, one octet more, by what is so of the octets after it
time_goes : (text : List ℕ) (groups : List Group) (digits rest : List ℕ) (c : ℕ) (unit : Option ℕ) → AllByRecursion IsTimeGroup groups → AreDigits digits → text ≡ flat_map group_text groups ++ (digits ++ c ∷ rest) → unit_seconds c ≡ unit → ((gs : List Group) (ds : List ℕ) → AllByRecursion IsTimeGroup gs → AreDigits ds → text ≡ flat_map group_text gs ++ (ds ++ rest) → Choice (IsTime text)) → Decided (is_digit c ≡ true) → Choice (IsTime text)
time_goes text groups digits rest c unit each all e is goes (inl digit) = goes groups (digits ++ c ∷ []) each (AllByRecursion-append _ digits (c ∷ []) all (digit, tt)) (grind (arith, append_assoc))
time_goes text groups (d ∷ digits) rest c (Some unit) each all e is goes (inr other) =
    let g : Group = record { digits = d ∷ digits; letter = c; unit = unit } in
    goes (groups ++ g ∷ []) [] (AllByRecursion-append IsTimeGroup groups (g ∷ []) each (record { some = omega arith; each = all; lasts = is }, tt)) tt (grind (arith, flat_map-append, append_assoc))
time_goes text groups digits rest c unit each all e is goes (inr other) = inr (λ n. no_time groups digits rest text c n each all (grind arith) (λ some u k. grind arith) e)

time_after : (text : List ℕ) (groups : List Group) (digits rest : List ℕ) → AllByRecursion IsTimeGroup groups → AreDigits digits → text ≡ flat_map group_text groups ++ (digits ++ rest) → Choice (IsTime text)
time_after text groups digits [] each all e = time_ends text groups digits each all (grind (arith, append-nil))
time_after text groups digits (c ∷ rest) each all e = time_goes text groups digits rest c (unit_seconds c) each all e refl (λ gs ds. time_after text gs ds rest) (true_or_not (is_digit c))

pub time_or_not : (text : List ℕ) → Choice (IsTime text)
time_or_not text = time_after text [] [] text tt tt refl
