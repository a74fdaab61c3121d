-- Data that is made part by part.
use Rattle.zone_rdata.proofs.Common.{[], Bool, IsTrue, List, None, Option, Some, ap, arith, false, get_or, length, length-append, refl, subst, suc, sym, true, zero, ℕ, ◌++◌, ◌+◌, ◌-◌, ◌<◌, ◌↔◌, ◌∙◌, ◌∷◌, ◌≡◌, ◌≢◌, ◌≤◌, AllByRecursion, flat_map, append-nil, flat_map-append, AreOctets, with_length, Fault, Field, Built, FitsString, IsNext, IsPushFault, IsWhole, Pushes, ends_with_strings, misplaced, part_at, FieldValue, HoldEach, Holds, Suits, field_octets, fixed, is_strings, octets_of, string, strings, values_of, AreLaidOut, StringsLast, layout, ArePushedParts, Grows, IsBuilt, IsOver, IsReal, least_of, more_fields, over_data, over_string, part_field, part_fields, parts_held, Data, IsRdata, IsString, rules, BadRdata, if_fault_passed}
use Rattle.zone_rdata.specs.Builder.{long_string, too_long}
use Rattle.zone_rdata.proofs.Fields.AnyField.{field_part}
use Rattle.zone_rdata.proofs.Octets.Layouts.{AreFor, laid_out, values_back}
use Rattle.zone_rdata.proofs.Words.Tables.{table_row}
use Rattle.zone_rdata.specs.declared.field.Field.TheVariants as fields

-- ---- the fields of parts

-- the last field says whether strings stand last
pub ends_at : (row : List Field) (d : Field) → 0 < length row → ends_with_strings row ≡ is_strings (get_or row (length row - 1) d)
ends_at [] d some = absurd (omega arith)
ends_at (f ∷ []) d some = refl
ends_at (f ∷ g ∷ row) d some =
    let here : length (f ∷ g ∷ row) - 1 ≡ suc (length row) = omega arith in
    let there : length (g ∷ row) - 1 ≡ length row = omega arith in
    ends_at (g ∷ row) d (omega arith) ∙ ap (λ i. is_strings (get_or (g ∷ row) i d)) there ∙ sym (ap (λ i. is_strings (get_or (f ∷ g ∷ row) i d)) here)

-- ---- the parts that are held
length-values_of : (row : List Field) (octets : List ℕ) → length (values_of row octets) ≡ length row
length-values_of [] octets = refl
length-values_of (f ∷ row) octets = ap suc (length-values_of row _)

pub parts_length : (laid : Option (List Field)) (count : ℕ) (octets : List ℕ) → ArePushedParts laid count octets → length (parts_held laid count octets) ≡ count
parts_length laid n octets held = grind (arith, length-values_of)

pub parts_octets : (laid : Option (List Field)) (count : ℕ) (octets : List ℕ) → ArePushedParts laid count octets → octets_of (parts_held laid count octets) ≡ octets
parts_octets laid n octets held = search rules

pub octets_push : (values : List FieldValue) (v : FieldValue) → octets_of (values ++ v ∷ []) ≡ octets_of values ++ field_octets v
octets_push values v = flat_map-append field_octets values (v ∷ []) ∙ ap (λ o. octets_of values ++ o) (append-nil (field_octets v))

-- ---- one more part
more_plain : (f : Field) (n : ℕ) → AllByRecursion (λ g. g ≢ fields.Strings) (more_fields f n)
more_plain f zero = grind arith
more_plain f (suc n) = grind (arith, more_plain f n)

plain_fields : (row : List Field) (n : ℕ) → AllByRecursion (λ f. f ≢ fields.Strings) (part_fields row n)
plain_fields row zero = tt
plain_fields [] (suc n) = tt
plain_fields (f ∷ []) (suc n) = (grind arith, more_plain f n)
plain_fields (f ∷ g ∷ row) (suc n) = (grind arith, plain_fields (g ∷ row) n)

plain_last : (row : List Field) → AllByRecursion (λ f. f ≢ fields.Strings) row → StringsLast row
plain_last (f ∷ g ∷ row) each = (each.0, plain_last (g ∷ row) each.1)
plain_last row each = tt

more_push : (n : ℕ) → more_fields fields.Strings (suc n) ≡ more_fields fields.Strings n ++ fields.OneString ∷ []
more_push zero = refl
more_push (suc n) = grind (arith, more_push n)

fields_push : (row : List Field) (f : Field) (n : ℕ) → part_at row n ≡ Some f → part_fields row (suc n) ≡ part_fields row n ++ part_field f ∷ []
fields_push [] f n e = absurd (let s : None ≡ Some f = e in cc)
fields_push (g ∷ []) f n e = grind (arith, more_push)
fields_push (g ∷ h ∷ row) f zero e = ap (λ k. part_field k ∷ []) (let s : g ≡ f = cc in s)
fields_push (g ∷ h ∷ row) f (suc n) e = ap (λ r. part_field g ∷ r) (fields_push (h ∷ row) f n e)

hold_push : (row : List Field) (values : List FieldValue) (f : Field) (v : FieldValue) → HoldEach row values → Holds f v → HoldEach (row ++ f ∷ []) (values ++ v ∷ [])
hold_push (g ∷ row) (w ∷ values) f v each h = (each.0, hold_push row values f v each.1 h)
hold_push row values f v each h = grind arith

some_field : (o : Option Field) (v : FieldValue) → Suits o v → (f : Field) × (o ≡ Some f) × Suits (Some f) v
some_field o v s = grind arith

-- the parts with one more
pub record Pushed (laid : Option (List Field)) (count : ℕ) (octets : List ℕ) (part : FieldValue) : Type 0 where
  pub held : ArePushedParts laid (suc count) (octets ++ field_octets part)
  pub made : parts_held laid (suc count) (octets ++ field_octets part) ≡ parts_held laid count octets ++ part ∷ []
  pub few : count ≤ length octets + 1 → suc count ≤ length (octets ++ field_octets part) + 1

pushed_field : (row : List Field) (f : Field) (count : ℕ) (octets : List ℕ) (part : FieldValue) → ArePushedParts (Some row) count octets → part_at row count ≡ Some f → Holds (part_field f) part → 0 < length (field_octets part) → Pushed (Some row) count octets part
pushed_field row f count octets part held e holds some =
    let here = part_fields row count in
    let values = values_of here octets in
    let next : part_fields row (suc count) ≡ here ++ part_field f ∷ [] = fields_push row f count e in
    let each = hold_push here values (part_field f) part held.1.held holds in
    let last : StringsLast (here ++ part_field f ∷ []) = plain_last (here ++ part_field f ∷ []) (rw next at (plain_fields row (suc count))) in
    grind (arith, length-append, laid_out, values_back, octets_push)

pub pushed_part : (laid : Option (List Field)) (count : ℕ) (octets : List ℕ) (part : FieldValue) → ArePushedParts laid count octets → IsNext laid count part → FitsString part → IsReal part → Pushed laid count octets part
pushed_part None count octets part held next fits real = grind arith
pushed_part (Some row) count octets part held next fits real =
    let f = some_field (part_at row count) part next in
    grind (arith, pushed_field row f.0 count octets part held f.1, field_part)

-- ---- all parts
pub record WholeParts (row : List Field) (octets : List ℕ) : Type 0 where
  pub own : List FieldValue
  pub each : HoldEach row own
  pub same : octets_of own ≡ octets

record ManyParts (values : List FieldValue) : Type 0 where
  many : List (List ℕ)
  each : AllByRecursion IsString many
  same : flat_map with_length many ≡ octets_of values

join_parts : (n : ℕ) (values : List FieldValue) → HoldEach (more_fields fields.Strings n) values → ManyParts values
join_parts (suc n) (string s ∷ values) h =
    let rest = join_parts n values h.1 in
    record { many = s ∷ rest.many; each = (h.0, rest.each); same = ap (λ o. with_length s ++ o) rest.same }
join_parts (suc n) (v ∷ values) h = absurd h.0
join_parts zero [] h = record { many = []; each = tt; same = refl }
join_parts n values h = absurd h

last_whole : (f : Field) (n : ℕ) (values : List FieldValue) → HoldEach (part_fields (f ∷ []) (suc n)) values → WholeParts (f ∷ []) (octets_of values)
last_whole fields.Strings n (string s ∷ values) h =
    let rest = join_parts n values h.1 in
    record { own = strings (s ∷ rest.many) ∷ []; each = (record { some = omega arith; each = (h.0, rest.each) }, tt); same = append-nil (with_length s ++ flat_map with_length rest.many) ∙ ap (λ o. with_length s ++ o) rest.same }
last_whole fields.Strings n (v ∷ values) h = absurd h.0
last_whole f n (v ∷ []) h = record { own = v ∷ []; each = (h.0, tt); same = refl }
last_whole f n values h = absurd (grind arith)

whole_by : (row : List Field) (n : ℕ) (values : List FieldValue) → StringsLast row → length row ≤ n → HoldEach (part_fields row n) values → WholeParts row (octets_of values)
whole_by [] zero [] last past h = record { own = []; each = tt; same = refl }
whole_by [] (suc n) [] last past h = record { own = []; each = tt; same = refl }
whole_by (f ∷ row) zero values last past h = absurd (omega arith)
whole_by (f ∷ []) (suc n) values last past h = last_whole f n values h
whole_by (f ∷ g ∷ row) (suc n) (v ∷ values) last past h =
    let rest = whole_by (g ∷ row) n values last.1 (omega arith) h.1 in
    record { own = v ∷ rest.own; each = (whole_part f v last.0 h.0, rest.each); same = ap (λ o. field_octets v ++ o) rest.same }
  where
    whole_part : (f : Field) (v : FieldValue) → f ≢ fields.Strings → Holds (part_field f) v → Holds f v
    whole_part fields.Strings v other h = absurd (other refl)
    whole_part f v other h = h
whole_by row n values last past h = absurd h

pub whole_laid : (row : List Field) (count : ℕ) (octets : List ℕ) → StringsLast row → length row ≤ count → ArePushedParts (Some row) count octets → AreLaidOut row octets
whole_laid row count octets last past held =
    let whole = whole_by row count (values_of (part_fields row count) octets) last past held.1.held in
    grind (arith, laid_out)

-- ---- what the code answers
pub over_as : (octets more : List ℕ) (v : FieldValue) → FitsString v → more ≡ field_octets v → (fault : Fault) → IsOver octets (fixed more) fault → IsOver octets v fault
over_as octets more v fits e fault given = grind (arith, over_data)

abbrev pub built : ℕ → ℕ → ℕ → List ℕ → Built
built class kind count octets = record { class = class; kind = kind; parts = parts_held (layout class kind) count octets }

grown_octets : (laid : Option (List Field)) (count : ℕ) (octets : List ℕ) (part : FieldValue) → ArePushedParts laid count octets → octets_of (parts_held laid count octets ++ part ∷ []) ≡ octets ++ field_octets part
grown_octets laid count octets part held = grind (arith, octets_push, parts_octets)

-- the layout that is held is that of the class and type
by_layout : (class kind : ℕ) (laid : Option (List Field)) (count : ℕ) (octets : List ℕ) (part : FieldValue) → IsBuilt class kind laid count octets → IsNext laid count part → IsNext (layout class kind) count part
by_layout class kind laid count octets part is next = grind arith

next_parts : (class kind : ℕ) (laid : Option (List Field)) (count : ℕ) (octets : List ℕ) (part : FieldValue) → IsBuilt class kind laid count octets → IsNext laid count part → IsNext (layout class kind) (length (parts_held (layout class kind) count octets)) part
next_parts class kind laid count octets part is next = grind (arith, parts_length, by_layout)

pub push_misplaced : (class kind : ℕ) (laid : Option (List Field)) (count : ℕ) (octets : List ℕ) (b : Built) (part : FieldValue) (r : Bool) → built class kind count octets ≡ b → IsBuilt class kind laid count octets → r ≡ false → (IsTrue r ↔ IsNext laid count part) → IsPushFault b part BadRdata
push_misplaced class kind laid count octets b part r e is refused test = grind (arith, parts_length, false, true, misplaced, layout)

over_push : (class kind : ℕ) (laid : Option (List Field)) (count : ℕ) (octets : List ℕ) (part : FieldValue) (fault : Fault) → IsBuilt class kind laid count octets → IsNext laid count part → IsOver octets part fault → IsPushFault (built class kind count octets) part fault
over_push class kind laid count octets part _ is next (over_string none) = long_string (next_parts class kind laid count octets part is next) none
over_push class kind laid count octets part _ is next (over_data fits h) = too_long (next_parts class kind laid count octets part is next) fits (omega (arith, ap length (grown_octets (layout class kind) count octets part is.held), length-append octets (field_octets part)))

pub push_over : (class kind : ℕ) (laid : Option (List Field)) (count : ℕ) (octets : List ℕ) (b : Built) (part : FieldValue) (fault : Fault) → built class kind count octets ≡ b → IsBuilt class kind laid count octets → IsNext laid count part → IsOver octets part fault → IsPushFault b part fault
push_over class kind laid count octets b part fault e is next over = grind (arith, over_push)

pub push_built : (class kind : ℕ) (laid : Option (List Field)) (count : ℕ) (octets new : List ℕ) (part : FieldValue) → IsBuilt class kind laid count octets → IsNext laid count part → IsReal part → Grows octets part new → IsBuilt class kind laid (count + 1) new
push_built class kind laid count octets new part is next real g = grind (arith, pushed_part (layout class kind) count octets part is.held (by_layout class kind laid count octets part is next) g.string_fits real, length-append octets (field_octets part))

pub push_made : (class kind : ℕ) (laid : Option (List Field)) (count : ℕ) (octets new : List ℕ) (b : Built) (part : FieldValue) → built class kind count octets ≡ b → IsBuilt class kind laid count octets → IsNext laid count part → IsReal part → Grows octets part new → Pushes b part (built class kind (count + 1) new)
push_made class kind laid count octets new b part e is next real g = grind (arith, pushed_part (layout class kind) count octets part is.held (by_layout class kind laid count octets part is next) g.string_fits real, next_parts class kind laid count octets part is next, grown_octets (layout class kind) count octets part is.held, length-append octets (field_octets part))

-- ---- the end
pub whole_parts : (laid : Option (List Field)) (count : ℕ) (octets : List ℕ) → ArePushedParts laid count octets → least_of laid ≤ count → IsWhole laid (parts_held laid count octets)
whole_parts laid count octets held past = grind (arith, parts_length)

parts_for : (class kind : ℕ) (laid : Option (List Field)) (count : ℕ) (octets : List ℕ) → laid ≡ layout class kind → ArePushedParts laid count octets → least_of laid ≤ count → AreFor laid octets
parts_for class kind laid count octets e held past = grind (arith, whole_laid, table_row)

pub parts_data : (class kind : ℕ) (laid : Option (List Field)) (count : ℕ) (octets : List ℕ) → IsBuilt class kind laid count octets → least_of laid ≤ count → AreOctets octets → IsRdata (record { class = class; kind = kind; octets = octets })
parts_data class kind laid count octets is past each = grind (arith, parts_for class kind (layout class kind) count octets refl is.held (subst (λ l. least_of l ≤ count) is.looked_up past))

pub finish_missing : (class kind : ℕ) (laid : Option (List Field)) (count : ℕ) (octets : List ℕ) (b : Built) → built class kind count octets ≡ b → IsBuilt class kind laid count octets → count < least_of laid → IsWhole (layout b.class b.kind) b.parts → ⊥
finish_missing class kind laid count octets b e is few whole = grind (arith, parts_length)

pub finish_made : (class kind : ℕ) (laid : Option (List Field)) (count : ℕ) (octets : List ℕ) (b : Built) (d : Data) → built class kind count octets ≡ b → IsBuilt class kind laid count octets → least_of laid ≤ count → d ≡ record { class = class; kind = kind; octets = octets } → IsWhole (layout b.class b.kind) b.parts × (d ≡ record { class = b.class; kind = b.kind; octets = octets_of b.parts })
finish_made class kind laid count octets b d e is past made = grind (arith, whole_parts, parts_octets)

pub ruleset push_faults = (if_fault_passed, push_misplaced, push_over)

pub ruleset strings_over = (over_data, over_string)
