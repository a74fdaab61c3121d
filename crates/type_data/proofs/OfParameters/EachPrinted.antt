-- Parameters as they are printed, one after another.
use Rattle.type_data.proofs.Common.{All-from_recursion, All-permutation, AllByRecursion, AllByRecursion-back, AllByRecursion-front, AllZip, AreOctets, Key, List, Numbered, Parameter, Sent, StateEach, StatesParameters, TouchingItem, [], ap, append-nil, append_assoc, arith, flat_map, flat_map-append, flat_map_more, get_or, length, map, map-append, recursion_from_All, refl, sent, sent_octets, subst, sym, take, take_all, take_more, to_be_bytes, w16, ℕ, ◌++◌, ◌+◌, ◌<◌, ◌∙◌, ◌∷◌, ◌≡◌, ◌≤◌}
use Rattle.std.proofs.lemmas.List.{take-append-le}
use Rattle.type_data.proofs.OfParameters.Lists.{zip_append}
use Rattle.type_data.specs.Parameters.Machine.Printed.{AppendsParameter, AppendsParameters, AppendsValue, NoValue, all_sent, sent_of, value_octets}
use Rattle.type_data.specs.Parameters.{IsShort}
use Rattle.type_data.specs.Parameters.Keys.{key_text}
use Rattle.type_data.specs.Parameters.Printed.{HaveOctets, IsSendable, NoParameters, PrintsParameter, PrintsParameters, PrintsTouching, PrintsValue, ValueText, by_name, by_number, in_quotes, left_out, parameter_items, unquoted, usual_key, written_touching}
use Rattle.type_data.specs.declared.parameters.printing.sent.Parameter as sents

-- ---- one parameter

item_octets : (key : Key) (text : ValueText) → written_touching (parameter_items key text) ≡ 32 ∷ (key_text key ++ value_octets text)
item_octets key left_out = refl
item_octets key (unquoted text) = append-nil (32 ∷ key_text key ++ 61 ∷ text)
item_octets key (in_quotes text) = ap (λ t. (32 ∷ key_text key ++ 61 ∷ []) ++ t) (append-nil (34 ∷ text ++ 34 ∷ [])) ∙ ap (λ t. 32 ∷ t) (append_assoc (key_text key) (61 ∷ []) (34 ∷ text ++ 34 ∷ []))

written : (key : Key) (text : ValueText) (old blank named new : List ℕ) → blank ≡ old ++ 32 ∷ [] → named ≡ blank ++ key_text key → new ≡ named ++ value_octets text → new ≡ old ++ written_touching (parameter_items key text)
written key text old blank named new e f g =
    let v = value_octets text in
    g ∙ ap (λ t. t ++ v) (f ∙ ap (λ t. t ++ key_text key) e) ∙ append_assoc (old ++ 32 ∷ []) (key_text key) v ∙ append_assoc old (32 ∷ []) (key_text key ++ v) ∙ ap (λ t. old ++ t) (sym (item_octets key text))

named_by : (parameters : List Sent) (s : Sent) (old blank named new : List ℕ) → blank ≡ old ++ 32 ∷ [] → named ≡ blank ++ key_text (usual_key s.number) → AppendsValue (λ text. PrintsValue parameters (usual_key s.number) text s.octets) named new → AppendsParameter parameters s old new
named_by parameters s old blank named new e f a = record {
  items = parameter_items (usual_key s.number) a.text;
  printed = by_name a.text a.printed;
  appended = written (usual_key s.number) a.text old blank named new e f a.appended;
}

pub parameter_named : (parameters : List Sent) (s : Sent) (key : Key) (old blank named new : List ℕ) → key ≡ usual_key s.number → blank ≡ old ++ 32 ∷ [] → named ≡ blank ++ key_text key → AppendsValue (λ text. PrintsValue parameters key text s.octets) named new → AppendsParameter parameters s old new
parameter_named parameters s key old blank named new is e f a = named_by parameters s old blank named new e (f ∙ ap (λ k. blank ++ key_text k) is) (subst (λ k. AppendsValue (λ text. PrintsValue parameters k text s.octets) named new) is a)

opaque_as : (parameters : List Sent) (number : ℕ) (text : ValueText) (octets : List ℕ) → PrintsValue [] (Numbered 0) text octets → PrintsValue parameters (Numbered number) text octets
opaque_as parameters number left_out octets is = is
opaque_as parameters number (unquoted text) octets is = is
opaque_as parameters number (in_quotes text) octets is = is

pub parameter_numbered : (parameters : List Sent) (s : Sent) (key : Key) (old again blank named new : List ℕ) → key ≡ usual_key s.number → NoValue parameters key s.octets → again ≡ old → blank ≡ again ++ 32 ∷ [] → named ≡ blank ++ key_text (Numbered s.number) → AppendsValue (λ text. PrintsValue [] (Numbered 0) text s.octets) named new → AppendsParameter parameters s old new
parameter_numbered parameters s key old again blank named new is none same e f a = record {
  items = parameter_items (Numbered s.number) a.text;
  printed = by_number a.text (subst (λ k. NoValue parameters k s.octets) is none) (opaque_as parameters s.number a.text s.octets a.printed);
  appended = written (Numbered s.number) a.text old blank named new (e ∙ ap (λ t. t ++ 32 ∷ []) same) f a.appended;
}

-- what is cut off again
pub taken_back : (n : ℕ) (old blank named new added : List ℕ) (key : List ℕ) → n ≡ length old → blank ≡ old ++ 32 ∷ [] → named ≡ blank ++ key → new ≡ named ++ added → take n new ≡ old
taken_back n old blank named new added key len e f g =
    let whole : new ≡ old ++ (32 ∷ key ++ added) = g ∙ ap (λ t. t ++ added) (f ∙ ap (λ t. t ++ key) e) ∙ append_assoc (old ++ 32 ∷ []) key added ∙ append_assoc old (32 ∷ []) (key ++ added) in
    ap (take n) whole ∙ take-append-le n old (32 ∷ key ++ added) (omega (arith, len)) ∙ take_all n old (omega (arith, len))

-- ---- one after another

abbrev pub joined : List (List TouchingItem) → List TouchingItem
joined parts = flat_map (λ part. part) parts

-- the parameters up to a place are printed
pub record HasPrinted (all done : List Sent) (old new : List ℕ) : Type 0 where
  pub parts : List (List TouchingItem)
  pub each : AllZip (PrintsParameter all) done parts
  pub appended : new ≡ old ++ written_touching (joined parts)

pub none_printed : (all : List Sent) (old : List ℕ) → HasPrinted all [] old old
none_printed all old = record { parts = []; each = tt; appended = sym (append-nil old) }

pub touching_more : (items more : List TouchingItem) → written_touching (items ++ more) ≡ written_touching items ++ written_touching more
touching_more items more = flat_map-append _ items more

one_more : (all done : List Sent) (s : Sent) (old mid new : List ℕ) → HasPrinted all done old mid → AppendsParameter all s mid new → HasPrinted all (done ++ s ∷ []) old new
one_more all done s old mid new has a = record {
  parts = has.parts ++ a.items ∷ [];
  each = zip_append (PrintsParameter all) done (s ∷ []) has.parts (a.items ∷ []) has.each (a.printed, tt);
  appended = a.appended ∙ ap (λ t. t ++ written_touching a.items) has.appended ∙ append_assoc old (written_touching (joined has.parts)) (written_touching a.items) ∙ ap (λ t. old ++ t) (sym (touching_more (joined has.parts) a.items) ∙ ap written_touching (flat_map_more (λ part. part) [] has.parts a.items));
}

pub place_printed : (parameters : List sents.Parameter) (i : ℕ) (d : sents.Parameter) (old mid new : List ℕ) → i < length parameters → HasPrinted (all_sent parameters) (all_sent (take i parameters)) old mid → AppendsParameter (all_sent parameters) (sent_of (get_or parameters i d)) mid new → HasPrinted (all_sent parameters) (all_sent (take (i + 1) parameters)) old new
place_printed parameters i d old mid new inside has a =
    let e : all_sent (take i parameters) ++ sent_of (get_or parameters i d) ∷ [] ≡ all_sent (take (i + 1) parameters) = sym (ap all_sent (take_more parameters i d inside) ∙ map-append sent_of (take i parameters) (get_or parameters i d ∷ [])) in
    subst (λ t. HasPrinted (all_sent parameters) t old new) e (one_more (all_sent parameters) (all_sent (take i parameters)) (sent_of (get_or parameters i d)) old mid new has a)

pub each_printed : (parameters : List sents.Parameter) (i : ℕ) (old new : List ℕ) → length parameters ≤ i → HasPrinted (all_sent parameters) (all_sent (take i parameters)) old new → AppendsParameters (all_sent parameters) old new
each_printed parameters i old new ends has = record { parts = has.parts; each = subst (λ t. AllZip (PrintsParameter (all_sent parameters)) t has.parts) (ap all_sent (take_all i parameters ends)) has.each; appended = has.appended }

-- ---- all of them

pub all_printed : (all : List Sent) (octets old new : List ℕ) → HaveOctets all octets → AppendsParameters all old new → PrintsTouching PrintsParameters octets old new
all_printed all octets old new have a = record {
  items = joined a.parts;
  printed = record { parameters = all; sent = have; parts = a.parts; each = a.each; whole = refl };
  appended = a.appended;
}

-- ---- what items state has such octets

abbrev IsKey : Sent → Type 0
IsKey s = s.number < 65535

each_valid : (items rest : List TouchingItem) (stated : List Parameter) → StateEach items stated rest → AllByRecursion IsKey (map sent stated)
each_valid items rest [] each = tt
each_valid items rest (p ∷ stated) each = (omega (arith, each.3.numbered, each.3.spelt.valid), each_valid each.1 rest stated each.4)

all_sendable : (sorted : List Sent) → AllByRecursion IsKey sorted → AllByRecursion IsShort sorted → AreOctets (flat_map sent_octets sorted) → AllByRecursion IsSendable sorted
all_sendable [] valid short each = tt
all_sendable (s ∷ sorted) valid short each =
    let own : AreOctets (sent_octets s) = AllByRecursion-front (λ c. c < 256) (sent_octets s) (flat_map sent_octets sorted) each in
    let value : AreOctets (to_be_bytes w16 (length s.octets) ++ s.octets) = AllByRecursion-back (λ c. c < 256) (to_be_bytes w16 s.number) (to_be_bytes w16 (length s.octets) ++ s.octets) own in (
      record { valid = valid.0; short = short.0; each = AllByRecursion-back (λ c. c < 256) (to_be_bytes w16 (length s.octets)) s.octets value },
      all_sendable sorted valid.1 short.1 (AllByRecursion-back (λ c. c < 256) (sent_octets s) (flat_map sent_octets sorted) each),
    )

pub stated_sent : (items : List TouchingItem) (octets : List ℕ) → AreOctets octets → (is : StatesParameters items octets) → HaveOctets is.sorted octets
stated_sent items octets low is =
    let valid = recursion_from_All IsKey is.sorted (All-permutation IsKey (map sent is.stated) is.sorted is.same (All-from_recursion IsKey (map sent is.stated) (each_valid items [] is.stated is.precede.each))) in
    record { ascend = is.ascend; each = all_sendable is.sorted valid is.short (subst AreOctets is.value low); value = is.value }

pub no_parameters : (octets : List ℕ) → AreOctets octets → ((parameters : List Sent) → HaveOctets parameters octets → ⊥) → NoParameters octets
no_parameters octets low none items is = none is.sorted (stated_sent items octets low is)
