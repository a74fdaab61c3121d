-- Names as they are printed.
use Rattle.type_data.proofs.Common.{AllByRecursion, AllByRecursion-append, AllByRecursion-back, AllByRecursion-front, Labels, List, [], ap, append-nil, append_assoc, arith, bytes_each, flat_map, length, length-append, nil_from_length, refl, slice_index, subst, sym, wire, with_length, ℕ, ◌++◌, ◌-◌, ◌<◌, ◌∙◌, ◌∷◌, ◌≡◌, ◌≤◌}
use Rattle.zone_name.specs.Common.{AreOctets}
use Rattle.zone_name.specs.Name.{IsCasedLabel}
use Rattle.zone_name.specs.Text.{label_text, name_text}
use Rattle.zone_rdata.proofs.Octets.Sent.{frame_same}
use Rattle.type_data.specs.Kinds.Name.{PrintsName, StatesSomeName}
use Rattle.type_data.specs.Kinds.Name.Machine.{NoLabel, PrintsLabels}
use Rattle.type_data.specs.Printed.{NoFront, PrintsFront}

abbrev AreLabels : Labels → Type 0
AreLabels labels = AllByRecursion IsCasedLabel labels

-- ---- the octets of names

label_cut : (l m : List ℕ) (a b : Labels) (r s : List ℕ) → flat_map with_length (l ∷ a) ++ r ≡ flat_map with_length (m ∷ b) ++ s → (l ≡ m) × (flat_map with_length a ++ r ≡ flat_map with_length b ++ s)
label_cut l m a b r s same =
    frame_same l m (flat_map with_length a ++ r) (flat_map with_length b ++ s) (sym (append_assoc (with_length l) (flat_map with_length a) r) ∙ same ∙ append_assoc (with_length m) (flat_map with_length b) s)

-- labels up to the root's, which are told from what stands after them
names_same : (a b : Labels) (r s : List ℕ) → AreLabels a → AreLabels b → flat_map with_length a ++ 0 ∷ r ≡ flat_map with_length b ++ 0 ∷ s → a ≡ b
names_same [] [] r s x y same = refl
names_same [] (m ∷ b) r s x y same = let some = y.0.some in absurd (grind (arith, some, same))
names_same (l ∷ a) [] r s x y same = let some = x.0.some in absurd (grind (arith, some, same))
names_same (l ∷ a) (m ∷ b) r s x y same =
    let cut = label_cut l m a b (0 ∷ r) (0 ∷ s) same in
    cc (cut.0, names_same a b r s x.1 y.1 cut.1)

wire_front : (labels : Labels) (rest : List ℕ) → wire labels ++ rest ≡ flat_map with_length labels ++ 0 ∷ rest
wire_front labels rest = append_assoc (flat_map with_length labels) (0 ∷ []) rest

pub one_name : (a b : Labels) (r s : List ℕ) → AreLabels a → AreLabels b → wire a ++ r ≡ wire b ++ s → a ≡ b
one_name a b r s x y same = names_same a b r s x y (sym (wire_front a r) ∙ same ∙ wire_front b s)

-- ---- the loop

-- the labels before the rest are printed
pub record HaveLabels (octets rest old new : List ℕ) : Type 0 where
  pub labels : Labels
  pub each : AllByRecursion IsCasedLabel labels
  pub front : octets ≡ flat_map with_length labels ++ rest
  pub appended : new ≡ old ++ flat_map label_text labels

pub no_labels_yet : (octets old : List ℕ) → HaveLabels octets octets old old
no_labels_yet octets old = record { labels = []; each = tt; front = refl; appended = sym (append-nil old) }

more_of : (f : List ℕ → List ℕ) (labels : Labels) (label rest : List ℕ) → flat_map f labels ++ (f label ++ rest) ≡ flat_map f (labels ++ label ∷ []) ++ rest
more_of f [] label rest = ap (λ s. s ++ rest) (sym (append-nil (f label)))
more_of f (l ∷ labels) label rest =
    append_assoc (f l) (flat_map f labels) (f label ++ rest)
    ∙ ap (λ t. f l ++ t) (more_of f labels label rest)
    ∙ sym (append_assoc (f l) (flat_map f (labels ++ label ∷ [])) rest)

rest_octets : (octets rest : List ℕ) (labels : Labels) → octets ≡ flat_map with_length labels ++ rest → AreOctets octets → AreOctets rest
rest_octets octets rest labels front each = AllByRecursion-back (λ c. c < 256) (flat_map with_length labels) rest (subst AreOctets front each)

label_is : (octets rest after label : List ℕ) (labels : Labels) → ((i : ℕ) → slice_index octets i < 256) → octets ≡ flat_map with_length labels ++ rest → rest ≡ with_length label ++ after → 0 < length label → length label ≤ 63 → IsCasedLabel label
label_is octets rest after label labels low front cut some short = record {
  some = some;
  short = short;
  each = (AllByRecursion-front (λ c. c < 256) (with_length label) after (subst AreOctets cut (rest_octets octets rest labels front (bytes_each octets low)))).1;
}

pub label_more : (octets rest after label old mid new : List ℕ) → ((i : ℕ) → slice_index octets i < 256) → HaveLabels octets rest old mid → rest ≡ with_length label ++ after → 0 < length label → length label ≤ 63 → new ≡ mid ++ label_text label → HaveLabels octets after old new
label_more octets rest after label old mid new low have cut some short pushed = record {
  labels = have.labels ++ label ∷ [];
  each = AllByRecursion-append IsCasedLabel have.labels (label ∷ []) have.each (label_is octets rest after label have.labels low have.front cut some short, tt);
  front = have.front ∙ ap (λ r. flat_map with_length have.labels ++ r) cut ∙ more_of with_length have.labels label after;
  appended =
      pushed ∙ ap (λ m. m ++ label_text label) have.appended ∙ append_assoc old (flat_map label_text have.labels) (label_text label)
      ∙ ap (λ t. old ++ (flat_map label_text have.labels ++ t)) (sym (append-nil (label_text label)))
      ∙ ap (λ t. old ++ t) (more_of label_text have.labels label [] ∙ append-nil (flat_map label_text (have.labels ++ label ∷ [])));
}

-- ---- at the root's label

whole_name : (octets rest after label old new : List ℕ) (have : HaveLabels octets rest old new) → rest ≡ with_length label ++ after → length label ≡ 0 → octets ≡ wire have.labels ++ after
whole_name octets rest after label old new have cut empty =
    have.front ∙ ap (λ r. flat_map with_length have.labels ++ r) (cut ∙ ap (λ l. with_length l ++ after) (nil_from_length label empty)) ∙ sym (wire_front have.labels after)

pub labels_printed : (octets rest after label old new : List ℕ) → HaveLabels octets rest old new → rest ≡ with_length label ++ after → length label ≡ 0 → length octets - length after ≤ 255 → PrintsLabels octets after old new
labels_printed octets rest after label old new have cut empty short =
    let whole = whole_name octets rest after label old new have cut empty in
    record {
      labels = have.labels;
      name = record { each = have.each; short = omega (arith, short, ap length whole, length-append (wire have.labels) after) };
      whole = whole;
      appended = have.appended;
    }

pub long_name : (octets rest after label old new : List ℕ) → HaveLabels octets rest old new → rest ≡ with_length label ++ after → length label ≡ 0 → 255 < length octets - length after → NoFront StatesSomeName octets
long_name octets rest after label old new have cut empty long part more text parted states =
    let whole = whole_name octets rest after label old new have cut empty in
    let name = states.1.1.name in
    let same = one_name have.labels states.1.0 after more have.each name.each (sym whole ∙ parted ∙ ap (λ p. p ++ more) states.1.2) in
    let short = name.short in
    omega (arith, long, short, ap (λ l. length (wire l)) same, ap length whole, length-append (wire have.labels) after)

follow : (a b : Labels) (rest s : List ℕ) → AreLabels a → AreLabels b → NoLabel rest → flat_map with_length a ++ rest ≡ flat_map with_length b ++ 0 ∷ s → ⊥
follow [] [] rest s x y none same = none [] s (omega arith) same
follow [] (m ∷ b) rest s x y none same = none m (flat_map with_length b ++ 0 ∷ s) y.0.short (same ∙ append_assoc (with_length m) (flat_map with_length b) (0 ∷ s))
follow (l ∷ a) [] rest s x y none same = let some = x.0.some in absurd (grind (arith, some, same))
follow (l ∷ a) (m ∷ b) rest s x y none same = follow a b rest s x.1 y.1 none (label_cut l m a b rest (0 ∷ s) same).1

pub no_name : (octets rest old new : List ℕ) → HaveLabels octets rest old new → NoLabel rest → NoFront StatesSomeName octets
no_name octets rest old new have none part more text parted states =
    follow have.labels states.1.0 rest more have.each states.1.1.name.each none (sym have.front ∙ parted ∙ ap (λ p. p ++ more) states.1.2 ∙ wire_front states.1.0 more)

-- ---- the whole name

wire_some : (label : List ℕ) (labels : Labels) (n : ℕ) → AreLabels (label ∷ labels) → n ≡ length (wire (label ∷ labels)) → n ≡ 1 → ⊥
wire_some label labels n each count one = let some = each.0.some in grind (arith, some, count, one, length-append)

pub name_front : (octets rest old new : List ℕ) (p : PrintsLabels octets rest old new) (text dot : List ℕ) → text ≡ name_text p.labels → dot ≡ old ++ text → PrintsFront PrintsName StatesSomeName octets rest old dot
name_front octets rest old new p text dot is appended = record {
  part = wire p.labels;
  text = text;
  whole = p.whole;
  printed = (p.labels, p.name, is, refl);
  appended = appended;
  alone = λ other after words parted states.
      states.1.2 ∙ ap wire (sym (one_name p.labels states.1.0 rest after p.name.each states.1.1.name.each (sym p.whole ∙ parted ∙ ap (λ o. o ++ after) states.1.2)));
}

count_of : (octets rest : List ℕ) (labels : Labels) → octets ≡ wire labels ++ rest → length octets - length rest ≡ length (wire labels)
count_of octets rest labels whole = omega (arith, ap length whole, length-append (wire labels) rest)

root_by : (octets rest old new dot : List ℕ) (labels : Labels) (p : PrintsLabels octets rest old new) → p.labels ≡ labels → length octets - length rest ≡ 1 → dot ≡ new ++ 46 ∷ [] → PrintsFront PrintsName StatesSomeName octets rest old dot
root_by octets rest old new dot [] p is one pushed =
    name_front octets rest old new p (46 ∷ []) dot (ap name_text (sym is)) (pushed ∙ ap (λ n. n ++ 46 ∷ []) (p.appended ∙ ap (λ l. old ++ flat_map label_text l) is ∙ append-nil old))
root_by octets rest old new dot (label ∷ labels) p is one pushed =
    absurd (wire_some label labels _ (subst AreLabels is p.name.each) (ap (λ l. length (wire l)) is) (sym (count_of octets rest p.labels p.whole) ∙ one))

pub root_front : (octets rest old new dot : List ℕ) → PrintsLabels octets rest old new → length octets - length rest ≡ 1 → dot ≡ new ++ 46 ∷ [] → PrintsFront PrintsName StatesSomeName octets rest old dot
root_front octets rest old new dot p one pushed = root_by octets rest old new dot p.labels p refl one pushed

labels_by : (octets rest old new : List ℕ) (labels : Labels) (p : PrintsLabels octets rest old new) → p.labels ≡ labels → (length octets - length rest ≡ 1 → ⊥) → PrintsFront PrintsName StatesSomeName octets rest old new
labels_by octets rest old new [] p is many = absurd (many (count_of octets rest p.labels p.whole ∙ ap (λ l. length (wire l)) is))
labels_by octets rest old new (label ∷ labels) p is many =
    name_front octets rest old new p (flat_map label_text p.labels) new (ap (flat_map label_text) is ∙ sym (ap name_text is)) p.appended

pub labels_front : (octets rest old new : List ℕ) → PrintsLabels octets rest old new → (length octets - length rest ≡ 1 → ⊥) → PrintsFront PrintsName StatesSomeName octets rest old new
labels_front octets rest old new p many = labels_by octets rest old new p.labels p refl many

pub name_shorter : (octets rest old new : List ℕ) → PrintsLabels octets rest old new → length rest < length octets
name_shorter octets rest old new p = omega (arith, ap length p.whole, length-append (wire p.labels) rest, length-append (flat_map with_length p.labels) (0 ∷ []))
