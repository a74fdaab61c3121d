-- A file and its generic form.
use Rattle.std.proofs.Common.{◌≡◌, ◌↔◌, ◌≤◌, ℕ, List, [], length, subst}
use Rattle.zone_name.specs.Common.{AreOctets, AtMostOneIs, Labels}
use Rattle.zone_name.specs.Name.{IsCasedName, folded}
use Rattle.zone_rdata.specs.declared.record.Placed.{Placed}
use Rattle.zone_set.specs.Zone.{Zone}
use Rattle.zone_print.specs.Canonical.{text_limit}
use Rattle.zone_text.specs.File.{FileStates}
use Rattle.zone_engine.specs.Input.{InputDenotes, file}
use Rattle.zone_words.specs.Entry.{IsRewriting}
use Rattle.zone_words.specs.NoFurther.{HasNoFurtherWord}
use Rattle.zone_words.specs.Rewriting.{Refused}
use Rattle.zone_words.specs.WithWords.{FileStatesWithWords}
use Rattle.zone_files.proofs.GenericOctets.{low_rewriting}
use Rattle.zone_files.specs.Presentation.{HasGenericForm, PresentationDenotes}

abbrev pub OneRewriting : Type 0
OneRewriting = (origin : Labels) (octets new other : List ℕ) (told others : List Refused)
    → IsRewriting origin octets new told → IsRewriting origin octets other others → (new ≡ other) × (told ≡ others)

abbrev pub StatesTheFiles : Type 0
StatesTheFiles = (cased origin : Labels) (octets new : List ℕ) (told : List Refused)
    (placed : List Placed) → IsRewriting cased octets new told
    → FileStates origin new placed ↔ FileStatesWithWords cased origin octets placed

abbrev pub DenotesItsForm : Type 0
DenotesItsForm = (origin : Labels) (octets generic : List ℕ) (z : Zone)
    → length octets ≤ text_limit → HasGenericForm origin octets generic
    → PresentationDenotes origin octets z ↔ InputDenotes (file (folded origin) generic) z

abbrev pub OneForm : Type 0
OneForm = (origin : Labels) (octets : List ℕ) → AtMostOneIs (HasGenericForm origin octets)

pub one_form : OneRewriting → OneForm
one_form one origin octets a b p q = (one origin octets a b p.refused q.refused p.rewriting q.rewriting).0

pub denotes_its_form : StatesTheFiles → OneRewriting → DenotesItsForm
denotes_its_form states one origin octets generic z within form = (
  λ d. record {
    short = d.short generic form;
    placed = d.placed;
    states = (states origin (folded origin) octets generic form.refused d.placed form.rewriting).1 d.states;
    makes = d.makes;
  },
  λ i. record {
    within = within;
    placed = i.placed;
    states = (states origin (folded origin) octets generic form.refused i.placed form.rewriting).0 i.states;
    makes = i.makes;
    short = λ other of. subst (λ t. length t ≤ text_limit) (one_form one origin octets generic other form of) i.short;
  },
)

pub some_form : ((origin : Labels) (octets : List ℕ) → IsCasedName origin → AreOctets octets → (new : List ℕ) × (told : List Refused) × IsRewriting origin octets new told)
    → (origin : Labels) (octets : List ℕ) → IsCasedName origin → AreOctets octets → (generic : List ℕ) × HasGenericForm origin octets generic × AreOctets generic
some_form some origin octets name low =
    let (new, told, is) = some origin octets name low in
    (new, record { refused = told; rewriting = is }, low_rewriting origin octets new told is low)

pub plain_form : ((origin : Labels) (octets : List ℕ) → HasNoFurtherWord octets → IsRewriting origin octets octets []) → DenotesItsForm
    → (origin : Labels) (octets : List ℕ) (z : Zone) → HasNoFurtherWord octets → PresentationDenotes origin octets z ↔ InputDenotes (file (folded origin) octets) z
plain_form stays denotes origin octets z none =
    let form : HasGenericForm origin octets octets = record { refused = []; rewriting = stays origin octets none } in (
      λ d. (denotes origin octets octets z d.within form).0 d,
      λ i. (denotes origin octets octets z i.short form).1 i,
    )
