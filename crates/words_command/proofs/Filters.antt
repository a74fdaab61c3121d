-- The two filters: a rewriter and a printer.
use Rattle.words_command.proofs.Common.{◌≡◌, ℕ, List, [], ◌++◌, arith, true, false, refl, sym, subst, Result}
use Rattle.std.proofs.Common.{append-nil}
use Rattle.std.specs.Prelude.{Ok, Err, OnErr, OnOk, ◌≤◌, ⊤}
use Rattle.zone_name.specs.Common.{Labels}
use Rattle.zone_rdata.specs.FedSource.{is_finished}
use Rattle.zone_rdata.specs.declared.fed.FedStatus.{FedStatus}
use Rattle.zone_rdata.specs.declared.fed.FedStatus.TheVariants.{Finished, Open}
use Rattle.zone_print.specs.Device.{Device}
use Rattle.zone_words.specs.Entry.{BecomesUnder, IsRewriting}
use Rattle.zone_words.specs.Refusal.{AreInShort}
use Rattle.zone_words.specs.Rewriter.{IsSoFar, HeldText, RewriterState, StandsForRewriting, StandsInPart}
use Rattle.zone_words.specs.Rewriter as holds
use Rattle.zone_words.specs.Rewriting.{Refused, IsRewrittenSoFar}
use Rattle.zone_words.specs.Rewriting as becomes
use Rattle.zone_words.specs.declared.refusal.Refusals.{Refusals}
use Rattle.words_print.specs.Printer.{PrinterState, StandsForWords}
use Rattle.words_print.specs.Printer as prints
use Rattle.words_print.specs.Shown.{IsShownText}
use Rattle.words_command.specs.Filtering.{IsSoFarInPart, IsWrittenWhole}
use Rattle.words_command.specs.Machine.Filters.{HasRewritten, HasShown, RewritesSoFar, ShowsSoFar}
use Rattle.words_command.specs.Run.{IsFileSoFar, IsShownSoFar}

-- said of every answer, it is said of `Ok`
pub on_any_ok : {A E P : Type 0} (r : Result A E) → P → OnOk r P
on_any_ok (Ok x) p = p
on_any_ok (Err e) p = tt

-- ---- a rewriter

not_finished : {s : FedStatus} → s ≡ Open → is_finished s ≡ false
not_finished e = rw e refl

is_ended : {s : FedStatus} → s ≡ Finished → is_finished s ≡ true
is_ended e = rw e refl

-- what is written while the octets go on
so_far : (origin : Labels) (held : HeldText) (fed new : List ℕ) (told : List Refused) → IsSoFar origin held fed new told → IsRewrittenSoFar (BecomesUnder origin) fed held.waiting new told
so_far origin held fed new told (holds.going unbroken goes) = becomes.going goes.done goes.are goes.whole goes.is_open
so_far origin held fed new told (holds.stopped broken none stopped) = becomes.stopped stopped none

pub rewrites : (origin : Labels) (rewriter : RewriterState) (fed given : List ℕ) → StandsForRewriting origin rewriter fed given → rewriter.status ≡ Open → RewritesSoFar origin rewriter fed given
rewrites origin rewriter fed given stands going = record {
  stands = stands;
  so_far = record {
    waiting = rewriter.held.waiting;
    told = stands.told;
    so_far = so_far origin rewriter.held fed _ stands.told (stands.so_far (not_finished going));
  };
}

pub rewrites_more : {A E : Type 0} (old new : RewriterState) (piece : List ℕ) (r : Result A E) → OnOk r ((origin : Labels) (fed given : List ℕ) → StandsForRewriting origin old fed given → StandsForRewriting origin new (fed ++ piece) given) → OnOk r (new.status ≡ Open) → OnOk r ((origin : Labels) (fed given : List ℕ) → RewritesSoFar origin old fed given → RewritesSoFar origin new (fed ++ piece) given)
rewrites_more old new piece (Ok x) stands going = λ origin fed given is. rewrites origin new (fed ++ piece) given (stands origin fed given is.stands) going
rewrites_more old new piece (Err e) stands going = tt

pub at_most : {A E : Type 0} (a b : ℕ) (r : Result A E) → OnOk r (a ≡ b) → OnOk r (a ≤ b)
at_most a b (Ok x) same = omega (arith, same)
at_most a b (Err e) same = tt

in_part : (origin : Labels) (rewriter : RewriterState) (fed given : List ℕ) → StandsInPart origin rewriter fed given → IsSoFarInPart (IsFileSoFar origin) fed (given ++ rewriter.held.written)
in_part origin rewriter fed given is = record {
  front = is.part.front;
  back = is.part.back;
  whole = is.part.whole;
  so_far = record { waiting = is.part.waiting; told = is.told; so_far = is.part.so_far };
}

-- memory was refused after octets that go on with these
pub rewrites_in_part : {A E : Type 0} (old new : RewriterState) (more : List ℕ → List ℕ) (r : Result A E) → OnErr r ((origin : Labels) (fed given : List ℕ) → StandsForRewriting origin old fed given → StandsInPart origin new (more fed) given) → OnErr r ((origin : Labels) (fed given : List ℕ) → RewritesSoFar origin old fed given → IsSoFarInPart (IsFileSoFar origin) (more fed) (given ++ new.held.written))
rewrites_in_part old new more (Ok x) part = tt
rewrites_in_part old new more (Err e) part = λ origin fed given is. in_part origin new (more fed) given (part origin fed given is.stands)

pub has_rewritten : {A E : Type 0} (old new : RewriterState) (r : Result A E) → OnOk r ((origin : Labels) (fed given : List ℕ) → StandsForRewriting origin old fed given → StandsForRewriting origin new fed given) → OnOk r (new.status ≡ Finished) → OnOk r ((origin : Labels) (fed given : List ℕ) → RewritesSoFar origin old fed given → HasRewritten origin new fed (given ++ new.held.written))
has_rewritten old new (Ok x) stands finished = λ origin fed given is.
    let now = stands origin fed given is.stands in
    record { told = now.told; in_short = now.in_short; is = now.all (is_ended finished) }
has_rewritten old new (Err e) stands finished = tt

-- all that it has written was given
pub rewrites_given : (old new : RewriterState) → new ≡ holds.all_given old → ((origin : Labels) (fed given : List ℕ) → StandsForRewriting origin old fed given → StandsForRewriting origin new fed (given ++ old.held.written)) → (origin : Labels) (fed given : List ℕ) → RewritesSoFar origin old fed given → RewritesSoFar origin new fed (given ++ old.held.written)
rewrites_given old new cleared stands origin fed given is = record {
  stands = stands origin fed given is.stands;
  so_far = subst (λ (s : RewriterState). IsFileSoFar origin fed ((given ++ old.held.written) ++ s.held.written)) (sym cleared) (subst (IsFileSoFar origin fed) (sym (append-nil (given ++ old.held.written))) is.so_far);
}

pub rewritten_given : (old new : RewriterState) → new ≡ holds.all_given old → (origin : Labels) (octets text : List ℕ) → HasRewritten origin old octets text → HasRewritten origin new octets text
rewritten_given old new cleared origin octets text is =
    subst (λ (s : RewriterState). HasRewritten origin s octets text) (sym cleared) (record { told = is.told; in_short = is.in_short; is = is.is })

-- a file was rewritten, and what is told of it
pub rewritten_whole : (origin : Labels) (rewriter : RewriterState) (short : Refusals) (input input' output output' : Device) → short ≡ rewriter.held.told → IsWrittenWhole (HasRewritten origin rewriter) input input' output output' → (told : List Refused) × AreInShort told short × IsWrittenWhole (λ octets text. IsRewriting origin octets text told) input input' output output'
rewritten_whole origin rewriter short input input' output output' is h = (
  h.is.told,
  subst (AreInShort h.is.told) (sym is) h.is.in_short,
  record { octets = h.octets; read = h.read; to_end = h.to_end; text = h.text; is = h.is.is; written = h.written; works = h.works },
)

-- ---- a printer

shown_in_part : (printer : PrinterState) (fed given : List ℕ) → prints.StandsInPart printer fed given → IsSoFarInPart IsShownSoFar fed (given ++ printer.written)
shown_in_part printer fed given is = record {
  front = is.done;
  back = is.rest;
  whole = is.whole;
  so_far = record { done = is.done; waiting = []; whole = sym (append-nil is.done); unended = tt; shown = is.shown };
}

pub shows_more : {A E : Type 0} (old new : PrinterState) (piece : List ℕ) (r : Result A E) → OnOk r ((fed given : List ℕ) → StandsForWords old fed given → StandsForWords new (fed ++ piece) given) → OnOk r ((any : ⊤) (fed given : List ℕ) → ShowsSoFar any old fed given → ShowsSoFar any new (fed ++ piece) given)
shows_more old new piece (Ok x) stands = λ any fed given is. stands fed given is
shows_more old new piece (Err e) stands = tt

pub shows_in_part : {A E : Type 0} (old new : PrinterState) (more : List ℕ → List ℕ) (r : Result A E) → OnErr r ((fed given : List ℕ) → StandsForWords old fed given → prints.StandsInPart new (more fed) given) → OnErr r ((any : ⊤) (fed given : List ℕ) → ShowsSoFar any old fed given → IsSoFarInPart IsShownSoFar (more fed) (given ++ new.written))
shows_in_part old new more (Ok x) part = tt
shows_in_part old new more (Err e) part = λ any fed given is. shown_in_part new (more fed) given (part fed given is)

pub has_shown : {A E : Type 0} (old new : PrinterState) (r : Result A E) → OnOk r ((fed given : List ℕ) → StandsForWords old fed given → IsShownText fed (given ++ new.written)) → OnOk r ((any : ⊤) (fed given : List ℕ) → ShowsSoFar any old fed given → HasShown any new fed (given ++ new.written))
has_shown old new (Ok x) text = λ any fed given is. text fed given is
has_shown old new (Err e) text = tt
