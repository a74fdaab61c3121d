-- What a printer has written for the lines that it was fed.
use Rattle.zone_text.proofs.Common.{AllByRecursion-append, List, [], ap, append-nil, append_assoc, flat_map-append, refl, subst, sym, ℕ, ◌++◌, ◌∙◌, ◌∷◌, ◌≡◌, ◌≢◌, Bool, false}
use Rattle.std.proofs.lemmas.Bool.{false≢true}
use Rattle.std.specs.Prelude.{◌==◌, length}
use Rattle.zone_print.specs.Laws.{EndsWithItsFeed, HasNoFeed}
use Rattle.type_data.specs.Data.{joined}
use Rattle.type_data.specs.Fault.{AppendsStated}
use Rattle.words_print.specs.Machine.Found.{IsFirstLine}
use Rattle.words_print.specs.Printer.{PrinterState, StandsForWords, StandsInPart}
use Rattle.words_print.specs.Shown.{AreShown, EachIsShown, IsShownLine, IsShownText, unended}

pub none_shown : AreShown [] []
none_shown = record { lines = []; ends = tt; whole = refl; others = []; each = tt; shown_is = refl }

pub stands_new : (printer : PrinterState) → printer.has_failed ≡ false → printer.waiting ≡ [] → printer.written ≡ [] → StandsForWords printer [] []
stands_new printer works none empty = record {
  works = works;
  done = [];
  whole = sym none;
  unended = subst HasNoFeed (sym none) tt;
  shown = subst (AreShown []) (sym empty) none_shown;
}

one_joined : (many : List (List ℕ)) (one : List ℕ) → joined (many ++ one ∷ []) ≡ joined many ++ one
one_joined many one = flat_map-append (λ (l : List ℕ). l) many (one ∷ []) ∙ ap (λ t. joined many ++ t) (append-nil one)

each_more : (lines others : List (List ℕ)) (line shown : List ℕ) → EachIsShown lines others → IsShownLine line shown → EachIsShown (lines ++ line ∷ []) (others ++ shown ∷ [])
each_more [] [] line shown each is = (is, tt)
each_more [] (o ∷ others) line shown each is = absurd each
each_more (l ∷ lines) [] line shown each is = absurd each
each_more (l ∷ lines) (o ∷ others) line shown each is = (each.0, each_more lines others line shown each.1 is)

line_more : (octets shown line more : List ℕ) → AreShown octets shown → EndsWithItsFeed line → IsShownLine line more → AreShown (octets ++ line) (shown ++ more)
line_more octets shown line more are ends is = record {
  lines = are.lines ++ line ∷ [];
  ends = AllByRecursion-append EndsWithItsFeed are.lines (line ∷ []) are.ends (ends, tt);
  whole = ap (λ t. t ++ line) are.whole ∙ sym (one_joined are.lines line);
  others = are.others ++ more ∷ [];
  each = each_more are.lines are.others line more are.each is;
  shown_is = ap (λ t. t ++ more) are.shown_is ∙ sym (one_joined are.others more);
}

begun_line : (front end : List ℕ) → HasNoFeed front → EndsWithItsFeed end → EndsWithItsFeed (front ++ end)
begun_line front end none is = record {
  front = front ++ is.front;
  split = ap (λ t. front ++ t) is.split ∙ sym (append_assoc front is.front (10 ∷ []));
  others = AllByRecursion-append _ front is.front none is.others;
}

-- a line that is ended
pub line_taken : (old new : PrinterState) (end fed given : List ℕ) → EndsWithItsFeed end → AppendsStated (IsShownLine (old.waiting ++ end)) old.written new.written → new.waiting ≡ [] → new.has_failed ≡ old.has_failed → StandsForWords old fed given → StandsForWords new (fed ++ end) given
line_taken old new end fed given ends shows none same is = record {
  works = same ∙ is.works;
  done = is.done ++ (old.waiting ++ end);
  whole = ap (λ t. t ++ end) is.whole ∙ append_assoc is.done old.waiting end ∙ sym (ap (λ t. (is.done ++ (old.waiting ++ end)) ++ t) none ∙ append-nil (is.done ++ (old.waiting ++ end)));
  unended = subst HasNoFeed (sym none) tt;
  shown = subst (AreShown (is.done ++ (old.waiting ++ end))) (append_assoc given old.written shows.octets ∙ ap (λ t. given ++ t) (sym shows.written))
      (line_more is.done (given ++ old.written) (old.waiting ++ end) shows.octets is.shown (begun_line old.waiting end is.unended ends) shows.stated);
}

-- octets without a line feed
pub part_taken : (old new : PrinterState) (part fed given : List ℕ) → HasNoFeed part → new.waiting ≡ old.waiting ++ part → new.written ≡ old.written → new.has_failed ≡ old.has_failed → StandsForWords old fed given → StandsForWords new (fed ++ part) given
part_taken old new part fed given none waits same works is = record {
  works = works ∙ is.works;
  done = is.done;
  whole = ap (λ t. t ++ part) is.whole ∙ append_assoc is.done old.waiting part ∙ ap (λ t. is.done ++ t) (sym waits);
  unended = subst HasNoFeed (sym waits) (AllByRecursion-append _ old.waiting part is.unended none);
  shown = subst (λ w. AreShown is.done (given ++ w)) (sym same) is.shown;
}

-- where memory was refused
pub in_part : (old new : PrinterState) (more fed given : List ℕ) → new.written ≡ old.written → StandsForWords old fed given → StandsInPart new (fed ++ more) given
in_part old new more fed given same is = record {
  done = is.done;
  rest = old.waiting ++ more;
  whole = ap (λ t. t ++ more) is.whole ∙ append_assoc is.done old.waiting more;
  shown = subst (λ w. AreShown is.done (given ++ w)) (sym same) is.shown;
}

-- of a piece the octets before the rest were taken
pub record TakesTo (old new : PrinterState) (piece rest : List ℕ) : Type 0 where
  pub front : List ℕ
  pub parted : piece ≡ front ++ rest
  pub same : new.has_failed ≡ old.has_failed
  pub stands : (fed given : List ℕ) → StandsForWords old fed given → StandsForWords new (fed ++ front) given

pub takes_none : (printer : PrinterState) (piece : List ℕ) → TakesTo printer printer piece piece
takes_none printer piece = record {
  front = [];
  parted = refl;
  same = refl;
  stands = λ fed given is. subst (λ f. StandsForWords printer f given) (sym (append-nil fed)) is;
}

pub takes_line : (old mid new : PrinterState) (piece rest line after : List ℕ) → TakesTo old mid piece rest → IsFirstLine rest line after → AppendsStated (IsShownLine (mid.waiting ++ line)) mid.written new.written → new.waiting ≡ [] → new.has_failed ≡ mid.has_failed → TakesTo old new piece after
takes_line old mid new piece rest line after takes first shows none same = record {
  front = takes.front ++ line;
  parted = takes.parted ∙ ap (λ t. takes.front ++ t) first.parted ∙ sym (append_assoc takes.front line after);
  same = same ∙ takes.same;
  stands = λ fed given is. subst (λ f. StandsForWords new f given) (append_assoc fed takes.front line) (line_taken mid new line (fed ++ takes.front) given first.ends shows none same (takes.stands fed given is));
}

pub takes_all : (old mid new : PrinterState) (piece rest : List ℕ) → TakesTo old mid piece rest → HasNoFeed rest → new.waiting ≡ mid.waiting ++ rest → new.written ≡ mid.written → new.has_failed ≡ mid.has_failed → (fed given : List ℕ) → StandsForWords old fed given → StandsForWords new (fed ++ piece) given
takes_all old mid new piece rest takes none waits same works fed given is =
    subst (λ f. StandsForWords new f given) (append_assoc fed takes.front rest ∙ ap (λ t. fed ++ t) (sym takes.parted))
    (part_taken mid new rest (fed ++ takes.front) given none waits same works (takes.stands fed given is))

pub takes_part : (old mid new : PrinterState) (piece rest : List ℕ) → TakesTo old mid piece rest → new.written ≡ mid.written → (fed given : List ℕ) → StandsForWords old fed given → StandsInPart new (fed ++ piece) given
takes_part old mid new piece rest takes same fed given is =
    subst (λ f. StandsInPart new f given) (append_assoc fed takes.front rest ∙ ap (λ t. fed ++ t) (sym takes.parted))
    (in_part mid new rest (fed ++ takes.front) given same (takes.stands fed given is))

pub part_again : (a b : PrinterState) (fed given : List ℕ) → b.written ≡ a.written → StandsInPart a fed given → StandsInPart b fed given
part_again a b fed given same is = record {
  done = is.done;
  rest = is.rest;
  whole = is.whole;
  shown = subst (λ w. AreShown is.done (given ++ w)) (sym same) is.shown;
}

pub filled : (octets : List ℕ) (test : Bool) → test ≡ (length octets == 0) → test ≡ false → octets ≡ [] → ⊥
filled octets test is fails none = false≢true (sym fails ∙ is ∙ ap (λ o. length o == 0) none)

pub last_ended : (old new : PrinterState) (fed given : List ℕ) → old.waiting ≢ [] → AppendsStated (IsShownLine (old.waiting ++ [])) old.written new.written → StandsForWords old fed given → IsShownText fed (given ++ new.written)
last_ended old new fed given some shows is =
    unended is.done old.waiting (given ++ old.written) shows.octets is.whole (ap (λ t. given ++ t) shows.written ∙ sym (append_assoc given old.written shows.octets))
    is.shown is.unended some (subst (λ l. IsShownLine l shows.octets) (append-nil old.waiting) shows.stated)
