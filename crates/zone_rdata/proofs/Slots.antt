-- The slots of a queue: what is left of the records where some move, and where the first goes.
use Rattle.zone_rdata.proofs.Common.{take-set-lt, drop-drop, drop-set-lt, drop-take, length-drop, take-append-le, ℕ, ◌+◌, ◌-◌, ◌<◌, ◌≤◌, ◌≡◌, ◌++◌, ◌∙◌, List, [], ◌∷◌, Some, ap, arith, drop, get_or, length, refl, sym, take, others, Placed}
use Rattle.zone_rdata.specs.RrSource.{first_record}
use Rattle.std.proofs.Math.ListN.{set}
use Rattle.std.proofs.lemmas.List.{drop-append-le, drop_more, get_or-take, length-take-le, take_more_set}

pub others_drop : (records : List Placed) → others records ≡ drop 1 records
others_drop [] = refl
others_drop (r ∷ records) = refl

-- the records, where the slots before them come after all
pub turned : (slots : List Placed) (first end : ℕ) → first ≤ end → end ≤ length slots → take (end - first) (drop first slots ++ take first slots) ≡ drop first (take end slots)
turned slots first end order inside =
    let long = length-drop first slots in
    let whole : first + (end - first) ≡ end = omega arith in
    take-append-le (end - first) (drop first slots) (take first slots) (omega arith)
    ∙ sym (drop-take first (end - first) slots)
    ∙ ap (λ n. drop first (take n slots)) whole

-- the records without the first, whatever is left in its slot
pub skipped : (slots : List Placed) (first end : ℕ) (left : Placed) → first < end → drop (first + 1) (take end (set slots first left)) ≡ others (drop first (take end slots))
skipped slots first end left some =
    ap (drop (first + 1)) (take-set-lt end slots first left some)
    ∙ drop-set-lt (first + 1) (take end slots) first left (omega arith)
    ∙ sym (drop-drop 1 first (take end slots))
    ∙ sym (others_drop (drop first (take end slots)))

-- the same, where something is left in that slot before
pub popped : (slots : List Placed) (first end : ℕ) (left : Placed) → first < end → others (drop first (take end (set slots first left))) ≡ others (drop first (take end slots))
popped slots first end left some =
    others_drop (drop first (take end (set slots first left)))
    ∙ drop-drop 1 first (take end (set slots first left))
    ∙ skipped slots first end left some

-- a record is written to a free slot after the records
pub written : (slots : List Placed) (first end : ℕ) (placed : Placed) → first ≤ end → end < length slots → drop first (take (end + 1) (set slots end placed)) ≡ drop first (take end slots) ++ placed ∷ []
written slots first end placed order inside =
    ap (drop first) (take_more_set slots end placed inside)
    ∙ drop-append-le first (take end slots) (placed ∷ []) (omega (arith, length-take-le end slots (omega arith)))

-- the first record is that in its slot
pub first_at : (slots : List Placed) (first end : ℕ) (d : Placed) → first < end → end ≤ length slots → Some (get_or slots first d) ≡ first_record (drop first (take end slots))
first_at slots first end d some inside =
    ap Some (sym (get_or-take end slots first d some))
    ∙ ap first_record (sym (drop_more (take end slots) first d (omega (arith, length-take-le end slots inside))))
