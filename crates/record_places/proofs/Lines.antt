-- The lines of records, as the records of a file are read one after another.
use Rattle.zone_set.proofs.Common.{◌≡◌, ℕ, suc, zero, ◌+◌, ◌<◌, Equal, Less, List, [], ◌∷◌, ◌++◌, Some, refl, sym, ap, ◌∙◌, subst, inl, inr, ⊎_elim, append_assoc, arith, length, get_or, AllByRecursion-back, AllByRecursion-front, tied_itself, Has, Placed, Place, Record, records_of}
use Rattle.std.proofs.Math.ListN.{set}
use Rattle.std.specs.List.{slice_get}
use Rattle.std.specs.Prelude.{count_by, replicate, ◌==◌}
use Rattle.zone_engine.proofs.Refusals.Parting.{Has-last}
use Rattle.zone_name.specs.Common.{Labels}
use Rattle.zone_rdata.specs.declared.fault.Place.TheVariants.{Line}
use Rattle.zone_set.proofs.Holding.Together.{each_Has}
use Rattle.zone_set.proofs.Ordering.SetOrder.{canonical_total}
use Rattle.zone_set.specs.Order.{Ascends, canonical_cmp}
use Rattle.zone_text.specs.Entries.{Entry, entry_of, numbered}
use Rattle.zone_text.specs.File.{EntriesState, FileStates, states_none, states_one}
use Rattle.zone_text.specs.Tokens.{Token, text}
use Rattle.record_places.proofs.Sought.{has_at}
use Rattle.record_places.specs.FirstLines.{EachFirstOn, IsFirstOn}
use Rattle.record_places.specs.Machine.SoFar.{AreOnLines, EachSoFar, IsLineSoFar, IsOnLine, first, none}

-- ---- one record more

module _ (given : List Placed) (p : Placed) where
  still_first : (r : Record) (line : ℕ) → IsFirstOn given r line → IsFirstOn (given ++ p ∷ []) r line
  still_first r line it = record {
    before = it.before;
    others = it.others ++ p ∷ [];
    parts = ap (λ ps. ps ++ p ∷ []) it.parts ∙ append_assoc it.before (record { rr = r; place = Line line } ∷ it.others) (p ∷ []);
    first = it.first;
  }

  -- another record
  other_kept : (r : Record) (line : ℕ) → (r ≡ p.rr → ⊥) → IsLineSoFar given r line → IsLineSoFar (given ++ p ∷ []) r line
  other_kept r line other (none zero_line lacks) = none zero_line (λ has. ⊎_elim lacks other (Has-last given p r has))
  other_kept r line other (first some it) = first some (still_first r line it)

  pub others_kept : (records : List Record) (lines : List ℕ) → (Has records p.rr → ⊥) → EachSoFar given records lines → EachSoFar (given ++ p ∷ []) records lines
  others_kept [] lines lacks each = each
  others_kept (r ∷ records) [] lacks each = each
  others_kept (r ∷ records) (line ∷ lines) lacks each = (
    other_kept r line (λ same. lacks (inl (sym same))) each.0,
    others_kept records lines (λ has. lacks (inr has)) each.1,
  )

  -- the record: its line stays, or it is the line of this one
  pub line_kept : (line : ℕ) → (line ≡ 0 → ⊥) → IsLineSoFar given p.rr line → IsLineSoFar (given ++ p ∷ []) p.rr line
  line_kept line some (none zero_line lacks) = absurd (some zero_line)
  line_kept line some (first more it) = first more (still_first p.rr line it)

  pub line_found : (line new : ℕ) → line ≡ 0 → p.place ≡ Line new → 0 < new → IsLineSoFar given p.rr line → IsLineSoFar (given ++ p ∷ []) p.rr new
  line_found line new zero_line stands some (none is lacks) = first some (record {
    before = given;
    others = [];
    parts = ap (λ (at : Place). given ++ record { rr = p.rr; place = at } ∷ []) stands;
    first = lacks;
  })
  line_found line new zero_line stands some (first more it) = absurd (omega arith)

  -- the record at an index gets its line
  pub line_put : (records : List Record) (lines : List ℕ) (i new : ℕ) → Ascends records → slice_get records i ≡ Some p.rr
      → (IsLineSoFar given p.rr (get_or lines i 0) → IsLineSoFar (given ++ p ∷ []) p.rr new)
      → EachSoFar given records lines → EachSoFar (given ++ p ∷ []) records (set lines i new)
  line_put [] lines i new up at step each = absurd (cc)
  line_put (r ∷ records) [] i new up at step each = absurd each
  line_put (r ∷ records) (line ∷ lines) zero new up at step each =
      let same : r ≡ p.rr = cc in (
        subst (λ s. IsLineSoFar (given ++ p ∷ []) s new) (sym same) (step (subst (λ s. IsLineSoFar given s line) same each.0)),
        others_kept records lines (λ has. let bad : Less ≡ Equal = sym (each_Has (λ s. canonical_cmp r s ≡ Less) records p.rr up.0 has) ∙ ap (canonical_cmp r) (sym same) ∙ tied_itself canonical_total r in cc bad) each.1,
      )
  line_put (r ∷ records) (line ∷ lines) (suc i) new up at step each = (
    other_kept r line (λ same. let bad : Less ≡ Equal = sym (each_Has (λ s. canonical_cmp r s ≡ Less) records p.rr up.0 (has_at records i p.rr at)) ∙ ap (canonical_cmp r) (sym same) ∙ tied_itself canonical_total r in cc bad) each.0,
    line_put records lines i new up.1 at step each.1,
  )

  -- there is a line for each record
  pub line_at : (records : List Record) (lines : List ℕ) (i : ℕ) (r : Record) → slice_get records i ≡ Some r → EachSoFar given records lines → i < length lines
  line_at [] lines i r at each = absurd (cc)
  line_at (q ∷ records) [] i r at each = absurd each
  line_at (q ∷ records) (line ∷ lines) zero r at each = omega arith
  line_at (q ∷ records) (line ∷ lines) (suc i) r at each = let more : i < length lines = line_at records lines i r at each.1 in omega arith

  pub given_on_lines : AreOnLines (given ++ p ∷ []) → AreOnLines given
  given_on_lines on = AllByRecursion-front IsOnLine given (p ∷ []) on

  pub last_on_line : AreOnLines (given ++ p ∷ []) → (line : ℕ) × (p.place ≡ Line line) × (0 < line)
  last_on_line on = (AllByRecursion-back IsOnLine given (p ∷ []) on).0

  pub last_line : (line : ℕ) → p.place ≡ Line line → AreOnLines (given ++ p ∷ []) → 0 < line
  last_line line stands on =
      let (own, is, some) = last_on_line on in
      let same : own ≡ line = let both : Line own ≡ Line line = sym is ∙ stands in cc in
      subst (λ n. 0 < n) same some

-- ---- at the start and at the end

pub none_so_far : (records : List Record) → EachSoFar [] records (replicate (length records) 0)
none_so_far [] = refl
none_so_far (r ∷ records) = (none refl (λ has. has), none_so_far records)

pub all_found : (placed : List Placed) (records : List Record) (lines : List ℕ) → ((r : Record) → Has records r → Has (records_of placed) r) → EachSoFar placed records lines → EachFirstOn placed records lines
all_found placed [] lines stated each = each
all_found placed (r ∷ records) [] stated each = each
all_found placed (r ∷ records) (line ∷ lines) stated each = (
  found each.0,
  all_found placed records lines (λ s has. stated s (inr has)) each.1,
)
  where
    found : IsLineSoFar placed r line → IsFirstOn placed r line
    found (none zero_line lacks) = absurd (lacks (stated r (inl refl)))
    found (first some it) = it

-- the records of entries are on their lines
on_lines : (origin : Labels) (before : List Entry) (line : ℕ) (entries : List (List Token)) (placed : List Placed) → 0 < line → EntriesState origin before (numbered line entries) placed → AreOnLines placed
on_lines origin before line [] placed some stated = subst AreOnLines (sym stated) tt
on_lines origin before line (tokens ∷ entries) placed some (states_none nothing others) = on_lines origin (entry_of line tokens ∷ before) (line + count_by (λ c. c == 10) (text tokens)) entries placed (omega arith) others
on_lines origin before line (tokens ∷ entries) placed some (states_one p more states stands is others) =
    subst AreOnLines (sym is) ((line, stands, some), on_lines origin (entry_of line tokens ∷ before) (line + count_by (λ c. c == 10) (text tokens)) entries more (omega arith) others)

pub stated_on_lines : (origin : Labels) (octets : List ℕ) (placed : List Placed) → FileStates origin octets placed → AreOnLines placed
stated_on_lines origin octets placed it = on_lines origin [] 1 _ placed (omega arith) it.each
