-- The bits that tell of dots and backslashes, walked from the lowest.
use Rattle.std.proofs.Common.{◌^◌}
use Rattle.std.proofs.lemmas.List.{drop-set-lt}
use Rattle.std.proofs.lemmas.Simd.{none_from_empty_mask}
use Rattle.std.specs.Int.Count.{count_trailing_zeros}
use Rattle.std.specs.Simd.Lanes.{mask_l}
use Rattle.zone_name.proofs.Common.{common_steps, List, TellsMarks, ap, arith, cases_lt, drop, drop-drop, false, get_or, inl, inr, is_mark, is_plain, length, length-drop, length-set, length-take-le, map, not, run_in_chunk_fails, run_in_chunk_stops, set, sym, take, trailing_mask_l, true, ℕ, ◌+◌, ◌-◌, ◌/◌, ◌<◌, ◌∙◌, ◌≡◌, ◌≢◌, ◌≤◌}
use Rattle.zone_name.proofs.InOctets.Runs.{after_bits, first_inside}
use Rattle.zone_name.specs.declared.reading.Marks.{Marks}
use lib.Lanes.{chunk}

-- each octet from one place to another is plain
abbrev pub ArePlainFrom : List ℕ → ℕ → ℕ → Type 0
ArePlainFrom octets start end =
    (k : ℕ) → start ≤ k → k < end → is_plain (get_or octets k 0) ≡ true

pub no_octets : (octets : List ℕ) (start : ℕ) → ArePlainFrom octets start start
no_octets octets start k from to = absurd (omega (arith, from, to))

-- the octets up to a place are plain, and the bits tell of those after it
pub record Walked (marks : Marks) (octets : List ℕ) (start end : ℕ) : Type 0 where
  pub front : start ≤ end
  pub within : end ≤ length octets
  pub each : ArePlainFrom octets start end
  pub tells : TellsMarks marks octets end

module _ (marks : Marks) (octets : List ℕ) (start end : ℕ) (walked : Walked marks octets start end) where
  room : end + (marks.seen - end) ≤ length octets
  room = omega (arith, walked.within, walked.tells.within)

  -- no bit is set
  pub seen_within : marks.seen ≤ length octets
  seen_within = omega (arith, room, walked.tells.front)

  pub all_plain : marks.bits ≡ 0 → ArePlainFrom octets start marks.seen
  all_plain none k from to = elim (cases_lt k end) [
    | inl early ↦ walked.each k from early
    | inr late ↦ ap not (none_from_empty_mask is_mark octets end (marks.seen - end) 0 room (sym walked.tells.bits ∙ none) k late (omega (arith, to)))
  ]

  -- the lowest that is set
  abbrev run : ℕ
  run = count_trailing_zeros 64 marks.bits

  pub record NextMark : Type 0 where
    pub within : end + run < length octets
    pub each : ArePlainFrom octets start (end + run)
    pub stops : is_plain (get_or octets (end + run) 0) ≡ false
    pub tells : TellsMarks (record { bits = marks.bits / 2 ^ run / 2; seen = marks.seen }) octets (end + run + 1)

  pub next_mark : marks.bits ≢ 0 → NextMark
  next_mark some =
      let n = marks.seen - end in
      let front = chunk end n octets in
      let back = drop end octets in
      let fits : n ≤ length back = omega (arith, room, length-drop end octets) in
      let long : length front ≡ n = length-take-le n back fits in
      let small : n ≤ 64 = omega (arith, walked.tells.few) in
      let set : mask_l (map is_mark front) ≢ 0 = λ e. some (walked.tells.bits ∙ e) in
      let count : run ≡ count_trailing_zeros 64 (mask_l (map is_mark front)) = ap (count_trailing_zeros 64) walked.tells.bits in
      let counted = count ∙ trailing_mask_l is_mark 64 front (omega (arith, long, small)) (omega (arith, set)) in
      let first = first_inside is_mark n back fits small set in
      let less : run < n = omega (arith, count, first.0, first.1) in
      let past : drop (run + 1) back ≡ drop (end + run + 1) octets = drop-drop (run + 1) end octets ∙ ap (λ k. drop k octets) (omega arith) in
      record {
        within = omega (arith, less, room);
        each = λ k from to. elim (cases_lt k end) [
          | inl early ↦ walked.each k from early
          | inr late ↦ ap not (run_in_chunk_fails is_mark octets end n run 0 room counted k late to)
        ];
        stops = ap not (run_in_chunk_stops is_mark octets end n run 0 room counted less);
        tells = record {
          front = omega (arith, less);
          few = omega (arith, walked.tells.few);
          within = omega (arith, room);
          bits = ap (λ m. m / 2 ^ run / 2) walked.tells.bits ∙ after_bits is_mark n run back less
              ∙ ap (λ t. mask_l (map is_mark (take (n - (run + 1)) t))) past
              ∙ ap (λ k. mask_l (map is_mark (chunk (end + run + 1) k octets))) (omega arith);
        };
      }

-- 16 octets more are looked at
pub looked : (marks : Marks) (octets : List ℕ) (at : ℕ) → at + 16 ≤ length octets
    → marks.bits ≡ mask_l (map is_mark (chunk at 16 octets)) → marks.seen ≡ at + 16
    → TellsMarks marks octets at
looked marks octets at room bits seen =
    grind (arith, common_steps)

-- an octet before them changes
pub tells_set : (marks : Marks) (octets : List ℕ) (start at v : ℕ) → at < start
    → TellsMarks marks octets start → TellsMarks marks (set octets at v) start
tells_set marks octets start at v before tells = grind (arith, length-set, drop-set-lt)
