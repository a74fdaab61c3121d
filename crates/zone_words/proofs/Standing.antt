-- What a rewriter stands for.
use Rattle.zone_words.proofs.Common.{AreInShort, FollowInPart, FollowOn, HasWritten, HasWrittenAll, HasWrittenInPart, HeldText, IsRewriting, IsSoFar, Labels, List, Refused, RewriterState, RewritesFile, StandsForRewriting, StandsInPart, WritesAll, [], all_given, ap, append-nil, arith, going, length, length-append, refl, state_of, stopped, subst, sym, ℕ, ◌++◌, ◌+◌, ◌≡◌}
use Rattle.zone_rdata.specs.FedSource.{is_finished}
use Rattle.zone_rdata.specs.declared.fed.FedStatus.{FedStatus}
use Rattle.zone_rdata.specs.declared.fed.FedStatus.TheVariants.{Finished, Open, OutOfMemory}
use Rattle.zone_words.proofs.FedTexts.{in_part}
use Rattle.zone_words.specs.declared.fed_writer.FedWriter.{FedWriter}
use Rattle.zone_words.specs.declared.refusal.Refusals.{Refusals}

written_of : (origin : Labels) (n : ℕ) (w : FedWriter) (fed given : List ℕ) → StandsForRewriting origin (state_of Open n w) fed given → HasWritten origin w fed given
written_of origin n w fed given stands = record { told = stands.told; in_short = stands.in_short; so_far = stands.so_far refl }

-- a piece more
pub stands_more : (status : FedStatus) (n more : ℕ) (old new : FedWriter) (part : List ℕ) → status ≡ Open → more ≡ n + length part → FollowOn old part new → (origin : Labels) (fed given : List ℕ) → StandsForRewriting origin (state_of status n old) fed given → StandsForRewriting origin (state_of status more new) (fed ++ part) given
stands_more status n more old new part is count on origin fed given stands =
    let before : StandsForRewriting origin (state_of Open n old) fed given = subst (λ s. StandsForRewriting origin (state_of s n old) fed given) is stands in
    let h = on origin fed given (written_of origin n old fed given before) in
    subst (λ s. StandsForRewriting origin (state_of s more new) (fed ++ part) given) (sym is) (record {
      works = refl;
      count = omega (arith, count, before.count, length-append fed part);
      told = h.told;
      in_short = h.in_short;
      so_far = λ _. h.so_far;
      all = λ e. absurd cc;
    })

-- the end of the file
pub stands_finished : (status : FedStatus) (n : ℕ) (old new : FedWriter) → status ≡ Open → WritesAll old new → (origin : Labels) (fed given : List ℕ) → StandsForRewriting origin (state_of status n old) fed given → StandsForRewriting origin (state_of Finished n new) fed given
stands_finished status n old new is all origin fed given stands =
    let before : StandsForRewriting origin (state_of Open n old) fed given = subst (λ s. StandsForRewriting origin (state_of s n old) fed given) is stands in
    let h = all origin fed given (written_of origin n old fed given before) in
    record {
      works = refl;
      count = before.count;
      told = h.told;
      in_short = h.in_short;
      so_far = λ e. absurd cc;
      all = λ _. h.all;
    }

-- one entry was the whole file
pub stands_alone : (origin : Labels) (n : ℕ) (w : FedWriter) (entry : List ℕ) → n ≡ length entry → HasWrittenAll origin w entry [] → StandsForRewriting origin (state_of Finished n w) entry []
stands_alone origin n w entry count h = record {
  works = refl;
  count = count;
  told = h.told;
  in_short = h.in_short;
  so_far = λ e. absurd cc;
  all = λ _. h.all;
}

pub refused_alone : (origin : Labels) (n : ℕ) (begun new : FedWriter) (entry : List ℕ) → HasWritten origin begun [] [] → new.entries.refusals ≡ begun.entries.refusals → new.entries.written.items ≡ begun.entries.written.items → StandsInPart origin (state_of OutOfMemory n new) entry []
refused_alone origin n begun new entry h told written =
    let part = in_part origin begun new [] [] entry told written h in
    record { told = part.told; in_short = part.in_short; part = part.part }

-- memory was refused
pub stands_in_part : (status : FedStatus) (n : ℕ) (old mid new : FedWriter) (part : List ℕ) → status ≡ Open → FollowInPart old part mid → new.entries ≡ mid.entries → (origin : Labels) (fed given : List ℕ) → StandsForRewriting origin (state_of status n old) fed given → StandsInPart origin (state_of OutOfMemory n new) (fed ++ part) given
stands_in_part status n old mid new part is on same origin fed given stands =
    let h = on origin fed given (written_of origin n old fed given (subst (λ s. StandsForRewriting origin (state_of s n old) fed given) is stands)) in
    let now : HasWrittenInPart origin new (fed ++ part) given = subst (λ e. HasWrittenInPart origin (record { alloc = new.alloc; entries = e; unfinished = new.unfinished; is_broken = new.is_broken }) (fed ++ part) given) (sym same) (record { told = h.told; in_short = h.in_short; part = h.part }) in
    record { told = now.told; in_short = now.in_short; part = now.part }

-- what was written is given
so_given : (origin : Labels) (held : HeldText) (fed new : List ℕ) (told : List Refused) → IsSoFar origin held fed new told → IsSoFar origin (record held { written = [] }) fed new told
so_given origin held fed new told (going same on) = going same (record { done = on.done; are = on.are; whole = on.whole; is_open = on.is_open; line = on.line; inherited = on.inherited })
so_given origin held fed new told (stopped broken none so) = stopped broken none so

pub stands_given : (origin : Labels) (old : RewriterState) (fed given : List ℕ) → StandsForRewriting origin old fed given → StandsForRewriting origin (all_given old) fed (given ++ old.held.written)
stands_given origin old fed given stands =
    let same : given ++ old.held.written ≡ (given ++ old.held.written) ++ [] = sym (append-nil (given ++ old.held.written)) in
    record {
      works = stands.works;
      count = stands.count;
      told = stands.told;
      in_short = stands.in_short;
      so_far = λ e. subst (λ t. IsSoFar origin (all_given old).held fed t stands.told) same (so_given origin old.held fed (given ++ old.held.written) stands.told (stands.so_far e));
      all = λ e. subst (λ t. IsRewriting origin fed t stands.told) same (stands.all e);
    }

pub stands_cleared : (origin : Labels) (held : HeldText) (n : ℕ) (status : FedStatus) (written : List ℕ) → written ≡ [] → (fed given : List ℕ) → StandsForRewriting origin (record { held = held; fed = n; status = status }) fed given → StandsForRewriting origin (record { held = record held { written = written }; fed = n; status = status }) fed (given ++ held.written)
stands_cleared origin held n status written none fed given stands =
    subst (λ t. StandsForRewriting origin (record { held = record held { written = t }; fed = n; status = status }) fed (given ++ held.written)) (sym none)
    (stands_given origin (record { held = held; fed = n; status = status }) fed given stands)

-- ---- the whole file

pub rewrites_file : (origin : Labels) (rewriter : RewriterState) (octets new : List ℕ) (short : Refusals) → rewriter.status ≡ Finished → new ≡ rewriter.held.written → short ≡ rewriter.held.told → StandsForRewriting origin rewriter octets [] → RewritesFile origin octets new short
rewrites_file origin rewriter octets new short finished new_is short_is stands = record {
  told = stands.told;
  in_short = subst (AreInShort stands.told) (sym short_is) stands.in_short;
  is = subst (λ t. IsRewriting origin octets t stands.told) (sym new_is) (stands.all (ap is_finished finished));
}
