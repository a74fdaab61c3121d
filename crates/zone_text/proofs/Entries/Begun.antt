-- What a source holds at the beginning of a file and at that of an entry.
use Rattle.zone_text.proofs.Common.{Bool, Cuts, EndedEntries, FileDecides, Follow, IsSplitter, IsStateAfter, Labels, List, None, Option, Some, [], arith, common_steps, false, inl, is_some, length, refl, sym, true, undecided, ℕ, ◌==◌, ◌≡◌, ◌≤◌}
use Rattle.zone_text.proofs.Files.Left.{none_cut}
use Rattle.zone_text.specs.OpenEntry.{HeldEntry}
use Rattle.zone_text.specs.declared.open_entry.EntryState.TheVariants.{Open}

-- octets of which there is none, or one
pub none_left : (octets : List ℕ) (n : ℕ) (empty : Bool) → n ≡ length octets → empty ≡ (n == 0) → empty ≡ true → octets ≡ []
none_left octets n empty len is none_is = grind (arith, common_steps)

pub some_left : (octets : List ℕ) (n : ℕ) (empty : Bool) → n ≡ length octets → empty ≡ (n == 0) → empty ≡ false → octets ≡ [] → ⊥
some_left octets n empty len is some_is none = cc

-- a fault that is decided
pub some_found : {A : Type 0} (o : Option A) → is_some o ≡ true → (x : A) × (o ≡ Some x)
some_found o is = grind arith

pub none_found : {A : Type 0} (o : Option A) → is_some o ≡ false → o ≡ None
none_found o is = grind arith

-- no octets are held
pub nothing_taken : (ended : EndedEntries) (unfinished : HeldEntry) → unfinished.octets ≡ [] → unfinished.state ≡ Open → 1 ≤ ended.line → IsSplitter ended unfinished
nothing_taken ended unfinished none is_open line = record { state = is_open; dropped = λ found e. none; line = line }

pub no_tokens : Cuts [] []
no_tokens = record { whole = refl; each = tt; follow = tt; balanced = refl }

-- of nothing, nothing is decided
pub nothing_decided : (origin : Labels) → FileDecides origin [] [] None
nothing_decided origin = undecided [] (inl no_tokens) (none_cut [] [] no_tokens) (refl, refl)

pub nothing_follows : (origin : Labels) (ended : EndedEntries) (unfinished : List ℕ) → unfinished ≡ [] → ended.decided.placed ≡ [] → ended.decided.ending ≡ None → IsStateAfter origin [] ended.state → ended.line ≡ 1 → Follow origin ended unfinished [] []
nothing_follows origin ended unfinished none records ending state line = record {
  decided = rw (records, ending) (nothing_decided origin);
  leave = λ _. record {
    octets = record { tokens = []; are = inl no_tokens; whole = sym none };
    inherited = state;
    numbered = line;
  };
}
