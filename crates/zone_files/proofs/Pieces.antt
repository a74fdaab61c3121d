-- A line that is written piece by piece.
use Rattle.std.proofs.Common.{◌≡◌, ℕ, suc, ◌+◌, ◌-◌, ◌<◌, List, [], ◌∷◌, ◌++◌, length, take, drop, get_or, refl, sym, ap, ◌∙◌, append_assoc, append-nil, add-one, arith, codes, length-append}
use Rattle.std.proofs.KnownBytes.{Appends-nil}
use Rattle.std.specs.Prelude.{Option}
use Rattle.zone_print.proofs.Front.{Left, part_more, left_less, left_none}
use Rattle.std.proofs.Math.Seq.{drop-cons, take-append_seam}
use Rattle.std.specs.List.{flat_map}
use Rattle.zone_files.specs.PlacedLine.{placed_text}

-- pieces with a line feed behind them
abbrev pub fed_pieces : {X : Type 0} → (X → List ℕ) → List X → List ℕ
fed_pieces f pieces = flat_map f pieces ++ 10 ∷ []

-- the next piece, and those after it
pub next_piece : {X : Type 0} (f : X → List ℕ) (pieces : List X) (i : ℕ) (d : X) → i < length pieces → fed_pieces f (drop i pieces) ≡ f (get_or pieces i d) ++ fed_pieces f (drop (i + 1) pieces)
next_piece {X} f pieces i d here =
    ap (λ (rest : List X). fed_pieces f rest) (drop-cons pieces i d here)
    ∙ append_assoc (f (get_or pieces i d)) (flat_map f (drop (suc i) pieces)) (10 ∷ [])
    ∙ ap (λ (n : ℕ). f (get_or pieces i d) ++ fed_pieces f (drop n pieces)) (sym (add-one i))

-- ---- the front of a line

pub front_taken : (line head behind : List ℕ) (n : ℕ) → line ≡ head ++ behind → n ≡ length behind → take (length line - n) line ≡ head
front_taken line head behind n is counted =
    let so : length line - n ≡ length head = rw (is, counted) (omega (arith, length-append head behind)) in
    rw so (rw is (take-append_seam head behind))

pub three_behind : (head a b c : List ℕ) → head ++ a ++ b ++ c ≡ head ++ (a ++ b ++ c)
three_behind head a b c = grind (arith, append_assoc)

-- ---- what was written

pub left_all : (known : Option (List ℕ)) (text : List ℕ) → Left known known text text
left_all known text = record { front = []; split = refl; taken = Appends-nil known }

-- ---- one text of pieces

-- words, what is before the place, the place, and what is behind it
pub told_pieces : (w a b c d e f g h i j k l m n o : List ℕ) → w ++ (a ++ (b ++ (c ++ (d ++ (e ++ (f ++ (g ++ (h ++ (i ++ (j ++ (codes ": " ++ (k ++ (l ++ (m ++ (n ++ (o ++ [])))))))))))))))) ≡ w ++ ((a ++ b ++ c ++ d) ++ (e ++ f ++ g ++ h ++ i ++ j) ++ codes ": " ++ (k ++ l ++ m ++ n ++ o))
told_pieces w a b c d e f g h i j k l m n o = simp (append_assoc, append-nil) refl

-- the place, what is before the colon, and what is behind it
pub placed_pieces : (e f g h i j a b c d x k l m n o y : List ℕ) → e ++ (f ++ (g ++ (h ++ (i ++ (j ++ (codes ": " ++ (a ++ (b ++ (c ++ (d ++ (codes ": " ++ (x ++ (k ++ (l ++ (m ++ (n ++ (o ++ (y ++ [])))))))))))))))))) ≡ placed_text (e ++ f ++ g ++ h ++ i ++ j) (a ++ b ++ c ++ d) x (k ++ l ++ m ++ n ++ o) y
placed_pieces e f g h i j a b c d x k l m n o y = simp (append_assoc, append-nil) refl

pub placed_is : (place h head before d detail behind : List ℕ) → h ≡ head → d ≡ detail → placed_text place h before d behind ≡ placed_text place head before detail behind
placed_is place h head before d detail behind of_head of_detail = rw (of_head, of_detail) refl

pub told_is : (words h p d head place detail : List ℕ) → h ≡ head → p ≡ place → d ≡ detail → words ++ (h ++ p ++ codes ": " ++ d) ≡ words ++ (head ++ place ++ codes ": " ++ detail)
told_is words h p d head place detail of_head of_place of_detail = rw (of_head, of_place, of_detail) refl

pub data_is : (words h p d head place mnemonic field text : List ℕ) → h ≡ head → p ≡ place → d ≡ mnemonic ++ codes ", " ++ field ++ codes ": " ++ text → words ++ (h ++ p ++ codes ": " ++ d) ≡ words ++ (head ++ place ++ codes ": " ++ mnemonic ++ codes ", " ++ field ++ codes ": " ++ text)
data_is words h p d head place mnemonic field text of_head of_place of_detail = rw (of_head, of_place, of_detail) (simp append_assoc refl)

pub unreadable_is : (h p d entry name : List ℕ) → h ≡ [] → p ≡ entry → d ≡ name ++ codes ": can't be read" → h ++ p ++ codes ": " ++ d ≡ entry ++ codes ": " ++ name ++ codes ": can't be read"
unreadable_is h p d entry name of_head of_place of_detail = rw (of_head, of_place, of_detail) (sym (append_assoc (entry ++ codes ": ") name (codes ": can't be read")))

pub ruleset written = (next_piece, part_more, left_less, left_none, left_all)
