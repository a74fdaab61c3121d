-- Texts that aren't a word.
use Rattle.std.proofs.Common.{◌≡◌, Bool, true, false, nat_eq, sym, ◌∙◌}
use Rattle.std.specs.Cmp.Lexicographic.{bytes_decides, pointwise}
use Rattle.clap.specs.Words.{Text}

pub not_same : (text word : Text) (b : Bool) → b ≡ pointwise nat_eq text word → b ≡ false → text ≡ word → ⊥
not_same text word b test fails is = let yes : pointwise nat_eq text word ≡ true = (bytes_decides text word).1 is in let no : true ≡ false = sym yes ∙ sym test ∙ fails in cc
