-- The last line of a text that isn't whole.
use Rattle.words_command.proofs.Halting.{◌≡◌, ◌∙◌, ◌-◌, Bool, false, true, Some, ℕ, List, [], ◌++◌, ◌∷◌, ◌==◌, not, length, slice_get, refl, sym, ap, arith, ends_inside, inside_after, inside_by_last, inside_grown}
use Rattle.std.specs.Prelude.{if◌then◌else◌}
use Rattle.words_command.specs.Machine.Halting.{closing}
use Rattle.words_command.specs.declared.last_line.LastLine.{LastLine}

-- the last octet of a text, as `last` of a slice finds it
pub inside_by_found : (inside : Bool) (text : List ℕ) (last : ℕ) → Some last ≡ slice_get text (length text - 1) → not (last == 10) ≡ inside_after inside text
inside_by_found inside [] last is = cc
inside_by_found inside (octet ∷ text) last is =
    let front : length (octet ∷ text) - 1 ≡ length text = omega arith in
    sym (inside_by_last inside octet text last (sym (is ∙ ap (slice_get (octet ∷ text)) front)))

-- the line that is found by how what was written by then ends, and what is still to be written
pub closes : (last : LastLine) (given held text line : List ℕ) (inside after : Bool)
    → line ≡ (if after then last.inside_line.now else last.after_line.now) → after ≡ inside_after inside text
    → text ≡ held → inside ≡ ends_inside given → line ≡ closing last (given ++ held)
closes last given held text line inside after found is same ends =
    found ∙ ap (λ b. if b then last.inside_line.now else last.after_line.now) (inside_grown inside after given held ends (is ∙ ap (inside_after inside) same))

-- a line feed goes before a line that is apart
pub apart : (inside : Bool) (before after : List ℕ) → before ≡ 10 ∷ after → (if inside then before else after) ≡ (if inside then 10 ∷ [] else []) ++ after
apart false before after is = refl
apart true before after is = is

-- no line, either way
pub none : (inside : Bool) (nothing nothing' : List ℕ) → nothing ≡ [] → nothing' ≡ [] → (if inside then nothing else nothing') ≡ []
none false nothing nothing' is is' = is'
none true nothing nothing' is is' = is
