-- What becomes of a `$GENERATE`, as the code has it.
use Rattle.std.proofs.Common.{◌≡◌, ℕ, List, [], ◌∷◌, length, Bool, false, codes, Option, Some, None, Err, Ok, refl, sym, ap, subst, ◌∙◌, inl}
use Rattle.std.specs.Prelude.{IsTrue, ◌↔◌}
use Rattle.zone_name.specs.Name.{folded_label}
use Rattle.zone_name.specs.Common.{Labels}
use Rattle.zone_name.specs.Spelling.{SpellsCased}
use Rattle.zone_rdata.specs.Item.{RawItem, bare, quoted}
use Rattle.zone_text.proofs.Heads.ClassWords.{word_test}
use Rattle.zone_words.specs.Inherited.{IsOneOrNone}
use Rattle.zone_generate.specs.Entry.{Generation, generation_in}
use Rattle.zone_generate.specs.Lines.{last_owner}
use Rattle.zone_generate.specs.Steps.{AreWithin}
use Rattle.zone_generate.specs.declared.failing.GenerateFault.{GenerateFault}
use Rattle.zone_files.specs.Expansion.{Generates, Holds, SpellsLast, after_lines, as_lines, fails, generate_fault, has_lines, no_lines, says_generate}
use Rattle.zone_files.specs.FileExpander.{AddsWithin}
use Rattle.zone_files.specs.Machine.Stepping.{GeneratesAs}
use Rattle.zone_files.specs.declared.expansion.step.Step.TheVariants as steps
use Rattle.zone_files.specs.declared.fault.ExpansionFault.{ExpansionFault}

-- ---- its word

pub word_said : (items : List RawItem) (word : List ℕ) (rest : List RawItem) (is : Bool) → items ≡ bare word ∷ rest → (IsTrue is ↔ (folded_label word ≡ codes "$generate")) → is ≡ says_generate items
word_said items word rest is e same = word_test is (folded_label word) (codes "$generate") same ∙ ap says_generate (sym e)

pub no_word : (items : List RawItem) → ((text : List ℕ) (rest : List RawItem) → items ≡ bare text ∷ rest → ⊥) → false ≡ says_generate items
no_word [] none = refl
no_word (bare text ∷ items) none = absurd (none text items refl)
no_word (quoted text ∷ items) none = refl

-- ---- the owner of the last line

pub last_some : (origin : Labels) (said : Option (List ℕ)) (text : List ℕ) (found : Option Labels) → Some text ≡ said → IsOneOrNone (SpellsCased (Some origin) text) found → IsOneOrNone (SpellsLast origin said) found
last_some origin said text found is p = subst (λ s. IsOneOrNone (SpellsLast origin s) found) is p

-- ---- its lines, or its fault

pub lines_stated : (old new : Holds) (items all : List RawItem) (g : Generation) (named : Option Labels) → items ≡ all → generation_in items ≡ Ok g → IsOneOrNone (SpellsLast old.origin (last_owner g.templates g.values)) named → new ≡ after_lines named (length g.values) old → GeneratesAs old all (steps.Generates g) new
lines_stated old new items all g named same is spells held lines fault are =
    subst (λ h. Generates old all (as_lines lines h fault)) (sym held)
    (has_lines g lines fault named (ap generation_in (sym same) ∙ is) are spells refl)

pub fault_stated : (old : Holds) (items all : List RawItem) (fault : GenerateFault) (told : ExpansionFault) → items ≡ all → generation_in items ≡ Err fault → told ≡ generate_fault fault → GeneratesAs old all (steps.Fails told) old
fault_stated old items all fault told same is told_is = (no_lines fault (ap generation_in (sym same) ∙ is) (ap fails told_is), refl)

-- ---- how much is appended

pub adds_within : (generated : Option Generation) (g : Generation) (before after : List ℕ) → generated ≡ Some g → AreWithin 65536 g.templates before after → AddsWithin generated before after
adds_within generated g before after is within = subst (λ o. AddsWithin o before after) (sym is) within

pub adds_none : (generated : Option Generation) (before : List ℕ) → AddsWithin generated before before
adds_none None before = refl
adds_none (Some g) before = inl refl
