-- What is answered on files with further types, and of texts (this project's own).
use Rattle.std.specs.Prelude.{◌≡◌, ◌≢◌, ℕ, List, [], ◌⊎◌, Option, Some, None}
use Rattle.zone_name.specs.Common.{Labels}
use Rattle.zone_name.specs.Spelling.{SpellsCased}
use Rattle.zone_words.specs.Refusal.{refusal_text}
use Rattle.zone_words.specs.Rewriter.{RewritesFile}
use Rattle.zone_words.specs.declared.refusal.Refusal.{Refusal}
use Rattle.zone_words.specs.declared.refusal.Refusals.{Refusals}
use Rattle.words_print.specs.Shown.{IsShownText}
use Rattle.zonenorm_c.specs.Answering.{ReportsUnread, HasStatus}
use Rattle.zonenorm_c.specs.Giving.{IsUnread}
use Rattle.zonenorm_c.specs.declared.answer.Answer.{Answer}
use Rattle.zonenorm_c.specs.declared.given.Given.{Given}
use Rattle.zonenorm_c.specs.declared.given.Unread.{Unread}

-- the report on the entries that state no data: the first, and how many there are
abbrev pub ReportsFirst : Option Refusal → ℕ → List ℕ → Answer → Type 0
ReportsFirst None count reason answer = (answer.status ≡ 0) × (reason ≡ [])
ReportsFirst (Some refusal) count reason answer =
    (answer.status ≡ 3) × (answer.line ≡ refusal.line) × (answer.count ≡ count)
    × ((reason ≡ refusal_text refusal) ⊎ (reason ≡ []))

-- the file rewritten, under the name that its origin spells, its letters kept
pub record IsRewritten (given : Given) (text : List ℕ) (short : Refusals) : Type 0 where
  pub cased : Labels
  pub spells : SpellsCased None given.origin.now cased
  pub is : RewritesFile cased given.octets.now text short

-- the file rewritten, with the report on its entries; or why it isn't
pub data AnswersGeneric (given : Given) (text reason : List ℕ) (answer : Answer) : Type 0 where
  rewritten : (short : Refusals) → given.kind ≡ 2 → IsRewritten given text short
      → ReportsFirst short.first short.count reason answer → AnswersGeneric given text reason answer
  not_a_file : given.kind ≢ 2 → text ≡ [] → HasStatus 5 reason answer
      → AnswersGeneric given text reason answer
  unread : (why : Unread) → IsUnread given why → text ≡ []
      → ReportsUnread why reason answer → AnswersGeneric given text reason answer

-- the text with the data of further types in presentation format
pub data AnswersWords (octets text : List ℕ) (answer : Answer) : Type 0 where
  shown : IsShownText octets text → answer.status ≡ 0 → AnswersWords octets text answer
  no_memory : text ≡ [] → answer.status ≡ 4 → AnswersWords octets text answer
