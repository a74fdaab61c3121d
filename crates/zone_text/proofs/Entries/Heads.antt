-- A record entry up to its data.
use Rattle.std.specs.Prelude.{ℕ, List}
use Rattle.zone_name.specs.Common.{Labels}
use Rattle.zone_rdata.specs.Spelling.{RawItem}
use Rattle.zone_text.specs.Entries.{Entry}
use Rattle.zone_text.specs.Records.{HasHead}

-- what a record entry states before its data, and the items of its data
pub record Head : Type 0 where
  pub owner : Labels
  pub class : ℕ
  pub kind : ℕ
  pub items : List RawItem

abbrev pub HasHeadOf : Labels → List Entry → Entry → Head → Type 0
HasHeadOf origin before entry head =
    HasHead origin before entry head.owner head.class head.kind head.items
