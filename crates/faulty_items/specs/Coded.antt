-- Where a reading stops, as the code holds it.
use Rattle.std.specs.Prelude.{option_map}
use Rattle.zone_rdata.specs.Item.{raw}
use Rattle.faulty_items.specs.EntryStop.{EntryStop, before_data, in_data, in_further_data}
use Rattle.faulty_items.specs.FurtherStop.{FurtherStop, further_stop}
use Rattle.faulty_items.specs.Stop.{stop_of}
use Rattle.faulty_items.specs.declared.entry.EntryStop as code
use Rattle.faulty_items.specs.declared.entry.EntryStop.TheVariants as coded
use Rattle.faulty_items.specs.declared.further.FurtherStop as further

abbrev pub coded_stop : further.FurtherStop → FurtherStop
coded_stop s = further_stop s.field.now s.fault (option_map raw s.item)

abbrev pub coded_entry : code.EntryStop → EntryStop
coded_entry (coded.BeforeData item) = before_data (option_map raw item)
coded_entry (coded.Data number stop) = in_data number (stop_of stop)
coded_entry (coded.FurtherData number stop) = in_further_data number (coded_stop stop)
