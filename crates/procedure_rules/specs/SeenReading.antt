-- What the code holds of a READ, as the definitions see it.
use Rattle.std.specs.Prelude.{Option, option_map}
use Rattle.std.specs.Option.{option_copied}
use Rattle.procedure_rules.specs.declared.reading.Reading.{Reading}
use Rattle.procedure_rules.specs.Reading as r

abbrev pub seen_reading : Reading → r.Reading
seen_reading one = record { file = one.file.now; directed = one.directed; advancing = one.advancing; ignoring = one.ignoring; lock = one.lock; key = option_copied one.key; ending = one.ending; invalid = one.invalid }

abbrev pub seen_readings : Option Reading → Option r.Reading
seen_readings one = option_map seen_reading one
