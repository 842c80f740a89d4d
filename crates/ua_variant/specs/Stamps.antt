-- What a DataValue says beside its value, OPC 10000-6, 5.2.2.17.
use Rattle.std.specs.Prelude.{ℕ, Option}
use Rattle.ua_value.specs.declared.date.DateTime.{DateTime}
use Rattle.ua_value.specs.declared.status.StatusCode.{StatusCode}
use Rattle.ua_value.specs.Date.{date_time}
use Rattle.ua_value.specs.Status.{status_code}
use Rattle.ua_variant.specs.declared.stamps.Stamps.{Stamps}
use Rattle.ua_variant.specs.Picoseconds.{picoseconds}
use Rattle.ua_variant.specs.Flagged.{Flagged, kept, then, shown}

abbrev pub Row : Type 0
Row = Option StatusCode × (Option DateTime × (Option ℕ × (Option DateTime × Option ℕ)))

abbrev pub row_of : Stamps → Row
row_of s = (s.status, (s.source_timestamp, (s.source_picoseconds, (s.server_timestamp, s.server_picoseconds))))

abbrev pub of_row : Row → Stamps
of_row r = record { status = r.0; source_timestamp = r.1.0; source_picoseconds = r.1.1.0; server_timestamp = r.1.1.1.0; server_picoseconds = r.1.1.1.1 }

-- in the order of their bytes, each with its bit
abbrev pub row : Flagged Row
row = then (kept 0x02 status_code) (then (kept 0x04 date_time) (then (kept 0x10 picoseconds) (then (kept 0x08 date_time) (kept 0x20 picoseconds))))

unfoldable pub stamps : Flagged Stamps
stamps = shown row_of of_row row
