-- What an assembly holds, and what it answers to a part.
use Rattle.std.specs.Prelude.{◌≡◌, ℕ, Bool, true, false, ◌==◌, List, [], ◌∷◌, Option, Some, None, if◌then◌else◌}
use Rattle.ua_frame.specs.Rows.{first_row}
use Rattle.ua_chunk.specs.Layout.{FlaggedChunk, abort_of}
use Rattle.ua_chunk.specs.Cut.{Part}
use Rattle.ua_chunk.specs.Half.{Half, with_part, part_rows}
use Rattle.ua_chunk.specs.Gathered.{Gathered}
use Rattle.ua_chunk.specs.declared.assembly.Added.{Added}
use Rattle.ua_chunk.specs.declared.assembly.Added.TheVariants.{More, Whole, Aborted}

abbrev pub gathered_none : ℕ → ℕ → Gathered
gathered_none max_message max_chunks = record { max_message = max_message; max_chunks = max_chunks; half = None; whole = false }

-- An abort drops the parts before it; any other part is put behind them, and F makes the message whole.
abbrev pub gathered_after : Gathered → ℕ → ℕ → List ℕ → Gathered
gathered_after g flag id bytes = record g { half = if flag == 65 then None else Some (with_part g.half id bytes); whole = flag == 70 }

abbrev pub half_of : Gathered → Option Half
half_of g = if g.whole then None else g.half

-- the status that refuses a part with this flag and request id, if any
abbrev pub fault_of : Gathered → ℕ → ℕ → List ℕ → Option ℕ
fault_of g flag id bytes = first_row (part_rows g.max_message g.max_chunks g.half flag id bytes)

abbrev pub part_fault : Gathered → FlaggedChunk → Option ℕ
part_fault g c = fault_of g c.flag c.chunk.request_id c.chunk.body

abbrev pub aborted_by : Option ℕ → Option Added
aborted_by None = None
aborted_by (Some status) = Some (Aborted status)

-- what comes of an accepted part
abbrev pub added_by : FlaggedChunk → Option Added
added_by c = if c.flag == 65 then aborted_by (abort_of c.chunk.body) else Some (if c.flag == 70 then Whole else More)

abbrev pub is_whole : Added → Bool
is_whole Whole = true
is_whole added = false

-- what is held after all of the parts
abbrev pub gathered_all : Gathered → List Part → Gathered
gathered_all g [] = g
gathered_all g (p ∷ parts) = gathered_all (gathered_after g p.flag p.id p.bytes) parts

-- Each part in its turn comes before the message is whole, and no row refuses it.
abbrev pub AreAccepted : Gathered → List Part → Type 0
AreAccepted g [] = Unit {0}
AreAccepted g (p ∷ parts) = (g.whole ≡ false) × (fault_of g p.flag p.id p.bytes ≡ None) × AreAccepted (gathered_after g p.flag p.id p.bytes) parts
