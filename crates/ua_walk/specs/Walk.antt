-- What is told of the bytes of one direction, frame by frame.
use Rattle.std.specs.Prelude.{◌≡◌, ℕ, ◌+◌, ◌≤◌, ◌==◌, Bool, true, false, not, ◌&&◌, nat_lt, List, [], ◌∷◌, ◌++◌, map, length, take, drop, Option, Some, None, Result, Ok, Err, if◌then◌else◌}
use Rattle.ua_frame.specs.Streams.{TimedByte, at, plain, IsFrame, rest_of}
use Rattle.ua_frame.specs.Layout.{Frame, Parts, frames_of}
use Rattle.ua_frame.specs.HeaderRows.{header_fault}
use Rattle.ua_chunk.specs.Half.{ends_message}
use Rattle.ua_chunk.specs.Content.{content_in, content_at}
use Rattle.ua_chunk.specs.declared.content.Content.{Content}
use Rattle.ua_chunk.specs.declared.content.Content.TheVariants.{Hello, Acknowledge, Error, ReverseHello, Open, Message, Close}
use Rattle.ua_walk.specs.Told.{Told, frame_told, message_told, long_told, bad_told, rest_told, is_whole, Hears}
use Rattle.ua_walk.specs.declared.walk.Front.{Front}
use Rattle.ua_walk.specs.declared.walk.Front.TheVariants as fronts
use Rattle.ua_walk.specs.declared.walk.Walked.{Walked}

-- bytes of the longest frame that is told
abbrev pub longest : ℕ
longest = 1048576

-- the most bytes of the parts of a message before the last
abbrev pub most_message : ℕ
most_message = 16777216

-- ---- a frame

-- the bodies of the MSG frames since the last that ended a message, joined, where this comes behind them
abbrev pub half_after : List ℕ → Content → List ℕ
half_after half (Hello h) = half
half_after half (Acknowledge a) = half
half_after half (Error e) = half
half_after half (ReverseHello r) = half
half_after half (Open c) = half
half_after half (Message m) = if ends_message m.flag then [] else half ++ m.chunk.body
half_after half (Close m) = half

-- the message that is whole with this frame, if one is: OPN and CLO carry one each
abbrev pub messages : List ℕ → Content → List Told
messages half (Hello h) = []
messages half (Acknowledge a) = []
messages half (Error e) = []
messages half (ReverseHello r) = []
messages half (Open c) = message_told c.request_id c.body ∷ []
messages half (Message m) = if m.flag == 70 then message_told m.chunk.request_id (half ++ m.chunk.body) ∷ [] else []
messages half (Close m) = message_told m.chunk.request_id m.chunk.body ∷ []

-- whether more parts of a message came than are taken, this one among them
abbrev pub is_too_long : List ℕ → Content → Bool
is_too_long half (Hello h) = false
is_too_long half (Acknowledge a) = false
is_too_long half (Error e) = false
is_too_long half (ReverseHello r) = false
is_too_long half (Open c) = false
is_too_long half (Message m) = not (ends_message m.flag) && nat_lt most_message (length half + length m.chunk.body)
is_too_long half (Close m) = false

-- ---- all of the bytes

abbrev pub cut_story : ℕ → ℕ → Option ℕ → List Told
cut_story offset left None = rest_told offset left ∷ []
cut_story offset left (Some status) = bad_told offset status ∷ []

-- bytes that begin with no whole frame: none, less than one, or what a header row refuses
abbrev pub rest_story : ℕ → List ℕ → List Told
rest_story offset [] = []
rest_story offset (b ∷ bytes) = cut_story offset (length (b ∷ bytes)) (header_fault longest (b ∷ bytes))

-- what is told behind a frame: that its message is too long, which is the last; or its message, and all behind it by the half that it leaves
abbrev pub content_story : ℕ → List ℕ → Content → (List ℕ → List Told) → List Told
content_story offset half content others = if is_too_long half content then long_told offset ∷ [] else messages half content ++ others (half_after half content)

-- a frame of so many bytes; one that is refused is the last
abbrev pub frame_story : ℕ → ℕ → List ℕ → Result Content ℕ → (List ℕ → List Told) → List Told
frame_story offset size half (Err status) others = bad_told offset status ∷ []
frame_story offset size half (Ok content) others = frame_told offset size content ∷ content_story offset half content others

abbrev pub frames_story : ℕ → List ℕ → List Frame → List ℕ → List Told
frames_story offset half [] rest = rest_story offset rest
frames_story offset half (f ∷ fs) rest = frame_story offset (length f.bytes) half (content_at longest f.bytes) (λ next. frames_story (offset + length f.bytes) next fs rest)

-- the bytes as a stream that comes at one moment
abbrev pub at_once : List ℕ → List TimedByte
at_once bytes = map (at 0) bytes

-- what is told of these bytes, which begin at the offset, where this half stands before them and none come behind them
unfoldable pub story_from : ℕ → List ℕ → List ℕ → List Told
story_from offset half bytes = frames_story offset half (frames_of (at_once bytes)) (plain (rest_of (at_once bytes)))

-- what is told of all bytes of a direction
abbrev pub story : List ℕ → List Told
story bytes = story_from 0 [] bytes

-- ---- a walk that goes on

-- where the bytes that wait begin, the half before them, these bytes, and whether nothing more is told
pub record Walk : Type 0 where
  pub offset : ℕ
  pub half : List ℕ
  pub rest : List ℕ
  pub has_ended : Bool

-- a walk of which nothing came
abbrev pub opened : Walk
opened = record { offset = 0; half = []; rest = []; has_ended = false }

-- what is told from here on, where these bytes still come and then no more
abbrev pub story_on : Walk → List ℕ → List Told
story_on w bytes = if w.has_ended then [] else story_from w.offset w.half (w.rest ++ bytes)

-- less than a frame, and no header row refuses what is there
abbrev pub IsLess : List ℕ → Type 0
IsLess bytes = ((n : ℕ) → n ≤ length bytes → IsFrame (take n bytes) → ⊥) × (header_fault longest bytes ≡ None)

-- All that these bytes complete was told: what was told, and what will be of the walk that they left, is what would be told of all from here on, whatever comes behind them.
abbrev pub Walks : {S : Type 0} → (S → List Told → Type 0) → List ℕ → Walk → Walk → S → S → Type 0
Walks heard bytes old new from to =
    (more : List Told) × Hears heard more from to × ((next : List ℕ) → story_on old (bytes ++ next) ≡ more ++ story_on new next)
    × ((old.has_ended ≡ false) → is_whole more ≡ not new.has_ended)

-- ---- steps of the loop

-- what is told behind a frame with this content, and the half that it leaves; or that its message is too long
abbrev pub TellsContent : {S : Type 0} → (S → List Told → Type 0) → ℕ → Content → List ℕ → List ℕ → S → S → Bool → Type 0
TellsContent heard offset content old new from to true = (is_too_long old content ≡ false) × Hears heard (messages old content) from to × (new ≡ half_after old content)
TellsContent heard offset content old new from to false = (is_too_long old content ≡ true) × Hears heard (long_told offset ∷ []) from to

-- what is told of a frame with these parts
abbrev pub TellsFrame : {S : Type 0} → (S → List Told → Type 0) → ℕ → Parts → List ℕ → List ℕ → S → S → Front → Type 0
TellsFrame heard offset f old new from to (fronts.Frame size) =
    (content : Content) × (content_in f ≡ Ok content) × (size ≡ 8 + length f.fields)
    × (is_too_long old content ≡ false) × Hears heard (frame_told offset size content ∷ messages old content) from to × (new ≡ half_after old content)
TellsFrame heard offset f old new from to fronts.Less = ⊥
TellsFrame heard offset f old new from to fronts.End =
    (more : List Told) × Hears heard more from to × (is_whole more ≡ false)
    × ((others : List ℕ → List Told) → frame_story offset (8 + length f.fields) old (content_in f) others ≡ more)

-- what is told of the frame at the front of these bytes, whatever comes behind them
abbrev pub TellsFront : {S : Type 0} → (S → List Told → Type 0) → ℕ → List ℕ → List ℕ → List ℕ → S → S → Front → Type 0
TellsFront heard offset bytes old new from to (fronts.Frame size) =
    (1 ≤ size) × (size ≤ length bytes) × (more : List Told) × Hears heard more from to × (is_whole more ≡ true)
    × ((next : List ℕ) → story_from offset old (bytes ++ next) ≡ more ++ story_from (offset + size) new (drop size bytes ++ next))
TellsFront heard offset bytes old new from to fronts.Less = IsLess bytes × Hears heard [] from to × (new ≡ old)
TellsFront heard offset bytes old new from to fronts.End =
    (more : List Told) × Hears heard more from to × (is_whole more ≡ false) × ((next : List ℕ) → story_from offset old (bytes ++ next) ≡ more)

-- what is told of all frames at the front of these bytes, behind which this rest is left
abbrev pub Leaves : ℕ → List ℕ → List ℕ → List ℕ → List ℕ → List Told → ℕ → Bool → Type 0
Leaves offset bytes rest old new more used true = (is_whole more ≡ false) × ((next : List ℕ) → story_from offset old (bytes ++ next) ≡ more)
Leaves offset bytes rest old new more used false =
    (is_whole more ≡ true) × IsLess rest × ((next : List ℕ) → story_from offset old (bytes ++ next) ≡ more ++ story_from (offset + used) new (rest ++ next))

abbrev pub WalksOn : {S : Type 0} → (S → List Told → Type 0) → ℕ → List ℕ → List ℕ → List ℕ → List ℕ → S → S → Walked → Type 0
WalksOn heard offset bytes rest old new from to walked =
    (walked.used ≤ length bytes) × (more : List Told) × Hears heard more from to × Leaves offset bytes rest old new more walked.used walked.has_ended
