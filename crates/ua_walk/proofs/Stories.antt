-- What is told of some bytes, by what stands at their front.
use Rattle.std.proofs.Common.{◌≡◌, ℕ, ◌+◌, ◌≤◌, Bool, true, false, List, [], ◌∷◌, ◌++◌, length, take, drop, Option, Some, None, Result, Ok, Err, IfOk, refl, sym, ap, subst, ◌∙◌, append_assoc, arith, inl, inr, if◌then◌else◌, ◌==◌, not, ◌&&◌}
use Rattle.std.proofs.lemmas.List.{append-nil, length-append, length-take-le, take-append-le, drop-append-le, drop-map, drop-drop}
use Rattle.std.proofs.Math.Nat.{add_assoc}
use Rattle.std.proofs.lemmas.Bool.{cases_Bool}
use Rattle.ua_frame.specs.Streams.{TimedByte, at, plain, size_of, IsFrame, begins_frame, rest_of}
use Rattle.ua_frame.specs.StreamLaws.{plain_at, plain_take, length_plain, begins_one, begins_none}
use Rattle.ua_frame.specs.Layout.{Parts, IsFrameOf, frames_of}
use Rattle.ua_frame.specs.LayoutLaws.{frames_step, frames_stop, front_size}
use Rattle.ua_frame.specs.HeaderRows.{header_fault}
use Rattle.ua_frame.specs.HeaderLaws.{header_fault_take, header_fault_long, header_fault_same}
use Rattle.ua_chunk.specs.Content.{content_in, content_at}
use Rattle.ua_chunk.specs.ContentLaws.{content_is}
use Rattle.ua_chunk.specs.declared.content.Content.{Content}
use Rattle.ua_chunk.specs.declared.content.Content.TheVariants.{Hello, Acknowledge, Error, ReverseHello, Open, Message, Close}
use Rattle.ua_walk.specs.Told.{Told, frame_told, message_told, long_told, bad_told, rest_told, is_whole, Hears}
use Rattle.ua_walk.specs.Walk.{Walk, IsLess, opened, story, story_on, longest, half_after, messages, is_too_long, cut_story, rest_story, frame_story, frames_story, at_once, story_from, TellsFrame, TellsFront}
use Rattle.ua_walk.specs.declared.walk.Front.{Front}
use Rattle.ua_walk.specs.declared.walk.Front.TheVariants as fronts

front_bytes : (n : ℕ) (bytes : List ℕ) → plain (take n (at_once bytes)) ≡ take n bytes
front_bytes n bytes = plain_take n (at_once bytes) ∙ ap (take n) (plain_at 0 bytes)

by_frame : (offset n : ℕ) (half fb bytes : List ℕ) (s t : List TimedByte) → fb ≡ take n bytes → s ≡ t → length (take n bytes) ≡ n
    → frame_story offset (length fb) half (content_at longest fb) (λ next. frames_story (offset + length fb) next (frames_of s) (plain (rest_of s)))
    ≡ frame_story offset n half (content_at longest (take n bytes)) (λ next. frames_story (offset + n) next (frames_of t) (plain (rest_of t)))
by_frame offset n half fb bytes s t b d l =
    (λ i. frame_story offset (length (b i)) half (content_at longest (b i)) (λ next. frames_story (offset + length (b i)) next (frames_of (d i)) (plain (rest_of (d i)))))
    ∙ (λ i. frame_story offset (l i) half (content_at longest (take n bytes)) (λ next. frames_story (offset + l i) next (frames_of t) (plain (rest_of t))))

-- a frame, and then what is told of all behind it
frame_front : (offset n : ℕ) (half bytes : List ℕ) → n ≤ length bytes → IsFrame (take n bytes)
    → story_from offset half bytes ≡ frame_story offset n half (content_at longest (take n bytes)) (λ next. story_from (offset + n) next (drop n bytes))
unfolding story_from
frame_front offset n half bytes within is =
    let s = at_once bytes in
    let h = frames_step s n (subst (λ (l : List ℕ). IsFrame (take n l)) (sym (plain_at 0 bytes)) is) in
    (λ i. frames_story offset half (h.0 i) (plain (h.1 i)))
    ∙ by_frame offset n half (plain (take n s)) bytes (drop n s) (at_once (drop n bytes)) (front_bytes n bytes) (drop-map (at 0) n bytes) (length-take-le n bytes within)

-- no frame
pub rest_front : (offset : ℕ) (half bytes : List ℕ) → ((n : ℕ) → n ≤ length bytes → IsFrame (take n bytes) → ⊥) → story_from offset half bytes ≡ rest_story offset bytes
unfolding story_from
rest_front offset half bytes none =
    let s = at_once bytes in
    let same : plain s ≡ bytes = plain_at 0 bytes in
    let h = frames_stop s (λ n le is. none n (omega (arith, le, ap length same)) (subst (λ (l : List ℕ). IsFrame (take n l)) same is)) in
    (λ i. frames_story offset half (h.0 i) (plain (h.1 i))) ∙ ap (rest_story offset) same

pub cut_is : (offset : ℕ) (bytes : List ℕ) (fault : Option ℕ) → 1 ≤ length bytes → header_fault longest bytes ≡ fault → rest_story offset bytes ≡ cut_story offset (length bytes) fault
cut_is offset [] fault some e = absurd (omega (arith, some))
cut_is offset (b ∷ bytes) fault some e = ap (cut_story offset (length (b ∷ bytes))) e

-- a header that a row refuses, whether the rest of the frame is there or not
header_front : (offset : ℕ) (half bytes : List ℕ) (status : ℕ) → header_fault longest bytes ≡ Some status → story_from offset half bytes ≡ bad_told offset status ∷ []
header_front offset half bytes status e =
    let s = at_once bytes in
    let n = size_of (plain s) in
    elim (cases_Bool (begins_frame s)) [
      | inl begins ↦ (let one = begins_one s begins in
          let is : IsFrame (take n bytes) = subst IsFrame (front_bytes n bytes) one.0 in
          let within : n ≤ length bytes = omega (arith, one.2, ap length (plain_at 0 bytes), length_plain s) in
          let fault : header_fault longest (take n bytes) ≡ Some status = header_fault_take longest n bytes one.1 ∙ e in
          frame_front offset n half bytes within is ∙ rw fault refl)
      | inr begins ↦ (let none = begins_none s begins in
          rest_front offset half bytes (λ m le is. none m (omega (arith, le, ap length (plain_at 0 bytes), length_plain s)) (subst IsFrame (sym (front_bytes m bytes)) is))
          ∙ cut_is offset bytes (Some status) (omega (arith, header_fault_long longest bytes status e)) e)
    ]

-- ---- whatever comes behind

frame_then : (offset n : ℕ) (half bytes next : List ℕ) → n ≤ length bytes → IsFrame (take n bytes)
    → story_from offset half (bytes ++ next) ≡ frame_story offset n half (content_at longest (take n bytes)) (λ h. story_from (offset + n) h (drop n bytes ++ next))
frame_then offset n half bytes next within is =
    let t = take-append-le n bytes next within in
    let d = drop-append-le n bytes next within in
    frame_front offset n half (bytes ++ next) (omega (arith, within, length-append bytes next)) (subst IsFrame (sym t) is)
    ∙ (λ i. frame_story offset n half (content_at longest (t i)) (λ h. story_from (offset + n) h (d i)))

pub header_then : (offset : ℕ) (half bytes next : List ℕ) (status : ℕ) → header_fault longest bytes ≡ Some status → story_from offset half (bytes ++ next) ≡ bad_told offset status ∷ []
header_then offset half bytes next status e =
    let long : 8 ≤ length bytes = header_fault_long longest bytes status e in
    header_front offset half (bytes ++ next) status (header_fault_same longest (bytes ++ next) bytes (omega (arith, long, length-append bytes next)) long (take-append-le 8 bytes next long) ∙ e)

-- ---- what is told

pub hears_both : {S : Type 0} (heard : S → List Told → Type 0) (a b : List Told) (x y z : S) → Hears heard a x y → Hears heard b y z → Hears heard (a ++ b) x z
hears_both heard a b x y z first second told h = subst (heard z) (append_assoc told a b) (second (told ++ a) (first told h))

whole_if : (b : Bool) (id : ℕ) (body : List ℕ) → is_whole (if b then message_told id body ∷ [] else []) ≡ true
whole_if true id body = refl
whole_if false id body = refl

pub whole_messages : (half : List ℕ) (c : Content) → is_whole (messages half c) ≡ true
whole_messages half (Hello h) = refl
whole_messages half (Acknowledge a) = refl
whole_messages half (Error e) = refl
whole_messages half (ReverseHello r) = refl
whole_messages half (Open c) = refl
whole_messages half (Message m) = whole_if (m.flag == 70) m.chunk.request_id (half ++ m.chunk.body)
whole_messages half (Close m) = refl

pub whole_both : (a b : List Told) → is_whole a ≡ true → is_whole (a ++ b) ≡ is_whole b
whole_both [] b h = refl
whole_both (frame_told offset size content ∷ a) b h = whole_both a b h
whole_both (message_told id body ∷ a) b h = whole_both a b h
whole_both (long_told offset ∷ a) b h = absurd (cc h)
whole_both (bad_told offset status ∷ a) b h = absurd (cc h)
whole_both (rest_told offset left ∷ a) b h = absurd (cc h)

-- ---- what the code did

-- a frame whose header no row refuses
known_front : {S : Type 0} (heard : S → List Told → Type 0) (offset : ℕ) (bytes : List ℕ) (f : Parts) (old new : List ℕ) (from to : S) (front : Front) → header_fault longest bytes ≡ None → size_of bytes ≤ length bytes → IsFrameOf (take (size_of bytes) bytes) f
    → TellsFrame heard offset f old new from to front → TellsFront heard offset bytes old new from to front
known_front heard offset bytes f old new from to (fronts.Frame size) passed within is h =
    let n = size_of bytes in
    let same : n ≡ size = front_size bytes f within is ∙ sym h.2 in
    let least : 8 ≤ n = omega (arith, front_size bytes f within is) in
    let read : content_at longest (take n bytes) ≡ Ok h.0 = content_is longest (take n bytes) f is (header_fault_take longest n bytes least ∙ passed) ∙ h.1 in (
      omega (arith, same, least),
      omega (arith, same, within),
      frame_told offset size h.0 ∷ messages old h.0,
      h.4,
      whole_messages old h.0,
      λ next.
          frame_then offset n old bytes next within is.there
          ∙ ap (λ r. frame_story offset n old r (λ half. story_from (offset + n) half (drop n bytes ++ next))) read
          ∙ (λ i. frame_told offset n h.0 ∷ (if h.3 i then long_told offset ∷ [] else messages old h.0 ++ story_from (offset + n) (half_after old h.0) (drop n bytes ++ next)))
          ∙ (λ i. frame_told offset (same i) h.0 ∷ (messages old h.0 ++ story_from (offset + same i) (sym h.5 i) (drop (same i) bytes ++ next))),
    )
known_front heard offset bytes f old new from to fronts.Less passed within is h = absurd h
known_front heard offset bytes f old new from to fronts.End passed within is h =
    let n = size_of bytes in
    let least : 8 ≤ n = omega (arith, front_size bytes f within is) in
    let read : content_at longest (take n bytes) ≡ content_in f = content_is longest (take n bytes) f is (header_fault_take longest n bytes least ∙ passed) in (
      h.0,
      h.1,
      h.2,
      λ next.
          frame_then offset n old bytes next within is.there
          ∙ (λ i. frame_story offset (front_size bytes f within is i) old (read i) (λ half. story_from (offset + n) half (drop n bytes ++ next)))
          ∙ h.3 (λ half. story_from (offset + n) half (drop n bytes ++ next)),
    )

pub known_tells : {S E : Type 0} (heard : S → List Told → Type 0) (offset : ℕ) (bytes : List ℕ) (f : Parts) (old new : List ℕ) (from to : S) (r : Result Front E) → header_fault longest bytes ≡ None → size_of bytes ≤ length bytes → IsFrameOf (take (size_of bytes) bytes) f
    → IfOk r (TellsFrame heard offset f old new from to) → IfOk r (TellsFront heard offset bytes old new from to)
known_tells heard offset bytes f old new from to (Ok front) passed within is h = known_front heard offset bytes f old new from to front passed within is h
known_tells heard offset bytes f old new from to (Err e) passed within is h = h

-- a frame with which its message is too long
pub too_long : (offset size : ℕ) (half : List ℕ) (c : Content) (r : Result Content ℕ) (others : List ℕ → List Told) → r ≡ Ok c → is_too_long half c ≡ true
    → frame_story offset size half r others ≡ frame_told offset size c ∷ (long_told offset ∷ [])
too_long offset size half c r others read long =
    ap (λ r. frame_story offset size half r others) read ∙ (λ i. frame_told offset size c ∷ (if long i then long_told offset ∷ [] else messages half c ++ others (half_after half c)))

-- ---- from frame to frame

pub goes_on : {S : Type 0} (heard : S → List Told → Type 0) (offset used size : ℕ) (bytes first half last : List ℕ) (x y z : S) (a b : List Told)
    → Hears heard a x y → is_whole a ≡ true → ((next : List ℕ) → story_from offset first (bytes ++ next) ≡ a ++ story_from (offset + used) half (drop used bytes ++ next))
    → Hears heard b y z → is_whole b ≡ true → ((next : List ℕ) → story_from (offset + used) half (drop used bytes ++ next) ≡ b ++ story_from (offset + used + size) last (drop size (drop used bytes) ++ next))
    → (more : List Told) × Hears heard more x z × (is_whole more ≡ true) × ((next : List ℕ) → story_from offset first (bytes ++ next) ≡ more ++ story_from (offset + (used + size)) last (drop (used + size) bytes ++ next))
goes_on heard offset used size bytes first half last x y z a b ha wa sa hb wb sb = (
  a ++ b,
  hears_both heard a b x y z ha hb,
  whole_both a b wa ∙ wb,
  λ next.
      sa next ∙ ap (λ l. a ++ l) (sb next) ∙ sym (append_assoc a b _)
      ∙ (λ i. (a ++ b) ++ story_from (add_assoc offset used size i) last (drop-drop size used bytes i ++ next)),
)

-- what ends the walk
pub ends : {S : Type 0} (heard : S → List Told → Type 0) (offset used : ℕ) (bytes first half : List ℕ) (x y z : S) (a b : List Told)
    → Hears heard a x y → is_whole a ≡ true → ((next : List ℕ) → story_from offset first (bytes ++ next) ≡ a ++ story_from (offset + used) half (drop used bytes ++ next))
    → Hears heard b y z → is_whole b ≡ false → ((next : List ℕ) → story_from (offset + used) half (drop used bytes ++ next) ≡ b)
    → (more : List Told) × Hears heard more x z × ((is_whole more ≡ false) × ((next : List ℕ) → story_from offset first (bytes ++ next) ≡ more))
ends heard offset used bytes first half x y z a b ha wa sa hb wb sb = (
  a ++ b,
  hears_both heard a b x y z ha hb,
  (whole_both a b wa ∙ wb, λ next. sa next ∙ ap (λ l. a ++ l) (sb next)),
)

-- ---- the end

less_story : (w : Walk) → w.has_ended ≡ false → IsLess w.rest → story_on w [] ≡ rest_story w.offset w.rest
less_story w goes less =
    (λ i. if goes i then [] else story_from w.offset w.half (w.rest ++ []))
    ∙ ap (story_from w.offset w.half) (append-nil w.rest)
    ∙ rest_front w.offset w.half w.rest less.0

nothing_told : (offset : ℕ) (bytes : List ℕ) → length bytes ≡ 0 → rest_story offset bytes ≡ []
nothing_told offset [] none = refl
nothing_told offset (b ∷ bytes) none = absurd (omega (arith, none))

-- nothing is left
pub end_none : (w : Walk) → w.has_ended ≡ false → IsLess w.rest → length w.rest ≡ 0 → story_on w [] ≡ []
end_none w goes less none = less_story w goes less ∙ nothing_told w.offset w.rest none

pub whole_none : (w : Walk) → w.has_ended ≡ false → IsLess w.rest → length w.rest ≡ 0 → true ≡ not w.has_ended && is_whole (story_on w [])
whole_none w goes less none = λ i. not (sym goes i) && is_whole (sym (end_none w goes less none) i)

-- less than a frame is left
pub end_some : (w : Walk) → w.has_ended ≡ false → IsLess w.rest → 1 ≤ length w.rest → story_on w [] ≡ rest_told w.offset (length w.rest) ∷ []
end_some w goes less some = less_story w goes less ∙ cut_is w.offset w.rest None some less.1

pub whole_some : (w : Walk) → w.has_ended ≡ false → IsLess w.rest → 1 ≤ length w.rest → false ≡ not w.has_ended && is_whole (story_on w [])
whole_some w goes less some = λ i. not (sym goes i) && is_whole (sym (end_some w goes less some) i)

broken_both : (a b : List Told) → is_whole a ≡ false → is_whole (a ++ b) ≡ false
broken_both [] b h = absurd (cc h)
broken_both (frame_told offset size content ∷ a) b h = broken_both a b h
broken_both (message_told id body ∷ a) b h = broken_both a b h
broken_both (long_told offset ∷ a) b h = refl
broken_both (bad_told offset status ∷ a) b h = refl
broken_both (rest_told offset left ∷ a) b h = refl

-- whether all was whole, where a walk may have ended before
pub whole_run : (a b : List Told) (ended : Bool) → is_whole a ≡ not ended → is_whole (a ++ b) ≡ not ended && is_whole b
whole_run a b true h = broken_both a b h
whole_run a b false h = whole_both a b h

pub hears_same : {S : Type 0} (heard : S → List Told → Type 0) (a b : List Told) (x y : S) → a ≡ b → Hears heard a x y → Hears heard b x y
hears_same heard a b x y e h = subst (λ l. Hears heard l x y) e h

pub hears_nothing : {S : Type 0} (heard : S → List Told → Type 0) (more : List Told) (x : S) → more ≡ [] → Hears heard more x x
hears_nothing heard more x e told h = subst (heard x) (sym (append-nil told) ∙ ap (λ l. told ++ l) (sym e)) h

-- the result of a whole run
pub whole_result : {E : Type 0} (r : Result Bool E) (old new : Walk) (bytes : List ℕ) (more : List Told) → old ≡ opened → ((next : List ℕ) → story_on old (bytes ++ next) ≡ more ++ story_on new next) → (old.has_ended ≡ false → is_whole more ≡ not new.has_ended)
    → IfOk r (λ whole. whole ≡ (not new.has_ended && is_whole (story_on new []))) → IfOk r (λ whole. whole ≡ is_whole (story bytes))
whole_result (Err e) old new bytes more is told ended h = h
whole_result (Ok whole) old new bytes more is told ended h =
    let all : story bytes ≡ more ++ story_on new [] = ap (story_from 0 []) (sym (append-nil bytes)) ∙ ap (λ w. story_on w (bytes ++ [])) (sym is) ∙ told [] in
    h ∙ sym (whole_run more (story_on new []) new.has_ended (ended (ap (λ w. w.has_ended) is))) ∙ ap is_whole (sym all)
