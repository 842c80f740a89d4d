-- A client that waits for a ReverseHello takes no frame before it, and then none is awaited.
use Rattle.std.proofs.Common.{◌≡◌, ℕ, Bool, true, false, cond, List, [], ◌∷◌, Option, Some, None, refl, sym, ap, ◌∙◌}
use Rattle.std.specs.Prelude.{◌&&◌, not, is_some}
use Rattle.ua_frame.specs.Rows.{first_row}
use Rattle.ua_frame.specs.Streams.{TimedByte, plain, rest_of}
use Rattle.ua_frame.specs.Layout.{Frame, frames_of, kind_of, flag_of}
use Rattle.ua_frame.specs.declared.kind.Kind.{Kind}
use Rattle.ua_frame.specs.declared.kind.Kind.TheVariants as kinds
use Rattle.ua_frame.specs.declared.error_frame.ErrorFrame.{ErrorFrame}
use Rattle.ua_frame.specs.declared.reverse_hello.ReverseHello.{ReverseHello}
use Rattle.ua_service.specs.declared.request.Request.{Request}
use Rattle.ua_conn.specs.Past.{Past, carried}
use Rattle.ua_conn.specs.server.Held.{newest_first}
use Rattle.ua_conn.specs.client.Asker.{Asker, hello_by}
use Rattle.ua_conn.specs.client.Commands.{Commands}
use Rattle.ua_conn.specs.client.Past.{ClientKnown, client_known, acknowledge_frame_in, or_frame, is_reverse, reverse_in, is_reverse_frame, reverse_frame_in, awaits_reverse}
use Rattle.ua_conn.specs.client.Pending.{bytes_in, due_at, wanted_at}
use Rattle.ua_conn.specs.client.Faults.{broken, error_rows, reverse_rows, client_rows, client_fault_by, token_usable}
use Rattle.ua_conn.specs.client.Reading.{client_fault_at, client_reading_of}
use Rattle.ua_conn.specs.client.Sending.{Sent, Greeting, greets_by, greets}
use Rattle.ua_conn.proofs.ClientEnd.FreshLemmas.{rows_of_kind}
use Rattle.ua_conn.proofs.ClientEnd.ReadingLemmas.{along_reading}

-- ---- one more frame

pub reverse_step : (reverse : Bool) (past : Past) (f : Frame) → awaits_reverse reverse (f ∷ past) ≡ (awaits_reverse reverse past && not (is_reverse_frame f))
reverse_step reverse past f = by reverse (reverse_frame_in past) (is_reverse_frame f)
  where
    by : (b : Bool) (o : Option Frame) (t : Bool) → (b && not (is_some (or_frame o t f))) ≡ ((b && not (is_some o)) && not t)
    by false o t = refl
    by true (Some g) t = refl
    by true None true = refl
    by true None false = refl

-- ---- the first frame

error_row : (o : Option ErrorFrame) → first_row (error_rows o) ≡ None → ⊥
error_row None h = cc h
error_row (Some e) h = cc h

has_layout : (o : Option ReverseHello) → first_row (broken (reverse_rows o)) ≡ None → is_some o ≡ true
has_layout None h = absurd (cc h)
has_layout (Some hello) h = refl

-- a frame that stands while a ReverseHello is awaited is one
pub reverse_stands : (a : Asker) (k : ClientKnown) (due : Option ℕ) (wanted : Option Request) (usable : Bool) (f : Frame) → client_fault_by a true k due wanted usable f ≡ None →
    (kind_of f.bytes ≡ Some kinds.ReverseHello) × (is_some (reverse_in f) ≡ true)
reverse_stands a k due wanted usable f h = by (kind_of f.bytes) refl
  where
    rows : (kind : Option Kind) → kind_of f.bytes ≡ kind → first_row (client_rows a true k due wanted usable f (flag_of f.bytes) kind) ≡ None
    rows kind e = rows_of_kind a true k due wanted usable f kind h e

    by : (kind : Option Kind) → kind_of f.bytes ≡ kind → (kind_of f.bytes ≡ Some kinds.ReverseHello) × (is_some (reverse_in f) ≡ true)
    by None e = absurd (cc (rows None e))
    by (Some kinds.Hello) e = absurd (cc (rows (Some kinds.Hello) e))
    by (Some kinds.Acknowledge) e = absurd (cc (rows (Some kinds.Acknowledge) e))
    by (Some kinds.Error) e = absurd (error_row _ (rows (Some kinds.Error) e))
    by (Some kinds.ReverseHello) e = (e, has_layout (reverse_in f) (rows (Some kinds.ReverseHello) e))
    by (Some kinds.Open) e = absurd (cc (rows (Some kinds.Open) e))
    by (Some kinds.Message) e = absurd (cc (rows (Some kinds.Message) e))
    by (Some kinds.Close) e = absurd (cc (rows (Some kinds.Close) e))

pub stands_reverse : (a : Asker) (cmds : Commands) (past : Past) (f : Frame) → client_fault_at a cmds past f ≡ None → awaits_reverse a.reverse past ≡ true →
    (kind_of f.bytes ≡ Some kinds.ReverseHello) × (is_some (reverse_in f) ≡ true)
stands_reverse a cmds past f h e =
    let k = client_known past in
    let end = bytes_in (f ∷ past) in
    let due = due_at cmds past end in
    let wanted = wanted_at cmds past end (carried f).request_id in
    reverse_stands a k due wanted (token_usable k f) f (ap (λ r. client_fault_by a r k due wanted (token_usable k f) f) (sym e) ∙ h)

pub is_one : (f : Frame) → (kind_of f.bytes ≡ Some kinds.ReverseHello) × (is_some (reverse_in f) ≡ true) → is_reverse_frame f ≡ true
is_one f h = ap (λ k. is_reverse k && is_some (reverse_in f)) h.0 ∙ h.1

-- behind a frame that stands none is awaited
pub awaited_no_more : (a : Asker) (cmds : Commands) (past : Past) (f : Frame) → client_fault_at a cmds past f ≡ None → awaits_reverse a.reverse (f ∷ past) ≡ false
awaited_no_more a cmds past f h = by (awaits_reverse a.reverse past) refl
  where
    by : (b : Bool) → awaits_reverse a.reverse past ≡ b → awaits_reverse a.reverse (f ∷ past) ≡ false
    by true e = reverse_step a.reverse past f ∙ (λ i. e i && not (is_one f (stands_reverse a cmds past f h e) i))
    by false e = reverse_step a.reverse past f ∙ ap (λ b. b && not (is_reverse_frame f)) e

-- nothing stands yet, or no ReverseHello is awaited
pub data IsGreeted (a : Asker) (past : Past) : Type 0 where
  unheard : past ≡ [] → IsGreeted a past
  greeted : awaits_reverse a.reverse past ≡ false → IsGreeted a past

pub greeted_of : (a : Asker) (cmds : Commands) (v : List TimedByte) → IsGreeted a (client_reading_of a cmds v).past
greeted_of a cmds v = along_reading (IsGreeted a) a cmds (λ past f h g. greeted (awaited_no_more a cmds past f h)) [] (frames_of v) (plain (rest_of v)) (unheard refl)

-- behind an Acknowledge none is
pub greeted_acked : (a : Asker) (past : Past) (f : Frame) → IsGreeted a past → acknowledge_frame_in past ≡ Some f → awaits_reverse a.reverse past ≡ false
greeted_acked a past f (greeted e) k = e
greeted_acked a past f (unheard e) k = absurd (let clash : None ≡ Some f = ap acknowledge_frame_in (sym e) ∙ k in cc clash)

-- ---- the Hello

-- one that was said stays as it is
greets_still : (a : Asker) (b t : Bool) (o : Option Frame) (f : Frame) → (b && not (is_some o)) ≡ false →
    cond b (greets_by a (or_frame o t f)) (Greeting (hello_by a) ∷ []) ≡ cond b (greets_by a o) (Greeting (hello_by a) ∷ [])
greets_still a false t o f h = refl
greets_still a true t (Some g) f h = refl
greets_still a true t None f h = absurd (cc h)

pub greets_same : (a : Asker) (past : Past) (f : Frame) → awaits_reverse a.reverse past ≡ false → greets a (f ∷ past) ≡ greets a past
greets_same a past f h = greets_still a a.reverse (is_reverse_frame f) (reverse_frame_in past) f h

still_greeted : (reverse : Bool) (past : Past) (f : Frame) → awaits_reverse reverse past ≡ false → awaits_reverse reverse (f ∷ past) ≡ false
still_greeted reverse past f h = reverse_step reverse past f ∙ ap (λ b. b && not (is_reverse_frame f)) h

pub greets_along : (a : Asker) (fs : List Frame) (past : Past) → awaits_reverse a.reverse past ≡ false → greets a (newest_first fs past) ≡ greets a past
greets_along a [] past h = refl
greets_along a (f ∷ fs) past h = greets_along a fs (f ∷ past) (still_greeted a.reverse past f h) ∙ greets_same a past f h
