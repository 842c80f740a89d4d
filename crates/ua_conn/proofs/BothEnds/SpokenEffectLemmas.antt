-- What a server makes of a frame that a client sent: the rows, what is known then, what is said and handed on.
use Rattle.std.proofs.Common.{◌≡◌, ℕ, ◌≤◌, cond, not, List, [], ◌∷◌, Option, Some, None, refl, sym, ap, subst, ◌∙◌}
use Rattle.ua_frame.specs.Layout.{Frame, IsFrameOf, kind_of, flag_of}
use Rattle.ua_frame.specs.Rows.{first_row, or_else}
use Rattle.ua_frame.specs.HeaderRows.{header_fault}
use Rattle.ua_frame.specs.Hello.{hello_of}
use Rattle.ua_frame.specs.declared.kind.Kind.{Kind}
use Rattle.ua_frame.specs.declared.kind.Kind.TheVariants as kinds
use Rattle.ua_chunk.specs.Layout.{OpenChunk, Chunk, open_chunk_of, chunk_of, policy_none}
use Rattle.ua_chunk.specs.FrameLaws.{open_frame_read, chunk_frame_read}
use Rattle.ua_conn.specs.server.Site.{Site}
use Rattle.ua_conn.specs.Past.{Known}
use Rattle.ua_conn.specs.server.Faults.{is_allowed, type_rows, frame_rows, fault_at, greatest_frame}
use Rattle.ua_conn.specs.server.Effects.{Effect, hello_effect, open_effect, message_effect, close_effect}
use Rattle.ua_conn.proofs.ServerEnd.TypeLemmas.{IsEffect, by_hello, by_open, by_message, by_close}
use Rattle.ua_conn.proofs.BothEnds.SpokenLemmas.{Spoken, Greets, Acknowledges, Fails, Opens, Tells, Closes, spell, parts_of, IsSized, IsFlagged, IsProper, spell_is, size_by, spell_passes, IsRead, is_read}

abbrev pub opening_of : ℕ → ℕ → ℕ → List ℕ → OpenChunk
opening_of channel number id body = record { channel = channel; policy = Some policy_none; sequence = number; request_id = id; body = body }

abbrev pub chunk_by : ℕ → ℕ → ℕ → ℕ → List ℕ → Chunk
chunk_by channel token number id body = record { channel = channel; token = token; sequence = number; request_id = id; body = body }

-- a frame that a server never takes has no effect
abbrev pub effect_of : Site → Known → ℕ → Spoken → Effect
effect_of site k now (Greets h) = hello_effect site k (Some h)
effect_of site k now (Opens channel number id body) = open_effect site k now (Some (opening_of channel number id body))
effect_of site k now (Tells channel token number part) = message_effect site k now part.flag (Some (chunk_by channel token number part.id part.bytes))
effect_of site k now (Closes channel token number id body) = close_effect site k now (Some (chunk_by channel token number id body))
effect_of site k now x = record { rows = []; known = k; says = []; asks = [] }

-- a client sends no ACK and no ERR
abbrev pub IsClients : Spoken → Type 0
IsClients (Acknowledges a) = ⊥
IsClients (Fails status) = ⊥
IsClients x = Unit {0}

same_effect : (a b : Effect) (site : Site) (k : Known) (f : Frame) → a ≡ b → IsEffect a site k f → IsEffect b site k f
same_effect a b site k f e h = subst (λ (x : Effect). IsEffect x site k f) e h

-- The frame has the effect of the value that is spelled.
pub spoken_effect : (site : Site) (k : Known) (f : Frame) (x : Spoken) → f.bytes ≡ spell x → IsClients x → IsSized x → IsProper x → IsEffect (effect_of site k f.moment x) site k f
spoken_effect site k f (Greets h) e who short is =
    let there = spell_is (Greets h) short in
    let read : hello_of (parts_of (Greets h)).fields ≡ Some h = sym (ap hello_of there.fields) ∙ (is_read (record { bytes = spell (Greets h); moment = 0 }) (Greets h) refl short is).says in
    same_effect _ _ site k f (ap (hello_effect site k) read) (by_hello site k f (parts_of (Greets h)) (subst (λ b. IsFrameOf b (parts_of (Greets h))) (sym e) there) refl)
spoken_effect site k f (Acknowledges a) e who short is = absurd who
spoken_effect site k f (Fails status) e who short is = absurd who
spoken_effect site k f (Opens channel number id body) e who short is =
    let x = Opens channel number id body in
    let there = spell_is x short in
    let read : open_chunk_of (parts_of x).fields ≡ Some (opening_of channel number id body) = sym (ap open_chunk_of there.fields) ∙ open_frame_read channel number id body short is.0 is.1 is.2 in
    same_effect _ _ site k f (ap (open_effect site k f.moment) read) (by_open site k f (parts_of x) (subst (λ b. IsFrameOf b (parts_of x)) (sym e) there) refl)
spoken_effect site k f (Tells channel token number part) e who short is =
    let x = Tells channel token number part in
    let there = spell_is x short in
    let read : chunk_of (parts_of x).fields ≡ Some (chunk_by channel token number part.id part.bytes) =
    sym (ap chunk_of there.fields) ∙ chunk_frame_read kinds.Message part.flag channel token number part.id part.bytes short is.0 is.1 is.2 is.3 in
    same_effect _ _ site k f (ap (message_effect site k f.moment part.flag) read) (by_message site k f (parts_of x) (subst (λ b. IsFrameOf b (parts_of x)) (sym e) there) refl)
spoken_effect site k f (Closes channel token number id body) e who short is =
    let x = Closes channel token number id body in
    let there = spell_is x short in
    let read : chunk_of (parts_of x).fields ≡ Some (chunk_by channel token number id body) =
    sym (ap chunk_of there.fields) ∙ chunk_frame_read kinds.Close 70 channel token number id body short is.0 is.1 is.2 is.3 in
    same_effect _ _ site k f (ap (close_effect site k f.moment) read) (by_close site k f (parts_of x) (subst (λ b. IsFrameOf b (parts_of x)) (sym e) there) refl)

-- ---- its rows

frame_rows_at : (site : Site) (k : Known) (f : Frame) (x : Spoken) → IsRead f x
    → first_row (frame_rows site k f (kind_of f.bytes) (flag_of f.bytes)) ≡ cond (not (is_allowed k (Some (parts_of x).kind))) (Some 0x807E0000) (first_row (type_rows site k f (flag_of f.bytes) (kind_of f.bytes)))
frame_rows_at site k f x h = ap (λ (o : Option Kind). cond (not (is_allowed k o)) (Some 0x807E0000) (first_row (type_rows site k f (flag_of f.bytes) (kind_of f.bytes)))) h.kind

-- The whole table, at a frame that is no greater than what is taken: type out of turn, and the rows of the value.
pub spoken_fault : (site : Site) (k : Known) (f : Frame) (x : Spoken) → f.bytes ≡ spell x → IsClients x → IsSized x → IsFlagged x → IsProper x → size_by x ≤ greatest_frame k.limits
    → fault_at site k f ≡ first_row ((not (is_allowed k (Some (parts_of x).kind)), 0x807E0000) ∷ (effect_of site k f.moment x).rows)
unfolding fault_at
spoken_fault site k f x e who short flag is within =
    let head : header_fault (greatest_frame k.limits) f.bytes ≡ None = ap (header_fault (greatest_frame k.limits)) e ∙ spell_passes (greatest_frame k.limits) x short flag within in
    let rows = (spoken_effect site k f x e who short is).rows in
    ap (λ (o : Option ℕ). or_else o (first_row (frame_rows site k f (kind_of f.bytes) (flag_of f.bytes)))) head
    ∙ frame_rows_at site k f x (is_read f x e short is)
    ∙ ap (λ (o : Option ℕ). cond (not (is_allowed k (Some (parts_of x).kind))) (Some 0x807E0000) o) rows
