-- Once a client has met a fault, what comes later changes nothing.
use Rattle.std.proofs.Common.{◌≡◌, ℕ, ◌≤◌, Bool, List, [], ◌∷◌, ◌++◌, take, Option, Some, None, refl, sym, ap, ◌∙◌}
use Rattle.std.specs.Prelude.{option_map}
use Rattle.ua_frame.specs.Rows.{first_row, or_else}
use Rattle.ua_frame.specs.Streams.{TimedByte, plain, size_of, rest_of}
use Rattle.ua_frame.specs.StreamLaws.{plain_append}
use Rattle.ua_frame.specs.Layout.{Frame, frames_of, kind_of, flag_of}
use Rattle.ua_frame.specs.LayoutLaws.{frames_more}
use Rattle.ua_frame.specs.HeaderRows.{header_fault}
use Rattle.ua_frame.specs.HeaderLaws.{header_fault_take, header_fault_stays}
use Rattle.ua_service.specs.declared.request.Request.{Request}
use Rattle.ua_conn.specs.Past.{Past, carried}
use Rattle.ua_conn.specs.client.Asker.{Asker}
use Rattle.ua_conn.specs.client.Commands.{Commands}
use Rattle.ua_conn.specs.client.Past.{ClientKnown, client_known, awaits_reverse}
use Rattle.ua_conn.specs.client.Pending.{bytes_in, wanted_at, due_at}
use Rattle.ua_conn.specs.client.Faults.{greatest_answer, client_rows, client_fault_by, client_fault_in_rest, token_usable}
use Rattle.ua_conn.specs.client.Reading.{ClientReading, client_fault_at, client_reading, client_reading_of, client_fault}
use Rattle.ua_conn.specs.declared.client.fault.ClientFault.{ClientFault}
use Rattle.ua_conn.specs.declared.client.fault.ClientFault.TheVariants.{Broken}
use Rattle.ua_conn.proofs.FrontFrameLemmas.{front_of, by_front}

-- the reading with a rest that has a bad header or none
later_cases : (o : Option ClientFault) (past : Past) (R R' : ClientReading) (e : ClientFault) → (R.fault ≡ Some e → R' ≡ R) →
    (let first : ClientReading = elim o [ Some fault ↦ record { past = past; fault = Some fault } | None ↦ R ] in
    let later : ClientReading = elim o [ Some fault ↦ record { past = past; fault = Some fault } | None ↦ R' ] in
    first.fault ≡ Some e → later ≡ first)
later_cases (Some fault) past R R' e h s = refl
later_cases None past R R' e h s = h s

later_reading : (a : Asker) (cmds : Commands) (past : Past) (fs gs : List Frame) (rest rest' : List ℕ) (e : ClientFault) →
    ((past : Past) → client_fault_in_rest (client_known past) rest ≡ Some e → client_reading a cmds past gs rest' ≡ record { past = past; fault = Some e }) →
    (client_reading a cmds past fs rest).fault ≡ Some e → client_reading a cmds past (fs ++ gs) rest' ≡ client_reading a cmds past fs rest
later_reading a cmds past [] gs rest rest' e bad s = bad past s ∙ (λ i. record { past = past; fault = sym s i })
later_reading a cmds past (f ∷ fs) gs rest rest' e bad s =
    later_cases (client_fault_at a cmds past f) past (client_reading a cmds (f ∷ past) fs rest) (client_reading a cmds (f ∷ past) (fs ++ gs) rest') e
    (later_reading a cmds (f ∷ past) fs gs rest rest' e bad) s

-- a header's fault, as the client's
of_header : (o : Option ℕ) (e : ClientFault) → option_map Broken o ≡ Some e → (status : ℕ) × (o ≡ Some status) × (Broken status ≡ e)
of_header (Some status) e h = (status, refl, cc h)
of_header None e h = absurd (cc h)

-- a bad header stays bad
rest_more : (k : ClientKnown) (b y : List ℕ) (e : ClientFault) → client_fault_in_rest k b ≡ Some e → client_fault_in_rest k (b ++ y) ≡ Some e
unfolding client_fault_in_rest
rest_more k b y e h =
    let o = of_header (header_fault (greatest_answer k.ack) b) e h in
    ap (option_map Broken) (header_fault_stays (greatest_answer k.ack) b y o.0 o.1) ∙ ap (λ f. Some f) o.2

-- a header that is bad in the bytes is bad in the frame at their front
bad_whole : (a : Asker) (reverse : Bool) (k : ClientKnown) (due : Option ℕ) (wanted : Option Request) (usable : Bool) (b : List ℕ) (z now : ℕ) (e : ClientFault) → 8 ≤ z → client_fault_in_rest k b ≡ Some e →
    client_fault_by a reverse k due wanted usable (record { bytes = take z b; moment = now }) ≡ Some e
unfolding client_fault_by client_fault_in_rest
bad_whole a reverse k due wanted usable b z now e low h =
    let f : Frame = record { bytes = take z b; moment = now } in
    ap (λ o. or_else o (first_row (client_rows a reverse k due wanted usable f (flag_of f.bytes) (kind_of f.bytes)))) (ap (option_map Broken) (header_fault_take (greatest_answer k.ack) z b low) ∙ h)

refuses_cases : (o : Option ClientFault) (past : Past) (R : ClientReading) (e : ClientFault) → o ≡ Some e →
    (let r : ClientReading = elim o [ Some fault ↦ record { past = past; fault = Some fault } | None ↦ R ] in r ≡ record { past = past; fault = Some e })
refuses_cases (Some other) past R e h = let same : other ≡ e = cc h in λ i. record { past = past; fault = Some (same i) }
refuses_cases None past R e h = absurd (cc h)

reading_refuses : (a : Asker) (cmds : Commands) (past : Past) (f : Frame) (fs : List Frame) (rest : List ℕ) (e : ClientFault) → client_fault_at a cmds past f ≡ Some e → client_reading a cmds past (f ∷ fs) rest ≡ record { past = past; fault = Some e }
reading_refuses a cmds past f fs rest e h = refuses_cases (client_fault_at a cmds past f) past (client_reading a cmds (f ∷ past) fs rest) e h

-- what a bad header brings, whether the frame is whole or not
bad_reading : (a : Asker) (cmds : Commands) (past : Past) (s : List TimedByte) (e : ClientFault) → client_fault_in_rest (client_known past) (plain s) ≡ Some e →
    client_reading a cmds past (frames_of s) (plain (rest_of s)) ≡ record { past = past; fault = Some e }
bad_reading a cmds past s e h =
    let f = front_of s in
    let end = bytes_in (f ∷ past) in
    let k = client_known past in
    by_front (λ fs rest. client_reading a cmds past fs rest ≡ record { past = past; fault = Some e }) s
    (λ low fs rest. reading_refuses a cmds past f fs rest e
    (bad_whole a (awaits_reverse a.reverse past) k (due_at cmds past end) (wanted_at cmds past end (carried f).request_id) (token_usable k f) (plain s) (size_of (plain s)) f.moment e low h))
    (λ i. record { past = past; fault = h i })

-- a stream with a fault, read with what comes later
pub client_reading_stays : (a : Asker) (cmds : Commands) (s t : List TimedByte) (e : ClientFault) → client_fault a cmds s ≡ Some e → client_reading_of a cmds (s ++ t) ≡ client_reading_of a cmds s
client_reading_stays a cmds s t e h =
    let m = frames_more s t in
    (λ i. client_reading a cmds [] (m.0 i) (plain (m.1 i)))
    ∙ later_reading a cmds [] (frames_of s) (frames_of (rest_of s ++ t)) (plain (rest_of s)) (plain (rest_of (rest_of s ++ t))) e
    (λ past f. bad_reading a cmds past (rest_of s ++ t) e (ap (client_fault_in_rest (client_known past)) (plain_append (rest_of s) t) ∙ rest_more (client_known past) (plain (rest_of s)) (plain t) e f))
    h
