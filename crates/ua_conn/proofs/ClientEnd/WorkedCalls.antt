-- Worked rows of a client that waits for a ReverseHello, by computing the definitions.
use Rattle.std.proofs.Common.{◌≡◌, ℕ, true, List, [], ◌++◌, refl, Option, Some, None}
use Rattle.std.specs.Prelude.{codes, take}
use Rattle.std.specs.Str.{is_utf8, chars, bytes_eq}
use lib.Utf8.{encode}
use Rattle.ua_value.specs.Number.{unsigned}
use Rattle.ua_value.specs.Text.{bytes_of}
use Rattle.ua_frame.specs.Streams.{cuts_within, rest_within, size_of, timed}
use Rattle.ua_frame.specs.Layout.{kind_of}
use Rattle.ua_frame.specs.Hello.{hello_layout, acknowledge_layout, error_layout, reverse_hello_layout}
use Rattle.ua_conn.specs.client.Asker.{Asker}
use Rattle.ua_conn.specs.client.Past.{client_known}
use Rattle.ua_conn.specs.client.Faults.{client_fault_by, client_fault_in_rest}
use Rattle.ua_conn.specs.client.Reading.{client_fault}
use Rattle.ua_conn.specs.client.Sending.{sent_bytes, client_bytes}
use Rattle.ua_conn.specs.declared.client.fault.ClientFault.{ClientFault}
use Rattle.ua_conn.specs.declared.client.fault.ClientFault.TheVariants.{ServerSaid, Broken}
use Rattle.ua_conn.proofs.Vectors.{n4, at_once, url, null, acknowledge, opened_first, error}
use Rattle.ua_conn.proofs.BothEnds.WorkedStories.{asker, hello}

abbrev waiting : Asker
waiting = record asker { reverse = true }

abbrev Meets : Asker → List ℕ → Option ClientFault → Type 0
Meets a bytes fault = client_fault a [] (timed (at_once bytes)) ≡ fault

-- with these texts, as their bytes
abbrev call_with : List ℕ → List ℕ → ℕ → List ℕ
call_with uri url size = codes "RHEF" ++ n4 size ++ uri ++ url

abbrev call : List ℕ
call = call_with (n4 5 ++ codes "urn:a") url 45

first_frames : Meets asker call (Some (Broken 0x807E0000))
    × Meets waiting call None
    × Meets waiting (take 44 call) None
    × Meets waiting acknowledge (Some (Broken 0x807E0000))
    × Meets waiting opened_first (Some (Broken 0x807E0000))
    × Meets waiting hello (Some (Broken 0x807E0000))
    × Meets waiting (error 0x80840000) (Some (ServerSaid 0x80840000 None))
    × Meets waiting (call ++ acknowledge) None
    × Meets waiting (call ++ call) (Some (Broken 0x807E0000))
    × Meets waiting (call ++ opened_first) (Some (Broken 0x807E0000))
unfolding cuts_within rest_within size_of kind_of hello_layout acknowledge_layout error_layout reverse_hello_layout unsigned bytes_of is_utf8 chars encode client_known client_fault_by client_fault_in_rest
first_frames = (refl, refl, refl, refl, refl, refl, refl, refl, refl, refl)

-- the layout: a text too few, a byte too many; null texts; the header
layouts : Meets waiting (codes "RHEF" ++ n4 12 ++ n4 0) (Some (Broken 0x80070000))
    × Meets waiting (call_with null (null ++ n4 0) 20) (Some (Broken 0x80070000))
    × Meets waiting (call_with null null 16) None
    × Meets waiting (codes "RHEC" ++ n4 45) (Some (Broken 0x807E0000))
    × Meets waiting (codes "RHEF" ++ n4 8193) (Some (Broken 0x80800000))
unfolding cuts_within rest_within size_of kind_of hello_layout acknowledge_layout error_layout reverse_hello_layout unsigned bytes_of is_utf8 chars encode client_known client_fault_by client_fault_in_rest
layouts = (refl, refl, refl, refl, refl)

abbrev says : List ℕ → List ℕ
says bytes = client_bytes waiting [] (timed (at_once bytes))

-- the Hello is said once it came whole, with its url
said : (says [] ≡ []) × (says (take 44 call) ≡ []) × (bytes_eq (says call) hello ≡ true)
unfolding cuts_within rest_within size_of kind_of hello_layout acknowledge_layout error_layout reverse_hello_layout unsigned bytes_of is_utf8 chars encode client_known client_fault_by client_fault_in_rest sent_bytes
said = (refl, refl, refl)
