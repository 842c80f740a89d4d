-- How long the frame is that a server begins with which opened the connection.
use Rattle.std.proofs.Common.{◌≡◌, ℕ, ◌+◌, ◌<◌, ◌≤◌, Bool, true, false, List, length, length-append, Option, Some, None, refl, sym, ap, ◌∙◌, arith}
use Rattle.std.specs.Prelude.{nat_lt, if◌then◌else◌}
use Rattle.std.proofs.lemmas.Bool.{le-ltb, lt-ltb, ltb-false}
use Rattle.ua_value.specs.Text.{string}
use Rattle.ua_frame.specs.Hello.{reverse_hello_layout, reverse_hello_frame, text_bytes}
use Rattle.ua_frame.specs.HelloLaws.{text_length}
use Rattle.ua_frame.specs.declared.kind.Kind.TheVariants as kinds
use Rattle.ua_frame.specs.Layout.{Parts}
use Rattle.ua_frame.specs.LayoutLaws.{frame_bytes_length}
use Rattle.ua_frame.specs.declared.reverse_hello.ReverseHello.{ReverseHello}
use Rattle.ua_disco.specs.Configuration.{Configuration}
use Rattle.ua_disco.specs.Settings.{first_uri_of, first_url_of}
use Rattle.ua_conn.specs.server.Greeting.{reverse_hello_by, reverse_fault_at, reverse_fault}
use Rattle.ua_conn.specs.declared.server.greeting.ReverseFault.{ReverseFault}
use Rattle.ua_conn.specs.declared.server.greeting.ReverseFault.TheVariants.{TooLarge}

frame_size : (r : ReverseHello) → length (reverse_hello_frame r) ≡ 8 + (length (string.canon r.server_uri) + length (string.canon r.endpoint_url))
unfolding reverse_hello_layout
frame_size r =
    let f : Parts = record { kind = kinds.ReverseHello; flag = 70; fields = reverse_hello_layout.canon r } in
    omega (arith, frame_bytes_length f, length-append (string.canon r.server_uri) (string.canon r.endpoint_url))

long_at : (settings : Configuration) (url : Option (List ℕ)) → 8192 < length (reverse_hello_frame (reverse_hello_by settings url)) → reverse_fault_at settings (Some url) ≡ Some TooLarge
long_at settings url l = rw (lt-ltb 8192 (length (reverse_hello_frame (reverse_hello_by settings url))) l) refl

short_at : (settings : Configuration) (url : Option (List ℕ)) → length (reverse_hello_frame (reverse_hello_by settings url)) ≤ 8192 → reverse_fault_at settings (Some url) ≡ None
short_at settings url l = rw (le-ltb 8192 (length (reverse_hello_frame (reverse_hello_by settings url))) l) refl

-- the frame by the settings, from the lengths of its texts as they are spelled
size_is : (settings : Configuration) (uri url : Option (List ℕ)) (n m : ℕ) → uri ≡ first_uri_of settings.applications → n ≡ length (string.canon uri) → m ≡ length (string.canon url) →
    length (reverse_hello_frame (reverse_hello_by settings url)) ≡ 8 + n + m
size_is settings uri url n m u a b = omega (arith, frame_size (reverse_hello_by settings url), ap (λ (t : Option (List ℕ)). length (string.canon t)) u, a, b)

pub too_large : (settings : Configuration) (uri url : Option (List ℕ)) (n m : ℕ) → uri ≡ first_uri_of settings.applications → Some url ≡ first_url_of settings.endpoints → n ≡ length (string.canon uri) → m ≡ length (string.canon url) →
    8192 < 8 + n + m → reverse_fault settings ≡ Some TooLarge
too_large settings uri url n m u e a b l = ap (reverse_fault_at settings) (sym e) ∙ long_at settings url (omega (arith, size_is settings uri url n m u a b, l))

pub none_wrong : (settings : Configuration) (uri url : Option (List ℕ)) (n m : ℕ) → uri ≡ first_uri_of settings.applications → Some url ≡ first_url_of settings.endpoints → n ≡ length (string.canon uri) → m ≡ length (string.canon url) →
    8 + n + m ≤ 8192 → reverse_fault settings ≡ None
none_wrong settings uri url n m u e a b l = ap (reverse_fault_at settings) (sym e) ∙ short_at settings url (omega (arith, size_is settings uri url n m u a b, l))

short_by : (b : Bool) → (let o : Option ReverseFault = if b then Some TooLarge else None in o ≡ None) → b ≡ false
short_by true e = absurd cc
short_by false e = refl

-- the frame is not too large
pub frame_fits : (settings : Configuration) (url : Option (List ℕ)) → first_url_of settings.endpoints ≡ Some url → reverse_fault settings ≡ None → length (reverse_hello_frame (reverse_hello_by settings url)) ≤ 8192
frame_fits settings url e fine =
    let frame = reverse_hello_frame (reverse_hello_by settings url) in
    let none : reverse_fault_at settings (Some url) ≡ None = ap (reverse_fault_at settings) (sym e) ∙ fine in
    ltb-false 8192 (length frame) (short_by (nat_lt 8192 (length frame)) none)

-- its texts
pub texts_fit : (settings : Configuration) (uri url : Option (List ℕ)) → uri ≡ first_uri_of settings.applications → first_url_of settings.endpoints ≡ Some url → reverse_fault settings ≡ None → text_bytes uri + text_bytes url ≤ 4294967279
texts_fit settings uri url u e fine =
    let short = frame_fits settings url e fine in
    omega (arith, short, frame_size (reverse_hello_by settings url), text_length (first_uri_of settings.applications), text_length url, ap text_bytes u)
