-- Each row that does not hold, as a fact; and back.
use Rattle.std.proofs.Common.{◌≡◌, ℕ, ◌+◌, ◌<◌, ◌≤◌, Bool, true, false, cond, not, ◌&&◌, ◌||◌, ◌==◌, nat_lt, List, [], ◌∷◌, ◌++◌, length, Option, Some, None, is_some, is_none, refl, sym, ap, subst, ◌∙◌, arith}
use Rattle.std.proofs.lemmas.Bool.{ltb-false, le-ltb, eqb-true, leb-false, lt-leb, not-false, or_parts, or_from, eq-eqb, not_from_true}
use Rattle.std.specs.List.{AllByRecursion}
use Rattle.ua_frame.specs.Layout.{Frame, kind_of, flag_of, fields_of}
use Rattle.ua_frame.specs.declared.kind.Kind.{Kind}
use Rattle.ua_frame.specs.declared.kind.Kind.TheVariants as kinds
use Rattle.ua_service.specs.declared.channel.OpenRequest.{OpenRequest}
use Rattle.ua_conn.specs.server.Site.{Site}
use Rattle.std.specs.Prelude.{ℤ, pos, negsuc}
use Rattle.ua_frame.specs.Streams.{size_of}
use Rattle.ua_frame.specs.Rows.{Row, first_row, or_else}
use Rattle.ua_frame.specs.HeaderRows.{header_fault, rows_of}
use Rattle.ua_frame.specs.Hello.{hello_rows, is_long}
use Rattle.ua_frame.specs.declared.hello.Hello.{Hello}
use Rattle.ua_chunk.specs.Layout.{OpenChunk, chunk_of, abort_of, policy_none}
use Rattle.ua_chunk.specs.Half.{body_of, parts_of, may_have_id}
use Rattle.ua_channel.specs.Token.{newest_id, is_usable}
use Rattle.ua_channel.specs.Admission.{follows_last, is_text, is_int, admit_open_rows}
use Rattle.ua_conn.specs.Past.{Past, Known, known, is_close, carried, hello_in, open_in}
use Rattle.ua_conn.specs.server.Faults.{fault_at, frame_rows, is_allowed, greatest_frame, channel_of, request_rows, open_rows, names_usable, chunk_rows_by, message_rows, close_rows}
use Rattle.ua_conn.specs.server.Legal.{IsWhole, HasSize, IsFaultless}
use Rattle.ua_service.specs.ChannelMessages.{open_of, close_of}
use Rattle.ua_service.specs.Requests.{request_of}
use Rattle.ua_conn.proofs.TableLemmas.{AllNo, all_no, no_row}

-- ---- the whole table, at a whole frame

-- no row holds at this whole frame
pub record Fine (site : Site) (k : Known) (f : Frame) : Type 0 where
  pub whole : IsWhole f
  pub none : fault_at site k f ≡ None

abbrev pub AreFine : Site → Past → List Frame → Type 0
AreFine site past [] = Unit {0}
AreFine site past (f ∷ fs) = Fine site (known site past) f × (is_close (kind_of f.bytes) ≡ true → fs ≡ []) × AreFine site (f ∷ past) fs

abbrev pub all_rows : Site → Known → Frame → Option Kind → ℕ → List Row
all_rows site k f kind flag = rows_of kind flag (size_of f.bytes) (greatest_frame k.limits) ++ frame_rows site k f kind flag

first_of_both : (rows more : List Row) → or_else (first_row rows) (first_row more) ≡ first_row (rows ++ more)
first_of_both [] more = refl
first_of_both (row ∷ rows) more = either (first_of_both rows more) row.0
  where
    either : or_else (first_row rows) (first_row more) ≡ first_row (rows ++ more) → (v : Bool) → or_else (cond v (Some row.1) (first_row rows)) (first_row more) ≡ cond v (Some row.1) (first_row (rows ++ more))
    either h true = refl
    either h false = h

pub rows_at : (site : Site) (k : Known) (f : Frame) (kind : Option Kind) (flag : ℕ) → IsWhole f → kind_of f.bytes ≡ kind → flag_of f.bytes ≡ flag → fault_at site k f ≡ first_row (all_rows site k f kind flag)
unfolding fault_at
rows_at site k f kind flag w p q =
    let long : nat_lt (length f.bytes) 8 ≡ false = le-ltb (length f.bytes) 8 w.frame.header in
    let head : header_fault (greatest_frame k.limits) f.bytes ≡ first_row (rows_of (kind_of f.bytes) (flag_of f.bytes) (size_of f.bytes) (greatest_frame k.limits)) =
    ap (λ v. cond v None (first_row (rows_of (kind_of f.bytes) (flag_of f.bytes) (size_of f.bytes) (greatest_frame k.limits)))) long in
    ap (λ o. or_else o (first_row (frame_rows site k f (kind_of f.bytes) (flag_of f.bytes)))) head
    ∙ first_of_both (rows_of (kind_of f.bytes) (flag_of f.bytes) (size_of f.bytes) (greatest_frame k.limits)) (frame_rows site k f (kind_of f.bytes) (flag_of f.bytes))
    ∙ (λ i. first_row (all_rows site k f (p i) (q i)))

pub tells : (site : Site) (k : Known) (f : Frame) (kind : Option Kind) (flag : ℕ) → kind_of f.bytes ≡ kind → flag_of f.bytes ≡ flag → Fine site k f → AllNo (all_rows site k f kind flag)
tells site k f kind flag e q n = all_no (all_rows site k f kind flag) (sym (rows_at site k f kind flag n.whole e q) ∙ n.none)

pub fine_by : (site : Site) (k : Known) (f : Frame) (kind : Option Kind) (flag : ℕ) → IsWhole f → kind_of f.bytes ≡ kind → flag_of f.bytes ≡ flag → AllNo (all_rows site k f kind flag) → Fine site k f
fine_by site k f kind flag w e q h = record { whole = w; none = rows_at site k f kind flag w e q ∙ no_row (all_rows site k f kind flag) h }

-- the same of a list of frames
pub fine_all : (site : Site) (past : Past) (fs : List Frame) → AllByRecursion IsWhole fs → IsFaultless site past fs → AreFine site past fs
fine_all site past [] w h = tt
fine_all site past (f ∷ fs) w h = (record { whole = w.0; none = h.0 }, h.1, fine_all site (f ∷ past) fs w.1 h.2)

pub faultless_all : (site : Site) (past : Past) (fs : List Frame) → AreFine site past fs → IsFaultless site past fs
faultless_all site past [] h = tt
faultless_all site past (f ∷ fs) h = (h.0.none, h.1, faultless_all site (f ∷ past) fs h.2)

-- ---- what the rows of each type say

int_is : (n : ℕ) (z : ℤ) → is_int n z ≡ true → z ≡ pos n
int_is n (pos m) h = ap pos (eqb-true m n h)
int_is n (negsuc m) h = absurd (cc)

is_that : (n : ℕ) (z : ℤ) → z ≡ pos n → is_int n z ≡ true
is_that n z e = ap (is_int n) e ∙ eq-eqb n n refl

-- what the header, the layout and admission say of a MSG or CLO
pub record Admits (site : Site) (k : Known) (f : Frame) : Type 0 where
  pub size : HasSize k f
  pub layout : is_some (chunk_of (fields_of f.bytes)) ≡ true
  pub channel : (carried f).channel ≡ site.channel
  pub token : is_usable k.tokens (carried f).token f.moment ≡ true
  pub number : follows_last k.last (carried f).sequence ≡ true

pub record Part (site : Site) (k : Known) (flag : ℕ) (f : Frame) : Type 0 where
  pub admits : Admits site k f
  pub opened : is_allowed k (Some kinds.Message) ≡ true
  pub id : may_have_id k.half (carried f).request_id ≡ true
  pub count : not (flag == 65) ≡ true → parts_of k.half + 1 ≤ site.settings.limits.max_chunks
  pub bytes : not (flag == 65) ≡ true → length (body_of k.half) + length (carried f).body ≤ site.settings.limits.max_message
  pub abort : (flag == 65) ≡ true → is_some (abort_of (carried f).body) ≡ true
  pub request : (flag == 70) ≡ true → is_some (request_of (body_of k.half ++ (carried f).body)) ≡ true

pub if_holds : (a b : Bool) → (a && b) ≡ false → a ≡ true → b ≡ false
if_holds true b h e = h
if_holds false b h e = absurd (cc)

pub and_no : (a b : Bool) → (a ≡ true → b ≡ false) → (a && b) ≡ false
and_no true b h = h refl
and_no false b h = refl

some_of : {A : Type 0} (o : Option A) → is_none o ≡ false → is_some o ≡ true
some_of None h = absurd (cc)
some_of (Some a) h = refl

none_no : {A : Type 0} (o : Option A) → is_some o ≡ true → is_none o ≡ false
none_no None h = absurd (cc)
none_no (Some a) h = refl

-- a whole frame has a header
pub least_size : {k : Known} {f : Frame} → HasSize k f → 8 ≤ size_of f.bytes
least_size h = omega (arith, h.whole.frame.header, h.whole.frame.whole)

-- of the rows of a MSG or CLO, the first that are its channel's
admits_here : (site : Site) (k : Known) (f : Frame) (more : List Row) → HasSize k f → AllNo (chunk_rows_by site k f (names_usable k f) ++ more) → Admits site k f
admits_here site k f more size h = record {
  size = size;
  layout = some_of _ h.0;
  channel = eqb-true _ _ (not-false _ h.1.0);
  token = not-false _ h.1.1.0;
  number = not-false _ h.1.1.1.0;
}

-- a MSG of a flag
pub part_tells : (site : Site) (k : Known) (f : Frame) (flag : ℕ) → IsWhole f → AllNo (all_rows site k f (Some kinds.Message) flag) → Part site k flag f
part_tells site k f flag w h =
    let t5 = h.1.1.1.1.1 in
    let t9 = t5.1.1.1.1 in
    let c = carried f in
    record {
      admits = admits_here site k f (message_rows site k flag c) (record { whole = w; least = ltb-false _ _ h.1.1.1.0 }) t5;
      opened = not-false _ h.1.1.1.1.0;
      id = not-false _ t9.0;
      count = λ e. ltb-false _ _ (or_parts _ _ (if_holds (not (flag == 65)) _ t9.1.0 e)).0;
      bytes = λ e. ltb-false _ _ (or_parts _ _ (if_holds (not (flag == 65)) _ t9.1.0 e)).1;
      abort = λ e. some_of _ (if_holds (flag == 65) _ t9.1.1.0 e);
      request = λ e. some_of _ (if_holds (flag == 70) _ t9.1.1.1.0 e);
    }

pub part_rows : (site : Site) (k : Known) (f : Frame) (flag : ℕ) → (flag == 67 || flag == 70 || flag == 65) ≡ true → Part site k flag f → AllNo (all_rows site k f (Some kinds.Message) flag)
part_rows site k f flag e p =
    let a = p.admits in (
      refl,
      (
        not_from_true _ e,
        (
          le-ltb _ _ (least_size a.size),
          (
            le-ltb _ _ a.size.least,
            (
              not_from_true _ p.opened,
              (
                none_no _ a.layout,
                (
                  not_from_true _ (eq-eqb _ _ a.channel),
                  (
                    not_from_true _ a.token,
                    (
                      not_from_true _ a.number,
                      (
                        not_from_true _ p.id,
                        (
                          and_no (not (flag == 65)) _ (λ e. or_from _ _ (le-ltb _ _ (p.count e)) (le-ltb _ _ (p.bytes e))),
                          (
                            and_no (flag == 65) _ (λ e. none_no _ (p.abort e)),
                            (and_no (flag == 70) _ (λ e. none_no _ (p.request e)), tt),
                          ),
                        ),
                      ),
                    ),
                  ),
                ),
              ),
            ),
          ),
        ),
      ),
    )

pub record CloseAt (site : Site) (k : Known) (f : Frame) : Type 0 where
  pub admits : Admits site k f
  pub opened : is_allowed k (Some kinds.Close) ≡ true
  pub close : is_some (close_of (carried f).body) ≡ true

pub close_tells : (site : Site) (k : Known) (f : Frame) (flag : ℕ) → IsWhole f → AllNo (all_rows site k f (Some kinds.Close) flag) → CloseAt site k f
close_tells site k f flag w h =
    let t5 = h.1.1.1.1.1 in
    record {
      admits = admits_here site k f (close_rows (carried f)) (record { whole = w; least = ltb-false _ _ h.1.1.1.0 }) t5;
      opened = not-false _ h.1.1.1.1.0;
      close = not-false _ t5.1.1.1.1.0;
    }

pub close_rows_no : (site : Site) (k : Known) (f : Frame) → CloseAt site k f → AllNo (all_rows site k f (Some kinds.Close) 70)
close_rows_no site k f p =
    let a = p.admits in (
      refl,
      (
        refl,
        (
          le-ltb _ _ (least_size a.size),
          (
            le-ltb _ _ a.size.least,
            (
              not_from_true _ p.opened,
              (none_no _ a.layout, (not_from_true _ (eq-eqb _ _ a.channel), (not_from_true _ a.token, (not_from_true _ a.number, (not_from_true _ p.close, tt))))),
            ),
          ),
        ),
      ),
    )

pub record OpenAt (site : Site) (k : Known) (f : Frame) : Type 0 where
  pub size : HasSize k f
  pub allowed : is_allowed k (Some kinds.Open) ≡ true
  pub opening : OpenChunk
  pub layout : open_in f ≡ Some opening
  pub channel_id : opening.channel ≡ cond (length k.tokens == 0) 0 site.channel
  pub policy : is_text policy_none opening.policy ≡ true
  pub number : follows_last k.last opening.sequence ≡ true
  pub half : is_some k.half ≡ false
  pub request : OpenRequest
  pub body : open_of opening.body ≡ Some request
  pub request_type : request.request_type ≡ pos (cond (length k.tokens == 0) 0 1)
  pub mode : request.security_mode ≡ pos 1
  pub unspent : newest_id k.tokens < 4294967295

open_by_request : (site : Site) (k : Known) (f : Frame) (o : OpenChunk) (v : Option OpenRequest) → open_in f ≡ Some o → open_of o.body ≡ v →
    HasSize k f → is_allowed k (Some kinds.Open) ≡ true → AllNo (admit_open_rows (channel_of site k) o ++ (is_some k.half, 0x807E0000) ∷ request_rows site k v) → OpenAt site k f
open_by_request site k f o None e q size allowed h = absurd (let x = h.1.1.1.1.0 in cc)
open_by_request site k f o (Some r) e q size allowed h = record {
  size = size;
  allowed = allowed;
  opening = o;
  layout = e;
  channel_id = eqb-true _ _ (not-false _ h.0);
  policy = not-false _ h.1.0;
  number = not-false _ h.1.1.0;
  half = h.1.1.1.0;
  request = r;
  body = q;
  request_type = int_is _ _ (not-false _ h.1.1.1.1.0);
  mode = int_is _ _ (not-false _ h.1.1.1.1.1.0);
  unspent = leb-false _ _ h.1.1.1.1.1.1.0;
}

open_by_chunk : (site : Site) (k : Known) (f : Frame) (v : Option OpenChunk) → open_in f ≡ v →
    HasSize k f → is_allowed k (Some kinds.Open) ≡ true → AllNo (open_rows site k v) → OpenAt site k f
open_by_chunk site k f None e size allowed h = absurd (let x = h.0 in cc)
open_by_chunk site k f (Some o) e size allowed h = open_by_request site k f o (open_of o.body) e refl size allowed h

pub open_tells : (site : Site) (k : Known) (f : Frame) (flag : ℕ) → IsWhole f → AllNo (all_rows site k f (Some kinds.Open) flag) → OpenAt site k f
open_tells site k f flag w h =
    open_by_chunk site k f (open_in f) refl (record { whole = w; least = ltb-false _ _ h.1.1.1.0 }) (not-false _ h.1.1.1.1.0) h.1.1.1.1.1

pub open_rows_no : (site : Site) (k : Known) (f : Frame) → OpenAt site k f → AllNo (all_rows site k f (Some kinds.Open) 70)
open_rows_no site k f p =
    let P : Option OpenChunk → Type 0 = λ v. AllNo (open_rows site k v) in
    let Q : Option OpenRequest → Type 0 = λ v. AllNo (admit_open_rows (channel_of site k) p.opening ++ (is_some k.half, 0x807E0000) ∷ request_rows site k v) in (
      refl,
      (
        refl,
        (
          le-ltb _ _ (least_size p.size),
          (
            le-ltb _ _ p.size.least,
            (
              not_from_true _ p.allowed,
              subst P (sym p.layout) (subst Q (sym p.body) (
                not_from_true _ (eq-eqb _ _ p.channel_id),
                (
                  not_from_true _ p.policy,
                  (
                    not_from_true _ p.number,
                    (
                      p.half,
                      (not_from_true _ (is_that _ _ p.request_type), (not_from_true _ (is_that _ _ p.mode), (lt-leb _ _ p.unspent, tt))),
                    ),
                  ),
                ),
              )),
            ),
          ),
        ),
      ),
    )

pub record HelloAt (site : Site) (k : Known) (f : Frame) : Type 0 where
  pub size : HasSize k f
  pub allowed : is_allowed k (Some kinds.Hello) ≡ true
  pub hello : Hello
  pub layout : hello_in f ≡ Some hello
  pub url : is_long hello.url ≡ false
  pub receive : 8192 ≤ hello.receive
  pub send : 8192 ≤ hello.send

hello_by : (site : Site) (k : Known) (f : Frame) (v : Option Hello) → hello_in f ≡ v → HasSize k f → is_allowed k (Some kinds.Hello) ≡ true → AllNo (hello_rows v) → HelloAt site k f
hello_by site k f None e size allowed h = absurd (let x = h.0 in cc)
hello_by site k f (Some o) e size allowed h = record {
  size = size;
  allowed = allowed;
  hello = o;
  layout = e;
  url = h.0;
  receive = ltb-false _ _ (or_parts _ _ h.1.0).0;
  send = ltb-false _ _ (or_parts _ _ h.1.0).1;
}

pub hello_tells : (site : Site) (k : Known) (f : Frame) (flag : ℕ) → IsWhole f → AllNo (all_rows site k f (Some kinds.Hello) flag) → HelloAt site k f
hello_tells site k f flag w h = hello_by site k f (hello_in f) refl (record { whole = w; least = ltb-false _ _ h.1.1.1.0 }) (not-false _ h.1.1.1.1.0) h.1.1.1.1.1

pub hello_rows_no : (site : Site) (k : Known) (f : Frame) → HelloAt site k f → AllNo (all_rows site k f (Some kinds.Hello) 70)
hello_rows_no site k f p =
    let P : Option Hello → Type 0 = λ v. AllNo (hello_rows v) in (
      refl,
      (
        refl,
        (
          le-ltb _ _ (least_size p.size),
          (
            le-ltb _ _ p.size.least,
            (
              not_from_true _ p.allowed,
              subst P (sym p.layout) (p.url, (or_from _ _ (le-ltb _ _ p.receive) (le-ltb _ _ p.send), tt)),
            ),
          ),
        ),
      ),
    )
