-- The definitions at worked examples.
use Rattle.std.proofs.Common.{◌≡◌, ℕ, List, [], ◌∷◌, ◌++◌, true, false, Some, None, refl}
use Rattle.std.specs.Prelude.{codes}
use Rattle.std.specs.Str.{is_utf8, chars}
use lib.Utf8.{encode}
use Rattle.ua_value.specs.Number.{unsigned}
use Rattle.ua_value.specs.Text.{bytes_of}
use Rattle.ua_chunk.specs.Numbers.{follows, number_after}
use Rattle.ua_chunk.specs.Cut.{part_count, fill, Part}
use Rattle.ua_chunk.specs.Layout.{chunk_of, open_chunk_of, abort_of, chunk_header, open_header, abort_body, policy_none}
use Rattle.ua_chunk.specs.Gathered.{Gathered}
use Rattle.ua_chunk.specs.Assembly.{gathered_none, gathered_all, fault_of}
use Rattle.ua_chunk.specs.Written.{abort_frame, message_frames, chunk_frame}

-- ---- numbers

goes_on_past_the_greatest : follows 4294966272 4294966273 ≡ true
goes_on_past_the_greatest = refl

wraps_below_1024 : follows 4294966272 1023 ≡ true
wraps_below_1024 = refl

wraps_not_to_1024 : follows 4294966272 1024 ≡ false
wraps_not_to_1024 = refl

wraps_not_too_early : follows 4294966271 1 ≡ false
wraps_not_too_early = refl

wraps_at_the_end : follows 4294967295 0 ≡ true
wraps_at_the_end = refl

starts_again_at_1 : number_after 4294966272 1 ≡ 1
starts_again_at_1 = refl

-- ---- cuts

thirty_five : part_count 69 2 ≡ 35
thirty_five = refl

seventeen : part_count 1048576 65511 ≡ 17
seventeen = refl

one_of_nothing : part_count 0 5 ≡ 1
one_of_nothing = refl

abbrev part : ℕ → ℕ → List ℕ → Part
part id flag bytes = record { id = id; flag = flag; bytes = bytes }

five_in_twos : fill 7 (1 ∷ 2 ∷ 3 ∷ 4 ∷ 5 ∷ []) 2 ≡ part 7 67 (1 ∷ 2 ∷ []) ∷ part 7 67 (3 ∷ 4 ∷ []) ∷ part 7 70 (5 ∷ []) ∷ []
unfolding fill
five_in_twos = refl

four_in_twos : fill 7 (1 ∷ 2 ∷ 3 ∷ 4 ∷ []) 2 ≡ part 7 67 (1 ∷ 2 ∷ []) ∷ part 7 70 (3 ∷ 4 ∷ []) ∷ []
unfolding fill
four_in_twos = refl

nothing_in_twos : fill 7 [] 2 ≡ part 7 70 [] ∷ []
unfolding fill
nothing_in_twos = refl

-- ---- layouts

abbrev chunk_fields_read : List ℕ
chunk_fields_read = 1 ∷ 0 ∷ 0 ∷ 0 ∷ 2 ∷ 0 ∷ 0 ∷ 0 ∷ 3 ∷ 0 ∷ 0 ∷ 0 ∷ 4 ∷ 1 ∷ 0 ∷ 0 ∷ 9 ∷ []

a_chunk_is_read : chunk_of chunk_fields_read ≡ Some (record { channel = 1; token = 2; sequence = 3; request_id = 260; body = 9 ∷ [] })
unfolding chunk_of chunk_header unsigned
a_chunk_is_read = refl

a_short_chunk_is_none : chunk_of (1 ∷ 0 ∷ 0 ∷ 0 ∷ 2 ∷ 0 ∷ 0 ∷ 0 ∷ 3 ∷ 0 ∷ 0 ∷ 0 ∷ 4 ∷ 1 ∷ 0 ∷ []) ≡ None
unfolding chunk_of chunk_header unsigned
a_short_chunk_is_none = refl

abbrev nothing : List ℕ
nothing = 255 ∷ 255 ∷ 255 ∷ 255 ∷ []

an_open_is_read : open_chunk_of ((0 ∷ 0 ∷ 0 ∷ 0 ∷ 47 ∷ 0 ∷ 0 ∷ 0 ∷ []) ++ codes "http://opcfoundation.org/UA/SecurityPolicy#None" ++ nothing ++ nothing ++ (1 ∷ 0 ∷ 0 ∷ 0 ∷ 2 ∷ 0 ∷ 0 ∷ 0 ∷ 9 ∷ []))
    ≡ Some (record { channel = 0; policy = Some policy_none; sequence = 1; request_id = 2; body = 9 ∷ [] })
unfolding open_chunk_of open_header unsigned bytes_of is_utf8 chars encode
an_open_is_read = refl

abbrev abort_fields : List ℕ
abort_fields = 0 ∷ 0 ∷ 0xB9 ∷ 0x80 ∷ nothing

an_abort_is_read : abort_of abort_fields ≡ Some 0x80B90000
unfolding abort_of abort_body unsigned bytes_of is_utf8 chars encode
an_abort_is_read = refl

an_abort_has_nothing_behind : abort_of (abort_fields ++ 0 ∷ []) ≡ None
unfolding abort_of abort_body unsigned bytes_of is_utf8 chars encode
an_abort_has_nothing_behind = refl

-- ---- frames

abbrev chunk_numbers : ℕ → ℕ → ℕ → List ℕ → List ℕ
chunk_numbers size number id body = size ∷ 0 ∷ 0 ∷ 0 ∷ 1 ∷ 0 ∷ 0 ∷ 0 ∷ 1 ∷ 0 ∷ 0 ∷ 0 ∷ number ∷ 0 ∷ 0 ∷ 0 ∷ id ∷ 0 ∷ 0 ∷ 0 ∷ body

an_abort_is_32_bytes : abort_frame 1 1 2 2 0x80B90000 ≡ codes "MSGA" ++ chunk_numbers 32 2 2 abort_fields
unfolding chunk_frame chunk_header abort_body unsigned bytes_of
an_abort_is_32_bytes = refl

a_message_in_two : message_frames 1 1 2 0 (fill 3 (7 ∷ 8 ∷ 9 ∷ []) 2) ≡ codes "MSGC" ++ chunk_numbers 26 2 3 (7 ∷ 8 ∷ []) ++ codes "MSGF" ++ chunk_numbers 25 3 3 (9 ∷ [])
unfolding chunk_frame chunk_header unsigned fill
a_message_in_two = refl

-- ---- messages put together

aborted : gathered_all (gathered_none 10 3) (part 2 67 (1 ∷ []) ∷ part 2 67 (2 ∷ []) ∷ part 2 65 abort_fields ∷ part 3 70 (5 ∷ 6 ∷ []) ∷ [])
    ≡ record { max_message = 10; max_chunks = 3; half = Some (record { id = 3; body = 5 ∷ 6 ∷ []; parts = 1 }); whole = true }
aborted = refl

abbrev two_parts : Gathered
two_parts = gathered_all (gathered_none 3 2) (part 2 67 (1 ∷ []) ∷ part 2 67 (2 ∷ []) ∷ [])

one_part_too_many : fault_of two_parts 70 2 [] ≡ Some 0x80800000
one_part_too_many = refl

another_id_goes_first : fault_of two_parts 70 3 [] ≡ Some 0x807E0000
another_id_goes_first = refl

an_abort_is_not_counted : fault_of two_parts 65 2 abort_fields ≡ None
unfolding abort_of abort_body unsigned bytes_of is_utf8 chars encode
an_abort_is_not_counted = refl

abbrev one_part : Gathered
one_part = gathered_all (gathered_none 3 2) (part 2 67 (1 ∷ []) ∷ [])

as_many_bytes_as_there_may_be : fault_of one_part 70 2 (2 ∷ 3 ∷ []) ≡ None
as_many_bytes_as_there_may_be = refl

one_byte_too_many : fault_of one_part 70 2 (2 ∷ 3 ∷ 4 ∷ []) ≡ Some 0x80800000
one_byte_too_many = refl
