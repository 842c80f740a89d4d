-- The kinds of values, OPC 10000-6, 5.1.2, and their numbers.
use Rattle.std.specs.Prelude.{◌≡◌, ℕ, ◌<◌, Bool, Option, Some, None, ◌==◌, ◌&&◌, ◌||◌, ltb, nat_le, nat_lt, if◌then◌else◌, refl}
use Rattle.std.proofs.Common.{lit<}

-- The kinds of values that hold no Variant, DataValue or DiagnosticInfo.
pub data Plain : Type 0 where
  boolean : Plain
  sbyte : Plain
  byte : Plain
  int16 : Plain
  uint16 : Plain
  int32 : Plain
  uint32 : Plain
  int64 : Plain
  uint64 : Plain
  float : Plain
  double : Plain
  string : Plain
  date_time : Plain
  guid : Plain
  byte_string : Plain
  xml_element : Plain
  node_id : Plain
  expanded_node_id : Plain
  status_code : Plain
  qualified_name : Plain
  localized_text : Plain
  extension_object : Plain

pub data Kind : Type 0 where
  plain : Plain → Kind
  data_kind : Kind
  variant_kind : Kind
  info_kind : Kind

abbrev pub plain_number : Plain → ℕ
plain_number boolean = 1
plain_number sbyte = 2
plain_number byte = 3
plain_number int16 = 4
plain_number uint16 = 5
plain_number int32 = 6
plain_number uint32 = 7
plain_number int64 = 8
plain_number uint64 = 9
plain_number float = 10
plain_number double = 11
plain_number string = 12
plain_number date_time = 13
plain_number guid = 14
plain_number byte_string = 15
plain_number xml_element = 16
plain_number node_id = 17
plain_number expanded_node_id = 18
plain_number status_code = 19
plain_number qualified_name = 20
plain_number localized_text = 21
plain_number extension_object = 22

abbrev pub kind_number : Kind → ℕ
kind_number (plain p) = plain_number p
kind_number data_kind = 23
kind_number variant_kind = 24
kind_number info_kind = 25

-- the kind that a number in a Variant's first byte stands for; 26 to 31 are read as bytes
unfoldable pub kind_named : ℕ → Option Kind
kind_named n =
    if n == 1 then Some (plain boolean)
    else (if n == 2 then Some (plain sbyte)
    else (if n == 3 then Some (plain byte)
    else (if n == 4 then Some (plain int16)
    else (if n == 5 then Some (plain uint16)
    else (if n == 6 then Some (plain int32)
    else (if n == 7 then Some (plain uint32)
    else (if n == 8 then Some (plain int64)
    else (if n == 9 then Some (plain uint64)
    else (if n == 10 then Some (plain float)
    else (if n == 11 then Some (plain double)
    else (if n == 12 then Some (plain string)
    else (if n == 13 then Some (plain date_time)
    else (if n == 14 then Some (plain guid)
    else (if n == 15 then Some (plain byte_string)
    else (if n == 16 then Some (plain xml_element)
    else (if n == 17 then Some (plain node_id)
    else (if n == 18 then Some (plain expanded_node_id)
    else (if n == 19 then Some (plain status_code)
    else (if n == 20 then Some (plain qualified_name)
    else (if n == 21 then Some (plain localized_text)
    else (if n == 22 then Some (plain extension_object)
    else (if n == 23 then Some data_kind
    else (if n == 24 then Some variant_kind
    else (if n == 25 then Some info_kind
    else (if nat_le 26 n && nat_lt n 32 then Some (plain byte_string) else None)))))))))))))))))))))))))

pub record IsNumber (n : ℕ) (k : Kind) : Type 0 where
  pub named : kind_named n ≡ Some k
  pub low : n < 64

pub numbered : (k : Kind) → IsNumber (kind_number k) k
unfolding kind_named
numbered (plain boolean) = record { named = refl; low = lit< tt }
numbered (plain sbyte) = record { named = refl; low = lit< tt }
numbered (plain byte) = record { named = refl; low = lit< tt }
numbered (plain int16) = record { named = refl; low = lit< tt }
numbered (plain uint16) = record { named = refl; low = lit< tt }
numbered (plain int32) = record { named = refl; low = lit< tt }
numbered (plain uint32) = record { named = refl; low = lit< tt }
numbered (plain int64) = record { named = refl; low = lit< tt }
numbered (plain uint64) = record { named = refl; low = lit< tt }
numbered (plain float) = record { named = refl; low = lit< tt }
numbered (plain double) = record { named = refl; low = lit< tt }
numbered (plain string) = record { named = refl; low = lit< tt }
numbered (plain date_time) = record { named = refl; low = lit< tt }
numbered (plain guid) = record { named = refl; low = lit< tt }
numbered (plain byte_string) = record { named = refl; low = lit< tt }
numbered (plain xml_element) = record { named = refl; low = lit< tt }
numbered (plain node_id) = record { named = refl; low = lit< tt }
numbered (plain expanded_node_id) = record { named = refl; low = lit< tt }
numbered (plain status_code) = record { named = refl; low = lit< tt }
numbered (plain qualified_name) = record { named = refl; low = lit< tt }
numbered (plain localized_text) = record { named = refl; low = lit< tt }
numbered (plain extension_object) = record { named = refl; low = lit< tt }
numbered data_kind = record { named = refl; low = lit< tt }
numbered variant_kind = record { named = refl; low = lit< tt }
numbered info_kind = record { named = refl; low = lit< tt }

-- a truth value, a number, a moment, a Guid or a status code, which owns no memory
abbrev pub owns_nothing : Kind → Bool
owns_nothing k = let n : ℕ = kind_number k in ltb n 12 || (n == 13 || (n == 14 || n == 19))
