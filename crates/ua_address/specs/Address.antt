-- The address that a url of OPC UA over TCP names.
use Rattle.std.specs.Prelude.{◌==◌, ℕ, Bool, List, ◌++◌, codes, length, take, drop, nat_lt, if◌then◌else◌}
use Rattle.std.specs.List.{before_first, after_first, position_or_len}
use Rattle.std.specs.Str.{bytes_eq}

-- the text begins with `opc.tcp://`
abbrev pub is_url : List ℕ → Bool
is_url text = bytes_eq (take 10 text) (codes "opc.tcp://")

-- what stands before the first of this character
abbrev pub before : ℕ → List ℕ → List ℕ
before c text = before_first (λ b. b == c) text

-- the text has this character
abbrev pub has : ℕ → List ℕ → Bool
has c text = nat_lt (position_or_len (λ b. b == c) text) (length text)

-- host and perhaps port: what stands before the first `/`, `?` or `#`
abbrev pub authority : List ℕ → List ℕ
authority rest = before 35 (before 63 (before 47 rest))

-- what stands behind the bracket that closes an address of IPv6, or all of another host
abbrev pub behind_host : List ℕ → List ℕ
behind_host text = if has 93 text then after_first (λ b. b == 93) text else text

-- with the port 4840, where no colon stands behind the host
abbrev pub with_port : List ℕ → List ℕ
with_port text = if has 58 (behind_host text) then text else text ++ codes ":4840"

abbrev pub address_of : List ℕ → List ℕ
address_of text = if is_url text then with_port (authority (drop 10 text)) else text
