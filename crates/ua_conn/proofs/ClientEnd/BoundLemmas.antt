-- What a client is made of.
use Rattle.ua_conn.specs.client.Bound.{IsAll}
use Rattle.ua_conn.specs.declared.client.Client.TheInside.{Inside}

-- the fields that are named here are all
pub all_parts : (s : Inside) → IsAll s
all_parts s = λ t a b c d e f g h. λ i. record { alloc = a i; connection = b i; closed = c i; next_id = d i; buffer = e i; output = f i; moment = g i; failed = h i }
