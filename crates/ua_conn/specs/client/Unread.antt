-- The fault of bytes that could not be read.
use Rattle.ua_value.specs.declared.fault.ReadFault.{ReadFault}
use Rattle.ua_value.specs.declared.fault.ReadFault.TheVariants as unread
use Rattle.ua_conn.specs.declared.client.fault.ClientFault.{ClientFault}
use Rattle.ua_conn.specs.declared.client.fault.ClientFault.TheVariants.{Broken, NoMemory}

-- Bytes that spell no value are refused.
abbrev pub of_unread : ReadFault → ClientFault
of_unread unread.Refused = Broken 0x80070000
of_unread unread.NoMemory = NoMemory
