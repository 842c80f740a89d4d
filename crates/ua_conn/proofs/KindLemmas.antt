-- A type that passes its test.
use Rattle.std.proofs.Common.{◌≡◌, true, Option, Some, None, refl}
use Rattle.ua_frame.specs.declared.kind.Kind.{Kind}
use Rattle.ua_frame.specs.declared.kind.Kind.TheVariants as kinds
use Rattle.ua_conn.specs.Past.{is_hello, is_open, is_message}
use Rattle.ua_conn.specs.client.Past.{is_acknowledge}

pub is_hello_tells : (kind : Option Kind) → is_hello kind ≡ true → kind ≡ Some kinds.Hello
is_hello_tells None h = absurd (cc h)
is_hello_tells (Some kinds.Hello) h = refl
is_hello_tells (Some kinds.Acknowledge) h = absurd (cc h)
is_hello_tells (Some kinds.Error) h = absurd (cc h)
is_hello_tells (Some kinds.ReverseHello) h = absurd (cc h)
is_hello_tells (Some kinds.Open) h = absurd (cc h)
is_hello_tells (Some kinds.Message) h = absurd (cc h)
is_hello_tells (Some kinds.Close) h = absurd (cc h)

pub is_acknowledge_tells : (kind : Option Kind) → is_acknowledge kind ≡ true → kind ≡ Some kinds.Acknowledge
is_acknowledge_tells None h = absurd (cc h)
is_acknowledge_tells (Some kinds.Hello) h = absurd (cc h)
is_acknowledge_tells (Some kinds.Acknowledge) h = refl
is_acknowledge_tells (Some kinds.Error) h = absurd (cc h)
is_acknowledge_tells (Some kinds.ReverseHello) h = absurd (cc h)
is_acknowledge_tells (Some kinds.Open) h = absurd (cc h)
is_acknowledge_tells (Some kinds.Message) h = absurd (cc h)
is_acknowledge_tells (Some kinds.Close) h = absurd (cc h)

pub is_open_tells : (kind : Option Kind) → is_open kind ≡ true → kind ≡ Some kinds.Open
is_open_tells None h = absurd (cc h)
is_open_tells (Some kinds.Hello) h = absurd (cc h)
is_open_tells (Some kinds.Acknowledge) h = absurd (cc h)
is_open_tells (Some kinds.Error) h = absurd (cc h)
is_open_tells (Some kinds.ReverseHello) h = absurd (cc h)
is_open_tells (Some kinds.Open) h = refl
is_open_tells (Some kinds.Message) h = absurd (cc h)
is_open_tells (Some kinds.Close) h = absurd (cc h)

pub is_message_tells : (kind : Option Kind) → is_message kind ≡ true → kind ≡ Some kinds.Message
is_message_tells None h = absurd (cc h)
is_message_tells (Some kinds.Hello) h = absurd (cc h)
is_message_tells (Some kinds.Acknowledge) h = absurd (cc h)
is_message_tells (Some kinds.Error) h = absurd (cc h)
is_message_tells (Some kinds.ReverseHello) h = absurd (cc h)
is_message_tells (Some kinds.Open) h = absurd (cc h)
is_message_tells (Some kinds.Message) h = refl
is_message_tells (Some kinds.Close) h = absurd (cc h)
