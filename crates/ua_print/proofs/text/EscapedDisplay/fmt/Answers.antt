use Rattle.ua_print.proofs.Texts.{four_text}
use Rattle.ua_print.proofs.text.EscapedDisplay.fmt.Goals as goal

pub from_utf8_unchecked-requires : goal.from_utf8_unchecked-requires
from_utf8_unchecked-requires g c = four_text c.digit.result c.digit-2.result c.digit.ensures.ascii c.digit-2.ensures.ascii
