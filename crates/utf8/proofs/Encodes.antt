-- What the rules encode each range of code points to, and that a byte stored changes no length.
use Rattle.std.proofs.Common.{length-set}
use Rattle.rules.proofs.Chars.{utf8_one, utf8_two, utf8_three, utf8_four}

pub ruleset encodes = (utf8_one, utf8_two, utf8_three, utf8_four, length-set)
