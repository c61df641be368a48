-- `codec::crc32c::word` meets its contract: the rule of the tables.
use Rattle.codec.proofs.TableRule.{rule}
use Rattle.codec.proofs.crc32c.word.Goals as goal

pub returns : goal.returns
returns c = rule c.args.table c.args.byte c.requires c.ranges.byte.fits
