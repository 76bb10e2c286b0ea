use Rattle.etcs_radio.proofs.Numbers.{body_is}
use Rattle.etcs_radio.proofs.body.BodyOwn.of_numbers.Goals as goal

pub returns : goal.returns
returns c = let e = c.of_numbers.ensures in body_is c.args.nid c.args.numbers.now c.of_numbers.result c.requires e.nid e.body e.reading
