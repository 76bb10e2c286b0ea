use Rattle.std.proofs.Common.{◌≡◌, refl}
use Rattle.etcs_sequence.proofs.packets.PacketsRestRest.leap.Goals as goal

pub returns-in-None-clause-some : goal.returns-in-None-clause-some
returns-in-None-clause-some g c =
    let same : c.leap_closing.new.self ≡ c.args.self.now = c.in-None.ensures.none refl in
    rw same at c.leap_packets.ensures.some
