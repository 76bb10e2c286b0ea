use Rattle.std.proofs.Common.{◌≡◌, length, arith}
use Rattle.etcs_places.proofs.ScanSteps.{scan_step, scan_end, scan_counted}
use Rattle.etcs_places.proofs.walk.walk.Goals as goal

pub loop-pair-preserved : goal.loop-pair-preserved
loop-pair-preserved c = record {
  counted = scan_counted c.loop-pair.here c.step-here.result c.in-Some.pair.now c.loop-pair.places.items c.push.new.self.items c.put_body.new.places.items _ c.step-here.ensures c.in_ok-push.ensures.items c.in_ok-put_body.ensures c.loop-pair.invariant.counted;
  walked =
      let count : c.len.result ≡ length c.loop-pair.places.items = omega (arith, c.len.ensures) in
      scan_step c.args.way c.loop-pair.here c.step-here.result c.args.pairs.now c.in-Some.pair.now c.loop-pair.places.items c.push.new.self.items c.put_body.new.places.items _
      (omega (arith, c.in-Some.ensures.lookup.3.0, count)) (rw count at c.in-Some.ensures.lookup.1) c.step-here.ensures c.in_ok-push.ensures.items c.in_ok-put_body.ensures c.loop-pair.invariant.walked;
}

pub returns : goal.returns
returns c =
    scan_end c.args.way c.loop-pair.here c.args.pairs.now c.loop-pair.places.items _ (omega (arith, c.in_default.ensures.lookup.3, c.len.ensures)) c.loop-pair.invariant.walked
