use Rattle.std.proofs.Common.{take, drop, refl}
use Rattle.etcs_sequence.proofs.Sent.{two_sent_ok}
use Rattle.etcs_telegram.specs.Telegrams.{header_reading}
use Rattle.etcs_telegram.proofs.variables.HeaderVariables.send.Goals as goal

pub returns-clause-ok : goal.returns-clause-ok
returns-clause-ok g c =
    let all = header_reading c.args.self.now in
    two_sent_ok g.S.VarSink.with g.met.S.VarSink.with_both c.send-2.result c.args.out.now c.send.new.self c.send-2.new.self (take 5 all) (drop 5 all) all
    (rw (c.from.ensures, c.m_version.ensures, c.from-2.ensures, c.n_pig.ensures, c.from-3.ensures, c.n_total.ensures) at c.in_ok-send.ensures.ok)
    (rw (c.from-4.ensures, c.m_dup.ensures, c.from-5.ensures, c.m_mcount.ensures, c.from-6.ensures, c.nid_c.ensures, c.from-7.ensures, c.nid_bg.ensures, c.from-8.ensures, c.q_link.ensures) at c.send-2.ensures.ok)
    refl
