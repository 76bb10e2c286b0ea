use Rattle.std.proofs.Common.{subst}
use Rattle.etcs_vars.specs.Reading.{IsAdmitted}
use Rattle.etcs_telegram.specs.Telegrams.{HeaderValue, header_reading}
use Rattle.etcs_telegram.proofs.HeaderLemmas.{header_admitted}
use Rattle.etcs_telegram.proofs.header.Header.admitted.Goals as goal

pub returns : goal.returns
returns c =
    let f = c.self.inside in
    let h : HeaderValue = record { m_version = f.m_version; n_pig = f.n_pig; n_total = f.n_total; m_dup = f.m_dup; m_mcount = f.m_mcount; nid_c = f.nid_c; nid_bg = f.nid_bg; q_link = f.q_link } in
    subst (λ (k : HeaderValue). IsAdmitted (header_reading k)) c.self.view_is (header_admitted h c.self.invariant)
