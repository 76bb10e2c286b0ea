-- Where a train is, and what it does, of packets 0 and 1 to the track (SUBSET-026, 7.4.3).
use Rattle.std.proofs.Common.{ℕ, Option}
use Rattle.etcs_vars.specs.declared.var.Var.TheVariants.{D_LRBG, Q_DIRLRBG, Q_DLRBG, L_DOUBTOVER, L_DOUBTUNDER, Q_LENGTH, L_TRAININT, V_TRAIN, Q_DIRTRAIN, M_MODE, M_LEVEL, NID_NTC}
use Rattle.etcs_vars.specs.declared.fault.BuildFault.{BuildFault}
use Rattle.etcs_tables.specs.declared.item.Test.TheVariants.{IsOne, IsOneOrTwo}
use Rattle.etcs_bodies.specs.Formats.{Format, number, ◌⊗◌, guarded, named, Is, fault}
pub use Rattle.etcs_track.specs.declared.located.Located.TheInside.{Inside as Located}

-- the format of Q_LENGTH, what is known of the train's integrity, and of the length for which it is confirmed, if it is
-- 1 or 2
abbrev pub integrity_format : Format (ℕ × Option ℕ)
integrity_format = guarded Q_LENGTH IsOneOrTwo (number L_TRAININT)

-- the format of M_LEVEL, and of the national system if it is 1
abbrev pub level_format : Format (ℕ × Option ℕ)
level_format = guarded M_LEVEL IsOne (number NID_NTC)

-- where a train is, and what it does, of these numbers in the order of the constructor's
abbrev pub located_value : ℕ → ℕ → ℕ → ℕ → ℕ → ℕ → Option ℕ → ℕ → ℕ → ℕ → ℕ → Option ℕ → Located
located_value d_lrbg q_dirlrbg q_dlrbg l_doubtover l_doubtunder q_length l_trainint v_train q_dirtrain m_mode m_level nid_ntc =
    record {
      d_lrbg = d_lrbg;
      q_dirlrbg = q_dirlrbg;
      q_dlrbg = q_dlrbg;
      l_doubtover = l_doubtover;
      l_doubtunder = l_doubtunder;
      q_length = q_length;
      l_trainint = l_trainint;
      v_train = v_train;
      q_dirtrain = q_dirtrain;
      m_mode = m_mode;
      m_level = m_level;
      nid_ntc = nid_ntc;
    }

-- the format of where a train is: its variables in the order of sending
abbrev pub located_format : Format Located
located_format =
    named
    (λ n. located_value n.0 n.1.0 n.1.1.0 n.1.1.1.0 n.1.1.1.1.0 n.1.1.1.1.1.0.0 n.1.1.1.1.1.0.1 n.1.1.1.1.1.1.0 n.1.1.1.1.1.1.1.0 n.1.1.1.1.1.1.1.1.0 n.1.1.1.1.1.1.1.1.1.0 n.1.1.1.1.1.1.1.1.1.1)
    (λ p. (p.d_lrbg, (p.q_dirlrbg, (p.q_dlrbg, (p.l_doubtover, (p.l_doubtunder, ((p.q_length, p.l_trainint), (p.v_train, (p.q_dirtrain, (p.m_mode, (p.m_level, p.nid_ntc))))))))))) (
    number D_LRBG ⊗ number Q_DIRLRBG ⊗ number Q_DLRBG ⊗ number L_DOUBTOVER ⊗ number L_DOUBTUNDER ⊗ integrity_format
    ⊗ number V_TRAIN ⊗ number Q_DIRTRAIN ⊗ number M_MODE ⊗ level_format)

-- nothing is wrong with these numbers; kept folded, as the next one: twelve numbers are too many hypotheses when a
-- location is compared
unfoldable pub IsLocated : Located → Type 0
IsLocated = Is located_format

-- the first fault of these numbers, in the order of the variables
unfoldable pub located_fault : Located → Option BuildFault
located_fault = fault located_format
