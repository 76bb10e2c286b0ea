-- What a header's reading is: admitted, 50 bits long, and one for each header.
use Rattle.std.proofs.Common.{◌≡◌, ℕ, Bool, true, false, [], ◌∷◌, length, Option, Some, None, refl, sym, ap, ◌∙◌}
use Rattle.std.specs.Prelude.{IsTrue, if◌then◌else◌}
use Rattle.etcs_bits.specs.Bits.{bit}
use Rattle.etcs_vars.specs.declared.var.Var.{Var}
use Rattle.etcs_vars.specs.declared.fault.BuildFault.{BuildFault}
use Rattle.etcs_vars.specs.declared.fault.BuildFault.TheVariants.{NotAdmitted}
use Rattle.etcs_vars.specs.declared.var.Var.TheVariants.{M_VERSION_HEADER, N_PIG, N_TOTAL, M_DUP, M_MCOUNT, NID_C, NID_BG, Q_LINK}
use Rattle.etcs_vars.specs.Vars.{admits}
use Rattle.etcs_vars.specs.Faults.{◌or_else◌, number_fault}
use Rattle.etcs_vars.specs.Reading.{Reading, spelled, numbers, IsAdmitted}
use Rattle.etcs_vars.proofs.Apart.{AllFit}
use Rattle.etcs_vars.proofs.Prefixes.{admits_parts}
use Rattle.etcs_sequence.proofs.LabelLaws.{length-widths}
use Rattle.etcs_telegram.specs.Telegrams.{HeaderValue, header_reading, header_of}
use Rattle.etcs_telegram.specs.Headers.{header_fault}

no_first : (e f : Option BuildFault) → e or_else f ≡ None → e ≡ None
no_first None f h = refl
no_first (Some x) f h = h

no_second : (e f : Option BuildFault) → e or_else f ≡ None → f ≡ None
no_second None f h = h
no_second (Some x) f h = absurd cc

admitted_by : (v : Var) (n : ℕ) (b : Bool) → (if b then None else Some (NotAdmitted v)) ≡ None → b ≡ true
admitted_by v n true h = refl
admitted_by v n false h = absurd cc

link_admitted : (b : Bool) → IsTrue (admits Q_LINK (bit b))
link_admitted true = refl
link_admitted false = refl

-- a header without a fault is admitted
pub header_admitted : (h : HeaderValue) → header_fault h.m_version h.n_pig h.n_total h.m_dup h.m_mcount h.nid_c h.nid_bg ≡ None → IsAdmitted (header_reading h)
header_admitted h e =
    let a = number_fault M_VERSION_HEADER h.m_version in
    let b = number_fault N_PIG h.n_pig in
    let c = number_fault N_TOTAL h.n_total in
    let d = number_fault M_DUP h.m_dup in
    let f = number_fault M_MCOUNT h.m_mcount in
    let g = number_fault NID_C h.nid_c in
    let k = number_fault NID_BG h.nid_bg in
    let six : (b or_else c or_else d or_else f or_else g or_else k) ≡ None = no_second a (b or_else c or_else d or_else f or_else g or_else k) e in
    let five : (c or_else d or_else f or_else g or_else k) ≡ None = no_second b (c or_else d or_else f or_else g or_else k) six in
    let four : (d or_else f or_else g or_else k) ≡ None = no_second c (d or_else f or_else g or_else k) five in
    let three : (f or_else g or_else k) ≡ None = no_second d (f or_else g or_else k) four in
    let two : (g or_else k) ≡ None = no_second f (g or_else k) three in (
      refl,
      (
        admitted_by M_VERSION_HEADER h.m_version _ (no_first a (b or_else c or_else d or_else f or_else g or_else k) e),
        (
          refl,
          (
            admitted_by N_PIG h.n_pig _ (no_first b (c or_else d or_else f or_else g or_else k) six),
            (
              admitted_by N_TOTAL h.n_total _ (no_first c (d or_else f or_else g or_else k) five),
              (
                admitted_by M_DUP h.m_dup _ (no_first d (f or_else g or_else k) four),
                (
                  admitted_by M_MCOUNT h.m_mcount _ (no_first f (g or_else k) three),
                  (
                    admitted_by NID_C h.nid_c _ (no_first g k two),
                    (admitted_by NID_BG h.nid_bg _ (no_second g k two), (link_admitted h.q_link, tt)),
                  ),
                ),
              ),
            ),
          ),
        ),
      ),
    )

-- admitted numbers have their variables' widths
pub admitted_fit : (r : Reading) → IsAdmitted r → AllFit r
admitted_fit [] h = tt
admitted_fit (p ∷ r) h = ((admits_parts p.0 p.1 h.0).1, admitted_fit r h.1)

pub header_length : (h : HeaderValue) → length (spelled (header_reading h)) ≡ 50
header_length h = length-widths (header_reading h)

link_back : (b : Bool) (h : HeaderValue) → h.q_link ≡ b → header_of (numbers (header_reading h)) ≡ h
link_back true h e = rw e refl
link_back false h e = rw e refl

-- the numbers give the header
pub header_back : (h : HeaderValue) → header_of (numbers (header_reading h)) ≡ h
header_back h = link_back h.q_link h refl

pub header_same : (h k : HeaderValue) → header_reading h ≡ header_reading k → h ≡ k
header_same h k e = sym (header_back h) ∙ ap (λ (r : Reading). header_of (numbers r)) e ∙ header_back k
