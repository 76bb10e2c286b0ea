use Rattle.std.proofs.Common.{◌≡◌, ℕ, ◌+◌, ◌-◌, ◌≤◌, Some, None, sym, ap, subst, ◌∙◌, arith}
use Rattle.std.specs.Prelude.{Option}
use Rattle.etcs_tables.specs.declared.row.Way.{Way}
use Rattle.etcs_tables.specs.Frames.{frame_bits}
use Rattle.etcs_rows.specs.Nearest.{IsFirst}
use Rattle.etcs_rows.specs.Frames.{way_of, BodyLength}
use Rattle.etcs_rows.specs.Causes.{HasLength, OneOf}
use Rattle.etcs_rows.proofs.CauseLemmas.{length_found, no_length}
use Rattle.etcs_rows.proofs.cause.one_length.Goals as goal

pub least_body-requires : goal.least_body-requires
least_body-requires c = omega (arith, c.saturating_sub.ensures, c.ends-low.ensures.order, c.ends-low.ensures.small)

abbrev first_at : Way → ℕ → ℕ → Option ℕ → Type 0
first_at way nid from o = IsFirst (λ k. BodyLength way nid k × (k ≤ 8191) × (from ≤ k)) o

-- of the carrier's way
moved : (w way : Way) (nid from low frame : ℕ) (o : Option ℕ) → w ≡ way → frame ≡ frame_bits w → from ≡ low - frame → first_at w nid from o → first_at way nid (low - frame_bits way) o
moved w way nid from low frame o e f g h =
    let from_is : from ≡ low - frame_bits way = g ∙ ap (λ (k : ℕ). low - k) (f ∙ ap frame_bits e) in
    subst (λ (v : Way). first_at v nid (low - frame_bits way) o) e (subst (λ (k : ℕ). first_at w nid k o) from_is h)

pub returns-in-None : goal.returns-in-None
returns-in-None c =
    let a = c.args in
    let e = c.ends-low in
    let first = moved c.way-way.result (way_of a.carrier) a.nid c.saturating_sub.result e.result.0 c.frame_bits-frame.result None c.way-way.ensures c.frame_bits-frame.ensures.bits (omega (arith, c.saturating_sub.ensures)) c.in-None.ensures in
    no_length a.carrier a.nid a.rest a.bits e.result.0 e.result.1 e.ensures.all e.ensures.small None first (λ m f. absurd cc)

pub returns-else-least-frame : goal.returns-else-least-frame
returns-else-least-frame c =
    let a = c.args in
    let e = c.ends-low in
    let frame_is = c.frame_bits-frame.ensures.bits ∙ ap frame_bits c.way-way.ensures in
    let first = moved c.way-way.result (way_of a.carrier) a.nid c.saturating_sub.result e.result.0 c.frame_bits-frame.result (Some c.in-Some.least) c.way-way.ensures c.frame_bits-frame.ensures.bits (omega (arith, c.saturating_sub.ensures)) c.in-Some.ensures in
    no_length a.carrier a.nid a.rest a.bits e.result.0 e.result.1 e.ensures.all e.ensures.small (Some c.in-Some.least) first
    (λ m f le. (let same : c.in-Some.least ≡ m = cc in omega (arith, c.if-least-frame.false, le, same, frame_is)))

pub returns-then-least-frame : goal.returns-then-least-frame
returns-then-least-frame c =
    let a = c.args in
    let e = c.ends-low in
    let frame_is = c.frame_bits-frame.ensures.bits ∙ ap frame_bits c.way-way.ensures in
    let first = moved c.way-way.result (way_of a.carrier) a.nid c.saturating_sub.result e.result.0 c.frame_bits-frame.result (Some c.in-Some.least) c.way-way.ensures c.frame_bits-frame.ensures.bits (omega (arith, c.saturating_sub.ensures)) c.in-Some.ensures in
    let found = length_found a.carrier a.nid a.rest a.bits e.result.0 e.result.1 e.ensures.all e.ensures.small c.in-Some.least first (omega (arith, c.if-least-frame.true, frame_is)) in
    subst (λ (k : ℕ). OneOf (HasLength a.carrier a.nid) a.rest a.bits (Some (c.in-Some.least + k))) (sym frame_is) found
