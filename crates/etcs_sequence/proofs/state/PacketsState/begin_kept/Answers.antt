use Rattle.std.proofs.Common.{◌≡◌, ℕ, ◌+◌, ◌-◌, ◌∷◌, ◌++◌, [], refl, subst, arith}
use Rattle.std.specs.Prelude.{IsTrue}
use Rattle.etcs_vars.specs.declared.var.Var.TheVariants.{L_PACKET}
use Rattle.etcs_tables.specs.Frames.{frame_bits, is_framed, is_direction}
use Rattle.etcs_rows.specs.Frames.{way_of}
use Rattle.etcs_packets.specs.PacketReadings.{in_frame}
use Rattle.etcs_sequence.specs.declared.stage.Stage.TheVariants.{Length}
use Rattle.etcs_sequence.specs.Lefts.{is_stage}
use Rattle.etcs_rows.proofs.PlaceLemmas.{and_both}
use Rattle.etcs_sequence.proofs.LeftBodies.{kept_begun, bits_whole, length_whole, frame_begun, kept_whole}
use Rattle.etcs_sequence.proofs.state.PacketsState.begin_kept.Goals as goal

pub overflow_sub-bits : goal.overflow_sub-bits
overflow_sub-bits c =
    let s = c.args.self.now in
    let w = length_whole s.carrier c.args.nid s.room c.args.length (rw c.requires.stage at c.requires.goes) in
    rw (c.frame_bits.ensures.bits, c.way.ensures) w.0

pub overflow_sub-self : goal.overflow_sub-self
overflow_sub-self c = let s = c.args.self.now in (length_whole s.carrier c.args.nid s.room c.args.length (rw c.requires.stage at c.requires.goes)).2

pub returns-then-bits-eq0 : goal.returns-then-bits-eq0
returns-then-bits-eq0 c =
    let s = c.args.self.now in
    let way = way_of s.carrier in
    let a = c.args in
    let b = c.after_packet-self in
    let goes = rw c.requires.stage at c.requires.goes in
    let stands : IsTrue (is_stage s.carrier s.room s.stage) = s.stands in
    let direction = (and_both (is_framed way a.nid) (is_direction way a.dir) (rw c.requires.stage at stands)).1 in
    let none : a.length - frame_bits way ≡ 0 = rw (c.frame_bits.ensures.bits, c.way.ensures) at c.if-bits-eq0.true in
    let m = kept_begun s.carrier a.nid a.dir s.room a.length goes c.requires.kept in
    record {
      moved = rw c.requires.stage (bits_whole s.carrier s.room (Length a.nid a.dir) ((L_PACKET, a.length) ∷ []) s.carrier (s.room - a.length) a.nid a.dir (a.length - frame_bits way) b.result m none b.ensures.same b.ensures.ahead);
      here = λ f k h here.
          let i = rw c.requires.stage at here in
          let frame = frame_begun way a.nid a.dir a.length h (length_whole s.carrier a.nid s.room a.length goes).0 i.2 in
          let whole = kept_whole s.carrier a.nid a.dir [] (h ++ (L_PACKET, a.length) ∷ []) c.requires.kept direction (omega arith) (rw none at frame) in
          rw (c.requires.stage, i.0, i.1) (refl, whole.0, whole.1, b.ensures.here);
    }

pub returns : goal.returns
returns c =
    let s = c.args.self.now in
    let way = way_of s.carrier in
    let a = c.args in
    let goes = rw c.requires.stage at c.requires.goes in
    record {
      moved = rw (c.requires.stage, c.frame_bits.ensures.bits, c.way.ensures) (kept_begun s.carrier a.nid a.dir s.room a.length goes c.requires.kept);
      here = λ f k h here.
          let i = rw c.requires.stage at here in
          let w = length_whole s.carrier a.nid s.room a.length goes in
          let none : a.length - frame_bits way ≡ 0 + (a.length - frame_bits way) = omega arith in
          let frame = subst (λ (k : ℕ). h ++ (L_PACKET, a.length) ∷ [] ≡ in_frame way a.nid a.dir k []) none (frame_begun way a.nid a.dir a.length h w.0 i.2) in
          rw (c.requires.stage, i.0, i.1, c.frame_bits.ensures.bits, c.way.ensures) (refl, omega (arith, w.1), frame);
    }
