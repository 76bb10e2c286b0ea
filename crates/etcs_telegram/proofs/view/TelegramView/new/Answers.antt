use Rattle.std.proofs.Common.{◌≡◌, ℕ, ◌+◌, ◌*◌, List, [], length, refl, sym, ap, ◌∙◌}
use Rattle.etcs_bits.specs.Bits.{bits}
use Rattle.etcs_bits.proofs.Positions.{length-bits}
use Rattle.etcs_packets.specs.declared.packet.Packet.{Packet}
use Rattle.etcs_sequence.specs.declared.seen.PacketCount.{PacketCount}
use Rattle.etcs_telegram.specs.declared.size.Size.{Size}
use Rattle.etcs_telegram.specs.declared.view.ViewFault.{ViewFault}
use Rattle.etcs_telegram.specs.declared.view.ViewFault.TheVariants.{Refused}
use Rattle.etcs_telegram.specs.Telegrams.{TelegramLanguage, container_bytes, pad_bits, user_bits}
use Rattle.etcs_telegram.specs.Lefts.{TelegramState, Left}
use Rattle.etcs_telegram.proofs.Encoding.{whole_bytes}
use Rattle.etcs_telegram.proofs.Examples.{some_telegram}
use Rattle.etcs_telegram.proofs.Viewing.{refused_same, refused_bit, Seen, all_seen}
use Rattle.etcs_telegram.proofs.view.TelegramView.new.Goals as goal
use Rattle.etcs_telegram.proofs.view.TelegramView.new.Goals.{In-Ok}

pub new-feeder-requires : goal.new-feeder-requires
new-feeder-requires c = let (r, l) = some_telegram c.args.size in (r, (c.new-2.ensures.left r).1 l)

container_bits : (size : Size) (out : List ℕ) → length out ≡ container_bytes size → length (bits out) ≡ user_bits size + pad_bits size
container_bits size out e = length-bits out ∙ ap (λ (k : ℕ). 8 * k) e ∙ sym (whole_bytes size)

-- all bits are a telegram's
seen : (c : In-Ok) (t : TelegramState (PacketCount Packet)) → t ≡ c.feed.new.self.rest → Seen c.args.size (bits c.args.bytes.now) t
seen c t is =
    let same = rw (← c.new-feeder.ensures.rest) at c.new-2.ensures.left in
    let size = rw (← c.new-feeder.ensures.rest) at c.new-2.ensures.size in
    let none = rw (← c.new-feeder.ensures.rest) at c.new-2.ensures.holds in
    let (stop, count, h) = c.in-Ok.ensures.going c.new-feeder.ensures.stop in
    let f = h.passed.follows in
    let long = container_bits c.args.size c.args.bytes.now (c.if-bytes-container_bytes.false ∙ c.container_bytes.ensures) in
    rw is
    (all_seen c.args.size (Left c.new-feeder.result.rest) same (bits c.args.bytes.now) long c.feed.new.self.rest c.in-Ok.field-0 c.new-feeder.result.part c.feed.new.self.part h.passed.whole (record {
      size_is = f.same ∙ size;
      within = h.within;
      none = c.new-feeder.ensures.part;
      residual = f.residual;
      held = f.held [] none;
      bits = h.passed.bits;
      more = h.more;
    }))

pub header_by-requires : goal.header_by-requires
header_by-requires c =
    let v = seen (goal.at.header_by-requires c).In-Ok _ (c.rest.view_is ∙ c.rest-rest.ensures) in
    rw c.as_slice.ensures.value v.1

pub overflow_sub-result : goal.overflow_sub-result
overflow_sub-result c =
    let v = seen (goal.at.overflow_sub-result c).In-Ok _ (c.rest.view_is ∙ c.rest-rest.ensures) in
    rw c.user_bits.ensures v.2

pub invariant_of-result : goal.invariant_of-result
invariant_of-result c =
    let v = seen (goal.at.invariant_of-result c).In-Ok _ (c.rest.view_is ∙ c.rest-rest.ensures) in
    rw (c.header_by.ensures, c.as_slice.ensures.value, c.user_bits.ensures) v.0

pub returns-in-Ok-clause-ok : goal.returns-in-Ok-clause-ok
returns-in-Ok-clause-ok c =
    let v = seen (goal.at.returns-in-Ok-clause-ok c).In-Ok _ refl in
    (v.0.telegram, (v.0.reading, v.0.reads, v.0.bits))

pub returns-in-Err-Refused-clause-refused : goal.returns-in-Err-Refused-clause-refused
returns-in-Err-Refused-clause-refused c i x e =
    let s = c.new-feeder.result.rest in
    let b = bits c.args.bytes.now in
    let same = rw (← c.new-feeder.ensures.rest) at c.new-2.ensures.left in
    let answer = c.in-Err-Refused.ensures.going c.new-feeder.ensures.stop in
    let (stop, is, n, place, h) = rw c.in-Err-Refused.field-0-is at answer in
    let r = refused_bit c.args.size (Left s) same c.new-feeder.result.part b c.in-Err-Refused.bit n c.new-feeder.result.count c.in-Err-Refused.var c.new-feeder.ensures.part c.new-feeder.ensures.count place h.refuses in
    refused_same (TelegramLanguage c.args.size) b c.in-Err-Refused.bit i c.in-Err-Refused.var x (let f : ◌≡◌ {A = ViewFault} (Refused c.in-Err-Refused.bit c.in-Err-Refused.var) (Refused i x) = (let g = e in cc) in f) r
