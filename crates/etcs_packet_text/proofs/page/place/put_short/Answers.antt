use Rattle.std.proofs.Common.{◌+◌, ◌++◌, ◌∙◌, ◌≡◌, ℕ, List, length, take, ap, arith}
use Rattle.std.specs.Fmt.{decimal}
use Rattle.etcs_packet_text.proofs.Places.{front_put}
use Rattle.etcs_packet_text.proofs.page.place.put_short.Goals as goal

pub returns-clause-bytes : goal.returns-clause-bytes
returns-clause-bytes c =
    let n = c.args.number in
    let d = c.short_digits-digits in
    let e : c.args.at + c.from.result ≡ c.args.at + length (decimal n) = omega (arith, d.ensures.count) in
    rw e
    (front_put c.args.at (length (decimal n)) c.args.place.now c.copy_from_slice.new.self d.result _ (omega (arith, c.requires.room)) (omega (arith, d.ensures.few)) c.copy_from_slice.ensures.after
    ∙ ap (λ (t : List ℕ). take c.args.at c.args.place.now ++ t) d.ensures.first)
