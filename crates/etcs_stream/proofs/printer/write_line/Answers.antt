use Rattle.std.proofs.Common.{◌≡◌, ◌+◌, ◌++◌, ℕ, refl, ap, ◌∙◌}
use Rattle.etcs_bits.specs.Bits.{bits}
use Rattle.etcs_text.specs.Encodings.{check_line}
use Rattle.etcs_text.specs.Entries.{EntryValue, entry_text}
use Rattle.etcs_stream.proofs.LineItems.{one_outcome}
use Rattle.etcs_stream.proofs.printer.write_line.Goals as goal

pub returns-in_ok-put_checked-in-Check-clause-ok : goal.returns-in_ok-put_checked-in-Check-clause-ok
returns-in_ok-put_checked-in-Check-clause-ok c s e is outcome encoded line =
    rw c.in-Check.is (λ written. (check_line e (s.count + 1), (refl, refl), rw is at (c.in_ok-put_checked-in-Check.ensures.ok e _ outcome)))

pub returns-in_ok-convert_line-in-Convert-clause-ok : goal.returns-in_ok-convert_line-in-Convert-clause-ok
returns-in_ok-convert_line-in-Convert-clause-ok c s e is outcome encoded line =
    rw c.in-Convert.is (λ written. c.in_ok-convert_line-in-Convert.ensures.ok s e encoded line)

pub returns-in-Some-clause-ok : goal.returns-in-Some-clause-ok
returns-in-Some-clause-ok c s e is outcome encoded line =
    let old = c.args.page.now in
    let item = c.args.item in
    let (fits, f, seen, page) = rw c.in-Some.is at c.in_ok-show_seen-in-Show.ensures.some in
    let same : f ≡ e = one_outcome c.args.kind f e (bits c.args.bytes.now) _ _ seen outcome in
    rw c.in-Show.is (λ written. (entry_text e (s.count + 1), (refl, refl), page ∙ ap (λ (z : EntryValue). old ++ entry_text z item) same ∙ ap (λ (n : ℕ). old ++ entry_text e n) is))
