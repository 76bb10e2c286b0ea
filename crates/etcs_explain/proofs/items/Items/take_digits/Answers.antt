use Rattle.std.proofs.Common.{◌∙◌, ◌/◌, ◌+◌, ℕ, List, ap, length, map, sym, take}
use Rattle.std.proofs.lemmas.List.{length-take-le}
use Rattle.std.proofs.lemmas.Result.{on_err_weaker, on_ok_weaker}
use Rattle.etcs_explain.specs.Inputs.{of_byte}
use Rattle.etcs_explain.proofs.HexLines.{bits_said, bytes_said, has_bits}
use Rattle.etcs_explain.proofs.Taking.{some_same, takes_at}
use Rattle.etcs_explain.proofs.items.Items.take_digits.Goals as goal

pub slice_bounds-packed-end : goal.slice_bounds-packed-end
slice_bounds-packed-end c = has_bits c.args.self.now.explainer.task.kind c.args.bytes.now c.packed-packed.result (sym c.say_bits.ensures ∙ c.if-say_bits.true) c.packed-packed.ensures

pub slice_bounds-take-end : goal.slice_bounds-take-end
slice_bounds-take-end c =
    let bytes = c.args.bytes.now in
    sym (length-take-le ((length bytes + 3) / 4) c.packed-packed.result (has_bits c.args.self.now.explainer.task.kind bytes c.packed-packed.result (sym c.say_bits.ensures ∙ c.if-say_bits.true) c.packed-packed.ensures))

pub returns-then-say_bits-clause-ok : goal.returns-then-say_bits-clause-ok
returns-then-say_bits-clause-ok c =
    let s = c.args.self.now in
    let bytes = c.args.bytes.now in
    let e = ap (λ (z : List ℕ). take ((length bytes + 3) / 4) z) c.packed-packed.ensures ∙ sym (bits_said s.explainer.task.kind bytes (sym c.say_bits.ensures ∙ c.if-say_bits.true)) in
    on_ok_weaker c.take.result (λ k. takes_at (ap (λ (z : List ℕ). map (of_byte s.line) z) e) k) c.take.ensures.ok

pub returns-then-say_bits-clause-err : goal.returns-then-say_bits-clause-err
returns-then-say_bits-clause-err c =
    let s = c.args.self.now in
    let bytes = c.args.bytes.now in
    let e = ap (λ (z : List ℕ). take ((length bytes + 3) / 4) z) c.packed-packed.ensures ∙ sym (bits_said s.explainer.task.kind bytes (sym c.say_bits.ensures ∙ c.if-say_bits.true)) in
    on_err_weaker c.take.result (λ k. some_same (ap (λ (z : List ℕ). map (of_byte s.line) z) e) k) c.take.ensures.err

pub returns-clause-ok : goal.returns-clause-ok
returns-clause-ok c =
    let s = c.args.self.now in
    let e = sym (bytes_said s.explainer.task.kind c.args.bytes.now (sym c.say_bits.ensures ∙ c.if-say_bits.false)) in
    on_ok_weaker c.take-2.result (λ k. takes_at (ap (λ (z : List ℕ). map (of_byte s.line) z) e) k) c.take-2.ensures.ok

pub returns-clause-err : goal.returns-clause-err
returns-clause-err c =
    let s = c.args.self.now in
    let e = sym (bytes_said s.explainer.task.kind c.args.bytes.now (sym c.say_bits.ensures ∙ c.if-say_bits.false)) in
    on_err_weaker c.take-2.result (λ k. some_same (ap (λ (z : List ℕ). map (of_byte s.line) z) e) k) c.take-2.ensures.err
