use Rattle.std.proofs.Common.{◌-◌, ◌∙◌, ℕ, List, ap, length, map, sym}
use Rattle.std.specs.Prelude.{Err}
use Rattle.std.proofs.lemmas.List.{take_rest}
use Rattle.std.proofs.lemmas.Result.{on_err_weaker, on_ok_weaker}
use Rattle.etcs_runs.specs.declared.digits.NoBytes.TheVariants.{NoDigits, OddDigits}
use Rattle.etcs_reasons.specs.declared.page.TheConstants.{HEAD}
use Rattle.etcs_explain.specs.Inputs.{of_byte, digits_say}
use Rattle.etcs_explain.proofs.HexLines.{hex_ok, hex_empty, hex_bad}
use Rattle.etcs_explain.proofs.Taking.{some_same, takes_at, takes_nothing}
use Rattle.etcs_explain.proofs.items.Items.hex_bytes.Goals as goal

pub returns-in-Ok-clause-ok : goal.returns-in-Ok-clause-ok
returns-in-Ok-clause-ok c =
    let s = c.args.self.now in
    let b = c.line_bytes.new.buffer in
    let e = hex_ok s.explainer.task.kind s.line c.args.line.now b c.in-Ok.count c.line_bytes.result c.in-Ok.is c.line_bytes.ensures.empty c.line_bytes.ensures.digits in
    let rest = ap (λ (z : List ℕ). map (of_byte s.line) (digits_say s.explainer.task.kind z)) (take_rest b (length b - c.in-Ok.count)) in
    on_ok_weaker c.take_digits.result (λ k. takes_at (rest ∙ sym e) k) c.take_digits.ensures.ok

pub returns-in-Ok-clause-err : goal.returns-in-Ok-clause-err
returns-in-Ok-clause-err c =
    let s = c.args.self.now in
    let b = c.line_bytes.new.buffer in
    let e = hex_ok s.explainer.task.kind s.line c.args.line.now b c.in-Ok.count c.line_bytes.result c.in-Ok.is c.line_bytes.ensures.empty c.line_bytes.ensures.digits in
    let rest = ap (λ (z : List ℕ). map (of_byte s.line) (digits_say s.explainer.task.kind z)) (take_rest b (length b - c.in-Ok.count)) in
    on_err_weaker c.take_digits.result (λ k. some_same (rest ∙ sym e) k) c.take_digits.ensures.err

pub returns-in-Err-Empty-clause-ok : goal.returns-in-Err-Empty-clause-ok
returns-in-Err-Empty-clause-ok c =
    let s = c.args.self.now in
    let is = c.in-Err-Empty.is ∙ ap Err c.in-Err-Empty.field-0-is in
    let none = hex_empty s.explainer.task.kind s.line c.args.line.now c.line_bytes.new.buffer c.line_bytes.result is c.line_bytes.ensures.digits in
    takes_at (sym none) (takes_nothing HEAD.now s.line s c.args.page.now)

pub returns-in-Err-NoDigits-clause-ok : goal.returns-in-Err-NoDigits-clause-ok
returns-in-Err-NoDigits-clause-ok c =
    let s = c.args.self.now in
    let e = hex_bad s.explainer.task.kind s.line c.args.line.now c.line_bytes.new.buffer NoDigits c.line_bytes.result (c.in-Err-NoDigits.is ∙ ap Err c.in-Err-NoDigits.field-0-is) (λ x. cc) c.line_bytes.ensures.empty c.line_bytes.ensures.digits in
    on_ok_weaker c.bad_hex.result (λ k. takes_at (sym e) k) c.bad_hex.ensures.ok

pub returns-in-Err-NoDigits-clause-err : goal.returns-in-Err-NoDigits-clause-err
returns-in-Err-NoDigits-clause-err c =
    let s = c.args.self.now in
    let e = hex_bad s.explainer.task.kind s.line c.args.line.now c.line_bytes.new.buffer NoDigits c.line_bytes.result (c.in-Err-NoDigits.is ∙ ap Err c.in-Err-NoDigits.field-0-is) (λ x. cc) c.line_bytes.ensures.empty c.line_bytes.ensures.digits in
    on_err_weaker c.bad_hex.result (λ k. some_same (sym e) k) c.bad_hex.ensures.err

pub returns-in-Err-OddDigits-clause-ok : goal.returns-in-Err-OddDigits-clause-ok
returns-in-Err-OddDigits-clause-ok c =
    let s = c.args.self.now in
    let e = hex_bad s.explainer.task.kind s.line c.args.line.now c.line_bytes.new.buffer (OddDigits c.in-Err-OddDigits.count) c.line_bytes.result (c.in-Err-OddDigits.is ∙ ap Err c.in-Err-OddDigits.field-0-is) (λ x. cc) c.line_bytes.ensures.empty c.line_bytes.ensures.digits in
    on_ok_weaker c.bad_hex-in-Err-OddDigits.result (λ k. takes_at (sym e) k) c.bad_hex-in-Err-OddDigits.ensures.ok

pub returns-in-Err-OddDigits-clause-err : goal.returns-in-Err-OddDigits-clause-err
returns-in-Err-OddDigits-clause-err c =
    let s = c.args.self.now in
    let e = hex_bad s.explainer.task.kind s.line c.args.line.now c.line_bytes.new.buffer (OddDigits c.in-Err-OddDigits.count) c.line_bytes.result (c.in-Err-OddDigits.is ∙ ap Err c.in-Err-OddDigits.field-0-is) (λ x. cc) c.line_bytes.ensures.empty c.line_bytes.ensures.digits in
    on_err_weaker c.bad_hex-in-Err-OddDigits.result (λ k. some_same (sym e) k) c.bad_hex-in-Err-OddDigits.ensures.err
