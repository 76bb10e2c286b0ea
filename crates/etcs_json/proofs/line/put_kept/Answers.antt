use Rattle.std.proofs.Common.{ℕ, ◌∷◌, ◌++◌, List, length, refl, sym, ap, ◌∙◌}
use Rattle.etcs_vars.specs.declared.var.Var.TheVariants.{OTHER_DATA}
use Rattle.etcs_vars.specs.Reading.{kept}
use Rattle.etcs_messages.specs.Messages.{kept_message}
use Rattle.etcs_json.proofs.PutItems.{kept_put}
use Rattle.etcs_json.proofs.TakenTexts.{kept_taken}
use Rattle.etcs_json.proofs.line.put_kept.Goals as goal

pub returns : goal.returns
returns c =
    let (b, digits, completes, bits) = c.in_ok-put_data.ensures in
    let nid = c.in_ok-nid.nid in
    let first = sym c.new-text.ensures ∙ c.in_ok-digits.ensures ∙ ap (λ (z : List ℕ). z ++ 34 ∷ c.quoted.new.self) digits in
    let text = kept_taken c.args.way nid b c.args.text.now c.quoted.new.self c.pass_way.new.text c.byte_and.new.self first c.in_ok-pass_way.ensures c.in_ok-nid.ensures in
    (kept_message nid b, kept OTHER_DATA b, completes, (c.byte_and.new.self, ap (λ (z : List ℕ). length z) (sym c.left.ensures), text), kept_put OTHER_DATA b c.args.out.now c.put_data.new.out refl bits)
