use Rattle.std.proofs.Common.{ℕ, ◌^◌, ◌<◌, Bool, true, false, sym, subst, arith}
use Rattle.std.proofs.lemmas.Option.{IfSome_then}
use Rattle.etcs_json_trees.specs.PairTexts.{limit}
use Rattle.etcs_json_trees.proofs.PairReading.{radio_is, not_radio, in_word, none_then, number_there, pair_there}
use Rattle.etcs_json_trees.proofs.written.pair_text.pair_in.Goals as goal

pub returns-in-NID_RADIO-clause-small : goal.returns-in-NID_RADIO-clause-small
returns-in-NID_RADIO-clause-small c =
    let is = radio_is c.args.var c.in-NID_RADIO.is in
    IfSome_then c.hexadecimal_number.result c.hexadecimal_number.ensures.small (λ r s. subst (λ (b : Bool). r.0 < limit b) (sym is) s)

pub returns-in-NID_RADIO-clause-some : goal.returns-in-NID_RADIO-clause-some
returns-in-NID_RADIO-clause-some c =
    let is = radio_is c.args.var c.in-NID_RADIO.is in
    IfSome_then c.hexadecimal_number.result c.hexadecimal_number.ensures.some (λ r e. pair_there true c.args.var r.0 c.args.text.now _ _ is c.in_ok-front.ensures.some e)

pub returns-in-NID_RADIO-clause-none : goal.returns-in-NID_RADIO-clause-none
returns-in-NID_RADIO-clause-none c =
    let is = radio_is c.args.var c.in-NID_RADIO.is in
    none_then c.hexadecimal_number.result c.hexadecimal_number.ensures.none (λ lacks n s small e. lacks n s (in_word c.args.var n small) (number_there true c.args.var n c.args.text.now _ s is c.in_ok-front.ensures.some e))

pub returns-in_default : goal.returns-in_default
returns-in_default c =
    let is = not_radio c.args.var c.in_default.not-NID_RADIO in
    record {
      small = IfSome_then c.decimal_number.result c.decimal_number.ensures.small (λ r s. subst (λ (b : Bool). r.0 < limit b) (sym is) (omega (arith, s)));
      inside = IfSome_then c.decimal_number.result c.decimal_number.ensures.place (λ r s. omega (arith, s, c.in_ok-front.ensures.most));
      some = IfSome_then c.decimal_number.result c.decimal_number.ensures.some (λ r e. pair_there false c.args.var r.0 c.args.text.now _ _ is c.in_ok-front.ensures.some e);
      none = none_then c.decimal_number.result c.decimal_number.ensures.none (λ lacks n s small e. lacks (omega arith) n s (subst (λ (w : ℕ). n < 2 ^ w) (sym c.width.ensures) small) (number_there false c.args.var n c.args.text.now _ s is c.in_ok-front.ensures.some e));
    }
