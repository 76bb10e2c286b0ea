use Rattle.std.proofs.Common.{◌≡◌, ◌++◌, ◌∷◌, ◌∙◌, [], ap, rules, sym, take}
use denote.Enum.Bare.{same_true}
use Rattle.serde_json.specs.Written.{compact_text}
use Rattle.etcs_vars.specs.declared.var.Var.{Var}
use Rattle.etcs_vars.specs.declared.var.Var.TheVariants.{NID_RADIO}
use Rattle.etcs_vars.specs.contracts.var.Var.{the_type}
use Rattle.etcs_packet_text.specs.Trees.{number_tree}
use Rattle.etcs_packet_text.proofs.page.pairs.put_value.Goals as goal

pub returns-then-eq-clause-bytes : goal.returns-then-eq-clause-bytes
returns-then-eq-clause-bytes c =
    let same : c.args.var ≡ NID_RADIO = same_true the_type (search rules) _ _ (sym c.if-eq.ensures) in
    c.put_radio.ensures.bytes ∙ ap (λ (v : Var). take c.args.at c.args.place.now ++ (compact_text (number_tree v c.args.number) ++ 93 ∷ [])) (sym same)
