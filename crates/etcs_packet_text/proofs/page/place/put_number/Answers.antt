use Rattle.std.proofs.Common.{◌∷◌, ◌++◌, ◌∙◌, [], ℕ, List, take, ap, rules, append_assoc}
use Rattle.std.specs.Fmt.{decimal}
use Rattle.std.proofs.lemmas.Fmt.{length-decimal-le}
use Rattle.std.proofs.lemmas.List.{take_more_set}
use Rattle.etcs_packet_text.proofs.page.place.put_number.Goals as goal

pub put_decimal-after-requires : goal.put_decimal-after-requires
put_decimal-after-requires c = search (rules, length-decimal-le 20)

pub bounds-place-after : goal.bounds-place-after
bounds-place-after c = search (rules, length-decimal-le 20)

pub returns-clause-most : goal.returns-clause-most
returns-clause-most c = search (rules, length-decimal-le 20)

pub returns-clause-bytes : goal.returns-clause-bytes
returns-clause-bytes c =
    let put = c.put_decimal-after in
    take_more_set put.new.place put.result c.args.end (bounds-place-after c)
    ∙ ap (λ (z : List ℕ). z ++ c.args.end ∷ []) put.ensures.bytes
    ∙ append_assoc (take c.args.at c.args.place.now) (decimal c.args.number) (c.args.end ∷ [])
