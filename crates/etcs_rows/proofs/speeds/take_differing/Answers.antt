use Rattle.std.proofs.Common.{◌/◌, ◌%◌, ◌^◌, [], ◌∷◌, refl, sym, ◌∙◌}
use Rattle.etcs_bits.specs.Bits.{bits}
use Rattle.etcs_rows.proofs.EntryLemmas.{differing_in, three_pushed}
use Rattle.etcs_rows.proofs.speeds.take_differing.Goals as goal

pub returns-clause-taken : goal.returns-clause-taken
returns-clause-taken c = λ yes.
    let w = c.next_bits-word.result in
    let q = w / 2 ^ 62 in
    let k = w / 2 ^ 58 % 2 ^ 4 in
    let v = w / 2 ^ 51 % 2 ^ 7 in (
      q ∷ k ∷ v ∷ [],
      three_pushed c.args.numbers.now.items c.push.new.self.items c.push-2.new.self.items c.push-3.new.self.items q k v c.push.ensures.items c.push-2.ensures.items c.push-3.ensures.items,
      λ n. differing_in w q k v n (bits c.args.piece.now) c.args.at c.next_bits-word.ensures c.requires.inside refl refl refl
          (sym c.admits.ensures ∙ c.if-not-admits.false) (sym c.admits_category.ensures ∙ c.if-not-admits_category.false) (sym c.admits-else-not-admits.ensures ∙ c.if-not-admits-2.false),
    )
