use Rattle.std.proofs.Common.{◌+◌, ◌*◌, get_or, sym, ap, ◌∙◌, arith, Ok, inl, inr}
use Rattle.std.proofs.lemmas.Nat.{le_or_l, le_or_r}
use Rattle.hex.specs.Hex.{decode_pairs}
use Rattle.hex.proofs.Pairs.{decode_step}
use Rattle.etcs_runs.proofs.Pairs.{all_decoded, good_pair, no_pair, below_256, none_read, or_high, pairs_good, is_low}
use Rattle.etcs_runs.proofs.hexadecimal.decode.Goals as goal

pub pairs-init : goal.pairs-init
pairs-init c = record {
  decoded = λ low. none_read (decode_pairs 0 c.args.word.now);
  bad = λ high. absurd (omega (arith, high));
}

pub pairs-preserved : goal.pairs-preserved
pairs-preserved c =
    let word = c.args.word.now in
    let i = c.pairs.i in
    let old = c.pairs.all in
    let byte = c.digit.result * 16 + c.digit-in-pairs.result in
    record {
      decoded = λ low.
          decode_step word c.pairs.bytes i _ (omega arith) (omega arith)
          (good_pair (get_or word (2 * i) 0) (get_or word (2 * i + 1) 0) (2 * i) _ _ c.digit.ensures c.digit-in-pairs.ensures (omega (arith, low, le_or_r old byte)) ∙ ap Ok (omega (arith, low, le_or_r old byte)))
          (c.pairs.invariant.decoded (omega (arith, low, le_or_l old byte)));
      bad = λ high. elim (or_high old byte high) [
        | inl before ↦ c.pairs.invariant.bad before
        | inr here ↦ no_pair word i _ _ (omega arith) c.digit.ensures c.digit-in-pairs.ensures here
      ];
    }

pub returns-clause-good : goal.returns-clause-good
returns-clause-good c = is_low c.pairs.all _ (λ low. sym (pairs_good c.args.word.now c.pairs.bytes (all_decoded c.args.word.now c.pairs.bytes c.pairs.i (omega arith) (omega arith) (c.pairs.invariant.decoded low)))) c.pairs.invariant.bad

pub returns-clause-bytes : goal.returns-clause-bytes
returns-clause-bytes c = λ low. all_decoded c.args.word.now c.pairs.bytes c.pairs.i (omega arith) (omega arith) (c.pairs.invariant.decoded (below_256 c.pairs.all low))
