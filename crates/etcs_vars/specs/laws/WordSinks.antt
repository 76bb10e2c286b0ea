-- Bits of readings, one after another.
use Rattle.std.proofs.Common.{◌≡◌, Bool, List, [], ◌∷◌, ◌++◌, refl, sym, ap, ◌∙◌}
use Rattle.etcs_vars.specs.Reading.{Reading, spelled}
use Rattle.etcs_vars.specs.laws.Spellings.{spelled-append}
use Rattle.etcs_vars.specs.declared.word_sink.WordSink.{WordSink}
use Rattle.etcs_vars.specs.WordSinks.{and_bit, and_bits}

pub and_both : (s : WordSink) (a b : List Bool) → and_bits (and_bits s a) b ≡ and_bits s (a ++ b)
and_both s [] b = refl
and_both s (x ∷ a) b = and_both (and_bit s x) a b

pub spelled_none : (s : WordSink) → and_bits s (spelled []) ≡ s
spelled_none s = refl

pub spelled_both : (s : WordSink) (a b : Reading) → and_bits s (spelled (a ++ b)) ≡ and_bits (and_bits s (spelled a)) (spelled b)
spelled_both s a b = ap (and_bits s) (spelled-append a b) ∙ sym (and_both s (spelled a) (spelled b))
