use Rattle.std.proofs.Common.{◌≡◌, ℕ, ◌+◌, ◌-◌, ◌*◌, ◌≤◌, [], ◌++◌, length, take, drop, ap, subst, ◌∙◌, arith}
use Rattle.etcs_bits.specs.Bits.{bits, num}
use Rattle.etcs_bits.proofs.Numbers.{length-num}
use Rattle.etcs_vars.specs.Vars.{width}
use Rattle.etcs_vars.proofs.Prefixes.{width-le}
use Rattle.etcs_reader.specs.Rests.{Starts}
use Rattle.etcs_reader.proofs.Refusals.{none_starts, with_bit, with_bit_fits, bits_are}
use Rattle.etcs_reader.proofs.feeder.Feeder.block.Goals as goal

pub overflow_mul-bits : goal.overflow_mul-bits
overflow_mul-bits g c =
    let (start, (stop, count, n, is, h)) = c.requires.fed in
    let u = c.unfinished-part in
    let len = ap length u.ensures.bits ∙ length-num u.result.1 u.result.0 in
    let f = with_bit_fits u.result.1 u.result.0 0 (width c.args.var) u.ensures.fits (omega arith) (omega (arith, h.short, len)) (width-le c.args.var) in
    record { fits = omega (arith, f.1) }

pub overflow_add-bits : goal.overflow_add-bits
overflow_add-bits g c =
    let (start, (stop, count, n, is, h)) = c.requires.fed in
    let u = c.unfinished-part in
    let len = ap length u.ensures.bits ∙ length-num u.result.1 u.result.0 in
    let f = with_bit_fits u.result.1 u.result.0 c.number_at.result (width c.args.var) u.ensures.fits c.number_at.ensures.fits (omega (arith, h.short, len)) (width-le c.args.var) in
    record { fits = omega (arith, f.1) }

pub overflow_add-count : goal.overflow_add-count
overflow_add-count g c =
    let (start, (stop, count, n, is, h)) = c.requires.fed in
    let u = c.unfinished-part in
    let len = ap length u.ensures.bits ∙ length-num u.result.1 u.result.0 in
    record { fits = omega (arith, h.short, len, width-le c.args.var) }

pub overflow_sub-rest : goal.overflow_sub-rest
overflow_sub-rest g c =
    let (start, (stop, count, n, is, h)) = c.requires.fed in
    let u = c.unfinished-part in
    let len = ap length u.ensures.bits ∙ length-num u.result.1 u.result.0 in
    omega (arith, h.short, len, c.width.ensures)

pub below-requires-clause-fits : goal.below-requires-clause-fits
below-requires-clause-fits g c =
    let (start, (stop, count, n, is, h)) = c.requires.fed in
    let u = c.unfinished-part in
    let len = ap length u.ensures.bits ∙ length-num u.result.1 u.result.0 in
    let short : u.result.1 + 1 ≤ width c.args.var = omega (arith, h.short, len) in
    let f = with_bit_fits u.result.1 u.result.0 c.number_at.result (width c.args.var) u.ensures.fits c.number_at.ensures.fits short (width-le c.args.var) in
    let all : width c.args.var - (c.width.result - (u.result.1 + 1)) ≡ u.result.1 + 1 = omega (arith, short, c.width.ensures) in
    rw all f.0

pub above-requires-clause-fits : goal.above-requires-clause-fits
above-requires-clause-fits g c =
    let (start, (stop, count, n, is, h)) = c.requires.fed in
    let u = c.unfinished-part in
    let len = ap length u.ensures.bits ∙ length-num u.result.1 u.result.0 in
    let short : u.result.1 + 1 ≤ width c.args.var = omega (arith, h.short, len) in
    let f = with_bit_fits u.result.1 u.result.0 c.number_at.result (width c.args.var) u.ensures.fits c.number_at.ensures.fits short (width-le c.args.var) in
    let all : width c.args.var - (c.width.result - (u.result.1 + 1)) ≡ u.result.1 + 1 = omega (arith, short, c.width.ensures) in
    rw all f.0

pub returns-clause-block : goal.returns-clause-block
returns-clause-block g c =
    let (start, (stop, count, n, is, h)) = c.requires.fed in
    let xs = bits c.args.piece.now in
    let f = c.args.self.now in
    let x = c.args.var in
    let u = c.unfinished-part in
    let k = u.result.1 + 1 in
    let number = u.result.0 * 2 + c.number_at.result in
    let R = g.R.Rest.left f.rest in
    let len = ap length u.ensures.bits ∙ length-num u.result.1 u.result.0 in
    let short : k ≤ width x = omega (arith, h.short, len) in
    let fits = with_bit_fits u.result.1 u.result.0 c.number_at.result (width x) u.ensures.fits c.number_at.ensures.fits short (width-le x) in
    let is_at : c.args.bit ≡ n = omega (arith, is) in
    let last : num 1 c.number_at.result ≡ take 1 (drop n xs) = c.number_at.ensures.bits ∙ ap (λ (j : ℕ). take 1 (drop j xs)) is_at in
    let e : num (length f.part + 1) number ≡ f.part ++ take 1 (drop n xs) = ap (λ (j : ℕ). num (j + 1) number) len ∙ with_bit u.result.1 u.result.0 c.number_at.result f.part xs n c.number_at.ensures.fits u.ensures.bits last in
    let rest : width x - k ≡ width x - (length f.part + 1) = omega (arith, len) in
    record {
      some = omega arith;
      short = short;
      fits = fits.0;
      none = λ m same (r, l). none_starts g.R.Rest.left g.met.R.Rest.regular g.R.Rest.next g.met.R.Rest.begins_with g.R.Rest.follows g.met.R.Rest.residual start [] xs n x f.rest f.part h number e (subst (λ (j : ℕ). Starts R x j number) rest (m, r, l, same));
      below = rw (c.rest-left.ensures, c.width.ensures) at c.below.ensures;
      above = rw (c.rest-left.ensures, c.width.ensures) at c.above.ensures;
    }

pub returns-clause-bits : goal.returns-clause-bits
returns-clause-bits g c start (stop, count, n, is, h) =
    let xs = bits c.args.piece.now in
    let f = c.args.self.now in
    let u = c.unfinished-part in
    let number = u.result.0 * 2 + c.number_at.result in
    let is_at : c.args.bit ≡ n = omega (arith, is) in
    let last : num 1 c.number_at.result ≡ take 1 (drop n xs) = c.number_at.ensures.bits ∙ ap (λ (j : ℕ). take 1 (drop j xs)) is_at in
    let e = with_bit u.result.1 u.result.0 c.number_at.result f.part xs n c.number_at.ensures.fits u.ensures.bits last in
    record {
      whole = h.passed.whole;
      follows = h.passed.follows;
      bits = bits_are h.passed.whole f.part xs n c.args.bit (num (u.result.1 + 1) number) h.passed.bits e is_at;
    }
