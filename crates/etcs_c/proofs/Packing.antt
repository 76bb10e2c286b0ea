-- The bits of fields, and that they are those of their reading.
use Rattle.std.proofs.Common.{◌≡◌, ℕ, suc, ◌+◌, ◌*◌, ◌/◌, ◌%◌, ◌^◌, ◌<◌, ◌≤◌, Bool, true, false, List, [], ◌∷◌, ◌++◌, refl, sym, ap, ◌∙◌, arith, append_assoc, append-nil}
use Rattle.std.specs.Prelude.{Some, None, ◌&&◌, ◌==◌, nat_lt, if◌then◌else◌}
use Rattle.std.proofs.lemmas.Bool.{and_parts, ltb-true}
use Rattle.std.proofs.lemmas.Grind.{flat_map-append}
use Rattle.std.proofs.lemmas.List.Elements.{All-nil, All-pop, All-push}
use Rattle.std.proofs.Math.Nat.{pow-suc}
use Rattle.etcs_bits.specs.Bits.{num}
use Rattle.etcs_bits.proofs.Numbers.{num-add}
use Rattle.etcs_bits.proofs.ByteBits.{num_low}
use Rattle.etcs_vars.specs.declared.var.Var.{Var}
use Rattle.etcs_vars.specs.declared.var.Var.TheVariants.{FILL, OTHER_DATA, PADDING, PAD}
use Rattle.etcs_vars.specs.Vars.{width}
use Rattle.etcs_vars.specs.Reading.{Reading, Sent, spelled}
use Rattle.etcs_vars.proofs.Apart.{AllFit}
use Rattle.etcs_vars.proofs.Prefixes.{width-le}
use Rattle.etcs_c.specs.declared.fields.EtcsField.{EtcsField}
use Rattle.etcs_c.specs.Fields.{Joined, closed, field, fields_of, is_run, join, joined, joins, var_number, widened}
use Rattle.etcs_c.specs.ItemFields.{AreFit, IsFit, packed}

pub packed_more : (fs : List EtcsField) (f : EtcsField) → packed (fs ++ f ∷ []) ≡ packed fs ++ num f.width f.number
packed_more fs f = flat_map-append (λ (g : EtcsField). num g.width g.number) fs (f ∷ []) ∙ ap (λ (b : List Bool). packed fs ++ b) (append-nil (num f.width f.number))

run_width : (v : Var) → is_run v ≡ true → width v ≡ 1
run_width FILL h = refl
run_width OTHER_DATA h = refl
run_width PADDING h = refl
run_width PAD h = refl
run_width v h = absurd cc

-- what is known where a field joins
record Bit (f : EtcsField) (p : Sent) : Type 0 where
  one : width p.0 ≡ 1
  short : f.width < 64
  small : p.1 < 2

bit_of : (f : EtcsField) (p : Sent) → joins f p ≡ true → Bit f p
bit_of f p h =
    let a = and_parts (is_run p.0 && (f.var == var_number p.0) && nat_lt f.width 64 && nat_lt f.number (2 ^ 63)) (nat_lt p.1 2) h in
    let b = and_parts (is_run p.0 && (f.var == var_number p.0) && nat_lt f.width 64) (nat_lt f.number (2 ^ 63)) a.0 in
    let c = and_parts (is_run p.0 && (f.var == var_number p.0)) (nat_lt f.width 64) b.0 in
    let d = and_parts (is_run p.0) (f.var == var_number p.0) c.0 in
    record { one = run_width p.0 d.0; short = ltb-true f.width 64 c.1; small = ltb-true p.1 2 a.1 }

widened_bits : (w n b : ℕ) → b < 2 → num (w + 1) (n * 2 + b) ≡ num w n ++ num 1 b
widened_bits w n b small =
    let high : (n * 2 + b) / 2 ^ 1 ≡ n = omega (arith, small) in
    let low : (n * 2 + b) % 2 ^ 1 ≡ b % 2 ^ 1 = omega (arith, small) in
    num-add w 1 (n * 2 + b) ∙ ap (λ (m : ℕ). num w m ++ num 1 (n * 2 + b)) high ∙ ap (λ (t : List Bool). num w n ++ t) (num_low 1 (n * 2 + b) b low)

packed_join : (s : Joined) (p : Sent) → packed (closed (join s p)) ≡ packed (closed s) ++ num (width p.0) p.1
packed_join (fs, None) p = packed_more fs (field p)
packed_join (fs, Some f) p = by_test (joins f p) refl
  where
    by_test : (t : Bool) → joins f p ≡ t → packed (closed (if t then (fs, Some (widened f p.1)) else (fs ++ f ∷ [], Some (field p)))) ≡ packed (fs ++ f ∷ []) ++ num (width p.0) p.1
    by_test true h =
        let b = bit_of f p h in
        packed_more fs (widened f p.1)
        ∙ ap (λ (t : List Bool). packed fs ++ t) (widened_bits f.width f.number p.1 b.small ∙ ap (λ (w : ℕ). num f.width f.number ++ num w p.1) (sym b.one))
        ∙ sym (append_assoc (packed fs) (num f.width f.number) (num (width p.0) p.1))
        ∙ ap (λ (t : List Bool). t ++ num (width p.0) p.1) (sym (packed_more fs f))
    by_test false h = packed_more (fs ++ f ∷ []) (field p)

packed_joined : (s : Joined) (r : Reading) → packed (closed (joined s r)) ≡ packed (closed s) ++ spelled r
packed_joined s [] = sym (append-nil (packed (closed s)))
packed_joined s (p ∷ r) =
    packed_joined (join s p) r
    ∙ ap (λ (b : List Bool). b ++ spelled r) (packed_join s p)
    ∙ append_assoc (packed (closed s)) (num (width p.0) p.1) (spelled r)

-- the bits of a reading's fields are its spelling
pub packed_reading : (r : Reading) → packed (fields_of r) ≡ spelled r
packed_reading r = packed_joined ([], None) r

-- ---- Numbers that have their widths.

pow_more : (w : ℕ) → 2 ^ (w + 1) ≡ 2 ^ w * 2
pow_more w = let e : w + 1 ≡ suc w = omega arith in ap (λ (k : ℕ). 2 ^ k) e ∙ pow-suc 2 w

fit_join : (s : Joined) (p : Sent) → p.1 < 2 ^ width p.0 → AreFit (closed s) → AreFit (closed (join s p))
fit_join (fs, None) p h fit = All-push IsFit fs (field p) fit (width-le p.0, h)
fit_join (fs, Some f) p h fit = by_test (joins f p) refl
  where
    by_test : (t : Bool) → joins f p ≡ t → AreFit (closed (if t then (fs, Some (widened f p.1)) else (fs ++ f ∷ [], Some (field p))))
    by_test true e =
        let b = bit_of f p e in
        let last = All-pop IsFit (fs ++ f ∷ []) fs (Some f) refl fit in
        let short : f.width + 1 ≤ 64 = omega (arith, b.short) in
        let small : f.number * 2 + p.1 < 2 ^ (f.width + 1) = omega (arith, pow_more f.width, last.1.1, b.small) in
        All-push IsFit fs (widened f p.1) last.0 (short, small)
    by_test false e = All-push IsFit (fs ++ f ∷ []) (field p) fit (width-le p.0, h)

fit_joined : (s : Joined) (r : Reading) → AllFit r → AreFit (closed s) → AreFit (closed (joined s r))
fit_joined s [] h fit = fit
fit_joined s (p ∷ r) h fit = fit_joined (join s p) r h.1 (fit_join s p h.0 fit)

pub fit_reading : (r : Reading) → AllFit r → AreFit (fields_of r)
fit_reading r h = fit_joined ([], None) r h (All-nil IsFit)
