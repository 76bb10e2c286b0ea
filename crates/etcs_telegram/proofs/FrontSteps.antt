-- Variables one after another whose bits are all there.
use Rattle.std.proofs.Common.{◌≡◌, ℕ, suc, ◌+◌, ◌-◌, ◌/◌, ◌%◌, ◌^◌, ◌<◌, ◌≤◌, Bool, List, [], ◌∷◌, ◌++◌, length, refl, sym, ap, subst, ◌∙◌, arith}
use Rattle.std.proofs.lemmas.Nat.{mod_below, pow_pos}
use Rattle.std.proofs.Math.Nat.{mod-eq_of_lt}
use Rattle.etcs_bits.specs.Bits.{num, part}
use Rattle.etcs_bits.proofs.Numbers.{num-add}
use Rattle.etcs_bits.proofs.Lists.{length-part}
use Rattle.etcs_bits.proofs.ByteBits.{num_low}
use Rattle.etcs_vars.specs.declared.var.Var.{Var}
use Rattle.etcs_vars.specs.Vars.{width}
use Rattle.etcs_vars.specs.Reading.{Reading, Then, spelled}
use Rattle.etcs_vars.specs.Walking.{Residual}
use Rattle.etcs_reader.specs.Rests.{Goes, LeapsBy}
use Rattle.etcs_reader.specs.Fields.{ReadsFields}
use Rattle.etcs_reader.proofs.FieldLaws.{first_number}
use Rattle.etcs_sequence.specs.Labels.{labelled, widths}
use Rattle.etcs_sequence.proofs.LabelLaws.{length-widths, labelled_widths}
use Rattle.etcs_sequence.specs.Fronts.{FrontAt}
use Rattle.etcs_telegram.specs.Fronts.{FieldsIn}

pub fields_count : (vs : List Var) (word : ℕ) (ns : List ℕ) → FieldsIn vs word ns → length ns ≡ length vs
fields_count [] word ns h = ap length h
fields_count (v ∷ vs) word [] h = absurd h
fields_count (v ∷ vs) word (n ∷ ns) (a, e, h) = ap suc (fields_count vs word ns h)

pub fields_read : (vs : List Var) (word : ℕ) (ns : List ℕ) → FieldsIn vs word ns → ReadsFields vs (labelled vs ns)
fields_read [] word ns h = refl
fields_read (v ∷ vs) word [] h = absurd h
fields_read (v ∷ vs) word (n ∷ ns) (a, e, h) = (n, labelled vs ns, a, refl, fields_read vs word ns h)

pub fields_bits : (vs : List Var) (word : ℕ) (ns : List ℕ) → FieldsIn vs word ns → spelled (labelled vs ns) ≡ num (widths vs) word
unfolding num
fields_bits [] word ns h = refl
fields_bits (v ∷ vs) word [] h = absurd h
fields_bits (v ∷ vs) word (n ∷ ns) (a, e, h) =
    let front = word / 2 ^ widths vs in
    let twice : n % 2 ^ width v ≡ front % 2 ^ width v = ap (λ k. k % 2 ^ width v) e ∙ mod-eq_of_lt (mod_below front (2 ^ width v) (pow_pos (width v))) in
    ap (λ (t : List Bool). num (width v) n ++ t) (fields_bits vs word ns h)
    ∙ ap (λ (t : List Bool). t ++ num (widths vs) word) (num_low (width v) n front twice)
    ∙ sym (num-add (width v) (widths vs) word)

-- the numbers of variables, in a word of their bits
pub front_in : (vs : List Var) (xs : List Bool) (at : ℕ) (ns : List ℕ) (word end : ℕ) → end ≡ at + widths vs → end ≤ length xs → FieldsIn vs word ns → num (widths vs) word ≡ part at (widths vs) xs → FrontAt vs xs at ns end
front_in vs xs at ns word end place inside h bits =
    let len : widths vs ≡ end - at = omega arith in
    record {
      count = fields_count vs word ns h;
      onward = omega arith;
      inside = inside;
      reads = fields_read vs word ns h;
      bits = fields_bits vs word ns h ∙ bits ∙ ap (λ k. part at k xs) len;
    }

-- ---- All of them.

module _ (Q : Reading → Type 0) where
  -- after all of them comes what follows them
  pub front_all : (vs : List Var) (ns : List ℕ) → ReadsFields vs (labelled vs ns) → Residual (Then (ReadsFields vs) Q) (labelled vs ns) Q
  front_all [] ns h = record {
    to = λ q (a, b, e, k, l). (let same : b ≡ q = sym (e ∙ ap (λ (t : Reading). t ++ b) k) in subst Q same l);
    from = λ q l. ([], q, refl, refl, l);
  }
  front_all (v ∷ vs) [] (n, r, a, e, h) = absurd cc
  front_all (v ∷ vs) (n ∷ ns) h =
      let p = labelled vs ns in
      let first = first_number v vs n p h in
      let beyond = front_all vs ns first.1 in record {
        to = λ q (a, b, e, (m, a', t, f, k), l).
            (let all : ◌≡◌ {A = Reading} ((v, n) ∷ (p ++ q)) ((v, m) ∷ (a' ++ b)) = e ∙ ap (λ (t : Reading). t ++ b) f in
            let same : p ++ q ≡ a' ++ b = cc in
            beyond.to q (a', b, same, k, l));
        from = λ q l.
            (let (a, b, e, k, m) = beyond.from q l in
            ((v, n) ∷ a, b, ap (λ (t : Reading). (v, n) ∷ t) e, (n, a, first.0, refl, k), m));
      }

  pub front_left : (vs : List Var) → Goes (Then (ReadsFields vs) Q) → Goes Q
  front_left vs (r, (a, b, e, h, k)) = (b, k)

-- they take this many bits
pub front_span : (vs : List Var) (xs : List Bool) (at : ℕ) (ns : List ℕ) (end : ℕ) → FrontAt vs xs at ns end → end ≡ at + widths vs
front_span vs xs at ns end f =
    let onward = f.onward in
    let inside = f.inside in
    let one = sym (length-widths (labelled vs ns) ∙ labelled_widths vs ns f.count) ∙ ap length f.bits ∙ length-part at (end - at) xs (omega (arith, onward, inside)) in
    omega (arith, one, onward)

-- and the reader may take them at once, if there are such
pub front_leaps : (vs : List Var) (xs : List Bool) (at : ℕ) (ns : List ℕ) (end : ℕ) (Left Follows : Reading → Type 0) → 0 < widths vs → FrontAt vs xs at ns end → Goes Left → Follows (labelled vs ns) → LeapsBy Left Follows xs at (end - at)
front_leaps vs xs at ns end Left Follows some f goes follows =
    let span = front_span vs xs at ns end f in
    let onward = f.onward in
    let inside = f.inside in
    record {
      some = omega (arith, span, some);
      inside = omega (arith, onward, inside);
      goes = goes;
      whole = labelled vs ns;
      follows = follows;
      bits = f.bits;
    }
