-- Several variables of a row at once.
use Rattle.std.proofs.Common.{◌≡◌, ℕ, ◌+◌, ◌≤◌, Bool, List, [], ◌∷◌, ◌++◌, length, Some, refl, sym, ap, ◌∙◌, arith, append-nil}
use Rattle.std.proofs.lemmas.List.{map-append}
use Rattle.etcs_bits.specs.Bits.{part, num}
use Rattle.etcs_bits.proofs.Lists.{part-add}
use Rattle.etcs_vars.specs.declared.var.Var.{Var}
use Rattle.etcs_vars.specs.Vars.{width}
use Rattle.etcs_vars.specs.Walking.{Residual}
use Rattle.etcs_vars.specs.Reading.{Sent, Reading, spelled, numbers}
use Rattle.etcs_vars.specs.laws.Spellings.{spelled-append}
use Rattle.etcs_tables.specs.Layouts.{Layout, ReadsIn}
use Rattle.etcs_rows.specs.Places.{after_number}
use Rattle.etcs_rows.specs.Runs.{NextIn, RunsTo}
use Rattle.etcs_rows.specs.laws.RestLaws.{follows_none, follows_along}

pub no_run : (row : Layout) (len : ℕ) (xs : List Bool) (at : ℕ) (left : Layout) (bits : ℕ) → at ≤ length xs → left ≡ row → bits ≡ len → RunsTo row len xs at 0 [] left bits
no_run row len xs at left bits within same much = rw (same, much) (record { inside = omega (arith, within); run = []; numbers_are = refl; follows = follows_none row len; spelling = refl })

-- one variable more
pub run_more : (row : Layout) (len : ℕ) (xs : List Bool) (at count : ℕ) (f : List ℕ) (left : Layout) (bits : ℕ) (x : Var) (n : ℕ) (new : Layout) (more : ℕ) → RunsTo row len xs at count f left bits → NextIn left bits xs (at + count) x n → after_number left n ≡ Some new → bits ≡ width x + more → Residual (ReadsIn left bits) ((x, n) ∷ []) (ReadsIn new more)
    → RunsTo row len xs at (count + width x) (f ++ n ∷ []) new more
run_more row len xs at count f left bits x n new more r k after much d =
    let one : Reading = (x, n) ∷ [] in record {
      inside = (let i = k.inside in omega (arith, i));
      run = r.run ++ one;
      numbers_are = map-append (λ (s : Sent). s.1) r.run one ∙ ap (λ (t : List ℕ). t ++ n ∷ []) r.numbers_are;
      follows = follows_along row len r.run left bits one new more r.follows (record { residual = d; read = (new, k.next, after, k.room, (refl, omega (arith, much))) });
      spelling =
          spelled-append r.run one
          ∙ ap (λ (t : List Bool). t ++ spelled one) r.spelling
          ∙ ap (λ (t : List Bool). part at count xs ++ t) (append-nil (num (width x) n) ∙ k.bits)
          ∙ sym (part-add at count (width x) xs);
    }

-- several variables more
pub runs_along : (row : Layout) (len : ℕ) (xs : List Bool) (at c : ℕ) (f : List ℕ) (mid : Layout) (more d : ℕ) (g : List ℕ) (left : Layout) (bits : ℕ) → RunsTo row len xs at c f mid more → RunsTo mid more xs (at + c) d g left bits → RunsTo row len xs at (c + d) (f ++ g) left bits
runs_along row len xs at c f mid more d g left bits a b = record {
  inside = (let i = b.inside in omega (arith, i));
  run = a.run ++ b.run;
  numbers_are = map-append (λ (s : Sent). s.1) a.run b.run ∙ ap (λ (t : List ℕ). t ++ numbers b.run) a.numbers_are ∙ ap (λ (t : List ℕ). f ++ t) b.numbers_are;
  follows = follows_along row len a.run mid more b.run left bits a.follows b.follows;
  spelling = spelled-append a.run b.run ∙ ap (λ (t : List Bool). t ++ spelled b.run) a.spelling ∙ ap (λ (t : List Bool). part at c xs ++ t) b.spelling ∙ sym (part-add at c d xs);
}
