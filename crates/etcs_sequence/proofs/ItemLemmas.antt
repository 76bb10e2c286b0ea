-- A reader of items, which keeps an item that was whole in the first piece.
use Rattle.std.proofs.Common.{◌≡◌, ℕ, ◌+◌, ◌*◌, ◌^◌, ◌<◌, ◌≤◌, Bool, true, List, [], length, take, Some, None, Ok, refl, sym, ap, subst, ◌∙◌, arith}
use Rattle.std.specs.Prelude.{Option, IfSome, is_some}
use Rattle.std.proofs.lemmas.List.{length-take-le, take-take}
use Rattle.etcs_bits.specs.Bits.{bits, part}
use Rattle.etcs_bits.proofs.Positions.{length-bits}
use Rattle.etcs_vars.specs.declared.var.Var.{Var}
use Rattle.etcs_vars.specs.declared.feed.Fed.TheVariants.{Done}
use Rattle.etcs_vars.specs.Reading.{Reading, spelled, IsOutcome, done}
use Rattle.etcs_reader.specs.Rests.{LeapsBy}
use Rattle.etcs_sequence.specs.declared.list.PacketList.{PacketList}
use Rattle.etcs_sequence.specs.Progress.{Progress, finished, Feeds, IsReading, seen_of}
use Rattle.etcs_sequence.specs.Readables.{Readable, progress_with, IsDone, IsPart}
use Rattle.etcs_sequence.proofs.Feeding.{bits_take}

-- ---- By the item that is kept.

pub with_none : {V : Type 0} (o : Option (V × ℕ)) (s : Progress V) → o ≡ None → progress_with o s ≡ s
with_none o s e = rw e refl

pub none_done : {V : Type 0} (IsValue : V → Type 0) (size : V → ℕ) (o : Option (V × ℕ)) (s : Progress V) → o ≡ None → IsDone IsValue size o s
none_done IsValue size o s e = rw e tt

-- if one is kept, it is finished
pub some_kept : {V : Type 0} (o : Option (V × ℕ)) (s p : Progress V) → is_some o ≡ true → progress_with o s ≡ p → (v : V) × (p ≡ finished v)
some_kept None s p e same = absurd cc
some_kept (Some d) s p e same = (d.0, sym same)

pub some_unread : {V : Type 0} (o : Option (V × ℕ)) (s p : Progress V) → is_some o ≡ true → progress_with o s ≡ p → IsReading p → ⊥
some_unread o s p e same i = let (v, f) = some_kept o s p e same in subst IsReading f i

-- how many bits it has
pub kept_seen : {V : Type 0} (IsValue : V → Type 0) (size : V → ℕ) (o : Option (V × ℕ)) (d : V × ℕ) (s p : Progress V) → o ≡ Some d → IsDone IsValue size o s → progress_with o s ≡ p → (d.1 * 8 < 2 ^ 64) × (d.1 * 8 ≡ seen_of size p)
kept_seen IsValue size o d s p e is same =
    let kept : IsDone IsValue size (Some d) s = rw e at is in
    let found : finished d.0 ≡ p = rw e at same in
    let bits : size d.0 ≡ seen_of size p = ap (seen_of size) found in
    let long = kept.1 in
    let small = kept.2 in
    (omega (arith, small), omega (arith, bits, long))

-- ---- The first bits of a piece, and of its first bytes.

same_front : (piece : List ℕ) (m n : ℕ) → m ≤ length piece → n ≤ 8 * m → take n (bits (take m piece)) ≡ take n (bits piece)
same_front piece m n fit le = ap (take n) (bits_take piece m fit) ∙ take-take n (8 * m) (bits piece) le

long_front : (piece : List ℕ) (m : ℕ) → m ≤ length piece → length (bits (take m piece)) ≡ 8 * m
long_front piece m fit = omega (arith, length-bits (take m piece), length-take-le m piece fit)

leaps_within : (Left F : Reading → Type 0) (piece : List ℕ) (m n : ℕ) → m ≤ length piece → LeapsBy Left F (bits (take m piece)) 0 n → LeapsBy Left F (bits piece) 0 n
leaps_within Left F piece m n fit l =
    let inside = l.inside in
    let long = long_front piece m fit in
    record {
      some = l.some;
      inside = omega (arith, inside, long, fit, length-bits piece);
      goes = l.goes;
      whole = l.whole;
      follows = l.follows;
      bits = l.bits ∙ same_front piece m n fit (omega (arith, inside, long));
    }

pub leaps_in : (Left F : Reading → Type 0) (piece : List ℕ) (m n : ℕ) → m ≤ length piece → n ≤ 8 * m → LeapsBy Left F (bits piece) 0 n → LeapsBy Left F (bits (take m piece)) 0 n
leaps_in Left F piece m n fit le l = record {
  some = l.some;
  inside = omega (arith, le, long_front piece m fit);
  goes = l.goes;
  whole = l.whole;
  follows = l.follows;
  bits = l.bits ∙ sym (same_front piece m n fit le);
}

-- what one pass leaves of a front is what it leaves of the piece
pub part_within : {R W : Type 0} (left : R → Reading → Type 0) (follows : R → Reading → R → Type 0) (holds : R → Reading → Type 0) (Reads : W → Reading → Type 0) (most : ℕ) (piece : List ℕ) (near : ℕ) (part : Option (R × ℕ)) → near ≤ length piece → IfSome part (λ t. IsPart left follows holds Reads most (bits (take near piece)) t.0 t.1) → IfSome part (λ t. IsPart left follows holds Reads most (bits piece) t.0 t.1)
part_within left follows holds Reads most piece near None fit is = is
part_within left follows holds Reads most piece near (Some t) fit (le, start, same, held, leap) = (le, start, same, held, leaps_within (left t.0) (λ p. follows start p t.0) piece near t.1 fit leap)

-- ---- At a reader.

module _ {R V W P : Type 0} {left : R → Reading → Type 0} {next : R → Option Var} {follows : R → Reading → R → Type 0} {fails : R → Type 0} {far : R → Reading} {holds : R → Reading → Type 0} {Reads : W → Reading → Type 0} {value : V → W} {IsValue : V → Type 0} {size : V → ℕ} {made : R → V} {store : R → PacketList P} {Members : List P → List ℕ → List Bool → Reading → Type 0} {most least : ℕ} (w : Readable R V W P left next follows fails far holds Reads value IsValue size made store Members most least) where
  -- an item that lies whole in the front of a piece
  pub fed_whole : (piece : List ℕ) (near k : ℕ) (v : V) (r : Reading) → near ≤ length piece → IsValue v → 8 * k ≤ length (bits (take near piece)) → Reads (value v) r → spelled r ≡ part 0 (8 * k) (bits (take near piece)) → Feeds Reads value IsValue least [] (bits piece) (Ok (Done k)) (finished v) × (size v ≡ 8 * k)
  fed_whole piece near k v r fit is within reads e =
      let front = bits (take near piece) in
      let xs = bits piece in
      let long = long_front piece near fit in
      let cut = same_front piece near (8 * k) fit (omega (arith, long, within)) in
      let less : 8 * k ≤ length xs = omega (arith, within, long, fit, length-bits piece) in
      let size-is : size v ≡ 8 * k = sym (w.counted v r is reads) ∙ ap length e ∙ length-take-le (8 * k) front within in
      let first : 8 * k ≡ length {A = Bool} [] + 8 * k = omega arith in
      let outcome : IsOutcome Reads xs (done (value v) (length {A = Bool} [] + 8 * k)) = subst (λ (n : ℕ). IsOutcome Reads xs (done (value v) n)) first (less, r, reads, e ∙ cut) in
      ((v, refl, is, less, outcome), size-is)
