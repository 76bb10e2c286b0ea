-- One bit, the last of a byte.
use Rattle.std.proofs.Common.{◌≡◌, ℕ, Bool, true, false, List, [], ◌∷◌, drop, Some, Err, refl, subst, arith}
use Rattle.std.specs.Int.{from_bool}
use Rattle.std.specs.Prelude.{Option}
use Rattle.std.proofs.lemmas.List.{length-append}
use Rattle.etcs_bits.specs.Bits.{bits, num}
use Rattle.etcs_vars.specs.declared.var.Var.{Var}
use Rattle.etcs_vars.specs.Reading.{Reading}
use Rattle.etcs_reader.specs.declared.reader.Halt.{Halt}
use Rattle.etcs_reader.specs.declared.reader.Halt.TheVariants.{Refused, Memory}
use Rattle.etcs_reader.specs.declared.reader.Reader.{Reader}
use Rattle.etcs_reader.specs.declared.feeder.Stop.{Stop}
use Rattle.etcs_reader.specs.Readers.{RefusesAt, StarvesAt, Halts, part_of}
use Rattle.etcs_reader.specs.Feeders.{FeederValue, Feeds, stop_at}

pub last_bit : (b : Bool) (d : ℕ) → d ≡ from_bool b → drop 7 (bits (d ∷ [])) ≡ b ∷ []
unfolding num bits
last_bit true d e = rw e refl
last_bit false d e = rw e refl

abbrev pub value : {R : Type 0} → Reader R → ℕ → Option Stop → FeederValue R
value r count stop = record { rest = r.rest; part = part_of r; count = count; stop = stop }

-- it is refused or memory is, and none is taken
pub bit_halts : {R : Type 0} (left : R → Reading → Type 0) (next : R → Option Var) (follows : R → Reading → R → Type 0) (fails : R → Type 0) (s t : Reader R) (count : ℕ) (b : Bool) (stop : Option Stop) (h : Halt) (why : Stop) (xs : List Bool) → why ≡ stop_at count h → drop 7 xs ≡ b ∷ [] → Halts R left next follows fails s xs 7 h t
    → Feeds R left next follows fails (value s count stop) (b ∷ []) (Err why) (value t count (Some why))
bit_halts {R} left next follows fails s t count b stop (Refused i x) why xs is last (n, at, r) =
    let r' : RefusesAt R left next follows s.rest (part_of s) (b ∷ []) n x t.rest (part_of t) = subst (λ (ys : List Bool). RefusesAt R left next follows s.rest (part_of s) ys n x t.rest (part_of t)) last r in
    rw is (refl, refl, n, omega (arith, r'.refuses.within, length-append (part_of s) (b ∷ [])), r')
bit_halts {R} left next follows fails s t count b stop (Memory i) why xs is last (n, at, h) =
    let h' : StarvesAt R left follows fails s.rest (part_of s) (b ∷ []) n = subst (λ (ys : List Bool). StarvesAt R left follows fails s.rest (part_of s) ys n) last h in
    rw is (refl, n, omega (arith, h'.within), h')
