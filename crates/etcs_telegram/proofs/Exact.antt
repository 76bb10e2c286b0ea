-- The numbers of the next variable with which a telegram goes on.
use Rattle.std.proofs.Common.{◌≡◌, ℕ, zero, suc, true, ◌<◌, Some, refl, sym, subst, arith}
use Rattle.std.specs.Prelude.{IsTrue}
use Rattle.etcs_vars.specs.declared.var.Var.{Var}
use Rattle.etcs_vars.specs.declared.var.Var.TheVariants.{FILL, PAD}
use Rattle.etcs_vars.specs.Vars.{ranges, inside, admits}
use Rattle.etcs_vars.proofs.Prefixes.{width_pos, admits_parts, inside_below}
use Rattle.etcs_reader.specs.Rests.{Goes}
use Rattle.etcs_rows.specs.declared.here.Here.{Here}
use Rattle.etcs_rows.specs.declared.here.Here.TheVariants.{Any}
use Rattle.etcs_rows.specs.Causes.{Exactly}
use Rattle.etcs_rows.proofs.ExactLemmas.{starts_whole, whole_continues, exact_as, exact_admitted, exact_each}
use Rattle.etcs_sequence.specs.Lefts.{next_of, left_of}
use Rattle.etcs_telegram.specs.declared.phase.Phase.TheVariants.{Header, Packets, Fill, Pad}
use Rattle.etcs_telegram.specs.Phases.{PadLeft}
use Rattle.etcs_telegram.specs.Lefts.{next_at, left_at, TelegramState, Left, next_var}
use Rattle.etcs_telegram.specs.laws.RestLaws.{rest_regular}
use Rattle.etcs_telegram.proofs.RestSteps.{begins_header, begins_packets, begins_fill, pad_parts, pad_starts}

fill_admitted : (n : ℕ) → n < 2 → IsTrue (admits FILL n)
fill_admitted zero lt = refl
fill_admitted (suc zero) lt = refl
fill_admitted (suc (suc n)) lt = absurd (omega (arith, lt))

pad_zero : (n : ℕ) → inside (ranges PAD) n ≡ true → n ≡ 0
pad_zero n h = let lt : n < 1 = inside_below (ranges PAD) 1 n refl h in omega (arith, lt)

-- a bit of PAD
bit_exact : (left : ℕ) → 0 < left → Exactly (PadLeft left) PAD Any
bit_exact left pos =
    record {
      passes = λ n c. (let zero-is : n ≡ 0 = (pad_starts left n pos).1 (starts_whole (PadLeft left) PAD n c) in subst (λ (k : ℕ). IsTrue (admits PAD k)) (sym zero-is) refl);
      continues = λ n a. whole_continues (PadLeft left) PAD n ((pad_starts left n pos).0 (pad_zero n (admits_parts PAD n a).0));
    }

module _ {S : Type 0} (s : TelegramState S) (x : Var) (next : next_var s ≡ Some x) where
  pub header_exact : (at : ℕ) → s.phase ≡ Header at → Goes (Left s) → Exactly (Left s) x Any
  header_exact at e goes = exact_admitted (Left s) (rest_regular s) x (λ n small. begins_header s x 0 n next at e (width_pos x) small goes)

  pub packets_next : s.phase ≡ Packets → next_of s.left.stage ≡ Some x
  packets_next e = rw e at next

  pub packets_exact : s.phase ≡ Packets → (here : Here) → Goes (Left s) → (Goes (left_of s.left.carrier s.left.room s.left.stage) → Exactly (left_of s.left.carrier s.left.room s.left.stage) x here) → Exactly (Left s) x here
  packets_exact e here goes exact =
      let all : Goes (left_at s.size Packets s.left) = rw e at goes in
      let (r, (p, q, is, run, after)) = all in
      exact_as (left_of s.left.carrier s.left.room s.left.stage) (Left s) x here (λ n. begins_packets s x 0 n next e) (exact (p, run))

  pub fill_exact : (left : ℕ) → s.phase ≡ Fill left → Exactly (Left s) x Any
  fill_exact left e =
      let next' : next_at (Fill left) s.left ≡ Some x = rw e at next in
      let same : FILL ≡ x = cc in
      exact_each (Left s) (rest_regular s) x (rw (← same) fill_admitted) (λ n small. begins_fill s x 0 n next left e (width_pos x) small)

  pub pad_exact : (left : ℕ) → s.phase ≡ Pad left → Exactly (Left s) x Any
  pad_exact left e =
      let next' : next_at (Pad left) s.left ≡ Some x = rw e at next in
      let same : PAD ≡ x = cc in
      rw (e, ← same) (bit_exact left (pad_parts s left e))
