-- Words that take in the words of a set, raised, a part at a time.
use Rattle.std.proofs.Common.{◌≡◌, ℕ, ◌+◌, ◌-◌, ◌*◌, ◌/◌, ◌%◌, ◌^◌, ◌<◌, ◌≤◌, List, length, get_or, set, refl, sym, ap, subst, ◌∙◌, arith, inl, inr}
use Rattle.std.specs.Int.RustNames.{bit_or}
use Rattle.std.specs.Int.Bits.{or_zero_r}
use Rattle.std.specs.Simd.Lanes.{zip2, chunk, put_chunk}
use Rattle.std.proofs.Math.Nat.{zero-div, zero-mul}
use Rattle.std.proofs.lemmas.Bool.{cases_lt}
use Rattle.std.proofs.lemmas.List.{get_or-set_same, get_or-set_other}
use Rattle.std.proofs.lemmas.Simd.{length-chunk, length-zip2, get_or-zip2, get_or-chunk, get_or-put_chunk_below, get_or-put_chunk_at, get_or-put_chunk_above}
use Rattle.etcs_rows.specs.Sets.{shifted_word, raised_word, TakesIn}
use Rattle.etcs_rows.proofs.Shifts.{moved_in, moved_under}

-- ---- a raised word by two of the words that are raised
raised_in : (by : ℕ) (ws : List ℕ) (i before : ℕ) → before + 1 + by / 64 ≡ i → raised_word by ws i ≡ shifted_word (by % 64) (get_or ws (before + 1) 0) (get_or ws before 0)
raised_in by ws i before e =
    let a : i - by / 64 ≡ before + 1 = omega arith in
    let b : i - (by / 64 + 1) ≡ before = omega arith in
    let x = moved_in (by / 64) ws i (omega arith) ∙ ap (λ k. get_or ws k 0) a in
    let y = moved_in (by / 64 + 1) ws i (omega arith) ∙ ap (λ k. get_or ws k 0) b in rw (x, y) refl

raised_first : (by : ℕ) (ws : List ℕ) → raised_word by ws (by / 64) ≡ get_or ws 0 0 * 2 ^ (by % 64) % 2 ^ 64
raised_first by ws =
    let a : by / 64 - by / 64 ≡ 0 = omega arith in
    let x = moved_in (by / 64) ws (by / 64) (omega arith) ∙ ap (λ k. get_or ws k 0) a in
    let y = moved_under (by / 64 + 1) ws (by / 64) (omega arith) in
    rw (x, y, zero-div (2 ^ (63 - by % 64))) (or_zero_r (get_or ws 0 0 * 2 ^ (by % 64) % 2 ^ 64))

raised_low : (by : ℕ) (ws : List ℕ) (i : ℕ) → i < by / 64 → raised_word by ws i ≡ 0
raised_low by ws i h =
    let x = moved_under (by / 64) ws i h in
    let y = moved_under (by / 64 + 1) ws i (omega arith) in rw (x, y, zero-mul (2 ^ (by % 64)), zero-div (2 ^ (63 - by % 64))) refl

-- ---- parts
pub takes_none : (by : ℕ) (ws : List ℕ) (low high : ℕ) (old : List ℕ) → low ≡ high → TakesIn by ws low high old old
takes_none by ws low high old e = record { within = λ i h g. absurd (omega (arith, e, h, g)); under = λ i h. refl; over = λ i h. refl }

pub takes_more : (by : ℕ) (ws : List ℕ) (low middle high : ℕ) (old some new : List ℕ) → low ≤ middle → middle ≤ high → TakesIn by ws low middle old some → TakesIn by ws middle high some new → TakesIn by ws low high old new
takes_more by ws low middle high old some new hl hh a b = record {
  within = λ i h g. elim (cases_lt i middle) [
    | inl under ↦ b.under i under ∙ a.within i h under
    | inr over ↦ b.within i over g ∙ ap (λ x. bit_or x (raised_word by ws i)) (a.over i over)
  ];
  under = λ i h. b.under i (omega arith) ∙ a.under i h;
  over = λ i h. b.over i h ∙ a.over i (omega arith);
}

-- the words below the first one that the raised words reach
pub takes_low : (by : ℕ) (ws old : List ℕ) → TakesIn by ws 0 (by / 64) old old
takes_low by ws old = record {
  within = λ i h g. sym (rw (raised_low by ws i g) (or_zero_r (get_or old i 0)));
  under = λ i h. refl;
  over = λ i h. refl;
}

takes_at : (by : ℕ) (ws : List ℕ) (i part : ℕ) (old : List ℕ) → raised_word by ws i ≡ part → i < length old → TakesIn by ws i (i + 1) old (set old i (bit_or (get_or old i 0) part))
takes_at by ws i part old e h =
    let word = bit_or (get_or old i 0) part in record {
      within = λ k g l. (let same : k ≡ i = omega (arith, g, l) in rw same (get_or-set_same old i word 0 h ∙ ap (bit_or (get_or old i 0)) (sym e)));
      under = λ k g. get_or-set_other old i k word 0 (omega arith);
      over = λ k g. get_or-set_other old i k word 0 (omega arith);
    }

pub takes_first : (by : ℕ) (ws old : List ℕ) → by / 64 < length old → TakesIn by ws (by / 64) (by / 64 + 1) old (set old (by / 64) (bit_or (get_or old (by / 64) 0) (get_or ws 0 0 * 2 ^ (by % 64) % 2 ^ 64)))
takes_first by ws old h = takes_at by ws (by / 64) (get_or ws 0 0 * 2 ^ (by % 64) % 2 ^ 64) old (raised_first by ws) h

pub takes_word : (by : ℕ) (ws : List ℕ) (i before : ℕ) (old : List ℕ) → before + 1 + by / 64 ≡ i → i < length old → TakesIn by ws i (i + 1) old (set old i (bit_or (get_or old i 0) (shifted_word (by % 64) (get_or ws (before + 1) 0) (get_or ws before 0))))
takes_word by ws i before old e h = takes_at by ws i (shifted_word (by % 64) (get_or ws (before + 1) 0) (get_or ws before 0)) old (raised_in by ws i before e) h

-- ---- four words at a time
-- the joined lanes
abbrev lanes : ℕ → List ℕ → ℕ → ℕ → List ℕ → List ℕ
lanes by ws at before old = zip2 bit_or (chunk at 4 old) (zip2 (shifted_word (by % 64)) (chunk (before + 1) 4 ws) (chunk before 4 ws))

length-raised : (by : ℕ) (ws : List ℕ) (before : ℕ) → before + 5 ≤ length ws → length (zip2 (shifted_word (by % 64)) (chunk (before + 1) 4 ws) (chunk before 4 ws)) ≡ 4
length-raised by ws before h =
    let a = length-chunk (before + 1) 4 ws (omega arith) in
    let b = length-chunk before 4 ws (omega arith) in length-zip2 (shifted_word (by % 64)) (chunk (before + 1) 4 ws) (chunk before 4 ws) (a ∙ sym b) ∙ a

length-lanes : (by : ℕ) (ws : List ℕ) (at before : ℕ) (old : List ℕ) → at + 4 ≤ length old → before + 5 ≤ length ws → length (lanes by ws at before old) ≡ 4
length-lanes by ws at before old h g =
    let a = length-chunk at 4 old h in
    length-zip2 bit_or (chunk at 4 old) (zip2 (shifted_word (by % 64)) (chunk (before + 1) 4 ws) (chunk before 4 ws)) (a ∙ sym (length-raised by ws before g)) ∙ a

lane : (by : ℕ) (ws : List ℕ) (at before : ℕ) (old : List ℕ) (k : ℕ) → k < 4 → before + 1 + by / 64 ≡ at → at + 4 ≤ length old → before + 5 ≤ length ws → get_or (lanes by ws at before old) k 0 ≡ bit_or (get_or old (at + k) 0) (raised_word by ws (at + k))
lane by ws at before old k hk e h g =
    let words = chunk (before + 1) 4 ws in let befores = chunk before 4 ws in
    let f = shifted_word (by % 64) in
    let lo = length-chunk at 4 old h in
    let lr = length-raised by ws before g in
    let lw = length-chunk (before + 1) 4 ws (omega arith) in
    let lb = length-chunk before 4 ws (omega arith) in
    let s : before + 1 + k ≡ before + k + 1 = omega arith in
    let word = get_or-chunk (before + 1) 4 ws k 0 hk ∙ ap (λ i. get_or ws i 0) s in
    let raised = get_or-zip2 f words befores k 0 0 0 (omega arith) (omega arith) ∙ ap (λ x. f x (get_or befores k 0)) word ∙ ap (f (get_or ws (before + k + 1) 0)) (get_or-chunk before 4 ws k 0 hk) in
    get_or-zip2 bit_or (chunk at 4 old) (zip2 f words befores) k 0 0 0 (omega arith) (omega arith)
    ∙ ap (λ x. bit_or x (get_or (zip2 f words befores) k 0)) (get_or-chunk at 4 old k 0 hk)
    ∙ ap (bit_or (get_or old (at + k) 0)) (raised ∙ sym (raised_in by ws (at + k) (before + k) (omega arith)))

pub takes_block : (by : ℕ) (ws : List ℕ) (at high before : ℕ) (old : List ℕ) → high ≡ at + 4 → before + 1 + by / 64 ≡ at → high ≤ length old → before + 5 ≤ length ws → TakesIn by ws at high old (put_chunk at old (lanes by ws at before old))
takes_block by ws at high before old four e room g =
    let h : at + 4 ≤ length old = omega arith in
    let sums = lanes by ws at before old in
    let len = length-lanes by ws at before old h g in record {
      within = λ i hi hj.
          let place : at + (i - at) ≡ i = omega arith in
          let small : i - at < 4 = omega arith in
          let P : ℕ → Type 0 = λ n. get_or (put_chunk at old sums) n 0 ≡ bit_or (get_or old n 0) (raised_word by ws n) in
          subst P place (get_or-put_chunk_at at old sums (i - at) 0 (omega arith) (omega arith) ∙ lane by ws at before old (i - at) small e h g);
      under = λ i hi. get_or-put_chunk_below at old sums i 0 hi;
      over = λ i hi. get_or-put_chunk_above at old sums i 0 (omega arith);
    }
