-- What taking from the front gives, and that it takes what is there.
use Rattle.std.proofs.Common.{◌≡◌, ℕ, zero, suc, ◌+◌, ◌<◌, ◌^◌, Bool, true, false, nat_lt, nat_le, List, [], ◌∷◌, ◌++◌, length, take, drop, map, Option, Some, None, refl, sym, ap, ◌∙◌, append_assoc, arith}
use Rattle.std.specs.Prelude.{if◌then◌else◌, bytes_eq}
use Rattle.std.specs.Bool.{beq}
use Rattle.std.specs.Cmp.{booleans_Decides}
use Rattle.std.proofs.lemmas.Slice.Eq.{bytes_eq-Decides}
use Rattle.std.proofs.lemmas.Bool.{and_parts, ltb-true, leb-true, le-leb}
use Rattle.std.proofs.lemmas.List.{map-append, append-nil, length-append, length-take-le, take-append-drop}
use Rattle.std.proofs.Math.Seq.{take-append_seam, drop-append_seam}
use Rattle.etcs_bits.specs.Bits.{bit, num, value, number_at}
use Rattle.etcs_bits.proofs.Numbers.{length-num, value-num, num-value}
use Rattle.etcs_vars.specs.declared.var.Var.{Var}
use Rattle.etcs_vars.specs.Vars.{width, admits, name}
use Rattle.etcs_vars.specs.Reading.{Sent, Reading, numbers, spelled}
use Rattle.etcs_vars.specs.laws.Spellings.{spelled-append}
use Rattle.etcs_vars.specs.declared.fault.BuildFault.{BuildFault}
use Rattle.etcs_vars.specs.declared.fault.BuildFault.TheVariants.{NotAdmitted, TooMany}
use Rattle.etcs_vars.specs.Faults.{number_fault}
use Rattle.etcs_bodies.specs.Faults.{count_fault}
use Rattle.etcs_bodies.specs.Taking.{Named, in_hexadecimal, named_as, is_of, Left, listed, in_bits, named, ahead, ◌and_then◌, admitted_of, next_number, flag_of, next_flag}

by_test : (b : Bool) (e : BuildFault) → ◌≡◌ {A = Option BuildFault} (if b then None else Some e) None → b ≡ true
by_test true e h = refl
by_test false e h = absurd cc

pub number_ok : (v : Var) (n : ℕ) → admits v n ≡ true → number_fault v n ≡ None
number_ok v n h = rw h refl

pub admitted : (v : Var) (n : ℕ) → number_fault v n ≡ None → admits v n ≡ true
admitted v n h = by_test (admits v n) (NotAdmitted v) h

-- a variable of one bit admits the two numbers of a flag, and no other
pub as_bit : (n : ℕ) → n < 2 → (b : Bool) × (n ≡ bit b)
as_bit zero h = (false, refl)
as_bit (suc zero) h = (true, refl)
as_bit (suc (suc n)) h = absurd (omega arith)

pub in_width : (v : Var) (n : ℕ) → admits v n ≡ true → n < 2 ^ width v
in_width v n h = let a = and_parts (nat_lt n (2 ^ width v)) _ h in ltb-true n (2 ^ width v) a.0

pub count_ok : (v : Var) (n : ℕ) → admits v n ≡ true → count_fault v n ≡ None
unfolding count_fault
count_ok v n h = rw h refl

pub count_bad : (v : Var) (n : ℕ) → admits v n ≡ false → count_fault v n ≡ Some (TooMany v)
unfolding count_fault
count_bad v n h = rw h refl

pub counted_admitted : (v : Var) (n : ℕ) → count_fault v n ≡ None → admits v n ≡ true
unfolding count_fault
counted_admitted v n h = by_test (admits v n) (TooMany v) h

-- a count that was read, if this many entries were read after it
pub counted_is : (v : Var) (n many : ℕ) → number_fault v n ≡ None → many ≡ n → count_fault v many ≡ None
counted_is v n many h e = rw e (count_ok v n (admitted v n h))

-- ---- One after another.

pub numbers-append : (a b : Reading) → numbers (a ++ b) ≡ numbers a ++ numbers b
numbers-append a b = map-append (λ (p : Sent). p.1) a b

pub ahead_both : (a b : Reading) (s : Left) → ahead (a ++ b) s ≡ ahead a (ahead b s)
ahead_both a b (listed f) = ap listed (ap (λ (t : List ℕ). t ++ f) (numbers-append a b) ∙ append_assoc (numbers a) (numbers b) f)
ahead_both a b (in_bits f) = ap in_bits (ap (λ (t : List Bool). t ++ f) (spelled-append a b) ∙ append_assoc (spelled a) (spelled b) f)
ahead_both a b (named f) = ap named (ap (λ (t : List Named). t ++ f) (map-append named_as a b) ∙ append_assoc (map named_as a) (map named_as b) f)

pub ahead_none : (s : Left) → ahead [] s ≡ s
ahead_none (listed f) = refl
ahead_none (in_bits b) = refl
ahead_none (named f) = refl

-- what both steps of a taking give
pub taken : {A B : Type 0} (o : Option A) (k : A → Option B) (b : B) → (o and_then k) ≡ Some b → (a : A) × (o ≡ Some a) × (k a ≡ Some b)
taken None k b h = absurd cc
taken (Some a) k b h = (a, refl, h)

pub some_pair : {A B : Type 0} (a c : A) (b d : B) → ◌≡◌ {A = Option (A × B)} (Some (a, b)) (Some (c, d)) → (a ≡ c) × (b ≡ d)
some_pair {A} {B} a c b d h = let e : ◌≡◌ {A = A × B} (a, b) (c, d) = cc in (ap (λ p. p.0) e, ap (λ p. p.1) e)

-- ---- A name.

pub is_own : (v : Var) → is_of v (name v, in_hexadecimal v) ≡ true
is_own v = rw ((bytes_eq-Decides (name v) (name v)).1 refl, (booleans_Decides (in_hexadecimal v) (in_hexadecimal v)).1 refl) refl

pub was_own : (v : Var) (n : List ℕ × Bool) → is_of v n ≡ true → (name v, in_hexadecimal v) ≡ n
was_own v (n, b) h =
    let a = and_parts (bytes_eq (name v) n) (beq (in_hexadecimal v) b) h in
    rw ((bytes_eq-Decides (name v) n).0 a.0, (booleans_Decides (in_hexadecimal v) b).0 a.1) refl

by_name : {A : Type 0} (b : Bool) (o : Option A) (a : A) → ◌≡◌ {A = Option A} (if b then o else None) (Some a) → (b ≡ true) × (o ≡ Some a)
by_name true o a h = (refl, h)
by_name false o a h = absurd cc

-- ---- A number.

front : (w n : ℕ) (b : List Bool) → n < 2 ^ w → number_at 0 w (num w n ++ b) ≡ Some n
front w n b h =
    let many = length-num w n in
    let room : nat_le (0 + w) (length (num w n ++ b)) ≡ true = le-leb (0 + w) (length (num w n ++ b)) (omega (arith, length-append (num w n) b)) in
    let whole : take w (num w n ++ b) ≡ num w n = ap (λ k. take k (num w n ++ b)) (sym many) ∙ take-append_seam (num w n) b in
    rw (room, whole, value-num w n h) refl

rest : (w n : ℕ) (b : List Bool) → drop w (num w n ++ b) ≡ b
rest w n b = ap (λ k. drop k (num w n ++ b)) (sym (length-num w n)) ∙ drop-append_seam (num w n) b

pub next_is : (v : Var) (n : ℕ) (s : Left) → number_fault v n ≡ None → next_number v (ahead ((v, n) ∷ []) s) ≡ Some (n, s)
unfolding next_number
next_is v n (listed f) h = rw (admitted v n h) refl
next_is v n (in_bits b) h = rw (append-nil (num (width v) n), front (width v) n b (in_width v n (admitted v n h)), rest (width v) n b, admitted v n h) refl
next_is v n (named s) h = rw (is_own v, admitted v n h) refl

by_admitted : (b : Bool) (m n : ℕ) (s t : Left) → ◌≡◌ {A = Option (ℕ × Left)} (if b then Some (m, s) else None) (Some (n, t)) → (b ≡ true) × (m ≡ n) × (s ≡ t)
by_admitted true m n s t h = let p = some_pair m n s t h in (refl, p.0, p.1)
by_admitted false m n s t h = absurd cc

by_room : (r : Bool) (w n : ℕ) (b : List Bool) → nat_le (0 + w) (length b) ≡ r → ◌≡◌ {A = Option ℕ} (if r then Some (value (take w b)) else None) (Some n) → b ≡ num w n ++ drop w b
by_room true w n b e h =
    let many : length (take w b) ≡ w = length-take-le w b (omega (arith, leb-true (0 + w) (length b) e)) in
    let is : value (take w b) ≡ n = cc in
    let bits : num w n ≡ take w b = rw (is, many) at (num-value (take w b)) in
    rw bits (sym (take-append-drop w b))
by_room false w n b e h = absurd cc

number_in_bits : (w n : ℕ) (b : List Bool) → number_at 0 w b ≡ Some n → b ≡ num w n ++ drop w b
number_in_bits w n b h = by_room (nat_le (0 + w) (length b)) w n b refl h

pub next_sound : (v : Var) (n : ℕ) (s t : Left) → next_number v s ≡ Some (n, t) → (number_fault v n ≡ None) × (s ≡ ahead ((v, n) ∷ []) t)
unfolding next_number
next_sound v n (listed []) t h = absurd cc
next_sound v n (listed (m ∷ f)) t h =
    let a = by_admitted (admits v m) m n (listed f) t h in
    (number_ok v n (rw a.1 at a.0), rw (← a.2, a.1) refl)
next_sound v n (in_bits b) t h =
    let o = taken (number_at 0 (width v) b) (λ m. admitted_of v m (in_bits (drop (width v) b))) (n, t) h in
    let a = by_admitted (admits v o.0) o.0 n (in_bits (drop (width v) b)) t o.2 in
    (number_ok v n (rw a.1 at a.0), rw (← a.2, append-nil (num (width v) n)) (ap in_bits (number_in_bits (width v) n b (o.1 ∙ ap Some a.1))))
next_sound v n (named []) t h = absurd cc
next_sound v n (named (p ∷ s)) t h =
    let own = by_name (is_of v p.0) (admitted_of v p.1 (named s)) (n, t) h in
    let a = by_admitted (admits v p.1) p.1 n (named s) t own.1 in
    (number_ok v n (rw a.1 at a.0), rw (← a.2, was_own v p.0 own.0, ← a.1) refl)

-- ---- A flag.

flag_here : (b : Bool) (s : Left) → flag_of (bit b) s ≡ Some (b, s)
flag_here true s = refl
flag_here false s = refl

flag_was : (n : ℕ) (b : Bool) (s t : Left) → flag_of n s ≡ Some (b, t) → (n ≡ bit b) × (s ≡ t)
flag_was zero b s t h = let p = some_pair false b s t h in (ap bit p.0, p.1)
flag_was (suc zero) b s t h = let p = some_pair true b s t h in (ap bit p.0, p.1)
flag_was (suc (suc n)) b s t h = absurd cc

pub flag_is : (v : Var) (b : Bool) (s : Left) → width v ≡ 1 → next_flag v (ahead ((v, bit b) ∷ []) s) ≡ Some (b, s)
unfolding next_flag num
flag_is v b (listed f) h = flag_here b (listed f)
flag_is v true (in_bits b) h = rw h refl
flag_is v false (in_bits b) h = rw h refl
flag_is v b (named s) h = rw (is_own v) (flag_here b (named s))

pub flag_sound : (v : Var) (b : Bool) (s t : Left) → width v ≡ 1 → next_flag v s ≡ Some (b, t) → s ≡ ahead ((v, bit b) ∷ []) t
unfolding next_flag num
flag_sound v b (listed []) t h e = absurd cc
flag_sound v b (listed (n ∷ f)) t h e = let p = flag_was n b (listed f) t e in rw (p.0, ← p.1) refl
flag_sound v b (in_bits []) t h e = absurd cc
flag_sound v b (in_bits (true ∷ f)) t h e = let p = some_pair true b (in_bits f) t e in rw (← p.0, ← p.1, h) refl
flag_sound v b (in_bits (false ∷ f)) t h e = let p = some_pair false b (in_bits f) t e in rw (← p.0, ← p.1, h) refl
flag_sound v b (named []) t h e = absurd cc
flag_sound v b (named (p ∷ s)) t h e =
    let own = by_name (is_of v p.0) (flag_of p.1 (named s)) (b, t) e in
    let f = flag_was p.1 b (named s) t own.1 in
    rw (← f.1, was_own v p.0 own.0, ← f.0) refl
