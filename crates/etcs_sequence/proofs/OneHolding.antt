-- What a reader of any language holds is given by the bits that it has seen.
use Rattle.std.proofs.Common.{◌≡◌, ℕ, ◌+◌, ◌^◌, ◌<◌, Bool, List, [], ◌∷◌, ◌++◌, length, refl, sym, ap, subst, ◌∙◌, arith, length-append}
use Rattle.etcs_bits.specs.Bits.{num}
use Rattle.etcs_bits.proofs.Numbers.{length-num, num_same}
use Rattle.etcs_vars.specs.declared.var.Var.{Var}
use Rattle.etcs_vars.specs.Vars.{width}
use Rattle.etcs_vars.specs.Reading.{Sent, Reading, spelled}
use Rattle.etcs_vars.proofs.Apart.{cut}
use Rattle.etcs_vars.proofs.Sent.{length-sent}
use Rattle.etcs_sequence.specs.Holdings.{HeldIn}

pub sent_parts : (v w : Var) (n m : ℕ) (r s : Reading) → ◌≡◌ {A = Reading} ((v, n) ∷ r) ((w, m) ∷ s) → (v ≡ w) × (n ≡ m) × (r ≡ s)
sent_parts v w n m r s e =
    let head : ◌≡◌ {A = Sent} (v, n) (w, m) = cc in
    let rest : r ≡ s = cc in
    (ap (λ (u : Sent). u.0) head, ap (λ (u : Sent). u.1) head, rest)

-- a variable that isn't whole begins no whole one
part_below : (x v : Var) (n m : ℕ) (q a t : Reading) (taken more : ℕ) → ◌≡◌ {A = Reading} ((x, n) ∷ q) ((v, m) ∷ t) → taken ≡ length (spelled ((v, m) ∷ a)) + more → taken < width x → ⊥
part_below x v n m q a t taken more e l s =
    let wide = ap width (sent_parts x v n m q t e).0 in
    omega (arith, l, s, wide, length-sent v m a)

fronts_same : (a b : Reading) (x y : Var) (n m : ℕ) (q r : Reading) (taken taken' : ℕ) → a ++ (x, n) ∷ q ≡ b ++ (y, m) ∷ r → length (spelled a) + taken ≡ length (spelled b) + taken' → taken < width x → taken' < width y → a ≡ b
fronts_same [] [] x y n m q r taken taken' e l s t = refl
fronts_same [] ((v, k) ∷ b) x y n m q r taken taken' e l s t = absurd (part_below x v n k q b (b ++ (y, m) ∷ r) taken taken' e (omega (arith, l)) s)
fronts_same ((v, k) ∷ a) [] x y n m q r taken taken' e l s t = absurd (part_below y v m k r a (a ++ (x, n) ∷ q) taken' taken (sym e) (omega (arith, l)) t)
fronts_same ((v, k) ∷ a) ((w, i) ∷ b) x y n m q r taken taken' e l s t =
    let (v_is, k_is, rest) = sent_parts v w k i (a ++ (x, n) ∷ q) (b ++ (y, m) ∷ r) e in
    let wide = ap width v_is in
    let f = fronts_same a b x y n m q r taken taken' rest (omega (arith, l, wide, length-sent v k a, length-sent w i b)) s t in
    rw (v_is, k_is, f) refl

-- the same bits are held as the same whole variables and the same bits of the next one
pub one_held : (L Members Others : Reading → Type 0) (b : List Bool) (part part' taken taken' : ℕ) → (h : HeldIn L Members b part taken) → (i : HeldIn L Others b part' taken') → (h.far ≡ i.far) × (part ≡ part') × (taken ≡ taken')
one_held L Members Others b part part' taken taken' h i =
    let (r, c, lang, e) = h.owned.viable in
    let (n, q, whole) = h.begins r c lang e in
    let (m, q', whole') = i.begins r c lang e in
    let bits = sym h.bits ∙ i.bits in
    let long = ap (λ (u : List Bool). length u) bits in
    let lengths : length (spelled h.far) + taken ≡ length (spelled i.far) + taken' = omega (arith, long, length-append (spelled h.far) (num taken part), length-append (spelled i.far) (num taken' part'), length-num taken part, length-num taken' part') in
    let far = fronts_same h.far i.far h.next i.next n m q q' taken taken' (sym whole ∙ whole') lengths h.short i.short in
    let front = ap (λ (u : Reading). length (spelled u)) far in
    let count : taken ≡ taken' = omega (arith, lengths, front) in
    let bit = (cut (spelled h.far) (spelled i.far) (num taken part) (num taken' part') front bits).1 in
    let number = num_same taken part part' h.fits (subst (λ (j : ℕ). part' < 2 ^ j) (sym count) i.fits) (bit ∙ ap (λ (j : ℕ). num j part') (sym count)) in
    (far, number, count)
