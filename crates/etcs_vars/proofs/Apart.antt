-- Readings that part only at the number of one variable, and why no spelling begins another.
use Rattle.std.proofs.Common.{◌≡◌, ℕ, zero, suc, ◌^◌, ◌<◌, Bool, List, [], ◌∷◌, ◌++◌, length, take, drop, refl, sym, ap, ◌∙◌, append_assoc}
use Rattle.std.proofs.lemmas.List.{take_at, drop_at}
use Rattle.etcs_bits.specs.Bits.{num}
use Rattle.etcs_bits.proofs.Numbers.{length-num, num_same}
use Rattle.etcs_vars.specs.Vars.{width}
use Rattle.etcs_vars.specs.Reading.{Sent, Reading, spelled, Then, Times}

-- equal, or parting first at two numbers of one variable
abbrev pub Agree : Reading → Reading → Type 0
Agree [] [] = Unit {0}
Agree [] (q ∷ qs) = ⊥
Agree (p ∷ ps) [] = ⊥
Agree (p ∷ ps) (q ∷ qs) = (p.0 ≡ q.0) × (p ≡ q → Agree ps qs)

-- each number has its variable's width
abbrev pub AllFit : Reading → Type 0
AllFit [] = Unit {0}
AllFit (p ∷ ps) = (p.1 < 2 ^ width p.0) × AllFit ps

pub Agree-same : (r : Reading) → Agree r r
Agree-same [] = tt
Agree-same (p ∷ r) = (refl, λ _. Agree-same r)

pub Agree-append : (a b c d : Reading) → Agree a b → (a ≡ b → Agree c d) → Agree (a ++ c) (b ++ d)
Agree-append [] [] c d h k = k refl
Agree-append [] (q ∷ b) c d h k = elim h [ ]
Agree-append (p ∷ a) [] c d h k = elim h [ ]
Agree-append (p ∷ a) (q ∷ b) c d h k = (h.0, λ e. Agree-append a b c d (h.1 e) (λ f. k (let g : p ∷ a ≡ q ∷ b = cc in g)))

pub AllFit-append : (a b : Reading) → AllFit a → AllFit b → AllFit (a ++ b)
AllFit-append [] b h k = k
AllFit-append (p ∷ a) b h k = (h.0, AllFit-append a b h.1 k)

-- lists with fronts of one length
pub cut : {A : Type 0} (xs ys us vs : List A) → length xs ≡ length ys → xs ++ us ≡ ys ++ vs → (xs ≡ ys) × (us ≡ vs)
cut xs ys us vs l e = (
  sym (take_at xs us (length xs) refl) ∙ ap (take (length xs)) e ∙ take_at ys vs (length xs) (sym l),
  sym (drop_at xs us (length xs) refl) ∙ ap (drop (length xs)) e ∙ drop_at ys vs (length xs) (sym l),
)

-- no spelling of one begins a spelling of the other, unless they are one
pub apart : (r r' : Reading) (c d : List Bool) → Agree r r' → AllFit r → AllFit r' → spelled r ++ c ≡ spelled r' ++ d → (r ≡ r') × (c ≡ d)
apart [] [] c d h f g e = (refl, e)
apart [] (q ∷ r') c d h f g e = elim h [ ]
apart (p ∷ r) [] c d h f g e = elim h [ ]
apart ((v, n) ∷ r) ((w, m) ∷ r') c d h f g e =
    let same : v ≡ w = h.0 in
    let widths : length (num (width v) n) ≡ length (num (width w) m) = length-num (width v) n ∙ ap width same ∙ sym (length-num (width w) m) in
    let e' : num (width v) n ++ (spelled r ++ c) ≡ num (width w) m ++ (spelled r' ++ d) = sym (append_assoc (num (width v) n) (spelled r) c) ∙ e ∙ append_assoc (num (width w) m) (spelled r') d in
    let parts = cut (num (width v) n) (num (width w) m) (spelled r ++ c) (spelled r' ++ d) widths e' in
    let first : num (width v) n ≡ num (width v) m = parts.0 ∙ ap (λ k. num (width k) m) (sym same) in
    let fits : m < 2 ^ width v = rw same g.0 in
    let number : n ≡ m = num_same (width v) n m f.0 fits first in
    let head : ◌≡◌ {A = Sent} (v, n) (w, m) = cc in
    let rest = apart r r' c d (h.1 head) f.1 g.1 parts.1 in
    let tail : r ≡ r' = rest.0 in
    let whole : ◌≡◌ {A = Reading} ((v, n) ∷ r) ((w, m) ∷ r') = cc in
    (whole, rest.1)

pub Then-agree : (P Q P' Q' : Reading → Type 0) → ((a b : Reading) → P a → P' b → Agree a b) → ((a b : Reading) → Q a → Q' b → Agree a b) → (a b : Reading) → Then P Q a → Then P' Q' b → Agree a b
Then-agree P Q P' Q' p q a b (a1, a2, ea, pa, qa) (b1, b2, eb, pb, qb) = rw (ea, eb) (Agree-append a1 b1 a2 b2 (p a1 b1 pa pb) (λ _. q a2 b2 qa qb))

pub Times-agree : (n : ℕ) (P : Reading → Type 0) → ((a b : Reading) → P a → P b → Agree a b) → (a b : Reading) → Times n P a → Times n P b → Agree a b
Times-agree zero P p a b ha hb = rw (ha, hb) tt
Times-agree (suc n) P p a b ha hb = Then-agree P (Times n P) P (Times n P) p (Times-agree n P p) a b ha hb

pub Then-fit : (P Q : Reading → Type 0) → ((a : Reading) → P a → AllFit a) → ((a : Reading) → Q a → AllFit a) → (a : Reading) → Then P Q a → AllFit a
Then-fit P Q p q a (a1, a2, e, pa, qa) = rw e (AllFit-append a1 a2 (p a1 pa) (q a2 qa))

pub Times-fit : (n : ℕ) (P : Reading → Type 0) → ((a : Reading) → P a → AllFit a) → (a : Reading) → Times n P a → AllFit a
Times-fit zero P p a h = rw h tt
Times-fit (suc n) P p a h = Then-fit P (Times n P) p (Times-fit n P p) a h

-- readings that agree are cut alike
pub Agree-cut : (a b c d : Reading) → Agree a b → a ++ c ≡ b ++ d → (a ≡ b) × (c ≡ d)
Agree-cut [] [] c d h e = (refl, e)
Agree-cut [] (q ∷ b) c d h e = elim h [ ]
Agree-cut (p ∷ a) [] c d h e = elim h [ ]
Agree-cut (p ∷ a) (q ∷ b) c d h e =
    let head : p ≡ q = cc in
    let tails : a ++ c ≡ b ++ d = cc in
    let rest = Agree-cut a b c d (h.1 head) tails in
    ((let t : a ≡ b = rest.0 in let u : ◌≡◌ {A = Reading} (p ∷ a) (q ∷ b) = cc in u), rest.1)
