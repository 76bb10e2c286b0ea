-- Where an item was cut short, by a refusal and an account.
use Rattle.std.proofs.Common.{◌≡◌, ℕ, ◌+◌, ◌*◌, ◌/◌, ◌<◌, ◌≤◌, Bool, true, false, ltb, List, [], ◌++◌, length, take, drop, refl, sym, ap, subst, ◌∙◌, arith, append_assoc, inl, inr}
use Rattle.std.specs.Prelude.{Option, Some, None, is_some, IsTrue, ◌↔◌}
use Rattle.std.proofs.lemmas.Bool.{both_ways, false≢true, ltb-true, lt-ltb}
use Rattle.std.proofs.lemmas.List.{append-nil, length-append, length-take, length-take-le, take-take, take-append-drop, nil_from_length}
use Rattle.etcs_bits.specs.Bits.{bits}
use Rattle.etcs_bits.proofs.Owned.{bits-take}
use Rattle.etcs_bits.proofs.Positions.{length-bits}
use Rattle.etcs_vars.specs.Reading.{Reading, spelled, InLanguage, NoneYet, readings_of}
use Rattle.etcs_vars.proofs.Apart.{apart}
use Rattle.etcs_vars.proofs.Outcomes.{viable_front, more_wanted, none_refused}
use Rattle.etcs_rows.specs.declared.refusal.Refusal.{Refusal}
use Rattle.etcs_rows.specs.Refusals.{FindsRefusal}
use Rattle.etcs_text.specs.declared.entry.Kind.{Kind}
use Rattle.etcs_text.specs.Entries.{EntryReads}
use Rattle.etcs_text.proofs.ItemKinds.{kind_regular}
use Rattle.etcs_text.proofs.ItemLengths.{item_length, whole_item}
use Rattle.etcs_text.specs.declared.account.End.{End}
use Rattle.etcs_text.specs.declared.account.End.TheVariants.{Whole, Open, Refused}
use Rattle.etcs_text.specs.declared.account.Part.{Part}
use Rattle.etcs_text.specs.Accounts.{Accounts}
use Rattle.etcs_explain.specs.Kinds.{kind_of}
use Rattle.etcs_explain.specs.Cuts.{AreOpen, AreRefused, awaited, IsFront, is_kept, BeginsItem, IsCut}

-- the account of the bytes ends so
abbrev EndsSo : Kind → Reading → List ℕ → End → Type 0
EndsSo kind p bytes e = Accounts (readings_of (EntryReads kind)) p e (take 8184 (bits bytes))

-- ---- The first bytes.

-- an item's are its bits
front_bits : (kind : Kind) (bytes : List ℕ) (n : ℕ) → IsFront kind bytes n → InLanguage (readings_of (EntryReads kind)) (take (8 * n) (take 8184 (bits bytes))) × (8 * n ≤ length (take 8184 (bits bytes)))
front_bits kind bytes n (within, e, (r, reads, is)) =
    let long = item_length kind e r reads in
    let same : length (spelled r) ≡ 8 * n = ap length is ∙ length-bits (take n bytes) ∙ ap (λ (k : ℕ). 8 * k) (length-take-le n bytes within) in
    let small : 8 * n ≤ 8184 = omega (arith, long.1, same) in
    ((r, (e, reads), is ∙ bits-take bytes n within ∙ sym (take-take (8 * n) 8184 (bits bytes) small)), omega (arith, small, within, length-take 8184 (bits bytes), length-bits bytes))

no_front : (kind : Kind) (bytes : List ℕ) (n : ℕ) → NoneYet (readings_of (EntryReads kind)) (take 8184 (bits bytes)) → IsFront kind bytes n → ⊥
no_front kind bytes n none front = let (l, le) = front_bits kind bytes n front in none (8 * n) le l

-- two items that bytes begin with have as many
front_same : (kind : Kind) (bytes : List ℕ) (m n : ℕ) → IsFront kind bytes m → IsFront kind bytes n → m ≡ n
front_same kind bytes m n f g =
    let b = take 8184 (bits bytes) in
    let regular = kind_regular kind in
    let ((p, l, is), le) = front_bits kind bytes m f in
    let ((q, k, are), most) = front_bits kind bytes n g in
    let both : spelled p ++ drop (8 * m) b ≡ spelled q ++ drop (8 * n) b =
    ap (λ (z : List Bool). z ++ drop (8 * m) b) is ∙ take-append-drop (8 * m) b ∙ sym (ap (λ (z : List Bool). z ++ drop (8 * n) b) are ∙ take-append-drop (8 * n) b) in
    let same = ap (λ (z : Reading). length (spelled z)) (apart p q _ _ (regular.agree p q l k) (regular.fit p l) (regular.fit q k) both).0 in
    omega (arith, same, ap length is, ap length are, length-take-le (8 * m) b le, length-take-le (8 * n) b most)

-- what an item continues isn't one, and doesn't begin with one
open_whole : (kind : Kind) (bytes : List ℕ) → AreOpen kind bytes → (p : Reading) → readings_of (EntryReads kind) p → (k : ℕ) → spelled p ≡ take k (take 8184 (bits bytes)) → ⊥
open_whole kind bytes ((r, c, l, e), none) p m k is =
    let b = take 8184 (bits bytes) in
    let regular = kind_regular kind in
    let both : spelled p ++ (drop k b ++ c) ≡ spelled r ++ [] =
    ap (λ (z : List Bool). z ++ (drop k b ++ c)) is ∙ sym (append_assoc (take k b) (drop k b) c) ∙ ap (λ (z : List Bool). z ++ c) (take-append-drop k b) ∙ sym e ∙ sym (append-nil (spelled r)) in
    let (same, gone) = apart p r (drop k b ++ c) [] (regular.agree p r m l) (regular.fit p m) (regular.fit r l) both in
    let rest : drop k b ≡ [] = nil_from_length (drop k b) (omega (arith, ap length gone, length-append (drop k b) c)) in
    none (p, m, is ∙ sym (append-nil (take k b)) ∙ ap (λ (z : List Bool). take k b ++ z) (sym rest) ∙ take-append-drop k b)

-- ---- What an account says of a line.

pub begins_whole : (kind : Kind) (p : Reading) (line : List ℕ) (n : ℕ) (longer : Type 0) → EndsSo kind p line Whole → n ≡ length (spelled p) / 8 → ((IsTrue (is_kept kind line) → n ≡ length line) ↔ BeginsItem kind line longer)
begins_whole kind p line n longer a n_is =
    let w = whole_item kind p line n a n_is in
    let front : IsFront kind line n = (w.1, w.2, w.3) in (
      (λ all. inl (n, front, all)),
      (λ begins. elim begins [
        | inl f ↦ let same = front_same kind line n f.0 front f.1 in λ is. same ∙ f.2 is
        | inr o ↦ absurd (open_whole kind line o.0 p a.0 a.1 a.3)
      ]),
    )

pub begins_open : (kind : Kind) (p : Reading) (line : List ℕ) (part : Part) (longer : Type 0) → EndsSo kind p line (Open part) → ((longer × (is_kept kind line ≡ false)) ↔ BeginsItem kind line longer)
begins_open kind p line part longer a = (
  (λ both. inr ((a.1.viable, a.1.open_end), both.0, both.1)),
  (λ begins. elim begins [
    | inl f ↦ absurd (no_front kind line f.0 (more_wanted (readings_of (EntryReads kind)) (kind_regular kind) (take 8184 (bits line)) a.1).0 f.1)
    | inr o ↦ (o.1, o.2)
  ]),
)

pub refused_begins : (kind : Kind) (line : List ℕ) (longer : Type 0) → AreRefused kind line → BeginsItem kind line longer → ⊥
refused_begins kind line longer (i, x, r) begins = elim begins [
  | inl f ↦ no_front kind line f.0 (none_refused (readings_of (EntryReads kind)) (kind_regular kind) (take 8184 (bits line)) i x r) f.1
  | inr o ↦ r.blocked (viable_front (readings_of (EntryReads kind)) (i + 1) (take 8184 (bits line)) o.0.0)
]

pub begins_refused : (kind : Kind) (p : Reading) (line : List ℕ) (bit : ℕ) (part : Part) (longer : Type 0) → EndsSo kind p line (Refused bit part) → BeginsItem kind line longer → ⊥
begins_refused kind p line bit part longer a = refused_begins kind line longer (bit, part.var, a.1)

-- ---- Cuts.

pub are_refused : (kind : Kind) (bytes : List ℕ) (r : Option Refusal) → FindsRefusal (readings_of (EntryReads kind)) (take 8184 (bits bytes)) r → (IsTrue (is_some r) ↔ AreRefused kind bytes)
are_refused kind bytes (Some r) found = ((λ is. (r.bit, r.var, found.0)), (λ h. refl))
are_refused kind bytes None found = ((λ is. absurd (false≢true is)), (λ h. absurd (found h.0 h.1 h.2)))

-- nothing is cut
pub none_cut : (asked : Option Kind) (line : List ℕ) → IsCut asked [] line → ⊥
none_cut asked line (refused, begins) = refused_begins (kind_of asked line) line _ refused begins

begins_along : (kind : Kind) (line : List ℕ) (p q : Type 0) → (p → q) → BeginsItem kind line p → BeginsItem kind line q
begins_along kind line p q f (inl front) = inl front
begins_along kind line p q f (inr o) = inr (o.0, f o.1, o.2)

module _ (asked : Option Kind) (held line all : List ℕ) (all_is : all ≡ held ++ line) (kind own : Kind) (kind_is : kind ≡ kind_of asked all) (own_is : own ≡ kind_of asked line) (n len : ℕ) (n_is : n ≡ awaited kind all) (len_is : len ≡ length all) (begins : Bool) (says : IsTrue begins ↔ BeginsItem own line (ltb n len ≡ true)) where
  abbrev both : List ℕ
  both = held ++ line

  abbrev IsLonger : Type 0
  IsLonger = awaited (kind_of asked both) both < length both

  n_at : n ≡ awaited (kind_of asked both) both
  n_at = n_is ∙ ap (λ (z : Kind). awaited z all) kind_is ∙ ap (λ (z : List ℕ). awaited (kind_of asked z) z) all_is

  len_at : len ≡ length both
  len_at = len_is ∙ ap length all_is

  to : ltb n len ≡ true → IsLonger
  to is = omega (arith, ltb-true n len is, n_at, len_at)

  from : IsLonger → ltb n len ≡ true
  from is = lt-ltb n len (omega (arith, is, n_at, len_at))

  pub cut_then : (r b : Bool) → begins ≡ true → (IsTrue r ↔ AreRefused kind all) → b ≡ r → (IsTrue b ↔ IsCut asked held line)
  cut_then r b is refuses same = (
    (λ yes.
        let refused = subst (λ (z : Kind). AreRefused z all) kind_is (refuses.0 (sym same ∙ yes)) in
        (subst (λ (z : List ℕ). AreRefused (kind_of asked z) z) all_is refused, subst (λ (z : Kind). BeginsItem z line IsLonger) own_is (begins_along own line _ _ to (says.0 is)))),
    (λ cut. same ∙ refuses.1 (subst (λ (z : Kind). AreRefused z all) (sym kind_is) (subst (λ (z : List ℕ). AreRefused (kind_of asked z) z) (sym all_is) cut.0))),
  )

  pub cut_else : (b : Bool) → begins ≡ false → b ≡ false → (IsTrue b ↔ IsCut asked held line)
  cut_else b is none = (
    (λ yes. absurd (both_ways b none yes)),
    (λ cut. absurd (both_ways begins is (says.1 (begins_along own line _ _ from (subst (λ (z : Kind). BeginsItem z line IsLonger) (sym own_is) cut.1))))),
  )
