-- The lengths of a message are those that leave what may be left after its row.
use Rattle.std.proofs.Common.{◌≡◌, ℕ, ◌+◌, ◌-◌, ◌*◌, ◌/◌, ◌^◌, ◌<◌, ◌≤◌, Bool, true, false, Option, Some, None, [], refl, sym, arith, inl, inr, subst, leb}
use Rattle.std.specs.Prelude.{◌↔◌, IsTrue, ◌&&◌, ◌||◌, nat_le}
use Rattle.std.specs.List.{list_all}
use Rattle.std.proofs.lemmas.Bool.{and_parts, and_from, or_cases, or_left, or_right, leb-true, le-leb}
use Rattle.etcs_vars.specs.declared.var.Var.{Var}
use Rattle.etcs_vars.specs.Vars.{inside}
use Rattle.etcs_vars.proofs.Prefixes.{some_number, admits_from}
use Rattle.etcs_tables.specs.declared.row.Way.{Way}
use Rattle.etcs_tables.specs.declared.row.Way.TheVariants.{ToTrain, ToTrack}
use Rattle.etcs_rows.specs.declared.frames.Carrier.TheVariants.{Message}
use Rattle.etcs_tables.specs.Layouts.{Layout, whole, one, guarded, counted, looks, Lengths}
use Rattle.etcs_tables.specs.Rows.{message_row_to, message_rows_to}
use Rattle.etcs_rows.specs.Frames.{Leaves}
use Rattle.etcs_rows.specs.Lengths.{LengthsBy}
use Rattle.etcs_tables.specs.Frames.{frame_bits}
use Rattle.etcs_tables.specs.MessageRows.{header_bits, row_bits, after_bits, lengths_after}
use Rattle.etcs_rows.specs.Messages.{MessageLengthFits}
use Rattle.etcs_tables.proofs.EachRow.{of_each}
use Rattle.etcs_rows.proofs.LengthLemmas.{lengths_are}

-- ---- Rows of variables without groups.

abbrev pub is_flat : Layout → Bool
is_flat whole = true
is_flat (one v rest) = is_flat rest
is_flat (guarded g group rest) = false
is_flat (counted group rest) = false

flat_looks : (row : Layout) (last : Option Var) → is_flat row ≡ true → IsTrue (looks last row)
flat_looks whole last h = refl
flat_looks (one v rest) last h = flat_looks rest (Some v) h
flat_looks (guarded g group rest) last h = absurd cc
flat_looks (counted group rest) last h = absurd cc

row_lengths : (row : Layout) (n m : ℕ) → is_flat row ≡ true → LengthsBy row n m ↔ (m ≡ row_bits row)
unfolding LengthsBy
row_lengths whole n m h = (λ e. e, λ e. e)
row_lengths (one v rest) n m h = (
  λ (k, j, a, l, e). omega (arith, e, (row_lengths rest k j h).0 l),
  λ e. let x = some_number v in (x.0, row_bits rest, admits_from v x.0 x.1 x.2, (row_lengths rest x.0 (row_bits rest) h).1 refl, sym e),
)
row_lengths (guarded g group rest) n m h = absurd cc
row_lengths (counted group rest) n m h = absurd cc

-- a row without groups has one length
pub flat_lengths : (row : Layout) (m : ℕ) → is_flat row ≡ true → row_bits row ≤ 8191 → Lengths row [] m ↔ (m ≡ row_bits row)
flat_lengths row m flat short =
    let all = lengths_are row (flat_looks row None flat) m in
    let one = row_lengths row 0 m flat in
    (λ l. one.0 (all.0 l).0, λ e. all.1 (one.1 e, omega (arith, e, short)))

-- ---- Ranges.

within : (low high l : ℕ) → IsTrue (nat_le low l && nat_le l high) ↔ ((low ≤ l) × (l ≤ high))
within low high l = (
  λ h. let p = and_parts (leb low l) (leb l high) h in (leb-true low l p.0, leb-true l high p.1),
  λ (a, b). and_from (leb low l) (leb l high) (le-leb low l a) (le-leb l high b),
)

-- the two ranges after this many bits
beyond_fits : (way : Way) (bits l : ℕ) → bits ≤ 8000 → IsTrue (inside (after_bits way bits) l) ↔ ((l < 2 ^ 10) × Leaves (Message way) (8 * l) bits)
beyond_fits way bits l short =
    let n = frame_bits way in
    let a = (bits + 7) / 8 in
    let b = (bits + (n + 7)) / 8 in
    let first = leb a l && leb l a in
    let more = leb b l && leb l 1023 in
    let pad = leb (8 * l - bits) 7 in
    let frame = leb n (8 * l - bits) in (
      λ h. elim (or_cases first (more || false) h) [
        | inl x ↦ (let p = (within a a l).0 x in (omega (arith, p.0, p.1), (omega (arith, p.0, p.1), or_left pad frame (le-leb (8 * l - bits) 7 (omega (arith, p.0, p.1))))))
        | inr y ↦ elim (or_cases more false y) [
          | inl x ↦ (let p = (within b 1023 l).0 x in (omega (arith, p.1), (omega (arith, p.0), or_right pad frame (le-leb n (8 * l - bits) (omega (arith, p.0))))))
          | inr z ↦ absurd cc
        ]
      ],
      λ (small, (room, left)). elim (or_cases pad frame left) [
        | inl x ↦ (let k : 8 * l - bits ≤ 7 = leb-true (8 * l - bits) 7 x in or_left first (more || false) ((within a a l).1 (omega (arith, k, room), omega (arith, k, room))))
        | inr x ↦ (let k : n ≤ 8 * l - bits = leb-true n (8 * l - bits) x in or_right first (more || false) (or_left more false ((within b 1023 l).1 (omega (arith, k, room), omega (arith, small)))))
      ],
    )

kept_fits : (way : Way) (l : ℕ) → IsTrue (inside (lengths_after way None) l) ↔ ((l < 2 ^ 10) × (3 ≤ l))
kept_fits way l =
    let all = leb 3 l && leb l 1023 in (
      λ h. elim (or_cases all false h) [
        | inl x ↦ (let p = (within 3 1023 l).0 x in (omega (arith, p.1), p.0))
        | inr x ↦ absurd cc
      ],
      λ (small, least). or_left all false ((within 3 1023 l).1 (least, omega (arith, small))),
    )

-- ---- The rows of messages.

-- no group, and few bits
abbrev IsShort : Option Layout → Type 0
IsShort None = Unit {0}
IsShort (Some row) = (is_flat row ≡ true) × (row_bits row ≤ 100)

abbrev short : ℕ → Layout → Bool
short nid row = is_flat row && leb (row_bits row) 100

all_short : (way : Way) → list_all (λ p. short p.0 p.1) (message_rows_to way) ≡ true
all_short ToTrain = refl
all_short ToTrack = refl

rows_short : (way : Way) (nid : ℕ) (o : Option Layout) → message_row_to way nid ≡ o → IsShort o
rows_short way nid None is = tt
rows_short way nid (Some row) is =
    let both = and_parts (is_flat row) (leb (row_bits row) 100) (of_each short (message_rows_to way) nid row (all_short way) is) in
    (both.0, leb-true (row_bits row) 100 both.1)

-- nor have a header and a frame many
few_bits : (way : Way) → (header_bits way ≤ 100) × (frame_bits way ≤ 100)
few_bits ToTrain = (omega arith, omega arith)
few_bits ToTrack = (omega arith, omega arith)

typed_fits : (way : Way) (nid l : ℕ) (row : Layout) → message_row_to way nid ≡ Some row → is_flat row ≡ true → row_bits row ≤ 100 → ((l < 2 ^ 10) × Leaves (Message way) (8 * l) (header_bits way + row_bits row)) ↔ MessageLengthFits way nid l
typed_fits way nid l row e flat short = (
  λ (small, leaves). (small, inl (row, row_bits row, e, (flat_lengths row (row_bits row) flat (omega (arith, short))).1 refl, leaves)),
  λ (small, fits). elim fits [
    | inl (other, m, f, lengths, leaves) ↦
        let same : other ≡ row = cc in
        let is : m ≡ row_bits row = (flat_lengths row m flat (omega (arith, short))).0 (subst (λ (x : Layout). Lengths x [] m) same lengths) in
        (small, subst (λ (k : ℕ). Leaves (Message way) (8 * l) (header_bits way + k)) is leaves)
    | inr (none, least) ↦ absurd cc
  ],
)

untyped_fits : (way : Way) (nid l : ℕ) → message_row_to way nid ≡ None → ((l < 2 ^ 10) × (3 ≤ l)) ↔ MessageLengthFits way nid l
untyped_fits way nid l e = (
  λ (small, least). (small, inr (e, least)),
  λ (small, fits). elim fits [
    | inl (row, m, f, lengths, leaves) ↦ absurd cc
    | inr (none, least) ↦ (small, least)
  ],
)

fits_as : (way : Way) (nid : ℕ) (o : Option Layout) → message_row_to way nid ≡ o → IsShort o → (l : ℕ) → IsTrue (inside (lengths_after way o) l) ↔ MessageLengthFits way nid l
fits_as way nid None e short l =
    let k = kept_fits way l in let m = untyped_fits way nid l e in (λ h. m.0 (k.0 h), λ h. k.1 (m.1 h))
fits_as way nid (Some row) e short l =
    let k = beyond_fits way (header_bits way + row_bits row) l (omega (arith, short.1, (few_bits way).0)) in
    let m = typed_fits way nid l row e short.0 short.1 in (λ h. m.0 (k.0 h), λ h. k.1 (m.1 h))

pub lengths_fit : (way : Way) (nid l : ℕ) → IsTrue (inside (lengths_after way (message_row_to way nid)) l) ↔ MessageLengthFits way nid l
lengths_fit way nid l = fits_as way nid (message_row_to way nid) refl (rows_short way nid (message_row_to way nid) refl) l

ordered_after : (way : Way) (o : Option Layout) → IsShort o → IsTrue (list_all (λ r. nat_le r.0 r.1) (lengths_after way o))
ordered_after way None h = refl
ordered_after way (Some row) h =
    let bits = header_bits way + row_bits row in
    let a = (bits + 7) / 8 in
    let b = (bits + (frame_bits way + 7)) / 8 in
    let few = few_bits way in
    and_from (leb a a) (leb b 1023 && true) (le-leb a a (omega arith)) (and_from (leb b 1023) true (le-leb b 1023 (omega (arith, h.1, few.0, few.1))) refl)

pub lengths_ordered : (way : Way) (nid : ℕ) → IsTrue (list_all (λ r. nat_le r.0 r.1) (lengths_after way (message_row_to way nid)))
lengths_ordered way nid = ordered_after way (message_row_to way nid) (rows_short way nid (message_row_to way nid) refl)
