-- Numbers and lengths of packets that still fit.
use Rattle.std.proofs.Common.{◌≡◌, ℕ, ◌+◌, ◌-◌, ◌*◌, ◌/◌, ◌^◌, ◌<◌, ◌≤◌, Option, Some, None, List, [], refl, sym, ap, ◌∙◌, subst, arith, inl, inr, pow_pos}
use Rattle.std.specs.Prelude.{◌↔◌, IsTrue, Bool, false, not, is_some}
use Rattle.std.specs.Option.{option_map}
use Rattle.std.proofs.Math.Nat.{le-div_iff_mul-le, div-lt_iff_lt-mul}
use Rattle.etcs_vars.proofs.Prefixes.{below_quotient}
use Rattle.etcs_tables.specs.declared.item.RowItem.{RowItem}
use Rattle.etcs_tables.specs.declared.row.Way.{Way}
use Rattle.etcs_rows.specs.declared.frames.Carrier.{Carrier}
use Rattle.etcs_rows.specs.declared.frames.Windows.{Windows}
use Rattle.etcs_tables.specs.Layouts.{Layout, Lengths, items, layout}
use Rattle.etcs_tables.specs.laws.Flat.{layout-items}
use Rattle.etcs_tables.specs.Rows.{row_to}
use Rattle.etcs_rows.proofs.PlaceLemmas.{and_both}
use Rattle.etcs_tables.specs.Frames.{frame_bits, is_framed, is_kept}
use Rattle.etcs_rows.specs.Frames.{way_of, BodyLength, Leaves, LengthFits, UnframedFits, NumberFits, InWindows, IsBlock, AreBodies}

-- ---- Numbers that begin alike.

-- the numbers of one quotient lie between two ends
pub quotient_is : (bits rest : ℕ) → IsBlock (2 ^ rest) bits (bits * 2 ^ rest) (bits * 2 ^ rest + (2 ^ rest - 1))
quotient_is bits rest n =
    let d = 2 ^ rest in
    let pos : 0 < d = pow_pos rest in
    let step : (bits + 1) * d ≡ bits * d + d = omega arith in (
      λ e.
          let low : bits * d ≤ n = (le-div_iff_mul-le {k = d} {x = bits} {y = n} pos).0 (omega (arith, e)) in
          let high : n < (bits + 1) * d = (div-lt_iff_lt-mul {k = d} {x = n} {y = bits + 1} pos).0 (omega (arith, e)) in
          (low, omega (arith, high, step, pos)),
      λ (low, high).
          let least : bits ≤ n / d = (le-div_iff_mul-le {k = d} {x = bits} {y = n} pos).1 low in
          let most : n / d < bits + 1 = (div-lt_iff_lt-mul {k = d} {x = n} {y = bits + 1} pos).1 (omega (arith, high, step, pos)) in
          omega (arith, least, most),
    )

-- and they have no more bits than all
pub quotient_small : (width bits rest : ℕ) → rest ≤ width → bits < 2 ^ (width - rest) → bits * 2 ^ rest + (2 ^ rest - 1) < 2 ^ width
quotient_small width bits rest le fits =
    let n = bits * 2 ^ rest + (2 ^ rest - 1) in
    let begins : n / 2 ^ rest ≡ bits = (quotient_is bits rest n).1 (omega arith, omega arith) in
    let whole : width - rest + rest ≡ width = omega arith in
    rw whole at (below_quotient n (width - rest) rest (omega (arith, begins, fits)))

-- ---- Rows of the table.

pub row_found : (o : Option Layout) (table : List RowItem) → Some table ≡ option_map items o → o ≡ Some (layout table)
row_found None table h = absurd cc
row_found (Some row) table h = let e : items row ≡ table = cc in ap (λ (r : Layout). Some r) (sym (layout-items row)) ∙ ap (λ (t : List RowItem). Some (layout t)) e

-- no table, no row
pub no_row : (o : Option Layout) → ◌≡◌ {A = Option (List RowItem)} None (option_map items o) → o ≡ None
no_row None h = refl
no_row (Some row) h = absurd cc

-- what is after the frame of a packet that is typed, and of one that isn't
pub body_row : (way : Way) (nid : ℕ) (row : Layout) (m : ℕ) → row_to way nid ≡ Some row → BodyLength way nid m ↔ Lengths row [] m
body_row way nid row m e = (
  elim [
    | inl (other, f, l) ↦ (let same : other ≡ row = cc in subst (λ (x : Layout). Lengths x [] m) same l)
    | inr kept ↦ (
        let third = (and_both (is_framed way nid) (not (is_some (row_to way nid))) kept).1 in
        let no : IsTrue (not (is_some {T = Layout} (Some row))) = subst (λ (x : Option Layout). IsTrue (not (is_some x))) e third in absurd cc)
  ],
  λ l. inl (row, e, l),
)

pub body_kept : (way : Way) (nid m : ℕ) → row_to way nid ≡ None → BodyLength way nid m ↔ IsTrue (is_kept way nid)
body_kept way nid m e = (elim [ inl (row, f, l) ↦ absurd cc | inr kept ↦ kept ], λ kept. inr kept)

-- ---- Lengths, by the windows that leave what may be left.

fits_windows : (carrier : Carrier) (nid room d bits low high : ℕ) (w : Windows) → high < 2 ^ 13 → IsBlock d bits low high → AreBodies carrier room low high w
    → ((l : ℕ) × (l / d ≡ bits) × LengthFits carrier nid room l) ↔ ((m : ℕ) × InWindows w m × BodyLength (way_of carrier) nid m)
fits_windows carrier nid room d bits low high w small block window =
    let frame = frame_bits (way_of carrier) in (
      λ (l, q, (framed, short, body, leaves)).
          let m = l - frame in
          let whole : l ≡ frame + m = omega arith in
          let ends = (block l).0 q in
          (m, (window m).1 (omega (arith, ends.0), omega (arith, ends.1), subst (λ k. Leaves carrier room k) whole leaves), body),
      λ (m, inside, body).
          let x = (window m).0 inside in
          let l = frame + m in
          let back : m ≡ l - frame = omega arith in
          (l, (block l).1 (x.0, x.1), (omega arith, omega (arith, x.1), subst (λ k. BodyLength (way_of carrier) nid k) back body, x.2)),
    )

-- so an answer by the windows is one by the lengths
pub by_windows : (carrier : Carrier) (nid room d bits low high : ℕ) (w : Windows) (r : Bool) → high < 2 ^ 13 → IsBlock d bits low high → AreBodies carrier room low high w
    → IsTrue r ↔ ((m : ℕ) × InWindows w m × BodyLength (way_of carrier) nid m) → IsTrue r ↔ ((l : ℕ) × (l / d ≡ bits) × LengthFits carrier nid room l)
by_windows carrier nid room d bits low high w r small block window h =
    let same = fits_windows carrier nid room d bits low high w small block window in
    (λ t. same.1 (h.0 t), λ x. h.1 (same.0 x))

-- no length leaves what may be left
pub none_fits : (way : Way) (nid : ℕ) (w : Windows) → (((m : ℕ) × InWindows w m) → IsTrue false) → IsTrue false ↔ ((m : ℕ) × InWindows w m × BodyLength way nid m)
none_fits way nid w none = (λ f. absurd cc, λ (m, inside, body). none (m, inside))

pub kept_fits : (way : Way) (nid : ℕ) (w : Windows) (r : Bool) → row_to way nid ≡ None → r ≡ is_kept way nid → ((m : ℕ) × InWindows w m) → IsTrue r ↔ ((m : ℕ) × InWindows w m × BodyLength way nid m)
kept_fits way nid w r none e (m, inside) = rw e (λ kept. (m, inside, inr kept), λ (k, in-w, body). (body_kept way nid k none).0 body)

-- any length of a row
pub row_fits : (way : Way) (nid : ℕ) (row : Layout) (w : Windows) (r : Bool) → row_to way nid ≡ Some row → IsTrue r ↔ ((m : ℕ) × InWindows w m × Lengths row [] m) → IsTrue r ↔ ((m : ℕ) × InWindows w m × BodyLength way nid m)
row_fits way nid row w r e any = (
  λ t. (let x = any.0 t in (x.0, x.1, (body_row way nid row x.0 e).1 x.2)),
  λ (m, inside, body). any.1 (m, inside, (body_row way nid row m e).0 body),
)

-- one length alone
pub one_fits : (way : Way) (nid : ℕ) (row : Layout) (w : Windows) (m : ℕ) (r : Bool) → row_to way nid ≡ Some row → InWindows w m → ((k : ℕ) → InWindows w k → k ≡ m) → IsTrue r ↔ Lengths row [] m → IsTrue r ↔ ((k : ℕ) × InWindows w k × BodyLength way nid k)
one_fits way nid row w m r e inside only reached = (
  λ t. (m, inside, (body_row way nid row m e).1 (reached.0 t)),
  λ (k, in-w, body). reached.1 (subst (λ j. Lengths row [] j) (only k in-w) ((body_row way nid row k e).0 body)),
)

-- ---- Every length.

all_lengths : IsBlock (2 ^ 13) 0 0 8191
all_lengths = quotient_is 0 13

pub any_length : (carrier : Carrier) (nid room : ℕ) → ((l : ℕ) × (l / 2 ^ 13 ≡ 0) × LengthFits carrier nid room l) ↔ ((l : ℕ) × LengthFits carrier nid room l)
any_length carrier nid room = (
  λ (l, e, fits). (l, fits),
  λ (l, fits). (l, (let short = fits.1 in (all_lengths l).1 (omega arith, omega (arith, short))), fits),
)

-- ---- Numbers.

-- where no packet without a frame fits, those with one decide
pub by_framed : (carrier : Carrier) (room d bits low high : ℕ) (r : Bool) → IsBlock d bits low high
    → (((n : ℕ) × (low ≤ n) × (n ≤ high) × UnframedFits carrier room n) → ⊥)
    → IsTrue r ↔ ((n : ℕ) × (low ≤ n) × (n ≤ high) × ((l : ℕ) × LengthFits carrier n room l)) → IsTrue r ↔ ((n : ℕ) × (n / d ≡ bits) × NumberFits carrier room n)
by_framed carrier room d bits low high r block none framed = (
  λ t. (let x = framed.0 t in (x.0, (block x.0).1 (x.1, x.2), inr x.3)),
  λ (n, q, fits). (let ends = (block n).0 q in elim fits [ inl unframed ↦ absurd (none (n, ends.0, ends.1, unframed)) | inr x ↦ framed.1 (n, ends.0, ends.1, x) ]),
)
