-- Frames, their numbers and their directions, by the way of a packet.
use Rattle.std.proofs.Common.{◌≡◌, ℕ, ◌+◌, ◌<◌, ◌≤◌, ◌^◌, Bool, true, false, ◌&&◌, [], ◌∷◌, ◌++◌, length, Some, refl, ap, ◌∙◌, arith}
use Rattle.std.specs.Prelude.{IsTrue, nat_lt, nat_le, MatchBool}
use Rattle.std.specs.List.{list_all}
use Rattle.std.proofs.lemmas.Bool.{and_parts, leb-true, ltb-true}
use Rattle.std.proofs.lemmas.List.{length-append}
use Rattle.etcs_vars.specs.declared.var.Var.TheVariants.{NID_VBCMK, Q_DIR}
use Rattle.etcs_vars.specs.Vars.{width}
use Rattle.etcs_vars.specs.Reading.{Reading, spelled}
use Rattle.etcs_vars.proofs.Prefixes.{admits_parts}
use Rattle.etcs_vars.proofs.Sent.{length-sent}
use Rattle.etcs_vars.specs.laws.Spellings.{spelled-append}
use Rattle.etcs_tables.specs.declared.row.Way.{Way}
use Rattle.etcs_tables.specs.declared.row.Way.TheVariants.{ToTrain, ToTrack}
use Rattle.etcs_tables.specs.Layouts.{Layout, whole, one, guarded, counted, Scope, holds, Reads, ROW_LIMIT}
use Rattle.etcs_tables.specs.Rows.{row_to, rows_to}
use Rattle.etcs_tables.proofs.EachRow.{of_each}
use Rattle.etcs_tables.specs.Frames.{frame_bits, head_bits, kept_limit, is_framed, is_kept, is_marker, is_direction, sends, directed}
use Rattle.etcs_sequence.specs.Contents.{IsUnmarked}

pub framed_parts : (nid : ℕ) → IsTrue (is_framed ToTrain nid) → (0 < nid) × (nid < 255)
framed_parts nid h = let both = and_parts (nat_lt 0 nid) (nat_lt nid 255) h in (ltb-true 0 nid both.0, ltb-true nid 255 both.1)

-- every row's number has a frame
each_framed : (way : Way) → list_all (λ p. is_framed way p.0) (rows_to way) ≡ true
each_framed ToTrain = refl
each_framed ToTrack = refl

pub typed_framed : (way : Way) (nid : ℕ) (row : Layout) → row_to way nid ≡ Some row → IsTrue (is_framed way nid)
typed_framed way nid row e = of_each (λ n r. is_framed way n) (rows_to way) nid row (each_framed way) e

pub framed_small : (way : Way) (nid : ℕ) → IsTrue (is_framed way nid) → nid < 2 ^ 8
framed_small ToTrain nid h = omega (arith, (framed_parts nid h).1)
framed_small ToTrack nid h = ltb-true nid 256 h

-- none is the marker's
pub framed_unmarked : (way : Way) (nid : ℕ) → IsTrue (is_framed way nid) → IsUnmarked way nid
framed_unmarked ToTrain nid h = (framed_parts nid h).0
framed_unmarked ToTrack nid h = tt

pub marker_marked : (way : Way) (n : ℕ) → IsTrue (is_marker way n) → IsUnmarked way 0 → ⊥
marker_marked ToTrain n h k = omega (arith, k)
marker_marked ToTrack n h k = absurd cc

pub marker_small : (way : Way) (n : ℕ) → IsTrue (is_marker way n) → n < 2 ^ 6
marker_small ToTrain n h = (admits_parts NID_VBCMK n h).1
marker_small ToTrack n h = absurd cc

pub frame_between : (way : Way) → (21 ≤ frame_bits way) × (frame_bits way ≤ 23)
frame_between ToTrain = (omega arith, omega arith)
frame_between ToTrack = (omega arith, omega arith)

-- NID_PACKET comes before L_PACKET
pub frame_head : (way : Way) → 8 ≤ head_bits way
frame_head ToTrain = omega arith
frame_head ToTrack = omega arith

-- a row leaves room for a frame
pub row_limit : (way : Way) → ROW_LIMIT ≤ kept_limit way
row_limit ToTrain = omega arith
row_limit ToTrack = omega arith

-- the most bits of a row without lists
abbrev most : Layout → ℕ
most whole = 0
most (one v rest) = width v + most rest
most (guarded g group rest) = most group + most rest
most (counted group rest) = 0

abbrev is_listless : Layout → Bool
is_listless whole = true
is_listless (one v rest) = is_listless rest
is_listless (guarded g group rest) = is_listless group && is_listless rest
is_listless (counted group rest) = false

both_spelled : (a b : Reading) → length (spelled (a ++ b)) ≡ length (spelled a) + length (spelled b)
both_spelled a b = ap length (spelled-append a b) ∙ length-append (spelled a) (spelled b)

either : (b : Bool) {P Q : Type 0} (A : Type 0) → (P → A) → (Q → A) → MatchBool b P Q → A
either true A f g h = f h
either false A f g h = g h

at_most : (row : Layout) (s : Scope) (r : Reading) → is_listless row ≡ true → Reads row s r → length (spelled r) ≤ most row
unfolding Reads
at_most whole s r flat h = rw h (omega arith)
at_most (one v rest) s r flat (n, q, admitted, e, h) = omega (arith, ap (λ (t : Reading). length (spelled t)) e, length-sent v n q, at_most rest ((v, n) ∷ s) q flat h)
at_most (guarded g group rest) s r flat h =
    let both = and_parts (is_listless group) (is_listless rest) flat in
    either (holds g s) (length (spelled r) ≤ most group + most rest)
    (λ (a, b, e, k, l). omega (arith, ap (λ (t : Reading). length (spelled t)) e, both_spelled a b, at_most group s a both.0 k, at_most rest s b both.1 l))
    (λ k. omega (arith, at_most rest s r both.1 k)) h
at_most (counted group rest) s r flat h = absurd cc

abbrev short : ℕ → Layout → Bool
short nid row = is_listless row && nat_le (most row) ROW_LIMIT

pub row_short : (way : Way) (nid : ℕ) (row : Layout) (r : Reading) → row_to way nid ≡ Some row → Reads row [] r → length (spelled r) ≤ kept_limit way → length (spelled r) ≤ ROW_LIMIT
row_short ToTrain nid row r e reads h = h
row_short ToTrack nid row r e reads h =
    let both = and_parts (is_listless row) (nat_le (most row) ROW_LIMIT) (of_each short (rows_to ToTrack) nid row refl e) in
    omega (arith, at_most row [] r both.0 reads, leb-true (most row) ROW_LIMIT both.1)

-- one is kept whose first bit is zero, and one whose first bit is one, both in a direction that may be
pub kept_three : (way : Way) → IsTrue (is_kept way 3)
kept_three ToTrain = refl
kept_three ToTrack = refl

pub kept_two_hundred : (way : Way) → IsTrue (is_kept way 200)
kept_two_hundred ToTrain = refl
kept_two_hundred ToTrack = refl

pub some_direction : (way : Way) → IsTrue (is_direction way 0)
some_direction ToTrain = refl
some_direction ToTrack = refl

-- a direction that is sent
pub sent_direction : (way : Way) (dir : ℕ) → IsTrue (sends way dir) → IsTrue (is_direction way dir)
sent_direction ToTrain dir h = h
sent_direction ToTrack dir h = absurd cc

pub sent_directed : (way : Way) (dir : ℕ) (r : Reading) → IsTrue (sends way dir) → directed way dir r ≡ (Q_DIR, dir) ∷ r
sent_directed ToTrain dir r h = refl
sent_directed ToTrack dir r h = absurd cc

pub sent_small : (way : Way) (dir : ℕ) → IsTrue (sends way dir) → dir < 2 ^ 2
sent_small ToTrain dir h = (admits_parts Q_DIR dir h).1
sent_small ToTrack dir h = absurd cc
