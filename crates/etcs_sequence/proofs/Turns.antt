-- Further lemmas beside specs/laws/Turns.antt.
use Rattle.std.proofs.Common.{◌≡◌, ℕ, ◌-◌, ◌^◌, ◌<◌, ◌≤◌, [], Some, refl, arith, inl, inr, false}
use Rattle.std.specs.Prelude.{IsTrue}
use Rattle.etcs_vars.specs.declared.var.Var.TheVariants.{NID_VBCMK}
use Rattle.etcs_vars.specs.Vars.{admits}
use Rattle.etcs_vars.specs.Walking.{Residual}
use Rattle.etcs_vars.specs.Reading.{Reading}
use Rattle.etcs_vars.proofs.Languages.{Same, Nothing}
use Rattle.etcs_tables.specs.declared.row.Way.TheVariants.{ToTrain, ToTrack}
use Rattle.etcs_rows.specs.declared.frames.Carrier.{Carrier}
use Rattle.etcs_rows.specs.declared.frames.Carrier.TheVariants.{Telegram, Message}
use Rattle.etcs_rows.specs.Frames.{way_of}
use Rattle.etcs_tables.specs.Layouts.{Layout, ReadsIn}
use Rattle.etcs_tables.specs.Rows.{row_to}
use Rattle.etcs_tables.specs.Frames.{is_kept, frame_bits, is_framed, sends}
use Rattle.etcs_tables.specs.declared.row.Way.{Way}
use Rattle.etcs_sequence.specs.Contents.{PacketsIn, BodyIn, KeptIn, BodyLeft, AfterLength, LengthLeft, AfterDirection, AfterMarker, MarkerLeft, AfterNumber, FrameLeft}
use Rattle.etcs_sequence.specs.laws.Others.{kept_untyped}
use Rattle.etcs_sequence.specs.laws.Turns.{row_body}
use Rattle.etcs_sequence.specs.Lefts.{after_framed, left_of}

pub residual_same : (L : Reading → Type 0) (p : Reading) (R S : Reading → Type 0) → Residual L p R → Same R S → Residual L p S
residual_same L p R S h same = record { to = λ q l. (same q).0 (h.to q l); from = λ q s. h.from q ((same q).1 s) }

-- ---- From one to the next.

only_closing : (c : Carrier) (room : ℕ) (q : Reading) → is_framed (way_of c) 255 ≡ false → AfterNumber c room 255 q → q ≡ []
only_closing c room q unframed (inl (same, is, le, e)) = e
only_closing c room q unframed (inr (inl (same, is, m))) = absurd (omega (arith, is))
only_closing c room q unframed (inr (inr (framed, d))) = absurd (let f = rw unframed at framed in cc)

only_marker : (c : Carrier) (room : ℕ) (q : Reading) → is_framed (way_of c) 0 ≡ false → AfterNumber c room 0 q → MarkerLeft room q
only_marker c room q unframed (inl (same, is, le, e)) = absurd (omega (arith, is))
only_marker c room q unframed (inr (inl (same, is, m))) = m
only_marker c room q unframed (inr (inr (framed, d))) = absurd (let f = rw unframed at framed in cc)

only_framed : (c : Carrier) (room n : ℕ) → IsTrue (is_framed (way_of c) n) → (q : Reading) → AfterNumber c room n q → FrameLeft c n room q
only_framed c room n framed q (inl (same, is, le, e)) = absurd (let f : IsTrue (is_framed (way_of Telegram) 255) = rw (same, is) at framed in cc)
only_framed c room n framed q (inr (inl (same, is, m))) = absurd (let f : IsTrue (is_framed (way_of Telegram) 0) = rw (same, is) at framed in cc)
only_framed c room n framed q (inr (inr (f, d))) = d

bits_body : (way : Way) (nid bits : ℕ) (q : Reading) → IsTrue (is_kept way nid) → BodyIn way nid bits q → KeptIn bits q
bits_body way nid bits q k (inl (row, e, l)) = absurd (kept_untyped way nid row k e)
bits_body way nid bits q k (inr (k', b)) = b

pub after_closing : (c : Carrier) (room : ℕ) → is_framed (way_of c) 255 ≡ false → ((r : Reading) × AfterNumber c room 255 r) → (c ≡ Telegram) × Same (AfterNumber c room 255) Nothing
after_closing c room unframed (r, inl (same, is, le, e)) = (same, λ q. (only_closing c room q unframed, λ n. inl (same, refl, le, n)))
after_closing c room unframed (r, inr (inl (same, is, m))) = absurd (omega (arith, is))
after_closing c room unframed (r, inr (inr (framed, d))) = absurd (let f = rw unframed at framed in cc)

pub after_zero : (c : Carrier) (room : ℕ) → is_framed (way_of c) 0 ≡ false → ((r : Reading) × AfterNumber c room 0 r) → (c ≡ Telegram) × Same (AfterNumber c room 0) (MarkerLeft room)
after_zero c room unframed (r, inl (same, is, le, e)) = absurd (omega (arith, is))
after_zero c room unframed (r, inr (inl (same, is, m))) = (same, λ q. (only_marker c room q unframed, λ k. inr (inl (same, refl, k))))
after_zero c room unframed (r, inr (inr (framed, d))) = absurd (let f = rw unframed at framed in cc)

-- a number without a frame is 255, which closes the packets, or 0
pub unframed_is : (c : Carrier) (room n : ℕ) → is_framed (way_of c) n ≡ false → ((r : Reading) × AfterNumber c room n r) → (n ≡ 255 → ⊥) → n ≡ 0
unframed_is c room n unframed (r, inl (same, is, le, e)) other = absurd (other is)
unframed_is c room n unframed (r, inr (inl (same, is, m))) other = is
unframed_is c room n unframed (r, inr (inr (framed, d))) other = absurd (let f = rw unframed at framed in cc)

pub beyond_number : (c : Carrier) (room n : ℕ) → IsTrue (is_framed (way_of c) n) → Same (AfterNumber c room n) (FrameLeft c n room)
beyond_number c room n framed q = (only_framed c room n framed q, λ d. inr (inr (framed, d)))

-- what is left of a frame is what is left at the stage after its number
pub framed_left : (c : Carrier) (room n : ℕ) → Same (FrameLeft c n room) (left_of c room (after_framed (way_of c) n))
framed_left Telegram room n q = (λ (dir, rest, e, a, l). (dir, rest, e, (a, l)), λ (dir, rest, e, (a, l)). (dir, rest, e, a, l))
framed_left (Message ToTrain) room n q = (λ (dir, rest, e, a, l). (dir, rest, e, (a, l)), λ (dir, rest, e, (a, l)). (dir, rest, e, a, l))
framed_left (Message ToTrack) room n q = (λ (dir, rest, e, a, l). rw e l, λ l. (0, q, refl, refl, l))

pub after_marker : (room n : ℕ) → ((r : Reading) × AfterMarker room n r) → IsTrue (admits NID_VBCMK n) × (14 ≤ room) × Same (AfterMarker room n) (PacketsIn Telegram (room - 14))
after_marker room n (r, (a, le, run)) = (a, le, λ q. (λ h. h.2, λ k. (a, le, k)))

pub after_direction : (c : Carrier) (nid room dir : ℕ) → ((r : Reading) × AfterDirection c nid room dir r) → IsTrue (sends (way_of c) dir) × Same (AfterDirection c nid room dir) (LengthLeft c nid room)
after_direction c nid room dir (r, (a, l)) = (a, λ q. (λ h. h.1, λ k. (a, k)))

pub beyond_length : (c : Carrier) (nid room l : ℕ) → ((r : Reading) × AfterLength c nid room l r) → (frame_bits (way_of c) ≤ l) × (l < 2 ^ 13) × (l ≤ room) × Same (AfterLength c nid room l) (BodyLeft c nid (l - frame_bits (way_of c)) (room - l))
beyond_length c nid room l (r, (least, most, le, b)) = (least, most, le, λ q. (λ h. h.3, λ k. (least, most, le, k)))

-- the body of a typed packet, and that of one that is kept
pub typed_body : (way : Way) (nid bits : ℕ) (row : Layout) → row_to way nid ≡ Some row → Same (BodyIn way nid bits) (ReadsIn row bits)
typed_body way nid bits row e q = (row_body way nid bits row q e, λ l. inl (row, e, l))

pub kept_body : (way : Way) (nid bits : ℕ) → IsTrue (is_kept way nid) → Same (BodyIn way nid bits) (KeptIn bits)
kept_body way nid bits k q = (bits_body way nid bits q k, λ l. inr (k, l))
