-- Which numbers of a message continue.
use Rattle.std.proofs.Common.{◌≡◌, ℕ, ◌+◌, ◌-◌, ◌*◌, ◌/◌, ◌^◌, ◌<◌, ◌≤◌, true, List, ◌∷◌, ◌++◌, length, Some, None, refl, sym, ap, subst, ◌∙◌, arith, inl, inr}
use Rattle.std.specs.Prelude.{IsTrue, ◌↔◌, Option, nat_le, ◌⊎◌}
use Rattle.std.proofs.lemmas.Bool.{or_left, or_right, le-leb}
use Rattle.std.proofs.lemmas.Nat.{pow_pos, div-mul-add}
use Rattle.etcs_vars.specs.declared.var.Var.{Var}
use Rattle.etcs_vars.specs.declared.var.Var.TheVariants.{NID_MESSAGE, L_MESSAGE, PADDING, OTHER_DATA}
use Rattle.etcs_vars.specs.Vars.{width, ranges, begins, inside}
use Rattle.etcs_vars.specs.Reading.{spelled}
use Rattle.etcs_vars.proofs.Prefixes.{ordered, begins_some, begins_from, below_quotient}
use Rattle.etcs_tables.specs.declared.row.Way.{Way}
use Rattle.etcs_tables.specs.Frames.{frame_bits}
use Rattle.etcs_rows.specs.declared.frames.Carrier.TheVariants.{Message}
use Rattle.etcs_rows.specs.Frames.{may_be_left}
use Rattle.etcs_sequence.proofs.Fits.{run_some}
use Rattle.etcs_reader.specs.Rests.{Starts, Goes}
use Rattle.etcs_reader.proofs.FieldLaws.{some_fields}
use Rattle.etcs_sequence.specs.laws.BitLaws.{some_bits, bits_start, bits_number}
use Rattle.etcs_sequence.specs.Lefts.{left_of}
use Rattle.etcs_rows.specs.laws.RestLaws.{head_of}
use Rattle.etcs_sequence.proofs.StageLaws.{message_run}
use Rattle.etcs_messages.specs.declared.phase.Phase.TheVariants as phase
use Rattle.etcs_messages.specs.Lefts.{front_row, front_bits, AfterMessageLength, LengthLeft, NumberLeft, next_at, MessageState, Left, next_var}
use Rattle.etcs_messages.specs.laws.RestLaws.{length_opens}
use Rattle.etcs_messages.proofs.Ways.{frame_few}
use Rattle.etcs_messages.proofs.Fronts.{front_small}
use Rattle.etcs_messages.proofs.RestSteps.{front_tested, packets_start}
use Rattle.etcs_messages.proofs.RestStands.{padding_parts, data_parts}

-- ---- The lengths with which some message continues.

abbrev pub Fits : (way : Way) → Option (List Var) → ℕ → Type 0
Fits way None len = (3 ≤ len) × (len < 2 ^ 10)
Fits way (Some vs) len = (front_bits vs ≤ 8 * len) × (len < 2 ^ 10) × IsTrue (may_be_left (Message way) (8 * len - front_bits vs))

-- a room that packets fill but for padding
left_from : (way : Way) (room : ℕ) → (room ≤ 7) ⊎ (frame_bits way ≤ room) → IsTrue (may_be_left (Message way) room)
left_from way room (inl h) = or_left (nat_le room 7) (nat_le (frame_bits way) room) (le-leb room 7 h)
left_from way room (inr h) = or_right (nat_le room 7) (nat_le (frame_bits way) room) (le-leb (frame_bits way) room h)

pub some_message : (way : Way) (found : Option (List Var)) (len : ℕ) → Fits way found len → Goes (AfterMessageLength way found len)
some_message way None len (least, most) = let b = some_bits OTHER_DATA refl (8 * len - 18) in (b.0, (least, most, b.1))
some_message way (Some vs) len (fits, most, left) =
    let room = 8 * len - front_bits vs in
    let f = some_fields vs in
    let p = run_some (Message way) room (omega (arith, most)) left in
    let b = some_bits PADDING refl (room - length (spelled p.0)) in
    (f.0 ++ (p.0 ++ b.0), (fits, most, (f.0, p.0 ++ b.0, refl, f.1, (p.0, b.0, refl, p.1, b.1))))

pub message_some : (way : Way) (found : Option (List Var)) (len : ℕ) → Goes (AfterMessageLength way found len) → Fits way found len
message_some way None len (r, (least, most, b)) = (least, most)
message_some way (Some vs) len (r, (fits, most, (a, q, e, fields, (p, b, f, run, padding)))) = (fits, most, left_from way (8 * len - front_bits vs) (message_run way (8 * len - front_bits vs) p run))

-- ---- L_MESSAGE.

-- ranges of these numbers decide which of its first bits continue
length_tested : (way : Way) (nid : ℕ) (rs : List (ℕ × ℕ)) (rest bits : ℕ) → ordered rs ≡ true → ((n : ℕ) → IsTrue (inside rs n) ↔ Goes (AfterMessageLength way (front_row way nid) n)) → IsTrue (begins rs rest bits) ↔ Starts (LengthLeft way nid) L_MESSAGE rest bits
length_tested way nid rs rest bits order fits = (
  λ t.
      let (n, i, q) = begins_some rs rest bits order t in
      let (r, h) = (fits n).0 i in
      (n, r, (length_opens way nid).closes n r h, q),
  λ (n, r, (m, r', e, h), q).
      let number : m ≡ n = (head_of L_MESSAGE n m r r' e).0 in
      let h' : AfterMessageLength way (front_row way nid) n r' = subst (λ k. AfterMessageLength way (front_row way nid) k r') number h in
      rw q at (begins_from rs rest n ((fits n).1 (r', h'))),
)

-- ---- NID_MESSAGE.

whole_length : (way : Way) (found : Option (List Var)) → ((vs : List Var) → found ≡ Some vs → front_bits vs ≤ 107) → Fits way found 1023
whole_length way None small = (omega arith, omega arith)
whole_length way (Some vs) small = let le : front_bits vs ≤ 107 = small vs refl in (omega (arith, le), omega arith, left_from way (8 * 1023 - front_bits vs) (inr (let few = frame_few way in omega (arith, le, few))))

-- after each NID_MESSAGE some message comes
some_length : (way : Way) (nid : ℕ) → Goes (LengthLeft way nid)
some_length way nid =
    let (r, h) = some_message way (front_row way nid) 1023 (whole_length way (front_row way nid) (front_small way nid)) in
    ((L_MESSAGE, 1023) ∷ r, (1023, r, refl, h))

number_start : (way : Way) (rest bits : ℕ) → rest < 8 → bits < 2 ^ (8 - rest) → Starts (NumberLeft way) NID_MESSAGE rest bits
number_start way rest bits lt fits =
    let n = bits * 2 ^ rest in
    let q : n / 2 ^ rest ≡ bits = (let pos = pow_pos rest in let none : n + 0 ≡ n = omega arith in ap (λ k. k / 2 ^ rest) (sym none) ∙ div-mul-add bits (2 ^ rest) 0 pos) in
    let whole : 8 - rest + rest ≡ 8 = omega arith in
    let small : n < 2 ^ 8 = rw whole at (below_quotient n (8 - rest) rest (rw q fits)) in
    let (r, h) = some_length way n in
    (n, r, (n, r, small, refl, h), q)

-- ---- All phases.

module _ {S : Type 0} (s : MessageState S) (x : Var) (rest bits : ℕ) (next : next_var s ≡ Some x) where
  pub begins_number : s.phase ≡ phase.Number → rest < width x → bits < 2 ^ (width x - rest) → Starts (Left s) x rest bits
  begins_number e lt fits =
      let next' : next_at s.way s.nid phase.Number s.left ≡ Some x = rw e at next in
      let same : NID_MESSAGE ≡ x = cc in
      rw (e, ← same) (number_start s.way rest bits (rw (← same) at lt) (rw (← same) at fits))

  pub begins_length : (rs : List (ℕ × ℕ)) → s.phase ≡ phase.Length → ordered rs ≡ true → ((n : ℕ) → IsTrue (inside rs n) ↔ Goes (AfterMessageLength s.way (front_row s.way s.nid) n)) → IsTrue (begins rs rest bits) ↔ Starts (Left s) x rest bits
  begins_length rs e order fits =
      let next' : next_at s.way s.nid phase.Length s.left ≡ Some x = rw e at next in
      let same : L_MESSAGE ≡ x = cc in
      rw (e, ← same) (length_tested s.way s.nid rs rest bits order fits)

  pub begins_front : (at : ℕ) → s.phase ≡ phase.Front at → rest < width x → bits < 2 ^ (width x - rest) → Goes (Left s) → IsTrue (begins (ranges x) rest bits) ↔ Starts (Left s) x rest bits
  begins_front at e lt fits g = rw e (front_tested s.way s.nid at s.left x rest bits (rw e at next) lt fits (rw e at g))

  pub begins_packets : s.phase ≡ phase.Packets → Starts (left_of s.left.carrier s.left.room s.left.stage) x rest bits ↔ Starts (Left s) x rest bits
  begins_packets e = rw e (packets_start s.way s.nid s.left x rest bits (rw e at next))

  pub begins_padding : (left : ℕ) → s.phase ≡ phase.Padding left → rest < width x → bits < 2 ^ (width x - rest) → Starts (Left s) x rest bits
  begins_padding left e lt fits =
      let next' : next_at s.way s.nid (phase.Padding left) s.left ≡ Some x = rw e at next in
      let same : PADDING ≡ x = cc in
      rw (e, ← same) (bits_start PADDING refl left rest bits (padding_parts s left e).0 (rw (← same) at lt) (rw (← same) at fits))

  pub begins_data : (left : ℕ) → s.phase ≡ phase.Data left → rest < width x → bits < 2 ^ (width x - rest) → Starts (Left s) x rest bits
  begins_data left e lt fits =
      let next' : next_at s.way s.nid (phase.Data left) s.left ≡ Some x = rw e at next in
      let same : OTHER_DATA ≡ x = cc in
      rw (e, ← same) (bits_start OTHER_DATA refl left rest bits (data_parts s left e).0 (rw (← same) at lt) (rw (← same) at fits))

-- what continues of PADDING and OTHER_DATA is a bit
module _ {S : Type 0} (s : MessageState S) (x : Var) (number left : ℕ) (next : next_var s ≡ Some x) (goes : Starts (Left s) x 0 number) where
  pub padding_bit : s.phase ≡ phase.Padding left → (x ≡ PADDING) × (number < 2)
  padding_bit e =
      let next' : next_at s.way s.nid (phase.Padding left) s.left ≡ Some x = rw e at next in
      let same : PADDING ≡ x = cc in
      (sym same, bits_number PADDING refl left number (rw (e, ← same) at goes))

  pub data_bit : s.phase ≡ phase.Data left → (x ≡ OTHER_DATA) × (number < 2)
  data_bit e =
      let next' : next_at s.way s.nid (phase.Data left) s.left ≡ Some x = rw e at next in
      let same : OTHER_DATA ≡ x = cc in
      (sym same, bits_number OTHER_DATA refl left number (rw (e, ← same) at goes))
