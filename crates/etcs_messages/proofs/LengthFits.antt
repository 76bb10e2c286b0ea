-- A length that fits is one with which some message continues.
use Rattle.std.proofs.Common.{◌≡◌, ℕ, ◌+◌, ◌-◌, ◌*◌, List, [], Some, None, refl, sym, ap, subst, ◌∙◌, arith, inl, inr}
use Rattle.std.specs.Prelude.{IsTrue, ◌↔◌, Option, option_map}
use Rattle.etcs_vars.specs.declared.var.Var.{Var}
use Rattle.etcs_tables.specs.declared.row.Way.{Way}
use Rattle.etcs_rows.specs.declared.frames.Carrier.TheVariants.{Message}
use Rattle.etcs_rows.specs.Frames.{may_be_left}
use Rattle.etcs_tables.specs.MessageRows.{header_bits}
use Rattle.etcs_tables.specs.Layouts.{Layout, Reads}
use Rattle.etcs_sequence.proofs.Fits.{front_none}
use Rattle.etcs_reader.specs.Rests.{Goes}
use Rattle.etcs_reader.specs.Fields.{ReadsFields}
use Rattle.etcs_reader.proofs.FieldLaws.{some_fields}
use Rattle.etcs_rows.specs.Messages.{MessageLengthFits}
use Rattle.etcs_sequence.specs.Labels.{widths}
use Rattle.etcs_messages.specs.Lefts.{own_row, front_after, front_row, front_bits, AfterMessageLength}
use Rattle.etcs_tables.specs.Headers.{head_row}
use Rattle.etcs_messages.proofs.Ways.{header_is}
use Rattle.etcs_messages.proofs.Fields.{fields_length, widths_append}
use Rattle.etcs_messages.proofs.Fronts.{as_row, row_fields, fields_row, rows_alike, typed_own, kept_own, front_small}
use Rattle.etcs_messages.proofs.Begins.{Fits, some_message, message_some}

fits_row : (way : Way) (nid n : ℕ) → MessageLengthFits way nid n → Fits way (front_row way nid) n
fits_row way nid n (most, inl (row, m, e, (r, rest, reads, none, len, small), (le, left))) =
    let (own, found, same) = typed_own (own_row way nid) row (sym (rows_alike way nid) ∙ e) in
    let fields : ReadsFields own rest = row_fields own [] rest (subst (λ (x : Layout). Reads x [] rest) (sym same) (front_none r rest row none reads)) in
    let bits : widths own ≡ m = sym (fields_length own rest fields) ∙ len in
    let wide = widths_append (head_row way) own in
    let head = header_is way in
    let room : 8 * n - (header_bits way + m) ≡ 8 * n - front_bits (front_after way own) = omega (arith, bits, wide, head) in
    let fits : Fits way (Some (front_after way own)) n = (omega (arith, bits, wide, head, le), most, subst (λ k. IsTrue (may_be_left (Message way) k)) room left) in
    subst (λ (o : Option (List Var)). Fits way o n) (sym (ap (option_map (front_after way)) found)) fits
fits_row way nid n (most, inr (untyped, least)) =
    let found = kept_own (own_row way nid) (sym (rows_alike way nid) ∙ untyped) in
    subst (λ (o : Option (List Var)). Fits way o n) (sym (ap (option_map (front_after way)) found)) (least, most)

row_fits : (way : Way) (nid n : ℕ) (found : Option (List Var)) → own_row way nid ≡ found → Fits way (option_map (front_after way) found) n → MessageLengthFits way nid n
row_fits way nid n None is (least, most) = (most, inr (rows_alike way nid ∙ ap (option_map as_row) is, least))
row_fits way nid n (Some own) is (fits, most, left) =
    let m = widths own in
    let (r, reads) = some_fields own in
    let short = front_small way nid (front_after way own) (ap (option_map (front_after way)) is) in
    let wide = widths_append (head_row way) own in
    let head = header_is way in
    let room : 8 * n - front_bits (front_after way own) ≡ 8 * n - (header_bits way + m) = omega (arith, wide, head) in
    (most, inl (as_row own, m, rows_alike way nid ∙ ap (option_map as_row) is, ([], r, fields_row own [] r reads, refl, fields_length own r reads, omega (arith, short, wide)), (omega (arith, fits, wide, head), subst (λ k. IsTrue (may_be_left (Message way) k)) room left)))

-- a number of L_MESSAGE fits exactly if some message of this NID_MESSAGE continues with it
pub length_fits : (way : Way) (nid n : ℕ) → MessageLengthFits way nid n ↔ Goes (AfterMessageLength way (front_row way nid) n)
length_fits way nid n = (λ h. some_message way (front_row way nid) n (fits_row way nid n h), λ g. row_fits way nid n (own_row way nid) refl (message_some way (front_row way nid) n g))
