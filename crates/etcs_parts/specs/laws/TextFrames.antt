-- Lemmas about specs/TextFrames.antt.
use Rattle.std.proofs.Common.{◌≡◌, ℕ, ◌∷◌, ◌++◌, ◌+◌, ◌≤◌, length, Option, Some, None, refl, arith, ◌&&◌, nat_eq, Decides}
use Rattle.etcs_bodies.specs.Repeats.{bit_count}
use Rattle.etcs_bodies.specs.laws.Repeats.{bit_count_is, bit_count-append}
use Rattle.etcs_vars.specs.declared.var.Var.TheVariants.{L_TEXTDISPLAY, T_TEXTDISPLAY}
use Rattle.etcs_vars.specs.Reading.{spelled}
use Rattle.etcs_bodies.specs.Formats.{reading}
use Rattle.etcs_bodies.specs.laws.Formats.{IsFormat, exact_of}
use Rattle.etcs_parts.specs.Displays.{shown_format}
use Rattle.etcs_parts.specs.laws.Displays.{shown_ok, shown_small}
use Rattle.etcs_parts.specs.TextFrames.{Report, Confirm, confirm_format, confirmed_format, TextFrame, text_frame_format, confirmed_count, text_frame_value}
use Rattle.etcs_bodies.specs.Equality.{IsExact}
use Rattle.etcs_bodies.specs.laws.Equality.{number_exact, fields_exact, both_exact, numbers_exact, flag_exact, option_exact}
use Rattle.etcs_parts.specs.contracts.text_frame.TextFramePartialEq.TheImpl as text_frame_eq

confirm_ok : IsFormat confirm_format
confirm_ok = ((refl, refl, refl), ((refl, refl, refl), (λ p. refl, λ v. refl, (tt, (tt, tt)))))

pub text_frame_ok : IsFormat text_frame_format
text_frame_ok = (λ p. refl, λ v. refl, (tt, (tt, ((refl, refl, refl), (tt, (shown_ok, (tt, (tt, (shown_ok, confirm_ok)))))))))

-- ---- Its bits.

confirmed_is : (n : ℕ) (o : Option Confirm) → bit_count (reading confirmed_format (n, o)) ≡ confirmed_count o
confirmed_is n None = refl
confirmed_is n (Some (shown, None)) = refl
confirmed_is n (Some (shown, Some report)) = refl

pub text_frame_bits : (t : TextFrame) → length (spelled (reading text_frame_format t)) ≡ 45 + length (spelled (reading shown_format t.start)) + length (spelled (reading shown_format t.end)) + confirmed_count t.confirmed.confirm
text_frame_bits t =
    let beyond = reading confirmed_format (t.confirmed.q_textconfirm, t.confirmed.confirm) in
    let end = bit_count-append (reading shown_format t.end) beyond in
    let start = bit_count-append (reading shown_format t.start) ((L_TEXTDISPLAY, t.l_textdisplay) ∷ (T_TEXTDISPLAY, t.t_textdisplay) ∷ (reading shown_format t.end ++ beyond)) in
    let confirm = confirmed_is t.confirmed.q_textconfirm t.confirmed.confirm in
    rw (bit_count_is (reading text_frame_format t), bit_count_is (reading shown_format t.start), bit_count_is (reading shown_format t.end)) (omega arith)

confirm_most : (o : Option Confirm) → confirmed_count o ≤ 36
confirm_most None = omega arith
confirm_most (Some (shown, None)) = omega arith
confirm_most (Some (shown, Some report)) = omega arith

pub text_frame_small : (t : TextFrame) → length (spelled (reading text_frame_format t)) ≤ 111
text_frame_small t = omega (arith, text_frame_bits t, shown_small t.start, shown_small t.end, confirm_most t.confirmed.confirm)

-- ---- Its `==`.

report_exact : IsExact (λ (a b : Report). (nat_eq a.0 b.0 && nat_eq a.1 b.1) && nat_eq a.2 b.2)
report_exact = fields_exact (λ (r : Report). ((r.0, r.1), r.2)) (λ n. (n.0.0, n.0.1, n.1)) (λ r. refl) (both_exact numbers_exact number_exact)

pub text_frame_exact : (a b : TextFrame) → Decides (text_frame_eq.ghosts.eq a b) (a ≡ b)
text_frame_exact =
    fields_exact
    (λ (p : TextFrame). (p.q_scale, (p.q_textclass, (p.q_textdisplay, (p.d_textdisplay, (p.l_textdisplay, (p.t_textdisplay, ((p.confirmed.q_textconfirm, p.confirmed.confirm), (p.start, p.end)))))))))
    (λ n. text_frame_value n.0 n.1.0 n.1.1.0 n.1.1.1.0 n.1.1.1.1.1.1.1.0 n.1.1.1.1.0 n.1.1.1.1.1.0 n.1.1.1.1.1.1.1.1 n.1.1.1.1.1.1.0.0 n.1.1.1.1.1.1.0.1)
    (λ p. refl) (
    both_exact number_exact (
    both_exact number_exact (
    both_exact flag_exact (
    both_exact number_exact (
    both_exact number_exact (
    both_exact number_exact (
    both_exact (both_exact number_exact (option_exact (both_exact flag_exact (option_exact report_exact)))) (
    both_exact (exact_of shown_format shown_ok) (exact_of shown_format shown_ok)))))))))
