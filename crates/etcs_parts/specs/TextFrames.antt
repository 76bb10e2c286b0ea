-- All of a text message but the text itself, of packets 72 and 76 (SUBSET-026, 7.4.2).
use Rattle.std.proofs.Common.{ℕ, Bool, Option, Some, None}
use Rattle.etcs_vars.specs.declared.var.Var.TheVariants.{Q_SCALE, Q_TEXTCLASS, Q_TEXTDISPLAY, D_TEXTDISPLAY, L_TEXTDISPLAY, T_TEXTDISPLAY, Q_TEXTCONFIRM, Q_CONFTEXTDISPLAY, Q_TEXTREPORT, NID_TEXTMESSAGE, NID_C, NID_RBC}
use Rattle.etcs_vars.specs.declared.fault.BuildFault.{BuildFault}
use Rattle.etcs_tables.specs.declared.item.Test.TheVariants.{IsNotZero}
use Rattle.etcs_bodies.specs.Formats.{Format, number, flag, ◌⊗◌, optional, guarded, part, named, fault}
use Rattle.etcs_parts.specs.Displays.{Shown, shown_format}
pub use Rattle.etcs_parts.specs.declared.text_frame.TextFrame.TheInside.{Inside as TextFrame}

-- to whom a confirmation is reported: NID_TEXTMESSAGE, NID_C and NID_RBC
abbrev pub Report : Type 0
Report = ℕ × ℕ × ℕ

-- the format of what a confirmation's report names, without its flag
abbrev pub report_format : Format Report
report_format = named (λ n. (n.0, n.1.0, n.1.1)) (λ r. (r.0, (r.1, r.2))) (number NID_TEXTMESSAGE ⊗ number NID_C ⊗ number NID_RBC)

-- how a text is confirmed: Q_CONFTEXTDISPLAY, and the report if there is one
abbrev pub Confirm : Type 0
Confirm = Bool × Option Report

-- the format of how a text is confirmed, without Q_TEXTCONFIRM
abbrev pub confirm_format : Format Confirm
confirm_format = flag Q_CONFTEXTDISPLAY ⊗ optional Q_TEXTREPORT report_format

-- the format of Q_TEXTCONFIRM, and of the confirmation exactly if it isn't 0
abbrev pub confirmed_format : Format (ℕ × Option Confirm)
confirmed_format = guarded Q_TEXTCONFIRM IsNotZero confirm_format

-- all of a text message but its text of these numbers and parts, in the order of the constructor's
abbrev pub text_frame_value : ℕ → ℕ → Bool → ℕ → Shown → ℕ → ℕ → Shown → ℕ → Option Confirm → TextFrame
text_frame_value q_scale q_textclass q_textdisplay d_textdisplay start l_textdisplay t_textdisplay end q_textconfirm confirm =
    record {
      q_scale = q_scale;
      q_textclass = q_textclass;
      q_textdisplay = q_textdisplay;
      d_textdisplay = d_textdisplay;
      start = start;
      l_textdisplay = l_textdisplay;
      t_textdisplay = t_textdisplay;
      end = end;
      confirmed = record { q_textconfirm = q_textconfirm; confirm = confirm };
    }

-- the format of all of a text message but its text: its variables in the order of sending
abbrev pub text_frame_format : Format TextFrame
text_frame_format =
    named
    (λ n. text_frame_value n.0 n.1.0 n.1.1.0 n.1.1.1.0 n.1.1.1.1.0 n.1.1.1.1.1.0 n.1.1.1.1.1.1.0 n.1.1.1.1.1.1.1.0 n.1.1.1.1.1.1.1.1.0 n.1.1.1.1.1.1.1.1.1)
    (λ t. (t.q_scale, (t.q_textclass, (t.q_textdisplay, (t.d_textdisplay, (t.start, (t.l_textdisplay, (t.t_textdisplay, (t.end, (t.confirmed.q_textconfirm, t.confirmed.confirm)))))))))) (
    number Q_SCALE ⊗ number Q_TEXTCLASS ⊗ flag Q_TEXTDISPLAY ⊗ number D_TEXTDISPLAY ⊗ part shown_format
    ⊗ number L_TEXTDISPLAY ⊗ number T_TEXTDISPLAY ⊗ part shown_format ⊗ confirmed_format)

-- the first fault of all of a text message but its text, in the order of the variables; start and end aren't looked
-- at again
abbrev pub text_frame_fault : TextFrame → Option BuildFault
text_frame_fault = fault text_frame_format

-- how many bits a confirmation takes with Q_TEXTCONFIRM
abbrev pub confirmed_count : Option Confirm → ℕ
confirmed_count None = 2
confirmed_count (Some (shown, None)) = 4
confirmed_count (Some (shown, Some report)) = 36
