-- The rows of packets and messages as nested lists (SUBSET-026, chapters 7.4 and 8). A packet's row follows its frame,
-- a message's its header.
use Rattle.std.specs.Prelude.{ℕ, ◌==◌, List, [], ◌∷◌, Option, Some, None, if◌then◌else◌}
use Rattle.etcs_vars.specs.declared.var.Var.{Var}
use Rattle.etcs_vars.specs.declared.var.Var.TheVariants.{D_CYCLOC, D_DP, D_ENDTIMERSTARTLOC, D_GRADIENT, D_LEVELTR, D_LINK, D_LOC, D_LRBG, D_MAMODE, D_OL, D_RBCTR, D_REF, D_SECTIONTIMERSTOPLOC, D_SR, D_STARTOL, D_STATIC, D_TEXTDISPLAY, D_TRACKCOND, D_TRACKINIT, D_TSR, G_A, G_TSR, L_ACKLEVELTR, L_ACKMAMODE, L_DOUBTOVER, L_DOUBTUNDER, L_ENDSECTION, L_MAMODE, L_SECTION, L_TEXT, L_TEXTDISPLAY, L_TRACKCOND, L_TRAININT, L_TSR, M_ERROR, M_LEVEL, M_LEVELTEXTDISPLAY, M_LEVELTR, M_LOC, M_MAMODE, M_MODE, M_MODETEXTDISPLAY, M_TRACKCOND, M_VERSION, NC_CDDIFF, NC_DIFF, NID_BG, NID_C, NID_EM, NID_LRBG, NID_MN, NID_NTC, NID_OPERATIONAL, NID_PRVLRBG, NID_RADIO, NID_RBC, NID_TEXTMESSAGE, NID_TSR, N_ITER, Q_ASPECT, Q_CONFTEXTDISPLAY, Q_DANGERPOINT, Q_DIFF, Q_DIRLRBG, Q_DIRTRAIN, Q_DLRBG, Q_ENDTIMER, Q_FRONT, Q_GDIR, Q_LENGTH, Q_LGTLOC, Q_LINKORIENTATION, Q_LINKREACTION, Q_LOCACC, Q_MAMODE, Q_NEWCOUNTRY, Q_ORIENTATION, Q_OVERLAP, Q_RBC, Q_SCALE, Q_SECTIONTIMER, Q_SLEEPSESSION, Q_SRSTOP, Q_STATUS, Q_TEXT, Q_TEXTCLASS, Q_TEXTCONFIRM, Q_TEXTDISPLAY, Q_TEXTREPORT, Q_TRACKINIT, T_CYCLOC, T_CYCRQST, T_ENDTIMER, T_LOA, T_MAR, T_OL, T_SECTIONTIMER, T_TEXTDISPLAY, T_TIMEOUTRQST, T_TRAIN, V_DIFF, V_LOA, V_MAIN, V_MAMODE, V_RELEASEDP, V_RELEASEOL, V_STATIC, V_TRAIN, V_TSR, X_TEXT}
use Rattle.etcs_tables.specs.declared.item.Test.TheVariants.{IsZero, IsOne, IsOneOrTwo, IsNotZero}
use Rattle.etcs_tables.specs.declared.item.Guard.{Guard}
use Rattle.etcs_tables.specs.declared.row.Way.{Way}
use Rattle.etcs_tables.specs.declared.row.Way.TheVariants.{ToTrain, ToTrack}
use Rattle.etcs_tables.specs.Layouts.{Layout, whole, one, guarded, counted}

infixr 40 ◌▸◌
-- a variable, and then the rest of the row
abbrev pub ◌▸◌ : Var → Layout → Layout
v ▸ rest = one v rest

-- the guard that the nearest variable of this name has the number 0
abbrev pub is_zero : Var → Guard
is_zero v = record { var = v; test = IsZero }

-- the guard that the nearest variable of this name has the number 1
abbrev pub is_one : Var → Guard
is_one v = record { var = v; test = IsOne }

-- the guard that the nearest variable of this name has the number 1 or 2
abbrev pub is_one_or_two : Var → Guard
is_one_or_two v = record { var = v; test = IsOneOrTwo }

-- the guard that the nearest variable of this name hasn't the number 0
abbrev pub is_not_zero : Var → Guard
is_not_zero v = record { var = v; test = IsNotZero }

-- ---- Parts, each in front of the rest of a row.

-- packets 5, 49, 63 and 136: a balise group, with its country or region if that is another
abbrev pub balise_at : Layout → Layout
balise_at rest = Q_NEWCOUNTRY ▸ guarded (is_one Q_NEWCOUNTRY) (NID_C ▸ whole) (NID_BG ▸ rest)

-- packet 5: a linked balise group
abbrev pub link : Layout → Layout
link rest = D_LINK ▸ balise_at (Q_LINKORIENTATION ▸ Q_LINKREACTION ▸ Q_LOCACC ▸ rest)

-- packets 12 and 15: the timer of a section
abbrev pub section_timer : Layout → Layout
section_timer rest = Q_SECTIONTIMER ▸ guarded (is_one Q_SECTIONTIMER) (T_SECTIONTIMER ▸ D_SECTIONTIMERSTOPLOC ▸ whole) rest

-- packets 12 and 15: the sections, the end section, and what follows flags
abbrev pub authority : Layout
authority =
    N_ITER ▸ counted (L_SECTION ▸ section_timer whole) (L_ENDSECTION ▸ section_timer (
    Q_ENDTIMER ▸ guarded (is_one Q_ENDTIMER) (T_ENDTIMER ▸ D_ENDTIMERSTARTLOC ▸ whole) (
    Q_DANGERPOINT ▸ guarded (is_one Q_DANGERPOINT) (D_DP ▸ V_RELEASEDP ▸ whole) (
    Q_OVERLAP ▸ guarded (is_one Q_OVERLAP) (D_STARTOL ▸ T_OL ▸ D_OL ▸ V_RELEASEOL ▸ whole) whole))))

-- packet 21: a slope
abbrev pub slope : Layout → Layout
slope rest = D_GRADIENT ▸ Q_GDIR ▸ G_A ▸ rest

-- packet 27: a speed, and its differences for categories of trains
abbrev pub speed : Layout → Layout
speed rest =
    D_STATIC ▸ V_STATIC ▸ Q_FRONT ▸ N_ITER ▸ counted (
    Q_DIFF ▸ guarded (is_zero Q_DIFF) (NC_CDDIFF ▸ whole) (guarded (is_one_or_two Q_DIFF) (NC_DIFF ▸ whole) (V_DIFF ▸ whole))) rest

-- packet 41: a level with its length of acknowledgement
abbrev pub level_ack : Layout → Layout
level_ack rest = M_LEVELTR ▸ guarded (is_one M_LEVELTR) (NID_NTC ▸ whole) (L_ACKLEVELTR ▸ rest)

-- packet 46: a level
abbrev pub level : Layout → Layout
level rest = M_LEVELTR ▸ guarded (is_one M_LEVELTR) (NID_NTC ▸ whole) rest

-- packets 72 and 76: where a text is shown, at its start or at its end
abbrev pub shown : Layout → Layout
shown rest = M_MODETEXTDISPLAY ▸ M_LEVELTEXTDISPLAY ▸ guarded (is_one M_LEVELTEXTDISPLAY) (NID_NTC ▸ whole) rest

-- packets 72 and 76: all but the text itself
abbrev pub text_frame : Layout → Layout
text_frame rest =
    Q_SCALE ▸ Q_TEXTCLASS ▸ Q_TEXTDISPLAY ▸ D_TEXTDISPLAY ▸ shown (L_TEXTDISPLAY ▸ T_TEXTDISPLAY ▸ shown (
    Q_TEXTCONFIRM ▸ guarded (is_not_zero Q_TEXTCONFIRM)
    (Q_CONFTEXTDISPLAY ▸ Q_TEXTREPORT ▸ guarded (is_one Q_TEXTREPORT) (NID_TEXTMESSAGE ▸ NID_C ▸ NID_RBC ▸ whole) whole) rest))

-- packet 58: a place of a report
abbrev pub report_at : Layout → Layout
report_at rest = D_LOC ▸ Q_LGTLOC ▸ rest

-- packet 68: a track condition
abbrev pub condition : Layout → Layout
condition rest = D_TRACKCOND ▸ L_TRACKCOND ▸ M_TRACKCOND ▸ rest

-- packet 80: an area of a mode
abbrev pub mode_section : Layout → Layout
mode_section rest = D_MAMODE ▸ M_MAMODE ▸ V_MAMODE ▸ L_MAMODE ▸ L_ACKMAMODE ▸ Q_MAMODE ▸ rest

-- packets 0 and 1 to the track: where the train is, and what it does
abbrev pub located : Layout → Layout
located rest =
    D_LRBG ▸ Q_DIRLRBG ▸ Q_DLRBG ▸ L_DOUBTOVER ▸ L_DOUBTUNDER ▸ Q_LENGTH ▸ guarded (is_one_or_two Q_LENGTH) (L_TRAININT ▸ whole) (
    V_TRAIN ▸ Q_DIRTRAIN ▸ M_MODE ▸ M_LEVEL ▸ guarded (is_one M_LEVEL) (NID_NTC ▸ whole) rest)

-- ---- Packets, each after its frame.

-- packet 2 to the train: the version of the system
abbrev pub system_version : Layout
system_version = M_VERSION ▸ whole

-- packet 5 to the train: the linked balise groups
abbrev pub linking : Layout
linking = Q_SCALE ▸ link (N_ITER ▸ counted (link whole) whole)

-- packet 12 to the train: an authority in level 1
abbrev pub level1_ma : Layout
level1_ma = Q_SCALE ▸ V_MAIN ▸ V_LOA ▸ T_LOA ▸ authority

-- packet 15 to the train: an authority in levels 2 and 3
abbrev pub level23_ma : Layout
level23_ma = Q_SCALE ▸ V_LOA ▸ T_LOA ▸ authority

-- packet 16 to the train: the length of the section from here on
abbrev pub repositioning : Layout
repositioning = Q_SCALE ▸ L_SECTION ▸ whole

-- packet 21 to the train: the slopes of the track
abbrev pub gradient : Layout
gradient = Q_SCALE ▸ slope (N_ITER ▸ counted (slope whole) whole)

-- packet 27 to the train: the static speeds
abbrev pub speed_profile : Layout
speed_profile = Q_SCALE ▸ speed (N_ITER ▸ counted (speed whole) whole)

-- packet 41 to the train: the levels to change to
abbrev pub level_order : Layout
level_order = Q_SCALE ▸ D_LEVELTR ▸ level_ack (N_ITER ▸ counted (level_ack whole) whole)

-- packet 42 to the train: a session with a radio block centre
abbrev pub session_management : Layout
session_management = Q_RBC ▸ NID_C ▸ NID_RBC ▸ NID_RADIO ▸ Q_SLEEPSESSION ▸ whole

-- packet 45 to the train: the radio network
abbrev pub radio_network : Layout
radio_network = NID_MN ▸ whole

-- packet 46 to the train: the levels that are allowed
abbrev pub conditional_level_order : Layout
conditional_level_order = level (N_ITER ▸ counted (level whole) whole)

-- packets 49 and 63 to the train: a list of balise groups
abbrev pub balise_list : Layout
balise_list = N_ITER ▸ counted (balise_at whole) whole

-- packet 57 to the train: when the train asks for an authority
abbrev pub ma_request : Layout
ma_request = T_MAR ▸ T_TIMEOUTRQST ▸ T_CYCRQST ▸ whole

-- packet 58 to the train: when and where the train reports its position
abbrev pub report_parameters : Layout
report_parameters = Q_SCALE ▸ T_CYCLOC ▸ D_CYCLOC ▸ M_LOC ▸ N_ITER ▸ counted (report_at whole) whole

-- packet 65 to the train: a temporary speed restriction
abbrev pub tsr : Layout
tsr = Q_SCALE ▸ NID_TSR ▸ D_TSR ▸ L_TSR ▸ Q_FRONT ▸ V_TSR ▸ whole

-- packet 66 to the train: the end of a temporary speed restriction
abbrev pub tsr_revocation : Layout
tsr_revocation = NID_TSR ▸ whole

-- packet 68 to the train: track conditions
abbrev pub track_condition : Layout
track_condition =
    Q_SCALE ▸ Q_TRACKINIT ▸ guarded (is_one Q_TRACKINIT) (D_TRACKINIT ▸ whole) (
    guarded (is_zero Q_TRACKINIT) (condition (N_ITER ▸ counted (condition whole) whole)) whole)

-- packet 72 to the train: a text of its own
abbrev pub plain_text : Layout
plain_text = text_frame (L_TEXT ▸ counted (X_TEXT ▸ whole) whole)

-- packet 76 to the train: one of the fixed texts
abbrev pub fixed_text : Layout
fixed_text = text_frame (Q_TEXT ▸ whole)

-- packet 80 to the train: areas of a mode
abbrev pub mode_profile : Layout
mode_profile = Q_SCALE ▸ mode_section (N_ITER ▸ counted (mode_section whole) whole)

-- packet 131 to the train: the radio block centre that takes over
abbrev pub rbc_transition : Layout
rbc_transition = Q_SCALE ▸ D_RBCTR ▸ NID_C ▸ NID_RBC ▸ NID_RADIO ▸ Q_SLEEPSESSION ▸ whole

-- packet 132 to the train: whether the train stops in shunting mode
abbrev pub danger_for_shunting : Layout
danger_for_shunting = Q_ASPECT ▸ whole

-- packet 136 to the train: the balise group that infill refers to
abbrev pub infill_location : Layout
infill_location = balise_at whole

-- packet 137 to the train: whether the train stops in staff responsible mode
abbrev pub stop_in_sr : Layout
stop_in_sr = Q_SRSTOP ▸ whole

-- packet 140 to the train, packet 5 to the track: the running number of the train
abbrev pub train_running_number : Layout
train_running_number = NID_OPERATIONAL ▸ whole

-- packet 141 to the train: the gradient to assume in temporary speed restrictions
abbrev pub tsr_gradient : Layout
tsr_gradient = Q_GDIR ▸ G_TSR ▸ whole

-- packet 0 to the track: where the train is
abbrev pub position_report : Layout
position_report = Q_SCALE ▸ NID_LRBG ▸ located whole

-- packet 1 to the track: where the train is, by two balise groups
abbrev pub position_report_two : Layout
position_report_two = Q_SCALE ▸ NID_LRBG ▸ NID_PRVLRBG ▸ located whole

-- packet 4 to the track: an error of the train
abbrev pub fault_report : Layout
fault_report = M_ERROR ▸ whole

-- ---- The rows by number.

-- the row beside the first number in a list that is n, if there is one
abbrev pub found : List (ℕ × Layout) → ℕ → Option Layout
found [] n = None
found (row ∷ rows) n = if n == row.0 then Some row.1 else found rows n

-- the rows of typed packets, each beside its number; to the train 0 and 255 aren't typed
abbrev pub rows_to : Way → List (ℕ × Layout)
rows_to ToTrain =
    (2, system_version) ∷
    (5, linking) ∷
    (12, level1_ma) ∷
    (15, level23_ma) ∷
    (16, repositioning) ∷
    (21, gradient) ∷
    (27, speed_profile) ∷
    (41, level_order) ∷
    (42, session_management) ∷
    (45, radio_network) ∷
    (46, conditional_level_order) ∷
    (49, balise_list) ∷
    (57, ma_request) ∷
    (58, report_parameters) ∷
    (63, balise_list) ∷
    (64, whole) ∷
    (65, tsr) ∷
    (66, tsr_revocation) ∷
    (68, track_condition) ∷
    (72, plain_text) ∷
    (76, fixed_text) ∷
    (80, mode_profile) ∷
    (131, rbc_transition) ∷
    (132, danger_for_shunting) ∷
    (135, whole) ∷
    (136, infill_location) ∷
    (137, stop_in_sr) ∷
    (140, train_running_number) ∷
    (141, tsr_gradient) ∷
    (145, whole) ∷
    (254, whole) ∷ []
rows_to ToTrack =
    (0, position_report) ∷
    (1, position_report_two) ∷
    (4, fault_report) ∷
    (5, train_running_number) ∷ []

-- the row of packet n one way, after its frame; nothing if the number isn't typed
abbrev pub row_to : Way → ℕ → Option Layout
row_to way n = found (rows_to way) n

-- the rows of typed messages, each beside its number
abbrev pub message_rows_to : Way → List (ℕ × Layout)
message_rows_to ToTrain =
    (2, Q_SCALE ▸ D_SR ▸ whole) ∷
    (3, whole) ∷
    (6, whole) ∷
    (8, T_TRAIN ▸ whole) ∷
    (9, whole) ∷
    (16, NID_EM ▸ whole) ∷
    (18, NID_EM ▸ whole) ∷
    (24, whole) ∷
    (27, T_TRAIN ▸ whole) ∷
    (28, T_TRAIN ▸ whole) ∷
    (32, M_VERSION ▸ whole) ∷
    (33, Q_SCALE ▸ D_REF ▸ whole) ∷
    (38, whole) ∷
    (39, whole) ∷
    (40, whole) ∷
    (41, whole) ∷
    (43, whole) ∷
    (45, Q_ORIENTATION ▸ whole) ∷ []
message_rows_to ToTrack =
    (130, whole) ∷
    (136, whole) ∷
    (137, T_TRAIN ▸ whole) ∷
    (138, T_TRAIN ▸ whole) ∷
    (146, T_TRAIN ▸ whole) ∷
    (150, whole) ∷
    (155, whole) ∷
    (156, whole) ∷
    (157, Q_STATUS ▸ whole) ∷
    (159, whole) ∷ []

-- the row of message n one way, after its header; nothing if the number isn't typed
abbrev pub message_row_to : Way → ℕ → Option Layout
message_row_to way n = found (message_rows_to way) n
