-- The variables: their names, widths, the numbers that they admit, and the texts of special numbers (SUBSET-026,
-- chapter 7.5).
use Prim.Native.String.{String}
use Rattle.std.specs.Prelude.{ℕ, ◌^◌, ◌-◌, ◌/◌, Bool, ◌&&◌, nat_lt, nat_le, List, [], ◌∷◌, codes, bytes_eq, ◌==◌, if◌then◌else◌, Option, Some, None}
use Rattle.std.specs.List.{list_any}
use Rattle.etcs_vars.specs.declared.var.Var.{Var}
use Rattle.etcs_vars.specs.declared.var.Var.TheVariants.{T_LOA, T_SECTIONTIMER, T_ENDTIMER, V_RELEASEDP, T_OL, V_RELEASEOL, G_A, V_STATIC, D_LEVELTR, NID_LRBG}

-- what a variable is: its name as it is printed, its width, and the numbers that it admits, as ranges with both ends
abbrev Variable : Type 0
Variable = List ℕ × ℕ × List (ℕ × ℕ)

-- a variable that admits these numbers alone: spare numbers are refused
abbrev only : String → ℕ → List (ℕ × ℕ) → Variable
only name width ranges = (codes name, width, ranges)

-- a variable that admits every number of its width
abbrev all : String → ℕ → Variable
all name width = only name width ((0, 2 ^ width - 1) ∷ [])

-- the table of the variables: a line for each, from which name, width and ranges are taken
abbrev variable : Var → Variable
-- the header of a telegram
variable Var.Q_UPDOWN = only "Q_UPDOWN" 1 ((1, 1) ∷ [])
variable Var.M_VERSION_HEADER = only "M_VERSION" 7 ((32, 33) ∷ [])
variable Var.Q_MEDIA = only "Q_MEDIA" 1 ((0, 0) ∷ [])
variable Var.N_PIG = all "N_PIG" 3
variable Var.N_TOTAL = all "N_TOTAL" 3
variable Var.M_DUP = only "M_DUP" 2 ((0, 2) ∷ [])
variable Var.M_MCOUNT = all "M_MCOUNT" 8
variable Var.NID_C = all "NID_C" 10
variable Var.NID_BG = all "NID_BG" 14
variable Var.Q_LINK = all "Q_LINK" 1
-- the frame of a packet
variable Var.NID_PACKET = all "NID_PACKET" 8
variable Var.Q_DIR = only "Q_DIR" 2 ((0, 2) ∷ [])
variable Var.L_PACKET = all "L_PACKET" 13
variable Var.Q_SCALE = only "Q_SCALE" 2 ((0, 2) ∷ [])
variable Var.N_ITER = all "N_ITER" 5
variable Var.NID_VBCMK = all "NID_VBCMK" 6
-- linking and infill
variable Var.D_LINK = all "D_LINK" 15
variable Var.Q_NEWCOUNTRY = all "Q_NEWCOUNTRY" 1
variable Var.Q_LINKORIENTATION = all "Q_LINKORIENTATION" 1
variable Var.Q_LINKREACTION = only "Q_LINKREACTION" 2 ((0, 2) ∷ [])
variable Var.Q_LOCACC = all "Q_LOCACC" 6
-- movement authorities
variable Var.V_MAIN = only "V_MAIN" 7 ((0, 120) ∷ [])
variable Var.V_LOA = only "V_LOA" 7 ((0, 120) ∷ [])
variable Var.T_LOA = all "T_LOA" 10
variable Var.L_SECTION = all "L_SECTION" 15
variable Var.Q_SECTIONTIMER = all "Q_SECTIONTIMER" 1
variable Var.T_SECTIONTIMER = all "T_SECTIONTIMER" 10
variable Var.D_SECTIONTIMERSTOPLOC = all "D_SECTIONTIMERSTOPLOC" 15
variable Var.L_ENDSECTION = all "L_ENDSECTION" 15
variable Var.Q_ENDTIMER = all "Q_ENDTIMER" 1
variable Var.T_ENDTIMER = all "T_ENDTIMER" 10
variable Var.D_ENDTIMERSTARTLOC = all "D_ENDTIMERSTARTLOC" 15
variable Var.Q_DANGERPOINT = all "Q_DANGERPOINT" 1
variable Var.D_DP = all "D_DP" 15
variable Var.V_RELEASEDP = only "V_RELEASEDP" 7 ((0, 120) ∷ (126, 127) ∷ [])
variable Var.Q_OVERLAP = all "Q_OVERLAP" 1
variable Var.D_STARTOL = all "D_STARTOL" 15
variable Var.T_OL = all "T_OL" 10
variable Var.D_OL = all "D_OL" 15
variable Var.V_RELEASEOL = only "V_RELEASEOL" 7 ((0, 120) ∷ (126, 127) ∷ [])
-- profiles of gradient and speed
variable Var.D_GRADIENT = all "D_GRADIENT" 15
variable Var.Q_GDIR = all "Q_GDIR" 1
variable Var.G_A = all "G_A" 8
variable Var.G_TSR = all "G_TSR" 8
variable Var.D_STATIC = all "D_STATIC" 15
variable Var.V_STATIC = only "V_STATIC" 7 ((0, 120) ∷ (127, 127) ∷ [])
variable Var.Q_FRONT = all "Q_FRONT" 1
variable Var.Q_DIFF = only "Q_DIFF" 2 ((0, 2) ∷ [])
variable Var.NC_CDDIFF = all "NC_CDDIFF" 4
variable Var.NC_DIFF = all "NC_DIFF" 4
variable Var.V_DIFF = all "V_DIFF" 7
-- levels
variable Var.D_LEVELTR = all "D_LEVELTR" 15
variable Var.M_LEVELTR = only "M_LEVELTR" 3 ((0, 4) ∷ [])
variable Var.NID_NTC = all "NID_NTC" 8
variable Var.L_ACKLEVELTR = all "L_ACKLEVELTR" 15
-- the radio network
variable Var.Q_RBC = all "Q_RBC" 1
variable Var.NID_RBC = all "NID_RBC" 14
variable Var.NID_RADIO = all "NID_RADIO" 64
variable Var.Q_SLEEPSESSION = all "Q_SLEEPSESSION" 1
variable Var.NID_MN = all "NID_MN" 24
-- temporary speed restrictions
variable Var.NID_TSR = all "NID_TSR" 8
variable Var.D_TSR = all "D_TSR" 15
variable Var.L_TSR = all "L_TSR" 15
variable Var.V_TSR = only "V_TSR" 7 ((0, 120) ∷ [])
-- texts
variable Var.Q_TEXTCLASS = all "Q_TEXTCLASS" 2
variable Var.Q_TEXTDISPLAY = all "Q_TEXTDISPLAY" 1
variable Var.D_TEXTDISPLAY = all "D_TEXTDISPLAY" 15
variable Var.M_MODETEXTDISPLAY = all "M_MODETEXTDISPLAY" 4
variable Var.M_LEVELTEXTDISPLAY = only "M_LEVELTEXTDISPLAY" 3 ((0, 5) ∷ [])
variable Var.L_TEXTDISPLAY = all "L_TEXTDISPLAY" 15
variable Var.T_TEXTDISPLAY = all "T_TEXTDISPLAY" 10
variable Var.Q_TEXTCONFIRM = all "Q_TEXTCONFIRM" 2
variable Var.Q_CONFTEXTDISPLAY = all "Q_CONFTEXTDISPLAY" 1
variable Var.Q_TEXTREPORT = all "Q_TEXTREPORT" 1
variable Var.NID_TEXTMESSAGE = all "NID_TEXTMESSAGE" 8
variable Var.L_TEXT = all "L_TEXT" 8
variable Var.X_TEXT = all "X_TEXT" 8
variable Var.Q_TEXT = all "Q_TEXT" 8
-- other packets
variable Var.Q_ASPECT = all "Q_ASPECT" 1
variable Var.Q_SRSTOP = all "Q_SRSTOP" 1
variable Var.NID_OPERATIONAL = all "NID_OPERATIONAL" 32
variable Var.M_VERSION = all "M_VERSION" 7
-- radio messages
variable Var.NID_MESSAGE = all "NID_MESSAGE" 8
variable Var.L_MESSAGE = all "L_MESSAGE" 10
variable Var.T_TRAIN = all "T_TRAIN" 32
variable Var.M_ACK = all "M_ACK" 1
variable Var.NID_LRBG = all "NID_LRBG" 24
variable Var.D_SR = all "D_SR" 15
variable Var.NID_EM = all "NID_EM" 4
variable Var.D_REF = all "D_REF" 16
variable Var.Q_ORIENTATION = all "Q_ORIENTATION" 1
-- requests for a movement authority
variable Var.T_MAR = all "T_MAR" 8
variable Var.T_TIMEOUTRQST = all "T_TIMEOUTRQST" 10
variable Var.T_CYCRQST = all "T_CYCRQST" 8
-- position reports
variable Var.T_CYCLOC = all "T_CYCLOC" 8
variable Var.D_CYCLOC = all "D_CYCLOC" 15
variable Var.M_LOC = all "M_LOC" 3
variable Var.D_LOC = all "D_LOC" 15
variable Var.Q_LGTLOC = all "Q_LGTLOC" 1
-- track conditions
variable Var.Q_TRACKINIT = all "Q_TRACKINIT" 1
variable Var.D_TRACKINIT = all "D_TRACKINIT" 15
variable Var.D_TRACKCOND = all "D_TRACKCOND" 15
variable Var.L_TRACKCOND = all "L_TRACKCOND" 15
variable Var.M_TRACKCOND = all "M_TRACKCOND" 4
-- mode profiles
variable Var.D_MAMODE = all "D_MAMODE" 15
variable Var.M_MAMODE = only "M_MAMODE" 2 ((0, 2) ∷ [])
variable Var.V_MAMODE = only "V_MAMODE" 7 ((0, 120) ∷ (127, 127) ∷ [])
variable Var.L_MAMODE = all "L_MAMODE" 15
variable Var.L_ACKMAMODE = all "L_ACKMAMODE" 15
variable Var.Q_MAMODE = all "Q_MAMODE" 1
-- handing over to another radio block centre
variable Var.D_RBCTR = all "D_RBCTR" 15
-- messages to the track
variable Var.NID_ENGINE = all "NID_ENGINE" 24
variable Var.Q_STATUS = all "Q_STATUS" 2
-- what a train reports
variable Var.NID_PRVLRBG = all "NID_PRVLRBG" 24
variable Var.M_ERROR = all "M_ERROR" 8
variable Var.D_LRBG = all "D_LRBG" 15
variable Var.Q_DIRLRBG = all "Q_DIRLRBG" 2
variable Var.Q_DLRBG = all "Q_DLRBG" 2
variable Var.L_DOUBTOVER = all "L_DOUBTOVER" 15
variable Var.L_DOUBTUNDER = all "L_DOUBTUNDER" 15
variable Var.Q_LENGTH = all "Q_LENGTH" 2
variable Var.L_TRAININT = all "L_TRAININT" 15
variable Var.V_TRAIN = all "V_TRAIN" 7
variable Var.Q_DIRTRAIN = all "Q_DIRTRAIN" 2
variable Var.M_MODE = all "M_MODE" 4
variable Var.M_LEVEL = only "M_LEVEL" 3 ((0, 4) ∷ [])
-- bits that are kept as they are, one variable for each bit
variable Var.FILL = all "FILL" 1
variable Var.OTHER_DATA = all "OTHER_DATA" 1
variable Var.PADDING = all "PADDING" 1
variable Var.PAD = only "PAD" 1 ((0, 0) ∷ [])

-- how many bits the variable takes
abbrev pub width : Var → ℕ
width v = (variable v).1

-- the numbers that the variable admits, as ranges, both ends included; spare numbers are in none
abbrev pub ranges : Var → List (ℕ × ℕ)
ranges v = (variable v).2

-- n lies in one of the ranges, both ends included
abbrev pub inside : List (ℕ × ℕ) → ℕ → Bool
inside rs n = list_any (λ r. nat_le r.0 n && nat_le n r.1) rs

-- the variable v admits the number n: it fits the width and lies in one of the ranges
abbrev pub admits : Var → ℕ → Bool
admits v n = nat_lt n (2 ^ width v) && inside (ranges v) n

-- some number of the ranges gives n once its rest lowest bits are dropped (of ranges whose ends are in order)
abbrev pub begins : List (ℕ × ℕ) → ℕ → ℕ → Bool
begins rs rest n = list_any (λ r. nat_le (r.0 / 2 ^ rest) n && nat_le n (r.1 / 2 ^ rest)) rs

-- the name of the variable as it is printed
abbrev pub name : Var → List ℕ
name v = (variable v).0

-- v and w have the same printed name, as the two variables M_VERSION have
abbrev pub same_name : Var → Var → Bool
same_name v w = bytes_eq (name v) (name w)

-- the meaning of a number n of a variable that isn't a plain quantity, or nothing
abbrev pub special : Var → ℕ → Option (List ℕ)
special V_STATIC n = if n == 127 then Some (codes "end of profile") else None
special G_A n = if n == 255 then Some (codes "end of profile") else None
special V_RELEASEDP n = if n == 126 then Some (codes "calculated on board") else if n == 127 then Some (codes "national value") else None
special V_RELEASEOL n = if n == 126 then Some (codes "calculated on board") else if n == 127 then Some (codes "national value") else None
special T_LOA n = if n == 1023 then Some (codes "unlimited") else None
special T_SECTIONTIMER n = if n == 1023 then Some (codes "unlimited") else None
special T_ENDTIMER n = if n == 1023 then Some (codes "unlimited") else None
special T_OL n = if n == 1023 then Some (codes "unlimited") else None
special D_LEVELTR n = if n == 32767 then Some (codes "now") else None
special NID_LRBG n = if n == 16777215 then Some (codes "unknown") else None
special v n = None
