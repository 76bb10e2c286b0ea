-- The fields of an item, as C has them.
use Rattle.std.specs.Prelude.{ℕ, ◌+◌, ◌*◌, ◌^◌, ◌==◌, Bool, true, false, ◌&&◌, List, [], ◌∷◌, ◌++◌, Option, Some, None, nat_lt, if◌then◌else◌}
use Rattle.etcs_vars.specs.declared.var.Var.{Var}
use Rattle.etcs_vars.specs.Vars.{width}
use Rattle.etcs_vars.specs.Reading.{Reading, Sent}
use Rattle.etcs_c.specs.declared.fields.EtcsField.{EtcsField}

-- the number of a variable
abbrev pub var_number : Var → ℕ
var_number Var.Q_UPDOWN = 0
var_number Var.M_VERSION_HEADER = 1
var_number Var.Q_MEDIA = 2
var_number Var.N_PIG = 3
var_number Var.N_TOTAL = 4
var_number Var.M_DUP = 5
var_number Var.M_MCOUNT = 6
var_number Var.NID_C = 7
var_number Var.NID_BG = 8
var_number Var.Q_LINK = 9
var_number Var.NID_PACKET = 10
var_number Var.Q_DIR = 11
var_number Var.L_PACKET = 12
var_number Var.Q_SCALE = 13
var_number Var.N_ITER = 14
var_number Var.NID_VBCMK = 15
var_number Var.D_LINK = 16
var_number Var.Q_NEWCOUNTRY = 17
var_number Var.Q_LINKORIENTATION = 18
var_number Var.Q_LINKREACTION = 19
var_number Var.Q_LOCACC = 20
var_number Var.V_MAIN = 21
var_number Var.V_LOA = 22
var_number Var.T_LOA = 23
var_number Var.L_SECTION = 24
var_number Var.Q_SECTIONTIMER = 25
var_number Var.T_SECTIONTIMER = 26
var_number Var.D_SECTIONTIMERSTOPLOC = 27
var_number Var.L_ENDSECTION = 28
var_number Var.Q_ENDTIMER = 29
var_number Var.T_ENDTIMER = 30
var_number Var.D_ENDTIMERSTARTLOC = 31
var_number Var.Q_DANGERPOINT = 32
var_number Var.D_DP = 33
var_number Var.V_RELEASEDP = 34
var_number Var.Q_OVERLAP = 35
var_number Var.D_STARTOL = 36
var_number Var.T_OL = 37
var_number Var.D_OL = 38
var_number Var.V_RELEASEOL = 39
var_number Var.D_GRADIENT = 40
var_number Var.Q_GDIR = 41
var_number Var.G_A = 42
var_number Var.G_TSR = 43
var_number Var.D_STATIC = 44
var_number Var.V_STATIC = 45
var_number Var.Q_FRONT = 46
var_number Var.Q_DIFF = 47
var_number Var.NC_CDDIFF = 48
var_number Var.NC_DIFF = 49
var_number Var.V_DIFF = 50
var_number Var.D_LEVELTR = 51
var_number Var.M_LEVELTR = 52
var_number Var.NID_NTC = 53
var_number Var.L_ACKLEVELTR = 54
var_number Var.Q_RBC = 55
var_number Var.NID_RBC = 56
var_number Var.NID_RADIO = 57
var_number Var.Q_SLEEPSESSION = 58
var_number Var.NID_MN = 59
var_number Var.NID_TSR = 60
var_number Var.D_TSR = 61
var_number Var.L_TSR = 62
var_number Var.V_TSR = 63
var_number Var.Q_TEXTCLASS = 64
var_number Var.Q_TEXTDISPLAY = 65
var_number Var.D_TEXTDISPLAY = 66
var_number Var.M_MODETEXTDISPLAY = 67
var_number Var.M_LEVELTEXTDISPLAY = 68
var_number Var.L_TEXTDISPLAY = 69
var_number Var.T_TEXTDISPLAY = 70
var_number Var.Q_TEXTCONFIRM = 71
var_number Var.Q_CONFTEXTDISPLAY = 72
var_number Var.Q_TEXTREPORT = 73
var_number Var.NID_TEXTMESSAGE = 74
var_number Var.L_TEXT = 75
var_number Var.X_TEXT = 76
var_number Var.Q_TEXT = 77
var_number Var.Q_ASPECT = 78
var_number Var.Q_SRSTOP = 79
var_number Var.NID_OPERATIONAL = 80
var_number Var.M_VERSION = 81
var_number Var.NID_MESSAGE = 82
var_number Var.L_MESSAGE = 83
var_number Var.T_TRAIN = 84
var_number Var.M_ACK = 85
var_number Var.NID_LRBG = 86
var_number Var.D_SR = 87
var_number Var.NID_EM = 88
var_number Var.D_REF = 89
var_number Var.Q_ORIENTATION = 90
var_number Var.T_MAR = 91
var_number Var.T_TIMEOUTRQST = 92
var_number Var.T_CYCRQST = 93
var_number Var.T_CYCLOC = 94
var_number Var.D_CYCLOC = 95
var_number Var.M_LOC = 96
var_number Var.D_LOC = 97
var_number Var.Q_LGTLOC = 98
var_number Var.Q_TRACKINIT = 99
var_number Var.D_TRACKINIT = 100
var_number Var.D_TRACKCOND = 101
var_number Var.L_TRACKCOND = 102
var_number Var.M_TRACKCOND = 103
var_number Var.D_MAMODE = 104
var_number Var.M_MAMODE = 105
var_number Var.V_MAMODE = 106
var_number Var.L_MAMODE = 107
var_number Var.L_ACKMAMODE = 108
var_number Var.Q_MAMODE = 109
var_number Var.D_RBCTR = 110
var_number Var.NID_ENGINE = 111
var_number Var.Q_STATUS = 112
var_number Var.NID_PRVLRBG = 113
var_number Var.M_ERROR = 114
var_number Var.D_LRBG = 115
var_number Var.Q_DIRLRBG = 116
var_number Var.Q_DLRBG = 117
var_number Var.L_DOUBTOVER = 118
var_number Var.L_DOUBTUNDER = 119
var_number Var.Q_LENGTH = 120
var_number Var.L_TRAININT = 121
var_number Var.V_TRAIN = 122
var_number Var.Q_DIRTRAIN = 123
var_number Var.M_MODE = 124
var_number Var.M_LEVEL = 125
var_number Var.FILL = 126
var_number Var.OTHER_DATA = 127
var_number Var.PADDING = 128
var_number Var.PAD = 129

-- ---- The fields of a reading: one for each variable, but up to 64 bits one after another of a variable of kept bits or
-- of PAD in one.

-- bits of the variable are joined: those that are kept as they are, and those of PAD
abbrev pub is_run : Var → Bool
is_run Var.FILL = true
is_run Var.OTHER_DATA = true
is_run Var.PADDING = true
is_run Var.PAD = true
is_run v = false

-- the field of a variable with its number
abbrev pub field : Sent → EtcsField
field p = record { number = p.1; var = var_number p.0; width = width p.0 }

-- a variable with its number is one more bit of the field
abbrev pub joins : EtcsField → Sent → Bool
joins f p = is_run p.0 && (f.var == var_number p.0) && nat_lt f.width 64 && nat_lt f.number (2 ^ 63) && nat_lt p.1 2

-- the field with this bit after its others
abbrev pub widened : EtcsField → ℕ → EtcsField
widened f b = record { number = f.number * 2 + b; var = f.var; width = f.width + 1 }

-- fields, and the last one, which more bits may join
abbrev pub Joined : Type 0
Joined = List EtcsField × Option EtcsField

-- these with one more variable: a bit that joins the last field, or a field after it
abbrev pub join : Joined → Sent → Joined
join (fs, None) p = (fs, Some (field p))
join (fs, Some f) p = if joins f p then (fs, Some (widened f p.1)) else (fs ++ f ∷ [], Some (field p))

-- these with some more variables, in their order
abbrev pub joined : Joined → Reading → Joined
joined s [] = s
joined s (p ∷ r) = joined (join s p) r

-- all of these fields, the last one too
abbrev pub closed : Joined → List EtcsField
closed (fs, None) = fs
closed (fs, Some f) = fs ++ f ∷ []

-- a reading's fields: one for each variable, but up to 64 bits one after another of FILL, OTHER_DATA, PADDING or PAD in one
abbrev pub fields_of : Reading → List EtcsField
fields_of r = closed (joined ([], None) r)
