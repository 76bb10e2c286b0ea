-- The variables of headers, in the order of sending (SUBSET-026, 8).
use Rattle.std.specs.Prelude.{List, [], ◌∷◌}
use Rattle.etcs_vars.specs.declared.var.Var.{Var}
use Rattle.etcs_vars.specs.declared.var.Var.TheVariants.{M_ACK, M_DUP, M_MCOUNT, M_VERSION_HEADER, NID_BG, NID_C, NID_ENGINE, NID_LRBG, N_PIG, N_TOTAL, Q_LINK, Q_MEDIA, Q_UPDOWN, T_TRAIN}
use Rattle.etcs_tables.specs.declared.row.Way.{Way}
use Rattle.etcs_tables.specs.declared.row.Way.TheVariants.{ToTrain, ToTrack}

-- the ten variables of a telegram's header
abbrev pub header_row : List Var
header_row = Q_UPDOWN ∷ M_VERSION_HEADER ∷ Q_MEDIA ∷ N_PIG ∷ N_TOTAL ∷ M_DUP ∷ M_MCOUNT ∷ NID_C ∷ NID_BG ∷ Q_LINK ∷ []

-- the variables of a typed message's header after NID_MESSAGE and L_MESSAGE: to the train T_TRAIN, M_ACK, NID_LRBG, to
-- the track T_TRAIN, NID_ENGINE
abbrev pub head_row : Way → List Var
head_row ToTrain = T_TRAIN ∷ M_ACK ∷ NID_LRBG ∷ []
head_row ToTrack = T_TRAIN ∷ NID_ENGINE ∷ []
