-- The heads and the bodies of messages to the track (SUBSET-026, chapter 8).
use Rattle.std.specs.Prelude.{ℕ, ◌^◌, ◌<◌, ◌==◌, ◌||◌, Bool, true, List, [], ◌∷◌, Option, None, if◌then◌else◌, slice_index}
use Rattle.etcs_vars.specs.declared.var.Var.TheVariants.{T_TRAIN, NID_ENGINE, Q_STATUS}
use Rattle.etcs_vars.specs.declared.fault.BuildFault.{BuildFault}
use Rattle.etcs_vars.specs.Faults.{number_fault}
use Rattle.etcs_vars.specs.Reading.{Reading}
use Rattle.etcs_messages.specs.Kinds.{HeadOf, OwnOf}
use Rattle.etcs_train.specs.declared.body.TrainBody.{TrainBody}
use Rattle.etcs_train.specs.declared.body.TrainBody.TheVariants.{Plain, TrainTime, Status}
use Rattle.etcs_train.specs.declared.body.TrainHead.{TrainHead}

-- ---- Heads.

-- a head's variables with their numbers: T_TRAIN and NID_ENGINE, which are after number and length in the header
abbrev pub head_variables : TrainHead → Reading
head_variables h = (T_TRAIN, h.t_train) ∷ (NID_ENGINE, h.nid_engine) ∷ []

-- the head of the numbers of T_TRAIN and NID_ENGINE
abbrev pub head_by : List ℕ → TrainHead
head_by ns = record { t_train = slice_index ns 0; nid_engine = slice_index ns 1 }

-- what heads of messages to the track are
abbrev pub train_head : HeadOf TrainHead
train_head = record { reading = head_variables; fault = λ h. number_fault NID_ENGINE h.nid_engine; Fits = λ h. h.t_train < 2 ^ 32; made = head_by }

-- ---- Bodies.

-- the number of a body
abbrev pub nid_of_body : TrainBody → ℕ
nid_of_body (Plain n) = n
nid_of_body (TrainTime n t) = n
nid_of_body (Status q) = 157

-- the body's variables with their numbers, in the order of sending
abbrev pub body_reading : TrainBody → Reading
body_reading (Plain n) = []
body_reading (TrainTime n t) = (T_TRAIN, t) ∷ []
body_reading (Status q) = (Q_STATUS, q) ∷ []

-- typed messages that have a header and packets alone
abbrev pub is_plain : ℕ → Bool
is_plain n = n == 130 || n == 136 || n == 150 || n == 155 || n == 156 || n == 159

-- typed messages that have the T_TRAIN of the message that they refer to
abbrev pub is_train_time : ℕ → Bool
is_train_time n = n == 137 || n == 138 || n == 146

-- the body's number is one of its variant's
abbrev pub is_of_variant : TrainBody → Bool
is_of_variant (Plain n) = is_plain n
is_of_variant (TrainTime n t) = is_train_time n
is_of_variant (Status q) = true

-- the variable of the body that doesn't admit its number
abbrev pub body_fault : TrainBody → Option BuildFault
body_fault (Plain n) = None
body_fault (TrainTime n t) = None
body_fault (Status q) = number_fault Q_STATUS q

-- the numbers whose variables admit all that their types hold fit these types
abbrev pub FitsTypes : TrainBody → Type 0
FitsTypes (Plain n) = Unit {0}
FitsTypes (TrainTime n t) = t < 2 ^ 32
FitsTypes (Status q) = Unit {0}

-- the body of a typed number with these numbers of its own variables
abbrev pub body_by : ℕ → List ℕ → TrainBody
body_by nid ns = if is_train_time nid then TrainTime nid (slice_index ns 0) else if nid == 157 then Status (slice_index ns 0) else Plain nid

-- what bodies of messages to the track are
abbrev pub train_body : OwnOf TrainBody
train_body = record { nid = nid_of_body; is_of_variant = is_of_variant; reading = body_reading; fault = body_fault; Fits = FitsTypes; made = body_by }
