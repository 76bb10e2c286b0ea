-- After the packets that another store has taken.
use Rattle.std.proofs.Common.{◌≡◌, ℕ, ◌+◌, ◌-◌, ◌≤◌, ◌<◌, Bool, List, [], ◌++◌, length, drop, sym, ap, arith, append-nil}
use Rattle.std.proofs.lemmas.List.{length-take, length-drop}
use Rattle.etcs_vars.specs.Reading.{Reading, spelled}
use Rattle.etcs_vars.specs.Walking.{Residual}
use Rattle.etcs_rows.specs.declared.frames.Carrier.{Carrier}
use Rattle.etcs_rows.specs.Frames.{way_of}
use Rattle.etcs_packets.specs.PacketValues.{PacketValue}
use Rattle.etcs_packets.specs.PacketReadings.{readings_to}
use Rattle.etcs_sequence.specs.declared.stage.Stage.{Stage}
use Rattle.etcs_sequence.specs.declared.stage.Stage.TheVariants.{Number}
use Rattle.etcs_sequence.specs.AtOnce.{Holds, RunTo}
use Rattle.etcs_sequence.specs.Contents.{PacketsIn}
use Rattle.etcs_sequence.specs.Lefts.{Here, HoldsAt}
use Rattle.etcs_sequence.proofs.Carried.{after_packets}

module _ (c : Carrier) (room : ℕ) (H : Holds) (xs : List Bool) (at left : ℕ) (run : RunTo c room H xs at left) where
  abbrev pub variables : Reading
  variables = readings_to (way_of c) run.packets

  pub run_long : length (spelled variables) ≡ room - left
  run_long = let long = run.long in omega (arith, long)

  -- they lie in the piece
  pub run_inside : left < room → at + (room - left) ≤ length xs
  run_inside some =
      let bits = ap (λ (t : List Bool). length t) run.bits in
      let long = run_long in
      omega (arith, bits, long, some, length-take (room - left) (drop at xs), length-drop at xs)

  -- what is left after them
  pub run_after : Residual (PacketsIn c room) variables (PacketsIn c (room - (room - left)))
  run_after =
      let long = run.long in
      after_packets c room (room - (room - left)) run.packets run.carried (omega (arith, long))

  pub run_held : (d : Carrier) (s : Stage) → d ≡ c → Here d s [] [] [] → HoldsAt d s H variables
  run_held d s same here =
      let here' : Here c s [] [] [] = rw same at here in
      let whole : variables ≡ variables ++ [] = sym (append-nil variables) in
      rw same (run.packets, [], [], [], run.held, run.carried, here', whole)

  -- after a store that has taken none
  pub run_follows : (I : Holds) (s t : Stage) (d : Carrier) → s ≡ Number → ((vs : List PacketValue) → I vs [] [] → vs ≡ []) → d ≡ c → Here d t [] [] [] → (q : Reading) → HoldsAt c s I q → HoldsAt d t H (q ++ variables)
  run_follows I s t d number none same here q held =
      let (vs, f, k, h, holds, all, (ef, ek, eh), eq) : HoldsAt c Number I q = rw number at held in
      let first : vs ≡ [] = none vs (rw (ef, ek) at holds) in
      let nothing : q ≡ [] = rw (first, eh) at eq in
      rw nothing (run_held d t same here)
