-- What a list in JSON holds before its end: a text, with the items that were appended, and a sink of pairs.
use Rattle.std.proofs.Common.{ℕ, Bool, true, false, List, [], ◌∷◌, ◌++◌, fold, Option}
use Rattle.std.specs.Prelude.{codes, decimal}
use Rattle.serde_json.specs.Data.{Data}
use Rattle.serde_json.specs.Written.{comma_if, compact_text}
use Rattle.etcs_vars.specs.Reading.{Reading, Sent}
use Rattle.etcs_tables.specs.declared.row.Way.{Way}
use Rattle.etcs_packets.specs.PacketValues.{PacketValue}
use Rattle.etcs_packet_text.specs.JsonParts.{fields_front, sent_of}
use Rattle.etcs_packet_text.specs.Trees.{packet_tree, pair_tree}

-- a text, and whether an item of the list is at its end
abbrev pub Listed : Type 0
Listed = List ℕ × Bool

-- one more item, after a comma unless it is the first
abbrev pub with_item : Listed → Data → Listed
with_item s d = (s.0 ++ (comma_if s.1 ++ compact_text d), true)

-- one more item for each x
abbrev pub with_each : {A : Type 0} → (A → Data) → Listed → List A → Listed
with_each f s xs = fold (λ t x. with_item t (f x)) s xs

-- one more pair for each variable
abbrev pub with_pairs : Listed → Reading → Listed
with_pairs s r = with_each pair_tree s r

-- a pair after another of its list
abbrev pub later_pair : Sent → List ℕ
later_pair p = comma_if true ++ compact_text (pair_tree p)

-- one more packet
abbrev pub and_packet : Way → Listed → PacketValue → Listed
and_packet way s v = with_item s (packet_tree way v)

-- what is in a packet before its pairs, whose list is then open
abbrev pub begun_fields : Way → ℕ → Option ℕ → ℕ → Listed → Listed
begun_fields way nid dir bits s = (s.0 ++ (comma_if s.1 ++ (fields_front (sent_of way dir) ++ 91 ∷ [])), false)

-- what is in a packet after its pairs
abbrev pub ended_fields : ℕ → Listed → Listed
ended_fields nid s = (s.0 ++ (codes "],\"nid\":" ++ (decimal nid ++ codes "}")), true)
