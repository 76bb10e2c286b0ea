-- Packets as JSON, step by step.
use Rattle.std.proofs.Common.{◌≡◌, ℕ, Bool, List, [], ◌∷◌, ◌++◌, map, Option, Some, refl, ap, ◌∙◌, append_assoc}
use Rattle.std.specs.Prelude.{codes, decimal}
use Rattle.serde_json.specs.Written.{comma_if, compact_text}
use Rattle.etcs_tables.specs.declared.row.Way.{Way}
use Rattle.etcs_packets.specs.PacketValues.{kept}
use Rattle.etcs_packet_text.specs.JsonParts.{data_after, sent_of}
use Rattle.etcs_packet_text.specs.Show.{bit_digit}
use Rattle.etcs_packet_text.specs.Trees.{packet_tree}
use Rattle.etcs_packet_text.proofs.TreeTexts.{kept_packet}

-- a packet that is kept as bits
pub kept_steps : (way : Way) (nid dir : ℕ) (sent : Option ℕ) (later : Bool) (body : List Bool) (old one two three new : List ℕ) → sent ≡ sent_of way (Some dir) → one ≡ old ++ (comma_if later ++ codes "{\"data\":\"") → two ≡ one ++ map bit_digit body → three ≡ two ++ data_after sent → new ≡ three ++ (decimal nid ++ 125 ∷ []) → new ≡ old ++ (comma_if later ++ compact_text (packet_tree way (kept nid dir body)))
kept_steps way nid dir sent later body old one two three new s e f g h =
    let front = comma_if later ++ codes "{\"data\":\"" in
    let bits = map bit_digit body in
    let last = decimal nid ++ 125 ∷ [] in
    h
    ∙ ap (λ (t : List ℕ). t ++ last) (g ∙ ap (λ (t : List ℕ). t ++ data_after sent) (f ∙ ap (λ (t : List ℕ). t ++ bits) e))
    ∙ append_assoc ((old ++ front) ++ bits) (data_after sent) last
    ∙ append_assoc (old ++ front) bits (data_after sent ++ last)
    ∙ append_assoc old front (bits ++ (data_after sent ++ last))
    ∙ ap (λ (t : List ℕ). old ++ t) (append_assoc (comma_if later) (codes "{\"data\":\"") (bits ++ (data_after sent ++ last)))
    ∙ ap (λ (o : Option ℕ). old ++ (comma_if later ++ (codes "{\"data\":\"" ++ (bits ++ (data_after o ++ last))))) s
    ∙ ap (λ (t : List ℕ). old ++ (comma_if later ++ t)) (kept_packet way (kept nid dir body) body refl)
