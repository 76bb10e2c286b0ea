-- The text of a message, part by part.
use Rattle.std.proofs.Common.{◌≡◌, ℕ, ◌*◌, Bool, List, [], ◌∷◌, ◌++◌, flat_map, fold, sym, ap, ◌∙◌, arith, append_assoc}
use Rattle.std.specs.Prelude.{codes}
use Rattle.std.proofs.lemmas.Grind.{flat_map-append}
use Rattle.etcs_vars.specs.declared.var.Var.TheVariants.{L_MESSAGE, NID_MESSAGE}
use Rattle.etcs_vars.specs.Reading.{Reading}
use Rattle.etcs_tables.specs.declared.row.Way.{Way}
use Rattle.etcs_packets.specs.PacketValues.{PacketValue}
use Rattle.etcs_messages.specs.Messages.{head_reading, kept_message, typed_message}
use Rattle.etcs_packet_text.specs.LineSinks.{and_lines, with_lines}
use Rattle.etcs_packet_text.specs.Packets.{packets_text}
use Rattle.etcs_packet_text.specs.Show.{bits_line, variable_line}
use Rattle.etcs_text.specs.Messages.{message_bits, message_bytes, message_line, message_text}
use Rattle.etcs_packet_text.specs.laws.LineSinks.{packets_lines}

-- the lines of NID_MESSAGE and L_MESSAGE
abbrev pub number_lines : ℕ → ℕ → List ℕ
number_lines nid bytes = flat_map variable_line ((NID_MESSAGE, nid) ∷ (L_MESSAGE, bytes) ∷ [])

-- those of all variables before the packets
front_lines : (nid bytes : ℕ) (head body : Reading) → flat_map variable_line (head_reading nid bytes head ++ body) ≡ (number_lines nid bytes ++ flat_map variable_line head) ++ flat_map variable_line body
front_lines nid bytes head body =
    flat_map-append variable_line (head_reading nid bytes head) body
    ∙ ap (λ (z : List ℕ). z ++ flat_map variable_line body) (flat_map-append variable_line ((NID_MESSAGE, nid) ∷ (L_MESSAGE, bytes) ∷ []) head)

regroup : (old l f h b p e d : List ℕ) → (((((old ++ (l ++ f)) ++ h) ++ b) ++ p) ++ e) ++ d ≡ old ++ ((l ++ ((f ++ h) ++ b)) ++ ((p ++ e) ++ d))
regroup old l f h b p e d = simp append_assoc

-- texts one after another
six_more : (old l f h b p e d one two three four five six : List ℕ) → one ≡ old ++ (l ++ f) → two ≡ one ++ h → three ≡ two ++ b → four ≡ three ++ p → five ≡ four ++ e → six ≡ five ++ d → six ≡ old ++ ((l ++ ((f ++ h) ++ b)) ++ ((p ++ e) ++ d))
six_more old l f h b p e d one two three four five six q r s t u v =
    v
    ∙ ap (λ (z : List ℕ). z ++ d) (u ∙ ap (λ (z : List ℕ). z ++ e) (t ∙ ap (λ (z : List ℕ). z ++ p) (s ∙ ap (λ (z : List ℕ). z ++ b) (r ∙ ap (λ (z : List ℕ). z ++ h) q))))
    ∙ regroup old l f h b p e d

module _ (way : Way) (nid bytes item : ℕ) where
  pub typed_lines : (head body : Reading) (vs : List PacketValue) (padding : List Bool) (old one two three four five six : List ℕ) → 8 * bytes ≡ message_bits way (typed_message nid head body vs padding) → one ≡ old ++ (message_line way (8 * bytes) item ++ number_lines nid bytes) → two ≡ with_lines one head → three ≡ with_lines two body → four ≡ fold (and_lines way) three vs → five ≡ four ++ codes "end\n" → six ≡ five ++ bits_line (codes "PADDING") padding → six ≡ old ++ message_text way (typed_message nid head body vs padding) item
  unfolding message_text
  typed_lines head body vs padding old one two three four five six long q r s t u v =
      let all : bytes ≡ message_bytes way (typed_message nid head body vs padding) = omega (arith, long) in
      let beyond = (packets_text way vs ++ codes "end\n") ++ bits_line (codes "PADDING") padding in
      six_more old (message_line way (8 * bytes) item) (number_lines nid bytes) (flat_map variable_line head) (flat_map variable_line body) (packets_text way vs) (codes "end\n") (bits_line (codes "PADDING") padding) one two three four five six q r s (t ∙ packets_lines way three vs) u v
      ∙ ap (λ (z : List ℕ). old ++ ((message_line way (8 * bytes) item ++ z) ++ beyond)) (sym (front_lines nid bytes head body))
      ∙ (λ i. old ++ ((message_line way (long i) item ++ flat_map variable_line (head_reading nid (all i) head ++ body)) ++ beyond))

  pub kept_lines : (b : List Bool) (old one two : List ℕ) → 8 * bytes ≡ message_bits way (kept_message nid b) → one ≡ old ++ (message_line way (8 * bytes) item ++ number_lines nid bytes) → two ≡ one ++ bits_line (codes "OTHER_DATA") b → two ≡ old ++ message_text way (kept_message nid b) item
  unfolding message_text
  kept_lines b old one two long q r =
      let all : bytes ≡ message_bytes way (kept_message nid b) = omega (arith, long) in
      let line = bits_line (codes "OTHER_DATA") b in
      r
      ∙ ap (λ (z : List ℕ). z ++ line) q
      ∙ append_assoc old (message_line way (8 * bytes) item ++ number_lines nid bytes) line
      ∙ (λ i. old ++ ((message_line way (long i) item ++ number_lines nid (all i)) ++ line))
