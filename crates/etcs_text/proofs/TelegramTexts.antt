-- The text of a telegram, part by part.
use Rattle.std.proofs.Common.{◌≡◌, ℕ, Bool, List, [], ◌∷◌, ◌++◌, flat_map, fold, sym, ap, ◌∙◌, append-nil, append_assoc}
use Rattle.std.specs.Prelude.{codes}
use Rattle.etcs_tables.specs.declared.row.Way.{Way}
use Rattle.etcs_tables.specs.declared.row.Way.TheVariants.{ToTrain}
use Rattle.etcs_telegram.specs.declared.size.Size.{Size}
use Rattle.etcs_telegram.specs.Telegrams.{HeaderValue, header_reading}
use Rattle.etcs_packets.specs.PacketValues.{PacketValue}
use Rattle.etcs_packet_text.specs.LineSinks.{and_lines}
use Rattle.etcs_packet_text.specs.laws.LineSinks.{packets_lines}
use Rattle.etcs_packet_text.specs.Show.{variable_line, fill_line}
use Rattle.etcs_text.specs.Show.{item_line}
use Rattle.etcs_text.specs.Telegrams.{show_text}
use Rattle.etcs_packet_text.specs.Packets.{packet_text, packets_text}

regroup : (old a b c d e : List ℕ) → ((((old ++ a) ++ b) ++ c) ++ d) ++ e ≡ old ++ ((((a ++ b) ++ c) ++ d) ++ e)
regroup old a b c d e = simp append_assoc

-- five texts one after another
five_more : (old a b c d e one two three four five : List ℕ) → one ≡ old ++ a → two ≡ one ++ b → three ≡ two ++ c → four ≡ three ++ d → five ≡ four ++ e → five ≡ old ++ (a ++ b ++ c ++ d ++ e)
five_more old a b c d e one two three four five f g h k l =
    l
    ∙ ap (λ (z : List ℕ). z ++ e) (k ∙ ap (λ (z : List ℕ). z ++ d) (h ∙ ap (λ (z : List ℕ). z ++ c) (g ∙ ap (λ (z : List ℕ). z ++ b) f)))
    ∙ regroup old a b c d e

pub telegram_lines : (size : Size) (header : HeaderValue) (vs : List PacketValue) (fill : List Bool) (item : ℕ) (old one two three four five : List ℕ) → one ≡ old ++ item_line size item → two ≡ one ++ flat_map variable_line (header_reading header) → three ≡ fold (and_lines ToTrain) two vs → four ≡ three ++ codes "packet 255\n" → five ≡ four ++ fill_line fill → five ≡ old ++ show_text (record { size = size; header = header; packets = vs; fill = fill }) item
unfolding show_text
telegram_lines size header vs fill item old one two three four five e f g h k =
    five_more old (item_line size item) (flat_map variable_line (header_reading header)) (packets_text ToTrain vs) (codes "packet 255\n") (fill_line fill) one two three four five e f (g ∙ packets_lines ToTrain two vs) h k
