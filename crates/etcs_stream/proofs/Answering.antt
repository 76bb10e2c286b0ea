-- What a telegram is to its group.
use Rattle.std.proofs.Common.{◌≡◌, ℕ, Bool, List, ◌++◌, refl, sym, ap, subst, ◌∙◌, append_assoc, inl, inr}
use Rattle.std.specs.Prelude.{◌↔◌, Option, Result, Ok, Err, OnOk, codes, map}
use Rattle.etcs_tables.specs.declared.row.Way.TheVariants.{ToTrain}
use Rattle.etcs_packets.specs.declared.packet.Packet.{Packet}
use Rattle.etcs_packets.specs.PacketValues.{packet_value}
use Rattle.etcs_telegram.specs.Telegrams.{TelegramContent}
use Rattle.etcs_group.specs.declared.assembly.Added.{Added}
use Rattle.etcs_group.specs.declared.assembly.Added.TheVariants.{New, Repeat}
use Rattle.etcs_group.specs.Groups.{Holds, Joins}
use Rattle.etcs_group.specs.Messages.{IsWhole, IsGroupMessage}
use Rattle.etcs_packet_text.specs.Packets.{packets_text}
use Rattle.etcs_group.specs.GroupLines.{AreMissing, positions_text, trues}
use Rattle.etcs_stream.specs.Groups.{Answers, GroupLines, LastLines, group_front}

-- an answer of the assembly
pub accepted : {E : Type 0} (held : List (Option TelegramContent)) (t : TelegramContent) (a : Added) → (◌≡◌ {A = Result Added E} (Ok a) (Ok New)) ↔ (Joins held t × (Holds held t → ⊥)) → (◌≡◌ {A = Result Added E} (Ok a) (Ok Repeat)) ↔ (Joins held t × Holds held t) → Answers held t (Ok a)
accepted held t New new repeat = new.0 refl
accepted held t Repeat new repeat = repeat.0 refl

-- what follows from what holds without an error
pub on_ok_then : {T E P Q : Type 0} (r : Result T E) → (P → Q) → OnOk r P → OnOk r Q
on_ok_then (Ok x) f p = f p
on_ok_then (Err e) f p = tt

module _ (held : List (Option TelegramContent)) (country group : ℕ) (some : (t : TelegramContent) × Holds held t) (alike : (t : TelegramContent) → Holds held t → (t.header.nid_c ≡ country) × (t.header.nid_bg ≡ group)) where
  lines : (text : List ℕ) → GroupLines held (group_front country group) text → LastLines held text
  lines text h =
      let same = alike some.0 some.1 in
      let front : group_front country group ≡ group_front some.0.header.nid_c some.0.header.nid_bg = ap (λ (c : ℕ). group_front c group) (sym same.0) ∙ ap (λ (g : ℕ). group_front some.0.header.nid_c g) (sym same.1) in
      inr (some.0, some.1, subst (λ (f : List ℕ). GroupLines held f text) front h)

  -- the last lines of a group that is whole
  pub whole_lines : (ps : List Packet) (old mid new : List ℕ) → IsWhole held → IsGroupMessage held ps → mid ≡ old ++ group_front country group → new ≡ mid ++ (codes " complete\n" ++ packets_text ToTrain (map packet_value ps)) → (last : List ℕ) × LastLines held last × (new ≡ old ++ last)
  whole_lines ps old mid new whole message is h =
      let front = group_front country group in
      let more = codes " complete\n" ++ packets_text ToTrain (map packet_value ps) in
      (front ++ more, lines (front ++ more) (inl (whole, (ps, message, sym (append_assoc front (codes " complete\n") (packets_text ToTrain (map packet_value ps)))))), h ∙ ap (λ (z : List ℕ). z ++ more) is ∙ append_assoc old front more)

  -- and of one that isn't
  pub lacking_lines : (bs : List Bool) (old mid new : List ℕ) → (IsWhole held → ⊥) → AreMissing held bs → mid ≡ old ++ group_front country group → new ≡ mid ++ (codes " missing" ++ positions_text (trues 8 bs) ++ codes "\n") → (last : List ℕ) × LastLines held last × (new ≡ old ++ last)
  lacking_lines bs old mid new whole missing is h =
      let front = group_front country group in
      let places = positions_text (trues 8 bs) in
      let more = codes " missing" ++ places ++ codes "\n" in
      let apart : front ++ more ≡ front ++ codes " missing" ++ places ++ codes "\n" = sym (append_assoc front (codes " missing" ++ places) (codes "\n")) ∙ ap (λ (z : List ℕ). z ++ codes "\n") (sym (append_assoc front (codes " missing") places)) in
      (front ++ more, lines (front ++ more) (inr (whole, (bs, missing, apart))), h ∙ ap (λ (z : List ℕ). z ++ more) is ∙ append_assoc old front more)
