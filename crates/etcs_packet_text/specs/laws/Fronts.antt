-- Lemmas about specs/Fronts.antt.
use Rattle.std.proofs.Common.{◌≡◌, ℕ, List, ◌++◌, take, drop, length, refl, sym, ap, ◌∙◌, append_assoc}
use Rattle.std.proofs.lemmas.List.{take_at, take-append-drop}
use Rattle.etcs_packet_text.specs.Fronts.{Begins}

-- and so with what the old began with
pub begins_more : (old mid new more : List ℕ) → mid ≡ old ++ more → Begins mid new → Begins old new
begins_more old mid new more e h =
    let is : new ≡ old ++ (more ++ drop (length mid) new) = sym (take-append-drop (length mid) new) ∙ ap (λ (z : List ℕ). z ++ drop (length mid) new) (h ∙ e) ∙ append_assoc old more (drop (length mid) new) in
    ap (take (length old)) is ∙ take_at old (more ++ drop (length mid) new) (length old) refl
