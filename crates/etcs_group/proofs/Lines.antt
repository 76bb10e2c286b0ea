-- The lines of groups.
use Rattle.std.proofs.Common.{◌≡◌, ◌∙◌, refl, sym, ap, subst, ℕ, ◌+◌, ◌<◌, Bool, List, [], ◌∷◌, ◌++◌, Option, length, take, get_or, arith, inr, append_assoc}
use Rattle.std.specs.Prelude.{codes, Result, Ok, Err, OnOk}
use Rattle.std.specs.Fmt.{decimal}
use Rattle.std.proofs.lemmas.Grind.{common_steps}
use Rattle.etcs_telegram.specs.Telegrams.{TelegramContent}
use Rattle.etcs_group.specs.Groups.{Holds}
use Rattle.etcs_group.specs.Messages.{IsWhole}
use Rattle.std.proofs.lemmas.List.{append-nil}
use Rattle.etcs_group.specs.declared.groups.Group.{Group}
use Rattle.etcs_group.specs.GroupLines.{IsGroupLine, AreGroupLines, StateText, AreMissing, trues, positions_text, clashes_text}

-- one line more
pub lines_more : (gs : List Group) (g : Group) (text line : List ℕ) → AreGroupLines gs text → IsGroupLine g line → AreGroupLines (gs ++ g ∷ []) (text ++ line)
lines_more [] g text line lines one = (line, [], one, refl, ap (λ (l : List ℕ). l ++ line) lines ∙ sym (append-nil line))
lines_more (x ∷ xs) g text line lines one =
    (lines.0, lines.1 ++ line, lines.2, lines_more xs g lines.1 line lines.3 one, ap (λ (l : List ℕ). l ++ line) lines.4 ∙ append_assoc lines.0 lines.1 line)

-- in a loop over groups
pub one_line_more : (gs : List Group) (i : ℕ) (g : Group) (old mid new : List ℕ) → i < length gs → g ≡ get_or gs i g → (text : List ℕ) × AreGroupLines (take i gs) text × (mid ≡ old ++ text) → (line : List ℕ) × IsGroupLine g line × (new ≡ mid ++ line) → (text : List ℕ) × AreGroupLines (take (i + 1) gs) text × (new ≡ old ++ text)
one_line_more gs i g old mid new within read before line =
    let next : take (i + 1) gs ≡ take i gs ++ g ∷ [] = grind (arith, common_steps) in
    (before.0 ++ line.0, subst (λ (l : List Group). AreGroupLines l (before.0 ++ line.0)) (sym next) (lines_more (take i gs) g before.0 line.0 before.1 line.1), line.2 ∙ ap (λ (l : List ℕ). l ++ line.0) before.2 ∙ append_assoc old before.0 line.0)

-- what is written of what a group holds
module _ (held : List (Option TelegramContent)) (old mid new : List ℕ) where
  pub lacking_state : (bs : List Bool) → (IsWhole held → ⊥) → ((t : TelegramContent) × Holds held t) → AreMissing held bs → mid ≡ old ++ codes " missing" → new ≡ mid ++ positions_text (trues 8 bs) → (text : List ℕ) × StateText held text × (new ≡ old ++ text)
  lacking_state bs whole some missing is h =
      let text = codes " missing" ++ positions_text (trues 8 bs) in
      (text, inr (inr (some, whole, (bs, missing, refl))), h ∙ ap (λ (l : List ℕ). l ++ positions_text (trues 8 bs)) is ∙ append_assoc old (codes " missing") (positions_text (trues 8 bs)))

regroup : (a s c t b u v w : List ℕ) → ((((a ++ (s ++ c)) ++ (t ++ b)) ++ u) ++ v) ++ w ≡ a ++ ((((((s ++ c) ++ t) ++ b) ++ u) ++ v) ++ w)
regroup a s c t b u v w = simp append_assoc

-- a group's line is written part by part
pub line_of : (g : Group) (a b c d e f : List ℕ) → b ≡ a ++ (codes "group " ++ decimal g.nid_c) → c ≡ b ++ (codes " " ++ decimal g.nid_bg) → (text : List ℕ) × StateText g.held text × (d ≡ c ++ text) → e ≡ d ++ clashes_text g.clashes → f ≡ e ++ codes "\n" → (line : List ℕ) × IsGroupLine g line × (f ≡ a ++ line)
line_of g a b c d e f ab bc cd de ef =
    let state = cd.0 in
    let line = codes "group " ++ decimal g.nid_c ++ codes " " ++ decimal g.nid_bg ++ state ++ clashes_text g.clashes ++ codes "\n" in
    let all : f ≡ ((((a ++ (codes "group " ++ decimal g.nid_c)) ++ (codes " " ++ decimal g.nid_bg)) ++ state) ++ clashes_text g.clashes) ++ codes "\n" = ef ∙ ap (λ (l : List ℕ). l ++ codes "\n") (de ∙ ap (λ (l : List ℕ). l ++ clashes_text g.clashes) (cd.2 ∙ ap (λ (l : List ℕ). l ++ state) (bc ∙ ap (λ (l : List ℕ). l ++ (codes " " ++ decimal g.nid_bg)) ab))) in
    (line, (state, cd.1, refl), all ∙ regroup a (codes "group ") (decimal g.nid_c) (codes " ") (decimal g.nid_bg) state (clashes_text g.clashes) (codes "\n"))

-- what follows from what holds without an error
pub on_ok_then : {T E P Q : Type 0} (r : Result T E) → (P → Q) → OnOk r P → OnOk r Q
on_ok_then (Ok x) f p = f p
on_ok_then (Err e) f p = tt
