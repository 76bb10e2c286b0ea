-- A telegram of a group is reported in one way, and so are the last lines.
use Rattle.std.proofs.Common.{◌≡◌, ◌∙◌, refl, sym, ap, subst, ℕ, zero, suc, ◌+◌, ◌<◌, arith, Bool, true, false, List, [], ◌∷◌, ◌++◌, length, get_or, take, slice_get, Option, Some, None, Result, Ok, Err, inl, inr}
use Rattle.std.specs.Prelude.{All, codes, map, if◌then◌else◌, slice_index_or}
use Rattle.std.proofs.lemmas.Bool.{both_ways, cases_lt, cases_order}
use Rattle.std.proofs.lemmas.List.{same_lists, get_or_past, get_or-take, length-take-le}
use Rattle.std.proofs.lemmas.Option.{same_Some, none-some, slice_get-get_or, get_or_from_slice_get}
use Rattle.etcs_tables.specs.declared.row.Way.TheVariants.{ToTrain}
use Rattle.etcs_packets.specs.declared.packet.Packet.{Packet}
use Rattle.etcs_packets.specs.PacketValues.{packet_value}
use Rattle.etcs_telegram.specs.Telegrams.{TelegramContent, TelegramValue}
use Rattle.etcs_telegram.proofs.Spellings.{one_parts}
use Rattle.etcs_group.specs.declared.assembly.Added.{Added}
use Rattle.etcs_group.specs.declared.assembly.Added.TheVariants.{New, Repeat}
use Rattle.etcs_group.specs.declared.clash.Clash.{Clash}
use Rattle.etcs_group.specs.declared.clash.Clash.TheVariants.{BadPosition, BadDuplicate, OtherGroup, OtherTotal, Counter, Differs}
use Rattle.etcs_group.specs.Groups.{IsGroup, Holds, HeldAfter}
use Rattle.etcs_group.specs.Clashes.{Clashes, before, IsFirstClash}
use Rattle.etcs_group.specs.Messages.{Gives, FirstGive}
use Rattle.etcs_group.proofs.Clashing.{order}
use Rattle.etcs_group.proofs.Joining.{joins_not}
use Rattle.etcs_group.proofs.Places.{held_place, place_held}
use Rattle.etcs_packet_text.specs.Packets.{packets_text}
use Rattle.etcs_stream.specs.Reported.{Reported}
use Rattle.etcs_group.specs.GroupLines.{positions_text}
use Rattle.etcs_group.proofs.OneGroups.{at_position, one_missing, same_slots}
use Rattle.etcs_stream.specs.Groups.{GroupItem, Answers, answer_line, clashes_with, group_front, GroupLines, LastLines}

-- ---- A telegram has one first clash.

rank : Clash → ℕ
rank BadPosition = 0
rank BadDuplicate = 1
rank OtherGroup = 2
rank OtherTotal = 3
rank Counter = 4
rank Differs = 5

ranked : (c : Clash) → get_or order (rank c) BadPosition ≡ c
unfolding rank
ranked BadPosition = refl
ranked BadDuplicate = refl
ranked OtherGroup = refl
ranked OtherTotal = refl
ranked Counter = refl
ranked Differs = refl

before_rank : (c : Clash) → (rank c < 6) × (before c ≡ take (rank c) order)
unfolding rank
before_rank BadPosition = (omega arith, refl)
before_rank BadDuplicate = (omega arith, refl)
before_rank OtherGroup = (omega arith, refl)
before_rank OtherTotal = (omega arith, refl)
before_rank Counter = (omega arith, refl)
before_rank Differs = (omega arith, refl)

-- a clash of a lower rank is looked for earlier
looked_for : (P : Clash → Type 0) (c d : Clash) → rank c < rank d → All P (before d) → P c
looked_for P c d lower all =
    let (small, is) = before_rank d in
    let firsts : All P (take (rank d) order) = subst (λ (cs : List Clash). All P cs) is all in
    let long : length (take (rank d) order) ≡ rank d = length-take-le (rank d) order (omega (arith, small)) in
    let here : get_or (take (rank d) order) (rank c) BadPosition ≡ c = get_or-take (rank d) order (rank c) BadPosition lower ∙ ranked c in
    subst P here (firsts (rank c) BadPosition (omega (arith, lower, long)))

one_clash : (held : List (Option TelegramContent)) (t : TelegramContent) (c d : Clash) → IsFirstClash c held t → IsFirstClash d held t → c ≡ d
one_clash held t c d h k = elim (cases_order (rank c) (rank d)) [
  | inl e ↦ sym (ranked c) ∙ ap (λ (n : ℕ). get_or order n BadPosition) e ∙ ranked d
  | inr (inl lower) ↦ absurd (looked_for (λ (x : Clash). Clashes held t x → ⊥) c d lower k.1 h.0)
  | inr (inr higher) ↦ absurd (looked_for (λ (x : Clash). Clashes held t x → ⊥) d c higher h.1 k.0)
]

-- ---- A telegram is reported in one way.

one_answer : (held : List (Option TelegramContent)) (t : TelegramContent) (a b : Result Added Clash) → Answers held t a → Answers held t b → a ≡ b
one_answer held t (Ok New) (Ok New) h k = refl
one_answer held t (Ok New) (Ok Repeat) h k = absurd (h.1 k.1)
one_answer held t (Ok New) (Err d) h k = absurd (joins_not held t d k.0 h.0)
one_answer held t (Ok Repeat) (Ok New) h k = absurd (k.1 h.1)
one_answer held t (Ok Repeat) (Ok Repeat) h k = refl
one_answer held t (Ok Repeat) (Err d) h k = absurd (joins_not held t d k.0 h.0)
one_answer held t (Err c) (Ok New) h k = absurd (joins_not held t c h.0 k.0)
one_answer held t (Err c) (Ok Repeat) h k = absurd (joins_not held t c h.0 k.0)
one_answer held t (Err c) (Err d) h k = let same = one_clash held t c d h k in rw same refl

abbrev reported : ℕ → ℕ → List (Option TelegramContent) → Reported
reported n c held = record { count = n; clashes = c; held = held }

reported_same : (s u : Reported) → s.count ≡ u.count → s.clashes ≡ u.clashes → s.held ≡ u.held → s ≡ u
reported_same s u n c h =
    ap (λ (x : ℕ). reported x s.clashes s.held) n
    ∙ ap (λ (x : ℕ). reported u.count x s.held) c
    ∙ ap (λ (x : List (Option TelegramContent)). reported u.count u.clashes x) h

pub one_group_item : (t : TelegramValue) (s : Reported) (text : List ℕ) (s' : Reported) (text' : List ℕ) (s'' : Reported) → GroupItem t s text s' → GroupItem t s text' s'' → (text ≡ text') × (s' ≡ s'')
one_group_item t s text s' text' s'' h k =
    let same : h.telegram ≡ k.telegram = one_parts h.telegram k.telegram h.made.made k.made.made (sym h.value_is ∙ k.value_is) in
    let answers : Answers s.held h.telegram k.answer = subst (λ (u : TelegramContent). Answers s.held u k.answer) (sym same) k.answers in
    let answer : h.answer ≡ k.answer = one_answer s.held h.telegram h.answer k.answer h.answers answers in
    let after : HeldAfter s.held h.telegram s''.held = subst (λ (u : TelegramContent). HeldAfter s.held u s''.held) (sym same) k.held_is in
    let held : s'.held ≡ s''.held = same_slots s'.held s''.held h.placed k.placed (λ u x. (after u).1 ((h.held_is u).0 x)) (λ u x. (h.held_is u).1 ((after u).0 x)) in (
      h.text_is ∙ ap (λ (a : Result Added Clash). answer_line (s.count + 1) a) answer ∙ sym k.text_is,
      reported_same s' s'' (h.count_is ∙ sym k.count_is) (h.clashes_are ∙ ap (λ (a : Result Added Clash). clashes_with s.clashes a) answer ∙ sym k.clashes_are) held,
    )

-- ---- The last lines are one.

module _ (held : List (Option TelegramContent)) (group : IsGroup held) where
  one_there : (p : ℕ) (t u : TelegramContent) → Holds held t → Holds held u → t.header.n_pig ≡ p → u.header.n_pig ≡ p → t ≡ u
  one_there p t u h k e f = same_Some t u (same_Some (Some t) (Some u) (sym (at_position held group p t h e) ∙ at_position held group p u k f))

  one_given : (p : ℕ) (ps qs : List Packet) → Gives held p ps → Gives held p qs → ps ≡ qs
  one_given p ps qs (inl (t, h, e, first, is)) (inl (u, k, f, _, is')) = is ∙ ap (λ (v : TelegramContent). v.packets) (one_there p t u h k e f) ∙ sym is'
  one_given p ps qs (inl (t, h, e, first, is)) (inr (none, is')) = absurd (elim none [ inl n ↦ n (t, h, e) | inr second ↦ first second ])
  one_given p ps qs (inr (none, is)) (inl (t, h, e, first, is')) = absurd (elim none [ inl n ↦ n (t, h, e) | inr second ↦ first second ])
  one_given p ps qs (inr (none, is)) (inr (none', is')) = is ∙ sym is'

  one_message : (n : ℕ) (ps qs : List Packet) → FirstGive held n ps → FirstGive held n qs → ps ≡ qs
  unfolding FirstGive
  one_message zero ps qs h k = h ∙ sym k
  one_message (suc n) ps qs (front, last, h, g, is) (front', last', h', g', is') =
      is
      ∙ ap (λ (z : List Packet). z ++ last) (one_message n front front' h h')
      ∙ ap (λ (z : List Packet). front' ++ z) (one_given n last last' g g')
      ∙ sym is'

-- a place is true in both lists, or in neither
one_lines : (held : List (Option TelegramContent)) → IsGroup held → (front text text' : List ℕ) → GroupLines held front text → GroupLines held front text' → text ≡ text'
one_lines held group front text text' (inl (whole, (ps, h, is))) (inl (_, (qs, k, is'))) =
    is ∙ ap (λ (z : List Packet). front ++ codes " complete\n" ++ packets_text ToTrain (map packet_value z)) (one_message held group 8 ps qs h k) ∙ sym is'
one_lines held group front text text' (inl (whole, _)) (inr (part, _)) = absurd (part whole)
one_lines held group front text text' (inr (part, _)) (inl (whole, _)) = absurd (part whole)
one_lines held group front text text' (inr (part, (bs, h, is))) (inr (_, (cs, k, is'))) =
    is ∙ ap (λ (z : List ℕ). front ++ codes " missing" ++ positions_text z ++ codes "\n") (one_missing held bs cs h k 8) ∙ sym is'

pub one_last : (held : List (Option TelegramContent)) → IsGroup held → (text text' : List ℕ) → LastLines held text → LastLines held text' → text ≡ text'
one_last held group text text' (inl (none, is)) (inl (_, is')) = is ∙ sym is'
one_last held group text text' (inl (none, is)) (inr (u, k, _)) = absurd (none u k)
one_last held group text text' (inr (t, h, _)) (inl (none, is)) = absurd (none t h)
one_last held group text text' (inr (t, h, lines)) (inr (u, k, lines')) =
    let both = group.alike t u h k in
    let front : group_front t.header.nid_c t.header.nid_bg ≡ group_front u.header.nid_c u.header.nid_bg =
    ap (λ (n : ℕ). group_front n t.header.nid_bg) both.country ∙ ap (λ (n : ℕ). group_front u.header.nid_c n) both.group in
    one_lines held group (group_front u.header.nid_c u.header.nid_bg) text text' (subst (λ (z : List ℕ). GroupLines held z text) front lines) lines'
