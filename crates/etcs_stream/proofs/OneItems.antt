-- Bits are items in one way.
use Rattle.std.proofs.Common.{◌≡◌, ℕ, ◌+◌, ◌≤◌, Bool, List, [], ◌∷◌, ◌++◌, length, take, refl, sym, ap, subst, ◌∙◌, arith, append_assoc, length-append, inl, inr}
use Rattle.std.specs.Prelude.{◌⊎◌}
use Rattle.std.proofs.lemmas.List.{append-nil, take_at}
use Rattle.etcs_bits.specs.Bits.{bits}
use Rattle.etcs_bits.proofs.ByteBits.{bits-append}
use Rattle.etcs_vars.specs.declared.var.Var.{Var}
use Rattle.etcs_vars.specs.Walking.{Refuses}
use Rattle.etcs_vars.specs.Reading.{Reading, spelled, IsOutcome, NoneYet}
use Rattle.etcs_vars.specs.Reading as reading
use Rattle.etcs_vars.proofs.Apart.{apart}
use Rattle.etcs_vars.proofs.Outcomes.{viable_front}
use Rattle.etcs_telegram.proofs.Spellings as telegrams
use Rattle.etcs_tables.specs.declared.row.Way.{Way}
use Rattle.etcs_messages.specs.Messages.{MessageValue, MessageReads}
use Rattle.etcs_messages.proofs.Spelling as messages
use Rattle.etcs_text.specs.declared.entry.Kind.{Kind}
use Rattle.etcs_json.proofs.OneStored.{one_refusal}
use Rattle.etcs_runs.specs.declared.form.Form.{Form}
use Rattle.etcs_runs.specs.declared.form.Form.TheVariants.{Hex, Bin, Json}
use Rattle.etcs_text.specs.Entries.{EntryValue, of_telegram, of_message, EntryReads}
use Rattle.etcs_stream.specs.Inputs.{End, ended, refused, truncated, bad_hex, bad_json, endless, EndsWith, BitItems, BadItems, SaysSoFar, WholeBytes, FirstBytes}
use Rattle.etcs_stream.specs.Streams.{AreSpelled}
use Rattle.etcs_stream.specs.OneRuns.{OneEnd, OneWhole, OneFront}
use Rattle.etcs_text.proofs.ItemKinds.{Language, kind_same, way_same, telegram_message, kind_regular}
use Rattle.etcs_stream.proofs.Streams.{nothing_is_spelled}
use Rattle.etcs_stream.specs.laws.Printing.{bad_items}
use Rattle.etcs_stream.proofs.OneLines.{one_hex, one_bad, hex_or_bad, one_so_far, front_hex, front_bad}
use Rattle.etcs_stream.proofs.OneJson.{one_json, one_whole_json, front_json}

-- ---- One item.

one_message : (w z : Way) (m n : MessageValue) (r : Reading) → w ≡ z → MessageReads w m r → MessageReads z n r → of_message w m ≡ of_message z n
one_message w z m n r ways x y =
    let one = messages.one_value w m n r x (subst (λ (v : Way). MessageReads v n r) (sym ways) y) in
    λ i. of_message (ways i) (one i)

one_item : (kind : Kind) (e f : EntryValue) (r : Reading) → EntryReads kind e r → EntryReads kind f r → e ≡ f
one_item kind (of_telegram t) (of_telegram u) r x y = ap of_telegram (telegrams.one_value t u r (kind_same t.size u.size (x.0 ∙ sym y.0)) x.1 y.1)
one_item kind (of_telegram t) (of_message z n) r x y = absurd (telegram_message t.size z (x.0 ∙ sym y.0))
one_item kind (of_message w m) (of_telegram u) r x y = absurd (telegram_message u.size w (y.0 ∙ sym x.0))
one_item kind (of_message w m) (of_message z n) r x y = one_message w z m n r (way_same w z (x.0 ∙ sym y.0)) x.1 y.1

-- items whose spellings begin the same bits are one, and so is what comes after them
pub first_same : (kind : Kind) (e f : EntryValue) (r q : Reading) (b c : List Bool) → EntryReads kind e r → EntryReads kind f q → spelled r ++ b ≡ spelled q ++ c → (e ≡ f) × (b ≡ c)
first_same kind e f r q b c x y is =
    let reg = kind_regular kind in
    let same = apart r q b c (reg.agree r q (e, x) (f, y)) (reg.fit r (e, x)) (reg.fit q (f, y)) is in
    let y' : EntryReads kind f r = subst (λ (z : Reading). EntryReads kind f z) (sym same.0) y in
    (one_item kind e f r x y', same.1)

-- ---- Items one after another.

-- after this many items no more follow in the rest
Last : Kind → ℕ → List Bool → Type 0
Last kind n rest = NoneYet (Language kind) rest ⊎ (n ≡ 1000000)

ends_last : (kind : Kind) (n : ℕ) (rest : List Bool) (end : End) → EndsWith kind n rest end → Last kind n rest
unfolding Last
ends_last kind n rest ended h = inl (subst (λ (z : List Bool). NoneYet (Language kind) z) (sym h) (nothing_is_spelled kind))
ends_last kind n rest (refused i x) h = inl h.1.0.0
ends_last kind n rest (truncated k) h = inl h.3.0
ends_last kind n rest (bad_hex line place) h = absurd h
ends_last kind n rest (bad_json line) h = absurd h
ends_last kind n rest endless h = inr h.0

no_item : (kind : Kind) (n : ℕ) (e : EntryValue) (r : Reading) (b rest : List Bool) → Last kind n rest → n + 1 ≤ 1000000 → EntryReads kind e r → rest ≡ spelled r ++ b → ⊥
unfolding Last
no_item kind n e r b rest (inl none) few x is =
    let front : take (length (spelled r)) rest ≡ spelled r = ap (take (length (spelled r))) is ∙ take_at (spelled r) b (length (spelled r)) refl in
    none (length (spelled r)) (omega (arith, ap (λ (z : List Bool). length z) is, length-append (spelled r) b)) (r, (e, x), sym front)
no_item kind n e r b rest (inr most) few x is = absurd (omega arith)

record Further (kind : Kind) (es es' : List EntryValue) (rest rest' : List Bool) : Type 0 where
  beyond : List EntryValue
  spelt : List Bool
  items_are : es' ≡ es ++ beyond
  are_spelled : AreSpelled kind beyond spelt
  rest_is : rest ≡ spelt ++ rest'

further : (kind : Kind) (n : ℕ) (es es' : List EntryValue) (s s' rest rest' : List Bool) → AreSpelled kind es s → AreSpelled kind es' s' → n + length es ≤ 1000000 → Last kind (n + length es') rest' → s ++ rest ≡ s' ++ rest' → Further kind es es' rest rest'
further kind n [] es' s s' rest rest' h h' few last is =
    record { beyond = es'; spelt = s'; items_are = refl; are_spelled = h'; rest_is = ap (λ (z : List Bool). z ++ rest) (sym h) ∙ is }
further kind n (e ∷ es) [] s s' rest rest' h h' few last is =
    let whole : rest' ≡ spelled h.0 ++ (h.1 ++ rest) = ap (λ (z : List Bool). z ++ rest') (sym h') ∙ sym is ∙ ap (λ (z : List Bool). z ++ rest) h.3 ∙ append_assoc (spelled h.0) h.1 rest in
    absurd (no_item kind (n + 0) e h.0 (h.1 ++ rest) rest' last (omega arith) h.2 whole)
further kind n (e ∷ es) (f ∷ es') s s' rest rest' h h' few last is =
    let whole : spelled h.0 ++ (h.1 ++ rest) ≡ spelled h'.0 ++ (h'.1 ++ rest') =
    sym (append_assoc (spelled h.0) h.1 rest) ∙ ap (λ (z : List Bool). z ++ rest) (sym h.3) ∙ is ∙ ap (λ (z : List Bool). z ++ rest') h'.3 ∙ append_assoc (spelled h'.0) h'.1 rest' in
    let same = first_same kind e f h.0 h'.0 (h.1 ++ rest) (h'.1 ++ rest') h.2 h'.2 whole in
    let count : n + length (f ∷ es') ≡ n + 1 + length es' = omega arith in
    let more = further kind (n + 1) es es' h.1 h'.1 rest rest' h.4 h'.4 (omega arith) (subst (λ (m : ℕ). Last kind m rest') count last) same.1 in
    record {
      beyond = more.beyond;
      spelt = more.spelt;
      items_are = let tails = more.items_are in let heads = same.0 in cc;
      are_spelled = more.are_spelled;
      rest_is = more.rest_is;
    }

none_after : (kind : Kind) (n : ℕ) (beyond : List EntryValue) (spelt rest rest' : List Bool) → AreSpelled kind beyond spelt → Last kind n rest → n + length beyond ≤ 1000000 → rest ≡ spelt ++ rest' → beyond ≡ []
none_after kind n [] spelt rest rest' h last few is = refl
none_after kind n (e ∷ beyond) spelt rest rest' h last few is =
    let whole : rest ≡ spelled h.0 ++ (h.1 ++ rest') = is ∙ ap (λ (z : List Bool). z ++ rest') h.3 ∙ append_assoc (spelled h.0) h.1 rest' in
    absurd (no_item kind n e h.0 (h.1 ++ rest') rest last (omega arith) h.2 whole)

-- two lists of items of the same bits, after which no more follow
same_items : (kind : Kind) (es es' : List EntryValue) (s s' rest rest' : List Bool) → AreSpelled kind es s → AreSpelled kind es' s' → length es ≤ 1000000 → length es' ≤ 1000000 → Last kind (length es) rest → Last kind (length es') rest' → s ++ rest ≡ s' ++ rest' → (es ≡ es') × (rest ≡ rest')
same_items kind es es' s s' rest rest' h h' few few' last last' is =
    let zero_on : length es' ≡ 0 + length es' = omega arith in
    let f = further kind 0 es es' s s' rest rest' h h' (omega arith) (subst (λ (m : ℕ). Last kind m rest') zero_on last') is in
    let count : length es + length f.beyond ≤ 1000000 = omega (arith, ap (λ (z : List EntryValue). length z) f.items_are, length-append es f.beyond) in
    let none = none_after kind (length es) f.beyond f.spelt rest rest' f.are_spelled last count f.rest_is in
    let empty : f.spelt ≡ [] = subst (λ (z : List EntryValue). AreSpelled kind z f.spelt) none f.are_spelled in (
      sym (f.items_are ∙ ap (λ (z : List EntryValue). es ++ z) none ∙ append-nil es),
      f.rest_is ∙ ap (λ (z : List Bool). z ++ rest') empty,
    )

-- ---- One end.

refuses_item : (kind : Kind) (b : List Bool) (i : ℕ) (x : Var) → IsOutcome (EntryReads kind) b (reading.refused i x) → Refuses (Language kind) b i x
refuses_item kind b i x h = record { within = h.0.1; owned = h.1; blocked = h.0.2 }

refused_or_wanted : (kind : Kind) (b : List Bool) (i : ℕ) (x : Var) → IsOutcome (EntryReads kind) b (reading.refused i x) → IsOutcome (EntryReads kind) b reading.more → ⊥
refused_or_wanted kind b i x h m = h.0.2 (viable_front (Language kind) (i + 1) b m.1)

ends_once : (kind : Kind) (n : ℕ) (rest : List Bool) (end end' : End) → EndsWith kind n rest end → EndsWith kind n rest end' → end ≡ end'
ends_once kind n rest ended ended h k = refl
ends_once kind n rest ended (refused j y) h k = absurd (omega (arith, ap (λ (z : List Bool). length z) h, k.1.0.1))
ends_once kind n rest ended (truncated l) h k = absurd (omega (arith, ap (λ (z : List Bool). length z) h, k.1, k.2))
ends_once kind n rest ended (bad_hex line place) h k = absurd k
ends_once kind n rest ended (bad_json line) h k = absurd k
ends_once kind n rest ended endless h k = absurd (omega (arith, ap (λ (z : List Bool). length z) h, k.1))
ends_once kind n rest (refused i x) ended h k = absurd (omega (arith, ap (λ (z : List Bool). length z) k, h.1.0.1))
ends_once kind n rest (refused i x) (refused j y) h k =
    let same = one_refusal (Language kind) rest i j x y (refuses_item kind rest i x h.1) (refuses_item kind rest j y k.1) in cc
ends_once kind n rest (refused i x) (truncated l) h k = absurd (refused_or_wanted kind rest i x h.1 k.3)
ends_once kind n rest (refused i x) (bad_hex line place) h k = absurd k
ends_once kind n rest (refused i x) (bad_json line) h k = absurd k
ends_once kind n rest (refused i x) endless h k = absurd (omega (arith, h.0, k.0))
ends_once kind n rest (truncated l) ended h k = absurd (omega (arith, ap (λ (z : List Bool). length z) k, h.1, h.2))
ends_once kind n rest (truncated l) (refused j y) h k = absurd (refused_or_wanted kind rest j y k.1 h.3)
ends_once kind n rest (truncated l) (truncated m) h k = ap truncated (h.1 ∙ sym k.1)
ends_once kind n rest (truncated l) (bad_hex line place) h k = absurd k
ends_once kind n rest (truncated l) (bad_json line) h k = absurd k
ends_once kind n rest (truncated l) endless h k = absurd (omega (arith, h.0, k.0))
ends_once kind n rest (bad_hex line place) end' h k = absurd h
ends_once kind n rest (bad_json line) end' h k = absurd h
ends_once kind n rest endless ended h k = absurd (omega (arith, ap (λ (z : List Bool). length z) k, h.1))
ends_once kind n rest endless (refused j y) h k = absurd (omega (arith, h.0, k.0))
ends_once kind n rest endless (truncated m) h k = absurd (omega (arith, h.0, k.0))
ends_once kind n rest endless (bad_hex line place) h k = absurd k
ends_once kind n rest endless (bad_json line) h k = absurd k
ends_once kind n rest endless endless h k = refl

Same : List EntryValue → List EntryValue → End → End → Type 0
Same es es' end end' = (es ≡ es') × (end ≡ end')

one_of_bits : (kind : Kind) (b c : List Bool) (es es' : List EntryValue) (end end' : End) → b ≡ c → BitItems kind b es end → BitItems kind c es' end' → Same es es' end end'
unfolding Same
one_of_bits kind b c es es' end end' e h k =
    let items = same_items kind es es' h.spelt k.spelt h.rest k.rest h.are_spelled k.are_spelled h.few k.few (ends_last kind (length es) h.rest end h.ends) (ends_last kind (length es') k.rest end' k.ends) (sym h.bits_are ∙ e ∙ k.bits_are) in
    let there : EndsWith kind (length es) h.rest end' =
    subst (λ (z : List Bool). EndsWith kind (length es) z end') (sym items.1) (subst (λ (z : List EntryValue). EndsWith kind (length z) k.rest end') (sym items.0) k.ends) in
    (items.0, ends_once kind (length es) h.rest end end' h.ends there)

-- the lines before a bad one may end inside an item
abbrev Stays : Kind → List Bool → List EntryValue → Type 0
Stays kind b es = BitItems kind b es ended ⊎ ((k : ℕ) × BitItems kind b es (truncated k))

stays_same : (kind : Kind) (b : List Bool) (es es' : List EntryValue) → Stays kind b es → Stays kind b es' → es ≡ es'
unfolding Same
stays_same kind b es es' (inl h) (inl k) = (one_of_bits kind b b es es' ended ended refl h k).0
stays_same kind b es es' (inl h) (inr (n, k)) = (one_of_bits kind b b es es' ended (truncated n) refl h k).0
stays_same kind b es es' (inr (m, h)) (inl k) = (one_of_bits kind b b es es' (truncated m) ended refl h k).0
stays_same kind b es es' (inr (m, h)) (inr (n, k)) = (one_of_bits kind b b es es' (truncated m) (truncated n) refl h k).0

-- an end that isn't one of those
stays_not : (kind : Kind) (b : List Bool) (es es' : List EntryValue) (end : End) → (ended ≡ end → ⊥) → ((k : ℕ) → truncated k ≡ end → ⊥) → Stays kind b es → BitItems kind b es' end → ⊥
unfolding Same
stays_not kind b es es' end not_ended not_cut (inl h) k = not_ended (one_of_bits kind b b es es' ended end refl h k).1
stays_not kind b es es' end not_ended not_cut (inr (m, h)) k = not_cut m (one_of_bits kind b b es es' (truncated m) end refl h k).1

bad_once : (kind : Kind) (b : List Bool) (es es' : List EntryValue) (line place : ℕ) (end end' : End) → BadItems kind b es line place end → BadItems kind b es' line place end' → Same es es' end end'
unfolding Same
bad_once kind b es es' line place ended end' h k = absurd h
bad_once kind b es es' line place (truncated m) end' h k = absurd h
bad_once kind b es es' line place (bad_json m) end' h k = absurd h
bad_once kind b es es' line place (refused i x) ended h k = absurd k
bad_once kind b es es' line place (refused i x) (refused j y) h k = one_of_bits kind b b es es' (refused i x) (refused j y) refl h k
bad_once kind b es es' line place (refused i x) (truncated n) h k = absurd k
bad_once kind b es es' line place (refused i x) (bad_json n) h k = absurd k
bad_once kind b es es' line place (refused i x) (bad_hex l p) h k = absurd (stays_not kind b es' es (refused i x) (λ e. cc) (λ n e. cc) k.2 h)
bad_once kind b es es' line place (refused i x) endless h k = one_of_bits kind b b es es' (refused i x) endless refl h k
bad_once kind b es es' line place (bad_hex l p) ended h k = absurd k
bad_once kind b es es' line place (bad_hex l p) (refused j y) h k = absurd (stays_not kind b es es' (refused j y) (λ e. cc) (λ n e. cc) h.2 k)
bad_once kind b es es' line place (bad_hex l p) (truncated n) h k = absurd k
bad_once kind b es es' line place (bad_hex l p) (bad_json n) h k = absurd k
bad_once kind b es es' line place (bad_hex l p) (bad_hex m q) h k =
    (stays_same kind b es es' h.2 k.2, let e = h.0 ∙ sym k.0 in let f = h.1 ∙ sym k.1 in cc)
bad_once kind b es es' line place (bad_hex l p) endless h k = absurd (stays_not kind b es es' endless (λ e. cc) (λ n e. cc) h.2 k)
bad_once kind b es es' line place endless ended h k = absurd k
bad_once kind b es es' line place endless (refused j y) h k = one_of_bits kind b b es es' endless (refused j y) refl h k
bad_once kind b es es' line place endless (truncated n) h k = absurd k
bad_once kind b es es' line place endless (bad_json n) h k = absurd k
bad_once kind b es es' line place endless (bad_hex l p) h k = absurd (stays_not kind b es' es endless (λ e. cc) (λ n e. cc) k.2 h)
bad_once kind b es es' line place endless endless h k = one_of_bits kind b b es es' endless endless refl h k

pub one_end : OneEnd
unfolding Same
one_end Bin kind input es es' end end' h k = one_of_bits kind (bits input) (bits input) es es' end end' refl h k
one_end Json kind input es es' end end' h k = one_json kind input es es' end end' h k
one_end Hex kind input es es' end end' (inl (b, says, h)) (inl (c, says', k)) = one_of_bits kind (bits b) (bits c) es es' end end' (ap bits (one_hex input b c says says')) h k
one_end Hex kind input es es' end end' (inl (b, says, h)) (inr (c, line, place, bad, k)) = absurd (hex_or_bad input b c line place says bad)
one_end Hex kind input es es' end end' (inr (b, line, place, bad, h)) (inl (c, says, k)) = absurd (hex_or_bad input c b line place says bad)
one_end Hex kind input es es' end end' (inr (b, line, place, bad, h)) (inr (c, line', place', bad', k)) =
    let same = one_bad input b c line line' place place' bad bad' in
    let k1 : BadItems kind (bits b) es' line' place' end' = subst (λ (z : List ℕ). BadItems kind (bits z) es' line' place' end') (sym same.0) k in
    let k2 : BadItems kind (bits b) es' line place' end' = subst (λ (z : ℕ). BadItems kind (bits b) es' z place' end') (sym same.1) k1 in
    let k3 : BadItems kind (bits b) es' line place end' = subst (λ (z : ℕ). BadItems kind (bits b) es' line z end') (sym same.2) k2 in
    bad_once kind (bits b) es es' line place end end' h k3

-- ---- A part of an input.

one_says : (form : Form) (given bytes bytes' : List ℕ) → SaysSoFar form given bytes → SaysSoFar form given bytes' → bytes ≡ bytes'
one_says Bin given bytes bytes' h k = h ∙ sym k
one_says Json given bytes bytes' h k = absurd h
one_says Hex given bytes bytes' h k = one_so_far given bytes bytes' h k

whole_bytes : (form : Form) (kind : Kind) (given : List ℕ) (es es' : List EntryValue) → WholeBytes form kind given es → WholeBytes form kind given es' → es ≡ es'
unfolding Last
whole_bytes form kind given es es' h k =
    let same = one_says form given h.bytes k.bytes h.says k.says in
    (same_items kind es es' h.spelt k.spelt h.rest k.rest h.are_spelled k.are_spelled h.few k.few (inl h.none_more) (inl k.none_more) (sym h.bits_are ∙ ap bits same ∙ k.bits_are)).0

pub one_whole : OneWhole
one_whole Hex kind given es es' h k = whole_bytes Hex kind given es es' h k
one_whole Bin kind given es es' h k = whole_bytes Bin kind given es es' h k
one_whole Json kind given es es' h k = one_whole_json kind given es es' h k

-- bytes whose bits begin with items, and more after them
front_items : (form : Form) (kind : Kind) (input bytes' : List ℕ) (es es' : List EntryValue) (end : End) (h : FirstBytes form kind input es) → BitItems kind (bits bytes') es' end → (more : List ℕ) × (bytes' ≡ h.bytes ++ more) → (beyond : List EntryValue) × (es' ≡ es ++ beyond)
front_items form kind input bytes' es es' end h k (more, is) =
    let whole : h.spelt ++ (h.rest ++ bits more) ≡ k.spelt ++ k.rest =
    sym (append_assoc h.spelt h.rest (bits more)) ∙ ap (λ (z : List Bool). z ++ bits more) (sym h.bits_are) ∙ sym (bits-append h.bytes more) ∙ ap bits (sym is) ∙ k.bits_are in
    let zero_on : length es' ≡ 0 + length es' = omega arith in
    let few : 0 + length es ≤ 1000000 = omega (arith, h.few) in
    let last = subst (λ (m : ℕ). Last kind m k.rest) zero_on (ends_last kind (length es') k.rest end k.ends) in
    let f = further kind 0 es es' h.spelt k.spelt (h.rest ++ bits more) k.rest h.are_spelled k.are_spelled few last whole in
    (f.beyond, f.items_are)

pub one_front : OneFront
one_front Bin kind input es es' end h k = front_items Bin kind input input es es' end h k ([], sym h.says ∙ sym (append-nil h.bytes))
one_front Json kind input es es' end h k = front_json kind input es es' end h k
one_front Hex kind input es es' end h (inl (bytes, says, k)) = front_items Hex kind input bytes es es' end h k (front_hex input h.bytes bytes h.says says)
one_front Hex kind input es es' end h (inr (bytes, line, place, bad, k)) =
    let (end', items) = bad_items kind (bits bytes) es' line place end k in
    front_items Hex kind input bytes es es' end' h items (front_bad input h.bytes bytes line place h.says bad)
