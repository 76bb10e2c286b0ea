-- A tree, and so a line, says one item of a kind or is refused in one way.
use Rattle.std.proofs.Common.{◌≡◌, ℕ, ◌+◌, ◌<◌, Bool, List, [], ◌∷◌, ◌++◌, length, take, Some, refl, sym, ap, ap₂, subst, ◌∙◌, arith, inl, inr}
use Rattle.std.specs.Prelude.{Option}
use Rattle.std.proofs.lemmas.Bool.{cases_lt}
use Rattle.std.proofs.lemmas.List.{take_all, take-take}
use Rattle.serde_json.specs.Data.{Data}
use Rattle.etcs_vars.specs.declared.var.Var.{Var}
use Rattle.etcs_vars.specs.declared.var.Var.TheVariants.{NID_MESSAGE, L_MESSAGE, PADDING, OTHER_DATA}
use Rattle.etcs_vars.specs.Reading.{Reading, spelled, kept, readings_of, IsOutcome, Viable, Owner, refused}
use Rattle.etcs_vars.specs.Walking.{Refuses}
use Rattle.etcs_vars.proofs.Apart.{apart}
use Rattle.etcs_vars.proofs.Outcomes.{viable_front}
use Rattle.etcs_vars.proofs.Walk.{Regular}
use Rattle.etcs_tables.specs.declared.row.Way.{Way}
use Rattle.etcs_packets.specs.PacketReadings.{readings_to}
use Rattle.etcs_telegram.specs.Telegrams.{TelegramLanguage, TelegramReads}
use Rattle.etcs_rows.proofs.SameReadings.{owner_same}
use Rattle.etcs_telegram.proofs.Spellings as telegrams
use Rattle.etcs_messages.specs.Messages.{MessageLanguage, MessageReads, MessageValue, typed_message, kept_message, head_reading}
use Rattle.etcs_messages.proofs.Spelling as messages
use Rattle.etcs_text.specs.declared.entry.Kind.{Kind}
use Rattle.etcs_text.specs.Entries.{EntryValue, of_telegram, of_message, EntryReads}
use Rattle.etcs_json.specs.JsonLines.{OfLine, SaysItem, SaysRefused}
use Rattle.etcs_json.specs.Loose.{LooseSpells, IsStored, TreeSays, TreeRefused}
use Rattle.etcs_text.proofs.ItemKinds.{kind_same, telegram_message, way_same}
use Rattle.etcs_json.proofs.OneItems.{one_loose}

-- ---- One spelling.

one_spelled : (o : EntryValue) (b c : List Bool) → LooseSpells o b → LooseSpells o c → b ≡ c
one_spelled (of_telegram t) b c h k = h ∙ sym k
one_spelled (of_message way (typed_message nid head body vs padding)) b c (len, bytes, h) (len', bytes', k) =
    let same : len ≡ len' = omega (arith, bytes, bytes') in
    h ∙ ap (λ (l : ℕ). spelled (head_reading nid l head ++ body ++ readings_to way vs ++ kept PADDING padding)) same ∙ sym k
one_spelled (of_message way (kept_message nid held)) b c (len, bytes, h) (len', bytes', k) =
    let same : len ≡ len' = omega (arith, bytes, bytes') in
    h ∙ ap (λ (l : ℕ). spelled ((NID_MESSAGE, nid) ∷ (L_MESSAGE, l) ∷ kept OTHER_DATA held)) same ∙ sym k

one_bits : (kind : Kind) (d : Data) (o o' : EntryValue) (b c : List Bool) → IsStored kind d o b → IsStored kind d o' c → b ≡ c
one_bits kind d o o' b c s t =
    let same : o ≡ o' = one_loose kind d o o' s.loose t.loose s.tree t.tree in
    one_spelled o' b c (subst (λ (z : EntryValue). LooseSpells z b) same s.bits) t.bits

-- ---- One item of a spelling.

one_reading : (L : Reading → Type 0) → Regular L → (r q : Reading) → L r → L q → spelled r ≡ spelled q → r ≡ q
one_reading L regular r q l m e = (apart r q [] [] (regular.agree r q l m) (regular.fit r l) (regular.fit q m) (ap (λ (b : List Bool). b ++ []) e)).0

pub one_entry : (kind : Kind) (e f : EntryValue) (r q : Reading) → EntryReads kind e r → EntryReads kind f q → spelled r ≡ spelled q → e ≡ f
one_entry kind (of_telegram t) (of_telegram u) r q (is, x) (is', y) s =
    let sized = kind_same t.size u.size (is ∙ sym is') in
    let same : r ≡ q = one_reading (TelegramLanguage u.size) (telegrams.regular u.size) r q (t, (sized, x)) (u, (refl, y)) s in
    ap of_telegram (telegrams.one_value t u r sized x (subst (λ (z : Reading). TelegramReads u z) (sym same) y))
one_entry kind (of_telegram t) (of_message way n) r q (is, x) (is', y) s = absurd (telegram_message t.size way (is ∙ sym is'))
one_entry kind (of_message way m) (of_telegram u) r q (is, x) (is', y) s = absurd (telegram_message u.size way (is' ∙ sym is))
one_entry kind (of_message v m) (of_message w n) r q (is, x) (is', y) s =
    let going = way_same v w (is ∙ sym is') in
    let y' = subst (λ (z : Way). MessageReads z n q) (sym going) y in
    let same : r ≡ q = one_reading (MessageLanguage v) (messages.regular v) r q (m, x) (n, y') s in
    ap₂ (λ (z : Way) (o : MessageValue). of_message z o) going (messages.one_value v m n r x (subst (λ (z : Reading). MessageReads v n z) (sym same) y'))

-- ---- One refusal of bits.

none_earlier : (L : Reading → Type 0) (b : List Bool) (i j : ℕ) (x y : Var) → Refuses L b i x → Refuses L b j y → i < j → ⊥
none_earlier L b i j x y f g lt =
    let v = viable_front L (i + 1) (take j b) g.owned.viable in
    f.blocked (subst (λ (t : List Bool). Viable L t) (take-take (i + 1) j b (omega (arith, lt))) v)

pub one_refusal : (L : Reading → Type 0) (b : List Bool) (i j : ℕ) (x y : Var) → Refuses L b i x → Refuses L b j y → (i ≡ j) × (x ≡ y)
one_refusal L b i j x y f g =
    let same : i ≡ j = (elim (cases_lt i j) [
      | inl lt ↦ absurd (none_earlier L b i j x y f g lt)
      | inr ge ↦ elim (cases_lt j i) [ inl lt ↦ absurd (none_earlier L b j i y x g f lt) | inr le ↦ omega (arith, ge, le) ]
    ]) in
    (same, owner_same L (take j b) y x g.owned (subst (λ (k : ℕ). Owner L (take k b) x) same f.owned))

refuses : (kind : Kind) (b : List Bool) (i : ℕ) (x : Var) → IsOutcome (EntryReads kind) b (refused i x) → Refuses (readings_of (EntryReads kind)) b i x
refuses kind b i x h = record { within = h.0.1; owned = h.1; blocked = h.0.2 }

-- ---- What a tree says.

pub tree_said : (kind : Kind) (d : Data) (e e' : EntryValue) → TreeSays kind d e → TreeSays kind d e' → e ≡ e'
tree_said kind d e e' (o, r, stored, reads) (o', r', stored', reads') =
    one_entry kind e e' r r' reads reads' (one_bits kind d o o' (spelled r) (spelled r') stored stored')

pub tree_refused : (kind : Kind) (d : Data) (i j : ℕ) (x y : Var) → TreeRefused kind d i x → TreeRefused kind d j y → (i ≡ j) × (x ≡ y)
tree_refused kind d i j x y (o, b, stored, f) (o', c, stored', g) =
    let same : c ≡ b = one_bits kind d o' o c b stored' stored in
    let there = subst (λ (z : List Bool). Refuses (readings_of (EntryReads kind)) z j y) same (refuses kind c j y g) in
    one_refusal (readings_of (EntryReads kind)) b i j x y (refuses kind b i x f) there

pub tree_not_both : (kind : Kind) (d : Data) (e : EntryValue) (i : ℕ) (x : Var) → TreeSays kind d e → TreeRefused kind d i x → ⊥
tree_not_both kind d e i x (o, r, stored, reads) (o', b, stored', ((none, within, blocked), owned)) =
    let same : spelled r ≡ b = one_bits kind d o o' (spelled r) b stored stored' in
    none (length b) (omega arith) (r, (e, reads), same ∙ sym (take_all (length b) b (omega arith)))

-- ---- What a line says.

of_one_tree : (P Q : Data → Type 0) (line : List ℕ) → OfLine P line → OfLine Q line → (d : Data) × P d × Q d
of_one_tree P Q line (d, utf8, is, p) (d', utf8', is', q) =
    let both : ◌≡◌ {A = Option Data} (Some d') (Some d) = sym is' ∙ is in
    let same : d' ≡ d = cc in
    (d, p, subst Q same q)

pub line_said : (kind : Kind) (line : List ℕ) (e e' : EntryValue) → SaysItem kind line e → SaysItem kind line e' → e ≡ e'
line_said kind line e e' h k =
    let (d, p, q) = of_one_tree (λ d. TreeSays kind d e) (λ d. TreeSays kind d e') line h k in
    tree_said kind d e e' p q

pub line_refused : (kind : Kind) (line : List ℕ) (i j : ℕ) (x y : Var) → SaysRefused kind line i x → SaysRefused kind line j y → (i ≡ j) × (x ≡ y)
line_refused kind line i j x y h k =
    let (d, p, q) = of_one_tree (λ d. TreeRefused kind d i x) (λ d. TreeRefused kind d j y) line h k in
    tree_refused kind d i j x y p q

pub line_not_both : (kind : Kind) (line : List ℕ) (e : EntryValue) (i : ℕ) (x : Var) → SaysItem kind line e → SaysRefused kind line i x → ⊥
line_not_both kind line e i x h k =
    let (d, p, q) = of_one_tree (λ d. TreeSays kind d e) (λ d. TreeRefused kind d i x) line h k in
    tree_not_both kind d e i x p q
