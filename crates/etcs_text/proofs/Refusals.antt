-- What is refused of an item of a kind.
use Rattle.std.proofs.Common.{◌≡◌, ℕ, min, Bool, List, ◌++◌, length, take, drop, sym, ap, subst, ◌∙◌, arith, inl, inr}
use Rattle.std.specs.Prelude.{Option}
use Rattle.std.proofs.lemmas.Bool.{cases_lt}
use Rattle.std.proofs.lemmas.List.{take-append-drop, take_all}
use Rattle.etcs_bits.specs.Bits.{bits}
use Rattle.etcs_bits.proofs.ByteBits.{bits-append}
use Rattle.etcs_bits.proofs.Owned.{bits-take}
use Rattle.etcs_bits.proofs.Positions.{length-bits}
use Rattle.etcs_vars.specs.declared.var.Var.{Var}
use Rattle.etcs_vars.specs.Reading.{Reading, IsOutcome, refused}
use Rattle.etcs_vars.specs.Walking.{Refuses}
use Rattle.etcs_vars.proofs.Languages.{Same}
use Rattle.etcs_vars.proofs.Outcomes.{none_refused, refuses_longer}
use Rattle.etcs_tables.specs.declared.row.Way.{Way}
use Rattle.etcs_messages.specs.Messages.{MessageLanguage, MessageReads}
use Rattle.etcs_telegram.specs.declared.size.Size.{Size}
use Rattle.etcs_telegram.specs.Telegrams.{TelegramLanguage}
use Rattle.etcs_rows.specs.declared.refusal.Refusal.{Refusal}
use Rattle.etcs_rows.specs.Refusals.{FindsRefusal}
use Rattle.etcs_rows.proofs.RefusalLemmas.{finds_same}
use Rattle.etcs_rows.proofs.SameReadings.{refuses_along}
use Rattle.etcs_text.specs.declared.entry.Kind.{Kind}
use Rattle.etcs_text.specs.Entries.{EntryReads, kind_of, message_kind}
use Rattle.etcs_text.proofs.ItemKinds.{Language, kind_regular, same_telegrams, same_messages}

-- in a language of the same readings
refused_of : (L : Reading → Type 0) (kind : Kind) → Same L (Language kind) → (b : List Bool) (i : ℕ) (x : Var) → Refuses L b i x → IsOutcome (EntryReads kind) b (refused i x)
refused_of L kind same b i x r =
    let here = refuses_along L (Language kind) same b i x r in
    ((none_refused (Language kind) (kind_regular kind) b i x here, here.within, here.blocked), here.owned)

-- what is refused of the first bytes is refused of all
pub telegram_refused : (s : Size) (bytes : List ℕ) (n i : ℕ) (x : Var) → Refuses (TelegramLanguage s) (bits (take n bytes)) i x → IsOutcome (EntryReads (kind_of s)) (bits bytes) (refused i x)
telegram_refused s bytes n i x r =
    let L = TelegramLanguage s in
    let first = bits (take n bytes) in
    let beyond = bits (drop n bytes) in
    let whole : first ++ beyond ≡ bits bytes = sym (bits-append (take n bytes) (drop n bytes)) ∙ ap bits (take-append-drop n bytes) in
    let all : Refuses L (bits bytes) i x = subst (λ (b : List Bool). Refuses L b i x) whole (refuses_longer L first beyond i x r) in
    refused_of L (kind_of s) (same_telegrams s) (bits bytes) i x all

pub message_refused : (way : Way) (b : List Bool) (i : ℕ) (x : Var) → IsOutcome (MessageReads way) b (refused i x) → IsOutcome (EntryReads (message_kind way)) b (refused i x)
message_refused way b i x o = refused_of (MessageLanguage way) (message_kind way) (same_messages way) b i x (record { within = o.0.1; owned = o.1; blocked = o.0.2 })

-- ---- The first refused bit of at most 1,023 bytes.

-- the bits of the first bytes
pub first_bits : (bytes : List ℕ) (k : ℕ) → k ≡ min (length bytes) 1023 → bits (take k bytes) ≡ take 8184 (bits bytes)
first_bits bytes k e =
    let long = length-bits bytes in
    elim (cases_lt (length bytes) 1024) [
      | inl lt ↦ ap bits (take_all k bytes (omega (arith, e, lt))) ∙ sym (take_all 8184 (bits bytes) (omega (arith, long, lt)))
      | inr ge ↦ let n : k ≡ 1023 = omega (arith, e, ge) in ap (λ (m : ℕ). bits (take m bytes)) n ∙ bits-take bytes 1023 (omega (arith, ge))
    ]

-- what is found in them, in a language of the same readings
pub found_of : (L : Reading → Type 0) (kind : Kind) → Same L (Language kind) → (xs b : List Bool) → xs ≡ b → (o : Option Refusal) → FindsRefusal L xs o → FindsRefusal (Language kind) b o
found_of L kind same xs b e o h = subst (λ (u : List Bool). FindsRefusal (Language kind) u o) e (finds_same L (Language kind) same xs o h)
