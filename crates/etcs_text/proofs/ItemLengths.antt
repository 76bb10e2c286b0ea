-- How long items are, and the bytes of one that others begin with.
use Rattle.std.proofs.Common.{◌≡◌, ℕ, ◌+◌, ◌*◌, ◌/◌, ◌%◌, ◌≤◌, ◌<◌, Bool, List, [], ◌∷◌, ◌++◌, length, take, drop, get_or, inl, inr, refl, sym, ap, ◌∙◌, arith}
use Rattle.std.proofs.lemmas.Bool.{cases_lt}
use Rattle.std.proofs.lemmas.Grind.{take_at_read}
use Rattle.std.proofs.lemmas.List.{append-nil, length-append, length-take-le, length-take, take-take, take-append-drop}
use Rattle.etcs_bits.specs.Bits.{bits}
use Rattle.etcs_bits.proofs.Positions.{length-bits}
use Rattle.etcs_bits.proofs.Owned.{bits-take}
use Rattle.etcs_vars.specs.Vars.{width}
use Rattle.etcs_vars.specs.Reading.{Reading, Sent, spelled, readings_of, Viable, InLanguage}
use Rattle.etcs_vars.specs.laws.Spellings.{spelled-append}
use Rattle.etcs_vars.proofs.Sent.{length-sent}
use Rattle.etcs_telegram.specs.declared.size.Size.{Size}
use Rattle.etcs_telegram.specs.declared.size.Size.TheVariants as size
use Rattle.etcs_telegram.specs.Telegrams.{user_bits, pad_bits}
use Rattle.etcs_telegram.proofs.Spellings.{whole_length}
use Rattle.etcs_messages.proofs.Bytes.{message_bytes, some_bits}
use Rattle.etcs_text.specs.declared.entry.Kind.{Kind}
use Rattle.etcs_text.specs.Entries.{EntryValue, EntryReads, of_telegram, of_message}
use Rattle.etcs_text.specs.Verdicts.{IsItem}
use Rattle.etcs_text.specs.Accounts.{Accounts}
use Rattle.etcs_text.specs.declared.account.End.TheVariants as end

-- whole bytes, some and at most 1,023
abbrev IsLength : ℕ → Type 0
IsLength n = (n % 8 ≡ 0) × (n ≤ 8184) × (0 < n)

telegram_length : (s : Size) (n : ℕ) → n ≡ user_bits s + pad_bits s → IsLength n
telegram_length size.Long n e = (omega (arith, e), omega (arith, e), omega (arith, e))
telegram_length size.Short n e = (omega (arith, e), omega (arith, e), omega (arith, e))

pub item_length : (kind : Kind) (e : EntryValue) (r : Reading) → EntryReads kind e r → IsLength (length (spelled r))
item_length kind (of_telegram t) r h = telegram_length t.size (length (spelled r)) (whole_length t.size r (t, (refl, h.1)))
item_length kind (of_message way m) r h =
    let whole = message_bytes way r (m, h.1) in
    (whole.0, omega (arith, whole.1), some_bits way r (m, h.1))

-- the bytes of a whole account, of which there are n, are an item
pub whole_item : (kind : Kind) (p : Reading) (bytes : List ℕ) (n : ℕ) → Accounts (readings_of (EntryReads kind)) p end.Whole (take 8184 (bits bytes)) → n ≡ length (spelled p) / 8 → (0 < n) × (n ≤ length bytes) × (e : EntryValue) × IsItem kind (take n bytes) e
whole_item kind p bytes n ((e, reads), k, within, is) n_is =
    let long = item_length kind e p reads in
    let k_is : length (spelled p) ≡ k = ap length is ∙ length-take-le k (take 8184 (bits bytes)) within in
    let inside : k ≤ length (bits bytes) = omega (arith, within, length-take 8184 (bits bytes)) in
    let eight : 8 * n ≡ k = omega (arith, long.0, n_is, k_is) in
    let small : k ≤ 8184 = omega (arith, long.1, k_is) in
    let some : n ≤ length bytes = omega (arith, eight, inside, length-bits bytes) in (
      omega (arith, eight, long.2, k_is),
      some,
      e,
      (p, reads, is ∙ take-take k 8184 (bits bytes) small ∙ ap (λ (m : ℕ). take m (bits bytes)) (sym eight) ∙ sym (bits-take bytes n some)),
    )

-- ---- The bits of variables, one after another.

within : (r : Reading) (k : ℕ) → length (spelled (take k r)) ≤ length (spelled r)
within r k =
    let both = ap (λ (z : Reading). length (spelled z)) (sym (take-append-drop k r)) in
    omega (arith, both, ap length (spelled-append (take k r) (drop k r)), length-append (spelled (take k r)) (spelled (drop k r)))

-- with one more
pub one_more : (r : Reading) (k : ℕ) (d : Sent) → k < length r → (length (spelled (take (k + 1) r)) ≡ length (spelled (take k r)) + width (get_or r k d).0) × (length (spelled (take (k + 1) r)) ≤ length (spelled r))
one_more r k d lt =
    let last = get_or r k d in
    let more = ap (λ (z : Reading). length (spelled z)) (take_at_read r k d lt).1 in
    let one = length-sent last.0 last.1 [] in
    (omega (arith, more, one, ap length (spelled-append (take k r) (last ∷ [])), length-append (spelled (take k r)) (spelled (last ∷ []))), within r (k + 1))

-- ---- No item has more than 1,023 bytes.

no_more : (s b c : List Bool) → s ≡ b ++ c → length s ≤ length b → s ≡ b
no_more s b [] e le = e ∙ append-nil b
no_more s b (x ∷ c) e le = absurd (omega (arith, le, ap length e, length-append b (x ∷ c)))

pub open_short : (kind : Kind) (bytes : List ℕ) → Viable (readings_of (EntryReads kind)) (take 8184 (bits bytes)) → (InLanguage (readings_of (EntryReads kind)) (take 8184 (bits bytes)) → ⊥) → length bytes < 1023
open_short kind bytes (r, c, (e, reads), is) none =
    elim (cases_lt (length bytes) 1023) [
      | inl less ↦ less
      | inr more ↦
          let all : length (take 8184 (bits bytes)) ≡ 8184 = length-take-le 8184 (bits bytes) (omega (arith, more, length-bits bytes)) in
          absurd (none (r, (e, reads), no_more (spelled r) (take 8184 (bits bytes)) c is (omega (arith, all, (item_length kind e r reads).1))))
    ]
