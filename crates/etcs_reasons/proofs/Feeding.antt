-- Whether the bytes that were fed first are an item.
use Rattle.std.proofs.Common.{ℕ, eqb, false, List, [], length, Ok, inl, inr, sym, ◌∙◌}
use Rattle.std.specs.Bool.{Decides}
use Rattle.std.proofs.lemmas.Bool.{true≢false}
use Rattle.std.proofs.lemmas.Bool.Decides.{eqb_tells}
use Rattle.etcs_bits.specs.Bits.{bits}
use Rattle.etcs_vars.specs.declared.feed.Fed.TheVariants.{Done}
use Rattle.etcs_text.specs.declared.entry.Kind.{Kind}
use Rattle.etcs_text.specs.Entries.{EntryValue}
use Rattle.etcs_text.specs.Readers.{Progress, Feeds}
use Rattle.etcs_text.specs.Verdicts.{IsItem}
use Rattle.etcs_text.proofs.Verdicts.{item_of, none_of_done}

pub whole_decided : (kind : Kind) (bytes : List ℕ) (k : ℕ) (at : Progress) → Feeds kind [] (bits bytes) (Ok (Done k)) at → Decides (eqb k (length bytes)) ((e : EntryValue) × IsItem kind bytes e)
whole_decided kind bytes k at f =
    elim (eqb_tells k (length bytes)) [
      | inl h ↦ (λ yes. let item = item_of kind bytes k at f h.1 in (item.0, item.2), λ item. h.0)
      | inr h ↦ (λ yes. absurd (true≢false (sym yes ∙ h.0)), λ item. absurd (none_of_done kind bytes k at f h.1 item.0 item.1))
    ]

pub none_decided : (kind : Kind) (bytes : List ℕ) → ((e : EntryValue) → IsItem kind bytes e → ⊥) → Decides false ((e : EntryValue) × IsItem kind bytes e)
none_decided kind bytes none = (λ yes. absurd (true≢false (sym yes)), λ item. absurd (none item.0 item.1))
