-- Items have one text.
use Rattle.std.proofs.Common.{◌≡◌, ℕ, ◌^◌, ◌<◌, List, [], ◌∷◌, ◌++◌, length, get_or, refl, sym, ap, subst, ◌∙◌, arith, inl, inr}
use Rattle.std.specs.Prelude.{All}
use Rattle.std.proofs.lemmas.Bool.{cases_lt}
use Rattle.std.proofs.lemmas.List.{get_or_past}
use Rattle.hex.specs.Hex.{encode_upper}
use Rattle.etcs_bits.proofs.Owned.{bits_same}
use Rattle.etcs_vars.specs.Reading.{Reading, spelled}
use Rattle.etcs_tables.specs.declared.row.Way.{Way}
use Rattle.etcs_messages.specs.Messages.{MessageValue, typed_message, kept_message, MessageReads}
use Rattle.etcs_text.specs.Encodings.{IsEncoded}
use Rattle.etcs_text.specs.Entries.{EntryValue, of_telegram, of_message, Spells}
use Rattle.etcs_stream.specs.declared.job.Command.{Command}
use Rattle.etcs_stream.specs.declared.job.Command.TheVariants.{Show, Check, Convert, Group}
use Rattle.etcs_runs.specs.declared.form.Form.TheVariants.{Hex, Bin, Json}
use Rattle.etcs_stream.specs.OneRuns.{OneText}
use Rattle.etcs_stream.specs.Reported.{Reported}
use Rattle.etcs_stream.specs.Printers.{OutputsItem, OutputsItems, nothing_reported}
use Rattle.etcs_stream.proofs.OneGroups.{one_group_item}

-- L_MESSAGE is of the bits
one_message : (way : Way) (m : MessageValue) (r q : Reading) → MessageReads way m r → MessageReads way m q → r ≡ q
one_message way (typed_message nid h body vs padding) r q x y =
    let len : x.len ≡ y.len = omega (arith, x.bytes, y.bytes) in
    rw (x.reading_is, y.reading_is, len) refl
one_message way (kept_message nid b) r q x y =
    let len : x.len ≡ y.len = omega (arith, x.bytes, y.bytes) in
    rw (x.reading_is, y.reading_is, len) refl

one_spelling : (e : EntryValue) (r q : Reading) → Spells e r → Spells e q → r ≡ q
one_spelling (of_telegram t) r q x y = x.reading_is ∙ sym y.reading_is
one_spelling (of_message way m) r q x y = one_message way m r q x y

pub all_small : (bytes : List ℕ) → All (λ b. b < 256) bytes → (i : ℕ) → get_or bytes i 0 < 2 ^ 8
all_small bytes h i = elim (cases_lt i (length bytes)) [
  | inl lt ↦ h i 0 lt
  | inr ge ↦ omega (arith, get_or_past bytes i 0 ge)
]

one_encoding : (e : EntryValue) (bytes bytes' : List ℕ) → IsEncoded e bytes → IsEncoded e bytes' → bytes ≡ bytes'
one_encoding e bytes bytes' h k =
    bits_same bytes bytes' (all_small bytes h.small) (all_small bytes' k.small) (h.bits_are ∙ ap spelled (one_spelling e h.reading k.reading h.reads k.reads) ∙ sym k.bits_are)

-- one item is reported in one way
one_output : (c : Command) (e : EntryValue) (s : Reported) (text : List ℕ) (s' : Reported) (text' : List ℕ) (s'' : Reported) → OutputsItem c e s text s' → OutputsItem c e s text' s'' → (text ≡ text') × (s' ≡ s'')
one_output Show e s text s' text' s'' h k = (h.0 ∙ sym k.0, h.1 ∙ sym k.1)
one_output Check e s text s' text' s'' h k = (h.0 ∙ sym k.0, h.1 ∙ sym k.1)
one_output (Convert Hex) e s text s' text' s'' ((b, x, h), hs) ((d, y, k), ks) =
    (h ∙ ap (λ (z : List ℕ). encode_upper z ++ 10 ∷ []) (one_encoding e b d x y) ∙ sym k, hs ∙ sym ks)
one_output (Convert Bin) e s text s' text' s'' h k = (one_encoding e text text' h.0 k.0, h.1 ∙ sym k.1)
one_output (Convert Json) e s text s' text' s'' h k = (h.0 ∙ sym k.0, h.1 ∙ sym k.1)
one_output Group (of_telegram t) s text s' text' s'' h k = one_group_item t s text s' text' s'' h k
one_output Group (of_message way m) s text s' text' s'' h k = absurd h

pub one_outputs : (c : Command) (s : Reported) (es : List EntryValue) (text : List ℕ) (s' : Reported) (text' : List ℕ) (s'' : Reported) → OutputsItems c s es text s' → OutputsItems c s es text' s'' → (text ≡ text') × (s' ≡ s'')
one_outputs c s [] text s' text' s'' h k = (h.0 ∙ sym k.0, h.1 ∙ sym k.1)
one_outputs c s (e ∷ es) text s' text' s'' (m, a, b, is, x, y) (m', a', b', is', x', y') =
    let one = one_output c e s a m a' m' x x' in
    let more = one_outputs c m es b s' b' s'' y (subst (λ (z : Reported). OutputsItems c z es b' s'') (sym one.1) y') in
    (is ∙ ap (λ (z : List ℕ). z ++ b) one.0 ∙ ap (λ (z : List ℕ). a' ++ z) more.0 ∙ sym is', more.1)

pub one_text : OneText
one_text c es text text' (s, h) (s', k) = (one_outputs c nothing_reported es text s text' s' h k).0
