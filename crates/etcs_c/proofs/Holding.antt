-- Telegrams of a group one after another.
use Rattle.std.proofs.Common.{◌≡◌, Bool, ◌+◌, ◌<◌, ℕ, List, [], ◌∷◌, take, length, reverse, get_or, sym, ap, subst, ◌∙◌, arith, inl, inr}
use Rattle.std.specs.Prelude.{Option, Some, slice_get}
use Rattle.std.proofs.lemmas.List.{reverse-append, take_more}
use Rattle.std.proofs.lemmas.Option.{slice_get-get_or}
use Rattle.etcs_telegram.specs.Telegrams.{TelegramContent}
use Rattle.etcs_bits.specs.Bits.{bits}
use Rattle.etcs_vars.specs.Reading.{done, refused, more}
use Rattle.etcs_text.specs.declared.entry.Kind.{Kind}
use Rattle.etcs_text.specs.Entries.{EntryReads}
use Rattle.etcs_group.specs.Groups.{HeldOf, HoldsNone, IsHeldOf, Joins, JoinsSet}
use Rattle.etcs_c.specs.declared.answer.EtcsAnswer.{EtcsAnswer}
use Rattle.etcs_c.specs.declared.groups.EtcsTelegram.{EtcsTelegram}
use Rattle.etcs_c.specs.Answers.{SaysNone}
use Rattle.etcs_c.specs.Groups.{AreHeld, IsOf, SaysFirst, SaysUnheld}

-- before the first telegram nothing is held
pub none_held : (rs : List EtcsTelegram) (slots : List (Option TelegramContent)) → HoldsNone slots → AreHeld (take 0 rs) slots
none_held rs slots none = ([], tt, tt, λ u. (λ h. none u h, λ h. absurd h))

-- a telegram that belongs to those before it is held beside them
pub one_more : (rs : List EtcsTelegram) (i : ℕ) (d : EtcsTelegram) (t : TelegramContent) (old new : List (Option TelegramContent)) → i < length rs → IsOf (get_or rs i d) t → Joins old t → ((earlier : List TelegramContent) → IsHeldOf earlier old → IsHeldOf (t ∷ earlier) new) → AreHeld (take i rs) old → AreHeld (take (i + 1) rs) new
one_more rs i d t old new lt is (good, fits) adds (ts, are, none, held) =
    let joins : JoinsSet (HeldOf ts) t = (good, λ u h. fits u ((held u).1 h)) in
    let last : reverse (take (i + 1) rs) ≡ get_or rs i d ∷ reverse (take i rs) = ap (λ (l : List EtcsTelegram). reverse l) (take_more rs i d lt) ∙ reverse-append (take i rs) (get_or rs i d ∷ []) in
    (t ∷ ts, rw last (is, are), (joins, none), adds ts held)

-- the status for bytes that begin with no telegram isn't 0
pub none_fails : (kind : Kind) (b : List Bool) (s : ℕ) (a : EtcsAnswer) → SaysNone (EntryReads kind) b s a → s ≡ 0 → ⊥
none_fails kind b s a (inl (done e n, o, (taken, none))) z = none
none_fails kind b s a (inl (refused i x, o, (bit, var, is))) z = omega (arith, z, is)
none_fails kind b s a (inl (more, o, (is, t))) z = omega (arith, z, is)
none_fails kind b s a (inr (is, t)) z = omega (arith, z, is)

-- it says nothing of how many are held
none_same : (kind : Kind) (b : List Bool) (s : ℕ) (a a' : EtcsAnswer) → SaysNone (EntryReads kind) b s a → a'.bit ≡ a.bit → a'.var ≡ a.var → SaysNone (EntryReads kind) b s a'
none_same kind b s a a' (inl (done e n, o, (taken, none))) bit var = absurd none
none_same kind b s a a' (inl (refused i x, o, (at, held, is))) bit var = inl (refused i x, o, (bit ∙ at, var ∙ held, is))
none_same kind b s a a' (inl (more, o, says)) bit var = inl (more, o, says)
none_same kind b s a a' (inr says) bit var = inr says

unheld_same : (r : EtcsTelegram) (slots : List (Option TelegramContent)) (s : ℕ) (a a' : EtcsAnswer) → SaysUnheld r slots s a → a'.bit ≡ a.bit → a'.var ≡ a.var → SaysUnheld r slots s a'
unheld_same r slots s a a' (inl h) bit var = inl h
unheld_same r slots s a a' (inr (inl (kind, number, telegrams, says))) bit var = inr (inl (kind, number, telegrams, none_same kind (bits r.bytes) s a a' says bit var))
unheld_same r slots s a a' (inr (inr h)) bit var = inr (inr h)

-- the first that isn't held, with its place
pub first_said : (rs : List EtcsTelegram) (i : ℕ) (d : EtcsTelegram) (slots : List (Option TelegramContent)) (s : ℕ) (a a' : EtcsAnswer) → i < length rs → AreHeld (take i rs) slots → SaysUnheld (get_or rs i d) slots s a → a'.taken ≡ i → a'.bit ≡ a.bit → a'.var ≡ a.var → SaysFirst rs s a'
first_said rs i d slots s a a' lt held unheld taken bit var =
    let r = get_or rs i d in
    let there : slice_get rs a'.taken ≡ Some r = subst (λ (n : ℕ). slice_get rs n ≡ Some r) (sym taken) (slice_get-get_or rs i d lt) in
    (r, slots, there, subst (λ (n : ℕ). AreHeld (take n rs) slots) (sym taken) held, unheld_same r slots s a a' unheld bit var)
