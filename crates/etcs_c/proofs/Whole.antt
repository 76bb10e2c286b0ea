-- When no item has given fields.
use Rattle.std.proofs.Common.{inl, inr, ◌≡◌, ℕ, ◌<◌, ◌≤◌, ◌*◌, ◌/◌, ◌%◌, ◌^◌, Bool, List, [], ◌++◌, length, take, drop, refl, sym, ap, subst, ◌∙◌, arith}
use Rattle.std.proofs.lemmas.List.{append-nil, take_all, take-append-drop}
use Rattle.etcs_vars.specs.Reading.{Reading, spelled, readings_of, NoneYet, IsOutcome, done, refused, more}
use Rattle.etcs_vars.proofs.Apart.{AllFit, apart}
use Rattle.etcs_text.specs.declared.entry.Kind.{Kind}
use Rattle.etcs_text.specs.Pairs.{ItemLanguage, PairsRead}
use Rattle.etcs_text.proofs.AccountOutcomes.{same_items}
use Rattle.etcs_text.proofs.ItemKinds.{kind_regular}
use Rattle.etcs_text.proofs.ItemLengths.{item_length}
use Rattle.etcs_c.specs.declared.fields.EtcsField.{EtcsField}
use Rattle.etcs_c.specs.declared.answer.EtcsAnswer.{EtcsAnswer}
use Rattle.etcs_c.specs.Writes.{Writes}
use Rattle.etcs_c.specs.Answers.{SaysNone}
use Rattle.etcs_c.specs.Built.{IsBuilt, NoneHas}
use Rattle.etcs_bits.specs.Bits.{bits}
use Rattle.std.specs.Prelude.{All}
use Rattle.etcs_c.specs.Fields.{fields_of}
use Rattle.etcs_c.specs.ItemFields.{AreFit, packed, whole_bytes}
use Rattle.etcs_c.proofs.Packing.{fit_reading, packed_reading}
use Rattle.etcs_c.proofs.Readings.{pairs_front}

-- ---- The spelling of an item.

all_bytes : (b : List Bool) → length b % 8 ≡ 0 → whole_bytes b ≡ b
all_bytes b h = take_all (8 * (length b / 8)) b (omega (arith, h))

long : (kind : Kind) (r : Reading) → ItemLanguage kind r → (length (spelled r) % 8 ≡ 0) × (length (spelled r) ≤ 8184)
long kind r l =
    let (e, reads) = (same_items kind r).0 l in
    let all = item_length kind e r reads in
    (all.0, all.1)

fits : (kind : Kind) (r : Reading) → ItemLanguage kind r → AllFit r
fits kind r l = (kind_regular kind).fit r ((same_items kind r).0 l)

-- how many bytes are in the answer
pub whole_taken : (kind : Kind) (b : List Bool) (p : Reading) (n taken : ℕ) → IsOutcome (PairsRead kind) b (done p (length (spelled p))) → (length (spelled p) < 2 ^ 62 → n ≡ length (spelled p) / 8) → taken ≡ n → length (spelled p) ≡ 8 * taken
whole_taken kind b p n taken o is same =
    let all = long kind p o.2.1 in
    omega (arith, all.0, is (omega (arith, all.1)), same)

-- ---- Its fields.

-- the whole bytes of its fields are its spelling
fields_spell : (kind : Kind) (r : Reading) (fs : List EtcsField) → ItemLanguage kind r → fs ≡ fields_of r → whole_bytes (packed fs) ≡ spelled r
fields_spell kind r fs l is = ap whole_bytes (ap packed is ∙ packed_reading r) ∙ all_bytes (spelled r) (long kind r l).0

pub unfit_none : (kind : Kind) (fs : List EtcsField) → (AreFit fs → ⊥) → NoneHas kind fs
unfit_none kind fs not r (l, is) = not (subst AreFit (sym is) (fit_reading r (fits kind r l)))

none_yet : (kind : Kind) (fs : List EtcsField) → NoneYet (readings_of (PairsRead kind)) (whole_bytes (packed fs)) → NoneHas kind fs
none_yet kind fs none r (l, is) =
    let same = fields_spell kind r fs l is in
    let all : take (length (whole_bytes (packed fs))) (whole_bytes (packed fs)) ≡ whole_bytes (packed fs) = take_all (length (whole_bytes (packed fs))) (whole_bytes (packed fs)) (omega arith) in
    none (length (whole_bytes (packed fs))) (omega arith) (r, (r, (refl, l)), sym same ∙ sym all)

-- the item that the bytes begin with has other fields
pub other_none : (kind : Kind) (fs : List EtcsField) (q : Reading) (n : ℕ) → IsOutcome (PairsRead kind) (whole_bytes (packed fs)) (done q n) → (fs ≡ fields_of q → ⊥) → NoneHas kind fs
other_none kind fs q n (le, p, (p_is, m), spells) not r (l, is) =
    let b = whole_bytes (packed fs) in
    let front : spelled q ≡ take n b = ap spelled (sym p_is) ∙ spells in
    let whole : spelled q ++ drop n b ≡ spelled r ++ [] = ap (λ (t : List Bool). t ++ drop n b) front ∙ take-append-drop n b ∙ fields_spell kind r fs l is ∙ sym (append-nil (spelled r)) in
    let agree = (kind_regular kind).agree q r ((same_items kind q).0 m) ((same_items kind r).0 l) in
    let one = apart q r (drop n b) [] agree (fits kind q m) (fits kind r l) whole in
    not (is ∙ ap fields_of (sym one.0))

-- ---- The status and the text, by what was found.

-- the bytes of the bits of its fields are its encoding
pub built_said : (kind : Kind) (fs : List EtcsField) (r : Reading) → ItemLanguage kind r → fs ≡ fields_of r → (bytes : List ℕ) → All (λ b. b < 256) bytes → bits bytes ≡ take 8184 (whole_bytes (packed fs)) → (old new : List ℕ) (s : ℕ) (a : EtcsAnswer) → Writes bytes old new s a → IsBuilt kind fs old new s a
built_said kind fs r l is bytes small bits_are old new s a writes =
    let spell = fields_spell kind r fs l is in
    let all : take 8184 (spelled r) ≡ spelled r = take_all 8184 (spelled r) (long kind r l).1 in
    inl (r, (l, is), inl (bytes, small, bits_are ∙ ap (λ (t : List Bool). take 8184 t) spell ∙ all, writes))

pub other_said : (kind : Kind) (fs : List EtcsField) (q : Reading) (n : ℕ) → IsOutcome (PairsRead kind) (whole_bytes (packed fs)) (done q n) → (fs ≡ fields_of q → ⊥) → (old new : List ℕ) (s : ℕ) (a : EtcsAnswer) → s ≡ 7 → new ≡ old → IsBuilt kind fs old new s a
other_said kind fs q n o not old new s a is same = inr (inl (other_none kind fs q n o not, inl (is, inr (q, n, o)), same))

pub unfit_said : (kind : Kind) (fs : List EtcsField) → (AreFit fs → ⊥) → (old : List ℕ) (a : EtcsAnswer) → IsBuilt kind fs old old 7 a
unfit_said kind fs not old a = inr (inl (unfit_none kind fs not, inl (refl, inl not), refl))

pub missed_said : (kind : Kind) (fs : List EtcsField) → AreFit fs → (old : List ℕ) (s : ℕ) (a : EtcsAnswer) → SaysNone (PairsRead kind) (take 8184 (whole_bytes (packed fs))) s a → IsBuilt kind fs old old s a
missed_said kind fs fit old s a (inl (done r n, o, (taken, none))) = absurd none
missed_said kind fs fit old s a (inl (refused i x, o, (bit, var, is))) =
    let all = pairs_front kind (whole_bytes (packed fs)) (refused i x) o in
    inr (inl (none_yet kind fs all.0.0, inr (fit, inr (i, x, is, bit, var, all)), refl))
missed_said kind fs fit old s a (inl (more, o, (is, t))) =
    let all = pairs_front kind (whole_bytes (packed fs)) more o in
    inr (inl (none_yet kind fs all.0, inr (fit, inl (is, all)), refl))
missed_said kind fs fit old s a (inr (is, t)) = inr (inr (is, refl))
