-- What bytes begin with, by a reader's first feed.
use Rattle.std.proofs.Common.{◌≡◌, ℕ, ◌+◌, ◌*◌, Bool, List, [], Ok, sym, subst, ◌∙◌, arith}
use Rattle.etcs_vars.specs.declared.feed.Fed.TheVariants.{Done}
use Rattle.etcs_vars.specs.Reading.{IsOutcome, done}
use Rattle.etcs_text.specs.declared.entry.Kind.{Kind}
use Rattle.etcs_text.specs.Entries.{EntryReads, EntryValue}
use Rattle.etcs_text.specs.Readers.{Feeds, Progress, finished}

-- the item that was fed, which is this one
pub first_whole : (kind : Kind) (b : List Bool) (k : ℕ) (at : Progress) (v : EntryValue) → Feeds kind [] b (Ok (Done k)) at → at ≡ finished v → IsOutcome (EntryReads kind) b (done v (8 * k))
first_whole kind b k at v (e, at_e, any, le, o) is =
    let same : finished v ≡ finished e = sym is ∙ at_e in
    let one : e ≡ v = cc in
    let none : 0 + 8 * k ≡ 8 * k = omega arith in
    subst (λ (n : ℕ). IsOutcome (EntryReads kind) b (done v n)) none (subst (λ (u : EntryValue). IsOutcome (EntryReads kind) b (done u (0 + 8 * k))) one o)
