-- What is found, by an account of the first bits that an item may have.
use Rattle.std.proofs.Common.{◌≡◌, ℕ, ◌+◌, ◌*◌, ◌/◌, ◌≤◌, Bool, List, length, take, refl, sym, ap, subst, ◌∙◌, arith}
use Rattle.std.specs.Prelude.{Result, Ok, Err, IfOk}
use Rattle.std.proofs.lemmas.List.{length-take, length-take-le, take-take, take_all}
use Rattle.etcs_bits.specs.Bits.{num}
use Rattle.etcs_vars.specs.declared.var.Var.{Var}
use Rattle.etcs_vars.specs.Reading.{Reading, IsOutcome, NoneYet, done, refused, more, readings_of, spelled}
use Rattle.etcs_vars.proofs.Languages.{Same, same_along, same_back}
use Rattle.etcs_vars.proofs.Outcomes.{more_wanted}
use Rattle.etcs_rows.proofs.SameReadings.{owner_along, viable_along}
use Rattle.etcs_tables.specs.declared.row.Way.TheVariants.{ToTrain, ToTrack}
use Rattle.etcs_telegram.specs.declared.size.Size.TheVariants as size
use Rattle.etcs_text.specs.declared.account.Account.{Account}
use Rattle.etcs_text.specs.declared.account.End.{End}
use Rattle.etcs_text.specs.declared.account.End.TheVariants as end
use Rattle.etcs_text.specs.declared.account.Part.{Part}
use Rattle.etcs_text.specs.declared.entry.Kind.{Kind}
use Rattle.etcs_text.specs.declared.entry.Kind.TheVariants.{Long, Short, Radio, Train}
use Rattle.etcs_text.specs.Accounts.{Accounts, Shows}
use Rattle.etcs_text.specs.Entries.{EntryReads, EntryValue}
use Rattle.etcs_text.specs.Pairs.{IsUpTo, ItemLanguage, PairsRead, outcome_of}
use Rattle.etcs_text.proofs.Accounting.{shows_along}
use Rattle.etcs_text.proofs.Fronts.{before_end, outcome_front, outcome_refused}
use Rattle.etcs_text.proofs.ItemKinds.{Language, kind_regular, same_telegrams, same_messages}
use Rattle.etcs_text.proofs.ItemLengths.{item_length}

-- ---- By values.

module _ (kind : Kind) (b : List Bool) (p : Reading) where
  pub account_open : (part : Part) → Accounts (Language kind) p (end.Open part) (take 8184 b) → IsOutcome (EntryReads kind) b more
  account_open part (shows, owner, short) = outcome_front kind b more (more_wanted (Language kind) (kind_regular kind) (take 8184 b) owner)

  pub account_refused : (i : ℕ) (part : Part) → Accounts (Language kind) p (end.Refused i part) (take 8184 b) → IsOutcome (EntryReads kind) b (refused i part.var)
  account_refused i part (shows, r, short) = outcome_refused kind b i part.var r

-- ---- By readings alone.

-- the items of a kind have the readings of its language
pub same_items : (kind : Kind) → Same (ItemLanguage kind) (Language kind)
same_items Long = same_telegrams size.Long
same_items Short = same_telegrams size.Short
same_items Radio = same_messages ToTrain
same_items Train = same_messages ToTrack

same_pairs : (kind : Kind) → Same (Language kind) (readings_of (PairsRead kind))
same_pairs kind r = (λ l. (r, (refl, (same_items kind r).1 l)), λ (p, (is, l)). (same_items kind r).0 (subst (ItemLanguage kind) (sym is) l))

none_along : (P Q : Reading → Type 0) → Same P Q → (b : List Bool) → NoneYet P b → NoneYet Q b
none_along P Q same b none k le (r, l, e) = none k le (r, (same r).1 l, e)

module _ (kind : Kind) (b : List Bool) where
  abbrev Pairs : Reading → Type 0
  Pairs = readings_of (PairsRead kind)

  more_pairs : IsOutcome (EntryReads kind) b more → IsOutcome (PairsRead kind) b more
  more_pairs (none, viable) = (none_along (Language kind) Pairs (same_pairs kind) b none, viable_along (Language kind) Pairs (same_pairs kind) b viable)

  refused_pairs : (i : ℕ) (x : Var) → IsOutcome (EntryReads kind) b (refused i x) → IsOutcome (PairsRead kind) b (refused i x)
  refused_pairs i x ((none, lt, blocked), owner) = (
    (none_along (Language kind) Pairs (same_pairs kind) b none, lt, λ v. blocked (viable_along Pairs (Language kind) (same_back (Language kind) Pairs (same_pairs kind)) (take (i + 1) b) v)),
    owner_along (Language kind) Pairs (same_pairs kind) (take i b) x owner,
  )

  whole_pairs : (p : Reading) → Accounts (Language kind) p end.Whole (take 8184 b) → IsOutcome (PairsRead kind) b (done p (length (spelled p)))
  whole_pairs p (l, n, le, is) =
      let n_is : length (spelled p) ≡ n = ap length is ∙ length-take-le n (take 8184 b) le in
      let short : n ≤ 8184 = omega (arith, le, length-take 8184 b) in
      let spells : spelled p ≡ take (length (spelled p)) b = is ∙ take-take n 8184 b short ∙ ap (λ (k : ℕ). take k b) (sym n_is) in
      (omega (arith, n_is, le, length-take 8184 b), p, (refl, (same_items kind p).1 l), spells)

  pub outcome_said : (p : Reading) (e : End) → Accounts (Language kind) p e (take 8184 b) → IsOutcome (PairsRead kind) b (outcome_of p e)
  outcome_said p end.Whole a = whole_pairs p a
  outcome_said p (end.Open part) a = more_pairs (account_open kind b p part a)
  outcome_said p (end.Refused i part) a = refused_pairs i part.var (account_refused kind b p i part a)

  shown : (p : Reading) (x : Var) (part t u : List Bool) → t ≡ u → Shows (Language kind) p x part t → Shows (ItemLanguage kind) p x part u
  shown p x part t u e s = subst (λ (w : List Bool). Shows (ItemLanguage kind) p x part w) e (shows_along (Language kind) (ItemLanguage kind) (same_back (ItemLanguage kind) (Language kind) (same_items kind)) p x part t s)

  pub up_to_said : (p : Reading) (e : End) → Accounts (Language kind) p e (take 8184 b) → IsUpTo (ItemLanguage kind) p e b
  up_to_said p end.Whole a = tt
  up_to_said p (end.Open part) (shows, owner, short) =
      let less = before_end kind (take 8184 b) owner.open_end owner.viable in
      let all : take 8184 b ≡ b = take_all 8184 b (omega (arith, less, length-take 8184 b)) in
      (shown p part.var (num part.count part.bits) (take 8184 b) b all shows, short)
  up_to_said p (end.Refused i part) (shows, refuses, short) =
      let front : take i (take 8184 b) ≡ take i b = take-take i 8184 b (let w = refuses.within in omega (arith, w, length-take 8184 b)) in
      (shown p part.var (num part.count part.bits) (take i (take 8184 b)) (take i b) front shows, short)

pub outcome_read : {E : Type 0} (kind : Kind) (b : List Bool) (result : Result Account E) → IfOk result (λ a. Accounts (Language kind) a.fields.items a.end (take 8184 b)) → IfOk result (λ a. IsOutcome (PairsRead kind) b (outcome_of a.fields.items a.end))
outcome_read kind b (Ok a) h = outcome_said kind b a.fields.items a.end h
outcome_read kind b (Err x) h = tt

pub up_to_read : {E : Type 0} (kind : Kind) (b : List Bool) (result : Result Account E) → IfOk result (λ a. Accounts (Language kind) a.fields.items a.end (take 8184 b)) → IfOk result (λ a. IsUpTo (ItemLanguage kind) a.fields.items a.end b)
up_to_read kind b (Ok a) h = up_to_said kind b a.fields.items a.end h
up_to_read kind b (Err x) h = tt
