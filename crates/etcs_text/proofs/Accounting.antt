-- The clauses about the bits so far, variable by variable.
use Rattle.std.proofs.Common.{◌≡◌, ℕ, ◌+◌, ◌≤◌, ◌<◌, Bool, List, [], ◌∷◌, ◌++◌, length, take, sym, ap, subst, ◌∙◌, arith}
use Rattle.std.specs.Prelude.{Result, Ok, Err, IfOk}
use Rattle.std.proofs.lemmas.List.{append-nil, length-append, length-take-le, take_all}
use Rattle.etcs_bits.specs.Bits.{num}
use Rattle.etcs_bits.proofs.Numbers.{length-num}
use Rattle.etcs_vars.specs.declared.var.Var.{Var}
use Rattle.etcs_vars.specs.Vars.{width}
use Rattle.etcs_vars.specs.Walking.{Residual, Refuses}
use Rattle.etcs_vars.specs.Reading.{Reading, spelled, Owner}
use Rattle.etcs_vars.proofs.Languages.{Same}
use Rattle.etcs_vars.proofs.Walk.{Regular}
use Rattle.etcs_rows.proofs.SameReadings.{owner_along, refuses_along}
use Rattle.etcs_reader.specs.Rests.{Goes, BeginsWith}
use Rattle.etcs_reader.specs.Feeders.{FeederValue}
use Rattle.etcs_reader.specs.Readers.{Passed}
use Rattle.etcs_reader.proofs.Passing.{passed_owner}
use Rattle.etcs_text.specs.Accounts.{Shows, Accounts}
use Rattle.etcs_text.specs.Traces.{Taken}
use Rattle.etcs_text.specs.declared.account.Account.{Account}
use Rattle.etcs_text.specs.declared.account.Part.{Part}
use Rattle.etcs_text.specs.declared.account.End.{End}
use Rattle.etcs_text.specs.declared.account.End.TheVariants as end

-- ---- In two languages of the same readings.

pub shows_along : (P Q : Reading → Type 0) → Same P Q → (p : Reading) (x : Var) (part b : List Bool) → Shows P p x part b → Shows Q p x part b
shows_along P Q same p x part b s = record { number = s.number; rest = s.rest; begins = (same (p ++ (x, s.number) ∷ s.rest)).0 s.begins; bits = s.bits }

pub accounts_along : (P Q : Reading → Type 0) → Same P Q → (p : Reading) (e : End) (b : List Bool) → Accounts P p e b → Accounts Q p e b
accounts_along P Q same p end.Whole b a = ((same p).0 a.0, a.1, a.2, a.3)
accounts_along P Q same p (end.Open part) b a = (shows_along P Q same p part.var (num part.count part.bits) b a.0, owner_along P Q same b part.var a.1, a.2)
accounts_along P Q same p (end.Refused bit part) b a = (shows_along P Q same p part.var (num part.count part.bits) (take bit b) a.0, refuses_along P Q same b bit part.var a.1, a.2)

-- ---- Where a reader is: s is left, after whole variables from start on.

module _ {S : Type 0} (left : S → Reading → Type 0) (regular : (s : S) → Regular (left s)) (follows : S → Reading → S → Type 0) (residual : (s t : S) (p : Reading) → follows s p t → Residual (left s) p (left t)) (start : S) (xs : List Bool) (v : FeederValue S) where
  -- after the bits b
  abbrev pub At : List Bool → Type 0
  At b = Passed (λ p. follows start p v.rest) b v.part

  shown : (b : List Bool) (f : At b) (x : Var) → BeginsWith (left v.rest) x → (count bits : ℕ) → v.part ≡ num count bits → Goes (left v.rest) → Shows (left start) f.whole x (num count bits) b
  shown b f x begins count bits is (q, l) =
      let (n, rest, q_is) = begins q l in
      record {
        number = n;
        rest = rest;
        begins = subst (λ (r : Reading). left start (f.whole ++ r)) q_is ((residual start v.rest f.whole f.follows).from q l);
        bits = ap (λ (u : List Bool). spelled f.whole ++ u) (sym is) ∙ f.bits;
      }

  owned : (b : List Bool) → At b → (x : Var) → Owner (left v.rest) v.part x → Goes (left v.rest) × Owner (left start) b x
  owned b f x o =
      let (q, c, l, e) = o.viable in
      ((q, l), passed_owner (left start) (regular start) (left v.rest) (λ p. follows start p v.rest) (residual start v.rest) b v.part f (q, l) x o)

  counted : (n : ℕ) (f : At (take n xs)) → n ≤ length xs → v.count ≡ n → length (spelled f.whole) + length v.part ≡ v.count
  counted n f le count = sym (length-append (spelled f.whole) v.part) ∙ ap length f.bits ∙ length-take-le n xs le ∙ sym count

  pub taken_whole : (n : ℕ) → At (take n xs) → n ≤ length xs → v.count ≡ n → v.part ≡ [] → left v.rest [] → Taken S left follows start xs end.Whole v
  taken_whole n f le count gone l =
      let all : left start f.whole = subst (left start) (append-nil f.whole) ((residual start v.rest f.whole f.follows).from [] l) in
      let bits : spelled f.whole ≡ take n xs = sym (append-nil (spelled f.whole)) ∙ ap (λ (u : List Bool). spelled f.whole ++ u) (sym gone) ∙ f.bits in
      record { whole = f.whole; along = f.follows; goes = ([], l); long = counted n f le count; accounts = (all, n, le, bits) }

  pub taken_open : (n : ℕ) → At (take n xs) → n ≡ length xs → v.count ≡ n → (x : Var) → BeginsWith (left v.rest) x → Owner (left v.rest) v.part x → length v.part < width x → (count bits : ℕ) → v.part ≡ num count bits → Taken S left follows start xs (end.Open (record { var = x; bits = bits; count = count })) v
  taken_open n f all counts x begins o short count bits is =
      let e : take n xs ≡ xs = take_all n xs (omega (arith, all)) in
      let (goes, own) = owned (take n xs) f x o in
      let shows = subst (λ (u : List Bool). Shows (left start) f.whole x (num count bits) u) e (shown (take n xs) f x begins count bits is goes) in
      let owner = subst (λ (u : List Bool). Owner (left start) u x) e own in
      record {
        whole = f.whole;
        along = f.follows;
        goes = goes;
        long = counted n f (omega (arith, all)) counts;
        accounts = (shows, owner, omega (arith, short, ap length is, length-num count bits));
      }

  pub taken_refused : (n bit : ℕ) (x : Var) → BeginsWith (left v.rest) x → At (take n xs) → Goes (left v.rest) → (k : ℕ) → k ≡ n → Refuses (left start) xs k x → length v.part < width x → bit ≡ n → v.count ≡ n → (count bits : ℕ) → v.part ≡ num count bits → Taken S left follows start xs (end.Refused bit (record { var = x; bits = bits; count = count })) v
  taken_refused n bit x begins f goes k k_is refuses short place counts count bits is =
      let here = subst (λ (m : ℕ). Refuses (left start) xs m x) k_is refuses in
      let le : n ≤ length xs = (let w = refuses.within in omega (arith, w, k_is)) in
      record {
        whole = f.whole;
        along = f.follows;
        goes = goes;
        long = counted n f le counts;
        accounts = subst (λ (m : ℕ). Accounts (left start) f.whole (end.Refused m (record { var = x; bits = bits; count = count })) xs) (sym place) (shown (take n xs) f x begins count bits is goes, here, omega (arith, short, ap length is, length-num count bits));
      }

-- ---- The variables that what is left knows.

module _ {S : Type 0} (left : S → Reading → Type 0) (follows : S → Reading → S → Type 0) (holds : S → Reading → Type 0) (far : S → Reading) (held : (s t : S) (p q : Reading) → follows s p t → holds s q → holds t (q ++ p)) (far_is : (s : S) (q : Reading) → Goes (left s) → holds s q → q ≡ far s) (start : S) (none : holds start []) (xs : List Bool) (e : End) (v : FeederValue S) (t : Taken S left follows start xs e v) where
  holds_all : holds v.rest t.whole
  holds_all = held start v.rest t.whole [] t.along none

  is_far : t.whole ≡ far v.rest
  is_far = far_is v.rest t.whole t.goes holds_all

  pub far_held : holds v.rest (far v.rest)
  far_held = subst (holds v.rest) is_far holds_all

  pub far_long : length (spelled (far v.rest)) + length v.part ≡ v.count
  far_long = subst (λ (r : Reading). length (spelled r) + length v.part ≡ v.count) is_far t.long

  pub far_accounts : (L : Reading → Type 0) → Same (left start) L → Accounts L (far v.rest) e xs
  far_accounts L same = accounts_along (left start) L same (far v.rest) e xs (subst (λ (r : Reading). Accounts (left start) r e xs) is_far t.accounts)

-- ---- Of the items of a kind.

pub of_kind : {E : Type 0} (P Q : Reading → Type 0) → Same P Q → (xs b : List Bool) → xs ≡ b → (result : Result Account E) → IfOk result (λ a. Accounts P a.fields.items a.end xs) → IfOk result (λ a. Accounts Q a.fields.items a.end b)
of_kind P Q same xs b e (Ok a) h = subst (λ (u : List Bool). Accounts Q a.fields.items a.end u) e (accounts_along P Q same a.fields.items a.end xs h)
of_kind P Q same xs b e (Err x) h = tt
