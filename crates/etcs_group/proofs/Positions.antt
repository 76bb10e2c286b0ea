-- Which positions are held, and as what.
use Rattle.std.proofs.Common.{◌≡◌, ◌∙◌, refl, sym, ap, subst, ℕ, suc, ◌+◌, arith, Bool, true, false, not, nat_eq, List, [], ◌++◌, Option, Some, None, is_some, IfSome, IfNone, inl, inr}
use Rattle.std.specs.Bool.{Decides}
use Rattle.std.proofs.lemmas.Bool.{eqb-true, eq-eqb, not-true, both_ways, cases_Bool}
use Rattle.etcs_packets.specs.declared.packet.Packet.{Packet}
use Rattle.etcs_telegram.specs.Telegrams.{TelegramContent}
use Rattle.etcs_group.specs.Groups.{Holds}
use Rattle.etcs_group.specs.Messages.{IsHeldAt, IsHeldAs, IsLacking, IsSecond, Gives, FirstGive}

pub none_from : {X : Type 0} {P : Type 0} (o : Option X) → IfNone o P → is_some o ≡ false → P
none_from None h e = h
none_from (Some x) h e = absurd (both_ways true e refl)

pub some_from : {X : Type 0} {P : X → Type 0} (o : Option X) → IfSome o P → is_some o ≡ true → (x : X) × P x
some_from None h e = absurd (both_ways false refl e)
some_from (Some x) h e = (x, h)

-- the one telegram of the position decides on its M_DUP
pub held_as : (slots : List (Option TelegramContent)) (p d : ℕ) (t : TelegramContent) (m : ℕ) → m ≡ t.header.m_dup → Holds slots t → t.header.n_pig ≡ p → ((u : TelegramContent) → Holds slots u → u.header.n_pig ≡ p → u ≡ t) → Decides (nat_eq m d) (IsHeldAs slots p d)
held_as slots p d t m is holds at only =
    (λ e. (t, holds, at, sym is ∙ eqb-true m d e), λ h. eq-eqb m d (is ∙ ap (λ (u : TelegramContent). u.header.m_dup) (sym (only h.0 h.1 h.2)) ∙ h.3))

pub lacking : (slots : List (Option TelegramContent)) (p q : ℕ) (b : Bool) → q + 1 ≡ p → (IsHeldAt slots p → ⊥) → (IsHeldAs slots (p + 1) 2 → ⊥) → Decides b (IsHeldAs slots q 1) → Decides (not b) (IsLacking slots p)
lacking slots p q b before none next previous = (
  λ e. record {
    itself = none;
    by_previous = λ r er h. both_ways b (not-true b e) (previous.1 (let same : r ≡ q = omega arith in subst (λ (n : ℕ). IsHeldAs slots n 1) same h));
    by_next = next;
  },
  λ l. elim (cases_Bool b) [ inl e ↦ absurd (l.by_previous q before (previous.0 e)) | inr e ↦ ap not e ],
)

pub second_by_previous : (slots : List (Option TelegramContent)) (p q : ℕ) (b : Bool) → q + 1 ≡ p → IsHeldAt slots q → Decides b (IsHeldAs slots q 1) → b ≡ true → Decides b (IsSecond slots p)
second_by_previous slots p q b before at previous e = (λ _. (q, before, at, inl (previous.0 e)), λ _. e)

pub second_by_itself : (slots : List (Option TelegramContent)) (p q : ℕ) (a b : Bool) → q + 1 ≡ p → IsHeldAt slots q → Decides a (IsHeldAs slots q 1) → a ≡ false → Decides b (IsHeldAs slots p 2) → Decides b (IsSecond slots p)
second_by_itself slots p q a b before at previous not_named itself = (
  λ e. (q, before, at, inr (itself.0 e)),
  λ s. elim s.3 [
    | inl h ↦ absurd (both_ways a not_named (previous.1 (let same : s.0 ≡ q = omega (arith, s.1, before) in subst (λ (n : ℕ). IsHeldAs slots n 1) same h)))
    | inr h ↦ itself.1 h
  ],
)

pub FirstGive-none : (slots : List (Option TelegramContent)) → FirstGive slots 0 []
unfolding FirstGive
FirstGive-none slots = refl

pub FirstGive-more : (slots : List (Option TelegramContent)) (n m : ℕ) (ps more : List Packet) → m ≡ n + 1 → FirstGive slots n ps → Gives slots n more → FirstGive slots m (ps ++ more)
unfolding FirstGive
FirstGive-more slots n m ps more e before last =
    let next : suc n ≡ m = omega (arith, e) in
    let whole : FirstGive slots (suc n) (ps ++ more) = (ps, more, before, last, refl) in
    subst (λ (k : ℕ). FirstGive slots k (ps ++ more)) next whole
