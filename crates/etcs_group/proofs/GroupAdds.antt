-- A group after an add.
use Rattle.std.proofs.Common.{◌≡◌, ◌↔◌, ◌∙◌, ap, sym, subst, refl, ℕ, ◌+◌, ◌-◌, ◌^◌, min, List, Option, inl, inr}
use Rattle.std.specs.Prelude.{Result, Ok}
use Rattle.etcs_telegram.specs.Telegrams.{TelegramContent}
use Rattle.etcs_group.specs.declared.assembly.Added.{Added}
use Rattle.etcs_group.specs.declared.assembly.Added.TheVariants.{New, Repeat}
use Rattle.etcs_group.specs.declared.groups.Group.{Group}
use Rattle.etcs_group.specs.Groups.{IsGroup, Holds, Joins, HeldAfter}
use Rattle.etcs_group.specs.ManyGroups.{GroupAfter, GroupHolds, empty_group}

pub joins_of : {E : Type 0} (held : List (Option TelegramContent)) (t : TelegramContent) (r : Result Added E) (a : Added) → r ≡ Ok a → (r ≡ Ok New) ↔ (Joins held t × (Holds held t → ⊥)) → (r ≡ Ok Repeat) ↔ (Joins held t × Holds held t) → Joins held t
joins_of held t r New is new repeat = (new.0 is).0
joins_of held t r Repeat is new repeat = (repeat.0 is).0

module _ (g : Group) (t : TelegramContent) (held : List (Option TelegramContent)) (after : HeldAfter g.held t held) (placed : IsGroup held) where
  pub after_held : (new : Group) → new ≡ record { nid_c = g.nid_c; nid_bg = g.nid_bg; held = held; clashes = g.clashes } → Joins g.held t → GroupAfter g t new
  after_held new is joins = subst (λ (x : Group). GroupAfter g t x) (sym is) (record { same = (refl, refl); held = after; placed = placed; clashes = inl (joins, refl) })

  pub after_clash : (new : Group) (n : ℕ) → new ≡ record { nid_c = g.nid_c; nid_bg = g.nid_bg; held = held; clashes = n } → n ≡ min (g.clashes + 1) (2 ^ 64 - 1) → (Joins g.held t → ⊥) → GroupAfter g t new
  after_clash new n is more apart = subst (λ (x : Group). GroupAfter g t x) (sym is) (record { same = (refl, refl); held = after; placed = placed; clashes = inr (apart, more) })

-- the first telegram of a group
pub first_held : (g : Group) (t : TelegramContent) (nid_c nid_bg : ℕ) (held : List (Option TelegramContent)) → g ≡ empty_group nid_c nid_bg → nid_c ≡ t.header.nid_c → nid_bg ≡ t.header.nid_bg → HeldAfter g.held t held → IsGroup held → GroupHolds (empty_group t.header.nid_c t.header.nid_bg) t (record { nid_c = g.nid_c; nid_bg = g.nid_bg; held = held; clashes = g.clashes })
first_held g t nid_c nid_bg held is is_c is_bg after placed =
    let new : g ≡ empty_group t.header.nid_c t.header.nid_bg = is ∙ ap (λ (n : ℕ). empty_group n nid_bg) is_c ∙ ap (empty_group t.header.nid_c) is_bg in
    record {
      same = (ap (λ (x : Group). x.nid_c) new, ap (λ (x : Group). x.nid_bg) new);
      held = subst (λ (x : Group). HeldAfter x.held t held) new after;
      placed = placed;
      clashes = ap (λ (x : Group). x.clashes) new;
    }
