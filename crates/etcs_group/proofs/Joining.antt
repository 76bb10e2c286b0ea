-- A telegram without a clash joins what is held.
use Rattle.std.proofs.Common.{◌≡◌, ◌≢◌, ℕ, ◌<◌, arith, List, Option, inl, inr}
use Rattle.std.proofs.lemmas.Bool.{cases_eq, cases_lt, cases_Bool, both_ways}
use Rattle.etcs_telegram.specs.Telegrams.{TelegramContent}
use Rattle.etcs_telegram.specs.contracts.telegram.TelegramPartialEq.TheImpl as telegram
use Rattle.etcs_telegram.proofs.Equality.{telegram_exact}
use Rattle.etcs_group.specs.declared.clash.Clash.{Clash}
use Rattle.etcs_group.specs.declared.clash.Clash.TheVariants.{BadPosition, BadDuplicate, OtherGroup, OtherTotal, Counter, Differs}
use Rattle.etcs_group.specs.Groups.{CountersAgree, Joins}
use Rattle.etcs_group.specs.Clashes.{Clashes}

not_apart : (a b : ℕ) → (a ≢ b → ⊥) → a ≡ b
not_apart a b h = elim (cases_eq a b) [ inl e ↦ e | inr n ↦ absurd (h n) ]

agree_unless : (m n : ℕ) → ((CountersAgree m n → ⊥) → ⊥) → CountersAgree m n
agree_unless m n h =
    elim (cases_eq m 254) [
      | inl e ↦ absurd (h (λ a. a.0 e))
      | inr m254 ↦
          elim (cases_eq n 254) [
            | inl e ↦ absurd (h (λ a. a.1 e))
            | inr n254 ↦
                elim (cases_eq m n) [
                  | inl e ↦ (m254, n254, inl e)
                  | inr apart ↦
                      elim (cases_eq m 255) [
                        | inl e ↦ (m254, n254, inr (inl e))
                        | inr m255 ↦
                            elim (cases_eq n 255) [
                              | inl e ↦ (m254, n254, inr (inr e))
                              | inr n255 ↦
                                  absurd (h (λ a. elim a.2 [ inl e ↦ apart e | inr (inl e) ↦ m255 e | inr (inr e) ↦ n255 e ]))
                            ]
                      ]
                ]
          ]
    ]

same_unless : (t u : TelegramContent) → (t ≢ u → ⊥) → t ≡ u
same_unless t u h = elim (cases_Bool (telegram.ghosts.eq t u)) [
  | inl equal ↦ (telegram_exact t u).0 equal
  | inr other ↦ absurd (h (λ e. both_ways _ other ((telegram_exact t u).1 e)))
]

pub joins_unless : (slots : List (Option TelegramContent)) (t : TelegramContent) → ((c : Clash) → Clashes slots t c → ⊥) → Joins slots t
joins_unless slots t none =
    let position : t.header.n_total < t.header.n_pig → ⊥ = λ h. none BadPosition (inl h) in (
      record {
        position = elim (cases_lt t.header.n_total t.header.n_pig) [ inl h ↦ absurd (position h) | inr h ↦ h ];
        first = λ e d. none BadDuplicate (inl (inl (e, d)));
        last = λ e d. none BadDuplicate (inl (inr (e, d)));
      },
      λ u held. record {
        alike = record {
          country = not_apart _ _ (λ n. none OtherGroup (inr (u, held, inl n)));
          group = not_apart _ _ (λ n. none OtherGroup (inr (u, held, inr n)));
          total = not_apart _ _ (λ n. none OtherTotal (inr (u, held, n)));
        };
        counters = agree_unless _ _ (λ n. none Counter (inr (u, held, n)));
        same = λ e. same_unless t u (λ n. none Differs (inr (u, held, (e, n))));
      },
    )

-- and one with a clash doesn't
pub joins_not : (slots : List (Option TelegramContent)) (t : TelegramContent) (c : Clash) → Clashes slots t c → Joins slots t → ⊥
joins_not slots t BadPosition (inl h) j = omega (arith, h, j.0.position)
joins_not slots t BadDuplicate (inl (inl h)) j = j.0.first h.0 h.1
joins_not slots t BadDuplicate (inl (inr h)) j = j.0.last h.0 h.1
joins_not slots t OtherGroup (inl h) j = h
joins_not slots t OtherTotal (inl h) j = h
joins_not slots t Counter (inl h) j = h
joins_not slots t Differs (inl h) j = h
joins_not slots t BadPosition (inr h) j = h.2
joins_not slots t BadDuplicate (inr h) j = h.2
joins_not slots t OtherGroup (inr h) j = elim h.2 [ inl n ↦ n (j.1 h.0 h.1).alike.country | inr n ↦ n (j.1 h.0 h.1).alike.group ]
joins_not slots t OtherTotal (inr h) j = h.2 (j.1 h.0 h.1).alike.total
joins_not slots t Counter (inr h) j = h.2 (j.1 h.0 h.1).counters
joins_not slots t Differs (inr h) j = h.2.1 ((j.1 h.0 h.1).same h.2.0)
